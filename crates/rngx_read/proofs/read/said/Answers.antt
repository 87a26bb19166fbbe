use Rattle.rnc_parse.specs.Views.{surface_of}
use Rattle.rngx_read.specs.Views.{listed}
use Rattle.rngx_read.proofs.Answering.{surface_said, surface_refused, some_token}
use Rattle.rngx_read.proofs.read.said.Goals as goal

pub returns-in-Ok : goal.returns-in-Ok
returns-in-Ok c text nodes tokens is elements =
    surface_said nodes (listed c.args.elements.now) (surface_of c.in-Ok.surface) elements c.in-Ok.ensures

pub returns-in-Err : goal.returns-in-Err
returns-in-Err c text nodes tokens is elements =
    surface_refused text nodes (listed c.args.elements.now) c.args.tokens.now c.in-Err.stop c.refused.result elements
    c.in-Err.ensures tokens (c.refused.ensures (some_token text c.args.tokens.now tokens is.no_fault))
