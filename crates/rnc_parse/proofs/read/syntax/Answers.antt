use Rattle.rnc_parse.specs.Views.{surface_of}
use Rattle.rnc_parse.proofs.Answered.{body_found, body_left}
use Rattle.rnc_parse.proofs.read.syntax.Goals as goal

pub returns-in-Ok : goal.returns-in-Ok
returns-in-Ok c = body_found c.new-look_ups.result c.args.cursor c.body.new.cursor (surface_of c.in-Ok.field-0) c.new-look_ups.ensures.any c.new-look_ups.ensures.unprefixed c.in-Ok.ensures

pub returns : goal.returns
returns c = body_left c.new-look_ups.result c.args.cursor c.body.new.cursor c.in-Err.stop c.len.result c.left_at.result c.new-look_ups.ensures.any c.new-look_ups.ensures.unprefixed c.in-Err.ensures c.left_at.ensures
