use Rattle.std.proofs.Common.{sym, ◌∙◌}
use Rattle.rng_widen.proofs.Handing.{text_answered, none_found}
use Rattle.rng_widen.proofs.widen.text_widenings.Goals as goal

pub returns-in-Ok : goal.returns-in-Ok
returns-in-Ok c =
    text_answered c.args.bytes.now c.in-Ok.text.now c.in_text.result c.in-Ok.ensures.cases.0 c.in-Ok.ensures.cases.1 c.in_text.ensures

pub returns-in-Err : goal.returns-in-Err
returns-in-Err c = c.new.ensures.items ∙ sym (none_found c.args.bytes.now c.in-Err.ensures.cases.0)
