use Rattle.std.proofs.Common.{subst}
use Rattle.std.specs.Str.{IsUtf8}
use Rattle.std.proofs.lemmas.Str.{IsUtf8-from_is_utf8}
use Rattle.rng_live.proofs.takes.has_one_token.Goals as goal

pub returns-in-Err : goal.returns-in-Err
returns-in-Err c =
    let text : IsUtf8 c.args.text.now = IsUtf8-from_is_utf8 c.args.text.now c.requires in
    absurd (c.in-Err.ensures.cases.0 (rw c.as_slice.ensures text))
