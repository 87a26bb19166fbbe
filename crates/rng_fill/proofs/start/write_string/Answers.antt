use Rattle.std.proofs.Common.{List, ℕ, Option, false, subst}
use Rattle.rng_core.specs.Meaning.{pattern_of}
use Rattle.rng_fill.specs.Strings.{IsBestString}
use Rattle.rng_fill.specs.Doing.{adds_text}
use Rattle.rng_fill.proofs.Adding.{not_empty}
use Rattle.rng_fill.proofs.start.write_string.Goals as goal

pub returns : goal.returns
returns c =
    adds_text (subst (λ (o : Option (List ℕ)). IsBestString false (pattern_of c.args.leaf.now) o) c.in-Some.is c.in_ok-text.ensures).0
    (not_empty c.is_empty.result c.in-Some.text c.is_empty.ensures c.if-is_empty.false) c.in_ok-push.ensures.ok
