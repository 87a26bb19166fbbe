use Rattle.std.proofs.Common.{List, ℕ, Option, subst}
use Rattle.rng_core.specs.Meaning.{pattern_of}
use Rattle.rng_fill.specs.Strings.{IsBestString}
use Rattle.rng_finish.proofs.Adding.{not_empty, string_added, string_left_out}
use Rattle.rng_finish.proofs.children.write_string.Goals as goal

pub returns : goal.returns
returns c g =
    string_added g
    (subst (λ (o : Option (List ℕ)). IsBestString c.args.solid (pattern_of c.args.leaf.now) o) c.in-Some.is c.in_ok-text.ensures)
    (not_empty c.is_empty.result c.in-Some.text c.is_empty.ensures c.if-is_empty.false) c.in_ok-push.ensures.ok

pub returns-then-is_empty : goal.returns-then-is_empty
returns-then-is_empty c g =
    string_left_out g c.is_empty.result c.args.moves.now
    (subst (λ (o : Option (List ℕ)). IsBestString c.args.solid (pattern_of c.args.leaf.now) o) c.in-Some.is c.in_ok-text.ensures)
    c.is_empty.ensures c.if-is_empty.true
