use Rattle.std.proofs.Common.{ap, subst, ◌≡◌, IfOk, map}
use Rattle.rng_core.specs.Meaning.{pattern_of, definition_of}
use Rattle.rng_core.specs.Patterns.{Pattern}
use Rattle.rng_kept.specs.Openings.{then_group}
use Rattle.rng_kept.specs.Skipping.{skip_opens}
use Rattle.deriv_pattern.specs.Opened.{openings_of}
use Rattle.deriv_pattern.proofs.openings.+skip_opens.Goals as goal

pub returns-in-Group : goal.returns-in-Group
returns-in-Group t c =
    let left = rw c.deref-in-Group.ensures at c.skip_opens-first-in-Group.ensures in
    let second = rw c.deref-in-Group-3.ensures at c.skip_opens-in-Group.ensures in
    let side : pattern_of c.deref-in-Group-2.result.now ≡ pattern_of c.in-Group.b.value = ap pattern_of c.deref-in-Group-2.ensures in
    let front = subst (λ (q : Pattern). IfOk c.placed_in-first.result (λ made. openings_of made.items
    ≡ map (then_group q) (skip_opens (map definition_of c.args.defs.now) c.args.name.now (pattern_of c.in-Group.a.value))))
    side (c.placed_in-first.ensures _ left) in
    rw c.in-Group.is (c.joined-in-Group.ensures _ _ front second)
