use Rattle.std.proofs.Common.{sym, ap, subst, ◌∙◌, ◌≡◌, Bool, IfOk, if◌then◌else◌, [], map}
use Rattle.rng_core.specs.Meaning.{pattern_of, definition_of}
use Rattle.rng_core.specs.Patterns.{Pattern}
use Rattle.rng_kept.specs.Openings.{opens, joined, then_group}
use Rattle.deriv_pattern.specs.Opened.{openings_of}
use Rattle.deriv_pattern.proofs.openings.+opens.Goals as goal

pub returns-then-nullable : goal.returns-then-nullable
returns-then-nullable t c =
    let left = rw c.deref-in-Group.ensures at c.opens-first-in-Group.ensures in
    let second = rw c.deref-then-nullable.ensures at c.opens-then-nullable.ensures in
    let empty = rw c.deref-in-Group-3.ensures at c.nullable.ensures in
    let side : pattern_of c.deref-in-Group-2.result.now ≡ pattern_of c.in-Group.b.value = ap pattern_of c.deref-in-Group-2.ensures in
    let front = subst (λ (q : Pattern). IfOk c.placed_in-first.result (λ made. openings_of made.items
    ≡ map (then_group q) (opens (map definition_of c.args.defs.now) c.args.name.now (pattern_of c.in-Group.a.value))))
    side (c.placed_in-first.ensures _ left) in
    rw c.in-Group.is
    (subst (λ (e : Bool). IfOk c.joined-then-nullable.result (λ opened. openings_of opened.items
    ≡ joined (map (then_group (pattern_of c.in-Group.b.value))
    (opens (map definition_of c.args.defs.now) c.args.name.now (pattern_of c.in-Group.a.value)))
    (if e then opens (map definition_of c.args.defs.now) c.args.name.now (pattern_of c.in-Group.b.value) else [])))
    (sym (sym empty ∙ c.if-nullable.true)) (c.joined-then-nullable.ensures _ _ front second))
