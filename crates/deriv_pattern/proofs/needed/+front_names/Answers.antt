use Rattle.std.proofs.Common.{◌≡◌, ◌++◌, List, Option, IfOk, map, option_map, ap, subst}
use Rattle.nx_base.specs.declared.name.Name.{Name}
use Rattle.rng_core.specs.Meaning.{definition_of, pattern_of}
use Rattle.rng_core.specs.Patterns.{Definition, Pattern}
use Rattle.rng_kept.specs.Needed as s
use Rattle.deriv_pattern.proofs.needed.+front_names.Goals as goal

pub returns-in-Group : goal.returns-in-Group
returns-in-Group t c =
    let g : List Definition = map definition_of c.args.defs.now in
    let front : Pattern → Option (List Name) = λ q. s.front_names g c.args.name.now q in
    let first = rw c.deref-in-Group-2.ensures at c.front_names-in-Group.ensures in
    let second = rw c.deref-in-Group-3.ensures at c.front_names-in-Group-2.ensures in
    let side : pattern_of c.deref-in-Group.result.now ≡ pattern_of c.in-Group.a.value = ap pattern_of c.deref-in-Group.ensures in
    let both = subst (λ (q : Pattern). IfOk c.one_behind.result (λ names. names
    ≡ s.either_way (front (pattern_of c.in-Group.a.value)) (option_map (λ more. s.child_names g q ++ more) (front (pattern_of c.in-Group.b.value)))))
    side (c.one_behind.ensures _ _ first second) in
    rw c.in-Group.is both
