-- An element's name opens exactly what begins with an element of that name.
use Rattle.std.specs.Prelude.{List, [], ◌∷◌}
use Rattle.nx_base.specs.declared.name.Name.{Name}
use Rattle.nx_base.specs.Trees.{Attribute, Children, nil, element}
use Rattle.rng_core.specs.Patterns.{Pattern, Definition, ref}
use Rattle.rng_core.specs.Matching.{Matches}
use Rattle.rng_kept.specs.Openings.{Opening, opens}

-- an element and what stands behind it, by one of the openings
pub data Opened (g : List Definition) (n : Name) (a : List Attribute) (k : Children) : List Opening → Children → Type 0 where
  opened_first : {o : Opening} {os : List Opening} {r : Children} → Matches g (ref o.number) [] (element n a k nil) → Matches g o.rest [] r
      → Opened g n a k (o ∷ os) r
  opened_later : {o : Opening} {os : List Opening} {r : Children} → Opened g n a k os r → Opened g n a k (o ∷ os) r

abbrev pub OpensExactly : Type 0
OpensExactly = (g : List Definition) (n : Name) (a : List Attribute) (k r : Children) (p : Pattern) →
    (Matches g p [] (element n a k r) → Opened g n a k (opens g n p) r)
    × (Opened g n a k (opens g n p) r → Matches g p [] (element n a k r))
