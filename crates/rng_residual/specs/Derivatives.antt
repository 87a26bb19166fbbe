-- What is left of a pattern behind a string, and behind an attribute, matches exactly the rest.
use Rattle.std.specs.Prelude.{◌≡◌, ℕ, List, [], ◌∷◌, true}
use Rattle.nx_base.specs.Trees.{Attribute, Children, string}
use Rattle.rng_core.specs.Patterns.{Pattern, Definition}
use Rattle.rng_core.specs.Matching.{Matches}
use Rattle.rng_kept.specs.Lists.{has_flat_lists}
use Rattle.rng_kept.specs.Strings.{after}
use Rattle.rng_kept.specs.Attributes.{after_attribute}

abbrev pub DerivesStrings : Type 0
DerivesStrings = (g : List Definition) (p : Pattern) (t : List ℕ) (c : Children) →
    (has_flat_lists p ≡ true → Matches g p [] (string t c) → Matches g (after t p) [] c)
    × (Matches g (after t p) [] c → Matches g p [] (string t c))

abbrev pub DerivesAttributes : Type 0
DerivesAttributes = (g : List Definition) (p : Pattern) (x : Attribute) (a : List Attribute) (c : Children) →
    (has_flat_lists p ≡ true → Matches g p (x ∷ a) c → Matches g (after_attribute x.name x.value p) a c)
    × (Matches g (after_attribute x.name x.value p) a c → Matches g p (x ∷ a) c)
