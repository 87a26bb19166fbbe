-- Children whose strings are text, and not blank.
use Rattle.std.proofs.Common.{◌≡◌, ℕ, List, [], ◌∷◌, false}
use Rattle.std.specs.List.{AllByRecursion}
use Rattle.std.specs.Prelude.{IsTrue}
use Rattle.nx_base.specs.declared.name.Name.{Name}
use Rattle.std.specs.Str.{is_utf8}
use Rattle.nx_base.specs.Characters.{is_blank}
use Rattle.nx_base.specs.Trees.{Attribute, Children, nil, string, element, without_blanks, Event, TagEnd, Leave, children_flat, attributes_flat}
use Rattle.rng_core.specs.Matching.{InOrder, then_second, string_of_first, element_of_first, Shuffle, no_child, string_to_first, string_to_second, element_to_first, element_to_second}
use Rattle.rng_kept.specs.Events.{IsText, AreText}
use Rattle.rng_residual.proofs.SmallPatterns.{by_test}

-- the strings among the children themselves
pub data AreTexts : Children → Type 0 where
  text_nil : AreTexts nil
  text_string : {t : List ℕ} {r : Children} → IsTrue (is_utf8 t) → AreTexts r → AreTexts (string t r)
  text_element : {n : Name} {a : List Attribute} {k r : Children} → AreTexts r → AreTexts (element n a k r)

pub data AreSolid : Children → Type 0 where
  solid_nil : AreSolid nil
  solid_string : {t : List ℕ} {r : Children} → IsTrue (is_utf8 t) → is_blank t ≡ false → AreSolid r → AreSolid (string t r)
  solid_element : {n : Name} {a : List Attribute} {k r : Children} → AreSolid r → AreSolid (element n a k r)

pub solid_first : {t : List ℕ} {r : Children} → AreSolid (string t r) → IsTrue (is_utf8 t) × (is_blank t ≡ false)
solid_first (solid_string c b s) = (c, b)

-- their parts
pub solid_front : {c x r : Children} → InOrder c x r → AreSolid c → AreSolid x
solid_front then_second f = solid_nil
solid_front (string_of_first o) (solid_string c b f) = solid_string c b (solid_front o f)
solid_front (element_of_first o) (solid_element f) = solid_element (solid_front o f)

pub solid_back : {c x r : Children} → InOrder c x r → AreSolid c → AreSolid r
solid_back then_second f = f
solid_back (string_of_first o) (solid_string c b f) = solid_back o f
solid_back (element_of_first o) (solid_element f) = solid_back o f

pub solid_left : {c x r : Children} → Shuffle c x r → AreSolid c → AreSolid x
solid_left no_child f = solid_nil
solid_left (string_to_first s) (solid_string c b f) = solid_string c b (solid_left s f)
solid_left (string_to_second s) (solid_string c b f) = solid_left s f
solid_left (element_to_first s) (solid_element f) = solid_element (solid_left s f)
solid_left (element_to_second s) (solid_element f) = solid_left s f

pub solid_right : {c x r : Children} → Shuffle c x r → AreSolid c → AreSolid r
solid_right no_child f = solid_nil
solid_right (string_to_first s) (solid_string c b f) = solid_right s f
solid_right (string_to_second s) (solid_string c b f) = solid_string c b (solid_right s f)
solid_right (element_to_first s) (solid_element f) = solid_right s f
solid_right (element_to_second s) (solid_element f) = solid_element (solid_right s f)

pub solid_without_blanks : {k : Children} → AreTexts k → AreSolid (without_blanks k)
solid_without_blanks text_nil = solid_nil
solid_without_blanks (text_string {t = t} {r = r} c f) =
    by_test (λ x. AreSolid x) (is_blank t) (without_blanks r) (string t (without_blanks r)) (λ _. solid_without_blanks f) (λ b. solid_string c b (solid_without_blanks f))
solid_without_blanks (text_element f) = solid_element (solid_without_blanks f)

-- behind attributes and children all is so
pub behind_attributes : (P : Event → Type 0) (a : List Attribute) (z : List Event) → AllByRecursion P (attributes_flat a z) → AllByRecursion P z
behind_attributes P [] z h = h
behind_attributes P (x ∷ a) z h = behind_attributes P a z h.1

pub behind_children : (P : Event → Type 0) (k : Children) (z : List Event) → AllByRecursion P (children_flat k z) → AllByRecursion P z
behind_children P nil z h = h
behind_children P (string t r) z h = behind_children P r z h.1
behind_children P (element n a k r) z h =
    behind_children P r z (behind_children P k (Leave ∷ children_flat r z) (behind_attributes P a (TagEnd ∷ children_flat k (Leave ∷ children_flat r z)) h.1).1).1

-- strings of events that are text
pub texts_of : (k : Children) (z : List Event) → AreText (children_flat k z) → AreTexts k
texts_of nil z h = text_nil
texts_of (string t r) z h = text_string h.0 (texts_of r z h.1)
texts_of (element n a k r) z h =
    text_element (texts_of r z (behind_children IsText k (Leave ∷ children_flat r z) (behind_attributes IsText a (TagEnd ∷ children_flat k (Leave ∷ children_flat r z)) h.1).1).1)
