-- Residuals no part of which is dead: each way can be gone to the end, with the attributes that the open tag has so far.
use Rattle.std.specs.Prelude.{◌≡◌, ℕ, List, [], ◌∷◌, Bool, true, false, not, ◌&&◌, Some, slice_get}
use Rattle.nx_base.specs.declared.name.Name.{Name}
use Rattle.nx_base.specs.Trees.{Attribute, Children, HasAttribute, AreAttributes}
use Rattle.rng_core.specs.Patterns.{Pattern, Definition}
use Rattle.rng_core.specs.Matching.{Matches, Split}
use Rattle.rng_kept.specs.Events.{IsAmong}
use Rattle.rng_kept.specs.SmallPatterns.{is_not_allowed}
use Rattle.rng_kept.specs.Clean.{Clean, Fine}
use Rattle.rng_kept.specs.Residuals.{Outer, document, inside, one_of, Way, among, in_tag, Residual}

-- p is what a content leaves behind attributes with exactly the names l (`given`). Seen at one match of p, of the attributes a and the
-- children c: the content matches c with those and a together; and whatever it matches with those and others, p matches with the
-- others alone
pub record Given (g : List Definition) (l : List Name) (content p : Pattern) (a : List Attribute) (c : Children) : Type 0 where
  pub given : List Attribute
  pub proper : AreAttributes given
  pub names : (n : Name) → IsAmong n l → HasAttribute n given
  pub names_only : (n : Name) → HasAttribute n given → IsAmong n l
  pub all : List Attribute
  pub split : Split all given a
  pub matched : Matches g content all c
  pub from : (all rest : List Attribute) (k : Children) → Split all given rest → Matches g content all k → Matches g p rest k

-- p is what is left in the open tag of an element of some definition, whose attributes so far have exactly the names l: at each match
-- of p it is left so of that definition's content
pub record Within (g : List Definition) (l : List Name) (p : Pattern) : Type 0 where
  pub number : ℕ
  pub definition : Definition
  pub is : slice_get g number ≡ Some definition
  pub behind : (a : List Attribute) (c : Children) → Matches g p a c → Given g l definition.content p a c

-- What is left around. Outside of the root a clean pattern. Inside of an element each view of its children (b as they stand, l without
-- blank strings) is clean or notAllowed, one of the two is clean or there may be no children at all (v), and it is so further out. Of a choice
-- it is so of both
pub data IsLivelyOutside (g : List Definition) : Outer → Type 0 where
  lively_document : {p : Pattern} → Clean g false true p → IsLivelyOutside g (document p)
  lively_inside : {b l : Pattern} {v : Bool} {o : Outer} → Fine g false true b → Fine g false false l
      → (is_not_allowed b && (is_not_allowed l && not v)) ≡ false → IsLivelyOutside g o
      → IsLivelyOutside g (inside b l v o)
  lively_one_of : {o u : Outer} → IsLivelyOutside g o → IsLivelyOutside g u → IsLivelyOutside g (one_of o u)

-- One way. Among children what is left around is lively. In an open tag, whose attributes so far have the names l, what is left of the
-- content is clean, and is left of some definition's content by just these attributes
pub data IsLively (g : List Definition) (l : List Name) : Way → Type 0 where
  lively_among : {o : Outer} → IsLivelyOutside g o → IsLively g l (among o)
  lively_in_tag : {p : Pattern} {o : Outer} → Clean g true true p → Within g l p → IsLivelyOutside g o → IsLively g l (in_tag p o)

-- each way is lively
pub data AreLively (g : List Definition) (l : List Name) : Residual → Type 0 where
  none_lively : AreLively g l []
  one_lively : {w : Way} {ws : Residual} → IsLively g l w → AreLively g l ws → AreLively g l (w ∷ ws)

-- there is a way, and each is lively
pub data Lively (g : List Definition) (l : List Name) : Residual → Type 0 where
  lively : {w : Way} {ws : Residual} → AreLively g l (w ∷ ws) → Lively g l (w ∷ ws)
