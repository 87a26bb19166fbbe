-- Residuals: what may still come behind events. Each is a choice of ways to go on, and takes the lists of events that one of them takes.
use Rattle.std.specs.Prelude.{◌≡◌, List, [], ◌∷◌, Bool, true, false}
use Rattle.std.specs.List.{list_any}
use Rattle.nx_base.specs.Trees.{Attribute, Children, nil, without_blanks, Event, TagEnd, Leave, children_flat, attributes_flat}
use Rattle.rng_core.specs.Patterns.{Pattern, Definition}
use Rattle.rng_core.specs.Matching.{Matches, Weakly}

-- what is left around an open element: of the children as they stand, of the children without blank strings, and further out. Ways to
-- go on that differ in what is left around alone are one way, with the choice of theirs around it
pub data Outer : Type 0 where
  -- outside of the root
  document : (rest : Pattern) → Outer
  -- inside of an element
  inside : (strict loose : Pattern) (void : Bool) (outer : Outer) → Outer
  -- what is left in one way, or in another
  one_of : (this other : Outer) → Outer

-- one way to go on: among children, or in a start tag
pub data Way : Type 0 where
  among : (here : Outer) → Way
  in_tag : (content : Pattern) (outer : Outer) → Way

-- the ways to go on
abbrev pub Residual : Type 0
Residual = List Way

-- whether a start tag is open
abbrev pub is_tag : Way → Bool
is_tag (among here) = false
is_tag (in_tag content outer) = true

abbrev pub is_in_tag : Residual → Bool
is_in_tag x = list_any is_tag x

-- attributes and children that a content matches weakly
pub record MatchesWeakly (g : List Definition) (p : Pattern) (a : List Attribute) (k : Children) : Type 0 where
  pub children : Children
  pub weakly : Weakly k children
  pub matched : Matches g p a children

-- children that are taken: as they stand, without the blank strings, or none
pub data TakesChildren (g : List Definition) (strict loose : Pattern) (void : Bool) (k : Children) : Type 0 where
  strictly : Matches g strict [] k → TakesChildren g strict loose void k
  loosely : Matches g loose [] (without_blanks k) → TakesChildren g strict loose void k
  voidly : void ≡ true → k ≡ nil → TakesChildren g strict loose void k

pub data TakesOuter (g : List Definition) : Outer → List Event → Type 0 where
  at_document : {p : Pattern} {s : List Event} (c : Children) → s ≡ children_flat c [] → Matches g p [] c → TakesOuter g (document p) s
  at_inside : {b l : Pattern} {v : Bool} {o : Outer} {s : List Event} (k : Children) (rest : List Event)
      → s ≡ children_flat k (Leave ∷ rest) → TakesChildren g b l v k → TakesOuter g o rest → TakesOuter g (inside b l v o) s
  at_this : {o u : Outer} {s : List Event} → TakesOuter g o s → TakesOuter g (one_of o u) s
  at_other : {o u : Outer} {s : List Event} → TakesOuter g u s → TakesOuter g (one_of o u) s

pub data TakesWay (g : List Definition) : Way → List Event → Type 0 where
  among_children : {o : Outer} {s : List Event} → TakesOuter g o s → TakesWay g (among o) s
  in_start_tag : {p : Pattern} {o : Outer} {s : List Event} (a : List Attribute) (k : Children) (rest : List Event)
      → s ≡ attributes_flat a (TagEnd ∷ children_flat k (Leave ∷ rest)) → MatchesWeakly g p a k
      → TakesOuter g o rest → TakesWay g (in_tag p o) s

pub data Takes (g : List Definition) : Residual → List Event → Type 0 where
  by_this : {w : Way} {ws : Residual} {s : List Event} → TakesWay g w s → Takes g (w ∷ ws) s
  by_later : {w : Way} {ws : Residual} {s : List Event} → Takes g ws s → Takes g (w ∷ ws) s
