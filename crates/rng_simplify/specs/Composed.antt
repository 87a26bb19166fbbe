-- A schema in one piece: each file is in its place, each namespace is known, and what is short for something else is
-- written out (ISO/IEC 19757-2, sections 7.6 to 7.16). References still stand, and so do grammars in grammars.
use Rattle.std.specs.Prelude.{ℕ, Bool, true, false, List, [], ◌∷◌, ◌++◌, if◌then◌else◌}
use Rattle.std.specs.Str.{bytes_eq}
use Rattle.rnc_parse.specs.declared.surface.TypeName.{TypeName}
use Rattle.rnc_parse.specs.declared.surface.Param.{Param}
use Rattle.rnc_parse.specs.declared.surface.Defined.{Defined}
use Rattle.rnc_parse.specs.declared.surface.Defined.TheVariants as defined
use Rattle.rnc_parse.specs.declared.surface.Combine.{Combine}
use Rattle.rng_core.specs.Names.{Class}

mutual
  pub data Composed : Type 0 where
    -- each element has a number
    element : ℕ → Class → Composed → Composed
    attribute : Class → Composed → Composed
    listed : Composed → Composed
    ref : List ℕ → Composed
    parent_ref : List ℕ → Composed
    empty : Composed
    any_text : Composed
    not_allowed : Composed
    value : TypeName → List ℕ → Composed
    -- a type with its params, and what is taken away: nothing, where that is not allowed
    typed : TypeName → List Param → Composed → Composed
    grammar : Clauses → Composed
    one_or_more : Composed → Composed
    choice : Composed → Composed → Composed
    group : Composed → Composed → Composed
    interleave : Composed → Composed → Composed

  -- the definitions of a grammar, in order
  pub data Clauses : Type 0 where
    end_of_clauses : Clauses
    clause_then : Defined → Combine → Composed → Clauses → Clauses

-- ---- clauses

abbrev pub then_clauses : Clauses → Clauses → Clauses
then_clauses end_of_clauses rest = rest
then_clauses (clause_then name combine p more) rest = clause_then name combine p (then_clauses more rest)

abbrev pub same_defined : Defined → Defined → Bool
same_defined defined.Start defined.Start = true
same_defined defined.Start (defined.Name other) = false
same_defined (defined.Name name) defined.Start = false
same_defined (defined.Name name) (defined.Name other) = bytes_eq name other

-- whether the name is defined
abbrev pub defines : Defined → Clauses → Bool
defines name end_of_clauses = false
defines name (clause_then other combine p more) = if same_defined name other then true else defines name more

-- those that define the name
abbrev pub defining : Defined → Clauses → Clauses
defining name end_of_clauses = end_of_clauses
defining name (clause_then other combine p more) = if same_defined name other then clause_then other combine p (defining name more)
    else defining name more

-- those that define nothing that these others define
abbrev pub but_for : Clauses → Clauses → Clauses
but_for others end_of_clauses = end_of_clauses
but_for others (clause_then name combine p more)
    = if defines name others then but_for others more else clause_then name combine p (but_for others more)

-- how they are combined
abbrev pub combines : Clauses → List Combine
combines end_of_clauses = []
combines (clause_then name combine p more) = combine ∷ combines more

-- what they define
abbrev pub names_of : Clauses → List Defined
names_of end_of_clauses = []
names_of (clause_then name combine p more) = name ∷ names_of more

-- what stands in them
abbrev pub bodies : Clauses → List Composed
bodies end_of_clauses = []
bodies (clause_then name combine p more) = p ∷ bodies more

-- ---- the numbers of the elements, in the order of the piece

abbrev mutual
  pub numbers : Composed → List ℕ
  numbers (element number class p) = number ∷ numbers p
  numbers (attribute class p) = numbers p
  numbers (listed p) = numbers p
  numbers (ref name) = []
  numbers (parent_ref name) = []
  numbers empty = []
  numbers any_text = []
  numbers not_allowed = []
  numbers (value type text) = []
  numbers (typed type params except) = numbers except
  numbers (grammar clauses) = numbers_in clauses
  numbers (one_or_more p) = numbers p
  numbers (choice p q) = numbers p ++ numbers q
  numbers (group p q) = numbers p ++ numbers q
  numbers (interleave p q) = numbers p ++ numbers q

  pub numbers_in : Clauses → List ℕ
  numbers_in end_of_clauses = []
  numbers_in (clause_then name combine p more) = numbers p ++ numbers_in more
