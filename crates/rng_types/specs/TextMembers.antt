-- Whether a text of some length, or the literal of a truth value, is left beside excepts.
use Rattle.std.specs.Prelude.{ℕ, ◌+◌, Bool, false, ◌||◌, not, ◌&&◌, max, if◌then◌else◌, List, [], ◌∷◌, codes}
use Rattle.std.specs.List.{list_all, list_any}
use Rattle.std.specs.Str.{bytes_eq}
use Rattle.std.specs.Ordering.{nat_cmp}
use Rattle.rng_types.specs.Spaces.{collapsed}
use Rattle.rng_types.specs.Facets.{holds}
use Rattle.rng_types.specs.Answers.{is_same_value}
use Rattle.rng_types.specs.declared.kind.Whitespace.{Whitespace}
use Rattle.rng_types.specs.declared.kind.Whitespace.TheVariants.{Preserve, Replace, Collapse}
use Rattle.rng_types.specs.declared.facet.Relation.{Relation}
use Rattle.rng_types.specs.declared.facet.Relation.TheVariants.{Exactly, AtLeast, AtMost, Above, Below}
use Rattle.rng_types.specs.declared.facet.Facet.{Facet}
use Rattle.rng_types.specs.declared.facet.Facet.TheVariants.{Length, Bound}
use Rattle.rng_types.specs.declared.datatype.Datatype.{Datatype}
use Rattle.rng_types.specs.declared.datatype.Except.{Except}
use Rattle.rng_types.specs.declared.datatype.Except.TheVariants.{Own, BuiltinString, BuiltinToken}
use Rattle.rng_types.specs.Answers.{is_left}

-- a length meets a facet
abbrev pub is_length_met : ℕ → Facet → Bool
is_length_met k (Length relation limit) = holds relation (nat_cmp k limit)
is_length_met k (Bound relation limit) = false

abbrev pub allows : List Facet → ℕ → Bool
allows facets k = list_all (is_length_met k) facets

-- the least length that a relation to this limit allows
abbrev pub least_from : Relation → ℕ → ℕ
least_from Exactly limit = limit
least_from AtLeast limit = limit
least_from AtMost limit = 0
least_from Above limit = limit + 1
least_from Below limit = 0

-- and the least from 1 on that no lower end rules out
abbrev pub least_length : List Facet → ℕ
least_length [] = 1
least_length (Length relation limit ∷ facets) = max (least_from relation limit) (least_length facets)
least_length (Bound relation limit ∷ facets) = least_length facets

-- some length from 1 on is allowed
abbrev pub has_length : List Facet → Bool
has_length facets = allows facets (least_length facets)

-- an except takes away each text that collapses to the same. One of built-in strings takes only one of them
abbrev pub takes_spaced : Datatype → List ℕ → Except → Bool
takes_spaced type text (Own literal) = is_same_value type text literal
takes_spaced type text (BuiltinString literal) = false
takes_spaced type text (BuiltinToken literal) = bytes_eq (collapsed text) (collapsed literal)

abbrev pub is_left_spaced : Datatype → List Except → List ℕ → Bool
is_left_spaced type excepts text = list_all (λ except. not (takes_spaced type text except)) excepts

-- the empty value is left. Where white space collapses it has texts without end, otherwise one
abbrev pub is_empty_left : Whitespace → Datatype → List Except → Bool
is_empty_left Preserve type excepts = is_left type excepts []
is_empty_left Replace type excepts = is_left type excepts []
is_empty_left Collapse type excepts = is_left_spaced type excepts []

-- texts of each length from 1 on are more than excepts can be
abbrev pub has_text : Whitespace → Datatype → List Except → Bool → Bool
has_text whitespace type excepts one_token =
    has_length type.facets || (not one_token && (allows type.facets 0 && is_empty_left whitespace type excepts))

-- octets of each number from 1 on have more values than excepts can be. No octets are one value, which is never one token
-- and has texts without end, since its white space collapses
abbrev pub has_octets : Datatype → List Except → Bool → Bool
has_octets type excepts one_token =
    has_length type.facets || (not one_token && (allows type.facets 0 && is_left_spaced type excepts []))

-- the literals of the truth values
abbrev pub truths : List (List ℕ)
truths = codes "true" ∷ codes "1" ∷ codes "false" ∷ codes "0" ∷ []

-- one of them is left, or a text that collapses to it
abbrev pub is_truth_left : Datatype → List Except → Bool → List ℕ → Bool
is_truth_left type excepts one_token text = if one_token then is_left type excepts text else is_left_spaced type excepts text

abbrev pub has_truth : Datatype → List Except → Bool → Bool
has_truth type excepts one_token = list_any (is_truth_left type excepts one_token) truths
