-- Whether something of a kind stands in a schema in one piece: its places are so many, and each is looked at.
use Rattle.std.proofs.Common.{sym, subst, inl, inr, ◌⊎◌, List, [], ◌∷◌, ◌++◌, Contains}
use Rattle.std.proofs.lemmas.List.Elements.{Contains-append_cases}
use Rattle.rng_simplify.specs.Broken.{Has}
use Rattle.rng_simplify.specs.Composed.{Composed, Clauses, end_of_clauses, clause_then, bodies}
use Rattle.rng_simplify.specs.Composed as composed
use Rattle.rng_simplify.specs.Places.{Place, place, Occurs, the_whole, further_in, a_part, a_content, a_definition}
use Rattle.rng_simplify.proofs.Nodes.{in_none, in_cases, in_first, in_more, in_one}
use Rattle.rng_simplify.proofs.Returning.{places, places_in, occurs_among}

-- ---- lists

-- it holds, or it doesn't
abbrev pub Decided : Type 0 → Type 0
Decided A = A ⊎ (A → ⊥)

-- something in the list is of the kind, or nothing is
pub some_or_none : {A : Type 0} (kind : A → Type 0) (xs : List A) → ((x : A) → Contains xs x → Decided (kind x)) →
    ((x : A) × Contains xs x × kind x) ⊎ ((x : A) → Contains xs x → kind x → ⊥)
some_or_none kind [] each = inr (λ x among h. in_none among)
some_or_none {A} kind (first ∷ more) each = elim (each first (in_first first more)) [
  | inl here ↦ inl (first, in_first first more, here)
  | inr never ↦ elim (some_or_none kind more (λ x among. each x (in_more first more x among))) [
    | inl h ↦ inl (h.0, in_more first more h.0 h.1, h.2)
    | inr none ↦ inr (λ x among h. elim (in_cases first more x among) [
      | inl is ↦ never (subst kind (sym is) h)
      | inr further ↦ none x further h
    ])
  ]
]

-- all in the list are fine, or one shows something else
pub all_or : {A : Type 0} (Other : Type 0) (fine : A → Type 0) (xs : List A) → ((x : A) → Contains xs x → fine x ⊎ Other) →
    ((x : A) → Contains xs x → fine x) ⊎ Other
all_or Other fine [] each = inl (λ x among. absurd (in_none among))
all_or Other fine (first ∷ more) each = elim (each first (in_first first more)) [
  | inr other ↦ inr other
  | inl here ↦ elim (all_or Other fine more (λ x among. each x (in_more first more x among))) [
    | inr other ↦ inr other
    | inl rest ↦ inl (λ x among. elim (in_cases first more x among) [
      | inl is ↦ subst fine is here
      | inr further ↦ rest x further
    ])
  ]
]

-- ---- places

module _ (whole : Composed) where
  own_or : (first : Place) (rest : List Place) (at : Place) → Occurs whole first → (Contains rest at → Occurs whole at) →
      Contains (first ∷ rest) at → Occurs whole at
  own_or first rest at occurs below among = elim (in_cases first rest at among) [
    | inl is ↦ let P : Place → Type 0 = λ k. Occurs whole k in subst P is occurs
    | inr further ↦ below further
  ]

  alone : (first at : Place) → Occurs whole first → Contains (first ∷ []) at → Occurs whole at
  alone first at occurs among = let P : Place → Type 0 = λ k. Occurs whole k in subst P (in_one first at among) occurs

  either_of : (xs ys : List Place) (at : Place) → (Contains xs at → Occurs whole at) → (Contains ys at → Occurs whole at) →
      Contains (xs ++ ys) at → Occurs whole at
  either_of xs ys at one other among =
      elim (Contains-append_cases xs ys at among) [ inl first ↦ one first | inr second ↦ other second ]

  mutual
    -- what is listed stands in the schema
    below_occurs : (scopes : List Clauses) (p : Composed) (at : Place) → Occurs whole (place scopes p) → Contains (places scopes p) at →
        Occurs whole at
    below_occurs scopes (composed.element number class p) at occurs among =
        own_or (place scopes (composed.element number class p)) (places scopes p) at occurs
        (λ further. below_occurs scopes p at (further_in occurs a_content) further) among
    below_occurs scopes (composed.attribute class p) at occurs among =
        own_or (place scopes (composed.attribute class p)) (places scopes p) at occurs
        (λ further. below_occurs scopes p at (further_in occurs (a_part (in_first p []))) further) among
    below_occurs scopes (composed.listed p) at occurs among =
        own_or (place scopes (composed.listed p)) (places scopes p) at occurs
        (λ further. below_occurs scopes p at (further_in occurs (a_part (in_first p []))) further) among
    below_occurs scopes (composed.typed type params p) at occurs among =
        own_or (place scopes (composed.typed type params p)) (places scopes p) at occurs
        (λ further. below_occurs scopes p at (further_in occurs (a_part (in_first p []))) further) among
    below_occurs scopes (composed.one_or_more p) at occurs among =
        own_or (place scopes (composed.one_or_more p)) (places scopes p) at occurs
        (λ further. below_occurs scopes p at (further_in occurs (a_part (in_first p []))) further) among
    below_occurs scopes (composed.choice p q) at occurs among =
        own_or (place scopes (composed.choice p q)) (places scopes p ++ places scopes q) at occurs
        (λ further. either_of (places scopes p) (places scopes q) at
        (λ first. below_occurs scopes p at (further_in occurs (a_part (in_first p (q ∷ [])))) first)
        (λ second. below_occurs scopes q at (further_in occurs (a_part (in_more p (q ∷ []) q (in_first q [])))) second) further) among
    below_occurs scopes (composed.group p q) at occurs among =
        own_or (place scopes (composed.group p q)) (places scopes p ++ places scopes q) at occurs
        (λ further. either_of (places scopes p) (places scopes q) at
        (λ first. below_occurs scopes p at (further_in occurs (a_part (in_first p (q ∷ [])))) first)
        (λ second. below_occurs scopes q at (further_in occurs (a_part (in_more p (q ∷ []) q (in_first q [])))) second) further) among
    below_occurs scopes (composed.interleave p q) at occurs among =
        own_or (place scopes (composed.interleave p q)) (places scopes p ++ places scopes q) at occurs
        (λ further. either_of (places scopes p) (places scopes q) at
        (λ first. below_occurs scopes p at (further_in occurs (a_part (in_first p (q ∷ [])))) first)
        (λ second. below_occurs scopes q at (further_in occurs (a_part (in_more p (q ∷ []) q (in_first q [])))) second) further) among
    below_occurs scopes (composed.grammar clauses) at occurs among =
        own_or (place scopes (composed.grammar clauses)) (places_in (clauses ∷ scopes) clauses) at occurs
        (λ further. below_occurs_in scopes clauses clauses at occurs (λ q within. within) further) among
    below_occurs scopes (composed.ref name) at occurs among = alone (place scopes (composed.ref name)) at occurs among
    below_occurs scopes (composed.parent_ref name) at occurs among = alone (place scopes (composed.parent_ref name)) at occurs among
    below_occurs scopes composed.empty at occurs among = alone (place scopes composed.empty) at occurs among
    below_occurs scopes composed.any_text at occurs among = alone (place scopes composed.any_text) at occurs among
    below_occurs scopes composed.not_allowed at occurs among = alone (place scopes composed.not_allowed) at occurs among
    below_occurs scopes (composed.value type text) at occurs among = alone (place scopes (composed.value type text)) at occurs among

    below_occurs_in : (scopes : List Clauses) (all clauses : Clauses) (at : Place) →
        Occurs whole (place scopes (composed.grammar all)) →
        ((q : Composed) → Contains (bodies clauses) q → Contains (bodies all) q) → Contains (places_in (all ∷ scopes) clauses) at →
        Occurs whole at
    below_occurs_in scopes all end_of_clauses at occurs within among = absurd (in_none among)
    below_occurs_in scopes all (clause_then name combine p more) at occurs within among =
        either_of (places (all ∷ scopes) p) (places_in (all ∷ scopes) more) at
        (λ first. below_occurs (all ∷ scopes) p at (further_in occurs (a_definition (within p (in_first p (bodies more))))) first)
        (λ others. below_occurs_in scopes all more at occurs (λ q there. within q (in_more p (bodies more) q there)) others) among

  pub place_occurs : (at : Place) → Contains (places [] whole) at → Occurs whole at
  place_occurs at among = below_occurs [] whole at the_whole among

  -- something of this kind stands in the schema, or nothing does
  pub has_or_not : (kind : List Clauses → Composed → Type 0) →
      ((scopes : List Clauses) (p : Composed) → Occurs whole (place scopes p) → Decided (kind scopes p)) → Decided (Has whole kind)
  has_or_not kind each =
      elim (some_or_none (λ (at : Place). kind at.scopes at.pattern) (places [] whole)
      (λ at among. each at.scopes at.pattern (place_occurs at among))) [
        | inl h ↦ inl (record { scopes = h.0.scopes; pattern = h.0.pattern; occurs = place_occurs h.0 h.1; is = h.2 })
        | inr none ↦ inr (λ h. none (place h.scopes h.pattern) (occurs_among h.occurs) h.is)
      ]
