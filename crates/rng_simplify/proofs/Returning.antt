-- What leads back in a schema in one piece leads back whatever numbers its elements have: its places are so many, and no more.
use Rattle.std.specs.Prelude.{if◌then◌else◌}
use Rattle.std.proofs.Common.{◌≡◌, Bool, true, false, sym, ap, ◌∙◌, subst, ℕ, zero, suc, ◌-◌, ◌<◌, ◌≤◌, inl, inr, ◌⊎◌, List, [], ◌∷◌, ◌++◌, length, map, slice_get, Some, Contains, arith}
use Rattle.std.proofs.lemmas.Bool.{cases_lt}
use Rattle.std.proofs.lemmas.List.Elements.{Contains-append_left, Contains-append_right, Contains-append_cases}
use Rattle.std.proofs.lemmas.Option.{same_Some, slice_get-get_or}
use Rattle.rnc_parse.specs.declared.surface.Combine.{Combine}
use Rattle.rnc_parse.specs.declared.surface.Defined.{Defined}
use Rattle.rnc_parse.specs.declared.surface.Defined.TheVariants as defined
use Rattle.rng_simplify.specs.Broken.{Has, LeadsBack}
use Rattle.rng_simplify.specs.Composed.{Composed, Clauses, end_of_clauses, clause_then, same_defined, defining, bodies}
use Rattle.rng_simplify.specs.Composed as composed
use Rattle.rng_simplify.specs.Places.{Place, place, parts, IsIn, a_part, a_content, a_definition, Occurs, the_whole, further_in, LeadsTo, to_part, to_definition, to_outer_definition, to_start, LeadsOn, in_one_step, in_more_steps}
use Rattle.rng_simplify.specs.Unnumbered.{unnumbered, unnumbered_in}
use Rattle.rng_simplify.proofs.Alike.{alike_by, alike_scope, bodies_same, parts_unnumbered}
use Rattle.rng_simplify.proofs.Nodes.{in_none, in_cases, in_first, in_more, in_one}

-- ---- so many numbers below a bound are not all different

pub record IsTwice (f : ℕ → ℕ) (last : ℕ) : Type 0 where
  pub first : ℕ
  pub second : ℕ
  pub before : first < second
  pub within : second ≤ last
  pub same : f first ≡ f second

-- a value comes again behind the first place, or not
comes_again : (f : ℕ → ℕ) (v last : ℕ) → ((j : ℕ) × (j < last) × (f (suc j) ≡ v)) ⊎ ((j : ℕ) → j < last → f (suc j) ≡ v → ⊥)
comes_again f v zero = inr (λ j less is. absurd (omega arith))
comes_again f v (suc last) = elim (comes_again f v last) [
  | inl h ↦ inl (h.0, (let less = h.1 in omega arith), h.2)
  | inr none ↦ elim (cases_lt (f (suc last)) v) [
    | inl less ↦ inr (λ j within is. elim (cases_lt j last) [ inl earlier ↦ none j earlier is | inr later ↦ let same : j ≡ last = omega arith in let also = ap (λ k. f (suc k)) same in absurd (omega arith) ])
    | inr least ↦ elim (cases_lt v (f (suc last))) [
      | inl more ↦ inr (λ j within is. elim (cases_lt j last) [ inl earlier ↦ none j earlier is | inr later ↦ let same : j ≡ last = omega arith in let also = ap (λ k. f (suc k)) same in absurd (omega arith) ])
      | inr most ↦ inl (last, omega arith, omega arith)
    ]
  ]
]

-- a number with a value left out
abbrev left_by : (v n : ℕ) → (v < n) ⊎ (n ≤ v) → ℕ
left_by v n (inl more) = n - 1
left_by v n (inr least) = n

abbrev left_out : ℕ → ℕ → ℕ
left_out v n = left_by v n (cases_lt v n)

left_below : (v n bound : ℕ) (h : (v < n) ⊎ (n ≤ v)) → n < suc bound → v < suc bound → (n ≡ v → ⊥) → left_by v n h < bound
left_below v n bound (inl more) less also other = omega arith
left_below v n bound (inr least) less also other =
    elim (cases_lt n v) [ inl smaller ↦ omega arith | inr most ↦ absurd (other (omega arith)) ]

left_same : (v n m : ℕ) (h : (v < n) ⊎ (n ≤ v)) (k : (v < m) ⊎ (m ≤ v)) → (n ≡ v → ⊥) → (m ≡ v → ⊥) → left_by v n h ≡ left_by v m k → n ≡ m
left_same v n m (inl a) (inl b) other also is = omega arith
left_same v n m (inl a) (inr b) other also is = elim (cases_lt m v) [ inl smaller ↦ omega arith | inr most ↦ absurd (also (omega arith)) ]
left_same v n m (inr a) (inl b) other also is = elim (cases_lt n v) [ inl smaller ↦ omega arith | inr most ↦ absurd (other (omega arith)) ]
left_same v n m (inr a) (inr b) other also is = is

pub some_twice : (bound : ℕ) (f : ℕ → ℕ) → ((i : ℕ) → i ≤ bound → f i < bound) → IsTwice f bound
some_twice zero f below = let less = below 0 (omega arith) in absurd (omega arith)
some_twice (suc bound) f below = elim (comes_again f (f 0) (suc bound)) [
  | inl h ↦ record { first = 0; second = suc h.0; before = omega arith; within = (let less = h.1 in omega arith); same = sym h.2 }
  | inr none ↦
      let rest = some_twice bound (λ i. left_out (f 0) (f (suc i))) (λ i within. left_below (f 0) (f (suc i)) bound (cases_lt (f 0) (f (suc i))) (below (suc i) (omega arith)) (below 0 (omega arith)) (none i (omega arith))) in
      let first_before = rest.before in
      let second_within = rest.within in
      record {
        first = suc rest.first;
        second = suc rest.second;
        before = omega arith;
        within = omega arith;
        same = left_same (f 0) (f (suc rest.first)) (f (suc rest.second)) (cases_lt (f 0) (f (suc rest.first)))
            (cases_lt (f 0) (f (suc rest.second))) (none rest.first (omega arith)) (none rest.second (omega arith)) rest.same;
      }
]

-- ---- the places of a schema

abbrev mutual
  pub places : List Clauses → Composed → List Place
  places scopes (composed.element number class p) = place scopes (composed.element number class p) ∷ places scopes p
  places scopes (composed.attribute class p) = place scopes (composed.attribute class p) ∷ places scopes p
  places scopes (composed.listed p) = place scopes (composed.listed p) ∷ places scopes p
  places scopes (composed.ref name) = place scopes (composed.ref name) ∷ []
  places scopes (composed.parent_ref name) = place scopes (composed.parent_ref name) ∷ []
  places scopes composed.empty = place scopes composed.empty ∷ []
  places scopes composed.any_text = place scopes composed.any_text ∷ []
  places scopes composed.not_allowed = place scopes composed.not_allowed ∷ []
  places scopes (composed.value type text) = place scopes (composed.value type text) ∷ []
  places scopes (composed.typed type params p) = place scopes (composed.typed type params p) ∷ places scopes p
  places scopes (composed.grammar clauses) = place scopes (composed.grammar clauses) ∷ places_in (clauses ∷ scopes) clauses
  places scopes (composed.one_or_more p) = place scopes (composed.one_or_more p) ∷ places scopes p
  places scopes (composed.choice p q) = place scopes (composed.choice p q) ∷ (places scopes p ++ places scopes q)
  places scopes (composed.group p q) = place scopes (composed.group p q) ∷ (places scopes p ++ places scopes q)
  places scopes (composed.interleave p q) = place scopes (composed.interleave p q) ∷ (places scopes p ++ places scopes q)

  pub places_in : List Clauses → Clauses → List Place
  places_in scopes end_of_clauses = []
  places_in scopes (clause_then name combine p more) = places scopes p ++ places_in scopes more

own_place : (scopes : List Clauses) (p : Composed) → Contains (places scopes p) (place scopes p)
own_place scopes (composed.element number class p) = in_first _ _
own_place scopes (composed.attribute class p) = in_first _ _
own_place scopes (composed.listed p) = in_first _ _
own_place scopes (composed.typed type params p) = in_first _ _
own_place scopes (composed.one_or_more p) = in_first _ _
own_place scopes (composed.choice p q) = in_first _ _
own_place scopes (composed.group p q) = in_first _ _
own_place scopes (composed.interleave p q) = in_first _ _
own_place scopes (composed.grammar clauses) = in_first _ _
own_place scopes (composed.ref name) = in_first (place scopes (composed.ref name)) []
own_place scopes (composed.parent_ref name) = in_first (place scopes (composed.parent_ref name)) []
own_place scopes composed.empty = in_first (place scopes composed.empty) []
own_place scopes composed.any_text = in_first (place scopes composed.any_text) []
own_place scopes composed.not_allowed = in_first (place scopes composed.not_allowed) []
own_place scopes (composed.value type text) = in_first (place scopes (composed.value type text)) []

body_place : (scopes : List Clauses) (clauses : Clauses) (q : Composed) → Contains (bodies clauses) q →
    Contains (places_in scopes clauses) (place scopes q)
body_place scopes end_of_clauses q within = absurd (in_none within)
body_place scopes (clause_then name combine p more) q within = elim (in_cases p (bodies more) q within) [
  | inl is ↦ let P : Composed → Type 0 = λ r. Contains (places scopes p ++ places_in scopes more) (place scopes r) in
      subst P is (Contains-append_left (places scopes p) (places_in scopes more) (place scopes p) (own_place scopes p))
  | inr further ↦ Contains-append_right (places scopes p) (places_in scopes more) (place scopes q) (body_place scopes more q further)
]

-- a part has its place
only_place : (first : Place) (scopes : List Clauses) (p q : Composed) → Contains (p ∷ []) q →
    Contains (first ∷ places scopes p) (place scopes q)
only_place first scopes p q within =
    let P : Composed → Type 0 = λ r. Contains (first ∷ places scopes p) (place scopes r) in
    subst P (in_one p q within) (in_more first (places scopes p) (place scopes p) (own_place scopes p))

either_place : (at : Place) (scopes : List Clauses) (p r q : Composed) → Contains (p ∷ r ∷ []) q →
    Contains (at ∷ (places scopes p ++ places scopes r)) (place scopes q)
either_place at scopes p r q within =
    in_more at (places scopes p ++ places scopes r) (place scopes q) (elim (in_cases p (r ∷ []) q within) [
      | inl is ↦ let P : Composed → Type 0 = λ t. Contains (places scopes p ++ places scopes r) (place scopes t) in
          subst P is (Contains-append_left (places scopes p) (places scopes r) (place scopes p) (own_place scopes p))
      | inr further ↦ let P : Composed → Type 0 = λ t. Contains (places scopes p ++ places scopes r) (place scopes t) in
          subst P (in_one r q further) (Contains-append_right (places scopes p) (places scopes r) (place scopes r) (own_place scopes r))
    ])

part_place : (scopes : List Clauses) (p q : Composed) → Contains (parts p) q → Contains (places scopes p) (place scopes q)
part_place scopes (composed.element number class p) q within = absurd (in_none within)
part_place scopes (composed.grammar clauses) q within = absurd (in_none within)
part_place scopes (composed.attribute class p) r within = only_place (place scopes (composed.attribute class p)) scopes p r within
part_place scopes (composed.listed p) r within = only_place (place scopes (composed.listed p)) scopes p r within
part_place scopes (composed.typed type params p) r within = only_place (place scopes (composed.typed type params p)) scopes p r within
part_place scopes (composed.one_or_more p) r within = only_place (place scopes (composed.one_or_more p)) scopes p r within
part_place scopes (composed.choice p q) r within = either_place (place scopes (composed.choice p q)) scopes p q r within
part_place scopes (composed.group p q) r within = either_place (place scopes (composed.group p q)) scopes p q r within
part_place scopes (composed.interleave p q) r within = either_place (place scopes (composed.interleave p q)) scopes p q r within
part_place scopes (composed.ref name) q within = absurd (in_none within)
part_place scopes (composed.parent_ref name) q within = absurd (in_none within)
part_place scopes composed.empty q within = absurd (in_none within)
part_place scopes composed.any_text q within = absurd (in_none within)
part_place scopes composed.not_allowed q within = absurd (in_none within)
part_place scopes (composed.value type text) q within = absurd (in_none within)

-- what stands directly in a pattern has its place
inner_place : {outer inner : Place} → IsIn outer inner → Contains (places outer.scopes outer.pattern) inner
inner_place (a_part {scopes = scopes} {p = p} {q = q} within) = part_place scopes p q within
inner_place (a_content {scopes = scopes} {number = number} {class = class} {p = p}) =
    in_more (place scopes (composed.element number class p)) (places scopes p) (place scopes p) (own_place scopes p)
inner_place (a_definition {scopes = scopes} {clauses = clauses} {p = p} within) = in_more (place scopes (composed.grammar clauses))
    (places_in (clauses ∷ scopes) clauses) (place (clauses ∷ scopes) p) (body_place (clauses ∷ scopes) clauses p within)

directly : (scopes : List Clauses) (p : Composed) (at inner : Place) → at ≡ place scopes p → IsIn at inner →
    Contains (places scopes p) inner
directly scopes p at inner is within = let P : Place → Type 0 = λ k. IsIn k inner in inner_place (subst P is within)

in_one_of : {first at : Place} → Contains (first ∷ []) at → at ≡ first
in_one_of {first = first} {at = at} among = sym (in_one first at among)

mutual
  in_places : (scopes : List Clauses) (p : Composed) (at inner : Place) → Contains (places scopes p) at → IsIn at inner →
      Contains (places scopes p) inner
  in_places scopes (composed.element number class p) at inner among within = elim (in_cases _ (places scopes p) at among) [
    | inl is ↦ directly scopes (composed.element number class p) at inner (sym is) within
    | inr further ↦ in_more _ (places scopes p) inner (in_places scopes p at inner further within)
  ]
  in_places scopes (composed.attribute class p) at inner among within = elim (in_cases _ (places scopes p) at among) [
    | inl is ↦ directly scopes (composed.attribute class p) at inner (sym is) within
    | inr further ↦ in_more _ (places scopes p) inner (in_places scopes p at inner further within)
  ]
  in_places scopes (composed.listed p) at inner among within = elim (in_cases _ (places scopes p) at among) [
    | inl is ↦ directly scopes (composed.listed p) at inner (sym is) within
    | inr further ↦ in_more _ (places scopes p) inner (in_places scopes p at inner further within)
  ]
  in_places scopes (composed.typed type params p) at inner among within = elim (in_cases _ (places scopes p) at among) [
    | inl is ↦ directly scopes (composed.typed type params p) at inner (sym is) within
    | inr further ↦ in_more _ (places scopes p) inner (in_places scopes p at inner further within)
  ]
  in_places scopes (composed.one_or_more p) at inner among within = elim (in_cases _ (places scopes p) at among) [
    | inl is ↦ directly scopes (composed.one_or_more p) at inner (sym is) within
    | inr further ↦ in_more _ (places scopes p) inner (in_places scopes p at inner further within)
  ]
  in_places scopes (composed.choice p q) at inner among within = elim (in_cases _ (places scopes p ++ places scopes q) at among) [
    | inl is ↦ directly scopes (composed.choice p q) at inner (sym is) within
    | inr further ↦ in_more _ (places scopes p ++ places scopes q) inner
        (elim (Contains-append_cases (places scopes p) (places scopes q) at further) [
          | inl first ↦ Contains-append_left (places scopes p) (places scopes q) inner (in_places scopes p at inner first within)
          | inr second ↦ Contains-append_right (places scopes p) (places scopes q) inner (in_places scopes q at inner second within)
        ])
  ]
  in_places scopes (composed.group p q) at inner among within = elim (in_cases _ (places scopes p ++ places scopes q) at among) [
    | inl is ↦ directly scopes (composed.group p q) at inner (sym is) within
    | inr further ↦ in_more _ (places scopes p ++ places scopes q) inner
        (elim (Contains-append_cases (places scopes p) (places scopes q) at further) [
          | inl first ↦ Contains-append_left (places scopes p) (places scopes q) inner (in_places scopes p at inner first within)
          | inr second ↦ Contains-append_right (places scopes p) (places scopes q) inner (in_places scopes q at inner second within)
        ])
  ]
  in_places scopes (composed.interleave p q) at inner among within = elim (in_cases _ (places scopes p ++ places scopes q) at among) [
    | inl is ↦ directly scopes (composed.interleave p q) at inner (sym is) within
    | inr further ↦ in_more _ (places scopes p ++ places scopes q) inner
        (elim (Contains-append_cases (places scopes p) (places scopes q) at further) [
          | inl first ↦ Contains-append_left (places scopes p) (places scopes q) inner (in_places scopes p at inner first within)
          | inr second ↦ Contains-append_right (places scopes p) (places scopes q) inner (in_places scopes q at inner second within)
        ])
  ]
  in_places scopes (composed.ref name) at inner among within = directly scopes (composed.ref name) at inner (in_one_of among) within
  in_places scopes (composed.parent_ref name) at inner among within =
      directly scopes (composed.parent_ref name) at inner (in_one_of among) within
  in_places scopes composed.empty at inner among within = directly scopes composed.empty at inner (in_one_of among) within
  in_places scopes composed.any_text at inner among within = directly scopes composed.any_text at inner (in_one_of among) within
  in_places scopes composed.not_allowed at inner among within = directly scopes composed.not_allowed at inner (in_one_of among) within
  in_places scopes (composed.value type text) at inner among within =
      directly scopes (composed.value type text) at inner (in_one_of among) within
  in_places scopes (composed.grammar clauses) at inner among within = elim (in_cases _ (places_in (clauses ∷ scopes) clauses) at among) [
    | inl is ↦ directly scopes (composed.grammar clauses) at inner (sym is) within
    | inr further ↦ in_more _ (places_in (clauses ∷ scopes) clauses) inner (in_places_in (clauses ∷ scopes) clauses at inner further within)
  ]

  in_places_in : (scopes : List Clauses) (clauses : Clauses) (at inner : Place) → Contains (places_in scopes clauses) at → IsIn at inner →
      Contains (places_in scopes clauses) inner
  in_places_in scopes end_of_clauses at inner among within = absurd (in_none among)
  in_places_in scopes (clause_then name combine p more) at inner among within =
      elim (Contains-append_cases (places scopes p) (places_in scopes more) at among) [
        | inl first ↦ Contains-append_left (places scopes p) (places_in scopes more) inner (in_places scopes p at inner first within)
        | inr second ↦ Contains-append_right (places scopes p) (places_in scopes more) inner (in_places_in scopes more at inner second within)
      ]

pub occurs_among : {whole : Composed} {at : Place} → Occurs whole at → Contains (places [] whole) at
occurs_among {whole = whole} the_whole = own_place [] whole
occurs_among {whole = whole} (further_in {outer = outer} {inner = inner} occurs within) =
    in_places [] whole outer inner (occurs_among occurs) within

-- ---- what leads on, with other numbers

abbrev pub AreAlike : Place → Place → Type 0
AreAlike one other = (map unnumbered_in one.scopes ≡ map unnumbered_in other.scopes) × (unnumbered one.pattern ≡ unnumbered other.pattern)

-- a pattern among others that are the same but for numbers
record IsAmong (ps : List Composed) (q : Composed) : Type 0 where
  pattern : Composed
  among : Contains ps pattern
  same : unnumbered q ≡ unnumbered pattern

alike_among : (ps others : List Composed) (q : Composed) → map unnumbered ps ≡ map unnumbered others → Contains ps q → IsAmong others q
alike_among [] others q same among = absurd (in_none among)
alike_among (p ∷ ps) [] q same among = let never : ⊥ = cc in absurd never
alike_among (p ∷ ps) (other ∷ others) q same among =
    let head : unnumbered p ≡ unnumbered other = cc in
    let tail : map unnumbered ps ≡ map unnumbered others = cc in
    elim (in_cases p ps q among) [
      | inl is ↦ record { pattern = other; among = in_first other others; same = ap unnumbered (sym is) ∙ head }
      | inr further ↦ let rest = alike_among ps others q tail further in
          record { pattern = rest.pattern; among = in_more other others rest.pattern rest.among; same = rest.same }
    ]

-- a step, with other numbers
record HasStep (other to : Place) : Type 0 where
  next : Place
  step : LeadsTo other next
  same : AreAlike to next

alike_step : {from to : Place} → LeadsTo from to → (other : Place) → AreAlike from other → HasStep other to
alike_step (to_part {scopes = scopes} {p = p} {q = q} within) other alike =
    let r =
    alike_among (parts p) (parts other.pattern) q (sym (parts_unnumbered p) ∙ ap parts alike.1 ∙ parts_unnumbered other.pattern) within
    in
    record { next = place other.scopes r.pattern; step = to_part r.among; same = (alike.0, r.same) }
alike_step (to_definition {scope = scope} {outer = outer} {name = name} {p = p} within) other alike =
    let h = alike_scope scope outer other.scopes alike.0 in
    let r =
    alike_among (bodies (defining (defined.Name name) scope)) (bodies (defining (defined.Name name) h.other)) p
    (bodies_same (defined.Name name) scope h.other h.scope_same) within in
    let next : Place = place (h.other ∷ h.rest) r.pattern in
    let P : List Clauses → Type 0 = λ scopes. LeadsTo (place scopes other.pattern) next in
    let Q : Composed → Type 0 = λ q. LeadsTo (place (h.other ∷ h.rest) q) next in
    record {
      next = next;
      step = subst P (sym h.is) (subst Q (sym (alike_by (composed.ref name) other.pattern alike.1)) (to_definition r.among));
      same = (alike.0 ∙ ap (map unnumbered_in) h.is, r.same);
    }
alike_step (to_outer_definition {inner = inner} {scope = scope} {outer = outer} {name = name} {p = p} within) other alike =
    let g = alike_scope inner (scope ∷ outer) other.scopes alike.0 in
    let h = alike_scope scope outer g.rest g.outer_same in
    let is : other.scopes ≡ g.other ∷ h.other ∷ h.rest = g.is ∙ ap (λ rest. g.other ∷ rest) h.is in
    let r =
    alike_among (bodies (defining (defined.Name name) scope)) (bodies (defining (defined.Name name) h.other)) p
    (bodies_same (defined.Name name) scope h.other h.scope_same) within in
    let next : Place = place (h.other ∷ h.rest) r.pattern in
    let P : List Clauses → Type 0 = λ scopes. LeadsTo (place scopes other.pattern) next in
    let Q : Composed → Type 0 = λ q. LeadsTo (place (g.other ∷ h.other ∷ h.rest) q) next in
    record {
      next = next;
      step = subst P (sym is) (subst Q (sym (alike_by (composed.parent_ref name) other.pattern alike.1)) (to_outer_definition r.among));
      same = (g.outer_same ∙ ap (map unnumbered_in) h.is, r.same);
    }
alike_step (to_start {scopes = scopes} {clauses = clauses} {p = p} within) other alike =
    let h = alike_by (composed.grammar clauses) other.pattern alike.1 in
    let r =
    alike_among (bodies (defining defined.Start clauses)) (bodies (defining defined.Start h.0)) p
    (bodies_same defined.Start clauses h.0 (sym h.2)) within in
    let next : Place = place (h.0 ∷ other.scopes) r.pattern in
    let Q : Composed → Type 0 = λ q. LeadsTo (place other.scopes q) next in
    record {
      next = next;
      step = subst Q (sym h.1) (to_start r.among);
      same = (ap (λ c. c ∷ map unnumbered_in scopes) (sym h.2) ∙ ap (λ cs. unnumbered_in h.0 ∷ cs) alike.0, r.same);
    }

record HasSteps (other to : Place) : Type 0 where
  next : Place
  steps : LeadsOn other next
  same : AreAlike to next

alike_steps : {from to : Place} → LeadsOn from to → (other : Place) → AreAlike from other → HasSteps other to
alike_steps (in_one_step step) other alike =
    let h = alike_step step other alike in
    record { next = h.next; steps = in_one_step h.step; same = h.same }
alike_steps (in_more_steps step more) other alike =
    let h = alike_step step other alike in
    let rest = alike_steps more h.next h.same in
    record { next = rest.next; steps = in_more_steps h.step rest.steps; same = rest.same }

-- ---- what is led to stands in the schema

abbrev pub OuterOccurs : Composed → List Clauses → Type 0
OuterOccurs whole [] = Unit {0}
OuterOccurs whole (scope ∷ outer) = Occurs whole (place outer (composed.grammar scope))

pub outer_occurs : {whole : Composed} {at : Place} → Occurs whole at → OuterOccurs whole at.scopes
outer_occurs the_whole = tt
outer_occurs (further_in occurs (a_part within)) = outer_occurs occurs
outer_occurs (further_in occurs a_content) = outer_occurs occurs
outer_occurs (further_in occurs (a_definition within)) = occurs

defining_among_if : (b : Bool) (name : Defined) (c : Combine) (p : Composed) (rest more : Clauses) (q : Composed) →
    (Contains (bodies rest) q → Contains (bodies more) q) → Contains (bodies (if b then clause_then name c p rest else rest)) q →
    Contains (p ∷ bodies more) q
defining_among_if true name c p rest more q further among = elim (in_cases p (bodies rest) q among) [
  | inl is ↦ let P : Composed → Type 0 = λ r. Contains (p ∷ bodies more) r in subst P is (in_first p (bodies more))
  | inr others ↦ in_more p (bodies more) q (further others)
]
defining_among_if false name c p rest more q further among = in_more p (bodies more) q (further among)

pub defining_among : (name : Defined) (clauses : Clauses) (q : Composed) → Contains (bodies (defining name clauses)) q →
    Contains (bodies clauses) q
defining_among name end_of_clauses q among = among
defining_among name (clause_then other c p more) q among =
    defining_among_if (same_defined name other) other c p (defining name more) more q (defining_among name more q) among

pub occurs_lead : {whole : Composed} {from to : Place} → LeadsTo from to → Occurs whole from → Occurs whole to
occurs_lead (to_part within) occurs = further_in occurs (a_part within)
occurs_lead (to_definition {scope = scope} {name = name} {p = p} within) occurs =
    further_in (outer_occurs occurs) (a_definition (defining_among (defined.Name name) scope p within))
occurs_lead (to_outer_definition {scope = scope} {name = name} {p = p} within) occurs =
    further_in (outer_occurs (outer_occurs occurs)) (a_definition (defining_among (defined.Name name) scope p within))
occurs_lead (to_start {clauses = clauses} {p = p} within) occurs =
    further_in occurs (a_definition (defining_among defined.Start clauses p within))

occurs_leads : {whole : Composed} {from to : Place} → LeadsOn from to → Occurs whole from → Occurs whole to
occurs_leads (in_one_step step) occurs = occurs_lead step occurs
occurs_leads (in_more_steps step more) occurs = occurs_leads more (occurs_lead step occurs)

pub leads_then : {from mid to : Place} → LeadsOn from mid → LeadsOn mid to → LeadsOn from to
leads_then (in_one_step step) more = in_more_steps step more
leads_then (in_more_steps step rest) more = in_more_steps step (leads_then rest more)

-- ---- so it comes back to one of them

module _ (whole : Composed) (back : Place) (leads : LeadsOn back back) where
  record IsFound : Type 0 where
    at : Place
    occurs : Occurs whole at
    alike : AreAlike back at

  next_found : IsFound → IsFound
  next_found h =
      let more = alike_steps leads h.at h.alike in
      record { at = more.next; occurs = occurs_leads more.steps h.occurs; alike = more.same }

  next_leads : (h : IsFound) → LeadsOn h.at (next_found h).at
  unfolding next_found
  next_leads h = (alike_steps leads h.at h.alike).steps

  chain : IsFound → ℕ → IsFound
  chain h zero = h
  chain h (suc n) = next_found (chain h n)

  chain_leads : (h : IsFound) (i j : ℕ) → i < j → LeadsOn (chain h i).at (chain h j).at
  unfolding chain
  chain_leads h i zero less = absurd (omega arith)
  chain_leads h i (suc j) less = elim (cases_lt i j) [
    | inl before ↦ leads_then (chain_leads h i j before) (next_leads (chain h j))
    | inr least ↦ let same : j ≡ i =
        omega arith in let P : ℕ → Type 0 = λ k. LeadsOn (chain h k).at (next_found (chain h j)).at in subst P same (next_leads (chain h j))
  ]

  index : (h : IsFound) → (k : ℕ) × (k < length (places [] whole)) × (slice_get (places [] whole) k ≡ Some h.at)
  index h =
      let among = occurs_among h.occurs in
      (among.0, among.1, slice_get-get_or (places [] whole) among.0 h.at among.1 ∙ ap (λ x. Some x) among.2)

  found_back : IsFound → Has whole LeadsBack
  found_back h =
      let twice = some_twice (length (places [] whole)) (λ i. (index (chain h i)).0) (λ i within. (index (chain h i)).1) in
      let one = chain h twice.first in
      let other = chain h twice.second in
      let same : other.at ≡ one.at =
      same_Some other.at one.at (sym (index other).2 ∙ ap (slice_get (places [] whole)) (sym twice.same) ∙ (index one).2) in
      let P : Place → Type 0 = λ at. LeadsOn one.at at in
      record { scopes = one.at.scopes; pattern = one.at.pattern; occurs = one.occurs; is = subst P same (chain_leads h twice.first twice.second twice.before) }

-- what leads back leads back where it stands with other numbers
pub returns_again : (whole : Composed) (back at : Place) → Occurs whole at → AreAlike back at → LeadsOn back back → Has whole LeadsBack
returns_again whole back at occurs alike leads = found_back whole back leads (record { at = at; occurs = occurs; alike = alike })
