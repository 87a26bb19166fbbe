-- Joins of the names that definitions define, with one more definition.
use Rattle.std.proofs.Common.{◌≡◌, ◌≢◌, refl, sym, ap, ◌∙◌, subst, ℕ, zero, suc, ◌+◌, ◌<◌, inl, inr, ◌⊎◌, Bool, true, false, cond, List, [], ◌∷◌, ◌++◌, length, set, get_or, take, drop, slice_get, Option, Some, None, Result, Ok, Err, arith}
use Rattle.std.proofs.lemmas.Option.{same_Some, none-some, slice_get_within}
use Rattle.std.proofs.lemmas.Bool.{cases_lt, false≢true}
use Rattle.std.proofs.lemmas.List.{length-set, length_push, map-append, append-nil, take_more, take-append-drop}
use Rattle.std.proofs.lemmas.List.Elements.{filter-append}
use Rattle.std.proofs.lemmas.Slice.Eq.{bytes_eq-Decides}
use Rattle.nx_base.specs.declared.cause.Cause.TheVariants as cause
use Rattle.rnc_parse.specs.declared.surface.Defined.{Defined}
use Rattle.rnc_parse.specs.declared.surface.Defined.TheVariants as defined
use Rattle.rnc_parse.specs.declared.surface.Combine.{Combine}
use Rattle.rng_simplify.specs.declared.fault.SchemaFault.{SchemaFault}
use Rattle.rng_simplify.specs.declared.fault.SchemaFault.TheVariants.{NoMemory, Unreadable}
use Rattle.rng_simplify.specs.declared.names.Names.{Names}
use Rattle.rng_simplify.specs.declared.node.Clause.{Clause}
use Rattle.rng_simplify.specs.declared.resolve.Combined.{Combined}
use Rattle.rng_simplify.specs.Broken.{clash}
use Rattle.rng_simplify.specs.Composed.{same_defined}
use Rattle.rng_simplify.specs.NameTables.{kept_for, KeepsOne}
use Rattle.rng_simplify.specs.ResolvedNodes.{clauses_of, combines_of}
use Rattle.rng_simplify.specs.Findings.{HasSigns, AddsTo, IsCombinedOf, IsGatheredAs, IsGathered, KeepsFirst, GathersOne, Gathers}
use Rattle.rng_simplify.proofs.Scopes.{stays_behind, last_there}
use Rattle.rng_simplify.proofs.Signs.{clash_more}

-- ---- names

pub same_name : (name other : Defined) → same_defined name other ≡ true → name ≡ other
same_name defined.Start defined.Start h = refl
same_name defined.Start (defined.Name other) h = absurd (false≢true h)
same_name (defined.Name name) defined.Start h = absurd (false≢true h)
same_name (defined.Name name) (defined.Name other) h = ap defined.Name ((bytes_eq-Decides name other).0 h)

pub same_self : (name : Defined) → same_defined name name ≡ true
same_self defined.Start = refl
same_self (defined.Name name) = (bytes_eq-Decides name name).1 refl

pub other_name : (name other : Defined) → same_defined name other ≡ false → name ≡ other → ⊥
other_name name other h is = absurd (false≢true (sym h ∙ ap (same_defined name) (sym is) ∙ same_self name))

-- a test and what it answers
pub tested : (b : Bool) → (b ≡ true) ⊎ (b ≡ false)
tested true = inl refl
tested false = inr refl

-- ---- lists

pub set_elsewhere : {X : Type 0} (xs : List X) (i j : ℕ) (x : X) → j ≢ i → slice_get (set xs i x) j ≡ slice_get xs j
set_elsewhere [] i j x other = refl
set_elsewhere (y ∷ xs) zero zero x other = absurd (other refl)
set_elsewhere (y ∷ xs) zero (suc j) x other = refl
set_elsewhere (y ∷ xs) (suc i) zero x other = refl
set_elsewhere (y ∷ xs) (suc i) (suc j) x other = set_elsewhere xs i j x (λ is. other (ap suc is))

pub set_there : {X : Type 0} (xs : List X) (i : ℕ) (x : X) → i < length xs → slice_get (set xs i x) i ≡ Some x
set_there [] i x lt = absurd (omega arith)
set_there (y ∷ xs) zero x lt = refl
set_there (y ∷ xs) (suc i) x lt = set_there xs i x (omega arith)

-- the definitions of a name, with one more definition
clauses_more : (name : Defined) (before : List Clause) (clause : Clause) → same_defined name clause.name ≡ true → clauses_of name (before ++ clause ∷ []) ≡ clauses_of name before ++ clause ∷ []
clauses_more name before clause is = filter-append (λ (c : Clause). same_defined name c.name) before (clause ∷ []) ∙ ap (λ b. clauses_of name before ++ cond b (clause ∷ []) []) is

clauses_same : (name : Defined) (before : List Clause) (clause : Clause) → same_defined name clause.name ≡ false → clauses_of name (before ++ clause ∷ []) ≡ clauses_of name before
clauses_same name before clause is = filter-append (λ (c : Clause). same_defined name c.name) before (clause ∷ []) ∙ ap (λ b. clauses_of name before ++ cond b (clause ∷ []) []) is ∙ append-nil (clauses_of name before)

not_nothing : (before : List Clause) (clause : Clause) → before ++ clause ∷ [] ≡ [] → ⊥
not_nothing [] clause h = absurd cc
not_nothing (c ∷ before) clause h = absurd cc

-- the combined definitions of a name with one more of them
combination_more : (name : Defined) (before : List Clause) (clause : Clause) (old new : Combined) → same_defined name clause.name ≡ true → IsCombinedOf (clauses_of name before) old → new.bodies.items ≡ old.bodies.items ++ clause.body ∷ [] → HasSigns (combines_of (clauses_of name before) ++ clause.combine ∷ []) new → IsCombinedOf (clauses_of name (before ++ clause ∷ [])) new
combination_more name before clause old new is h bodies signs =
    subst (λ (cs : List Clause). IsCombinedOf cs new) (sym (clauses_more name before clause is)) (record {
      some = not_nothing (clauses_of name before) clause;
      bodies_are = bodies ∙ ap (λ bs. bs ++ clause.body ∷ []) h.bodies_are ∙ sym (map-append (λ (c : Clause). c.body) (clauses_of name before) (clause ∷ []));
      signs = subst (λ (cs : List Combine). HasSigns cs new) (sym (map-append (λ (c : Clause). c.combine) (clauses_of name before) (clause ∷ []))) signs;
    })

new_number : (names new : Names ℕ) (combined : List Combined) (clause : Clause) → KeepsOne names clause.name (length combined) new → (other : Defined) (b : Bool) → same_defined other clause.name ≡ b → kept_for new other ≡ cond b (Some (length combined)) (kept_for names other)
new_number names new combined clause keeps other b is = keeps other ∙ ap (λ t. cond t (Some (length combined)) (kept_for names other)) is

still : (first : ℕ) (before : List Clause) (combined : List Combined) (other : Defined) (clause : Clause) (new : Combined) (kept : Option ℕ) → clauses_of other (before ++ clause ∷ []) ≡ clauses_of other before → IsGatheredAs first before combined other kept → IsGatheredAs first (before ++ clause ∷ []) (combined ++ new ∷ []) other kept
still first before combined other clause new None same none = same ∙ none
still first before combined other clause new (Some at) same there = (there.0, there.1, stays_behind combined (new ∷ []) at there.0 there.2, subst (λ (cs : List Clause). IsCombinedOf cs there.0) (sym same) there.3)

first_combination : (before : List Clause) (name : Defined) (clause : Clause) (new : Combined) → same_defined name clause.name ≡ true → clauses_of name before ≡ [] → new.bodies.items ≡ clause.body ∷ [] → HasSigns (clause.combine ∷ []) new → IsCombinedOf (clauses_of name (before ++ clause ∷ [])) new
first_combination before name clause new is none bodies signs =
    let one : clause ∷ [] ≡ clauses_of name (before ++ clause ∷ []) = sym (clauses_more name before clause is ∙ ap (λ (cs : List Clause). cs ++ clause ∷ []) none) in
    subst (λ (cs : List Clause). IsCombinedOf cs new) one (record { some = λ h. absurd cc; bodies_are = bodies; signs = signs })

-- ---- one more definition of a name that is there

module _ {first : ℕ} {before : List Clause} {names : Names ℕ} {combined : List Combined} where
  -- its combined definitions
  pub combination_there : (name : Defined) (number : ℕ) → IsGathered first before names combined → kept_for names name ≡ Some number → IsGatheredAs first before combined name (Some number)
  combination_there name number h kept = subst (λ (k : Option ℕ). IsGatheredAs first before combined name k) kept (h.gathered name)

  pub number_within : (name : Defined) (number : ℕ) → IsGathered first before names combined → kept_for names name ≡ Some number → number < length combined
  number_within name number h kept =
      let there = combination_there name number h kept in
      slice_get_within combined number there.0 there.2

  -- no other name has it
  elsewhere : (name other : Defined) (number : ℕ) (clause : Clause) (new : Combined) → same_defined other name ≡ false → IsGathered first before names combined → kept_for names name ≡ Some number → (kept : Option ℕ) → kept_for names other ≡ kept → clauses_of other (before ++ clause ∷ []) ≡ clauses_of other before → IsGatheredAs first before combined other kept → IsGatheredAs first (before ++ clause ∷ []) (set combined number new) other kept
  elsewhere name other number clause new apart h kept None is same none = same ∙ none
  elsewhere name other number clause new apart h kept (Some at) is same there =
      let differs : at ≢ number = λ e. other_name other name apart (h.apart other name number (is ∙ ap Some e) kept) in
      (there.0, there.1, set_elsewhere combined number at new differs ∙ there.2, subst (λ (cs : List Clause). IsCombinedOf cs there.0) (sym same) there.3)

  pub one_added : (number : ℕ) (clause : Clause) (old new : Combined) → IsGathered first before names combined → kept_for names clause.name ≡ Some number → slice_get combined number ≡ Some old → new.bodies.items ≡ old.bodies.items ++ clause.body ∷ [] → ((combines : List Combine) → HasSigns combines old → HasSigns (combines ++ clause.combine ∷ []) new) → IsGathered first (before ++ clause ∷ []) names (set combined number new)
  one_added number clause old new h kept at bodies signs =
      let there = combination_there clause.name number h kept in
      let is_old : there.0 ≡ old = same_Some there.0 old (sym there.2 ∙ at) in
      let is_combination : IsCombinedOf (clauses_of clause.name before) old = subst (λ (j : Combined). IsCombinedOf (clauses_of clause.name before) j) is_old there.3 in
      let same_length : length (set combined number new) ≡ length combined = length-set combined number new in
      record {
        behind = omega (arith, h.behind, same_length);
        gathered = λ other. elim (tested (same_defined other clause.name)) [
          | inl is ↦ subst (λ (k : Option ℕ). IsGatheredAs first (before ++ clause ∷ []) (set combined number new) other k) (sym (ap (kept_for names) (same_name other clause.name is) ∙ kept)) (
            new,
            there.1,
            set_there combined number new (slice_get_within combined number old at),
            combination_more other before clause old new is (subst (λ (n : Defined). IsCombinedOf (clauses_of n before) old) (sym (same_name other clause.name is)) is_combination) bodies (signs (combines_of (clauses_of other before)) (subst (λ (n : Defined). HasSigns (combines_of (clauses_of n before)) old) (sym (same_name other clause.name is)) is_combination.signs)),
          )
          | inr is ↦ elsewhere clause.name other number clause new is h kept (kept_for names other) refl (clauses_same other before clause is) (h.gathered other)
        ];
        apart = h.apart;
        each = λ n le lt. h.each n le (omega (arith, lt, same_length));
      }

  -- ---- a first definition of a name

  nothing_yet : (name : Defined) → IsGathered first before names combined → kept_for names name ≡ None → clauses_of name before ≡ []
  nothing_yet name h kept = subst (λ (k : Option ℕ). IsGatheredAs first before combined name k) kept (h.gathered name)

  old_or_new : (new : Names ℕ) (clause : Clause) → IsGathered first before names combined → KeepsOne names clause.name (length combined) new → (name : Defined) (number : ℕ) → kept_for new name ≡ Some number → ((name ≡ clause.name) × (number ≡ length combined)) ⊎ ((kept_for names name ≡ Some number) × (number < length combined))
  old_or_new new clause h keeps name number kept =
      elim (tested (same_defined name clause.name)) [
        | inl is ↦ inl (same_name name clause.name is, same_Some number (length combined) (sym kept ∙ new_number names new combined clause keeps name true is))
        | inr is ↦
            let before_is : kept_for names name ≡ Some number = sym (new_number names new combined clause keeps name false is) ∙ kept in
            inr (before_is, number_within name number h before_is)
      ]

  pub one_begun : {after : Names ℕ} (clause : Clause) (new : Combined) → IsGathered first before names combined → kept_for names clause.name ≡ None → KeepsOne names clause.name (length combined) after → new.bodies.items ≡ clause.body ∷ [] → HasSigns (clause.combine ∷ []) new → IsGathered first (before ++ clause ∷ []) after (combined ++ new ∷ [])
  one_begun {after = after} clause new h none keeps bodies signs =
      let longer : length (combined ++ new ∷ []) ≡ length combined + 1 = length_push combined new in
      record {
        behind = omega (arith, h.behind, longer);
        gathered = λ other. elim (tested (same_defined other clause.name)) [
          | inl is ↦ subst (λ (k : Option ℕ). IsGatheredAs first (before ++ clause ∷ []) (combined ++ new ∷ []) other k) (sym (new_number names after combined clause keeps other true is)) (
            new,
            h.behind,
            last_there combined new,
            first_combination before other clause new is (nothing_yet other h (ap (kept_for names) (same_name other clause.name is) ∙ none)) bodies signs,
          )
          | inr is ↦ subst (λ (k : Option ℕ). IsGatheredAs first (before ++ clause ∷ []) (combined ++ new ∷ []) other k) (sym (new_number names after combined clause keeps other false is)) (still first before combined other clause new (kept_for names other) (clauses_same other before clause is) (h.gathered other))
        ];
        apart = λ name other number kept again. elim (old_or_new after clause h keeps name number kept) [
          | inl a ↦ elim (old_or_new after clause h keeps other number again) [
            | inl b ↦ a.0 ∙ sym b.0
            | inr b ↦ absurd (omega (arith, a.1, b.1))
          ]
          | inr a ↦ elim (old_or_new after clause h keeps other number again) [
            | inl b ↦ absurd (omega (arith, a.1, b.1))
            | inr b ↦ h.apart name other number a.0 b.0
          ]
        ];
        each = λ number le lt. elim (cases_lt number (length combined)) [
          | inl before_it ↦
              let named = h.each number le before_it in (
                named.0,
                elim (tested (same_defined named.0 clause.name)) [
                  | inl is ↦ absurd (none-some number (sym none ∙ sym (ap (kept_for names) (same_name named.0 clause.name is)) ∙ named.1))
                  | inr is ↦ new_number names after combined clause keeps named.0 false is ∙ named.1
                ],
              )
          | inr it ↦ (clause.name, new_number names after combined clause keeps clause.name true (same_self clause.name) ∙ ap Some (omega (arith, lt, longer, it)))
        ];
      }

  -- ---- a definition that clashes with others of its name

  pub clashing : (number : ℕ) (clause : Clause) (old : Combined) → IsGathered first before names combined → kept_for names clause.name ≡ Some number → slice_get combined number ≡ Some old → ((combines : List Combine) → HasSigns combines old → clash (combines ++ clause.combine ∷ []) ≡ true) → clash (combines_of (clauses_of clause.name (before ++ clause ∷ []))) ≡ true
  clashing number clause old h kept at clashes =
      let there = combination_there clause.name number h kept in
      let signs : HasSigns (combines_of (clauses_of clause.name before)) old = subst (λ (j : Combined). HasSigns (combines_of (clauses_of clause.name before)) j) (same_Some there.0 old (sym there.2 ∙ at)) there.3.signs in
      ap (λ (cs : List Clause). clash (combines_of cs)) (clauses_more clause.name before clause (same_self clause.name))
      ∙ ap clash (map-append (λ (c : Clause). c.combine) (clauses_of clause.name before) (clause ∷ []))
      ∙ clashes (combines_of (clauses_of clause.name before)) signs

-- ---- one more definition, by the answer

pub gathers_added : {A : Type 0} {first : ℕ} {before : List Clause} {names : Names ℕ} {combined : List Combined} (number : ℕ) (clause : Clause) (old new : Combined) → IsGathered first before names combined → kept_for names clause.name ≡ Some number → slice_get combined number ≡ Some old → (result : Result A SchemaFault) → AddsTo clause.combine clause.body old new result → GathersOne first before clause combined names (set combined number new) result
gathers_added {combined = combined} number clause old new h kept at (Ok done) added =
    let behind = (combination_there clause.name number h kept).1 in
    (one_added number clause old new h kept at added.0 added.1, λ n lt. set_elsewhere combined number n new (omega (arith, behind, lt)))
gathers_added number clause old new h kept at (Err NoMemory) added = tt
gathers_added number clause old new h kept at (Err (Unreadable cause.CombineClash)) added = clashing number clause old h kept at added
gathers_added number clause old new h kept at (Err other) added = absurd added

pub gathers_begun : {first : ℕ} {before : List Clause} {names : Names ℕ} {combined : List Combined} (after : Names ℕ) (all : List Combined) (clause : Clause) (new : Combined) → IsGathered first before names combined → kept_for names clause.name ≡ None → KeepsOne names clause.name (length combined) after → new.bodies.items ≡ clause.body ∷ [] → HasSigns (clause.combine ∷ []) new → all ≡ combined ++ new ∷ [] → IsGathered first (before ++ clause ∷ []) after all × KeepsFirst first combined all
gathers_begun {first = first} {before = before} {combined = combined} after all clause new h none keeps bodies signs is = (
  subst (λ (js : List Combined). IsGathered first (before ++ clause ∷ []) after js) (sym is) (one_begun clause new h none keeps bodies signs),
  λ n lt. ap (λ (js : List Combined). slice_get js n) is ∙ before_more combined (new ∷ []) n (omega (arith, lt, h.behind)),
)
  where
    before_more : (old more : List Combined) (n : ℕ) → n < length old → slice_get (old ++ more) n ≡ slice_get old n
    before_more [] more n lt = absurd (omega arith)
    before_more (x ∷ old) more zero lt = refl
    before_more (x ∷ old) more (suc n) lt = before_more old more n (omega arith)

-- ---- all definitions

pub gathers_failed : (first : ℕ) (names : Names ℕ) (old mid combined : List Combined) (before : List Clause) (clause : Clause) (after clauses : List Clause) (fault : SchemaFault) → clauses ≡ (before ++ clause ∷ []) ++ after → GathersOne {A = Unit {0}} first before clause mid names combined (Err fault) → Gathers clauses old combined (Err fault)
gathers_failed first names old mid combined before clause after clauses NoMemory is h = tt
gathers_failed first names old mid combined before clause after clauses (Unreadable cause.CombineClash) is h = (
  clause.name,
  ap (λ (cs : List Clause). clash (combines_of (clauses_of clause.name cs))) is
      ∙ ap (λ (cs : List Clause). clash (combines_of cs)) (filter-append (λ (c : Clause). same_defined clause.name c.name) (before ++ clause ∷ []) after)
      ∙ ap clash (map-append (λ (c : Clause). c.combine) (clauses_of clause.name (before ++ clause ∷ [])) (clauses_of clause.name after))
      ∙ clash_more (combines_of (clauses_of clause.name (before ++ clause ∷ []))) (combines_of (clauses_of clause.name after)) h,
)
gathers_failed first names old mid combined before clause after clauses fault is h = absurd h

pub up_to_it : (clauses : List Clause) (k : ℕ) (clause : Clause) → k < length clauses → clause ≡ get_or clauses k clause → take (k + 1) clauses ≡ take k clauses ++ clause ∷ []
up_to_it clauses k clause lt is = take_more clauses k clause lt ∙ ap (λ (c : Clause). take k clauses ++ c ∷ []) (sym is)

-- the definitions up to one, it, and those behind it
pub around_it : (clauses : List Clause) (k : ℕ) (clause : Clause) → k < length clauses → clause ≡ get_or clauses k clause → clauses ≡ (take k clauses ++ clause ∷ []) ++ drop (k + 1) clauses
around_it clauses k clause lt is =
    sym (take-append-drop (k + 1) clauses) ∙ ap (λ (cs : List Clause). cs ++ drop (k + 1) clauses) (up_to_it clauses k clause lt is)
