-- Elements that are numbered, with one more node.
use Rattle.std.proofs.Common.{◌≡◌, ◌≢◌, refl, sym, ap, ◌∙◌, subst, ℕ, zero, suc, ◌+◌, ◌<◌, inl, inr, ◌⊎◌, true, false, List, [], ◌∷◌, ◌++◌, length, set, get_or, slice_get, Some, arith}
use Rattle.std.proofs.lemmas.Option.{same_Some, none-some}
use Rattle.std.proofs.lemmas.Bool.{cases_eq, false≢true}
use Rattle.std.proofs.lemmas.List.{length-set, get_or-set_same, get_or-set_other}
use Rattle.rng_core.specs.Names.{Class}
use Rattle.rng_simplify.specs.declared.resolve.Scope.{Scope}
use Rattle.rng_simplify.specs.declared.resolve.Scope.TheVariants.{Nowhere, Outside, In}
use Rattle.rng_simplify.specs.declared.resolve.Target.{Target}
use Rattle.rng_simplify.specs.declared.resolve.Target.TheVariants.{Nothing, Element}
use Rattle.rng_simplify.specs.ResolvedNodes.{element_number, IsToElement}
use Rattle.rng_simplify.specs.Cells.{Cell}
use Rattle.rng_simplify.specs.Cells as cell
use Rattle.rng_simplify.specs.CellMeanings.{IsCell}
use Rattle.rng_simplify.specs.Findings.{Numbering, with_number, with_numbered, is_element, AreNumbered}
use Rattle.rng_simplify.proofs.Nodes.{one_cell}
use Rattle.rng_simplify.proofs.Scopes.{stays_behind, last_there}

-- what is in a list and one more
pub behind_cases : {X : Type 0} (old : List X) (last : X) (k : ℕ) (x : X) → slice_get (old ++ last ∷ []) k ≡ Some x → (slice_get old k ≡ Some x) ⊎ ((k ≡ length old) × (x ≡ last))
behind_cases [] last zero x h = inr (refl, sym (same_Some last x h))
behind_cases [] last (suc k) x h = absurd (none-some x h)
behind_cases (y ∷ old) last zero x h = inl h
behind_cases (y ∷ old) last (suc k) x h = elim (behind_cases old last k x h) [
  | inl before ↦ inl before
  | inr it ↦ inr (ap suc it.0, it.1)
]

-- an element and what isn't one are two cells
other_cell : (cells : List Cell) (i : ℕ) (c d : Cell) → IsCell cells i c → IsCell cells i d → is_element c ≡ true → is_element d ≡ false → ⊥
other_cell cells i c d at again yes_it no_it = absurd (false≢true (sym no_it ∙ ap is_element (sym (one_cell cells i c d at again)) ∙ yes_it))

module _ {cells : List Cell} {scopes : List Scope} {upto : ℕ} {old : List Target} {now : Numbering} where
  -- a node that isn't numbered
  passed : (c : Cell) → IsCell cells upto c → AreNumbered cells scopes upto old now → ((get_or scopes upto Nowhere ≡ Nowhere) ⊎ (is_element c ≡ false)) → AreNumbered cells scopes (upto + 1) old now
  passed c at h nothing = record {
    all_links = h.all_links;
    other_links = h.other_links;
    numbered = λ i class part lt stands at_i. elim (cases_eq i upto) [
      | inr other ↦ h.numbered i class part (omega (arith, lt, other)) stands at_i
      | inl is ↦ elim nothing [
        | inl nowhere ↦ absurd (stands (ap (λ k. get_or scopes k Nowhere) is ∙ nowhere))
        | inr none ↦ absurd (other_cell cells upto (cell.element class part) c (subst (λ k. IsCell cells k (cell.element class part)) is at_i) at refl none)
      ]
    ];
    linked = λ i class part lt stands at_i. elim (cases_eq i upto) [
      | inr other ↦ h.linked i class part (omega (arith, lt, other)) stands at_i
      | inl is ↦ elim nothing [
        | inl nowhere ↦ absurd (stands (ap (λ k. get_or scopes k Nowhere) is ∙ nowhere))
        | inr none ↦ absurd (other_cell cells upto (cell.element class part) c (subst (λ k. IsCell cells k (cell.element class part)) is at_i) at refl none)
      ]
    ];
    each_number = λ number i there.
        let before = h.each_number number i there in
        (omega (arith, before.0), before.1);
  }

  -- one that is
  counted : (class : Class) (part : ℕ) → IsCell cells upto (cell.element class part) → upto < length now.links → get_or scopes upto Nowhere ≢ Nowhere → AreNumbered cells scopes upto old now → AreNumbered cells scopes (upto + 1) old (with_number upto (cell.element class part) now)
  counted class part at lt stands h =
      let here : get_or (set now.links upto (Element (length now.elements))) upto Nothing ≡ Element (length now.elements) = get_or-set_same now.links upto (Element (length now.elements)) Nothing lt in
      let elsewhere : (i : ℕ) → i ≢ upto → get_or (set now.links upto (Element (length now.elements))) i Nothing ≡ get_or now.links i Nothing = λ i other. get_or-set_other now.links upto i (Element (length now.elements)) Nothing other in
      record {
        all_links = length-set now.links upto (Element (length now.elements)) ∙ h.all_links;
        other_links = λ i c at_i none. elim (cases_eq i upto) [
          | inr other ↦ elsewhere i other ∙ h.other_links i c at_i none
          | inl is ↦ absurd (other_cell cells upto (cell.element class part) c at (subst (λ k. IsCell cells k c) is at_i) refl none)
        ];
        numbered = λ i class_i part_i lt_i stands_i at_i. elim (cases_eq i upto) [
          | inr other ↦
              ap (λ (t : Target). slice_get (now.elements ++ upto ∷ []) (element_number t)) (elsewhere i other)
              ∙ stays_behind now.elements (upto ∷ []) (element_number (get_or now.links i Nothing)) i (h.numbered i class_i part_i (omega (arith, lt_i, other)) stands_i at_i)
          | inl is ↦
              ap (λ k. slice_get (now.elements ++ upto ∷ []) (element_number (get_or (set now.links upto (Element (length now.elements))) k Nothing))) is
              ∙ ap (λ (t : Target). slice_get (now.elements ++ upto ∷ []) (element_number t)) here
              ∙ last_there now.elements upto
              ∙ ap Some (sym is)
        ];
        linked = λ i class_i part_i lt_i stands_i at_i. elim (cases_eq i upto) [
          | inr other ↦
              let P : Target → Type 0 = IsToElement in
              subst P (sym (elsewhere i other)) (h.linked i class_i part_i (omega (arith, lt_i, other)) stands_i at_i)
          | inl is ↦
              let P : Target → Type 0 = IsToElement in
              subst P (sym (ap (λ k. get_or (set now.links upto (Element (length now.elements))) k Nothing) is ∙ here)) tt
        ];
        each_number = λ number i there. elim (behind_cases now.elements upto number i there) [
          | inl before ↦
              let is = h.each_number number i before in
              let other : i ≢ upto = omega (arith, is.0) in
              (omega (arith, is.0), record { class = is.1.class; part = is.1.part; is_element = is.1.is_element; stands = is.1.stands; linked = ap element_number (elsewhere i other) ∙ is.1.linked })
          | inr it ↦ (
            omega (arith, it.1),
            record {
              class = class;
              part = part;
              is_element = subst (λ k. IsCell cells k (cell.element class part)) (sym it.1) at;
              stands = λ none. stands (ap (λ k. get_or scopes k Nowhere) (sym it.1) ∙ none);
              linked = ap (λ k. element_number (get_or (set now.links upto (Element (length now.elements))) k Nothing)) it.1 ∙ ap element_number here ∙ sym it.0;
            },
          )
        ];
      }

  numbered_cell : (c : Cell) → IsCell cells upto c → upto < length now.links → get_or scopes upto Nowhere ≢ Nowhere → AreNumbered cells scopes upto old now → AreNumbered cells scopes (upto + 1) old (with_number upto c now)
  numbered_cell (cell.element class part) at lt stands h = counted class part at lt stands h
  numbered_cell (cell.attribute class part) at lt stands h = passed (cell.attribute class part) at h (inr refl)
  numbered_cell (cell.listed part) at lt stands h = passed (cell.listed part) at h (inr refl)
  numbered_cell (cell.ref name) at lt stands h = passed (cell.ref name) at h (inr refl)
  numbered_cell (cell.parent_ref name) at lt stands h = passed (cell.parent_ref name) at h (inr refl)
  numbered_cell cell.empty at lt stands h = passed cell.empty at h (inr refl)
  numbered_cell cell.any_text at lt stands h = passed cell.any_text at h (inr refl)
  numbered_cell cell.not_allowed at lt stands h = passed cell.not_allowed at h (inr refl)
  numbered_cell (cell.value type text) at lt stands h = passed (cell.value type text) at h (inr refl)
  numbered_cell (cell.typed type params part) at lt stands h = passed (cell.typed type params part) at h (inr refl)
  numbered_cell (cell.grammar clauses) at lt stands h = passed (cell.grammar clauses) at h (inr refl)
  numbered_cell (cell.one_or_more part) at lt stands h = passed (cell.one_or_more part) at h (inr refl)
  numbered_cell (cell.joined sign first second) at lt stands h = passed (cell.joined sign first second) at h (inr refl)

  numbered_at : (scope : Scope) → get_or scopes upto Nowhere ≡ scope → (c : Cell) → IsCell cells upto c → upto < length now.links → AreNumbered cells scopes upto old now → AreNumbered cells scopes (upto + 1) old (with_numbered upto scope c now)
  numbered_at Nowhere is c at lt h = passed c at h (inl is)
  numbered_at Outside is c at lt h = numbered_cell c at lt (λ none. absurd (outside_somewhere (sym is ∙ none))) h
    where
      outside_somewhere : Outside ≡ Nowhere → ⊥
      outside_somewhere e = absurd cc
  numbered_at (In k) is c at lt h = numbered_cell c at lt (λ none. absurd (in_somewhere k (sym is ∙ none))) h
    where
      in_somewhere : (k : ℕ) → In k ≡ Nowhere → ⊥
      in_somewhere k e = absurd cc

  -- one more node
  pub number_more : {after : Numbering} (scope : Scope) (c : Cell) → get_or scopes upto Nowhere ≡ scope → IsCell cells upto c → upto < length now.links → AreNumbered cells scopes upto old now → after ≡ with_numbered upto scope c now → AreNumbered cells scopes (upto + 1) old after
  number_more scope c is at lt h e = subst (λ (n : Numbering). AreNumbered cells scopes (upto + 1) old n) (sym e) (numbered_at scope is c at lt h)

-- no node yet
pub none_numbered : (cells : List Cell) (scopes : List Scope) (links : List Target) → AreNumbered cells scopes 0 links (record { links = links; elements = [] })
none_numbered cells scopes links = record {
  all_links = refl;
  other_links = λ i c at none. refl;
  numbered = λ i class part lt stands at. absurd (omega (arith, lt));
  linked = λ i class part lt stands at. absurd (omega (arith, lt));
  each_number = λ number i there. absurd (none-some i there);
}
