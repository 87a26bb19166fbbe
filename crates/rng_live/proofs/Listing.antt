-- Lists of those that wait.
use Rattle.std.proofs.Common.{◌≡◌, ℕ, zero, suc, ◌+◌, ◌<◌, ◌≤◌, List, [], ◌∷◌, ◌++◌, length, get_or, Bool, true, false, Option, Some, None, refl, sym, ap, subst, ◌∙◌, arith, inl, inr, ◌⊎◌, length-append}
use Rattle.std.specs.Prelude.{slice_get}
use Rattle.std.proofs.Math.ListN.{set, length-set, replicate}
use Rattle.std.proofs.lemmas.Bool.{cases_eq}
use Rattle.std.proofs.lemmas.List.{length-replicate}
use Rattle.std.proofs.lemmas.Option.{slice_get-get_or}
use Rattle.rng_live.specs.declared.condition.Condition.{Condition}
use Rattle.rng_live.specs.declared.condition.Condition.TheVariants.{Known, If, Both, Either}
use Rattle.rng_live.specs.declared.waiting.Waiter.{Waiter}
use Rattle.rng_live.specs.Conditions.{RestsOn, rests_if, rests_both_first, rests_both_second, rests_either_first, rests_either_second}
use Rattle.rng_live.specs.Marking.{OnList, on_first, on_later, list_in, list_of, AreOrdered, IsNoted, IsNotedAt, AreListed}
use Rattle.rng_live.proofs.Places.{at_front, at_end, front_or_end, set_here, set_there}

pub on_grown : {waiters : List Waiter} {list : Option ℕ} {k : ℕ} (more : List Waiter) → OnList waiters list k → OnList (waiters ++ more) list k
on_grown {waiters = waiters} more (on_first {at = at} {w = w} e) = on_first (at_front waiters more at w e)
on_grown {waiters = waiters} more (on_later {at = at} {w = w} e o) = on_later (at_front waiters more at w e) (on_grown more o)

same_or_not : (i j : ℕ) → (i ≡ j) ⊎ (i ≡ j → ⊥)
same_or_not i j = cases_eq i j

module _ (on number : ℕ) (waiters : List Waiter) (lists : List (Option ℕ)) (inside : on < length lists) where
  waiter : Waiter
  waiter = record { number = number; before = list_of lists on }

  abbrev more : List Waiter
  more = waiters ++ record { number = number; before = list_of lists on } ∷ []

  abbrev begun : List (Option ℕ)
  begun = set lists on (Some (length waiters))

  here : list_of begun on ≡ Some (length waiters)
  here = ap list_in (set_here lists on (Some (length waiters)) inside)

  there : (x : ℕ) → (x ≡ on → ⊥) → list_of begun x ≡ list_of lists x
  there x other = ap list_in (set_there lists on x (Some (length waiters)) other)

  ordered_more : AreOrdered waiters lists → AreOrdered more begun
  ordered_more are = record {
    ordered = λ at before w e b. elim (front_or_end waiters (record { number = number; before = list_of lists on }) at w e) [
      | inl old ↦ are.ordered at before w old b
      | inr last ↦
          let low : before < length waiters = are.begins on before (ap (λ (v : Waiter). v.before) last.1 ∙ b) in
          let at_last : at ≡ length waiters = last.0 in
          omega arith
    ];
    begins = λ x place e. elim (same_or_not x on) [
      | inl same ↦
          let is : Some (length waiters) ≡ Some place = sym here ∙ ap (list_of begun) (sym same) ∙ e in
          let last : length waiters ≡ place = cc in
          omega (arith, length-append waiters (record { number = number; before = list_of lists on } ∷ []))
      | inr other ↦
          let low : place < length waiters = are.begins x place (sym (there x other) ∙ e) in
          omega (arith, length-append waiters (record { number = number; before = list_of lists on } ∷ []))
    ];
  }

  stays_more : (x k : ℕ) → OnList waiters (list_of lists x) k → OnList more (list_of begun x) k
  stays_more x k o = elim (same_or_not x on) [
    | inl same ↦
        let old : OnList waiters (list_of lists on) k = subst (λ (y : ℕ). OnList waiters (list_of lists y) k) same o in
        let new : OnList more (Some (length waiters)) k = on_later (at_end waiters (record { number = number; before = list_of lists on })) (on_grown (record { number = number; before = list_of lists on } ∷ []) old) in
        subst (λ (list : Option ℕ). OnList more list k) (sym (ap (list_of begun) same ∙ here)) new
    | inr other ↦ subst (λ (list : Option ℕ). OnList more list k) (sym (there x other)) (on_grown (record { number = number; before = list_of lists on } ∷ []) o)
  ]

  pub noted : IsNoted on number waiters lists more begun
  noted = record {
    still_ordered = ordered_more;
    stays = stays_more;
    added = λ _. subst (λ (list : Option ℕ). OnList more list number) (sym here) (on_first (at_end waiters (record { number = number; before = list_of lists on })));
    steady = length-set lists on (Some (length waiters));
  }

-- the same by what the code reads
pub noted_by : {on number place : ℕ} {before : Option ℕ} {waiters waiters' : List Waiter} {lists : List (Option ℕ)} → on < length lists → before ≡ get_or lists on before → place ≡ length waiters
    → waiters' ≡ waiters ++ record { number = number; before = before } ∷ [] → IsNoted on number waiters lists waiters' (set lists on (Some place))
noted_by {on = on} {number = number} {place = place} {before = before} {waiters = waiters} {waiters' = waiters'} {lists = lists} inside read at is =
    let list : list_of lists on ≡ before = ap list_in (slice_get-get_or lists on before inside) ∙ sym read in
    let same : waiters ++ record { number = number; before = list_of lists on } ∷ [] ≡ waiters' = ap (λ (b : Option ℕ). waiters ++ record { number = number; before = b } ∷ []) list ∙ sym is in
    subst (λ (p : ℕ). IsNoted on number waiters lists waiters' (set lists on (Some p))) (sym at)
    (subst (λ (ws : List Waiter). IsNoted on number waiters lists ws (set lists on (Some (length waiters)))) same (noted on number waiters lists inside))

-- one that there isn't has no list
pub noted_not : (on number : ℕ) (waiters : List Waiter) (lists : List (Option ℕ)) → length lists ≤ on → IsNoted on number waiters lists waiters lists
noted_not on number waiters lists outside = record { still_ordered = λ are. are; stays = λ x k o. o; added = λ inside. absurd (omega arith); steady = refl }

-- ---- on the lists of all

pub noted_at_none : (number : ℕ) (b : Bool) (waiters : List Waiter) (lists : List (Option ℕ)) → IsNotedAt number (Known b) waiters lists waiters lists
noted_at_none number b waiters lists = record { still_ordered = λ are. are; stays = λ x k o. o; added = λ x r inside. elim r [ ]; steady = refl }

pub noted_at_one : (number on : ℕ) (b : Bool) {waiters waiters' : List Waiter} {lists lists' : List (Option ℕ)} → IsNoted on number waiters lists waiters' lists' → IsNotedAt number (If b on) waiters lists waiters' lists'
noted_at_one number on b {waiters' = waiters'} {lists = lists} {lists' = lists'} n = record { still_ordered = n.still_ordered; stays = n.stays; added = λ x r inside. there x r inside; steady = n.steady }
  where
    there : (x : ℕ) → RestsOn (If b on) x → x < length lists → OnList waiters' (list_of lists' x) number
    there x rests_if inside = n.added inside

module _ (number a b : ℕ) {waiters between waiters' : List Waiter} {lists lists_between lists' : List (Option ℕ)} (n : IsNoted a number waiters lists between lists_between) (m : IsNoted b number between lists_between waiters' lists') where
  first_added : a < length lists → OnList waiters' (list_of lists' a) number
  first_added inside = m.stays a number (n.added inside)

  second_added : b < length lists → OnList waiters' (list_of lists' b) number
  second_added inside = m.added (subst (λ (l : ℕ). b < l) (sym n.steady) inside)

  both_stay : (x k : ℕ) → OnList waiters (list_of lists x) k → OnList waiters' (list_of lists' x) k
  both_stay x k o = m.stays x k (n.stays x k o)

  added_both : (x : ℕ) → RestsOn (Both a b) x → x < length lists → OnList waiters' (list_of lists' x) number
  added_both x rests_both_first inside = first_added inside
  added_both x rests_both_second inside = second_added inside

  added_either : (x : ℕ) → RestsOn (Either a b) x → x < length lists → OnList waiters' (list_of lists' x) number
  added_either x rests_either_first inside = first_added inside
  added_either x rests_either_second inside = second_added inside

  pub noted_at_both : IsNotedAt number (Both a b) waiters lists waiters' lists'
  noted_at_both = record { still_ordered = λ are. m.still_ordered (n.still_ordered are); stays = both_stay; added = added_both; steady = m.steady ∙ n.steady }

  pub noted_at_either : IsNotedAt number (Either a b) waiters lists waiters' lists'
  noted_at_either = record { still_ordered = λ are. m.still_ordered (n.still_ordered are); stays = both_stay; added = added_either; steady = m.steady ∙ n.steady }

-- ---- on all lists

no_list : (n x : ℕ) → list_of (replicate n None) x ≡ None
no_list zero x = refl
no_list (suc n) zero = refl
no_list (suc n) (suc x) = no_list n x

pub listed_none : (conditions : List Condition) (waiters : List Waiter) (lists : List (Option ℕ)) → waiters ≡ [] → lists ≡ replicate (length conditions) None → AreListed conditions 0 waiters lists
listed_none conditions waiters lists none are = record {
  ordered = record {
    ordered = λ at before w e b. absurd (let nothing : slice_get [] at ≡ Some w = ap (λ (ws : List Waiter). slice_get ws at) (sym none) ∙ e in cc);
    begins = λ x place e. absurd (let nothing : None ≡ Some place = sym (no_list (length conditions) x) ∙ ap (λ (ls : List (Option ℕ)). list_of ls x) (sym are) ∙ e in cc);
  };
  listed = λ k x c low. absurd (omega arith);
  steady = ap (λ (ls : List (Option ℕ)). length ls) are ∙ length-replicate (length conditions) None;
}

pub listed_more : (conditions : List Condition) (k : ℕ) (c : Condition) {waiters waiters' : List Waiter} {lists lists' : List (Option ℕ)} → slice_get conditions k ≡ Some c → AreListed conditions k waiters lists → IsNotedAt k c waiters lists waiters' lists' → AreListed conditions (k + 1) waiters' lists'
listed_more conditions k c {waiters' = waiters'} {lists' = lists'} is are n = record {
  ordered = n.still_ordered are.ordered;
  listed = λ j x d low at r inside. elim (same_or_not j k) [
    | inl same ↦
        let here : Some c ≡ Some d = sym is ∙ ap (slice_get conditions) (sym same) ∙ at in
        let this : d ≡ c = cc in
        let on : OnList waiters' (list_of lists' x) k = n.added x (subst (λ (y : Condition). RestsOn y x) this r) (subst (λ (l : ℕ). x < l) (sym are.steady) inside) in
        subst (λ (y : ℕ). OnList waiters' (list_of lists' x) y) (sym same) on
    | inr other ↦
        let below : j < k = below_or_not j k low other in
        n.stays x j (are.listed j x d below at r inside)
  ];
  steady = n.steady ∙ are.steady;
}
  where
    below_or_not : (j k : ℕ) → j < k + 1 → (j ≡ k → ⊥) → j < k
    below_or_not j k low other = elim (cases_eq j k) [ inl same ↦ absurd (other same) | inr _ ↦ omega arith ]
