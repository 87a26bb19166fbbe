-- Least costs by right and settled ones are costs, and no cost is less.
use Rattle.std.proofs.Common.{◌≡◌, ◌≤◌, ◌<◌, ℕ, zero, suc, List, [], ◌∷◌, Bool, true, Some, refl, sym, subst, ◌∙◌, inl, inr, arith, length}
use Rattle.std.specs.Prelude.{slice_get, nat_lt, IsTrue, ◌↔◌}
use Rattle.std.specs.List.{list_any}
use Rattle.std.proofs.lemmas.List.Folds.{list_any_at}
use Rattle.std.proofs.lemmas.Bool.{cases_lt, or_cases, false≢true, lt-ltb, ltb-true}
use Rattle.std.proofs.lemmas.Option.{slice_get_within}
use Rattle.rng_core.specs.Patterns.{Pattern, Definition, not_allowed, empty, any_text, typed, literal, listed, attribute, ref}
use Rattle.rng_core.specs.Patterns.{one_or_more, choice, group, interleave}
use Rattle.rng_cost.specs.Costs.{HasCost, cost_empty, cost_text, cost_data, cost_value, cost_list, cost_attribute, cost_one_or_more}
use Rattle.rng_cost.specs.Costs.{cost_first, cost_second, cost_group, cost_interleave, cost_ref, IsLarge}
use Rattle.rng_cost.specs.Least.{cost_at, least, AreRight, AreLeast}
use Rattle.rng_cost.specs.Rounds.{AreSettledFrom}

pub within : {g : List Definition} {costs : List ℕ} → AreRight g costs → (p : Pattern) → least costs p ≤ 10001
within r not_allowed = omega arith
within r empty = omega arith
within r any_text = omega arith
within r (typed type excepts) = omega arith
within r (literal type text) = omega arith
within r (listed p) = omega arith
within r (attribute class p) = omega arith
within r (ref i) = omega arith
within r (one_or_more p) = within r p
within r (choice p q) = omega (arith, within r p)
within r (group p q) = omega arith
within r (interleave p q) = omega arith

item_at : (g : List Definition) (i : ℕ) → i < length g → (d : Definition) × (slice_get g i ≡ Some d)
item_at [] i low = absurd (omega (arith, low))
item_at (d ∷ g) zero low = (d, refl)
item_at (d ∷ g) (suc i) low = item_at g i (omega (arith, low))

costs_as : {g : List Definition} (p : Pattern) {m n : ℕ} → m ≡ n → HasCost g p m → HasCost g p n
costs_as {g = g} p same c = subst (λ (k : ℕ). HasCost g p k) same c

-- where some cost is more than 10,000
pub record IsOver (costs : List ℕ) : Type 0 where
  pub number : ℕ
  pub inside : number < length costs
  pub over : 10000 < cost_at costs number

module _ {g : List Definition} {costs : List ℕ} where
  pub sound : AreRight g costs → (p : Pattern) → least costs p ≤ 10000 → HasCost g p (least costs p)
  sound r not_allowed small = absurd (omega (arith, small))
  sound r empty small = cost_empty
  sound r any_text small = cost_text
  sound r (typed type excepts) small = cost_data
  sound r (literal type text) small = cost_value
  sound r (listed p) small = cost_list
  sound r (attribute class p) small = cost_attribute
  sound r (ref i) small =
      let low : cost_at costs i ≤ 10000 = omega (arith, small) in
      let c = r.so i low in
      costs_as (ref i) (omega (arith, small)) (cost_ref c.is c.costs)
  sound r (one_or_more p) small = cost_one_or_more (sound r p small)
  sound r (choice p q) small = elim (cases_lt (least costs q) (least costs p)) [
    | inl second ↦ costs_as (choice p q) (omega (arith, second)) (cost_second (sound r q (omega (arith, second, small))))
    | inr first ↦ costs_as (choice p q) (omega (arith, first)) (cost_first (sound r p (omega (arith, first, small))))
  ]
  sound r (group p q) small = costs_as (group p q) (omega (arith, small))
      (cost_group (sound r p (omega (arith, small))) (sound r q (omega (arith, small))))
  sound r (interleave p q) small = costs_as (interleave p q) (omega (arith, small))
      (cost_interleave (sound r p (omega (arith, small))) (sound r q (omega (arith, small))))

  pub complete : AreSettledFrom g 0 costs → {p : Pattern} {n : ℕ} → HasCost g p n → least costs p ≤ n
  complete s cost_empty = omega arith
  complete s cost_text = omega arith
  complete s cost_data = omega arith
  complete s cost_value = omega arith
  complete s cost_list = omega arith
  complete s cost_attribute = omega arith
  complete s (cost_one_or_more c) = complete s c
  complete s (cost_first c) = omega (arith, complete s c)
  complete s (cost_second c) = omega (arith, complete s c)
  complete s (cost_group c e) = omega (arith, complete s c, complete s e)
  complete s (cost_interleave c e) = omega (arith, complete s c, complete s e)
  complete s (cost_ref {i = i} {d = d} at c) = omega (arith, complete s c, s.settled i d (omega arith) at)

  -- and so by any least costs
  pub complete_by : AreLeast g costs → {p : Pattern} {n : ℕ} → HasCost g p n → least costs p ≤ n
  complete_by a cost_empty = omega arith
  complete_by a cost_text = omega arith
  complete_by a cost_data = omega arith
  complete_by a cost_value = omega arith
  complete_by a cost_list = omega arith
  complete_by a cost_attribute = omega arith
  complete_by a (cost_one_or_more c) = complete_by a c
  complete_by a (cost_first c) = omega (arith, complete_by a c)
  complete_by a (cost_second c) = omega (arith, complete_by a c)
  complete_by a (cost_group c e) = omega (arith, complete_by a c, complete_by a e)
  complete_by a (cost_interleave c e) = omega (arith, complete_by a c, complete_by a e)
  complete_by a (cost_ref {i = i} {d = d} {n = n} at c) = omega (arith, a.least i n (record { definition = d; is = at; costs = c }))

  pub are_least : AreRight g costs → AreSettledFrom g 0 costs → AreLeast g costs
  are_least r s = record {
    right = r;
    least = λ i n c. omega (arith, complete s c.costs, s.settled i c.definition (omega arith) c.is);
  }

  pub over_is_large : AreLeast g costs → IsOver costs → IsLarge g
  over_is_large a o =
      let d = item_at g o.number (omega (arith, o.inside, a.right.as_many)) in
      record {
        number = o.number;
        definition = d.0;
        is = d.1;
        costs_more = λ n small c. absurd (omega (arith, a.least o.number n c, small, o.over));
      }

  pub large_is_over : AreLeast g costs → IsLarge g → IsOver costs
  large_is_over a l = record {
    number = l.number;
    inside = omega (arith, slice_get_within g l.number l.definition l.is, a.right.as_many);
    over = elim (cases_lt 10000 (cost_at costs l.number)) [
      | inl over ↦ over
      | inr small ↦ absurd (l.costs_more (cost_at costs l.number) small (a.right.so l.number small))
    ];
  }

over_at : (costs : List ℕ) → list_any (λ cost. nat_lt 10000 cost) costs ≡ true → IsOver costs
over_at [] some = absurd (false≢true some)
over_at (cost ∷ costs) some = elim (or_cases (nat_lt 10000 cost) (list_any (λ c. nat_lt 10000 c) costs) some) [
  | inl first ↦ record { number = 0; inside = omega arith; over = ltb-true 10000 cost first }
  | inr later ↦ let o = over_at costs later in record { number = suc o.number; inside = omega (arith, o.inside); over = o.over }
]

pub told : {g : List Definition} {costs : List ℕ} (result : Bool) → result ≡ list_any (λ cost. nat_lt 10000 cost) costs → AreLeast g costs
    → IsTrue result ↔ IsLarge g
told {costs = costs} result is a = (
  λ large. over_is_large a (over_at costs (sym is ∙ large)),
  λ large. let o = large_is_over a large in is ∙ list_any_at (λ cost. nat_lt 10000 cost) costs o.number 10001 o.inside
      (lt-ltb 10000 (cost_at costs o.number) o.over),
)
