-- A round over the definitions, one content after another.
use Rattle.std.proofs.Common.{◌≡◌, ◌≤◌, ◌<◌, ◌+◌, ℕ, zero, suc, List, Bool, true, false, ◌||◌, Some, refl, sym, subst, ap, ◌∙◌, inl, inr, arith}
use Rattle.std.proofs.Common.{length, map, get_or, set, replicate, ◌*◌}
use Rattle.std.specs.Prelude.{slice_get}
use Rattle.std.proofs.lemmas.Bool.{cases_eq, false≢true}
use Rattle.std.specs.Option.{option_map}
use Rattle.rng_core.specs.declared.grammar.Def.{Def}
use Rattle.rng_core.specs.Meaning.{definition_of}
use Rattle.std.proofs.lemmas.List.{length-set, get_or-set_same, get_or-set_other, length-replicate}
use Rattle.std.proofs.lemmas.List.Sums.{sum_by-set}
use Rattle.std.proofs.lemmas.Option.{slice_get_within, slice_get-map, slice_get_read}
use Rattle.rng_core.specs.Patterns.{Definition}
use Rattle.rng_cost.specs.Costs.{ContentCosts}
use Rattle.rng_cost.specs.Least.{cost_at, least, AreRight}
use Rattle.rng_cost.specs.Rounds.{AreSettledFrom, Settles, Falls, total}
use Rattle.rng_cost.proofs.Exact.{within, sound}

elsewhere : (old new : List ℕ) (k n : ℕ) → new ≡ set old k n → (i : ℕ) → (i ≡ k → ⊥) → cost_at new i ≡ cost_at old i
elsewhere old new k n is i other = ap (λ (x : List ℕ). cost_at x i) is ∙ get_or-set_other old k i n 10001 other

less_fallen : (old new : List ℕ) (k n : ℕ) → new ≡ set old k n → k < length old → n < cost_at old k → total new < total old
less_fallen old new k n is low falls =
    let sums = sum_by-set (λ (n : ℕ). n) old k n 10001 low in
    let same : total new ≡ total (set old k n) = ap total is in
    omega (arith, sums, same, falls)

module _ {g : List Definition} where
  -- before the first round nothing is claimed
  pub right_first : (costs : List ℕ) (count : ℕ) → costs ≡ replicate count 10001 → count ≡ length g → AreRight g costs
  right_first costs count is many = record {
    as_many = ap (λ (x : List ℕ). length x) is ∙ length-replicate count 10001 ∙ many;
    within = λ i. omega (arith, each i);
    so = λ i low. absurd (omega (arith, each i, low));
  }
    where
      each : (i : ℕ) → cost_at costs i ≡ 10001
      each i = ap (λ (x : List ℕ). cost_at x i) is ∙ of count i
        where
          of : (n i : ℕ) → cost_at (replicate n 10001) i ≡ 10001
          of zero i = refl
          of (suc n) zero = refl
          of (suc n) (suc i) = of n i

  -- one cost falls
  module _ (old new : List ℕ) (k : ℕ) (d : Definition) (at : slice_get g k ≡ Some d) (is : new ≡ set old k (least old d.content)) where
    inside : AreRight g old → k < length old
    inside r = omega (arith, slice_get_within g k d at, r.as_many)

    here : AreRight g old → cost_at new k ≡ least old d.content
    here r = ap (λ (x : List ℕ). cost_at x k) is ∙ get_or-set_same old k (least old d.content) 10001 (inside r)

    pub right_fallen : AreRight g old → AreRight g new
    right_fallen r = record {
      as_many = ap (λ (x : List ℕ). length x) is ∙ length-set old k (least old d.content) ∙ r.as_many;
      within = λ i. elim (cases_eq i k) [
        | inl same ↦ subst (λ (j : ℕ). cost_at new j ≤ 10001) (sym same) (omega (arith, here r, within r d.content))
        | inr other ↦ omega (arith, elsewhere old new k (least old d.content) is i other, r.within i)
      ];
      so = λ i low. elim (cases_eq i k) [
        | inl same ↦
            let small : least old d.content ≤ 10000 = omega (arith, here r, ap (cost_at new) same, low) in
            subst (λ (j : ℕ). ContentCosts g j (cost_at new j)) (sym same)
            (subst (λ (n : ℕ). ContentCosts g k n) (sym (here r)) (record { definition = d; is = at; costs = sound r d.content small }))
        | inr other ↦
            let e = elsewhere old new k (least old d.content) is i other in
            subst (λ (n : ℕ). ContentCosts g i n) (sym e) (r.so i (omega (arith, e, low)))
      ];
    }

  none_settled : (costs : List ℕ) (n : ℕ) → n ≡ length g → AreSettledFrom g n costs
  none_settled costs n all = record { settled = λ i d low at. absurd (omega (arith, low, all, slice_get_within g i d at)) }

  one_settled : (k : ℕ) (costs : List ℕ) (d : Definition) → slice_get g k ≡ Some d → AreSettledFrom g (k + 1) costs
      → cost_at costs k ≤ least costs d.content → AreSettledFrom g k costs
  one_settled k costs d at s here = record {
    settled = λ i e low there. elim (cases_eq i k) [
      | inl same ↦
          let both : Some e ≡ Some d = sym there ∙ ap (slice_get g) same ∙ at in
          let this : d ≡ e = cc in
          subst (λ (j : ℕ). cost_at costs j ≤ least costs e.content) (sym same)
          (subst (λ (x : Definition). cost_at costs k ≤ least costs x.content) this here)
      | inr other ↦ s.settled i e (omega (arith, low, other)) there
    ];
  }

-- one content more
falls_more : (g : List Definition) (k : ℕ) (old middle new : List ℕ) (d : Definition) (fell one : Bool) → slice_get g k ≡ Some d
    → length old ≡ length g → Falls g (k + 1) old middle fell → Settles middle new k d.content one → Falls g k old new (one || fell)
falls_more g k old middle new d false false at many f s =
    let same : middle ≡ old = f.1 in
    (one_settled k old d at f.0 (subst (λ (x : List ℕ). cost_at x k ≤ least x d.content) same s.0), s.1 ∙ same)
falls_more g k old middle new d true false at many f s =
    (λ r. subst (λ (x : List ℕ). AreRight g x) (sym s.1) (f.0 r), omega (arith, ap total s.1, f.1), ap (λ (x : List ℕ). length x) s.1 ∙ f.2)
falls_more g k old middle new d false true at many f s =
    let low : k < length middle = omega (arith, slice_get_within g k d at, many, ap (λ (x : List ℕ). length x) f.1) in (
      λ r. right_fallen {g = g} middle new k d at s.1 (subst (λ (x : List ℕ). AreRight g x) (sym f.1) r),
      omega (arith, less_fallen middle new k (least middle d.content) s.1 low s.0, ap total f.1),
      ap (λ (x : List ℕ). length x) s.1 ∙ length-set middle k (least middle d.content) ∙ ap (λ (x : List ℕ). length x) f.1,
    )
falls_more g k old middle new d true true at many f s =
    let low : k < length middle = omega (arith, slice_get_within g k d at, many, f.2) in (
      λ r. right_fallen {g = g} middle new k d at s.1 (f.0 r),
      omega (arith, less_fallen middle new k (least middle d.content) s.1 low s.0, f.1),
      ap (λ (x : List ℕ). length x) s.1 ∙ length-set middle k (least middle d.content) ∙ f.2,
    )

pub falls_down : (g : List Definition) (k m : ℕ) (old middle new : List ℕ) (d : Definition) (fell one : Bool) → m ≡ k + 1 → slice_get g k ≡ Some d
    → length old ≡ length g → Falls g m old middle fell → Settles middle new k d.content one → Falls g k old new (one || fell)
falls_down g k m old middle new d fell one next at many f s =
    falls_more g k old middle new d fell one at many (subst (λ (n : ℕ). Falls g n old middle fell) next f) s

pub falls_first : (g : List Definition) (n : ℕ) (costs : List ℕ) → n ≡ length g → Falls g n costs costs false
falls_first g n costs all = (none_settled costs n all, refl)

-- a round is right, and what it doesn't change is settled
pub round_right : (g : List Definition) (n : ℕ) (old new : List ℕ) (fell : Bool) → AreRight g old → Falls g n old new fell → AreRight g new
round_right g n old new true r f = f.0 r
round_right g n old new false r f = subst (λ (x : List ℕ). AreRight g x) (sym f.1) r

pub round_settled : (g : List Definition) (old new : List ℕ) (fell : Bool) → Falls g 0 old new fell → fell ≡ false → AreSettledFrom g 0 new
round_settled g old new true f is = absurd (false≢true (sym is))
round_settled g old new false f is = subst (λ (x : List ℕ). AreSettledFrom g 0 x) (sym f.1) f.0

-- a number that falls with each round
abbrev pub flag : Bool → ℕ
flag true = 1
flag false = 0

pub round_smaller : (g : List Definition) (n : ℕ) (old new : List ℕ) (fell : Bool) → Falls g n old new fell
    → 2 * total new + flag fell < 2 * total old + 1
round_smaller g n old new true f = omega (arith, f.1)
round_smaller g n old new false f = let same : total new ≡ total old = ap total f.1 in omega (arith, same)

pub def_at : (defs : List Def) (k : ℕ) (d : Def) → k < length defs → d ≡ get_or defs k d
    → slice_get (map definition_of defs) k ≡ Some (definition_of d)
def_at defs k d low is = slice_get-map definition_of defs k ∙ ap (option_map definition_of) (slice_get_read defs (length defs) k d refl low is)
