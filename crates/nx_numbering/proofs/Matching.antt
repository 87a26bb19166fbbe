-- Languages that are one but for numbers match the same.
use Rattle.std.proofs.Common.{◌≡◌, ℕ, zero, suc, ◌+◌, List, [], ◌∷◌, Bool, true, false, refl, sym, subst, Some, inl, inr, arith}
use Rattle.std.specs.Prelude.{IsTrue, slice_get, if◌then◌else◌}
use Rattle.nx_base.specs.Trees.{Attribute, Children}
use Rattle.nx_base.specs.declared.name.Name.{Name}
use Rattle.rng_core.specs.Matching.{Matches, by_first, by_second, by_group, by_empty, by_text, by_one, by_more, by_interleave, by_element, by_attribute, by_blank_attribute, by_data, by_value, by_list}
use Rattle.rng_core.specs.Names.{has_name}
use Rattle.rng_core.specs.Patterns.{Pattern, Definition, Language, ref, not_allowed}
use Rattle.rng_kept.specs.SmallPatterns.{choice_of}
use Rattle.rng_kept.specs.Standing.{IsKnown, known, known_from}
use Rattle.rng_residual.proofs.SmallPatterns.{by_test, or_same, or_sides}
use Rattle.nx_numbering.specs.Answers.{NumbersMatchAlike}
use Rattle.nx_numbering.specs.Numbers.{renumbered, renumbered_in, Renumbers, AreOneButForNumbers}

-- the other way round
abbrev pub one_turned : {g h : Language} → AreOneButForNumbers g h → AreOneButForNumbers h g
one_turned one = record {
  there = one.back;
  back = one.there;
  leads_there = one.leads_back;
  leads_back = one.leads_there;
  there_and_back = one.back_and_there;
  back_and_there = one.there_and_back;
}

pub matches_on : {f : ℕ → ℕ} {g h : Language} {p : Pattern} {a : List Attribute} {c : Children} → Renumbers f g h → Matches g.definitions p a c → Matches h.definitions (renumbered f p) a c
matches_on r (by_first m) = by_first (matches_on r m)
matches_on r (by_second m) = by_second (matches_on r m)
matches_on r (by_group split order m n) = by_group split order (matches_on r m) (matches_on r n)
matches_on r by_empty = by_empty
matches_on r (by_text strings) = by_text strings
matches_on r (by_one m) = by_one (matches_on r m)
matches_on r (by_more split order m n) = by_more split order (matches_on r m) (matches_on r n)
matches_on r (by_interleave split shuffle m n) = by_interleave split shuffle (matches_on r m) (matches_on r n)
matches_on r (by_element {i = i} {d = d} is named weakly m) = by_element (r.definitions i d is) named weakly (matches_on r m)
matches_on r (by_attribute named m) = by_attribute named (matches_on r m)
matches_on r (by_blank_attribute named blank m) = by_blank_attribute named blank (matches_on r m)
matches_on r (by_data accepts excepts) = by_data accepts excepts
matches_on r (by_value accepts same) = by_value accepts same
matches_on r (by_list m) = by_list (matches_on r m)

pub start_matches : {f : ℕ → ℕ} {g h : Language} {a : List Attribute} {c : Children} → Renumbers f g h → Matches g.definitions g.start a c → Matches h.definitions h.start a c
start_matches {h = h} {a = a} {c = c} r m = subst (λ p. Matches h.definitions p a c) (sym r.start) (matches_on r m)

pub numbers_match_alike : NumbersMatchAlike
numbers_match_alike g h a c one m = start_matches one.leads_there m

-- ---- definitions that have a name

pub is_known : {f : ℕ → ℕ} {g h : Language} {n : Name} → Renumbers f g h → IsKnown g n → IsKnown h n
is_known {f = f} r k = record { number = f k.number; definition = renumbered_in f k.definition; is = r.definitions k.number k.definition k.is; named = k.named }

-- what the choice of these matches one of them does
record OneTakes (defs ds : List Definition) (n : Name) (i : ℕ) (a : List Attribute) (c : Children) : Type 0 where
  number : ℕ
  definition : Definition
  is : slice_get ds number ≡ Some definition
  named : IsTrue (has_name definition.class n)
  matched : Matches defs (ref (i + number)) a c

none_matches : {defs : List Definition} {a : List Attribute} {c : Children} → Matches defs not_allowed a c → ⊥
none_matches m = elim m [ ]

one_takes : {defs : List Definition} {a : List Attribute} {c : Children} (ds : List Definition) (n : Name) (i : ℕ) → Matches defs (known_from ds n i) a c → OneTakes defs ds n i a c
one_takes [] n i m = absurd (none_matches m)
one_takes {defs = defs} {a = a} {c = c} (d ∷ ds) n i m = by (has_name d.class n) refl (λ k. one_takes ds n (i + 1) k) m
  where
    behind : OneTakes defs ds n (i + 1) a c → OneTakes defs (d ∷ ds) n i a c
    behind o =
        let at : i + 1 + o.number ≡ i + suc o.number = omega arith in
        record { number = suc o.number; definition = o.definition; is = o.is; named = o.named; matched = subst (λ j. Matches defs (ref j) a c) at o.matched }

    by : (b : Bool) → has_name d.class n ≡ b → (Matches defs (known_from ds n (i + 1)) a c → OneTakes defs ds n (i + 1) a c) →
        Matches defs (if b then choice_of (ref i) (known_from ds n (i + 1)) else known_from ds n (i + 1)) a c → OneTakes defs (d ∷ ds) n i a c
    by true named on k = elim (or_sides ((or_same defs (ref i) (known_from ds n (i + 1))).to k)) [
      | inl this ↦ (let at : i ≡ i + 0 = omega arith in record { number = 0; definition = d; is = refl; named = named; matched = subst (λ j. Matches defs (ref j) a c) at this })
      | inr more ↦ behind (on more)
    ]
    by false named on k = behind (on k)

all_take : {defs : List Definition} {a : List Attribute} {c : Children} (ds : List Definition) (n : Name) (i k : ℕ) (d : Definition) → slice_get ds k ≡ Some d → IsTrue (has_name d.class n) → Matches defs (ref (i + k)) a c → Matches defs (known_from ds n i) a c
all_take [] n i k d e h m = cc
all_take {defs = defs} {a = a} {c = c} (x ∷ ds) n i zero d e h m =
    let same : x ≡ d = cc in
    let t : has_name x.class n ≡ true = subst (λ (y : Definition). has_name y.class n ≡ true) (sym same) h in
    let at : i + 0 ≡ i = omega arith in
    rw t ((or_same defs (ref i) (known_from ds n (i + 1))).from (by_first (subst (λ j. Matches defs (ref j) a c) at m)))
all_take {defs = defs} {a = a} {c = c} (x ∷ ds) n i (suc k) d e h m =
    let at : i + suc k ≡ i + 1 + k = omega arith in
    let w = all_take {defs = defs} {a = a} {c = c} ds n (i + 1) k d e h (subst (λ j. Matches defs (ref j) a c) at m) in
    by_test (λ r. Matches defs r a c) (has_name x.class n) (choice_of (ref i) (known_from ds n (i + 1))) (known_from ds n (i + 1))
    (λ _. (or_same defs (ref i) (known_from ds n (i + 1))).from (by_second w))
    (λ _. w)

pub known_matches : {f : ℕ → ℕ} {g h : Language} {a : List Attribute} {c : Children} (n : Name) → Renumbers f g h → Matches g.definitions (known g n) a c → Matches h.definitions (known h n) a c
known_matches {f = f} {g = g} {h = h} {a = a} {c = c} n r m =
    let o = one_takes g.definitions n 0 m in
    let at : 0 + o.number ≡ o.number = omega arith in
    let on = matches_on r (subst (λ j. Matches g.definitions (ref j) a c) at o.matched) in
    let back : f o.number ≡ 0 + f o.number = omega arith in
    all_take h.definitions n 0 (f o.number) (renumbered_in f o.definition) (r.definitions o.number o.definition o.is) o.named (subst (λ j. Matches h.definitions (ref j) a c) back on)
