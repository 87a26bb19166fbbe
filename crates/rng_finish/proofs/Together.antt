-- What the leaves of attributes and the other leaves match, all leaves match.
use Rattle.std.proofs.Common.{◌≡◌, List, [], ◌∷◌, ◌++◌, Bool, true, false, refl, sym, subst}
use Rattle.std.specs.Prelude.{not}
use Rattle.nx_base.specs.Trees.{Attribute, Children, nil, string, element}
use Rattle.rng_core.specs.Matching.{InOrder, string_of_first, element_of_first, Split, no_attribute, to_first, to_second, then_second, Matches}
use Rattle.rng_core.specs.Names.{Class}
use Rattle.rng_core.specs.Patterns.{Pattern, Definition, not_allowed, empty, any_text, typed, literal, listed, attribute, ref, one_or_more, choice, group, interleave}
use Rattle.rng_residual.proofs.Joining.{cat}
use Rattle.rng_residual.proofs.SmallPatterns.{split_none, order_all}
use Rattle.rng_fill.specs.Matched.{AreMatched, none_matched, one_matched}
use Rattle.rng_fill.specs.Sorted.{attribute_leaves, AreAttributesOf, no_leaf, one_leaf}
use Rattle.rng_finish.specs.Filled.{child_leaves}

-- nothing is split in nothing
none_split : {a x y : List Attribute} → Split a x y → a ≡ [] → (x ≡ []) × (y ≡ [])
none_split no_attribute is = (refl, refl)
none_split (to_first s) is = cc
none_split (to_second s) is = cc

-- more children behind the second part
order_more : {c x y : Children} (k : Children) → InOrder c x y → InOrder (cat c k) x (cat y k)
unfolding cat
order_more k then_second = then_second
order_more k (string_of_first o) = string_of_first (order_more k o)
order_more k (element_of_first o) = element_of_first (order_more k o)

module _ {g : List Definition} where
  other : (p : Pattern) (ps : List Pattern) {a : List Attribute} {c : Children} → AreMatched g (p ∷ child_leaves ps) [] c
      → ((k : Children) → AreMatched g (child_leaves ps) [] k → AreMatched g ps a k) → AreMatched g (p ∷ ps) a c
  other p ps {a = a} m go = by_parts m refl
    where
      by_parts : {b : List Attribute} {c : Children} → AreMatched g (p ∷ child_leaves ps) b c → b ≡ [] → AreMatched g (p ∷ ps) a c
      by_parts (one_matched {c1 = c1} {c2 = c2} s o m more) is =
          let e = none_split s is in
          one_matched (split_none a) o (subst (λ (x : List Attribute). Matches g p x c1) e.0 m)
          (go c2 (subst (λ (x : List Attribute). AreMatched g (child_leaves ps) x c2) e.1 more))

  here : {class : Class} {q : Pattern} (ps : List Pattern) {a : List Attribute} {c : Children} → AreAttributesOf g (attribute class q ∷ attribute_leaves ps) a
      → ((b : List Attribute) → AreAttributesOf g (attribute_leaves ps) b → AreMatched g ps b c) → AreMatched g (attribute class q ∷ ps) a c
  here ps (one_leaf {a = a} m more) go = one_matched (to_first (split_none a)) then_second m (go a more)

  pub together : (ps : List Pattern) {a : List Attribute} {c : Children} → AreAttributesOf g (attribute_leaves ps) a
      → AreMatched g (child_leaves ps) [] c → AreMatched g ps a c
  together [] no_leaf none_matched = none_matched
  together (attribute class q ∷ ps) a m = here ps a (λ b more. together ps more m)
  together (not_allowed ∷ ps) a m = other not_allowed ps m (λ k n. together ps a n)
  together (empty ∷ ps) a m = other empty ps m (λ k n. together ps a n)
  together (any_text ∷ ps) a m = other any_text ps m (λ k n. together ps a n)
  together (typed t e ∷ ps) a m = other (typed t e) ps m (λ k n. together ps a n)
  together (literal t v ∷ ps) a m = other (literal t v) ps m (λ k n. together ps a n)
  together (listed p ∷ ps) a m = other (listed p) ps m (λ k n. together ps a n)
  together (ref i ∷ ps) a m = other (ref i) ps m (λ k n. together ps a n)
  together (one_or_more p ∷ ps) a m = other (one_or_more p) ps m (λ k n. together ps a n)
  together (choice p q ∷ ps) a m = other (choice p q) ps m (λ k n. together ps a n)
  together (group p q ∷ ps) a m = other (group p q) ps m (λ k n. together ps a n)
  together (interleave p q ∷ ps) a m = other (interleave p q) ps m (λ k n. together ps a n)

  -- ---- one leaf behind the others, or alone

  pub one_last : {ps : List Pattern} {p : Pattern} {a : List Attribute} {c k : Children} → AreMatched g ps a c → Matches g p [] k
      → AreMatched g (ps ++ p ∷ []) a (cat c k)
  unfolding cat
  one_last {k = k} none_matched m = one_matched no_attribute (order_all k) m none_matched
  one_last {k = k} (one_matched s o n more) m = one_matched s (order_more k o) n (one_last more m)

  pub one_alone : {p : Pattern} {k : Children} → Matches g p [] k → AreMatched g (p ∷ []) [] k
  one_alone {k = k} m = one_matched no_attribute (order_all k) m none_matched
