-- What a pattern's leaves match, put together, the pattern matches.
use Rattle.std.proofs.Common.{List, [], ◌∷◌, ◌++◌, ℕ, Bool, true, false, subst, sym}
use Rattle.std.specs.Prelude.{nat_le, if◌then◌else◌}
use Rattle.nx_base.specs.Trees.{Attribute, Children, nil}
use Rattle.rng_core.specs.Patterns.{Pattern, Definition, not_allowed, empty, any_text, typed, literal, listed, attribute, ref, one_or_more}
use Rattle.rng_core.specs.Patterns.{choice, group, interleave}
use Rattle.rng_core.specs.Matching.{Split, InOrder, then_second, string_of_first, element_of_first, Shuffle, string_to_first, element_to_first}
use Rattle.rng_core.specs.Matching.{no_string, Matches, by_empty, by_text, by_first, by_second, by_group, by_interleave, by_one}
use Rattle.rng_residual.proofs.SmallPatterns.{split_none, split_all_is, order_all_is, shuffle_none}
use Rattle.rng_residual.proofs.Splits.{split_assoc, order_assoc}
use Rattle.rng_cost.specs.Least.{least}
use Rattle.rng_cost.specs.Leaves.{leaves}
use Rattle.rng_fill.specs.Matched.{AreMatched, none_matched, one_matched, LeavesMatch}

-- children in order are children shuffled
shuffled : {c x y : Children} → InOrder c x y → Shuffle c x y
shuffled (then_second {other = c}) = shuffle_none c
shuffled (string_of_first o) = string_to_first (shuffled o)
shuffled (element_of_first o) = element_to_first (shuffled o)

-- what two lists match in a row
record Parted (g : List Definition) (ps qs : List Pattern) (a : List Attribute) (c : Children) : Type 0 where
  a1 : List Attribute
  a2 : List Attribute
  c1 : Children
  c2 : Children
  split : Split a a1 a2
  order : InOrder c c1 c2
  first : AreMatched g ps a1 c1
  second : AreMatched g qs a2 c2

module _ {g : List Definition} where
  parted : (ps qs : List Pattern) {a : List Attribute} {c : Children} → AreMatched g (ps ++ qs) a c → Parted g ps qs a c
  parted [] qs {a = a} {c = c} m = record {
    a1 = [];
    a2 = a;
    c1 = nil;
    c2 = c;
    split = split_none a;
    order = then_second;
    first = none_matched;
    second = m;
  }
  parted (p ∷ ps) qs (one_matched s o m more) =
      let w = parted ps qs more in
      let x = split_assoc s w.split in
      let y = order_assoc o w.order in
      record {
        a1 = x.front;
        a2 = w.a2;
        c1 = y.front;
        c2 = w.c2;
        split = x.outer;
        order = y.outer;
        first = one_matched x.inner y.inner m w.first;
        second = w.second;
      }

  alone : {p : Pattern} {a : List Attribute} {c : Children} → AreMatched g (p ∷ []) a c → Matches g p a c
  alone {p = p} {a = a} {c = c} (one_matched {a1 = b} {c1 = d} s o m none_matched) =
      subst (λ (x : List Attribute). Matches g p x c) (sym (split_all_is s)) (subst (λ (x : Children). Matches g p b x) (sym (order_all_is o)) m)

  nothing : {p : Pattern} {a : List Attribute} {c : Children} → Matches g p [] nil → AreMatched g [] a c → Matches g p a c
  nothing m none_matched = m

  -- a choice by the side that was taken
  by_side : (p q : Pattern) (xs ys : List Pattern) (b : Bool) {a : List Attribute} {c : Children}
      → (AreMatched g xs a c → Matches g p a c) → (AreMatched g ys a c → Matches g q a c)
      → AreMatched g (if b then xs else ys) a c → Matches g (choice p q) a c
  by_side p q xs ys true first second m = by_first (first m)
  by_side p q xs ys false first second m = by_second (second m)

  pub matched_by_leaves : (costs : List ℕ) (p : Pattern) {a : List Attribute} {c : Children} → AreMatched g (leaves costs p) a c → Matches g p a c
  matched_by_leaves costs not_allowed m = alone m
  matched_by_leaves costs empty m = nothing by_empty m
  matched_by_leaves costs any_text m = nothing (by_text no_string) m
  matched_by_leaves costs (typed type excepts) m = alone m
  matched_by_leaves costs (literal type text) m = alone m
  matched_by_leaves costs (listed p) m = alone m
  matched_by_leaves costs (attribute class p) m = alone m
  matched_by_leaves costs (ref i) m = alone m
  matched_by_leaves costs (one_or_more p) m = by_one (matched_by_leaves costs p m)
  matched_by_leaves costs (choice p q) m =
      by_side p q (leaves costs p) (leaves costs q) (nat_le (least costs p) (least costs q))
      (λ n. matched_by_leaves costs p n) (λ n. matched_by_leaves costs q n) m
  matched_by_leaves costs (group p q) m =
      let w = parted (leaves costs p) (leaves costs q) m in
      by_group w.split w.order (matched_by_leaves costs p w.first) (matched_by_leaves costs q w.second)
  matched_by_leaves costs (interleave p q) m =
      let w = parted (leaves costs p) (leaves costs q) m in
      by_interleave w.split (shuffled w.order) (matched_by_leaves costs p w.first) (matched_by_leaves costs q w.second)

pub leaves_match : LeavesMatch
leaves_match g costs p a c m = matched_by_leaves costs p m
