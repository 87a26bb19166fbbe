-- What is left of patterns, step by step.
use Rattle.std.proofs.Common.{◌≡◌, ℕ, ◌<◌, List, [], ◌∷◌, ◌++◌, length, Bool, true, false, not, ◌&&◌, ◌||◌, ◌==◌, Option, Some, None, Result, Ok, Err, refl, sym, ap, subst, ◌∙◌, arith, inl, inr, true≢false}
use Rattle.std.specs.Prelude.{slice_get, IfOk, nat_lt, if◌then◌else◌}
use Rattle.std.proofs.lemmas.Bool.{ltb-true, or_cases, or_left, or_right}
use Rattle.rng_types.specs.declared.datatype.Datatype.{Datatype}
use Rattle.rng_types.specs.declared.datatype.Except.{Except}
use Rattle.rng_core.specs.Names.{Class}
use Rattle.rng_core.specs.Patterns.{Pattern, Definition, not_allowed, empty, any_text, typed, literal, listed, attribute, ref, one_or_more, choice, group, interleave}
use Rattle.rng_restrict.specs.Finding.{is_among, with_number, with_references}
use Rattle.rng_live.specs.declared.condition.Condition.{Condition}
use Rattle.rng_live.specs.declared.condition.Condition.TheVariants.{Known, If, Both, Either}
use Rattle.rng_live.specs.Conditions.{Holds, holds_known, holds_if, holds_both, holds_first, holds_second, is_marked, AreHeld, holds_where}
use Rattle.rng_types.specs.MemberTest.{has_member}
use Rattle.rng_kept.specs.Nullable.{nullable}
use Rattle.rng_kept.specs.SolidStrings.{has_words}
use Rattle.rng_live.specs.Living.{lives_with, has_string, has_some_attribute_name}
use Rattle.rng_live.specs.Spelling.{IsAt, Spells, spells_not_allowed, spells_empty, spells_text, spells_data, spells_value, spells_list, spells_attribute, spells_ref, spells_one_or_more, spells_choice, spells_group, spells_interleave}
use Rattle.rng_live.specs.Pruned.{PrunesBy, prunes_not_allowed, prunes_empty, prunes_text, prunes_data, prunes_value, prunes_list, prunes_attribute, prunes_ref, prunes_one_or_more, prunes_neither, prunes_second, prunes_first, prunes_group, prunes_interleave}
use Rattle.rng_live.specs.Left.{sides, prune, first_of, second_of, refs_are, IsLeft, LeavesTo}
use Rattle.rng_live.proofs.Places.{at_front}

split_and : (a b : Bool) → (a && b) ≡ true → (a ≡ true) × (b ≡ true)
split_and true b h = (refl, h)
split_and false b h = absurd (true≢false (sym h))

-- ---- marks of conditions

module _ {conditions : List Condition} {marks : List Bool} (held : AreHeld conditions marks) where
  reason : {k : ℕ} {c : Condition} → slice_get conditions k ≡ Some c → Holds conditions k → holds_where (is_marked marks) c ≡ true
  reason {c = c} e (holds_known f) = let same : Known true ≡ c = cc in subst (λ (x : Condition). holds_where (is_marked marks) x ≡ true) same refl
  reason {c = c} e (holds_if {a = a} f h) = let same : If true a ≡ c = cc in subst (λ (x : Condition). holds_where (is_marked marks) x ≡ true) same (held.all a h)
  reason {c = c} e (holds_both {a = a} {b = b} f h i) =
      let same : Both a b ≡ c = cc in
      let x = held.all a h in
      let y = held.all b i in
      let both : (is_marked marks a && is_marked marks b) ≡ true = rw (x, y) refl in
      subst (λ (x : Condition). holds_where (is_marked marks) x ≡ true) same both
  reason {c = c} e (holds_first {a = a} {b = b} f h) = let same : Either a b ≡ c = cc in subst (λ (x : Condition). holds_where (is_marked marks) x ≡ true) same (or_left (is_marked marks a) (is_marked marks b) (held.all a h))
  reason {c = c} e (holds_second {a = a} {b = b} f h) = let same : Either a b ≡ c = cc in subst (λ (x : Condition). holds_where (is_marked marks) x ≡ true) same (or_right (is_marked marks a) (is_marked marks b) (held.all b h))

  holds : {k : ℕ} (c : Condition) → slice_get conditions k ≡ Some c → holds_where (is_marked marks) c ≡ true → Holds conditions k
  holds (Known b) e h = holds_known (e ∙ ap (λ (v : Bool). Some (Known v)) h)
  holds (If b a) e h = let d = split_and b (is_marked marks a) h in holds_if (e ∙ ap (λ (v : Bool). Some (If v a)) d.0) (held.only a d.1)
  holds (Both a b) e h = let d = split_and (is_marked marks a) (is_marked marks b) h in holds_both e (held.only a d.0) (held.only b d.1)
  holds (Either a b) e h = elim (or_cases (is_marked marks a) (is_marked marks b) h) [ inl i ↦ holds_first e (held.only a i) | inr i ↦ holds_second e (held.only b i) ]

  -- a mark is what its condition gives by the marks
  pub marked_by : (k : ℕ) (c : Condition) → slice_get conditions k ≡ Some c → is_marked marks k ≡ holds_where (is_marked marks) c
  marked_by k c e = go (is_marked marks k) refl (holds_where (is_marked marks) c) refl
    where
      go : (m : Bool) → is_marked marks k ≡ m → (h : Bool) → holds_where (is_marked marks) c ≡ h → m ≡ h
      go true f true g = refl
      go true f false g = absurd (true≢false (sym (reason e (held.only k f)) ∙ g))
      go false f true g = absurd (true≢false (sym (held.all k (holds c e g)) ∙ f))
      go false f false g = refl

  -- the mark of a pattern's condition says whether it lives
  pub mark_lives : {low k : ℕ} {p : Pattern} → Spells low conditions k p → is_marked marks k ≡ lives_with marks p
  mark_lives {k = k} (spells_not_allowed a) = marked_by k (Known false) a.is
  mark_lives {k = k} (spells_empty a) = marked_by k (Known true) a.is
  mark_lives {k = k} (spells_text a) = marked_by k (Known true) a.is
  mark_lives {k = k} (spells_data {type = type} {excepts = es} a) = marked_by k (Known (has_member type es false)) a.is
  mark_lives {k = k} (spells_value a) = marked_by k (Known true) a.is
  mark_lives {k = k} (spells_list {a = x} {p = p} a s) = marked_by k (If (has_words p || nullable p) x) a.is ∙ ap (λ (v : Bool). (has_words p || nullable p) && v) (mark_lives s)
  mark_lives {k = k} (spells_attribute {a = x} {c = c} {p = p} a s) =
      marked_by k (If (has_some_attribute_name c && (has_string p || nullable p)) x) a.is ∙ ap (λ (v : Bool). (has_some_attribute_name c && (has_string p || nullable p)) && v) (mark_lives s)
  mark_lives {k = k} (spells_ref {i = i} a) = marked_by k (If true i) a.is
  mark_lives {k = k} (spells_one_or_more {a = x} a s) = marked_by k (If true x) a.is ∙ mark_lives s
  mark_lives {k = k} (spells_choice {a = x} {b = y} {p = p} {q = q} a s r) =
      marked_by k (Either x y) a.is ∙ ap (λ (v : Bool). v || is_marked marks y) (mark_lives s) ∙ ap (λ (v : Bool). lives_with marks p || v) (mark_lives r)
  mark_lives {k = k} (spells_group {a = x} {b = y} {p = p} {q = q} a s r) =
      marked_by k (Both x y) a.is ∙ ap (λ (v : Bool). v && is_marked marks y) (mark_lives s) ∙ ap (λ (v : Bool). lives_with marks p && v) (mark_lives r)
  mark_lives {k = k} (spells_interleave {a = x} {b = y} {p = p} {q = q} a s r) =
      marked_by k (Both x y) a.is ∙ ap (λ (v : Bool). v && is_marked marks y) (mark_lives s) ∙ ap (λ (v : Bool). lives_with marks p && v) (mark_lives r)

-- ---- numbers stay

stays_if : (test : Bool) (i : ℕ) (found : List ℕ) (k j : ℕ) → slice_get found k ≡ Some j → slice_get (if test then found ++ i ∷ [] else found) k ≡ Some j
stays_if true i found k j e = at_front found (i ∷ []) k j e
stays_if false i found k j e = e

pub number_stays : (count i : ℕ) (found : List ℕ) (k j : ℕ) → slice_get found k ≡ Some j → slice_get (with_number count i found) k ≡ Some j
unfolding with_number
number_stays count i found k j e = stays_if (nat_lt i count && not (is_among i found)) i found k j e

pub numbers_stay : (count : ℕ) (p : Pattern) (found : List ℕ) (k j : ℕ) → slice_get found k ≡ Some j → slice_get (with_references count p found) k ≡ Some j
numbers_stay count not_allowed found k j e = e
numbers_stay count empty found k j e = e
numbers_stay count any_text found k j e = e
numbers_stay count (typed type excepts) found k j e = e
numbers_stay count (literal type text) found k j e = e
numbers_stay count (listed p) found k j e = numbers_stay count p found k j e
numbers_stay count (attribute c p) found k j e = numbers_stay count p found k j e
numbers_stay count (ref i) found k j e = number_stays count i found k j e
numbers_stay count (one_or_more p) found k j e = numbers_stay count p found k j e
numbers_stay count (choice p q) found k j e = numbers_stay count q (with_references count p found) k j (numbers_stay count p found k j e)
numbers_stay count (group p q) found k j e = numbers_stay count q (with_references count p found) k j (numbers_stay count p found k j e)
numbers_stay count (interleave p q) found k j e = numbers_stay count q (with_references count p found) k j (numbers_stay count p found k j e)

-- numbers of one list are those of another
pub record AreStill (before after : List ℕ) : Type 0 where
  pub still : (k j : ℕ) → slice_get before k ≡ Some j → slice_get after k ≡ Some j

pub prunes_still : {L D : Pattern → Type 0} {before after : List ℕ} {p r : Pattern} → AreStill before after → PrunesBy L D before p r → PrunesBy L D after p r
prunes_still s prunes_not_allowed = prunes_not_allowed
prunes_still s prunes_empty = prunes_empty
prunes_still s prunes_text = prunes_text
prunes_still s prunes_data = prunes_data
prunes_still s prunes_value = prunes_value
prunes_still s (prunes_list p) = prunes_list (prunes_still s p)
prunes_still s (prunes_attribute p) = prunes_attribute (prunes_still s p)
prunes_still s (prunes_ref {i = i} {k = k} e) = prunes_ref (s.still k i e)
prunes_still s (prunes_one_or_more p) = prunes_one_or_more (prunes_still s p)
prunes_still s (prunes_neither a b p q) = prunes_neither a b (prunes_still s p) (prunes_still s q)
prunes_still s (prunes_second a b p) = prunes_second a b (prunes_still s p)
prunes_still s (prunes_first a p) = prunes_first a (prunes_still s p)
prunes_still s (prunes_group p q) = prunes_group (prunes_still s p) (prunes_still s q)
prunes_still s (prunes_interleave p q) = prunes_interleave (prunes_still s p) (prunes_still s q)

references_still : (count : ℕ) (p : Pattern) (before after : List ℕ) → after ≡ with_references count p before → AreStill before after
references_still count p before after is = record { still = λ k j e. ap (λ (x : List ℕ). slice_get x k) is ∙ numbers_stay count p before k j e }

-- ---- one pattern, by its parts

module _ {conditions : List Condition} {marks : List Bool} {count k : ℕ} where
  pub left_not_allowed : {numbers : List ℕ} → LeavesTo conditions marks count k not_allowed numbers numbers not_allowed
  left_not_allowed = record { leaves = λ low s h r. record { found = refl; left = prunes_not_allowed } }

  pub left_empty : {numbers : List ℕ} → LeavesTo conditions marks count k empty numbers numbers empty
  left_empty = record { leaves = λ low s h r. record { found = refl; left = prunes_empty } }

  pub left_text : {numbers : List ℕ} → LeavesTo conditions marks count k any_text numbers numbers any_text
  left_text = record { leaves = λ low s h r. record { found = refl; left = prunes_text } }

  pub left_data : {type : Datatype} {excepts : List Except} {numbers : List ℕ} → LeavesTo conditions marks count k (typed type excepts) numbers numbers (typed type excepts)
  left_data = record { leaves = λ low s h r. record { found = refl; left = prunes_data } }

  pub left_value : {type : Datatype} {text : List ℕ} {numbers : List ℕ} → LeavesTo conditions marks count k (literal type text) numbers numbers (literal type text)
  left_value = record { leaves = λ low s h r. record { found = refl; left = prunes_value } }

  pub left_ref : {i place : ℕ} {numbers numbers' : List ℕ} {w : Pattern} → numbers' ≡ with_number count i numbers → (i < count → slice_get numbers' place ≡ Some i) → w ≡ ref place → LeavesTo conditions marks count k (ref i) numbers numbers' w
  left_ref {i = i} {numbers = numbers} {numbers' = numbers'} found at e =
      subst (λ (z : Pattern). LeavesTo conditions marks count k (ref i) numbers numbers' z) (sym e) (record { leaves = λ low s h r. record { found = found; left = prunes_ref (at (ltb-true i count r)) } })

-- the parts of what a condition spells, by the places that the code reads
at_first : {conditions : List Condition} {low x y : ℕ} {p : Pattern} (k : ℕ) (c : Condition) → x ≡ first_of (slice_get conditions k) → slice_get conditions k ≡ Some c → first_of (Some c) ≡ y → Spells low conditions y p → Spells low conditions x p
at_first {conditions = conditions} {low = low} {p = p} k c first e f s = subst (λ (z : ℕ). Spells low conditions z p) (sym (first ∙ ap first_of e ∙ f)) s

at_second : {conditions : List Condition} {low x y : ℕ} {p : Pattern} (k : ℕ) (c : Condition) → x ≡ second_of (slice_get conditions k) → slice_get conditions k ≡ Some c → second_of (Some c) ≡ y → Spells low conditions y p → Spells low conditions x p
at_second {conditions = conditions} {low = low} {p = p} k c second e f s = subst (λ (z : ℕ). Spells low conditions z p) (sym (second ∙ ap second_of e ∙ f)) s

module _ {conditions : List Condition} {marks : List Bool} {count k x : ℕ} {p a : Pattern} {numbers numbers' : List ℕ} (first : x ≡ first_of (slice_get conditions k)) (body : LeavesTo conditions marks count x p numbers numbers' a) where
  list_left : {low : ℕ} → Spells low conditions k (listed p) → AreHeld conditions marks → refs_are (λ i. nat_lt i count) p ≡ true → IsLeft count marks (listed p) numbers numbers' (listed a)
  list_left {low = low} (spells_list i s) h r = let b = body.leaves low (at_first k _ first i.is refl s) h r in record { found = b.found; left = prunes_list b.left }

  attribute_left : {low : ℕ} {c : Class} → Spells low conditions k (attribute c p) → AreHeld conditions marks → refs_are (λ i. nat_lt i count) p ≡ true → IsLeft count marks (attribute c p) numbers numbers' (attribute c a)
  attribute_left {low = low} (spells_attribute i s) h r = let b = body.leaves low (at_first k _ first i.is refl s) h r in record { found = b.found; left = prunes_attribute b.left }

  more_left : {low : ℕ} → Spells low conditions k (one_or_more p) → AreHeld conditions marks → refs_are (λ i. nat_lt i count) p ≡ true → IsLeft count marks (one_or_more p) numbers numbers' (one_or_more a)
  more_left {low = low} (spells_one_or_more i s) h r = let b = body.leaves low (at_first k _ first i.is refl s) h r in record { found = b.found; left = prunes_one_or_more b.left }

  pub left_list : {w : Pattern} → w ≡ listed a → LeavesTo conditions marks count k (listed p) numbers numbers' w
  left_list e = subst (λ (z : Pattern). LeavesTo conditions marks count k (listed p) numbers numbers' z) (sym e) (record { leaves = λ low s h r. list_left s h r })

  pub left_attribute : {w : Pattern} {c : Class} → w ≡ attribute c a → LeavesTo conditions marks count k (attribute c p) numbers numbers' w
  left_attribute {c = c} e = subst (λ (z : Pattern). LeavesTo conditions marks count k (attribute c p) numbers numbers' z) (sym e) (record { leaves = λ low s h r. attribute_left s h r })

  pub left_one_or_more : {w : Pattern} → w ≡ one_or_more a → LeavesTo conditions marks count k (one_or_more p) numbers numbers' w
  left_one_or_more e = subst (λ (z : Pattern). LeavesTo conditions marks count k (one_or_more p) numbers numbers' z) (sym e) (record { leaves = λ low s h r. more_left s h r })

-- the two parts of a choice
record OfChoice (conditions : List Condition) (low x y : ℕ) (p q : Pattern) : Type 0 where
  one : Spells low conditions x p
  two : Spells low conditions y q

of_choice : {conditions : List Condition} {low k x y : ℕ} {p q : Pattern} → x ≡ first_of (slice_get conditions k) → y ≡ second_of (slice_get conditions k) → Spells low conditions k (choice p q) → OfChoice conditions low x y p q
of_choice {k = k} first second (spells_choice i s t) = record { one = at_first k _ first i.is refl s; two = at_second k _ second i.is refl t }

refs_both : (count : ℕ) (p q : Pattern) → (refs_are (λ i. nat_lt i count) p && refs_are (λ i. nat_lt i count) q) ≡ true → (refs_are (λ i. nat_lt i count) p ≡ true) × (refs_are (λ i. nat_lt i count) q ≡ true)
refs_both count p q r = split_and (refs_are (λ i. nat_lt i count) p) (refs_are (λ i. nat_lt i count) q) r

sides_of : (marks : List Bool) (p q : Pattern) (u v : Bool) → lives_with marks p ≡ u → lives_with marks q ≡ v → sides u v (prune marks p) (prune marks q) ≡ prune marks (choice p q)
sides_of marks p q u v d e = sym (ap (λ (z : Bool). sides z (lives_with marks q) (prune marks p) (prune marks q)) d ∙ ap (λ (z : Bool). sides u z (prune marks p) (prune marks q)) e)

module _ {conditions : List Condition} {marks : List Bool} {count k x y : ℕ} {p q : Pattern} (first : x ≡ first_of (slice_get conditions k)) (second : y ≡ second_of (slice_get conditions k)) where
  pub left_first_dead : {numbers numbers' : List ℕ} {w : Pattern} → is_marked marks x ≡ false → LeavesTo conditions marks count y q numbers numbers' w → LeavesTo conditions marks count k (choice p q) numbers numbers' w
  left_first_dead {numbers = numbers} {numbers' = numbers'} {w = w} dead side = record { leaves = λ low s h r. go low s h r }
    where
      go : (low : ℕ) → Spells low conditions k (choice p q) → AreHeld conditions marks → refs_are (λ i. nat_lt i count) (choice p q) ≡ true → IsLeft count marks (choice p q) numbers numbers' w
      go low s h r =
          let at = of_choice first second s in
          let d : lives_with marks p ≡ false = sym (mark_lives h at.one) ∙ dead in
          let b = side.leaves low at.two h (refs_both count p q r).1 in
          record { found = b.found ∙ ap (λ (z : Pattern). with_references count z numbers) (sides_of marks p q false (lives_with marks q) d refl); left = prunes_first d b.left }

  pub left_second_dead : {numbers numbers' : List ℕ} {w : Pattern} → is_marked marks x ≡ true → is_marked marks y ≡ false → LeavesTo conditions marks count x p numbers numbers' w → LeavesTo conditions marks count k (choice p q) numbers numbers' w
  left_second_dead {numbers = numbers} {numbers' = numbers'} {w = w} live dead side = record { leaves = λ low s h r. go low s h r }
    where
      go : (low : ℕ) → Spells low conditions k (choice p q) → AreHeld conditions marks → refs_are (λ i. nat_lt i count) (choice p q) ≡ true → IsLeft count marks (choice p q) numbers numbers' w
      go low s h r =
          let at = of_choice first second s in
          let l : lives_with marks p ≡ true = sym (mark_lives h at.one) ∙ live in
          let d : lives_with marks q ≡ false = sym (mark_lives h at.two) ∙ dead in
          let b = side.leaves low at.one h (refs_both count p q r).0 in
          record { found = b.found ∙ ap (λ (z : Pattern). with_references count z numbers) (sides_of marks p q true false l d); left = prunes_second l d b.left }

-- both parts are left
record BothLeft (count : ℕ) (marks : List Bool) (p q : Pattern) (numbers numbers' : List ℕ) (a b : Pattern) : Type 0 where
  found : numbers' ≡ with_references count (prune marks q) (with_references count (prune marks p) numbers)
  front : PrunesBy (λ z. lives_with marks z ≡ true) (λ z. lives_with marks z ≡ false) numbers' p a
  back : PrunesBy (λ z. lives_with marks z ≡ true) (λ z. lives_with marks z ≡ false) numbers' q b

both_left : {marks : List Bool} {count count' : ℕ} {p q a b : Pattern} {numbers between numbers' : List ℕ} → count' ≡ count → IsLeft count marks p numbers between a → IsLeft count' marks q between numbers' b → BothLeft count marks p q numbers numbers' a b
both_left {marks = marks} {count = count} {p = p} {q = q} {b = b} {numbers = numbers} {between = between} {numbers' = numbers'} steady f g' =
    let g : IsLeft count marks q between numbers' b = subst (λ (c : ℕ). IsLeft c marks q between numbers' b) steady g' in
    record {
      found = g.found ∙ ap (λ (z : List ℕ). with_references count (prune marks q) z) f.found;
      front = prunes_still (references_still count (prune marks q) between numbers' g.found) f.left;
      back = g.left;
    }

two_left : {conditions : List Condition} {marks : List Bool} {low count count' x y : ℕ} {p q a b : Pattern} {numbers between numbers' : List ℕ} → count' ≡ count → LeavesTo conditions marks count x p numbers between a → LeavesTo conditions marks count' y q between numbers' b
    → Spells low conditions x p → Spells low conditions y q → AreHeld conditions marks → (refs_are (λ i. nat_lt i count) p && refs_are (λ i. nat_lt i count) q) ≡ true → BothLeft count marks p q numbers numbers' a b
two_left {low = low} {count = count} {p = p} {q = q} steady one two s t h r =
    let d = refs_both count p q r in
    both_left steady (one.leaves low s h d.0) (two.leaves low t h (subst (λ (c : ℕ). refs_are (λ i. nat_lt i c) q ≡ true) (sym steady) d.1))

module _ {conditions : List Condition} {marks : List Bool} {count count' k x y : ℕ} {p q a b : Pattern} {numbers between numbers' : List ℕ} (first : x ≡ first_of (slice_get conditions k)) (second : y ≡ second_of (slice_get conditions k)) (steady : count' ≡ count)
    (one : LeavesTo conditions marks count x p numbers between a) (two : LeavesTo conditions marks count' y q between numbers' b) where
  group_left : {low : ℕ} → Spells low conditions k (group p q) → AreHeld conditions marks → refs_are (λ i. nat_lt i count) (group p q) ≡ true → IsLeft count marks (group p q) numbers numbers' (group a b)
  group_left (spells_group i s t) h r = let c = two_left steady one two (at_first k _ first i.is refl s) (at_second k _ second i.is refl t) h r in record { found = c.found; left = prunes_group c.front c.back }

  interleave_left : {low : ℕ} → Spells low conditions k (interleave p q) → AreHeld conditions marks → refs_are (λ i. nat_lt i count) (interleave p q) ≡ true → IsLeft count marks (interleave p q) numbers numbers' (interleave a b)
  interleave_left (spells_interleave i s t) h r = let c = two_left steady one two (at_first k _ first i.is refl s) (at_second k _ second i.is refl t) h r in record { found = c.found; left = prunes_interleave c.front c.back }

  choice_left : {low : ℕ} → is_marked marks x ≡ true → is_marked marks y ≡ true → Spells low conditions k (choice p q) → AreHeld conditions marks → refs_are (λ i. nat_lt i count) (choice p q) ≡ true → IsLeft count marks (choice p q) numbers numbers' (choice a b)
  choice_left live lives s h r =
      let at = of_choice first second s in
      let c = two_left steady one two at.one at.two h r in
      let l : lives_with marks p ≡ true = sym (mark_lives h at.one) ∙ live in
      let m : lives_with marks q ≡ true = sym (mark_lives h at.two) ∙ lives in
      record { found = c.found ∙ ap (λ (z : Pattern). with_references count z numbers) (sides_of marks p q true true l m); left = prunes_neither l m c.front c.back }

  pub left_group : {w : Pattern} → w ≡ group a b → LeavesTo conditions marks count k (group p q) numbers numbers' w
  left_group e = subst (λ (z : Pattern). LeavesTo conditions marks count k (group p q) numbers numbers' z) (sym e) (record { leaves = λ low s h r. group_left s h r })

  pub left_interleave : {w : Pattern} → w ≡ interleave a b → LeavesTo conditions marks count k (interleave p q) numbers numbers' w
  left_interleave e = subst (λ (z : Pattern). LeavesTo conditions marks count k (interleave p q) numbers numbers' z) (sym e) (record { leaves = λ low s h r. interleave_left s h r })

  pub left_choice : {w : Pattern} → is_marked marks x ≡ true → is_marked marks y ≡ true → w ≡ choice a b → LeavesTo conditions marks count k (choice p q) numbers numbers' w
  left_choice live lives e = subst (λ (z : Pattern). LeavesTo conditions marks count k (choice p q) numbers numbers' z) (sym e) (record { leaves = λ low s h r. choice_left live lives s h r })

-- ---- patterns by what they are

pub one_of : (f : Pattern → Pattern) {w x x' : Pattern} → w ≡ f x → x' ≡ x → w ≡ f x'
one_of f e d = e ∙ ap f (sym d)

pub two_of : (f : Pattern → Pattern → Pattern) {w x x' y y' : Pattern} → w ≡ f x y → x' ≡ x → y' ≡ y → w ≡ f x' y'
two_of f {x' = x'} {y = y} e d h = e ∙ ap (λ (z : Pattern). f z y) (sym d) ∙ ap (f x') (sym h)

pub left_of : {conditions : List Condition} {marks : List Bool} {count k : ℕ} {w p r : Pattern} {numbers numbers' : List ℕ} → w ≡ p → LeavesTo conditions marks count k p numbers numbers' r → LeavesTo conditions marks count k w numbers numbers' r
left_of {conditions = conditions} {marks = marks} {count = count} {k = k} {r = r} {numbers = numbers} {numbers' = numbers'} e l = subst (λ (z : Pattern). LeavesTo conditions marks count k z numbers numbers' r) (sym e) l

pub copy_left : {conditions : List Condition} {marks : List Bool} {count k : ℕ} {w p r : Pattern} {numbers : List ℕ} → w ≡ p → r ≡ w → LeavesTo conditions marks count k p numbers numbers p → LeavesTo conditions marks count k w numbers numbers r
copy_left {conditions = conditions} {marks = marks} {count = count} {k = k} {p = p} {numbers = numbers} e d l = left_of e (subst (λ (z : Pattern). LeavesTo conditions marks count k p numbers numbers z) (sym (d ∙ e)) l)
