-- What is judged of each pattern is judged of the start and of all that it reaches.
use Rattle.std.specs.Prelude.{◌≡◌, ℕ, Bool, true, false, ◌||◌, ◌==◌, List, [], ◌∷◌, Option, Some, None, slice_get, IsTrue, ◌↔◌}
use Rattle.std.proofs.Common.{refl, sym, ap, ◌∙◌, inl, inr}
use Rattle.std.proofs.lemmas.Bool.{false≢true, or_left, or_right, or_cases, eqb-true, eq-eqb}
use Rattle.rng_core.specs.Patterns.{Pattern, Definition}
use Rattle.rng_restrict.specs.Reaching.{Somewhere, in_start, in_content}
use Rattle.rng_restrict.specs.Paths.{HasPath, BreaksPath}
use Rattle.rng_restrict.specs.Contents.{BreaksMixture}
use Rattle.rng_restrict.specs.Finding.{is_among, passes, some_passes, AreReached, has_part, begins_path, is_outside_start, is_mixture}
use Rattle.rng_restrict.proofs.PathsFound.{path_found, path_is_found, start_path_found, start_path_is_found}
use Rattle.rng_restrict.proofs.ContentsFound.{mixture_found, mixture_is_found}

-- a definition of one of the numbers whose content passes the test
record Passing (test : Pattern → Bool) (defs : List Definition) (numbers : List ℕ) : Type 0 where
  number : ℕ
  definition : Definition
  among : is_among number numbers ≡ true
  there : slice_get defs number ≡ Some definition
  passed : test definition.content ≡ true

passing_at : (test : Pattern → Bool) (defs : List Definition) (i : ℕ) (more : List ℕ) (o : Option Definition) → slice_get defs i ≡ o → passes test o ≡ true → Passing test defs (i ∷ more)
passing_at test defs i more None there found = absurd (false≢true found)
passing_at test defs i more (Some d) there found = record { number = i; definition = d; among = or_left _ _ (eq-eqb i i refl); there = there; passed = found }

passing_found : (test : Pattern → Bool) (defs : List Definition) (numbers : List ℕ) → some_passes test defs numbers ≡ true → Passing test defs numbers
passing_found test defs [] found = absurd (false≢true found)
passing_found test defs (i ∷ more) found = elim (or_cases (passes test (slice_get defs i)) (some_passes test defs more) found) [
  | inl first ↦ passing_at test defs i more (slice_get defs i) refl first
  | inr later ↦ let p = passing_found test defs more later in record { number = p.number; definition = p.definition; among = or_right (i == p.number) _ p.among; there = p.there; passed = p.passed }
]

passing_is_found : (test : Pattern → Bool) (defs : List Definition) (numbers : List ℕ) (i : ℕ) (d : Definition) → is_among i numbers ≡ true → slice_get defs i ≡ Some d → test d.content ≡ true → some_passes test defs numbers ≡ true
passing_is_found test defs [] i d among there passed = absurd (false≢true among)
passing_is_found test defs (n ∷ more) i d among there passed = elim (or_cases (n == i) (is_among i more) among) [
  | inl first ↦
      let here : passes test (slice_get defs n) ≡ true = ap (λ (k : ℕ). passes test (slice_get defs k)) (eqb-true n i first) ∙ ap (passes test) there ∙ passed in
      or_left _ _ here
  | inr later ↦ or_right (passes test (slice_get defs n)) _ (passing_is_found test defs more i d later there passed)
]

-- a test that tells of each pattern whether it has the fault tells of the grammar
pub somewhere_found : (HasFault : Pattern → Type 0) (test : Pattern → Bool) (start : Pattern) (defs : List Definition) (numbers : List ℕ) → ((p : Pattern) → test p ≡ true → HasFault p) → AreReached start defs numbers → (test start || some_passes test defs numbers) ≡ true → Somewhere HasFault start defs
somewhere_found HasFault test start defs numbers tells reached found = elim (or_cases (test start) (some_passes test defs numbers) found) [
  | inl first ↦ in_start (tells start first)
  | inr later ↦ let p = passing_found test defs numbers later in in_content (reached.only p.number p.definition p.among p.there) (tells p.definition.content p.passed)
]

pub somewhere_is_found : (HasFault : Pattern → Type 0) (test : Pattern → Bool) (start : Pattern) (defs : List Definition) (numbers : List ℕ) → ((p : Pattern) → HasFault p → test p ≡ true) → AreReached start defs numbers → Somewhere HasFault start defs → (test start || some_passes test defs numbers) ≡ true
somewhere_is_found HasFault test start defs numbers tells reached (in_start fault) = or_left _ _ (tells start fault)
somewhere_is_found HasFault test start defs numbers tells reached (in_content {d = d} is_reached fault) =
    let h = reached.all d is_reached in
    or_right (test start) _ (passing_is_found test defs numbers h.number d h.among h.there (tells d.content fault))

-- each restriction by its test
path_is : (start : Pattern) (defs : List Definition) (numbers : List ℕ) (broken : Bool) → AreReached start defs numbers → broken ≡ (has_part is_outside_start start || (has_part begins_path start || some_passes (has_part begins_path) defs numbers)) → IsTrue broken → BreaksPath start defs
path_is start defs numbers broken reached is found = elim (or_cases (has_part is_outside_start start) (has_part begins_path start || some_passes (has_part begins_path) defs numbers) (sym is ∙ found)) [
  | inl first ↦ inl (start_path_found start first)
  | inr later ↦ inr (somewhere_found HasPath (has_part begins_path) start defs numbers path_found reached later)
]

path_of : (start : Pattern) (defs : List Definition) (numbers : List ℕ) (broken : Bool) → AreReached start defs numbers → broken ≡ (has_part is_outside_start start || (has_part begins_path start || some_passes (has_part begins_path) defs numbers)) → BreaksPath start defs → IsTrue broken
path_of start defs numbers broken reached is (inl first) = is ∙ or_left _ _ (start_path_is_found start first)
path_of start defs numbers broken reached is (inr later) = is ∙ or_right (has_part is_outside_start start) _ (somewhere_is_found HasPath (has_part begins_path) start defs numbers path_is_found reached later)

pub path_judged : (start : Pattern) (defs : List Definition) (numbers : List ℕ) (broken : Bool) → AreReached start defs numbers → broken ≡ (has_part is_outside_start start || (has_part begins_path start || some_passes (has_part begins_path) defs numbers)) → IsTrue broken ↔ BreaksPath start defs
path_judged start defs numbers broken reached is = (path_is start defs numbers broken reached is, path_of start defs numbers broken reached is)

pub judged : (HasFault : Pattern → Type 0) (test : Pattern → Bool) (start : Pattern) (defs : List Definition) (numbers : List ℕ) (broken : Bool) → ((p : Pattern) → test p ≡ true → HasFault p) → ((p : Pattern) → HasFault p → test p ≡ true) → AreReached start defs numbers → broken ≡ (test start || some_passes test defs numbers) → IsTrue broken ↔ Somewhere HasFault start defs
judged HasFault test start defs numbers broken tells told reached is = (
  λ found. somewhere_found HasFault test start defs numbers tells reached (sym is ∙ found),
  λ fault. is ∙ somewhere_is_found HasFault test start defs numbers told reached fault,
)

mixture_is : (start : Pattern) (defs : List Definition) (numbers : List ℕ) → AreReached start defs numbers → some_passes is_mixture defs numbers ≡ true → BreaksMixture start defs
mixture_is start defs numbers reached found =
    let p = passing_found is_mixture defs numbers found in
    record { definition = p.definition; reached = reached.only p.number p.definition p.among p.there; mixture = mixture_found p.definition.content p.passed }

mixture_of : (start : Pattern) (defs : List Definition) (numbers : List ℕ) → AreReached start defs numbers → BreaksMixture start defs → some_passes is_mixture defs numbers ≡ true
mixture_of start defs numbers reached b =
    let h = reached.all b.definition b.reached in
    passing_is_found is_mixture defs numbers h.number b.definition h.among h.there (mixture_is_found b.definition.content b.mixture)

pub mixture_judged : (start : Pattern) (defs : List Definition) (numbers : List ℕ) (broken : Bool) → AreReached start defs numbers → broken ≡ some_passes is_mixture defs numbers → IsTrue broken ↔ BreaksMixture start defs
mixture_judged start defs numbers broken reached is = (λ found. mixture_is start defs numbers reached (sym is ∙ found), λ b. is ∙ mixture_of start defs numbers reached b)

-- the same test, by the parts of an or
pub either_of : (found first second one other : Bool) → found ≡ (first || second) → first ≡ one → second ≡ other → found ≡ (one || other)
either_of found first second one other is is_first is_second = is ∙ ap (λ (b : Bool). b || second) is_first ∙ ap (λ (b : Bool). one || b) is_second

-- what a test says of a restriction
pub unbroken : {Broken : Type 0} (test : Bool) → (IsTrue test ↔ Broken) → test ≡ false → Broken → ⊥
unbroken test tells is_false broken = false≢true (sym is_false ∙ tells.1 broken)
