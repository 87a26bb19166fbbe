-- What is left of definitions, one by one.
use Rattle.std.proofs.Common.{◌≡◌, ℕ, suc, ◌+◌, ◌<◌, ◌≤◌, List, [], ◌∷◌, ◌++◌, length, get_or, map, Bool, true, false, Option, Some, None, refl, sym, ap, subst, ◌∙◌, arith, inl, inr, true≢false, length-append}
use Rattle.std.specs.Prelude.{slice_get, nat_lt}
use Rattle.std.proofs.lemmas.List.{length-map}
use Rattle.std.proofs.lemmas.Option.{slice_get_within, slice_get_past, slice_get-get_or}
use Rattle.rng_core.specs.Patterns.{Pattern, Definition, not_allowed, empty, any_text, typed, literal, listed, attribute, ref, one_or_more, choice, group, interleave}
use Rattle.rng_core.specs.declared.grammar.Def.{Def}
use Rattle.rng_core.specs.Meaning.{definition_of}
use Rattle.rng_core.specs.Names.{any_name}
use Rattle.rng_restrict.specs.Finding.{is_among, with_references}
use Rattle.rng_residual.proofs.SmallPatterns.{and_true}
use Rattle.rng_residual.proofs.Nullable.{true_and}
use Rattle.rng_live.specs.declared.condition.Condition.{Condition}
use Rattle.rng_live.specs.declared.condition.Condition.TheVariants.{If}
use Rattle.rng_live.specs.Conditions.{AreHeld}
use Rattle.rng_live.specs.Living.{lives_with, has_some_name}
use Rattle.rng_live.specs.Spelling.{AreSpelled}
use Rattle.rng_live.specs.Pruned.{PrunesBy, PrunesDefinitionBy}
use Rattle.rng_live.specs.Left.{refs_are, first_of, prune, prune_definition, prune_all, IsLeft, LeavesTo}
use Rattle.rng_live.specs.Leaving.{LeavesDefinition, Spread, AreNumbered, AreLeft, LeavesAll}
use Rattle.rng_live.proofs.Places.{front_or_end}
use Rattle.rng_live.proofs.Lefts.{AreStill, prunes_still}
use Rattle.rng_live.proofs.Spreading.{among_at, with_still, spread_more}
use Rattle.rng_live.proofs.Parts.{sides_pass}
use Rattle.rng_live.proofs.Pruning.{is_pruned}

pub left_definition_is : {conditions : List Condition} {marks : List Bool} {count i root : ℕ} {d e : Definition} {numbers numbers' : List ℕ} → root ≡ first_of (slice_get conditions i) → e.class ≡ d.class → LeavesTo conditions marks count root d.content numbers numbers' e.content
    → LeavesDefinition conditions marks count i d numbers numbers' e
left_definition_is {conditions = conditions} {marks = marks} {count = count} {d = d} {e = e} {numbers = numbers} {numbers' = numbers'} read same l = record {
  same_class = same;
  leaves = λ r is. subst (λ (x : ℕ). LeavesTo conditions marks count x d.content numbers numbers' e.content) (read ∙ ap first_of is) l;
}

-- references that pass a test go on passing it
pub prune_refs : (marks : List Bool) (test : ℕ → Bool) (p : Pattern) → refs_are test p ≡ true → refs_are test (prune marks p) ≡ true
prune_refs marks test not_allowed h = refl
prune_refs marks test empty h = refl
prune_refs marks test any_text h = refl
prune_refs marks test (typed type es) h = refl
prune_refs marks test (literal type t) h = refl
prune_refs marks test (ref i) h = h
prune_refs marks test (listed p) h = prune_refs marks test p h
prune_refs marks test (attribute c p) h = prune_refs marks test p h
prune_refs marks test (one_or_more p) h = prune_refs marks test p h
prune_refs marks test (choice p q) h =
    let e = and_true (refs_are test p) (refs_are test q) h in
    sides_pass (λ x. refs_are test x ≡ true) (λ x y a b. true_and (refs_are test x) (refs_are test y) a b) (lives_with marks p) (lives_with marks q) (prune marks p) (prune marks q) (prune_refs marks test p e.0) (prune_refs marks test q e.1)
prune_refs marks test (group p q) h = let e = and_true (refs_are test p) (refs_are test q) h in true_and _ _ (prune_refs marks test p e.0) (prune_refs marks test q e.1)
prune_refs marks test (interleave p q) h = let e = and_true (refs_are test p) (refs_are test q) h in true_and _ _ (prune_refs marks test p e.0) (prune_refs marks test q e.1)

-- so far
pub record SoFar (marks : List Bool) (start : Pattern) (g : List Definition) (numbers numbers' : List ℕ) (made : List Definition) : Type 0 where
  pub are : AreLeft marks start g numbers' made
  pub still : AreStill numbers numbers'
  pub within : length made ≤ length numbers'

pub record LeavesSoFar (conditions : List Condition) (marks : List Bool) (g : List Definition) (numbers numbers' : List ℕ) (made : List Definition) : Type 0 where
  pub leaves : (start : Pattern) → AreSpelled g conditions → AreHeld conditions marks → AreNumbered (length g) g → Spread (prune marks start) (prune_all marks g) numbers 0 → SoFar marks start g numbers numbers' made

pub left_first : {conditions : List Condition} {marks : List Bool} {g : List Definition} {numbers : List ℕ} {made : List Definition} → made ≡ [] → LeavesSoFar conditions marks g numbers numbers made
left_first {conditions = conditions} {marks = marks} {g = g} {numbers = numbers} e = subst (λ (m : List Definition). LeavesSoFar conditions marks g numbers numbers m) (sym e) (record {
  leaves = λ start s h r spread. record { are = record { spread = spread; left = λ k i x at there. absurd (let n : None ≡ Some x = there in cc) }; still = record { still = λ k j f. f }; within = omega arith };
})

left_one : {conditions : List Condition} {marks : List Bool} {g : List Definition} {i : ℕ} {d e : Definition} {between numbers' : List ℕ} → slice_get g i ≡ Some d → AreSpelled g conditions → AreHeld conditions marks → AreNumbered (length g) g
    → LeavesDefinition conditions marks (length g) i d between numbers' e → IsLeft (length g) marks d.content between numbers' e.content
left_one {g = g} {i = i} {d = d} there s h r l =
    let w = s.spelled i d there in
    (l.leaves w.root w.is).leaves (length g) w.spells h (r i d there)

spread_one : {marks : List Bool} {start : Pattern} {g : List Definition} {i : ℕ} {d : Definition} (e : Definition) {between numbers' : List ℕ} {made : List Definition} → AreLeft marks start g between made → slice_get between (length made) ≡ Some i → slice_get g i ≡ Some d → AreNumbered (length g) g
    → IsLeft (length g) marks d.content between numbers' e.content → Spread (prune marks start) (prune_all marks g) numbers' (length made + 1)
spread_one {marks = marks} {g = g} {i = i} {d = d} e {between = between} a at there r l =
    let many : length (prune_all marks g) ≡ length g = length-map g (prune_definition marks) in
    spread_more at (is_pruned marks g i d there)
    (prune_refs marks (λ j. nat_lt j (length (prune_all marks g))) d.content (subst (λ (n : ℕ). refs_are (λ j. nat_lt j n) d.content ≡ true) (sym many) (r i d there)))
    (l.found ∙ ap (λ (n : ℕ). with_references n (prune marks d.content) between) (sym many))
    a.spread

left_more_is : {marks : List Bool} {start : Pattern} {g : List Definition} {i : ℕ} {d e : Definition} {between numbers' : List ℕ} {made : List Definition} → AreLeft marks start g between made → slice_get between (length made) ≡ Some i → slice_get g i ≡ Some d → e.class ≡ d.class
    → IsLeft (length g) marks d.content between numbers' e.content → AreNumbered (length g) g → AreLeft marks start g numbers' (made ++ e ∷ [])
left_more_is {marks = marks} {start = start} {g = g} {i = i} {d = d} {e = e} {between = between} {numbers' = numbers'} {made = made} a at there same l r = record {
  spread = subst (λ (n : ℕ). Spread (prune marks start) (prune_all marks g) numbers' n) (sym (length-append made (e ∷ []))) (spread_one e a at there r l);
  left = λ k j x f w. elim (front_or_end made e k x w) [
    | inl old ↦
        let inside = slice_get_within made k x old in
        let room = slice_get_within between (length made) i at in
        let here : slice_get between k ≡ Some (get_or between k 0) = slice_get-get_or between k 0 (omega arith) in
        let this : Some j ≡ Some (get_or between k 0) = sym f ∙ still.still k (get_or between k 0) here in
        let same_number : get_or between k 0 ≡ j = cc in
        let p = a.left k j x (here ∙ ap (λ (v : ℕ). Some v) same_number) old in
        record { definition = p.definition; is = p.is; same_class = p.same_class; content = prunes_still still p.content }
    | inr last ↦
        let this : Some j ≡ Some i = sym f ∙ ap (slice_get numbers') last.0 ∙ still.still (length made) i at in
        let same_number : i ≡ j = cc in
        let one : PrunesDefinitionBy (λ q. lives_with marks q ≡ true) (λ q. lives_with marks q ≡ false) g numbers' i e = record { definition = d; is = there; same_class = same; content = l.left } in
        let two = subst (λ (v : ℕ). PrunesDefinitionBy (λ q. lives_with marks q ≡ true) (λ q. lives_with marks q ≡ false) g numbers' v e) same_number one in
        subst (λ (v : Definition). PrunesDefinitionBy (λ q. lives_with marks q ≡ true) (λ q. lives_with marks q ≡ false) g numbers' j v) last.1 two
  ];
}
  where
    still : AreStill between numbers'
    still = record { still = λ k j f. ap (λ (x : List ℕ). slice_get x k) l.found ∙ (with_still (length g) (prune marks d.content) between).still k j f }

pub left_more : {conditions : List Condition} {marks : List Bool} {g : List Definition} {numbers between numbers' : List ℕ} {made made' : List Definition} {count i : ℕ} {d e : Definition} → count ≡ length g → slice_get between (length made) ≡ Some i → slice_get g i ≡ Some d
    → LeavesDefinition conditions marks count i d between numbers' e → made' ≡ made ++ e ∷ [] → LeavesSoFar conditions marks g numbers between made → LeavesSoFar conditions marks g numbers numbers' made'
left_more {conditions = conditions} {marks = marks} {g = g} {numbers = numbers} {between = between} {numbers' = numbers'} {made = made} {i = i} {d = d} {e = e} many at there l is so = subst (λ (m : List Definition). LeavesSoFar conditions marks g numbers numbers' m) (sym is) (record {
  leaves = λ start s h r spread.
      let a = so.leaves start s h r spread in
      let m : LeavesDefinition conditions marks (length g) i d between numbers' e = subst (λ (n : ℕ). LeavesDefinition conditions marks n i d between numbers' e) many l in
      let one : IsLeft (length g) marks d.content between numbers' e.content = left_one there s h r m in
      record {
        are = left_more_is a.are at there l.same_class one r;
        still = record { still = λ k j f. goes one k j (a.still.still k j f) };
        within = let low = slice_get_within numbers' (length made) i (goes one (length made) i at) in omega (arith, length-append made (e ∷ []));
      };
})
  where
    goes : IsLeft (length g) marks d.content between numbers' e.content → (k j : ℕ) → slice_get between k ≡ Some j → slice_get numbers' k ≡ Some j
    goes one k j f = ap (λ (x : List ℕ). slice_get x k) one.found ∙ (with_still (length g) (prune marks d.content) between).still k j f

pub left_ends : {conditions : List Condition} {marks : List Bool} {g : List Definition} {numbers numbers' : List ℕ} {made : List Definition} → length numbers' ≤ length made → LeavesSoFar conditions marks g numbers numbers' made → LeavesAll conditions marks g numbers numbers' made
left_ends least so = record { leaves = λ start s h r spread. let w = so.leaves start s h r spread in record { are = w.are; as_many = let most = w.within in omega arith; still = w.still.still } }

-- a definition without elements
nothing : Definition
nothing = record { class = any_name; content = not_allowed }

-- a number that was kept is that of a definition
pub left_never : {conditions : List Condition} {marks : List Bool} {g : List Definition} {numbers numbers' : List ℕ} {made : List Definition} {i : ℕ} → slice_get numbers' (length made) ≡ Some i → slice_get g i ≡ None → LeavesSoFar conditions marks g numbers numbers' made → LeavesAll conditions marks g numbers numbers' made
left_never {marks = marks} {g = g} {numbers' = numbers'} {made = made} {i = i} at none so = record { leaves = λ start s h r spread. absurd (never start (so.leaves start s h r spread).are) }
  where
    never : (start : Pattern) → AreLeft marks start g numbers' made → ⊥
    never start a =
        let low = a.spread.within i (among_at numbers' (length made) i at) in
        let inside : i < length g = let m = length-map g (prune_definition marks) in omega arith in
        let there : Some (get_or g i nothing) ≡ None = sym (slice_get-get_or g i nothing inside) ∙ none in
        cc

-- the next number
pub next_at : (numbers : List ℕ) {next i : ℕ} (made : List Def) → next < length numbers → i ≡ get_or numbers next i → length made ≡ next → slice_get numbers (length (map definition_of made)) ≡ Some i
next_at numbers {next = next} {i = i} made inside read place =
    ap (slice_get numbers) (length-map made definition_of ∙ place) ∙ slice_get-get_or numbers next i inside ∙ ap (λ (x : ℕ). Some x) (sym read)
