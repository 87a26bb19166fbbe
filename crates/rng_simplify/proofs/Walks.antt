-- A walk over nodes and combined definitions, with one more turn.
use Rattle.std.proofs.Common.{◌≡◌, ◌≢◌, refl, sym, ap, ◌∙◌, subst, ℕ, zero, suc, ◌+◌, ◌*◌, ◌<◌, ◌≤◌, inl, inr, cond, List, [], ◌∷◌, ◌++◌, length, set, get_or, take, sum_by, count_by, slice_get, Option, Some, None, Contains, arith}
use Rattle.std.proofs.lemmas.Option.{same_Some, none-some, slice_get_within, slice_get-get_or}
use Rattle.std.proofs.lemmas.Bool.{cases_eq}
use Rattle.std.proofs.lemmas.List.{length-set, get_or-set_same, get_or-set_other, take-append-le, take_all}
use Rattle.std.proofs.lemmas.List.Elements.{Contains-push, Contains-push_cases, Contains-append_left}
use Rattle.std.proofs.lemmas.List.Sums.{sum_by-append, sum_by-cons}
use Rattle.rng_simplify.specs.declared.order.Mark.{Mark}
use Rattle.rng_simplify.specs.declared.order.Mark.TheVariants.{New, Open, Done}
use Rattle.rng_simplify.specs.declared.order.Step.{Step}
use Rattle.rng_simplify.specs.declared.resolve.Resolved.{Resolved}
use Rattle.rng_simplify.specs.Cells.{Cell}
use Rattle.rng_simplify.specs.ResolvedNodes.{leads}
use Rattle.rng_simplify.specs.NodeWalks.{IsMet, WalkState, mark_at, step_of, with_step, opened, left, IsStep, AreSteps, path_of, IsWalk, KeepsMarks, is_new, most, left_at, work}
use Rattle.rng_simplify.proofs.Nodes.{in_none, in_first, in_more, in_cases}
use Rattle.rng_simplify.proofs.Numbers.{behind_cases}

-- ---- lists

-- what two lists end with, and what is before it
pub same_ends : {X : Type 0} (xs ys : List X) (x y : X) → xs ++ x ∷ [] ≡ ys ++ y ∷ [] → (xs ≡ ys) × (x ≡ y)
same_ends [] [] x y h = (refl, cc)
same_ends [] (b ∷ []) x y h = absurd cc
same_ends [] (b ∷ c ∷ ys) x y h = absurd cc
same_ends (a ∷ []) [] x y h = absurd cc
same_ends (a ∷ c ∷ xs) [] x y h = absurd cc
same_ends (a ∷ xs) (b ∷ ys) x y h =
    let heads : a ≡ b = cc in
    let tails : xs ++ x ∷ [] ≡ ys ++ y ∷ [] = cc in
    let rest = same_ends xs ys x y tails in
    (ap (λ c. c ∷ xs) heads ∙ ap (λ cs. b ∷ cs) rest.0, rest.1)

pub some_end : {X : Type 0} (xs : List X) (x : X) → xs ++ x ∷ [] ≡ [] → ⊥
some_end [] x h = absurd cc
some_end (a ∷ xs) x h = absurd cc

-- what is in a list has a place
pub place_in : (xs : List ℕ) (x : ℕ) → Contains xs x → (k : ℕ) × (slice_get xs k ≡ Some x)
place_in xs x (k, lt, is) = (k, slice_get-get_or xs k x lt ∙ ap Some is)

pub in_by_place : (xs : List ℕ) (k x : ℕ) → slice_get xs k ≡ Some x → Contains xs x
in_by_place [] k x h = absurd (none-some x h)
in_by_place (a ∷ xs) zero x h = subst (λ b. Contains (a ∷ xs) b) (same_Some a x h) (in_first a xs)
in_by_place (a ∷ xs) (suc k) x h = in_more a xs x (in_by_place xs k x h)

past_end : (xs : List ℕ) (k m x : ℕ) → slice_get xs k ≡ None → slice_get xs m ≡ Some x → m < k
past_end [] k m x none some = absurd (none-some x some)
past_end (a ∷ xs) zero m x none some = absurd (none-some a (sym none))
past_end (a ∷ xs) (suc k) zero x none some = omega arith
past_end (a ∷ xs) (suc k) (suc m) x none some =
    let less = past_end xs k m x none some in
    omega (arith, less)

-- ---- marks

pub new_open : New ≡ Open → ⊥
new_open e = absurd cc

pub new_done : New ≡ Done → ⊥
new_done e = absurd cc

open_done : Open ≡ Done → ⊥
open_done e = absurd cc

pub set_mark : (marks : List Mark) (i : ℕ) (mark : Mark) → i < length marks → get_or (set marks i mark) i New ≡ mark
set_mark marks i mark lt = get_or-set_same marks i mark New lt

other_mark : (marks : List Mark) (i : ℕ) (mark : Mark) (j : ℕ) → j ≢ i → get_or (set marks i mark) j New ≡ get_or marks j New
other_mark marks i mark j other = get_or-set_other marks i j mark New other

-- a node that has another mark is another
by_mark : (now : WalkState) (i j : ℕ) (mark other : Mark) → mark_at now i ≡ mark → mark_at now j ≡ other → (mark ≡ other → ⊥) → j ≡ i → ⊥
by_mark now i j mark other is_i is_j differ same = differ (sym is_i ∙ ap (mark_at now) (sym same) ∙ is_j)

-- ---- steps

module _ (cells : List Cell) (root : ℕ) (found : Resolved) where
  -- the last step of a path
  pub record HasLast (now : WalkState) (step : Step) : Type 0 where
    pub before : List Step
    pub path_is : now.path ≡ path_of before
    pub are_steps : AreSteps cells root found (with_step step now) None (step ∷ before)
    pub steps_are : (i : ℕ) → mark_at now i ≡ Open → (other : Step) × Contains (step ∷ before) other × (other.place ≡ i)

  last_by : (now : WalkState) (step : Step) (steps : List Step) → now.path ++ step ∷ [] ≡ path_of steps → AreSteps cells root found (with_step step now) None steps → ((i : ℕ) → mark_at now i ≡ Open → (other : Step) × Contains steps other × (other.place ≡ i)) → HasLast now step
  last_by now step [] path_is are_steps on_path = absurd (some_end now.path step path_is)
  last_by now step (top ∷ before) path_is are_steps on_path =
      let ends = same_ends now.path (path_of before) step top path_is in
      record {
        before = before;
        path_is = ends.0;
        are_steps = subst (λ (s : Step). AreSteps cells root found (with_step step now) None (s ∷ before)) (sym ends.1) are_steps;
        steps_are = subst (λ (s : Step). (i : ℕ) → mark_at now i ≡ Open → (other : Step) × Contains (s ∷ before) other × (other.place ≡ i)) (sym ends.1) on_path;
      }

  pub has_last : (now : WalkState) (step : Step) → IsWalk cells root found None (with_step step now) → HasLast now step
  has_last now step h = last_by now step h.steps h.path_is h.are_steps h.on_path

  -- the steps of a path are open
  steps_open : (now : WalkState) (next : Option ℕ) (steps : List Step) → AreSteps cells root found now next steps → (step : Step) → Contains steps step → mark_at now step.place ≡ Open
  steps_open now next [] h step among = absurd (in_none among)
  steps_open now next (top ∷ before) h step among =
      elim (in_cases top before step among) [
        | inl is ↦ ap (λ (s : Step). mark_at now s.place) (sym is) ∙ h.0.is_open
        | inr further ↦ steps_open now (Some top.place) before h.1 step further
      ]

  -- they stay what they are where the marks of the path stay, and what is done stays done
  step_on : (now new : WalkState) (next : Option ℕ) (step : Step) (before : List Step) → (mark_at now step.place ≡ Open → mark_at new step.place ≡ Open) → ((i : ℕ) → mark_at now i ≡ Done → mark_at new i ≡ Done) → IsStep cells root found now next step before → IsStep cells root found new next step before
  step_on now new next step before open_on done_on h = record {
    is_met = h.is_met;
    is_open = open_on h.is_open;
    within = h.within;
    met = λ k i lt at. elim (h.met k i lt at) [ inl done ↦ inl (done_on i done) | inr is ↦ inr is ];
    leads_on = h.leads_on;
    apart = h.apart;
  }

  steps_on : (now new : WalkState) (next : Option ℕ) (steps : List Step) → ((step : Step) → Contains steps step → mark_at now step.place ≡ Open → mark_at new step.place ≡ Open) → ((i : ℕ) → mark_at now i ≡ Done → mark_at new i ≡ Done) → AreSteps cells root found now next steps → AreSteps cells root found new next steps
  steps_on now new next [] open_on done_on h = tt
  steps_on now new next (step ∷ before) open_on done_on h = (
    step_on now new next step before (open_on step (in_first step before)) done_on h.0,
    steps_on now new (Some step.place) before (λ other among. open_on other (in_more step before other among)) done_on h.1,
  )

  -- what comes next is done
  next_done : (now : WalkState) (next : ℕ) (steps : List Step) → mark_at now next ≡ Done → AreSteps cells root found now (Some next) steps → AreSteps cells root found now None steps
  next_done now next [] done h = tt
  next_done now next (step ∷ before) done h = (
    record {
      is_met = h.0.is_met;
      is_open = h.0.is_open;
      within = h.0.within;
      met = λ k i lt at. elim (h.0.met k i lt at) [
        | inl is ↦ inl is
        | inr is ↦ inl (ap (mark_at now) (sym (same_Some next i is)) ∙ done)
      ];
      leads_on = λ i is. absurd (none-some i is);
      apart = h.0.apart;
    },
    h.1,
  )

  -- ---- a step to what the last node leads to

  pub next_step : (now : WalkState) (step : Step) (next : ℕ) → IsWalk cells root found None (with_step step now) → slice_get (leads cells found step.place) step.met ≡ Some next → IsMet cells root found next → IsWalk cells root found (Some next) (with_step (step_of step.place (step.met + 1)) now)
  next_step now step next h at met_next =
      let last = has_last now step h in
      let top = last.are_steps.0 in
      let further = step_of step.place (step.met + 1) in
      let lt = slice_get_within (leads cells found step.place) step.met next at in
      record {
        steps = further ∷ last.before;
        path_is = ap (λ (p : List Step). p ++ further ∷ []) last.path_is;
        are_steps = (
          record {
            is_met = top.is_met;
            is_open = top.is_open;
            within = omega (arith, lt);
            met = λ k i less there. elim (cases_eq k step.met) [
              | inl is ↦ inr (sym at ∙ ap (slice_get (leads cells found step.place)) (sym is) ∙ there)
              | inr other ↦ elim (top.met k i (omega (arith, less, other)) there) [
                | inl done ↦ inl done
                | inr is ↦ absurd (none-some i is)
              ]
            ];
            leads_on = λ i is. subst (λ j. Contains (leads cells found step.place) j) (same_Some next i is) (in_by_place (leads cells found step.place) step.met next at);
            apart = top.apart;
          },
          steps_on (with_step step now) (with_step further now) (Some step.place) last.before (λ other among is. is) (λ i is. is) last.are_steps.1,
        );
        next_met = λ i is. subst (λ j. IsMet cells root found j) (same_Some next i is) met_next;
        all_marks = h.all_marks;
        on_path = λ i is_open.
            let it = last.steps_are i is_open in
            elim (in_cases step last.before it.0 it.1) [
              | inl is ↦ (further, in_first further last.before, ap (λ (s : Step). s.place) is ∙ it.2)
              | inr among ↦ (it.0, in_more further last.before it.0 among, it.2)
            ];
        done = h.done;
        ordered = h.ordered;
        once = h.once;
        behind = h.behind;
      }

  -- ---- a node that is met

  pub newly_met : (now : WalkState) (i : ℕ) → IsWalk cells root found (Some i) now → i < length now.marks → mark_at now i ≡ New → IsWalk cells root found None (opened i now)
  newly_met now i h lt new =
      let stays_open : (step : Step) → Contains h.steps step → mark_at now step.place ≡ Open → mark_at (opened i now) step.place ≡ Open = λ step among is. other_mark now.marks i Open step.place (by_mark now i step.place New Open new is new_open) ∙ is in
      let stays_done : (j : ℕ) → mark_at now j ≡ Done → mark_at (opened i now) j ≡ Done = λ j is. other_mark now.marks i Open j (by_mark now i j New Done new is new_done) ∙ is in
      record {
        steps = step_of i 0 ∷ h.steps;
        path_is = ap (λ (p : List Step). p ++ step_of i 0 ∷ []) h.path_is;
        are_steps = (
          record {
            is_met = h.next_met i refl;
            is_open = set_mark now.marks i Open lt;
            within = omega arith;
            met = λ k j less at. absurd (omega (arith, less));
            leads_on = λ j is. absurd (none-some j is);
            apart = λ other among. by_mark now i other.place New Open new (steps_open now (Some i) h.steps h.are_steps other among) new_open;
          },
          steps_on now (opened i now) (Some i) h.steps stays_open stays_done h.are_steps,
        );
        next_met = λ j is. absurd (none-some j is);
        all_marks = length-set now.marks i Open ∙ h.all_marks;
        on_path = λ j is. elim (cases_eq j i) [
          | inl same ↦ (step_of i 0, in_first (step_of i 0) h.steps, sym same)
          | inr other ↦
              let it = h.on_path j (sym (other_mark now.marks i Open j other) ∙ is) in
              (it.0, in_more (step_of i 0) h.steps it.0 it.1, it.2)
        ];
        done = λ j is. elim (cases_eq j i) [
          | inl same ↦ absurd (open_done (sym (set_mark now.marks i Open lt) ∙ ap (mark_at (opened i now)) (sym same) ∙ is))
          | inr other ↦ h.done j (sym (other_mark now.marks i Open j other) ∙ is)
        ];
        ordered = λ j among. let before = h.ordered j among in (stays_done j before.0, before.1);
        once = h.once;
        behind = h.behind;
      }

  pub met_again : (now : WalkState) (i : ℕ) → IsWalk cells root found (Some i) now → mark_at now i ≡ Done → IsWalk cells root found None now
  met_again now i h done = record {
    steps = h.steps;
    path_is = h.path_is;
    are_steps = next_done now i h.steps done h.are_steps;
    next_met = λ j is. absurd (none-some j is);
    all_marks = h.all_marks;
    on_path = h.on_path;
    done = h.done;
    ordered = h.ordered;
    once = h.once;
    behind = h.behind;
  }

  -- ---- a node that is left

  pub node_left : (now : WalkState) (step : Step) → IsWalk cells root found None (with_step step now) → step.place < length now.marks → slice_get (leads cells found step.place) step.met ≡ None → IsWalk cells root found None (left step.place now)
  node_left now step h lt none =
      let last = has_last now step h in
      let top = last.are_steps.0 in
      let node = step.place in
      let stays_open : (other : Step) → Contains last.before other → mark_at now other.place ≡ Open → mark_at (left node now) other.place ≡ Open = λ other among is. other_mark now.marks node Done other.place (top.apart other among) ∙ is in
      let stays_done : (j : ℕ) → mark_at now j ≡ Done → mark_at (left node now) j ≡ Done = λ j is. elim (cases_eq j node) [
        | inl same ↦ ap (mark_at (left node now)) same ∙ set_mark now.marks node Done lt
        | inr other ↦ other_mark now.marks node Done j other ∙ is
      ] in
      let now_done : mark_at (left node now) node ≡ Done = set_mark now.marks node Done lt in
      let not_there : Contains now.order node → ⊥ = λ among. open_done (sym top.is_open ∙ (h.ordered node among).0) in
      let steps : AreSteps cells root found (left node now) (Some node) last.before = steps_on (with_step step now) (left node now) (Some node) last.before stays_open stays_done last.are_steps.1 in
      record {
        steps = last.before;
        path_is = last.path_is;
        are_steps = next_done (left node now) node last.before now_done steps;
        next_met = λ j is. absurd (none-some j is);
        all_marks = length-set now.marks node Done ∙ h.all_marks;
        on_path = λ j is. elim (cases_eq j node) [
          | inl same ↦ absurd (open_done (sym is ∙ ap (mark_at (left node now)) same ∙ now_done))
          | inr other ↦
              let it = last.steps_are j (sym (other_mark now.marks node Done j other) ∙ is) in
              elim (in_cases step last.before it.0 it.1) [
                | inl top_is ↦ absurd (other (sym it.2 ∙ ap (λ (s : Step). s.place) (sym top_is)))
                | inr among ↦ (it.0, among, it.2)
              ]
        ];
        done = λ j is. elim (cases_eq j node) [
          | inl same ↦ subst (λ m. Contains (now.order ++ node ∷ []) m) (sym same) (Contains-push now.order node)
          | inr other ↦ Contains-append_left now.order (node ∷ []) j (h.done j (sym (other_mark now.marks node Done j other) ∙ is))
        ];
        ordered = λ j among. elim (Contains-push_cases now.order node j among) [
          | inl before ↦ let was = h.ordered j before in (stays_done j was.0, was.1)
          | inr is ↦ (ap (mark_at (left node now)) (sym is) ∙ now_done, subst (λ m. IsMet cells root found m) is top.is_met)
        ];
        once = λ k m i at_k at_m. elim (behind_cases now.order node k i at_k) [
          | inl k_before ↦ elim (behind_cases now.order node m i at_m) [
            | inl m_before ↦ h.once k m i k_before m_before
            | inr m_it ↦ absurd (not_there (subst (λ j. Contains now.order j) m_it.1 (in_by_place now.order k i k_before)))
          ]
          | inr k_it ↦ elim (behind_cases now.order node m i at_m) [
            | inl m_before ↦ absurd (not_there (subst (λ j. Contains now.order j) k_it.1 (in_by_place now.order m i m_before)))
            | inr m_it ↦ k_it.0 ∙ sym m_it.0
          ]
        ];
        behind = λ k i j at among. elim (behind_cases now.order node k i at) [
          | inl before ↦
              let within = slice_get_within now.order k i before in
              subst (λ (xs : List ℕ). Contains xs j) (sym (take-append-le k now.order (node ∷ []) (omega (arith, within)))) (h.behind k i j before among)
          | inr it ↦
              let place = place_in (leads cells found node) j (subst (λ m. Contains (leads cells found m) j) it.1 among) in
              let done : mark_at now j ≡ Done = elim (top.met place.0 j (past_end (leads cells found node) step.met place.0 j none place.1) place.1) [
                | inl is ↦ is
                | inr is ↦ absurd (none-some j is)
              ] in
              subst (λ (xs : List ℕ). Contains xs j) (sym (ap (λ n. take n (now.order ++ node ∷ [])) it.0 ∙ take-append-le (length now.order) now.order (node ∷ []) (omega arith) ∙ take_all (length now.order) now.order (omega arith))) (h.done j done)
        ];
      }

-- ---- what was met stays so

pub opened_keeps : (now : WalkState) (i : ℕ) → i < length now.marks → KeepsMarks now (opened i now)
opened_keeps now i lt j met new = elim (cases_eq j i) [
  | inl same ↦ new_open (sym (sym (set_mark now.marks i Open lt) ∙ ap (mark_at (opened i now)) (sym same) ∙ new))
  | inr other ↦ met (sym (other_mark now.marks i Open j other) ∙ new)
]

pub left_keeps : (now : WalkState) (i : ℕ) → i < length now.marks → KeepsMarks now (left i now)
left_keeps now i lt j met new = elim (cases_eq j i) [
  | inl same ↦ new_done (sym (sym (set_mark now.marks i Done lt) ∙ ap (mark_at (left i now)) (sym same) ∙ new))
  | inr other ↦ met (sym (other_mark now.marks i Done j other) ∙ new)
]

-- ---- how long it takes

-- marks that are set
abbrev new_count : Mark → ℕ
new_count mark = cond (is_new mark) 1 0

count_cons : (mark : Mark) (marks : List Mark) → count_by is_new (mark ∷ marks) ≡ new_count mark + count_by is_new marks
count_cons mark marks = sum_by-cons new_count mark marks

count_new_opened : (marks : List Mark) (i : ℕ) → i < length marks → get_or marks i New ≡ New → count_by is_new (set marks i Open) + 1 ≡ count_by is_new marks
count_new_opened [] i lt new = absurd (omega arith)
count_new_opened (mark ∷ marks) zero lt new =
    let is_one : new_count mark ≡ 1 = ap new_count new in
    omega (arith, is_one, count_cons mark marks, count_cons Open marks)
count_new_opened (mark ∷ marks) (suc i) lt new =
    let rest = count_new_opened marks i (omega arith) new in
    omega (arith, rest, count_cons mark marks, count_cons mark (set marks i Open))

count_new_left : (marks : List Mark) (i : ℕ) → get_or marks i New ≡ Open → count_by is_new (set marks i Done) ≡ count_by is_new marks
count_new_left [] i was = refl
count_new_left (mark ∷ marks) zero was =
    let is_none : new_count mark ≡ 0 = ap new_count was in
    omega (arith, is_none, count_cons mark marks, count_cons Done marks)
count_new_left (mark ∷ marks) (suc i) was =
    let rest = count_new_left marks i was in
    omega (arith, rest, count_cons mark marks, count_cons mark (set marks i Done))

-- what is left to do with one more step on the path
work_with : (cells : List Cell) (found : Resolved) (now : WalkState) (step : Step) → work cells found (with_step step now) ≡ work cells found now + left_at cells found step
work_with cells found now step =
    let sum = sum_by-append (left_at cells found) now.path (step ∷ []) in
    let one = sum_by-cons (left_at cells found) step [] in
    let many : count_by is_new now.marks * most found ≡ count_by is_new now.marks * most found = refl in
    omega (arith, sum, one)

one_less : (fewer many each before after more : ℕ) → fewer + 1 ≡ many → after ≡ before + more → fewer * each + after + each ≡ many * each + before + more
one_less fewer many each before after more is sum = rw (sym is, sum) (omega arith)

newly_work : (cells : List Cell) (found : Resolved) (mid : WalkState) (next : ℕ) → count_by is_new (set mid.marks next Open) + 1 ≡ count_by is_new mid.marks → work cells found (opened next mid) + most found ≡ work cells found mid + left_at cells found (step_of next 0)
newly_work cells found mid next counted =
    let sum = sum_by-append (left_at cells found) mid.path (step_of next 0 ∷ []) in
    let one = sum_by-cons (left_at cells found) (step_of next 0) [] in
    one_less (count_by is_new (set mid.marks next Open)) (count_by is_new mid.marks) (most found) (sum_by (left_at cells found) mid.path) (sum_by (left_at cells found) (mid.path ++ step_of next 0 ∷ [])) (left_at cells found (step_of next 0)) counted (omega (arith, sum, one))

module _ (cells : List Cell) (found : Resolved) (now : WalkState) (step : Step) (next : ℕ) where
  -- a node that was met before
  pub work_again : slice_get (leads cells found step.place) step.met ≡ Some next → work cells found (with_step (step_of step.place (step.met + 1)) now) < work cells found (with_step step now)
  work_again at =
      let lt = slice_get_within (leads cells found step.place) step.met next at in
      omega (arith, lt, work_with cells found now step, work_with cells found now (step_of step.place (step.met + 1)))

  -- one that is met now
  pub work_newly : length (leads cells found next) + 1 < most found → slice_get (leads cells found step.place) step.met ≡ Some next → next < length now.marks → mark_at now next ≡ New → work cells found (opened next (with_step (step_of step.place (step.met + 1)) now)) < work cells found (with_step step now)
  work_newly few at lt new =
      let mid = with_step (step_of step.place (step.met + 1)) now in
      let less = work_again at in
      let counted = count_new_opened now.marks next lt new in
      let opened_work : work cells found (opened next mid) + most found ≡ work cells found mid + left_at cells found (step_of next 0) = newly_work cells found mid next counted in
      omega (arith, less, few, opened_work)

-- one that is left
pub work_left : (cells : List Cell) (found : Resolved) (now : WalkState) (step : Step) → step.met ≤ length (leads cells found step.place) → mark_at now step.place ≡ Open → work cells found (left step.place now) < work cells found (with_step step now)
work_left cells found now step within is_open =
    let same = count_new_left now.marks step.place is_open in
    let equal : work cells found (left step.place now) ≡ work cells found now = ap (λ n. n * most found + sum_by (left_at cells found) now.path) same in
    omega (arith, equal, within, work_with cells found now step)
