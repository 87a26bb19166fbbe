-- A turn of a walk, by its answer; how it begins, and what is there when it has ended.
use Rattle.std.proofs.Common.{◌≡◌, ◌≢◌, refl, sym, ap, ◌∙◌, subst, ℕ, zero, suc, ◌+◌, ◌-◌, ◌<◌, ◌≤◌, inl, inr, Bool, true, false, List, [], ◌∷◌, length, map, get_or, sum_by, slice_get, Option, Some, None, Result, Ok, Err, Contains, arith}
use Rattle.std.specs.Prelude.{◌==◌}
use Rattle.std.specs.List.{AllByRecursion, IsDistinct}
use Rattle.std.proofs.lemmas.Bool.{ne_eqb, false≢true}
use Rattle.std.proofs.lemmas.Option.{same_Some, none-some, slice_get_past, slice_get_read}
use Rattle.std.proofs.lemmas.List.{length-map, get_or_read}
use Rattle.std.proofs.lemmas.List.Sums.{sum_by-cons}
use Rattle.nx_base.specs.declared.cause.Cause.TheVariants as cause
use Rattle.rng_simplify.specs.declared.fault.SchemaFault.{SchemaFault}
use Rattle.rng_simplify.specs.declared.fault.SchemaFault.TheVariants.{NoMemory, Unreadable}
use Rattle.rng_simplify.specs.declared.order.Mark.{Mark}
use Rattle.rng_simplify.specs.declared.order.Mark.TheVariants.{New, Open, Done}
use Rattle.rng_simplify.specs.declared.order.Step.{Step}
use Rattle.rng_simplify.specs.declared.resolve.Combined.{Combined}
use Rattle.rng_simplify.specs.declared.resolve.Resolved.{Resolved}
use Rattle.rng_simplify.specs.declared.resolve.Scope.{Scope}
use Rattle.rng_simplify.specs.declared.resolve.Scope.TheVariants.{Nowhere}
use Rattle.rng_simplify.specs.Refusals.{IsRefusal, OkOrRefused}
use Rattle.rng_simplify.specs.declared.node.Node.{Node}
use Rattle.rng_simplify.specs.Cells.{Cell, cell_of}
use Rattle.rng_simplify.specs.Cells as cell
use Rattle.rng_simplify.specs.NodePlaces.{cell_parts, AreWellFormed, IsStanding}
use Rattle.rng_simplify.specs.declared.resolve.Target.{Target}
use Rattle.rng_simplify.specs.declared.resolve.Target.TheVariants.{Nothing}
use Rattle.rng_simplify.specs.ResolvedNodes.{IsResolved, IsToDefinitions, IsLinkedAs, combined_number, link_at, cell_leads, combined_leads, leads_if, leads, target_at, IsOrdered, scope_at}
use Rattle.rng_simplify.specs.NodeWalks.{IsMet, is_linked, WalkState, mark_at, step_of, with_step, left, Meets, AreSteps, path_of, IsWalk, KeepsMarks, most, IsTurned, IsGone, IsPassed}
use Rattle.rng_simplify.proofs.Nodes.{in_none, in_cases, cell_there}
use Rattle.rng_simplify.proofs.Posts.{stands_within}
use Rattle.rng_simplify.proofs.Taking.{scope_read}
use Rattle.rng_simplify.proofs.Loops.{lead_of, lead_met, Chain, last_lead, chain_on, loop_refused, link_within, linked_leads, unlinked_leads}
use Rattle.rng_simplify.proofs.Walks.{some_end, in_by_place, has_last, next_step, newly_met, met_again, node_left, opened_keeps, left_keeps, work_again, work_newly, work_left, new_open, new_done, set_mark}

-- ---- numbers that stand at one place each

unlike : (x y : ℕ) → (x ≡ y → ⊥) → (x == y) ≡ false
unlike x y differ = ne_eqb x y differ

unlike_rest : (x : ℕ) (xs : List ℕ) → ((k : ℕ) → slice_get xs k ≡ Some x → ⊥) → AllByRecursion (λ y. (x == y) ≡ false) xs
unlike_rest x [] never = tt
unlike_rest x (y ∷ xs) never = (unlike x y (λ is. never 0 (ap Some (sym is))), unlike_rest x xs (λ k at. never (suc k) at))

pub distinct_by_place : (xs : List ℕ) → ((k m i : ℕ) → slice_get xs k ≡ Some i → slice_get xs m ≡ Some i → k ≡ m) → IsDistinct (λ a b. a == b) xs
unfolding IsDistinct
distinct_by_place [] once = tt
distinct_by_place (x ∷ xs) once = (
  unlike_rest x xs (λ k at. let same = once 0 (suc k) x refl at in absurd (omega (arith, same))),
  distinct_by_place xs (λ k m i at again. let same = once (suc k) (suc m) i at again in omega (arith, same)),
)

-- ---- few are led to

each_in_sum : (combined : List Combined) (n : ℕ) (combination : Combined) → slice_get combined n ≡ Some combination → length combination.bodies.items ≤ sum_by (λ (j : Combined). length j.bodies.items) combined
each_in_sum [] n combination at = absurd (none-some combination at)
each_in_sum (first ∷ combined) zero combination at =
    let same : length first.bodies.items ≡ length combination.bodies.items = ap (λ (j : Combined). length j.bodies.items) (same_Some first combination at) in
    omega (arith, same, sum_by-cons (λ (j : Combined). length j.bodies.items) first combined)
each_in_sum (first ∷ combined) (suc n) combination at =
    let rest = each_in_sum combined n combination at in
    omega (arith, rest, sum_by-cons (λ (j : Combined). length j.bodies.items) first combined)

few_parts : (c : Cell) → length (cell_parts c) ≤ 2
few_parts (cell.element class part) = omega arith
few_parts (cell.attribute class part) = omega arith
few_parts (cell.listed part) = omega arith
few_parts (cell.ref name) = omega arith
few_parts (cell.parent_ref name) = omega arith
few_parts cell.empty = omega arith
few_parts cell.any_text = omega arith
few_parts cell.not_allowed = omega arith
few_parts (cell.value type text) = omega arith
few_parts (cell.typed type params part) = omega arith
few_parts (cell.grammar clauses) = omega arith
few_parts (cell.one_or_more part) = omega arith
few_parts (cell.joined sign first second) = omega arith

few_leads : (count link : ℕ) (c : Cell) (b : Bool) → is_linked c ≡ b → length (cell_leads count link c) ≤ 2
few_leads count link c true is =
    let one = ap length (linked_leads count link c is) in
    omega (arith, one)
few_leads count link c false is =
    let same = ap length (unlinked_leads count link c is) in
    let less = few_parts c in
    omega (arith, same, less)

few_of_combination : (found : Resolved) (n : ℕ) (combination : Option Combined) → slice_get found.combined.items n ≡ combination → length (combined_leads combination) + 1 < most found
few_of_combination found n (Some combination) at =
    let less = each_in_sum found.combined.items n combination at in
    omega (arith, less)
few_of_combination found n None at = omega arith

few_if : (cells : List Cell) (found : Resolved) (x : ℕ) (c : Option Cell) → length (leads_if cells found x c) + 1 < most found
few_if cells found x (Some c) =
    let less = few_leads (length cells) (link_at found x) c (is_linked c) refl in
    omega (arith, less)
few_if cells found x None = few_of_combination found (x - length cells) (slice_get found.combined.items (x - length cells)) refl

module _ (cells : List Cell) (root : ℕ) (found : Resolved) where
  few : (x : ℕ) → length (leads cells found x) + 1 < most found
  few x = few_if cells found x (slice_get cells x)

  pub met_within : (x : ℕ) → AreWellFormed cells root → IsMet cells root found x → x < length cells + length found.combined.items
  met_within x formed (inl (outers, stands)) =
      let lt = stands_within formed stands in
      omega (arith, lt)
  met_within x formed (inr (number, lt, is)) = omega (arith, lt, is)

  pub met_marked : (next : Option ℕ) (now : WalkState) (x : ℕ) → AreWellFormed cells root → IsWalk cells root found next now → IsMet cells root found x → x < length now.marks
  met_marked next now x formed h met = omega (arith, met_within x formed met, h.all_marks)

  -- ---- a node of the path

  up_to : (now : WalkState) (j : ℕ) (steps : List Step) → AreWellFormed cells root → AreSteps cells root found now (Some j) steps → (step : Step) → Contains steps step → Chain cells root found step.place j
  up_to now j [] formed h step among = absurd (in_none among)
  up_to now j (top ∷ before) formed h step among =
      let lead = lead_of cells root found formed h.0.is_met (h.0.leads_on j refl) in
      elim (in_cases top before step among) [
        | inl is ↦ subst (λ (s : Step). Chain cells root found s.place j) is (last_lead lead)
        | inr further ↦ chain_on (up_to now top.place before formed h.1 step further) lead
      ]

  -- it leads back to itself, where it comes next
  open_refused : (now : WalkState) (i : ℕ) → AreWellFormed cells root → IsResolved cells root found → IsWalk cells root found (Some i) now → mark_at now i ≡ Open → IsRefusal cells root (Unreadable cause.RefLoop)
  open_refused now i formed resolved h is_open =
      let it = h.on_path i is_open in
      loop_refused formed resolved (h.next_met i refl) (subst (λ k. Chain cells root found k i) it.2 (up_to now i h.steps formed h.are_steps it.0 it.1))

  -- ---- one turn, to what comes next

  turned_at : {A : Type 0} (now new : WalkState) (step : Step) (i : ℕ) → AreWellFormed cells root → IsResolved cells root found → IsWalk cells root found None (with_step step now) → slice_get (leads cells found step.place) step.met ≡ Some i → IsMet cells root found i → (mark : Mark) → mark_at now i ≡ mark → (result : Result A SchemaFault) → Meets i mark (with_step (step_of step.place (step.met + 1)) now) new result → OkOrRefused cells root (λ done. IsTurned cells root found (with_step step now) new) result
  turned_at now new step i formed resolved h at met New is (Ok done) new_is =
      let lt = met_marked None (with_step step now) i formed h met in
      subst (λ (w : WalkState). IsTurned cells root found (with_step step now) w) (sym new_is) (record {
        is_walk = newly_met cells root found (with_step (step_of step.place (step.met + 1)) now) i (next_step cells root found now step i h at met) lt is;
        keeps = opened_keeps (with_step (step_of step.place (step.met + 1)) now) i lt;
        falls = work_newly cells found now step i (few i) at lt is;
      })
  turned_at now new step i formed resolved h at met Done is (Ok done) new_is =
      subst (λ (w : WalkState). IsTurned cells root found (with_step step now) w) (sym new_is) (record {
        is_walk = met_again cells root found (with_step (step_of step.place (step.met + 1)) now) i (next_step cells root found now step i h at met) is;
        keeps = λ j some. some;
        falls = work_again cells found now step i at;
      })
  turned_at now new step i formed resolved h at met Open is (Ok done) new_is = absurd new_is
  turned_at now new step i formed resolved h at met New is (Err NoMemory) new_is = tt
  turned_at now new step i formed resolved h at met Open is (Err NoMemory) new_is = tt
  turned_at now new step i formed resolved h at met Done is (Err NoMemory) new_is = tt
  turned_at now new step i formed resolved h at met Open is (Err (Unreadable cause.RefLoop)) new_is = open_refused (with_step (step_of step.place (step.met + 1)) now) i formed resolved (next_step cells root found now step i h at met) is
  turned_at now new step i formed resolved h at met New is (Err other) new_is = absurd new_is
  turned_at now new step i formed resolved h at met Open is (Err other) new_is = absurd new_is
  turned_at now new step i formed resolved h at met Done is (Err other) new_is = absurd new_is

  pub last_met : (now : WalkState) (step : Step) → IsWalk cells root found None (with_step step now) → IsMet cells root found step.place
  last_met now step h = (has_last cells root found now step h).are_steps.0.is_met

  pub next_met : (now : WalkState) (step : Step) (i : ℕ) → AreWellFormed cells root → IsResolved cells root found → IsWalk cells root found None (with_step step now) → slice_get (leads cells found step.place) step.met ≡ Some i → IsMet cells root found i
  next_met now step i formed resolved h at = lead_met cells root found resolved (lead_of cells root found formed (last_met now step h) (in_by_place (leads cells found step.place) step.met i at))

  pub turned_on : {A : Type 0} (now mid new : WalkState) (step : Step) (i : ℕ) → AreWellFormed cells root → IsResolved cells root found → IsWalk cells root found None (with_step step now) → slice_get (leads cells found step.place) step.met ≡ Some i → mid ≡ with_step (step_of step.place (step.met + 1)) now → (result : Result A SchemaFault) → Meets i (mark_at mid i) mid new result → OkOrRefused cells root (λ done. IsTurned cells root found (with_step step now) new) result
  turned_on now mid new step i formed resolved h at mid_is result meets =
      turned_at now new step i formed resolved h at (next_met now step i formed resolved h at) (mark_at now i) refl result (subst (λ (w : WalkState). Meets i (mark_at w i) w new result) mid_is meets)

  -- back from a node
  pub turned_back : (now new : WalkState) (step : Step) → AreWellFormed cells root → IsWalk cells root found None (with_step step now) → slice_get (leads cells found step.place) step.met ≡ None → new ≡ left step.place now → IsTurned cells root found (with_step step now) new
  turned_back now new step formed h none new_is =
      let top = (has_last cells root found now step h).are_steps.0 in
      let lt = met_marked None (with_step step now) step.place formed h top.is_met in
      subst (λ (w : WalkState). IsTurned cells root found (with_step step now) w) (sym new_is) (record {
        is_walk = node_left cells root found now step h lt none;
        keeps = left_keeps now step.place lt;
        falls = work_left cells found now step top.within top.is_open;
      })

  -- ---- how a walk begins

  no_steps : (steps : List Step) → path_of steps ≡ [] → steps ≡ []
  no_steps [] h = refl
  no_steps (step ∷ before) h = absurd (some_end (path_of before) step h)

  at_rest_steps : (now : WalkState) → (h : IsWalk cells root found None now) → now.path ≡ [] → h.steps ≡ []
  at_rest_steps now h rest = no_steps h.steps (sym h.path_is ∙ rest)

  none_open : (now : WalkState) (i : ℕ) → IsWalk cells root found None now → now.path ≡ [] → mark_at now i ≡ Open → ⊥
  none_open now i h rest is_open =
      let it = h.on_path i is_open in
      in_none (subst (λ (steps : List Step). Contains steps it.0) (at_rest_steps now h rest) it.1)

  comes_next : (now : WalkState) (i : ℕ) → IsWalk cells root found None now → now.path ≡ [] → IsMet cells root found i → IsWalk cells root found (Some i) now
  comes_next now i h rest met = record {
    steps = h.steps;
    path_is = h.path_is;
    are_steps = subst (λ (steps : List Step). AreSteps cells root found now (Some i) steps) (sym (at_rest_steps now h rest)) tt;
    next_met = λ j is. subst (λ k. IsMet cells root found k) (same_Some i j is) met;
    all_marks = h.all_marks;
    on_path = h.on_path;
    done = h.done;
    ordered = h.ordered;
    once = h.once;
    behind = h.behind;
  }

  -- the walk is at a node
  pub record IsBegun (from : ℕ) (old new : WalkState) : Type 0 where
    pub is_walk : IsWalk cells root found None new
    pub keeps : KeepsMarks old new
    pub met : mark_at new from ≢ New

  begun_at : {A : Type 0} (now new : WalkState) (from : ℕ) → AreWellFormed cells root → IsWalk cells root found None now → now.path ≡ [] → IsMet cells root found from → (mark : Mark) → mark_at now from ≡ mark → (result : Result A SchemaFault) → Meets from mark now new result → OkOrRefused cells root (λ done. IsBegun from now new) result
  begun_at now new from formed h rest met New is (Ok done) new_is =
      let lt = met_marked None now from formed h met in
      subst (λ (w : WalkState). IsBegun from now w) (sym new_is) (record {
        is_walk = newly_met cells root found now from (comes_next now from h rest met) lt is;
        keeps = opened_keeps now from lt;
        met = λ new_again. new_open (sym (sym (set_mark now.marks from Open lt) ∙ new_again));
      })
  begun_at now new from formed h rest met Done is (Ok done) new_is =
      subst (λ (w : WalkState). IsBegun from now w) (sym new_is) (record {
        is_walk = h;
        keeps = λ j some. some;
        met = λ new_again. new_done (sym new_again ∙ is);
      })
  begun_at now new from formed h rest met Open is (Ok done) new_is = absurd new_is
  begun_at now new from formed h rest met New is (Err NoMemory) new_is = tt
  begun_at now new from formed h rest met Open is (Err NoMemory) new_is = tt
  begun_at now new from formed h rest met Done is (Err NoMemory) new_is = tt
  begun_at now new from formed h rest met Open is (Err (Unreadable cause.RefLoop)) new_is = absurd (none_open now from h rest is)
  begun_at now new from formed h rest met New is (Err other) new_is = absurd new_is
  begun_at now new from formed h rest met Open is (Err other) new_is = absurd new_is
  begun_at now new from formed h rest met Done is (Err other) new_is = absurd new_is

  pub begun : {A : Type 0} (now new : WalkState) (from : ℕ) → AreWellFormed cells root → IsWalk cells root found None now → now.path ≡ [] → IsMet cells root found from → (result : Result A SchemaFault) → Meets from (mark_at now from) now new result → OkOrRefused cells root (λ done. IsBegun from now new) result
  begun now new from formed h rest met result meets = begun_at now new from formed h rest met (mark_at now from) refl result meets

  pub begun_ok : {A : Type 0} (now new : WalkState) (from : ℕ) → AreWellFormed cells root → IsWalk cells root found None now → now.path ≡ [] → IsMet cells root found from → (done : A) → Meets {A = A} from (mark_at now from) now new (Ok done) → IsBegun from now new
  begun_ok now new from formed h rest met done meets = begun now new from formed h rest met (Ok done) meets

  -- ---- at rest, what was met is done

  by_mark_done : (now : WalkState) (i : ℕ) → IsWalk cells root found None now → now.path ≡ [] → mark_at now i ≢ New → (mark : Mark) → mark_at now i ≡ mark → Contains now.order i
  by_mark_done now i h rest met New is = absurd (met is)
  by_mark_done now i h rest met Open is = absurd (none_open now i h rest is)
  by_mark_done now i h rest met Done is = h.done i is

  pub all_ordered : (now : WalkState) → IsWalk cells root found None now → now.path ≡ [] → ((i : ℕ) → IsStanding cells root i → mark_at now i ≢ New) → ((number : ℕ) → number < length found.combined.items → mark_at now (length cells + number) ≢ New) → IsOrdered cells root found now.order
  all_ordered now h rest nodes combined = record {
    each_node = λ i standing. by_mark_done now i h rest (nodes i standing) (mark_at now i) refl;
    each_combined = λ number lt. by_mark_done now (length cells + number) h rest (combined number lt) (mark_at now (length cells + number)) refl;
    nothing_else = λ i among. (h.ordered i among).1;
    distinct = distinct_by_place now.order h.once;
    behind = h.behind;
  }

  -- ---- before the first node

  pub new_at_first : (now : WalkState) → length now.marks ≡ length cells + length found.combined.items → ((i : ℕ) → mark_at now i ≡ New) → now.path ≡ [] → now.order ≡ [] → IsWalk cells root found None now
  new_at_first now long new path order =
      let empty : (i : ℕ) → Contains now.order i → ⊥ = λ i among. in_none (subst (λ (xs : List ℕ). Contains xs i) order among) in
      let nothing : (k i : ℕ) → slice_get now.order k ≡ Some i → ⊥ = λ k i at. empty i (in_by_place now.order k i at) in
      record {
        steps = [];
        path_is = path;
        are_steps = tt;
        next_met = λ i is. absurd (none-some i is);
        all_marks = long;
        on_path = λ i is. absurd (new_open (sym (new i) ∙ is));
        done = λ i is. absurd (new_done (sym (new i) ∙ is));
        ordered = λ i among. absurd (empty i among);
        once = λ k m i at again. absurd (nothing k i at);
        behind = λ k i j at among. absurd (nothing k i at);
      }

-- ---- what a node or combined definitions lead to, as the program finds it

pub leads_linked : (nodes : List Node) (found : Resolved) (x link k : ℕ) (node : Node) → x < length nodes → node ≡ get_or nodes x node → is_linked (cell_of node) ≡ true → link ≡ combined_number (get_or found.links.items x Nothing) → (it : ℕ) → it ≡ length nodes + link → slice_get (it ∷ []) k ≡ slice_get (leads (map cell_of nodes) found x) k
leads_linked nodes found x link k node lt is linked link_is it it_is =
    ap (λ n. slice_get (n ∷ []) k) (it_is ∙ ap (λ n. n + link) (sym (length-map nodes cell_of)) ∙ ap (λ n. length (map cell_of nodes) + n) link_is)
    ∙ sym (ap (λ (all : List ℕ). slice_get all k) (linked_leads (length (map cell_of nodes)) (link_at found x) (cell_of node) linked))
    ∙ sym (ap (λ (c : Option Cell). slice_get (leads_if (map cell_of nodes) found x c) k) (cell_there nodes x node lt is))

pub leads_parts : (nodes : List Node) (found : Resolved) (x k : ℕ) (node : Node) → x < length nodes → node ≡ get_or nodes x node → is_linked (cell_of node) ≡ false → slice_get (cell_parts (cell_of node)) k ≡ slice_get (leads (map cell_of nodes) found x) k
leads_parts nodes found x k node lt is linked =
    sym (ap (λ (all : List ℕ). slice_get all k) (unlinked_leads (length (map cell_of nodes)) (link_at found x) (cell_of node) linked))
    ∙ sym (ap (λ (c : Option Cell). slice_get (leads_if (map cell_of nodes) found x c) k) (cell_there nodes x node lt is))

pub leads_bodies : (nodes : List Node) (found : Resolved) (x n k : ℕ) (combination : Combined) → length nodes ≤ x → n ≡ x - length nodes → n < length found.combined.items → combination ≡ get_or found.combined.items n combination → slice_get combination.bodies.items k ≡ slice_get (leads (map cell_of nodes) found x) k
leads_bodies nodes found x n k combination past n_is lt is =
    let none : slice_get (map cell_of nodes) x ≡ None = slice_get_past (map cell_of nodes) x (omega (arith, past, length-map nodes cell_of)) in
    let number : n ≡ x - length (map cell_of nodes) = omega (arith, n_is, length-map nodes cell_of) in
    sym (
    ap (λ (c : Option Cell). slice_get (leads_if (map cell_of nodes) found x c) k) none
    ∙ ap (λ m. slice_get (combined_leads (slice_get found.combined.items m)) k) (sym number)
    ∙ ap (λ (j : Option Combined). slice_get (combined_leads j) k) (slice_get_read found.combined.items (length found.combined.items) n combination refl lt is)
    )

-- a link of a node that stands in the schema is the number of combined definitions
pub link_fits : (nodes : List Node) (root : ℕ) (found : Resolved) (x : ℕ) (node : Node) → AreWellFormed (map cell_of nodes) root → IsResolved (map cell_of nodes) root found → IsMet (map cell_of nodes) root found x → x < length nodes → node ≡ get_or nodes x node → is_linked (cell_of node) ≡ true → combined_number (get_or found.links.items x Nothing) < length found.combined.items
link_fits nodes root found x node formed resolved (inl (outers, stands)) lt is linked = link_within (map cell_of nodes) root found outers x (cell_of node) resolved stands (cell_there nodes x node lt is) linked
link_fits nodes root found x node formed resolved (inr (n, within, at)) lt is linked = absurd (omega (arith, at, lt, length-map nodes cell_of))

-- and leads to such
to_definitions : (c : Cell) (target : Target) → is_linked c ≡ true → IsLinkedAs c target → IsToDefinitions target
to_definitions (cell.ref name) target linked h = h
to_definitions (cell.parent_ref name) target linked h = h
to_definitions (cell.grammar clauses) target linked h = h
to_definitions c target linked h = absurd (false≢true linked)

pub link_leads : (nodes : List Node) (root : ℕ) (found : Resolved) (x : ℕ) (node : Node) (target : Target) → IsResolved (map cell_of nodes) root found → IsMet (map cell_of nodes) root found x → x < length nodes → node ≡ get_or nodes x node → is_linked (cell_of node) ≡ true → target ≡ get_or found.links.items x target → IsToDefinitions target
link_leads nodes root found x node target resolved (inl stands) lt is linked read =
    let known : x < length found.links.items = omega (arith, lt, resolved.all_links, length-map nodes cell_of) in
    let P : Target → Type 0 = IsToDefinitions in
    subst P (sym (get_or_read found.links.items x target known read Nothing)) (to_definitions (cell_of node) (target_at found x) linked (resolved.linked x (cell_of node) stands (cell_there nodes x node lt is)))
link_leads nodes root found x node target resolved (inr (n, within, at)) lt is linked read = absurd (omega (arith, at, lt, length-map nodes cell_of))

-- what is met behind the nodes are combined definitions
pub combination_there : (nodes : List Node) (root : ℕ) (found : Resolved) (x : ℕ) → AreWellFormed (map cell_of nodes) root → IsMet (map cell_of nodes) root found x → length nodes ≤ x → x - length nodes < length found.combined.items
combination_there nodes root found x formed (inl (outers, stands)) past =
    let lt = stands_within formed stands in
    absurd (omega (arith, lt, past, length-map nodes cell_of))
combination_there nodes root found x formed (inr (n, within, at)) past = omega (arith, at, within, past, length-map nodes cell_of)

-- ---- a node that may stand nowhere

pub scope_there : (nodes : List Node) (root : ℕ) (found : Resolved) (i : ℕ) (scope : Scope) → IsResolved (map cell_of nodes) root found → i < length nodes → scope ≡ get_or found.scopes.items i scope → scope_at found i ≡ scope
scope_there nodes root found i scope resolved lt is = scope_read found.scopes.items i scope (omega (arith, lt, resolved.all_scopes, length-map nodes cell_of)) is

pub standing_met : (nodes : List Node) (root : ℕ) (found : Resolved) (i : ℕ) (scope : Scope) → IsResolved (map cell_of nodes) root found → i < length nodes → scope ≡ get_or found.scopes.items i scope → scope ≢ Nowhere → IsMet (map cell_of nodes) root found i
standing_met nodes root found i scope resolved lt is some = inl ((resolved.standing i).0 (λ none. some (sym (scope_there nodes root found i scope resolved lt is) ∙ none)))

pub nowhere_passed : (nodes : List Node) (root : ℕ) (found : Resolved) (i : ℕ) (scope : Scope) (now : WalkState) → IsResolved (map cell_of nodes) root found → i < length nodes → scope ≡ get_or found.scopes.items i scope → scope ≡ Nowhere → IsWalk (map cell_of nodes) root found None now → now.path ≡ [] → IsPassed (map cell_of nodes) root found i now now
nowhere_passed nodes root found i scope now resolved lt is none h rest = record {
  is_walk = h;
  at_rest = rest;
  keeps = λ j some. some;
  met = λ standing. absurd ((resolved.standing i).1 standing (scope_there nodes root found i scope resolved lt is ∙ none));
}

pub gone_passed : {A : Type 0} (cells : List Cell) (root : ℕ) (found : Resolved) (i : ℕ) (old new : WalkState) (result : Result A SchemaFault) → OkOrRefused cells root (λ done. IsGone cells root found i old new) result → OkOrRefused cells root (λ done. IsPassed cells root found i old new) result
gone_passed cells root found i old new (Ok done) h = record { is_walk = h.is_walk; at_rest = h.at_rest; keeps = h.keeps; met = λ standing. h.met }
gone_passed cells root found i old new (Err fault) h = h

-- ---- all nodes and combined definitions

pub nodes_ordered : (nodes : List Node) (root : ℕ) (found : Resolved) (mid now : WalkState) → ((i : ℕ) → IsStanding (map cell_of nodes) root i → mark_at mid i ≢ New) → IsWalk (map cell_of nodes) root found None now → now.path ≡ [] → KeepsMarks mid now → ((number : ℕ) → number < length found.combined.items → mark_at now (length nodes + number) ≢ New) → IsOrdered (map cell_of nodes) root found now.order
nodes_ordered nodes root found mid now nodes_met h rest keeps combinations_met =
    all_ordered (map cell_of nodes) root found now h rest (λ i standing. keeps i (nodes_met i standing))
    (λ number lt. subst (λ n. mark_at now (n + number) ≢ New) (sym (length-map nodes cell_of)) (combinations_met number lt))
