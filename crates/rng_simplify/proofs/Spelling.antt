-- Patterns that are built task by task.
use Rattle.std.proofs.Common.{◌≡◌, refl, sym, ap, ◌∙◌, subst, ℕ, suc, ◌+◌, ◌^◌, ◌<◌, ◌≤◌, inl, inr, ◌⊎◌, List, [], ◌∷◌, ◌++◌, length, map, reverse, take, slice_get, Option, Some, Result, Ok, Err, Contains, zero-add, arith}
use Rattle.std.specs.Prelude.{slice_index, sum_by}
use Rattle.std.proofs.lemmas.List.{length-append, append_assoc, length-map, map-append, reverse-append, length-reverse, take_more, take_all}
use Rattle.std.proofs.lemmas.List.Sums.{sum_by-append}
use Rattle.std.proofs.lemmas.Option.{same_Some, slice_get_within}
use Rattle.rng_core.specs.declared.grammar.Pat.{Pat}
use Rattle.rng_core.specs.declared.grammar.Def.{Def}
use Rattle.rng_core.specs.Meaning.{pattern_of, definition_of}
use Rattle.rng_core.specs.Patterns.{Pattern, Definition}
use Rattle.rng_core.specs.Patterns as pattern
use Rattle.rng_simplify.specs.declared.build.Task.{Task}
use Rattle.rng_simplify.specs.declared.build.Task.TheVariants as task
use Rattle.rng_simplify.specs.declared.fault.SchemaFault.{SchemaFault}
use Rattle.rng_simplify.specs.declared.form.Forms.{Forms}
use Rattle.rng_simplify.specs.declared.fault.SchemaFault.TheVariants as fault
use Rattle.rng_simplify.specs.declared.node.Sign.{Sign}
use Rattle.rng_simplify.specs.declared.node.Sign.TheVariants as sign
use Rattle.rng_simplify.specs.declared.shape.Shape.{Shape}
use Rattle.rng_simplify.specs.declared.shape.Shape.TheVariants as shape
use Rattle.rng_simplify.specs.declared.types.NodeType.{NodeType}
use Rattle.rng_simplify.specs.Cells.{Cell}
use Rattle.rng_simplify.specs.Forms.{Form, Value, nodes}
use Rattle.rng_simplify.specs.Forms as form
use Rattle.rng_simplify.specs.Shown.{joined_form, form_by, form_at, shape_parts, IsBehindParts}
use Rattle.rng_simplify.specs.SpelledShapes.{joined_pattern, IsShape, IsAttribute, Spells, spells_list, spells_attribute, spells_one_or_more, spells_joined, Runs, all_done, spell_then, wrap_one, wrap_two, AreSpelled, none_spelled, next_spelled, IsUnderWay, work_of, work, DoesTask, HasType, HasAttribute, IsReady, Leaves, Does, IsDefinition, AreDefinitions, no_definitions, next_definition, IsBuilt}
use Rattle.rng_simplify.specs.NodeTypes.{IsValue}
use Rattle.rng_simplify.proofs.Nodes.{in_first, in_more}
use Rattle.rng_simplify.proofs.Showing.{shows_by_parts}

-- ---- lists from behind

reverse_more : {A : Type 0} → (xs : List A) (x : A) → reverse (xs ++ x ∷ []) ≡ x ∷ reverse xs
reverse_more xs x = reverse-append xs (x ∷ [])

reverse_built : (built : List Pat) (p : Pat) → reverse (map pattern_of (built ++ p ∷ [])) ≡ pattern_of p ∷ reverse (map pattern_of built)
reverse_built built p = ap reverse (map-append pattern_of built (p ∷ [])) ∙ reverse_more (map pattern_of built) (pattern_of p)

-- ---- how much is left

pub some_nodes : (q : Form) → 0 < nodes q
some_nodes form.not_allowed = omega arith
some_nodes form.empty = omega arith
some_nodes form.any_text = omega arith
some_nodes (form.value v) = omega arith
some_nodes (form.typed type params values) = omega arith
some_nodes (form.listed p) = omega arith
some_nodes (form.attribute class p) = omega arith
some_nodes (form.ref number) = omega arith
some_nodes (form.one_or_more p) = omega arith
some_nodes (form.choice p q) = omega arith
some_nodes (form.group p q) = omega arith
some_nodes (form.interleave p q) = omega arith

nodes_of_joined : (by : Sign) (p q : Form) → nodes (joined_form by p q) ≡ 1 + nodes p + nodes q
nodes_of_joined sign.Choice p q = refl
nodes_of_joined sign.Group p q = refl
nodes_of_joined sign.Interleave p q = refl

-- a shape with one part has one node more than that, one with two has one more than both
nodes_around : (cells : List Cell) (taken : ℕ → List Value) (at : ℕ → Form) (s : Shape) (part : ℕ) → shape_parts s ≡ part ∷ [] → nodes (form_by cells taken at s) ≡ 1 + nodes (at part)
nodes_around cells taken at shape.NotAllowed part h = let never : ⊥ = cc in absurd never
nodes_around cells taken at shape.Empty part h = let never : ⊥ = cc in absurd never
nodes_around cells taken at shape.Text part h = let never : ⊥ = cc in absurd never
nodes_around cells taken at (shape.Value i) part h = let never : ⊥ = cc in absurd never
nodes_around cells taken at (shape.Typed i) part h = let never : ⊥ = cc in absurd never
nodes_around cells taken at (shape.Ref number) part h = let never : ⊥ = cc in absurd never
nodes_around cells taken at (shape.List other) part h = let same : other ≡ part = cc in ap (λ n. 1 + nodes (at n)) same
nodes_around cells taken at (shape.Attribute i other) part h = let same : other ≡ part = cc in ap (λ n. 1 + nodes (at n)) same
nodes_around cells taken at (shape.OneOrMore other) part h = let same : other ≡ part = cc in ap (λ n. 1 + nodes (at n)) same
nodes_around cells taken at (shape.Joined by first second) part h = let never : ⊥ = cc in absurd never

nodes_between : (cells : List Cell) (taken : ℕ → List Value) (at : ℕ → Form) (s : Shape) (first second : ℕ) → shape_parts s ≡ first ∷ second ∷ [] → nodes (form_by cells taken at s) ≡ 1 + nodes (at first) + nodes (at second)
nodes_between cells taken at shape.NotAllowed first second h = let never : ⊥ = cc in absurd never
nodes_between cells taken at shape.Empty first second h = let never : ⊥ = cc in absurd never
nodes_between cells taken at shape.Text first second h = let never : ⊥ = cc in absurd never
nodes_between cells taken at (shape.Value i) first second h = let never : ⊥ = cc in absurd never
nodes_between cells taken at (shape.Typed i) first second h = let never : ⊥ = cc in absurd never
nodes_between cells taken at (shape.Ref number) first second h = let never : ⊥ = cc in absurd never
nodes_between cells taken at (shape.List other) first second h = let never : ⊥ = cc in absurd never
nodes_between cells taken at (shape.Attribute i other) first second h = let never : ⊥ = cc in absurd never
nodes_between cells taken at (shape.OneOrMore other) first second h = let never : ⊥ = cc in absurd never
nodes_between cells taken at (shape.Joined by one other) first second h =
    let same : one ≡ first = cc in
    let also : other ≡ second = cc in
    nodes_of_joined by (at one) (at other) ∙ ap (λ n. 1 + nodes (at n) + nodes (at other)) same ∙ ap (λ n. 1 + nodes (at first) + nodes (at n)) also

module _ (shapes : List Shape) where
  abbrev size_at : ℕ → ℕ
  size_at n = nodes (form_at [] (λ i. []) shapes n)

  pub work_behind : (tasks : List Task) (t : Task) → work shapes (tasks ++ t ∷ []) ≡ work shapes tasks + work_of shapes t
  unfolding work
  work_behind tasks t = sum_by-append (work_of shapes) tasks (t ∷ []) ∙ ap (λ n. sum_by (work_of shapes) tasks + n) (zero-add (work_of shapes t))

  -- a shape that is built is less work
  spelled_is_less : (n : ℕ) (tasks : List Task) → work shapes tasks < work shapes (tasks ++ task.Spell n ∷ [])
  spelled_is_less n tasks = let more = work_behind tasks (task.Spell n) in let some = some_nodes (form_at [] (λ i. []) shapes n) in omega arith

  wrapped_is_less : (n : ℕ) (tasks : List Task) → work shapes tasks < work shapes (tasks ++ task.Wrap n ∷ [])
  wrapped_is_less n tasks = let more = work_behind tasks (task.Wrap n) in omega arith

  one_left_is_less : (n part : ℕ) (s : Shape) (tasks : List Task) → IsShape shapes n s → shape_parts s ≡ part ∷ [] → work shapes (tasks ++ task.Wrap n ∷ task.Spell part ∷ []) < work shapes (tasks ++ task.Spell n ∷ [])
  one_left_is_less n part s tasks is parts =
      let whole = work_behind tasks (task.Spell n) in
      let wrap = work_behind tasks (task.Wrap n) in
      let rest = work_behind (tasks ++ task.Wrap n ∷ []) (task.Spell part) in
      let same = ap (work shapes) (append_assoc tasks (task.Wrap n ∷ []) (task.Spell part ∷ [])) in
      let size : size_at n ≡ 1 + size_at part = ap nodes (shows_by_parts [] (λ i. []) shapes n s is.there is.behind) ∙ nodes_around [] (λ i. []) (form_at [] (λ i. []) shapes) s part parts in
      omega arith

  two_left_is_less : (n first second : ℕ) (s : Shape) (tasks : List Task) → IsShape shapes n s → shape_parts s ≡ first ∷ second ∷ [] → work shapes (tasks ++ task.Wrap n ∷ task.Spell second ∷ task.Spell first ∷ []) < work shapes (tasks ++ task.Spell n ∷ [])
  two_left_is_less n first second s tasks is parts =
      let whole = work_behind tasks (task.Spell n) in
      let wrap = work_behind tasks (task.Wrap n) in
      let next = work_behind (tasks ++ task.Wrap n ∷ []) (task.Spell second) in
      let rest = work_behind ((tasks ++ task.Wrap n ∷ []) ++ task.Spell second ∷ []) (task.Spell first) in
      let same = ap (λ ts. work shapes (ts ++ task.Spell first ∷ [])) (append_assoc tasks (task.Wrap n ∷ []) (task.Spell second ∷ [])) in
      let also = ap (work shapes) (append_assoc tasks (task.Wrap n ∷ task.Spell second ∷ []) (task.Spell first ∷ [])) in
      let size : size_at n ≡ 1 + size_at first + size_at second = ap nodes (shows_by_parts [] (λ i. []) shapes n s is.there is.behind) ∙ nodes_between [] (λ i. []) (form_at [] (λ i. []) shapes) s first second parts in
      omega arith

-- ---- what runs

module _ (shapes : List Shape) (root : ℕ) where
  pub record WrapsOne (n : ℕ) (tasks : List Task) (built : List ℕ) : Type 0 where
    pub part : ℕ
    pub s : Shape
    pub rest : List ℕ
    pub is_shape : IsShape shapes n s
    pub within : n < length shapes
    pub parts : shape_parts s ≡ part ∷ []
    pub built_is : built ≡ part ∷ rest
    pub then_runs : Runs shapes root tasks (n ∷ rest)

  pub record WrapsTwo (n : ℕ) (tasks : List Task) (built : List ℕ) : Type 0 where
    pub first : ℕ
    pub second : ℕ
    pub s : Shape
    pub rest : List ℕ
    pub is_shape : IsShape shapes n s
    pub within : n < length shapes
    pub parts : shape_parts s ≡ first ∷ second ∷ []
    pub built_is : built ≡ second ∷ first ∷ rest
    pub then_runs : Runs shapes root tasks (n ∷ rest)

  -- what is next
  abbrev RunsNext : List Task → List ℕ → Type 0
  RunsNext [] built = built ≡ root ∷ []
  RunsNext (task.Spell n ∷ tasks) built = (n < length shapes) × Runs shapes root tasks (n ∷ built)
  RunsNext (task.Wrap n ∷ tasks) built = WrapsOne n tasks built ⊎ WrapsTwo n tasks built

  runs_next : {tasks : List Task} {built : List ℕ} → Runs shapes root tasks built → RunsNext tasks built
  runs_next all_done = refl
  runs_next (spell_then within rest) = (within, rest)
  runs_next (wrap_one is within parts rest) = inl (record { part = _; s = _; rest = _; is_shape = is; within = within; parts = parts; built_is = refl; then_runs = rest })
  runs_next (wrap_two is within parts rest) = inr (record { first = _; second = _; s = _; rest = _; is_shape = is; within = within; parts = parts; built_is = refl; then_runs = rest })

module _ (cells : List Cell) (types : List (Option NodeType)) (shapes : List Shape) where
  pub record FirstSpelled (q : Pattern) (qs : List Pattern) (n : ℕ) (ns : List ℕ) : Type 0 where
    pub spells : Spells cells types shapes n q
    pub more : AreSpelled cells types shapes qs ns

  abbrev SpelledNext : List Pattern → List ℕ → Type 0
  SpelledNext [] [] = Unit {0}
  SpelledNext [] (n ∷ ns) = ⊥
  SpelledNext (q ∷ qs) [] = ⊥
  SpelledNext (q ∷ qs) (n ∷ ns) = FirstSpelled q qs n ns

  spelled_next : {qs : List Pattern} {ns : List ℕ} → AreSpelled cells types shapes qs ns → SpelledNext qs ns
  spelled_next none_spelled = tt
  spelled_next (next_spelled spells more) = record { spells = spells; more = more }

  same_length : {qs : List Pattern} {ns : List ℕ} → AreSpelled cells types shapes qs ns → length qs ≡ length ns
  same_length none_spelled = refl
  same_length (next_spelled spells more) = ap (λ n. suc n) (same_length more)

  abbrev Way : ℕ → List Task → List Pat → Type 0
  Way = IsUnderWay cells types shapes

  -- what is next on the way
  next_on_way : (root : ℕ) (tasks : List Task) (t : Task) (built : List Pat) (h : Way root (tasks ++ t ∷ []) built) → RunsNext shapes root (t ∷ reverse tasks) h.numbers
  next_on_way root tasks t built h =
      let P : List Task → Type 0 = λ ts. Runs shapes root ts h.numbers in
      runs_next shapes root (subst P (reverse_more tasks t) h.runs)

  -- a shape is built
  pub leaf_done : (n : ℕ) (tasks : List Task) (built new : List Pat) (p : Pat) → Spells cells types shapes n (pattern_of p) → new ≡ built ++ p ∷ [] → DoesTask cells types shapes (task.Spell n) tasks tasks built new
  leaf_done n tasks built new p spells grows = record {
    fewer = spelled_is_less shapes n tasks;
    goes_on = λ root h.
        let next = next_on_way root tasks (task.Spell n) built h in
        let P : List Pattern → Type 0 = λ qs. AreSpelled cells types shapes qs (n ∷ h.numbers) in
        let Q : List Pat → Type 0 = λ bs. AreSpelled cells types shapes (reverse (map pattern_of bs)) (n ∷ h.numbers) in
        record {
          numbers = n ∷ h.numbers;
          runs = next.1;
          spelled = subst Q (sym grows) (subst P (sym (reverse_built built p)) (next_spelled spells h.spelled));
        };
  }

  -- one part is left to be built, or two
  pub one_left : (n part : ℕ) (s : Shape) (tasks new : List Task) (built : List Pat) → IsShape shapes n s → n < length shapes → shape_parts s ≡ part ∷ [] → new ≡ tasks ++ task.Wrap n ∷ task.Spell part ∷ [] → DoesTask cells types shapes (task.Spell n) tasks new built built
  one_left n part s tasks new built is within parts grows =
      let P : List Task → Type 0 = λ ts. DoesTask cells types shapes (task.Spell n) tasks ts built built in
      let Q : List ℕ → Type 0 = λ ps. Contains ps part in
      let below = is.behind.below part (subst Q (sym parts) (in_first part [])) in
      subst P (sym grows) (record {
        fewer = one_left_is_less shapes n part s tasks is parts;
        goes_on = λ root h.
            let next = next_on_way root tasks (task.Spell n) built h in
            let R : List Task → Type 0 = λ ts. Runs shapes root ts h.numbers in
            record {
              numbers = h.numbers;
              runs = subst R (sym (reverse-append tasks (task.Wrap n ∷ task.Spell part ∷ []))) (spell_then (omega arith) (wrap_one is within parts next.1));
              spelled = h.spelled;
            };
      })

  pub two_left : (n first second : ℕ) (s : Shape) (tasks new : List Task) (built : List Pat) → IsShape shapes n s → n < length shapes → shape_parts s ≡ first ∷ second ∷ [] → new ≡ tasks ++ task.Wrap n ∷ task.Spell second ∷ task.Spell first ∷ [] → DoesTask cells types shapes (task.Spell n) tasks new built built
  two_left n first second s tasks new built is within parts grows =
      let P : List Task → Type 0 = λ ts. DoesTask cells types shapes (task.Spell n) tasks ts built built in
      let Q : List ℕ → Type 0 = λ ps. Contains ps first in
      let R : List ℕ → Type 0 = λ ps. Contains ps second in
      let below = is.behind.below first (subst Q (sym parts) (in_first first (second ∷ []))) in
      let also = is.behind.below second (subst R (sym parts) (in_more first (second ∷ []) second (in_first second []))) in
      subst P (sym grows) (record {
        fewer = two_left_is_less shapes n first second s tasks is parts;
        goes_on = λ root h.
            let next = next_on_way root tasks (task.Spell n) built h in
            let S : List Task → Type 0 = λ ts. Runs shapes root ts h.numbers in
            record {
              numbers = h.numbers;
              runs = subst S (sym (reverse-append tasks (task.Wrap n ∷ task.Spell second ∷ task.Spell first ∷ []))) (spell_then (omega arith) (spell_then (omega arith) (wrap_two is within parts next.1)));
              spelled = h.spelled;
            };
      })

  one_shape : (n : ℕ) (s t : Shape) → IsShape shapes n s → IsShape shapes n t → s ≡ t
  one_shape n s t is also = same_Some s t (sym is.there ∙ also.there)

  -- a shape around the part that was built last
  pub wrapped_one : (n part : ℕ) (s : Shape) (tasks : List Task) (old mid new : List Pat) (last p : Pat) → IsShape shapes n s → shape_parts s ≡ part ∷ [] → (Spells cells types shapes part (pattern_of last) → Spells cells types shapes n (pattern_of p)) → old ≡ mid ++ last ∷ [] → new ≡ mid ++ p ∷ [] → DoesTask cells types shapes (task.Wrap n) tasks tasks old new
  wrapped_one n part s tasks old mid new last p is parts spells taken grows = record {
    fewer = wrapped_is_less shapes n tasks;
    goes_on = λ root h. elim (next_on_way root tasks (task.Wrap n) old h) [
      | inl w ↦
          let same : s ≡ w.s = one_shape n s w.s is w.is_shape in
          let parts_are : part ∷ [] ≡ w.part ∷ [] = sym parts ∙ ap shape_parts same ∙ w.parts in
          let part_is : w.part ≡ part = cc in
          let P : List Pat → Type 0 = λ bs. AreSpelled cells types shapes (reverse (map pattern_of bs)) h.numbers in
          let Q : List Pattern → Type 0 = λ qs. AreSpelled cells types shapes qs h.numbers in
          let R : List ℕ → Type 0 = λ ns. AreSpelled cells types shapes (pattern_of last ∷ reverse (map pattern_of mid)) ns in
          let first = spelled_next (subst R w.built_is (subst Q (reverse_built mid last) (subst P taken h.spelled))) in
          let S : ℕ → Type 0 = λ k. Spells cells types shapes k (pattern_of last) in
          let whole = spells (subst S part_is first.spells) in
          let T : List Pattern → Type 0 = λ qs. AreSpelled cells types shapes qs (n ∷ w.rest) in
          let U : List Pat → Type 0 = λ bs. AreSpelled cells types shapes (reverse (map pattern_of bs)) (n ∷ w.rest) in
          record {
            numbers = n ∷ w.rest;
            runs = w.then_runs;
            spelled = subst U (sym grows) (subst T (sym (reverse_built mid p)) (next_spelled whole first.more));
          }
      | inr w ↦
          let same : s ≡ w.s = one_shape n s w.s is w.is_shape in
          let parts_are : part ∷ [] ≡ w.first ∷ w.second ∷ [] = sym parts ∙ ap shape_parts same ∙ w.parts in
          let counted = ap length parts_are in
          absurd (omega arith)
    ];
  }

  -- a shape around the two parts that were built last
  pub wrapped_two : (n one other : ℕ) (s : Shape) (tasks : List Task) (old mid front new : List Pat) (first second p : Pat) → IsShape shapes n s → shape_parts s ≡ one ∷ other ∷ [] → (Spells cells types shapes one (pattern_of first) → Spells cells types shapes other (pattern_of second) → Spells cells types shapes n (pattern_of p)) → old ≡ mid ++ second ∷ [] → mid ≡ front ++ first ∷ [] → new ≡ front ++ p ∷ [] → DoesTask cells types shapes (task.Wrap n) tasks tasks old new
  wrapped_two n one other s tasks old mid front new first second p is parts spells taken also_taken grows = record {
    fewer = wrapped_is_less shapes n tasks;
    goes_on = λ root h. elim (next_on_way root tasks (task.Wrap n) old h) [
      | inl w ↦
          let same : s ≡ w.s = one_shape n s w.s is w.is_shape in
          let parts_are : one ∷ other ∷ [] ≡ w.part ∷ [] = sym parts ∙ ap shape_parts same ∙ w.parts in
          let counted = ap length parts_are in
          absurd (omega arith)
      | inr w ↦
          let same : s ≡ w.s = one_shape n s w.s is w.is_shape in
          let parts_are : one ∷ other ∷ [] ≡ w.first ∷ w.second ∷ [] = sym parts ∙ ap shape_parts same ∙ w.parts in
          let first_is : w.first ≡ one = cc in
          let second_is : w.second ≡ other = cc in
          let P : List Pat → Type 0 = λ bs. AreSpelled cells types shapes (reverse (map pattern_of bs)) h.numbers in
          let Q : List Pattern → Type 0 = λ qs. AreSpelled cells types shapes qs h.numbers in
          let R : List ℕ → Type 0 = λ ns. AreSpelled cells types shapes (pattern_of second ∷ reverse (map pattern_of mid)) ns in
          let last = spelled_next (subst R w.built_is (subst Q (reverse_built mid second) (subst P taken h.spelled))) in
          let V : List Pat → Type 0 = λ bs. AreSpelled cells types shapes (reverse (map pattern_of bs)) (w.first ∷ w.rest) in
          let W : List Pattern → Type 0 = λ qs. AreSpelled cells types shapes qs (w.first ∷ w.rest) in
          let before = spelled_next (subst W (reverse_built front first) (subst V also_taken last.more)) in
          let S : ℕ → Type 0 = λ k. Spells cells types shapes k (pattern_of first) in
          let X : ℕ → Type 0 = λ k. Spells cells types shapes k (pattern_of second) in
          let whole = spells (subst S first_is before.spells) (subst X second_is last.spells) in
          let T : List Pattern → Type 0 = λ qs. AreSpelled cells types shapes qs (n ∷ w.rest) in
          let U : List Pat → Type 0 = λ bs. AreSpelled cells types shapes (reverse (map pattern_of bs)) (n ∷ w.rest) in
          record {
            numbers = n ∷ w.rest;
            runs = w.then_runs;
            spelled = subst U (sym grows) (subst T (sym (reverse_built front p)) (next_spelled whole before.more));
          }
    ];
  }

  -- ---- what is there to be wrapped

  all_built : (root : ℕ) (tasks : List Task) (built : List Pat) (h : Way root tasks built) → length built ≡ length h.numbers
  all_built root tasks built h =
      let all = same_length h.spelled in
      let mapped = length-map built pattern_of in
      let turned = length-reverse (map pattern_of built) in
      omega arith

  -- the shape, with its parts
  pub record IsWrapped (n : ℕ) (built : List Pat) : Type 0 where
    pub within : n < length shapes
    pub s : Shape
    pub is_shape : IsShape shapes n s
    pub some : 0 < length (shape_parts s)
    pub enough : length (shape_parts s) ≤ length built

  pub is_wrapped : (n : ℕ) (built : List Pat) → ((root : ℕ) × (tasks : List Task) × Way root (tasks ++ task.Wrap n ∷ []) built) → IsWrapped n built
  is_wrapped n built (root, tasks, h) =
      let all = all_built root (tasks ++ task.Wrap n ∷ []) built h in
      elim (next_on_way root tasks (task.Wrap n) built h) [
        | inl w ↦
            let counted = ap length w.parts in
            let numbers = ap length w.built_is in
            record { within = w.within; s = w.s; is_shape = w.is_shape; some = omega arith; enough = omega arith }
        | inr w ↦
            let counted = ap length w.parts in
            let numbers = ap length w.built_is in
            record { within = w.within; s = w.s; is_shape = w.is_shape; some = omega arith; enough = omega arith }
      ]

-- ---- what is known of a shape

pub is_it : (shapes : List Shape) (n : ℕ) (s : Shape) → slice_get shapes n ≡ Some s → IsBehindParts n s → IsShape shapes n s
is_it shapes n s there behind = record { there = there; behind = behind }

module _ (cells : List Cell) (types : List (Option NodeType)) (shapes : List Shape) (ready : IsReady cells types shapes) where
  -- a value's node
  pub value_ready : (n i : ℕ) → slice_get shapes n ≡ Some (shape.Value i) → IsValue cells i
  value_ready n i there = let h = ready.of_schema.each_is n (shape.Value i) there in record { type = h.0; text = h.1; is_cell = h.2 }

  pub value_type_ready : (n i : ℕ) → slice_get shapes n ≡ Some (shape.Value i) → HasType types i
  value_type_ready n i there =
      let h = ready.each_known n (shape.Value i) there in
      let value = value_ready n i there in
      let inside = slice_get_within cells i _ value.is_cell in
      let all = ready.all_types in
      record { within = omega arith; node_type = h.0; known = h.1 }

  -- a type's node
  pub type_ready : (n i : ℕ) → slice_get shapes n ≡ Some (shape.Typed i) → HasType types i
  type_ready n i there =
      let h = ready.each_known n (shape.Typed i) there in
      let typed = ready.of_schema.each_is n (shape.Typed i) there in
      let inside = slice_get_within cells i _ typed.3 in
      let all = ready.all_types in
      record { within = omega arith; node_type = h.0; known = h.1 }

  -- a reference
  pub ref_ready : (n number : ℕ) → slice_get shapes n ≡ Some (shape.Ref number) → number < 2 ^ 32
  ref_ready n number there =
      let below = ready.of_schema.each_is n (shape.Ref number) there in
      let few = ready.few in
      omega arith

  -- an attribute's node
  pub attribute_ready : (n i part : ℕ) → slice_get shapes n ≡ Some (shape.Attribute i part) → HasAttribute cells i
  attribute_ready n i part there = let h = ready.of_schema.each_is n (shape.Attribute i part) there in record { class = h.0; part = h.1; is_cell = h.2 }

-- ---- what calls leave

module _ (cells : List Cell) (types : List (Option NodeType)) (shapes : List Shape) where
  pub leaves_one : (n part : ℕ) (s : Shape) (tasks new : List Task) (built : List Pat) (result : Result (Unit {0}) SchemaFault) → IsShape shapes n s → n < length shapes → shape_parts s ≡ part ∷ [] → Leaves tasks (task.Wrap n ∷ task.Spell part ∷ []) new result → Does cells types shapes (task.Spell n) tasks new built built result
  leaves_one n part s tasks new built (Ok done) is within parts left = one_left cells types shapes n part s tasks new built is within parts left
  leaves_one n part s tasks new built (Err fault.NoMemory) is within parts left = tt
  leaves_one n part s tasks new built (Err fault.Failed) is within parts left = left
  leaves_one n part s tasks new built (Err (fault.Absent a)) is within parts left = left
  leaves_one n part s tasks new built (Err (fault.NotUtf8 a at)) is within parts left = left
  leaves_one n part s tasks new built (Err (fault.BadUri a)) is within parts left = left
  leaves_one n part s tasks new built (Err (fault.Unreadable why)) is within parts left = left

  pub leaves_two : (n first second : ℕ) (s : Shape) (tasks new : List Task) (built : List Pat) (result : Result (Unit {0}) SchemaFault) → IsShape shapes n s → n < length shapes → shape_parts s ≡ first ∷ second ∷ [] → Leaves tasks (task.Wrap n ∷ task.Spell second ∷ task.Spell first ∷ []) new result → Does cells types shapes (task.Spell n) tasks new built built result
  leaves_two n first second s tasks new built (Ok done) is within parts left = two_left cells types shapes n first second s tasks new built is within parts left
  leaves_two n first second s tasks new built (Err fault.NoMemory) is within parts left = tt
  leaves_two n first second s tasks new built (Err fault.Failed) is within parts left = left
  leaves_two n first second s tasks new built (Err (fault.Absent a)) is within parts left = left
  leaves_two n first second s tasks new built (Err (fault.NotUtf8 a at)) is within parts left = left
  leaves_two n first second s tasks new built (Err (fault.BadUri a)) is within parts left = left
  leaves_two n first second s tasks new built (Err (fault.Unreadable why)) is within parts left = left

-- ---- shapes around their parts

module _ (cells : List Cell) (types : List (Option NodeType)) (shapes : List Shape) (n : ℕ) (tasks : List Task) (old mid new : List Pat) (last p : Pat) (taken : old ≡ mid ++ last ∷ []) (grows : new ≡ mid ++ p ∷ []) where
  pub list_wrapped : (part : ℕ) → slice_get shapes n ≡ Some (shape.List part) → IsBehindParts n (shape.List part) → pattern_of p ≡ pattern.listed (pattern_of last) → DoesTask cells types shapes (task.Wrap n) tasks tasks old new
  list_wrapped part there behind is =
      let P : Pattern → Type 0 = Spells cells types shapes n in
      wrapped_one cells types shapes n part (shape.List part) tasks old mid new last p (is_it shapes n (shape.List part) there behind) refl
      (λ spells. subst P (sym is) (spells_list (is_it shapes n (shape.List part) there behind) spells)) taken grows

  pub one_or_more_wrapped : (part : ℕ) → slice_get shapes n ≡ Some (shape.OneOrMore part) → IsBehindParts n (shape.OneOrMore part) → pattern_of p ≡ pattern.one_or_more (pattern_of last) → DoesTask cells types shapes (task.Wrap n) tasks tasks old new
  one_or_more_wrapped part there behind is =
      let P : Pattern → Type 0 = Spells cells types shapes n in
      wrapped_one cells types shapes n part (shape.OneOrMore part) tasks old mid new last p (is_it shapes n (shape.OneOrMore part) there behind) refl
      (λ spells. subst P (sym is) (spells_one_or_more (is_it shapes n (shape.OneOrMore part) there behind) spells)) taken grows

  pub attribute_wrapped : (i part : ℕ) → slice_get shapes n ≡ Some (shape.Attribute i part) → IsBehindParts n (shape.Attribute i part) → IsAttribute cells i (pattern_of last) (pattern_of p) → DoesTask cells types shapes (task.Wrap n) tasks tasks old new
  attribute_wrapped i part there behind is =
      wrapped_one cells types shapes n part (shape.Attribute i part) tasks old mid new last p (is_it shapes n (shape.Attribute i part) there behind) refl
      (λ spells. spells_attribute (is_it shapes n (shape.Attribute i part) there behind) spells is) taken grows

pub joined_wrapped : (cells : List Cell) (types : List (Option NodeType)) (shapes : List Shape) (n : ℕ) (tasks : List Task) (old mid front new : List Pat) (first second p : Pat) (by : Sign) (one other : ℕ) → old ≡ mid ++ second ∷ [] → mid ≡ front ++ first ∷ [] → new ≡ front ++ p ∷ [] → slice_get shapes n ≡ Some (shape.Joined by one other) → IsBehindParts n (shape.Joined by one other) → pattern_of p ≡ joined_pattern by (pattern_of first) (pattern_of second) → DoesTask cells types shapes (task.Wrap n) tasks tasks old new
joined_wrapped cells types shapes n tasks old mid front new first second p by one other taken also grows there behind is =
    let P : Pattern → Type 0 = Spells cells types shapes n in
    let is_shape = is_it shapes n (shape.Joined by one other) there behind in
    wrapped_two cells types shapes n one other (shape.Joined by one other) tasks old mid front new first second p is_shape refl
    (λ spells others. subst P (sym is) (spells_joined by is_shape spells others)) taken also grows

-- ---- what is there to be taken

-- a second part
pub second_there : (cells : List Cell) (types : List (Option NodeType)) (shapes : List Shape) (n : ℕ) (old mid : List Pat) (last : Pat) (by : Sign) (one other : ℕ) → ((root : ℕ) × (tasks : List Task) × IsUnderWay cells types shapes root (tasks ++ task.Wrap n ∷ []) old) → slice_get shapes n ≡ Some (shape.Joined by one other) → old ≡ mid ++ last ∷ [] → 0 < length mid
second_there cells types shapes n old mid last by one other way there taken =
    let w = is_wrapped cells types shapes n old way in
    let same : w.s ≡ shape.Joined by one other = same_Some _ _ (sym w.is_shape.there ∙ there) in
    let parts = ap (λ s. length (shape_parts s)) same in
    let enough = w.enough in
    let all = ap length taken in
    let sum = length-append mid (last ∷ []) in
    omega arith

pub shape_within : (cells : List Cell) (types : List (Option NodeType)) (shapes : List Shape) (n : ℕ) (old : List Pat) → ((root : ℕ) × (tasks : List Task) × IsUnderWay cells types shapes root (tasks ++ task.Wrap n ∷ []) old) → n < length shapes
shape_within cells types shapes n old way = (is_wrapped cells types shapes n old way).within

pub one_there : (cells : List Cell) (types : List (Option NodeType)) (shapes : List Shape) (n : ℕ) (old : List Pat) → ((root : ℕ) × (tasks : List Task) × IsUnderWay cells types shapes root (tasks ++ task.Wrap n ∷ []) old) → 0 < length old
one_there cells types shapes n old way =
    let w = is_wrapped cells types shapes n old way in
    let enough = w.enough in
    let some = w.some in
    omega arith

-- ---- the whole

pub begun : (cells : List Cell) (types : List (Option NodeType)) (shapes : List Shape) (root : ℕ) (tasks : List Task) (built : List Pat) → root < length shapes → tasks ≡ task.Spell root ∷ [] → built ≡ [] → IsUnderWay cells types shapes root tasks built
begun cells types shapes root tasks built within first none =
    let P : List Task → Type 0 = λ ts. IsUnderWay cells types shapes root ts built in
    let Q : List Pat → Type 0 = λ bs. IsUnderWay cells types shapes root (task.Spell root ∷ []) bs in
    subst P (sym first) (subst Q (sym none) (record { numbers = []; runs = spell_then within all_done; spelled = none_spelled }))

-- nothing is left to be done
ended : (cells : List Cell) (types : List (Option NodeType)) (shapes : List Shape) (root : ℕ) (built : List Pat) → (tasks : List Task) → tasks ≡ [] → IsUnderWay cells types shapes root tasks built → AreSpelled cells types shapes (reverse (map pattern_of built)) (root ∷ [])
ended cells types shapes root built tasks none h =
    let P : List Task → Type 0 = λ ts. Runs shapes root (reverse ts) h.numbers in
    let Q : List ℕ → Type 0 = AreSpelled cells types shapes (reverse (map pattern_of built)) in
    subst Q (runs_next shapes root (subst P none h.runs)) h.spelled

pub is_spelled : (cells : List Cell) (types : List (Option NodeType)) (shapes : List Shape) (root : ℕ) (tasks : List Task) (built rest : List Pat) (p : Pat) → tasks ≡ [] → built ≡ rest ++ p ∷ [] → IsUnderWay cells types shapes root tasks built → Spells cells types shapes root (pattern_of p)
is_spelled cells types shapes root tasks built rest p none taken h =
    let P : List Pat → Type 0 = λ bs. AreSpelled cells types shapes (reverse (map pattern_of bs)) (root ∷ []) in
    let Q : List Pattern → Type 0 = λ qs. AreSpelled cells types shapes qs (root ∷ []) in
    (spelled_next cells types shapes (subst Q (reverse_built rest p) (subst P taken (ended cells types shapes root built tasks none h)))).spells

pub never_none : (cells : List Cell) (types : List (Option NodeType)) (shapes : List Shape) (root : ℕ) (tasks : List Task) (built : List Pat) → tasks ≡ [] → built ≡ [] → IsUnderWay cells types shapes root tasks built → ⊥
never_none cells types shapes root tasks built none nothing h =
    let P : List Pat → Type 0 = λ bs. AreSpelled cells types shapes (reverse (map pattern_of bs)) (root ∷ []) in
    spelled_next cells types shapes (subst P nothing (ended cells types shapes root built tasks none h))

-- ---- definitions

definitions_behind : (cells : List Cell) (types : List (Option NodeType)) (forms : Forms) {elements : List ℕ} {definitions : List Definition} → AreDefinitions cells types forms elements definitions → (i : ℕ) (d : Definition) → IsDefinition cells types forms i d → AreDefinitions cells types forms (elements ++ i ∷ []) (definitions ++ d ∷ [])
definitions_behind cells types forms no_definitions i d is = next_definition is no_definitions
definitions_behind cells types forms (next_definition first more) i d is = next_definition first (definitions_behind cells types forms more i d is)

pub no_definition_yet : (cells : List Cell) (types : List (Option NodeType)) (forms : Forms) (defs : List Def) → defs ≡ [] → AreDefinitions cells types forms [] (map definition_of defs)
no_definition_yet cells types forms defs none = let P : List Def → Type 0 = λ ds. AreDefinitions cells types forms [] (map definition_of ds) in subst P (sym none) no_definitions

pub one_more_definition : (cells : List Cell) (types : List (Option NodeType)) (forms : Forms) (elements : List ℕ) (index : ℕ) (old new : List Def) (d : Def) → index < length elements → AreDefinitions cells types forms (take index elements) (map definition_of old) → IsDefinition cells types forms (slice_index elements index) (definition_of d) → new ≡ old ++ d ∷ [] → AreDefinitions cells types forms (take (index + 1) elements) (map definition_of new)
one_more_definition cells types forms elements index old new d less so_far is grows =
    let P : List ℕ → Type 0 = λ some. AreDefinitions cells types forms some (map definition_of new) in
    let Q : List Def → Type 0 = λ ds. AreDefinitions cells types forms (take index elements ++ slice_index elements index ∷ []) (map definition_of ds) in
    let R : List Definition → Type 0 = AreDefinitions cells types forms (take index elements ++ slice_index elements index ∷ []) in
    subst P (sym (take_more elements index 0 less)) (subst Q (sym grows) (subst R (sym (map-append definition_of old (d ∷ [])))
    (definitions_behind cells types forms so_far (slice_index elements index) (definition_of d) is)))

-- the task that is done
pub same_task : (cells : List Cell) (types : List (Option NodeType)) (shapes : List Shape) (t u : Task) (tasks : List Task) (built new : List Pat) (result : Result (Unit {0}) SchemaFault) → t ≡ u → Does cells types shapes u tasks tasks built new result → Does cells types shapes t tasks tasks built new result
same_task cells types shapes t u tasks built new result same done = let P : Task → Type 0 = λ k. Does cells types shapes k tasks tasks built new result in subst P (sym same) done

-- the start and all definitions
pub all_built_of : (cells : List Cell) (types : List (Option NodeType)) (forms : Forms) (root : ℕ) (elements : List ℕ) (index number : ℕ) (start : Pat) (defs : List Def) → length elements ≤ index → AreDefinitions cells types forms (take index elements) (map definition_of defs) → number ≡ slice_index forms.of.items root → Spells cells types forms.shapes number (pattern_of start) → IsBuilt cells types forms root elements (record { start = start; defs = defs })
all_built_of cells types forms root elements index number start defs all definitions is spells = record {
  start_is = let P : ℕ → Type 0 = λ n. Spells cells types forms.shapes n (pattern_of start) in subst P is spells;
  definitions_are = let P : List ℕ → Type 0 = λ some. AreDefinitions cells types forms some (map definition_of defs) in subst P (take_all index elements all) definitions;
}
