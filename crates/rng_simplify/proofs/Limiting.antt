-- Nodes counted element by element.
use Rattle.std.proofs.Common.{◌≡◌, sym, subst, ℕ, ◌+◌, ◌<◌, ◌≤◌, inl, inr, ◌⊎◌, List, [], length, take, slice_get, Some, Err, arith}
use Rattle.std.specs.Prelude.{slice_index}
use Rattle.std.proofs.lemmas.List.{take_more, take_all}
use Rattle.std.proofs.lemmas.List.Sums.{sum_by_more, sum_by_more_le}
use Rattle.std.proofs.lemmas.Option.{slice_get-get_or}
use Rattle.nx_base.specs.declared.cause.Cause.TheVariants.{TooLarge}
use Rattle.rng_simplify.specs.declared.fault.SchemaFault.{SchemaFault}
use Rattle.rng_simplify.specs.declared.fault.SchemaFault.TheVariants as fault
use Rattle.rng_simplify.specs.declared.form.Forms.{Forms}
use Rattle.rng_simplify.specs.Broken.{node_limit, depth_limit}
use Rattle.rng_simplify.specs.Cells.{Cell}
use Rattle.rng_simplify.specs.NodeForms.{form_of}
use Rattle.rng_simplify.specs.Forms.{Value, nodes, depth}
use Rattle.rng_simplify.specs.Limits.{content_of, nodes_of_all, AreWithinLimits, IsWithinLimits, IsCounted, Counts}
use Rattle.rng_simplify.proofs.Showing.{before_or_last}

-- so many nodes are counted, and all are within the limits
pub record AreCounted (cells : List Cell) (taken : ℕ → List Value) (forms : Forms) (root : ℕ) (elements : List ℕ) (count : ℕ) : Type 0 where
  pub count_is : count ≡ nodes_of_all cells taken forms root elements
  pub within : AreWithinLimits cells taken forms root elements

module _ (cells : List Cell) (forms : Forms) (root : ℕ) (elements : List ℕ) (index : ℕ) (less : index < length elements) where
  abbrev here : ℕ
  here = slice_index elements index

  here_there : slice_get elements index ≡ Some here
  here_there = slice_get-get_or elements index 0 less

  abbrev sizes : (ℕ → List Value) → ℕ → ℕ
  sizes taken i = nodes (form_of cells taken forms (content_of cells i))

  -- one more element
  pub one_more_counted : (taken : ℕ → List Value) (before count node : ℕ) → node ≡ content_of cells here → AreCounted cells taken forms root (take index elements) before → IsCounted cells taken forms node before count → AreCounted cells taken forms root (take (index + 1) elements) count
  one_more_counted taken before count node is counted next =
      let more = sum_by_more (sizes taken) elements index 0 less in
      let P : ℕ → Type 0 = λ n. IsCounted cells taken forms n before count in
      let now : IsCounted cells taken forms (content_of cells here) before count = subst P is next in
      let count_is = now.count_is in
      let before_is = counted.count_is in
      let few = now.few in
      let total : count ≡ nodes_of_all cells taken forms root (take (index + 1) elements) = omega arith in
      record {
        count_is = total;
        within = record {
          few = omega arith;
          shallow = counted.within.shallow;
          each_shallow = λ place i h.
              let P : List ℕ → Type 0 = λ some. slice_get some place ≡ Some i in
              elim (before_or_last (take index elements) here place i (subst P (take_more elements index 0 less) h)) [
                | inl there ↦ counted.within.each_shallow place i there
                | inr last ↦
                    let Q : ℕ → Type 0 = λ k. depth (form_of cells taken forms (content_of cells k)) ≤ depth_limit in
                    subst Q (sym last.1) now.shallow
              ];
        };
      }

  -- an element that is too large
  pub one_too_large : (before node : ℕ) (why : SchemaFault) → node ≡ content_of cells here → ((taken : ℕ → List Value) → AreCounted cells taken forms root (take index elements) before) → Counts forms node before (Err why) → IsWithinLimits cells forms root elements (Err why)
  one_too_large before node (fault.Unreadable TooLarge) is counted beyond = λ taken.
      let more = sum_by_more_le (sizes taken) elements index 0 less in
      let before_is = (counted taken).count_is in
      let P : ℕ → Type 0 = λ n. (node_limit < before + nodes (form_of cells taken forms n)) ⊎ (depth_limit < depth (form_of cells taken forms n)) in
      elim (subst P is (beyond cells taken)) [
        | inl many ↦ inl (omega arith)
        | inr deep ↦ inr (inr (index, here, here_there, deep))
      ]
  one_too_large before node (fault.Unreadable why) is counted beyond = absurd beyond
  one_too_large before node why is counted beyond = absurd beyond

-- all of them
pub all_counted : (cells : List Cell) (forms : Forms) (root : ℕ) (elements : List ℕ) (index count : ℕ) → length elements ≤ index → ((taken : ℕ → List Value) → AreCounted cells taken forms root (take index elements) count) → (taken : ℕ → List Value) → AreWithinLimits cells taken forms root elements
all_counted cells forms root elements index count all counted taken =
    let P : List ℕ → Type 0 = λ some. AreWithinLimits cells taken forms root some in
    subst P (take_all index elements all) (counted taken).within

-- few so far
pub few_counted : (cells : List Cell) (forms : Forms) (root : ℕ) (some : List ℕ) (count : ℕ) → ((taken : ℕ → List Value) → AreCounted cells taken forms root some count) → count ≤ node_limit
few_counted cells forms root some count counted =
    let all = counted (λ i. []) in
    let is = all.count_is in
    let few = all.within.few in
    omega arith
