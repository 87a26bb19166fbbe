-- The laws of reading texts in the XML syntax.
use Rattle.std.proofs.Common.{◌≡◌, ℕ, ◌<◌, ◌≤◌, List, [], ◌∷◌, ◌++◌, Option, Some, None, refl, sym, subst, ◌∙◌, ◌⊎◌, inl, inr, arith, append_assoc, IsUtf8}
use Rattle.nx_base.specs.declared.cause.Cause.{Cause}
use Rattle.nx_base.specs.declared.cause.Cause.TheVariants as cause
use Rattle.nx_base.specs.declared.fault.Fault.{Fault}
use Rattle.nx_events.specs.Among.{faults_among}
use Rattle.nx_events.specs.Items.{items_of_text}
use Rattle.nx_events.specs.declared.item.Item.{Item}
use Rattle.nx_events.specs.declared.item.Item.TheVariants as items
use Rattle.rnc_parse.specs.Written.{WrittenSurface}
use Rattle.rngx_read.specs.Elements.{Nodes, Elements, elements_in, IsReadAs}
use Rattle.rngx_read.specs.Files.{RefusesMarkup}
use Rattle.rngx_read.specs.Laws.{MarkupIsReadAsOne, MarkupReadIsNotRefused, MarkupIsReadOrRefused}
use Rattle.rngx_read.specs.Marking.{begin_of}
use Rattle.rngx_read.specs.Names.{bound_in}
use Rattle.rngx_read.specs.Reads.{IsFile, LeavesOut, Reads, IsTooDeepAt, IsShallow, open_with, open_behind, HaveNoForm}
use Rattle.rngx_read.proofs.Laws.{one_thing, read_or_refused}
use Rattle.rngx_read.proofs.Nodes.{read_as, elements_same}
use Rattle.rngx_read.proofs.TooDeep.{Deep, deep_end, deep_more, deep_here, deep_is}
use Rattle.rngx_read.proofs.Whole.{file_whole}

pub one_surface : MarkupIsReadAsOne
one_surface text one other is also =
    let same = elements_same text also.nodes is.nodes also.is_read is.is_read in
    one_thing bound_in (elements_in [] is.nodes) one other is.says (subst (λ (e : Elements). IsFile bound_in e other) same also.says)

pub too_deep : (all : List Item) (at : ℕ) → IsShallow all → IsTooDeepAt all at → ⊥
too_deep all at shallow d =
    let few : open_behind 0 (d.front ++ items.Event d.event d.span ∷ []) ≤ 200 =
    shallow (d.front ++ items.Event d.event d.span ∷ []) d.rest
    (d.items_are ∙ sym (append_assoc d.front (items.Event d.event d.span ∷ []) d.rest)) in
    let many : open_behind 0 (d.front ++ items.Event d.event d.span ∷ []) ≡ 201 = d.deep in
    omega (arith, few, many)

pub not_refused : MarkupReadIsNotRefused
not_refused text surface cause.BadMarkup is h = let never : [] ≡ h.1.first ∷ h.1.others = sym is.is_read.no_fault ∙ h.1.faults_are in cc
not_refused text surface cause.TooDeep is h = too_deep (items_of_text text) h.0 is.shallow h.1.deep
not_refused text surface cause.BadForm is h =
    let same = elements_same text is.nodes h.nodes is.is_read h.is_read in
    h.no_form bound_in surface (λ scope prefix uri e. e) (subst (λ (e : Elements). IsFile bound_in e surface) same is.says)
not_refused text surface cause.UndeclaredPrefix is h =
    let same = elements_same text is.nodes h.1.nodes is.is_read h.1.is_read in
    file_whole bound_in (elements_in [] h.1.nodes) surface h.0 (subst (λ (e : Elements). IsFile bound_in e surface) same is.says) h.1.left_out
not_refused text surface _ is h = elim h [ ]

-- some depth is found among items
few_or_many : (n : ℕ) → (n ≤ 200) ⊎ (200 < n)
few_or_many n = grind arith

some_depth : (before : ℕ) (all : List Item) → before ≤ 200 → (answer : Option ℕ) × Deep before all answer
some_depth before [] few = (None, deep_end before [] refl few)
some_depth before (item ∷ more) few =
    by_depth (few_or_many (open_with before item)) (λ still. some_depth (open_with before item) more still)
  where
    by_depth : (open_with before item ≤ 200) ⊎ (200 < open_with before item) →
        (open_with before item ≤ 200 → (answer : Option ℕ) × Deep (open_with before item) more answer) →
        (answer : Option ℕ) × Deep before (item ∷ more) answer
    by_depth (inl still) further =
        let d = further still in (d.0, deep_more before (open_with before item) item more (item ∷ more) d.0 refl few refl d.1)
    by_depth (inr many) further = (Some (begin_of item), deep_here before (open_with before item) item more (item ∷ more) refl few refl many)

-- a text is read, or refused for some cause
abbrev Answered : List ℕ → Type 0
Answered text = ((surface : WrittenSurface) × Reads text surface) ⊎ ((why : Cause) × RefusesMarkup text why)

by_elements : (text : List ℕ) (nodes : Nodes) → IsReadAs text nodes → IsShallow (items_of_text text) →
    (((surface : WrittenSurface) × IsFile bound_in (elements_in [] nodes) surface) ⊎
    (HaveNoForm (elements_in [] nodes) ⊎ ((prefix : List ℕ) × LeavesOut bound_in prefix (elements_in [] nodes)))) →
    Answered text
by_elements text nodes is shallow (inl (surface, says)) = inl (surface, record { nodes = nodes; is_read = is; shallow = shallow; says = says })
by_elements text nodes is shallow (inr (inl none)) = inr (cause.BadForm, record { nodes = nodes; is_read = is; shallow = shallow; no_form = none })
by_elements text nodes is shallow (inr (inr (prefix, left))) =
    inr (cause.UndeclaredPrefix, (prefix, record { nodes = nodes; is_read = is; shallow = shallow; left_out = left }))

by_depth : (text : List ℕ) → IsUtf8 text → faults_among (items_of_text text) ≡ [] → (answer : Option ℕ) → Deep 0 (items_of_text text) answer →
    Answered text
by_depth text utf8 none None shallow =
    let found = read_as text utf8 none in
    by_elements text found.0 found.1 shallow (read_or_refused (elements_in [] found.0))
by_depth text utf8 none (Some at) d = inr (cause.TooDeep, (at, record { no_fault = none; deep = deep_is (items_of_text text) (Some at) d }))

by_faults : (text : List ℕ) → IsUtf8 text → (found : List Fault) → faults_among (items_of_text text) ≡ found → Answered text
by_faults text utf8 [] none = let d = some_depth 0 (items_of_text text) (omega arith) in by_depth text utf8 none d.0 d.1
by_faults text utf8 (first ∷ others) are =
    inr (cause.BadMarkup, (first.span.from, record { first = first; others = others; faults_are = are; at_is = refl }))

pub read_or_not : MarkupIsReadOrRefused
read_or_not text utf8 = by_faults text utf8 (faults_among (items_of_text text)) refl
