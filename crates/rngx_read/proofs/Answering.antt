-- What the program answers of the tokens and items of a text.
use Rattle.std.proofs.Common.{◌≡◌, ◌≢◌, ℕ, ◌<◌, Some, None, List, [], ◌∷◌, length, map, Result, Ok, Err, refl, sym, ap, subst, ◌∙◌, arith}
use Rattle.std.proofs.lemmas.List.Elements.{Contains-append_right}
use Rattle.nx_base.specs.Tokens.{tokens_of}
use Rattle.nx_base.specs.declared.fault.Fault.{Fault}
use Rattle.nx_base.specs.declared.token.Token.{Token}
use Rattle.nx_events.specs.Among.{faults_among}
use Rattle.nx_events.specs.Items.{items_of_text, items_of, items_from, items_at_end}
use Rattle.nx_events.specs.Runs.{run_items}
use Rattle.nx_events.specs.declared.item.Item.{Item}
use Rattle.nx_events.specs.declared.item.Item.TheVariants as items
use Rattle.rnc_parse.specs.declared.surface.Surface.{Surface}
use Rattle.rnc_parse.specs.Views.{surface_of}
use Rattle.rnc_parse.specs.Written.{WrittenSurface}
use Rattle.rngx_read.specs.declared.element.Element.{Element}
use Rattle.rngx_read.specs.declared.read.XReadFault.{XReadFault}
use Rattle.rngx_read.specs.declared.read.XReadFault.TheVariants as fault
use Rattle.rngx_read.specs.declared.stop.Stop.{Stop}
use Rattle.rngx_read.specs.declared.stop.Stop.TheVariants as stop
use Rattle.rngx_read.specs.Elements.{Nodes, Elements, elements_in, IsReadAs}
use Rattle.rngx_read.specs.Marking.{first_place}
use Rattle.rngx_read.specs.Names.{bound_in}
use Rattle.rngx_read.specs.Reading.{read, no_form, Finds}
use Rattle.rngx_read.specs.ReadingPatterns.{surface_at}
use Rattle.rngx_read.specs.Reads.{IsFile, IsShallow, LeavesOut, HasBadMarkup, AnswersText}
use Rattle.rngx_read.specs.Answering.{RefusesAt, AnswersNodes, BeginsOne}
use Rattle.rngx_read.specs.Views.{listed}
use Rattle.rngx_read.proofs.Laws.{said, left_out, formless_is}

-- ---- the elements outside of all others

-- there is not one
pub not_alone : (elements : List Element) → length elements ≢ 1 → surface_at bound_in (listed elements) ≡ no_form
unfolding surface_at
not_alone [] none = refl
not_alone (one ∷ []) none = absurd (none refl)
not_alone (one ∷ other ∷ more) none = refl

-- ---- the nodes of a text

pub surface_said : (nodes : Nodes) (elements : Elements) (surface : WrittenSurface) → elements ≡ elements_in [] nodes →
    surface_at bound_in elements ≡ read surface → IsFile bound_in (elements_in [] nodes) surface
surface_said nodes elements surface are found = said bound_in (elements_in [] nodes) surface (ap (surface_at bound_in) (sym are) ∙ found)

pub surface_refused : (text : List ℕ) (nodes : Nodes) (elements : Elements) (tokens : List Token) (why : Stop) (answer : XReadFault) →
    elements ≡ elements_in [] nodes → Finds surface_of (Err why) (surface_at bound_in elements) → tokens ≡ tokens_of text →
    RefusesAt tokens why answer →
    AnswersNodes text nodes (Err answer)
surface_refused text nodes elements tokens (stop.Form before) (fault.BadForm at) are found cut h =
    (formless_is (elements_in [] nodes) (ap (surface_at bound_in) (sym are) ∙ found), subst (λ (all : List Token). BeginsOne all at) cut h)
surface_refused text nodes elements tokens (stop.Prefix prefix) (fault.UndeclaredPrefix told) are found cut h =
    subst (λ (p : List ℕ). LeavesOut bound_in p (elements_in [] nodes)) (sym h)
    (left_out bound_in (elements_in [] nodes) prefix (ap (surface_at bound_in) (sym are) ∙ found))
surface_refused text nodes elements tokens stop.NoMemory fault.NoMemory are found cut h = tt
surface_refused text nodes elements tokens _ _ are found cut h = elim h [ ]

pub nodes_answer : (text : List ℕ) (nodes : Nodes) (answer : Result Surface XReadFault) → IsReadAs text nodes → IsShallow (items_of_text text) →
    AnswersNodes text nodes answer → AnswersText text answer
nodes_answer text nodes (Ok surface) is shallow h = record { nodes = nodes; is_read = is; shallow = shallow; says = h }
nodes_answer text nodes (Err (fault.BadForm at)) is shallow h = (record { nodes = nodes; is_read = is; shallow = shallow; no_form = h.0 }, h.1)
nodes_answer text nodes (Err (fault.UndeclaredPrefix prefix)) is shallow h = record { nodes = nodes; is_read = is; shallow = shallow; left_out = h }
nodes_answer text nodes (Err fault.NoMemory) is shallow h = tt
nodes_answer text nodes (Err (fault.BadMarkup at)) is shallow h = elim h [ ]
nodes_answer text nodes (Err (fault.TooDeep at)) is shallow h = elim h [ ]

-- ---- faults

-- the first one
record First (all : List Item) (at : ℕ) : Type 0 where
  pub first : Fault
  pub others : List Fault
  pub are : faults_among all ≡ first ∷ others
  pub at_is : at ≡ first.span.from

first_is : (all : List Item) (at : ℕ) → Some at ≡ first_place all → First all at
unfolding first_place
first_is [] at e = absurd cc
first_is (items.Event event span ∷ more) at e =
    let f = first_is more at e in
    record { first = f.first; others = f.others; are = f.are; at_is = f.at_is }
first_is (items.Fault one ∷ more) at e = record { first = one; others = faults_among more; are = refl; at_is = cc }

pub bad_markup : (text : List ℕ) (all : List Item) (at : ℕ) → Some at ≡ first_place all → all ≡ items_of_text text → HasBadMarkup text at
bad_markup text all at e are =
    let f = first_is all at e in
    record { first = f.first; others = f.others; faults_are = ap faults_among (sym are) ∙ f.are; at_is = f.at_is }

pub no_fault : (all : List Item) → None ≡ first_place all → faults_among all ≡ []
unfolding first_place
no_fault [] e = refl
no_fault (items.Event event span ∷ more) e = no_fault more e
no_fault (items.Fault one ∷ more) e = absurd cc

-- ---- tokens

-- a text without tokens has no root
nothing_faulty : (len : ℕ) → faults_among (items_of [] len) ≢ []
unfolding items_from items_at_end run_items
nothing_faulty len e = absurd cc

pub some_token : (text : List ℕ) (tokens : List Token) → tokens ≡ tokens_of text → faults_among (items_of_text text) ≡ [] → 0 < length tokens
some_token text [] are none = absurd (nothing_faulty (length text) (ap (λ (all : List Token). faults_among (items_of all (length text))) are ∙ none))
some_token text (token ∷ tokens) are none = omega arith

pub begins_here : (token : Token) (behind all : List Token) (at : ℕ) → all ≡ token ∷ behind → token.from ≡ at → BeginsOne all at
begins_here token behind all at are is = subst (λ (ts : List Token). BeginsOne ts at) (sym are) (0, omega arith, is)

pub begins_behind : (token : Token) (behind all : List Token) (at : ℕ) → all ≡ token ∷ behind → BeginsOne behind at → BeginsOne all at
begins_behind token behind all at are is =
    subst (λ (ts : List Token). BeginsOne ts at) (sym are)
    (Contains-append_right (token.from ∷ []) (map (λ (t : Token). t.from) behind) at is)
