-- What is found by going over items.
use Rattle.std.proofs.Common.{◌≡◌, ℕ, zero, suc, ◌+◌, ◌<◌, ◌≤◌, Bool, true, false, cond, Option, Some, None, List, [], ◌∷◌, ◌++◌, length, drop, get_or, Result, Ok, Err, Vec, Global, refl, sym, ap, subst, ◌∙◌, arith, nat_lt, IsUtf8, drop-cons}
use Rattle.std.specs.Option.{option_or}
use Rattle.std.specs.Str.{bytes_eq}
use Rattle.std.proofs.lemmas.Bool.Decides.{Decides-ltb}
use Rattle.std.proofs.lemmas.Grind.{common_steps}
use Rattle.nx_base.specs.declared.name.Name.{Name}
use Rattle.nx_base.specs.declared.token.Token.{Token}
use Rattle.nx_base.specs.Tokens.{tokens_of}
use Rattle.nx_events.specs.Among.{faults_among}
use Rattle.nx_events.specs.declared.item.Event.TheVariants as events
use Rattle.nx_events.specs.declared.item.Item.{Item}
use Rattle.nx_events.specs.declared.item.Item.TheVariants as items
use Rattle.nx_events.specs.declared.state.EventState.{EventState}
use Rattle.nx_events.specs.Items.{state_behind, items_of_token, items_from, items_at_end, items_of, items_of_text}
use Rattle.rngx_read.specs.declared.element.Element.{Element}
use Rattle.rngx_read.specs.declared.read.XReadFault.{XReadFault}
use Rattle.rngx_read.specs.declared.read.XReadFault.TheVariants as fault
use Rattle.rngx_read.specs.Building.{Built, Frame, opened, passed_by, entered_by, attribute_by, string_by, closed_by, left_by, behind_item, behind_items}
use Rattle.rngx_read.specs.Elements.{Nodes, elements_in, declared_of_text, IsReadAs}
use Rattle.rngx_read.specs.Elements.{schema_namespace}
use Rattle.rngx_read.specs.Marking.{begin_of, fault_place, first_place}
use Rattle.rngx_read.specs.Reads.{open_with, IsShallow, AnswersText}
use Rattle.rngx_read.specs.Views.{listed}
use Rattle.rngx_read.specs.Walking.{Walked, at_start, looked_at, counted_by, counted, behind_one, behind_all, IsSteady, Yields}
use Rattle.rngx_read.proofs.Answering.{bad_markup, no_fault}
use Rattle.rngx_read.proofs.Building.{all_put}
use Rattle.rngx_read.proofs.Nodes.{read_as}
use Rattle.rngx_read.proofs.TooDeep.{Deep, deep_end, deep_more, deep_here, deep_is}

-- ---- no more elements are passed over than are open

steady_item : (item : Item) (depth : ℕ) (built : Built) → built.passed ≤ depth → (behind_item item built).passed ≤ open_with depth item
steady_item (items.Event (events.Enter name) span) depth built few = entering built.passed refl
  where
    entering : (n : ℕ) → built.passed ≡ n → (entered_by n name built).passed ≤ depth + 1
    entering zero e = by_namespace (bytes_eq name.ns schema_namespace)
      where
        by_namespace : (b : Bool) → (cond b (opened name built) (passed_by built)).passed ≤ depth + 1
        by_namespace true = omega (arith, few)
        by_namespace false = omega (arith, few)
    entering (suc n) e = omega (arith, few)
steady_item (items.Event events.EnterLost span) depth built few = omega (arith, few)
steady_item (items.Event (events.Att name value) span) depth built few = by_passed built.passed
  where
    by_passed : (n : ℕ) → (attribute_by n name value built).passed ≤ depth
    by_passed zero = few
    by_passed (suc n) = few
steady_item (items.Event events.TagEnd span) depth built few = few
steady_item (items.Event (events.Chars text) span) depth built few = by_passed built.passed
  where
    by_passed : (n : ℕ) → (string_by n text built).passed ≤ depth
    by_passed zero = few
    by_passed (suc n) = few
steady_item (items.Event events.Leave span) depth built few = leaving built.passed refl
  where
    closing : (outer : List Frame) → built.passed ≡ 0 → (closed_by outer built).passed ≤ open_with depth (items.Event events.Leave span)
    closing [] e = omega (arith, e)
    closing (frame ∷ outer) e = omega (arith, e)

    leaving : (n : ℕ) → built.passed ≡ n → (left_by n built).passed ≤ open_with depth (items.Event events.Leave span)
    leaving zero e = closing built.outer e
    leaving (suc n) e = omega (arith, e, few)
steady_item (items.Fault fault) depth built few = few

pub steady_one : (item : Item) (walked : Walked) → IsSteady walked → IsSteady (behind_one item walked)
steady_one item walked steady = by_depth walked.too_deep
  where
    by_test : (b : Bool) → nat_lt 200 (open_with walked.depth item) ≡ b → IsSteady (counted_by b item (looked_at item walked))
    by_test true e = record { few = steady.few; passed = steady.passed }
    by_test false e =
        let few : open_with walked.depth item ≤ 200 =
        let least = Decides-ltb 200 (open_with walked.depth item) in
        grind (arith, least.1, e) in
        record { few = few; passed = steady_item item walked.depth walked.built steady.passed }

    by_depth : (deep : Option ℕ) → IsSteady (counted deep item (looked_at item walked))
    by_depth None = by_test (nat_lt 200 (open_with walked.depth item)) refl
    by_depth (Some at) = record { few = steady.few; passed = steady.passed }

pub steady_all : (all : List Item) (walked : Walked) → IsSteady walked → IsSteady (behind_all all walked)
unfolding behind_all
steady_all [] walked steady = steady
steady_all (item ∷ more) walked steady = steady_all more (behind_one item walked) (steady_one item walked steady)

-- ---- items of tokens, one after another

pub behind_both : (one other : List Item) (walked : Walked) → behind_all (one ++ other) walked ≡ behind_all other (behind_all one walked)
unfolding behind_all
behind_both [] other walked = refl
behind_both (item ∷ one) other walked = behind_both one other (behind_one item walked)

-- one item more
pub item_gone : (item : Item) (rest all : List Item) (walked : Walked) → all ≡ item ∷ rest →
    behind_all all walked ≡ behind_all rest (behind_one item walked)
unfolding behind_all
item_gone item rest all walked are = rw are refl

pub none_gone : (all : List Item) (walked : Walked) → length all ≡ 0 → behind_all all walked ≡ walked
unfolding behind_all
none_gone [] walked none = refl
none_gone (item ∷ all) walked none = absurd (omega (arith, none))

next_token : (ts : List Token) (i : ℕ) (t : Token) → i < length ts → t ≡ get_or ts i t → drop i ts ≡ t ∷ drop (i + 1) ts
next_token ts i t h e =
    let next : suc i ≡ i + 1 = omega arith in
    drop-cons ts i t h ∙ ap (λ (x : Token). x ∷ drop (suc i) ts) (sym e) ∙ ap (λ (k : ℕ). t ∷ drop k ts) next

-- one token more
pub token_gone : (len : ℕ) (state after : EventState) (ts : List Token) (i : ℕ) (t : Token) (more : List Item) (before now whole : Walked) →
    i < length ts → t ≡ get_or ts i t → more ≡ items_of_token state t → after ≡ state_behind state t → now ≡ behind_all more before →
    behind_all (items_from state (drop i ts) len) before ≡ whole → behind_all (items_from after (drop (i + 1) ts) len) now ≡ whole
unfolding items_from
token_gone len state after ts i t more before now whole h e m a n g =
    let step = ap (λ (us : List Token). items_from state us len) (next_token ts i t h e) in
    rw (n, m, a) (sym (behind_both (items_of_token state t) (items_from (state_behind state t) (drop (i + 1) ts) len) before)
    ∙ ap (λ (all : List Item). behind_all all before) (sym step) ∙ g)

pub end_gone : (len : ℕ) (state : EventState) (ts : List Token) (i : ℕ) (more : List Item) (before now whole : Walked) → length ts ≤ i →
    more ≡ items_at_end state len → now ≡ behind_all more before → behind_all (items_from state (drop i ts) len) before ≡ whole → now ≡ whole
unfolding items_from
end_gone len state ts i more before now whole h m n g =
    let none : drop i ts ≡ [] = grind (arith, common_steps) in
    n ∙ ap (λ (all : List Item). behind_all all before) (m ∙ ap (λ (us : List Token). items_from state us len) (sym none)) ∙ g

-- ---- what is found in all items

stays : (all : List Item) (walked : Walked) (at : ℕ) → walked.too_deep ≡ Some at → (behind_all all walked).too_deep ≡ Some at
unfolding behind_all
stays [] walked at e = e
stays (item ∷ more) walked at e =
    stays more (behind_one item walked) at (by_depth walked.too_deep e)
  where
    by_depth : (deep : Option ℕ) → deep ≡ Some at → (counted deep item (looked_at item walked)).too_deep ≡ Some at
    by_depth None never = absurd cc
    by_depth (Some other) same = e

fault_found : (all : List Item) (walked : Walked) → (behind_all all walked).fault ≡ option_or walked.fault (first_place all)
unfolding behind_all first_place
fault_found [] walked = by_fault walked.fault
  where
    by_fault : (fault : Option ℕ) → fault ≡ option_or fault None
    by_fault None = refl
    by_fault (Some at) = refl
fault_found (item ∷ more) walked =
    fault_found more (behind_one item walked)
    ∙ ap (λ (fault : Option ℕ). option_or fault (first_place more)) (looked walked.too_deep)
    ∙ either walked.fault (fault_place item)
  where
    looked : (deep : Option ℕ) → (counted deep item (looked_at item walked)).fault ≡ option_or walked.fault (fault_place item)
    looked None = by_test (nat_lt 200 (open_with walked.depth item))
      where
        by_test : (b : Bool) → (counted_by b item (looked_at item walked)).fault ≡ option_or walked.fault (fault_place item)
        by_test true = refl
        by_test false = refl
    looked (Some at) = refl

    either : (one other : Option ℕ) → option_or (option_or one other) (first_place more) ≡ option_or one (option_or other (first_place more))
    either None other = refl
    either (Some at) other = refl

-- whether the 201st element is open, and what is put together where it isn't
record Found (all : List Item) (depth : ℕ) (built : Built) (end : Walked) : Type 0 where
  pub deep : Deep depth all end.too_deep
  pub put : end.too_deep ≡ None → end.built ≡ behind_items all built

found : (all : List Item) (walked : Walked) → walked.too_deep ≡ None → walked.depth ≤ 200 → Found all walked.depth walked.built (behind_all all walked)
unfolding behind_all behind_items
found [] walked none few = record {
  deep = subst (λ (deep : Option ℕ). Deep walked.depth [] deep) (sym none) (deep_end walked.depth [] refl few);
  put = λ e. refl;
}
found (item ∷ more) walked none few =
    subst (λ (deep : Option ℕ). Found (item ∷ more) walked.depth walked.built (behind_all more (counted deep item (looked_at item walked))))
    (sym none)
    (by_test (nat_lt 200 (open_with walked.depth item)) refl (λ still. found more (counted_by false item (looked_at item walked)) none still))
  where
    least : (nat_lt 200 (open_with walked.depth item) ≡ true → 200 < open_with walked.depth item)
    least = (Decides-ltb 200 (open_with walked.depth item)).0

    least_not : 200 < open_with walked.depth item → nat_lt 200 (open_with walked.depth item) ≡ true
    least_not = (Decides-ltb 200 (open_with walked.depth item)).1

    by_test : (b : Bool) → nat_lt 200 (open_with walked.depth item) ≡ b →
        (open_with walked.depth item ≤ 200 →
        Found more (open_with walked.depth item) (behind_item item walked.built) (behind_all more (counted_by false item (looked_at item walked)))) →
        Found (item ∷ more) walked.depth walked.built (behind_all more (counted_by b item (looked_at item walked)))
    by_test true e further =
        let end : (behind_all more (counted_by true item (looked_at item walked))).too_deep ≡ Some (begin_of item) =
        stays more (counted_by true item (looked_at item walked)) (begin_of item) refl in
        record {
          deep =
              subst (λ (deep : Option ℕ). Deep walked.depth (item ∷ more) deep) (sym end)
              (deep_here walked.depth (open_with walked.depth item) item more (item ∷ more) refl few refl (least e));
          put = λ is. absurd cc;
        }
    by_test false e further =
        let still : open_with walked.depth item ≤ 200 = grind (arith, least_not, e) in
        let rest = further still in
        record {
          deep = deep_more walked.depth (open_with walked.depth item) item more (item ∷ more) _ refl few refl rest.deep;
          put = rest.put;
        }

-- ---- what is answered of a text

-- the elements of its nodes
pub record Answered (text : List ℕ) (elements : List Element) : Type 0 where
  pub nodes : Nodes
  pub is_read : IsReadAs text nodes
  pub shallow : IsShallow (items_of_text text)
  pub elements_are : listed elements ≡ elements_in [] nodes

abbrev behind_text : List ℕ → Walked
behind_text text = behind_all (items_of_text text) (at_start (declared_of_text text))

-- what is found of the tokens of a text
pub of_text : (text : List ℕ) (tokens : List Token) (len : ℕ) (declared : List (List Name)) (result : Result (Vec Element Global) XReadFault) →
    tokens ≡ tokens_of text → len ≡ length text → declared ≡ declared_of_text text →
    Yields (behind_all (items_of tokens len) (at_start declared)) result → Yields (behind_text text) result
of_text text tokens len declared result cut long are h =
    subst (λ (all : List (List Name)). Yields (behind_all (items_of_text text) (at_start all)) result) are
    (subst (λ (n : ℕ). Yields (behind_all (items_of (tokens_of text) n) (at_start declared)) result) long
    (subst (λ (all : List Token). Yields (behind_all (items_of all len) (at_start declared)) result) cut h))

text_found : (text : List ℕ) → Found (items_of_text text) 0 (at_start (declared_of_text text)).built (behind_text text)
text_found text = found (items_of_text text) (at_start (declared_of_text text)) refl (omega arith)

first_found : (text : List ℕ) → (behind_text text).fault ≡ first_place (items_of_text text)
first_found text = fault_found (items_of_text text) (at_start (declared_of_text text))

pub elements_found : (text : List ℕ) (elements : Vec Element Global) → IsUtf8 text → Yields (behind_text text) (Ok elements) →
    Answered text elements.items
elements_found text elements utf8 h =
    let f = text_found text in
    let faultless : faults_among (items_of_text text) ≡ [] = no_fault (items_of_text text) (sym h.0 ∙ first_found text) in
    let there = read_as text utf8 faultless in
    record {
      nodes = there.0;
      is_read = there.1;
      shallow = subst (λ (deep : Option ℕ). Deep 0 (items_of_text text) deep) h.1 f.deep;
      elements_are =
          h.2 ∙ ap (λ (built : Built). built.inner.children) (f.put h.1)
          ∙ all_put (items_of_text text) there.0 (at_start (declared_of_text text)).built there.1.events
          (ap (λ (declared : List (List Name)). (at_start declared).built) there.1.declared);
    }

pub none_found : (text : List ℕ) (why : XReadFault) → Yields (behind_text text) (Err why) → AnswersText text (Err why)
none_found text (fault.BadMarkup at) h = bad_markup text (items_of_text text) at (sym h ∙ first_found text) refl
none_found text (fault.TooDeep at) h = record {
  no_fault = no_fault (items_of_text text) (sym h.0 ∙ first_found text);
  deep =
      deep_is (items_of_text text) (Some at)
      (subst (λ (deep : Option ℕ). Deep 0 (items_of_text text) deep) h.1 (text_found text).deep);
}
none_found text fault.NoMemory h = tt
none_found text (fault.BadForm at) h = elim h [ ]
none_found text (fault.UndeclaredPrefix prefix) h = elim h [ ]
