-- How many elements are open at once.
use Rattle.std.proofs.Common.{◌≡◌, ℕ, ◌+◌, ◌<◌, ◌≤◌, List, [], ◌∷◌, ◌++◌, Option, Some, None, MatchOption, refl, sym, ap, ◌∙◌, arith}
use Rattle.nx_base.specs.declared.fault.Span.{Span}
use Rattle.nx_events.specs.declared.item.Event.{Event}
use Rattle.nx_events.specs.declared.item.Event.TheVariants.{Enter, EnterLost, Att, TagEnd, Chars, Leave}
use Rattle.nx_events.specs.declared.item.Item.{Item}
use Rattle.nx_events.specs.declared.item.Item.TheVariants as items
use Rattle.rngx_read.specs.Marking.{begin_of}
use Rattle.rngx_read.specs.Reads.{open_with, open_behind, IsShallow, IsTooDeepAt}

one_more : (before : ℕ) (item : Item) → open_with before item ≤ before + 1
one_more before (items.Event (Enter name) span) = omega arith
one_more before (items.Event EnterLost span) = omega arith
one_more before (items.Event (Att name value) span) = omega arith
one_more before (items.Event TagEnd span) = omega arith
one_more before (items.Event (Chars string) span) = omega arith
one_more before (items.Event Leave span) = omega arith
one_more before (items.Fault fault) = omega arith

-- as in `IsShallow` and `IsTooDeepAt`, where so many elements are open before
abbrev pub ShallowBehind : ℕ → List Item → Type 0
ShallowBehind before all = (front rest : List Item) → all ≡ front ++ rest → open_behind before front ≤ 200

pub record DeepBehind (before : ℕ) (all : List Item) (at : ℕ) : Type 0 where
  pub front : List Item
  pub event : Event
  pub span : Span
  pub rest : List Item
  pub items_are : all ≡ front ++ items.Event event span ∷ rest
  pub at_is : at ≡ span.from
  pub shallow : ShallowBehind before front
  pub deep : open_behind before (front ++ items.Event event span ∷ []) ≡ 201

abbrev pub Deep : ℕ → List Item → Option ℕ → Type 0
Deep before all None = ShallowBehind before all
Deep before all (Some at) = DeepBehind before all at

shallow_nothing : (before : ℕ) → before ≤ 200 → ShallowBehind before []
shallow_nothing before few [] rest e = few
shallow_nothing before few (x ∷ front) rest e = absurd cc

shallow_more : (before now : ℕ) (item : Item) (all : List Item) → before ≤ 200 → now ≡ open_with before item →
    ShallowBehind now all → ShallowBehind before (item ∷ all)
shallow_more before now item all few is h [] rest e = few
shallow_more before now item all few is h (x ∷ front) rest e =
    let same : x ≡ item = cc in
    let others : all ≡ front ++ rest = cc in
    rw (same, ← is) (h front rest others)

pub deep_end : (before : ℕ) (rest : List Item) → rest ≡ [] → before ≤ 200 → Deep before rest None
deep_end before rest e few = rw e (shallow_nothing before few)

pub deep_more : (before now : ℕ) (item : Item) (rest all : List Item) (answer : Option ℕ) → all ≡ item ∷ rest → before ≤ 200 →
    now ≡ open_with before item → Deep now rest answer → Deep before all answer
deep_more before now item rest all None e few is h = rw e (shallow_more before now item rest few is h)
deep_more before now item rest all (Some at) e few is h = record {
  front = item ∷ h.front;
  event = h.event;
  span = h.span;
  rest = h.rest;
  items_are = e ∙ ap (λ l. item ∷ l) h.items_are;
  at_is = h.at_is;
  shallow = shallow_more before now item h.front few is h.shallow;
  deep = ap (λ n. open_behind n (h.front ++ items.Event h.event h.span ∷ [])) (sym is) ∙ h.deep;
}

-- a fault opens none
pub deep_here : (before now : ℕ) (item : Item) (rest all : List Item) → all ≡ item ∷ rest → before ≤ 200 →
    now ≡ open_with before item → 200 < now → Deep before all (Some (begin_of item))
deep_here before now (items.Fault fault) rest all e few is many = absurd (omega (arith, is, few, many))
deep_here before now (items.Event event span) rest all e few is many = record {
  front = [];
  event = event;
  span = span;
  rest = rest;
  items_are = e;
  at_is = refl;
  shallow = shallow_nothing before few;
  deep = omega (arith, one_more before (items.Event event span), is, few, many);
}

pub deep_is : (all : List Item) (answer : Option ℕ) → Deep 0 all answer → MatchOption answer (IsShallow all) (λ at. IsTooDeepAt all at)
deep_is all None h = h
deep_is all (Some at) h = record {
  front = h.front;
  event = h.event;
  span = h.span;
  rest = h.rest;
  items_are = h.items_are;
  at_is = h.at_is;
  shallow = h.shallow;
  deep = h.deep;
}
