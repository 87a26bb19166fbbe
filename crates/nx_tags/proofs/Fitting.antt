-- Tags nest exactly where the end tags fit.
use Rattle.std.proofs.Common.{◌≡◌, ℕ, suc, ◌+◌, ◌-◌, ◌<◌, ◌≤◌, Bool, true, false, cond, Option, Some, None, List, [], ◌∷◌, ◌++◌, length, drop, reverse}
use Rattle.std.proofs.Common.{refl, sym, ◌∙◌, ap, subst, arith, append_assoc, length-append, length-drop}
use Rattle.std.specs.List.{flat_map}
use Rattle.std.specs.Str.{bytes_eq}
use Rattle.std.proofs.lemmas.List.{length-reverse}
use Rattle.std.proofs.lemmas.Slice.Eq.{bytes_eq-Decides}
use Rattle.nx_base.specs.declared.fault.Kind.TheVariants as faults
use Rattle.nx_base.specs.declared.fault.Span.{Span}
use Rattle.nx_base.specs.declared.token.Token.{Token}
use Rattle.nx_base.specs.declared.token.TokenKind.{TokenKind}
use Rattle.nx_base.specs.declared.token.TokenKind.TheVariants as kinds
use Rattle.nx_events.specs.Choices.{or_else, one_more}
use Rattle.nx_events.specs.Items.{token_span, around_innermost, left_out, closing_items, end_items, items_by_kind, items_of_token, state_behind}
use Rattle.nx_events.specs.OpenTags.{state_after}
use Rattle.nx_events.specs.Runs.{run_items}
use Rattle.nx_events.specs.Tags.{start_name, end_name}
use Rattle.nx_events.specs.declared.item.Event.TheVariants.{Leave}
use Rattle.nx_events.specs.declared.item.Item.{Item}
use Rattle.nx_events.specs.declared.item.Item.TheVariants as items
use Rattle.nx_events.specs.declared.state.EventState.{EventState}
use Rattle.nx_events.specs.declared.state.OpenElement.{OpenElement}
use Rattle.nx_tags.specs.Elements.{IsNoStartOrEnd, Nested, nothing, other, element}
use Rattle.nx_tags.proofs.EndFaults.{Fine, fine_both, run_fine, others_fine}
use Rattle.nx_tags.specs.Fitting.{Fits, AllAlong, IsClosedBy, IsItsEnd, EndsFitWhereTagsNest}
use Rattle.nx_tags.proofs.RenamingNested.{after_append, end_gives, end_leaves, state_alike, some_open, same_open, opened_by, start_opens}

-- ---- items without the fault of an end tag

fine_front : (xs ys : List Item) → Fine (xs ++ ys) → Fine xs
fine_front [] ys h = tt
fine_front (x ∷ xs) ys h = (h.0, fine_front xs ys h.1)

fine_back : (xs ys : List Item) → Fine (xs ++ ys) → Fine ys
fine_back [] ys h = h
fine_back (x ∷ xs) ys h = fine_back xs ys h.1

-- elements that are left out have one
left_over : (span : Span) (es : List OpenElement) → 0 < length es → Fine (flat_map (left_out faults.MissingEnd span) es) → ⊥
left_over span [] some h = absurd (omega arith)
left_over span (e ∷ es) some h = h.0 tt

-- ---- an end tag inside of elements

around_within : (name : List ℕ) (xs : List OpenElement) (n : ℕ) → around_innermost name xs ≡ Some n → n < length xs
unfolding around_innermost
around_within name [] n e = let bad : None ≡ Some n = e in absurd (cc)
around_within name (x ∷ xs) n e = by_inner (around_innermost name xs) (λ m f. around_within name xs m f) (bytes_eq x.written name) e
  where
    by_inner : (o : Option ℕ) → ((m : ℕ) → o ≡ Some m → m < length xs) → (t : Bool) → or_else (one_more o) (cond t (Some 0) None) ≡ Some n → n < suc (length xs)
    by_inner (Some m) h t f = let same : Some (suc m) ≡ Some n = f in let num : suc m ≡ n = cc in let less = h m refl in omega arith
    by_inner None h true f = let same : Some 0 ≡ Some n = f in let num : 0 ≡ n = cc in omega arith
    by_inner None h false f = let bad : None ≡ Some n = f in absurd (cc)

around_others : (outer : List OpenElement) (inmost : OpenElement) (name : List ℕ) → bytes_eq inmost.written name ≡ false →
    around_innermost name (outer ++ inmost ∷ []) ≡ around_innermost name outer
unfolding around_innermost
around_others [] inmost name h = rw h refl
around_others (x ∷ outer) inmost name h =
    ap (λ (o : Option ℕ). or_else (one_more o) (cond (bytes_eq x.written name) (Some 0) None)) (around_others outer inmost name h)

module _ (state : EventState) (outer : List OpenElement) (inmost : OpenElement) (token : Token) (kind : token.kind ≡ kinds.End)
    (are : state.elements ≡ outer ++ inmost ∷ []) where
  -- it fits where it has the innermost one's name
  named_fits : inmost.written ≡ end_name token.bytes → Fits state token
  named_fits named =
      subst (λ (xs : List Item). Fine xs)
      (sym (ap (λ (s : EventState). items_of_token s token) (same_open (outer ++ inmost ∷ []) state are) ∙ end_gives state outer inmost token kind named))
      (fine_both (run_items token.from state.run) (items.Event Leave (token_span token) ∷ []) (run_fine token.from state.run) (tt, tt))

  named_leaves : inmost.written ≡ end_name token.bytes → (state_behind state token).elements ≡ outer
  named_leaves named =
      ap (λ (s : EventState). (state_behind s token).elements) (same_open (outer ++ inmost ∷ []) state are)
      ∙ ap (λ (s : EventState). s.elements) (end_leaves state outer inmost token kind named)

  -- and nowhere else
  by_place : (found : Option ℕ) → ((n : ℕ) → found ≡ Some n → n < length outer) → Fine (closing_items state token found) → ⊥
  by_place None within h = h.0 tt
  by_place (Some n) within h =
      let less = within n refl in
      let inside = drop (suc n) state.elements in
      let left : length inside ≡ length state.elements - suc n = length-drop (suc n) state.elements in
      let all : length state.elements ≡ length outer + 1 = ap length are ∙ length-append outer (inmost ∷ []) in
      let size : length (reverse inside) ≡ length inside = length-reverse inside in
      let run = run_items token.from state.run in
      let inner = flat_map (left_out faults.MissingEnd (token_span token)) (reverse inside) in
      left_over (token_span token) (reverse inside) (omega (arith, less, left, all, size))
      (fine_back run inner (fine_front (run ++ inner) (items.Event Leave (token_span token) ∷ []) h))

  closing_fine : Fits state token → Fine (closing_items state token (around_innermost (end_name token.bytes) state.elements))
  unfolding items_of_token end_items
  closing_fine fits = subst (λ (k : TokenKind). Fine (items_by_kind k state token)) kind fits

  fits_named : Fits state token → inmost.written ≡ end_name token.bytes
  fits_named fits = by_test (bytes_eq inmost.written (end_name token.bytes)) refl
    where
      by_test : (t : Bool) → bytes_eq inmost.written (end_name token.bytes) ≡ t → inmost.written ≡ end_name token.bytes
      by_test true e = (bytes_eq-Decides inmost.written (end_name token.bytes)).0 e
      by_test false e =
          absurd (by_place (around_innermost (end_name token.bytes) outer) (λ n f. around_within (end_name token.bytes) outer n f)
          (subst (λ (o : Option ℕ). Fine (closing_items state token o))
          (ap (around_innermost (end_name token.bytes)) are ∙ around_others outer inmost (end_name token.bytes) e) (closing_fine fits)))

-- ---- any other token

others_fit : (state : EventState) (token : Token) → (token.kind ≡ kinds.End → ⊥) → Fits state token
unfolding items_of_token
others_fit state token h = others_fine token.kind state token h

-- ---- how many elements are open

start_elements : (state : EventState) (token : Token) → token.kind ≡ kinds.Start → (state_behind state token).elements ≡ state.elements ++ opened_by state token ∷ []
start_elements state token kind = ap (λ (s : EventState). s.elements) (start_opens state state.elements token kind)

other_elements : (state : EventState) (token : Token) → IsNoStartOrEnd token.kind → 0 < length state.elements → (state_behind state token).elements ≡ state.elements
unfolding state_behind
other_elements state token between some =
    (state_alike token.kind state token state.elements state.elements (some_open state.elements some) (some_open state.elements some) between).elements

abbrev Stays : ℕ → EventState → Token → Type 0
Stays n there token = (n < length (state_behind there token).elements) × Fits there token

along_append : (Holds : EventState → Token → Type 0) (state : EventState) (xs ys : List Token) → AllAlong Holds state xs →
    AllAlong Holds (state_after state xs) ys → AllAlong Holds state (xs ++ ys)
unfolding state_after
along_append Holds state [] ys h k = k
along_append Holds state (x ∷ xs) ys h k = (h.0, along_append Holds (state_behind state x) xs ys h.1 k)

stays_open : (n : ℕ) (state : EventState) (ts : List Token) → AllAlong (Stays n) state ts → n < length state.elements → n < length (state_after state ts).elements
unfolding state_after
stays_open n state [] h k = k
stays_open n state (t ∷ ts) h k = stays_open n (state_behind state t) ts h.1 h.0.0

falls_by : (kind : TokenKind) (state : EventState) (token : Token) (n : ℕ) → token.kind ≡ kind → n < length state.elements →
    length (state_behind state token).elements ≤ n → token.kind ≡ kinds.End
falls_by kinds.End state token n k some le = k
falls_by kinds.Start state token n k some le =
    let l = ap length (start_elements state token k) ∙ length-append state.elements (opened_by state token ∷ []) in absurd (omega (arith, l, some, le))
falls_by _ state token n k some le =
    let l = ap length (other_elements state token (subst (λ (it : TokenKind). IsNoStartOrEnd it) (sym k) tt) (omega (arith, some))) in absurd (omega (arith, l, some, le))

-- ---- tokens in which tags nest

record IsPassed (n : ℕ) (es : List OpenElement) (state : EventState) (ts : List Token) : Type 0 where
  along : AllAlong (Stays n) state ts
  elements : (state_after state ts).elements ≡ es

nothing_passed : (n : ℕ) (es : List OpenElement) (state : EventState) → state.elements ≡ es → IsPassed n es state []
unfolding state_after
nothing_passed n es state are = record { along = tt; elements = are }

other_passed : (n : ℕ) (es : List OpenElement) (state : EventState) (token : Token) (others : List Token) → IsNoStartOrEnd token.kind →
    state.elements ≡ es → n < length es → ((s : EventState) → s.elements ≡ es → IsPassed n es s others) → IsPassed n es state (token ∷ others)
unfolding state_after
other_passed n es state token others between are some rest =
    let size = ap length are in
    let kept : (state_behind state token).elements ≡ es = other_elements state token between (omega (arith, size, some)) ∙ are in
    let long = ap length kept in
    let r = rest (state_behind state token) kept in
    record {
      along = ((omega (arith, long, some), others_fit state token (λ k. subst (λ (it : TokenKind). IsNoStartOrEnd it) k between)), r.along);
      elements = r.elements;
    }

element_passed : (n : ℕ) (es : List OpenElement) (state : EventState) (start end : Token) (inner others : List Token) → start.kind ≡ kinds.Start →
    end.kind ≡ kinds.End → start_name start.bytes ≡ end_name end.bytes → state.elements ≡ es → n < length es →
    ((fs : List OpenElement) (s : EventState) → s.elements ≡ fs → n < length fs → IsPassed n fs s inner) →
    ((s : EventState) → s.elements ≡ es → IsPassed n es s others) → IsPassed n es state (start ∷ (inner ++ end ∷ others))
unfolding state_after
element_passed n es state start end inner others start_kind end_kind named are some inside rest =
    let e = opened_by state start in
    let s1 = state_behind state start in
    let opened : s1.elements ≡ es ++ e ∷ [] = start_elements state start start_kind ∙ ap (λ (xs : List OpenElement). xs ++ e ∷ []) are in
    let size = length-append es (e ∷ []) in
    let long = ap length opened in
    let i = inside (es ++ e ∷ []) s1 opened (omega (arith, size, some)) in
    let s2 = state_after s1 inner in
    let left : (state_behind s2 end).elements ≡ es = named_leaves s2 es e end end_kind i.elements named in
    let left_long = ap length left in
    let r = rest (state_behind s2 end) left in
    record {
      along = (
        (omega (arith, long, size, some), others_fit state start (λ k. (let bad : kinds.Start ≡ kinds.End = sym start_kind ∙ k in cc))),
        along_append (Stays n) s1 inner (end ∷ others) i.along
            ((omega (arith, left_long, some), named_fits s2 es e end end_kind i.elements named), r.along),
      );
      elements = ap (λ (s : EventState). s.elements) (after_append s1 inner (end ∷ others)) ∙ r.elements;
    }

nested_passed : (ts : List Token) → Nested ts → (n : ℕ) (es : List OpenElement) (state : EventState) → state.elements ≡ es → n < length es → IsPassed n es state ts
nested_passed _ nothing n es state are some = nothing_passed n es state are
nested_passed _ (other token others between rest) n es state are some =
    other_passed n es state token others between are some (λ s a. nested_passed others rest n es s a some)
nested_passed _ (element start end inner others start_kind nested end_kind named rest) n es state are some =
    element_passed n es state start end inner others start_kind end_kind named are some
    (λ fs s a b. nested_passed inner nested n fs s a b) (λ s a. nested_passed others rest n es s a some)

-- ---- tokens of which each fits

-- these elements are open, and inside of them those of these start tags, the innermost first
Stands : List OpenElement → List Token → List OpenElement → Type 0
Stands base [] es = es ≡ base
Stands base (tag ∷ outer) es = (inner : List OpenElement) × Stands base outer inner × (e : OpenElement) × (es ≡ inner ++ e ∷ []) × (e.written ≡ start_name tag.bytes)

stands_long : (base : List OpenElement) (tags : List Token) (es : List OpenElement) → Stands base tags es → length es ≡ length base + length tags
unfolding Stands
stands_long base [] es h = (let l = ap length h in omega (arith, l))
stands_long base (tag ∷ outer) es h =
    let r = stands_long base outer h.0 h.1 in
    let l = ap length h.3 ∙ length-append h.0 (h.2 ∷ []) in
    omega (arith, r, l)

-- tokens close these start tags, the innermost first, and nest between
Closes : List Token → List Token → Type 0
Closes [] ts = Nested ts
Closes (tag ∷ outer) ts =
    (inner : List Token) × (end : Token) × (rest : List Token) × (ts ≡ inner ++ end ∷ rest) × Nested inner × (end.kind ≡ kinds.End)
    × (start_name tag.bytes ≡ end_name end.bytes) × Closes outer rest

with_other : (tags : List Token) (t : Token) (ts : List Token) → IsNoStartOrEnd t.kind → Closes tags ts → Closes tags (t ∷ ts)
unfolding Closes
with_other [] t ts b c = other t ts b c
with_other (tag ∷ outer) t ts b c = (t ∷ c.0, c.1, c.2, ap (λ (xs : List Token). t ∷ xs) c.3, other t c.0 b c.4, c.5, c.6, c.7)

with_start : (tags : List Token) (t : Token) (ts : List Token) → t.kind ≡ kinds.Start → Closes (t ∷ tags) ts → Closes tags (t ∷ ts)
unfolding Closes
with_start [] t ts k c = subst (λ (xs : List Token). Nested (t ∷ xs)) (sym c.3) (element t c.1 c.0 c.2 k c.4 c.5 c.6 c.7)
with_start (tag ∷ outer) t ts k c =
    let d = c.7 in (
      t ∷ (c.0 ++ c.1 ∷ d.0),
      d.1,
      d.2,
      ap (λ (xs : List Token). t ∷ xs)
          (c.3 ∙ ap (λ (xs : List Token). c.0 ++ c.1 ∷ xs) d.3 ∙ sym (append_assoc c.0 (c.1 ∷ d.0) (d.1 ∷ d.2))),
      element t c.1 c.0 d.0 k c.4 c.5 c.6 d.4,
      d.5,
      d.6,
      d.7,
    )

with_end : (tag : Token) (outer : List Token) (t : Token) (ts : List Token) → t.kind ≡ kinds.End → start_name tag.bytes ≡ end_name t.bytes →
    Closes outer ts → Closes (tag ∷ outer) (t ∷ ts)
unfolding Closes
with_end tag outer t ts k named c = ([], t, ts, refl, nothing, k, named, c)

split_last : (xs : List OpenElement) → 0 < length xs → (front : List OpenElement) × (e : OpenElement) × (xs ≡ front ++ e ∷ [])
split_last [] h = absurd (omega arith)
split_last (x ∷ []) h = ([], x, refl)
split_last (x ∷ (y ∷ ys)) h = let r = split_last (y ∷ ys) (omega arith) in (x ∷ r.0, r.1, ap (λ (zs : List OpenElement). x ∷ zs) r.2)

module _ (n : ℕ) (base : List OpenElement) (size : length base ≡ suc n) (t : Token) (ts : List Token)
    (known : (tags : List Token) (s : EventState) → Stands base tags s.elements → AllAlong (Stays n) s ts → length (state_after s ts).elements ≡ suc n → Closes tags ts)
    (state : EventState) (stays : Stays n state t) (along : AllAlong (Stays n) (state_behind state t) ts)
    (final : length (state_after (state_behind state t) ts).elements ≡ suc n) where
  by_end : (tags : List Token) → Stands base tags state.elements → t.kind ≡ kinds.End → Closes tags (t ∷ ts)
  unfolding Stands
  by_end [] stands k =
      let all = ap length stands in
      let l = split_last state.elements (omega (arith, all, size)) in
      let long = ap length l.2 ∙ length-append l.0 (l.1 ∷ []) in
      let left = ap length (named_leaves state l.0 l.1 t k l.2 (fits_named state l.0 l.1 t k l.2 stays.1)) in
      let more = stays.0 in
      absurd (omega (arith, all, size, long, left, more))
  by_end (tag ∷ outer) stands k =
      let named = fits_named state stands.0 stands.2 t k stands.3 stays.1 in
      let left = named_leaves state stands.0 stands.2 t k stands.3 named in
      with_end tag outer t ts k (sym stands.4 ∙ named)
      (known outer (state_behind state t) (subst (λ (es : List OpenElement). Stands base outer es) (sym left) stands.1) along final)

  by_start : (tags : List Token) → Stands base tags state.elements → t.kind ≡ kinds.Start → Closes tags (t ∷ ts)
  unfolding Stands
  by_start tags stands k =
      with_start tags t ts k (known (t ∷ tags) (state_behind state t) (state.elements, stands, opened_by state t, start_elements state t k, refl) along final)

  by_other : (tags : List Token) → Stands base tags state.elements → IsNoStartOrEnd t.kind → Closes tags (t ∷ ts)
  by_other tags stands b =
      let l = stands_long base tags state.elements stands in
      let kept = other_elements state t b (omega (arith, l, size)) in
      with_other tags t ts b (known tags (state_behind state t) (subst (λ (es : List OpenElement). Stands base tags es) (sym kept) stands) along final)

  by_kind : (kind : TokenKind) → t.kind ≡ kind → (tags : List Token) → Stands base tags state.elements → Closes tags (t ∷ ts)
  by_kind kinds.Start k tags stands = by_start tags stands k
  by_kind kinds.End k tags stands = by_end tags stands k
  by_kind _ k tags stands = by_other tags stands (subst (λ (it : TokenKind). IsNoStartOrEnd it) (sym k) tt)

none_left : (n : ℕ) (base : List OpenElement) → length base ≡ suc n → (tags : List Token) (state : EventState) → Stands base tags state.elements →
    length (state_after state []).elements ≡ suc n → Closes tags []
unfolding state_after Closes
none_left n base size [] state stands final = nothing
none_left n base size (tag ∷ outer) state stands final = let l = stands_long base (tag ∷ outer) state.elements stands in absurd (omega (arith, l, size, final))

closes_all : (ts : List Token) (n : ℕ) (base : List OpenElement) → length base ≡ suc n → (tags : List Token) (state : EventState) → Stands base tags state.elements →
    AllAlong (Stays n) state ts → length (state_after state ts).elements ≡ suc n → Closes tags ts
unfolding state_after
closes_all [] n base size tags state stands along final = none_left n base size tags state stands final
closes_all (t ∷ ts) n base size tags state stands along final =
    by_kind n base size t ts (λ others s a b c. closes_all ts n base size others s a b c) state along.0 along.1 final t.kind refl tags stands

-- ---- the law

module _ (state : EventState) (start end : Token) (inner : List Token) (start_kind : start.kind ≡ kinds.Start) where
  abbrev behind_start : EventState
  behind_start = state_behind state start

  abbrev opened : List OpenElement
  opened = state.elements ++ opened_by state start ∷ []

  are : behind_start.elements ≡ opened
  are = start_elements state start start_kind

  size : length opened ≡ suc (length state.elements)
  size = (let l = length-append state.elements (opened_by state start ∷ []) in omega (arith, l))

  closed_where_nested : IsItsEnd start inner end → IsClosedBy state start inner end
  closed_where_nested its =
      let more = size in
      let p = nested_passed inner its.0 (length state.elements) opened behind_start are (omega (arith, more)) in
      let behind = state_after behind_start inner in
      let left = ap length (named_leaves behind state.elements (opened_by state start) end its.1 p.elements its.2) in
      record {
        inside = p.along;
        closed = omega (arith, left);
        fits = named_fits behind state.elements (opened_by state start) end its.1 p.elements its.2;
      }

  nested_where_closed : IsClosedBy state start inner end → IsItsEnd start inner end
  unfolding Stands Closes
  nested_where_closed c =
      let n = length state.elements in
      let more = size in
      let long = ap length are in
      let behind = state_after behind_start inner in
      let some : n < length behind.elements = stays_open n behind_start inner c.inside (omega (arith, long, more)) in
      let kind : end.kind ≡ kinds.End = falls_by end.kind behind end n refl some c.closed in
      let l = split_last behind.elements (omega (arith, some)) in
      let all = ap length l.2 ∙ length-append l.0 (l.1 ∷ []) in
      let left = ap length (named_leaves behind l.0 l.1 end kind l.2 (fits_named behind l.0 l.1 end kind l.2 c.fits)) in
      let few = c.closed in
      let nested : Nested inner = closes_all inner n opened more [] behind_start are c.inside (omega (arith, some, all, left, few)) in
      let p = nested_passed inner nested n opened behind_start are (omega (arith, more)) in
      (nested, kind, fits_named behind state.elements (opened_by state start) end kind p.elements c.fits)

pub ends_fit_where_tags_nest : EndsFitWhereTagsNest
ends_fit_where_tags_nest state start end inner start_kind =
    (closed_where_nested state start end inner start_kind, nested_where_closed state start end inner start_kind)
