-- The state behind tokens is told by what they leave.
use Rattle.std.proofs.Common.{◌≡◌, ◌≢◌, ℕ, suc, ◌+◌, ◌<◌, Bool, true, false, cond, inl, inr, Option, Some, None, List, [], ◌∷◌, ◌++◌, length, take, drop, refl, ap, subst, sym, ◌∙◌, arith, append_assoc, append-nil}
use Rattle.std.specs.Prelude.{◌||◌, not, nat_lt}
use Rattle.std.specs.List.{AllByRecursion, flat_map, list_any}
use Rattle.std.specs.Str.{bytes_eq}
use Rattle.std.proofs.lemmas.Bool.{cases_Bool, lt-ltb, or_right}
use Rattle.std.proofs.lemmas.List.{take_at, drop_at, length-append}
use Rattle.std.proofs.lemmas.Slice.Eq.{bytes_eq-Decides}
use Rattle.nx_base.specs.Tokens.{AreTokensFrom, end_of}
use Rattle.nx_base.specs.declared.token.Token.{Token}
use Rattle.nx_base.specs.declared.token.TokenKind.{TokenKind}
use Rattle.nx_base.specs.declared.token.TokenKind.TheVariants as kinds
use Rattle.nx_events.specs.Tags.{start_name, end_name}
use Rattle.nx_events.specs.Strings.{string_of, cdata_content}
use Rattle.nx_events.specs.declared.reading.Reading.TheVariants.{Plain, Text}
use Rattle.nx_events.specs.Scopes.{or_else}
use Rattle.nx_events.specs.Runs.{run_passed, run_joined}
use Rattle.nx_events.specs.Items.{first_state, is_inside, own_bindings, one_more, around_innermost, is_doctype, passed as state_passed, joined, opened, emptied, closed, outer_of_first, state_by_kind, state_behind}
use Rattle.nx_events.specs.OpenTags.{state_after, IsCharacterData, IsPassed, NoneNamed, Leaves, nothing_read, start_tag, empty_tag, end_tag, extra_end, data_inside, data_outside, passed, elements_of, string_by_kind, string_in, last_of, IsPending, is_order_mark, is_opening, IsStateOf, StatesAreKnown}
use Rattle.nx_events.specs.declared.state.EventState.{EventState}
use Rattle.nx_events.specs.declared.state.Run.{Run}
use Rattle.nx_events.proofs.OpenTags.{leaves_one, some_left}

-- one token more
pub after_one : (state : EventState) (before : List Token) (token : Token) → state_after state (before ++ token ∷ []) ≡ state_behind (state_after state before) token
unfolding state_after
after_one state [] token = refl
after_one state (other ∷ before) token = after_one (state_behind state other) before token

any_one : (p : Token → Bool) (before : List Token) (token : Token) → list_any p (before ++ token ∷ []) ≡ (list_any p before || p token)
any_one p [] token = last (p token)
  where
    last : (t : Bool) → (t || false) ≡ (false || t)
    last true = refl
    last false = refl
any_one p (other ∷ before) token = ap (λ (t : Bool). p other || t) (any_one p before token) ∙ regroup (p other) (list_any p before) (p token)
  where
    regroup : (a b c : Bool) → (a || (b || c)) ≡ ((a || b) || c)
    regroup true b c = refl
    regroup false b c = refl

pub flat_append : {A : Type 0} (f : Token → List A) (xs ys : List Token) → flat_map f (xs ++ ys) ≡ flat_map f xs ++ flat_map f ys
flat_append f [] ys = refl
flat_append f (x ∷ xs) ys = ap (λ zs. f x ++ zs) (flat_append f xs ys) ∙ sym (append_assoc (f x) (flat_map f xs) (flat_map f ys))

-- tokens in front of another lie from the same place to it
front_lies : (len at : ℕ) (before : List Token) (token : Token) → AreTokensFrom len at (before ++ token ∷ []) → AreTokensFrom token.from at before × (token.from + length token.bytes ≡ len)
unfolding AreTokensFrom
front_lies len at [] token h = (sym h.0, ap (λ n. n + length token.bytes) h.0 ∙ h.1)
front_lies len at (other ∷ before) token h =
    let r = front_lies len (at + length other.bytes) before token h.1 in ((h.0, r.0), r.1)

-- elements
abbrev pairs_of : List Token → ℕ
pairs_of tags = length (flat_map own_bindings tags)

pub elements_append : (outer : ℕ) (xs ys : List Token) → elements_of outer (xs ++ ys) ≡ elements_of outer xs ++ elements_of (outer + pairs_of xs) ys
unfolding elements_of
elements_append outer [] ys = let e : outer ≡ outer + 0 = omega arith in ap (λ n. elements_of n ys) e
elements_append outer (x ∷ xs) ys =
    let own = own_bindings x in
    let n : outer + length own + pairs_of xs ≡ outer + pairs_of (x ∷ xs) = (let k = length-append own (flat_map own_bindings xs) in omega arith) in
    ap (λ zs. (record { written = start_name x.bytes; outer = outer }) ∷ zs) (elements_append (outer + length own) xs ys ∙ ap (λ m. elements_of (outer + length own) xs ++ elements_of m ys) n)

pub elements_len : (outer : ℕ) (tags : List Token) → length (elements_of outer tags) ≡ length tags
unfolding elements_of
elements_len outer [] = refl
elements_len outer (x ∷ xs) = ap suc (elements_len (outer + length (own_bindings x)) xs)

around_none : (name : List ℕ) (outer : ℕ) (tags : List Token) → AllByRecursion (λ (tag : Token). start_name tag.bytes ≢ name) tags → around_innermost name (elements_of outer tags) ≡ None
unfolding around_innermost elements_of
around_none name outer [] h = refl
around_none name outer (x ∷ xs) h =
    ap (λ o. or_else (one_more o) (cond (bytes_eq (start_name x.bytes) name) (Some 0) None)) (around_none name (outer + length (own_bindings x)) xs h.1)
    ∙ elim (cases_Bool (bytes_eq (start_name x.bytes) name)) [
      | inl e ↦ absurd (h.0 ((bytes_eq-Decides (start_name x.bytes) name).0 e))
      | inr e ↦ ap (λ (t : Bool). cond t (Some 0) None) e
    ]

pub around_some : (name : List ℕ) (n : ℕ) (outer : List Token) (tag : Token) (inner : List Token) → start_name tag.bytes ≡ name →
    AllByRecursion (λ (other : Token). start_name other.bytes ≢ name) inner → around_innermost name (elements_of n (outer ++ tag ∷ inner)) ≡ Some (length outer)
unfolding around_innermost elements_of
around_some name n [] tag inner e h =
    ap (λ o. or_else (one_more o) (cond (bytes_eq (start_name tag.bytes) name) (Some 0) None)) (around_none name (n + length (own_bindings tag)) inner h)
    ∙ ap (λ (t : Bool). cond t (Some 0) None) ((bytes_eq-Decides (start_name tag.bytes) name).1 e)
around_some name n (x ∷ outer) tag inner e h =
    ap (λ o. or_else (one_more o) (cond (bytes_eq (start_name x.bytes) name) (Some 0) None)) (around_some name (n + length (own_bindings x)) outer tag inner e h)

-- a token that leaves elements and scope as they are
pub record Passes (state next : EventState) (token : Token) : Type 0 where
  pub elements : next.elements ≡ state.elements
  pub scope : next.scope ≡ state.scope
  pub run : next.run ≡ run_passed (length token.bytes) state.run
  pub came : next.came ≡ (state.came || not (is_order_mark token.kind))
  pub doctype : next.doctype ≡ (state.doctype || is_doctype token.kind)
  pub started : next.started ≡ (state.started || is_opening token.kind)

or_false : (t : Bool) → t ≡ (t || false)
or_false true = refl
or_false false = refl

or_true : (t : Bool) → true ≡ (t || true)
or_true true = refl
or_true false = refl

passed_by : (kind : TokenKind) (state : EventState) (token : Token) → token.kind ≡ kind → IsPassed kind → Passes state (state_by_kind kind state token) token
passed_by kinds.Text state token e h = absurd h
passed_by kinds.Cdata state token e h = absurd h
passed_by kinds.Start state token e h = absurd h
passed_by kinds.Empty state token e h = absurd h
passed_by kinds.End state token e h = absurd h
passed_by kinds.Bom state token e h = record {
  elements = refl;
  scope = refl;
  run = refl;
  came = or_false state.came ∙ ap (λ k. state.came || not (is_order_mark k)) (sym e);
  doctype = or_false state.doctype ∙ ap (λ k. state.doctype || is_doctype k) (sym e);
  started = or_false state.started ∙ ap (λ k. state.started || is_opening k) (sym e);
}
passed_by _ state token e h = record {
  elements = refl;
  scope = refl;
  run = refl;
  came = or_true state.came ∙ ap (λ k. state.came || not (is_order_mark k)) (sym e);
  doctype = refl;
  started = or_false state.started ∙ ap (λ k. state.started || is_opening k) (sym e);
}

-- the pending run behind a token that isn't part of it, and behind one that is
passed_run : (at n next : ℕ) (run : List Token) (r : Option Run) → at + n ≡ next → IsPending at run r → IsPending next run (run_passed n r)
passed_run at n next [] r e h = ap (run_passed n) h
passed_run at n next (first ∷ others) None e h = absurd h
passed_run at n next (first ∷ others) (Some run) e h = record {
  string = h.string;
  begins = (let k = h.begins in let q : first.from + run.len + (run.gap + n) ≡ next = omega arith in q);
  ends = (let k = h.ends in let q : end_of (last_of first others) + (run.gap + n) ≡ next = omega arith in q);
}

last_is : (first : Token) (others : List Token) (token : Token) → last_of first (others ++ token ∷ []) ≡ token
last_is first [] token = refl
last_is first (other ∷ others) token = last_is other others token

joined_run : (at : ℕ) (run : List Token) (token : Token) (string : List ℕ) (r : Option Run) → token.from + length token.bytes ≡ at → string ≡ string_in token →
    IsPending token.from run r → IsPending at (run ++ token ∷ []) (run_joined string (length token.bytes) r)
joined_run at [] token string r e s h =
    let P : Option Run → Type 0 = λ x. IsPending at (token ∷ []) (run_joined string (length token.bytes) x) in
    subst P (sym h) (record { string = s ∙ sym (append-nil (string_in token)); begins = omega arith; ends = omega arith })
joined_run at (first ∷ others) token string None e s h = absurd h
joined_run at (first ∷ others) token string (Some run) e s h = record {
  string = ap (λ xs. xs ++ string) h.string ∙ ap (λ xs. flat_map string_in (first ∷ others) ++ xs) (s ∙ sym (append-nil (string_in token))) ∙ sym (flat_append string_in (first ∷ others) (token ∷ []));
  begins = (let k = h.begins in omega arith);
  ends = ap (λ (t : Token). end_of t + 0) (last_is first others token) ∙ (let k = h.ends in omega arith);
}

-- the state behind one more token
module _ (at : ℕ) (before tags run : List Token) (token : Token) (state : EventState) (place : token.from + length token.bytes ≡ at) (h : IsStateOf token.from before tags run state) where
  more : List Token
  more = before ++ token ∷ []

  came_more : not (is_order_mark token.kind) ≡ true → true ≡ list_any (λ (t : Token). not (is_order_mark t.kind)) (before ++ token ∷ [])
  came_more e = sym (any_one (λ (t : Token). not (is_order_mark t.kind)) before token ∙ or_right _ (not (is_order_mark token.kind)) e)

  doctype_more : is_doctype token.kind ≡ false → state.doctype ≡ list_any (λ (t : Token). is_doctype t.kind) (before ++ token ∷ [])
  doctype_more e = h.doctype ∙ or_false _ ∙ ap (λ (t : Bool). list_any (λ (t : Token). is_doctype t.kind) before || t) (sym e) ∙ sym (any_one (λ (t : Token). is_doctype t.kind) before token)

  started_more : is_opening token.kind ≡ false → state.started ≡ list_any (λ (t : Token). is_opening t.kind) (before ++ token ∷ [])
  started_more e = h.started ∙ or_false _ ∙ ap (λ (t : Bool). list_any (λ (t : Token). is_opening t.kind) before || t) (sym e) ∙ sym (any_one (λ (t : Token). is_opening t.kind) before token)

  opening_more : is_opening token.kind ≡ true → true ≡ list_any (λ (t : Token). is_opening t.kind) (before ++ token ∷ [])
  opening_more e = sym (any_one (λ (t : Token). is_opening t.kind) before token ∙ or_right _ (is_opening token.kind) e)

  start_state : token.kind ≡ kinds.Start → IsStateOf at (before ++ token ∷ []) (tags ++ token ∷ []) [] (opened state token)
  unfolding elements_of
  start_state k =
      let pairs : length state.scope ≡ 0 + pairs_of tags = ap length h.scope ∙ (let e : pairs_of tags ≡ 0 + pairs_of tags = omega arith in e) in
      record {
        elements = ap (λ xs. xs ++ (record { written = start_name token.bytes; outer = length state.scope }) ∷ []) h.elements
            ∙ ap (λ n. elements_of 0 tags ++ (record { written = start_name token.bytes; outer = n }) ∷ []) pairs
            ∙ sym (elements_append 0 tags (token ∷ []));
        scope = ap (λ xs. xs ++ own_bindings token) h.scope ∙ ap (λ xs. flat_map own_bindings tags ++ xs) (sym (append-nil (own_bindings token))) ∙ sym (flat_append own_bindings tags (token ∷ []));
        pending = refl;
        came = came_more (ap (λ x. not (is_order_mark x)) k);
        doctype = doctype_more (ap is_doctype k);
        started = opening_more (ap is_opening k);
      }

  empty_state : token.kind ≡ kinds.Empty → IsStateOf at (before ++ token ∷ []) tags [] (emptied state)
  empty_state k = record {
    elements = h.elements;
    scope = h.scope;
    pending = refl;
    came = came_more (ap (λ x. not (is_order_mark x)) k);
    doctype = doctype_more (ap is_doctype k);
    started = opening_more (ap is_opening k);
  }

  extra_state : token.kind ≡ kinds.End → NoneNamed tags token → IsStateOf at (before ++ token ∷ []) tags run (closed state token (around_innermost (end_name token.bytes) state.elements))
  extra_state k n =
      let none : around_innermost (end_name token.bytes) state.elements ≡ None = ap (around_innermost (end_name token.bytes)) h.elements ∙ around_none (end_name token.bytes) 0 tags n in
      subst (λ o. IsStateOf at (before ++ token ∷ []) tags run (closed state token o)) (sym none) (record {
        elements = h.elements;
        scope = h.scope;
        pending = passed_run token.from (length token.bytes) at run state.run place h.pending;
        came = came_more (ap (λ x. not (is_order_mark x)) k);
        doctype = doctype_more (ap is_doctype k);
        started = started_more (ap is_opening k);
      })

  passed_state : (next : EventState) → Passes state next token → IsStateOf at (before ++ token ∷ []) tags run next
  passed_state next p = record {
    elements = p.elements ∙ h.elements;
    scope = p.scope ∙ h.scope;
    pending = subst (λ r. IsPending at run r) (sym p.run) (passed_run token.from (length token.bytes) at run state.run place h.pending);
    came = p.came ∙ ap (λ (t : Bool). t || not (is_order_mark token.kind)) h.came ∙ sym (any_one (λ (t : Token). not (is_order_mark t.kind)) before token);
    doctype = p.doctype ∙ ap (λ (t : Bool). t || is_doctype token.kind) h.doctype ∙ sym (any_one (λ (t : Token). is_doctype t.kind) before token);
    started = p.started ∙ ap (λ (t : Bool). t || is_opening token.kind) h.started ∙ sym (any_one (λ (t : Token). is_opening t.kind) before token);
  }

  inside_len : length state.elements ≡ length tags
  inside_len = ap length h.elements ∙ elements_len 0 tags

  inside_state : (string : List ℕ) → not (is_order_mark token.kind) ≡ true → is_doctype token.kind ≡ false → is_opening token.kind ≡ false → string ≡ string_in token → 0 < length tags →
      IsStateOf at (before ++ token ∷ []) tags (run ++ token ∷ []) (joined state token string)
  inside_state string a b c s lt =
      let inside : is_inside state ≡ true = lt-ltb 0 (length state.elements) (let e = inside_len in omega arith) in
      let next : EventState = record state { came = true; run = run_joined string (length token.bytes) state.run } in
      let chosen : joined state token string ≡ next = ap (λ (t : Bool). cond t next (state_passed state token)) inside in
      subst (λ x. IsStateOf at (before ++ token ∷ []) tags (run ++ token ∷ []) x) (sym chosen) (record {
        elements = h.elements;
        scope = h.scope;
        pending = joined_run at run token string state.run place s h.pending;
        came = came_more a;
        doctype = doctype_more b;
        started = started_more c;
      })

  outside_state : (string : List ℕ) → not (is_order_mark token.kind) ≡ true → is_doctype token.kind ≡ false → is_opening token.kind ≡ false → tags ≡ [] →
      IsStateOf at (before ++ token ∷ []) tags run (joined state token string)
  outside_state string a b c e =
      let nothing : length state.elements ≡ 0 = inside_len ∙ ap length e in
      let inside : is_inside state ≡ false = ap (nat_lt 0) nothing in
      let next : EventState = record state { came = true; run = run_joined string (length token.bytes) state.run } in
      let chosen : joined state token string ≡ state_passed state token = ap (λ (t : Bool). cond t next (state_passed state token)) inside in
      subst (λ x. IsStateOf at (before ++ token ∷ []) tags run x) (sym chosen) (record {
        elements = h.elements;
        scope = h.scope;
        pending = passed_run token.from (length token.bytes) at run state.run place h.pending;
        came = came_more a;
        doctype = doctype_more b;
        started = started_more c;
      })

-- an end tag for an open start tag
closed_state : (at : ℕ) (before outer inner run : List Token) (tag token : Token) (state : EventState) → IsStateOf token.from before (outer ++ tag ∷ inner) run state → token.kind ≡ kinds.End →
    start_name tag.bytes ≡ end_name token.bytes → NoneNamed inner token → IsStateOf at (before ++ token ∷ []) outer [] (closed state token (around_innermost (end_name token.bytes) state.elements))
unfolding elements_of
closed_state at before outer inner run tag token state h k e n =
    let name = end_name token.bytes in
    let found : around_innermost name state.elements ≡ Some (length outer) = ap (around_innermost name) h.elements ∙ around_some name 0 outer tag inner e n in
    let split : state.elements ≡ elements_of 0 outer ++ elements_of (0 + pairs_of outer) (tag ∷ inner) = h.elements ∙ elements_append 0 outer (tag ∷ inner) in
    let size : length (elements_of 0 outer) ≡ length outer = elements_len 0 outer in
    let kept : take (length outer) state.elements ≡ elements_of 0 outer = ap (take (length outer)) split ∙ take_at (elements_of 0 outer) (elements_of (0 + pairs_of outer) (tag ∷ inner)) (length outer) size in
    let dropped : drop (length outer) state.elements ≡ elements_of (0 + pairs_of outer) (tag ∷ inner) =
    ap (drop (length outer)) split ∙ drop_at (elements_of 0 outer) (elements_of (0 + pairs_of outer) (tag ∷ inner)) (length outer) size in
    let pairs : outer_of_first (drop (length outer) state.elements) ≡ pairs_of outer = ap outer_of_first dropped ∙ (let z : 0 + pairs_of outer ≡ pairs_of outer = omega arith in z) in
    let scope : state.scope ≡ flat_map own_bindings outer ++ flat_map own_bindings (tag ∷ inner) = h.scope ∙ flat_append own_bindings outer (tag ∷ inner) in
    subst (λ o. IsStateOf at (before ++ token ∷ []) outer [] (closed state token o)) (sym found) (record {
      elements = kept;
      scope = ap (λ m. take m state.scope) pairs ∙ ap (take (pairs_of outer)) scope ∙ take_at (flat_map own_bindings outer) (flat_map own_bindings (tag ∷ inner)) (pairs_of outer) refl;
      pending = refl;
      came = sym (any_one (λ (t : Token). not (is_order_mark t.kind)) before token ∙ or_right _ (not (is_order_mark token.kind)) (ap (λ x. not (is_order_mark x)) k));
      doctype = h.doctype ∙ or_false _ ∙ ap (λ (t : Bool). list_any (λ (t : Token). is_doctype t.kind) before || t) (sym (ap is_doctype k)) ∙ sym (any_one (λ (t : Token). is_doctype t.kind) before token);
      started = h.started ∙ or_false _ ∙ ap (λ (t : Bool). list_any (λ (t : Token). is_opening t.kind) before || t) (sym (ap is_opening k)) ∙ sym (any_one (λ (t : Token). is_opening t.kind) before token);
    })

-- the state behind character data
data_state : (kind : TokenKind) (at : ℕ) (before tags run : List Token) (token : Token) (state : EventState) → token.kind ≡ kind → IsCharacterData kind → token.from + length token.bytes ≡ at →
    IsStateOf token.from before tags run state → 0 < length tags → IsStateOf at (before ++ token ∷ []) tags (run ++ token ∷ []) (state_by_kind kind state token)
data_state kinds.Text at before tags run token state e k place h lt =
    inside_state at before tags run token state place h (string_of Text token.bytes) (ap (λ x. not (is_order_mark x)) e) (ap is_doctype e) (ap is_opening e) (ap (λ x. string_by_kind x token.bytes) (sym e)) lt
data_state kinds.Cdata at before tags run token state e k place h lt =
    inside_state at before tags run token state place h (string_of Plain (cdata_content token.bytes)) (ap (λ x. not (is_order_mark x)) e) (ap is_doctype e) (ap is_opening e)
    (ap (λ x. string_by_kind x token.bytes) (sym e)) lt
data_state _ at before tags run token state e k place h lt = absurd k

skipped_state : (kind : TokenKind) (at : ℕ) (before tags run : List Token) (token : Token) (state : EventState) → token.kind ≡ kind → IsCharacterData kind → token.from + length token.bytes ≡ at →
    IsStateOf token.from before tags run state → tags ≡ [] → IsStateOf at (before ++ token ∷ []) tags run (state_by_kind kind state token)
skipped_state kinds.Text at before tags run token state e k place h n =
    outside_state at before tags run token state place h (string_of Text token.bytes) (ap (λ x. not (is_order_mark x)) e) (ap is_doctype e) (ap is_opening e) n
skipped_state kinds.Cdata at before tags run token state e k place h n =
    outside_state at before tags run token state place h (string_of Plain (cdata_content token.bytes)) (ap (λ x. not (is_order_mark x)) e) (ap is_doctype e) (ap is_opening e) n
skipped_state _ at before tags run token state e k place h n = absurd k

-- the state behind all tokens
one_step : (at : ℕ) (all before tags run : List Token) (token : Token) (kind : TokenKind) → all ≡ before ++ token ∷ [] → token.kind ≡ kind →
    IsStateOf at (before ++ token ∷ []) tags run (state_by_kind kind (state_after first_state before) token) → IsStateOf at all tags run (state_after first_state all)
unfolding state_behind
one_step at all before tags run token kind e k h =
    let st = state_after first_state before in
    let last : state_by_kind kind st token ≡ state_after first_state (before ++ token ∷ []) = ap (λ x. state_by_kind x st token) (sym k) ∙ sym (after_one first_state before token) in
    let P : List Token → Type 0 = λ xs. IsStateOf at xs tags run (state_after first_state xs) in
    subst P (sym e) (subst (λ x. IsStateOf at (before ++ token ∷ []) tags run x) last h)

first_is : (at : ℕ) → IsStateOf at [] [] [] (state_after first_state [])
unfolding state_after elements_of
first_is at = record { elements = refl; scope = refl; pending = refl; came = refl; doctype = refl; started = refl }

lies : (at : ℕ) (all before : List Token) (token : Token) → all ≡ before ++ token ∷ [] → AreTokensFrom at 0 all → AreTokensFrom token.from 0 before × (token.from + length token.bytes ≡ at)
lies at all before token e h = front_lies at 0 before token (subst (λ xs. AreTokensFrom at 0 xs) e h)

pub state_is : (all tags run : List Token) (at : ℕ) → Leaves all tags run → AreTokensFrom at 0 all → IsStateOf at all tags run (state_after first_state all)
state_is all tags run at (nothing_read _ _ _ e f g) p =
    subst (λ xs. IsStateOf at xs tags run (state_after first_state xs)) (sym e) (subst (λ xs. IsStateOf at [] xs run (state_after first_state [])) (sym f) (subst (λ xs. IsStateOf at [] [] xs (state_after first_state [])) (sym g) (first_is at)))
state_is all tags run at (start_tag _ _ _ before outer ended token h e k f g) p =
    let l = lies at all before token e p in
    let prev = state_is before outer ended token.from h l.0 in
    subst (λ xs. IsStateOf at all xs run (state_after first_state all)) (sym f) (subst (λ xs. IsStateOf at all (outer ++ token ∷ []) xs (state_after first_state all)) (sym g)
    (one_step at all before (outer ++ token ∷ []) [] token kinds.Start e k (start_state at before outer ended token (state_after first_state before) l.1 prev k)))
state_is all tags run at (empty_tag _ _ _ before ended token h e k g) p =
    let l = lies at all before token e p in
    let prev = state_is before tags ended token.from h l.0 in
    subst (λ xs. IsStateOf at all tags xs (state_after first_state all)) (sym g)
    (one_step at all before tags [] token kinds.Empty e k (empty_state at before tags ended token (state_after first_state before) l.1 prev k))
state_is all tags run at (end_tag _ _ _ before inner ended tag token h e k n o g) p =
    let l = lies at all before token e p in
    let prev = state_is before (tags ++ tag ∷ inner) ended token.from h l.0 in
    subst (λ xs. IsStateOf at all tags xs (state_after first_state all)) (sym g)
    (one_step at all before tags [] token kinds.End e k (closed_state at before tags inner ended tag token (state_after first_state before) prev k n o))
state_is all tags run at (extra_end _ _ _ before token h e k o) p =
    let l = lies at all before token e p in
    let prev = state_is before tags run token.from h l.0 in
    one_step at all before tags run token kinds.End e k (extra_state at before tags run token (state_after first_state before) l.1 prev k o)
state_is all tags run at (data_inside _ _ _ before joined token h e k lt g) p =
    let l = lies at all before token e p in
    let prev = state_is before tags joined token.from h l.0 in
    subst (λ xs. IsStateOf at all tags xs (state_after first_state all)) (sym g)
    (one_step at all before tags (joined ++ token ∷ []) token token.kind e refl (data_state token.kind at before tags joined token (state_after first_state before) refl k l.1 prev lt))
state_is all tags run at (data_outside _ _ _ before token h e k f) p =
    let l = lies at all before token e p in
    let prev = state_is before tags run token.from h l.0 in
    one_step at all before tags run token token.kind e refl (skipped_state token.kind at before tags run token (state_after first_state before) refl k l.1 prev f)
state_is all tags run at (passed _ _ _ before token h e k) p =
    let l = lies at all before token e p in
    let prev = state_is before tags run token.from h l.0 in
    one_step at all before tags run token token.kind e refl
    (passed_state at before tags run token (state_after first_state before) l.1 prev (state_by_kind token.kind (state_after first_state before) token) (passed_by token.kind (state_after first_state before) token refl k))

pub states_are_known : StatesAreKnown
states_are_known all at p =
    let t = some_left all in
    (t.tags, t.run, t.leaves, (λ other more h. leaves_one all t.tags t.run other more t.leaves h), state_is all t.tags t.run at t.leaves p)
