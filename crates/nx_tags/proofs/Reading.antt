-- A text is read up to a place, token by token.
use Rattle.std.proofs.Common.{◌≡◌, ◌↔◌, ℕ, zero, suc, ◌-◌, ◌<◌, ◌≤◌, Bool, true, false, inl, inr, Option, Some, None, List, [], ◌∷◌, ◌++◌, length}
use Rattle.std.proofs.Common.{refl, sym, ◌∙◌, ap, subst, arith, length-drop}
use Rattle.std.specs.Prelude.{nat_le, IsTrue}
use Rattle.std.specs.List.{AllByRecursion}
use Rattle.std.specs.Str.{IsUtf8}
use Rattle.std.proofs.lemmas.Bool.{cases_lt, true≢false}
use Rattle.std.proofs.lemmas.List.{length-take-le}
use Rattle.std.proofs.lemmas.List.Elements.{filter-append}
use Rattle.std.proofs.lemmas.Str.{IsCharBoundary-start}
use Rattle.nx_base.specs.Text.{IsPlace}
use Rattle.nx_base.specs.Tokens.{cut, end_of, tokens_from, tokens_of, AreTokensOf}
use Rattle.nx_base.specs.declared.token.Token.{Token}
use Rattle.nx_events.specs.Items.{first_state, state_behind}
use Rattle.nx_events.specs.OpenTags.{IsPending, state_after}
use Rattle.nx_events.specs.Runs.{run_back}
use Rattle.nx_events.specs.RunsGrow.{back_grows}
use Rattle.nx_events.specs.declared.state.EventState.{EventState}
use Rattle.nx_events.specs.declared.state.Run.{Run}
use Rattle.nx_events.proofs.StatesKnown.{after_one, flat_append, states_are_known}
use Rattle.nx_scan.specs.Markup.{IsEnded}
use Rattle.nx_scan.proofs.Every.{cut-is_token}
use Rattle.nx_scan.proofs.Joined.{tokens-go_on}
use Rattle.nx_tags.specs.Free.{IsFree, IsCutWell}
use Rattle.nx_tags.specs.Parts.{cuts, front_half, back_half, halves, cut_at, ending_by, in_front, state_at, IsTokenBorder, IsKnownAt}
use Rattle.nx_tags.specs.Reading.{IsRead, IsCutWellInside, EndsWell, IfEnded}
use Rattle.nx_tags.proofs.Around.{Behind, PartsText, behind_place, front_lies, tokens-none, not_cut_before, not_cut_behind, is_cut, cut_at-kept, cut_at-cut, ending-in, ending-out}
use Rattle.nx_tags.proofs.OpenNames.{data_keeps_elements}

-- ---- lists of tokens

pub all_append : (P : Token → Type 0) (xs ys : List Token) → AllByRecursion P xs → AllByRecursion P ys → AllByRecursion P (xs ++ ys)
all_append P [] ys h k = k
all_append P (x ∷ xs) ys h k = (h.0, all_append P xs ys h.1 k)

pub all_behind : (P : Token → Type 0) (xs ys : List Token) → AllByRecursion P (xs ++ ys) → AllByRecursion P ys
all_behind P [] ys h = h
all_behind P (x ∷ xs) ys h = all_behind P xs ys h.1

-- a property of the tokens that end at a place or before
all_ending : (P : Token → Type 0) (place : ℕ) → ((t : Token) → end_of t ≤ place → P t) → (ts : List Token) → AllByRecursion P (ending_by place ts)
all_ending P place h [] = tt
all_ending P place h (t ∷ ts) =
    elim (cases_lt place (end_of t)) [
      | inl out ↦ subst (λ xs. AllByRecursion P xs) (sym (ending-out place t ts out)) (all_ending P place h ts)
      | inr in_front ↦ subst (λ xs. AllByRecursion P xs) (sym (ending-in place t ts in_front)) (h t in_front, all_ending P place h ts)
    ]

-- and of those from a border on
pub all_from : (P : Token → Type 0) (at : ℕ) → ((t : Token) → at ≤ t.from → at < end_of t → P t) → (n : ℕ) (text : List ℕ) (p : ℕ) → IsUtf8 text → IsPlace text p →
    at ≤ p → length text - p ≤ n → AllByRecursion P (tokens_from text p)
all_from P at h zero text p utf8 place le fuel = subst (λ ts. AllByRecursion P ts) (sym (tokens-none text p (omega arith))) tt
all_from P at h (suc n) text p utf8 place le fuel =
    elim (cases_lt p (length text)) [
      | inl within ↦
          (let token = cut-is_token text p utf8 place within in
          let some = token.some in
          let from = token.from in
          subst (λ ts. AllByRecursion P ts) (sym (tokens-go_on text p utf8 place within))
          (h (cut text p) (omega arith) (omega arith), all_from P at h n text (end_of (cut text p)) utf8 token.border (omega arith) (omega arith)))
      | inr past ↦ subst (λ ts. AllByRecursion P ts) (sym (tokens-none text p past)) tt
    ]

ending_wider : (place to : ℕ) → place ≤ to → (ts : List Token) → ending_by to (ending_by place ts) ≡ ending_by place ts
ending_wider place to le [] = refl
ending_wider place to le (t ∷ ts) =
    elim (cases_lt place (end_of t)) [
      | inl out ↦ ap (ending_by to) (ending-out place t ts out) ∙ ending_wider place to le ts ∙ sym (ending-out place t ts out)
      | inr in_front ↦
          ap (ending_by to) (ending-in place t ts in_front) ∙ ending-in to t (ending_by place ts) (omega arith)
          ∙ ap (λ xs. t ∷ xs) (ending_wider place to le ts) ∙ sym (ending-in place t ts in_front)
    ]

parted_ending : (place at : ℕ) → place ≤ at → (ts : List Token) → cut_at at (ending_by place ts) ≡ ending_by place ts
parted_ending place at le [] = refl
parted_ending place at le (t ∷ ts) =
    elim (cases_lt place (end_of t)) [
      | inl out ↦ ap (cut_at at) (ending-out place t ts out) ∙ parted_ending place at le ts ∙ sym (ending-out place t ts out)
      | inr in_front ↦
          ap (cut_at at) (ending-in place t ts in_front) ∙ cut_at-kept at t (ending_by place ts) (not_cut_before at t (omega arith))
          ∙ ap (λ xs. t ∷ xs) (parted_ending place at le ts) ∙ sym (ending-in place t ts in_front)
    ]

-- ---- what is known at a border

module _ (text : List ℕ) (utf8 : IsUtf8 text) where
  from_here : (p : ℕ) → IsPlace text p → Behind p (tokens_from text p)
  from_here p place = behind_place (length text - p) text p p utf8 place (omega arith) (omega arith)

  none_from : (p : ℕ) → IsPlace text p → ending_by p (tokens_from text p) ≡ []
  none_from p place = from_here_none
    where
      from_here_none : ending_by p (tokens_from text p) ≡ []
      from_here_none = (from_here p place).none

  well_from : (p : ℕ) → IsPlace text p → EndsWell p (tokens_from text p)
  well_from p place =
      all_from (λ t. end_of t ≡ p → IsEnded t.kind) p (λ t from end e. absurd (omega arith)) (length text - p) text p utf8 place (omega arith) (omega arith)

  -- what is known at a border of tokens
  split_from : (n p at : ℕ) → IsPlace text p → IsPlace text at → p ≤ at → at - p ≤ n → AllByRecursion (λ (t : Token). cuts at t ≡ false) (tokens_from text p) →
      tokens_from text p ≡ ending_by at (tokens_from text p) ++ tokens_from text at
  split_from zero p at place there le fuel uncut =
      let e : at ≡ p = omega arith in
      subst (λ q. tokens_from text p ≡ ending_by q (tokens_from text p) ++ tokens_from text q) (sym e) (ap (λ xs. xs ++ tokens_from text p) (sym (none_from p place)))
  split_from (suc n) p at place there le fuel uncut =
      elim (cases_lt p at) [
        | inr past ↦
            (let e : at ≡ p = omega arith in
            subst (λ q. tokens_from text p ≡ ending_by q (tokens_from text p) ++ tokens_from text q) (sym e) (ap (λ xs. xs ++ tokens_from text p) (sym (none_from p place))))
        | inl before ↦
            (let fits = there.0 in
            let within : p < length text = omega arith in
            let t = cut text p in
            let token = cut-is_token text p utf8 place within in
            let some = token.some in
            let from = token.from in
            let all : tokens_from text p ≡ t ∷ tokens_from text (end_of t) = tokens-go_on text p utf8 place within in
            let here = subst (λ ts. AllByRecursion (λ (x : Token). cuts at x ≡ false) ts) all uncut in
            elim (cases_lt at (end_of t)) [
              | inl lt ↦ absurd (true≢false (sym (is_cut at t (omega arith) lt) ∙ here.0))
              | inr end ↦
                  all ∙ ap (λ xs. t ∷ xs) (split_from n (end_of t) at token.border there end (omega arith) here.1)
                  ∙ sym (ap (λ xs. ending_by at xs ++ tokens_from text at) all ∙ ap (λ xs. xs ++ tokens_from text at) (ending-in at t (tokens_from text (end_of t)) end))
            ])
      ]

  uncut_text : (at : ℕ) → (ts : List Token) → AllByRecursion (λ (t : Token). cuts at t ≡ false) ts → PartsText at ts
  uncut_text at [] h = tt
  uncut_text at (t ∷ ts) h = (λ e. absurd (true≢false (sym e ∙ h.0)), uncut_text at ts h.1)

  uncut_same : (at : ℕ) → (ts : List Token) → AllByRecursion (λ (t : Token). cuts at t ≡ false) ts → cut_at at ts ≡ ts
  uncut_same at [] h = refl
  uncut_same at (t ∷ ts) h = cut_at-kept at t ts h.0 ∙ ap (λ xs. t ∷ xs) (uncut_same at ts h.1)

  module _ (at : ℕ) (border : IsTokenBorder text at) where
    pub front_of_border : in_front text at ≡ ending_by at (tokens_of text)
    front_of_border = ap (ending_by at) (uncut_same at (tokens_of text) border.uncut)

    pub border_lies : AreTokensOf at (ending_by at (tokens_of text))
    border_lies = subst (λ ts. AreTokensOf at ts) front_of_border (front_lies text at utf8 border.place (uncut_text at (tokens_of text) border.uncut))

    pub border_split : tokens_of text ≡ ending_by at (tokens_of text) ++ tokens_from text at
    border_split =
        let fits = border.place.0 in
        split_from at 0 at (IsCharBoundary-start text utf8) border.place (omega arith) (omega arith) border.uncut

  pending_back : (at : ℕ) (run : List Token) (r : Option Run) → IsPending at run r → run_back r ≤ at
  pending_back at [] r h = subst (λ x. run_back x ≤ at) (sym h) (omega arith)
  pending_back at (first ∷ others) None h = absurd h
  pending_back at (first ∷ others) (Some run) h = let k = h.begins in omega arith

  pub known_read : (at : ℕ) (state : EventState) → IsKnownAt text at state → IsRead text at state
  known_read at state h =
      let is : state ≡ state_after first_state (ending_by at (tokens_of text)) = h.known ∙ ap (state_after first_state) (front_of_border at h.border) in
      let known = states_are_known (ending_by at (tokens_of text)) at (border_lies at h.border) in
      record {
        border = h.border.place;
        split = border_split at h.border;
        state_is = is;
        back = subst (λ (s : EventState). run_back s.run ≤ at) (sym is) (pending_back at known.1 (state_after first_state (ending_by at (tokens_of text))).run known.4.pending);
      }

  -- and the other way round
  pub read_border : (at : ℕ) (state : EventState) → IsRead text at state → IsTokenBorder text at
  read_border at state read = record {
    place = read.border;
    uncut = subst (λ xs. AllByRecursion (λ (t : Token). cuts at t ≡ false) xs) (sym read.split)
        (all_append (λ (t : Token). cuts at t ≡ false) (ending_by at (tokens_of text)) (tokens_from text at)
        (all_ending (λ (t : Token). cuts at t ≡ false) at (λ t le. not_cut_before at t le) (tokens_of text))
        (all_from (λ (t : Token). cuts at t ≡ false) at (λ t from end. not_cut_behind at t from) (length text - at) text at utf8 read.border (omega arith) (omega arith)));
  }

  -- nothing is known at the start
  pub start_front : ending_by 0 (tokens_of text) ≡ []
  start_front = none_from 0 (IsCharBoundary-start text utf8)

  pub start_known : IsKnownAt text 0 first_state
  unfolding state_after
  start_known =
      let start = IsCharBoundary-start text utf8 in
      let b = from_here 0 start in
      record {
        border = record {
          place = start;
          uncut = all_from (λ (t : Token). cuts 0 t ≡ false) 0 (λ t from end. not_cut_behind 0 t from) (length text - 0) text 0 utf8 start (omega arith) (omega arith);
        };
        known = ap (state_after first_state) (sym (ap (ending_by 0) b.kept ∙ b.none));
      }

  pub start_ends_well : EndsWell 0 (tokens_of text)
  start_ends_well = well_from 0 (IsCharBoundary-start text utf8)

  -- one token more
  module _ (place : ℕ) (state : EventState) (read : IsRead text place state) (within : place < length text) where
    pub all_tokens : tokens_of text ≡ ending_by place (tokens_of text) ++ cut text place ∷ tokens_from text (end_of (cut text place))
    all_tokens = read.split ∙ ap (λ xs. ending_by place (tokens_of text) ++ xs) (tokens-go_on text place utf8 read.border within)

    later : place < end_of (cut text place)
    later =
        let token = cut-is_token text place utf8 read.border within in
        let some = token.some in
        let from = token.from in
        omega arith

    pub front_more : ending_by (end_of (cut text place)) (tokens_of text) ≡ ending_by place (tokens_of text) ++ cut text place ∷ []
    front_more =
        let t = cut text place in
        let to = end_of t in
        let token = cut-is_token text place utf8 read.border within in
        let before = ending_by place (tokens_of text) in
        let rest = tokens_from text to in
        let far = later in
        ap (ending_by to) all_tokens ∙ filter-append (λ (x : Token). nat_le (end_of x) to) before (t ∷ rest)
        ∙ ap (λ xs. xs ++ ending_by to (t ∷ rest)) (ending_wider place to (omega arith) (tokens_of text))
        ∙ ap (λ xs. before ++ xs) (ending-in to t rest (omega arith) ∙ ap (λ xs. t ∷ xs) (none_from to token.border))

    pub one_more : IsRead text (end_of (cut text place)) (state_behind state (cut text place))
    one_more =
        let t = cut text place in
        let to = end_of t in
        let token = cut-is_token text place utf8 read.border within in
        let before = ending_by place (tokens_of text) in
        let grown = back_grows state t in
        let back = read.back in
        let from = token.from in
        record {
          border = token.border;
          split = all_tokens ∙ sym (append_one before t (tokens_from text to)) ∙ ap (λ xs. xs ++ tokens_from text to) (sym front_more);
          state_is = ap (λ s. state_behind s t) read.state_is ∙ sym (after_one first_state before t) ∙ ap (state_after first_state) (sym front_more);
          back = omega arith;
        }
      where
        append_one : (xs : List Token) (x : Token) (ys : List Token) → (xs ++ x ∷ []) ++ ys ≡ xs ++ x ∷ ys
        append_one [] x ys = refl
        append_one (z ∷ xs) x ys = ap (λ zs. z ∷ zs) (append_one xs x ys)

    pub ended_more : (more : Bool) → (IsTrue more ↔ IsEnded (cut text place).kind) → IfEnded text (end_of (cut text place)) more
    ended_more more is = by_kind more is.0 is.1
      where
        ends_one : (IsEnded (cut text place).kind) → EndsWell (end_of (cut text place)) (tokens_of text)
        ends_one is_ended =
            let t = cut text place in
            let to = end_of t in
            let far = later in
            let token = cut-is_token text place utf8 read.border within in
            subst (λ xs. EndsWell to xs) (sym all_tokens)
            (all_append (λ x. end_of x ≡ to → IsEnded x.kind) (ending_by place (tokens_of text)) (t ∷ tokens_from text to)
            (all_ending (λ x. end_of x ≡ to → IsEnded x.kind) place (λ x le same. absurd (omega arith)) (tokens_of text))
            (λ same. is_ended, well_from to token.border))

        ends_here : EndsWell (end_of (cut text place)) (tokens_of text) → IsEnded (cut text place).kind
        ends_here all =
            let t = cut text place in
            (all_behind (λ x. end_of x ≡ end_of t → IsEnded x.kind) (ending_by place (tokens_of text)) (t ∷ tokens_from text (end_of t))
            (subst (λ xs. EndsWell (end_of t) xs) all_tokens all)).0 refl

        by_kind : (more : Bool) → (IsTrue more → IsEnded (cut text place).kind) → (IsEnded (cut text place).kind → IsTrue more) → IfEnded text (end_of (cut text place)) more
        by_kind true f g = ends_one (f refl)
        by_kind false f g = λ all. absurd (true≢false (sym (g (ends_here all))))

  -- ---- the place is a border

  module _ (at : ℕ) (state : EventState) (read : IsRead text at state) where
    pub border_front : in_front text at ≡ ending_by at (tokens_of text)
    border_front = front_of_border at (read_border at state read)

    pub border_state : state ≡ state_at text at
    border_state = read.state_is ∙ ap (state_after first_state) (sym border_front)

    pub border_free : EndsWell at (tokens_of text) → 0 < length state.elements → IsFree text at
    border_free well some =
        let P : Token → Type 0 = λ (token : Token). cuts at token ≡ true → IsCutWell (state_at text at) at token in
        record {
          opened = subst (λ (s : EventState). 0 < length s.elements) border_state some;
          ended = well;
          cut_well = subst (λ xs. AllByRecursion P xs) (sym read.split)
              (all_append P (ending_by at (tokens_of text)) (tokens_from text at)
              (all_ending P at (λ t le is. absurd (true≢false (sym is ∙ not_cut_before at t le))) (tokens_of text))
              (all_from P at (λ t from end is. absurd (true≢false (sym is ∙ not_cut_behind at t from))) (length text - at) text at utf8 read.border (omega arith) (omega arith)));
        }

    pub border_nothing_open : length state.elements ≡ 0 → IsFree text at → ⊥
    border_nothing_open e free =
        let some = subst (λ (s : EventState). 0 < length s.elements) (sym border_state) free.opened in
        omega arith

  -- ---- the place lies in a token

  module _ (at place : ℕ) (state : EventState) (read : IsRead text place state) (within : place < length text) (first : place < at)
      (last : at < end_of (cut text place)) where
    token_from : (cut text place).from ≡ place
    token_from = (cut-is_token text place utf8 read.border within).from

    here_cut : cuts at (cut text place) ≡ true
    here_cut = let from = token_from in is_cut at (cut text place) (omega arith) last

    pub inside_front : in_front text at ≡ ending_by place (tokens_of text) ++ front_half at (cut text place) ∷ []
    inside_front =
        let t = cut text place in
        let fh = front_half at t in
        let bh = back_half at t in
        let token = cut-is_token text place utf8 read.border within in
        let from = token.from in
        let before = ending_by place (tokens_of text) in
        let rest = tokens_from text (end_of t) in
        let b = behind_place (length text - end_of t) text at (end_of t) utf8 token.border (omega arith) (omega arith) in
        let front_len = length-take-le (at - t.from) t.bytes (omega arith) in
        let back_len = length-drop (at - t.from) t.bytes in
        ap (λ xs. ending_by at (cut_at at xs)) (all_tokens place state read within)
        ∙ ap (ending_by at) (flat_append (halves at) before (t ∷ rest)
        ∙ ap (λ xs. xs ++ cut_at at (t ∷ rest)) (parted_ending place at (omega arith) (tokens_of text))
        ∙ ap (λ xs. before ++ xs) (cut_at-cut at t rest here_cut ∙ ap (λ xs. fh ∷ bh ∷ xs) b.kept))
        ∙ filter-append (λ (x : Token). nat_le (end_of x) at) before (fh ∷ bh ∷ rest)
        ∙ ap (λ xs. xs ++ ending_by at (fh ∷ bh ∷ rest)) (ending_wider place at (omega arith) (tokens_of text))
        ∙ ap (λ xs. before ++ xs) (ending-in at fh (bh ∷ rest) (omega arith) ∙ ap (λ xs. fh ∷ xs) (ending-out at bh rest (omega arith) ∙ b.none))

    pub inside_state : state_behind state (front_half at (cut text place)) ≡ state_at text at
    inside_state =
        ap (λ s. state_behind s (front_half at (cut text place))) read.state_is
        ∙ sym (after_one first_state (ending_by place (tokens_of text)) (front_half at (cut text place)))
        ∙ ap (state_after first_state) (sym inside_front)

    pub inside_free : IsCutWellInside state at (cut text place) → IsFree text at
    inside_free inside =
        let t = cut text place in
        let token = cut-is_token text place utf8 read.border within in
        let from = token.from in
        let P : Token → Type 0 = λ (token : Token). cuts at token ≡ true → IsCutWell (state_at text at) at token in
        let Q : Token → Type 0 = λ (token : Token). end_of token ≡ at → IsEnded token.kind in
        let keeps = data_keeps_elements state (front_half at t) inside.1.kind in
        let some = inside.0 in
        let long : 0 < length (state_behind state (front_half at t)).elements = subst (λ xs. 0 < length xs) (sym keeps) some in
        record {
          opened = subst (λ (s : EventState). 0 < length s.elements) inside_state long;
          ended = subst (λ xs. AllByRecursion Q xs) (sym (all_tokens place state read within))
              (all_append Q (ending_by place (tokens_of text)) (t ∷ tokens_from text (end_of t))
              (all_ending Q place (λ x le same. absurd (omega arith)) (tokens_of text)) (
                λ same. absurd (omega arith),
                all_from Q at (λ x begins ends same. absurd (omega arith)) (length text - end_of t) text (end_of t) utf8 token.border (omega arith) (omega arith),
              ));
          cut_well = subst (λ xs. AllByRecursion P xs) (sym (all_tokens place state read within))
              (all_append P (ending_by place (tokens_of text)) (t ∷ tokens_from text (end_of t))
              (all_ending P place (λ x le is. absurd (true≢false (sym is ∙ not_cut_before at x (omega arith)))) (tokens_of text)) (
                λ is. subst (λ (s : EventState). IsCutWell s at t) inside_state inside.1,
                all_from P at (λ x begins ends is. absurd (true≢false (sym is ∙ not_cut_behind at x begins))) (length text - end_of t) text (end_of t) utf8 token.border
                    (omega arith) (omega arith),
              ));
        }

    pub free_inside : IsFree text at → IsCutWellInside state at (cut text place)
    free_inside free =
        let t = cut text place in
        let P : Token → Type 0 = λ (token : Token). cuts at token ≡ true → IsCutWell (state_at text at) at token in
        let here = (all_behind P (ending_by place (tokens_of text)) (t ∷ tokens_from text (end_of t))
        (subst (λ xs. AllByRecursion P xs) (all_tokens place state read within) free.cut_well)).0 here_cut in
        let well : IsCutWell (state_behind state (front_half at t)) at t = subst (λ (s : EventState). IsCutWell s at t) (sym inside_state) here in
        let keeps = data_keeps_elements state (front_half at t) well.kind in
        let some = subst (λ (s : EventState). 0 < length s.elements) (sym inside_state) free.opened in
        (subst (λ xs. 0 < length xs) keeps some, well)
