-- The written names of the elements that are open at a place are Names.
use Rattle.std.proofs.Common.{◌≡◌, ℕ, zero, suc, ◌-◌, ◌<◌, ◌≤◌, Bool, inl, inr, Option, Some, None, List, [], ◌∷◌, ◌++◌, length, take, drop, refl}
use Rattle.std.proofs.Common.{sym, ◌∙◌, ap, subst, arith, cond, codes}
use Rattle.std.specs.Prelude.{nat_le, ◌==◌}
use Rattle.std.specs.List.{AllByRecursion, filter}
use Rattle.std.specs.Str.{IsUtf8}
use Rattle.std.proofs.lemmas.Bool.{cases_Bool, cases_lt}
use Rattle.std.proofs.lemmas.Str.{IsUtf8-take, IsUtf8-drop}
use Rattle.nx_base.specs.Text.{IsPlace}
use Rattle.nx_base.specs.Tokens.{first_token, cut, end_of, tokens_from}
use Rattle.nx_base.specs.declared.token.Token.{Token}
use Rattle.nx_base.specs.declared.token.TokenKind.{TokenKind}
use Rattle.nx_base.specs.declared.token.TokenKind.TheVariants as kinds
use Rattle.nx_events.specs.Items.{is_inside, joined, closed, around_innermost, state_by_kind, state_behind}
use Rattle.nx_events.specs.OpenTags.{state_after}
use Rattle.nx_events.specs.SpelledTags.{IsName, IsSpelledTag, IsSpelled}
use Rattle.nx_events.specs.Strings.{string_of, cdata_content}
use Rattle.nx_events.specs.Tags.{start_name, end_name}
use Rattle.nx_events.specs.declared.reading.Reading.TheVariants.{Plain, Text}
use Rattle.nx_events.specs.declared.state.EventState.{EventState}
use Rattle.nx_events.specs.declared.state.OpenElement.{OpenElement}
use Rattle.nx_events.proofs.TagKinds.{tags_are_spelled}
use Rattle.nx_scan.proofs.Every.{cut-fits, cut-is_token}
use Rattle.nx_scan.proofs.Joined.{tokens-go_on}
use Rattle.nx_scan.proofs.OwnBytes.{cut-own}
use Rattle.nx_tags.specs.Parts.{cuts, cut_at, ending_by}
use Rattle.nx_tags.proofs.Around.{tokens-none, cut_at-kept, cut_at-cut, PartsText}

abbrev pub AreNamed : List OpenElement → Type 0
AreNamed elements = AllByRecursion (λ (element : OpenElement). IsName element.written) elements

abbrev pub IsNamedTag : Token → Type 0
IsNamedTag token = token.kind ≡ kinds.Start → IsName (start_name token.bytes)

named_front : (n : ℕ) (elements : List OpenElement) → AreNamed elements → AreNamed (take n elements)
named_front zero elements h = tt
named_front (suc n) [] h = tt
named_front (suc n) (x ∷ xs) h = (h.0, named_front n xs h.1)

named_joined : (xs ys : List OpenElement) → AreNamed xs → AreNamed ys → AreNamed (xs ++ ys)
named_joined [] ys h k = k
named_joined (x ∷ xs) ys h k = (h.0, named_joined xs ys h.1 k)

named_closed : (state : EventState) (token : Token) (n : Option ℕ) → AreNamed state.elements → AreNamed (closed state token n).elements
named_closed state token None h = h
named_closed state token (Some n) h = named_front n state.elements h

same_elements : (state : EventState) (token : Token) (string : List ℕ) → (joined state token string).elements ≡ state.elements
same_elements state token string = elim (cases_Bool (is_inside state)) [ inl e ↦ rw e refl | inr e ↦ rw e refl ]

data_by_kind : (kind : TokenKind) (state : EventState) (token : Token) → kind ≡ kinds.Text → (state_by_kind kind state token).elements ≡ state.elements
data_by_kind kind state token is =
    ap (λ k. (state_by_kind k state token).elements) is ∙ same_elements state token (string_of Text token.bytes)

pub data_keeps_elements : (state : EventState) (token : Token) → token.kind ≡ kinds.Text → (state_behind state token).elements ≡ state.elements
unfolding state_behind
data_keeps_elements state token is = data_by_kind token.kind state token is

named_by_kind : (kind : TokenKind) (state : EventState) (token : Token) → AreNamed state.elements → (kind ≡ kinds.Start → IsName (start_name token.bytes)) →
    AreNamed (state_by_kind kind state token).elements
named_by_kind kinds.Cdata state token h is = subst (λ xs. AreNamed xs) (sym (same_elements state token (string_of Plain (cdata_content token.bytes)))) h
named_by_kind kinds.Text state token h is = subst (λ xs. AreNamed xs) (sym (same_elements state token (string_of Text token.bytes))) h
named_by_kind kinds.Start state token h is = named_joined state.elements _ h (is refl, tt)
named_by_kind kinds.End state token h is = named_closed state token (around_innermost (end_name token.bytes) state.elements) h
named_by_kind _ state token h is = h

named_behind : (state : EventState) (token : Token) → AreNamed state.elements → IsNamedTag token → AreNamed (state_behind state token).elements
unfolding state_behind
named_behind state token h is = named_by_kind token.kind state token h is

pub named_after : (state : EventState) (tokens : List Token) → AreNamed state.elements → AllByRecursion IsNamedTag tokens → AreNamed (state_after state tokens).elements
unfolding state_after
named_after state [] h all = h
named_after state (token ∷ others) h all = named_after (state_behind state token) others (named_behind state token h all.0) all.1

-- the tokens of a text
pub bytes_utf8 : (text : List ℕ) (at : ℕ) → IsUtf8 text → IsPlace text at → at < length text → IsUtf8 (cut text at).bytes
unfolding cut
bytes_utf8 text at utf8 place within =
    IsUtf8-take (drop at text) (first_token (at == 0) (drop at text)).len (IsUtf8-drop text at utf8 place) (cut-fits text at utf8 place within).border

token_named : (text : List ℕ) (at : ℕ) → IsUtf8 text → IsPlace text at → at < length text → IsNamedTag (cut text at)
token_named text at utf8 place within is =
    let spelled = tags_are_spelled (cut text at) (bytes_utf8 text at utf8 place within) (cut-own text at utf8 place within) in
    let tag : IsSpelledTag (codes ">") (cut text at).bytes = subst (λ k. IsSpelled k (cut text at).bytes) is spelled in
    subst (λ n. IsName n) (sym tag.name_read) tag.is_name

pub tokens_named : (n : ℕ) (text : List ℕ) (at : ℕ) → IsUtf8 text → IsPlace text at → length text - at ≤ n → AllByRecursion IsNamedTag (tokens_from text at)
tokens_named zero text at utf8 place fuel = subst (λ ts. AllByRecursion IsNamedTag ts) (sym (tokens-none text at (omega arith))) tt
tokens_named (suc n) text at utf8 place fuel =
    elim (cases_lt at (length text)) [
      | inl within ↦
          (let token = cut-is_token text at utf8 place within in
          let some = token.some in
          let from = token.from in
          subst (λ ts. AllByRecursion IsNamedTag ts) (sym (tokens-go_on text at utf8 place within))
          (token_named text at utf8 place within, tokens_named n text (end_of (cut text at)) utf8 token.border (omega arith)))
      | inr past ↦ subst (λ ts. AllByRecursion IsNamedTag ts) (sym (tokens-none text at past)) tt
    ]

-- one of which is cut
named_parted : (at : ℕ) (tokens : List Token) → AllByRecursion IsNamedTag tokens → PartsText at tokens → AllByRecursion IsNamedTag (cut_at at tokens)
named_parted at [] h text_alone = tt
named_parted at (t ∷ ts) h text_alone =
    let rest = named_parted at ts h.1 text_alone.1 in
    elim (cases_Bool (cuts at t)) [
      | inl e ↦
          (let no_start : t.kind ≡ kinds.Start → ⊥ = λ is. (let bad : kinds.Start ≡ kinds.Text = sym is ∙ text_alone.0 e in cc) in
          subst (λ xs. AllByRecursion IsNamedTag xs) (sym (cut_at-cut at t ts e)) (λ is. absurd (no_start is), (λ is. absurd (no_start is), rest)))
      | inr e ↦ subst (λ xs. AllByRecursion IsNamedTag xs) (sym (cut_at-kept at t ts e)) (h.0, rest)
    ]

named_filter : (p : Token → Bool) (tokens : List Token) → AllByRecursion IsNamedTag tokens → AllByRecursion IsNamedTag (filter p tokens)
named_filter p [] h = tt
named_filter p (t ∷ ts) h = elim (cases_Bool (p t)) [
  | inl e ↦ subst (λ b. AllByRecursion IsNamedTag (cond b (t ∷ filter p ts) (filter p ts))) (sym e) (h.0, named_filter p ts h.1)
  | inr e ↦ subst (λ b. AllByRecursion IsNamedTag (cond b (t ∷ filter p ts) (filter p ts))) (sym e) (named_filter p ts h.1)
]

pub front_named : (at : ℕ) (tokens : List Token) → AllByRecursion IsNamedTag tokens → PartsText at tokens → AllByRecursion IsNamedTag (ending_by at (cut_at at tokens))
front_named at tokens h text_alone = named_filter (λ (token : Token). nat_le (end_of token) at) (cut_at at tokens) (named_parted at tokens h text_alone)
