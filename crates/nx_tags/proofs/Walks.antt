-- Walks over the tokens of a text, to a place and to an end tag.
use Rattle.std.proofs.Common.{◌≡◌, ℕ, ◌<◌, ◌≤◌, false, Option, Some, None, List, [], ◌∷◌, length, reverse, refl, sym, ◌∙◌, ap, subst, arith}
use Rattle.std.specs.List.{AllByRecursion}
use Rattle.std.specs.Str.{IsUtf8}
use Rattle.std.proofs.lemmas.Bool.{true≢false}
use Rattle.nx_base.specs.Text.{IsPlace}
use Rattle.nx_base.specs.Tokens.{CutAt, cut, end_of, tokens_from, tokens_of}
use Rattle.nx_base.specs.declared.token.Token.{Token}
use Rattle.nx_events.specs.Items.{state_behind}
use Rattle.nx_scan.proofs.Every.{cut-is_token}
use Rattle.nx_scan.proofs.Joined.{tokens-go_on}
use Rattle.nx_tags.specs.declared.element.Nesting.{Nesting}
use Rattle.nx_tags.specs.declared.element.Nesting.TheVariants.{Inside, Closed, Broken}
use Rattle.nx_tags.specs.Closing.{BeginsAt, FoundToken, FoundEnd, IsEndTag, PassesNested}
use Rattle.nx_tags.specs.Parts.{cuts, ending_by, state_at, IsTokenBorder}
use Rattle.nx_tags.specs.Reading.{IsRead}
use Rattle.nx_tags.proofs.Around.{is_cut, tokens-none}
use Rattle.nx_tags.proofs.Closing.{behind, closing_by, closing_end, found_by, one_passed, passed_on, end_is, no_end}
use Rattle.nx_tags.proofs.Reading.{all_behind, known_read, all_tokens, one_more, read_border}

-- ---- what is cut

pub record IsCutHere (text : List ℕ) (place : ℕ) (token : Token) : Type 0 where
  pub within : place < length text
  pub is : token ≡ cut text place
  pub from : token.from ≡ place
  pub fits : end_of token ≤ length text
  pub later : place < end_of token

pub cut_here : (text : List ℕ) (place : ℕ) → IsUtf8 text → IsPlace text place → (found : Option Token) (token : Token) → CutAt text place found → found ≡ Some token →
    IsCutHere text place token
cut_here text place utf8 border found token h e =
    let cuts = subst (λ o. CutAt text place o) e h in
    let here = cut-is_token text place utf8 border cuts.0 in
    let from = here.from in
    let some = here.some in
    let end = here.border in
    let fits = end.0 in
    subst (λ t. IsCutHere text place t) (sym cuts.1)
    (record { within = cuts.0; is = refl; from = from; fits = fits; later = omega arith })

pub at_end : (text : List ℕ) (place : ℕ) → (found : Option Token) → CutAt text place found → found ≡ None → place ≡ length text
at_end text place found h e = subst (λ o. CutAt text place o) e h

-- ---- to a place

-- a border in front of the place or at it, or else one behind it, and then no token begins there
pub record IsTowards (text : List ℕ) (at place : ℕ) : Type 0 where
  pub border : IsTokenBorder text place
  pub missed : at < place → ¬ BeginsAt text at

module _ (text : List ℕ) (utf8 : IsUtf8 text) where
  read_at : (place : ℕ) → IsTokenBorder text place → IsRead text place (state_at text place)
  read_at place border = known_read text utf8 place (state_at text place) (record { border = border; known = refl })

  pub walked : (at place : ℕ) (token : Token) → IsTowards text at place → place < at → place < length text → token ≡ cut text place → IsTowards text at (end_of token)
  walked at place token way before within is =
      let t = cut text place in
      let read = read_at place way.border in
      let from = (cut-is_token text place utf8 read.border within).from in
      let Uncut : Token → Type 0 = λ (x : Token). cuts at x ≡ false in
      subst (λ (x : Token). IsTowards text at (end_of x)) (sym is) (record {
        border = read_border text utf8 (end_of t) (state_behind (state_at text place) t) (one_more text utf8 place (state_at text place) read within);
        missed = λ lt begins.
            (let all = subst (λ xs. AllByRecursion Uncut xs) (all_tokens text utf8 place (state_at text place) read within) begins.border.uncut in
            let here = (all_behind Uncut (ending_by place (tokens_of text)) (t ∷ tokens_from text (end_of t)) all).0 in
            true≢false (sym (is_cut at t (omega arith) lt) ∙ here));
      })

  pub token_there : (at place : ℕ) (token : Token) → IsTowards text at place → at ≤ place → place ≤ at → place < length text → token ≡ cut text place →
      FoundToken text at (Some token)
  token_there at place token way past before within is =
      let e : place ≡ at = omega arith in
      (record { border = subst (λ n. IsTokenBorder text n) e way.border; within = omega arith }, is ∙ ap (cut text) e)

-- ---- to an end tag

-- what is found from here on is what is found from the border on at which reading began
pub record IsAlong (text : List ℕ) (start : Token) (from place : ℕ) (open_tags : List Token) : Type 0 where
  pub border : IsPlace text place
  pub same : closing_end (reverse open_tags) (tokens_from text place) ≡ closing_end (start ∷ []) (tokens_from text from)

module _ (text : List ℕ) (utf8 : IsUtf8 text) (start : Token) (from place : ℕ) (open_tags : List Token) (way : IsAlong text start from place open_tags) where
  none_found : None ≡ closing_end (start ∷ []) (tokens_from text from) → FoundEnd start (tokens_from text from) None
  none_found e end is = no_end start (tokens_from text from) end (sym e) is

  pub nothing_found : place ≡ length text → FoundEnd start (tokens_from text from) None
  unfolding closing_end
  nothing_found end = none_found (sym (ap (closing_end (reverse open_tags)) (tokens-none text place (omega arith))) ∙ way.same)

  module _ (token : Token) (left : List Token) (found : Nesting) (within : place < length text) (is : token ≡ cut text place)
      (passed : PassesNested token.kind token open_tags left found) where
    found_is : (next : List Token → Option Token) → closing_by token.kind token (reverse open_tags) next ≡ found_by token left next found
    found_is next = passed_on token open_tags left next token.kind found passed

    seen : found_by token left (behind (tokens_from text (end_of token))) found ≡ closing_end (start ∷ []) (tokens_from text from)
    seen =
        let rest = tokens_from text (end_of token) in
        let all : tokens_from text place ≡ token ∷ rest =
        tokens-go_on text place utf8 way.border within ∙ ap (λ (t : Token). t ∷ tokens_from text (end_of t)) (sym is) in
        sym (found_is (behind rest)) ∙ sym (one_passed token rest (reverse open_tags) token.kind refl) ∙ ap (closing_end (reverse open_tags)) (sym all) ∙ way.same

    pub inside_more : found ≡ Inside → IsAlong text start from (end_of token) left
    inside_more e = record {
      border = subst (λ (t : Token). IsPlace text (end_of t)) (sym is) (cut-is_token text place utf8 way.border within).border;
      same = ap (found_by token left (behind (tokens_from text (end_of token)))) (sym e) ∙ seen;
    }

    token_from : token.from ≡ place
    token_from = ap (λ (t : Token). t.from) is ∙ (cut-is_token text place utf8 way.border within).from

    pub end_found_here : found ≡ Closed → FoundEnd start (tokens_from text from) (Some place)
    end_found_here e =
        let is_end : IsEndTag start (tokens_from text from) token =
        end_is start (tokens_from text from) token (sym (ap (found_by token left (behind (tokens_from text (end_of token)))) (sym e) ∙ seen)) in
        (token, is_end, token_from)

    pub broken_here : found ≡ Broken → FoundEnd start (tokens_from text from) None
    broken_here e = none_found (ap (found_by token left (behind (tokens_from text (end_of token)))) (sym e) ∙ seen)
