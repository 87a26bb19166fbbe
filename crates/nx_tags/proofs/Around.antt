-- The tokens of a text into which markup was put at a place.
use Rattle.std.proofs.Common.{◌≡◌, ℕ, zero, suc, ◌+◌, ◌-◌, ◌<◌, ◌≤◌, Bool, true, false, inl, inr, List, [], ◌∷◌, ◌++◌, length, map, take, drop}
use Rattle.std.proofs.Common.{get_or, refl, sym, ◌∙◌, ap, subst, arith, codes, append_assoc, length-append, length-take, length-drop}
use Rattle.std.specs.Prelude.{◌==◌, ◌&&◌, nat_lt}
use Rattle.std.specs.List.{AllByRecursion}
use Rattle.std.specs.Str.{IsUtf8}
use Rattle.std.proofs.lemmas.Bool.{cases_lt, lt-ltb, le-ltb, le-leb, lt-leb, ne_eqb}
use Rattle.std.proofs.lemmas.List.{drop-drop, drop-take, drop_at, get_or-drop, length-take-le, take-take, take_at}
use Rattle.std.proofs.lemmas.Str.{IsUtf8-append, IsUtf8-take, IsUtf8-drop, IsCharBoundary-start, IsCharBoundary-before_ascii}
use Rattle.nx_base.specs.Text.{IsPlace, edited}
use Rattle.nx_base.specs.Tokens.{Cut, cut_as, begins_with, first_token, cut, end_of, tokens_within, tokens_from, tokens_of, AreTokensFrom, AreTokensOf}
use Rattle.nx_base.specs.declared.token.Token.{Token}
use Rattle.nx_base.specs.declared.token.TokenKind.{TokenKind}
use Rattle.nx_base.specs.declared.token.TokenKind.TheVariants as kinds
use Rattle.nx_events.specs.Moves.{placed_token}
use Rattle.nx_scan.specs.Markup.{IsEnded}
use Rattle.nx_scan.proofs.Every.{cut-fits, cut-length, cut-is_token}
use Rattle.nx_scan.proofs.Joined.{tokens-go_on, depends-on_rest}
use Rattle.nx_scan.proofs.Staying.{cut-stays}
use Rattle.nx_scan.proofs.Themselves.{cut-same, place-same}
use Rattle.nx_tags.specs.Parts.{cuts, front_half, back_half, cut_at, ending_by, beginning_at}
use Rattle.nx_tags.specs.Reading.{EndsWell}
use Rattle.nx_tags.proofs.TextTokens.{front_of_text, back_of_text}

-- ---- lists of tokens, one by one

and_false : (t : Bool) → (t && false) ≡ false
and_false true = refl
and_false false = refl

pub not_cut_before : (at : ℕ) (t : Token) → end_of t ≤ at → cuts at t ≡ false
not_cut_before at t h = ap (λ b. nat_lt t.from at && b) (le-ltb at (end_of t) h) ∙ and_false (nat_lt t.from at)

pub not_cut_behind : (at : ℕ) (t : Token) → at ≤ t.from → cuts at t ≡ false
not_cut_behind at t h = ap (λ b. b && nat_lt at (end_of t)) (le-ltb t.from at h)

pub is_cut : (at : ℕ) (t : Token) → t.from < at → at < end_of t → cuts at t ≡ true
is_cut at t h k = rw (lt-ltb t.from at h, lt-ltb at (end_of t) k) refl

pub cut_at-kept : (at : ℕ) (t : Token) (ts : List Token) → cuts at t ≡ false → cut_at at (t ∷ ts) ≡ t ∷ cut_at at ts
cut_at-kept at t ts h = rw h refl

pub cut_at-cut : (at : ℕ) (t : Token) (ts : List Token) → cuts at t ≡ true → cut_at at (t ∷ ts) ≡ front_half at t ∷ back_half at t ∷ cut_at at ts
cut_at-cut at t ts h = rw h refl

pub ending-in : (at : ℕ) (t : Token) (ts : List Token) → end_of t ≤ at → ending_by at (t ∷ ts) ≡ t ∷ ending_by at ts
ending-in at t ts h = rw (le-leb (end_of t) at h) refl

pub ending-out : (at : ℕ) (t : Token) (ts : List Token) → at < end_of t → ending_by at (t ∷ ts) ≡ ending_by at ts
ending-out at t ts h = rw (lt-leb (end_of t) at h) refl

beginning-in : (at : ℕ) (t : Token) (ts : List Token) → at ≤ t.from → beginning_at at (t ∷ ts) ≡ t ∷ beginning_at at ts
beginning-in at t ts h = rw (le-leb at t.from h) refl

beginning-out : (at : ℕ) (t : Token) (ts : List Token) → t.from < at → beginning_at at (t ∷ ts) ≡ beginning_at at ts
beginning-out at t ts h = rw (lt-leb at t.from h) refl

-- ---- tokens of one text

pub tokens-none : (text : List ℕ) (at : ℕ) → length text ≤ at → tokens_from text at ≡ []
unfolding tokens_within
tokens-none text at h = ap (λ n. tokens_within n text at) (let e : length text - at ≡ 0 = omega arith in e)

-- behind a place all tokens begin there or later
pub record Behind (at : ℕ) (ts : List Token) : Type 0 where
  pub kept : cut_at at ts ≡ ts
  pub none : ending_by at ts ≡ []
  pub all : beginning_at at ts ≡ ts

none_behind : (at : ℕ) → Behind at []
none_behind at = record { kept = refl; none = refl; all = refl }

one_behind : (at : ℕ) (t : Token) (ts : List Token) → at ≤ t.from → at < end_of t → Behind at ts → Behind at (t ∷ ts)
one_behind at t ts h k b = record {
  kept = cut_at-kept at t ts (not_cut_behind at t h) ∙ ap (λ xs. t ∷ xs) b.kept;
  none = ending-out at t ts k ∙ b.none;
  all = beginning-in at t ts h ∙ ap (λ xs. t ∷ xs) b.all;
}

pub behind_place : (n : ℕ) (text : List ℕ) (at p : ℕ) → IsUtf8 text → IsPlace text p → at ≤ p → length text - p ≤ n → Behind at (tokens_from text p)
behind_place zero text at p utf8 place h fuel = subst (λ ts. Behind at ts) (sym (tokens-none text p (omega arith))) (none_behind at)
behind_place (suc n) text at p utf8 place h fuel =
    elim (cases_lt p (length text)) [
      | inl within ↦
          (let token = cut-is_token text p utf8 place within in
          let some = token.some in
          let from = token.from in
          subst (λ ts. Behind at ts) (sym (tokens-go_on text p utf8 place within))
          (one_behind at (cut text p) (tokens_from text (end_of (cut text p))) (omega arith) (omega arith)
          (behind_place n text at (end_of (cut text p)) utf8 token.border (omega arith) (omega arith))))
      | inr past ↦ subst (λ ts. Behind at ts) (sym (tokens-none text p past)) (none_behind at)
    ]

-- ---- a text, and another that is the same up to a place, where it has markup

token_is : (a b : Token) → a.kind ≡ b.kind → a.from ≡ b.from → a.bytes ≡ b.bytes → a ≡ b
token_is a b k f e =
    ap (λ x. record { kind = x; from = a.from; bytes = a.bytes }) k ∙ ap (λ x. record { kind = b.kind; from = x; bytes = a.bytes }) f
    ∙ ap (λ x. record { kind = b.kind; from = b.from; bytes = x }) e

-- a token of character data that is cut
module _ (text : List ℕ) (at p : ℕ) (utf8 : IsUtf8 text) (place : IsPlace text p) (there : IsPlace text at) (within : p < length text)
    (first : p < at) (cut_there : at < end_of (cut text p)) (is : (cut text p).kind ≡ kinds.Text) where
  bs : List ℕ
  bs = drop p text

  found_len : (first_token (p == 0) bs).len ≡ length (cut text p).bytes
  unfolding cut bs
  found_len = sym (cut-length text p utf8 place within)

  found_kind : (first_token (p == 0) bs).kind ≡ kinds.Text
  unfolding cut bs
  found_kind = is

  found_from : (cut text p).from ≡ p
  found_from = (cut-is_token text p utf8 place within).from

  len_fits : length (cut text p).bytes ≤ length bs
  unfolding cut bs
  len_fits = let a = cut-fits text p utf8 place within in let b = a.border.0 in let c = cut-length text p utf8 place within in omega arith

  -- the bytes up to the place, as a text of their own
  front_text : drop p (take at text) ≡ take (at - p) bs
  unfolding bs
  front_text = ap (λ n. drop p (take n text)) (let e : at ≡ p + (at - p) = omega arith in e) ∙ drop-take p (at - p) text

  front_token : cut (take at text) p ≡ front_half at (cut text p)
  unfolding cut bs
  front_token =
      let from = found_from in
      let len = found_len in
      let fits = len_fits in
      let found : first_token (p == 0) (drop p (take at text)) ≡ cut_as kinds.Text (at - p) =
      ap (first_token (p == 0)) front_text ∙ front_of_text (p == 0) bs (at - p) found_kind (omega arith) (omega arith) in
      token_is (cut (take at text) p) (front_half at (cut text p)) (ap (λ (c : Cut). c.kind) found ∙ sym is) refl
      (ap (λ (c : Cut). take c.len (drop p (take at text))) found ∙ ap (take (at - p)) front_text
      ∙ take-take (at - p) (at - p) bs (omega arith) ∙ sym (take-take (at - p) (first_token (p == 0) bs).len bs (omega arith)))

  back_token : cut text at ≡ back_half at (cut text p)
  unfolding cut bs
  back_token =
      let from = found_from in
      let len = found_len in
      let rest : drop at text ≡ drop (at - p) bs = ap (λ n. drop n text) (let e : at ≡ p + (at - p) = omega arith in e) ∙ sym (drop-drop (at - p) p text) in
      let found : first_token (at == 0) (drop at text) ≡ cut_as kinds.Text ((first_token (p == 0) bs).len - (at - p)) =
      ap (λ b. first_token b (drop at text)) (ne_eqb at 0 (λ e. omega arith)) ∙ ap (first_token false) rest
      ∙ back_of_text (p == 0) bs (at - p) found_kind (omega arith) in
      token_is (cut text at) (back_half at (cut text p)) (ap (λ (c : Cut). c.kind) found ∙ sym is) refl
      (ap (λ (c : Cut). take c.len (drop at text)) found ∙ ap (take ((first_token (p == 0) bs).len - (at - p))) rest
      ∙ sym (drop-take (at - p) ((first_token (p == 0) bs).len - (at - p)) bs)
      ∙ ap (λ n. drop (at - p) (take n bs)) (let e : at - p + ((first_token (p == 0) bs).len - (at - p)) ≡ (first_token (p == 0) bs).len = omega arith in e))

  front_end : end_of (front_half at (cut text p)) ≡ at
  front_end =
      let from = found_from in
      let len = length-take-le (at - (cut text p).from) (cut text p).bytes (omega arith) in
      omega arith

  back_end : end_of (back_half at (cut text p)) ≡ end_of (cut text p)
  back_end =
      let from = found_from in
      let len = length-drop (at - (cut text p).from) (cut text p).bytes in
      omega arith

-- the tokens in front of the place are the same, and those behind it are those of the text from there on
pub record Around (text other : List ℕ) (at p : ℕ) : Type 0 where
  pub front : tokens_from other p ≡ ending_by at (cut_at at (tokens_from text p)) ++ tokens_from other at
  pub back : beginning_at at (cut_at at (tokens_from text p)) ≡ tokens_from text at

abbrev pub PartsText : ℕ → List Token → Type 0
PartsText at ts = AllByRecursion (λ (token : Token). cuts at token ≡ true → token.kind ≡ kinds.Text) ts

module _ (text other : List ℕ) (at : ℕ) (utf8 : IsUtf8 text) (other_utf8 : IsUtf8 other) (there : IsPlace text at) (same : take at other ≡ take at text)
    (less : begins_with (codes "<") (drop at other) ≡ true) where
  other_long : at ≤ length other
  other_long =
      let fits = there.0 in
      let len : length (take at other) ≡ at = ap length same ∙ length-take-le at text there.0 in
      let most = length-take at other in
      omega arith

  at_place : Around text other at at
  at_place =
      let b = behind_place (length text - at) text at at utf8 there (omega arith) (omega arith) in
      record {
        front = sym (ap (λ xs. xs ++ tokens_from other at) (ap (ending_by at) b.kept ∙ b.none));
        back = ap (beginning_at at) b.kept ∙ b.all;
      }

  module _ (p : ℕ) (place : IsPlace text p) (before : p < at) where
    within : p < length text
    within = let fits = there.0 in omega arith

    other_place : IsPlace other p
    other_place = place-same text other p at place before there.0 same

    other_within : p < length other
    other_within = let long = other_long in omega arith

    -- a token that ends at the place or before
    token_stays : end_of (cut text p) ≤ at → (end_of (cut text p) ≡ at → IsEnded (cut text p).kind) → cut other p ≡ cut text p
    token_stays le ended =
        elim (cases_lt (end_of (cut text p)) at) [
          | inl lt ↦ cut-same text other p at utf8 other_utf8 place within lt there same
          | inr past ↦
              (let e : end_of (cut text p) ≡ at = omega arith in
              cut-stays text other p utf8 other_utf8 place within (ended e)
              (subst (λ n. take n other ≡ take n text) (sym e) same) (subst (λ n. begins_with (codes "<") (drop n other) ≡ true) (sym e) less))
        ]

    kept : end_of (cut text p) ≤ at → (end_of (cut text p) ≡ at → IsEnded (cut text p).kind) → Around text other at (end_of (cut text p)) → Around text other at p
    kept le ended next =
        let t = cut text p in
        let ts = tokens_from text (end_of t) in
        let all : tokens_from text p ≡ t ∷ ts = tokens-go_on text p utf8 place within in
        let from = (cut-is_token text p utf8 place within).from in
        let parts : cut_at at (tokens_from text p) ≡ t ∷ cut_at at ts = ap (cut_at at) all ∙ cut_at-kept at t ts (not_cut_before at t le) in
        let here : tokens_from other p ≡ t ∷ tokens_from other (end_of t) =
        tokens-go_on other p other_utf8 other_place other_within ∙ ap (λ x. x ∷ tokens_from other (end_of x)) (token_stays le ended) in
        record {
          front =
              here ∙ ap (λ xs. t ∷ xs) next.front
              ∙ sym (ap (λ xs. ending_by at xs ++ tokens_from other at) parts ∙ ap (λ xs. xs ++ tokens_from other at) (ending-in at t (cut_at at ts) le));
          back = ap (beginning_at at) parts ∙ beginning-out at t (cut_at at ts) (omega arith) ∙ next.back;
        }

    -- character data that the place cuts
    cut_here : at < end_of (cut text p) → (cut text p).kind ≡ kinds.Text → Around text other at p
    cut_here lt is =
        let t = cut text p in
        let ts = tokens_from text (end_of t) in
        let all : tokens_from text p ≡ t ∷ ts = tokens-go_on text p utf8 place within in
        let token = cut-is_token text p utf8 place within in
        let from = token.from in
        let halved = front_token text at p utf8 place there within before lt is in
        let fh = front_half at t in
        let bh = back_half at t in
        let fh_end = front_end text at p utf8 place there within before lt is in
        let bh_end = back_end text at p utf8 place there within before lt is in
        let parts : cut_at at (tokens_from text p) ≡ fh ∷ bh ∷ cut_at at ts =
        ap (cut_at at) all ∙ cut_at-cut at t ts (is_cut at t (omega arith) lt) in
        let b = behind_place (length text - end_of t) text at (end_of t) utf8 token.border (omega arith) (omega arith) in
        let front_len : length (take at text) ≡ at = length-take-le at text there.0 in
        let stays : cut other p ≡ fh =
        cut-stays (take at text) other p (IsUtf8-take text at utf8 there) other_utf8
        (place-same text (take at text) p at place before there.0 (take-take at at text (omega arith))) (omega arith)
        (subst (λ (x : Token). IsEnded x.kind) (sym halved) (subst (λ k. IsEnded k) (sym is) tt))
        (subst (λ (x : Token). take (end_of x) other ≡ take (end_of x) (take at text)) (sym halved)
        (subst (λ n. take n other ≡ take n (take at text)) (sym fh_end) (same ∙ sym (take-take at at text (omega arith)))))
        (subst (λ (x : Token). begins_with (codes "<") (drop (end_of x) other) ≡ true) (sym halved)
        (subst (λ n. begins_with (codes "<") (drop n other) ≡ true) (sym fh_end) less))
        ∙ halved in
        let here : tokens_from other p ≡ fh ∷ tokens_from other at =
        tokens-go_on other p other_utf8 other_place other_within ∙ ap (λ x. x ∷ tokens_from other (end_of x)) stays
        ∙ ap (λ n. fh ∷ tokens_from other n) fh_end in
        let ends : ending_by at (fh ∷ bh ∷ cut_at at ts) ≡ fh ∷ [] =
        ending-in at fh (bh ∷ cut_at at ts) (omega arith)
        ∙ ap (λ xs. fh ∷ xs) (ending-out at bh (cut_at at ts) (omega arith) ∙ ap (ending_by at) b.kept ∙ b.none) in
        let begins : beginning_at at (fh ∷ bh ∷ cut_at at ts) ≡ bh ∷ ts =
        beginning-out at fh (bh ∷ cut_at at ts) (omega arith)
        ∙ beginning-in at bh (cut_at at ts) (omega arith) ∙ ap (λ xs. bh ∷ xs) (ap (beginning_at at) b.kept ∙ b.all) in
        let left : at < length text = (let fits = token.border.0 in omega arith) in
        let rest : tokens_from text at ≡ bh ∷ ts =
        tokens-go_on text at utf8 there left
        ∙ ap (λ x. x ∷ tokens_from text (end_of x)) (back_token text at p utf8 place there within before lt is)
        ∙ ap (λ n. bh ∷ tokens_from text n) bh_end in
        record {
          front = here ∙ sym (ap (λ xs. xs ++ tokens_from other at) (ap (ending_by at) parts ∙ ends));
          back = ap (beginning_at at) parts ∙ begins ∙ sym rest;
        }

  around : (n p : ℕ) → IsPlace text p → p ≤ at → at - p ≤ n → EndsWell at (tokens_from text p) → PartsText at (tokens_from text p) → Around text other at p
  around zero p place le fuel ended text_alone = subst (λ q. Around text other at q) (let e : at ≡ p = omega arith in e) at_place
  around (suc n) p place le fuel ended text_alone =
      elim (cases_lt p at) [
        | inl before ↦
            (let t = cut text p in
            let all : tokens_from text p ≡ t ∷ tokens_from text (end_of t) = tokens-go_on text p utf8 place (within p place before) in
            let token = cut-is_token text p utf8 place (within p place before) in
            let some = token.some in
            let from = token.from in
            let ended_here = subst (λ ts. EndsWell at ts) all ended in
            let text_here = subst (λ ts. PartsText at ts) all text_alone in
            elim (cases_lt at (end_of t)) [
              | inl lt ↦ cut_here p place before lt (text_here.0 (is_cut at t (omega arith) lt))
              | inr past ↦
                  kept p place before past ended_here.0
                  (around n (end_of t) token.border past (omega arith) ended_here.1 text_here.1)
            ])
        | inr past ↦ subst (λ q. Around text other at q) (let e : at ≡ p = omega arith in e) at_place
      ]

-- ---- the tokens in front of the place lie from the start to it

lies_at : (text : List ℕ) (at p : ℕ) → IsUtf8 text → IsPlace text at → p ≡ at → AreTokensFrom at p (ending_by at (cut_at at (tokens_from text p)))
unfolding AreTokensFrom
lies_at text at p utf8 there e =
    let b = behind_place (length text - at) text at at utf8 there (omega arith) (omega arith) in
    subst (λ q. AreTokensFrom at q (ending_by at (cut_at at (tokens_from text q)))) (sym e)
    (subst (λ ts. AreTokensFrom at at ts) (sym (ap (ending_by at) b.kept ∙ b.none)) refl)

one_lies : (at p : ℕ) (t : Token) (ts : List Token) → t.from ≡ p → AreTokensFrom at (end_of t) ts → AreTokensFrom at p (t ∷ ts)
unfolding AreTokensFrom
one_lies at p t ts from rest = (from, subst (λ n. AreTokensFrom at n ts) (ap (λ n. n + length t.bytes) from) rest)

last_lies : (at p : ℕ) (t : Token) → t.from ≡ p → end_of t ≡ at → AreTokensFrom at p (t ∷ [])
unfolding AreTokensFrom
last_lies at p t from end = (from, ap (λ n. n + length t.bytes) (sym from) ∙ end)

lies : (n : ℕ) (text : List ℕ) (at p : ℕ) → IsUtf8 text → IsPlace text at → IsPlace text p → p ≤ at → at - p ≤ n → PartsText at (tokens_from text p) →
    AreTokensFrom at p (ending_by at (cut_at at (tokens_from text p)))
lies zero text at p utf8 there place le fuel alone = lies_at text at p utf8 there (omega arith)
lies (suc n) text at p utf8 there place le fuel alone =
    elim (cases_lt p at) [
      | inl before ↦
          (let t = cut text p in
          let ts = tokens_from text (end_of t) in
          let fits = there.0 in
          let within : p < length text = omega arith in
          let all : tokens_from text p ≡ t ∷ ts = tokens-go_on text p utf8 place within in
          let token = cut-is_token text p utf8 place within in
          let some = token.some in
          let from = token.from in
          let alone_here = subst (λ xs. PartsText at xs) all alone in
          elim (cases_lt at (end_of t)) [
            | inl lt ↦
                (let is = alone_here.0 (is_cut at t (omega arith) lt) in
                let fh = front_half at t in
                let bh = back_half at t in
                let fh_end = front_end text at p utf8 place there within before lt is in
                let bh_end = back_end text at p utf8 place there within before lt is in
                let b = behind_place (length text - end_of t) text at (end_of t) utf8 token.border (omega arith) (omega arith) in
                let ends : ending_by at (cut_at at (tokens_from text p)) ≡ fh ∷ [] =
                ap (ending_by at) (ap (cut_at at) all ∙ cut_at-cut at t ts (is_cut at t (omega arith) lt))
                ∙ ending-in at fh (bh ∷ cut_at at ts) (omega arith)
                ∙ ap (λ xs. fh ∷ xs) (ending-out at bh (cut_at at ts) (omega arith) ∙ ap (ending_by at) b.kept ∙ b.none) in
                subst (λ xs. AreTokensFrom at p xs) (sym ends) (last_lies at p fh from fh_end))
            | inr past ↦
                (let ends : ending_by at (cut_at at (tokens_from text p)) ≡ t ∷ ending_by at (cut_at at ts) =
                ap (ending_by at) (ap (cut_at at) all ∙ cut_at-kept at t ts (not_cut_before at t past)) ∙ ending-in at t (cut_at at ts) past in
                subst (λ xs. AreTokensFrom at p xs) (sym ends)
                (one_lies at p t (ending_by at (cut_at at ts)) from (lies n text at (end_of t) utf8 there token.border past (omega arith) alone_here.1)))
          ])
      | inr past ↦ lies_at text at p utf8 there (omega arith)
    ]

pub front_lies : (text : List ℕ) (at : ℕ) → IsUtf8 text → IsPlace text at → PartsText at (tokens_of text) → AreTokensOf at (ending_by at (cut_at at (tokens_of text)))
front_lies text at utf8 there alone = lies at text at 0 utf8 there (IsCharBoundary-start text utf8) (omega arith) (omega arith) alone

-- ---- behind the place

moved : (n : ℕ) (text other : List ℕ) (q d : ℕ) → IsUtf8 text → IsUtf8 other → IsPlace text q → IsPlace other (d + q) → 0 < q → drop q text ≡ drop (d + q) other →
    length text - q ≤ n → tokens_from other (d + q) ≡ map (placed_token d) (tokens_from text q)
moved zero text other q d utf8 other_utf8 place other_place some same fuel =
    let len : length text - q ≡ length other - (d + q) = sym (length-drop q text) ∙ ap length same ∙ length-drop (d + q) other in
    tokens-none other (d + q) (omega arith) ∙ sym (ap (map (placed_token d)) (tokens-none text q (omega arith)))
moved (suc n) text other q d utf8 other_utf8 place other_place some same fuel =
    let len : length text - q ≡ length other - (d + q) = sym (length-drop q text) ∙ ap length same ∙ length-drop (d + q) other in
    elim (cases_lt q (length text)) [
      | inl within ↦
          (let t = cut text q in
          let token = cut-is_token text q utf8 place within in
          let other_within : d + q < length other = omega arith in
          let other_token = cut-is_token other (d + q) other_utf8 other_place other_within in
          let alike = depends-on_rest text other q (d + q) same (λ e. absurd (omega arith), λ e. absurd (omega arith)) in
          let there : cut other (d + q) ≡ placed_token d t =
          token_is (cut other (d + q)) (placed_token d t) (sym alike.0) (other_token.from ∙ ap (λ n. d + n) (sym token.from)) (sym alike.1) in
          let from = token.from in
          let some_bytes = token.some in
          let end : end_of (placed_token d t) ≡ d + end_of t = omega arith in
          let border : IsPlace other (d + end_of t) =
          subst (λ n. IsPlace other n) end (subst (λ (x : Token). IsPlace other (end_of x)) there other_token.border) in
          let rest : drop (end_of t) text ≡ drop (d + end_of t) other =
          ap (λ n. drop n text) (let e : end_of t ≡ q + length t.bytes = omega arith in e) ∙ sym (drop-drop (length t.bytes) q text)
          ∙ ap (drop (length t.bytes)) same ∙ drop-drop (length t.bytes) (d + q) other
          ∙ ap (λ n. drop n other) (let e : d + q + length t.bytes ≡ d + end_of t = omega arith in e) in
          tokens-go_on other (d + q) other_utf8 other_place other_within
          ∙ ap (λ x. x ∷ tokens_from other (end_of x)) there
          ∙ ap (λ n. placed_token d t ∷ tokens_from other n) end
          ∙ ap (λ xs. placed_token d t ∷ xs)
          (moved n text other (end_of t) d utf8 other_utf8 token.border border (omega arith) rest (omega arith))
          ∙ sym (ap (map (placed_token d)) (tokens-go_on text q utf8 place within)))
      | inr past ↦ tokens-none other (d + q) (omega arith) ∙ sym (ap (map (placed_token d)) (tokens-none text q past))
    ]

-- ---- what is put in

-- a token that stands at a place, by its bytes
pub record StandsThere (other : List ℕ) (p : ℕ) (kind : TokenKind) (bytes : List ℕ) : Type 0 where
  pub tokens : tokens_from other p ≡ (record { kind = kind; from = p; bytes = bytes }) ∷ tokens_from other (p + length bytes)
  pub border : IsPlace other (p + length bytes)

pub stands_there : (other : List ℕ) (p : ℕ) (kind : TokenKind) (bytes rest : List ℕ) → IsUtf8 other → IsPlace other p → 0 < p → drop p other ≡ bytes ++ rest →
    0 < length bytes → first_token false (bytes ++ rest) ≡ cut_as kind (length bytes) → StandsThere other p kind bytes
unfolding cut
stands_there other p kind bytes rest utf8 place some spelled some_bytes is =
    let left = length-drop p other in
    let len : length (drop p other) ≡ length bytes + length rest = ap length spelled ∙ length-append bytes rest in
    let within : p < length other = omega arith in
    let found : first_token (p == 0) (drop p other) ≡ cut_as kind (length bytes) =
    ap (λ b. first_token b (drop p other)) (ne_eqb p 0 (λ e. omega arith)) ∙ ap (first_token false) spelled ∙ is in
    let token : cut other p ≡ record { kind = kind; from = p; bytes = bytes } =
    token_is (cut other p) (record { kind = kind; from = p; bytes = bytes }) (ap (λ (c : Cut). c.kind) found) refl
    (ap (λ (c : Cut). take c.len (drop p other)) found ∙ ap (take (length bytes)) spelled ∙ take_at bytes rest (length bytes) refl) in
    record {
      tokens = tokens-go_on other p utf8 place within ∙ ap (λ x. x ∷ tokens_from other (end_of x)) token;
      border = subst (λ (x : Token). IsPlace other (end_of x)) token (cut-is_token other p utf8 place within).border;
    }

-- ---- a text with markup put in

module _ (text rest : List ℕ) (at : ℕ) (utf8 : IsUtf8 text) (added_utf8 : IsUtf8 (60 ∷ rest)) (place : IsPlace text at) (some : 0 < at) where
  pub after_utf8 : IsUtf8 (edited text at at (60 ∷ rest))
  after_utf8 = IsUtf8-append (take at text ++ (60 ∷ rest)) (drop at text)
      (IsUtf8-append (take at text) (60 ∷ rest) (IsUtf8-take text at utf8 place) added_utf8) (IsUtf8-drop text at utf8 place)

  after_parts : edited text at at (60 ∷ rest) ≡ take at text ++ ((60 ∷ rest) ++ drop at text)
  after_parts = append_assoc (take at text) (60 ∷ rest) (drop at text)

  after_front : take at (edited text at at (60 ∷ rest)) ≡ take at text
  after_front = ap (take at) after_parts ∙ take_at (take at text) ((60 ∷ rest) ++ drop at text) at (length-take-le at text place.0)

  pub after_back : drop at (edited text at at (60 ∷ rest)) ≡ (60 ∷ rest) ++ drop at text
  after_back = ap (drop at) after_parts ∙ drop_at (take at text) ((60 ∷ rest) ++ drop at text) at (length-take-le at text place.0)

  after_less : begins_with (codes "<") (drop at (edited text at at (60 ∷ rest))) ≡ true
  unfolding begins_with
  after_less = ap (begins_with (codes "<")) after_back

  pub after_place : IsPlace (edited text at at (60 ∷ rest)) at
  after_place =
      let left = length-drop at (edited text at at (60 ∷ rest)) in
      let len = ap length after_back in
      let read : get_or (edited text at at (60 ∷ rest)) (at + 0) 0 ≡ 60 = sym (get_or-drop at (edited text at at (60 ∷ rest)) 0 0) ∙ ap (λ xs. get_or xs 0 0) after_back in
      let here : get_or (edited text at at (60 ∷ rest)) at 0 ≡ 60 = ap (λ n. get_or (edited text at at (60 ∷ rest)) n 0) (let e : at ≡ at + 0 = omega arith in e) ∙ read in
      IsCharBoundary-before_ascii (edited text at at (60 ∷ rest)) at (omega arith) (omega (arith, here))

  pub around_insertion : EndsWell at (tokens_of text) → PartsText at (tokens_of text) → Around text (edited text at at (60 ∷ rest)) at 0
  around_insertion ended text_alone =
      around text (edited text at at (60 ∷ rest)) at utf8 after_utf8 place after_front after_less at 0 (IsCharBoundary-start text utf8) (omega arith) (omega arith)
      ended text_alone

  pub behind_insertion : IsPlace (edited text at at (60 ∷ rest)) (length (60 ∷ rest) + at) →
      tokens_from (edited text at at (60 ∷ rest)) (length (60 ∷ rest) + at) ≡ map (placed_token (length (60 ∷ rest))) (tokens_from text at)
  behind_insertion border =
      moved (length text - at) text (edited text at at (60 ∷ rest)) at (length (60 ∷ rest)) utf8 after_utf8 place border some
      (sym (ap (λ n. drop n (edited text at at (60 ∷ rest))) (let e : length (60 ∷ rest) + at ≡ at + length (60 ∷ rest) = omega arith in e)
      ∙ sym (drop-drop (length (60 ∷ rest)) at (edited text at at (60 ∷ rest))) ∙ ap (drop (length (60 ∷ rest))) after_back
      ∙ drop_at (60 ∷ rest) (drop at text) (length (60 ∷ rest)) refl))
      (omega arith)
