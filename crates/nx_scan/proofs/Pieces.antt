-- What the bytes of a piece tell of the token at its start.
use Rattle.std.proofs.Common.{◌≡◌, ◌∙◌, ℕ, ◌+◌, ◌-◌, ◌<◌, ◌≤◌, Bool, true, false, List, [], ◌∷◌, ◌++◌, length, take, drop, get_or, refl, sym, ap, arith, take_all}
use Rattle.std.specs.Prelude.{◌==◌, ◌&&◌, codes}
use Rattle.std.proofs.Math.Bool.{and-true}
use Rattle.std.proofs.lemmas.Bool.{eqb-true}
use Rattle.std.proofs.lemmas.List.{drop-drop, length-drop, drop-append-le}
use Rattle.nx_base.specs.Characters.{is_name_start}
use Rattle.nx_base.specs.Tokens.{begins_with, bytes_up_to, order_mark, first_token}
use Rattle.nx_base.specs.declared.token.TokenKind.TheVariants as kinds
use Rattle.nx_text.specs.Reading.{StandFrom}
use Rattle.nx_text.proofs.NextByte.{up_to_in_front, up_to_in_back}
use Rattle.std.proofs.Math.Seq.{drop-append-add}
use Rattle.nx_scan.specs.Ending.{EndsAt}
use Rattle.nx_scan.specs.declared.scan.End.{End}
use Rattle.nx_scan.proofs.Fitting.{found-within, found-stands}
use Rattle.nx_scan.proofs.Rows.{token-text}

-- the first byte of a piece is the text's
first_of : (piece rest : List ℕ) (m : ℕ) → 0 < length piece → begins_with (m ∷ []) (piece ++ rest) ≡ (get_or piece 0 0 == m)
unfolding begins_with
first_of [] rest m some = absurd (omega arith)
first_of (b ∷ piece) rest m some = and-true (b == m)

pub first-is : (text piece : List ℕ) (at m : ℕ) → StandFrom text at piece → 0 < length piece →
    begins_with (m ∷ []) (drop at text) ≡ (get_or piece 0 0 == m)
first-is text piece at m is some = ap (begins_with (m ∷ [])) is.whole ∙ first_of piece is.rest m some

-- those behind the first stand behind it
pub behind-first : (text piece : List ℕ) (at : ℕ) → StandFrom text at piece → 0 < length piece →
    StandFrom text (at + 1) (take (length piece - 1) (drop 1 piece))
behind-first text piece at is some = record {
  rest = is.rest;
  whole = sym (drop-drop 1 at text) ∙ ap (drop 1) is.whole ∙ drop-append-le 1 piece is.rest (omega arith)
      ∙ ap (λ t. t ++ is.rest) (sym (take_all (length piece - 1) (drop 1 piece) (let len = length-drop 1 piece in omega (arith, len))));
}

-- no mark begins with a byte of a tag that is a name alone
no_mark : (b m : ℕ) → ¬ (b ≡ m) → (b == m) ≡ false
no_mark b m differs = apart (b == m) (λ e. differs (eqb-true b m e))
  where
    apart : (t : Bool) → ¬ (t ≡ true) → t ≡ false
    apart true none = absurd (none refl)
    apart false none = refl

not_start : (b m : ℕ) → is_name_start b ≡ true → is_name_start m ≡ false → ¬ (b ≡ m)
not_start b m start none same =
    let both : is_name_start b ≡ false = ap is_name_start same ∙ none in
    let bad : true ≡ false = sym start ∙ both in cc

no_exclamation : is_name_start 33 ≡ false
unfolding is_name_start
no_exclamation = refl

no_question : is_name_start 63 ≡ false
unfolding is_name_start
no_question = refl

module _ (text piece : List ℕ) (at : ℕ) (is : StandFrom text at piece) (some : 0 < length piece) where
  pub name-no_mark : is_name_start (get_or piece 0 0) ≡ true →
      (begins_with (33 ∷ []) (drop at text) ≡ false) × (begins_with (63 ∷ []) (drop at text) ≡ false)
  name-no_mark start = (
    first-is text piece at 33 is some ∙ no_mark (get_or piece 0 0) 33 (not_start (get_or piece 0 0) 33 start no_exclamation),
    first-is text piece at 63 is some ∙ no_mark (get_or piece 0 0) 63 (not_start (get_or piece 0 0) 63 start no_question),
  )

  pub slash-no_mark : get_or piece 0 0 ≡ 47 →
      (begins_with (33 ∷ []) (drop at text) ≡ false) × (begins_with (63 ∷ []) (drop at text) ≡ false)
  slash-no_mark slash = (
    first-is text piece at 33 is some ∙ no_mark (get_or piece 0 0) 33 (λ e. omega (arith, slash, e)),
    first-is text piece at 63 is some ∙ no_mark (get_or piece 0 0) 63 (λ e. omega (arith, slash, e)),
  )

-- a byte that stands in the piece
pub found-here : (byte : ℕ) (text piece : List ℕ) (at n : ℕ) → StandFrom text at piece → n ≡ bytes_up_to byte piece → n < length piece →
    at + n ≡ at + bytes_up_to byte (drop at text)
found-here byte text piece at n is found less =
    ap (λ k. at + k)
    (found ∙ up_to_in_front byte piece is.rest (omega (arith, found, less)) ∙ ap (bytes_up_to byte) (sym is.whole))

-- a byte that stands behind the piece
pub found-behind : (byte : ℕ) (text piece : List ℕ) (at n found : ℕ) → StandFrom text at piece → n ≡ bytes_up_to byte piece →
    n ≤ length piece → length piece ≤ n → found ≡ at + n + bytes_up_to byte (drop (at + n) text) → found ≡ at + bytes_up_to byte (drop at text)
found-behind byte text piece at n found is here within past place =
    let same : n ≡ length piece + 0 = omega (arith, within, past) in
    let behind : drop (at + n) text ≡ is.rest =
    sym (drop-drop n at text) ∙ ap (drop n) is.whole ∙ ap (λ k. drop k (piece ++ is.rest)) same ∙ drop-append-add piece is.rest 0 in
    let sum = up_to_in_back byte piece is.rest (omega (arith, here, past)) in
    let all : bytes_up_to byte (drop at text) ≡ bytes_up_to byte (piece ++ is.rest) = ap (bytes_up_to byte) is.whole in
    let left : bytes_up_to byte (drop (at + n) text) ≡ bytes_up_to byte is.rest = ap (bytes_up_to byte) behind in
    omega (arith, place, same, sum, all, left)

-- character data
pub text-ends : (text : List ℕ) (at : ℕ) (found : End) → (at == 0 && begins_with order_mark (drop at text)) ≡ false →
    begins_with (codes "<") (drop at text) ≡ false → at ≤ length text → found.kind ≡ kinds.Text →
    found.place ≡ at + bytes_up_to 60 (drop at text) → EndsAt text at (first_token (at == 0) (drop at text)) found
text-ends text at found a b inside kind place =
    let e = token-text text at found.place a b place (found-within 60 text at found.place inside place)
    (found-stands 60 text at found.place inside place) in
    record { kind = kind ∙ e.kind; place = e.place; border = e.border }
