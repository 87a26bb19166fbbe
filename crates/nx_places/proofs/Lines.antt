-- Lines from their starts on.
use Rattle.std.proofs.Common.{◌≡◌, ◌∙◌, ℕ, zero, suc, ◌+◌, ◌-◌, ◌<◌, ◌≤◌, Bool, true, false, cond, List, [], ◌∷◌, ◌++◌, length, take, drop, get_or, refl, sym, ap, subst, arith}
use Rattle.std.specs.Prelude.{◌==◌, not, ◌&&◌, ◌||◌, nat_lt}
use Rattle.std.specs.List.{prefix_len}
use Rattle.std.proofs.lemmas.Bool.{le-ltb, lt-ltb}
use Rattle.std.proofs.lemmas.List.{length-append, length-drop, drop_all, drop-drop}
use Rattle.std.proofs.Math.Seq.{drop-cons}
use Rattle.nx_position.specs.declared.position.Encoding.{Encoding}
use Rattle.nx_position.specs.Positions.{begins_with_feed, behind_line, byte_units, bytes_to, content, ends_line, from_line, is_content}

-- the text from a place in it on
pub from_here : (text : List ℕ) (at : ℕ) → at < length text → drop at text ≡ get_or text at 0 ∷ drop (at + 1) text
from_here text at less = drop-cons text at 0 less ∙ ap (λ n. get_or text at 0 ∷ drop n text) (let e : suc at ≡ at + 1 = omega arith in e)

-- a byte of content ends no line
content_ends_none : (byte : ℕ) (rest : List ℕ) → is_content byte ≡ true → ends_line byte rest ≡ false
content_ends_none byte rest = by (byte == 10) (byte == 13)
  where
    by : (a b : Bool) → not (a || b) ≡ true → (a || (b && not (begins_with_feed rest))) ≡ false
    by true b is = cc
    by false true is = cc
    by false false is = refl

past_byte : (byte : ℕ) (rest : List ℕ) → is_content byte ≡ true → behind_line (byte ∷ rest) ≡ behind_line rest
past_byte byte rest is = ap (λ ends. cond ends rest (behind_line rest)) (content_ends_none byte rest is)

past_piece : (piece rest : List ℕ) → behind_line (piece ++ rest) ≡ behind_line (drop (prefix_len is_content piece) (piece ++ rest))
past_piece [] rest = refl
past_piece (byte ∷ piece) rest = by (is_content byte) refl (past_piece piece rest)
  where
    by : (b : Bool) → is_content byte ≡ b → behind_line (piece ++ rest) ≡ behind_line (drop (prefix_len is_content piece) (piece ++ rest)) →
        behind_line (byte ∷ (piece ++ rest)) ≡ behind_line (drop (cond b (1 + prefix_len is_content piece) 0) (byte ∷ (piece ++ rest)))
    by true e more =
        let next : suc (prefix_len is_content piece) ≡ 1 + prefix_len is_content piece = omega arith in
        past_byte byte (piece ++ rest) e ∙ more ∙ ap (λ n. behind_line (drop n (byte ∷ (piece ++ rest)))) next
    by false e more = refl

pub past_content : (text piece rest : List ℕ) (at count : ℕ) → at < length text → is_content (get_or text at 0) ≡ true → drop (at + 1) text ≡ piece ++ rest →
    count ≡ prefix_len is_content piece → behind_line (drop (at + 1 + count) text) ≡ behind_line (drop at text)
past_content text piece rest at count less is whole counted =
    ap behind_line (sym (drop-drop count (at + 1) text) ∙ ap (drop count) whole ∙ ap (λ n. drop n (piece ++ rest)) counted)
    ∙ sym (past_piece piece rest) ∙ ap behind_line (sym whole)
    ∙ sym (past_byte (get_or text at 0) (drop (at + 1) text) is) ∙ ap behind_line (sym (from_here text at less))

pub content_within : (text piece rest : List ℕ) (at count : ℕ) → at < length text → drop (at + 1) text ≡ piece ++ rest → count ≤ length piece →
    at + 1 + count ≤ length text
content_within text piece rest at count less whole short =
    let dropped = length-drop (at + 1) text in
    let parts : length (drop (at + 1) text) ≡ length (piece ++ rest) = ap length whole in
    let sum = length-append piece rest in
    omega (arith, dropped, parts, sum, less, short)

-- ---- lines by their numbers

no_lines : (line : ℕ) → from_line line [] ≡ []
no_lines zero = refl
no_lines (suc line) = no_lines line

pub no_more_lines : (text : List ℕ) (at line : ℕ) → length text ≤ at → drop at text ≡ from_line line (drop at text)
no_more_lines text at line over = drop_all at text over ∙ sym (no_lines line) ∙ ap (from_line line) (sym (drop_all at text over))

-- ---- columns

content_of : (byte : ℕ) (rest : List ℕ) → is_content byte ≡ true → content (byte ∷ rest) ≡ byte ∷ content rest
content_of byte rest is =
    ap (λ b. take (cond b (1 + prefix_len is_content rest) 0) (byte ∷ rest)) is
    ∙ ap (λ n. take n (byte ∷ rest)) (let e : 1 + prefix_len is_content rest ≡ suc (prefix_len is_content rest) = omega arith in e)

narrow : (encoding : Encoding) (text : List ℕ) (at left : ℕ) → at < length text → is_content (get_or text at 0) ≡ true → (b : Bool) →
    nat_lt left (byte_units encoding (get_or text at 0)) ≡ b → bytes_to encoding left (content (drop at text))
    ≡ cond b 0 (1 + bytes_to encoding (left - byte_units encoding (get_or text at 0)) (content (drop (at + 1) text)))
narrow encoding text at left less is b e =
    let byte = get_or text at 0 in let rest = content (drop (at + 1) text) in
    ap (λ there. bytes_to encoding left (content there)) (from_here text at less)
    ∙ ap (bytes_to encoding left) (content_of byte (drop (at + 1) text) is)
    ∙ ap (λ c. cond c 0 (1 + bytes_to encoding (left - byte_units encoding byte) rest)) e

-- a character that is too wide for what is left, and one that isn't
pub column_inside : (encoding : Encoding) (text : List ℕ) (at left : ℕ) → at < length text → is_content (get_or text at 0) ≡ true →
    left < byte_units encoding (get_or text at 0) → bytes_to encoding left (content (drop at text)) ≡ 0
column_inside encoding text at left less is wide = narrow encoding text at left less is true (lt-ltb left (byte_units encoding (get_or text at 0)) wide)

pub column_further : (encoding : Encoding) (text : List ℕ) (at left : ℕ) → at < length text → is_content (get_or text at 0) ≡ true →
    byte_units encoding (get_or text at 0) ≤ left → bytes_to encoding left (content (drop at text))
    ≡ 1 + bytes_to encoding (left - byte_units encoding (get_or text at 0)) (content (drop (at + 1) text))
column_further encoding text at left less is fits = narrow encoding text at left less is false (le-ltb left (byte_units encoding (get_or text at 0)) fits)
