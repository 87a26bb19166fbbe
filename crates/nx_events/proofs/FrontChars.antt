-- The character at the front of a text.
use Rattle.std.proofs.Common.{◌≡◌, ℕ, suc, ◌+◌, ◌<◌, ◌≤◌, Bool, true, false, inl, inr, List, [], ◌∷◌, ◌++◌, length, drop, refl, ap, sym, ◌∙◌, arith, append-nil}
use Rattle.std.specs.Prelude.{slice_index}
use Rattle.std.specs.Str.{chars, continuation_len}
use lib.Utf8.{encode, scalar}
use Rattle.std.proofs.lemmas.Bool.{cases_Bool, cases_lt, and_from}
use Rattle.std.proofs.lemmas.List.{length-append}
use Rattle.std.proofs.lemmas.Str.{IsUtf8-encode, chars-append, chars-encodes, encode_ascii, char_from_byte, len_utf8_bounds, length-encode}
use Rattle.nx_events.specs.Utf8.{front_char}
use Rattle.nx_events.proofs.Characters.{chars_whole}
use Rattle.nx_events.proofs.Texts.{lead_len}

-- a character at the front
pub front_is : (c : ℕ) (rest : List ℕ) → scalar c ≡ true → front_char (encode c ++ rest) ≡ c
front_is c rest s =
    let characters : chars (encode c ++ rest) ≡ c ∷ chars rest =
    chars-append (encode c) rest (IsUtf8-encode c s) ∙ ap (λ xs. xs ++ chars rest) (ap chars (sym (append-nil (encode c))) ∙ chars-encodes (c ∷ []) (and_from (scalar c) true s refl)) in
    by_bytes (encode c ++ rest) refl (bounds c rest) characters
  where
    bounds : (c : ℕ) (rest : List ℕ) → 0 < length (encode c ++ rest)
    bounds c rest = let more = length-append (encode c) rest in let some = length-encode c in let few = (len_utf8_bounds c).0 in omega arith

    by_bytes : (xs : List ℕ) → encode c ++ rest ≡ xs → 0 < length xs → chars xs ≡ c ∷ chars rest → front_char xs ≡ c
    by_bytes [] e h k = absurd (omega arith)
    by_bytes (b ∷ bs) e h k =
        let len : length (encode c) ≡ suc (continuation_len b) = lead_len c b bs rest e in
        let all : length (encode c) + length rest ≡ suc (length bs) = sym (length-append (encode c) rest) ∙ ap length e in
        let whole : chars (b ∷ bs) ≡ front_char (b ∷ bs) ∷ chars (drop (continuation_len b + 1) (b ∷ bs)) = chars_whole (b ∷ bs) (continuation_len b) (omega arith) refl (omega arith) in
        let both : front_char (b ∷ bs) ∷ chars (drop (continuation_len b + 1) (b ∷ bs)) ≡ c ∷ chars rest = sym whole ∙ k in
        cc

-- a byte that is ASCII is the character at the front
pub head_is : (p : ℕ → Bool) (c : ℕ) (rest : List ℕ) → ((b : ℕ) → p b ≡ true → b < 128) → p (slice_index (encode c ++ rest) 0) ≡ p c
head_is p c rest small =
    elim (cases_lt c 128) [
      | inl h ↦ ap (λ xs. p (slice_index (xs ++ rest) 0)) (encode_ascii c h)
      | inr h ↦ elim (cases_Bool (p (slice_index (encode c ++ rest) 0))) [
        | inl e ↦ absurd (let low = small (slice_index (encode c ++ rest) 0) e in
            let same : c ≡ slice_index (encode c ++ rest) 0 = char_from_byte (encode c ++ rest) rest c refl low (let more = length-append (encode c) rest in let some = length-encode c in let few = (len_utf8_bounds c).0 in omega arith) in omega arith)
        | inr e ↦ e ∙ sym (by_test h (p c) refl)
      ]
    ]
  where
    by_test : 128 ≤ c → (t : Bool) → p c ≡ t → t ≡ false
    by_test h true e = absurd (let low = small c e in omega arith)
    by_test h false e = refl
