-- One more step of a loop.
use Rattle.std.proofs.Common.{◌≡◌, ℕ, ◌+◌, ◌-◌, ◌*◌, ◌<◌, ◌≤◌, min, Bool, true, false, List, [], ◌∷◌, ◌++◌, length, get_or, take, drop, Option, Some, None, refl, sym, ap, ◌∙◌, arith, inl, inr, drop-cons, add-one}
use Rattle.std.specs.Option.{option_map}
use Rattle.std.specs.Str.{encode_utf8_all}
use Rattle.std.specs.Char.{encode_utf8}
use Rattle.std.proofs.lemmas.List.{take_more, take_rest, map-append, append-nil, append_assoc}
use Rattle.std.proofs.lemmas.Str.{encodes-append}
use Rattle.std.proofs.lemmas.Grind.{common_steps}
use Rattle.std.proofs.lemmas.Bool.Decides.{nat_tests}
use Rattle.std.proofs.lemmas.Bool.{cases_lt}
use Rattle.nx_base.specs.Characters.{is_char}
use Rattle.rnc_lex.specs.declared.letter.Letter.{Letter}
use Rattle.rnc_lex.specs.Tokens.{said, utf8}
use Rattle.nx_base.specs.CharacterCodes.{char_of_code}
use Rattle.rnc_lex.specs.Reading.{begins_three, before_three}

-- ---- texts

pub utf8_append : (front back : List Letter) → utf8 (front ++ back) ≡ utf8 front ++ utf8 back
utf8_append front back = ap encode_utf8_all (map-append (λ (letter : Letter). letter.character) front back) ∙ encodes-append (said front) (said back)

pub utf8_one : (letter : Letter) → utf8 (letter ∷ []) ≡ encode_utf8 letter.character
utf8_one letter = append-nil (encode_utf8 letter.character)

pub utf8_more : (letters : List Letter) (i : ℕ) (d : Letter) → i < length letters → utf8 (take (i + 1) letters) ≡ utf8 (take i letters) ++ encode_utf8 (get_or letters i d).character
utf8_more letters i d lt = ap utf8 (take_more letters i d lt) ∙ utf8_append (take i letters) (get_or letters i d ∷ []) ∙ ap (λ (t : List ℕ). utf8 (take i letters) ++ t) (utf8_one (get_or letters i d))

-- a text with one letter more
pub appended : (before more first front back end : List ℕ) → more ≡ before ++ end → before ≡ first ++ front → back ≡ front ++ end → more ≡ first ++ back
appended before more first front back end e f g = e ∙ ap (λ (t : List ℕ). t ++ end) f ∙ append_assoc first front end ∙ ap (λ (t : List ℕ). first ++ t) (sym g)

-- ---- three quotes

pub three_here : (quote : ℕ) (letters : List Letter) → begins_three quote letters ≡ true → before_three quote letters ≡ Some 0
unfolding begins_three before_three
three_here quote [] h = absurd cc
three_here quote (letter ∷ letters) h = rw h refl

three_later_cons : (quote : ℕ) (letter : Letter) (letters : List Letter) → begins_three quote (letter ∷ letters) ≡ false → before_three quote (letter ∷ letters) ≡ option_map (λ n. n + 1) (before_three quote letters)
unfolding before_three
three_later_cons quote letter letters h = rw h refl

option_map_twice : (i : ℕ) (found : Option ℕ) → option_map (λ n. n + i) (option_map (λ n. n + 1) found) ≡ option_map (λ n. n + (i + 1)) found
option_map_twice i None = refl
option_map_twice i (Some n) = let e : n + 1 + i ≡ n + (i + 1) = omega arith in ap Some e

pub three_later : (quote : ℕ) (letters : List Letter) (i : ℕ) (d : Letter) → i < length letters → begins_three quote (drop i letters) ≡ false → option_map (λ n. n + i) (before_three quote (drop i letters)) ≡ option_map (λ n. n + (i + 1)) (before_three quote (drop (i + 1) letters))
three_later quote letters i d lt h =
    let cut : drop i letters ≡ get_or letters i d ∷ drop (i + 1) letters = rw (add-one i) (drop-cons letters i d lt) in
    let none : begins_three quote (get_or letters i d ∷ drop (i + 1) letters) ≡ false = sym (ap (begins_three quote) cut) ∙ h in
    ap (λ (ls : List Letter). option_map (λ n. n + i) (before_three quote ls)) cut
    ∙ ap (option_map (λ n. n + i)) (three_later_cons quote (get_or letters i d) (drop (i + 1) letters) none)
    ∙ option_map_twice i (before_three quote (drop (i + 1) letters))

pub three_nowhere : (quote : ℕ) (letters : List Letter) (i : ℕ) → length letters ≤ i → before_three quote (drop i letters) ≡ None
unfolding before_three
three_nowhere quote letters i ge = let none : drop i letters ≡ [] = grind (arith, common_steps) in rw none refl

-- the test at a place
at_place : (quote : ℕ) (letters : List Letter) (i : ℕ) (test answer : Bool) → test ≡ begins_three quote (take (length letters - i) (drop i letters)) → test ≡ answer → begins_three quote (drop i letters) ≡ answer
at_place quote letters i test answer e h = sym (ap (begins_three quote) (take_rest letters i)) ∙ sym e ∙ h

some_at : (i : ℕ) → option_map (λ n. n + i) (Some 0) ≡ Some i
some_at i = let e : 0 + i ≡ i = omega arith in ap Some e

pub three_found : (quote : ℕ) (letters : List Letter) (i : ℕ) (found : Option ℕ) (test : Bool) → found ≡ option_map (λ n. n + i) (before_three quote (drop i letters)) → test ≡ begins_three quote (take (length letters - i) (drop i letters)) → test ≡ true → Some i ≡ found
three_found quote letters i found test h e k = sym (h ∙ ap (option_map (λ n. n + i)) (three_here quote (drop i letters) (at_place quote letters i test true e k)) ∙ some_at i)

pub three_go_on : (quote : ℕ) (letters : List Letter) (i : ℕ) (found : Option ℕ) (test : Bool) → i < length letters → found ≡ option_map (λ n. n + i) (before_three quote (drop i letters)) → test ≡ begins_three quote (take (length letters - i) (drop i letters)) → test ≡ false → found ≡ option_map (λ n. n + (i + 1)) (before_three quote (drop (i + 1) letters))
three_go_on quote letters i found test lt h e k = h ∙ three_later quote letters i (record { at = 0; character = 0; written = false }) lt (at_place quote letters i test false e k)

pub three_not_found : (quote : ℕ) (letters : List Letter) (i : ℕ) (found : Option ℕ) → length letters ≤ i → found ≡ option_map (λ n. n + i) (before_three quote (drop i letters)) → None ≡ found
three_not_found quote letters i found ge h = sym (h ∙ ap (option_map (λ n. n + i)) (three_nowhere quote letters i ge))

-- ---- Chars

above : (n : ℕ) → 0x110000 ≤ n → char_of_code n ≡ None
unfolding is_char char_of_code
above n h = grind (arith, nat_tests)

pub capped : (n : ℕ) → char_of_code (min n 0x110000) ≡ char_of_code n
capped n =
    elim (cases_lt n 0x110000) [
      | inl lt ↦ let e : min n 0x110000 ≡ n = omega arith in ap char_of_code e
      | inr ge ↦ let e : min n 0x110000 ≡ 0x110000 = omega arith in ap char_of_code e ∙ above 0x110000 (omega arith) ∙ sym (above n ge)
    ]
