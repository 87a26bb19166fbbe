-- What is handed on has as many bytes.
use Rattle.std.proofs.Common.{◌≡◌, ℕ, ◌+◌, ◌-◌, ◌≤◌, Bool, true, false, nat_le, List, [], ◌∷◌, ◌++◌, length, map, take, drop, refl, sym, ap, ◌∙◌, arith, length-append, length-drop}
use Rattle.std.proofs.lemmas.List.{take-append-drop, length-map}
use Rattle.std.proofs.lemmas.Bool.Decides.{nat_tests}
use Rattle.rng_widen.specs.declared.widening.Widening.{Widening}
use Rattle.rng_widen.specs.Handed.{widenings, handed}
use Rattle.rng_widen.specs.Laws.{OtherTextsStay, TextsKeepTheirLength}
use Rattle.rng_widen.specs.Widened.{blanked, put_in, before_place, place_size, put_front, put_behind, put_from, put_all}

length_put_in : (word bytes : List ℕ) → length (put_in word bytes) ≡ length bytes
unfolding put_in
length_put_in word bytes = by_test (nat_le (length word) (length bytes)) refl
  where
    by_test : (b : Bool) → nat_le (length word) (length bytes) ≡ b → length (put_in word bytes) ≡ length bytes
    by_test true e =
        let fits : length word ≤ length bytes = grind (arith, nat_tests, e) in
        rw e
        (length-append word (map blanked (drop (length word) bytes))
        ∙ ap (λ n. length word + n) (length-map (drop (length word) bytes) blanked ∙ length-drop (length word) bytes)
        ∙ omega (arith, fits))
    by_test false e = rw e refl

length_split : (n : ℕ) (bytes : List ℕ) → length (take n bytes) + length (drop n bytes) ≡ length bytes
length_split n bytes = sym (length-append (take n bytes) (drop n bytes)) ∙ ap length (take-append-drop n bytes)

length_put_from : (len : ℕ) (rest : List ℕ) (all : List Widening) → length (put_from len rest all) ≡ length rest
unfolding put_from put_front put_behind
length_put_from len rest [] = refl
length_put_from len rest (one ∷ more) =
    let before : ℕ = before_place len rest one in
    let count : ℕ = place_size one in
    let inside : List ℕ = drop before rest in
    let word : List ℕ = put_in one.word (take count inside) in
    let behind : List ℕ = put_from len (drop count inside) more in
    length-append (take before rest ++ word) behind
    ∙ ap (λ n. n + length behind) (length-append (take before rest) word)
    ∙ ap (λ n. length (take before rest) + n + length behind) (length_put_in one.word (take count inside))
    ∙ ap (λ n. length (take before rest) + length (take count inside) + n) (length_put_from len (drop count inside) more)
    ∙ three (length (take before rest)) (length (take count inside)) (length (drop count inside)) (length inside) (length rest)
    (length_split count inside) (length_split before rest)
  where
    three : (a b c d e : ℕ) → b + c ≡ d → a + d ≡ e → a + b + c ≡ e
    three a b c d e h k = omega (arith, h, k)

pub texts_keep_their_length : TextsKeepTheirLength
unfolding handed put_all
texts_keep_their_length bytes = length_put_from (length bytes) bytes (widenings bytes)

pub other_texts_stay : OtherTextsStay
unfolding handed put_all put_from
other_texts_stay bytes none = ap (put_from (length bytes) bytes) none
