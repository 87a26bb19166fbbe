-- Lists that grow at their end.
use Rattle.std.specs.Prelude.{◌≡◌, ℕ, zero, suc, ◌+◌, ◌-◌, ◌*◌, ◌/◌, ◌%◌, true, false, List, [], ◌∷◌, ◌++◌, length, take, replicate}
use Rattle.std.proofs.Common.{refl, sym, ap, ◌∙◌, arith, append_assoc, length-append}
use Rattle.std.proofs.Math.Seq.{take-append_seam}
use Rattle.std.specs.List.{list_any}
use Rattle.std.proofs.lemmas.List.{replicate_more}
use Rattle.rng_more_types.specs.Laws.{hex_zeros, base64_zeros}
use Rattle.rng_types.specs.Numbers.{is_point, unsigned}
use Rattle.rng_types.specs.Giving.{sign_of, zeroed, pointed, three_digits, extended}
use Rattle.rng_types.proofs.Parted.{sign_before}

-- an item once more
pub pushed_more : (start text more : List ℕ) (n c : ℕ) → text ≡ start ++ replicate n c → more ≡ text ++ c ∷ [] → more ≡ start ++ replicate (n + 1) c
pushed_more start text more n c is so =
    so ∙ ap (λ (t : List ℕ). t ++ c ∷ []) is ∙ append_assoc start (replicate n c) (c ∷ []) ∙ ap (λ (t : List ℕ). start ++ t) (replicate_more n c)

-- octets of 0 in hexadecimal digits
pub hex_zeros_are : (n m : ℕ) → m ≡ 2 * n → hex_zeros n ≡ replicate m 48
hex_zeros_are zero zero twice = refl
hex_zeros_are zero (suc m) twice = absurd (omega (arith, twice))
hex_zeros_are (suc n) zero twice = absurd (omega (arith, twice))
hex_zeros_are (suc n) (suc zero) twice = absurd (omega (arith, twice))
hex_zeros_are (suc n) (suc (suc m)) twice = ap (λ (t : List ℕ). 48 ∷ 48 ∷ t) (hex_zeros_are n m (omega (arith, twice)))

pub hex_made : (start one two all : List ℕ) (a b n c d : ℕ) → start ≡ [] → one ≡ start ++ a ∷ [] → two ≡ one ++ b ∷ [] → a ≡ c → b ≡ d → all ≡ two ++ replicate (2 * n) 48 → all ≡ c ∷ d ∷ hex_zeros n
hex_made start one two all a b n c d none first second same other so =
    so ∙ ap (λ (t : List ℕ). t ++ replicate (2 * n) 48) (second ∙ ap (λ (t : List ℕ). t ++ b ∷ []) (first ∙ ap (λ (t : List ℕ). t ++ a ∷ []) none))
    ∙ ap (λ x. x ∷ b ∷ replicate (2 * n) 48) same ∙ ap (λ x. c ∷ x ∷ replicate (2 * n) 48) other ∙ ap (λ (t : List ℕ). c ∷ d ∷ t) (sym (hex_zeros_are n (2 * n) refl))

-- and in base64, three in four digits
threes : (k r n m : ℕ) → n ≡ 3 * k + r → m ≡ 4 * k → base64_zeros n ≡ replicate m 65 ++ base64_zeros r
threes zero r n m is count =
    let same : n ≡ r = omega (arith, is) in
    let none : m ≡ 0 = omega (arith, count) in
    ap base64_zeros same ∙ ap (λ (t : List ℕ). t ++ base64_zeros r) (ap (λ i. replicate i 65) (sym none))
threes (suc k) r n m is count =
    let same : n ≡ suc (suc (suc (3 * k + r))) = omega (arith, is) in
    let four : m ≡ suc (suc (suc (suc (4 * k)))) = omega (arith, count) in
    ap base64_zeros same ∙ ap (λ (t : List ℕ). 65 ∷ 65 ∷ 65 ∷ 65 ∷ t) (threes k r (3 * k + r) (4 * k) refl refl) ∙ ap (λ i. replicate i 65 ++ base64_zeros r) (sym four)

pub zeros_made : (start some all last : List ℕ) (n : ℕ) → some ≡ start ++ replicate (4 * (n / 3)) 65 → last ≡ base64_zeros (n % 3) → all ≡ some ++ last → all ≡ start ++ base64_zeros n
zeros_made start some all last n is rest so =
    so ∙ ap (λ (t : List ℕ). t ++ last) is ∙ ap (λ (t : List ℕ). start ++ replicate (4 * (n / 3)) 65 ++ t) rest ∙ append_assoc start (replicate (4 * (n / 3)) 65) (base64_zeros (n % 3))
    ∙ ap (λ (t : List ℕ). start ++ t) (sym (threes (n / 3) (n % 3) n (4 * (n / 3)) (omega arith) refl))

-- a literal with zeros behind its sign
sign_taken : (text : List ℕ) → take (length text - length (unsigned text)) text ≡ sign_of text
sign_taken text =
    let sign : List ℕ = sign_of text in
    let u : List ℕ = unsigned text in
    let long : length text ≡ length sign + length u = sym (ap length (sign_before text)) ∙ length-append sign u in
    let count : length text - length u ≡ length sign = omega (arith, long) in
    ap (λ n. take n text) count ∙ ap (take (length sign)) (sym (sign_before text)) ∙ take-append_seam sign u

pub zeroed_made : (literal start more all digits : List ℕ) (i : ℕ) → digits ≡ unsigned literal → start ≡ take (length literal - length digits) literal → more ≡ start ++ replicate i 48 → all ≡ more ++ digits → all ≡ zeroed i literal
unfolding zeroed
zeroed_made literal start more all digits i is from next so =
    let sign : start ≡ sign_of literal = from ∙ ap (λ (t : List ℕ). take (length literal - length t) literal) is ∙ sign_taken literal in
    so ∙ ap (λ (t : List ℕ). t ++ digits) (next ∙ ap (λ (t : List ℕ). t ++ replicate i 48) sign) ∙ ap (λ (t : List ℕ). sign_of literal ++ replicate i 48 ++ t) is
    ∙ append_assoc (sign_of literal) (replicate i 48) (unsigned literal)

-- and with digits at its end
pub extended_made : (literal start more all : List ℕ) (k n : ℕ) → start ≡ literal → more ≡ start ++ replicate k 48 → all ≡ more ++ three_digits n → all ≡ extended literal k n
unfolding extended
extended_made literal start more all k n from next so =
    so ∙ ap (λ (t : List ℕ). t ++ three_digits n) (next ∙ ap (λ (t : List ℕ). t ++ replicate k 48) from) ∙ append_assoc literal (replicate k 48) (three_digits n)

pub pointed_made : (literal start all : List ℕ) → list_any is_point literal ≡ false → start ≡ literal → all ≡ start ++ 46 ∷ [] → all ≡ pointed literal
unfolding pointed
pointed_made literal start all none from so = so ∙ ap (λ (t : List ℕ). t ++ 46 ∷ []) from ∙ rw none refl

pub pointed_already : (literal start : List ℕ) → list_any is_point literal ≡ true → start ≡ literal → start ≡ pointed literal
unfolding pointed
pointed_already literal start some from = from ∙ rw some refl
