-- Texts with each white space as a space, by index.
use Rattle.std.specs.Prelude.{◌≡◌, ℕ, zero, suc, ◌<◌, List, [], ◌∷◌, length, get_or}
use Rattle.std.proofs.Common.{refl, sym, ap, ◌∙◌, arith}
use Rattle.std.proofs.lemmas.List.{length-map}
use Rattle.rng_types.specs.Spaces.{replaced_char, replaced}

pub replaced_by_index : (a b : List ℕ) → length a ≡ length b → ((k : ℕ) → k < length a → replaced_char (get_or a k 0) ≡ replaced_char (get_or b k 0)) → replaced a ≡ replaced b
replaced_by_index [] [] long same = refl
replaced_by_index [] (y ∷ ys) long same = absurd (omega arith)
replaced_by_index (x ∷ xs) [] long same = absurd (omega arith)
replaced_by_index (x ∷ xs) (y ∷ ys) long same =
    let first : replaced_char x ≡ replaced_char y = same 0 (omega arith) in
    rw (first, replaced_by_index xs ys (omega arith) (λ k h. same (suc k) (omega (arith, h)))) refl

get_or-replaced : (xs : List ℕ) (k : ℕ) → k < length xs → get_or (replaced xs) k 0 ≡ replaced_char (get_or xs k 0)
get_or-replaced [] k h = absurd (omega arith)
get_or-replaced (x ∷ xs) zero h = refl
get_or-replaced (x ∷ xs) (suc k) h = get_or-replaced xs k (omega arith)

pub replaced_index : (a b : List ℕ) (k : ℕ) → replaced a ≡ replaced b → k < length a → k < length b → replaced_char (get_or a k 0) ≡ replaced_char (get_or b k 0)
replaced_index a b k same in_a in_b = sym (get_or-replaced a k in_a) ∙ ap (λ (t : List ℕ). get_or t k 0) same ∙ get_or-replaced b k in_b

pub length-replaced_same : (a b : List ℕ) → replaced a ≡ replaced b → length a ≡ length b
length-replaced_same a b same = sym (length-map a replaced_char) ∙ ap length same ∙ length-map b replaced_char
