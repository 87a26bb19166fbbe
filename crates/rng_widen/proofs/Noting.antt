-- One note more.
use Rattle.std.proofs.Common.{◌≡◌, ℕ, true, false, true≢false, arith, List, [], ◌∷◌, ◌++◌, length, sym, ap, ◌∙◌}
use Rattle.std.specs.Prelude.{◌==◌}
use Rattle.std.proofs.lemmas.Bool.Decides.{nat_tests}
use Rattle.std.proofs.lemmas.List.{append-nil}
use Rattle.rng_widen.specs.declared.noted.Noted.{Noted}
use Rattle.rng_widen.specs.declared.widening.Widening.{Widening}
use Rattle.rng_widen.specs.Notes.{noted_of, noted_if}

-- nothing is noted
pub none_more : (uri bytes : List ℕ) (found slice : List Widening) (all : List Noted) → slice ≡ found → true ≡ (length slice == 0) →
    all ≡ all ++ noted_if uri bytes found
none_more uri bytes [] slice all is none = sym (append-nil all)
none_more uri bytes (one ∷ found) slice all is none =
    let zero : length slice ≡ 0 = grind (arith, nat_tests, sym none) in
    let long : length (one ∷ found) ≡ 0 = ap length (sym is) ∙ zero in
    absurd (omega (arith, long))

-- something is
pub one_noted : (uri bytes : List ℕ) (found slice : List Widening) (one : Noted) (old new : List Noted) → slice ≡ found →
    false ≡ (length slice == 0) → one ≡ noted_of uri bytes found → new ≡ old ++ one ∷ [] → new ≡ old ++ noted_if uri bytes found
one_noted uri bytes [] slice one old new is some made pushed =
    absurd (true≢false (sym (some ∙ ap (λ (l : List Widening). length l == 0) is)))
one_noted uri bytes (first ∷ found) slice one old new is some made pushed = pushed ∙ ap (λ (n : Noted). old ++ n ∷ []) made
