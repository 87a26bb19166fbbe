-- A byte below 128 is a character of its own.
use Rattle.std.proofs.Common.{◌≡◌, ◌∙◌, sym, ap, subst, ℕ, zero, suc, ◌<◌, List, [], ◌∷◌, ◌++◌, drop, get_or, Some, slice_get}
use Rattle.std.proofs.lemmas.Option.{slice_get_within}
use Rattle.std.proofs.lemmas.Str.{IsCharBoundary-before_ascii, encode_ascii}
use Rattle.nx_text.specs.Reading.{StandsAt}

byte_there : (text : List ℕ) (at b : ℕ) → slice_get text at ≡ Some b → get_or text at 0 ≡ b
byte_there [] at b is = let never : ⊥ = cc in absurd never
byte_there (x ∷ xs) zero b is = cc
byte_there (x ∷ xs) (suc n) b is = byte_there xs n b is

behind_byte : (text : List ℕ) (at b : ℕ) → slice_get text at ≡ Some b → drop at text ≡ b ∷ drop (suc at) text
behind_byte [] at b is = let never : ⊥ = cc in absurd never
behind_byte (x ∷ xs) zero b is = cc
behind_byte (x ∷ xs) (suc n) b is = behind_byte xs n b is

pub one_byte_stands : (text : List ℕ) (at b : ℕ) → slice_get text at ≡ Some b → b < 128 → StandsAt text at b
one_byte_stands text at b is low =
    let there : get_or text at 0 < 128 = subst (λ n. n < 128) (sym (byte_there text at b is)) low in
    record {
      place = IsCharBoundary-before_ascii text at (slice_get_within text at b is) there;
      rest = drop (suc at) text;
      spelled = behind_byte text at b is ∙ ap (λ front. front ++ drop (suc at) text) (sym (encode_ascii b low));
    }
