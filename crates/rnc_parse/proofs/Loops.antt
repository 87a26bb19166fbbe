-- Loops over tokens, as they are read.
use Rattle.std.proofs.Common.{◌≡◌, ℕ, zero, suc, ◌<◌, Bool, true, false, cond, List, length, refl, ap, ◌∙◌, arith}
use Rattle.rnc_lex.specs.declared.token.Lexeme.{Lexeme}
use Rattle.rnc_parse.specs.Reading.{Reading, read, no_reading, no_prefix, ◌>>=◌, loop_within, loop_at}

-- each step takes a token
pub record Shortens {A : Type 0} (goes_on : List Lexeme → Bool) (step : List Lexeme → Reading A) : Type 0 where
  pub shorter : (tokens : List Lexeme) → goes_on tokens ≡ true → (value : A) (rest : List Lexeme) → step tokens ≡ read value rest →
      length rest < length tokens

-- what follows a reading need only agree where it finds something
bind_same : {A B : Type 0} (found : Reading A) (f g : A → List Lexeme → Reading B) →
    ((value : A) (rest : List Lexeme) → found ≡ read value rest → f value rest ≡ g value rest) → (found >>= f) ≡ (found >>= g)
bind_same (read value rest) f g h = h value rest refl
bind_same no_reading f g h = refl
bind_same (no_prefix used) f g h = refl

cond_same : {A : Type 0} (b : Bool) (x y z : A) → (b ≡ true → x ≡ y) → cond b x z ≡ cond b y z
cond_same true x y z h = h refl
cond_same false x y z h = refl

module _ {A B : Type 0} (goes_on : List Lexeme → Bool) (step : List Lexeme → Reading A) (add : B → A → B) where
  -- any number that is large enough gives the same
  within_same : Shortens goes_on step → (m n : ℕ) (before : B) (tokens : List Lexeme) → length tokens < m → length tokens < n →
      loop_within goes_on step add m before tokens ≡ loop_within goes_on step add n before tokens
  unfolding loop_within
  within_same shortens zero n before tokens h k = absurd (omega arith)
  within_same shortens (suc m) zero before tokens h k = absurd (omega arith)
  within_same shortens (suc m) (suc n) before tokens h k =
      cond_same (goes_on tokens) _ _ (read before tokens) (λ goes.
      bind_same (step tokens) (λ value rest. loop_within goes_on step add m (add before value) rest) (λ value rest. loop_within goes_on step add n (add before value) rest)
      (λ value rest e. let less = shortens.shorter tokens goes value rest e in within_same shortens m n (add before value) rest (omega arith) (omega arith)))

  -- a loop that goes on
  pub loop_on : Shortens goes_on step → (before : B) (tokens : List Lexeme) → goes_on tokens ≡ true →
      loop_at goes_on step add before tokens ≡ (step tokens >>= λ value rest. loop_at goes_on step add (add before value) rest)
  unfolding loop_at loop_within
  loop_on shortens before tokens goes =
      rw goes (bind_same (step tokens) (λ value rest. loop_within goes_on step add (length tokens) (add before value) rest) (λ value rest. loop_within goes_on step add (suc (length rest)) (add before value) rest)
      (λ value rest e. let less = shortens.shorter tokens goes value rest e in within_same shortens (length tokens) (suc (length rest)) (add before value) rest (omega arith) (omega arith)))

  -- a loop that ends
  pub loop_ends : (before : B) (tokens : List Lexeme) → goes_on tokens ≡ false → loop_at goes_on step add before tokens ≡ read before tokens
  unfolding loop_at loop_within
  loop_ends before tokens stops = rw stops refl

  -- a loop that goes on by a step that finds something
  pub loop_more : Shortens goes_on step → (before : B) (tokens rest : List Lexeme) (value : A) → goes_on tokens ≡ true →
      step tokens ≡ read value rest → loop_at goes_on step add before tokens ≡ loop_at goes_on step add (add before value) rest
  loop_more shortens before tokens rest value goes e =
      loop_on shortens before tokens goes ∙ ap (λ (x : Reading A). x >>= λ v r. loop_at goes_on step add (add before v) r) e
