-- What is kept of one string of a kind answers for another.
use Rattle.std.specs.Prelude.{◌≡◌, ℕ, List, false, IfSome, Option, None, Some}
use Rattle.std.proofs.Common.{refl, sym, subst}
use Rattle.nx_base.specs.declared.name.Name.{Name}
use Rattle.nx_base.specs.Characters.{is_blank, is_space}
use Rattle.rng_kept.specs.Content.{chars}
use Rattle.rng_kept.specs.Residuals.{Residual}
use Rattle.rng_kept.specs.Tags.{attribute_of}
use Rattle.deriv_states.specs.Telling.{tells_texts, tells_values_of}
use Rattle.deriv_states.proofs.Untold.{same_chars, same_value}
use Rattle.deriv_pool.specs.Remembering.{a_solid}

pub solid : is_blank a_solid ≡ false
unfolding is_space
solid = refl

-- another string of the same kind
pub of_text : (t u : List ℕ) (x : Residual) (P : Residual → Type 0) → is_blank t ≡ is_blank u → tells_texts x ≡ false → P (chars u x) → P (chars t x)
of_text t u x P blank none given = subst P (sym (same_chars t u x blank none)) given

pub of_value : (n : Name) (v w : List ℕ) (x : Residual) (P : Residual → Type 0) → is_blank v ≡ is_blank w → tells_values_of n x ≡ false
    → P (attribute_of n w x) → P (attribute_of n v x)
of_value n v w x P blank none given = subst P (sym (same_value n v w x blank none)) given

-- and where there is an answer
pub some_text : {A : Type 0} (found : Option A) (Q : Residual → A → Type 0) (t u : List ℕ) (x : Residual) → is_blank t ≡ is_blank u
    → IfSome found (λ a. tells_texts x ≡ false) → IfSome found (Q (chars u x)) → IfSome found (Q (chars t x))
some_text None Q t u x blank none given = tt
some_text (Some a) Q t u x blank none given = of_text t u x (λ y. Q y a) blank none given

pub some_value : {A : Type 0} (found : Option A) (Q : Residual → A → Type 0) (n m : Name) (v w : List ℕ) (x : Residual) → m ≡ n
    → is_blank v ≡ is_blank w → IfSome found (λ a. tells_values_of m x ≡ false) → IfSome found (Q (attribute_of m w x))
    → IfSome found (Q (attribute_of n v x))
some_value None Q n m v w x same blank none given = tt
some_value (Some a) Q n m v w x same blank none given =
    let P : Name → Type 0 = λ k. Q (attribute_of k v x) a in
    subst P same (of_value m v w x (λ y. Q y a) blank none given)
