-- What reading finds is in the grammar, and a prefix that it stops at stands for nothing.
use Rattle.std.proofs.Common.{◌≡◌, ℕ, zero, suc, Bool, true, false, cond, eqb, List, [], ◌∷◌, length, refl, sym, ap, ◌∙◌}
use Rattle.std.proofs.lemmas.Bool.{eqb-true, false≢true}
use Rattle.rnc_lex.specs.declared.token.Lexeme.{Lexeme}
use Rattle.rnc_lex.specs.declared.token.Lexeme.TheVariants.{Symbol as mark}
use Rattle.rnc_lex.specs.declared.token.Symbol.{Symbol}
use Rattle.rnc_lex.specs.declared.token.Symbol.TheVariants.{LeftBrace, RightBrace, LeftParenthesis, RightParenthesis, LeftBracket, RightBracket, Equals, BarEquals, AmpersandEquals, Comma, Bar, Ampersand, QuestionMark, Star, Plus, Minus, Tilde, Follows}
use Rattle.rnc_parse.specs.Written.{joined}
use Rattle.rnc_parse.specs.Scopes.{Scope, Use, IsUndeclared}
use Rattle.rnc_parse.specs.Reading.{Reading, read, no_reading, no_prefix, ◌>>=◌, first, behind, symbol_number, same_symbol, stands, behind_symbol, loop_within, loop_at}

-- a value and what is behind it are in a relation, or a prefix stands for nothing
pub data Sounds (scope : Scope) {A : Type 0} (P : A → List Lexeme → Type 0) : Reading A → Type 0 where
  finds : {value : A} {rest : List Lexeme} → P value rest → Sounds scope P (read value rest)
  ends : Sounds scope P no_reading
  stops : {used : Use} → IsUndeclared scope used → Sounds scope P (no_prefix used)

pub sound_bind : {scope : Scope} {A B : Type 0} {P : A → List Lexeme → Type 0}
    {Q : B → List Lexeme → Type 0} (found : Reading A) (more : A → List Lexeme → Reading B) →
    Sounds scope P found → ((value : A) (rest : List Lexeme) → P value rest → Sounds scope Q (more value rest)) →
    Sounds scope Q (found >>= more)
sound_bind (read value rest) more (finds p) h = h value rest p
sound_bind no_reading more ends h = ends
sound_bind (no_prefix used) more (stops u) h = stops u

pub sound_weaker : {scope : Scope} {A : Type 0} {P Q : A → List Lexeme → Type 0} (found : Reading A) →
    Sounds scope P found → ((value : A) (rest : List Lexeme) → P value rest → Q value rest) → Sounds scope Q found
sound_weaker (read value rest) (finds p) h = finds (h value rest p)
sound_weaker no_reading ends h = ends
sound_weaker (no_prefix used) (stops u) h = stops u

pub sound_cond : {scope : Scope} {A : Type 0} {P : A → List Lexeme → Type 0} (b : Bool) (x y : Reading A) →
    (b ≡ true → Sounds scope P x) → (b ≡ false → Sounds scope P y) → Sounds scope P (cond b x y)
sound_cond true x y h k = h refl
sound_cond false x y h k = k refl

-- ---- symbols

symbol_of : ℕ → Symbol
symbol_of n = cond (eqb n 0) LeftBrace (cond (eqb n 1) RightBrace (cond (eqb n 2) LeftParenthesis (cond (eqb n 3) RightParenthesis (cond (eqb n 4) LeftBracket (cond (eqb n 5) RightBracket (cond (eqb n 6) Equals (cond (eqb n 7) BarEquals (cond (eqb n 8) AmpersandEquals (cond (eqb n 9) Comma (cond (eqb n 10) Bar (cond (eqb n 11) Ampersand (cond (eqb n 12) QuestionMark (cond (eqb n 13) Star (cond (eqb n 14) Plus (cond (eqb n 15) Minus (cond (eqb n 16) Tilde (Follows)))))))))))))))))

of_number : (s : Symbol) → symbol_of (symbol_number s) ≡ s
unfolding symbol_of
of_number LeftBrace = refl
of_number RightBrace = refl
of_number LeftParenthesis = refl
of_number RightParenthesis = refl
of_number LeftBracket = refl
of_number RightBracket = refl
of_number Equals = refl
of_number BarEquals = refl
of_number AmpersandEquals = refl
of_number Comma = refl
of_number Bar = refl
of_number Ampersand = refl
of_number QuestionMark = refl
of_number Star = refl
of_number Plus = refl
of_number Minus = refl
of_number Tilde = refl
of_number Follows = refl

pub same_symbol_is : (a b : Symbol) → same_symbol a b ≡ true → a ≡ b
same_symbol_is a b e = sym (of_number a) ∙ ap symbol_of (eqb-true (symbol_number a) (symbol_number b) e) ∙ of_number b

pub stands_is : (s : Symbol) (tokens : List Lexeme) → stands s tokens ≡ true → tokens ≡ mark s ∷ behind tokens
unfolding first behind
stands_is s [] e = absurd (false≢true e)
stands_is s (mark other ∷ tokens) e = ap (λ (x : Symbol). mark x ∷ tokens) (sym (same_symbol_is s other e))
stands_is s _ e = absurd (false≢true e)

pub sound_symbol : {scope : Scope} (s : Symbol) (tokens : List Lexeme) →
    Sounds scope (λ _ rest. tokens ≡ mark s ∷ rest) (behind_symbol s tokens)
unfolding behind_symbol
sound_symbol s tokens = sound_cond (stands s tokens) _ _ (λ e. finds (stands_is s tokens e)) (λ e. ends)

-- ---- loops

-- steps one after another
pub data Many {A : Type 0} (P : List Lexeme → A → List Lexeme → Type 0) : List Lexeme → List A → List Lexeme → Type 0 where
  no_step : {rest : List Lexeme} → Many P rest [] rest
  one_step : {value : A} {values : List A} {tokens behind rest : List Lexeme} →
      P tokens value behind → Many P behind values rest → Many P tokens (value ∷ values) rest

abbrev pub added : {A B : Type 0} → (B → A → B) → B → List A → B
added add before [] = before
added add before (value ∷ values) = added add (add before value) values

pub added_joined : {A : Type 0} (join : A → A → A) (one : A) (others : List A) → added join one others ≡ joined join one others
added_joined join one [] = refl
added_joined join one (next ∷ others) = added_joined join (join one next) others

-- a loop stands behind some steps, and doesn't go on
pub record Looped {A B : Type 0} (goes_on : List Lexeme → Bool) (add : B → A → B) (P : List Lexeme → A → List Lexeme → Type 0) (before : B) (tokens : List Lexeme) (all : B) (rest : List Lexeme) : Type 0 where
  pub values : List A
  pub steps : Many P tokens values rest
  pub all_is : all ≡ added add before values
  pub stopped : goes_on rest ≡ false

module _ {scope : Scope} {A B : Type 0} (goes_on : List Lexeme → Bool) (step : List Lexeme → Reading A) (add : B → A → B) (P : List Lexeme → A → List Lexeme → Type 0) where
  sound_within : ((tokens : List Lexeme) → goes_on tokens ≡ true → Sounds scope (P tokens) (step tokens)) →
      (most : ℕ) (before : B) (tokens : List Lexeme) →
      Sounds scope (Looped goes_on add P before tokens) (loop_within goes_on step add most before tokens)
  unfolding loop_within
  sound_within sound zero before tokens = ends
  sound_within sound (suc most) before tokens =
      sound_cond (goes_on tokens) _ _
      (λ goes. sound_bind (step tokens) _ (sound tokens goes) (λ value rest p. looped_more value rest p (sound_within sound most (add before value) rest)))
      (λ stops. finds (record { values = []; steps = no_step; all_is = refl; stopped = stops }))
    where
      looped_more : (value : A) (rest : List Lexeme) → P tokens value rest → {found : Reading B} →
          Sounds scope (Looped goes_on add P (add before value) rest) found → Sounds scope (Looped goes_on add P before tokens) found
      looped_more value rest p (finds l) =
          finds (record { values = value ∷ l.values; steps = one_step p l.steps; all_is = l.all_is; stopped = l.stopped })
      looped_more value rest p ends = ends
      looped_more value rest p (stops u) = stops u

  pub sound_loop : ((tokens : List Lexeme) → goes_on tokens ≡ true → Sounds scope (P tokens) (step tokens)) →
      (before : B) (tokens : List Lexeme) → Sounds scope (Looped goes_on add P before tokens) (loop_at goes_on step add before tokens)
  unfolding loop_at
  sound_loop sound before tokens = sound_within sound (suc (length tokens)) before tokens
