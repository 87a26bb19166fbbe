-- What a machine does with tokens, told without the machine.
use Rattle.std.specs.Prelude.{◌≡◌, ℕ, ◌+◌, ◌≤◌, Bool, true, List, length}
use Rattle.std.specs.List.{AllByRecursion}
use Rattle.nx_base.specs.Tokens.{first_token, cut_as}
use Rattle.nx_base.specs.declared.fault.Fault.{Fault}
use Rattle.nx_base.specs.declared.token.Token.{Token}
use Rattle.nx_base.specs.declared.token.TokenKind.{TokenKind}

-- a token without its place
pub record Lexeme : Type 0 where
  pub kind : TokenKind
  pub bytes : List ℕ

abbrev pub lexeme_of : Token → Lexeme
lexeme_of token = record { kind = token.kind; bytes = token.bytes }

-- the token of these bytes at a place
abbrev pub token_at : ℕ → Lexeme → Token
token_at at lexeme = record { kind = lexeme.kind; from = at; bytes = lexeme.bytes }

-- the bytes are of the kind, at the start of a text or elsewhere: only a byte order mark asks which
abbrev pub IsLexeme : Lexeme → Type 0
IsLexeme lexeme = (at_start : Bool) × (first_token at_start lexeme.bytes ≡ cut_as lexeme.kind (length lexeme.bytes))

-- what a machine does, over what its states mean. Such a meaning holds no place: `back` is how many bytes
-- before the next token its pending run began, and the faults of a token or of the end have the places that
-- they have where that run began at 0
pub record Rules (M : Type 0) : Type 0 where
  pub first : M
  pub after : M → Lexeme → M
  pub gives : M → Lexeme → List Fault
  pub ends : M → List Fault
  pub back : M → ℕ
  pub depth : M → ℕ
  pub may_mark : M → Bool

-- the span lies in the first n bytes
pub record IsWithin (n : ℕ) (fault : Fault) : Type 0 where
  pub ordered : fault.span.from ≤ fault.span.to
  pub inside : fault.span.to ≤ n

-- where a run is pending, and where faults lie
pub record RulesLaws {M : Type 0} (rules : Rules M) : Type 0 where
  pub first_back : rules.back rules.first ≡ 0
  pub mark_back : (m : M) → rules.may_mark m ≡ true → rules.back m ≡ 0
  pub after_back : (m : M) (lexeme : Lexeme) →
      rules.back (rules.after m lexeme) ≤ rules.back m + length lexeme.bytes
  pub gives_within : (m : M) (lexeme : Lexeme) →
      AllByRecursion (IsWithin (rules.back m + length lexeme.bytes)) (rules.gives m lexeme)
  pub ends_within : (m : M) → AllByRecursion (IsWithin (rules.back m)) (rules.ends m)

-- one object is later than another: what stays of the states that belong to it. `rules` is whatever the object
-- has beside its states
pub record LaterLaws {S T M R : Type 0} (later : S → S → Type 0) (is_state : S → T → Type 0)
    (means : S → T → M) (rules : S → R) : Type 0 where
  pub same : (s : S) → later s s
  pub chain : (s t u : S) → later s t → later t u → later s u
  pub state : (s t : S) (x : T) → later s t → is_state s x → is_state t x
  pub meaning : (s t : S) (x : T) → later s t → is_state s x → means t x ≡ means s x
  pub rule : (s t : S) → later s t → rules t ≡ rules s
