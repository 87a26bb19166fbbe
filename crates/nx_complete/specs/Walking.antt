-- A machine's state behind the tokens in front of a border, and the token in front of a place.
use Rattle.std.specs.Prelude.{◌≡◌, ℕ, ◌<◌, ◌≤◌, List}
use Rattle.nx_base.specs.Rules.{Lexeme, Rules}
use Rattle.nx_base.specs.Running.{CutsTo, after_all}
use Rattle.nx_base.specs.Text.{IsPlace}
use Rattle.nx_base.specs.Tokens.{cut, end_of}
use Rattle.nx_base.specs.declared.token.Token.{Token}

-- the place is a border of the text's tokens, and the state is one behind those in front of it
pub record IsBehind {S M : Type 0} (is_state : S → Type 0) (means : S → M) (rules : Rules M) (text : List ℕ) (at : ℕ) (state : S) : Type 0 where
  pub place : IsPlace text at
  pub tokens : List Lexeme
  pub cuts : CutsTo text 0 tokens at
  pub is_one : is_state state
  pub meaning : means state ≡ after_all rules rules.first tokens

-- the token holds the byte in front of the place, and the state is one behind the tokens in front of that token
pub record IsBefore {S M : Type 0} (is_state : S → Type 0) (means : S → M) (rules : Rules M) (text : List ℕ) (at : ℕ) (state : S) (token : Token) : Type 0 where
  pub border : ℕ
  pub behind : IsBehind is_state means rules text border state
  pub is : token ≡ cut text border
  pub from : token.from ≡ border
  pub begun : token.from < at
  pub inside : at ≤ end_of token
