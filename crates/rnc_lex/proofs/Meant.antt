-- What an answer about the front of letters says.
use Rattle.std.proofs.Common.{◌≡◌, ℕ, ◌≤◌, false, true, List, ◌∷◌, ◌++◌, length, take, drop, Option, Some, None, Result, Ok, Err, sym, subst}
use Rattle.rnc_lex.specs.declared.front.Front.{Front}
use Rattle.rnc_lex.specs.declared.letter.Letter.{Letter}
use Rattle.rnc_lex.specs.declared.fault.LexFault.{LexFault}
use Rattle.rnc_lex.specs.declared.fault.LexFault.TheVariants.{BadEscape, BadLiteral, BadCharacter, NoMemory}
use Rattle.rnc_lex.specs.declared.token.Lexeme.{Lexeme}
use Rattle.nx_base.specs.Characters.{is_quote}
use Rattle.rnc_lex.specs.Tokens.{Stands, IsPassedOver}
use Rattle.rnc_lex.specs.Reading.{front}
use Rattle.rnc_lex.proofs.Prefixes.{take_front}

-- the letters are a token, or are passed over
abbrev pub Is : List Letter → List Letter → Option Lexeme → Type 0
Is letters rest None = IsPassedOver letters rest
Is letters rest (Some found) = Stands letters rest found

abbrev pub Meant : Letter → List Letter → Result Front LexFault → Type 0
Meant first behind (Ok found) = (found.more ≤ length behind) × Is (first ∷ take found.more behind) (drop found.more behind) found.lexeme
Meant first behind (Err (BadLiteral at)) = (at ≡ first.at) × (is_quote first.character ≡ true)
Meant first behind (Err (BadCharacter at)) = (at ≡ first.at) × (is_quote first.character ≡ false)
Meant first behind (Err (BadEscape at)) = ⊥
Meant first behind (Err NoMemory) = ⊥

pub is_meant : (first : Letter) (behind more rest : List Letter) (n : ℕ) (found : Option Lexeme) → behind ≡ more ++ rest → length more ≡ n → Is (first ∷ more) rest found → Meant first behind (Ok (front found n))
is_meant first behind more rest n found e len is =
    let cut = take_front behind more rest n e len in
    (cut.2, subst (λ (t : List Letter). Is (first ∷ t) (drop n behind) found) (sym cut.0) (subst (λ (t : List Letter). Is (first ∷ more) t found) (sym cut.1) is))

-- a token or what is passed over is read
pub record IsFront (reads : Letter → List Letter → Result Front LexFault) (letters rest : List Letter) (found : Option Lexeme) : Type 0 where
  pub first : Letter
  pub more : List Letter
  pub letters_are : letters ≡ first ∷ more
  pub reads_so : reads first (more ++ rest) ≡ Ok (front found (length more))
