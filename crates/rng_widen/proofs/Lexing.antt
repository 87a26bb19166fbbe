-- What a text in the compact syntax is read into is the answer that it has.
use Rattle.std.proofs.Common.{◌≡◌, ℕ, List, length, Result, Ok, Err, refl}
use Rattle.std.specs.Str.{chars}
use Rattle.rnc_lex.specs.declared.fault.LexFault.{LexFault}
use Rattle.rnc_lex.specs.declared.fault.LexFault.TheVariants.{BadEscape, BadLiteral, BadCharacter, NoMemory}
use Rattle.rnc_lex.specs.declared.token.RncToken.{RncToken}
use Rattle.rnc_lex.specs.Laws.{Tells}
use Rattle.rnc_lex.specs.Letters.{without_mark}
use Rattle.rnc_lex.specs.Reading.{letters_from, letters_of, tokens_from, tokens_of, after_letters, lexed}
use Rattle.rnc_lex.specs.Tokens.{Lexes}
use Rattle.rnc_lex.proofs.Lexed.{lexes_found}
use Rattle.rnc_lex.proofs.LettersRead.{Judged, letters_are_judged}
use Rattle.rnc_lex.proofs.TokensRead.{TokensJudged, tokens_are_judged}

tokens_tell : (letters : List _) (answer : Result (List RncToken) LexFault) → TokensJudged letters answer → Tells answer
tokens_tell letters (Ok tokens) h = λ e. absurd cc
tokens_tell letters (Err (BadEscape at)) h = λ e. absurd cc
tokens_tell letters (Err (BadLiteral at)) h = λ e. absurd cc
tokens_tell letters (Err (BadCharacter at)) h = λ e. absurd cc
tokens_tell letters (Err NoMemory) h = absurd h

letters_tell : (text : List ℕ) (found : Result (List _) LexFault) → Judged (length text) (without_mark (chars text)) found →
    Tells (after_letters found)
unfolding tokens_of
letters_tell text (Ok letters) h = tokens_tell letters (tokens_from 0 letters) (tokens_are_judged letters)
letters_tell text (Err (BadEscape at)) h = λ e. absurd cc
letters_tell text (Err (BadLiteral at)) h = λ e. absurd cc
letters_tell text (Err (BadCharacter at)) h = λ e. absurd cc
letters_tell text (Err NoMemory) h = absurd h

pub lexed_tells : (text : List ℕ) → Tells (lexed text)
unfolding lexed letters_of
lexed_tells text =
    letters_tell text (letters_from (length text) 0 (without_mark (chars text))) (letters_are_judged (length text) (without_mark (chars text)))

pub lexed_lexes : (text : List ℕ) → Lexes text (lexed text)
lexed_lexes text = by_answer (lexed text) refl
  where
    by_answer : (answer : Result (List RncToken) LexFault) → lexed text ≡ answer → Lexes text answer
    by_answer (Ok tokens) e = lexes_found text (Ok tokens) e
    by_answer (Err (BadEscape at)) e = lexes_found text (Err (BadEscape at)) e
    by_answer (Err (BadLiteral at)) e = lexes_found text (Err (BadLiteral at)) e
    by_answer (Err (BadCharacter at)) e = lexes_found text (Err (BadCharacter at)) e
    by_answer (Err NoMemory) e = lexes_found text (Err NoMemory) tt
