-- What is read of a text is what the text is, and nothing else is so of it.
use Rattle.std.proofs.Common.{◌≡◌, ℕ, List, length, Result, Ok, Err, refl, sym, ap, subst, ◌∙◌, inl, inr}
use Rattle.std.specs.Str.{chars}
use Rattle.rnc_lex.specs.declared.letter.Letter.{Letter}
use Rattle.rnc_lex.specs.declared.fault.LexFault.{LexFault}
use Rattle.rnc_lex.specs.declared.fault.LexFault.TheVariants.{BadEscape, BadLiteral, BadCharacter, NoMemory}
use Rattle.rnc_lex.specs.declared.token.RncToken.{RncToken}
use Rattle.rnc_lex.specs.Letters.{without_mark, IsLettersOf}
use Rattle.rnc_lex.specs.Tokens.{Lexes}
use Rattle.rnc_lex.specs.Laws.{Tells, TextsHaveOneAnswer, TextsHaveAnAnswer}
use Rattle.rnc_lex.specs.Reading.{Finds, letters_from, letters_of, tokens_from, tokens_of, after_letters, lexed}
use Rattle.rnc_lex.proofs.LettersRead.{Judged, letters_are_judged, letters_exact}
use Rattle.rnc_lex.proofs.TokensRead.{TokensJudged, tokens_are_judged, tokens_exact}

-- ---- what is read is so

lexes_tokens : (text : List ℕ) (letters : List Letter) (answer : Result (List RncToken) LexFault) → IsLettersOf text letters → TokensJudged letters answer → Lexes text answer × Tells answer
lexes_tokens text letters (Ok tokens) all h = ((letters, all, h), λ e. absurd cc)
lexes_tokens text letters (Err (BadLiteral at)) all (rest, tokens, behind, begins, none, is) = ((rest, (letters, tokens, all, behind), begins, none, is), λ e. absurd cc)
lexes_tokens text letters (Err (BadCharacter at)) all (rest, tokens, behind, begins, none, is) = (inr (rest, (letters, tokens, all, behind), begins, none, is), λ e. absurd cc)
lexes_tokens text letters (Err (BadEscape at)) all h = absurd h
lexes_tokens text letters (Err NoMemory) all h = absurd h

lexes_letters : (text : List ℕ) (found : Result (List Letter) LexFault) → Judged (length text) (without_mark (chars text)) found → Lexes text (after_letters found) × Tells (after_letters found)
unfolding tokens_of
lexes_letters text (Ok letters) h = lexes_tokens text letters (tokens_from 0 letters) h (tokens_are_judged letters)
lexes_letters text (Err (BadEscape at)) h = (h, λ e. absurd cc)
lexes_letters text (Err (BadCharacter at)) h = (inl h, λ e. absurd cc)
lexes_letters text (Err (BadLiteral at)) h = absurd h
lexes_letters text (Err NoMemory) h = absurd h

lexes_lexed : (text : List ℕ) → Lexes text (lexed text) × Tells (lexed text)
unfolding lexed letters_of
lexes_lexed text = lexes_letters text (letters_from (length text) 0 (without_mark (chars text))) (letters_are_judged (length text) (without_mark (chars text)))

-- an answer that is what is read
pub lexes_found : (text : List ℕ) (answer : Result (List RncToken) LexFault) → Finds {A = List RncToken} {B = List RncToken} (λ tokens. tokens) answer (lexed text) → Lexes text answer
lexes_found text (Ok tokens) e = subst (Lexes text) e (lexes_lexed text).0
lexes_found text (Err (BadEscape at)) e = subst (Lexes text) e (lexes_lexed text).0
lexes_found text (Err (BadLiteral at)) e = subst (Lexes text) e (lexes_lexed text).0
lexes_found text (Err (BadCharacter at)) e = subst (Lexes text) e (lexes_lexed text).0
lexes_found text (Err NoMemory) e = tt

pub texts_have_an_answer : TextsHaveAnAnswer
texts_have_an_answer text = (lexed text, (lexes_lexed text).1, (lexes_lexed text).0)

-- ---- what is so is read

lexed_so : (text : List ℕ) (found : Result (List Letter) LexFault) → Judged (length text) (without_mark (chars text)) found → lexed text ≡ after_letters found
unfolding lexed letters_of
lexed_so text found h = ap after_letters (letters_exact (length text) (without_mark (chars text)) found h)

letters_then : (text : List ℕ) (letters : List Letter) (answer : Result (List RncToken) LexFault) → IsLettersOf text letters → TokensJudged letters answer → lexed text ≡ answer
unfolding tokens_of
letters_then text letters answer all h = lexed_so text (Ok letters) all ∙ tokens_exact letters answer h

lexed_exact : (text : List ℕ) (answer : Result (List RncToken) LexFault) → Tells answer → Lexes text answer → lexed text ≡ answer
lexed_exact text (Ok tokens) tells (letters, all, h) = letters_then text letters (Ok tokens) all h
lexed_exact text (Err (BadEscape at)) tells h = lexed_so text (Err (BadEscape at)) h
lexed_exact text (Err (BadLiteral at)) tells (rest, (letters, tokens, all, behind), begins, none, is) = letters_then text letters (Err (BadLiteral at)) all (rest, tokens, behind, begins, none, is)
lexed_exact text (Err (BadCharacter at)) tells (inl h) = lexed_so text (Err (BadCharacter at)) h
lexed_exact text (Err (BadCharacter at)) tells (inr (rest, (letters, tokens, all, behind), begins, none, is)) = letters_then text letters (Err (BadCharacter at)) all (rest, tokens, behind, begins, none, is)
lexed_exact text (Err NoMemory) tells h = absurd (tells refl)

pub texts_have_one_answer : TextsHaveOneAnswer
texts_have_one_answer text one other tells tells_too h k = sym (lexed_exact text one tells h) ∙ lexed_exact text other tells_too k
