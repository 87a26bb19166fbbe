-- One more step of the loop over tokens.
use Rattle.std.proofs.Common.{◌≡◌, ℕ, zero, suc, ◌≤◌, List, [], ◌∷◌, ◌++◌, length, drop, Result, Ok, Err, refl, sym, ap, ◌∙◌, arith}
use Rattle.std.proofs.lemmas.List.{append_assoc, append-nil}
use Rattle.rnc_lex.specs.declared.front.Front.{Front}
use Rattle.rnc_lex.specs.declared.letter.Letter.{Letter}
use Rattle.rnc_lex.specs.declared.fault.LexFault.{LexFault}
use Rattle.rnc_lex.specs.declared.fault.LexFault.TheVariants.{BadEscape, BadLiteral, BadCharacter, NoMemory}
use Rattle.rnc_lex.specs.declared.token.RncToken.{RncToken}
use Rattle.rnc_lex.specs.Reading.{Finds, then_found, front_of, listed, after_front, tokens_from}
use Rattle.rnc_lex.proofs.LettersRead.{then_found_twice}

pub tokens_skip : (front letters : List Letter) → tokens_from (length front) (front ++ letters) ≡ tokens_from 0 letters
unfolding tokens_from
tokens_skip [] letters = refl
tokens_skip (letter ∷ front) letters = tokens_skip front letters

pub tokens_drop : (n : ℕ) (letters : List Letter) → n ≤ length letters → tokens_from n letters ≡ tokens_from 0 (drop n letters)
unfolding tokens_from
tokens_drop zero letters h = refl
tokens_drop (suc n) [] h = absurd (omega arith)
tokens_drop (suc n) (letter ∷ letters) h = tokens_drop n letters (omega arith)

pub tokens_cons : (letter : Letter) (letters : List Letter) → tokens_from 0 (letter ∷ letters) ≡ after_front letter.at (front_of letter letters) (λ more. tokens_from more letters)
unfolding tokens_from
tokens_cons letter letters = refl

pub tokens_more : (first : Letter) (behind rest next : List Letter) (front : Front) (found longer : List RncToken) (total : Result (List RncToken) LexFault)
    → rest ≡ first ∷ behind → front_of first behind ≡ Ok front → front.more ≤ length behind → next ≡ drop front.more behind → longer ≡ found ++ listed first.at front.lexeme
    → total ≡ then_found (λ x. found ++ x) (tokens_from 0 rest) → total ≡ then_found (λ x. longer ++ x) (tokens_from 0 next)
tokens_more first behind rest next front found longer total e read long is grown all =
    all
    ∙ ap (λ (t : List Letter). then_found (λ x. found ++ x) (tokens_from 0 t)) e
    ∙ ap (then_found (λ x. found ++ x)) (tokens_cons first behind ∙ ap (λ r. after_front first.at r (λ more. tokens_from more behind)) read)
    ∙ then_found_twice (λ x. listed first.at front.lexeme ++ x) (λ x. found ++ x) (λ x. (found ++ listed first.at front.lexeme) ++ x) (λ x. sym (append_assoc found (listed first.at front.lexeme) x)) (tokens_from front.more behind)
    ∙ ap (then_found (λ x. (found ++ listed first.at front.lexeme) ++ x)) (tokens_drop front.more behind long ∙ ap (tokens_from 0) (sym is))
    ∙ ap (λ (f : List RncToken). then_found (λ x. f ++ x) (tokens_from 0 next)) (sym grown)

fault_found : (first : Letter) (behind rest : List Letter) (fault : LexFault) (found : List RncToken) (total : Result (List RncToken) LexFault)
    → rest ≡ first ∷ behind → front_of first behind ≡ Err fault → total ≡ then_found (λ x. found ++ x) (tokens_from 0 rest) → total ≡ Err fault
fault_found first behind rest fault found total e read all =
    all
    ∙ ap (λ (t : List Letter). then_found (λ x. found ++ x) (tokens_from 0 t)) e
    ∙ ap (then_found (λ x. found ++ x)) (tokens_cons first behind ∙ ap (λ r. after_front first.at r (λ more. tokens_from more behind)) read)

pub tokens_fault : (first : Letter) (behind rest : List Letter) (fault : LexFault) (found : List RncToken) (total : Result (List RncToken) LexFault)
    → rest ≡ first ∷ behind → Finds {A = Front} {B = Front} (λ front. front) (Err fault) (front_of first behind)
    → total ≡ then_found (λ x. found ++ x) (tokens_from 0 rest) → Finds {A = List RncToken} {B = List RncToken} (λ tokens. tokens) (Err fault) total
tokens_fault first behind rest NoMemory found total e read all = tt
tokens_fault first behind rest (BadEscape at) found total e read all = fault_found first behind rest (BadEscape at) found total e read all
tokens_fault first behind rest (BadLiteral at) found total e read all = fault_found first behind rest (BadLiteral at) found total e read all
tokens_fault first behind rest (BadCharacter at) found total e read all = fault_found first behind rest (BadCharacter at) found total e read all

pub tokens_end : (rest : List Letter) (found : List RncToken) (total : Result (List RncToken) LexFault) → rest ≡ [] → total ≡ then_found (λ x. found ++ x) (tokens_from 0 rest) → total ≡ Ok found
unfolding tokens_from
tokens_end rest found total e all = all ∙ ap (λ (t : List Letter). then_found (λ (x : List RncToken). found ++ x) (tokens_from 0 t)) e ∙ ap Ok (append-nil found)

pub no_letter : (letters : List Letter) → length letters ≡ 0 → letters ≡ []
no_letter [] h = refl
no_letter (letter ∷ letters) h = absurd (omega (arith, h))
