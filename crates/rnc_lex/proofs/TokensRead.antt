-- The tokens that are read are the tokens of the letters, and a fault is read where one is.
use Rattle.std.proofs.Common.{◌≡◌, ℕ, zero, suc, ◌≤◌, Bool, true, false, not, eqb, List, [], ◌∷◌, ◌++◌, length, take, drop, Option, Some, None, Result, Ok, Err, refl, sym, ap, ◌∙◌, arith, inl, inr}
use Rattle.std.proofs.lemmas.Bool.{eqb-true, or_cases}
use Rattle.nx_base.specs.Characters.{is_space, is_quote}
use Rattle.std.proofs.lemmas.List.{append-nil, take-append-drop}
use Rattle.rnc_lex.specs.declared.front.Front.{Front}
use Rattle.rnc_lex.specs.declared.letter.Letter.{Letter}
use Rattle.rnc_lex.specs.declared.fault.LexFault.{LexFault}
use Rattle.rnc_lex.specs.declared.fault.LexFault.TheVariants.{BadEscape, BadLiteral, BadCharacter, NoMemory}
use Rattle.rnc_lex.specs.declared.token.Lexeme.{Lexeme}
use Rattle.rnc_lex.specs.declared.token.RncToken.{RncToken}
use Rattle.rnc_lex.specs.Tokens.{said, place_of, Begins, IsPassedOver, space, comment, AreTokens, ended, passed, taken, BeginsNoToken, BeginsNothing}
use Rattle.rnc_lex.specs.Reading.{then_found, front, front_of, listed, after_front, tokens_from}
use Rattle.rnc_lex.proofs.LettersRead.{then_found_same, then_found_twice}
use Rattle.rnc_lex.proofs.TokenSteps.{tokens_skip, tokens_cons}
use Rattle.rnc_lex.proofs.Meant.{Is, Meant, IsFront}
use Rattle.rnc_lex.proofs.Fronts.{front_stands, front_passed, front_meant, fault_begins_nothing}

-- what an answer says of letters
abbrev pub TokensJudged : List Letter → Result (List RncToken) LexFault → Type 0
TokensJudged letters (Ok tokens) = AreTokens [] letters tokens
TokensJudged letters (Err (BadLiteral at)) = (rest : List Letter) × (tokens : List RncToken) × AreTokens rest letters tokens × Begins is_quote (said rest) × BeginsNoToken rest × (at ≡ place_of rest)
TokensJudged letters (Err (BadCharacter at)) = (rest : List Letter) × (tokens : List RncToken) × AreTokens rest letters tokens × Begins (λ c. not (is_quote c)) (said rest) × BeginsNothing rest × (at ≡ place_of rest)
TokensJudged letters (Err (BadEscape at)) = ⊥
TokensJudged letters (Err NoMemory) = ⊥

-- ---- what is read is so

-- a token or what is passed over in front of tokens
one_more : (letters front more rest : List Letter) (found : Option Lexeme) (at : ℕ) (tokens : List RncToken) → letters ≡ front ++ more → Is front more found → at ≡ place_of front → AreTokens rest more tokens → AreTokens rest letters (listed at found ++ tokens)
one_more letters front more rest None at tokens e is place all = passed front more e is all
one_more letters front more rest (Some x) at tokens e is place all = taken front more (record { at = at; lexeme = x }) tokens e refl is place all

judged_more : (letters front more : List Letter) (found : Option Lexeme) (at : ℕ) (answer : Result (List RncToken) LexFault) → letters ≡ front ++ more → Is front more found → at ≡ place_of front → TokensJudged more answer → TokensJudged letters (then_found (λ tokens. listed at found ++ tokens) answer)
judged_more letters front more found at (Ok tokens) e is place all = one_more letters front more [] found at tokens e is place all
judged_more letters front more found at (Err (BadLiteral p)) e is place (rest, tokens, all, begins, none, same) = (rest, listed at found ++ tokens, one_more letters front more rest found at tokens e is place all, begins, none, same)
judged_more letters front more found at (Err (BadCharacter p)) e is place (rest, tokens, all, begins, none, same) = (rest, listed at found ++ tokens, one_more letters front more rest found at tokens e is place all, begins, none, same)
judged_more letters front more found at (Err (BadEscape p)) e is place h = absurd h
judged_more letters front more found at (Err NoMemory) e is place h = absurd h

not_true : (b : Bool) → b ≡ false → not b ≡ true
not_true b e = rw e refl

judged_front : (first : Letter) (behind : List Letter) (r : Result Front LexFault) → front_of first behind ≡ r → Meant first behind r → ((n : ℕ) → n ≤ length behind → TokensJudged (drop n behind) (tokens_from n behind))
    → TokensJudged (first ∷ behind) (after_front first.at r (λ more. tokens_from more behind))
judged_front first behind (Ok found) e (long, is) all =
    judged_more (first ∷ behind) (first ∷ take found.more behind) (drop found.more behind) found.lexeme first.at (tokens_from found.more behind) (ap (λ (t : List Letter). first ∷ t) (sym (take-append-drop found.more behind))) is refl (all found.more long)
judged_front first behind (Err (BadLiteral at)) e (place, quote) all = (first ∷ behind, [], ended refl refl, quote, (fault_begins_nothing first behind (BadLiteral at) e).0, place)
judged_front first behind (Err (BadCharacter at)) e (place, quote) all = (first ∷ behind, [], ended refl refl, not_true (is_quote first.character) quote, fault_begins_nothing first behind (BadCharacter at) e, place)
judged_front first behind (Err (BadEscape at)) e h all = absurd h
judged_front first behind (Err NoMemory) e h all = absurd h

tokens_judged : (letters : List Letter) (skipped : ℕ) → skipped ≤ length letters → TokensJudged (drop skipped letters) (tokens_from skipped letters)
unfolding tokens_from
tokens_judged [] zero h = ended refl refl
tokens_judged [] (suc n) h = absurd (omega arith)
tokens_judged (letter ∷ letters) (suc n) h = tokens_judged letters n (omega arith)
tokens_judged (letter ∷ letters) zero h = judged_front letter letters (front_of letter letters) refl (front_meant letter letters) (tokens_judged letters)

pub tokens_are_judged : (letters : List Letter) → TokensJudged letters (tokens_from 0 letters)
tokens_are_judged letters = tokens_judged letters 0 (omega arith)

-- ---- what is so is read

-- a front that is read, in front of others
read_front : (letters front_letters more : List Letter) (found : Option Lexeme) → letters ≡ front_letters ++ more → (r : IsFront front_of front_letters more found) → tokens_from 0 letters ≡ then_found (λ tokens. listed (place_of front_letters) found ++ tokens) (tokens_from 0 more)
read_front letters front_letters more found e r =
    let behind = r.more ++ more in
    let whole : letters ≡ r.first ∷ behind = e ∙ ap (λ (t : List Letter). t ++ more) r.letters_are in
    ap (tokens_from 0) whole ∙ tokens_cons r.first behind
    ∙ ap (λ x. after_front r.first.at x (λ n. tokens_from n behind)) r.reads_so
    ∙ ap (then_found (λ tokens. listed r.first.at found ++ tokens)) (tokens_skip r.more more)
    ∙ ap (λ (t : List Letter). then_found (λ tokens. listed (place_of t) found ++ tokens) (tokens_from 0 more)) (sym r.letters_are)

abbrev token_of : ℕ → Lexeme → RncToken
token_of at found = record { at = at; lexeme = found }

tokens_complete : (rest letters : List Letter) (tokens : List RncToken) → AreTokens rest letters tokens → tokens_from 0 letters ≡ then_found (λ x. tokens ++ x) (tokens_from 0 rest)
tokens_complete rest letters tokens (ended e none) =
    ap (tokens_from 0) e ∙ sym (then_found_same (λ (x : List RncToken). x) (λ x. refl) (tokens_from 0 rest)) ∙ ap (λ (t : List RncToken). then_found (λ x. t ++ x) (tokens_from 0 rest)) (sym none)
tokens_complete rest letters tokens (passed front_letters more e is all) =
    read_front letters front_letters more None e (front_passed front_letters more is)
    ∙ then_found_same (λ (x : List RncToken). x) (λ x. refl) (tokens_from 0 more)
    ∙ tokens_complete rest more tokens all
tokens_complete rest letters tokens (taken front_letters more token others e same stands place all) =
    let read = tokens_from 0 rest in
    let token_is : token_of (place_of front_letters) token.lexeme ≡ token = ap (λ at. token_of at token.lexeme) (sym place) in
    read_front letters front_letters more (Some token.lexeme) e (front_stands front_letters more token.lexeme stands)
    ∙ ap (then_found (λ tokens. listed (place_of front_letters) (Some token.lexeme) ++ tokens)) (tokens_complete rest more others all)
    ∙ then_found_twice (λ x. others ++ x) (λ x. listed (place_of front_letters) (Some token.lexeme) ++ x) (λ x. token_of (place_of front_letters) token.lexeme ∷ (others ++ x)) (λ x. refl) read
    ∙ ap (λ (t : RncToken). then_found (λ x. t ∷ (others ++ x)) read) token_is
    ∙ ap (λ (t : List RncToken). then_found (λ x. t ++ x) read) (sym same)

-- a quote is neither white space nor `#`
quote_no_space : (c : ℕ) → is_quote c ≡ true → is_space c ≡ true → ⊥
unfolding is_space
quote_no_space c h k =
    elim (or_cases (eqb c 34) (eqb c 39) h) [
      | inl double ↦ let e = eqb-true c 34 double in let none : is_space c ≡ false = rw e refl in cc
      | inr single ↦ let e = eqb-true c 39 single in let none : is_space c ≡ false = rw e refl in cc
    ]

quote_no_hash : (c : ℕ) → is_quote c ≡ true → c ≡ 35 → ⊥
quote_no_hash c h e = let none : is_quote c ≡ false = rw e refl in cc

quote_not_passed : (first : Letter) (more rest : List Letter) → is_quote first.character ≡ true → IsPassedOver (first ∷ more) rest → ⊥
quote_not_passed first more rest quote (space letter e is) = let same : first ≡ letter = cc in quote_no_space first.character quote (ap (λ (l : Letter). is_space l.character) same ∙ is)
quote_not_passed first more rest quote (comment mark inside e is all ends) = let same : first ≡ mark = cc in quote_no_hash first.character quote (ap (λ (l : Letter). l.character) same ∙ is)

no_front : (first : Letter) (behind : List Letter) (n : ℕ) (found : Option Lexeme) → is_quote first.character ≡ true → BeginsNoToken (first ∷ behind) → Is (first ∷ take n behind) (drop n behind) found → ⊥
no_front first behind n None quote none is = quote_not_passed first (take n behind) (drop n behind) quote is
no_front first behind n (Some x) quote none is = none (first ∷ take n behind) (drop n behind) x (ap (λ (t : List Letter). first ∷ t) (sym (take-append-drop n behind))) is

literal_fault : (first : Letter) (behind : List Letter) (r : Result Front LexFault) → Meant first behind r → is_quote first.character ≡ true → BeginsNoToken (first ∷ behind) → r ≡ Err (BadLiteral first.at)
literal_fault first behind (Ok found) (long, is) quote none = absurd (no_front first behind found.more found.lexeme quote none is)
literal_fault first behind (Err (BadLiteral at)) (place, is) quote none = ap (λ p. Err (BadLiteral p)) place
literal_fault first behind (Err (BadCharacter at)) (place, is) quote none = absurd cc
literal_fault first behind (Err (BadEscape at)) h quote none = absurd h
literal_fault first behind (Err NoMemory) h quote none = absurd h

nothing_front : (first : Letter) (behind : List Letter) (n : ℕ) (found : Option Lexeme) → BeginsNothing (first ∷ behind) → Is (first ∷ take n behind) (drop n behind) found → ⊥
nothing_front first behind n None none is = none.1 (first ∷ take n behind) (drop n behind) (ap (λ (t : List Letter). first ∷ t) (sym (take-append-drop n behind))) is
nothing_front first behind n (Some x) none is = none.0 (first ∷ take n behind) (drop n behind) x (ap (λ (t : List Letter). first ∷ t) (sym (take-append-drop n behind))) is

token_fault : (first : Letter) (behind : List Letter) (r : Result Front LexFault) → Meant first behind r → not (is_quote first.character) ≡ true → BeginsNothing (first ∷ behind) → r ≡ Err (BadCharacter first.at)
token_fault first behind (Ok found) (long, is) quote none = absurd (nothing_front first behind found.more found.lexeme none is)
token_fault first behind (Err (BadLiteral at)) (place, is) quote none = let no : not (is_quote first.character) ≡ false = rw is refl in absurd cc
token_fault first behind (Err (BadCharacter at)) (place, is) quote none = ap (λ p. Err (BadCharacter p)) place
token_fault first behind (Err (BadEscape at)) h quote none = absurd h
token_fault first behind (Err NoMemory) h quote none = absurd h

-- letters that are so judged are read so
pub tokens_exact : (letters : List Letter) (answer : Result (List RncToken) LexFault) → TokensJudged letters answer → tokens_from 0 letters ≡ answer
unfolding tokens_from
tokens_exact letters (Ok tokens) h = tokens_complete [] letters tokens h ∙ ap Ok (append-nil tokens)
tokens_exact letters (Err (BadLiteral at)) ([], tokens, all, begins, none, is) = absurd begins
tokens_exact letters (Err (BadLiteral at)) (first ∷ behind, tokens, all, begins, none, is) =
    tokens_complete (first ∷ behind) letters tokens all
    ∙ ap (λ r. then_found (λ x. tokens ++ x) (after_front first.at r (λ n. tokens_from n behind))) (literal_fault first behind (front_of first behind) (front_meant first behind) begins none)
    ∙ ap (λ p. Err (BadLiteral p)) (sym is)
tokens_exact letters (Err (BadCharacter at)) ([], tokens, all, begins, none, is) = absurd begins
tokens_exact letters (Err (BadCharacter at)) (first ∷ behind, tokens, all, begins, none, is) =
    tokens_complete (first ∷ behind) letters tokens all
    ∙ ap (λ r. then_found (λ x. tokens ++ x) (after_front first.at r (λ n. tokens_from n behind))) (token_fault first behind (front_of first behind) (front_meant first behind) begins none)
    ∙ ap (λ p. Err (BadCharacter p)) (sym is)
tokens_exact letters (Err (BadEscape at)) h = absurd h
tokens_exact letters (Err NoMemory) h = absurd h
