-- Texts of tokens are UTF-8, and tokens begin one behind the other.
use Rattle.std.proofs.Common.{◌≡◌, ℕ, ◌+◌, ◌<◌, ◌≤◌, Bool, true, eqb, List, [], ◌∷◌, ◌++◌, length, Result, Ok, Err, refl, sym, ap, subst, ◌∙◌, arith, inl, inr}
use Rattle.std.specs.List.{AllByRecursion}
use Rattle.std.specs.Result.{IfOk}
use Rattle.std.specs.Str.{IsUtf8, chars, encode_utf8_all, all_scalars}
use Rattle.std.specs.Char.{encode_utf8}
use Rattle.std.proofs.lemmas.Bool.{cases_Bool}
use Rattle.std.proofs.lemmas.Bool.Decides.{nat_tests}
use Rattle.std.proofs.lemmas.List.{length-append}
use Rattle.std.proofs.lemmas.Str.{encodes-append, encodes-chars, length-le-encodes}
use Rattle.nx_base.specs.Characters.{is_char}
use Rattle.rnc_lex.specs.declared.letter.Letter.{Letter}
use Rattle.rnc_lex.specs.declared.fault.LexFault.{LexFault}
use Rattle.rnc_lex.specs.declared.token.RncToken.{RncToken}
use Rattle.rnc_lex.specs.declared.token.Lexeme.{Lexeme}
use Rattle.rnc_lex.specs.Letters.{without_mark, place, StandsFor, itself, line_end, escape, AreLetters}
use Rattle.rnc_lex.specs.Tokens.{said, utf8, place_of, Stands, identifier, keyword, escaped_identifier, prefixed_name, namespace_wildcard, short_literal, long_literal, symbol, AreTokens, ended, passed, taken, Lexes}
use Rattle.rnc_lex.specs.Laws.{HasUtf8Texts, HaveUtf8Texts, RiseFrom, Rise}
use Rattle.rnc_lex.proofs.Spelled.{stands_read}
use Rattle.rnc_lex.proofs.Fronts.{front_stands}

-- ---- texts

abbrev AreChars : List Letter → Type 0
AreChars letters = AllByRecursion (λ (letter : Letter). is_char letter.character ≡ true) letters

char_scalars : (c : ℕ) (cs : List ℕ) → is_char c ≡ true → all_scalars cs ≡ true → all_scalars (c ∷ cs) ≡ true
unfolding is_char
char_scalars c cs h k = grind (arith, nat_tests)

said_scalars : (letters : List Letter) → AreChars letters → all_scalars (said letters) ≡ true
said_scalars [] h = refl
said_scalars (letter ∷ letters) (h, more) = char_scalars letter.character (said letters) h (said_scalars letters more)

utf8_is : (letters : List Letter) → AreChars letters → IsUtf8 (utf8 letters)
utf8_is letters h = (said letters, (said_scalars letters h, refl))

front_chars : (front back : List Letter) → AreChars (front ++ back) → AreChars front × AreChars back
front_chars [] back h = (tt, h)
front_chars (letter ∷ front) back (h, more) = let parts = front_chars front back more in ((h, parts.0), parts.1)

stands_char : (spelled rest : List ℕ) (c : ℕ) (w : Bool) → StandsFor spelled rest c w → is_char c ≡ true
unfolding is_char
stands_char spelled rest c w (itself e char other none written) = char
stands_char spelled rest c w (line_end ends is written) = rw is refl
stands_char spelled rest c w (escape (more, digits, e, numeral, is, char) written) = char

letters_chars : (len : ℕ) (cs : List ℕ) (letters : List Letter) (rest : List ℕ) → AreLetters len cs letters rest → AreChars letters
letters_chars len cs [] rest h = tt
letters_chars len cs (letter ∷ letters) rest (spelled, more, e, stands, at, all) = (stands_char spelled more letter.character letter.written stands, letters_chars len more letters rest all)

stands_utf8 : (letters rest : List Letter) (found : Lexeme) → Stands letters rest found → AreChars letters → HasUtf8Texts found
stands_utf8 letters rest found (identifier name none what) h = subst HasUtf8Texts (sym what) (utf8_is letters h)
stands_utf8 letters rest found (keyword k name is what) h = subst HasUtf8Texts (sym what) tt
stands_utf8 letters rest found (escaped_identifier mark name e is whole what) h = subst HasUtf8Texts (sym what) (utf8_is name (subst AreChars e h).1)
stands_utf8 letters rest found (prefixed_name name local colon e is_name is whole what) h =
    let parts = front_chars name (colon ∷ local) (subst AreChars e h) in
    subst HasUtf8Texts (sym what) (utf8_is name parts.0, utf8_is local parts.1.1)
stands_utf8 letters rest found (namespace_wildcard name mark e is_name is what) h = subst HasUtf8Texts (sym what) (utf8_is name (front_chars name mark (subst AreChars e h)).0)
stands_utf8 letters rest found (short_literal first last inside e quote same all alone what) h =
    subst HasUtf8Texts (sym what) (utf8_is inside (front_chars inside (last ∷ []) (subst AreChars e h).1).0)
stands_utf8 letters rest found (long_literal quote before inside behind e is opens closes none what) h =
    let parts = front_chars (before ++ inside) behind (subst AreChars e h) in
    subst HasUtf8Texts (sym what) (utf8_is inside (front_chars before inside parts.0).1)
stands_utf8 letters rest found (symbol s text longest what) h = subst HasUtf8Texts (sym what) tt

tokens_utf8 : (rest letters : List Letter) (tokens : List RncToken) → AreTokens rest letters tokens → AreChars letters → HaveUtf8Texts tokens
tokens_utf8 rest letters tokens (ended e none) h = subst HaveUtf8Texts (sym none) tt
tokens_utf8 rest letters tokens (passed front more e is all) h = tokens_utf8 rest more tokens all (front_chars front more (subst AreChars e h)).1
tokens_utf8 rest letters tokens (taken front more token others e same stands place_is all) h =
    let parts = front_chars front more (subst AreChars e h) in
    subst HaveUtf8Texts (sym same) (stands_utf8 front more token.lexeme stands parts.0, tokens_utf8 rest more others all parts.1)

pub utf8_found : (text : List ℕ) (answer : Result (List RncToken) LexFault) → Lexes text answer → IfOk answer HaveUtf8Texts
utf8_found text (Ok tokens) (letters, all, h) = tokens_utf8 [] letters tokens h (letters_chars (length text) (without_mark (chars text)) letters [] all)
utf8_found text (Err fault) h = tt

-- ---- places

-- the letters begin at this place or behind it, each behind the one before, and in front of the end
abbrev LettersRise : ℕ → ℕ → List Letter → Type 0
LettersRise len at [] = Unit {0}
LettersRise len at (letter ∷ letters) = (at ≤ letter.at) × (letter.at < len) × LettersRise len (letter.at + 1) letters

letters_rise : (len at : ℕ) (cs : List ℕ) (letters : List Letter) (rest : List ℕ) → AreLetters len cs letters rest → length (encode_utf8_all cs) ≤ len → at ≤ place len cs → LettersRise len at letters
letters_rise len at cs [] rest h fits low = tt
letters_rise len at cs (letter ∷ letters) rest (spelled, more, e, stands, is, all) fits low =
    let r = stands_read spelled more letter.character letter.written stands in
    let whole : length (encode_utf8_all cs) ≡ length (encode_utf8_all spelled) + length (encode_utf8_all more) =
    ap (λ (t : List ℕ). length (encode_utf8_all t)) e ∙ ap length (encodes-append spelled more) ∙ length-append (encode_utf8_all spelled) (encode_utf8_all more) in
    let some : length spelled ≡ length r.more + 1 = ap length r.spelled_is ∙ omega arith in
    let long = length-le-encodes spelled in
    (omega (arith, is, low), omega (arith, is, whole, some, long, fits), letters_rise len (letter.at + 1) more letters rest all (omega (arith, whole, fits)) (omega (arith, is, whole, some, long, fits)))

rise_sooner : (len a b : ℕ) (letters : List Letter) → LettersRise len a letters → b ≤ a → LettersRise len b letters
rise_sooner len a b [] h le = tt
rise_sooner len a b (letter ∷ letters) (low, lt, more) le = (omega arith, lt, more)

rise_behind : (len at : ℕ) (front more : List Letter) → LettersRise len at (front ++ more) → LettersRise len at more
rise_behind len at [] more h = h
rise_behind len at (letter ∷ front) more (low, lt, h) = rise_sooner len (letter.at + 1) at more (rise_behind len (letter.at + 1) front more h) (omega arith)

tokens_rise : (len : ℕ) (rest : List Letter) (at : ℕ) (letters : List Letter) (tokens : List RncToken) → AreTokens rest letters tokens → LettersRise len at letters → RiseFrom len at tokens
tokens_rise len rest at letters tokens (ended e none) h = subst (RiseFrom len at) (sym none) tt
tokens_rise len rest at letters tokens (passed front more e is all) h = tokens_rise len rest at more tokens all (rise_behind len at front more (subst (LettersRise len at) e h))
tokens_rise len rest at letters tokens (taken front more token others e same stands place_is all) h =
    let r = front_stands front more token.lexeme stands in
    let whole : letters ≡ r.first ∷ (r.more ++ more) = e ∙ ap (λ (t : List Letter). t ++ more) r.letters_are in
    let parts = subst (LettersRise len at) whole h in
    let at_is : token.at ≡ r.first.at = place_is ∙ ap place_of r.letters_are in
    let behind = rise_sooner len (r.first.at + 1) (token.at + 1) more (rise_behind len (r.first.at + 1) r.more more parts.2) (omega (arith, at_is)) in
    let low = parts.0 in
    let high = parts.1 in
    subst (RiseFrom len at) (sym same) (omega (arith, low, at_is), omega (arith, high, at_is), tokens_rise len rest (token.at + 1) more others all behind)

-- without its mark the text is no longer
mark_fits : (cs : List ℕ) (len : ℕ) → length (encode_utf8_all cs) ≤ len → length (encode_utf8_all (without_mark cs)) ≤ len
mark_fits [] len h = h
mark_fits (c ∷ cs) len h =
    let whole = length-append (encode_utf8 c) (encode_utf8_all cs) in
    elim (cases_Bool (eqb c 0xFEFF)) [ inl is ↦ rw is (omega (arith, whole, h)) | inr is ↦ rw is h ]

pub rise_found : (text : List ℕ) (answer : Result (List RncToken) LexFault) → IsUtf8 text → Lexes text answer → IfOk answer (Rise (length text))
rise_found text (Ok tokens) utf8 (letters, all, h) =
    let fits = mark_fits (chars text) (length text) (let e = ap length (encodes-chars text utf8) in omega (arith, e)) in
    tokens_rise (length text) [] 0 letters tokens h (letters_rise (length text) 0 (without_mark (chars text)) letters [] all fits (omega arith))
rise_found text (Err fault) utf8 h = tt
