-- Marks, white space and comments: what stands there is read, and what is read stands there.
use Rattle.std.proofs.Common.{◌≡◌, ◌≢◌, ℕ, ◌≤◌, Bool, true, false, cond, not, eqb, ◌&&◌, List, [], ◌∷◌, ◌++◌, length, take, drop, Option, Some, None, Ok, Err, refl, sym, ap, ◌∙◌, arith, inl, inr, lit≤}
use Rattle.std.specs.List.{AllByRecursion}
use Rattle.std.proofs.lemmas.Bool.{cases_Bool, eqb-true, eqb-false, ne_eqb, and_parts}
use Rattle.std.proofs.lemmas.List.{take-append-drop}
use Rattle.std.proofs.lemmas.List.Folds.{length-prefix_len}
use Rattle.nx_base.specs.Characters.{is_space, is_name_start, is_quote}
use Rattle.rnc_lex.specs.declared.letter.Letter.{Letter}
use Rattle.rnc_lex.specs.declared.fault.LexFault.TheVariants.{BadCharacter}
use Rattle.rnc_lex.specs.declared.token.Symbol.{Symbol}
use Rattle.rnc_lex.specs.declared.token.Symbol.TheVariants as mark
use Rattle.rnc_lex.specs.declared.token.Lexeme.{Lexeme}
use Rattle.rnc_lex.specs.declared.token.Lexeme.TheVariants as lexeme
use Rattle.rnc_lex.specs.Words.{symbol_text}
use Rattle.rnc_lex.specs.Tokens.{said, Begins, begins_nc_name, symbol, comment}
use Rattle.rnc_lex.specs.Reading.{front, mark_in, singles, single_symbol, double_symbol, symbol_or, marked_single, marked, comment_len}
use Rattle.rnc_lex.proofs.Escapes.{chosen}
use Rattle.rnc_lex.proofs.Prefixes.{Pass, FirstFails, prefix_len_is, front_passes, rest_fails, not_false}
use Rattle.rnc_lex.proofs.Meant.{Meant, is_meant, IsFront}

-- ---- the tables of marks

-- the character begins neither white space, a comment, a literal nor a name
abbrev pub is_other : ℕ → Bool
is_other c = not (is_space c) && (not (eqb c 35) && (not (is_quote c) && (not (eqb c 92) && not (begins_nc_name c))))

rows_sound : (rows : List (ℕ × Symbol)) → AllByRecursion (λ (row : ℕ × Symbol). symbol_text row.1 ≡ row.0 ∷ []) rows → (c : ℕ) (s : Symbol) → mark_in rows c ≡ Some s → symbol_text s ≡ c ∷ []
rows_sound [] h c s e = absurd cc
rows_sound (row ∷ rows) (h, more) c s e =
    elim (chosen (eqb c row.0) (Some row.1) (mark_in rows c) (Some s) e) [
      | inl (test, k) ↦ let same : row.1 ≡ s = cc in ap symbol_text (sym same) ∙ h ∙ ap (λ x. x ∷ []) (sym (eqb-true c row.0 test))
      | inr (test, k) ↦ rows_sound rows more c s k
    ]

single_sound : (c : ℕ) (s : Symbol) → single_symbol c ≡ Some s → symbol_text s ≡ c ∷ []
unfolding single_symbol
single_sound c s e = rows_sound singles (refl, (refl, (refl, (refl, (refl, (refl, (refl, (refl, (refl, (refl, (refl, (refl, (refl, (refl, (refl, tt))))))))))))))) c s e

-- a mark of one character is in the table, and of two is not
one_of : (a c : ℕ) (s : Symbol) → single_symbol a ≡ Some s → is_other a ≡ true → a ∷ [] ≡ c ∷ [] → (single_symbol c ≡ Some s) × (is_other c ≡ true)
one_of a c s e h same = let is : a ≡ c = cc in (ap single_symbol (sym is) ∙ e, ap is_other (sym is) ∙ h)

two_is_not_one : (a b c : ℕ) → a ∷ b ∷ [] ≡ c ∷ [] → ⊥
two_is_not_one a b c e = let tail : b ∷ [] ≡ [] = ap (drop 1) e in cc

single_found : (s : Symbol) (c : ℕ) → symbol_text s ≡ c ∷ [] → (single_symbol c ≡ Some s) × (is_other c ≡ true)
unfolding single_symbol is_space is_name_start
single_found mark.LeftBrace c e = one_of 123 c mark.LeftBrace refl refl e
single_found mark.RightBrace c e = one_of 125 c mark.RightBrace refl refl e
single_found mark.LeftParenthesis c e = one_of 40 c mark.LeftParenthesis refl refl e
single_found mark.RightParenthesis c e = one_of 41 c mark.RightParenthesis refl refl e
single_found mark.LeftBracket c e = one_of 91 c mark.LeftBracket refl refl e
single_found mark.RightBracket c e = one_of 93 c mark.RightBracket refl refl e
single_found mark.Equals c e = one_of 61 c mark.Equals refl refl e
single_found mark.BarEquals c e = absurd (two_is_not_one _ _ c e)
single_found mark.AmpersandEquals c e = absurd (two_is_not_one _ _ c e)
single_found mark.Comma c e = one_of 44 c mark.Comma refl refl e
single_found mark.Bar c e = one_of 124 c mark.Bar refl refl e
single_found mark.Ampersand c e = one_of 38 c mark.Ampersand refl refl e
single_found mark.QuestionMark c e = one_of 63 c mark.QuestionMark refl refl e
single_found mark.Star c e = one_of 42 c mark.Star refl refl e
single_found mark.Plus c e = one_of 43 c mark.Plus refl refl e
single_found mark.Minus c e = one_of 45 c mark.Minus refl refl e
single_found mark.Tilde c e = one_of 126 c mark.Tilde refl refl e
single_found mark.Follows c e = absurd (two_is_not_one _ _ c e)

two_of : (a b c d : ℕ) (s : Symbol) → double_symbol a b ≡ Some s → is_other a ≡ true → a ∷ b ∷ [] ≡ c ∷ d ∷ [] → (double_symbol c d ≡ Some s) × (is_other c ≡ true)
two_of a b c d s e h same =
    let is : a ≡ c = cc in
    let tail : b ∷ [] ≡ d ∷ [] = ap (drop 1) same in
    let then_is : b ≡ d = cc in
    (ap (λ x. double_symbol x d) (sym is) ∙ ap (double_symbol a) (sym then_is) ∙ e, ap is_other (sym is) ∙ h)

one_is_not_two : (a c d : ℕ) → a ∷ [] ≡ c ∷ d ∷ [] → ⊥
one_is_not_two a c d e = let tail : [] ≡ d ∷ [] = ap (drop 1) e in cc

double_found : (s : Symbol) (c d : ℕ) → symbol_text s ≡ c ∷ d ∷ [] → (double_symbol c d ≡ Some s) × (is_other c ≡ true)
unfolding double_symbol is_space is_name_start
double_found mark.LeftBrace c d e = absurd (one_is_not_two 123 c d e)
double_found mark.RightBrace c d e = absurd (one_is_not_two 125 c d e)
double_found mark.LeftParenthesis c d e = absurd (one_is_not_two 40 c d e)
double_found mark.RightParenthesis c d e = absurd (one_is_not_two 41 c d e)
double_found mark.LeftBracket c d e = absurd (one_is_not_two 91 c d e)
double_found mark.RightBracket c d e = absurd (one_is_not_two 93 c d e)
double_found mark.Equals c d e = absurd (one_is_not_two 61 c d e)
double_found mark.BarEquals c d e = two_of 124 61 c d mark.BarEquals refl refl e
double_found mark.AmpersandEquals c d e = two_of 38 61 c d mark.AmpersandEquals refl refl e
double_found mark.Comma c d e = absurd (one_is_not_two 44 c d e)
double_found mark.Bar c d e = absurd (one_is_not_two 124 c d e)
double_found mark.Ampersand c d e = absurd (one_is_not_two 38 c d e)
double_found mark.QuestionMark c d e = absurd (one_is_not_two 63 c d e)
double_found mark.Star c d e = absurd (one_is_not_two 42 c d e)
double_found mark.Plus c d e = absurd (one_is_not_two 43 c d e)
double_found mark.Minus c d e = absurd (one_is_not_two 45 c d e)
double_found mark.Tilde c d e = absurd (one_is_not_two 126 c d e)
double_found mark.Follows c d e = two_of 62 62 c d mark.Follows refl refl e

-- both characters are these
both_are : (c d a b : ℕ) (s t : Symbol) → symbol_text s ≡ a ∷ b ∷ [] → eqb c a && eqb d b ≡ true → Some s ≡ Some t → symbol_text t ≡ c ∷ d ∷ []
both_are c d a b s t text h e =
    let parts = and_parts (eqb c a) (eqb d b) h in
    let same : s ≡ t = cc in
    ap symbol_text (sym same) ∙ text ∙ ap (λ x. x ∷ b ∷ []) (sym (eqb-true c a parts.0)) ∙ ap (λ x. c ∷ x ∷ []) (sym (eqb-true d b parts.1))

double_sound : (c d : ℕ) (s : Symbol) → double_symbol c d ≡ Some s → symbol_text s ≡ c ∷ d ∷ []
unfolding double_symbol
double_sound c d s e =
    let third : Option Symbol = cond (eqb c 62 && eqb d 62) (Some mark.Follows) None in
    let second : Option Symbol = cond (eqb c 38 && eqb d 61) (Some mark.AmpersandEquals) third in
    elim (chosen (eqb c 124 && eqb d 61) (Some mark.BarEquals) second (Some s) e) [
      | inl (test, k) ↦ both_are c d 124 61 mark.BarEquals s refl test k
      | inr (test, k) ↦
          elim (chosen (eqb c 38 && eqb d 61) (Some mark.AmpersandEquals) third (Some s) k) [
            | inl (more, l) ↦ both_are c d 38 61 mark.AmpersandEquals s refl more l
            | inr (more, l) ↦
                elim (chosen (eqb c 62 && eqb d 62) (Some mark.Follows) None (Some s) l) [
                  | inl (last, m) ↦ both_are c d 62 62 mark.Follows s refl last m
                  | inr (last, m) ↦ absurd cc
                ]
          ]
    ]

-- a mark has one character or two
symbol_size : (s : Symbol) → (1 ≤ length (symbol_text s)) × (length (symbol_text s) ≤ 2)
symbol_size mark.LeftBrace = (lit≤ tt, lit≤ tt)
symbol_size mark.RightBrace = (lit≤ tt, lit≤ tt)
symbol_size mark.LeftParenthesis = (lit≤ tt, lit≤ tt)
symbol_size mark.RightParenthesis = (lit≤ tt, lit≤ tt)
symbol_size mark.LeftBracket = (lit≤ tt, lit≤ tt)
symbol_size mark.RightBracket = (lit≤ tt, lit≤ tt)
symbol_size mark.Equals = (lit≤ tt, lit≤ tt)
symbol_size mark.BarEquals = (lit≤ tt, lit≤ tt)
symbol_size mark.AmpersandEquals = (lit≤ tt, lit≤ tt)
symbol_size mark.Comma = (lit≤ tt, lit≤ tt)
symbol_size mark.Bar = (lit≤ tt, lit≤ tt)
symbol_size mark.Ampersand = (lit≤ tt, lit≤ tt)
symbol_size mark.QuestionMark = (lit≤ tt, lit≤ tt)
symbol_size mark.Star = (lit≤ tt, lit≤ tt)
symbol_size mark.Plus = (lit≤ tt, lit≤ tt)
symbol_size mark.Minus = (lit≤ tt, lit≤ tt)
symbol_size mark.Tilde = (lit≤ tt, lit≤ tt)
symbol_size mark.Follows = (lit≤ tt, lit≤ tt)

-- ---- marks that stand there are read

-- no mark is this one and the next character
abbrev pub IsLongest : Symbol → List ℕ → Type 0
IsLongest s rest = (t : Symbol) (c : ℕ) (more : List ℕ) → rest ≡ c ∷ more → symbol_text t ≢ symbol_text s ++ c ∷ []

no_double : (c d : ℕ) (found : Option Symbol) → double_symbol c d ≡ found → ((t : Symbol) → symbol_text t ≢ c ∷ d ∷ []) → double_symbol c d ≡ None
no_double c d None e h = e
no_double c d (Some t) e h = absurd (h t (double_sound c d t e))

single_read : (first : Letter) (rest : List Letter) (s : Symbol) → symbol_text s ≡ first.character ∷ [] → IsLongest s (said rest) → marked first rest ≡ Ok (front (Some (lexeme.Symbol s)) 0)
unfolding marked marked_single
single_read first [] s text longest = rw (single_found s first.character text).0 refl
single_read first (next ∷ rest) s text longest =
    let none = no_double first.character next.character (double_symbol first.character next.character) refl
    (λ t e. longest t next.character (said rest) refl (e ∙ ap (λ (x : List ℕ). x ++ next.character ∷ []) (sym text))) in
    rw (none, (single_found s first.character text).0) refl

double_read : (first next : Letter) (rest : List Letter) (s : Symbol) → symbol_text s ≡ first.character ∷ next.character ∷ [] → marked first (next ∷ rest) ≡ Ok (front (Some (lexeme.Symbol s)) 1)
unfolding marked
double_read first next rest s text = rw (double_found s first.character next.character text).0 refl

pub record MarkRead (letters rest : List Letter) (found : Lexeme) : Type 0 where
  pub read : IsFront marked letters rest (Some found)
  pub other : is_other read.first.character ≡ true

pub mark_read : (letters rest : List Letter) (s : Symbol) (found : Lexeme) → said letters ≡ symbol_text s → IsLongest s (said rest) → found ≡ lexeme.Symbol s → MarkRead letters rest found
mark_read [] rest s found text longest what = let size = (symbol_size s).0 in let len = ap length text in absurd (omega (arith, size, len))
mark_read (first ∷ []) rest s found text longest what =
    record {
      read = record { first = first; more = []; letters_are = refl; reads_so = single_read first rest s (sym text) longest ∙ ap (λ x. Ok (front (Some x) 0)) (sym what) };
      other = (single_found s first.character (sym text)).1;
    }
mark_read (first ∷ next ∷ []) rest s found text longest what =
    record {
      read = record { first = first; more = next ∷ []; letters_are = refl; reads_so = double_read first next rest s (sym text) ∙ ap (λ x. Ok (front (Some x) 1)) (sym what) };
      other = (double_found s first.character next.character (sym text)).1;
    }
mark_read (first ∷ next ∷ third ∷ letters) rest s found text longest what = let short = (symbol_size s).1 in let len = ap length text in absurd (omega (arith, short, len))

-- ---- marks that are read stand there

single_meant : (first : Letter) (behind : List Letter) (found : Option Symbol) → is_quote first.character ≡ false → single_symbol first.character ≡ found
    → ((t : Symbol) (c : ℕ) (more : List ℕ) → said behind ≡ c ∷ more → symbol_text t ≢ first.character ∷ c ∷ []) → Meant first behind (symbol_or 0 (Err (BadCharacter first.at)) found)
single_meant first behind None quote e none = (refl, quote)
single_meant first behind (Some s) quote e none =
    let text = single_sound first.character s e in
    is_meant first behind [] behind 0 (Some (lexeme.Symbol s)) refl refl
    (symbol s (sym text) (λ t c more e same. none t c more e (same ∙ ap (λ (x : List ℕ). x ++ c ∷ []) text)) refl)

double_meant : (first next : Letter) (rest : List Letter) (found : Option Symbol) → is_quote first.character ≡ false → double_symbol first.character next.character ≡ found → Meant first (next ∷ rest) (symbol_or 1 (marked_single first) found)
unfolding marked_single
double_meant first next rest (Some s) quote e =
    let text = double_sound first.character next.character s e in
    is_meant first (next ∷ rest) (next ∷ []) rest 1 (Some (lexeme.Symbol s)) refl refl
    (symbol s (sym text) (λ t c more _ same. let short = (symbol_size t).1 in let len = ap length (same ∙ ap (λ (x : List ℕ). x ++ c ∷ []) text) in absurd (omega (arith, short, len))) refl)
double_meant first next rest None quote e =
    single_meant first (next ∷ rest) (single_symbol first.character) quote refl (λ t c more f same. no_mark first next t c (cc) e same)
  where
    no_mark : (first next : Letter) (t : Symbol) (c : ℕ) → next.character ≡ c → double_symbol first.character next.character ≡ None → symbol_text t ≡ first.character ∷ c ∷ [] → ⊥
    no_mark first next t c is none text =
        let found = (double_found t first.character next.character (text ∙ ap (λ x. first.character ∷ x ∷ []) (sym is))).0 in
        cc

pub marked_meant : (first : Letter) (behind : List Letter) → is_quote first.character ≡ false → Meant first behind (marked first behind)
unfolding marked marked_single
marked_meant first [] quote = single_meant first [] (single_symbol first.character) quote refl (λ t c more e _. absurd cc)
marked_meant first (next ∷ rest) quote = double_meant first next rest (double_symbol first.character next.character) quote refl

-- ---- comments

in_comment : Letter → Bool
in_comment letter = not (eqb letter.character 10)

comment_passes : (letters : List Letter) → AllByRecursion (λ (letter : Letter). letter.character ≢ 10) letters → Pass (λ (letter : Letter). not (eqb letter.character 10)) letters
comment_passes [] h = tt
comment_passes (letter ∷ letters) (h, more) = (rw (ne_eqb letter.character 10 h) refl, comment_passes letters more)

passes_comment : (letters : List Letter) → Pass (λ (letter : Letter). not (eqb letter.character 10)) letters → AllByRecursion (λ (letter : Letter). letter.character ≢ 10) letters
passes_comment [] h = tt
passes_comment (letter ∷ letters) (h, more) = (eqb-false letter.character 10 (not_false (eqb letter.character 10) h), passes_comment letters more)

comment_ends : (rest : List Letter) → (Begins (λ c. not (eqb c 10)) (said rest) → ⊥) → FirstFails (λ (letter : Letter). not (eqb letter.character 10)) rest
comment_ends [] h = tt
comment_ends (letter ∷ rest) h = elim (cases_Bool (not (eqb letter.character 10))) [ inl is ↦ absurd (h is) | inr is ↦ is ]

ends_comment : (rest : List Letter) → FirstFails (λ (letter : Letter). not (eqb letter.character 10)) rest → Begins (λ c. not (eqb c 10)) (said rest) → ⊥
ends_comment [] h begins = begins
ends_comment (letter ∷ rest) h begins = cc

pub comment_read : (inside rest : List Letter) → AllByRecursion (λ (letter : Letter). letter.character ≢ 10) inside → (Begins (λ c. not (eqb c 10)) (said rest) → ⊥) → comment_len (inside ++ rest) ≡ length inside
comment_read inside rest all ends = prefix_len_is (λ (letter : Letter). not (eqb letter.character 10)) inside rest (comment_passes inside all) (comment_ends rest ends)

pub comment_meant : (first : Letter) (behind : List Letter) → first.character ≡ 35 → Meant first behind (Ok (front None (comment_len behind)))
comment_meant first behind is =
    let p : Letter → Bool = λ letter. not (eqb letter.character 10) in
    let len = comment_len behind in
    is_meant first behind (take len behind) (drop len behind) len None (sym (take-append-drop len behind)) (length-prefix_len p behind)
    (comment first (take len behind) refl is (passes_comment (take len behind) (front_passes p behind)) (ends_comment (drop len behind) (rest_fails p behind)))
