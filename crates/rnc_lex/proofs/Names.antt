-- Names: what is read stands there, and what stands there is read.
use Rattle.std.proofs.Common.{◌≡◌, ◌≢◌, ℕ, Bool, true, not, eqb, List, [], ◌∷◌, Option, Some, None, refl, sym, ap, ◌∙◌, ◌⊎◌, inl, inr}
use Rattle.std.specs.List.{list_all, find}
use Rattle.std.specs.Str.{bytes_eq, encode_utf8_all}
use Rattle.std.specs.Char.{encode_utf8}
use Rattle.std.proofs.lemmas.Slice.Eq.{bytes_eq-Decides}
use Rattle.std.proofs.lemmas.Bool.{cases_Bool, and_parts}
use Rattle.std.proofs.lemmas.Str.{encodes_same}
use Rattle.nx_base.specs.Characters.{is_name_start, is_name_char, is_name, is_nc_name}
use Rattle.rnc_lex.specs.declared.letter.Letter.{Letter}
use Rattle.rnc_lex.specs.declared.token.Keyword.{Keyword}
use Rattle.rnc_lex.specs.declared.token.Keyword.TheVariants as word
use Rattle.rnc_lex.specs.declared.token.Lexeme.TheVariants as lexeme
use Rattle.rnc_lex.specs.Words.{keyword_text}
use Rattle.rnc_lex.specs.Tokens.{said, utf8, Begins, begins_nc_name, is_nc_name_char, IsPlainName, Stands, identifier, keyword}
use Rattle.rnc_lex.specs.Reading.{keywords, keyword_of, keyword_or, word_of}
use Rattle.rnc_lex.proofs.Prefixes.{Pass, FirstFails, both}

-- ---- keywords

keyword_ascii : (k : Keyword) → encode_utf8_all (keyword_text k) ≡ keyword_text k
unfolding encode_utf8
keyword_ascii word.Attribute = refl
keyword_ascii word.Default = refl
keyword_ascii word.Datatypes = refl
keyword_ascii word.Div = refl
keyword_ascii word.Element = refl
keyword_ascii word.Empty = refl
keyword_ascii word.External = refl
keyword_ascii word.Grammar = refl
keyword_ascii word.Include = refl
keyword_ascii word.Inherit = refl
keyword_ascii word.List = refl
keyword_ascii word.Mixed = refl
keyword_ascii word.Namespace = refl
keyword_ascii word.NotAllowed = refl
keyword_ascii word.Parent = refl
keyword_ascii word.Start = refl
keyword_ascii word.String = refl
keyword_ascii word.Text = refl
keyword_ascii word.Token = refl

keyword_found : (k : Keyword) → keyword_of (keyword_text k) ≡ Some k
unfolding keyword_of
keyword_found word.Attribute = refl
keyword_found word.Default = refl
keyword_found word.Datatypes = refl
keyword_found word.Div = refl
keyword_found word.Element = refl
keyword_found word.Empty = refl
keyword_found word.External = refl
keyword_found word.Grammar = refl
keyword_found word.Include = refl
keyword_found word.Inherit = refl
keyword_found word.List = refl
keyword_found word.Mixed = refl
keyword_found word.Namespace = refl
keyword_found word.NotAllowed = refl
keyword_found word.Parent = refl
keyword_found word.Start = refl
keyword_found word.String = refl
keyword_found word.Text = refl
keyword_found word.Token = refl

-- the UTF-8 of these letters is that of a keyword where they spell it
utf8_keyword : (letters : List Letter) (k : Keyword) → said letters ≡ keyword_text k → utf8 letters ≡ keyword_text k
utf8_keyword letters k e = ap encode_utf8_all e ∙ keyword_ascii k

keyword_said : (letters : List Letter) (k : Keyword) → keyword_text k ≡ utf8 letters → said letters ≡ keyword_text k
keyword_said letters k e = sym (encodes_same (keyword_text k) (said letters) (keyword_ascii k ∙ e))

found_passes : (p : Keyword → Bool) (ks : List Keyword) (k : Keyword) → find p ks ≡ Some k → p k ≡ true
found_passes p [] k e = absurd cc
found_passes p (x ∷ ks) k e =
    elim (cases_Bool (p x)) [
      | inl passes ↦ let found : find p (x ∷ ks) ≡ Some x = rw passes refl in let same : x ≡ k = cc in ap p (sym same) ∙ passes
      | inr fails ↦ let found : find p (x ∷ ks) ≡ find p ks = rw fails refl in found_passes p ks k (sym found ∙ e)
    ]

pub keyword_is : (letters : List Letter) (k : Keyword) → said letters ≡ keyword_text k → word_of (utf8 letters) ≡ lexeme.Keyword k
unfolding word_of
keyword_is letters k e =
    let text = utf8_keyword letters k e in
    ap (λ (t : List ℕ). keyword_or t (keyword_of t)) text ∙ ap (keyword_or (keyword_text k)) (keyword_found k)

-- which keyword the letters are, if they are one
pub keyword_means : (letters : List Letter) (found : Option Keyword) → keyword_of (utf8 letters) ≡ found → (found ≡ None) ⊎ ((k : Keyword) × (found ≡ Some k) × (said letters ≡ keyword_text k))
unfolding keyword_of
keyword_means letters None e = inl refl
keyword_means letters (Some k) e = inr (k, refl, keyword_said letters k ((bytes_eq-Decides (keyword_text k) (utf8 letters)).0 (found_passes (λ k. bytes_eq (keyword_text k) (utf8 letters)) keywords k e)))

no_keyword : (letters : List Letter) → keyword_of (utf8 letters) ≡ None → (k : Keyword) → said letters ≢ keyword_text k
no_keyword letters none k e = let found = ap keyword_of (utf8_keyword letters k e) ∙ keyword_found k in absurd cc

pub identifier_is : (letters : List Letter) → ((k : Keyword) → said letters ≢ keyword_text k) → word_of (utf8 letters) ≡ lexeme.Identifier (utf8 letters)
unfolding word_of
identifier_is letters none =
    elim (keyword_means letters (keyword_of (utf8 letters)) refl) [
      | inl e ↦ ap (keyword_or (utf8 letters)) e
      | inr (k, e, is) ↦ absurd (none k is)
    ]

-- a name that is no prefix is a token
pub plain_stands : (letters rest : List Letter) → IsPlainName letters rest → Stands letters rest (word_of (utf8 letters))
plain_stands letters rest name =
    elim (keyword_means letters (keyword_of (utf8 letters)) refl) [
      | inl e ↦ let none = no_keyword letters e in identifier name none (identifier_is letters none)
      | inr (k, e, is) ↦ keyword k name is (keyword_is letters k is)
    ]

-- ---- NCNames

-- the letter may stand in an NCName
abbrev pub in_name : Letter → Bool
in_name letter = is_nc_name_char letter.character

pub record IsName (letters : List Letter) : Type 0 where
  pub first : Letter
  pub more : List Letter
  pub letters_are : letters ≡ first ∷ more
  pub begins : begins_nc_name first.character ≡ true
  pub all : Pass in_name more

rest_in_name : (letters : List Letter) → list_all is_name_char (said letters) ≡ true → list_all (λ c. not (eqb c 58)) (said letters) ≡ true → Pass in_name letters
rest_in_name [] h k = tt
rest_in_name (letter ∷ letters) h k =
    let a = and_parts (is_name_char letter.character) (list_all is_name_char (said letters)) h in
    let b = and_parts (not (eqb letter.character 58)) (list_all (λ c. not (eqb c 58)) (said letters)) k in
    (both _ _ a.0 b.0, rest_in_name letters a.1 b.1)

in_name_rest : (letters : List Letter) → Pass in_name letters → (list_all is_name_char (said letters) ≡ true) × (list_all (λ c. not (eqb c 58)) (said letters) ≡ true)
in_name_rest [] h = (refl, refl)
in_name_rest (letter ∷ letters) (h, more) =
    let a = and_parts (is_name_char letter.character) (not (eqb letter.character 58)) h in
    let b = in_name_rest letters more in
    (both _ _ a.0 b.0, both _ _ a.1 b.1)

pub name_parts : (letters : List Letter) → is_nc_name (said letters) ≡ true → IsName letters
name_parts [] h = absurd cc
name_parts (first ∷ more) h =
    let a = and_parts (is_name (said (first ∷ more))) (list_all (λ c. not (eqb c 58)) (said (first ∷ more))) h in
    let b = and_parts (is_name_start first.character) (list_all is_name_char (said more)) a.0 in
    let d = and_parts (not (eqb first.character 58)) (list_all (λ c. not (eqb c 58)) (said more)) a.1 in
    record { first = first; more = more; letters_are = refl; begins = both _ _ b.0 d.0; all = rest_in_name more b.1 d.1 }

pub parts_name : (first : Letter) (more : List Letter) → begins_nc_name first.character ≡ true → Pass in_name more → is_nc_name (said (first ∷ more)) ≡ true
parts_name first more begins all =
    let a = and_parts (is_name_start first.character) (not (eqb first.character 58)) begins in
    let b = in_name_rest more all in
    both _ _ (both _ _ a.0 b.0) (both _ _ a.1 b.1)

-- behind a name no letter stands that may stand in it
pub name_ends : (rest : List Letter) → (Begins is_nc_name_char (said rest) → ⊥) → FirstFails in_name rest
name_ends [] h = tt
name_ends (letter ∷ rest) h = elim (cases_Bool (in_name letter)) [ inl is ↦ absurd (h is) | inr is ↦ is ]

pub ends_name : (rest : List Letter) → FirstFails in_name rest → Begins is_nc_name_char (said rest) → ⊥
ends_name [] h begun = begun
ends_name (letter ∷ rest) h begun = absurd cc
