-- What stands at the front of letters is read, and what is read stands there.
use Rattle.std.proofs.Common.{◌≡◌, ℕ, ◌<◌, ◌≤◌, Bool, true, false, not, eqb, ◌&&◌, List, [], ◌∷◌, ◌++◌, length, drop, Option, Some, None, Result, Ok, Err, refl, sym, ap, subst, ◌∙◌, arith, inl, inr}
use Rattle.std.proofs.lemmas.Bool.{cases_Bool, eqb-true, ne_eqb, eq-eqb, and_parts, or_cases}
use Rattle.std.proofs.lemmas.Bool.Decides.{nat_tests}
use Rattle.nx_base.specs.Characters.{is_space, is_name_start, is_quote}
use Rattle.rnc_lex.specs.declared.front.Front.{Front}
use Rattle.rnc_lex.specs.declared.letter.Letter.{Letter}
use Rattle.rnc_lex.specs.declared.fault.LexFault.{LexFault}
use Rattle.rnc_lex.specs.declared.token.Lexeme.{Lexeme}
use Rattle.rnc_lex.specs.Tokens.{begins_nc_name, Stands, identifier, keyword, escaped_identifier, prefixed_name, namespace_wildcard, short_literal as short_stands, long_literal as long_stands, symbol, IsPassedOver, space, comment, BeginsNothing}
use Rattle.rnc_lex.specs.Reading.{front, front_of, literal, escaped_name, named, marked, comment_len}
use Rattle.rnc_lex.proofs.Meant.{Meant, is_meant, IsFront}
use Rattle.rnc_lex.proofs.Names.{IsName, name_parts, keyword_is, identifier_is}
use Rattle.rnc_lex.proofs.NamesRead.{plain_read, prefixed_read, wildcard_read, escaped_read, named_meant, escaped_meant}
use Rattle.rnc_lex.proofs.LiteralsRead.{short_read, long_read, three_letters, literal_meant}
use Rattle.rnc_lex.proofs.MarksRead.{is_other, mark_read, marked_meant, comment_read, comment_meant}

-- ---- by the first letter

at_space : (first : Letter) (behind : List Letter) → is_space first.character ≡ true → front_of first behind ≡ Ok (front None 0)
unfolding front_of
at_space first behind h = rw h refl

at_comment : (first : Letter) (behind : List Letter) → first.character ≡ 35 → front_of first behind ≡ Ok (front None (comment_len behind))
unfolding front_of is_space
at_comment first behind e = rw e refl

at_quote : (first : Letter) (behind : List Letter) → is_quote first.character ≡ true → front_of first behind ≡ literal first behind
unfolding front_of is_space
at_quote first behind h =
    elim (or_cases (eqb first.character 34) (eqb first.character 39) h) [
      | inl double ↦ rw (eqb-true first.character 34 double) refl
      | inr single ↦ rw (eqb-true first.character 39 single) refl
    ]

at_slash : (first : Letter) (behind : List Letter) → first.character ≡ 92 → front_of first behind ≡ escaped_name first behind
unfolding front_of is_space
at_slash first behind e = rw e refl

space_low : (c : ℕ) → is_space c ≡ true → c < 33
unfolding is_space
space_low c h = grind (arith, nat_tests)

name_high : (c : ℕ) → is_name_start c ≡ true → 58 ≤ c
unfolding is_name_start
name_high c h = grind (arith, nat_tests)

-- where no earlier case applies
from_tests : (first : Letter) (behind : List Letter) → is_space first.character ≡ false → eqb first.character 35 ≡ false → is_quote first.character ≡ false → eqb first.character 92 ≡ false → (begins : Bool) → begins_nc_name first.character ≡ begins
    → (begins ≡ true → front_of first behind ≡ named first behind) × (begins ≡ false → front_of first behind ≡ marked first behind)
unfolding front_of
from_tests first behind a b c d begins e = (λ h. rw (a, b, c, d, e ∙ h) refl, λ h. rw (a, b, c, d, e ∙ h) refl)

at_name : (first : Letter) (behind : List Letter) → begins_nc_name first.character ≡ true → front_of first behind ≡ named first behind
unfolding is_name_start
at_name first behind h =
    let c = first.character in
    let parts = and_parts (is_name_start c) (not (eqb c 58)) h in
    let high = name_high c parts.0 in
    let no_space : is_space c ≡ false = elim (cases_Bool (is_space c)) [
      | inl is ↦ let low = space_low c is in absurd (omega arith)
      | inr is ↦ is
    ] in
    let no_hash = ne_eqb c 35 (λ e. absurd (omega arith)) in
    let no_double = ne_eqb c 34 (λ e. absurd (omega arith)) in
    let no_single = ne_eqb c 39 (λ e. absurd (omega arith)) in
    let no_quote : is_quote c ≡ false = rw (no_double, no_single) refl in
    let no_slash = ne_eqb c 92 (λ e. let none : is_name_start c ≡ false = rw e refl in absurd cc) in
    (from_tests first behind no_space no_hash no_quote no_slash true h).0 refl

no_of : (b : Bool) → not b ≡ true → b ≡ false
no_of true e = absurd cc
no_of false e = refl

at_other : (first : Letter) (behind : List Letter) → is_other first.character ≡ true → front_of first behind ≡ marked first behind
at_other first behind h =
    let c = first.character in
    let a = and_parts (not (is_space c)) (not (eqb c 35) && (not (is_quote c) && (not (eqb c 92) && not (begins_nc_name c)))) h in
    let b = and_parts (not (eqb c 35)) (not (is_quote c) && (not (eqb c 92) && not (begins_nc_name c))) a.1 in
    let d = and_parts (not (is_quote c)) (not (eqb c 92) && not (begins_nc_name c)) b.1 in
    let e = and_parts (not (eqb c 92)) (not (begins_nc_name c)) d.1 in
    (from_tests first behind (no_of (is_space c) a.0) (no_of (eqb c 35) b.0) (no_of (is_quote c) d.0) (no_of (eqb c 92) e.0) false (no_of (begins_nc_name c) e.1)).1 refl

-- ---- what stands there is read

same_first : (letters as_ bs : List Letter) (a b : Letter) → letters ≡ a ∷ as_ → letters ≡ b ∷ bs → a ≡ b
same_first letters as_ bs a b e f = cc

at_front : (reads : Letter → List Letter → Result Front LexFault) (letters rest : List Letter) (found : Option Lexeme) (r : IsFront reads letters rest found) → front_of r.first (r.more ++ rest) ≡ reads r.first (r.more ++ rest) → IsFront front_of letters rest found
at_front reads letters rest found r same = record { first = r.first; more = r.more; letters_are = r.letters_are; reads_so = same ∙ r.reads_so }

-- by a test that the first letter passes
passing : (test : ℕ → Bool) (reads : Letter → List Letter → Result Front LexFault) → ((first : Letter) (behind : List Letter) → test first.character ≡ true → front_of first behind ≡ reads first behind)
    → (letters rest : List Letter) (found : Option Lexeme) → IsFront reads letters rest found → (a : Letter) (others : List Letter) → letters ≡ a ∷ others → test a.character ≡ true → IsFront front_of letters rest found
passing test reads same letters rest found r a others e h =
    let first_is = same_first letters r.more others r.first a r.letters_are e in
    at_front reads letters rest found r (same r.first (r.more ++ rest) (ap (λ (l : Letter). test l.character) first_is ∙ h))

name_first : (letters rest : List Letter) (found : Option Lexeme) → IsFront named letters rest found → (name others : List Letter) → letters ≡ name ++ others → (n : IsName name) → IsFront front_of letters rest found
name_first letters rest found r name others e n =
    passing begins_nc_name named at_name letters rest found r n.first (n.more ++ others) (e ∙ ap (λ (t : List Letter). t ++ others) n.letters_are) n.begins

pub front_stands : (letters rest : List Letter) (found : Lexeme) → Stands letters rest found → IsFront front_of letters rest (Some found)
front_stands letters rest found (identifier name none what) =
    let n = name_parts letters name.0.0 in
    passing begins_nc_name named at_name letters rest (Some found) (plain_read letters rest found name (identifier_is letters none ∙ sym what)) n.first n.more n.letters_are n.begins
front_stands letters rest found (keyword k name is what) =
    let n = name_parts letters name.0.0 in
    passing begins_nc_name named at_name letters rest (Some found) (plain_read letters rest found name (keyword_is letters k is ∙ sym what)) n.first n.more n.letters_are n.begins
front_stands letters rest found (escaped_identifier mark name e is whole what) =
    passing (λ c. eqb c 92) escaped_name (λ first behind h. at_slash first behind (eqb-true first.character 92 h)) letters rest (Some found) (escaped_read letters rest mark name found e whole what) mark name e (eq-eqb mark.character 92 is)
front_stands letters rest found (prefixed_name name local colon e is_name is whole what) =
    name_first letters rest (Some found) (prefixed_read letters rest name local colon found e is_name is whole what) name (colon ∷ local) e (name_parts name is_name)
front_stands letters rest found (namespace_wildcard name mark e is_name is what) =
    name_first letters rest (Some found) (wildcard_read letters rest name mark found e is_name is what) name mark e (name_parts name is_name)
front_stands letters rest found (short_stands first last inside e quote same all alone what) =
    passing is_quote literal at_quote letters rest (Some found) (short_read letters rest first last inside found e same all alone what) first (inside ++ last ∷ []) e quote
front_stands letters rest found (long_stands quote before inside behind e is opens closes none what) =
    let o = three_letters quote before opens in
    passing is_quote literal at_quote letters rest (Some found) (long_read letters rest quote before inside behind found e opens closes none what)
    o.x (o.y ∷ o.z ∷ (inside ++ behind)) (e ∙ ap (λ (t : List Letter). t ++ inside ++ behind) o.letters_are) (ap is_quote o.x_is ∙ is)
front_stands letters rest found (symbol s text longest what) =
    let m = mark_read letters rest s found text longest what in
    at_front marked letters rest (Some found) m.read (at_other m.read.first (m.read.more ++ rest) m.other)

pub front_passed : (letters rest : List Letter) → IsPassedOver letters rest → IsFront front_of letters rest None
front_passed letters rest (space letter e is) = record { first = letter; more = []; letters_are = e; reads_so = at_space letter rest is }
front_passed letters rest (comment mark inside e is all ends) =
    record { first = mark; more = inside; letters_are = e; reads_so = at_comment mark (inside ++ rest) is ∙ ap (λ n. Ok (front None n)) (comment_read inside rest all ends) }

-- ---- what is read stands there

pub front_meant : (first : Letter) (behind : List Letter) → Meant first behind (front_of first behind)
front_meant first behind =
    let c = first.character in
    elim (cases_Bool (is_space c)) [
      | inl blank ↦ subst (Meant first behind) (sym (at_space first behind blank)) (is_meant first behind [] behind 0 None refl refl (space first refl blank))
      | inr blank ↦
          elim (cases_Bool (eqb c 35)) [
            | inl hash ↦ let is = eqb-true c 35 hash in subst (Meant first behind) (sym (at_comment first behind is)) (comment_meant first behind is)
            | inr hash ↦
                elim (cases_Bool (is_quote c)) [
                  | inl quote ↦ subst (Meant first behind) (sym (at_quote first behind quote)) (literal_meant first behind quote _ refl)
                  | inr quote ↦
                      elim (cases_Bool (eqb c 92)) [
                        | inl slash ↦ let is = eqb-true c 92 slash in subst (Meant first behind) (sym (at_slash first behind is)) (escaped_meant first behind is)
                        | inr slash ↦
                            elim (cases_Bool (begins_nc_name c)) [
                              | inl begins ↦ subst (Meant first behind) (sym (at_name first behind begins)) (named_meant first behind begins)
                              | inr begins ↦ subst (Meant first behind) (sym ((from_tests first behind blank hash quote slash false begins).1 refl)) (marked_meant first behind quote)
                            ]
                      ]
                ]
          ]
    ]

-- where a fault is read nothing begins
read_once : (first : Letter) (behind letters rest : List Letter) (found : Option Lexeme) (fault : LexFault) → front_of first behind ≡ Err fault → first ∷ behind ≡ letters ++ rest → IsFront front_of letters rest found → ⊥
read_once first behind letters rest found fault e same r =
    let whole : first ∷ behind ≡ r.first ∷ (r.more ++ rest) = same ∙ ap (λ (t : List Letter). t ++ rest) r.letters_are in
    let first_is : first ≡ r.first = cc in
    let behind_are : behind ≡ r.more ++ rest = ap (drop 1) whole in
    let read : front_of first behind ≡ Ok (front found (length r.more)) = ap (λ (l : Letter). front_of l behind) first_is ∙ ap (front_of r.first) behind_are ∙ r.reads_so in
    absurd cc

pub fault_begins_nothing : (first : Letter) (behind : List Letter) (fault : LexFault) → front_of first behind ≡ Err fault → BeginsNothing (first ∷ behind)
fault_begins_nothing first behind fault e = (
  λ letters more found same stands. read_once first behind letters more (Some found) fault e same (front_stands letters more found stands),
  λ letters more same passed. read_once first behind letters more None fault e same (front_passed letters more passed),
)
