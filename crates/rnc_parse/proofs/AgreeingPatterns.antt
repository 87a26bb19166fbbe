-- Patterns and items of the grammar are found.
use Rattle.std.proofs.Common.{◌≡◌, ℕ, zero, suc, ◌+◌, Bool, true, false, cond, List, [], ◌∷◌, codes, Option, Some, None, refl, sym, ap, subst, ◌∙◌, arith}
use Rattle.std.proofs.lemmas.Bool.{false≢true}
use Rattle.rnc_lex.specs.declared.token.Lexeme.{Lexeme}
use Rattle.rnc_lex.specs.declared.token.Lexeme.TheVariants.{Identifier, Literal, Keyword as word, Symbol as mark}
use Rattle.rnc_lex.specs.declared.token.Symbol.{Symbol}
use Rattle.rnc_lex.specs.declared.token.Symbol.TheVariants.{LeftBrace, RightBrace, LeftParenthesis, RightParenthesis, LeftBracket, Comma, Bar, Ampersand, QuestionMark, Star, Plus, Minus, Tilde, Follows}
use Rattle.rnc_lex.specs.declared.token.Keyword.TheVariants as keyword
use Rattle.rnc_parse.specs.declared.surface.Namespace.{Namespace}
use Rattle.rnc_parse.specs.declared.surface.Namespace.TheVariants.{Uri}
use Rattle.rnc_parse.specs.declared.surface.TypeName.{TypeName}
use Rattle.rnc_parse.specs.declared.surface.Param.{Param}
use Rattle.rnc_parse.specs.declared.surface.FileReference.{FileReference}
use Rattle.rnc_parse.specs.declared.surface.Defined.{Defined}
use Rattle.rnc_parse.specs.declared.surface.Combine.{Combine}
use Rattle.rnc_parse.specs.declared.sign.Sign.{Sign}
use Rattle.rnc_parse.specs.declared.sign.Sign.TheVariants as sign
use Rattle.rnc_parse.specs.declared.sign.Repeat.{Repeat}
use Rattle.rnc_parse.specs.declared.sign.Repeat.TheVariants as repeat
use Rattle.rnc_parse.specs.Scopes.{Scope}
use Rattle.rnc_parse.specs.Written.{WrittenClass, WrittenPattern, element, attribute, list, mixed, ref, parent_ref, empty, any_text, not_allowed, value, typed, typed_but, external, grammar, WrittenItem, define, div, include, WrittenItems, no_items, item_then, items_and, WrittenReplacement, define_anew, div_anew, WrittenReplacements, no_replacements, replacement_then, replacements_and, joined}
use Rattle.rnc_parse.specs.Annotations.{IsPlain, Closes, braces, parentheses, IsGroup, bracketed, MayBegin, without_group, with_group, NamesElement, by_identifier, by_prefixed_name, Follow, no_more, one_more}
use Rattle.rnc_parse.specs.Classes.{IsClass}
use Rattle.rnc_parse.specs.Parts.{IsLiteral, one_literal, joined_literals, built_in, IsType, library_type, string_type, token_type, MayHaveParams, without_params, with_params, IsReference}
use Rattle.rnc_parse.specs.Grammar.{Joins, by_comma, by_bar, by_ampersand, Repeats, by_question_mark, by_star, by_plus, IsDefined, start_defined, name_defined, IsCombine, alone, by_choice, by_interleave, IsPattern, one_particle, several_particles, type_but, AreMoreParticles, last_particle, next_particle, IsParticle, once, repeated, annotated, IsPrimary, an_element, an_attribute, a_list, a_mixed, a_reference, a_parent_reference, is_empty, is_text, is_not_allowed, untyped_value, typed_value, a_type, an_external, a_grammar_of, parenthesized, AreItems, no_more_items, next_item, item_annotation, IsItem, a_definition, a_div, an_include, an_include_but, AreReplacements, no_more_replacements, next_replacement, replacement_annotation, IsReplacement, a_definition_anew, a_div_anew}
use Rattle.rnc_parse.specs.Reading.{Reading, read, ◌>>=◌, first, behind, stands, behind_symbol, loop_at}
use Rattle.rnc_parse.specs.ReadingAnnotations.{opening_at, follow_at}
use Rattle.rnc_parse.specs.ReadingParts.{literal_at, is_literal, identifier_at, type_at, begins_data, goes_on, params_at, is_inherit, reference_at}
use Rattle.rnc_parse.specs.ReadingClasses.{class_at}
use Rattle.rnc_parse.specs.ReadingPatterns.{sign_of, joins, sign_symbol, repeat_of, repeats, defined_of, combine_of, begins_annotation, add_item, add_replacement, Inside, between, typed_at, leaf_at, marked_at, named_at, primary_at, opened_primary_at, particle_at, joined_by, behind_primary_at, data_at, pattern_within, definition_at, include_at, item_by, item_at, items_within, replacement_by, replacement_at, replacements_within, inside_at}
use Rattle.rnc_parse.proofs.Loops.{loop_on, loop_ends}
use Rattle.rnc_parse.proofs.Passing.{fits_opening, fits_one, token, ◌then◌, passes_opening, passes_group, passes_follow, passes_class, passes_param_braces, passes_reference, passes_primary, passes_particle, passes_item, passes_replacement, plain_type, plain_repeat, plain_defined, plain_combine, plain_element_name}
use Rattle.rnc_parse.proofs.Shortening.{particle_shortens, item_shortens, replacement_shortens}
use Rattle.rnc_parse.proofs.SoundPatterns.{items_and_none, items_and_one, replacements_and_none, replacements_and_one}
use Rattle.rnc_parse.proofs.Agreeing.{Agrees, found, agree_bind, sure, agree_as, stands_itself, behind_itself, group_found, opening_found, follow_found, literal_found, type_agrees, params_are_found, reference_agrees}
use Rattle.rnc_parse.proofs.AgreeingClasses.{Counts, counts_behind, class_ends_brace, class_agrees}

-- ---- what may follow

-- tokens that go on with a primary, not counting what follows it
abbrev pub goes_with_leaf : Option Lexeme → Bool
goes_with_leaf (Some (mark Tilde)) = true
goes_with_leaf (Some (mark Minus)) = true
goes_with_leaf (Some (mark LeftBrace)) = true
goes_with_leaf (Some (Literal text)) = true
goes_with_leaf (Some (word keyword.Inherit)) = true
goes_with_leaf _ = false

-- and with a particle
abbrev pub goes_with_particle : Option Lexeme → Bool
goes_with_particle (Some (mark Follows)) = true
goes_with_particle (Some (mark QuestionMark)) = true
goes_with_particle (Some (mark Star)) = true
goes_with_particle (Some (mark Plus)) = true
goes_with_particle token = goes_with_leaf token

-- and with a pattern
abbrev pub goes_with_pattern : Option Lexeme → Bool
goes_with_pattern (Some (mark Comma)) = true
goes_with_pattern (Some (mark Bar)) = true
goes_with_pattern (Some (mark Ampersand)) = true
goes_with_pattern token = goes_with_particle token

record EndsLeaf (rest : List Lexeme) : Type 0 where
  pub no_tilde : stands Tilde rest ≡ false
  pub no_minus : stands Minus rest ≡ false
  pub no_brace : stands LeftBrace rest ≡ false
  pub no_literal : is_literal (first rest) ≡ false
  pub no_inherit : is_inherit (first rest) ≡ false

ends_leaf : (rest : List Lexeme) → goes_with_leaf (first rest) ≡ false → EndsLeaf rest
unfolding first
ends_leaf (mark Tilde ∷ rest) e = absurd (false≢true (sym e))
ends_leaf (mark Minus ∷ rest) e = absurd (false≢true (sym e))
ends_leaf (mark LeftBrace ∷ rest) e = absurd (false≢true (sym e))
ends_leaf (Literal text ∷ rest) e = absurd (false≢true (sym e))
ends_leaf (word keyword.Inherit ∷ rest) e = absurd (false≢true (sym e))
ends_leaf _ e = record { no_tilde = refl; no_minus = refl; no_brace = refl; no_literal = refl; no_inherit = refl }

record EndsParticle (rest : List Lexeme) : Type 0 where
  pub leaf : goes_with_leaf (first rest) ≡ false
  pub no_follower : stands Follows rest ≡ false
  pub no_repeat : repeat_of (first rest) ≡ None

ends_particle : (rest : List Lexeme) → goes_with_particle (first rest) ≡ false → EndsParticle rest
unfolding first
ends_particle (mark Follows ∷ rest) e = absurd (false≢true (sym e))
ends_particle (mark QuestionMark ∷ rest) e = absurd (false≢true (sym e))
ends_particle (mark Star ∷ rest) e = absurd (false≢true (sym e))
ends_particle (mark Plus ∷ rest) e = absurd (false≢true (sym e))
ends_particle (mark Tilde ∷ rest) e = absurd (false≢true (sym e))
ends_particle (mark Minus ∷ rest) e = absurd (false≢true (sym e))
ends_particle (mark LeftBrace ∷ rest) e = absurd (false≢true (sym e))
ends_particle (Literal text ∷ rest) e = absurd (false≢true (sym e))
ends_particle (word keyword.Inherit ∷ rest) e = absurd (false≢true (sym e))
ends_particle _ e = record { leaf = refl; no_follower = refl; no_repeat = refl }

record EndsPattern (rest : List Lexeme) : Type 0 where
  pub particle : goes_with_particle (first rest) ≡ false
  pub no_sign : sign_of (first rest) ≡ None

ends_pattern : (rest : List Lexeme) → goes_with_pattern (first rest) ≡ false → EndsPattern rest
unfolding first
ends_pattern (mark Comma ∷ rest) e = absurd (false≢true (sym e))
ends_pattern (mark Bar ∷ rest) e = absurd (false≢true (sym e))
ends_pattern (mark Ampersand ∷ rest) e = absurd (false≢true (sym e))
ends_pattern (mark Follows ∷ rest) e = absurd (false≢true (sym e))
ends_pattern (mark QuestionMark ∷ rest) e = absurd (false≢true (sym e))
ends_pattern (mark Star ∷ rest) e = absurd (false≢true (sym e))
ends_pattern (mark Plus ∷ rest) e = absurd (false≢true (sym e))
ends_pattern (mark Tilde ∷ rest) e = absurd (false≢true (sym e))
ends_pattern (mark Minus ∷ rest) e = absurd (false≢true (sym e))
ends_pattern (mark LeftBrace ∷ rest) e = absurd (false≢true (sym e))
ends_pattern (Literal text ∷ rest) e = absurd (false≢true (sym e))
ends_pattern (word keyword.Inherit ∷ rest) e = absurd (false≢true (sym e))
ends_pattern _ e = record { particle = refl; no_sign = refl }

-- what follows a primary doesn't go on with it
follow_ends_leaf : {tokens rest : List Lexeme} →
    Follow tokens rest → goes_with_leaf (first rest) ≡ false → goes_with_leaf (first tokens) ≡ false
unfolding first
follow_ends_leaf no_more e = e
follow_ends_leaf (one_more name g later) e = refl

repeat_ends_leaf : {s : Symbol} {r : WrittenPattern → WrittenPattern} (rest : List Lexeme) →
    Repeats s r → goes_with_leaf (first (mark s ∷ rest)) ≡ false
unfolding first
repeat_ends_leaf rest by_question_mark = refl
repeat_ends_leaf rest by_star = refl
repeat_ends_leaf rest by_plus = refl

repeat_no_follower : {s : Symbol} {r : WrittenPattern → WrittenPattern} (rest : List Lexeme) →
    Repeats s r → stands Follows (mark s ∷ rest) ≡ false
unfolding first
repeat_no_follower rest by_question_mark = refl
repeat_no_follower rest by_star = refl
repeat_no_follower rest by_plus = refl

-- the repeat that a mark is
record IsRepeat (s : Symbol) (r : WrittenPattern → WrittenPattern) (rest : List Lexeme) : Type 0 where
  pub which : Repeat
  pub is : repeat_of (first (mark s ∷ rest)) ≡ Some which
  pub makes : (p : WrittenPattern) → repeats which p ≡ r p

repeat_is : {s : Symbol} {r : WrittenPattern → WrittenPattern} (rest : List Lexeme) → Repeats s r → IsRepeat s r rest
unfolding first
repeat_is rest by_question_mark = record { which = repeat.Optional; is = refl; makes = λ p. refl }
repeat_is rest by_star = record { which = repeat.ZeroOrMore; is = refl; makes = λ p. refl }
repeat_is rest by_plus = record { which = repeat.OneOrMore; is = refl; makes = λ p. refl }

-- the sign that a mark is
pub record IsSign (s : Symbol) (j : WrittenPattern → WrittenPattern → WrittenPattern) : Type 0 where
  pub which : Sign
  pub symbol : sign_symbol which ≡ s
  pub is : (rest : List Lexeme) → sign_of (first (mark s ∷ rest)) ≡ Some which
  pub makes : joins which ≡ j
  pub ends : (rest : List Lexeme) → goes_with_particle (first (mark s ∷ rest)) ≡ false

pub sign_is : {s : Symbol} {j : WrittenPattern → WrittenPattern → WrittenPattern} → Joins s j → IsSign s j
unfolding first
sign_is by_comma = record { which = sign.Group; symbol = refl; is = λ rest. refl; makes = refl; ends = λ rest. refl }
sign_is by_bar = record { which = sign.Choice; symbol = refl; is = λ rest. refl; makes = refl; ends = λ rest. refl }
sign_is by_ampersand = record { which = sign.Interleave; symbol = refl; is = λ rest. refl; makes = refl; ends = λ rest. refl }

no_sign_stands : (w : Sign) (rest : List Lexeme) → goes_with_pattern (first rest) ≡ false → stands (sign_symbol w) rest ≡ false
unfolding first
no_sign_stands w (mark Comma ∷ rest) e = absurd (false≢true (sym e))
no_sign_stands w (mark Bar ∷ rest) e = absurd (false≢true (sym e))
no_sign_stands w (mark Ampersand ∷ rest) e = absurd (false≢true (sym e))
no_sign_stands sign.Group _ e = refl
no_sign_stands sign.Choice _ e = refl
no_sign_stands sign.Interleave _ e = refl

pub more_begin_with : {scope : Scope} {s : Symbol} {tokens rest : List Lexeme} {ps : List WrittenPattern} →
    AreMoreParticles scope s tokens ps rest → (inside : List Lexeme) × (tokens ≡ mark s ∷ inside)
more_begin_with (last_particle p) = (_, refl)
more_begin_with (next_particle p later) = (_, refl)

-- ---- how primaries begin

literal_front : {tokens rest : List Lexeme} {text : List ℕ} → IsLiteral tokens text rest → is_literal (first tokens) ≡ true
unfolding first
literal_front one_literal = refl
literal_front (joined_literals later e) = refl

pub primary_no_group : {scope : Scope} {tokens rest : List Lexeme} {p : WrittenPattern} →
    IsPrimary scope tokens p rest → stands LeftBracket tokens ≡ false
unfolding first
primary_no_group (an_element c p) = refl
primary_no_group (an_attribute c p) = refl
primary_no_group (a_list p) = refl
primary_no_group (a_mixed p) = refl
primary_no_group a_reference = refl
primary_no_group a_parent_reference = refl
primary_no_group is_empty = refl
primary_no_group is_text = refl
primary_no_group is_not_allowed = refl
primary_no_group (untyped_value one_literal) = refl
primary_no_group (untyped_value (joined_literals later e)) = refl
primary_no_group (typed_value (library_type e) l) = refl
primary_no_group (typed_value string_type l) = refl
primary_no_group (typed_value token_type l) = refl
primary_no_group (a_type (library_type e) ps) = refl
primary_no_group (a_type string_type ps) = refl
primary_no_group (a_type token_type ps) = refl
primary_no_group (an_external f) = refl
primary_no_group (a_grammar_of items) = refl
primary_no_group (parenthesized p) = refl

pub type_no_group : {scope : Scope} {k : Lexeme} {type : TypeName} (rest : List Lexeme) →
    IsType scope k type → stands LeftBracket (k ∷ rest) ≡ false
unfolding first
type_no_group rest (library_type e) = refl
type_no_group rest string_type = refl
type_no_group rest token_type = refl

type_begins_data : {scope : Scope} {k : Lexeme} {type : TypeName} (rest : List Lexeme) →
    IsType scope k type → is_literal (first rest) ≡ false → begins_data (k ∷ rest) ≡ true
unfolding first behind
type_begins_data rest (library_type e) none = rw none refl
type_begins_data rest string_type none = rw none refl
type_begins_data rest token_type none = rw none refl

params_no_literal : {tokens rest : List Lexeme} {ps : List Param} →
    MayHaveParams tokens ps rest → is_literal (first rest) ≡ false → is_literal (first tokens) ≡ false
unfolding first
params_no_literal without_params e = e
params_no_literal (with_params inside) e = refl

-- a primary is a type with its params, or begins no such type
data Kind (scope : Scope) (tokens : List Lexeme) (rest : List Lexeme) : WrittenPattern → Type 0 where
  no_data : {p : WrittenPattern} → begins_data tokens ≡ false → Kind scope tokens rest p
  some_data : {k : Lexeme} {type : TypeName} {params : List Param} {inside : List Lexeme} →
      tokens ≡ k ∷ inside → IsType scope k type → MayHaveParams inside params rest → Kind scope tokens rest (typed type params)

typed_no_data : {scope : Scope} {k : Lexeme} {type : TypeName} (rest : List Lexeme) →
    IsType scope k type → is_literal (first rest) ≡ true → begins_data (k ∷ rest) ≡ false
unfolding first behind
typed_no_data rest (library_type e) some = rw some refl
typed_no_data rest string_type some = rw some refl
typed_no_data rest token_type some = rw some refl

kind_of : {scope : Scope} {tokens rest : List Lexeme} {p : WrittenPattern} → IsPrimary scope tokens p rest → Kind scope tokens rest p
unfolding first behind
kind_of (an_element c p) = no_data refl
kind_of (an_attribute c p) = no_data refl
kind_of (a_list p) = no_data refl
kind_of (a_mixed p) = no_data refl
kind_of a_reference = no_data refl
kind_of a_parent_reference = no_data refl
kind_of is_empty = no_data refl
kind_of is_text = no_data refl
kind_of is_not_allowed = no_data refl
kind_of (untyped_value one_literal) = no_data refl
kind_of (untyped_value (joined_literals later e)) = no_data refl
kind_of (typed_value {tokens = t} type l) = no_data (typed_no_data t type (literal_front l))
kind_of (a_type type ps) = some_data refl type ps
kind_of (an_external f) = no_data refl
kind_of (a_grammar_of items) = no_data refl
kind_of (parenthesized p) = no_data refl

-- ---- from the parts

module _ (d s : Scope) where
  typed_agrees : {k : Lexeme} {type : TypeName} {params : List Param} {inside rest : List Lexeme} →
      IsType s k type → MayHaveParams inside params rest → goes_with_leaf (first rest) ≡ false →
      Agrees d s (typed type params) rest (typed_at d (k ∷ inside))
  unfolding typed_at
  typed_agrees {k = k} {params = ps} {inside = i} {rest = r} type params e =
      agree_bind (type_at d (k ∷ i)) _ (type_agrees i type) (λ t same.
      rw (params_no_literal params (ends_leaf r e).no_literal)
      (sure (params_at i) _ (params_are_found params (ends_leaf r e).no_brace) (found (λ eq. ap (λ x. typed x ps) (same eq)))))

  typed_value_agrees : {k : Lexeme} {type : TypeName} {text : List ℕ} {inside rest : List Lexeme} →
      IsType s k type → IsLiteral inside text rest → goes_with_leaf (first rest) ≡ false →
      Agrees d s (value type text) rest (typed_at d (k ∷ inside))
  unfolding typed_at
  typed_value_agrees {k = k} {text = x} {inside = i} {rest = r} type l e =
      agree_bind (type_at d (k ∷ i)) _ (type_agrees i type) (λ t same.
      rw (literal_front l)
      (sure (literal_at i) _ (literal_found l (ends_leaf r e).no_tilde) (found (λ eq. ap (λ y. value y x) (same eq)))))

  leaf_of_type : {k : Lexeme} {type : TypeName} (inside : List Lexeme) → IsType s k type → leaf_at d (k ∷ inside) ≡ typed_at d (k ∷ inside)
  unfolding leaf_at first
  leaf_of_type inside (library_type e) = refl
  leaf_of_type inside string_type = refl
  leaf_of_type inside token_type = refl

  leaf_of_literal : {tokens rest : List Lexeme} {text : List ℕ} →
      IsLiteral tokens text rest → stands Tilde rest ≡ false → leaf_at d tokens ≡ read (value (built_in (codes "token")) text) rest
  unfolding leaf_at first
  leaf_of_literal (one_literal {text = x} {rest = r}) e =
      ap (λ y. y >>= λ t left. read (value (built_in (codes "token")) t) left) (literal_found (one_literal {text = x} {rest = r}) e)
  leaf_of_literal (joined_literals {text = x} later same) e =
      ap (λ y. y >>= λ t left. read (value (built_in (codes "token")) t) left) (literal_found (joined_literals {text = x} later same) e)

  external_agrees : {tokens rest : List Lexeme} {file : FileReference} →
      IsReference s tokens file rest → goes_with_leaf (first rest) ≡ false →
      Agrees d s (external file) rest (leaf_at d (word keyword.External ∷ tokens))
  unfolding leaf_at first behind
  external_agrees {tokens = t} {rest = r} f e = agree_bind (reference_at d t) _ (reference_agrees f (ends_leaf r e).no_tilde (ends_leaf r e).no_inherit) (λ x same. found (λ eq. ap external (same eq)))

  -- what stands between two brackets
  between_agrees : {A : Type 0} {value : A} {opening closing : Symbol}
      {tokens rest : List Lexeme} (get : Inside → List Lexeme → Reading A) (before left : ℕ) →
      Closes opening closing → Counts before left (mark opening ∷ tokens) →
      ((l : ℕ) → Counts (before + 1) l tokens → Agrees d s value (mark closing ∷ rest) (get (inside_at d (suc l)) tokens)) →
      Agrees d s value rest (between opening closing (get (inside_at d left)) (mark opening ∷ tokens))
  between_agrees get before zero closes c agrees = let one = fits_one before closes c.fits in let all = c.sum in absurd (omega arith)
  between_agrees {opening = o} {closing = k} {tokens = t} {rest = r} get before (suc l) closes c agrees =
      let all = c.sum in
      sure (behind_symbol o (mark o ∷ t)) _ (behind_itself o t)
      (agree_bind (get (inside_at d (suc l)) t) _ (agrees l (record { most = c.most; fits = fits_opening before closes c.fits; sum = omega arith })) (λ x same.
      sure (behind_symbol k (mark k ∷ r)) _ (behind_itself k r) (found same)))

  module _ (left : ℕ) where
    abbrev primary_of : List Lexeme → Reading WrittenPattern
    primary_of tokens = primary_at d left (inside_at d left) tokens

    abbrev behind_of : WrittenPattern → List Lexeme → Reading WrittenPattern
    behind_of p tokens = behind_primary_at d left (inside_at d left) p tokens

    abbrev particle_of : List Lexeme → Reading WrittenPattern
    particle_of tokens = particle_at d left (inside_at d left) tokens

    abbrev pattern_of : List Lexeme → Reading WrittenPattern
    pattern_of tokens = pattern_within d left (inside_at d left) tokens

    type_is_primary : {k : Lexeme} {type : TypeName} (inside : List Lexeme) →
        IsType s k type → primary_of (k ∷ inside) ≡ leaf_at d (k ∷ inside)
    unfolding primary_at first
    type_is_primary inside (library_type e) = refl
    type_is_primary inside string_type = refl
    type_is_primary inside token_type = refl

    literal_is_primary : {tokens rest : List Lexeme} {text : List ℕ} → IsLiteral tokens text rest → primary_of tokens ≡ leaf_at d tokens
    unfolding primary_at first
    literal_is_primary one_literal = refl
    literal_is_primary (joined_literals later e) = refl

    named_from : {class : WrittenClass} {p : WrittenPattern} {tokens behind_it rest : List Lexeme} (before : ℕ) (u v : Namespace) →
        (s ≡ d → v ≡ u) → (make : WrittenClass → WrittenPattern → WrittenPattern) → Counts before left tokens →
        IsClass s u tokens class (mark LeftBrace ∷ behind_it) →
        ((l : ℕ) → Counts (before + 1) l behind_it → Agrees d s p (mark RightBrace ∷ rest) ((inside_at d (suc l)).pattern behind_it)) →
        Agrees d s (make class p) rest (named_at d left (inside_at d left) v make tokens)
    named_from {class = k} {tokens = t} {behind_it = b} before u v same_namespace make c class agrees =
        agree_bind (class_at d v left t) _ (class_agrees u v same_namespace before left c class (class_ends_brace b)) (λ x same_x.
        agree_bind (between LeftBrace RightBrace (inside_at d left).pattern (mark LeftBrace ∷ b)) _ (between_agrees (λ i. i.pattern) before left braces (counts_behind c (passes_class class)) agrees) (λ q same_q.
        found (λ eq. ap (λ y. make y q) (same_x eq) ∙ ap (make k) (same_q eq))))

    -- a primary with a mark or none behind it
    marked_once : {tokens rest : List Lexeme} (q : WrittenPattern) →
        Follow tokens rest → goes_with_particle (first rest) ≡ false → marked_at q tokens ≡ read q rest
    unfolding marked_at
    marked_once {rest = r} q f e = rw (follow_found f (ends_particle r e).no_follower, (ends_particle r e).no_repeat) refl

    marked_repeated : {m : Symbol} {repeat : WrittenPattern → WrittenPattern} {tokens behind_it rest : List Lexeme} (q : WrittenPattern) →
        Follow tokens (mark m ∷ behind_it) → Repeats m repeat → Follow behind_it rest → stands Follows rest ≡ false →
        marked_at q tokens ≡ read (repeat q) rest
    unfolding marked_at behind
    marked_repeated {behind_it = b} {rest = r} q f makes later e =
        let is = repeat_is b makes in
        rw (follow_found f (repeat_no_follower b makes), is.is, follow_found later e) (ap (λ x. read x r) (is.makes q))

    -- ---- patterns from their parts

    data_from : {k : Lexeme} {type : TypeName} {params : List Param} {inside behind_it rest : List Lexeme} {all : WrittenPattern} → IsType s k type → MayHaveParams inside params behind_it → goes_with_leaf (first behind_it) ≡ false → ((q : WrittenPattern) → (s ≡ d → q ≡ typed type params) → Agrees d s all rest (behind_of q behind_it)) → Agrees d s all rest (data_at d left (inside_at d left) (k ∷ inside))
    unfolding data_at
    data_from {k = k} {params = ps} {inside = i} {behind_it = b} type params e more =
        agree_bind (type_at d (k ∷ i)) _ (type_agrees i type) (λ t same.
        sure (params_at i) _ (params_are_found params (ends_leaf b e).no_brace)
        (rw (ends_leaf b e).no_minus (more (typed t ps) (λ eq. ap (λ x. typed x ps) (same eq)))))

    kind_from : {tokens behind_it rest : List Lexeme} {p all : WrittenPattern} →
        Kind s tokens behind_it p → Agrees d s p behind_it (primary_of tokens) → goes_with_leaf (first behind_it) ≡ false →
        ((q : WrittenPattern) → (s ≡ d → q ≡ p) → Agrees d s all rest (behind_of q behind_it)) →
        Agrees d s all rest (cond (begins_data tokens) (data_at d left (inside_at d left) tokens) (primary_of tokens >>= λ q end. behind_of q end))
    kind_from {tokens = t} (no_data none) agrees e more = rw none (agree_bind (primary_of t) _ agrees more)
    kind_from {behind_it = b} {rest = r} {all = a} (some_data {inside = i} is type params) agrees e more =
        let P : List Lexeme → Type 0 = λ ts. Agrees d s a r (cond (begins_data ts) (data_at d left (inside_at d left) ts) (primary_of ts >>= λ q end. behind_of q end)) in
        subst P (sym is) (rw (type_begins_data i type (params_no_literal params (ends_leaf b e).no_literal)) (data_from type params e more))

    pattern_from : {tokens inside behind_it rest : List Lexeme} {p all : WrittenPattern} →
        MayBegin tokens inside → IsPrimary s inside p behind_it → Agrees d s p behind_it (primary_of inside) →
        goes_with_leaf (first behind_it) ≡ false → ((q : WrittenPattern) → (s ≡ d → q ≡ p) → Agrees d s all rest (behind_of q behind_it)) →
        Agrees d s all rest (pattern_of tokens)
    unfolding pattern_within
    pattern_from g primary agrees e more =
        sure (opening_at _) _ (opening_found g (primary_no_group primary)) (kind_from (kind_of primary) agrees e more)

    opened_from : {tokens inside behind_it : List Lexeme} {p : WrittenPattern} →
        MayBegin tokens inside → IsPrimary s inside p behind_it → Agrees d s p behind_it (primary_of inside) →
        Agrees d s p behind_it (opened_primary_at d left (inside_at d left) tokens)
    unfolding opened_primary_at
    opened_from g primary agrees = sure (opening_at _) _ (opening_found g (primary_no_group primary)) agrees

    except_from : {tokens inside behind_it opened followed rest : List Lexeme} {k : Lexeme} {type : TypeName} {params : List Param}
        {p : WrittenPattern} →
        MayBegin tokens (k ∷ inside) → IsType s k type → MayHaveParams inside params (mark Minus ∷ behind_it) → MayBegin behind_it opened →
        IsPrimary s opened p followed → Agrees d s p followed (primary_of opened) → Follow followed rest → stands Follows rest ≡ false →
        Agrees d s (typed_but type params p) rest (pattern_of tokens)
    unfolding pattern_within data_at first behind
    except_from {inside = i} {behind_it = b} {followed = f} {k = k} {type = ty} {params = ps} g type params h primary agrees follow e =
        sure (opening_at _) _ (opening_found g (type_no_group i type))
        (rw (type_begins_data i type (params_no_literal params refl))
        (agree_bind (type_at d (k ∷ i)) _ (type_agrees i type) (λ t same_t.
        sure (params_at i) _ (params_are_found params refl)
        (agree_bind (opened_primary_at d left (inside_at d left) b) _ (opened_from h primary agrees) (λ q same_q.
        sure (follow_at f) _ (follow_found follow e)
        (found (λ eq. ap (λ x. typed_but x ps q) (same_t eq) ∙ ap (typed_but ty ps) (same_q eq))))))))

    behind_from : {behind_it rest : List Lexeme} {one all : WrittenPattern} (tokens : List Lexeme) (q : WrittenPattern) →
        marked_at q tokens ≡ read one behind_it →
        Agrees d s all rest (joined_by d left (inside_at d left) one behind_it (sign_of (first behind_it))) →
        Agrees d s all rest (behind_of q tokens)
    unfolding behind_primary_at
    behind_from t q e agrees = sure (marked_at q t) _ e agrees

    joined_none : {rest : List Lexeme} {p q : WrittenPattern} →
        (s ≡ d → q ≡ p) → goes_with_pattern (first rest) ≡ false →
        Agrees d s p rest (joined_by d left (inside_at d left) q rest (sign_of (first rest)))
    joined_none {rest = r} same e = rw (ends_pattern r e).no_sign (found same)

    particle_from : {tokens inside behind_it rest : List Lexeme} {p : WrittenPattern} (make : WrittenPattern → WrittenPattern) →
        MayBegin tokens inside → IsPrimary s inside p behind_it → Agrees d s p behind_it (primary_of inside) →
        ((q : WrittenPattern) → marked_at q behind_it ≡ read (make q) rest) → Agrees d s (make p) rest (particle_of tokens)
    unfolding particle_at
    particle_from {tokens = t} make g primary agrees marks =
        agree_bind (opened_primary_at d left (inside_at d left) t) _ (opened_from g primary agrees) (λ q same.
        agree_as _ _ (marks q) (found (λ eq. ap make (same eq))))

    abbrev loop_of : Sign → WrittenPattern → List Lexeme → Reading WrittenPattern
    loop_of w before tokens = loop_at (stands (sign_symbol w)) (λ more. particle_of (behind more)) (joins w) before tokens

    loop_on_from : {m : Symbol} {behind_it rest : List Lexeme}
        {p next all : WrittenPattern} (w : Sign) (tokens : List Lexeme) (x : WrittenPattern) →
        sign_symbol w ≡ m → (s ≡ d → x ≡ p) → Agrees d s next behind_it (particle_of tokens) →
        ((y : WrittenPattern) → (s ≡ d → y ≡ joins w p next) → Agrees d s all rest (loop_of w y behind_it)) →
        Agrees d s all rest (loop_of w x (mark m ∷ tokens))
    unfolding behind
    loop_on_from {p = p} w t x e same agrees more =
        agree_as _ _ (loop_on (stands (sign_symbol w)) (λ ts. particle_of (behind ts)) (joins w) (particle_shortens d left w) x (mark _ ∷ t) (subst (λ (k : Symbol). stands (sign_symbol w) (mark k ∷ t) ≡ true) e (stands_itself (sign_symbol w) t)))
        (agree_bind (particle_of t) _ agrees (λ y same_y. more (joins w x y) (λ eq. ap (λ a. joins w a y) (same eq) ∙ ap (joins w p) (same_y eq))))

    loop_over_from : {rest : List Lexeme} {p : WrittenPattern} (w : Sign) (x : WrittenPattern) →
        (s ≡ d → x ≡ p) → goes_with_pattern (first rest) ≡ false → Agrees d s p rest (loop_of w x rest)
    loop_over_from {rest = r} w x same e =
        agree_as _ _ (loop_ends (stands (sign_symbol w)) (λ ts. particle_of (behind ts)) (joins w) x r (no_sign_stands w r e)) (found same)

    joined_some : {m : Symbol} {tokens inside rest : List Lexeme} {all : WrittenPattern} (w : Sign) (q : WrittenPattern) →
        tokens ≡ mark m ∷ inside → sign_of (first (mark m ∷ inside)) ≡ Some w → Agrees d s all rest (loop_of w q tokens) →
        Agrees d s all rest (joined_by d left (inside_at d left) q tokens (sign_of (first tokens)))
    joined_some w q e is agrees = rw (ap (λ t. sign_of (first t)) e ∙ is) agrees

    -- ---- items from their parts

    defined_found : {k : Lexeme} {name : Defined} (rest : List Lexeme) → IsDefined k name → defined_of (Some k) rest ≡ read name rest
    defined_found rest start_defined = refl
    defined_found rest name_defined = refl

    combine_found : {m : Symbol} {combine : Combine} (rest : List Lexeme) →
        IsCombine m combine → combine_of (Some (mark m)) rest ≡ read combine rest
    combine_found rest alone = refl
    combine_found rest by_choice = refl
    combine_found rest by_interleave = refl

    definition_from : {k : Lexeme} {m : Symbol} {name : Defined} {combine : Combine} {p : WrittenPattern}
        {rest : List Lexeme} (t : List Lexeme) →
        IsDefined k name → IsCombine m combine → Agrees d s p rest (pattern_of t) →
        Agrees d s (name, combine, p) rest (definition_at d left (inside_at d left) (k ∷ mark m ∷ t))
    unfolding definition_at first behind
    definition_from {k = k} {m = m} {name = n} {combine = c} t name combine agrees =
        sure (defined_of (Some k) (mark m ∷ t)) _ (defined_found (mark m ∷ t) name)
        (sure (combine_of (Some (mark m)) t) _ (combine_found t combine)
        (agree_bind (pattern_of t) _ agrees (λ q same. found (λ eq. ap (λ (x : WrittenPattern). (n, c, x)) (same eq)))))

-- how items begin
pub item_no_group : {scope : Scope} {tokens rest : List Lexeme} {one : WrittenItem} →
    IsItem scope tokens one rest → stands LeftBracket tokens ≡ false
unfolding first
item_no_group (a_definition start_defined c p) = refl
item_no_group (a_definition name_defined c p) = refl
item_no_group (a_div items) = refl
item_no_group (an_include f) = refl
item_no_group (an_include_but f rs) = refl

item_no_note : {scope : Scope} {tokens rest : List Lexeme} {one : WrittenItem} →
    IsItem scope tokens one rest → begins_annotation tokens ≡ false
unfolding first behind
item_no_note (a_definition start_defined c p) = refl
item_no_note (a_definition name_defined alone p) = refl
item_no_note (a_definition name_defined by_choice p) = refl
item_no_note (a_definition name_defined by_interleave p) = refl
item_no_note (a_div items) = refl
item_no_note (an_include f) = refl
item_no_note (an_include_but f rs) = refl

item_goes : {scope : Scope} {tokens inside rest : List Lexeme} {one : WrittenItem} →
    MayBegin tokens inside → IsItem scope inside one rest → goes_on tokens ≡ true
unfolding first
item_goes (with_group (bracketed g)) item = refl
item_goes without_group (a_definition start_defined c p) = refl
item_goes without_group (a_definition name_defined c p) = refl
item_goes without_group (a_div items) = refl
item_goes without_group (an_include f) = refl
item_goes without_group (an_include_but f rs) = refl

item_front : {scope : Scope} {tokens inside rest : List Lexeme} {one : WrittenItem} →
    MayBegin tokens inside → IsItem scope inside one rest → goes_with_pattern (first tokens) ≡ false
unfolding first
item_front (with_group (bracketed g)) item = refl
item_front without_group (a_definition start_defined c p) = refl
item_front without_group (a_definition name_defined c p) = refl
item_front without_group (a_div items) = refl
item_front without_group (an_include f) = refl
item_front without_group (an_include_but f rs) = refl

note_goes : {tokens inside : List Lexeme} {name : Lexeme} → MayBegin tokens (name ∷ inside) → NamesElement name → goes_on tokens ≡ true
unfolding first
note_goes (with_group (bracketed g)) name = refl
note_goes without_group by_identifier = refl
note_goes without_group by_prefixed_name = refl

note_front : {tokens inside : List Lexeme} {name : Lexeme} →
    MayBegin tokens (name ∷ inside) → NamesElement name → goes_with_pattern (first tokens) ≡ false
unfolding first
note_front (with_group (bracketed g)) name = refl
note_front without_group by_identifier = refl
note_front without_group by_prefixed_name = refl

pub note_no_group : {name : Lexeme} (inside : List Lexeme) → NamesElement name → stands LeftBracket (name ∷ inside) ≡ false
unfolding first
note_no_group inside by_identifier = refl
note_no_group inside by_prefixed_name = refl

note_begins : {name : Lexeme} {inside rest : List Lexeme} →
    NamesElement name → IsGroup inside rest → begins_annotation (name ∷ inside) ≡ true
unfolding first behind
note_begins by_identifier (bracketed g) = refl
note_begins by_prefixed_name (bracketed g) = refl

items_front : {scope : Scope} {tokens rest : List Lexeme} {items : WrittenItems} →
    AreItems scope tokens items rest → goes_with_pattern (first rest) ≡ false → goes_with_pattern (first tokens) ≡ false
items_front no_more_items e = e
items_front (next_item g item later) e = item_front g item
items_front (item_annotation g name noted later) e = note_front g name

replacement_no_group : {scope : Scope} {tokens rest : List Lexeme} {one : WrittenReplacement} →
    IsReplacement scope tokens one rest → stands LeftBracket tokens ≡ false
unfolding first
replacement_no_group (a_definition_anew start_defined c p) = refl
replacement_no_group (a_definition_anew name_defined c p) = refl
replacement_no_group (a_div_anew rs) = refl

replacement_no_note : {scope : Scope} {tokens rest : List Lexeme} {one : WrittenReplacement} →
    IsReplacement scope tokens one rest → begins_annotation tokens ≡ false
unfolding first behind
replacement_no_note (a_definition_anew start_defined c p) = refl
replacement_no_note (a_definition_anew name_defined alone p) = refl
replacement_no_note (a_definition_anew name_defined by_choice p) = refl
replacement_no_note (a_definition_anew name_defined by_interleave p) = refl
replacement_no_note (a_div_anew rs) = refl

replacement_goes : {scope : Scope} {tokens inside rest : List Lexeme} {one : WrittenReplacement} →
    MayBegin tokens inside → IsReplacement scope inside one rest → goes_on tokens ≡ true
unfolding first
replacement_goes (with_group (bracketed g)) item = refl
replacement_goes without_group (a_definition_anew start_defined c p) = refl
replacement_goes without_group (a_definition_anew name_defined c p) = refl
replacement_goes without_group (a_div_anew rs) = refl

replacement_front : {scope : Scope} {tokens inside rest : List Lexeme} {one : WrittenReplacement} →
    MayBegin tokens inside → IsReplacement scope inside one rest → goes_with_pattern (first tokens) ≡ false
unfolding first
replacement_front (with_group (bracketed g)) item = refl
replacement_front without_group (a_definition_anew start_defined c p) = refl
replacement_front without_group (a_definition_anew name_defined c p) = refl
replacement_front without_group (a_div_anew rs) = refl

replacements_front : {scope : Scope} {tokens rest : List Lexeme} {rs : WrittenReplacements} →
    AreReplacements scope tokens rs rest → goes_with_pattern (first rest) ≡ false → goes_with_pattern (first tokens) ≡ false
replacements_front no_more_replacements e = e
replacements_front (next_replacement g one later) e = replacement_front g one
replacements_front (replacement_annotation g name noted later) e = note_front g name

-- what ends items: a brace that closes, or the end
pub record EndsItems (rest : List Lexeme) : Type 0 where
  pub stops : goes_on rest ≡ false
  pub front : goes_with_pattern (first rest) ≡ false

brace_ends : (rest : List Lexeme) → EndsItems (mark RightBrace ∷ rest)
unfolding first
brace_ends rest = record { stops = refl; front = refl }

brace_ends_pattern : (rest : List Lexeme) → goes_with_pattern (first (mark RightBrace ∷ rest)) ≡ false
unfolding first
brace_ends_pattern rest = refl

parenthesis_ends_pattern : (rest : List Lexeme) → goes_with_pattern (first (mark RightParenthesis ∷ rest)) ≡ false
unfolding first
parenthesis_ends_pattern rest = refl

ends_primary : {tokens rest : List Lexeme} →
    Follow tokens rest → goes_with_particle (first rest) ≡ false → goes_with_leaf (first tokens) ≡ false
ends_primary {rest = r} f e = follow_ends_leaf f (ends_particle r e).leaf

ends_repeated : {m : Symbol} {repeat : WrittenPattern → WrittenPattern} {tokens behind_it : List Lexeme} →
    Repeats m repeat → Follow tokens (mark m ∷ behind_it) → goes_with_leaf (first tokens) ≡ false
ends_repeated {behind_it = b} r f = follow_ends_leaf f (repeat_ends_leaf b r)

-- primaries of one token
data IsSimple : Lexeme → WrittenPattern → Type 0 where
  simple_ref : {name : List ℕ} → IsSimple (Identifier name) (ref name)
  simple_empty : IsSimple (word keyword.Empty) empty
  simple_text : IsSimple (word keyword.Text) any_text
  simple_not_allowed : IsSimple (word keyword.NotAllowed) not_allowed

-- ---- every pattern

module _ (d s : Scope) where
  module _ (left : ℕ) where
    abbrev item_of : List Lexeme → Reading (Option WrittenItem)
    item_of tokens = item_at d left (inside_at d left) tokens

    abbrev items_loop : WrittenItems → List Lexeme → Reading WrittenItems
    items_loop before tokens = loop_at goes_on (item_at d left (inside_at d left)) add_item before tokens

    abbrev anew_of : List Lexeme → Reading (Option WrittenReplacement)
    anew_of tokens = replacement_at d left (inside_at d left) tokens

    abbrev anew_loop : WrittenReplacements → List Lexeme → Reading WrittenReplacements
    anew_loop before tokens = loop_at goes_on (replacement_at d left (inside_at d left)) add_replacement before tokens

    -- an item behind its group
    item_from : {tokens inside rest : List Lexeme} {one : WrittenItem} →
        MayBegin tokens inside → IsItem s inside one rest →
        Agrees d s (Some one) rest (item_by d left (inside_at d left) inside (first inside)) → Agrees d s (Some one) rest (item_of tokens)
    unfolding item_at
    item_from g item agrees = sure (opening_at _) _ (opening_found g (item_no_group item)) (rw (item_no_note item) agrees)

    item_note_found : {tokens inside rest : List Lexeme} {name : Lexeme} →
        MayBegin tokens (name ∷ inside) → NamesElement name → IsGroup inside rest → item_of tokens ≡ read None rest
    unfolding item_at behind
    item_note_found {inside = i} g name noted = rw (opening_found g (note_no_group i name), note_begins name noted, group_found noted) refl

    defined_item : {k : Lexeme} {m : Symbol} {name : Defined} {combine : Combine} {p : WrittenPattern}
        {rest : List Lexeme} (t : List Lexeme) →
        IsDefined k name → IsCombine m combine → Agrees d s p rest (pattern_within d left (inside_at d left) t) →
        Agrees d s (Some (define name combine p)) rest (item_by d left (inside_at d left) (k ∷ mark m ∷ t) (first (k ∷ mark m ∷ t)))
    unfolding first
    defined_item {m = m} t start_defined c agrees = agree_bind (definition_at d left (inside_at d left) (word keyword.Start ∷ mark m ∷ t)) _ (definition_from d s left t start_defined c agrees) (λ x same. found (λ eq. ap (λ (y : Defined × Combine × WrittenPattern). Some (define y.0 y.1 y.2)) (same eq)))
    defined_item {m = m} t (name_defined {name = n}) c agrees = agree_bind (definition_at d left (inside_at d left) (Identifier n ∷ mark m ∷ t)) _ (definition_from d s left t name_defined c agrees) (λ x same. found (λ eq. ap (λ (y : Defined × Combine × WrittenPattern). Some (define y.0 y.1 y.2)) (same eq)))

    defined_anew : {k : Lexeme} {m : Symbol} {name : Defined} {combine : Combine} {p : WrittenPattern}
        {rest : List Lexeme} (t : List Lexeme) →
        IsDefined k name → IsCombine m combine → Agrees d s p rest (pattern_within d left (inside_at d left) t) →
        Agrees d s (Some (define_anew name combine p)) rest (replacement_by d left (inside_at d left) (k ∷ mark m ∷ t) (first (k ∷ mark m ∷ t)))
    unfolding first
    defined_anew {m = m} t start_defined c agrees = agree_bind (definition_at d left (inside_at d left) (word keyword.Start ∷ mark m ∷ t)) _ (definition_from d s left t start_defined c agrees) (λ x same. found (λ eq. ap (λ (y : Defined × Combine × WrittenPattern). Some (define_anew y.0 y.1 y.2)) (same eq)))
    defined_anew {m = m} t (name_defined {name = n}) c agrees = agree_bind (definition_at d left (inside_at d left) (Identifier n ∷ mark m ∷ t)) _ (definition_from d s left t name_defined c agrees) (λ x same. found (λ eq. ap (λ (y : Defined × Combine × WrittenPattern). Some (define_anew y.0 y.1 y.2)) (same eq)))

    anew_from : {tokens inside rest : List Lexeme} {one : WrittenReplacement} →
        MayBegin tokens inside → IsReplacement s inside one rest →
        Agrees d s (Some one) rest (replacement_by d left (inside_at d left) inside (first inside)) →
        Agrees d s (Some one) rest (anew_of tokens)
    unfolding replacement_at
    anew_from g one agrees = sure (opening_at _) _ (opening_found g (replacement_no_group one)) (rw (replacement_no_note one) agrees)

    anew_note_found : {tokens inside rest : List Lexeme} {name : Lexeme} →
        MayBegin tokens (name ∷ inside) → NamesElement name → IsGroup inside rest → anew_of tokens ≡ read None rest
    unfolding replacement_at behind
    anew_note_found {inside = i} g name noted = rw (opening_found g (note_no_group i name), note_begins name noted, group_found noted) refl

    include_plain : {file : FileReference} {tokens rest : List Lexeme} →
        IsReference s tokens file rest → goes_with_leaf (first rest) ≡ false →
        Agrees d s (include file no_replacements) rest (include_at d left (inside_at d left) tokens)
    unfolding include_at
    include_plain {tokens = t} {rest = r} f e =
        agree_bind (reference_at d t) _ (reference_agrees f (ends_leaf r e).no_tilde (ends_leaf r e).no_inherit) (λ x same.
        rw (ends_leaf r e).no_brace (found (λ eq. ap (λ y. include y no_replacements) (same eq))))

    include_but_from : {file : FileReference} {replacements : WrittenReplacements} {tokens behind_it rest : List Lexeme} (before : ℕ) →
        Counts before left tokens → IsReference s tokens file (mark LeftBrace ∷ behind_it) →
        ((l : ℕ) → Counts (before + 1) l behind_it → Agrees d s replacements (mark RightBrace ∷ rest) ((inside_at d (suc l)).replacements behind_it)) →
        Agrees d s (include file replacements) rest (include_at d left (inside_at d left) tokens)
    unfolding include_at first
    include_but_from {file = fl} {tokens = t} {behind_it = b} before c f agrees =
        agree_bind (reference_at d t) _ (reference_agrees f refl refl) (λ x same_x.
        agree_bind (between LeftBrace RightBrace (inside_at d left).replacements (mark LeftBrace ∷ b)) _ (between_agrees d s (λ i. i.replacements) before left braces (counts_behind c (passes_reference f)) agrees) (λ rs same_rs.
        found (λ eq. ap (λ y. include y rs) (same_x eq) ∙ ap (include fl) (same_rs eq))))

    item_step : {behind_it rest : List Lexeme} {one : Option WrittenItem}
        {items all : WrittenItems} (tokens : List Lexeme) (x : WrittenItems) →
        goes_on tokens ≡ true → (s ≡ d → x ≡ items) → Agrees d s one behind_it (item_of tokens) →
        ((y : WrittenItems) → (s ≡ d → y ≡ add_item items one) → Agrees d s all rest (items_loop y behind_it)) →
        Agrees d s all rest (items_loop x tokens)
    item_step {items = is} t x goes same agrees more =
        agree_as _ _ (loop_on goes_on (item_at d left (inside_at d left)) add_item (item_shortens d left) x t goes)
        (agree_bind (item_of t) _ agrees (λ y same_y. more (add_item x y) (λ eq. ap (λ a. add_item a y) (same eq) ∙ ap (add_item is) (same_y eq))))

    anew_step : {behind_it rest : List Lexeme} {one : Option WrittenReplacement}
        {rs all : WrittenReplacements} (tokens : List Lexeme) (x : WrittenReplacements) →
        goes_on tokens ≡ true → (s ≡ d → x ≡ rs) → Agrees d s one behind_it (anew_of tokens) →
        ((y : WrittenReplacements) → (s ≡ d → y ≡ add_replacement rs one) → Agrees d s all rest (anew_loop y behind_it)) →
        Agrees d s all rest (anew_loop x tokens)
    anew_step {rs = rs} t x goes same agrees more =
        agree_as _ _ (loop_on goes_on (replacement_at d left (inside_at d left)) add_replacement (replacement_shortens d left) x t goes)
        (agree_bind (anew_of t) _ agrees (λ y same_y. more (add_replacement x y) (λ eq. ap (λ a. add_replacement a y) (same eq) ∙ ap (add_replacement rs) (same_y eq))))

  inside_pattern : (left : ℕ) (tokens : List Lexeme) →
      (inside_at d (suc left)).pattern tokens ≡ pattern_within d left (inside_at d left) tokens
  unfolding inside_at
  inside_pattern left tokens = refl

  inside_items : (left : ℕ) (tokens : List Lexeme) → (inside_at d (suc left)).items tokens ≡ items_loop left no_items tokens
  unfolding inside_at items_within
  inside_items left tokens = refl

  inside_replacements : (left : ℕ) (tokens : List Lexeme) →
      (inside_at d (suc left)).replacements tokens ≡ anew_loop left no_replacements tokens
  unfolding inside_at replacements_within
  inside_replacements left tokens = refl

  -- the primaries with no pattern in them, and those with one
  module _ (before left : ℕ) where
    element_from : {class : WrittenClass} {p : WrittenPattern} {tokens behind_it rest : List Lexeme} →
        Counts before left (word keyword.Element ∷ tokens) → IsClass s s.unprefixed tokens class (mark LeftBrace ∷ behind_it) →
        ((l : ℕ) → Counts (before + 1) l behind_it → Agrees d s p (mark RightBrace ∷ rest) ((inside_at d (suc l)).pattern behind_it)) →
        Agrees d s (element class p) rest (primary_at d left (inside_at d left) (word keyword.Element ∷ tokens))
    unfolding primary_at first behind
    element_from c class agrees = named_from d s left before s.unprefixed d.unprefixed (λ eq. ap (λ (x : Scope). x.unprefixed) (sym eq)) element (counts_behind c (token tt)) class agrees

    attribute_from : {class : WrittenClass} {p : WrittenPattern} {tokens behind_it rest : List Lexeme} →
        Counts before left (word keyword.Attribute ∷ tokens) → IsClass s (Uri []) tokens class (mark LeftBrace ∷ behind_it) →
        ((l : ℕ) → Counts (before + 1) l behind_it → Agrees d s p (mark RightBrace ∷ rest) ((inside_at d (suc l)).pattern behind_it)) →
        Agrees d s (attribute class p) rest (primary_at d left (inside_at d left) (word keyword.Attribute ∷ tokens))
    unfolding primary_at first behind
    attribute_from c class agrees =
        named_from d s left before (Uri []) (Uri []) (λ eq. refl) attribute (counts_behind c (token tt)) class agrees

    list_from : {p : WrittenPattern} {tokens rest : List Lexeme} →
        Counts before left (word keyword.List ∷ mark LeftBrace ∷ tokens) →
        ((l : ℕ) → Counts (before + 1) l tokens → Agrees d s p (mark RightBrace ∷ rest) ((inside_at d (suc l)).pattern tokens)) →
        Agrees d s (list p) rest (primary_at d left (inside_at d left) (word keyword.List ∷ mark LeftBrace ∷ tokens))
    unfolding primary_at first behind
    list_from {tokens = t} c agrees = agree_bind (between LeftBrace RightBrace (inside_at d left).pattern (mark LeftBrace ∷ t)) _ (between_agrees d s (λ i. i.pattern) before left braces (counts_behind c (token tt)) agrees) (λ x same. found (λ eq. ap list (same eq)))

    mixed_from : {p : WrittenPattern} {tokens rest : List Lexeme} →
        Counts before left (word keyword.Mixed ∷ mark LeftBrace ∷ tokens) →
        ((l : ℕ) → Counts (before + 1) l tokens → Agrees d s p (mark RightBrace ∷ rest) ((inside_at d (suc l)).pattern tokens)) →
        Agrees d s (mixed p) rest (primary_at d left (inside_at d left) (word keyword.Mixed ∷ mark LeftBrace ∷ tokens))
    unfolding primary_at first behind
    mixed_from {tokens = t} c agrees = agree_bind (between LeftBrace RightBrace (inside_at d left).pattern (mark LeftBrace ∷ t)) _ (between_agrees d s (λ i. i.pattern) before left braces (counts_behind c (token tt)) agrees) (λ x same. found (λ eq. ap mixed (same eq)))

    grammar_from : {items : WrittenItems} {tokens rest : List Lexeme} →
        Counts before left (word keyword.Grammar ∷ mark LeftBrace ∷ tokens) →
        ((l : ℕ) → Counts (before + 1) l tokens → Agrees d s items (mark RightBrace ∷ rest) ((inside_at d (suc l)).items tokens)) →
        Agrees d s (grammar items) rest (primary_at d left (inside_at d left) (word keyword.Grammar ∷ mark LeftBrace ∷ tokens))
    unfolding primary_at first behind
    grammar_from {tokens = t} c agrees = agree_bind (between LeftBrace RightBrace (inside_at d left).items (mark LeftBrace ∷ t)) _ (between_agrees d s (λ i. i.items) before left braces (counts_behind c (token tt)) agrees) (λ x same. found (λ eq. ap grammar (same eq)))

    parenthesized_from : {p : WrittenPattern} {tokens rest : List Lexeme} →
        Counts before left (mark LeftParenthesis ∷ tokens) →
        ((l : ℕ) → Counts (before + 1) l tokens → Agrees d s p (mark RightParenthesis ∷ rest) ((inside_at d (suc l)).pattern tokens)) →
        Agrees d s p rest (primary_at d left (inside_at d left) (mark LeftParenthesis ∷ tokens))
    unfolding primary_at first behind
    parenthesized_from c agrees = between_agrees d s (λ i. i.pattern) before left parentheses c agrees

    simple_agrees : {p : WrittenPattern} {token_first : Lexeme} {rest : List Lexeme} →
        IsSimple token_first p → Agrees d s p rest (primary_at d left (inside_at d left) (token_first ∷ rest))
    unfolding primary_at leaf_at first behind
    simple_agrees simple_ref = found (λ eq. refl)
    simple_agrees simple_empty = found (λ eq. refl)
    simple_agrees simple_text = found (λ eq. refl)
    simple_agrees simple_not_allowed = found (λ eq. refl)

    parent_agrees : (name : List ℕ) (rest : List Lexeme) →
        Agrees d s (parent_ref name) rest (primary_at d left (inside_at d left) (word keyword.Parent ∷ Identifier name ∷ rest))
    unfolding primary_at leaf_at first behind identifier_at
    parent_agrees name rest = found (λ eq. refl)

    external_from : {file : FileReference} {tokens rest : List Lexeme} →
        IsReference s tokens file rest → goes_with_leaf (first rest) ≡ false →
        Agrees d s (external file) rest (primary_at d left (inside_at d left) (word keyword.External ∷ tokens))
    unfolding primary_at first
    external_from f e = external_agrees d s f e

  module _ (before left : ℕ) where
    div_from : {items : WrittenItems} {tokens rest : List Lexeme} →
        Counts before left (word keyword.Div ∷ mark LeftBrace ∷ tokens) →
        ((l : ℕ) → Counts (before + 1) l tokens → Agrees d s items (mark RightBrace ∷ rest) ((inside_at d (suc l)).items tokens)) →
        Agrees d s (Some (div items)) rest (item_by d left (inside_at d left) (word keyword.Div ∷ mark LeftBrace ∷ tokens) (first (word keyword.Div ∷ mark LeftBrace ∷ tokens)))
    unfolding first behind
    div_from {tokens = t} c agrees = agree_bind (between LeftBrace RightBrace (inside_at d left).items (mark LeftBrace ∷ t)) _ (between_agrees d s (λ i. i.items) before left braces (counts_behind c (token tt)) agrees) (λ x same. found (λ eq. ap (λ (y : WrittenItems). Some (div y)) (same eq)))

    div_anew_from : {replacements : WrittenReplacements} {tokens rest : List Lexeme} →
        Counts before left (word keyword.Div ∷ mark LeftBrace ∷ tokens) →
        ((l : ℕ) → Counts (before + 1) l tokens → Agrees d s replacements (mark RightBrace ∷ rest) ((inside_at d (suc l)).replacements tokens)) →
        Agrees d s (Some (div_anew replacements)) rest (replacement_by d left (inside_at d left) (word keyword.Div ∷ mark LeftBrace ∷ tokens) (first (word keyword.Div ∷ mark LeftBrace ∷ tokens)))
    unfolding first behind
    div_anew_from {tokens = t} c agrees = agree_bind (between LeftBrace RightBrace (inside_at d left).replacements (mark LeftBrace ∷ t)) _ (between_agrees d s (λ i. i.replacements) before left braces (counts_behind c (token tt)) agrees) (λ x same. found (λ eq. ap (λ (y : WrittenReplacements). Some (div_anew y)) (same eq)))

    include_from : {file : FileReference} {tokens rest : List Lexeme} →
        IsReference s tokens file rest → goes_with_pattern (first rest) ≡ false →
        Agrees d s (Some (include file no_replacements)) rest (item_by d left (inside_at d left) (word keyword.Include ∷ tokens) (first (word keyword.Include ∷ tokens)))
    unfolding first behind
    include_from {tokens = t} {rest = r} f e = agree_bind (include_at d left (inside_at d left) t) _ (include_plain left f (ends_particle r (ends_pattern r e).particle).leaf) (λ x same. found (λ eq. ap (λ (y : WrittenItem). Some y) (same eq)))

    include_all_from : {file : FileReference} {replacements : WrittenReplacements} {tokens behind_it rest : List Lexeme} →
        Counts before left (word keyword.Include ∷ tokens) → IsReference s tokens file (mark LeftBrace ∷ behind_it) →
        ((l : ℕ) → Counts (before + 1) l behind_it → Agrees d s replacements (mark RightBrace ∷ rest) ((inside_at d (suc l)).replacements behind_it)) →
        Agrees d s (Some (include file replacements)) rest (item_by d left (inside_at d left) (word keyword.Include ∷ tokens) (first (word keyword.Include ∷ tokens)))
    unfolding first behind
    include_all_from {tokens = t} c f agrees = agree_bind (include_at d left (inside_at d left) t) _ (include_but_from left before (counts_behind c (token tt)) f agrees) (λ x same. found (λ eq. ap (λ (y : WrittenItem). Some y) (same eq)))

  -- ---- several particles

  plain_of : {m : Symbol} (w : Sign) → sign_symbol w ≡ m → IsPlain (mark m)
  plain_of w e = subst (λ (k : Symbol). IsPlain (mark k)) e (plain w)
    where
      plain : (v : Sign) → IsPlain (mark (sign_symbol v))
      plain sign.Group = tt
      plain sign.Choice = tt
      plain sign.Interleave = tt

  sign_ends : {m : Symbol} (w : Sign) (rest : List Lexeme) → sign_symbol w ≡ m → goes_with_particle (first (mark m ∷ rest)) ≡ false
  unfolding first
  sign_ends w rest e = subst (λ (k : Symbol). goes_with_particle (Some (mark k)) ≡ false) e (none w)
    where
      none : (v : Sign) → goes_with_particle (Some (mark (sign_symbol v))) ≡ false
      none sign.Group = refl
      none sign.Choice = refl
      none sign.Interleave = refl

  more_front : {m : Symbol} {tokens rest : List Lexeme} {ps : List WrittenPattern} (w : Sign) →
      sign_symbol w ≡ m → AreMoreParticles s m tokens ps rest → goes_with_particle (first tokens) ≡ false
  more_front w e (last_particle {tokens = t} p) = sign_ends w t e
  more_front w e (next_particle {tokens = t} p later) = sign_ends w t e

  several_from : {m : Symbol} {j : WrittenPattern → WrittenPattern → WrittenPattern} {tokens rest : List Lexeme} {all : WrittenPattern}
      {ps : List WrittenPattern} (p : WrittenPattern) (left : ℕ) (sign : Joins m j) (q : WrittenPattern) →
      AreMoreParticles s m tokens ps rest → all ≡ joined j p ps →
      Agrees d s (joined (joins (sign_is sign).which) p ps) rest (loop_of d s left (sign_is sign).which q tokens) →
      Agrees d s all rest (joined_by d left (inside_at d left) q tokens (sign_of (first tokens)))
  several_from {tokens = t} {rest = r} {ps = ps} p left sign q later is agrees =
      let w = sign_is sign in
      let (inside, e) = more_begin_with later in
      joined_some d s left w.which q e (w.is inside)
      (subst (λ (a : WrittenPattern). Agrees d s a r (loop_of d s left w.which q t)) (ap (λ (k : WrittenPattern → WrittenPattern → WrittenPattern). joined k p ps) w.makes ∙ sym is) agrees)

  mutual
    pub pattern_agrees : {tokens rest : List Lexeme} {p : WrittenPattern} (before left : ℕ) →
        Counts before left tokens → IsPattern s tokens p rest → goes_with_pattern (first rest) ≡ false →
        Agrees d s p rest (pattern_within d left (inside_at d left) tokens)
    pattern_agrees {rest = r} before left c (one_particle (once (annotated {behind = b} g primary f))) e =
        pattern_from d s left g primary (primary_agrees before left (counts_behind c (passes_opening g)) primary (ends_primary f (ends_pattern r e).particle)) (ends_primary f (ends_pattern r e).particle) (λ q same.
        behind_from d s left b q (marked_once d s left q f (ends_pattern r e).particle) (joined_none d s left same e))
    pattern_agrees {rest = r} before left c (one_particle (repeated {repeat = make} makes (annotated {behind = b} g primary f) later)) e =
        pattern_from d s left g primary (primary_agrees before left (counts_behind c (passes_opening g)) primary (ends_repeated makes f)) (ends_repeated makes f) (λ q same.
        behind_from d s left b q (marked_repeated d s left q f makes later (ends_particle r (ends_pattern r e).particle).no_follower) (joined_none d s left (λ eq. ap make (same eq)) e))
    pattern_agrees {rest = r} before left c (several_particles {behind = m} sign (once (annotated {behind = b} g primary f)) later is) e =
        let w = sign_is sign in
        let front : goes_with_particle (first m) ≡ false = more_front w.which w.symbol later in
        pattern_from d s left g primary (primary_agrees before left (counts_behind c (passes_opening g)) primary (ends_primary f front)) (ends_primary f front) (λ q same.
        behind_from d s left b q (marked_once d s left q f front)
        (several_from _ left sign q later is (more_agree before left (counts_behind c (passes_opening g then passes_primary primary then passes_follow f)) w.which q same w.symbol later e)))
    pattern_agrees {rest = r} before left c (several_particles {behind = m} sign (repeated {repeat = make} makes (annotated {behind = b} g primary f) follow) later is) e =
        let w = sign_is sign in
        let front : goes_with_particle (first m) ≡ false = more_front w.which w.symbol later in
        pattern_from d s left g primary (primary_agrees before left (counts_behind c (passes_opening g)) primary (ends_repeated makes f)) (ends_repeated makes f) (λ q same.
        behind_from d s left b q (marked_repeated d s left q f makes follow (ends_particle m front).no_follower)
        (several_from _ left sign (make q) later is (more_agree before left (counts_behind c (passes_opening g then passes_primary primary then passes_follow f then token (plain_repeat makes) then passes_follow follow)) w.which (make q) (λ eq. ap make (same eq)) w.symbol later e)))
    pattern_agrees {rest = r} before left c (type_but g type params (annotated h primary f)) e =
        except_from d s left g type params h primary
        (primary_agrees before left (counts_behind c (passes_opening g then token (plain_type type) then passes_param_braces params then token tt then passes_opening h)) primary (ends_primary f (ends_pattern r e).particle))
        f (ends_particle r (ends_pattern r e).particle).no_follower

    more_agree : {m : Symbol} {tokens rest : List Lexeme} {p : WrittenPattern} {ps : List WrittenPattern} (before left : ℕ) →
        Counts before left tokens → (w : Sign) (x : WrittenPattern) → (s ≡ d → x ≡ p) → sign_symbol w ≡ m →
        AreMoreParticles s m tokens ps rest → goes_with_pattern (first rest) ≡ false →
        Agrees d s (joined (joins w) p ps) rest (loop_of d s left w x tokens)
    more_agree {rest = r} before left c w x same is (last_particle {tokens = t} particle) e =
        loop_on_from d s left w t x is same (particle_agrees before left (counts_behind c (token (plain_of w is))) particle (ends_pattern r e).particle) (λ y same_y. loop_over_from d s left w y same_y e)
    more_agree before left c w x same is (next_particle {tokens = t} particle later) e =
        loop_on_from d s left w t x is same (particle_agrees before left (counts_behind c (token (plain_of w is))) particle (more_front w is later)) (λ y same_y. more_agree before left (counts_behind c (token (plain_of w is) then passes_particle particle)) w y same_y is later e)

    particle_agrees : {tokens rest : List Lexeme} {p : WrittenPattern} (before left : ℕ) →
        Counts before left tokens → IsParticle s tokens p rest → goes_with_particle (first rest) ≡ false →
        Agrees d s p rest (particle_at d left (inside_at d left) tokens)
    particle_agrees before left c (once (annotated g primary f)) e = particle_from d s left (λ q. q) g primary (primary_agrees before left (counts_behind c (passes_opening g)) primary (ends_primary f e)) (λ q. marked_once d s left q f e)
    particle_agrees {rest = r} before left c (repeated {repeat = make} makes (annotated g primary f) later) e = particle_from d s left make g primary (primary_agrees before left (counts_behind c (passes_opening g)) primary (ends_repeated makes f)) (λ q. marked_repeated d s left q f makes later (ends_particle r e).no_follower)

    primary_agrees : {tokens rest : List Lexeme} {p : WrittenPattern} (before left : ℕ) →
        Counts before left tokens → IsPrimary s tokens p rest → goes_with_leaf (first rest) ≡ false →
        Agrees d s p rest (primary_at d left (inside_at d left) tokens)
    primary_agrees {rest = r} before left c (an_element {behind = b} class p) e = element_from before left c class (λ l k. agree_as _ _ (inside_pattern l b) (pattern_agrees (before + 1) l k p (brace_ends_pattern r)))
    primary_agrees {rest = r} before left c (an_attribute {behind = b} class p) e = attribute_from before left c class (λ l k. agree_as _ _ (inside_pattern l b) (pattern_agrees (before + 1) l k p (brace_ends_pattern r)))
    primary_agrees {rest = r} before left c (a_list {tokens = t} p) e =
        list_from before left c (λ l k. agree_as _ _ (inside_pattern l t) (pattern_agrees (before + 1) l k p (brace_ends_pattern r)))
    primary_agrees {rest = r} before left c (a_mixed {tokens = t} p) e =
        mixed_from before left c (λ l k. agree_as _ _ (inside_pattern l t) (pattern_agrees (before + 1) l k p (brace_ends_pattern r)))
    primary_agrees before left c a_reference e = simple_agrees before left simple_ref
    primary_agrees {rest = r} before left c (a_parent_reference {name = n}) e = parent_agrees before left n r
    primary_agrees before left c is_empty e = simple_agrees before left simple_empty
    primary_agrees before left c is_text e = simple_agrees before left simple_text
    primary_agrees before left c is_not_allowed e = simple_agrees before left simple_not_allowed
    primary_agrees {rest = r} before left c (untyped_value l) e =
        agree_as _ _ (literal_is_primary d s left l ∙ leaf_of_literal d s l (ends_leaf r e).no_tilde) (found (λ eq. refl))
    primary_agrees before left c (typed_value {tokens = t} type l) e =
        agree_as _ _ (type_is_primary d s left t type ∙ leaf_of_type d s t type) (typed_value_agrees d s type l e)
    primary_agrees before left c (a_type {tokens = t} type params) e =
        agree_as _ _ (type_is_primary d s left t type ∙ leaf_of_type d s t type) (typed_agrees d s type params e)
    primary_agrees before left c (an_external f) e = external_from before left f e
    primary_agrees {rest = r} before left c (a_grammar_of {tokens = t} items) e = grammar_from before left c (λ l k. agree_as _ _ (inside_items l t) (items_agree (before + 1) l k no_items no_items (λ eq. refl) items (brace_ends r)))
    primary_agrees {rest = r} before left c (parenthesized {tokens = t} p) e = parenthesized_from before left c (λ l k. agree_as _ _ (inside_pattern l t) (pattern_agrees (before + 1) l k p (parenthesis_ends_pattern r)))

    pub items_agree : {tokens rest : List Lexeme} {items : WrittenItems} (before left : ℕ) →
        Counts before left tokens → (x earlier : WrittenItems) → (s ≡ d → x ≡ earlier) → AreItems s tokens items rest → EndsItems rest →
        Agrees d s (items_and earlier items) rest (items_loop left x tokens)
    items_agree {rest = r} before left c x earlier same no_more_items e = agree_as _ _ (loop_ends goes_on (item_at d left (inside_at d left)) add_item x r e.stops) (found (λ eq. same eq ∙ sym (items_and_none earlier)))
    items_agree {tokens = t} {rest = r} before left c x earlier same (next_item {item = one} {items = is} {behind = m} g item later) e =
        item_step left t x (item_goes g item) same (item_from left g item (item_agrees before left (counts_behind c (passes_opening g)) item (items_front later e.front))) (λ y same_y.
        subst (λ (a : WrittenItems). Agrees d s a r (items_loop left y m)) (items_and_one earlier is one)
        (items_agree before left (counts_behind c (passes_opening g then passes_item item)) y (items_and earlier (item_then one no_items)) same_y later e))
    items_agree {tokens = t} before left c x earlier same (item_annotation g name noted later) e =
        item_step left t x (note_goes g name) same (agree_as _ _ (item_note_found left g name noted) (found (λ eq. refl))) (λ y same_y.
        items_agree before left (counts_behind c (passes_opening g then token (plain_element_name name) then passes_group noted)) y earlier same_y later e)

    item_agrees : {tokens rest : List Lexeme} {item : WrittenItem} (before left : ℕ) →
        Counts before left tokens → IsItem s tokens item rest → goes_with_pattern (first rest) ≡ false →
        Agrees d s (Some item) rest (item_by d left (inside_at d left) tokens (first tokens))
    item_agrees before left c (a_definition {tokens = t} name combine p) e = defined_item left t name combine (pattern_agrees before left (counts_behind c (token (plain_defined name) then token (plain_combine combine))) p e)
    item_agrees {rest = r} before left c (a_div {tokens = t} items) e = div_from before left c (λ l k. agree_as _ _ (inside_items l t) (items_agree (before + 1) l k no_items no_items (λ eq. refl) items (brace_ends r)))
    item_agrees before left c (an_include f) e = include_from before left f e
    item_agrees {rest = r} before left c (an_include_but {behind = b} f replacements) e = include_all_from before left c f (λ l k. agree_as _ _ (inside_replacements l b) (replacements_agree (before + 1) l k no_replacements no_replacements (λ eq. refl) replacements (brace_ends r)))

    replacements_agree : {tokens rest : List Lexeme} {replacements : WrittenReplacements} (before left : ℕ) →
        Counts before left tokens → (x earlier : WrittenReplacements) → (s ≡ d → x ≡ earlier) → AreReplacements s tokens replacements rest →
        EndsItems rest → Agrees d s (replacements_and earlier replacements) rest (anew_loop left x tokens)
    replacements_agree {rest = r} before left c x earlier same no_more_replacements e = agree_as _ _ (loop_ends goes_on (replacement_at d left (inside_at d left)) add_replacement x r e.stops) (found (λ eq. same eq ∙ sym (replacements_and_none earlier)))
    replacements_agree {tokens = t} {rest = r} before left c x earlier same (next_replacement {replacement = one} {replacements = rs} {behind = m} g replacement later) e =
        anew_step left t x (replacement_goes g replacement) same (anew_from left g replacement (replacement_agrees before left (counts_behind c (passes_opening g)) replacement (replacements_front later e.front))) (λ y same_y.
        subst (λ (a : WrittenReplacements). Agrees d s a r (anew_loop left y m)) (replacements_and_one earlier rs one)
        (replacements_agree before left (counts_behind c (passes_opening g then passes_replacement replacement)) y (replacements_and earlier (replacement_then one no_replacements)) same_y later e))
    replacements_agree {tokens = t} before left c x earlier same (replacement_annotation g name noted later) e =
        anew_step left t x (note_goes g name) same (agree_as _ _ (anew_note_found left g name noted) (found (λ eq. refl))) (λ y same_y.
        replacements_agree before left (counts_behind c (passes_opening g then token (plain_element_name name) then passes_group noted)) y earlier same_y later e)

    replacement_agrees : {tokens rest : List Lexeme} {replacement : WrittenReplacement} (before left : ℕ) →
        Counts before left tokens → IsReplacement s tokens replacement rest → goes_with_pattern (first rest) ≡ false →
        Agrees d s (Some replacement) rest (replacement_by d left (inside_at d left) tokens (first tokens))
    replacement_agrees before left c (a_definition_anew {tokens = t} name combine p) e = defined_anew left t name combine (pattern_agrees before left (counts_behind c (token (plain_defined name) then token (plain_combine combine))) p e)
    replacement_agrees {rest = r} before left c (a_div_anew {tokens = t} replacements) e = div_anew_from before left c (λ l k. agree_as _ _ (inside_replacements l t) (replacements_agree (before + 1) l k no_replacements no_replacements (λ eq. refl) replacements (brace_ends r)))
