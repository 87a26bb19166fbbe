-- Each step of a loop takes a token.
use Rattle.std.proofs.Common.{◌≡◌, ℕ, ◌<◌, ◌≤◌, true, List, [], length, Option, ap, subst, arith}
use Rattle.rnc_lex.specs.declared.token.Lexeme.{Lexeme}
use Rattle.rnc_lex.specs.declared.token.Symbol.{Symbol}
use Rattle.rnc_lex.specs.declared.token.Symbol.TheVariants.{Bar, Tilde, Follows}
use Rattle.rnc_parse.specs.declared.surface.Namespace.{Namespace}
use Rattle.rnc_parse.specs.declared.declaration.Declaration.{Declaration}
use Rattle.rnc_parse.specs.Scopes.{Scope, scope_of}
use Rattle.rnc_parse.specs.Written.{WrittenItem, WrittenReplacement}
use Rattle.rnc_parse.specs.Grammar.{IsItem, a_definition, a_div, an_include, an_include_but, IsReplacement, a_definition_anew, a_div_anew}
use Rattle.rnc_parse.specs.Files.{IsDeclaration, a_namespace_prefix, a_default, a_default_prefix, a_library_prefix}
use Rattle.rnc_parse.specs.Reading.{Reading, read, no_reading, no_prefix, first, behind, stands}
use Rattle.rnc_parse.specs.ReadingAnnotations.{follower_at}
use Rattle.rnc_parse.specs.ReadingParts.{one_literal_at, param_at, goes_on}
use Rattle.rnc_parse.specs.ReadingClasses.{annotated_class_at, class_inside}
use Rattle.rnc_parse.specs.ReadingPatterns.{inside_at, particle_at, item_at, replacement_at, sign_symbol}
use Rattle.rnc_parse.specs.ReadingFiles.{declaration_at, is_declaration}
use Rattle.rnc_parse.specs.declared.sign.Sign.{Sign}
use Rattle.rnc_parse.proofs.Loops.{Shortens}
use Rattle.rnc_parse.proofs.Passing.{passes_group, passes_opening, passes_literal, passes_reference, passes_annotated_class, passes_particle, passes_pattern, passes_items, passes_replacements, passes_namespace}
use Rattle.rnc_parse.proofs.Sounding.{Sounds, finds, ends, stops, stands_is}
use Rattle.rnc_parse.proofs.SoundParts.{sound_follower, sound_one_literal, sound_param, sound_annotated_class, sound_class_inside}
use Rattle.rnc_parse.proofs.SoundPatterns.{sound_inside, sound_particle, IsEntry, an_item, a_note, sound_item, IsAnew, one_anew, a_note_anew, sound_replacement}
use Rattle.rnc_parse.proofs.SoundFiles.{sound_declaration}

-- what was found is in the relation
pub found_in : {scope : Scope} {A : Type 0} {P : A → List Lexeme → Type 0} (found : Reading A) (value : A) (rest : List Lexeme) →
    Sounds scope P found → found ≡ read value rest → P value rest
found_in {P = P} (read v r) value rest (finds p) e =
    let same_value : v ≡ value = cc in
    let same_rest : r ≡ rest = cc in
    subst (λ x. P value x) same_rest (subst (λ x. P x r) same_value p)
found_in no_reading value rest ends e = absurd cc
found_in (no_prefix used) value rest (stops u) e = absurd cc

-- any look-ups at all
abbrev no_scope : Scope
no_scope = scope_of []

behind_symbol_shorter : (s : Symbol) (tokens rest : List Lexeme) → stands s tokens ≡ true → length rest ≤ length (behind tokens) →
    length rest < length tokens
behind_symbol_shorter s tokens rest goes h = let e = stands_is s tokens goes in omega (arith, ap length e)

pub follower_shortens : Shortens (stands Follows) follower_at
follower_shortens = record {
  shorter = λ tokens goes v rest e.
      let f = found_in {scope = no_scope} (follower_at tokens) v rest (sound_follower tokens) e in
      omega (arith, ap length f.tokens_are, (passes_group f.group).within);
}

pub literal_shortens : Shortens (stands Tilde) (λ tokens. one_literal_at (behind tokens))
literal_shortens = record {
  shorter = λ tokens goes v rest e.
      let l = found_in {scope = no_scope} (one_literal_at (behind tokens)) v rest (sound_one_literal (behind tokens)) e in
      behind_symbol_shorter Tilde tokens rest goes (omega (arith, ap length l));
}

pub param_shortens : Shortens goes_on param_at
param_shortens = record {
  shorter = λ tokens goes v rest e.
      let p = found_in {scope = no_scope} (param_at tokens) v rest (sound_param tokens) e in
      omega (arith, (passes_opening p.opened).within, (passes_literal p.text).within);
}

pub class_shortens : (scope : Scope) (unprefixed : Namespace) (left : ℕ) →
    Shortens (stands Bar) (λ tokens. annotated_class_at scope unprefixed (class_inside scope unprefixed left) (behind tokens))
class_shortens scope unprefixed left = record {
  shorter = λ tokens goes v rest e.
      let c = found_in (annotated_class_at scope unprefixed (class_inside scope unprefixed left) (behind tokens)) v rest (sound_annotated_class (class_inside scope unprefixed left) (sound_class_inside left) (behind tokens)) e in
      behind_symbol_shorter Bar tokens rest goes (passes_annotated_class c).within;
}

pub particle_shortens : (scope : Scope) (left : ℕ) (sign : Sign) →
    Shortens (stands (sign_symbol sign)) (λ tokens. particle_at scope left (inside_at scope left) (behind tokens))
particle_shortens scope left sign = record {
  shorter = λ tokens goes v rest e.
      let p = found_in (particle_at scope left (inside_at scope left) (behind tokens)) v rest (sound_particle left (inside_at scope left) (sound_inside left) (behind tokens)) e in
      behind_symbol_shorter (sign_symbol sign) tokens rest goes (passes_particle p).within;
}

pub item_shorter : {scope : Scope} {tokens rest : List Lexeme} {item : WrittenItem} →
    IsItem scope tokens item rest → length rest < length tokens
item_shorter (a_definition n s p) = omega (arith, (passes_pattern p).within)
item_shorter (a_div items) = omega (arith, (passes_items items).within)
item_shorter (an_include file) = omega (arith, (passes_reference file).within)
item_shorter (an_include_but file replacements) = omega (arith, (passes_reference file).within, (passes_replacements replacements).within)

entry_shorter : {scope : Scope} {tokens rest : List Lexeme} {found : Option WrittenItem} →
    IsEntry scope tokens found rest → length rest < length tokens
entry_shorter (an_item g item) = omega (arith, (passes_opening g).within, item_shorter item)
entry_shorter (a_note g name noted) = omega (arith, (passes_opening g).within, (passes_group noted).within)

pub item_shortens : (scope : Scope) (left : ℕ) → Shortens goes_on (item_at scope left (inside_at scope left))
item_shortens scope left = record {
  shorter = λ tokens goes v rest e.
      entry_shorter (found_in (item_at scope left (inside_at scope left) tokens) v rest (sound_item left (inside_at scope left) (sound_inside left) tokens) e);
}

pub replacement_shorter : {scope : Scope} {tokens rest : List Lexeme} {one : WrittenReplacement} →
    IsReplacement scope tokens one rest → length rest < length tokens
replacement_shorter (a_definition_anew n s p) = omega (arith, (passes_pattern p).within)
replacement_shorter (a_div_anew replacements) = omega (arith, (passes_replacements replacements).within)

anew_shorter : {scope : Scope} {tokens rest : List Lexeme} {found : Option WrittenReplacement} →
    IsAnew scope tokens found rest → length rest < length tokens
anew_shorter (one_anew g one) = omega (arith, (passes_opening g).within, replacement_shorter one)
anew_shorter (a_note_anew g name noted) = omega (arith, (passes_opening g).within, (passes_group noted).within)

pub replacement_shortens : (scope : Scope) (left : ℕ) → Shortens goes_on (replacement_at scope left (inside_at scope left))
replacement_shortens scope left = record {
  shorter = λ tokens goes v rest e.
      anew_shorter (found_in (replacement_at scope left (inside_at scope left) tokens) v rest (sound_replacement left (inside_at scope left) (sound_inside left) tokens) e);
}

declaration_shorter : {tokens rest : List Lexeme} {one : Declaration} → IsDeclaration tokens one rest → length rest < length tokens
declaration_shorter (a_namespace_prefix name ns) = omega (arith, (passes_namespace ns).within)
declaration_shorter (a_default ns) = omega (arith, (passes_namespace ns).within)
declaration_shorter (a_default_prefix name ns) = omega (arith, (passes_namespace ns).within)
declaration_shorter (a_library_prefix name uri) = omega (arith, (passes_literal uri).within)

pub declaration_shortens : Shortens (λ tokens. is_declaration (first tokens)) declaration_at
declaration_shortens = record {
  shorter = λ tokens goes v rest e.
      declaration_shorter (found_in {scope = no_scope} (declaration_at tokens) v rest (sound_declaration tokens) e);
}
