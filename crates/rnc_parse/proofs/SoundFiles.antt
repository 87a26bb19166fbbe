-- What reading finds of declarations and bodies is in the grammar.
use Rattle.std.proofs.Common.{◌≡◌, ℕ, true, false, List, [], ◌∷◌, ◌++◌, Option, Some, None, refl, sym, ap, subst, ◌∙◌, append_assoc}
use Rattle.std.proofs.lemmas.Bool.{false≢true}
use Rattle.std.proofs.lemmas.List.{append-nil}
use Rattle.rnc_lex.specs.declared.token.Lexeme.{Lexeme}
use Rattle.rnc_lex.specs.declared.token.Lexeme.TheVariants.{Keyword as word, Symbol as mark}
use Rattle.rnc_lex.specs.declared.token.Symbol.TheVariants.{Equals}
use Rattle.rnc_lex.specs.declared.token.Keyword.TheVariants as keyword
use Rattle.rnc_parse.specs.declared.declaration.Declaration.{Declaration}
use Rattle.rnc_parse.specs.declared.declaration.Declaration.TheVariants as declaration
use Rattle.rnc_parse.specs.declared.surface.Namespace.{Namespace}
use Rattle.rnc_parse.specs.declared.surface.Namespace.TheVariants.{Inherited}
use Rattle.rnc_parse.specs.Written.{WrittenSurface, a_pattern, a_grammar}
use Rattle.rnc_parse.specs.Scopes.{Scope}
use Rattle.rnc_parse.specs.Files.{IsNamespace, of_uri, inherited, IsDeclaration, a_namespace_prefix, a_default, a_default_prefix, a_library_prefix, AreDeclarations, no_declaration, next_declaration, IsBody, pattern_body, grammar_body}
use Rattle.rnc_parse.specs.Reading.{Reading, read, no_reading, no_prefix, first, behind, stands, behind_symbol, loop_at}
use Rattle.rnc_parse.specs.ReadingAnnotations.{opening_at}
use Rattle.rnc_parse.specs.ReadingParts.{literal_at, any_id_at, is_inherit}
use Rattle.rnc_parse.specs.ReadingPatterns.{pattern_at, items_at}
use Rattle.rnc_parse.specs.ReadingFiles.{namespace_uri_at, is_namespace_word, default_prefix_at, namespace_declaration_at, default_declaration_at, library_declaration_at, declaration_at, is_declaration, declarations_at, begins_items, ended, body_at}
use Rattle.rnc_parse.proofs.Sounding.{Sounds, finds, ends, stops, sound_bind, sound_weaker, sound_cond, sound_symbol, Many, no_step, one_step, added, sound_loop}
use Rattle.rnc_parse.proofs.SoundParts.{sound_opening, sound_literal, IsName, sound_any_id, inherit_is}
use Rattle.rnc_parse.proofs.SoundPatterns.{sound_pattern, sound_items}

namespace_word_is : (tokens : List Lexeme) → is_namespace_word (first tokens) ≡ true → tokens ≡ word keyword.Namespace ∷ behind tokens
unfolding first behind
namespace_word_is [] e = absurd (false≢true e)
namespace_word_is (word keyword.Namespace ∷ rest) e = refl
namespace_word_is (_ ∷ rest) e = absurd (false≢true e)

-- the prefix of a default, and that there may be none
data MayName : List Lexeme → Option (List ℕ) → List Lexeme → Type 0 where
  no_name : {rest : List Lexeme} → MayName rest None rest
  a_name : {tokens rest : List Lexeme} {name : List ℕ} → IsName tokens name rest → MayName tokens (Some name) rest

default_is : (tokens sign said rest : List Lexeme) (prefix : Option (List ℕ)) (ns : Namespace) → MayName tokens prefix sign →
    sign ≡ mark Equals ∷ said → IsNamespace said ns rest →
    IsDeclaration (word keyword.Default ∷ word keyword.Namespace ∷ tokens) (declaration.Default prefix ns) rest
default_is tokens sign said rest None ns no_name e n =
    subst (λ t. IsDeclaration (word keyword.Default ∷ word keyword.Namespace ∷ t) (declaration.Default None ns) rest) (sym e) (a_default n)
default_is tokens sign said rest (Some prefix) ns (a_name p) e n = subst (λ t. IsDeclaration (word keyword.Default ∷ word keyword.Namespace ∷ t) (declaration.Default (Some prefix) ns) rest) (sym (p.tokens_are ∙ ap (λ t. p.token ∷ t) e)) (a_default_prefix p.named n)

module _ {scope : Scope} where
  sound_namespace_uri : (tokens : List Lexeme) → Sounds scope (λ ns rest. IsNamespace tokens ns rest) (namespace_uri_at tokens)
  unfolding namespace_uri_at
  sound_namespace_uri tokens = sound_cond {P = λ ns rest. IsNamespace tokens ns rest} (is_inherit (first tokens)) _ _
      (λ i. finds (subst (λ t. IsNamespace t Inherited (behind tokens)) (sym (inherit_is tokens i)) inherited))
      (λ _. sound_bind (literal_at tokens) _ (sound_literal tokens) (λ uri rest l. finds (of_uri l)))

  sound_default_prefix : (tokens : List Lexeme) → Sounds scope (MayName tokens) (default_prefix_at tokens)
  unfolding default_prefix_at
  sound_default_prefix tokens = sound_cond {P = MayName tokens} (stands Equals tokens) _ _
      (λ _. finds no_name)
      (λ _. sound_bind (any_id_at tokens) _ (sound_any_id tokens) (λ prefix rest n. finds (a_name n)))

  pub sound_declaration : (tokens : List Lexeme) → Sounds scope (λ one rest. IsDeclaration tokens one rest) (declaration_at tokens)
  unfolding declaration_at first behind namespace_declaration_at default_declaration_at library_declaration_at
  sound_declaration [] = ends
  sound_declaration (word keyword.Namespace ∷ tokens) =
      sound_bind (any_id_at tokens) _ (sound_any_id tokens) (λ prefix sign n.
      sound_bind (behind_symbol Equals sign) _ (sound_symbol Equals sign) (λ _ said e.
      sound_bind (namespace_uri_at said) _ (sound_namespace_uri said) (λ ns rest u.
      finds (subst (λ t. IsDeclaration (word keyword.Namespace ∷ t) (declaration.Namespace prefix ns) rest) (sym (n.tokens_are ∙ ap (λ t. n.token ∷ t) e)) (a_namespace_prefix n.named u)))))
  sound_declaration (word keyword.Default ∷ tokens) =
      sound_cond {P = λ one rest. IsDeclaration (word keyword.Default ∷ tokens) one rest} (is_namespace_word (first tokens)) _ _
      (λ w. sound_bind (default_prefix_at (behind tokens)) _ (sound_default_prefix (behind tokens)) (λ prefix sign n.
      sound_bind (behind_symbol Equals sign) _ (sound_symbol Equals sign) (λ _ said e.
      sound_bind (namespace_uri_at said) _ (sound_namespace_uri said) (λ ns rest u.
      finds (subst (λ t. IsDeclaration (word keyword.Default ∷ t) (declaration.Default prefix ns) rest) (sym (namespace_word_is tokens w)) (default_is (behind tokens) sign said rest prefix ns n e u))))))
      (λ _. ends)
  sound_declaration (word keyword.Datatypes ∷ tokens) =
      sound_bind (any_id_at tokens) _ (sound_any_id tokens) (λ prefix sign n.
      sound_bind (behind_symbol Equals sign) _ (sound_symbol Equals sign) (λ _ said e.
      sound_bind (literal_at said) _ (sound_literal said) (λ uri rest l.
      finds (subst (λ t. IsDeclaration (word keyword.Datatypes ∷ t) (declaration.Datatypes prefix uri) rest) (sym (n.tokens_are ∙ ap (λ t. n.token ∷ t) e)) (a_library_prefix n.named l)))))
  sound_declaration (_ ∷ tokens) = ends

declarations_all : {tokens rest : List Lexeme} {values : List Declaration} (before : List Declaration) →
    Many (λ t one r. IsDeclaration t one r) tokens values rest → (all : List Declaration) →
    all ≡ added (λ ds one. ds ++ one ∷ []) before values →
    (later : List Declaration) × AreDeclarations tokens later rest × (all ≡ before ++ later)
declarations_all before no_step all e = ([], no_declaration, e ∙ sym (append-nil before))
declarations_all before (one_step {value = value} p later) all e =
    let (others, are, is) = declarations_all (before ++ value ∷ []) later all e in
    (value ∷ others, next_declaration p are, is ∙ append_assoc before (value ∷ []) others)

-- declarations, behind which no more stand
pub record AllDeclarations (tokens : List Lexeme) (declarations : List Declaration) (rest : List Lexeme) : Type 0 where
  pub are : AreDeclarations tokens declarations rest
  pub stopped : is_declaration (first rest) ≡ false

-- a body, and nothing more
pub data IsWhole (scope : Scope) (tokens : List Lexeme) (surface : WrittenSurface) : List Lexeme → Type 0 where
  whole : IsBody scope tokens surface → IsWhole scope tokens surface []

module _ {scope : Scope} where
  pub sound_declarations : (tokens : List Lexeme) → Sounds scope (AllDeclarations tokens) (declarations_at tokens)
  unfolding declarations_at
  sound_declarations tokens =
      sound_weaker (loop_at (λ t. is_declaration (first t)) declaration_at (λ ds one. ds ++ one ∷ []) [] tokens)
      (sound_loop (λ t. is_declaration (first t)) declaration_at (λ ds one. ds ++ one ∷ []) (λ t one r. IsDeclaration t one r) (λ t _. sound_declaration t) [] tokens)
      (λ all rest l.
      let (others, are, is) = declarations_all [] l.steps all l.all_is in
      record { are = subst (λ (ds : List Declaration). AreDeclarations tokens ds rest) (sym is) are; stopped = l.stopped })

  sound_ended : {A B : Type 0} {P : A → List Lexeme → Type 0} {Q : B → List Lexeme → Type 0} (make : A → B) (found : Reading A) →
      Sounds scope P found → ((value : A) → P value [] → Q (make value) []) → Sounds scope Q (ended make found)
  sound_ended make (read value []) (finds p) h = finds (h value p)
  sound_ended make (read value (token ∷ tokens)) (finds p) h = ends
  sound_ended make no_reading ends h = ends
  sound_ended make (no_prefix used) (stops u) h = stops u

  pub sound_body : (left : ℕ) (tokens : List Lexeme) → Sounds scope (IsWhole scope tokens) (body_at scope left tokens)
  unfolding body_at
  sound_body left tokens =
      sound_bind (opening_at tokens) _ (sound_opening tokens) (λ _ opened g.
      sound_bind (opening_at opened) _ (sound_opening opened) (λ _ inside _.
      sound_cond (begins_items inside) _ _
      (λ _. sound_ended {Q = IsWhole scope tokens} a_grammar (items_at scope left opened) (sound_items left opened) (λ items are. whole (grammar_body g are)))
      (λ _. sound_ended {Q = IsWhole scope tokens} a_pattern (pattern_at scope left opened) (sound_pattern left opened) (λ p is. whole (pattern_body g is)))))
