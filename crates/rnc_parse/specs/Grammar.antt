-- Patterns and the items of grammars: ISO/IEC 19757-2, Annex C. Annotations are dropped.
use Rattle.std.specs.Prelude.{◌≡◌, ℕ, List, [], ◌∷◌, codes}
use Rattle.rnc_lex.specs.declared.token.Lexeme.{Lexeme}
use Rattle.rnc_lex.specs.declared.token.Lexeme.TheVariants.{Identifier, Keyword as word, Symbol as mark}
use Rattle.rnc_lex.specs.declared.token.Symbol.{Symbol}
use Rattle.rnc_lex.specs.declared.token.Symbol.TheVariants.{LeftBrace, RightBrace, LeftParenthesis, RightParenthesis, Equals, BarEquals}
use Rattle.rnc_lex.specs.declared.token.Symbol.TheVariants.{AmpersandEquals, Comma, Bar, Ampersand, QuestionMark, Star, Plus, Minus}
use Rattle.rnc_lex.specs.declared.token.Keyword.TheVariants as keyword
use Rattle.rnc_parse.specs.declared.surface.Namespace.TheVariants.{Uri}
use Rattle.rnc_parse.specs.declared.surface.TypeName.{TypeName}
use Rattle.rnc_parse.specs.declared.surface.Param.{Param}
use Rattle.rnc_parse.specs.declared.surface.FileReference.{FileReference}
use Rattle.rnc_parse.specs.declared.surface.Defined.{Defined}
use Rattle.rnc_parse.specs.declared.surface.Defined.TheVariants as defined
use Rattle.rnc_parse.specs.declared.surface.Combine.{Combine}
use Rattle.rnc_parse.specs.declared.surface.Combine.TheVariants as combine
use Rattle.rnc_parse.specs.Written.{WrittenClass, WrittenPattern, element, attribute, list, mixed, ref, parent_ref, empty, any_text}
use Rattle.rnc_parse.specs.Written.{not_allowed, value, typed, typed_but, external, grammar, optional, zero_or_more, one_or_more, choice}
use Rattle.rnc_parse.specs.Written.{group, interleave, WrittenItem, define, div, include, WrittenItems, no_items, item_then}
use Rattle.rnc_parse.specs.Written.{WrittenReplacement, define_anew, div_anew, WrittenReplacements, no_replacements, replacement_then}
use Rattle.rnc_parse.specs.Written.{joined}
use Rattle.rnc_parse.specs.Scopes.{Scope}
use Rattle.rnc_parse.specs.Annotations.{IsGroup, MayBegin, NamesElement, Follow}
use Rattle.rnc_parse.specs.Classes.{IsClass}
use Rattle.rnc_parse.specs.Parts.{IsLiteral, built_in, IsType, MayHaveParams, IsReference}

-- a sign, and what it makes of two patterns
pub data Joins : Symbol → (WrittenPattern → WrittenPattern → WrittenPattern) → Type 0 where
  by_comma : Joins Comma group
  by_bar : Joins Bar choice
  by_ampersand : Joins Ampersand interleave

-- a mark behind a primary, and what it makes of a pattern
pub data Repeats : Symbol → (WrittenPattern → WrittenPattern) → Type 0 where
  by_question_mark : Repeats QuestionMark optional
  by_star : Repeats Star zero_or_more
  by_plus : Repeats Plus one_or_more

-- what a definition defines, and how it is joined to others
pub data IsDefined : Lexeme → Defined → Type 0 where
  start_defined : IsDefined (word keyword.Start) defined.Start
  name_defined : {name : List ℕ} → IsDefined (Identifier name) (defined.Name name)

pub data IsCombine : Symbol → Combine → Type 0 where
  alone : IsCombine Equals combine.Alone
  by_choice : IsCombine BarEquals combine.Choice
  by_interleave : IsCombine AmpersandEquals combine.Interleave

-- these tokens are this, and this rest, where prefixes stand for what the scope says
mutual
  -- pattern
  pub data IsPattern (scope : Scope) : List Lexeme → WrittenPattern → List Lexeme → Type 0 where
    one_particle : {p : WrittenPattern} {tokens rest : List Lexeme} → IsParticle scope tokens p rest → IsPattern scope tokens p rest
    several_particles : {sign : Symbol} {join : WrittenPattern → WrittenPattern → WrittenPattern} {p all : WrittenPattern}
        {more : List WrittenPattern} {tokens behind rest : List Lexeme} →
        Joins sign join → IsParticle scope tokens p behind → AreMoreParticles scope sign behind more rest → all ≡ joined join p more →
        IsPattern scope tokens all rest
    -- dataExcept; what may follow it may follow its primary
    type_but : {token : Lexeme} {type : TypeName} {params : List Param} {p : WrittenPattern} {tokens inside behind rest : List Lexeme} →
        MayBegin tokens (token ∷ inside) → IsType scope token type → MayHaveParams inside params (mark Minus ∷ behind) →
        IsAnnotated scope behind p rest → IsPattern scope tokens (typed_but type params p) rest

  -- one or more times the sign and particle
  pub data AreMoreParticles (scope : Scope) : Symbol → List Lexeme → List WrittenPattern → List Lexeme → Type 0 where
    last_particle : {sign : Symbol} {p : WrittenPattern} {tokens rest : List Lexeme} →
        IsParticle scope tokens p rest → AreMoreParticles scope sign (mark sign ∷ tokens) (p ∷ []) rest
    next_particle : {sign : Symbol} {p : WrittenPattern} {more : List WrittenPattern} {tokens behind rest : List Lexeme} →
        IsParticle scope tokens p behind → AreMoreParticles scope sign behind more rest →
        AreMoreParticles scope sign (mark sign ∷ tokens) (p ∷ more) rest

  -- particle
  pub data IsParticle (scope : Scope) : List Lexeme → WrittenPattern → List Lexeme → Type 0 where
    once : {p : WrittenPattern} {tokens rest : List Lexeme} → IsAnnotated scope tokens p rest → IsParticle scope tokens p rest
    repeated : {sign : Symbol} {repeat : WrittenPattern → WrittenPattern} {p : WrittenPattern} {tokens behind rest : List Lexeme} →
        Repeats sign repeat → IsAnnotated scope tokens p (mark sign ∷ behind) → Follow behind rest → IsParticle scope tokens (repeat p) rest

  -- primary with the annotations around it
  pub data IsAnnotated (scope : Scope) : List Lexeme → WrittenPattern → List Lexeme → Type 0 where
    annotated : {p : WrittenPattern} {tokens inside behind rest : List Lexeme} →
        MayBegin tokens inside → IsPrimary scope inside p behind → Follow behind rest → IsAnnotated scope tokens p rest

  -- primary
  pub data IsPrimary (scope : Scope) : List Lexeme → WrittenPattern → List Lexeme → Type 0 where
    an_element : {class : WrittenClass} {p : WrittenPattern} {tokens behind rest : List Lexeme} →
        IsClass scope scope.unprefixed tokens class (mark LeftBrace ∷ behind) → IsPattern scope behind p (mark RightBrace ∷ rest) →
        IsPrimary scope (word keyword.Element ∷ tokens) (element class p) rest
    an_attribute : {class : WrittenClass} {p : WrittenPattern} {tokens behind rest : List Lexeme} →
        IsClass scope (Uri []) tokens class (mark LeftBrace ∷ behind) → IsPattern scope behind p (mark RightBrace ∷ rest) →
        IsPrimary scope (word keyword.Attribute ∷ tokens) (attribute class p) rest
    a_list : {p : WrittenPattern} {tokens rest : List Lexeme} →
        IsPattern scope tokens p (mark RightBrace ∷ rest) → IsPrimary scope (word keyword.List ∷ mark LeftBrace ∷ tokens) (list p) rest
    a_mixed : {p : WrittenPattern} {tokens rest : List Lexeme} →
        IsPattern scope tokens p (mark RightBrace ∷ rest) → IsPrimary scope (word keyword.Mixed ∷ mark LeftBrace ∷ tokens) (mixed p) rest
    a_reference : {name : List ℕ} {rest : List Lexeme} → IsPrimary scope (Identifier name ∷ rest) (ref name) rest
    a_parent_reference : {name : List ℕ} {rest : List Lexeme} →
        IsPrimary scope (word keyword.Parent ∷ Identifier name ∷ rest) (parent_ref name) rest
    is_empty : {rest : List Lexeme} → IsPrimary scope (word keyword.Empty ∷ rest) empty rest
    is_text : {rest : List Lexeme} → IsPrimary scope (word keyword.Text ∷ rest) any_text rest
    is_not_allowed : {rest : List Lexeme} → IsPrimary scope (word keyword.NotAllowed ∷ rest) not_allowed rest
    -- a literal without a type is of the built-in type token
    untyped_value : {text : List ℕ} {tokens rest : List Lexeme} →
        IsLiteral tokens text rest → IsPrimary scope tokens (value (built_in (codes "token")) text) rest
    typed_value : {token : Lexeme} {type : TypeName} {text : List ℕ} {tokens rest : List Lexeme} →
        IsType scope token type → IsLiteral tokens text rest → IsPrimary scope (token ∷ tokens) (value type text) rest
    a_type : {token : Lexeme} {type : TypeName} {params : List Param} {tokens rest : List Lexeme} →
        IsType scope token type → MayHaveParams tokens params rest → IsPrimary scope (token ∷ tokens) (typed type params) rest
    an_external : {file : FileReference} {tokens rest : List Lexeme} →
        IsReference scope tokens file rest → IsPrimary scope (word keyword.External ∷ tokens) (external file) rest
    a_grammar_of : {items : WrittenItems} {tokens rest : List Lexeme} →
        AreItems scope tokens items (mark RightBrace ∷ rest) →
        IsPrimary scope (word keyword.Grammar ∷ mark LeftBrace ∷ tokens) (grammar items) rest
    parenthesized : {p : WrittenPattern} {tokens rest : List Lexeme} →
        IsPattern scope tokens p (mark RightParenthesis ∷ rest) → IsPrimary scope (mark LeftParenthesis ∷ tokens) p rest

  -- items, one after another, and annotations among them
  pub data AreItems (scope : Scope) : List Lexeme → WrittenItems → List Lexeme → Type 0 where
    no_more_items : {rest : List Lexeme} → AreItems scope rest no_items rest
    next_item : {item : WrittenItem} {items : WrittenItems} {tokens inside behind rest : List Lexeme} →
        MayBegin tokens inside → IsItem scope inside item behind → AreItems scope behind items rest →
        AreItems scope tokens (item_then item items) rest
    item_annotation : {name : Lexeme} {items : WrittenItems} {tokens inside behind rest : List Lexeme} →
        MayBegin tokens (name ∷ inside) → NamesElement name → IsGroup inside behind → AreItems scope behind items rest →
        AreItems scope tokens items rest

  -- item
  pub data IsItem (scope : Scope) : List Lexeme → WrittenItem → List Lexeme → Type 0 where
    a_definition : {token : Lexeme} {sign : Symbol} {name : Defined} {combine : Combine} {p : WrittenPattern} {tokens rest : List Lexeme} →
        IsDefined token name → IsCombine sign combine → IsPattern scope tokens p rest →
        IsItem scope (token ∷ mark sign ∷ tokens) (define name combine p) rest
    a_div : {items : WrittenItems} {tokens rest : List Lexeme} →
        AreItems scope tokens items (mark RightBrace ∷ rest) → IsItem scope (word keyword.Div ∷ mark LeftBrace ∷ tokens) (div items) rest
    an_include : {file : FileReference} {tokens rest : List Lexeme} →
        IsReference scope tokens file rest → IsItem scope (word keyword.Include ∷ tokens) (include file no_replacements) rest
    an_include_but : {file : FileReference} {replacements : WrittenReplacements} {tokens behind rest : List Lexeme} →
        IsReference scope tokens file (mark LeftBrace ∷ behind) → AreReplacements scope behind replacements (mark RightBrace ∷ rest) →
        IsItem scope (word keyword.Include ∷ tokens) (include file replacements) rest

  -- inner items, one after another, and annotations among them
  pub data AreReplacements (scope : Scope) : List Lexeme → WrittenReplacements → List Lexeme → Type 0 where
    no_more_replacements : {rest : List Lexeme} → AreReplacements scope rest no_replacements rest
    next_replacement : {replacement : WrittenReplacement} {replacements : WrittenReplacements} {tokens inside behind rest : List Lexeme} →
        MayBegin tokens inside → IsReplacement scope inside replacement behind → AreReplacements scope behind replacements rest →
        AreReplacements scope tokens (replacement_then replacement replacements) rest
    replacement_annotation : {name : Lexeme} {replacements : WrittenReplacements} {tokens inside behind rest : List Lexeme} →
        MayBegin tokens (name ∷ inside) → NamesElement name → IsGroup inside behind → AreReplacements scope behind replacements rest →
        AreReplacements scope tokens replacements rest

  -- inner
  pub data IsReplacement (scope : Scope) : List Lexeme → WrittenReplacement → List Lexeme → Type 0 where
    a_definition_anew : {token : Lexeme} {sign : Symbol} {name : Defined} {combine : Combine} {p : WrittenPattern}
        {tokens rest : List Lexeme} →
        IsDefined token name → IsCombine sign combine → IsPattern scope tokens p rest →
        IsReplacement scope (token ∷ mark sign ∷ tokens) (define_anew name combine p) rest
    a_div_anew : {replacements : WrittenReplacements} {tokens rest : List Lexeme} →
        AreReplacements scope tokens replacements (mark RightBrace ∷ rest) →
        IsReplacement scope (word keyword.Div ∷ mark LeftBrace ∷ tokens) (div_anew replacements) rest
