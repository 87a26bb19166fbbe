-- What reading finds of patterns and items is in the grammar.
use Rattle.std.proofs.Common.{◌≡◌, ℕ, zero, suc, true, List, [], ◌∷◌, Option, Some, None, refl, sym, ap, subst, ◌∙◌}
use Rattle.std.proofs.lemmas.Bool.{false≢true, and_parts}
use Rattle.rnc_lex.specs.declared.token.Lexeme.{Lexeme}
use Rattle.rnc_lex.specs.declared.token.Lexeme.TheVariants.{Identifier, PrefixedName, Literal, Keyword as word, Symbol as mark}
use Rattle.rnc_lex.specs.declared.token.Symbol.{Symbol}
use Rattle.rnc_lex.specs.declared.token.Symbol.TheVariants.{LeftBrace, RightBrace, LeftParenthesis, RightParenthesis, LeftBracket, Equals, BarEquals, AmpersandEquals, QuestionMark, Star, Plus, Minus}
use Rattle.rnc_lex.specs.declared.token.Keyword.TheVariants as keyword
use Rattle.rnc_parse.specs.declared.surface.Namespace.TheVariants.{Uri}
use Rattle.rnc_parse.specs.declared.surface.Defined.{Defined}
use Rattle.rnc_parse.specs.declared.surface.Combine.{Combine}
use Rattle.rnc_parse.specs.declared.sign.Sign.{Sign}
use Rattle.rnc_parse.specs.declared.sign.Sign.TheVariants as sign
use Rattle.rnc_parse.specs.declared.sign.Repeat.{Repeat}
use Rattle.rnc_parse.specs.declared.sign.Repeat.TheVariants as repeat
use Rattle.rnc_parse.specs.Scopes.{Scope}
use Rattle.rnc_parse.specs.Written.{WrittenPattern, list, mixed, parent_ref, value, typed, grammar, WrittenItem, define, div, WrittenItems, no_items, item_then, items_and, WrittenReplacement, define_anew, div_anew, WrittenReplacements, no_replacements, replacement_then, replacements_and}
use Rattle.rnc_parse.specs.Annotations.{IsGroup, MayBegin, NamesElement, by_identifier, by_prefixed_name, Follow}
use Rattle.rnc_parse.specs.Classes.{IsClass}
use Rattle.rnc_parse.specs.Parts.{MayHaveParams, IsReference}
use Rattle.rnc_parse.specs.Grammar.{Joins, by_comma, by_bar, by_ampersand, Repeats, by_question_mark, by_star, by_plus, IsDefined, start_defined, name_defined, IsCombine, alone, by_choice, by_interleave, IsPattern, one_particle, several_particles, type_but, AreMoreParticles, last_particle, next_particle, IsParticle, once, repeated, IsAnnotated, annotated, IsPrimary, an_element, an_attribute, a_list, a_mixed, a_reference, a_parent_reference, is_empty, is_text, is_not_allowed, untyped_value, typed_value, a_type, an_external, a_grammar_of, parenthesized, AreItems, no_more_items, next_item, item_annotation, IsItem, a_definition, a_div, an_include, an_include_but, AreReplacements, no_more_replacements, next_replacement, replacement_annotation, IsReplacement, a_definition_anew, a_div_anew}
use Rattle.rnc_parse.specs.Reading.{Reading, read, ◌>>=◌, first, behind, stands, behind_symbol, loop_at}
use Rattle.rnc_parse.specs.ReadingAnnotations.{is_element_name, group_at, opening_at, follow_at}
use Rattle.rnc_parse.specs.ReadingParts.{literal_at, is_literal, identifier_at, type_at, begins_data, goes_on, params_at, reference_at}
use Rattle.rnc_parse.specs.ReadingClasses.{class_at}
use Rattle.rnc_parse.specs.ReadingPatterns.{sign_of, joins, sign_symbol, repeat_of, repeats, defined_of, combine_of, begins_annotation, add_item, add_replacement, Inside, between, typed_at, leaf_at, marked_by, marked_at, primary_at, opened_primary_at, particle_at, joined_by, behind_primary_at, data_at, pattern_within, definition_at, include_at, item_by, item_at, items_within, replacement_by, replacement_at, replacements_within, inside_at, pattern_at, items_at}
use Rattle.rnc_parse.proofs.Sounding.{Sounds, finds, ends, sound_bind, sound_weaker, sound_cond, stands_is, sound_symbol, Many, no_step, one_step, added, added_joined, sound_loop}
use Rattle.rnc_parse.proofs.SoundParts.{sound_group, sound_opening, sound_follow, sound_literal, sound_identifier, sound_type, sound_params, sound_reference, sound_class}

-- ---- signs

repeat_is : (tokens : List Lexeme) (r : Repeat) → repeat_of (first tokens) ≡ Some r →
    (sign : Symbol) × (tokens ≡ mark sign ∷ behind tokens) × Repeats sign (repeats r)
unfolding first behind
repeat_is [] r e = absurd cc
repeat_is (mark QuestionMark ∷ rest) repeat.Optional e = (QuestionMark, refl, by_question_mark)
repeat_is (mark Star ∷ rest) repeat.ZeroOrMore e = (Star, refl, by_star)
repeat_is (mark Plus ∷ rest) repeat.OneOrMore e = (Plus, refl, by_plus)
repeat_is (_ ∷ rest) r e = absurd cc

joins_is : (s : Sign) → Joins (sign_symbol s) (joins s)
joins_is sign.Group = by_comma
joins_is sign.Choice = by_bar
joins_is sign.Interleave = by_ampersand

element_name_is : (tokens : List Lexeme) → is_element_name (first tokens) ≡ true →
    (name : Lexeme) × (tokens ≡ name ∷ behind tokens) × NamesElement name
unfolding first behind
element_name_is [] e = absurd (false≢true e)
element_name_is (Identifier name ∷ rest) e = (Identifier name, refl, by_identifier)
element_name_is (PrefixedName prefix local ∷ rest) e = (PrefixedName prefix local, refl, by_prefixed_name)
element_name_is (_ ∷ rest) e = absurd (false≢true e)

-- what a definition begins with
record Defines (tokens : List Lexeme) (name : Defined) (rest : List Lexeme) : Type 0 where
  pub token : Lexeme
  pub tokens_are : tokens ≡ token ∷ rest
  pub names : IsDefined token name

record Combines (tokens : List Lexeme) (combine : Combine) (rest : List Lexeme) : Type 0 where
  pub sign : Symbol
  pub tokens_are : tokens ≡ mark sign ∷ rest
  pub says : IsCombine sign combine

sound_defined : {scope : Scope} (tokens : List Lexeme) → Sounds scope (Defines tokens) (defined_of (first tokens) (behind tokens))
unfolding first behind
sound_defined [] = ends
sound_defined (word keyword.Start ∷ rest) = finds (record { token = word keyword.Start; tokens_are = refl; names = start_defined })
sound_defined (Identifier name ∷ rest) = finds (record { token = Identifier name; tokens_are = refl; names = name_defined })
sound_defined (_ ∷ rest) = ends

sound_combine : {scope : Scope} (tokens : List Lexeme) → Sounds scope (Combines tokens) (combine_of (first tokens) (behind tokens))
unfolding first behind
sound_combine [] = ends
sound_combine (mark Equals ∷ rest) = finds (record { sign = Equals; tokens_are = refl; says = alone })
sound_combine (mark BarEquals ∷ rest) = finds (record { sign = BarEquals; tokens_are = refl; says = by_choice })
sound_combine (mark AmpersandEquals ∷ rest) = finds (record { sign = AmpersandEquals; tokens_are = refl; says = by_interleave })
sound_combine (_ ∷ rest) = ends

-- something between two brackets
record IsBetween {A : Type 0} (opening closing : Symbol) (P : List Lexeme → A → List Lexeme → Type 0) (tokens : List Lexeme) (value : A) (rest : List Lexeme) : Type 0 where
  pub inside : List Lexeme
  pub tokens_are : tokens ≡ mark opening ∷ inside
  pub said : P inside value (mark closing ∷ rest)

sound_between : {scope : Scope}
    {A : Type 0} (opening closing : Symbol) (P : List Lexeme → A → List Lexeme → Type 0) (inside : List Lexeme → Reading A) →
    ((tokens : List Lexeme) → Sounds scope (P tokens) (inside tokens)) → (tokens : List Lexeme) →
    Sounds scope (IsBetween opening closing P tokens) (between opening closing inside tokens)
sound_between opening closing P inside sound tokens =
    sound_bind (behind_symbol opening tokens) _ (sound_symbol opening tokens) (λ _ opened e.
    sound_bind (inside opened) _ (sound opened) (λ found closed p.
    sound_bind (behind_symbol closing closed) _ (sound_symbol closing closed) (λ _ rest f.
    finds (record { inside = opened; tokens_are = e; said = subst (P opened found) f p }))))

-- a primary with a group before it
record IsOpened (scope : Scope) (tokens : List Lexeme) (p : WrittenPattern) (rest : List Lexeme) : Type 0 where
  pub inside : List Lexeme
  pub opened : MayBegin tokens inside
  pub primary : IsPrimary scope inside p rest

-- a particle behind a sign
record IsJoined (scope : Scope) (sign : Symbol) (tokens : List Lexeme) (p : WrittenPattern) (rest : List Lexeme) : Type 0 where
  pub inside : List Lexeme
  pub tokens_are : tokens ≡ mark sign ∷ inside
  pub said : IsParticle scope inside p rest

-- an item or an annotation
pub data IsEntry (scope : Scope) : List Lexeme → Option WrittenItem → List Lexeme → Type 0 where
  an_item : {item : WrittenItem} {tokens inside rest : List Lexeme} →
      MayBegin tokens inside → IsItem scope inside item rest → IsEntry scope tokens (Some item) rest
  a_note : {name : Lexeme} {tokens inside rest : List Lexeme} →
      MayBegin tokens (name ∷ inside) → NamesElement name → IsGroup inside rest → IsEntry scope tokens None rest

items_from : List (Option WrittenItem) → WrittenItems
items_from [] = no_items
items_from (Some item ∷ others) = item_then item (items_from others)
items_from (None ∷ others) = items_from others

pub items_and_none : (items : WrittenItems) → items_and items no_items ≡ items
items_and_none no_items = refl
items_and_none (item_then one items) = ap (item_then one) (items_and_none items)

pub items_and_one : (items others : WrittenItems) (one : WrittenItem) →
    items_and (items_and items (item_then one no_items)) others ≡ items_and items (item_then one others)
items_and_one no_items others one = refl
items_and_one (item_then x items) others one = ap (item_then x) (items_and_one items others one)

added_items : (before : WrittenItems) (values : List (Option WrittenItem)) →
    added add_item before values ≡ items_and before (items_from values)
unfolding items_from
added_items before [] = sym (items_and_none before)
added_items before (Some one ∷ others) =
    added_items (items_and before (item_then one no_items)) others ∙ items_and_one before (items_from others) one
added_items before (None ∷ others) = added_items before others

items_all : {scope : Scope} {tokens rest : List Lexeme} {values : List (Option WrittenItem)} →
    Many (IsEntry scope) tokens values rest → AreItems scope tokens (items_from values) rest
unfolding items_from
items_all no_step = no_more_items
items_all (one_step (an_item g item) later) = next_item g item (items_all later)
items_all (one_step (a_note g name noted) later) = item_annotation g name noted (items_all later)

pub data IsAnew (scope : Scope) : List Lexeme → Option WrittenReplacement → List Lexeme → Type 0 where
  one_anew : {replacement : WrittenReplacement} {tokens inside rest : List Lexeme} →
      MayBegin tokens inside → IsReplacement scope inside replacement rest → IsAnew scope tokens (Some replacement) rest
  a_note_anew : {name : Lexeme} {tokens inside rest : List Lexeme} →
      MayBegin tokens (name ∷ inside) → NamesElement name → IsGroup inside rest → IsAnew scope tokens None rest

replacements_from : List (Option WrittenReplacement) → WrittenReplacements
replacements_from [] = no_replacements
replacements_from (Some one ∷ others) = replacement_then one (replacements_from others)
replacements_from (None ∷ others) = replacements_from others

pub replacements_and_none : (replacements : WrittenReplacements) → replacements_and replacements no_replacements ≡ replacements
replacements_and_none no_replacements = refl
replacements_and_none (replacement_then one replacements) = ap (replacement_then one) (replacements_and_none replacements)

pub replacements_and_one : (replacements others : WrittenReplacements) (one : WrittenReplacement) →
    replacements_and (replacements_and replacements (replacement_then one no_replacements)) others ≡ replacements_and replacements (replacement_then one others)
replacements_and_one no_replacements others one = refl
replacements_and_one (replacement_then x replacements) others one = ap (replacement_then x) (replacements_and_one replacements others one)

added_replacements : (before : WrittenReplacements) (values : List (Option WrittenReplacement)) →
    added add_replacement before values ≡ replacements_and before (replacements_from values)
unfolding replacements_from
added_replacements before [] = sym (replacements_and_none before)
added_replacements before (Some one ∷ others) = added_replacements (replacements_and before (replacement_then one no_replacements)) others ∙ replacements_and_one before (replacements_from others) one
added_replacements before (None ∷ others) = added_replacements before others

replacements_all : {scope : Scope} {tokens rest : List Lexeme} {values : List (Option WrittenReplacement)} →
    Many (IsAnew scope) tokens values rest → AreReplacements scope tokens (replacements_from values) rest
unfolding replacements_from
replacements_all no_step = no_more_replacements
replacements_all (one_step (one_anew g one) later) = next_replacement g one (replacements_all later)
replacements_all (one_step (a_note_anew g name noted) later) = replacement_annotation g name noted (replacements_all later)

particles_all : {scope : Scope} {s : Symbol} {tokens behind rest : List Lexeme} {p : WrittenPattern} {values : List WrittenPattern} →
    IsJoined scope s tokens p behind → Many (IsJoined scope s) behind values rest → AreMoreParticles scope s tokens (p ∷ values) rest
particles_all {scope = sc} {s = s} {rest = r} {p = p} one no_step =
    subst (λ t. AreMoreParticles sc s t (p ∷ []) r) (sym one.tokens_are) (last_particle one.said)
particles_all {scope = sc} {s = s} {rest = r} {p = p} {values = ps} one (one_step next later) =
    subst (λ t. AreMoreParticles sc s t (p ∷ ps) r) (sym one.tokens_are) (next_particle one.said (particles_all next later))

pattern_of_all : {scope : Scope} {tokens behind rest : List Lexeme} {p all : WrittenPattern} {values : List WrittenPattern} (s : Sign) →
    IsParticle scope tokens p behind → Many (IsJoined scope (sign_symbol s)) behind values rest → all ≡ added (joins s) p values →
    IsPattern scope tokens all rest
pattern_of_all {scope = sc} {tokens = t} {rest = r} s one no_step e =
    subst (λ (q : WrittenPattern). IsPattern sc t q r) (sym e) (one_particle one)
pattern_of_all {p = p} {values = ps} s one (one_step next later) e =
    several_particles (joins_is s) one (particles_all next later) (e ∙ added_joined (joins s) p ps)

-- what stands in brackets is in the grammar
pub record SoundInside (scope : Scope) (inside : Inside) : Type 0 where
  pub pattern : (tokens : List Lexeme) → Sounds scope (λ p rest. IsPattern scope tokens p rest) (inside.pattern tokens)
  pub items : (tokens : List Lexeme) → Sounds scope (λ items rest. AreItems scope tokens items rest) (inside.items tokens)
  pub replacements : (tokens : List Lexeme) →
      Sounds scope (λ replacements rest. AreReplacements scope tokens replacements rest) (inside.replacements tokens)

module _ {scope : Scope} where
  sound_typed : (tokens : List Lexeme) → Sounds scope (λ p rest. IsPrimary scope tokens p rest) (typed_at scope tokens)
  unfolding typed_at
  sound_typed tokens = sound_bind (type_at scope tokens) _ (sound_type tokens) (λ type said t.
      sound_cond {P = λ p rest. IsPrimary scope tokens p rest} (is_literal (first said)) _ _
      (λ _. sound_bind (literal_at said) _ (sound_literal said) (λ text rest l. finds (subst (λ ts. IsPrimary scope ts (value type text) rest) (sym t.tokens_are) (typed_value t.typed l))))
      (λ _. sound_bind (params_at said) _ (sound_params said) (λ params rest l. finds (subst (λ ts. IsPrimary scope ts (typed type params) rest) (sym t.tokens_are) (a_type t.typed l)))))

  sound_leaf : (tokens : List Lexeme) → Sounds scope (λ p rest. IsPrimary scope tokens p rest) (leaf_at scope tokens)
  unfolding leaf_at first behind
  sound_leaf [] = sound_typed []
  sound_leaf (Identifier name ∷ rest) = finds a_reference
  sound_leaf (word keyword.Parent ∷ rest) = sound_bind (identifier_at rest) _ (sound_identifier rest) (λ name end e. finds (subst (λ ts. IsPrimary scope (word keyword.Parent ∷ ts) (parent_ref name) end) (sym e) a_parent_reference))
  sound_leaf (word keyword.Empty ∷ rest) = finds is_empty
  sound_leaf (word keyword.Text ∷ rest) = finds is_text
  sound_leaf (word keyword.NotAllowed ∷ rest) = finds is_not_allowed
  sound_leaf (Literal text ∷ rest) =
      sound_bind (literal_at (Literal text ∷ rest)) _ (sound_literal (Literal text ∷ rest)) (λ all end l. finds (untyped_value l))
  sound_leaf (word keyword.External ∷ rest) =
      sound_bind (reference_at scope rest) _ (sound_reference rest) (λ file end f. finds (an_external f))
  sound_leaf (x ∷ rest) = sound_typed (x ∷ rest)

  module _ {tokens inside behind_it : List Lexeme} {p : WrittenPattern} (g : MayBegin tokens inside) (primary : IsPrimary scope inside p behind_it) where
    by_repeat : (rest : List Lexeme) → Follow behind_it rest → (found : Option Repeat) → repeat_of (first rest) ≡ found →
        Sounds scope (λ q end. IsParticle scope tokens q end) (marked_by p rest found)
    by_repeat rest f None e = finds (once (annotated g primary f))
    by_repeat rest f (Some r) e =
        let (s, is, makes) = repeat_is rest r e in
        sound_bind (follow_at (behind rest)) _ (sound_follow (behind rest)) (λ _ end later.
        finds (repeated makes (subst (IsAnnotated scope tokens p) is (annotated g primary f)) later))

    sound_marked : Sounds scope (λ q rest. IsParticle scope tokens q rest) (marked_at p behind_it)
    unfolding marked_at
    sound_marked = sound_bind (follow_at behind_it) _ (sound_follow behind_it) (λ _ rest f. by_repeat rest f (repeat_of (first rest)) refl)

  module _ (left : ℕ) (inside : Inside) (sound : SoundInside scope inside) where
    sound_braced : (tokens : List Lexeme) →
        Sounds scope (IsBetween LeftBrace RightBrace (IsPattern scope) tokens) (between LeftBrace RightBrace inside.pattern tokens)
    sound_braced tokens = sound_between LeftBrace RightBrace (IsPattern scope) inside.pattern sound.pattern tokens

    sound_primary : (tokens : List Lexeme) → Sounds scope (λ p rest. IsPrimary scope tokens p rest) (primary_at scope left inside tokens)
    unfolding primary_at first behind
    sound_primary [] = sound_leaf []
    sound_primary (word keyword.Element ∷ rest) =
        sound_bind (class_at scope scope.unprefixed left rest) _ (sound_class left rest) (λ class braced c.
        sound_bind (between LeftBrace RightBrace inside.pattern braced) _ (sound_braced braced) (λ p end b.
        finds (an_element (subst (IsClass scope scope.unprefixed rest class) b.tokens_are c) b.said)))
    sound_primary (word keyword.Attribute ∷ rest) =
        sound_bind (class_at scope (Uri []) left rest) _ (sound_class left rest) (λ class braced c.
        sound_bind (between LeftBrace RightBrace inside.pattern braced) _ (sound_braced braced) (λ p end b.
        finds (an_attribute (subst (IsClass scope (Uri []) rest class) b.tokens_are c) b.said)))
    sound_primary (word keyword.List ∷ rest) =
        sound_bind (between LeftBrace RightBrace inside.pattern rest) _ (sound_braced rest) (λ p end b.
        finds (subst (λ ts. IsPrimary scope (word keyword.List ∷ ts) (list p) end) (sym b.tokens_are) (a_list b.said)))
    sound_primary (word keyword.Mixed ∷ rest) =
        sound_bind (between LeftBrace RightBrace inside.pattern rest) _ (sound_braced rest) (λ p end b.
        finds (subst (λ ts. IsPrimary scope (word keyword.Mixed ∷ ts) (mixed p) end) (sym b.tokens_are) (a_mixed b.said)))
    sound_primary (word keyword.Grammar ∷ rest) = sound_bind (between LeftBrace RightBrace inside.items rest) _ (sound_between LeftBrace RightBrace (AreItems scope) inside.items sound.items rest) (λ items end b.
        finds (subst (λ ts. IsPrimary scope (word keyword.Grammar ∷ ts) (grammar items) end) (sym b.tokens_are) (a_grammar_of b.said)))
    sound_primary (mark LeftParenthesis ∷ rest) = sound_weaker (between LeftParenthesis RightParenthesis inside.pattern (mark LeftParenthesis ∷ rest)) (sound_between LeftParenthesis RightParenthesis (IsPattern scope) inside.pattern sound.pattern (mark LeftParenthesis ∷ rest)) (λ p end b.
        subst (λ ts. IsPrimary scope ts p end) (sym b.tokens_are) (parenthesized b.said))
    sound_primary (x ∷ rest) = sound_leaf (x ∷ rest)

    sound_opened_primary : (tokens : List Lexeme) → Sounds scope (IsOpened scope tokens) (opened_primary_at scope left inside tokens)
    unfolding opened_primary_at
    sound_opened_primary tokens = sound_bind (opening_at tokens) _ (sound_opening tokens) (λ _ opened g.
        sound_weaker (primary_at scope left inside opened) (sound_primary opened) (λ p rest is. record { inside = opened; opened = g; primary = is }))

    pub sound_particle : (tokens : List Lexeme) →
        Sounds scope (λ p rest. IsParticle scope tokens p rest) (particle_at scope left inside tokens)
    unfolding particle_at
    sound_particle tokens = sound_bind (opened_primary_at scope left inside tokens) _ (sound_opened_primary tokens) (λ p rest o. sound_marked o.opened o.primary)

    sound_joined : (tokens rest : List Lexeme) (p : WrittenPattern) → IsParticle scope tokens p rest → (found : Option Sign) →
        Sounds scope (λ q end. IsPattern scope tokens q end) (joined_by scope left inside p rest found)
    sound_joined tokens rest p one None = finds (one_particle one)
    sound_joined tokens rest p one (Some s) =
        sound_weaker (loop_at (stands (sign_symbol s)) (λ t. particle_at scope left inside (behind t)) (joins s) p rest)
        (sound_loop (stands (sign_symbol s)) (λ t. particle_at scope left inside (behind t)) (joins s) (IsJoined scope (sign_symbol s))
        (λ t goes. sound_weaker (particle_at scope left inside (behind t)) (sound_particle (behind t)) (λ q r is. record { inside = behind t; tokens_are = stands_is (sign_symbol s) t goes; said = is }))
        p rest)
        (λ all end l. pattern_of_all s one l.steps l.all_is)

    sound_behind_primary : (tokens opened rest : List Lexeme) (p : WrittenPattern) → MayBegin tokens opened →
        IsPrimary scope opened p rest → Sounds scope (λ q end. IsPattern scope tokens q end) (behind_primary_at scope left inside p rest)
    unfolding behind_primary_at
    sound_behind_primary tokens opened rest p g is =
        sound_bind (marked_at p rest) _ (sound_marked g is) (λ q end one. sound_joined tokens end q one (sign_of (first end)))

    sound_data : (tokens opened : List Lexeme) → MayBegin tokens opened →
        Sounds scope (λ q end. IsPattern scope tokens q end) (data_at scope left inside opened)
    unfolding data_at
    sound_data tokens opened g =
        sound_bind (type_at scope opened) _ (sound_type opened) (λ type said t.
        sound_bind (params_at said) _ (sound_params said) (λ params rest ps.
        sound_cond (stands Minus rest) _ _
        (λ minus. sound_bind (opened_primary_at scope left inside (behind rest)) _ (sound_opened_primary (behind rest)) (λ p followed o.
        sound_bind (follow_at followed) _ (sound_follow followed) (λ _ end f.
        finds (type_but (subst (MayBegin tokens) t.tokens_are g) t.typed (subst (MayHaveParams said params) (stands_is Minus rest minus) ps) (annotated o.opened o.primary f)))))
        (λ _. sound_behind_primary tokens opened rest (typed type params) g (subst (λ ts. IsPrimary scope ts (typed type params) rest) (sym t.tokens_are) (a_type t.typed ps)))))

    pub sound_pattern_within : (tokens : List Lexeme) →
        Sounds scope (λ p rest. IsPattern scope tokens p rest) (pattern_within scope left inside tokens)
    unfolding pattern_within
    sound_pattern_within tokens = sound_bind (opening_at tokens) _ (sound_opening tokens) (λ _ opened g.
        sound_cond (begins_data opened) _ _
        (λ _. sound_data tokens opened g)
        (λ _. sound_bind (primary_at scope left inside opened) _ (sound_primary opened) (λ p rest is. sound_behind_primary tokens opened rest p g is)))

    -- ---- items

    record IsDefinition (tokens : List Lexeme) (d : Defined × Combine × WrittenPattern) (rest : List Lexeme) : Type 0 where
      pub token : Lexeme
      pub sign : Symbol
      pub said : List Lexeme
      pub tokens_are : tokens ≡ token ∷ mark sign ∷ said
      pub names : IsDefined token d.0
      pub combines : IsCombine sign d.1
      pub body : IsPattern scope said d.2 rest

    sound_definition : (tokens : List Lexeme) → Sounds scope (IsDefinition tokens) (definition_at scope left inside tokens)
    unfolding definition_at
    sound_definition tokens =
        sound_bind (defined_of (first tokens) (behind tokens)) _ (sound_defined tokens) (λ name sign n.
        sound_bind (combine_of (first sign) (behind sign)) _ (sound_combine sign) (λ combine said c.
        sound_bind (pattern_within scope left inside said) _ (sound_pattern_within said) (λ p rest b.
        finds (record { token = n.token; sign = c.sign; said = said; tokens_are = n.tokens_are ∙ ap (λ t. n.token ∷ t) c.tokens_are; names = n.names; combines = c.says; body = b }))))

    sound_include : (tokens : List Lexeme) →
        Sounds scope (λ item rest. IsItem scope (word keyword.Include ∷ tokens) item rest) (include_at scope left inside tokens)
    unfolding include_at
    sound_include tokens = sound_bind (reference_at scope tokens) _ (sound_reference tokens) (λ file rest f.
        sound_cond (stands LeftBrace rest) _ _
        (λ _. sound_bind (between LeftBrace RightBrace inside.replacements rest) _ (sound_between LeftBrace RightBrace (AreReplacements scope) inside.replacements sound.replacements rest) (λ rs end b.
        finds (an_include_but (subst (IsReference scope tokens file) b.tokens_are f) b.said)))
        (λ _. finds (an_include f)))

    sound_define : (tokens opened : List Lexeme) → MayBegin tokens opened →
        Sounds scope (λ found rest. IsEntry scope tokens found rest) (definition_at scope left inside opened >>= λ d rest. read (Some (define d.0 d.1 d.2)) rest)
    sound_define tokens opened g = sound_bind (definition_at scope left inside opened) _ (sound_definition opened) (λ d rest is.
        finds (an_item g (subst (λ ts. IsItem scope ts (define d.0 d.1 d.2) rest) (sym is.tokens_are) (a_definition is.names is.combines is.body))))

    sound_item_by : (tokens opened : List Lexeme) → MayBegin tokens opened →
        Sounds scope (λ found rest. IsEntry scope tokens found rest) (item_by scope left inside opened (first opened))
    unfolding first behind
    sound_item_by tokens [] g = sound_define tokens [] g
    sound_item_by tokens (word keyword.Div ∷ rest) g = sound_bind (between LeftBrace RightBrace inside.items rest) _ (sound_between LeftBrace RightBrace (AreItems scope) inside.items sound.items rest) (λ items end b.
        finds (an_item g (subst (λ ts. IsItem scope (word keyword.Div ∷ ts) (div items) end) (sym b.tokens_are) (a_div b.said))))
    sound_item_by tokens (word keyword.Include ∷ rest) g =
        sound_bind (include_at scope left inside rest) _ (sound_include rest) (λ item end is. finds (an_item g is))
    sound_item_by tokens (x ∷ rest) g = sound_define tokens (x ∷ rest) g

    pub sound_item : (tokens : List Lexeme) →
        Sounds scope (λ found rest. IsEntry scope tokens found rest) (item_at scope left inside tokens)
    unfolding item_at
    sound_item tokens = sound_bind (opening_at tokens) _ (sound_opening tokens) (λ _ opened g.
        sound_cond (begins_annotation opened) _ _
        (λ b.
        let (name, is, names) = element_name_is opened (and_parts (is_element_name (first opened)) (stands LeftBracket (behind opened)) b).0 in
        sound_bind (group_at (behind opened)) _ (sound_group (behind opened)) (λ _ rest noted. finds (a_note (subst (MayBegin tokens) is g) names noted)))
        (λ _. sound_item_by tokens opened g))

    pub sound_items_within : (tokens : List Lexeme) →
        Sounds scope (λ items rest. AreItems scope tokens items rest) (items_within scope left inside tokens)
    unfolding items_within
    sound_items_within tokens =
        sound_weaker (loop_at goes_on (item_at scope left inside) add_item no_items tokens)
        (sound_loop goes_on (item_at scope left inside) add_item (IsEntry scope) (λ t _. sound_item t) no_items tokens)
        (λ all rest l. subst (λ (is : WrittenItems). AreItems scope tokens is rest) (sym (l.all_is ∙ added_items no_items l.values)) (items_all l.steps))

    sound_define_anew : (tokens opened : List Lexeme) → MayBegin tokens opened →
        Sounds scope (λ found rest. IsAnew scope tokens found rest) (definition_at scope left inside opened >>= λ d rest. read (Some (define_anew d.0 d.1 d.2)) rest)
    sound_define_anew tokens opened g = sound_bind (definition_at scope left inside opened) _ (sound_definition opened) (λ d rest is.
        finds (one_anew g (subst (λ ts. IsReplacement scope ts (define_anew d.0 d.1 d.2) rest) (sym is.tokens_are) (a_definition_anew is.names is.combines is.body))))

    sound_replacement_by : (tokens opened : List Lexeme) → MayBegin tokens opened →
        Sounds scope (λ found rest. IsAnew scope tokens found rest) (replacement_by scope left inside opened (first opened))
    unfolding first behind
    sound_replacement_by tokens [] g = sound_define_anew tokens [] g
    sound_replacement_by tokens (word keyword.Div ∷ rest) g = sound_bind (between LeftBrace RightBrace inside.replacements rest) _ (sound_between LeftBrace RightBrace (AreReplacements scope) inside.replacements sound.replacements rest) (λ rs end b.
        finds (one_anew g (subst (λ ts. IsReplacement scope (word keyword.Div ∷ ts) (div_anew rs) end) (sym b.tokens_are) (a_div_anew b.said))))
    sound_replacement_by tokens (x ∷ rest) g = sound_define_anew tokens (x ∷ rest) g

    pub sound_replacement : (tokens : List Lexeme) →
        Sounds scope (λ found rest. IsAnew scope tokens found rest) (replacement_at scope left inside tokens)
    unfolding replacement_at
    sound_replacement tokens = sound_bind (opening_at tokens) _ (sound_opening tokens) (λ _ opened g.
        sound_cond (begins_annotation opened) _ _
        (λ b.
        let (name, is, names) = element_name_is opened (and_parts (is_element_name (first opened)) (stands LeftBracket (behind opened)) b).0 in
        sound_bind (group_at (behind opened)) _ (sound_group (behind opened)) (λ _ rest noted. finds (a_note_anew (subst (MayBegin tokens) is g) names noted)))
        (λ _. sound_replacement_by tokens opened g))

    sound_replacements_within : (tokens : List Lexeme) →
        Sounds scope (λ rs rest. AreReplacements scope tokens rs rest) (replacements_within scope left inside tokens)
    unfolding replacements_within
    sound_replacements_within tokens =
        sound_weaker (loop_at goes_on (replacement_at scope left inside) add_replacement no_replacements tokens)
        (sound_loop goes_on (replacement_at scope left inside) add_replacement (IsAnew scope) (λ t _. sound_replacement t) no_replacements tokens)
        (λ all rest l. subst (λ (rs : WrittenReplacements). AreReplacements scope tokens rs rest) (sym (l.all_is ∙ added_replacements no_replacements l.values)) (replacements_all l.steps))

  pub sound_inside : (left : ℕ) → SoundInside scope (inside_at scope left)
  unfolding inside_at
  sound_inside zero = record { pattern = λ t. ends; items = λ t. ends; replacements = λ t. ends }
  sound_inside (suc left) = record {
    pattern = sound_pattern_within left (inside_at scope left) (sound_inside left);
    items = sound_items_within left (inside_at scope left) (sound_inside left);
    replacements = sound_replacements_within left (inside_at scope left) (sound_inside left);
  }

  pub sound_pattern : (left : ℕ) (tokens : List Lexeme) →
      Sounds scope (λ p rest. IsPattern scope tokens p rest) (pattern_at scope left tokens)
  unfolding pattern_at
  sound_pattern left tokens = sound_pattern_within left (inside_at scope left) (sound_inside left) tokens

  pub sound_items : (left : ℕ) (tokens : List Lexeme) →
      Sounds scope (λ items rest. AreItems scope tokens items rest) (items_at scope left tokens)
  unfolding items_at
  sound_items left tokens = sound_items_within left (inside_at scope left) (sound_inside left) tokens
