-- What reading finds of annotations, literals, types, references and name classes is in the grammar.
use Rattle.std.proofs.Common.{◌≡◌, ℕ, zero, suc, Bool, true, false, cond, List, [], ◌∷◌, ◌++◌, Option, Some, None, refl, sym, ap, subst, ◌∙◌, append_assoc}
use Rattle.std.proofs.lemmas.Bool.{false≢true, and_parts}
use Rattle.std.proofs.lemmas.List.{append-nil}
use Rattle.rnc_lex.specs.declared.token.Lexeme.{Lexeme}
use Rattle.rnc_lex.specs.declared.token.Lexeme.TheVariants.{Identifier, PrefixedName, NamespaceWildcard, Literal, Keyword as word, Symbol as mark}
use Rattle.rnc_lex.specs.declared.token.Symbol.{Symbol}
use Rattle.rnc_lex.specs.declared.token.Symbol.TheVariants.{LeftBrace, RightBrace, LeftParenthesis, RightParenthesis, LeftBracket, RightBracket, Equals, Bar, Star, Minus, Tilde, Follows}
use Rattle.rnc_lex.specs.declared.token.Keyword.TheVariants as keyword
use Rattle.rnc_parse.specs.declared.surface.Namespace.{Namespace}
use Rattle.rnc_parse.specs.declared.surface.TypeName.{TypeName}
use Rattle.rnc_parse.specs.declared.surface.Param.{Param}
use Rattle.rnc_parse.specs.Scopes.{Scope, Use, of_names, of_types, IsUndeclared}
use Rattle.rnc_parse.specs.Written.{WrittenClass, the_name, either}
use Rattle.rnc_parse.specs.Annotations.{Closes, braces, parentheses, brackets, IsPlain, AreBalanced, none_left, one_plain, in_brackets, IsGroup, bracketed, MayBegin, without_group, with_group, by_identifier, by_prefixed_name, NamesFollower, by_element_name, by_keyword, Follow, no_more, one_more}
use Rattle.rnc_parse.specs.Classes.{IsAnyId, an_identifier, a_keyword, IsWildcard, all_of_namespace, all_names, IsClass, one_class, several_classes, except_class, AreMoreClasses, last_class, next_class, IsAnnotatedClass, annotated_class, IsOneClass, unprefixed_name, prefixed_name, wildcard, parenthesized_class}
use Rattle.rnc_parse.specs.Parts.{IsLiteral, one_literal, joined_literals, IsType, library_type, string_type, token_type, AreParams, no_param, param, MayHaveParams, without_params, with_params, IsReference, default_handed_on, prefix_handed_on}
use Rattle.rnc_parse.specs.Reading.{Reading, read, no_reading, no_prefix, first, behind, same_symbol, stands, behind_symbol, loop_at, looked_up}
use Rattle.rnc_parse.specs.ReadingAnnotations.{closed_at, group_at, opening_at, is_follower, follower_at, follow_at}
use Rattle.rnc_parse.specs.ReadingParts.{one_literal_at, literal_at, any_id_at, identifier_at, namespace_at, library_at, type_at, param_at, goes_on, all_params_at, params_at, is_inherit, handed_on_at, reference_at}
use Rattle.rnc_parse.specs.ReadingClasses.{wildcard_at, is_wildcard, begins_except, one_class_at, annotated_class_at, except_class_at, more_classes_at, several_classes_at, class_within, class_inside, class_at}
use Rattle.rnc_parse.proofs.Sounding.{Sounds, finds, ends, stops, sound_bind, sound_weaker, sound_cond, same_symbol_is, stands_is, sound_symbol, Many, no_step, one_step, added, added_joined, Looped, sound_loop}

-- ---- groups

-- the closing brackets, the first one first, each behind balanced tokens
data ClosesAll : List Symbol → List Lexeme → List Lexeme → Type 0 where
  last_one : {closer : Symbol} {tokens rest : List Lexeme} → AreBalanced tokens (mark closer ∷ rest) → ClosesAll (closer ∷ []) tokens rest
  next_one : {closer next : Symbol} {closers : List Symbol} {tokens behind rest : List Lexeme} →
      AreBalanced tokens (mark closer ∷ behind) → ClosesAll (next ∷ closers) behind rest → ClosesAll (closer ∷ next ∷ closers) tokens rest

all_plain : {closers : List Symbol} {x : Lexeme} {tokens rest : List Lexeme} →
    IsPlain x → ClosesAll closers tokens rest → ClosesAll closers (x ∷ tokens) rest
all_plain plain (last_one b) = last_one (one_plain plain b)
all_plain plain (next_one b more) = next_one (one_plain plain b) more

all_opened : {opening closing : Symbol} {closers : List Symbol} {tokens behind rest : List Lexeme} →
    Closes opening closing → AreBalanced tokens (mark closing ∷ behind) → ClosesAll closers behind rest →
    ClosesAll closers (mark opening ∷ tokens) rest
all_opened closes inside (last_one b) = last_one (in_brackets closes inside b)
all_opened closes inside (next_one b more) = next_one (in_brackets closes inside b) more

last_closed : {closer : Symbol} {tokens rest : List Lexeme} → ClosesAll (closer ∷ []) tokens rest → AreBalanced tokens (mark closer ∷ rest)
last_closed (last_one b) = b

module _ {scope : Scope} where
  -- behind a bracket that opens
  opened : {opening closing next : Symbol} {closers : List Symbol} {tokens : List Lexeme} (found : Reading (Unit {0})) →
      Closes opening closing → Sounds scope (λ _ rest. ClosesAll (closing ∷ next ∷ closers) tokens rest) found →
      Sounds scope (λ _ rest. ClosesAll (next ∷ closers) (mark opening ∷ tokens) rest) found
  opened (read v rest) closes (finds (next_one b more)) = finds (all_opened closes b more)
  opened no_reading closes ends = ends
  opened (no_prefix used) closes (stops u) = stops u

  plainly : {next : Symbol} {closers : List Symbol} {x : Lexeme} {tokens : List Lexeme} (found : Reading (Unit {0})) →
      IsPlain x → Sounds scope (λ _ rest. ClosesAll (next ∷ closers) tokens rest) found →
      Sounds scope (λ _ rest. ClosesAll (next ∷ closers) (x ∷ tokens) rest) found
  plainly (read v rest) plain (finds all) = finds (all_plain plain all)
  plainly no_reading plain ends = ends
  plainly (no_prefix used) plain (stops u) = stops u

  -- behind one that closes
  closed : (closer next : Symbol) (closers : List Symbol) (tokens : List Lexeme) →
      ((n : Symbol) (l : List Symbol) → Sounds scope (λ _ rest. ClosesAll (n ∷ l) tokens rest) (closed_at (n ∷ l) tokens)) → (b : Bool) →
      (b ≡ true → closer ≡ next) →
      Sounds scope (λ _ rest. ClosesAll (next ∷ closers) (mark closer ∷ tokens) rest) (elim (cond b (Some closers) None) [ None ↦ no_reading | Some [] ↦ read (tt {0}) tokens | Some (n ∷ l) ↦ closed_at (n ∷ l) tokens ])
  closed closer next closers tokens go false same = ends
  closed closer next [] tokens go true same =
      finds (last_one (subst (λ (s : Symbol). AreBalanced (mark closer ∷ tokens) (mark s ∷ tokens)) (same refl) none_left))
  closed closer next (n ∷ l) tokens go true same = further (closed_at (n ∷ l) tokens) (go n l)
    where
      further : (found : Reading (Unit {0})) → Sounds scope (λ _ rest. ClosesAll (n ∷ l) tokens rest) found →
          Sounds scope (λ _ rest. ClosesAll (next ∷ n ∷ l) (mark closer ∷ tokens) rest) found
      further (read v rest) (finds all) =
          finds (next_one (subst (λ (s : Symbol). AreBalanced (mark closer ∷ tokens) (mark s ∷ tokens)) (same refl) none_left) all)
      further no_reading ends = ends
      further (no_prefix used) (stops u) = stops u

  sound_closed : (next : Symbol) (closers : List Symbol) (tokens : List Lexeme) →
      Sounds scope (λ _ rest. ClosesAll (next ∷ closers) tokens rest) (closed_at (next ∷ closers) tokens)
  unfolding closed_at
  sound_closed next closers [] = ends
  sound_closed next closers (mark LeftBrace ∷ tokens) = opened _ braces (sound_closed RightBrace (next ∷ closers) tokens)
  sound_closed next closers (mark LeftParenthesis ∷ tokens) = opened _ parentheses (sound_closed RightParenthesis (next ∷ closers) tokens)
  sound_closed next closers (mark LeftBracket ∷ tokens) = opened _ brackets (sound_closed RightBracket (next ∷ closers) tokens)
  sound_closed next closers (mark RightBrace ∷ tokens) =
      closed RightBrace next closers tokens (λ n l. sound_closed n l tokens) (same_symbol RightBrace next) (same_symbol_is RightBrace next)
  sound_closed next closers (mark RightParenthesis ∷ tokens) = closed RightParenthesis next closers tokens (λ n l. sound_closed n l tokens) (same_symbol RightParenthesis next) (same_symbol_is RightParenthesis next)
  sound_closed next closers (mark RightBracket ∷ tokens) = closed RightBracket next closers tokens (λ n l. sound_closed n l tokens) (same_symbol RightBracket next) (same_symbol_is RightBracket next)
  sound_closed next closers (_ ∷ tokens) = plainly _ tt (sound_closed next closers tokens)

  pub sound_group : (tokens : List Lexeme) → Sounds scope (λ _ rest. IsGroup tokens rest) (group_at tokens)
  unfolding group_at
  sound_group tokens = sound_bind (behind_symbol LeftBracket tokens) _ (sound_symbol LeftBracket tokens) (λ _ inside e.
      sound_weaker (closed_at (RightBracket ∷ []) inside) (sound_closed RightBracket [] inside) (λ v rest all. subst (λ t. IsGroup t rest) (sym e) (bracketed (last_closed all))))

  pub sound_opening : (tokens : List Lexeme) → Sounds scope (λ _ rest. MayBegin tokens rest) (opening_at tokens)
  unfolding opening_at
  sound_opening tokens = sound_cond (stands LeftBracket tokens) _ _ (λ _. sound_weaker (group_at tokens) (sound_group tokens) (λ v rest g. with_group g)) (λ _. finds without_group)
  -- ---- what follows

follower_is : (tokens rest : List Lexeme) → is_follower (first tokens) ≡ true → IsGroup (behind tokens) rest →
    (name : Lexeme) × (inside : List Lexeme) × (tokens ≡ name ∷ inside) × NamesFollower name × IsGroup inside rest
unfolding first behind
follower_is [] rest e g = absurd (false≢true e)
follower_is (Identifier name ∷ inside) rest e g = (_, inside, refl, by_element_name by_identifier, g)
follower_is (PrefixedName prefix local ∷ inside) rest e g = (_, inside, refl, by_element_name by_prefixed_name, g)
follower_is (word keyword ∷ inside) rest e g = (_, inside, refl, by_keyword, g)
follower_is (_ ∷ inside) rest e g = absurd (false≢true e)

-- one follower
pub record IsFollower (tokens rest : List Lexeme) : Type 0 where
  pub name : Lexeme
  pub inside : List Lexeme
  pub tokens_are : tokens ≡ mark Follows ∷ name ∷ inside
  pub named : NamesFollower name
  pub group : IsGroup inside rest

module _ {scope : Scope} where
  pub sound_follower : (tokens : List Lexeme) → Sounds scope (λ _ rest. IsFollower tokens rest) (follower_at tokens)
  unfolding follower_at
  sound_follower tokens = sound_bind (behind_symbol Follows tokens) _ (sound_symbol Follows tokens) (λ _ named e.
      sound_cond (is_follower (first named)) _ _
      (λ f. sound_weaker (group_at (behind named)) (sound_group (behind named)) (λ v rest g.
      let (name, inside, is, names, group) = follower_is named rest f g in
      record { name = name; inside = inside; tokens_are = e ∙ ap (λ l. mark Follows ∷ l) is; named = names; group = group }))
      (λ _. ends))

follow_all : {tokens rest : List Lexeme} {values : List (Unit {0})} → Many (λ t _ r. IsFollower t r) tokens values rest → Follow tokens rest
follow_all no_step = no_more
follow_all {rest = r} (one_step f later) = subst (λ t. Follow t r) (sym f.tokens_are) (one_more f.named f.group (follow_all later))

module _ {scope : Scope} where
  pub sound_follow : (tokens : List Lexeme) → Sounds scope (λ _ rest. Follow tokens rest) (follow_at tokens)
  unfolding follow_at
  sound_follow tokens =
      sound_weaker (loop_at (stands Follows) follower_at (λ _ _. tt) tt tokens)
      (sound_loop (stands Follows) follower_at (λ _ _. tt) (λ t _ r. IsFollower t r) (λ t _. sound_follower t) tt tokens)
      (λ v rest l. follow_all l.steps)

  -- ---- literals

  pub sound_one_literal : (tokens : List Lexeme) → Sounds scope (λ text rest. tokens ≡ Literal text ∷ rest) (one_literal_at tokens)
  unfolding one_literal_at first behind
  sound_one_literal [] = ends
  sound_one_literal (Literal text ∷ rest) = finds refl
  sound_one_literal (_ ∷ rest) = ends

abbrev pub IsTildeLiteral : List Lexeme → List ℕ → List Lexeme → Type 0
IsTildeLiteral tokens text rest = tokens ≡ mark Tilde ∷ Literal text ∷ rest

literals_all : {text : List ℕ} {tokens rest : List Lexeme} {values : List (List ℕ)} →
    Many IsTildeLiteral tokens values rest → IsLiteral (Literal text ∷ tokens) (added ◌++◌ text values) rest
literals_all no_step = one_literal
literals_all {text = text} {rest = r} (one_step {value = value} {values = values} e later) =
    subst (λ t. IsLiteral (Literal text ∷ t) (added ◌++◌ (text ++ value) values) r) (sym e) (joined_literals (literals_all {text = value} later) (added_front text value values))
  where
    added_front : (a b : List ℕ) (l : List (List ℕ)) → added ◌++◌ (a ++ b) l ≡ a ++ added ◌++◌ b l
    added_front a b [] = refl
    added_front a b (c ∷ l) = ap (λ x. added ◌++◌ x l) (append_assoc a b c) ∙ added_front a (b ++ c) l

module _ {scope : Scope} where
  pub sound_literal : (tokens : List Lexeme) → Sounds scope (λ text rest. IsLiteral tokens text rest) (literal_at tokens)
  unfolding literal_at
  sound_literal tokens = sound_bind (one_literal_at tokens) _ (sound_one_literal tokens) (λ text rest e.
      sound_weaker (loop_at (stands Tilde) (λ t. one_literal_at (behind t)) ◌++◌ text rest)
      (sound_loop (stands Tilde) (λ t. one_literal_at (behind t)) ◌++◌ IsTildeLiteral (λ t goes. sound_weaker (one_literal_at (behind t)) (sound_one_literal (behind t)) (λ v r is. stands_is Tilde t goes ∙ ap (λ l. mark Tilde ∷ l) is)) text rest)
      (λ all end l. subst (λ (x : List ℕ). IsLiteral tokens x end) (sym l.all_is) (subst (λ t. IsLiteral t (added ◌++◌ text l.values) end) (sym e) (literals_all l.steps))))
  -- ---- names and types

-- a name, and what follows it
pub record IsName (tokens : List Lexeme) (name : List ℕ) (rest : List Lexeme) : Type 0 where
  pub token : Lexeme
  pub tokens_are : tokens ≡ token ∷ rest
  pub named : IsAnyId token name

module _ {scope : Scope} where
  pub sound_any_id : (tokens : List Lexeme) → Sounds scope (IsName tokens) (any_id_at tokens)
  unfolding any_id_at first behind
  sound_any_id [] = ends
  sound_any_id (Identifier name ∷ rest) = finds (record { token = Identifier name; tokens_are = refl; named = an_identifier })
  sound_any_id (word keyword ∷ rest) = finds (record { token = word keyword; tokens_are = refl; named = a_keyword })
  sound_any_id (_ ∷ rest) = ends

  pub sound_identifier : (tokens : List Lexeme) → Sounds scope (λ name rest. tokens ≡ Identifier name ∷ rest) (identifier_at tokens)
  unfolding identifier_at first behind
  sound_identifier [] = ends
  sound_identifier (Identifier name ∷ rest) = finds refl
  sound_identifier (_ ∷ rest) = ends

  found_or : {A : Type 0} (found : Option A) (used : Use) (rest : List Lexeme) →
      (found ≡ None → IsUndeclared scope used) →
      Sounds scope (λ value left. (found ≡ Some value) × (left ≡ rest)) (looked_up found used rest)
  unfolding looked_up
  found_or (Some x) used rest h = finds (refl, refl)
  found_or None used rest h = stops (h refl)

  pub sound_namespace : (prefix : List ℕ) (rest : List Lexeme) →
      Sounds scope (λ ns left. (scope.namespace prefix ≡ Some ns) × (left ≡ rest)) (namespace_at scope prefix rest)
  unfolding namespace_at
  sound_namespace prefix rest = found_or (scope.namespace prefix) (of_names prefix) rest (λ e. e)

  pub sound_library : (prefix : List ℕ) (rest : List Lexeme) →
      Sounds scope (λ uri left. (scope.library prefix ≡ Some uri) × (left ≡ rest)) (library_at scope prefix rest)
  unfolding library_at
  sound_library prefix rest = found_or (scope.library prefix) (of_types prefix) rest (λ e. e)

-- a type, and what follows it
pub record BeginsType (scope : Scope) (tokens : List Lexeme) (type : TypeName) (rest : List Lexeme) : Type 0 where
  pub token : Lexeme
  pub tokens_are : tokens ≡ token ∷ rest
  pub typed : IsType scope token type

module _ {scope : Scope} where
  pub sound_type : (tokens : List Lexeme) → Sounds scope (BeginsType scope tokens) (type_at scope tokens)
  unfolding type_at first behind
  sound_type [] = ends
  sound_type (PrefixedName prefix local ∷ rest) = sound_bind (library_at scope prefix rest) _ (sound_library prefix rest) (λ uri left is. finds (record { token = PrefixedName prefix local; tokens_are = ap (λ t. PrefixedName prefix local ∷ t) (sym is.1); typed = library_type is.0 }))
  sound_type (word keyword.String ∷ rest) = finds (record { token = word keyword.String; tokens_are = refl; typed = string_type })
  sound_type (word keyword.Token ∷ rest) = finds (record { token = word keyword.Token; tokens_are = refl; typed = token_type })
  sound_type (_ ∷ rest) = ends
  -- ---- params

-- one param
pub record IsParam (tokens : List Lexeme) (said : Param) (rest : List Lexeme) : Type 0 where
  pub token : Lexeme
  pub inside : List Lexeme
  pub opened : MayBegin tokens (token ∷ mark Equals ∷ inside)
  pub named : IsAnyId token said.name
  pub text : IsLiteral inside said.value rest

module _ {scope : Scope} where
  pub sound_param : (tokens : List Lexeme) → Sounds scope (IsParam tokens) (param_at tokens)
  unfolding param_at
  sound_param tokens =
      sound_bind (opening_at tokens) _ (sound_opening tokens) (λ _ named g.
      sound_bind (any_id_at named) _ (sound_any_id named) (λ name sign n.
      sound_bind (behind_symbol Equals sign) _ (sound_symbol Equals sign) (λ _ said e.
      sound_bind (literal_at said) _ (sound_literal said) (λ text rest l.
      finds (record { token = n.token; inside = said; opened = subst (MayBegin tokens) (n.tokens_are ∙ ap (λ t. n.token ∷ t) e) g; named = n.named; text = l })))))

params_all : {tokens rest : List Lexeme} {values : List Param} (before : List Param) →
    Many IsParam tokens values rest → (all : List Param) → all ≡ added (λ params one. params ++ one ∷ []) before values →
    (later : List Param) × AreParams tokens later rest × (all ≡ before ++ later)
params_all before no_step all e = ([], no_param, e ∙ sym (append-nil before))
params_all before (one_step {value = value} p later) all e =
    let (others, are, is) = params_all (before ++ value ∷ []) later all e in
    (value ∷ others, param p.opened p.named p.text are, is ∙ append_assoc before (value ∷ []) others)

module _ {scope : Scope} where
  pub sound_params : (tokens : List Lexeme) → Sounds scope (λ params rest. MayHaveParams tokens params rest) (params_at tokens)
  unfolding params_at all_params_at
  sound_params tokens =
      sound_cond (stands LeftBrace tokens) _ _
      (λ e. sound_bind (loop_at goes_on param_at (λ params one. params ++ one ∷ []) [] (behind tokens)) _ (sound_loop goes_on param_at (λ params one. params ++ one ∷ []) IsParam (λ t _. sound_param t) [] (behind tokens)) (λ params rest l.
      sound_bind (behind_symbol RightBrace rest) _ (sound_symbol RightBrace rest) (λ _ end c.
      let (others, are, is) = params_all [] l.steps params l.all_is in
      finds (subst (λ t. MayHaveParams t params end) (sym (stands_is LeftBrace tokens e))
      (with_params (subst (λ r. AreParams (behind tokens) params r) c (subst (λ (ps : List Param). AreParams (behind tokens) ps rest) (sym is) are)))))))
      (λ _. finds without_params)
  -- ---- references

pub inherit_is : (tokens : List Lexeme) → is_inherit (first tokens) ≡ true → tokens ≡ word keyword.Inherit ∷ behind tokens
unfolding first behind
inherit_is [] e = absurd (false≢true e)
inherit_is (word keyword.Inherit ∷ rest) e = refl
inherit_is (_ ∷ rest) e = absurd (false≢true e)

module _ {scope : Scope} where
  pub sound_reference : (tokens : List Lexeme) → Sounds scope (IsReference scope tokens) (reference_at scope tokens)
  unfolding reference_at handed_on_at
  sound_reference tokens =
      sound_bind (literal_at tokens) _ (sound_literal tokens) (λ uri handing l.
      sound_bind (handed_on_at scope handing) _
      (sound_cond {P = λ ns rest. IsReference scope tokens (record { uri = uri; namespace = ns }) rest} (is_inherit (first handing)) _ _
      (λ i. sound_bind (behind_symbol Equals (behind handing)) _ (sound_symbol Equals (behind handing)) (λ _ named e.
      sound_bind (any_id_at named) _ (sound_any_id named) (λ prefix rest n.
      sound_weaker (namespace_at scope prefix rest) (sound_namespace prefix rest) (λ ns left found.
      prefix_handed_on (subst (IsLiteral tokens uri) (inherit_is handing i ∙ ap (λ t. word keyword.Inherit ∷ t) (e ∙ ap (λ t. mark Equals ∷ t) (n.tokens_are ∙ ap (λ t. n.token ∷ t) (sym found.1)))) l) n.named found.0))))
      (λ _. finds (default_handed_on l)))
      (λ ns rest is. finds is))

-- ---- name classes

pub record BeginsWildcard (scope : Scope) (tokens : List Lexeme) (class : WrittenClass) (rest : List Lexeme) : Type 0 where
  pub token : Lexeme
  pub tokens_are : tokens ≡ token ∷ rest
  pub covers : IsWildcard scope token class

-- classes behind others, each with `|` before it
pub record IsBarClass (scope : Scope) (unprefixed : Namespace) (tokens : List Lexeme) (class : WrittenClass) (rest : List Lexeme) : Type 0 where
  pub inside : List Lexeme
  pub tokens_are : tokens ≡ mark Bar ∷ inside
  pub said : IsAnnotatedClass scope unprefixed inside class rest

module _ {scope : Scope} where
  pub sound_wildcard : (tokens : List Lexeme) → Sounds scope (BeginsWildcard scope tokens) (wildcard_at scope tokens)
  unfolding wildcard_at first behind
  sound_wildcard [] = ends
  sound_wildcard (NamespaceWildcard prefix ∷ rest) = sound_bind (namespace_at scope prefix rest) _ (sound_namespace prefix rest) (λ ns left is. finds (record { token = NamespaceWildcard prefix; tokens_are = ap (λ t. NamespaceWildcard prefix ∷ t) (sym is.1); covers = all_of_namespace is.0 }))
  sound_wildcard (mark Star ∷ rest) = finds (record { token = mark Star; tokens_are = refl; covers = all_names })
  sound_wildcard (_ ∷ rest) = ends

  module _ {unprefixed : Namespace} where
    classes_all : {tokens behind rest : List Lexeme} {value : WrittenClass} {values : List WrittenClass} →
        IsBarClass scope unprefixed tokens value behind → Many (IsBarClass scope unprefixed) behind values rest →
        AreMoreClasses scope unprefixed tokens (value ∷ values) rest
    classes_all {rest = r} {value = c} one no_step =
        subst (λ t. AreMoreClasses scope unprefixed t (c ∷ []) r) (sym one.tokens_are) (last_class one.said)
    classes_all {rest = r} {value = c} {values = cs} one (one_step next later) =
        subst (λ t. AreMoreClasses scope unprefixed t (c ∷ cs) r) (sym one.tokens_are) (next_class one.said (classes_all next later))

    class_of_all : {tokens behind rest : List Lexeme} {first all : WrittenClass} {values : List WrittenClass} →
        IsAnnotatedClass scope unprefixed tokens first behind → Many (IsBarClass scope unprefixed) behind values rest →
        all ≡ added either first values → IsClass scope unprefixed tokens all rest
    class_of_all {tokens = t} {rest = r} one no_step e =
        subst (λ (c : WrittenClass). IsClass scope unprefixed t c r) (sym e) (one_class one)
    class_of_all {first = f} {values = vs} one (one_step next later) e =
        several_classes one (classes_all next later) (e ∙ added_joined either f vs)

    module _ (inside : List Lexeme → Reading WrittenClass) (sound_inside : (tokens : List Lexeme) → Sounds scope (λ class rest. IsClass scope unprefixed tokens class rest) (inside tokens)) where
      sound_wildcard_class : (tokens : List Lexeme) →
          Sounds scope (λ class rest. IsOneClass scope unprefixed tokens class rest) (wildcard_at scope tokens)
      sound_wildcard_class tokens = sound_weaker (wildcard_at scope tokens) (sound_wildcard tokens) (λ class rest w. subst (λ t. IsOneClass scope unprefixed t class rest) (sym w.tokens_are) (wildcard w.covers))

      sound_one_class : (tokens : List Lexeme) →
          Sounds scope (λ class rest. IsOneClass scope unprefixed tokens class rest) (one_class_at scope unprefixed inside tokens)
      unfolding one_class_at first behind
      sound_one_class [] = sound_wildcard_class []
      sound_one_class (Identifier name ∷ rest) = finds (unprefixed_name an_identifier)
      sound_one_class (word keyword ∷ rest) = finds (unprefixed_name a_keyword)
      sound_one_class (PrefixedName prefix local ∷ rest) = sound_bind (namespace_at scope prefix rest) _ (sound_namespace prefix rest) (λ ns left is. finds (subst (λ r. IsOneClass scope unprefixed (PrefixedName prefix local ∷ rest) (the_name ns local) r) (sym is.1) (prefixed_name is.0)))
      sound_one_class (mark LeftParenthesis ∷ rest) =
          sound_bind (inside rest) _ (sound_inside rest) (λ class closed c.
          sound_bind (behind_symbol RightParenthesis closed) _ (sound_symbol RightParenthesis closed) (λ _ end e.
          finds (parenthesized_class (subst (IsClass scope unprefixed rest class) e c))))
      sound_one_class (x ∷ rest) = sound_wildcard_class (x ∷ rest)

      pub sound_annotated_class : (tokens : List Lexeme) →
          Sounds scope (λ class rest. IsAnnotatedClass scope unprefixed tokens class rest) (annotated_class_at scope unprefixed inside tokens)
      unfolding annotated_class_at
      sound_annotated_class tokens =
          sound_bind (opening_at tokens) _ (sound_opening tokens) (λ _ opened g.
          sound_bind (one_class_at scope unprefixed inside opened) _ (sound_one_class opened) (λ class followed c.
          sound_bind (follow_at followed) _ (sound_follow followed) (λ _ rest f.
          finds (annotated_class g c f))))

      sound_more_classes : (class : WrittenClass) (tokens : List Lexeme) →
          Sounds scope (Looped (stands Bar) either (IsBarClass scope unprefixed) class tokens) (loop_at (stands Bar) (λ t. annotated_class_at scope unprefixed inside (behind t)) either class tokens)
      sound_more_classes class tokens =
          sound_loop (stands Bar) (λ t. annotated_class_at scope unprefixed inside (behind t)) either (IsBarClass scope unprefixed)
          (λ t goes. sound_weaker (annotated_class_at scope unprefixed inside (behind t)) (sound_annotated_class (behind t)) (λ c r said. record { inside = behind t; tokens_are = stands_is Bar t goes; said = said }))
          class tokens

      pub sound_class_within : (tokens : List Lexeme) →
          Sounds scope (λ class rest. IsClass scope unprefixed tokens class rest) (class_within scope unprefixed inside tokens)
      unfolding class_within except_class_at several_classes_at more_classes_at behind
      sound_class_within tokens = sound_bind (opening_at tokens) _ (sound_opening tokens) (λ _ opened g.
          sound_cond (begins_except opened) _ _
          (λ b.
          let minus = (and_parts (is_wildcard (first opened)) (stands Minus (behind opened)) b).1 in
          sound_bind (wildcard_at scope opened) _ (sound_wildcard opened) (λ class less w.
          sound_bind (annotated_class_at scope unprefixed inside (behind less)) _ (sound_annotated_class (behind less)) (λ except rest c.
          finds (except_class (subst (MayBegin tokens) (w.tokens_are ∙ ap (λ t. w.token ∷ t) (stands_is Minus less (less_stands opened less w minus))) g) w.covers c))))
          (λ _. sound_bind (one_class_at scope unprefixed inside opened) _ (sound_one_class opened) (λ class followed c.
          sound_bind (follow_at followed) _ (sound_follow followed) (λ _ rest f.
          sound_weaker (loop_at (stands Bar) (λ t. annotated_class_at scope unprefixed inside (behind t)) either class rest) (sound_more_classes class rest) (λ all end l.
          class_of_all (annotated_class g c f) l.steps l.all_is)))))
        where
          less_stands : (opened less : List Lexeme) {class : WrittenClass} → BeginsWildcard scope opened class less →
              stands Minus (behind opened) ≡ true → stands Minus less ≡ true
          less_stands opened less w minus = ap (λ t. stands Minus (behind t)) (sym w.tokens_are) ∙ minus

    pub sound_class_inside : (left : ℕ) (tokens : List Lexeme) →
        Sounds scope (λ class rest. IsClass scope unprefixed tokens class rest) (class_inside scope unprefixed left tokens)
    unfolding class_inside
    sound_class_inside zero tokens = ends
    sound_class_inside (suc left) tokens = sound_class_within (class_inside scope unprefixed left) (sound_class_inside left) tokens

    pub sound_class : (left : ℕ) (tokens : List Lexeme) →
        Sounds scope (λ class rest. IsClass scope unprefixed tokens class rest) (class_at scope unprefixed left tokens)
    unfolding class_at
    sound_class left tokens = sound_class_within (class_inside scope unprefixed left) (sound_class_inside left) tokens
