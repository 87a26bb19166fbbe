-- What is in the grammar, under whatever look-ups, is found by reading, or reading stops at a prefix that those look-ups declare.
use Rattle.std.proofs.Common.{◌≡◌, ℕ, true, false, cond, List, [], ◌∷◌, ◌++◌, Option, Some, None, refl, sym, ap, subst, ◌∙◌, append_assoc}
use Rattle.std.proofs.lemmas.List.{append-nil}
use Rattle.rnc_lex.specs.declared.token.Lexeme.{Lexeme}
use Rattle.rnc_lex.specs.declared.token.Lexeme.TheVariants.{Symbol as mark}
use Rattle.rnc_lex.specs.declared.token.Symbol.{Symbol}
use Rattle.rnc_lex.specs.declared.token.Symbol.TheVariants.{LeftBrace, RightBrace, LeftParenthesis, RightParenthesis, LeftBracket, RightBracket, Equals, BarEquals, AmpersandEquals, Comma, Bar, Ampersand, QuestionMark, Star, Plus, Minus, Tilde, Follows}
use Rattle.rnc_parse.specs.declared.surface.Namespace.{Namespace}
use Rattle.rnc_parse.specs.declared.surface.TypeName.{TypeName}
use Rattle.rnc_parse.specs.declared.surface.Param.{Param}
use Rattle.rnc_parse.specs.declared.surface.FileReference.{FileReference}
use Rattle.rnc_parse.specs.Scopes.{Scope, Use, of_names, of_types, IsUndeclared}
use Rattle.rnc_parse.specs.Annotations.{Closes, braces, parentheses, brackets, IsPlain, AreBalanced, none_left, one_plain, in_brackets, IsGroup, bracketed, MayBegin, without_group, with_group, by_identifier, by_prefixed_name, NamesFollower, by_element_name, by_keyword, Follow, no_more, one_more}
use Rattle.rnc_parse.specs.Classes.{IsAnyId, an_identifier, a_keyword}
use Rattle.rnc_parse.specs.Parts.{IsLiteral, one_literal, joined_literals, IsType, library_type, string_type, token_type, AreParams, no_param, param, MayHaveParams, without_params, with_params, IsReference, default_handed_on, prefix_handed_on}
use Rattle.rnc_parse.specs.Reading.{Reading, read, no_reading, no_prefix, ◌>>=◌, first, behind, same_symbol, stands, behind_symbol, loop_at, looked_up}
use Rattle.rnc_parse.specs.ReadingAnnotations.{closed_at, group_at, opening_at, is_follower, follower_at, follow_at}
use Rattle.rnc_parse.specs.ReadingParts.{one_literal_at, literal_at, any_id_at, namespace_at, library_at, type_at, param_at, goes_on, all_params_at, params_at, is_inherit, handed_on_at, reference_at}
use Rattle.rnc_parse.proofs.Loops.{loop_on, loop_ends}
use Rattle.rnc_parse.proofs.Shortening.{follower_shortens, literal_shortens, param_shortens}

-- reading finds what is behind the tokens, and the same value under the same look-ups; or it misses a prefix
pub data Agrees (d s : Scope) {A : Type 0} (value : A) (rest : List Lexeme) : Reading A → Type 0 where
  found : {other : A} → (s ≡ d → other ≡ value) → Agrees d s value rest (read other rest)
  missing : {used : Use} → (IsUndeclared s used → ⊥) → Agrees d s value rest (no_prefix used)

pub agree_bind : {d s : Scope} {A B : Type 0} {value : A} {rest end : List Lexeme}
    {all : B} (x : Reading A) (further : A → List Lexeme → Reading B) →
    Agrees d s value rest x → ((other : A) → (s ≡ d → other ≡ value) → Agrees d s all end (further other rest)) →
    Agrees d s all end (x >>= further)
agree_bind (read other rest) further (found same) h = h other same
agree_bind (no_prefix used) further (missing m) h = missing m
agree_bind no_reading further x h = elim x [ ]

-- what is found for certain
pub sure : {d s : Scope} {A B : Type 0} {value : A} {rest last : List Lexeme}
    {all : B} (x : Reading A) (further : A → List Lexeme → Reading B) →
    x ≡ read value rest → Agrees d s all last (further value rest) → Agrees d s all last (x >>= further)
sure {d = d} {s = s} {last = l} {all = all} x further e h = let P : Reading _ → Type 0 = λ y. Agrees d s all l (y >>= further) in subst P (sym e) h

pub agree_as : {d s : Scope} {A : Type 0} {value : A} {rest : List Lexeme} (x y : Reading A) →
    x ≡ y → Agrees d s value rest y → Agrees d s value rest x
agree_as {d = d} {s = s} {value = v} {rest = r} x y e h = let P : Reading _ → Type 0 = λ z. Agrees d s v r z in subst P (sym e) h

-- ---- symbols

pub same_itself : (s : Symbol) → same_symbol s s ≡ true
same_itself LeftBrace = refl
same_itself RightBrace = refl
same_itself LeftParenthesis = refl
same_itself RightParenthesis = refl
same_itself LeftBracket = refl
same_itself RightBracket = refl
same_itself Equals = refl
same_itself BarEquals = refl
same_itself AmpersandEquals = refl
same_itself Comma = refl
same_itself Bar = refl
same_itself Ampersand = refl
same_itself QuestionMark = refl
same_itself Star = refl
same_itself Plus = refl
same_itself Minus = refl
same_itself Tilde = refl
same_itself Follows = refl

pub stands_itself : (s : Symbol) (rest : List Lexeme) → stands s (mark s ∷ rest) ≡ true
unfolding first
stands_itself s rest = same_itself s

pub behind_itself : (s : Symbol) (rest : List Lexeme) → behind_symbol s (mark s ∷ rest) ≡ read tt rest
unfolding behind_symbol first behind
behind_itself s rest = rw (same_itself s) refl

-- ---- groups

plain_stays : (token : Lexeme) → IsPlain token → (next : Symbol) (closers : List Symbol) (tokens : List Lexeme) →
    closed_at (next ∷ closers) (token ∷ tokens) ≡ closed_at (next ∷ closers) tokens
unfolding closed_at
plain_stays (mark LeftBrace) h next closers tokens = absurd h
plain_stays (mark RightBrace) h next closers tokens = absurd h
plain_stays (mark LeftParenthesis) h next closers tokens = absurd h
plain_stays (mark RightParenthesis) h next closers tokens = absurd h
plain_stays (mark LeftBracket) h next closers tokens = absurd h
plain_stays (mark RightBracket) h next closers tokens = absurd h
plain_stays _ h next closers tokens = refl

opens : {opening closing : Symbol} →
    Closes opening closing → (next : Symbol) (closers : List Symbol) (tokens : List Lexeme) →
    closed_at (next ∷ closers) (mark opening ∷ tokens) ≡ closed_at (closing ∷ next ∷ closers) tokens
unfolding closed_at
opens braces next closers tokens = refl
opens parentheses next closers tokens = refl
opens brackets next closers tokens = refl

closes : {opening closing : Symbol} →
    Closes opening closing → (next : Symbol) (closers : List Symbol) (tokens : List Lexeme) →
    closed_at (closing ∷ next ∷ closers) (mark closing ∷ tokens) ≡ closed_at (next ∷ closers) tokens
unfolding closed_at
closes braces next closers tokens = refl
closes parentheses next closers tokens = refl
closes brackets next closers tokens = refl

balanced_stay : {tokens rest : List Lexeme} →
    AreBalanced tokens rest → (next : Symbol) (closers : List Symbol) → closed_at (next ∷ closers) tokens ≡ closed_at (next ∷ closers) rest
balanced_stay none_left next closers = refl
balanced_stay (one_plain {token = x} {tokens = t} plain more) next closers =
    plain_stays x plain next closers t ∙ balanced_stay more next closers
balanced_stay (in_brackets {closing = c} {tokens = t} {behind = b} cs inside more) next closers =
    opens cs next closers t ∙ balanced_stay inside c (next ∷ closers) ∙ closes cs next closers b ∙ balanced_stay more next closers

pub group_found : {tokens rest : List Lexeme} → IsGroup tokens rest → group_at tokens ≡ read tt rest
unfolding group_at closed_at
group_found {rest = r} (bracketed {tokens = t} inside) =
    ap (λ x. x >>= λ _ i. closed_at (RightBracket ∷ []) i) (behind_itself LeftBracket t) ∙ balanced_stay inside RightBracket []

group_stands : {tokens rest : List Lexeme} → IsGroup tokens rest → stands LeftBracket tokens ≡ true
unfolding first
group_stands (bracketed inside) = refl

pub group_opens : {tokens rest : List Lexeme} → IsGroup tokens rest → opening_at tokens ≡ read tt rest
unfolding opening_at
group_opens g = rw (group_stands g) (group_found g)

pub opening_found : {tokens inside : List Lexeme} →
    MayBegin tokens inside → stands LeftBracket inside ≡ false → opening_at tokens ≡ read tt inside
unfolding opening_at
opening_found without_group e = rw e refl
opening_found (with_group g) e = rw (group_stands g) (group_found g)

-- ---- what follows

name_is_follower : {name : Lexeme} (tokens : List Lexeme) → NamesFollower name → is_follower (first (name ∷ tokens)) ≡ true
unfolding first
name_is_follower tokens (by_element_name by_identifier) = refl
name_is_follower tokens (by_element_name by_prefixed_name) = refl
name_is_follower tokens by_keyword = refl

follower_found : {name : Lexeme} {tokens rest : List Lexeme} →
    NamesFollower name → IsGroup tokens rest → follower_at (mark Follows ∷ name ∷ tokens) ≡ read tt rest
unfolding follower_at behind
follower_found {name = n} {tokens = t} names g = ap (λ x. x >>= λ _ named. cond (is_follower (first named)) (group_at (behind named)) no_reading) (behind_itself Follows (n ∷ t)) ∙ rw (name_is_follower t names) (group_found g)

pub follow_found : {tokens rest : List Lexeme} → Follow tokens rest → stands Follows rest ≡ false → follow_at tokens ≡ read tt rest
unfolding follow_at
follow_found {rest = r} no_more e = loop_ends (stands Follows) follower_at (λ _ _. tt) tt r e
follow_found (one_more {name = n} {tokens = t} names g more) e =
    loop_on (stands Follows) follower_at (λ _ _. tt) follower_shortens tt (mark Follows ∷ n ∷ t) (stands_itself Follows (n ∷ t))
    ∙ ap (λ x. x >>= λ _ rest. loop_at (stands Follows) follower_at (λ _ _. tt) tt rest) (follower_found names g)
    ∙ follow_found more e

-- ---- literals

literals_found : {tokens rest : List Lexeme} {text : List ℕ} (before : List ℕ) →
    IsLiteral tokens text rest → stands Tilde rest ≡ false →
    (one_literal_at tokens >>= λ more left. loop_at (stands Tilde) (λ t. one_literal_at (behind t)) ◌++◌ (before ++ more) left) ≡ read (before ++ text) rest
unfolding one_literal_at first behind
literals_found {rest = r} {text = x} before one_literal e = loop_ends (stands Tilde) (λ t. one_literal_at (behind t)) ◌++◌ (before ++ x) r e
literals_found {rest = r} before (joined_literals {text = x} {more = y} {tokens = t} later same) e =
    loop_on (stands Tilde) (λ t. one_literal_at (behind t)) ◌++◌ literal_shortens (before ++ x) (mark Tilde ∷ t) (stands_itself Tilde t)
    ∙ literals_found (before ++ x) later e
    ∙ ap (λ l. read l r) (append_assoc before x y ∙ ap (λ l. before ++ l) (sym same))

pub literal_found : {tokens rest : List Lexeme} {text : List ℕ} →
    IsLiteral tokens text rest → stands Tilde rest ≡ false → literal_at tokens ≡ read text rest
unfolding literal_at
literal_found l e = literals_found [] l e

-- ---- names and types

pub any_id_found : {token : Lexeme} {name : List ℕ} (rest : List Lexeme) → IsAnyId token name → any_id_at (token ∷ rest) ≡ read name rest
unfolding any_id_at first behind
any_id_found rest an_identifier = refl
any_id_found rest a_keyword = refl

module _ {d s : Scope} where
  looked_up_agrees : {A : Type 0} (mine theirs : Option A) (value : A) (used : Use) (rest : List Lexeme) →
      theirs ≡ Some value → (s ≡ d → mine ≡ theirs) → (IsUndeclared s used → theirs ≡ None) →
      Agrees d s value rest (looked_up mine used rest)
  unfolding looked_up
  looked_up_agrees (Some x) theirs value used rest e same undeclared = found (λ eq. let known : Some x ≡ Some value = same eq ∙ e in cc)
  looked_up_agrees None theirs value used rest e same undeclared =
      missing (λ u. let none : Some value ≡ None = sym e ∙ undeclared u in absurd cc)

  pub namespace_agrees : (prefix : List ℕ) {ns : Namespace} (rest : List Lexeme) → s.namespace prefix ≡ Some ns →
      Agrees d s ns rest (namespace_at d prefix rest)
  unfolding namespace_at
  namespace_agrees p {ns = ns} rest e =
      looked_up_agrees (d.namespace p) (s.namespace p) ns (of_names p) rest e (λ eq. ap (λ (x : Scope). x.namespace p) (sym eq)) (λ u. u)

  pub library_agrees : (prefix : List ℕ) {uri : List ℕ} (rest : List Lexeme) → s.library prefix ≡ Some uri →
      Agrees d s uri rest (library_at d prefix rest)
  unfolding library_at
  library_agrees p {uri = uri} rest e =
      looked_up_agrees (d.library p) (s.library p) uri (of_types p) rest e (λ eq. ap (λ (x : Scope). x.library p) (sym eq)) (λ u. u)

  pub type_agrees : {token : Lexeme} {type : TypeName} (rest : List Lexeme) →
      IsType s token type → Agrees d s type rest (type_at d (token ∷ rest))
  unfolding type_at first behind
  type_agrees rest (library_type {prefix = p} {local = l} e) = agree_bind (library_at d p rest) _ (library_agrees p rest e) (λ uri same. found (λ eq. ap (λ (u : List ℕ). record { library = u; name = l }) (same eq)))
  type_agrees rest string_type = found (λ eq. refl)
  type_agrees rest token_type = found (λ eq. refl)

-- ---- params

id_no_group : {token : Lexeme} {name : List ℕ} (rest : List Lexeme) → IsAnyId token name → stands LeftBracket (token ∷ rest) ≡ false
unfolding first
id_no_group rest an_identifier = refl
id_no_group rest a_keyword = refl

-- params begin with a bracket or a name
params_front : {tokens rest : List Lexeme} {params : List Param} →
    AreParams tokens params (mark RightBrace ∷ rest) → stands Tilde tokens ≡ false
unfolding first
params_front no_param = refl
params_front (param without_group an_identifier text more) = refl
params_front (param without_group a_keyword text more) = refl
params_front (param (with_group (bracketed g)) name text more) = refl

param_goes : {tokens inside : List Lexeme} {token : Lexeme} {name : List ℕ} →
    MayBegin tokens (token ∷ inside) → IsAnyId token name → goes_on tokens ≡ true
unfolding first
param_goes without_group an_identifier = refl
param_goes without_group a_keyword = refl
param_goes (with_group (bracketed g)) name = refl

param_found : {tokens inside rest : List Lexeme} {token : Lexeme} {name text : List ℕ} →
    MayBegin tokens (token ∷ mark Equals ∷ inside) → IsAnyId token name → IsLiteral inside text rest → stands Tilde rest ≡ false →
    param_at tokens ≡ read (record { name = name; value = text }) rest
unfolding param_at
param_found {inside = i} g name l e =
    rw (opening_found g (id_no_group (mark Equals ∷ i) name), any_id_found (mark Equals ∷ i) name, behind_itself Equals i, literal_found l e) refl

params_found : {tokens rest : List Lexeme} {params : List Param} (before : List Param) →
    AreParams tokens params (mark RightBrace ∷ rest) →
    loop_at goes_on param_at (λ ps one. ps ++ one ∷ []) before tokens ≡ read (before ++ params) (mark RightBrace ∷ rest)
unfolding first
params_found {rest = r} before no_param = loop_ends goes_on param_at (λ ps one. ps ++ one ∷ []) before (mark RightBrace ∷ r) refl ∙ ap (λ l. read l (mark RightBrace ∷ r)) (sym (append-nil before))
params_found {tokens = t} {rest = r} before (param {name = n} {text = x} {params = ps} {behind = b} g name text more) =
    loop_on goes_on param_at (λ ps one. ps ++ one ∷ []) param_shortens before t (param_goes g name)
    ∙ ap (λ y. y >>= λ one left. loop_at goes_on param_at (λ ps one. ps ++ one ∷ []) (before ++ one ∷ []) left) (param_found g name text (params_front more))
    ∙ params_found (before ++ record { name = n; value = x } ∷ []) more
    ∙ ap (λ (l : List Param). read l (mark RightBrace ∷ r)) (append_assoc before (record { name = n; value = x } ∷ []) ps)

pub params_are_found : {tokens rest : List Lexeme} {params : List Param} →
    MayHaveParams tokens params rest → stands LeftBrace rest ≡ false → params_at tokens ≡ read params rest
unfolding params_at all_params_at first behind
params_are_found without_params e = rw e refl
params_are_found {rest = r} (with_params inside) e = rw (params_found [] inside, behind_itself RightBrace r) refl

-- ---- references

module _ {d s : Scope} where
  pub reference_agrees : {tokens rest : List Lexeme} {file : FileReference} →
      IsReference s tokens file rest → stands Tilde rest ≡ false → is_inherit (first rest) ≡ false →
      Agrees d s file rest (reference_at d tokens)
  unfolding reference_at handed_on_at first behind
  reference_agrees (default_handed_on {uri = u} l) e i = sure (literal_at _) _ (literal_found l e) (rw i (found (λ eq. ap (λ (x : Scope). record { uri = u; namespace = x.unprefixed }) (sym eq))))
  reference_agrees {rest = r} (prefix_handed_on {token = k} {uri = u} l name known) e i =
      sure (literal_at _) _ (literal_found l refl)
      (rw (behind_itself Equals (k ∷ r), any_id_found r name) (agree_bind (namespace_at d _ r) _ (namespace_agrees _ r known) (λ ns same. found (λ eq. ap (λ (x : Namespace). record { uri = u; namespace = x }) (same eq)))))
