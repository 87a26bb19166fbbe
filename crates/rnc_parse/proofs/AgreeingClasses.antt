-- Name classes of the grammar are found.
use Rattle.std.proofs.Common.{◌≡◌, ℕ, zero, suc, ◌+◌, true, false, List, ◌∷◌, Some, refl, sym, ap, subst, ◌∙◌, arith}
use Rattle.rnc_lex.specs.declared.token.Lexeme.{Lexeme}
use Rattle.rnc_lex.specs.declared.token.Lexeme.TheVariants.{PrefixedName, Symbol as mark}
use Rattle.rnc_lex.specs.declared.token.Symbol.TheVariants.{LeftBrace, LeftParenthesis, RightParenthesis, LeftBracket, Bar, Minus, Follows}
use Rattle.rnc_lex.specs.Words.{keyword_text}
use Rattle.rnc_parse.specs.declared.surface.Namespace.{Namespace}
use Rattle.rnc_parse.specs.Scopes.{Scope}
use Rattle.rnc_parse.specs.Written.{WrittenClass, names_in, the_name, either, without, joined}
use Rattle.rnc_parse.specs.Annotations.{parentheses, MayBegin, Follow, no_more, one_more}
use Rattle.rnc_parse.specs.Classes.{IsAnyId, an_identifier, a_keyword, IsWildcard, all_of_namespace, all_names, IsClass, one_class, several_classes, except_class, AreMoreClasses, last_class, next_class, IsAnnotatedClass, annotated_class, IsOneClass, unprefixed_name, prefixed_name, wildcard, parenthesized_class}
use Rattle.rnc_parse.specs.Reading.{Reading, first, behind, stands, behind_symbol}
use Rattle.rnc_parse.specs.ReadingAnnotations.{opening_at, follow_at}
use Rattle.rnc_parse.specs.ReadingParts.{namespace_at}
use Rattle.rnc_parse.specs.ReadingClasses.{wildcard_at, begins_except, one_class_at, annotated_class_at, except_class_at, more_classes_at, several_classes_at, class_within, class_inside, class_at}
use Rattle.rnc_parse.proofs.Loops.{loop_on, loop_ends}
use Rattle.rnc_parse.proofs.Passing.{Fits, fits_opening, fits_one, passes_opening, passes_annotated_class, Passes, token, ◌then◌, plain_wildcard}
use Rattle.rnc_parse.proofs.Shortening.{class_shortens}
use Rattle.rnc_parse.proofs.Agreeing.{Agrees, found, agree_bind, sure, agree_as, stands_itself, behind_itself, opening_found, follow_found, namespace_agrees}

-- what may follow a class: nothing that would go on with it
pub record EndsClass (rest : List Lexeme) : Type 0 where
  pub no_bar : stands Bar rest ≡ false
  pub no_minus : stands Minus rest ≡ false
  pub no_follower : stands Follows rest ≡ false

class_ends_parenthesis : (rest : List Lexeme) → EndsClass (mark RightParenthesis ∷ rest)
unfolding first
class_ends_parenthesis rest = record { no_bar = refl; no_minus = refl; no_follower = refl }

pub class_ends_brace : (rest : List Lexeme) → EndsClass (mark LeftBrace ∷ rest)
unfolding first
class_ends_brace rest = record { no_bar = refl; no_minus = refl; no_follower = refl }

-- and what may follow one of several classes
pub record EndsOne (rest : List Lexeme) : Type 0 where
  pub no_minus : stands Minus rest ≡ false
  pub no_follower : stands Follows rest ≡ false

one_no_group : {scope : Scope} {unprefixed : Namespace} {tokens rest : List Lexeme} {class : WrittenClass} →
    IsOneClass scope unprefixed tokens class rest → stands LeftBracket tokens ≡ false
unfolding first
one_no_group (unprefixed_name an_identifier) = refl
one_no_group (unprefixed_name a_keyword) = refl
one_no_group (prefixed_name e) = refl
one_no_group (wildcard (all_of_namespace e)) = refl
one_no_group (wildcard all_names) = refl
one_no_group (parenthesized_class c) = refl

-- a class with no minus behind it doesn't begin one with an except
one_no_except : {scope : Scope} {unprefixed : Namespace} {tokens rest : List Lexeme} {class : WrittenClass} →
    IsOneClass scope unprefixed tokens class rest → stands Minus rest ≡ false → begins_except tokens ≡ false
unfolding first behind
one_no_except (unprefixed_name an_identifier) e = refl
one_no_except (unprefixed_name a_keyword) e = refl
one_no_except (prefixed_name known) e = refl
one_no_except (wildcard (all_of_namespace known)) e = e
one_no_except (wildcard all_names) e = e
one_no_except (parenthesized_class c) e = refl

follow_no_minus : {tokens rest : List Lexeme} → Follow tokens rest → stands Minus rest ≡ false → stands Minus tokens ≡ false
unfolding first
follow_no_minus no_more e = e
follow_no_minus (one_more name g later) e = refl

more_begin : {scope : Scope} {unprefixed : Namespace} {tokens rest : List Lexeme} {classes : List WrittenClass} →
    AreMoreClasses scope unprefixed tokens classes rest → EndsOne tokens
unfolding first
more_begin (last_class c) = record { no_minus = refl; no_follower = refl }
more_begin (next_class c later) = record { no_minus = refl; no_follower = refl }

wildcard_no_group : {scope : Scope} {token : Lexeme} {class : WrittenClass} (rest : List Lexeme) →
    IsWildcard scope token class → stands LeftBracket (token ∷ rest) ≡ false
unfolding first
wildcard_no_group rest (all_of_namespace e) = refl
wildcard_no_group rest all_names = refl

wildcard_excepts : {scope : Scope} {token : Lexeme} {class : WrittenClass} (rest : List Lexeme) →
    IsWildcard scope token class → begins_except (token ∷ mark Minus ∷ rest) ≡ true
unfolding first behind
wildcard_excepts rest (all_of_namespace e) = refl
wildcard_excepts rest all_names = refl

-- so many brackets are open, and so many may still be opened
pub record Counts (before left : ℕ) (tokens : List Lexeme) : Type 0 where
  pub most : ℕ
  pub fits : Fits most before tokens
  pub sum : before + left ≡ most

pub counts_behind : {before left : ℕ} {tokens rest : List Lexeme} → Counts before left tokens → Passes tokens rest → Counts before left rest
counts_behind c p = record { most = c.most; fits = p.fits c.most _ c.fits; sum = c.sum }

module _ {d s : Scope} (u v : Namespace) (same_namespace : s ≡ d → v ≡ u) where
  wildcard_agrees : {token : Lexeme} {class : WrittenClass} (rest : List Lexeme) →
      IsWildcard s token class → Agrees d s class rest (wildcard_at d (token ∷ rest))
  unfolding wildcard_at first behind
  wildcard_agrees rest (all_of_namespace {prefix = p} known) =
      agree_bind (namespace_at d p rest) _ (namespace_agrees p rest known) (λ ns same. found (λ eq. ap names_in (same eq)))
  wildcard_agrees rest all_names = found (λ eq. refl)

  abbrev annotated_of : ℕ → List Lexeme → Reading WrittenClass
  annotated_of left tokens = annotated_class_at d v (class_inside d v left) tokens

  abbrev one_of : ℕ → List Lexeme → Reading WrittenClass
  one_of left tokens = one_class_at d v (class_inside d v left) tokens

  -- ---- from the parts

  annotated_from : {tokens inside behind_one rest : List Lexeme} {class : WrittenClass} (left : ℕ) →
      MayBegin tokens inside → IsOneClass s u inside class behind_one → Agrees d s class behind_one (one_of left inside) →
      Follow behind_one rest → stands Follows rest ≡ false → Agrees d s class rest (annotated_of left tokens)
  unfolding annotated_class_at
  annotated_from {inside = i} {behind_one = b} left g one agrees f e =
      sure (opening_at _) _ (opening_found g (one_no_group one))
      (agree_bind (one_of left i) _ agrees (λ x same. sure (follow_at b) _ (follow_found f e) (found same)))

  class_from : {tokens inside behind_one behind_it rest : List Lexeme} {class all : WrittenClass} (left : ℕ) →
      MayBegin tokens inside → IsOneClass s u inside class behind_one → Agrees d s class behind_one (one_of left inside) →
      Follow behind_one behind_it → EndsOne behind_it →
      ((x : WrittenClass) → (s ≡ d → x ≡ class) → Agrees d s all rest (more_classes_at d v (class_inside d v left) x behind_it)) →
      Agrees d s all rest (class_at d v left tokens)
  unfolding class_at class_within several_classes_at
  class_from {inside = i} {behind_one = b} left g one agrees f e more =
      sure (opening_at _) _ (opening_found g (one_no_group one))
      (rw (one_no_except one (follow_no_minus f e.no_minus))
      (agree_bind (one_of left i) _ agrees (λ x same. sure (follow_at b) _ (follow_found f e.no_follower) (more x same))))

  except_from : {tokens behind_it rest : List Lexeme} {token : Lexeme} {class except : WrittenClass} (left : ℕ) →
      MayBegin tokens (token ∷ mark Minus ∷ behind_it) → IsWildcard s token class → Agrees d s except rest (annotated_of left behind_it) →
      Agrees d s (without class except) rest (class_at d v left tokens)
  unfolding class_at class_within except_class_at behind
  except_from {behind_it = b} {token = w} {class = cl} left g covers agrees =
      sure (opening_at _) _ (opening_found g (wildcard_no_group (mark Minus ∷ b) covers))
      (rw (wildcard_excepts b covers)
      (agree_bind (wildcard_at d (w ∷ mark Minus ∷ b)) _ (wildcard_agrees (mark Minus ∷ b) covers) (λ x same_x.
      agree_bind (annotated_of left b) _ agrees (λ y same_y. found (λ eq. ap (λ c. without c y) (same_x eq) ∙ ap (without cl) (same_y eq))))))

  loop_over_from : {class : WrittenClass} {rest : List Lexeme} (left : ℕ) (x : WrittenClass) →
      (s ≡ d → x ≡ class) → stands Bar rest ≡ false → Agrees d s class rest (more_classes_at d v (class_inside d v left) x rest)
  unfolding more_classes_at
  loop_over_from {rest = r} left x same e =
      agree_as _ _ (loop_ends (stands Bar) (λ t. annotated_of left (behind t)) either x r e) (found same)

  loop_on_from : (tokens : List Lexeme) {behind_it rest : List Lexeme} {class next all : WrittenClass} (left : ℕ) (x : WrittenClass) →
      (s ≡ d → x ≡ class) → Agrees d s next behind_it (annotated_of left tokens) →
      ((y : WrittenClass) → (s ≡ d → y ≡ either class next) → Agrees d s all rest (more_classes_at d v (class_inside d v left) y behind_it)) →
      Agrees d s all rest (more_classes_at d v (class_inside d v left) x (mark Bar ∷ tokens))
  unfolding more_classes_at behind
  loop_on_from t {class = c} left x same agrees more =
      agree_as _ _ (loop_on (stands Bar) (λ ts. annotated_of left (behind ts)) either (class_shortens d v left) x (mark Bar ∷ t) (stands_itself Bar t))
      (agree_bind (annotated_of left t) _ agrees (λ y same_y. more (either x y) (λ eq. ap (λ a. either a y) (same eq) ∙ ap (either c) (same_y eq))))

  parenthesized_from : {tokens rest : List Lexeme} {class : WrittenClass} (before left : ℕ) →
      Counts before left (mark LeftParenthesis ∷ tokens) →
      ((l : ℕ) → Counts (before + 1) l tokens → Agrees d s class (mark RightParenthesis ∷ rest) (class_at d v l tokens)) →
      Agrees d s class rest (one_of left (mark LeftParenthesis ∷ tokens))
  unfolding one_class_at class_inside class_at first behind
  parenthesized_from before zero c agrees = let one = fits_one before parentheses c.fits in let all = c.sum in absurd (omega arith)
  parenthesized_from {tokens = t} {rest = r} before (suc l) c agrees =
      let all = c.sum in
      agree_bind (class_at d v l t) _ (agrees l (record { most = c.most; fits = fits_opening before parentheses c.fits; sum = omega arith })) (λ x same.
      sure (behind_symbol RightParenthesis (mark RightParenthesis ∷ r)) _ (behind_itself RightParenthesis r) (found same))

  unprefixed_agrees : {token : Lexeme} {name : List ℕ} (left : ℕ) (rest : List Lexeme) →
      IsAnyId token name → Agrees d s (the_name u name) rest (one_of left (token ∷ rest))
  unfolding one_class_at first behind
  unprefixed_agrees left rest (an_identifier {name = n}) = found (λ eq. ap (λ ns. the_name ns n) (same_namespace eq))
  unprefixed_agrees left rest (a_keyword {keyword = k}) = found (λ eq. ap (λ ns. the_name ns (keyword_text k)) (same_namespace eq))

  prefixed_agrees : {prefix local : List ℕ} {ns : Namespace} (left : ℕ) (rest : List Lexeme) →
      s.namespace prefix ≡ Some ns → Agrees d s (the_name ns local) rest (one_of left (PrefixedName prefix local ∷ rest))
  unfolding one_class_at first behind
  prefixed_agrees {prefix = p} {local = l} left rest known =
      agree_bind (namespace_at d p rest) _ (namespace_agrees p rest known) (λ ns same. found (λ eq. ap (λ n. the_name n l) (same eq)))

  one_wildcard_agrees : {token : Lexeme} {class : WrittenClass} (left : ℕ) (rest : List Lexeme) →
      IsWildcard s token class → Agrees d s class rest (one_of left (token ∷ rest))
  unfolding one_class_at first
  one_wildcard_agrees left rest (all_of_namespace known) = wildcard_agrees rest (all_of_namespace known)
  one_wildcard_agrees left rest all_names = wildcard_agrees rest all_names

  -- ---- every class

  mutual
    pub class_agrees : {tokens rest : List Lexeme} {class : WrittenClass} (before left : ℕ) →
        Counts before left tokens → IsClass s u tokens class rest → EndsClass rest → Agrees d s class rest (class_at d v left tokens)
    class_agrees before left c (one_class (annotated_class g one f)) e =
        class_from left g one (one_agrees before left (counts_behind c (passes_opening g)) one) f (record { no_minus = e.no_minus; no_follower = e.no_follower }) (λ x same. loop_over_from left x same e.no_bar)
    class_agrees {rest = r} {class = all} before left c (several_classes {behind = m} (annotated_class g one f) later is) e =
        class_from left g one (one_agrees before left (counts_behind c (passes_opening g)) one) f (more_begin later) (λ x same.
        let P : WrittenClass → Type 0 = λ a. Agrees d s a r (more_classes_at d v (class_inside d v left) x m) in
        subst P (sym is) (more_agree before left (counts_behind c (passes_annotated_class (annotated_class g one f))) x same later e))
    class_agrees before left c (except_class g covers a) e =
        except_from left g covers (annotated_agrees before left (counts_behind c (passes_opening g then token (plain_wildcard covers) then token tt)) a e.no_follower)

    more_agree : {tokens rest : List Lexeme} {class : WrittenClass} {classes : List WrittenClass} (before left : ℕ) →
        Counts before left tokens → (x : WrittenClass) → (s ≡ d → x ≡ class) → AreMoreClasses s u tokens classes rest → EndsClass rest →
        Agrees d s (joined either class classes) rest (more_classes_at d v (class_inside d v left) x tokens)
    more_agree before left c x same (last_class a) e = loop_on_from _ left x same (annotated_agrees before left (counts_behind c (token tt)) a e.no_follower) (λ y same_y. loop_over_from left y same_y e.no_bar)
    more_agree before left c x same (next_class a later) e = loop_on_from _ left x same (annotated_agrees before left (counts_behind c (token tt)) a (more_begin later).no_follower) (λ y same_y. more_agree before left (counts_behind c (token tt then passes_annotated_class a)) y same_y later e)

    annotated_agrees : {tokens rest : List Lexeme} {class : WrittenClass} (before left : ℕ) →
        Counts before left tokens → IsAnnotatedClass s u tokens class rest → stands Follows rest ≡ false →
        Agrees d s class rest (annotated_of left tokens)
    annotated_agrees before left c (annotated_class g one f) e =
        annotated_from left g one (one_agrees before left (counts_behind c (passes_opening g)) one) f e

    one_agrees : {tokens rest : List Lexeme} {class : WrittenClass} (before left : ℕ) →
        Counts before left tokens → IsOneClass s u tokens class rest → Agrees d s class rest (one_of left tokens)
    one_agrees {rest = r} before left c (unprefixed_name name) = unprefixed_agrees left r name
    one_agrees {rest = r} before left c (prefixed_name known) = prefixed_agrees left r known
    one_agrees {rest = r} before left c (wildcard covers) = one_wildcard_agrees left r covers
    one_agrees {rest = r} before left c (parenthesized_class inside) =
        parenthesized_from before left c (λ l k. class_agrees (before + 1) l k inside (class_ends_parenthesis r))
