-- The loop over classes with `|` before each.
use Rattle.std.proofs.Common.{◌≡◌, ℕ, ◌<◌, true, false, List, [], ◌∷◌, ◌++◌, length, map, sym, ap, ◌∙◌, arith, length-append}
use Rattle.std.proofs.lemmas.List.{map-append, length-map}
use Rattle.rnc_lex.specs.declared.token.Lexeme.{Lexeme}
use Rattle.rnc_lex.specs.declared.token.Symbol.TheVariants.{Bar}
use Rattle.rnc_parse.specs.declared.stop.Stop.{Stop}
use Rattle.rnc_parse.specs.declared.surface.Namespace.{Namespace}
use Rattle.rnc_parse.specs.declared.surface.NameClass.{NameClass}
use Rattle.rnc_parse.specs.Scopes.{Scope}
use Rattle.rnc_parse.specs.Views.{class_of}
use Rattle.rnc_parse.specs.Written.{WrittenClass, no_name, either, joined_or}
use Rattle.rnc_parse.specs.Reading.{Reading, read, behind, stands, loop_at}
use Rattle.rnc_parse.specs.ReadingClasses.{annotated_class_at, class_inside, more_classes_at}
use Rattle.rnc_parse.proofs.ClassViews.{joined_or_push}
use Rattle.rnc_parse.proofs.Finding.{Halts, loop_fails, loop_next, loop_over}
use Rattle.rnc_parse.proofs.Loops.{loop_ends}
use Rattle.rnc_parse.proofs.Shortening.{class_shortens}

-- the class of all in a list
abbrev pub all_of : List NameClass → WrittenClass
all_of classes = joined_or either no_name (map class_of classes)

pub all_of_push : (old : List NameClass) (new : List NameClass) (one : NameClass) → 0 < length old → new ≡ old ++ one ∷ [] →
    either (all_of old) (class_of one) ≡ all_of new
all_of_push old new one some e =
    let long : 0 < length (map class_of old) = simp length-map some in
    sym (ap all_of e ∙ ap (joined_or either no_name) (map-append class_of old (one ∷ [])) ∙ joined_or_push either no_name (map class_of old) (class_of one) long)

module _ (scope : Scope) (unprefixed : Namespace) (left : ℕ) where
  abbrev step : List Lexeme → Reading WrittenClass
  step tokens = annotated_class_at scope unprefixed (class_inside scope unprefixed left) tokens

  -- what the loop keeps
  pub record Keeps (classes : List NameClass) (tokens : List Lexeme) (total : Reading WrittenClass) : Type 0 where
    pub some : 0 < length classes
    pub same : loop_at (stands Bar) (λ more. annotated_class_at scope unprefixed (class_inside scope unprefixed left) (behind more)) either (all_of classes) tokens ≡ total

  pub begun : (classes : List NameClass) (first : NameClass) (tokens : List Lexeme) → classes ≡ first ∷ [] →
      Keeps classes tokens (more_classes_at scope unprefixed (class_inside scope unprefixed left) (class_of first) tokens)
  unfolding more_classes_at
  begun classes first tokens e = record {
    some = omega (arith, ap length e);
    same = ap (λ (l : List NameClass). loop_at (stands Bar) (λ more. annotated_class_at scope unprefixed (class_inside scope unprefixed left) (behind more)) either (all_of l) tokens) e;
  }

  pub went_on : (old new : List NameClass) (one : NameClass) (tokens rest : List Lexeme) (total : Reading WrittenClass) →
      stands Bar tokens ≡ true → step (behind tokens) ≡ read (class_of one) rest → new ≡ old ++ one ∷ [] → Keeps old tokens total →
      Keeps new rest total
  went_on old new one tokens rest total goes e pushed keeps = record {
    some = omega (arith, ap length pushed, length-append old (one ∷ []));
    same = loop_next (stands Bar) (λ more. annotated_class_at scope unprefixed (class_inside scope unprefixed left) (behind more)) either (all_of old) (all_of new) (class_of one) tokens rest total (class_shortens scope unprefixed left) goes e (all_of_push old new one keeps.some pushed) keeps.same;
  }

  pub fails : (classes : List NameClass) (tokens : List Lexeme) (total : Reading WrittenClass) (e : Stop) → stands Bar tokens ≡ true →
      Keeps classes tokens total → Halts e (step (behind tokens)) → Halts e total
  fails classes tokens total e goes keeps h = loop_fails (stands Bar) (λ more. annotated_class_at scope unprefixed (class_inside scope unprefixed left) (behind more)) either (all_of classes) tokens total e (class_shortens scope unprefixed left) goes keeps.same h

  pub over : (classes : List NameClass) (tokens : List Lexeme) (total : Reading WrittenClass) → stands Bar tokens ≡ false →
      Keeps classes tokens total → total ≡ read (all_of classes) tokens
  over classes tokens total stops keeps = loop_over (stands Bar) (λ more. annotated_class_at scope unprefixed (class_inside scope unprefixed left) (behind more)) either (all_of classes) tokens total stops keeps.same

  pub only_one : (class : WrittenClass) (tokens : List Lexeme) → stands Bar tokens ≡ false →
      more_classes_at scope unprefixed (class_inside scope unprefixed left) class tokens ≡ read class tokens
  unfolding more_classes_at
  only_one class tokens stops = loop_ends (stands Bar) (λ more. annotated_class_at scope unprefixed (class_inside scope unprefixed left) (behind more)) either class tokens stops
