-- What is asked of a matcher, item by item.
use Rattle.std.proofs.Common.{◌≡◌, List, [], ◌∷◌, ◌++◌, map, Bool, true, false, Option, Some, None, refl, sym, ap, subst, ◌∙◌, append_assoc}
use Rattle.std.specs.Prelude.{is_some, option_map, if◌then◌else◌}
use Rattle.std.specs.List.{filter}
use Rattle.nx_base.specs.Rules.{LaterLaws}
use Rattle.nx_base.specs.declared.name.Name.{Name}
use Rattle.nx_base.specs.declared.offer.Offer.{Offer}
use Rattle.rng_core.specs.Patterns.{Definition, Language}
use Rattle.rng_kept.specs.Residuals.{Residual}
use Rattle.rng_live.specs.Listed.{AreMentioned, AreNamespaces}
use Rattle.nx_complete.specs.Asking.{asks, takes_value, apart_from, others_of, names_passed, spaces_passed, rest_passed, name_offers, ListsNames}
use Rattle.nx_complete.specs.declared.naming.Naming.{Naming}

pub some_given : {X Y : Type 0} (f : X → Y) (o : Option X) (answer : Option Y) → option_map f o ≡ answer → is_some o ≡ is_some answer
some_given f None answer e = ap is_some e
some_given f (Some x) answer e = ap is_some e

-- the offers of the items that pass, and of one item more
abbrev pub passed : {X : Type 0} → (X → Bool) → (X → Offer) → List X → List Offer
passed t h xs = map h (filter t xs)

passed_more : {X : Type 0} (t : X → Bool) (h : X → Offer) (x : X) (xs : List X) → passed t h (x ∷ xs) ≡ passed t h (x ∷ []) ++ passed t h xs
passed_more {X} t h x xs = by (t x)
  where
    by : (b : Bool) → map h (if b then x ∷ filter t xs else filter t xs) ≡ map h (if b then x ∷ [] else []) ++ map h (filter t xs)
    by true = refl
    by false = refl

-- as far as the offers of a list's items have come: later than at first, with what is left the whole
pub record Going (on : Type 0) (now left old all : List Offer) : Type 0 where
  pub later : on
  pub whole : now ++ left ≡ old ++ all

pub gone : {X : Type 0} (t u : X → Bool) (h : X → Offer) (x : X) (rest : List X) (now more target : List Offer) → u ≡ t →
    now ++ passed t h (x ∷ rest) ≡ target → more ≡ now ++ passed u h (x ∷ []) → more ++ passed t h rest ≡ target
gone t u h x rest now more target s e f =
    ap (λ (l : List Offer). l ++ passed t h rest) (f ∙ ap (λ v. now ++ passed v h (x ∷ [])) s)
    ∙ append_assoc now (passed t h (x ∷ [])) (passed t h rest)
    ∙ ap (λ (l : List Offer). now ++ l) (sym (passed_more t h x rest)) ∙ e

-- what is asked of a later matcher is the same
module _ {D S : Type 0} {later : D → D → Type 0} {is_state : D → S → Type 0} {means : D → S → Residual} {language : D → Language} (laws : LaterLaws later is_state means language) (a b : D) (here : S) where
  pub same_asked : later a b → is_state a here → (naming : Naming) → asks (language b).definitions naming (means b here) ≡ asks (language a).definitions naming (means a here)
  same_asked on s naming =
      ap (λ (g : Language). asks g.definitions naming (means b here)) (laws.rule a b on) ∙ ap (asks (language a).definitions naming) (laws.meaning a b here on s)

  pub same_taken : later a b → is_state a here → (n : Name) → takes_value n (means b here) ≡ takes_value n (means a here)
  same_taken on s n = ap (takes_value n) (laws.meaning a b here on s)

-- the offers of names, one part behind another
pub three_parts : (a b c all now then_ last : List Offer) → now ≡ [] ++ a → then_ ≡ now ++ b → last ≡ then_ ++ c → all ≡ last → all ≡ a ++ (b ++ c)
three_parts a b c all now then_ last e f h i = i ∙ h ∙ ap (λ (l : List Offer). l ++ c) (f ∙ ap (λ (l : List Offer). l ++ b) e) ∙ append_assoc a b c

pub listed_names : (g : List Definition) (naming : Naming) (x : Residual) (names spaces : List Name) (apart : Name) → AreMentioned g names → AreNamespaces g spaces →
    apart ≡ apart_from names (others_of naming) spaces → (now then_ last all : List Offer) → now ≡ [] ++ names_passed (asks g naming x) names →
    then_ ≡ now ++ spaces_passed (asks g naming x) apart.local spaces → last ≡ then_ ++ rest_passed (asks g naming x) apart → all ≡ last → ListsNames g naming x all
listed_names g naming x names spaces apart m n e now then_ last all a b c d = record {
  names = names;
  spaces = spaces;
  mentioned = m;
  mentioned_spaces = n;
  are =
      three_parts _ _ _ all now then_ last a b c d
      ∙ ap (λ (w : Name). name_offers (asks g naming x) names spaces w.ns w.local) e;
}
