-- What is listed of names: those that pass a test, of the names that a schema mentions and of two that it doesn't.
use Rattle.std.specs.Prelude.{◌≡◌, ℕ, suc, max, Bool, false, is_some, List, [], ◌∷◌, ◌++◌, length, map, replicate, Option, Some, None, if◌then◌else◌}
use Rattle.std.specs.List.{filter, fold, list_any}
use Rattle.std.specs.Str.{is_utf8}
use Rattle.nx_base.specs.Names.{same_name}
use Rattle.nx_base.specs.declared.name.Name.{Name}
use Rattle.nx_base.specs.declared.offer.Offer.{Offer}
use Rattle.nx_base.specs.declared.offer.Offer.TheVariants as offer
use Rattle.rng_core.specs.Patterns.{Definition}
use Rattle.rng_kept.specs.Content.{leave}
use Rattle.rng_kept.specs.Entering.{enter}
use Rattle.rng_kept.specs.Merging.{answered}
use Rattle.rng_kept.specs.Residuals.{Residual}
use Rattle.rng_kept.specs.Tags.{attribute_of, attribute_any}
use Rattle.rng_live.specs.Listed.{AreMentioned, AreNamespaces, AreLiterals}
use Rattle.nx_complete.specs.declared.naming.Naming.{Naming}
use Rattle.nx_complete.specs.declared.naming.Naming.TheVariants.{Element, Attribute}

abbrev pub named : List ℕ → List ℕ → Name
named ns local = record { ns = ns; local = local }

-- those of the mentioned names that pass
abbrev pub names_passed : (Name → Bool) → List Name → List Offer
names_passed may names = map (λ name. offer.Name name) (filter may names)

-- the mentioned namespaces of which the name with this local part passes
abbrev pub spaces_passed : (Name → Bool) → List ℕ → List Name → List Offer
spaces_passed may local spaces = map (λ (space : Name). offer.AnyIn space.ns) (filter (λ (space : Name). may (named space.ns local)) spaces)

-- all others, where this name passes
abbrev pub rest_passed : (Name → Bool) → Name → List Offer
rest_passed may name = if may name then offer.AnyElse ∷ [] else []

abbrev pub name_offers : (Name → Bool) → List Name → List Name → List ℕ → List ℕ → List Offer
name_offers may names spaces ns local =
    names_passed may names ++ (spaces_passed may local spaces ++ rest_passed may (named ns local))

-- ---- a name that is longer than others

abbrev pub letters : ℕ → List ℕ
letters n = replicate n 97

-- the greatest length of a namespace, and of a local part, from a least one on
abbrev pub longest_space : ℕ → List Name → ℕ
longest_space least names = fold (λ n (name : Name). max n (length name.ns)) least names

abbrev pub longest_local : ℕ → List Name → ℕ
longest_local least names = fold (λ n (name : Name). max n (length name.local)) least names

abbrev pub apart_from : List Name → List Name → List Name → Name
apart_from names others spaces = named (letters (suc (longest_space 0 spaces))) (letters (suc (longest_local (longest_local 0 names) others)))

-- ---- what is asked of a residual

abbrev pub others_of : Naming → List Name
others_of Element = []
others_of (Attribute others) = others

abbrev pub is_among : List Name → Name → Bool
is_among others n = list_any (λ other. same_name other n) others

abbrev pub asks : List Definition → Naming → Residual → Name → Bool
asks g Element x n = is_some (answered (enter g n x))
asks g (Attribute others) x n = if is_among others n then false else is_some (answered (attribute_any n x))

-- the offers of names where this residual is left
pub record ListsNames (g : List Definition) (naming : Naming) (x : Residual) (offers : List Offer) : Type 0 where
  pub names : List Name
  pub spaces : List Name
  pub mentioned : AreMentioned g names
  pub mentioned_spaces : AreNamespaces g spaces
  pub are : offers ≡ (let apart = apart_from names (others_of naming) spaces in name_offers (asks g naming x) names spaces apart.ns apart.local)

-- ---- values

abbrev pub takes_value : Name → Residual → List ℕ → Bool
takes_value n x text = if is_utf8 text then is_some (answered (attribute_of n text x)) else false

abbrev pub values_passed : (List ℕ → Bool) → List (List ℕ) → List Offer
values_passed may texts = map (λ text. offer.Value text) (filter may texts)

-- the literals, of an attribute that has a name
pub record ListsLiterals (g : List Definition) (n : Name) (x : Residual) (offers : List Offer) : Type 0 where
  pub texts : List (List ℕ)
  pub literals : AreLiterals g texts
  pub are : offers ≡ values_passed (takes_value n x) texts

abbrev pub ListsValues : List Definition → Option Name → Residual → List Offer → Type 0
ListsValues g None x offers = offers ≡ []
ListsValues g (Some n) x offers = ListsLiterals g n x offers

-- ---- an end

abbrev pub end_listed : List ℕ → Residual → List Offer
end_listed written x = if is_some (answered (leave x)) then offer.End written ∷ [] else []
