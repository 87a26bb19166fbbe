-- Where patterns stand in a schema, and what leads from one to another.
use Rattle.std.specs.Prelude.{ℕ, List, [], ◌∷◌, Contains}
use Rattle.rnc_parse.specs.declared.surface.Defined.TheVariants as defined
use Rattle.rng_core.specs.Names.{Class}
use Rattle.rng_simplify.specs.Composed.{Composed, Clauses, defining, bodies}
use Rattle.rng_simplify.specs.Composed as composed

-- a pattern with the grammars around it, the innermost first
pub record Place : Type 0 where
  pub scopes : List Clauses
  pub pattern : Composed

abbrev pub place : List Clauses → Composed → Place
place scopes p = record { scopes = scopes; pattern = p }

-- the patterns of which a pattern is made; an element and a grammar are made of none
abbrev pub parts : Composed → List Composed
parts (composed.element number class p) = []
parts (composed.attribute class p) = p ∷ []
parts (composed.listed p) = p ∷ []
parts (composed.ref name) = []
parts (composed.parent_ref name) = []
parts composed.empty = []
parts composed.any_text = []
parts composed.not_allowed = []
parts (composed.value type text) = []
parts (composed.typed type params except) = except ∷ []
parts (composed.grammar clauses) = []
parts (composed.one_or_more p) = p ∷ []
parts (composed.choice p q) = p ∷ q ∷ []
parts (composed.group p q) = p ∷ q ∷ []
parts (composed.interleave p q) = p ∷ q ∷ []

-- the second stands directly in the first: as a part, as an element's content, as a definition of a grammar
pub data IsIn : Place → Place → Type 0 where
  a_part : {scopes : List Clauses} {p q : Composed} → Contains (parts p) q → IsIn (place scopes p) (place scopes q)
  a_content : {scopes : List Clauses} {number : ℕ} {class : Class} {p : Composed} →
      IsIn (place scopes (composed.element number class p)) (place scopes p)
  a_definition : {scopes : List Clauses} {clauses : Clauses} {p : Composed} → Contains (bodies clauses) p →
      IsIn (place scopes (composed.grammar clauses)) (place (clauses ∷ scopes) p)

-- it stands in the schema
pub data Occurs (whole : Composed) : Place → Type 0 where
  the_whole : Occurs whole (place [] whole)
  further_in : {outer inner : Place} → Occurs whole outer → IsIn outer inner → Occurs whole inner

-- the simple form of the second is a part of that of the first: a part, what a reference stands for, the start of a grammar
pub data LeadsTo : Place → Place → Type 0 where
  to_part : {scopes : List Clauses} {p q : Composed} → Contains (parts p) q → LeadsTo (place scopes p) (place scopes q)
  to_definition : {scope : Clauses} {outer : List Clauses} {name : List ℕ} {p : Composed} →
      Contains (bodies (defining (defined.Name name) scope)) p →
      LeadsTo (place (scope ∷ outer) (composed.ref name)) (place (scope ∷ outer) p)
  to_outer_definition : {inner scope : Clauses} {outer : List Clauses} {name : List ℕ} {p : Composed} →
      Contains (bodies (defining (defined.Name name) scope)) p →
      LeadsTo (place (inner ∷ scope ∷ outer) (composed.parent_ref name)) (place (scope ∷ outer) p)
  to_start : {scopes : List Clauses} {clauses : Clauses} {p : Composed} → Contains (bodies (defining defined.Start clauses)) p →
      LeadsTo (place scopes (composed.grammar clauses)) (place (clauses ∷ scopes) p)

-- and so by one step or more
pub data LeadsOn : Place → Place → Type 0 where
  in_one_step : {from to : Place} → LeadsTo from to → LeadsOn from to
  in_more_steps : {from mid to : Place} → LeadsTo from mid → LeadsOn mid to → LeadsOn from to
