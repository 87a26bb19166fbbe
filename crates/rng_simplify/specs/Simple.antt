-- The simple form of a schema in one piece: ISO/IEC 19757-2, sections 7.18 to 7.22.
use Rattle.std.specs.Prelude.{◌≡◌, ℕ, List, [], ◌∷◌, Some}
use Rattle.rnc_parse.specs.declared.surface.TypeName.{TypeName}
use Rattle.rnc_parse.specs.declared.surface.Param.{Param}
use Rattle.rnc_parse.specs.declared.surface.Defined.{Defined}
use Rattle.rnc_parse.specs.declared.surface.Defined.TheVariants as defined
use Rattle.rnc_parse.specs.Written.{joined}
use Rattle.rng_core.specs.Names.{Class}
use Rattle.rng_simplify.specs.Composed.{Composed, Clauses, defining, combines, bodies}
use Rattle.rng_simplify.specs.Composed as composed
use Rattle.rng_simplify.specs.Forms.{Form, Value, list_of, attribute_of, one_or_more_of, choice_of, group_of}
use Rattle.rng_simplify.specs.Forms.{interleave_of, combine_of, combined_by, values_of}
use Rattle.rng_simplify.specs.Forms as form

mutual
  -- the simple form of a pattern with these grammars around it, the innermost first
  pub data Simple : List Clauses → Composed → Form → Type 0 where
    -- 7.20: an element is a definition of its own
    simple_element : {scopes : List Clauses} {number : ℕ} {class : Class} {p : Composed} →
        Simple scopes (composed.element number class p) (form.ref number)
    simple_attribute : {scopes : List Clauses} {class : Class} {p : Composed} {q : Form} → Simple scopes p q →
        Simple scopes (composed.attribute class p) (attribute_of class q)
    simple_list : {scopes : List Clauses} {p : Composed} {q : Form} → Simple scopes p q → Simple scopes (composed.listed p) (list_of q)
    simple_empty : {scopes : List Clauses} → Simple scopes composed.empty form.empty
    simple_text : {scopes : List Clauses} → Simple scopes composed.any_text form.any_text
    simple_not_allowed : {scopes : List Clauses} → Simple scopes composed.not_allowed form.not_allowed
    simple_value : {scopes : List Clauses} {type : TypeName} {text : List ℕ} →
        Simple scopes (composed.value type text) (form.value (record { type = type; text = text }))
    simple_type : {scopes : List Clauses} {type : TypeName} {params : List Param} {except : Composed} {q : Form} {values : List Value} →
        Simple scopes except q → values_of q ≡ Some values →
        Simple scopes (composed.typed type params except) (form.typed type params values)
    simple_one_or_more : {scopes : List Clauses} {p : Composed} {q : Form} → Simple scopes p q →
        Simple scopes (composed.one_or_more p) (one_or_more_of q)
    simple_choice : {scopes : List Clauses} {p1 p2 : Composed} {q1 q2 : Form} → Simple scopes p1 q1 → Simple scopes p2 q2 →
        Simple scopes (composed.choice p1 p2) (choice_of q1 q2)
    simple_group : {scopes : List Clauses} {p1 p2 : Composed} {q1 q2 : Form} → Simple scopes p1 q1 → Simple scopes p2 q2 →
        Simple scopes (composed.group p1 p2) (group_of q1 q2)
    simple_interleave : {scopes : List Clauses} {p1 p2 : Composed} {q1 q2 : Form} → Simple scopes p1 q1 → Simple scopes p2 q2 →
        Simple scopes (composed.interleave p1 p2) (interleave_of q1 q2)
    -- 7.19 and 7.20: a grammar is its start, and a reference what the grammar defines, or the one around it
    simple_grammar : {scopes : List Clauses} {clauses : Clauses} {q : Form} → Defines clauses scopes defined.Start q →
        Simple scopes (composed.grammar clauses) q
    simple_ref : {scope : Clauses} {outer : List Clauses} {name : List ℕ} {q : Form} → Defines scope outer (defined.Name name) q →
        Simple (scope ∷ outer) (composed.ref name) q
    simple_parent_ref : {inner scope : Clauses} {outer : List Clauses} {name : List ℕ} {q : Form} →
        Defines scope outer (defined.Name name) q → Simple (inner ∷ scope ∷ outer) (composed.parent_ref name) q

  -- 7.18: what a grammar defines under the name, combined in order; it nests to the left
  pub data Defines : Clauses → List Clauses → Defined → Form → Type 0 where
    combined_in_order : {scope : Clauses} {outer : List Clauses} {name : Defined} {first q : Form} {more : List Form} →
        AreSimple (scope ∷ outer) (bodies (defining name scope)) (first ∷ more) →
        q ≡ joined (combined_by (combine_of (combines (defining name scope)))) first more → Defines scope outer name q

  pub data AreSimple : List Clauses → List Composed → List Form → Type 0 where
    none_simple : {scopes : List Clauses} → AreSimple scopes [] []
    next_simple : {scopes : List Clauses} {p : Composed} {q : Form} {ps : List Composed} {qs : List Form} → Simple scopes p q →
        AreSimple scopes ps qs → AreSimple scopes (p ∷ ps) (q ∷ qs)
