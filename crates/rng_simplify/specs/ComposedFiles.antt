-- Schema files put into one piece: ISO/IEC 19757-2, sections 7.6 to 7.16.
use Rattle.std.specs.Prelude.{◌≡◌, ℕ, true, List, [], ◌∷◌, Option, Some, None, Contains, IsUtf8}
use Rattle.std.specs.List.{AllByRecursion}
use Rattle.nx_host.specs.Files.{FileMap}
use Rattle.nx_host.specs.Uri.{Joins}
use Rattle.rnc_parse.specs.declared.surface.FileReference.{FileReference}
use Rattle.rnc_parse.specs.declared.surface.Defined.{Defined}
use Rattle.rnc_parse.specs.declared.surface.Combine.{Combine}
use Rattle.rnc_parse.specs.declared.surface.TypeName.{TypeName}
use Rattle.rnc_parse.specs.declared.surface.Param.{Param}
use Rattle.rnc_parse.specs.Written.{WrittenClass, WrittenPattern, WrittenItems, WrittenReplacements, WrittenSurface, a_pattern, a_grammar}
use Rattle.rnc_parse.specs.Written as written
use Rattle.rngx_read.specs.Files.{ReadsFile}
use Rattle.rng_simplify.specs.Classes.{namespace_in, class_in}
use Rattle.rng_simplify.specs.Composed.{Composed, Clauses, end_of_clauses, clause_then, then_clauses, defines, but_for, names_of}
use Rattle.rng_simplify.specs.Composed as composed

-- a file in the schema: its URI, the namespace that it inherits, and the URIs of the files that lead to it, its own first
pub record Context : Type 0 where
  pub uri : List ℕ
  pub inherited : List ℕ
  pub chain : List (List ℕ)

-- the file that a schema begins with; it inherits no namespace
abbrev pub top : List ℕ → Context
top uri = record { uri = uri; inherited = []; chain = uri ∷ [] }

-- a file that another one refers to
abbrev pub referred : Context → FileReference → List ℕ → Context
referred context reference uri = record {
  uri = uri;
  inherited = namespace_in context.inherited reference.namespace;
  chain = uri ∷
      context.chain;
}

-- what the file of this URI says
pub record Says (files : FileMap) (uri : List ℕ) (surface : WrittenSurface) : Type 0 where
  pub bytes : List ℕ
  pub there : files uri ≡ Some bytes
  pub is_text : IsUtf8 bytes
  pub reads : ReadsFile bytes surface

-- the reference leads to a file that says this, and that isn't one of those that lead here: sections 7.6 to 7.8
pub record Opens (files : FileMap) (context : Context) (reference : FileReference) (inner : Context)
    (surface : WrittenSurface) : Type 0 where
  pub uri : List ℕ
  pub refers : Joins context.uri reference.uri uri
  pub inner_is : inner ≡ referred context reference uri
  pub no_loop : ¬ Contains context.chain uri
  pub says : Says files uri surface

-- what it says as the items of a grammar, if it is one, be it in a pattern alone
abbrev pub grammar_items : WrittenSurface → Option WrittenItems
grammar_items (a_grammar items) = Some items
grammar_items (a_pattern (written.grammar items)) = Some items
grammar_items (a_pattern p) = None

-- each name of a list is defined
abbrev pub DefinesEach : Clauses → List Defined → Type 0
DefinesEach clauses names = AllByRecursion (λ name. defines name clauses ≡ true) names

mutual
  -- a pattern of a file in one piece. The numbers of elements are free
  pub data Composes (files : FileMap) : Context → WrittenPattern → Composed → Type 0 where
    -- 7.9: a class's namespaces are known
    by_element : {context : Context} {class : WrittenClass} {p : WrittenPattern} {q : Composed} (number : ℕ) →
        Composes files context p q → Composes files context (written.element class p)
        (composed.element number (class_in context.inherited class) q)
    by_attribute : {context : Context} {class : WrittenClass} {p : WrittenPattern} {q : Composed} → Composes files context p q →
        Composes files context (written.attribute class p) (composed.attribute (class_in context.inherited class) q)
    by_list : {context : Context} {p : WrittenPattern} {q : Composed} → Composes files context p q →
        Composes files context (written.list p) (composed.listed q)
    by_ref : {context : Context} {name : List ℕ} → Composes files context (written.ref name) (composed.ref name)
    by_parent_ref : {context : Context} {name : List ℕ} → Composes files context (written.parent_ref name) (composed.parent_ref name)
    by_empty : {context : Context} → Composes files context written.empty composed.empty
    by_text : {context : Context} → Composes files context written.any_text composed.any_text
    by_not_allowed : {context : Context} → Composes files context written.not_allowed composed.not_allowed
    by_value : {context : Context} {type : TypeName} {text : List ℕ} →
        Composes files context (written.value type text) (composed.value type text)
    by_type : {context : Context} {type : TypeName} {params : List Param} →
        Composes files context (written.typed type params) (composed.typed type params composed.not_allowed)
    by_type_but : {context : Context} {type : TypeName} {params : List Param} {except : WrittenPattern} {q : Composed} →
        Composes files context except q → Composes files context (written.typed_but type params except) (composed.typed type params q)
    -- 7.7: the other file's pattern in the place of the reference
    by_external : {context inner : Context} {reference : FileReference} {surface : WrittenSurface} {q : Composed} →
        Opens files context reference inner surface → ComposesFile files inner surface q →
        Composes files context (written.external reference) q
    by_grammar : {context : Context} {items : WrittenItems} {clauses : Clauses} → Gathers files context items clauses →
        Composes files context (written.grammar items) (composed.grammar clauses)
    -- 7.14 to 7.16: what is short for something else
    by_optional : {context : Context} {p : WrittenPattern} {q : Composed} → Composes files context p q →
        Composes files context (written.optional p) (composed.choice q composed.empty)
    by_zero_or_more : {context : Context} {p : WrittenPattern} {q : Composed} → Composes files context p q →
        Composes files context (written.zero_or_more p) (composed.choice (composed.one_or_more q) composed.empty)
    by_one_or_more : {context : Context} {p : WrittenPattern} {q : Composed} → Composes files context p q →
        Composes files context (written.one_or_more p) (composed.one_or_more q)
    by_mixed : {context : Context} {p : WrittenPattern} {q : Composed} → Composes files context p q →
        Composes files context (written.mixed p) (composed.interleave composed.any_text q)
    by_choice : {context : Context} {p1 p2 : WrittenPattern} {q1 q2 : Composed} → Composes files context p1 q1 →
        Composes files context p2 q2 → Composes files context (written.choice p1 p2) (composed.choice q1 q2)
    by_group : {context : Context} {p1 p2 : WrittenPattern} {q1 q2 : Composed} → Composes files context p1 q1 →
        Composes files context p2 q2 → Composes files context (written.group p1 p2) (composed.group q1 q2)
    by_interleave : {context : Context} {p1 p2 : WrittenPattern} {q1 q2 : Composed} → Composes files context p1 q1 →
        Composes files context p2 q2 → Composes files context (written.interleave p1 p2) (composed.interleave q1 q2)

  -- a whole file in one piece
  pub data ComposesFile (files : FileMap) : Context → WrittenSurface → Composed → Type 0 where
    of_pattern : {context : Context} {p : WrittenPattern} {q : Composed} → Composes files context p q →
        ComposesFile files context (a_pattern p) q
    of_grammar : {context : Context} {items : WrittenItems} {clauses : Clauses} → Gathers files context items clauses →
        ComposesFile files context (a_grammar items) (composed.grammar clauses)

  -- the definitions of items, in order
  pub data Gathers (files : FileMap) : Context → WrittenItems → Clauses → Type 0 where
    no_item : {context : Context} → Gathers files context written.no_items end_of_clauses
    definition : {context : Context} {name : Defined} {combine : Combine} {p : WrittenPattern} {q : Composed} {items : WrittenItems}
        {clauses : Clauses} → Composes files context p q → Gathers files context items clauses →
        Gathers files context (written.item_then (written.define name combine p) items) (clause_then name combine q clauses)
    -- 7.12: a div is what is in it
    division : {context : Context} {inside items : WrittenItems} {first clauses all : Clauses} → Gathers files context inside first →
        Gathers files context items clauses → all ≡ then_clauses first clauses →
        Gathers files context (written.item_then (written.div inside) items) all
    -- 7.8: the other grammar's definitions, but for those that are defined anew, of each of which it has one
    inclusion : {context inner : Context} {reference : FileReference} {surface : WrittenSurface} {replacements : WrittenReplacements}
        {others items : WrittenItems} {old new clauses all : Clauses} → Opens files context reference inner surface →
        grammar_items surface ≡ Some others → Gathers files inner others old → GathersAnew files context replacements new →
        DefinesEach old (names_of new) → Gathers files context items clauses →
        all ≡ then_clauses (but_for new old) (then_clauses new clauses) →
        Gathers files context (written.item_then (written.include reference replacements) items) all

  -- those in the braces of an include
  pub data GathersAnew (files : FileMap) : Context → WrittenReplacements → Clauses → Type 0 where
    none_anew : {context : Context} → GathersAnew files context written.no_replacements end_of_clauses
    definition_anew : {context : Context} {name : Defined} {combine : Combine} {p : WrittenPattern} {q : Composed} {replacements :
        WrittenReplacements} {clauses : Clauses} → Composes files context p q → GathersAnew files context replacements clauses →
        GathersAnew files context (written.replacement_then (written.define_anew name combine p) replacements)
        (clause_then name combine q clauses)
    division_anew : {context : Context} {inside replacements : WrittenReplacements} {first clauses all : Clauses} →
        GathersAnew files context inside first → GathersAnew files context replacements clauses → all ≡ then_clauses first clauses →
        GathersAnew files context (written.replacement_then (written.div_anew inside) replacements) all

-- the files that are reached from this URI, in one piece
pub record ComposesSchema (files : FileMap) (uri : List ℕ) (whole : Composed) : Type 0 where
  pub surface : WrittenSurface
  pub says : Says files uri surface
  pub composed : ComposesFile files (top uri) surface whole
