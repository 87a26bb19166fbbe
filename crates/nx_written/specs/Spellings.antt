-- Which prefix a namespace has, and how names are written by it. Private contracts alone speak of this.
use Rattle.std.specs.Prelude.{◌≡◌, ℕ, true, false, List, [], ◌∷◌, ◌++◌, Option, Some, None, codes}
use Rattle.std.specs.Str.{bytes_eq}
use Rattle.nx_base.specs.Names.{is_local}
use Rattle.nx_base.specs.declared.name.Name.{Name}
use Rattle.nx_events.specs.Scopes.{last_uri, bound_uri}
use Rattle.nx_events.specs.declared.scope.Binding.{Binding}
use Rattle.nx_written.specs.Naming.{DeclaresPrefix, NamesElement, NamesAttribute}
use Rattle.nx_written.specs.declared.spelling.Chosen.{Chosen}
use Rattle.nx_written.specs.declared.spelling.Spelling.{Spelling}

-- a prefix that declarations in force bind to a URI, and that a name can have
pub record Serves (scope : List Binding) (prefix uri : List ℕ) : Type 0 where
  pub form : is_local prefix ≡ true
  pub no_declaration : bytes_eq prefix (codes "xmlns") ≡ false
  pub bound : bound_uri scope prefix ≡ Some uri

-- a prefix that can be declared: an NCName that nothing in force has, and that isn't reserved
pub record IsFree (scope : List Binding) (prefix : List ℕ) : Type 0 where
  pub form : is_local prefix ≡ true
  pub no_declaration : bytes_eq prefix (codes "xmlns") ≡ false
  pub no_xml : bytes_eq prefix (codes "xml") ≡ false
  pub unbound : last_uri scope prefix ≡ None

-- what is declared, if anything is
abbrev pub list_of : Option Binding → List Binding
list_of None = []
list_of (Some it) = it ∷ []

-- a prefix for a URI, and the declaration that it needs
pub record IsChosen (scope : List Binding) (uri : List ℕ) (chosen : Chosen) : Type 0 where
  pub declares : DeclaresPrefix scope (list_of chosen.declared)
  pub serves : Serves (scope ++ list_of chosen.declared) chosen.prefix uri

-- how a name is written, and what is declared with it
abbrev pub SpellsElement : List Binding → Name → Spelling → Type 0
SpellsElement scope name spelling = NamesElement scope name spelling.written (list_of spelling.declared)

abbrev pub SpellsAttribute : List Binding → Name → Spelling → Type 0
SpellsAttribute scope name spelling = NamesAttribute scope name spelling.written (list_of spelling.declared)
