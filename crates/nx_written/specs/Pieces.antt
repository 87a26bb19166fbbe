-- Pieces of start tags. Private contracts alone speak of this.
use Rattle.std.specs.Prelude.{◌≡◌, ℕ, List, [], ◌∷◌, ◌++◌}
use Rattle.nx_base.specs.declared.name.Name.{Name}
use Rattle.nx_events.specs.Spelling.{spelled_all}
use Rattle.nx_events.specs.declared.scope.Binding.{Binding}
use Rattle.nx_written.specs.Naming.{NamesElement, NamesAttribute}
use Rattle.nx_written.specs.Tags.{attribute_of, declarations}

-- `<`, a name, and the declaration that it needs
pub record AddsName (name : Name) (written : List ℕ) (scope scope' : List Binding) (text text' : List ℕ) : Type 0 where
  pub own : List Binding
  pub named : NamesElement scope name written own
  pub in_force : scope' ≡ scope ++ own
  pub spelled : text' ≡ text ++ (60 ∷ (written ++ spelled_all (declarations own) []))

-- an attribute, and the declaration that it needs
pub record AddsPair (name : Name) (value : List ℕ) (scope scope' : List Binding) (text text' : List ℕ) : Type 0 where
  pub written : List ℕ
  pub own : List Binding
  pub named : NamesAttribute scope name written own
  pub in_force : scope' ≡ scope ++ own
  pub spelled : text' ≡ text ++ spelled_all (attribute_of written value ∷ declarations own) []
