-- The simple form of a whole schema: its start, and a definition for each element.
use Rattle.std.specs.Prelude.{◌≡◌, ◌↔◌, ℕ, ◌<◌, ◌==◌, List, [], length, slice_get, Some, Contains}
use Rattle.std.specs.List.{IsDistinct}
use Rattle.rng_core.specs.Names.{Class}
use Rattle.rng_simplify.specs.Composed.{Composed, Clauses, numbers}
use Rattle.rng_simplify.specs.Composed as composed
use Rattle.rng_simplify.specs.Forms.{Form, FormDefinition}
use Rattle.rng_simplify.specs.Places.{place, Occurs}
use Rattle.rng_simplify.specs.Simple.{Simple}

-- the definition of an element's number has its class, and its content's simple form
pub record IsDefinedAt (definitions : List FormDefinition) (scopes : List Clauses) (number : ℕ) (class : Class)
    (p : Composed) : Type 0 where
  pub content : Form
  pub there : slice_get definitions number ≡ Some (record { class = class; content = content })
  pub simple : Simple scopes p content

-- each element that stands in the schema has one number and its definition, reached from the start or not; there is no other
-- definition
pub record IsForm (whole : Composed) (start : Form) (definitions : List FormDefinition) : Type 0 where
  pub start_is : Simple [] whole start
  pub distinct : IsDistinct (λ a b. a == b) (numbers whole)
  pub each_number : (number : ℕ) → Contains (numbers whole) number ↔ number < length definitions
  pub each_element : (scopes : List Clauses) (number : ℕ) (class : Class) (p : Composed) →
      Occurs whole (place scopes (composed.element number class p)) → IsDefinedAt definitions scopes number class p
