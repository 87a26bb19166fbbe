-- What a run finds around it, and leaves.
use Rattle.std.specs.Prelude.{ℕ, List, Option}
use Rattle.nx_session.specs.Editor.{FilesState, World, world, new_editor}
use Rattle.nx_views.specs.States.{ViewState}

-- the files, the views that faults are shown to, and how many tokens were cut so far
pub record Surroundings : Type 0 where
  pub files : FilesState
  pub views : List ViewState
  pub steps : ℕ

abbrev pub surroundings : FilesState → List ViewState → ℕ → Surroundings
surroundings files views steps = record { files = files; views = views; steps = steps }

-- a new editor in them, which is given the URI text of rules, or none
abbrev pub begun_in : Option (List ℕ) → Surroundings → World
begun_in rules old = world (new_editor rules) old.files old.views old.steps

-- those of an editor's world
abbrev pub around : World → Surroundings
around now = surroundings now.files now.views now.steps
