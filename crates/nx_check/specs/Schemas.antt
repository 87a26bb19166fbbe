-- The grammars that documents are held against.
use Rattle.std.specs.Prelude.{◌≡◌, ℕ, List, Option, Some, None}
use Rattle.std.specs.List.{AllByRecursion}
use Rattle.nx_host.specs.Files.{FileMap}
use Rattle.nx_host.specs.Uri.{Joins}
use Rattle.nx_script.specs.declared.reply.Refusal.{Refusal}
use Rattle.nx_script.specs.declared.reply.Refusal.TheVariants.{NoMemory}
use Rattle.nx_session.specs.Editor.{FilesState, work_folder}
use Rattle.nx_session.specs.Schemas.{GivesSchema, IsRefusedSchema}
use Rattle.rng_core.specs.declared.grammar.Grammar.{Grammar}
use Rattle.nx_check.specs.declared.kept.Kept.{Kept}

-- the files define this schema under the URI of this text; where there is no text, there is no schema
abbrev pub HoldsSchema : Option FileMap → Option (List ℕ) → Option Grammar → Type 0
HoldsSchema told None schema = schema ≡ None
HoldsSchema told (Some text) schema =
    (uri : List ℕ) × Joins work_folder text uri × ((grammar : Grammar) × GivesSchema told uri grammar × (schema ≡ Some grammar))

-- ---- as the code keeps them

-- each editor that is kept holds its documents against the schema that it is kept for
abbrev pub HoldTheirs : Option FileMap → List Kept → Type 0
HoldTheirs told kept = AllByRecursion (λ (one : Kept). HoldsSchema told one.source one.session.editor.schema) kept

-- an editor for this schema is taken of those that are kept, if there is one
abbrev pub FindsKept : Option FileMap → Option (List ℕ) → Option Kept → List Kept → Type 0
FindsKept told source (Some one) left = HoldsSchema told source one.session.editor.schema × (one.source ≡ source) × HoldTheirs told left
FindsKept told source None left = HoldTheirs told left

-- why there is no editor for this schema
abbrev pub RefusesSource : Option (List ℕ) → FilesState → FilesState → Refusal → Type 0
RefusesSource (Some text) old new cause = IsRefusedSchema text old new cause
RefusesSource None old new cause = (cause ≡ NoMemory) × (new ≡ old)
