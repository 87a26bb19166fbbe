-- What a writer holds, and what it writes for each event. Private contracts alone speak of this.
use Rattle.std.specs.Prelude.{◌≡◌, ℕ, List, [], ◌∷◌, ◌++◌, length, take, codes}
use Rattle.nx_base.specs.Trees.{Event, Enter, Att, TagEnd, Chars, Leave}
use Rattle.nx_base.specs.declared.name.Name.{Name}
use Rattle.nx_events.specs.Spelling.{spelled_all}
use Rattle.nx_events.specs.declared.scope.Binding.{Binding}
use Rattle.nx_events.specs.declared.state.OpenElement.{OpenElement}
use Rattle.nx_written.specs.Documents.{end_tag}
use Rattle.nx_written.specs.Escaping.{escaped}
use Rattle.nx_written.specs.Naming.{NamesElement, NamesAttribute}
use Rattle.nx_written.specs.Tags.{attribute_of, declarations}
use Rattle.nx_written.specs.declared.writer.Stage.{Stage}
use Rattle.nx_written.specs.declared.writer.Stage.TheVariants as stage
use Rattle.nx_written.specs.declared.writer.Writer.{Writer}

-- ---- what a writer holds

-- the open elements, the innermost last, each with how many declarations stand around it; the declarations in force; how far the
-- innermost start tag is written; and the text
pub record Held : Type 0 where
  pub open_tags : List OpenElement
  pub scope : List Binding
  pub stage : Stage
  pub text : List ℕ

abbrev pub held : Writer → Held
held writer = record { open_tags = writer.open_tags.items; scope = writer.scope; stage = writer.stage; text = writer.out.items }

-- ---- what it writes

-- what ends a start tag whose attributes are over, in front of content, and in the place of an end tag
abbrev pub opening_end : Stage → List ℕ
opening_end stage.Inside = []
opening_end stage.InTag = []
opening_end stage.Ended = codes ">"

abbrev pub end_by : Stage → List ℕ → List ℕ
end_by stage.Inside written = end_tag written
end_by stage.InTag written = end_tag written
end_by stage.Ended written = codes "/>"

pub record EntersElement (name : Name) (old new : Held) : Type 0 where
  pub written : List ℕ
  pub own : List Binding
  pub named : NamesElement old.scope name written own
  pub scope : new.scope ≡ old.scope ++ own
  pub open_tags : new.open_tags ≡ old.open_tags ++ (record { written = written; outer = length old.scope }) ∷ []
  pub stage : new.stage ≡ stage.InTag
  pub text : new.text ≡ old.text ++ (opening_end old.stage ++ (60 ∷ (written ++ spelled_all (declarations own) [])))

pub record AddsAttribute (name : Name) (value : List ℕ) (old new : Held) : Type 0 where
  pub written : List ℕ
  pub own : List Binding
  pub named : NamesAttribute old.scope name written own
  pub scope : new.scope ≡ old.scope ++ own
  pub open_tags : new.open_tags ≡ old.open_tags
  pub stage : new.stage ≡ old.stage
  pub text : new.text ≡ old.text ++ spelled_all (attribute_of written value ∷ declarations own) []

pub record EndsAttributes (old new : Held) : Type 0 where
  pub scope : new.scope ≡ old.scope
  pub open_tags : new.open_tags ≡ old.open_tags
  pub stage : new.stage ≡ stage.Ended
  pub text : new.text ≡ old.text

pub record AddsString (string : List ℕ) (old new : Held) : Type 0 where
  pub scope : new.scope ≡ old.scope
  pub open_tags : new.open_tags ≡ old.open_tags
  pub stage : new.stage ≡ stage.Inside
  pub text : new.text ≡ old.text ++ (opening_end old.stage ++ escaped string)

pub record LeavesElement (front : List OpenElement) (tag : OpenElement) (old new : Held) : Type 0 where
  pub scope : new.scope ≡ take tag.outer old.scope
  pub open_tags : new.open_tags ≡ front
  pub stage : new.stage ≡ stage.Inside
  pub text : new.text ≡ old.text ++ end_by old.stage tag.written

-- of one event
abbrev pub WritesEvent : Event → Held → Held → Type 0
WritesEvent (Enter name) old new = EntersElement name old new
WritesEvent (Att name value) old new = AddsAttribute name value old new
WritesEvent TagEnd old new = EndsAttributes old new
WritesEvent (Chars text) old new = AddsString text old new
WritesEvent Leave old new = (front : List OpenElement) (tag : OpenElement) → old.open_tags ≡ front ++ tag ∷ [] → LeavesElement front tag old new

-- of all, one after another
pub data WritesAll : List Event → Held → Held → Type 0 where
  all_written : {it : Held} → WritesAll [] it it
  one_written : {event : Event} {events : List Event} {old middle new : Held} → WritesEvent event old middle → WritesAll events middle new
      → WritesAll (event ∷ events) old new
