-- Elements of a schema as they are put together from events, one after another. The program's own functions; no public contract rests
-- on them.
use Rattle.std.specs.Prelude.{ℕ, zero, suc, if◌then◌else◌, List, [], ◌∷◌, ◌++◌}
use Rattle.std.specs.Str.{bytes_eq}
use Rattle.nx_base.specs.Trees as trees
use Rattle.nx_base.specs.declared.name.Name.{Name}
use Rattle.nx_events.specs.declared.item.Event.TheVariants as events
use Rattle.nx_events.specs.declared.item.Item.{Item}
use Rattle.nx_events.specs.declared.item.Item.TheVariants as items
use Rattle.rngx_read.specs.declared.element.Tag.{Tag}
use Rattle.rngx_read.specs.Elements.{Elements, no_elements, element_then, schema_namespace, plain_if}

-- an open element, as far as it is read
pub record Frame : Type 0 where
  pub tag : Tag
  pub children : Elements

-- the innermost open element of the schema, those around it, innermost first, how many are open that are passed over, and the
-- own declarations of the tags that come
pub record Built : Type 0 where
  pub inner : Frame
  pub outer : List Frame
  pub passed : ℕ
  pub declared : List (List Name)

abbrev pub next_own : List (List Name) → List Name
next_own [] = []
next_own (own ∷ more) = own

abbrev pub later_ones : List (List Name) → List (List Name)
later_ones [] = []
later_ones (own ∷ more) = more

-- an element without anything in it, at which these declarations are in force
abbrev pub bare : List ℕ → List Name → Frame
bare local scope = record { tag = record { local = local; attributes = []; scope = scope; text = [] }; children = no_elements }

-- the declarations of the next tag are taken
abbrev pub own_taken : Built → Built
own_taken built = record built { declared = later_ones built.declared }

-- an element of the schema begins, which has these declarations of its own
abbrev pub opened_with : Name → List Name → Built → Built
opened_with name own built = record built { inner = bare name.local (built.inner.tag.scope ++ own); outer = built.inner ∷ built.outer }

abbrev pub opened : Name → Built → Built
opened name built = opened_with name (next_own built.declared) (own_taken built)

abbrev pub passed_by : Built → Built
passed_by built = record built { passed = suc built.passed; declared = later_ones built.declared }

abbrev pub entered_by : ℕ → Name → Built → Built
entered_by zero name built = if bytes_eq name.ns schema_namespace then opened name built else passed_by built
entered_by (suc n) name built = passed_by built

abbrev pub with_attribute : Frame → Name → List ℕ → Frame
with_attribute frame name value =
    let more = plain_if name.ns (record { local = name.local; value = value }) [] in
    record frame { tag = record frame.tag { attributes = frame.tag.attributes ++ more } }

abbrev pub attribute_by : ℕ → Name → List ℕ → Built → Built
attribute_by zero name value built = record built { inner = with_attribute built.inner name value }
attribute_by (suc n) name value built = built

abbrev pub with_text : Frame → List ℕ → Frame
with_text frame text = record frame { tag = record frame.tag { text = frame.tag.text ++ text } }

abbrev pub string_by : ℕ → List ℕ → Built → Built
string_by zero text built = record built { inner = with_text built.inner text }
string_by (suc n) text built = built

-- one row behind another
abbrev pub elements_and : Elements → Elements → Elements
elements_and no_elements more = more
elements_and (element_then tag children rest) more = element_then tag children (elements_and rest more)

-- an element that is read whole, behind the children of the one around it
abbrev pub with_child : Frame → Frame → Frame
with_child outer ended = record outer { children = elements_and outer.children (element_then ended.tag ended.children no_elements) }

abbrev pub closed_by : List Frame → Built → Built
closed_by [] built = built
closed_by (frame ∷ outer) built = record built { inner = with_child frame built.inner; outer = outer }

abbrev pub left_by : ℕ → Built → Built
left_by zero built = closed_by built.outer built
left_by (suc n) built = record built { passed = n }

abbrev pub behind_event : trees.Event → Built → Built
behind_event (trees.Enter name) built = entered_by built.passed name built
behind_event (trees.Att name value) built = attribute_by built.passed name value built
behind_event trees.TagEnd built = built
behind_event (trees.Chars text) built = string_by built.passed text built
behind_event trees.Leave built = left_by built.passed built

unfoldable pub behind_events : List trees.Event → Built → Built
behind_events [] built = built
behind_events (event ∷ events) built = behind_events events (behind_event event built)

-- the same of items; faults, and elements without a name, which have one, play no part
abbrev pub behind_item : Item → Built → Built
behind_item (items.Event (events.Enter name) span) built = entered_by built.passed name built
behind_item (items.Event events.EnterLost span) built = built
behind_item (items.Event (events.Att name value) span) built = attribute_by built.passed name value built
behind_item (items.Event events.TagEnd span) built = built
behind_item (items.Event (events.Chars text) span) built = string_by built.passed text built
behind_item (items.Event events.Leave span) built = left_by built.passed built
behind_item (items.Fault fault) built = built

unfoldable pub behind_items : List Item → Built → Built
behind_items [] built = built
behind_items (item ∷ more) built = behind_items more (behind_item item built)
