-- What a start tag gives as far as it is written.
use Rattle.std.specs.Prelude.{◌≡◌, ℕ, if◌then◌else◌, List, [], ◌∷◌, ◌++◌, Option, Some, None}
use Rattle.nx_base.specs.declared.name.Name.{Name}
use Rattle.nx_base.specs.declared.token.Token.{Token}
use Rattle.nx_events.specs.declared.reading.Reading.TheVariants.{Value}
use Rattle.nx_events.specs.CharacterFaults.{character_faults}
use Rattle.nx_events.specs.Declarations.{is_declaration, declaration_faults}
use Rattle.nx_events.specs.Elements.{element_resolved, element_items, attribute_resolved, resolved_if_attribute, kept_name, attribute_items}
use Rattle.nx_events.specs.Faults.{faults_as_items}
use Rattle.nx_events.specs.Items.{token_span, is_behind, own_bindings, start_items}
use Rattle.nx_events.specs.Runs.{run_items}
use Rattle.nx_events.specs.Tags.{start_name, tag_attributes}
use Rattle.nx_events.specs.declared.flaw.Resolved.{Resolved}
use Rattle.nx_events.specs.declared.flaw.Resolved.TheVariants.{Named, Flawed}
use Rattle.nx_events.specs.declared.item.Item.{Item}
use Rattle.nx_events.specs.declared.item.Item.TheVariants as items
use Rattle.nx_events.specs.declared.item.Event.TheVariants.{TagEnd}
use Rattle.nx_events.specs.declared.scope.Binding.{Binding}
use Rattle.nx_events.specs.declared.state.EventState.{EventState}
use Rattle.nx_events.specs.declared.tag.Attribute.{Attribute}

-- behind the items `before`: its characters and references, its declarations, its element, its other attributes
abbrev pub open_items : List Item → EventState → Token → List Item
open_items before state token =
    let attributes = tag_attributes token.from token.bytes in
    let scope = state.scope ++ own_bindings token in
    before
    ++ faults_as_items (character_faults Value token.from token.bytes)
    ++ faults_as_items (declaration_faults [] attributes)
    ++ element_items (token_span token) (element_resolved (is_behind state) scope (start_name token.bytes))
    ++ attribute_items scope [] attributes

-- a whole start tag gives the run before it, this, and its end
abbrev pub StartTagsGoOn : Type 0
StartTagsGoOn = (state : EventState) (token : Token) →
    start_items state token ≡ open_items (run_items token.from state.run) state token ++ items.Event TagEnd (token_span token) ∷ []

-- the names that attributes keep behind those that kept these
unfoldable pub kept_names : List Binding → List Name → List Attribute → List Name
kept_names scope kept [] = kept
kept_names scope kept (it ∷ others) = kept_names scope (kept ++ kept_name (resolved_if_attribute scope kept it)) others

-- the name of an attribute behind those that kept these, if it is no declaration, is resolved, and is none of them
abbrev pub name_resolved : Resolved → Option Name
name_resolved (Named name) = Some name
name_resolved (Flawed flaw) = None

unfoldable pub new_name : List Binding → List Name → List ℕ → Option Name
new_name scope kept written =
    if is_declaration written then None else name_resolved (attribute_resolved scope kept written)
