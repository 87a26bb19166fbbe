-- Start tags with one or two attributes of which one look tells what they give.
use Rattle.std.specs.Prelude.{◌≡◌, ℕ, ◌+◌, Bool, false, if◌then◌else◌, List, [], ◌∷◌, ◌++◌, map, drop, Option, Some, None}
use Rattle.std.specs.List.{AllByRecursion}
use Rattle.std.specs.Str.{IsUtf8}
use Rattle.nx_base.specs.declared.fault.Span.{Span}
use Rattle.nx_base.specs.declared.name.Name.{Name}
use Rattle.nx_base.specs.declared.token.Token.{Token}
use Rattle.nx_events.specs.Declarations.{is_declaration}
use Rattle.nx_events.specs.Elements.{attribute_declared, has_name}
use Rattle.nx_events.specs.Items.{token_span, items_of_token, state_behind}
use Rattle.nx_events.specs.PlainTokens.{unprefixed_name, element_begun}
use Rattle.nx_events.specs.Runs.{run_items}
use Rattle.nx_events.specs.Scopes.{xml_uri}
use Rattle.nx_events.specs.Tags.{written_name, written_value, attribute_len, attribute_at, attributes_from}
use Rattle.nx_events.specs.declared.flaw.Resolved.TheVariants.{Named}
use Rattle.nx_events.specs.declared.item.Item.{Item}
use Rattle.nx_events.specs.declared.item.Item.TheVariants as items
use Rattle.nx_events.specs.declared.item.Event.TheVariants.{Enter, Att, TagEnd}
use Rattle.nx_events.specs.declared.plain_opening.PlainAttribute.{PlainAttribute}
use Rattle.nx_events.specs.declared.plain_opening.PlainAttributes.{PlainAttributes}
use Rattle.nx_events.specs.declared.scope.Binding.{Binding}
use Rattle.nx_events.specs.declared.state.EventState.{EventState}
use Rattle.nx_events.specs.declared.tag.Attribute.{Attribute}

-- the name of such an attribute: without a prefix it has no namespace
abbrev pub namespace_if : Bool → List ℕ
namespace_if is_xml = if is_xml then xml_uri else []

abbrev pub attribute_name : PlainAttribute → Name
attribute_name it = record { ns = namespace_if it.is_xml; local = it.local.now }

-- the second, if there is one
abbrev pub one_if : Option PlainAttribute → List PlainAttribute
one_if None = []
one_if (Some it) = it ∷ []

-- one or two of them, in order
abbrev pub listed : PlainAttributes → List PlainAttribute
listed attributes = attributes.first ∷ one_if attributes.second

-- what such an attribute gives whose value has this span
abbrev pub attribute_event : PlainAttribute × Span → Item
attribute_event it = items.Event (Att (attribute_name it.0) it.0.value.now) it.1

-- their values are UTF-8
abbrev pub AreTexts : List PlainAttribute → Type 0
AreTexts its = AllByRecursion (λ (it : PlainAttribute). IsUtf8 it.value.now) its

-- a start tag that gives the run before it, the element of this name, these attributes and their end; their values are UTF-8, and have the
-- spans that the items give
pub record IsPlainOpening (state : EventState) (token : Token) (written : List ℕ) (attributes : List PlainAttribute) : Type 0 where
  pub spanned : List (PlainAttribute × Span)
  pub are : map (λ (it : PlainAttribute × Span). it.0) spanned ≡ attributes
  pub items : items_of_token state token
      ≡ run_items token.from state.run
      ++ (items.Event (Enter (unprefixed_name state.scope written)) (token_span token)
      ∷ (map attribute_event spanned ++ items.Event TagEnd (token_span token) ∷ []))
  pub behind : state_behind state token ≡ element_begun state written
  pub text : AreTexts attributes

-- a written name that is no declaration, and is this attribute's wherever it stands
pub record IsNameOf (written : List ℕ) (it : PlainAttribute) : Type 0 where
  pub no_declaration : is_declaration written ≡ false
  pub declared : (scope : List Binding) → attribute_declared scope written ≡ Named (attribute_name it)

-- bytes that begin with one that may stand between, and this attribute behind it; and what follows
pub record IsFront (bytes : List ℕ) (it : PlainAttribute) (rest : List ℕ) : Type 0 where
  pub named : IsNameOf (written_name (drop 1 bytes)) it
  pub value : it.value.now ≡ written_value (drop 1 bytes)
  pub begins : rest ≡ drop (1 + attribute_len (drop 1 bytes)) bytes
  pub read : (at : ℕ) → attributes_from 0 at bytes
      ≡ attribute_at (at + 1) (drop 1 bytes) ∷ attributes_from 0 (at + 1 + attribute_len (drop 1 bytes)) rest

-- an attribute that is read is this one, behind those that kept these names
pub record IsReadAs (kept : List Name) (read : Attribute) (it : PlainAttribute) : Type 0 where
  pub named : IsNameOf read.name it
  pub string : read.string ≡ it.value.now
  pub text : IsUtf8 it.value.now
  pub new : has_name kept (attribute_name it) ≡ false

-- attributes that are read are these, in order
abbrev pub AreReadAs : List Name → List Attribute → List PlainAttribute → Type 0
AreReadAs kept [] [] = Unit {0}
AreReadAs kept (read ∷ others) (it ∷ more) = IsReadAs kept read it × AreReadAs (kept ++ attribute_name it ∷ []) others more
AreReadAs kept _ _ = ⊥
