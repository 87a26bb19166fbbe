-- What the text of a schema file in the XML syntax says, and why a text says nothing: ISO/IEC 19757-2, sections 5 and 6.
use Rattle.std.specs.Prelude.{◌≡◌, ◌≢◌, ℕ, ◌+◌, ◌-◌, ◌≤◌, true, List, [], ◌∷◌, ◌++◌, Some, None, codes, map, Contains}
use Rattle.std.specs.Prelude.{Result, Ok, Err}
use Rattle.nx_base.specs.Tokens.{tokens_of}
use Rattle.nx_base.specs.declared.fault.Fault.{Fault}
use Rattle.nx_base.specs.declared.fault.Span.{Span}
use Rattle.nx_base.specs.declared.name.Name.{Name}
use Rattle.nx_base.specs.declared.token.Token.{Token}
use Rattle.nx_events.specs.Among.{faults_among}
use Rattle.nx_events.specs.Items.{items_of_text}
use Rattle.nx_events.specs.Names.{is_qname, prefix_of}
use Rattle.nx_events.specs.declared.item.Event.{Event}
use Rattle.nx_events.specs.declared.item.Event.TheVariants.{Enter, EnterLost, Att, TagEnd, Chars, Leave}
use Rattle.nx_events.specs.declared.item.Item.{Item}
use Rattle.nx_events.specs.declared.item.Item.TheVariants as items
use Rattle.rnc_parse.specs.declared.surface.Surface.{Surface}
use Rattle.rnc_parse.specs.Views.{surface_of}
use Rattle.rnc_parse.specs.Written.{WrittenPattern, WrittenItems, WrittenSurface, a_pattern, a_grammar}
use Rattle.rngx_read.specs.declared.element.Tag.{Tag}
use Rattle.rngx_read.specs.declared.kind.Kind.TheVariants as kind
use Rattle.rngx_read.specs.declared.read.XReadFault.{XReadFault}
use Rattle.rngx_read.specs.declared.read.XReadFault.TheVariants as fault
use Rattle.rngx_read.specs.Defaults.{inside, outermost}
use Rattle.rngx_read.specs.Elements.{IsReadAs, Elements, no_elements, element_then, elements_in, Nodes}
use Rattle.rngx_read.specs.Kinds.{kind_text}
use Rattle.rngx_read.specs.Names.{Resolver, bound_in, trimmed}
use Rattle.rngx_read.specs.Patterns.{IsPattern, AreItems}
use Rattle.rngx_read.specs.Tags.{value_of, IsTag}

-- ---- how many elements are open

abbrev pub open_with : ℕ → Item → ℕ
open_with before (items.Event (Enter name) span) = before + 1
open_with before (items.Event EnterLost span) = before + 1
open_with before (items.Event (Att name value) span) = before
open_with before (items.Event TagEnd span) = before
open_with before (items.Event (Chars text) span) = before
open_with before (items.Event Leave span) = before - 1
open_with before (items.Fault fault) = before

abbrev pub open_behind : ℕ → List Item → ℕ
open_behind before [] = before
open_behind before (item ∷ more) = open_behind (open_with before item) more

-- behind no front of the items more than 200 are open
abbrev pub IsShallow : List Item → Type 0
IsShallow all = (front rest : List Item) → all ≡ front ++ rest → open_behind 0 front ≤ 200

-- the tag at the place opens the 201st, the first time that so many are open
pub record IsTooDeepAt (all : List Item) (at : ℕ) : Type 0 where
  pub front : List Item
  pub event : Event
  pub span : Span
  pub rest : List Item
  pub items_are : all ≡ front ++ items.Event event span ∷ rest
  pub at_is : at ≡ span.from
  pub shallow : IsShallow front
  pub deep : open_behind 0 (front ++ items.Event event span ∷ []) ≡ 201

-- ---- what a file says

-- the one element of the schema outside of all others is a grammar or another pattern, where prefixes stand for what `resolve` says
pub data IsFile (resolve : Resolver) : Elements → WrittenSurface → Type 0 where
  pattern_file : {tag : Tag} {children : Elements} {p : WrittenPattern} → tag.local ≢ codes "grammar" →
      IsPattern resolve outermost tag children p → IsFile resolve (element_then tag children no_elements) (a_pattern p)
  grammar_file : {tag : Tag} {children : Elements} {items : WrittenItems} → IsTag kind.Grammar tag →
      AreItems resolve (inside outermost tag) children items → IsFile resolve (element_then tag children no_elements) (a_grammar items)

-- The text has no fault, at most 200 of its elements are open at once, and those in the schema's namespace say this, where prefixes
-- stand for what is declared
pub record Reads (text : List ℕ) (surface : WrittenSurface) : Type 0 where
  pub nodes : Nodes
  pub is_read : IsReadAs text nodes
  pub shallow : IsShallow (items_of_text text)
  pub says : IsFile bound_in (elements_in [] nodes) surface

-- ---- why a text says nothing: of the last two causes both may hold of one text, and then either may be told

-- the text has faults, of which the first begins at the place
pub record HasBadMarkup (text : List ℕ) (at : ℕ) : Type 0 where
  pub first : Fault
  pub others : List Fault
  pub faults_are : faults_among (items_of_text text) ≡ first ∷ others
  pub at_is : at ≡ first.span.from

-- it has none, but the tag at the place opens the 201st element
pub record IsTooDeep (text : List ℕ) (at : ℕ) : Type 0 where
  pub no_fault : faults_among (items_of_text text) ≡ []
  pub deep : IsTooDeepAt (items_of_text text) at

-- prefixes stand for what is declared, and others for anything
abbrev pub Extends : Resolver → Type 0
Extends resolve = (scope : List Name) (prefix uri : List ℕ) → bound_in scope prefix ≡ Some uri → resolve scope prefix ≡ Some uri

-- the elements are in no reading, whatever the prefixes stand for that are left out
abbrev pub HaveNoForm : Elements → Type 0
HaveNoForm elements = (resolve : Resolver) (surface : WrittenSurface) → Extends resolve → IsFile resolve elements surface → ⊥

-- it has neither a fault nor 201 open elements, and its elements have no form
pub record HasBadForm (text : List ℕ) : Type 0 where
  pub nodes : Nodes
  pub is_read : IsReadAs text nodes
  pub shallow : IsShallow (items_of_text text)
  pub no_form : HaveNoForm (elements_in [] nodes)

-- a name that is written at the tag where that of a class stands
pub data Writes (tag : Tag) : List ℕ → Type 0 where
  at_element : {written : List ℕ} → tag.local ≡ kind_text kind.Element → value_of (codes "name") tag.attributes ≡ Some written →
      Writes tag written
  at_attribute : {written : List ℕ} → tag.local ≡ kind_text kind.Attribute → value_of (codes "name") tag.attributes ≡ Some written →
      Writes tag written
  in_name : tag.local ≡ kind_text kind.Name → Writes tag tag.text

-- it has this prefix, which stands for nothing there
pub record NeedsPrefix (resolve : Resolver) (tag : Tag) (prefix : List ℕ) : Type 0 where
  pub written : List ℕ
  pub writes : Writes tag written
  pub qualified : is_qname (trimmed written) ≡ true
  pub prefix_is : prefix_of (trimmed written) ≡ prefix
  pub some_prefix : prefix ≢ []
  pub undeclared : resolve tag.scope prefix ≡ None

-- so it is at some element
pub data LeavesOut (resolve : Resolver) (prefix : List ℕ) : Elements → Type 0 where
  here : {tag : Tag} {children rest : Elements} → NeedsPrefix resolve tag prefix →
      LeavesOut resolve prefix (element_then tag children rest)
  within : {tag : Tag} {children rest : Elements} → LeavesOut resolve prefix children →
      LeavesOut resolve prefix (element_then tag children rest)
  behind : {tag : Tag} {children rest : Elements} → LeavesOut resolve prefix rest →
      LeavesOut resolve prefix (element_then tag children rest)

pub record HasUndeclared (text prefix : List ℕ) : Type 0 where
  pub nodes : Nodes
  pub is_read : IsReadAs text nodes
  pub shallow : IsShallow (items_of_text text)
  pub left_out : LeavesOut bound_in prefix (elements_in [] nodes)

-- ---- what `read` answers; want of memory is free

-- the place is that of some token
abbrev pub BeginsToken : List ℕ → ℕ → Type 0
BeginsToken text at = Contains (map (λ (token : Token). token.from) (tokens_of text)) at

abbrev pub AnswersText : List ℕ → Result Surface XReadFault → Type 0
AnswersText text (Ok surface) = Reads text (surface_of surface)
AnswersText text (Err (fault.BadMarkup at)) = HasBadMarkup text at
AnswersText text (Err (fault.TooDeep at)) = IsTooDeep text at
AnswersText text (Err (fault.BadForm at)) = HasBadForm text × BeginsToken text at
AnswersText text (Err (fault.UndeclaredPrefix prefix)) = HasUndeclared text prefix
AnswersText text (Err fault.NoMemory) = Unit {0}
