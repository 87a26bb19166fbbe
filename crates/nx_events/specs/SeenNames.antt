-- Names that came before in a tag, as a set.
use Rattle.std.specs.Prelude.{◌≡◌, ℕ, Bool, true, ◌&&◌, List, [], Vec, vec_items, Option, Some, None}
use Rattle.std.specs.List.{list_any}
use Rattle.std.specs.Str.{bytes_eq}
use Rattle.nx_base.specs.declared.name.Name.{Name}
use Rattle.nx_events.specs.Declarations.{is_declaration, has_attribute}
use Rattle.nx_events.specs.Elements.{has_name, new_or_flaw}
use Rattle.nx_events.specs.declared.tag.Attribute.{Attribute}
use Rattle.nx_events.specs.declared.flaw.Resolved.{Resolved}

-- a name of these two parts is among the keys
unfoldable pub has_pair : {Z : Type 0} → List (Vec ℕ Z × Vec ℕ Z) → List ℕ → List ℕ → Bool
has_pair keys first second = list_any (λ key. bytes_eq first (vec_items key.0) && bytes_eq second (vec_items key.1)) keys

-- the keys are these expanded names
abbrev pub AreKept : {Z : Type 0} → List (Vec ℕ Z × Vec ℕ Z) → List Name → Type 0
AreKept keys names = (name : Name) → has_pair keys name.ns name.local ≡ has_name names name

-- they are the written names of the declarations among these attributes
abbrev pub AreDeclared : {Z : Type 0} → List (Vec ℕ Z × Vec ℕ Z) → List Attribute → Type 0
AreDeclared keys before = (name : List ℕ) → is_declaration name ≡ true → has_pair keys [] name ≡ has_attribute before name

-- what an attribute resolves to behind those that kept these names
abbrev pub new_of : List Name → Option Resolved → List ℕ → Option Resolved
new_of kept None written = None
new_of kept (Some resolved) written = Some (new_or_flaw kept resolved written)
