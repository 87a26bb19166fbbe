-- How the program tells the kind of an element. No public contract rests on it.
use Rattle.std.specs.Prelude.{ℕ, ◌&&◌, ◌||◌, if◌then◌else◌, List, [], ◌∷◌, Option, Some, None}
use Rattle.std.specs.List.{find}
use Rattle.std.specs.Str.{bytes_eq}
use Rattle.nx_base.specs.Characters.{is_blank}
use Rattle.rngx_read.specs.declared.element.Tag.{Tag}
use Rattle.rngx_read.specs.declared.kind.Kind.{Kind}
use Rattle.rngx_read.specs.declared.kind.Kind.TheVariants as kind
use Rattle.rngx_read.specs.Kinds.{kind_text}
use Rattle.rngx_read.specs.Tags.{has_only, holds_text}

abbrev pub kinds : List Kind
kinds =
    kind.AnyName ∷ kind.Attribute ∷ kind.Choice ∷ kind.Data ∷ kind.Define
    ∷ kind.Div ∷ kind.Element ∷ kind.Empty ∷ kind.Except ∷ kind.ExternalRef
    ∷ kind.Grammar ∷ kind.Group ∷ kind.Include ∷ kind.Interleave ∷ kind.List
    ∷ kind.Mixed ∷ kind.Name ∷ kind.NotAllowed ∷ kind.NsName ∷ kind.OneOrMore
    ∷ kind.Optional ∷ kind.Param ∷ kind.ParentRef ∷ kind.Ref ∷ kind.Start
    ∷ kind.Text ∷ kind.Value ∷ kind.ZeroOrMore ∷ []

-- the kind of this local name
unfoldable pub kind_of : List ℕ → Option Kind
kind_of local = find (λ kind. bytes_eq (kind_text kind) local) kinds

-- the kind of an element, where what is written at it may stand there
abbrev pub form_by : Tag → Option Kind → Option Kind
form_by tag None = None
form_by tag (Some kind) = if has_only kind tag.attributes && (holds_text kind || is_blank tag.text) then Some kind else None

unfoldable pub form_of : Tag → Option Kind
form_of tag = form_by tag (kind_of tag.local)
