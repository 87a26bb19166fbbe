-- The tokens and items of a text, as the program goes over them. No public contract rests on these.
use Rattle.std.specs.Prelude.{ℕ, Bool, false, ◌&&◌, ◌||◌, ◌==◌, nat_eq, codes, List, [], ◌∷◌, Option, Some, None}
use Rattle.std.specs.List.{AllByRecursion, starts_with}
use Rattle.std.specs.Option.{option_or}
use Rattle.std.specs.Str.{IsUtf8, byte}
use Rattle.nx_base.specs.Tokens.{IsOfKind}
use Rattle.nx_base.specs.declared.token.Token.{Token}
use Rattle.nx_base.specs.declared.token.TokenKind.TheVariants as kinds
use Rattle.nx_events.specs.declared.item.Item.{Item}
use Rattle.nx_events.specs.declared.item.Item.TheVariants as items

-- the tokens are UTF-8 and of their kinds
abbrev pub AreTextTokens : List Token → Type 0
AreTextTokens tokens = AllByRecursion (λ (token : Token). IsUtf8 token.bytes × IsOfKind token) tokens

-- the token as a start tag of the same bytes
abbrev pub as_start : Token → Token
as_start token = record token { kind = kinds.Start }

-- `xmlns` stands in the bytes
unfoldable pub has_xmlns : List ℕ → Bool
has_xmlns [] = false
has_xmlns (b ∷ bytes) = (b == byte "x" && starts_with nat_eq (b ∷ bytes) (codes "xmlns")) || has_xmlns bytes

-- where an item begins
abbrev pub begin_of : Item → ℕ
begin_of (items.Event event span) = span.from
begin_of (items.Fault fault) = fault.span.from

-- where the fault begins that it is, and the first among items
abbrev pub fault_place : Item → Option ℕ
fault_place (items.Event event span) = None
fault_place (items.Fault fault) = Some fault.span.from

unfoldable pub first_place : List Item → Option ℕ
first_place [] = None
first_place (item ∷ more) = option_or (fault_place item) (first_place more)
