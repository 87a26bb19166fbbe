-- Answers that are found without a hash: which of them stand in rows by states, in blocks by states and names, and in slots.
use Rattle.std.specs.Prelude.{◌≡◌, ◌⊎◌, ℕ, zero, suc, Bool, true, false, cond, ◌&&◌, eqb, List, [], Option, None, Some, slice_index_or}
use Rattle.deriv_memory.specs.declared.asked.Asked.{Asked}
use Rattle.deriv_memory.specs.declared.asked.Asked.TheVariants as calls
use Rattle.deriv_memory.specs.declared.at_hand.AtHand.{AtHand}
use Rattle.deriv_memory.specs.declared.at_hand.Row.{Row}
use Rattle.deriv_memory.specs.declared.at_hand.Slot.{Slot}
use Rattle.deriv_memory.specs.declared.block.Owner.{Owner}
use Rattle.deriv_memory.specs.declared.block.Block.{Block}
use Rattle.std.specs.Map.{lookup}
use Rattle.deriv_memory.specs.Calls.{form_of, state_of, ns_of, local_of, same_asked}

-- what a number says of a call: nothing, that there is no state behind it, or that state's number and 2
abbrev pub said : ℕ → Option (Option ℕ)
said zero = None
said (suc zero) = Some None
said (suc (suc n)) = Some (Some n)

-- ---- rows by states, slots of calls with names

abbrev pub free_row : Row
free_row = record { tag_end = 0; leave = 0; blank = 0; solid = 0 }

abbrev pub free_slot : Slot
free_slot = record { state = 0; local = 0; answer = 0; ns = 0; form = 0 }

-- whether a call has a name
abbrev pub is_named : Asked → Bool
is_named (calls.Enter s ns local) = true
is_named (calls.BlankValue s ns local) = true
is_named (calls.SolidValue s ns local) = true
is_named plain = false

-- what a row has of a call
abbrev pub number_in : Row → Asked → ℕ
number_in row (calls.TagEnd s) = row.tag_end
number_in row (calls.Leave s) = row.leave
number_in row (calls.Blank s) = row.blank
number_in row (calls.Solid s) = row.solid
number_in row named = 0

-- the row with another number of this call
abbrev pub row_with : Row → Asked → ℕ → Row
row_with row (calls.TagEnd s) n = record { tag_end = n; leave = row.leave; blank = row.blank; solid = row.solid }
row_with row (calls.Leave s) n = record { tag_end = row.tag_end; leave = n; blank = row.blank; solid = row.solid }
row_with row (calls.Blank s) n = record { tag_end = row.tag_end; leave = row.leave; blank = n; solid = row.solid }
row_with row (calls.Solid s) n = record { tag_end = row.tag_end; leave = row.leave; blank = row.blank; solid = n }
row_with row named n = row

-- the slot of a call with this number
abbrev pub slot_of : Asked → ℕ → Slot
slot_of call n = record { state = state_of call; local = local_of call; answer = n; ns = ns_of call; form = form_of call }

-- whether a slot is of the call with these numbers
abbrev pub is_slot : Slot → ℕ → ℕ → ℕ → ℕ → Bool
is_slot slot form state ns local = ((eqb slot.state state && eqb slot.local local) && eqb slot.ns ns) && eqb slot.form form

-- ---- blocks of the starts of elements in a state

abbrev pub free_owner : Owner
free_owner = record { state = 0; ns = 0 }

abbrev pub free_block : Block
free_block = record { answers = [] }

-- whether an owner is this state, for this namespace
abbrev pub is_owner : Owner → ℕ → ℕ → Bool
is_owner owner state ns = eqb owner.state state && eqb owner.ns ns

-- what a block has of a local part
abbrev pub number_for : Block → ℕ → ℕ
number_for block local = slice_index_or block.answers local 0

-- nothing stands in a block
abbrev pub IsFree : Block → Type 0
IsFree block = (local : ℕ) → number_for block local ≡ 0

-- each number of a block is what it was, or it is this one, of this local part
abbrev pub IsPut : Block → Block → ℕ → ℕ → Type 0
IsPut old new local number = (i : ℕ) → ((i ≡ local) × (number_for new i ≡ number)) ⊎ (number_for new i ≡ number_for old i)

-- the owner's block is of the call, the start of an element, and says this answer
pub record BlockSays (owner : Owner) (block : Block) (call : Asked) (answer : Option ℕ) : Type 0 where
  pub enters : form_of call ≡ 0
  pub its : is_owner owner (state_of call) (ns_of call) ≡ true
  pub says : said (number_for block (local_of call)) ≡ Some answer

-- ---- what is at hand

-- what the row of the call's state says of it
abbrev pub row_says : List Row → Asked → Option (Option ℕ)
row_says rows call = said (number_in (slice_index_or rows (state_of call) free_row) call)

-- some slot is of the call, and says this answer
pub record SlotHolds (slots : List Slot) (call : Asked) (answer : Option ℕ) : Type 0 where
  pub place : ℕ
  pub number : ℕ
  pub here : slice_index_or slots place free_slot ≡ slot_of call number
  pub says : said number ≡ Some answer

-- what slots hold was there before, or it is this answer of this call
abbrev pub HoldOneMore : List Slot → List Slot → Asked → Option ℕ → Type 0
HoldOneMore old new call answer =
    (other : Asked) (kept : Option ℕ) → SlotHolds new other kept → ((other ≡ call) × (kept ≡ answer)) ⊎ SlotHolds old other kept

-- some block says this answer of the call
abbrev pub BlockHolds : AtHand → Asked → Option ℕ → Type 0
BlockHolds hand call answer = (place : ℕ)
    × BlockSays (slice_index_or hand.owners.items place free_owner) (slice_index_or hand.blocks.items place free_block) call answer

-- what blocks hold was there before
abbrev pub HoldNoMore : AtHand → AtHand → Type 0
HoldNoMore old new = (other : Asked) (kept : Option ℕ) → BlockHolds new other kept → BlockHolds old other kept

-- what blocks hold was there before, or it is this answer of this call
abbrev pub HoldThisMore : AtHand → AtHand → Asked → Option ℕ → Type 0
HoldThisMore old new call answer =
    (other : Asked) (kept : Option ℕ) → BlockHolds new other kept → ((other ≡ call) × (kept ≡ answer)) ⊎ BlockHolds old other kept

-- the row of this call says another number of it, and of each other call it says what it said
abbrev pub SayOneMore : List Row → List Row → Asked → ℕ → Type 0
SayOneMore old new call number = (other : Asked) → row_says new other ≡ cond (same_asked call other) (said number) (row_says old other)

-- two lists are the same at each place, where a free one stands for what is behind their ends
abbrev pub ReadAlike : {A : Type 0} → A → List A → List A → Type 0
ReadAlike {A} free old new = (i : ℕ) → slice_index_or new i free ≡ slice_index_or old i free

-- ---- answers that are noted

-- rows say all that was noted of calls without a name, and what blocks and slots hold of others was noted
pub record AreNoted (answers : List (Asked × Option ℕ)) (hand : AtHand) : Type 0 where
  pub rows : (call : Asked) → is_named call ≡ false → lookup (same_asked call) answers ≡ row_says hand.rows.items call
  pub slots : (call : Asked) (answer : Option ℕ) → SlotHolds hand.slots.items call answer → is_named call ≡ true
      → lookup (same_asked call) answers ≡ Some answer
  pub blocks : (call : Asked) (answer : Option ℕ) → BlockHolds hand call answer → is_named call ≡ true
      → lookup (same_asked call) answers ≡ Some answer
