-- Where it is asked what may stand in the place of what is wrong.
use Rattle.std.specs.Prelude.{ℕ, zero, suc, ◌+◌, ◌-◌, ◌^◌, min, Bool, false, not, ◌==◌, ◌&&◌, ◌||◌, List, Option, Some, None, slice_get, if◌then◌else◌}
use Rattle.nx_base.specs.declared.fault.Fault.{Fault}
use Rattle.nx_base.specs.declared.fault.Kind.{Kind}
use Rattle.nx_base.specs.declared.fault.Kind.TheVariants.{NotAllowed, UnknownAttribute}
use Rattle.nx_check.specs.declared.place.Part.{Part}
use Rattle.nx_check.specs.declared.place.Part.TheVariants.{Between, Name}

-- what stands between an attribute's name and its value: a quote (34 or 39), the equals sign (61), and spaces
abbrev pub is_between : ℕ → Bool
is_between byte =
    (byte == 34) || ((byte == 39) || ((byte == 61) || ((byte == 32) || ((byte == 9) || ((byte == 10) || (byte == 13))))))

-- the byte is of such a part; no name has a `<` (60) or a `/` (47)
abbrev pub has : Part → ℕ → Bool
has Between byte = is_between byte
has Name byte = not (is_between byte) && (not (byte == 60) && not (byte == 47))

abbrev pub has_there : Part → Option ℕ → Bool
has_there part (Some byte) = has part byte
has_there part None = false

-- where a part begins that ends at the byte offset
abbrev pub back_over : Part → List ℕ → ℕ → ℕ
back_over part text zero = zero
back_over part text (suc at) = if has_there part (slice_get text at) then back_over part text at else suc at

-- where it is asked: behind the `<` of an element that may not stand where it does; at the name of an attribute, in front of the value at
-- which its fault begins; and at a value
abbrev pub place_for : Kind → List ℕ → ℕ → ℕ
place_for NotAllowed text from = min (from + 1) (2 ^ 64 - 1)
place_for UnknownAttribute text from = back_over Name text (back_over Between text from)
place_for other text from = from

abbrev pub asked_place : List ℕ → Fault → ℕ
asked_place text fault = place_for fault.kind text fault.span.from
