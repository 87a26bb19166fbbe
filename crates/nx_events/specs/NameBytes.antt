-- Where the bytes of a name stand is no part of the name.
use Rattle.std.specs.Prelude.{ℕ, List}
use Rattle.std.specs.Rc.{rc_slice_items}
use Rattle.nx_events.specs.declared.name_bytes.Held.{Held}
use Rattle.nx_events.specs.declared.name_bytes.Held.TheVariants.{Here, Shared}

-- the bytes, wherever they stand
abbrev pub bytes_of : Held → List ℕ
bytes_of (Here short) = short
bytes_of (Shared bytes) = rc_slice_items bytes
