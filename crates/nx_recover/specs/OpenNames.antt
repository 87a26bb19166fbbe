-- Where the name of an open element stands is no part of the name.
use Rattle.std.specs.Prelude.{[]}
use Rattle.std.specs.Rc.{rc_slice_items}
use Rattle.nx_base.specs.declared.name.Name.{Name}
use Rattle.nx_recover.specs.declared.open_name.Held.{Held}
use Rattle.nx_recover.specs.declared.open_name.Held.TheVariants.{Short, Long, InNamespace}

-- the name, wherever it stands
abbrev pub name_of : Held → Name
name_of (Short local) = record { ns = []; local = local }
name_of (Long local) = record { ns = []; local = rc_slice_items local }
name_of (InNamespace name) = record { ns = rc_slice_items name.value.ns; local = name.value.local }
