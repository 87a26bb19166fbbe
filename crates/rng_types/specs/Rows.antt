-- What the program's rows of types stand for.
use Rattle.rng_types.specs.declared.table.Row.{Row}
use Rattle.rng_types.specs.Table.{TypeRow}

abbrev pub row_of : Row → TypeRow
row_of row = record { name = row.name.now; form = row.form; takes = row.takes; low = row.low.now; high = row.high.now }
