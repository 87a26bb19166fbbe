use Rattle.std.proofs.Common.{ap, ◌∙◌}
use Rattle.std.specs.Option.{option_map}
use Rattle.rng_types.specs.Rows.{row_of}
use Rattle.rng_types.proofs.FindRow.{find-row_of}
use Rattle.rng_types.proofs.table.find_row.Goals as goal

pub returns : goal.returns
returns c = ap (option_map row_of) (c.copied.ensures ∙ c.first_row.ensures) ∙ find-row_of c.args.name.now c.args.rows.now
