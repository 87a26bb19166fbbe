use Rattle.rng_types.proofs.table.schema_type.Goals as goal

pub returns : goal.returns
returns c = c.find_row.ensures
