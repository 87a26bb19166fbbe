use Rattle.std.proofs.Common.{ap, ◌∙◌}
use Rattle.rng_types.specs.TextMembers.{has_length}
use Rattle.rng_types.proofs.datatype.Datatype.has_words.Goals as goal

pub returns-else-one_token : goal.returns-else-one_token
returns-else-one_token c = rw (c.if-one_token.false) (c.has_length.ensures ∙ ap has_length c.as_slice-else-one_token.ensures)
