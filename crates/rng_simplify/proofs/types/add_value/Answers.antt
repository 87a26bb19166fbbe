use Rattle.rng_simplify.proofs.Typing.{text_of_value, takes_value, is_value_node}
use Rattle.rng_simplify.proofs.types.add_value.Goals as goal

pub add_except-requires : goal.add_except-requires
add_except-requires c = text_of_value _ _ _ _ _ c.requires.texts c.requires.value (rw c.value.view_is at c.index-nodes-value.is) c.in-Value.is

pub unreachable-requires : goal.unreachable-requires
unreachable-requires c = is_value_node _ _ _ c.requires.value (rw c.value.view_is at c.index-nodes-value.is) c.in_default.not-Value

pub returns : goal.returns
returns c = takes_value _ _ _ _ _ _ _ _ _ _ c.requires.value (rw c.value.view_is at c.index-nodes-value.is) c.in-Value.is c.add_except.ensures
