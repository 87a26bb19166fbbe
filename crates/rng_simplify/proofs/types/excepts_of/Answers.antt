use Rattle.rng_simplify.proofs.Typing.{many_values, all_taken}
use Rattle.rng_simplify.proofs.types.excepts_of.Goals as goal

pub returns-then-count-gt-MOST_EXCEPTS : goal.returns-then-count-gt-MOST_EXCEPTS
returns-then-count-gt-MOST_EXCEPTS c = many_values _ _ _ _ _ c.size.ensures c.in-Some.is c.if-count-gt-MOST_EXCEPTS.true

pub returns-in_ok-list_values-in-Some : goal.returns-in_ok-list_values-in-Some
returns-in_ok-list_values-in-Some c = all_taken _ _ _ _ _ _ _ _ _ _ _ c.size.ensures c.in-Some.is c.if-count-gt-MOST_EXCEPTS.false c.new-values.ensures.items c.in_ok-list_values-in-Some.ensures c.as_slice.ensures.value c.excepts_from.ensures
