use Rattle.std.proofs.Common.{ap, ◌∙◌, refl, arith}
use Rattle.rng_simplify.specs.declared.node.Sign.{Sign}
use Rattle.rng_simplify.specs.declared.node.Sign.TheVariants as sign
use Rattle.rng_simplify.specs.declared.shape.Shape.TheVariants as shape
use Rattle.rng_simplify.proofs.Typing.{one_listed, both_listed, none_listed}
use Rattle.rng_simplify.proofs.types.+list_values.Goals as goal

pub list_values-requires : goal.list_values-requires
list_values-requires t c = let below = c.in-Joined.ensures.behind.below c.in-Joined.first (0, omega arith, refl) in (omega arith, omega arith)

pub list_values-requires-in-Choice : goal.list_values-requires-in-Choice
list_values-requires-in-Choice t c = let below = c.in-Joined.ensures.behind.below c.in-Joined.second (1, omega arith, refl) in (omega arith, omega arith)

pub returns-in_ok-push-in-Value : goal.returns-in_ok-push-in-Value
returns-in_ok-push-in-Value t c = one_listed _ _ _ c.shape.ensures.there c.shape.ensures.behind _ _ _ c.in-Value.is c.in_ok-push-in-Value.ensures.items

pub returns-in_ok-list_values-in-Choice-2 : goal.returns-in_ok-list_values-in-Choice-2
returns-in_ok-list_values-in-Choice-2 t c = both_listed _ _ _ c.shape.ensures.there c.shape.ensures.behind _ _ _ _ _ (c.in-Joined.is ∙ ap (λ (by : Sign). shape.Joined by c.in-Joined.first c.in-Joined.second) c.in-Choice.is) c.in_ok-list_values-in-Choice.ensures c.in_ok-list_values-in-Choice-2.ensures

pub returns-in-Group : goal.returns-in-Group
returns-in-Group t c = none_listed _ _ _ c.shape.ensures.there c.shape.ensures.behind _ (λ i is. let joined = c.in-Joined.is in cc) (λ first second is. let joined = c.in-Joined.is in let group = c.in-Group.is in cc)

pub returns-in-Interleave : goal.returns-in-Interleave
returns-in-Interleave t c = none_listed _ _ _ c.shape.ensures.there c.shape.ensures.behind _ (λ i is. let joined = c.in-Joined.is in cc) (λ first second is. let joined = c.in-Joined.is in let interleave = c.in-Interleave.is in cc)

pub returns-in_default : goal.returns-in_default
returns-in_default t c = none_listed _ _ _ c.shape.ensures.there c.shape.ensures.behind _ c.in_default.not-Value (λ first second. c.in_default.not-Joined sign.Choice first second)
