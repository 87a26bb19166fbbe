use Rattle.std.proofs.Common.{ap, ◌∙◌}
use Rattle.std.specs.Prelude.{nat_lt}
use Rattle.std.specs.List.{list_any}
use Rattle.rng_cost.proofs.Exact.{told}
use Rattle.rng_cost.proofs.costs.Costs.is_large.Goals as goal

pub returns : goal.returns
returns c g a =
    told c.some_over.result (c.some_over.ensures ∙ ap (list_any (λ cost. nat_lt 10000 cost)) (c.as_slice.ensures.value ∙ c.self.view_is)) a
