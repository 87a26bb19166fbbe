use Rattle.rng_types.proofs.Blank.{same_tests}
use Rattle.rng_types.proofs.Deciding.{same_value_decided}
use Rattle.rng_types.proofs.datatype.Datatype.same.Goals as goal

pub returns-clause-value : goal.returns-clause-value
returns-clause-value c =
    let decided = same_value_decided c.args.self.now c.args.a.now c.args.b.now in
    same_tests _ _ (λ told. decided.1 (c.same.ensures.0 told)) (λ told. c.same.ensures.1 (decided.0 told))
