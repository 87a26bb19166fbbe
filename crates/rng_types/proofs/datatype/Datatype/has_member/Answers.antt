use Rattle.std.proofs.Common.{◌∙◌, sym, arith}
use Rattle.rng_types.proofs.Exist.{members_exist}
use Rattle.rng_types.proofs.datatype.Datatype.has_member.Goals as goal

pub returns-clause-decides : goal.returns-clause-decides
returns-clause-decides c =
    let told = members_exist c.args.self.now c.args.excepts.now c.args.one_token c.requires.made (omega arith) in
    let same = c.has_member_beside.ensures in
    (λ is. told.0 (sym same ∙ is), λ has. same ∙ told.1 has)
