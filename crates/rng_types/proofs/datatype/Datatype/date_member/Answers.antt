use Rattle.rng_types.proofs.TriedMore.{date_given}
use Rattle.rng_types.proofs.datatype.Datatype.date_member.Goals as goal

pub returns : goal.returns
returns c = date_given c.args.self.now c.args.more c.args.excepts.now c.args.one_token c.in_ok-found.found c.requires.form c.requires.date c.requires.made c.requires.few c.in_ok-found.ensures
