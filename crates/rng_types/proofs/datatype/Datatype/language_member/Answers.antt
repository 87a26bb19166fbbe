use Rattle.rng_types.proofs.Tried.{language_given}
use Rattle.rng_types.proofs.datatype.Datatype.language_member.Goals as goal

pub returns : goal.returns
returns c = language_given c.args.self.now c.args.excepts.now c.args.one_token c.in_ok-found.found c.requires.form c.requires.made c.requires.few c.in_ok-found.ensures
