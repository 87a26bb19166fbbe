use Rattle.nx_session.proofs.Tagging.{copied_name}
use Rattle.nx_session.proofs.session.Session.rename.Goals as goal

pub change_tags-requires-clause-name : goal.change_tags-requires-clause-name
change_tags-requires-clause-name g c = copied_name c.in_ok-name.name c.args.name.now c.in_ok-name.ensures c.requires
