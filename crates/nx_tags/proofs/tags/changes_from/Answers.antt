use Rattle.nx_tags.proofs.Giving.{gives_its_items, are_changes_of}
use Rattle.nx_tags.proofs.tags.changes_from.Goals as goal

pub returns-clause-gives : goal.returns-clause-gives
returns-clause-gives g c =
    gives_its_items c.args.text.now c.len-len.ensures.utf8 c.args.command.now c.requires.place c.requires.name c.in_ok-found.found c.in_ok-found.ensures

pub returns-clause-changes : goal.returns-clause-changes
returns-clause-changes g c =
    are_changes_of c.args.text.now c.len-len.ensures.utf8 c.args.command.now c.requires.place c.requires.name c.in_ok-found.found c.in_ok-found.ensures
