use Rattle.nx_scan.proofs.Endings.{doctype-some, doctype-none}
use Rattle.nx_scan.proofs.scan.declared_type_end.Goals as goal

pub returns-in-Some : goal.returns-in-Some
returns-in-Some c =
    doctype-some c.args.text.now c.args.at c.in-Some.place c.in-Some.ensures.end c.requires.utf8 c.in-Some.ensures.close.0
    c.in-Some.ensures.close.1 c.in-Some.ensures.close.2

pub returns-in-None : goal.returns-in-None
returns-in-None c =
    doctype-none c.args.text.now c.args.at c.in-None.ensures.end c.unclosed_end.result c.unclosed_end.ensures
