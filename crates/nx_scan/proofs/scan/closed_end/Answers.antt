use Rattle.std.proofs.Common.{◌∙◌}
use Rattle.nx_scan.proofs.Endings.{closed-some, closed-none}
use Rattle.nx_scan.proofs.scan.closed_end.Goals as goal

pub returns-in-Some : goal.returns-in-Some
returns-in-Some c =
    closed-some c.args.text.now c.args.at c.args.skip c.args.kind c.args.mark.now c.in-Some.place c.in-Some.ensures.end
    c.requires.utf8 c.in-Some.ensures.within.0 c.in-Some.ensures.within.1 (c.in-Some.ensures.last ∙ c.requires.last)

pub returns-in-None : goal.returns-in-None
returns-in-None c =
    closed-none c.args.text.now c.args.at c.args.skip c.args.kind c.args.mark.now c.in-None.ensures.end c.unclosed_end.result
    c.unclosed_end.ensures
