use Rattle.std.proofs.Common.{sym}
use Rattle.nx_locate.proofs.Giving.{lead_here, lead_further, no_lead}
use Rattle.nx_locate.proofs.leading.leads_of_type.Goals as goal

pub returns-in-Some-leads_if_type : goal.returns-in-Some-leads_if_type
returns-in-Some-leads_if_type c =
    lead_here c.args.id.now c.args.rules.now c.loop-placed.rest.now c.loop-placed.invariant c.in-Some.placed.now c.in-Some.more.now
    c.in-Some-leads_if_type.target.now c.in-Some.ensures.cases.0 (sym c.in-Some-leads_if_type.ensures)

pub loop-placed-preserved : goal.loop-placed-preserved
loop-placed-preserved c =
    lead_further c.args.id.now c.args.rules.now c.loop-placed.rest.now c.loop-placed.invariant c.in-Some.placed.now c.in-Some.more.now
    c.in-Some.ensures.cases.0 (sym c.in_default-leads_if_type.ensures)

pub returns : goal.returns
returns c = no_lead c.args.id.now c.args.rules.now c.loop-placed.rest.now c.loop-placed.invariant c.in_default.ensures.cases
