use Rattle.std.proofs.Common.{IsUtf8, []}
use Rattle.nx_locate.specs.Leading.{Outcome, Leads}
use Rattle.nx_locate.specs.RulesRead.{IsTextTarget}
use Rattle.nx_locate.proofs.leading.schema_of.Given as goal

abbrev pub invariant-loop-turn : goal.invariant-loop-turn
invariant-loop-turn l = record {
  leads : (outcome : Outcome) → Leads l.rules l.met l.lead.base.now l.lead.target.now outcome →
      Leads l.rules [] l.base l.target outcome;
  base : IsUtf8 l.lead.base.now;
  target : IsTextTarget l.lead.target.now;
}
