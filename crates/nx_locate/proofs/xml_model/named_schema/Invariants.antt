use Rattle.std.proofs.Common.{◌≡◌, ◌≤◌, ◌-◌, length}
use Rattle.nx_base.specs.Text.{IsPlace}
use Rattle.nx_base.specs.Tokens.{tokens_from}
use Rattle.nx_locate.specs.NamedSchemas.{first_named, named_schema}
use Rattle.nx_locate.proofs.xml_model.named_schema.Given as goal

-- what was read names none
abbrev pub invariant-loop-at : goal.invariant-loop-at
invariant-loop-at g l = record {
  place : IsPlace l.text l.at;
  within : l.at ≤ length l.text;
  named : first_named (tokens_from l.text l.at) ≡ named_schema l.text;
  steps : l.fn.steps ≤ l.steps;
}

abbrev pub decreases-loop-at : goal.decreases-loop-at
decreases-loop-at g l = length l.text - l.at
