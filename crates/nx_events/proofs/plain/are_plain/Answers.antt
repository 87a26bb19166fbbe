use Rattle.std.proofs.lemmas.Bool.{OnTrue_at}
use Rattle.nx_events.specs.Plain.{is_plain_line}
use Rattle.nx_events.proofs.PlainGroups.{all_pass, all_plain_values}
use Rattle.nx_events.proofs.plain.are_plain.Goals as goal

pub returns-in-Plain : goal.returns-in-Plain
returns-in-Plain c = rw c.in-Plain.is (λ is. all_pass is_plain_line c.args.bytes.now (OnTrue_at is c.are_plain_or.ensures))

pub returns-in-Text : goal.returns-in-Text
returns-in-Text c = rw c.in-Text.is (λ is. all_pass is_plain_line c.args.bytes.now (OnTrue_at is c.are_plain_or-in-Text.ensures))

pub returns-in-Value : goal.returns-in-Value
returns-in-Value c = rw c.in-Value.is (λ is. all_plain_values c.args.bytes.now (OnTrue_at is c.are_plain_or-in-Value.ensures))
