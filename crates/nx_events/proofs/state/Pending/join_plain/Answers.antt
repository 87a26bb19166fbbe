use Rattle.std.proofs.Common.{◌≡◌, ℕ, List, Option, length, rules, subst, sym}
use Rattle.std.specs.Prelude.{OnOk}
use Rattle.nx_events.specs.Runs.{run_joined}
use Rattle.nx_events.specs.declared.reading.Reading.TheVariants.{Text}
use Rattle.nx_events.specs.declared.state.Run.{Run}
use Rattle.nx_events.proofs.PlainRuns.{plain_string_of}
use Rattle.nx_events.proofs.state.Pending.join_plain.Goals as goal

pub returns-clause-ok : goal.returns-clause-ok
returns-clause-ok c =
    let bytes = c.args.bytes.now in
    let same : c.match-self.self ≡ c.args.self.now = search rules in
    let P : List ℕ → Type 0 = λ string. OnOk c.join.result (c.join.new.self ≡ run_joined string (length bytes) c.match-self.self) in
    let Q : Option Run → Type 0 = λ run. OnOk c.join.result (c.join.new.self ≡ run_joined bytes (length bytes) run) in
    subst Q same (subst P (sym (plain_string_of Text bytes c.requires.plain)) c.join.ensures.ok)
