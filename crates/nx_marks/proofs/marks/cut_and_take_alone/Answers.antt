use Rattle.std.proofs.Common.{◌≡◌, ℕ, ◌+◌, length, ap, subst, sym, ◌∙◌}
use Rattle.nx_base.specs.Text.{IsPlace}
use Rattle.nx_base.specs.Tokens.{cut}
use Rattle.nx_marks.specs.Chain.{frontier_of}
use Rattle.nx_marks.proofs.Finishing.{still_none}
use Rattle.nx_marks.proofs.Keeping.{keeps_all, keeps_on}
use Rattle.nx_marks.proofs.Moving.{one_token, on_ok}
use Rattle.nx_marks.proofs.Reading.{frontier_place}
use Rattle.nx_marks.proofs.marks.cut_and_take_alone.Goals as goal

pub scan_token_into-requires-clause-place : goal.scan_token_into-requires-clause-place
scan_token_into-requires-clause-place g c =
    let m = g.A.Machine in
    let a = c.args.machine.now in
    let P : ℕ → Type 0 = λ n. IsPlace c.args.text.now n in
    subst P (sym c.frontier-at.ensures) (frontier_place (m.is_state a) (m.means a) (m.rules a) c.args.text.now (g.met.A.Machine.rule_laws a) c.len-len.ensures.utf8 c.args.line.now c.requires.right)

pub step_alone-requires-clause-token : goal.step_alone-requires-clause-token
step_alone-requires-clause-token g c = c.in_ok-scan_token_into.ensures.token ∙ ap (cut c.args.text.now) (c.frontier-at.ensures ∙ sym c.begin_here.ensures.frontier)

pub step_alone-requires-clause-none_aside : goal.step_alone-requires-clause-none_aside
step_alone-requires-clause-none_aside g c =
    still_none (g.A.Machine.means c.args.machine.now) (g.A.Machine.rules c.args.machine.now) c.args.text.now c.args.line.now c.begin_here.new.line c.requires.none_aside c.begin_here.ensures.keeps

pub returns-clause-on : goal.returns-clause-on
returns-clause-on g c =
    let m = g.A.Machine in
    let a = c.args.machine.now in
    let t = c.args.text.now in
    let k = c.args.line.now in
    let place = frontier_place (m.is_state a) (m.means a) (m.rules a) t (g.met.A.Machine.rule_laws a) c.len-len.ensures.utf8 k c.requires.right in
    let is : c.scan_token_into.new.token ≡ cut t (frontier_of k) = c.in_ok-scan_token_into.ensures.token ∙ ap (cut t) c.frontier-at.ensures in
    on_ok _ _ c.step_alone.result (λ on. one_token t (frontier_of k) (frontier_of c.step_alone.new.line) c.scan_token_into.new.token place c.requires.rest is (on ∙ ap (λ n. n + length c.scan_token_into.new.token.bytes) c.begin_here.ensures.frontier)) c.step_alone.ensures.on

pub returns-clause-keeps : goal.returns-clause-keeps
returns-clause-keeps g c =
    keeps_on (g.A.Machine.means c.args.machine.now) (g.A.Machine.rules c.args.machine.now) c.args.text.now c.args.line.now c.begin_here.new.line c.step_alone.new.line c.begin_here.ensures.keeps c.step_alone.ensures.keeps

pub returns-in_err-scan_token_into-clause-keeps : goal.returns-in_err-scan_token_into-clause-keeps
returns-in_err-scan_token_into-clause-keeps g c = keeps_all (g.A.Machine.means c.args.machine.now) (g.A.Machine.rules c.args.machine.now) c.args.text.now c.args.line.now
