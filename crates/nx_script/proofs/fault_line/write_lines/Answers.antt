use Rattle.std.proofs.Common.{◌++◌, ◌∙◌, refl}
use Rattle.std.proofs.lemmas.Result.{err_from_is_err_and}
use Rattle.nx_script.specs.FaultLines.{fault_lines}
use Rattle.nx_script.proofs.Writing.{begun, goes_on, stopped, ended}
use Rattle.nx_script.proofs.Lines.{lines_parted}
use Rattle.nx_script.proofs.fault_line.write_lines.Goals as goal

pub loop-left-init : goal.loop-left-init
loop-left-init g c = (begun _ _, refl)

pub returns-in_err-write_part-clause-written : goal.returns-in_err-write_part-clause-written
returns-in_err-write_part-clause-written g c =
    let part = c.split_at.result.0.now in
    let rest = c.split_at.result.1.now in
    let text = c.loop-left.text.items in
    let fault = err_from_is_err_and c.from_residual.result c.from_residual.ensures.1 in
    rw fault.1 (stopped (g.O.Out.told c.write_part.new.out) (text ++ fault_lines part) (fault_lines rest) c.loop-left.invariant.0
    (lines_parted text c.loop-left.left.now part rest 64 c.split_at.ensures.front c.split_at.ensures.back) c.in_err-write_part.ensures.written)

pub loop-left-preserved : goal.loop-left-preserved
loop-left-preserved g c =
    let part = c.split_at.result.0.now in
    let rest = c.split_at.result.1.now in
    let text = c.loop-left.text.items in (
      rw c.in_ok-write_part.ensures.text (goes_on (g.O.Out.told c.write_part.new.out) (text ++ fault_lines part) (fault_lines rest) c.loop-left.invariant.0
          (lines_parted text c.loop-left.left.now part rest 64 c.split_at.ensures.front c.split_at.ensures.back) c.in_ok-write_part.ensures.written),
      c.in_ok-write_part.ensures.faults ∙ c.loop-left.invariant.1,
    )

pub returns-clause-written : goal.returns-clause-written
returns-clause-written g c = ended c.write_part-2.result (g.O.Out.told c.write_part-2.new.out) c.loop-left.invariant.0 c.write_part-2.ensures.written
