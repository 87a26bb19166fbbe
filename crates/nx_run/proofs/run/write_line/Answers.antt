use Rattle.nx_run.specs.Output.{out_state}
use Rattle.nx_run.proofs.Lines.{line-refused}
use Rattle.nx_run.proofs.run.write_line.Goals as goal

pub returns-in-Err : goal.returns-in-Err
returns-in-Err g c =
    let o = g.O.Out in
    rw c.from.ensures
    (line-refused c.args.line.now c.args.status c.in-Err.fault (out_state (o.told c.args.out.now) (o.faults c.args.out.now)) (out_state (o.told c.write.new.self) (o.faults c.write.new.self))
    (rw c.as_bytes.ensures.value at c.in-Err.ensures.written) c.in-Err.ensures.faults)
