use Rattle.std.proofs.Common.{ap, length, arith, refl}
use Rattle.nx_script.specs.Printing.{reply_text}
use Rattle.nx_words.specs.Call.{call_line}
use Rattle.nx_run.specs.Output.{out_state}
use Rattle.nx_run.proofs.Playing.{play-begun, play-more, play-done, play-stopped, refused-part, play-refused, done-whole, done-stays}
use Rattle.nx_run.proofs.play.play_turns.Goals as goal

pub loop-number-init : goal.loop-number-init
loop-number-init g c = play-begun (call_line c.args.call.now) _ _ _ _ _ _ _ refl c.requires c.new-turns.ensures.turns c.new-turns.ensures.number

pub returns-in-Err : goal.returns-in-Err
returns-in-Err g c =
    let h = c.loop-number.invariant in
    let o = g.O.Out in
    let w = c.write_reply-written in
    let was = out_state (o.told c.loop-number.out) (o.faults c.loop-number.out) in
    let after = out_state (o.told w.new.out) (o.faults w.new.out) in
    play-refused _ _ _ _ (out_state (o.told c.args.out.now) (o.faults c.args.out.now)) was after w.result c.in-Err.fault c.from.result c.in-Err.is h.no_fault
    (play-stopped _ _ _ _ _ _ was after _ _ _ _ _ _ _ _ _ h c.in-Some.ensures.0 c.answer-reply.ensures.step c.answer-reply.ensures.text
    (rw c.in-Some.ensures.1 at (refused-part w.result c.in-Err.fault was.bytes after.bytes (reply_text c.in-Some.number c.answer-reply.result) c.in-Err.is w.ensures.written)))
    w.ensures.faults c.from.ensures

pub loop-number-preserved : goal.loop-number-preserved
loop-number-preserved g c =
    let o = g.O.Out in
    let w = c.write_reply-written in
    play-more _ _ _ _ _ _ (out_state (o.told c.loop-number.out) (o.faults c.loop-number.out)) (out_state (o.told w.new.out) (o.faults w.new.out)) _ _ _ _ _ _ _ _ _ _ _ _ c.loop-number.invariant
    c.in-Some.ensures.0 c.in-Some.ensures.2 c.answer-reply.ensures.step c.answer-reply.ensures.text c.answer-reply.ensures.views
    (rw c.in-Some.ensures.1 at (done-whole w.result c.in-Ok.field-0 (o.told c.loop-number.out) (o.told w.new.out) (reply_text c.in-Some.number c.answer-reply.result) c.in-Ok.is w.ensures.written))
    (done-stays w.result c.in-Ok.field-0 (o.faults c.loop-number.out) (o.faults w.new.out) c.in-Ok.is w.ensures.faults) c.note.ensures.memory c.note.ensures.refusal

pub loop-number-smaller : goal.loop-number-smaller
loop-number-smaller g c =
    let fewer = ap length c.in-Some.ensures.0 in
    omega (arith, fewer)

pub returns : goal.returns
returns g c = play-done _ _ _ _ _ _ _ _ _ _ _ _ c.loop-number.invariant c.in_default.ensures c.status.ensures
