use Rattle.std.proofs.Common.{length, map}
use Rattle.nx_session.specs.Editor.{files_state}
use Rattle.nx_words.specs.Call.{call_line}
use Rattle.nx_run.specs.Output.{out_state}
use Rattle.nx_run.specs.Surroundings.{surroundings}
use Rattle.nx_run.specs.Turns.{turns_left, next_number}
use Rattle.nx_run.proofs.Playing.{IsPlaying}
use Rattle.nx_run.proofs.play.play_turns.Given as goal

abbrev pub invariant-loop-number : goal.invariant-loop-number
invariant-loop-number g l =
    let f = g.F.Files in
    let o = g.O.Out in
    IsPlaying (call_line l.call) l.script (surroundings (files_state (f.told l.fn.files) (f.faults l.fn.files)) (map (λ b. (goal.View-dyn g (b.vtable, b.value)).state b.value) l.fn.views.items) l.fn.steps)
    (surroundings (files_state (f.told l.files) (f.faults l.files)) (map (λ b. (goal.View-dyn g (b.vtable, b.value)).state b.value) l.views.items) l.steps)
    (out_state (o.told l.fn.out) (o.faults l.fn.out)) (out_state (o.told l.out) (o.faults l.out))
    l.session.editor (turns_left l.turns) (next_number l.turns) l.tally.memory l.tally.refusal

abbrev pub decreases-loop-number : goal.decreases-loop-number
decreases-loop-number g l = length (turns_left l.turns)
