use Rattle.std.proofs.Common.{map}
use Rattle.nx_session.specs.Editor.{files_state, world}
use Rattle.nx_run.specs.Turns.{turn_of}
use Rattle.nx_run.proofs.Turning.{turn_done}
use Rattle.nx_run.proofs.play.answer.Goals as goal

pub returns-in-Ok-clause-step : goal.returns-in-Ok-clause-step
returns-in-Ok-clause-step g c =
    let f = g.F.Files in
    let old = world c.args.session.now.editor (files_state (f.told c.args.files.now) (f.faults c.args.files.now))
    (map (λ b. (goal.View-dyn g (b.vtable, b.value)).state b.value) c.args.views.now.items) c.args.steps.now in
    let new = world c.apply.new.self.editor (files_state (f.told c.apply.new.files) (f.faults c.apply.new.files))
    (map (λ b. (goal.View-dyn g (b.vtable, b.value)).state b.value) c.apply.new.views.items) c.apply.new.steps in
    turn_done (turn_of c.args.turn) c.command.result c.in-Ok.command old new c.apply.result c.in-Ok.is c.command.ensures.read c.apply.ensures.step
