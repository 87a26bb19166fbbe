use Rattle.std.proofs.Common.{map}
use Rattle.nx_script.specs.declared.reply.Reply.TheVariants.{Refused}
use Rattle.nx_session.specs.Editor.{files_state, world}
use Rattle.nx_session.proofs.session.Session.apply.Goals as goal

pub returns-in-Ok-clause-finish : goal.returns-in-Ok-clause-finish
returns-in-Ok-clause-finish g c =
    let f = g.F.Files in
    let old = world c.args.self.now.editor (files_state (f.told c.args.files.now) (f.faults c.args.files.now))
    (map (λ b. (goal.View-dyn g (b.vtable, b.value)).state b.value) c.args.views.now.items) c.args.steps.now in
    let new = world c.answer-answer.new.self.editor (files_state (f.told c.answer-answer.new.files) (f.faults c.answer-answer.new.files))
    (map (λ b. (goal.View-dyn g (b.vtable, b.value)).state b.value) c.answer-answer.new.views.items) c.answer-answer.new.steps in
    (c.tags_touch_few_faults.ensures old new c.args.command.now c.in-Ok.reply c.reads_right.ensures.right.utf8 c.requires
    (rw c.in-Ok.is at c.answer-answer.ensures.step)).0

pub returns-in-Ok-clause-rename : goal.returns-in-Ok-clause-rename
returns-in-Ok-clause-rename g c =
    let f = g.F.Files in
    let old = world c.args.self.now.editor (files_state (f.told c.args.files.now) (f.faults c.args.files.now))
    (map (λ b. (goal.View-dyn g (b.vtable, b.value)).state b.value) c.args.views.now.items) c.args.steps.now in
    let new = world c.answer-answer.new.self.editor (files_state (f.told c.answer-answer.new.files) (f.faults c.answer-answer.new.files))
    (map (λ b. (goal.View-dyn g (b.vtable, b.value)).state b.value) c.answer-answer.new.views.items) c.answer-answer.new.steps in
    (c.tags_touch_few_faults.ensures old new c.args.command.now c.in-Ok.reply c.reads_right.ensures.right.utf8 c.requires
    (rw c.in-Ok.is at c.answer-answer.ensures.step)).1

pub returns-in-Err-clause-finish : goal.returns-in-Err-clause-finish
returns-in-Err-clause-finish g c =
    let f = g.F.Files in
    let old = world c.args.self.now.editor (files_state (f.told c.args.files.now) (f.faults c.args.files.now))
    (map (λ b. (goal.View-dyn g (b.vtable, b.value)).state b.value) c.args.views.now.items) c.args.steps.now in
    let new = world c.answer-answer.new.self.editor (files_state (f.told c.answer-answer.new.files) (f.faults c.answer-answer.new.files))
    (map (λ b. (goal.View-dyn g (b.vtable, b.value)).state b.value) c.answer-answer.new.views.items) c.answer-answer.new.steps in
    (c.tags_touch_few_faults.ensures old new c.args.command.now (Refused c.in-Err.cause) c.reads_right.ensures.right.utf8 c.requires
    (rw c.in-Err.is at c.answer-answer.ensures.step)).0

pub returns-in-Err-clause-rename : goal.returns-in-Err-clause-rename
returns-in-Err-clause-rename g c =
    let f = g.F.Files in
    let old = world c.args.self.now.editor (files_state (f.told c.args.files.now) (f.faults c.args.files.now))
    (map (λ b. (goal.View-dyn g (b.vtable, b.value)).state b.value) c.args.views.now.items) c.args.steps.now in
    let new = world c.answer-answer.new.self.editor (files_state (f.told c.answer-answer.new.files) (f.faults c.answer-answer.new.files))
    (map (λ b. (goal.View-dyn g (b.vtable, b.value)).state b.value) c.answer-answer.new.views.items) c.answer-answer.new.steps in
    (c.tags_touch_few_faults.ensures old new c.args.command.now (Refused c.in-Err.cause) c.reads_right.ensures.right.utf8 c.requires
    (rw c.in-Err.is at c.answer-answer.ensures.step)).1
