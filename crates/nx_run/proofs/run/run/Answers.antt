use Rattle.std.proofs.Common.{map, refl, ap}
use Rattle.nx_session.specs.Editor.{files_state}
use Rattle.nx_words.specs.Call.{call_line}
use Rattle.nx_run.specs.Output.{out_state}
use Rattle.nx_run.specs.Surroundings.{surroundings}
use Rattle.nx_run.proofs.Asking.{asks_for, starved, run_unread}
use Rattle.nx_run.proofs.run.run.Goals as goal

pub returns-in-Err : goal.returns-in-Err
returns-in-Err g c =
    let f = g.F.Files in
    let o = g.O.Out in
    let old = surroundings (files_state (f.told c.args.files.now) (f.faults c.args.files.now)) (map (λ b. (goal.View-dyn g (b.vtable, b.value)).state b.value) c.args.views.now.items) c.args.steps.now in
    starved c.args.words.now old old (out_state (o.told c.args.out.now) (o.faults c.args.out.now)) refl

pub returns-in-Err-read_call : goal.returns-in-Err-read_call
returns-in-Err-read_call g c =
    let f = g.F.Files in
    let o = g.O.Out in
    let old = surroundings (files_state (f.told c.args.files.now) (f.faults c.args.files.now)) (map (λ b. (goal.View-dyn g (b.vtable, b.value)).state b.value) c.args.views.now.items) c.args.steps.now in
    starved c.args.words.now old old (out_state (o.told c.args.out.now) (o.faults c.args.out.now)) refl

pub returns-in-Err-Refused : goal.returns-in-Err-Refused
returns-in-Err-Refused g c =
    let read = rw c.in-Ok-Some.field-0-is at c.in-Ok-Some.ensures in
    run_unread c.args.words.now _ _ _ _ c.refuse.result (call_line c.in-Ok-Some-read_call.call)
    (asks_for c.args.words.now c.in-Ok-Some.texts.items c.as_slice.result.now _ c.as_slice.ensures.value read.0 read.1
    (rw c.in-Ok-Some-read_call.field-0-is at c.in-Ok-Some-read_call.ensures))
    c.in-Err-Refused.cause (rw c.in-Err-Refused.field-0-is at c.in-Err-Refused.ensures) refl refl (rw c.in-Err-Refused.field-0-is at c.refuse.ensures)

pub returns : goal.returns
returns g c =
    let f = g.F.Files in
    let o = g.O.Out in
    let views = map (λ b. (goal.View-dyn g (b.vtable, b.value)).state b.value) c.args.views.now.items in
    let old = surroundings (files_state (f.told c.args.files.now) (f.faults c.args.files.now)) views c.args.steps.now in
    let new = surroundings (files_state (f.told c.fetch_script.new.files) (f.faults c.fetch_script.new.files)) views c.args.steps.now in
    starved c.args.words.now old new (out_state (o.told c.args.out.now) (o.faults c.args.out.now))
    (ap (λ files. surroundings files views c.args.steps.now) (rw c.in-Err-NoMemory.field-0-is at c.in-Err-NoMemory.ensures))
