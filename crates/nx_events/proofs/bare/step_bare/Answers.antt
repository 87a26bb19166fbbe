use Rattle.std.proofs.Common.{List, ◌++◌, ap, sym, ◌∙◌}
use Rattle.std.proofs.lemmas.List.{append-nil}
use Rattle.nx_base.specs.declared.fault.Fault.{Fault}
use Rattle.nx_events.specs.Among.{faults_among}
use Rattle.nx_events.specs.Items.{items_of_token, state_behind}
use Rattle.nx_events.specs.declared.item.Item.{Item}
use Rattle.nx_events.specs.declared.state.EventState.{EventState}
use Rattle.nx_events.specs.BareLaws.{gives_placed, after_placed}
use Rattle.nx_events.proofs.bare.step_bare.Goals as goal

pub returns-then-branch-clause-after : goal.returns-then-branch-clause-after
returns-then-branch-clause-after c = c.in_ok-pass_plain.ensures.behind c.if-branch.true ∙ after_placed c.args.state.now c.args.token.now

pub returns-then-branch-clause-faults : goal.returns-then-branch-clause-faults
returns-then-branch-clause-faults c =
    sym (append-nil c.args.faults.now)
    ∙ ap (λ (fs : List Fault). c.args.faults.now ++ fs)
    (sym (c.in_ok-pass_plain.ensures.faults c.if-branch.true) ∙ gives_placed c.args.state.now c.args.token.now c.requires.place)

pub returns-in-Ok-clause-after : goal.returns-in-Ok-clause-after
returns-in-Ok-clause-after c =
    c.in-Ok.ensures.state
    ∙ ap (λ (s : EventState). state_behind s c.args.token.now) (c.in_ok-pass_plain.ensures.stays c.if-branch.false)
    ∙ after_placed c.args.state.now c.args.token.now

pub returns-in-Ok-clause-faults : goal.returns-in-Ok-clause-faults
returns-in-Ok-clause-faults c =
    let token = c.args.token.now in
    let read =
    c.as_slice.ensures ∙ c.in_ok-declared.ensures.items
    ∙ ap (λ (ys : List Item). ys ++ items_of_token c.pass_plain.new.state token) c.clear.ensures
    ∙ ap (λ (s : EventState). items_of_token s token) (c.in_ok-pass_plain.ensures.stays c.if-branch.false) in
    c.in_ok-push_faults.ensures.ok
    ∙ ap (λ (ys : List Item). c.args.faults.now ++ faults_among ys) read
    ∙ ap (λ (fs : List Fault). c.args.faults.now ++ fs) (gives_placed c.args.state.now token c.requires.place)
