use Rattle.std.proofs.Common.{ap, ◌∙◌}
use Rattle.nx_events.specs.Items.{items_of_token, state_behind}
use Rattle.rngx_read.specs.Walking.{walked_of, behind_all}
use Rattle.rngx_read.proofs.PlainWalking.{empty_gone, empty_behind, some_open}
use Rattle.rngx_read.proofs.plain.pass_empty.Goals as goal

pub end_innermost-requires : goal.end_innermost-requires
end_innermost-requires c =
    some_open c.args.state.now c.pass_start.new.state c.args.token.now
    (c.in_ok-pass_start.ensures.state c.if-not-branch.false ∙ ap (state_behind c.args.state.now) c.in_ok-put_start.ensures)

pub returns-clause-walk : goal.returns-clause-walk
returns-clause-walk c t =
    let walked = walked_of c.args.walk.now in
    c.in_ok-end.ensures
    ∙ empty_gone c.args.state.now c.args.token.now (walked_of c.pass_start.new.walk) walked c.requires.kind c.requires.steady
    (c.in_ok-pass_start.ensures.walk c.if-not-branch.false
    ∙ ap (λ start. behind_all (items_of_token c.args.state.now start) walked) c.in_ok-put_start.ensures)

pub returns-clause-state : goal.returns-clause-state
returns-clause-state c t =
    c.end_innermost.ensures
    ∙ empty_behind c.args.state.now c.pass_start.new.state c.args.token.now c.requires.kind
    (c.in_ok-pass_start.ensures.state c.if-not-branch.false ∙ ap (state_behind c.args.state.now) c.in_ok-put_start.ensures)
