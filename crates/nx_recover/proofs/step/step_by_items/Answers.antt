use Rattle.std.proofs.Common.{◌≡◌, refl, Some}
use Rattle.nx_events.specs.Items.{items_of_token}
use Rattle.nx_recover.specs.Machine.{over}
use Rattle.nx_recover.specs.States.{changed}
use Rattle.nx_recover.proofs.Stepping.{on_err, on_ok, then_ok, is_nothing, from_empty, stepped, passed, given, given_nothing, kept, kept_states}
use Rattle.nx_recover.proofs.step.step_by_items.Goals as goal

pub returns-in_err-take_items-clause-states : goal.returns-in_err-take_items-clause-states
returns-in_err-take_items-clause-states g c = kept_states g.met.M.Matcher.laws c.take_items.ensures.later _ _ c.requires.states refl

pub returns-in_err-take_items-clause-unchanged : goal.returns-in_err-take_items-clause-unchanged
returns-in_err-take_items-clause-unchanged g c = on_err c.from_residual-in_err-take_items.result (kept g.met.M.Matcher.laws c.take_items.ensures.later c.args.state.now c.args.state.now c.requires.states refl refl)

pub returns-in_err-install-clause-states : goal.returns-in_err-install-clause-states
returns-in_err-install-clause-states g c = kept_states g.met.M.Matcher.laws c.take_items.ensures.later _ _ c.requires.states c.in_err-install.ensures.same_levels

pub returns-in_err-install-clause-unchanged : goal.returns-in_err-install-clause-unchanged
returns-in_err-install-clause-unchanged g c = on_err c.from_residual-in_err-install.result (kept g.met.M.Matcher.laws c.take_items.ensures.later c.args.state.now c.install.new.state c.requires.states c.in_err-install.ensures.same_events c.in_err-install.ensures.same_levels)

pub returns-clause-after : goal.returns-clause-after
returns-clause-after g c =
    let m = g.M.Matcher in
    let s = c.args.state.now in
    let done = c.in_ok-install.ensures in
    let all : c.take_out-taken.result.items ≡ items_of_token s.events c.args.token.now = from_empty (c.take_out-taken.ensures.items) c.in_ok-declared.ensures.items c.clear.ensures in
    stepped (m.language c.args.matcher.now) (m.means c.args.matcher.now) (m.means c.take_items.new.matcher) s c.install.new.state c.args.token.now (changed s.levels c.take_items.new.change) c.take_out-taken.result.items c.requires.place done.events done.levels c.in_ok-take_items.ensures.form all

pub returns-clause-faults : goal.returns-clause-faults
returns-clause-faults g c =
    let m = g.M.Matcher in
    let s = c.args.state.now in
    let all : c.take_out-taken.result.items ≡ items_of_token s.events c.args.token.now = from_empty (c.take_out-taken.ensures.items) c.in_ok-declared.ensures.items c.clear.ensures in
    given (Some (m.language c.args.matcher.now)) (over (m.means c.args.matcher.now) s) c.args.token.now c.args.faults.now c.take_items.new.faults c.install.new.faults c.take_out-taken.result.items c.requires.place c.in_ok-install.ensures.faults (from_empty refl c.in_ok-take_items.ensures.faults c.drop_left.ensures) all

pub returns-then-is_empty-clause-after : goal.returns-then-is_empty-clause-after
returns-then-is_empty-clause-after g c =
    let m = g.M.Matcher in
    let s = c.args.state.now in
    let all : c.read.new.items ≡ items_of_token s.events c.args.token.now = from_empty refl c.in_ok-declared.ensures.items c.clear.ensures in
    then_ok c.pass_token.result c.pass_token.ensures.state (λ is. passed (m.language c.args.matcher.now) (m.means c.args.matcher.now) s (record s { events = c.pass_token.new.state }) c.args.token.now c.read.new.items c.requires.place is refl (is_nothing c.read.new.items c.if-is_empty.ensures) all)

pub returns-then-is_empty-clause-faults : goal.returns-then-is_empty-clause-faults
returns-then-is_empty-clause-faults g c =
    let m = g.M.Matcher in
    let s = c.args.state.now in
    let all : c.read.new.items ≡ items_of_token s.events c.args.token.now = from_empty refl c.in_ok-declared.ensures.items c.clear.ensures in
    on_ok c.pass_token.result (given_nothing (m.language c.args.matcher.now) (over (m.means c.args.matcher.now) s) c.args.token.now c.args.faults.now c.read.new.items c.requires.place (is_nothing c.read.new.items c.if-is_empty.ensures) all)
