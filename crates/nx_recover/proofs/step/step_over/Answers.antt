use Rattle.std.proofs.Common.{[], refl, ap, sym, Some, ◌∙◌}
use Rattle.std.proofs.lemmas.List.{append-nil}
use Rattle.nx_events.specs.Items.{items_of_token}
use Rattle.nx_recover.specs.Machine.{over}
use Rattle.nx_recover.specs.States.{view_of}
use Rattle.nx_recover.proofs.Stepping.{on_err, then_ok, then_err, stepped, given, kept, kept_states, after_same, given_same}
use Rattle.nx_recover.proofs.step.step_over.Goals as goal

pub returns-in_err-step_plain-clause-unchanged : goal.returns-in_err-step_plain-clause-unchanged
returns-in_err-step_plain-clause-unchanged g c =
    on_err c.from_residual.result
    (kept g.met.M.Matcher.laws c.step_plain.ensures.later c.args.state.now c.step_plain.new.state c.requires.states c.in_err-step_plain.ensures.same_events c.in_err-step_plain.ensures.same_levels)

pub returns-then-branch-clause-after : goal.returns-then-branch-clause-after
returns-then-branch-clause-after g c =
    let m = g.M.Matcher in
    let s = c.args.state.now in
    let t = c.step_plain.new.state in
    let done = c.in_ok-step_plain.ensures.taken c.if-branch.true in
    stepped (m.language c.args.matcher.now) (m.means c.args.matcher.now) (m.means c.step_plain.new.matcher) s t c.args.token.now (view_of t.levels) (items_of_token s.events c.args.token.now)
    c.requires.place done.events refl done.levels refl

pub returns-then-branch-clause-faults : goal.returns-then-branch-clause-faults
returns-then-branch-clause-faults g c =
    let m = g.M.Matcher in
    let s = c.args.state.now in
    let old = c.args.faults.now in
    let done = c.in_ok-step_plain.ensures.taken c.if-branch.true in
    given (Some (m.language c.args.matcher.now)) (over (m.means c.args.matcher.now) s) c.args.token.now old [] old (items_of_token s.events c.args.token.now)
    c.requires.place (sym (append-nil old)) (sym done.faultless) refl

pub step_by_items-requires-clause-states : goal.step_by_items-requires-clause-states
step_by_items-requires-clause-states g c =
    kept_states g.met.M.Matcher.laws c.step_plain.ensures.later _ _ c.requires.states (ap (λ s. view_of s.levels) (c.in_ok-step_plain.ensures.stays c.if-branch.false))

pub returns-clause-unchanged : goal.returns-clause-unchanged
returns-clause-unchanged g c =
    let stays = c.in_ok-step_plain.ensures.stays c.if-branch.false in
    let same = kept g.met.M.Matcher.laws c.step_plain.ensures.later c.args.state.now c.step_plain.new.state c.requires.states (ap (λ s. s.events) stays) (ap (λ s. view_of s.levels) stays) in
    then_err c.step_by_items.result c.step_by_items.ensures.unchanged (λ is. is ∙ same)

pub returns-clause-after : goal.returns-clause-after
returns-clause-after g c =
    let m = g.M.Matcher in
    let a = c.args.matcher.now in
    let b = c.step_plain.new.matcher in
    let stays = c.in_ok-step_plain.ensures.stays c.if-branch.false in
    let same = kept g.met.M.Matcher.laws c.step_plain.ensures.later c.args.state.now c.step_plain.new.state c.requires.states (ap (λ s. s.events) stays) (ap (λ s. view_of s.levels) stays) in
    then_ok c.step_by_items.result c.step_by_items.ensures.after
    (λ is. after_same (m.language a) (m.language b) (over (m.means a) c.args.state.now) (over (m.means b) c.step_plain.new.state) _ _ (g.met.M.Matcher.laws.rule a b c.step_plain.ensures.later) same is)

pub returns-clause-faults : goal.returns-clause-faults
returns-clause-faults g c =
    let m = g.M.Matcher in
    let a = c.args.matcher.now in
    let b = c.step_plain.new.matcher in
    let stays = c.in_ok-step_plain.ensures.stays c.if-branch.false in
    let same = kept g.met.M.Matcher.laws c.step_plain.ensures.later c.args.state.now c.step_plain.new.state c.requires.states (ap (λ s. s.events) stays) (ap (λ s. view_of s.levels) stays) in
    then_ok c.step_by_items.result c.step_by_items.ensures.faults
    (λ is. given_same (m.language a) (m.language b) (over (m.means a) c.args.state.now) (over (m.means b) c.step_plain.new.state) c.args.token.now c.args.faults.now _ (g.met.M.Matcher.laws.rule a b c.step_plain.ensures.later) same is)
