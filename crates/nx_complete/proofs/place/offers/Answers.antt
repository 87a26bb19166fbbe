use Rattle.std.proofs.Common.{◌≡◌, Option, Some, None, Result, Ok, Err, sym, ap, subst, ◌∙◌}
use Rattle.std.specs.Prelude.{IfOk}
use Rattle.nx_recover.specs.Machine.{state_by, means_by, rules_by}
use Rattle.nx_recover.specs.Offers.{at_start}
use Rattle.nx_complete.proofs.Placing.{bytes_text, later_on, answered_at, nothing_held, each_ok}
use Rattle.nx_complete.proofs.place.offers.Goals as goal

pub returns-then-at-eq0-clause-offers : goal.returns-then-at-eq0-clause-offers
returns-then-at-eq0-clause-offers g c = λ live. at_start c.if-at-eq0.true

pub answer-requires-clause-utf8 : goal.answer-requires-clause-utf8
answer-requires-clause-utf8 g c =
    let m = g.M.Matcher in
    let o = c.token_before.new.machine.matcher in
    bytes_text (state_by m.is_state o) (means_by m.means o) (rules_by m.language o) c.args.text.now c.args.at c.token_before.new.state c.in_ok-token.token c.len-len.ensures.utf8 c.requires.place c.in_ok-token.ensures.token

pub returns-in-Some-clause-later : goal.returns-in-Some-clause-later
returns-in-Some-clause-later g c = later_on g.met.M.Matcher.laws c.args.machine.now.matcher c.token_before.new.machine.matcher c.in-Some.matcher c.answer.new.matcher c.in_ok-token.ensures.later c.in-Some.is c.answer.ensures.later

pub returns-in-Some-clause-offers : goal.returns-in-Some-clause-offers
returns-in-Some-clause-offers g c = λ live.
    each_ok c.answer.result (answered_at g.met.M.Matcher.laws c.args.machine.now.matcher c.token_before.new.machine.matcher c.in-Some.matcher c.in_ok-token.ensures.later c.in-Some.is c.args.text.now c.args.at c.token_before.new.state c.in_ok-token.token
    c.len-len.ensures.utf8 c.requires.place.0 c.in_ok-token.ensures.token live) c.answer.ensures.answer

pub returns-clause-offers : goal.returns-clause-offers
returns-clause-offers g c = λ live. nothing_held g.met.M.Matcher.laws c.args.machine.now.matcher c.token_before.new.machine.matcher c.in_ok-token.ensures.later c.in-None.is c.args.text.now c.args.at
