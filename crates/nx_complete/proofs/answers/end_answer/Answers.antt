use Rattle.std.proofs.Common.{◌≡◌, ℕ, List, [], length, sym, ap, ◌∙◌}
use Rattle.nx_recover.specs.States.{view_of}
use Rattle.nx_complete.proofs.Ends.{none_when, some_when, no_end_listed, some_end_listed}
use Rattle.nx_complete.proofs.answers.end_answer.Goals as goal

pub returns-then-is_empty-clause-answer : goal.returns-then-is_empty-clause-answer
returns-then-is_empty-clause-answer g c =
    let m = g.M.Matcher in
    no_end_listed (m.means c.args.matcher.now) c.args.written (view_of c.args.levels.now) c.in-Some.here c.new.result c.in-Some.is
    (none_when c.as_slice.result.now c.args.levels.now.elements.items c.is_empty.result c.as_slice.ensures.value c.is_empty.ensures c.if-is_empty.true) c.new.ensures

pub returns-in_ok-offers-in-Some-clause-answer : goal.returns-in_ok-offers-in-Some-clause-answer
returns-in_ok-offers-in-Some-clause-answer g c =
    let m = g.M.Matcher in
    some_end_listed (m.means c.args.matcher.now) c.args.written (view_of c.args.levels.now) c.in-Some.here c.in_ok-offers-in-Some.offers c.in-Some.is
    (some_when c.as_slice.result.now c.args.levels.now.elements.items c.is_empty.result c.as_slice.ensures.value c.is_empty.ensures c.if-is_empty.false) c.in_ok-offers-in-Some.ensures.lists
