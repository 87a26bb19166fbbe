use Rattle.std.proofs.Common.{◌∙◌, ◌++◌, ℕ, ap, arith}
use Rattle.nx_report.specs.Expected.{offer_text, expected_text}
use Rattle.nx_report.specs.Lists.{more_text}
use Rattle.nx_report.proofs.Listing.{ended}
use Rattle.nx_report.proofs.expected.push_expected.Goals as goal

pub returns : goal.returns
returns c =
    c.in_ok-push_more.ensures ∙ ap (λ (n : ℕ). c.loop-i.out.items ++ more_text n) c.saturating_sub.ensures
    ∙ ended c.loop-i.out.items (c.args.out.now.items ++ expected_text c.args.introduction.now c.args.own.now c.args.thing.now c.args.offers.now) c.loop-i.i
    (offer_text c.args.own.now c.args.thing.now) c.in-Some.others.now c.loop-i.invariant (omega arith)
