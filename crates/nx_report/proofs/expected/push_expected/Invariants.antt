use Rattle.std.proofs.Common.{◌≡◌, ◌++◌, map, drop}
use Rattle.nx_report.specs.Expected.{offer_text, expected_text}
use Rattle.nx_report.proofs.Listing.{told_from}
use Rattle.nx_report.proofs.expected.push_expected.Given as goal

abbrev pub invariant-loop-i : goal.invariant-loop-i
invariant-loop-i l =
    l.out.items ++ told_from l.i (map (offer_text l.own l.thing) (drop l.i l.others)) ≡ l.fn.out.items ++ expected_text l.introduction l.own l.thing l.offers
