use Rattle.std.proofs.Common.{◌≡◌, ◌++◌, ◌+◌, ◌≤◌, length, map}
use Rattle.nx_report.specs.Lists.{introduced}
use Rattle.nx_report.specs.Names.{quoted_name}
use Rattle.nx_report.specs.Words.{words, words_behind}
use Rattle.nx_report.proofs.Listing.{told_from}
use Rattle.nx_report.proofs.list.push_names.Given as goal

abbrev pub invariant-loop-space : goal.invariant-loop-space
invariant-loop-space l = record {
  told : l.out.items ++ told_from l.others (map (quoted_name l.own) (words_behind l.left))
      ≡ l.fn.out.items ++ introduced l.introduction (map (quoted_name l.own) (words l.text));
  few : l.others + length l.left ≤ length l.text;
}

abbrev pub decreases-loop-space : goal.decreases-loop-space
decreases-loop-space l = length l.left
