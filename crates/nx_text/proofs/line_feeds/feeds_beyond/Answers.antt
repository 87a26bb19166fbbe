use Rattle.std.proofs.Common.{◌≤◌, ltb, length, subst, sym, rules}
use Rattle.std.specs.List.Sorted.{IsPartitionPoint, IsPartitionedBy}
use Rattle.std.specs.Prelude.{true, false, ◌≡◌, List, ℕ}
use Rattle.std.proofs.lemmas.List.Sorted.{IsPartitionPoint-from_clause}
use Rattle.nx_text.proofs.Searching.{parted_beyond, point_beyond}
use Rattle.nx_text.proofs.line_feeds.feeds_beyond.Goals as goal

pub returns-clause-count : goal.returns-clause-count
returns-clause-count c = λ text at is inside far.
    let left = c.args.left in let r = c.partition_point.result in
    let parted : IsPartitionedBy (λ feed. ltb left feed) c.args.feeds.now =
    subst (λ (t : List ℕ). IsPartitionedBy (λ feed. ltb left feed) t) (sym is) (parted_beyond text at left inside far) in
    let point = IsPartitionPoint-from_clause (λ feed. ltb left feed) c.args.feeds.now r c.partition_point.ensures.partitioned parted (λ a r q k. search rules) in
    point_beyond text at left inside far r (subst (λ (t : List ℕ). r ≤ length t) is c.partition_point.ensures.bound)
    (subst (λ (t : List ℕ). IsPartitionPoint (λ feed. ltb left feed ≡ true) (λ feed. ltb left feed ≡ false) t r) is point)
