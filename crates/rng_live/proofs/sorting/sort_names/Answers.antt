use Rattle.std.proofs.Common.{rules}
use Rattle.std.specs.Ordering.{eq_by_cmp, is_lt}
use Rattle.std.proofs.lemmas.Fn.{dedup_same}
use Rattle.std.proofs.lemmas.List.Sorted.{answers_always, ranks_by}
use Rattle.nx_base.specs.declared.name.Name.{Name}
use Rattle.rng_live.specs.Order.{name_order}
use Rattle.rng_live.proofs.InOrder.{names_total, names_exact, sorts_once}
use Rattle.rng_live.proofs.sorting.sort_names.Goals as goal

pub returns : goal.returns
returns c =
    let sorted = c.sort_unstable_by.ensures.sorted (λ x y. is_lt (name_order x y)) (ranks_by names_total (λ (n : Name). n)) (answers_always _ _ _ (λ f a r g h. search rules)) in
    let once = dedup_same _ (eq_by_cmp name_order) _ (λ x y b f' x' y' k. search rules) c.sort_unstable_by.new.self.items c.dedup_by.new.self.items c.dedup_by.ensures.filtered in
    sorts_once names_total names_exact c.args.names.now.items c.sort_unstable_by.new.self.items c.dedup_by.new.self.items c.sort_unstable_by.ensures.permutation sorted once
