use Rattle.std.proofs.Common.{rules}
use Rattle.std.specs.Ordering.{eq_by_cmp, is_lt}
use Rattle.std.proofs.lemmas.Fn.{dedup_same}
use Rattle.std.proofs.lemmas.List.Sorted.{answers_always, ranks_by}
use Rattle.std.specs.Prelude.{ℕ, List}
use Rattle.rng_live.specs.Order.{text_order}
use Rattle.rng_live.proofs.InOrder.{texts_total, texts_exact, sorts_once}
use Rattle.rng_live.proofs.sorting.sort_texts.Goals as goal

pub returns : goal.returns
returns c =
    let sorted = c.sort_unstable_by.ensures.sorted (λ x y. is_lt (text_order x y)) (ranks_by texts_total (λ (text : List ℕ). text)) (answers_always _ _ _ (λ f a r g h. search rules)) in
    let once = dedup_same _ (eq_by_cmp text_order) _ (λ x y b f' x' y' k. search rules) c.sort_unstable_by.new.self.items c.dedup_by.new.self.items c.dedup_by.ensures.filtered in
    sorts_once texts_total texts_exact c.args.texts.now.items c.sort_unstable_by.new.self.items c.dedup_by.new.self.items c.sort_unstable_by.ensures.permutation sorted once
