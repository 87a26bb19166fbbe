use Rattle.std.proofs.Common.{◌≡◌, ℕ, List, take, drop, sym, ◌∙◌, ap, subst, arith}
use Rattle.std.specs.List.{prefix_len, position_or_len}
use Rattle.std.specs.Str.{IsCharBoundary}
use Rattle.nx_base.specs.Characters.{is_space}
use Rattle.rng_types.proofs.SplitWords.{no_words, words-found, cut_behind_leading, cut_before_space}
use Rattle.rng_types.proofs.spaces.first_word.Goals as goal

pub returns-then-from-text-clause-none : goal.returns-then-from-text-clause-none
returns-then-from-text-clause-none c =
    let from = c.leading_space-from.ensures.count ∙ ap (prefix_len is_space) c.as_bytes.ensures.value in
    no_words c.args.text.now (sym from ∙ c.if-from-text.true)

pub range_from-rest-requires : goal.range_from-rest-requires
range_from-rest-requires c =
    let from = c.leading_space-from.ensures.count ∙ ap (prefix_len is_space) c.as_bytes.ensures.value in
    λ _. subst (IsCharBoundary c.args.text.now) (sym from) (cut_behind_leading c.args.text.now c.utf8.text)

pub range-requires-clause-end_boundary : goal.range-requires-clause-end_boundary
range-requires-clause-end_boundary c =
    let rest = c.range_from-rest.result.now in
    let to = c.word_length-length.ensures.count ∙ ap (position_or_len is_space) c.as_bytes-2.ensures.value in
    subst (IsCharBoundary rest) (sym to) (cut_before_space rest)

pub range_from-requires : goal.range_from-requires
range_from-requires c =
    let rest = c.range_from-rest.result.now in
    let to = c.word_length-length.ensures.count ∙ ap (position_or_len is_space) c.as_bytes-2.ensures.value in
    λ _. subst (IsCharBoundary rest) (sym to) (cut_before_space rest)

pub returns-clause-some : goal.returns-clause-some
returns-clause-some c =
    let from = c.leading_space-from.ensures.count ∙ ap (prefix_len is_space) c.as_bytes.ensures.value in
    let rest : List ℕ = c.range_from-rest.result.now in
    let to = c.word_length-length.ensures.count ∙ ap (position_or_len is_space) c.as_bytes-2.ensures.value in
    let split = words-found c.args.text.now rest (c.range_from-rest.ensures.value ∙ ap (λ n. drop n c.args.text.now) from) (λ all. c.if-from-text.false (from ∙ all)) in
    let word : c.range.result.now ≡ take c.word_length-length.result rest = grind (arith, c.range.ensures.value) in
    let more : c.range_from.result.now ≡ drop c.word_length-length.result rest = c.range_from.ensures.value in
    rw (word, more, to) split
