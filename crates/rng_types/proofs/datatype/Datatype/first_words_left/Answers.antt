use Rattle.std.proofs.Common.{◌≡◌, ℕ, ap, ◌∙◌, ◌+◌}
use Rattle.rng_types.specs.Giving.{is_member, word_of, many}
use Rattle.rng_types.proofs.Tried.{more_fail, one_passes}
use Rattle.rng_types.proofs.datatype.Datatype.first_words_left.Goals as goal

pub returns-then-is_member : goal.returns-then-is_member
returns-then-is_member c =
    let same : c.from_vec.result ≡ c.as_str-in-loop-number.result.now = cc in
    one_passes (is_member c.args.self.now c.args.excepts.now c.args.one_token) c.as_str-in-loop-number.result.now c.from_vec.result c.is_member.result same c.is_member.ensures c.if-is_member.true

pub loop-number-preserved : goal.loop-number-preserved
loop-number-preserved c =
    more_fail (is_member c.args.self.now c.args.excepts.now c.args.one_token) (λ (i : ℕ). many c.args.count (word_of 1 (256 + i))) c.loop-number.number c.as_str-in-loop-number.result.now c.is_member.result
    c.loop-number.invariant
    (c.as_str-in-loop-number.ensures.value ∙ c.in_ok-text.ensures ∙ ap (many c.args.count) (c.as_str.ensures.value ∙ c.in_ok-word.ensures ∙ ap (word_of 1) c.letter_of.ensures)) c.is_member.ensures c.if-is_member.false
