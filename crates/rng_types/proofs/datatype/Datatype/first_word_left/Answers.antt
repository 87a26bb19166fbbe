use Rattle.std.proofs.Common.{ℕ, ap, ◌∙◌, ◌+◌}
use Rattle.rng_types.specs.Giving.{is_member, word_of}
use Rattle.rng_types.proofs.Tried.{more_fail}
use Rattle.rng_types.proofs.datatype.Datatype.first_word_left.Goals as goal

pub loop-number-preserved : goal.loop-number-preserved
loop-number-preserved c =
    more_fail (is_member c.args.self.now c.args.excepts.now c.args.one_token) (λ (i : ℕ). word_of c.args.count (256 + i)) c.loop-number.number c.as_str.result.now c.is_member.result
    c.loop-number.invariant (c.as_str.ensures.value ∙ c.in_ok-text.ensures ∙ ap (word_of c.args.count) c.letter_of.ensures) c.is_member.ensures c.if-is_member.false
