use Rattle.std.proofs.Common.{◌≡◌, ℕ, ◌∙◌}
use Rattle.rng_types.specs.Giving.{is_member, pad}
use Rattle.rng_types.proofs.Tried.{more_fail, one_passes}
use Rattle.rng_types.proofs.datatype.Datatype.first_padded_left.Goals as goal

pub returns-then-is_member : goal.returns-then-is_member
returns-then-is_member c =
    let same : c.from_vec.result ≡ c.as_str.result.now = cc in
    one_passes (is_member c.args.self.now c.args.excepts.now c.args.one_token) c.as_str.result.now c.from_vec.result c.is_member.result same c.is_member.ensures c.if-is_member.true

pub loop-number-preserved : goal.loop-number-preserved
loop-number-preserved c =
    more_fail (is_member c.args.self.now c.args.excepts.now c.args.one_token) (λ (i : ℕ). pad i c.args.literal.now) c.loop-number.number c.as_str.result.now c.is_member.result
    c.loop-number.invariant (c.as_str.ensures.value ∙ c.in_ok-text.ensures) c.is_member.ensures c.if-is_member.false
