use Rattle.std.proofs.Common.{◌≡◌, ℕ, ◌∙◌}
use Rattle.rng_more_types.specs.Laws.{candidate}
use Rattle.rng_types.specs.Giving.{is_member}
use Rattle.rng_types.proofs.Tried.{more_fail, one_passes}
use Rattle.rng_types.proofs.datatype.Datatype.first_more_left.Goals as goal

pub returns-then-is_member_in_bytes : goal.returns-then-is_member_in_bytes
returns-then-is_member_in_bytes c =
    let same : c.in_ok-text.text ≡ c.as_slice.result.now = cc in
    one_passes (is_member c.args.self.now c.args.excepts.now c.args.one_token) c.as_slice.result.now c.in_ok-text.text c.is_member_in_bytes.result same c.is_member_in_bytes.ensures c.if-is_member_in_bytes.true

pub loop-number-preserved : goal.loop-number-preserved
loop-number-preserved c =
    more_fail (is_member c.args.self.now c.args.excepts.now c.args.one_token) (λ (i : ℕ). candidate c.args.more c.args.zeros i) c.loop-number.number c.as_slice.result.now c.is_member_in_bytes.result
    c.loop-number.invariant (c.as_slice.ensures ∙ c.in_ok-text.ensures) c.is_member_in_bytes.ensures c.if-is_member_in_bytes.false
