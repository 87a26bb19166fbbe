use Rattle.std.proofs.Common.{ℕ, leb, cond, bit_or, refl}
use Rattle.std.proofs.lemmas.Simd.{zip2_splat, length-chunk}
use Rattle.nx_events.proofs.LaneMasks.{joined, splat_is, plain_or_from_lanes}
use lib.Lanes.{chunk}
use Rattle.nx_events.proofs.lanes.are_plain_or.Goals as goal

pub returns : goal.returns
returns g c =
    let n = g.row.N in
    let v = chunk c.args.at n c.args.bytes.now in
    let long = length-chunk c.args.at n c.args.bytes.now c.requires.inside in
    plain_or_from_lanes c.args.also c.args.bytes.now c.args.at n c.requires.inside c.requires.lanes c.type_inv.bytes _ _
    (joined bit_or _ _ v
    (joined bit_or _ _ v
    (joined (λ a b. cond (leb a b) 255 0) _ _ v (splat_is v n 96 long) (zip2_splat {Y = ℕ} _ v n 32 long))
    (zip2_splat {Y = ℕ} _ v n 38 long))
    (zip2_splat {Y = ℕ} _ v n 93 long))
    refl
