use Rattle.std.proofs.Common.{ℕ, arith, eqb}
use Rattle.std.specs.Prelude.{◌==◌}
use Rattle.std.proofs.lemmas.Simd.{zip2_splat, length-chunk}
use Rattle.nx_events.proofs.LaneMasks.{first_is, hit_is}
use lib.Lanes.{chunk}
use Rattle.nx_events.proofs.lanes.first_byte.Goals as goal

pub returns : goal.returns
returns g c =
    let n = g.row.N in
    let d = c.args.bytes.now in
    let v = chunk 0 n d in
    let long = length-chunk 0 n d (omega (arith, c.requires.enough)) in
    first_is (λ (b : ℕ). b == c.args.byte) d n c.requires.lanes c.requires.enough c.type_inv.bytes _ _ c.first_set.ensures _
    (zip2_splat {Y = ℕ} _ v n c.args.byte long)
    (λ b low. hit_is (eqb b c.args.byte))
