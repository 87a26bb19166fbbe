use Rattle.std.proofs.Common.{ℕ, arith, refl}
use Rattle.std.proofs.lemmas.Simd.{zip2_splat, length-chunk}
use Rattle.nx_events.specs.ByteClasses.{is_low}
use Rattle.nx_events.proofs.LaneMasks.{first_by_trying}
use lib.Lanes.{chunk}
use Rattle.nx_events.proofs.lanes.first_low.Goals as goal

pub returns : goal.returns
returns g c =
    let n = g.row.N in
    let d = c.args.bytes.now in
    let v = chunk 0 n d in
    let long = length-chunk 0 n d (omega (arith, c.requires.enough)) in
    first_by_trying is_low d n c.requires.lanes c.requires.enough c.type_inv.bytes _ _ c.first_set.ensures _
    (zip2_splat {Y = ℕ} _ v n 63 long)
    refl
