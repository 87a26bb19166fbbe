use Rattle.std.proofs.Common.{ℕ, refl}
use Rattle.std.proofs.lemmas.Simd.{zip2_splat, length-chunk}
use Rattle.nx_events.specs.ByteClasses.{is_high}
use Rattle.nx_events.proofs.LaneMasks.{all_pass_by_trying}
use lib.Lanes.{chunk}
use Rattle.nx_events.proofs.lanes.are_high.Goals as goal

pub returns : goal.returns
returns g c =
    let n = g.row.N in
    let v = chunk c.args.at n c.args.bytes.now in
    let long = length-chunk c.args.at n c.args.bytes.now c.requires.inside in
    all_pass_by_trying is_high c.args.bytes.now c.args.at n c.requires.inside c.requires.lanes c.type_inv.bytes _ _
    (zip2_splat {Y = ℕ} _ v n 63 long)
    refl
