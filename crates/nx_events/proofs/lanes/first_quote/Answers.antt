use Rattle.std.proofs.Common.{ℕ, arith, bit_or, refl}
use Rattle.std.proofs.lemmas.Simd.{zip2_splat, length-chunk}
use Rattle.nx_base.specs.Characters.{is_quote}
use Rattle.nx_events.proofs.LaneMasks.{joined, first_by_trying}
use lib.Lanes.{chunk}
use Rattle.nx_events.proofs.lanes.first_quote.Goals as goal

pub returns : goal.returns
returns g c =
    let n = g.row.N in
    let d = c.args.bytes.now in
    let v = chunk 0 n d in
    let long = length-chunk 0 n d (omega (arith, c.requires.enough)) in
    first_by_trying is_quote d n c.requires.lanes c.requires.enough c.type_inv.bytes _ _ c.first_set.ensures _
    (joined bit_or _ _ v (zip2_splat {Y = ℕ} _ v n 34 long) (zip2_splat {Y = ℕ} _ v n 39 long))
    refl
