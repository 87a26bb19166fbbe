use Rattle.std.proofs.Common.{ℕ, leb, cond, bit_or}
use Rattle.std.proofs.lemmas.Simd.{zip2_splat, length-chunk}
use Rattle.nx_scan.specs.Tag.{is_value_byte}
use Rattle.nx_scan.proofs.Runs.{joined, splat_is, itself, run_is, value_stops}
use lib.Lanes.{chunk}
use Rattle.nx_scan.proofs.lanes.value_run.Goals as goal

pub returns : goal.returns
returns c =
    let v = chunk 0 16 c.args.bytes.now in
    let long = length-chunk 0 16 c.args.bytes.now c.requires in
    run_is (is_value_byte c.args.quote) c.args.bytes.now _ _ c.requires c.type_inv.bytes c.first_set.ensures _
    (joined bit_or _ _ v
    (joined bit_or _ _ v (joined (λ a b. cond (leb a b) 255 0) _ _ v (splat_is v 16 128 long) (itself v)) (zip2_splat {Y = ℕ} _ v 16 c.args.quote long))
    (zip2_splat {Y = ℕ} _ v 16 60 long))
    (λ b low. value_stops c.args.quote b)
