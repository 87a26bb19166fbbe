use Rattle.std.proofs.Common.{ℕ, leb, cond, refl}
use Rattle.std.proofs.lemmas.Simd.{zip2_splat, length-chunk}
use Rattle.std.specs.Char.{is_ascii_alphabetic}
use Rattle.nx_scan.proofs.Runs.{joined, splat_is, run_agrees}
use lib.Lanes.{chunk}
use Rattle.nx_scan.proofs.lanes.letter_run.Goals as goal

pub returns : goal.returns
returns c =
    let v = chunk 0 16 c.args.bytes.now in
    let long = length-chunk 0 16 c.args.bytes.now c.requires in
    run_agrees is_ascii_alphabetic c.args.bytes.now _ _ c.requires c.type_inv.bytes c.first_set.ensures _
    (joined (λ a b. cond (leb a b) 255 0) _ _ v (splat_is v 16 26 long) (joined _ _ _ v (zip2_splat {Y = ℕ} _ v 16 32 long) (splat_is v 16 97 long)))
    refl
