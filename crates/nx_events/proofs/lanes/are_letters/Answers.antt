use Rattle.std.proofs.Common.{ℕ, leb, cond, refl}
use Rattle.std.proofs.lemmas.Simd.{zip2_splat, length-chunk}
use Rattle.std.specs.Char.{is_ascii_alphabetic}
use Rattle.nx_events.proofs.LaneMasks.{joined, splat_is, all_pass_by_trying}
use lib.Lanes.{chunk}
use Rattle.nx_events.proofs.lanes.are_letters.Goals as goal

pub returns : goal.returns
returns g c =
    let n = g.row.N in
    let v = chunk c.args.at n c.args.bytes.now in
    let long = length-chunk c.args.at n c.args.bytes.now c.requires.inside in
    all_pass_by_trying is_ascii_alphabetic c.args.bytes.now c.args.at n c.requires.inside c.requires.lanes c.type_inv.bytes _ _
    (joined (λ a b. cond (leb a b) 255 0) _ _ v (splat_is v n 26 long) (joined _ _ _ v (zip2_splat {Y = ℕ} _ v n 32 long) (splat_is v n 97 long)))
    refl
