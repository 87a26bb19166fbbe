use Rattle.std.proofs.Common.{◌≡◌, ◌<◌, length, arith, rules}
use Rattle.std.proofs.lemmas.Grind.{common_steps}
use Rattle.nx_base.specs.declared.token.TokenKind.TheVariants as kinds
use Rattle.nx_tags.specs.Parts.{front_half, back_half}
use Rattle.nx_tags.proofs.Inside.{inside_answered, front_made, back_made}
use Rattle.nx_tags.proofs.free.state_inside.Goals as goal

pub returns : goal.returns
returns c =
    let token = c.args.token.now in
    let is : token.kind ≡ kinds.Text = search rules in
    let some : 0 < length c.args.state.now.elements = omega (arith, c.depth.ensures, c.if-depth-eq0.false) in
    let front : c.in_ok-front_half.front_half ≡ front_half c.args.at token =
    front_made c.args.at token c.in_ok-front_half.front_half c.as_slice-bytes.result.now _ c.in_ok-front_half.ensures is c.as_slice-bytes.ensures (grind (arith, common_steps)) in
    let back : c.in_ok-back_half.back_half ≡ back_half c.args.at token =
    back_made c.args.at token c.in_ok-back_half.back_half c.as_slice-bytes.result.now _ c.in_ok-back_half.ensures is c.as_slice-bytes.ensures (grind (arith, common_steps)) in
    inside_answered c.args.state.now c.args.at token c.in_ok-front_half.front_half c.in_ok-back_half.back_half c.requires.begins c.requires.ends is some front back
    c.state_between.result c.state_between.ensures
