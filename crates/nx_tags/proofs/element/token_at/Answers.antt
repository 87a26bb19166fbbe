use Rattle.std.proofs.Common.{◌≡◌, ◌+◌, subst, arith}
use Rattle.nx_base.specs.Tokens.{end_of}
use Rattle.nx_tags.proofs.Walks.{IsTowards, cut_here, walked}
use Rattle.nx_tags.proofs.element.token_at.Goals as goal

pub overflow_add-place : goal.overflow_add-place
overflow_add-place g c =
    let h = cut_here c.args.text.now c.loop-place.place c.len-len.ensures.utf8 c.loop-place.invariant.border.place _ c.in-Some.token c.in_ok-token.ensures.token c.in-Some.is in
    omega (arith, h.fits, h.from, c.len-len.ensures.bytes, c.len-place.ensures)

pub loop-place-smaller : goal.loop-place-smaller
loop-place-smaller g c =
    let h = cut_here c.args.text.now c.loop-place.place c.len-len.ensures.utf8 c.loop-place.invariant.border.place _ c.in-Some.token c.in_ok-token.ensures.token c.in-Some.is in
    omega (arith, h.later, h.from, c.len-place.ensures, c.loop-place-test.true)

pub loop-place-preserved : goal.loop-place-preserved
loop-place-preserved g c =
    let utf8 = c.len-len.ensures.utf8 in
    let way = c.loop-place.invariant in
    let h = cut_here c.args.text.now c.loop-place.place utf8 way.border.place _ c.in-Some.token c.in_ok-token.ensures.token c.in-Some.is in
    let end : end_of c.in-Some.token ≡ c.loop-place.place + c.len-place.result = omega (arith, h.from, c.len-place.ensures) in
    subst (λ n. IsTowards c.args.text.now c.args.at n) end
    (walked c.args.text.now utf8 c.args.at c.loop-place.place c.in-Some.token way c.loop-place-test.true h.within h.is)
