use Rattle.std.proofs.Common.{◌≡◌, ◌+◌, ◌≤◌, subst, arith}
use Rattle.nx_base.specs.Tokens.{end_of}
use Rattle.nx_tags.proofs.Towards.{IsOnWay, begun, passed}
use Rattle.nx_tags.proofs.Walks.{cut_here}
use Rattle.nx_tags.proofs.front.Front.read_to.Goals as goal

pub loop-place-init : goal.loop-place-init
loop-place-init g c =
    begun c.args.text.now c.len-len.ensures.utf8 c.args.from c.args.at c.args.self.now.state c.args.self.now.starts.items c.requires.before c.requires.read c.requires.opened

pub overflow_add-to : goal.overflow_add-to
overflow_add-to g c =
    let h = cut_here c.args.text.now c.loop-place.place c.len-len.ensures.utf8 c.loop-place.invariant.read.border _ c.in-Some.token c.in_ok-token.ensures.token c.in-Some.is in
    omega (arith, h.fits, h.from, c.len-len.ensures.bytes, c.len.ensures)

pub returns-then-to-at : goal.returns-then-to-at
returns-then-to-at g c =
    let way = c.loop-place.invariant in
    let h = cut_here c.args.text.now c.loop-place.place c.len-len.ensures.utf8 way.read.border _ c.in-Some.token c.in_ok-token.ensures.token c.in-Some.is in
    record {
      place = c.loop-place.place;
      read = way.read;
      opened = way.opened;
      within = h.within;
      is = h.is;
      before = c.loop-place-test.true;
      behind = omega (arith, h.from, c.len.ensures, c.if-to-at.true);
    }

pub pass-requires-clause-place : goal.pass-requires-clause-place
pass-requires-clause-place g c =
    let way = c.loop-place.invariant in
    let h = cut_here c.args.text.now c.loop-place.place c.len-len.ensures.utf8 way.read.border _ c.in-Some.token c.in_ok-token.ensures.token c.in-Some.is in
    omega (arith, h.from, way.read.back)

pub loop-place-smaller : goal.loop-place-smaller
loop-place-smaller g c =
    let h = cut_here c.args.text.now c.loop-place.place c.len-len.ensures.utf8 c.loop-place.invariant.read.border _ c.in-Some.token c.in_ok-token.ensures.token c.in-Some.is in
    omega (arith, h.later, h.from, c.len.ensures, c.loop-place-test.true)

pub loop-place-preserved : goal.loop-place-preserved
loop-place-preserved g c =
    let way = c.loop-place.invariant in
    let utf8 = c.len-len.ensures.utf8 in
    let token = c.in-Some.token in
    let h = cut_here c.args.text.now c.loop-place.place utf8 way.read.border _ token c.in_ok-token.ensures.token c.in-Some.is in
    let end : end_of token ≡ c.loop-place.place + c.len.result = omega (arith, h.from, c.len.ensures) in
    let le : end_of token ≤ c.args.at = omega (arith, end, c.if-to-at.false) in
    subst (λ n. IsOnWay c.args.text.now c.args.from c.args.at n c.pass.new.self.state c.pass.new.self.starts.items c.is_ended-ended.result) end
    (passed c.args.text.now utf8 c.args.from c.args.at c.loop-place.place c.loop-place.self.state c.loop-place.self.starts.items c.loop-place.ended way h.within
    token h.is le c.pass.new.self.state c.pass.new.self.starts.items c.in_ok-pass.ensures.state c.in_ok-pass.ensures.starts c.is_ended-ended.result c.is_ended-ended.ensures)
