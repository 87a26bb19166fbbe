use Rattle.std.proofs.Common.{◌≡◌, ◌+◌, sym, ◌∙◌, ap, subst, arith}
use Rattle.nx_base.specs.Tokens.{cut, end_of}
use Rattle.nx_events.specs.Items.{first_state, state_behind}
use Rattle.nx_tags.specs.Reading.{IsRead}
use Rattle.nx_tags.proofs.Reading.{known_read, one_more, start_known}
use Rattle.nx_tags.proofs.Walks.{cut_here}
use Rattle.nx_tags_cases.proofs.reading.read_to.Goals as goal

pub loop-place-init : goal.loop-place-init
loop-place-init g c =
    let text = c.args.text.now in
    let utf8 = c.len-len.ensures.utf8 in
    (subst (λ s. IsRead text 0 s) (sym c.in_ok-state.ensures) (known_read text utf8 0 first_state (start_known text utf8)), omega arith)

pub overflow_add-end : goal.overflow_add-end
overflow_add-end g c =
    let h = cut_here c.args.text.now c.loop-place.place c.len-len.ensures.utf8 c.loop-place.invariant.0.border _ c.in-Some.token c.in_ok-token.ensures.token c.in-Some.is in
    omega (arith, h.fits, h.from, c.len-len.ensures.bytes, c.len.ensures)

pub take-requires-clause-place : goal.take-requires-clause-place
take-requires-clause-place g c =
    let h = cut_here c.args.text.now c.loop-place.place c.len-len.ensures.utf8 c.loop-place.invariant.0.border _ c.in-Some.token c.in_ok-token.ensures.token c.in-Some.is in
    omega (arith, h.from, c.loop-place.invariant.0.back)

pub take-requires-clause-room : goal.take-requires-clause-room
take-requires-clause-room g c =
    let h = cut_here c.args.text.now c.loop-place.place c.len-len.ensures.utf8 c.loop-place.invariant.0.border _ c.in-Some.token c.in_ok-token.ensures.token c.in-Some.is in
    omega (arith, h.fits, c.len-len.ensures.bytes)

pub loop-place-smaller : goal.loop-place-smaller
loop-place-smaller g c =
    let h = cut_here c.args.text.now c.loop-place.place c.len-len.ensures.utf8 c.loop-place.invariant.0.border _ c.in-Some.token c.in_ok-token.ensures.token c.in-Some.is in
    omega (arith, h.later, h.from, c.len.ensures, c.loop-place-test.true)

pub loop-place-preserved : goal.loop-place-preserved
loop-place-preserved g c =
    let text = c.args.text.now in
    let utf8 = c.len-len.ensures.utf8 in
    let read = c.loop-place.invariant.0 in
    let place = c.loop-place.place in
    let h = cut_here text place utf8 read.border _ c.in-Some.token c.in_ok-token.ensures.token c.in-Some.is in
    let long : end_of c.in-Some.token ≡ place + c.len.result = omega (arith, h.from, c.len.ensures) in
    let end : end_of (cut text place) ≡ place + c.len.result = ap end_of (sym h.is) ∙ long in (
      subst (λ n. IsRead text n c.take.new.state) end
          (subst (λ s. IsRead text (end_of (cut text place)) s) (ap (state_behind c.loop-place.state) (sym h.is) ∙ sym c.in_ok-items.ensures.state)
          (one_more text utf8 place c.loop-place.state read h.within)),
      omega (arith, c.if-end-to.false),
    )
