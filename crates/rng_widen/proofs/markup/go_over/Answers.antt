use Rattle.std.proofs.Common.{ℕ, sym, ◌∙◌, ap, arith, subst, drop, ◌+◌}
use Rattle.std.proofs.lemmas.Result.{on_ok_weaker}
use Rattle.nx_events.specs.declared.state.EventState.{EventState}
use Rattle.nx_events.proofs.Folding.{Ready, next_ready, end_ready}
use Rattle.rng_widen.specs.MarkupViews.{walked_of}
use Rattle.rng_widen.specs.MarkupWidenings.{behind_items}
use Rattle.rng_widen.proofs.MarkupLoops.{token_gone, end_gone}
use Rattle.rng_widen.proofs.markup.go_over.Goals as goal

pub take-requires-clause-place : goal.take-requires-clause-place
take-requires-clause-place c =
    let ready = c.loop-token.invariant.ready in
    (next_ready c.args.len ready.0 c.loop-token.state c.args.tokens.now c.loop-token.token-index c.token-item.result (omega arith) c.token-item.is ready.1).place

pub take-requires-clause-room : goal.take-requires-clause-room
take-requires-clause-room c =
    let ready = c.loop-token.invariant.ready in
    let next = next_ready c.args.len ready.0 c.loop-token.state c.args.tokens.now c.loop-token.token-index c.token-item.result (omega arith) c.token-item.is ready.1 in
    omega (arith, next.room, c.ranges.len.fits)

pub loop-token-preserved : goal.loop-token-preserved
loop-token-preserved c =
    let tokens = c.args.tokens.now in
    let i = c.loop-token.token-index in
    let ready = c.loop-token.invariant.ready in
    let next = next_ready c.args.len ready.0 c.loop-token.state tokens i c.token-item.result (omega arith) c.token-item.is ready.1 in
    let P : EventState → Type 0 = λ state. (at : ℕ) × Ready c.args.len at state (drop (i + 1) tokens) in
    let now = c.in_ok-add_all.ensures ∙ ap (λ items. behind_items items (walked_of c.loop-token.walk)) c.as_slice.ensures in
    record {
      ready = subst P (sym c.in_ok-items.ensures.state) next.more;
      left =
          token_gone c.args.len c.loop-token.state c.take.new.state tokens i c.token-item.result c.in_ok-items.items
          (walked_of c.loop-token.walk) (walked_of c.add_all.new.walk) _ (omega arith) c.token-item.is c.in_ok-items.ensures.items
          c.in_ok-items.ensures.state now c.loop-token.invariant.left;
    }

pub finish-requires : goal.finish-requires
finish-requires c =
    let ready = c.loop-token.invariant.ready in
    end_ready c.args.len ready.0 c.loop-token.state c.args.tokens.now c.loop-token.token-index (omega arith) ready.1

pub returns : goal.returns
returns c =
    let last = ap (λ items. behind_items items (walked_of c.loop-token.walk)) c.as_slice-2.ensures in
    on_ok_weaker c.add_all-2.result
    (λ now. end_gone c.args.len c.loop-token.state c.args.tokens.now c.loop-token.token-index c.in_ok-items-2.items
    (walked_of c.loop-token.walk) (walked_of c.add_all-2.new.walk) _ (omega arith) c.in_ok-items-2.ensures.items (now ∙ last)
    c.loop-token.invariant.left)
    c.add_all-2.ensures
