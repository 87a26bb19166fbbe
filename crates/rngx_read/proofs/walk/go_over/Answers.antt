use Rattle.std.proofs.Common.{ℕ, sym, ◌∙◌, refl, ap, arith, subst, drop, ◌+◌}
use Rattle.std.proofs.lemmas.Result.{on_ok_weaker}
use Rattle.nx_events.specs.declared.state.EventState.{EventState}
use Rattle.nx_events.specs.Items.{items_of_token}
use Rattle.nx_events.proofs.Folding.{Ready, next_ready, end_ready}
use Rattle.rngx_read.specs.Walking.{walked_of, behind_all, IsSteady}
use Rattle.rngx_read.proofs.Walking.{steady_all, token_gone, end_gone}
use Rattle.rngx_read.proofs.walk.go_over.Goals as goal

pub take-requires-clause-place : goal.take-requires-clause-place
take-requires-clause-place c =
    let ready = c.loop-token.invariant.ready in
    (next_ready c.args.len ready.0 c.loop-token.state c.args.tokens.now c.loop-token.token-index c.token-item.result (omega arith) c.token-item.is ready.1).place

pub take-requires-clause-room : goal.take-requires-clause-room
take-requires-clause-room c =
    let ready = c.loop-token.invariant.ready in
    let next = next_ready c.args.len ready.0 c.loop-token.state c.args.tokens.now c.loop-token.token-index c.token-item.result (omega arith) c.token-item.is ready.1 in
    omega (arith, next.room, c.ranges.len.fits)

pub loop-token-preserved : goal.loop-token-preserved
loop-token-preserved c =
    let tokens = c.args.tokens.now in
    let i = c.loop-token.token-index in
    let ready = c.loop-token.invariant.ready in
    let next = next_ready c.args.len ready.0 c.loop-token.state tokens i c.token-item.result (omega arith) c.token-item.is ready.1 in
    let P : EventState → Type 0 = λ state. (at : ℕ) × Ready c.args.len at state (drop (i + 1) tokens) in
    let given = items_of_token c.loop-token.state c.token-item.result in
    let now = c.in_ok-take.ensures.walk in
    record {
      ready = subst P (sym c.in_ok-take.ensures.state) next.more;
      left =
          token_gone c.args.len c.loop-token.state c.take.new.state tokens i c.token-item.result given (walked_of c.loop-token.walk)
          (walked_of c.take.new.walk) _ (omega arith) c.token-item.is refl c.in_ok-take.ensures.state now c.loop-token.invariant.left;
      steady = subst IsSteady (sym now) (steady_all given (walked_of c.loop-token.walk) c.loop-token.invariant.steady);
    }

pub finish-requires : goal.finish-requires
finish-requires c =
    let ready = c.loop-token.invariant.ready in
    end_ready c.args.len ready.0 c.loop-token.state c.args.tokens.now c.loop-token.token-index (omega arith) ready.1

pub returns : goal.returns
returns c =
    let last = ap (λ items. behind_all items (walked_of c.loop-token.walk)) c.as_slice.ensures in
    on_ok_weaker c.add_all.result
    (λ now. end_gone c.args.len c.loop-token.state c.args.tokens.now c.loop-token.token-index c.in_ok-last.last
    (walked_of c.loop-token.walk) (walked_of c.add_all.new.walk) _ (omega arith) c.in_ok-last.ensures.items (now ∙ last)
    c.loop-token.invariant.left)
    c.add_all.ensures
