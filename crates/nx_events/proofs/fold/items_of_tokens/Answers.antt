use Rattle.std.proofs.Common.{ℕ, List, sym, ◌∙◌, ap, arith, subst}
use Rattle.nx_base.specs.Tokens.{tokens_of}
use Rattle.nx_base.specs.declared.token.Token.{Token}
use Rattle.nx_events.specs.Items.{items_of}
use Rattle.nx_events.specs.declared.state.EventState.{EventState}
use Rattle.std.specs.Prelude.{drop, ◌+◌}
use Rattle.nx_events.proofs.Folding.{Ready, next_ready, fold_more, fold_whole, end_ready}
use Rattle.nx_events.proofs.fold.items_of_tokens.Goals as goal

pub take-requires-clause-place : goal.take-requires-clause-place
take-requires-clause-place c =
    let ready = c.loop-token.invariant.0 in
    (next_ready c.args.len ready.0 c.loop-token.state c.args.tokens.now c.loop-token.token-index c.token-item.result (omega arith) c.token-item.is ready.1).place

pub take-requires-clause-room : goal.take-requires-clause-room
take-requires-clause-room c =
    let ready = c.loop-token.invariant.0 in
    let next = next_ready c.args.len ready.0 c.loop-token.state c.args.tokens.now c.loop-token.token-index c.token-item.result (omega arith) c.token-item.is ready.1 in
    omega (arith, next.room, c.ranges.len.fits)

pub loop-token-preserved : goal.loop-token-preserved
loop-token-preserved c =
    let tokens = c.args.tokens.now in
    let i = c.loop-token.token-index in
    let ready = c.loop-token.invariant.0 in
    let next = next_ready c.args.len ready.0 c.loop-token.state tokens i c.token-item.result (omega arith) c.token-item.is ready.1 in
    let P : EventState → Type 0 = λ state. (at : ℕ) × Ready c.args.len at state (drop (i + 1) tokens) in (
      subst P (sym c.in_ok-more.ensures.state) next.more,
      fold_more c.args.len c.loop-token.state c.take.new.state tokens i c.token-item.result c.in_ok-more.more c.loop-token.items c.append.new.self _ (omega arith) c.token-item.is
          c.in_ok-more.ensures.items c.in_ok-more.ensures.state c.in_ok-append.ensures.ok c.loop-token.invariant.1,
    )

pub finish-requires : goal.finish-requires
finish-requires c =
    let ready = c.loop-token.invariant.0 in
    end_ready c.args.len ready.0 c.loop-token.state c.args.tokens.now c.loop-token.token-index (omega arith) ready.1

pub returns-clause-items : goal.returns-clause-items
returns-clause-items c =
    fold_whole c.args.len c.loop-token.state c.args.tokens.now c.loop-token.token-index c.in_ok-more-2.more c.loop-token.items c.append-2.new.self _ (omega arith)
    c.in_ok-more-2.ensures.items c.in_ok-append-2.ensures.ok c.loop-token.invariant.1

pub returns-clause-text : goal.returns-clause-text
returns-clause-text c text same len =
    returns-clause-items c ∙ ap (λ (ts : List Token). items_of ts c.args.len) same ∙ ap (items_of (tokens_of text)) len
