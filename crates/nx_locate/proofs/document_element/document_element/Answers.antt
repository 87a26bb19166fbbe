use Rattle.std.proofs.Common.{◌≡◌, sym, subst, arith, ◌+◌, ◌≤◌, length, Option}
use Rattle.std.proofs.lemmas.Str.{IsCharBoundary-start}
use Rattle.nx_base.specs.Text.{IsPlace}
use Rattle.nx_base.specs.Tokens.{CutAt}
use Rattle.nx_base.specs.declared.token.Token.{Token}
use Rattle.nx_events.specs.Runs.{run_back}
use Rattle.nx_locate.specs.DocumentElements.{FirstElement}
use Rattle.nx_locate.proofs.Elements.{HasSeen, seen_none, first_back, seen_more, seen_found, none_found, seen_all, back_is}
use Rattle.nx_locate.proofs.Cutting.{next_place}
use Rattle.nx_locate.proofs.document_element.document_element.Goals as goal

pub loop-at-init : goal.loop-at-init
loop-at-init g c = record {
  place = IsCharBoundary-start c.args.text.now c.len-len.ensures.utf8;
  within = omega arith;
  back = first_back c.in_ok-state.state c.in_ok-state.ensures;
  seen = seen_none c.args.text.now c.in_ok-state.state c.in_ok-state.ensures;
  steps = omega arith;
}

pub returns-then-is_some-clause-element : goal.returns-then-is_some-clause-element
returns-then-is_some-clause-element g c =
    let text = c.args.text.now in
    let at = c.loop-at.at in
    let found = subst (λ (t : Option Token). CutAt text at t) c.in-Some.is c.in_ok-token.ensures.token in
    seen_found text c.loop-at.state at c.in-Some.token c.tokens_go_on.ensures c.tokens_fit.ensures c.len-len.ensures.utf8
    c.loop-at.invariant.place found.0 found.1 c.in_ok-items.items c.in_ok-found.found c.loop-at.invariant.seen c.in_ok-items.ensures.items
    (sym c.if-is_some.ensures)
    (subst (λ all. FirstElement text all c.in_ok-found.found) c.as_slice.ensures c.in_ok-found.ensures)

pub loop-at-preserved : goal.loop-at-preserved
loop-at-preserved g c =
    let text = c.args.text.now in
    let at = c.loop-at.at in
    let token = c.in-Some.token in
    let found = subst (λ (t : Option Token). CutAt text at t) c.in-Some.is c.in_ok-token.ensures.token in
    let n : c.len-at.result ≡ length token.bytes = c.len-at.ensures in
    let next : IsPlace text (at + c.len-at.result) =
    subst (λ k. IsPlace text (at + k)) (sym n) (next_place text at token c.tokens_fit.ensures c.len-len.ensures.utf8 c.loop-at.invariant.place
    found.0 found.1) in
    record {
      place = next;
      within = next.0;
      back =
          subst (λ k. run_back c.take.new.state.run ≤ at + k) (sym n)
          (back_is c.loop-at.state c.take.new.state token at c.loop-at.invariant.back c.in_ok-items.ensures.state);
      seen =
          subst (λ k. HasSeen text c.take.new.state (at + k)) (sym n)
          (seen_more text c.loop-at.state at token c.tokens_go_on.ensures c.tokens_fit.ensures c.len-len.ensures.utf8
          c.loop-at.invariant.place found.0 found.1 c.in_ok-items.items c.take.new.state c.loop-at.invariant.seen c.in_ok-items.ensures.items
          c.in_ok-items.ensures.state (none_found text c.in_ok-items.items c.in_ok-found.found (sym c.if-is_some.ensures)
          (subst (λ all. FirstElement text all c.in_ok-found.found) c.as_slice.ensures c.in_ok-found.ensures)));
      steps = omega (arith, c.loop-at.invariant.steps, c.in_ok-token.ensures.step);
    }

pub returns-clause-element : goal.returns-clause-element
returns-clause-element g c =
    seen_all c.args.text.now c.loop-at.state c.loop-at.at c.loop-at.invariant.seen (omega (arith, c.loop-at-test.false, c.len-len.ensures.bytes))
