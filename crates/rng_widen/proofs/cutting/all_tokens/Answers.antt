use Rattle.std.proofs.Common.{◌≡◌, sym, arith, subst, ◌+◌, ◌++◌, length, Option}
use Rattle.std.proofs.lemmas.Str.{IsCharBoundary-start}
use Rattle.nx_base.specs.Text.{IsPlace}
use Rattle.nx_base.specs.Tokens.{CutAt, tokens_from, tokens_of}
use Rattle.nx_base.specs.declared.token.Token.{Token}
use Rattle.rng_widen.proofs.Cuts.{first_tokens, more_tokens, all_tokens, next_place}
use Rattle.rng_widen.proofs.cutting.all_tokens.Goals as goal

pub loop-at-init : goal.loop-at-init
loop-at-init g c = record {
  place = IsCharBoundary-start c.args.text.now c.len-len.ensures.utf8;
  within = omega arith;
  tokens = first_tokens c.args.text.now c.new-tokens.result.items c.new-tokens.ensures.items;
}

pub loop-at-preserved : goal.loop-at-preserved
loop-at-preserved g c =
    let text = c.args.text.now in
    let at = c.loop-at.at in
    let token = c.in-Some.token in
    let utf8 = c.len-len.ensures.utf8 in
    let found = subst (λ (t : Option Token). CutAt text at t) c.in-Some.is c.in_ok-token.ensures.token in
    let n : c.len-at.result ≡ length token.bytes = c.len-at.ensures in
    let next : IsPlace text (at + c.len-at.result) =
    subst (λ k. IsPlace text (at + k)) (sym n) (next_place text at token c.tokens_fit.ensures utf8 c.loop-at.invariant.place found.0 found.1) in
    record {
      place = next;
      within = next.0;
      tokens =
          subst (λ k. c.push.new.self.items ++ tokens_from text (at + k) ≡ tokens_of text) (sym n)
          (more_tokens text at token c.tokens_fit.ensures utf8 c.loop-at.invariant.place found.0 found.1 c.tokens_go_on.ensures
          c.loop-at.tokens.items c.push.new.self.items (tokens_of text) c.loop-at.invariant.tokens c.in_ok-push.ensures.items);
    }

pub returns : goal.returns
returns g c =
    all_tokens c.args.text.now c.loop-at.at c.loop-at.tokens.items c.loop-at.invariant.tokens
    (omega (arith, c.loop-at-test.false, c.len-len.ensures.bytes))
