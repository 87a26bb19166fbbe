use Rattle.std.proofs.Common.{◌≡◌, ◌∷◌, ◌∙◌, sym, ap, refl, subst, arith, ◌+◌, ◌≤◌, length, List, ℕ, Option}
use Rattle.std.proofs.lemmas.Str.{IsCharBoundary-start}
use Rattle.nx_base.specs.Text.{IsPlace}
use Rattle.nx_base.specs.Tokens.{CutAt, tokens_from}
use Rattle.nx_base.specs.declared.token.Token.{Token}
use Rattle.nx_locate.specs.NamedSchemas.{first_named, named_schema}
use Rattle.nx_locate.proofs.Cutting.{next_place, no_tokens}
use Rattle.nx_locate.proofs.Named.{named_none, named_tag, named_here, named_later, from_token}
use Rattle.nx_locate.proofs.xml_model.named_schema.Goals as goal

pub loop-at-init : goal.loop-at-init
loop-at-init g c = record {
  place = IsCharBoundary-start c.args.text.now c.len-len.ensures.utf8;
  within = omega arith;
  named = refl;
  steps = omega arith;
}

pub returns-then-is_tag-clause-named : goal.returns-then-is_tag-clause-named
returns-then-is_tag-clause-named g c =
    let text = c.args.text.now in
    let at = c.loop-at.at in
    let token = c.in-Some.token in
    let found = subst (λ (t : Option Token). CutAt text at t) c.in-Some.is c.in_ok-token.ensures.token in
    sym (named_tag token (tokens_from text (at + length token.bytes)) (sym c.if-is_tag.ensures))
    ∙ from_token text at token c.tokens_fit.ensures c.len-len.ensures.utf8 c.loop-at.invariant.place found.0 found.1 c.tokens_go_on.ensures c.loop-at.invariant.named

pub returns-then-is_some-clause-named : goal.returns-then-is_some-clause-named
returns-then-is_some-clause-named g c =
    let text = c.args.text.now in
    let at = c.loop-at.at in
    let token = c.in-Some.token in
    let found = subst (λ (t : Option Token). CutAt text at t) c.in-Some.is c.in_ok-token.ensures.token in
    sym (named_here token (tokens_from text (at + length token.bytes)) c.in_ok-named.named (sym c.if-is_tag.ensures) c.in_ok-named.ensures.schema (sym c.if-is_some.ensures))
    ∙ from_token text at token c.tokens_fit.ensures c.len-len.ensures.utf8 c.loop-at.invariant.place found.0 found.1 c.tokens_go_on.ensures c.loop-at.invariant.named

pub loop-at-preserved : goal.loop-at-preserved
loop-at-preserved g c =
    let text = c.args.text.now in
    let at = c.loop-at.at in
    let token = c.in-Some.token in
    let found = subst (λ (t : Option Token). CutAt text at t) c.in-Some.is c.in_ok-token.ensures.token in
    let n : c.len-at.result ≡ length token.bytes = c.len-at.ensures in
    let next : IsPlace text (at + c.len-at.result) =
    subst (λ k. IsPlace text (at + k)) (sym n) (next_place text at token c.tokens_fit.ensures c.len-len.ensures.utf8 c.loop-at.invariant.place
    found.0 found.1) in
    record {
      place = next;
      within = next.0;
      named =
          subst (λ k. first_named (tokens_from text (at + k)) ≡ named_schema text) (sym n)
          (sym (named_later token (tokens_from text (at + length token.bytes)) c.in_ok-named.named (sym c.if-is_tag.ensures) c.in_ok-named.ensures.schema (sym c.if-is_some.ensures))
          ∙ from_token text at token c.tokens_fit.ensures c.len-len.ensures.utf8 c.loop-at.invariant.place found.0 found.1 c.tokens_go_on.ensures c.loop-at.invariant.named);
      steps = omega (arith, c.loop-at.invariant.steps, c.in_ok-token.ensures.step, c.in_ok-named.ensures.steps);
    }

pub returns-clause-named : goal.returns-clause-named
returns-clause-named g c =
    sym named_none
    ∙ sym (ap first_named (no_tokens c.args.text.now c.loop-at.at (omega (arith, c.loop-at-test.false, c.len-len.ensures.bytes))))
    ∙ c.loop-at.invariant.named
