use Rattle.std.proofs.Common.{◌≡◌, ℕ, Option, Some, arith, sym, subst}
use Rattle.nx_base.specs.Tokens.{CutAt}
use Rattle.nx_base.specs.declared.token.Token.{Token}
use Rattle.nx_complete.proofs.Walk.{found}
use Rattle.nx_complete.proofs.walking.token_before.Goals as goal

pub returns-then-at-here-clause-token : goal.returns-then-at-here-clause-token
returns-then-at-here-clause-token g c =
    let m = g.A.Machine in
    let b = c.loop-token.machine in
    let h = c.loop-token.invariant in
    let cuts = subst (λ (o : Option Token). CutAt c.args.text.now c.loop-token.here o) c.in-Some.is c.in_ok-token.ensures.token in
    found (m.is_state b) (m.means b) (m.rules b) c.args.text.now c.loop-token.here c.args.at c.loop-token.state c.in-Some.token c.len-len.ensures.utf8 h.behind cuts.0 h.before cuts.1
    (omega (arith, c.if-at-here.true, c.len.ensures))

pub loop-token-preserved : goal.loop-token-preserved
loop-token-preserved g c = record {
  later = g.met.A.Machine.laws.chain _ _ _ c.loop-token.invariant.later c.in_ok-here.ensures.later;
  behind = c.in_ok-here.ensures.behind;
  before = omega (arith, c.in_ok-here.ensures.next, c.if-at-here.false, c.len.ensures);
}
