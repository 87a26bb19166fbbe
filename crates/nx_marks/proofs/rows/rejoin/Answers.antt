use Rattle.std.proofs.Common.{◌<◌, inr, Bool, length, subst, sym}
use Rattle.nx_marks.specs.Chain.{Kept}
use Rattle.nx_marks.specs.Joined.{seen}
use Rattle.nx_marks.specs.Right.{IsRightForSome}
use Rattle.nx_marks.proofs.Rejoining.{Rejoining, rejoin_began, rejoin_more, rejoin_some, rejoin_ended}
use Rattle.nx_marks.proofs.Seen.{nothing-joined, seen-settled}
use Rattle.nx_marks.proofs.rows.rejoin.Goals as goal

pub loop-kept-init : goal.loop-kept-init
loop-kept-init g c =
    let m = g.A.Machine in
    let a = c.args.machine.now in
    let P : Kept _ → Type 0 = λ j. Rejoining (m.is_state a) (m.means a) (m.rules a) c.args.kept.now j in
    subst P (sym c.kept.view_is) (rejoin_began (m.is_state a) (m.means a) (m.rules a) (g.met.A.Machine.rule_laws a) c.args.kept.now)

pub rejoin_one-kept-inside-requires-clause-right : goal.rejoin_one-kept-inside-requires-clause-right
rejoin_one-kept-inside-requires-clause-right g c =
    let m = g.A.Machine in
    let a = c.args.machine.now in
    let P : Bool → Type 0 = λ b. IsRightForSome (m.is_state a) (m.means a) (m.rules a) (seen b c.loop-kept.kept-inside.line) in
    subst P c.if-not-kept.true (rejoin_some (m.is_state a) (m.means a) (m.rules a) (g.met.A.Machine.rule_laws a) c.args.kept.now (seen c.loop-kept.kept-inside.joined c.loop-kept.kept-inside.line) c.loop-kept.invariant c.requires)

pub loop-kept-preserved : goal.loop-kept-preserved
loop-kept-preserved g c =
    let m = g.A.Machine in
    let a = c.args.machine.now in
    let line = c.loop-kept.kept-inside.line in
    let P : Bool → Type 0 = λ b. Rejoining (m.is_state a) (m.means a) (m.rules a) c.args.kept.now (seen b line) in
    rejoin_more (m.is_state a) (m.means a) (m.rules a) (g.met.A.Machine.rule_laws a) c.args.kept.now line (seen c.rejoin_one-kept-inside.result c.rejoin_one-kept-inside.new.line) (subst P c.if-not-kept.true c.loop-kept.invariant)
    (c.is_at_next.ensures.there c.loop-kept-test.true).0 c.rejoin_one-kept-inside.ensures

pub loop-kept-smaller : goal.loop-kept-smaller
loop-kept-smaller g c =
    let line = c.loop-kept.kept-inside.line in
    let P : Bool → Type 0 = λ b. length (seen c.rejoin_one-kept-inside.result c.rejoin_one-kept-inside.new.line).aside < length (seen b line).aside in
    subst P (sym c.if-not-kept.true) c.rejoin_one-kept-inside.ensures.fewer

pub returns-else-not-kept : goal.returns-else-not-kept
returns-else-not-kept g c =
    let m = g.A.Machine in
    let a = c.args.machine.now in
    let line = c.loop-kept.kept-inside.line in
    rejoin_ended (m.is_state a) (m.means a) (m.rules a) (g.met.A.Machine.rule_laws a) c.args.kept.now (seen c.loop-kept.kept-inside.joined line) c.loop-kept.invariant
    (inr (nothing-joined c.loop-kept.kept-inside.joined line c.if-not-kept.false))

pub returns-after-loop-kept : goal.returns-after-loop-kept
returns-after-loop-kept g c =
    let m = g.A.Machine in
    let a = c.args.machine.now in
    let line = c.loop-kept.kept-inside.line in
    rejoin_ended (m.is_state a) (m.means a) (m.rules a) (g.met.A.Machine.rule_laws a) c.args.kept.now (seen c.loop-kept.kept-inside.joined line) c.loop-kept.invariant
    (seen-settled c.loop-kept.kept-inside.joined line (c.is_at_next.ensures.not c.loop-kept-test.false))
