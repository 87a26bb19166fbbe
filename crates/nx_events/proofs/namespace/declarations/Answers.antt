use Rattle.std.proofs.Common.{◌≡◌, ◌++◌, ap, arith, refl, rules, subst, take, []}
use Rattle.nx_events.specs.Declarations.{bindings}
use Rattle.nx_events.specs.SeenNames.{AreDeclared}
use Rattle.nx_events.proofs.Declarations.{next_before, declared_faults_more, declared_pairs_more, declared_faults_whole, declared_pairs_whole}
use Rattle.nx_events.proofs.namespace.declarations.Goals as goal

pub loop-it-init : goal.loop-it-init
loop-it-init c =
    let none : c.new-own.result ≡ [] = search rules in
    (refl, ap (λ pairs. pairs ++ bindings [] c.args.attributes.now) none, λ name d. c.new-came.ensures [] name)

pub loop-it-preserved : goal.loop-it-preserved
loop-it-preserved c =
    let xs = c.args.attributes.now in
    let i = c.loop-it.it-index in
    let it = c.it-item.result in
    let inv = c.loop-it.invariant in (
      declared_faults_more xs (take i xs) i it c.loop-it.items c.declare_if.new.items _ (omega arith) c.it-item.is refl (c.in_ok-declare_if.ensures.faults (take i xs) inv.2) inv.0,
      declared_pairs_more xs (take i xs) i it c.loop-it.own c.declare_if.new.own _ (omega arith) c.it-item.is refl (c.in_ok-declare_if.ensures.pairs (take i xs) inv.2) inv.1,
      subst (λ ys. AreDeclared c.declare_if.new.came.names.keys ys) (next_before xs i it (omega arith) c.it-item.is) (c.in_ok-declare_if.ensures.came (take i xs) inv.2),
    )

pub returns-clause-faults : goal.returns-clause-faults
returns-clause-faults c = declared_faults_whole c.args.attributes.now c.loop-it.it-index _ _ (omega arith) c.loop-it.invariant.0

pub returns-clause-pairs : goal.returns-clause-pairs
returns-clause-pairs c = declared_pairs_whole c.args.attributes.now c.loop-it.it-index _ _ (omega arith) c.loop-it.invariant.1
