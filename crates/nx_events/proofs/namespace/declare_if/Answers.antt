use Rattle.std.proofs.Common.{◌++◌, ap, sym, ◌∙◌}
use Rattle.nx_events.specs.Faults.{faults_as_items}
use Rattle.nx_events.specs.Declarations.{is_declaration}
use Rattle.nx_events.proofs.KeptNames.{declared_more, declared_same, came_is, faults_are, pairs_are}
use Rattle.nx_events.proofs.namespace.declare_if.Goals as goal

pub returns-in_ok-declare-clause-faults : goal.returns-in_ok-declare-clause-faults
returns-in_ok-declare-clause-faults c before h =
    let it = c.args.it.now in
    let d = ap is_declaration (sym c.as_slice.ensures) ∙ sym c.is_declaration.ensures ∙ c.if-is_declaration.true in
    let came = came_is c.args.came.now.names.keys before it c.as_slice-then-is_declaration.result.now c.in_ok-is_double.is_double c.as_slice-then-is_declaration.ensures d c.in_ok-is_double.ensures.came h in
    c.in_ok-declare.ensures.faults ∙ ap (λ faults. c.args.items.now ++ faults_as_items faults) (faults_are before it c.in_ok-is_double.is_double d came)

pub returns-in_ok-declare-clause-pairs : goal.returns-in_ok-declare-clause-pairs
returns-in_ok-declare-clause-pairs c before h =
    let it = c.args.it.now in
    let d = ap is_declaration (sym c.as_slice.ensures) ∙ sym c.is_declaration.ensures ∙ c.if-is_declaration.true in
    let came = came_is c.args.came.now.names.keys before it c.as_slice-then-is_declaration.result.now c.in_ok-is_double.is_double c.as_slice-then-is_declaration.ensures d c.in_ok-is_double.ensures.came h in
    c.in_ok-declare.ensures.pairs ∙ ap (λ pairs. c.args.own.now ++ pairs) (pairs_are before it c.in_ok-is_double.is_double d came)

pub returns-in_ok-declare-clause-came : goal.returns-in_ok-declare-clause-came
returns-in_ok-declare-clause-came c before h =
    declared_more c.args.came.now.names.keys c.insert.new.self.names.keys before c.args.it.now c.as_slice-then-is_declaration.result.now c.as_slice-then-is_declaration.ensures
    c.in_ok-is_double.ensures.names h

pub returns-else-is_declaration-clause-came : goal.returns-else-is_declaration-clause-came
returns-else-is_declaration-clause-came c before h = declared_same c.args.came.now.names.keys before c.args.it.now (ap is_declaration (sym c.as_slice.ensures) ∙ sym c.is_declaration.ensures ∙ c.if-is_declaration.false) h
