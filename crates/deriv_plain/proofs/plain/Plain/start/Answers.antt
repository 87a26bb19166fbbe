use Rattle.std.proofs.Common.{sym, subst}
use Rattle.std.proofs.Math.Logic.{∥∥₁_elim}
use Rattle.rng_core.specs.declared.grammar.Grammar.{Grammar}
use Rattle.rng_core.specs.Meaning.{pattern_of}
use Rattle.deriv_pattern.specs.Leaves.{IsInOrder}
use Rattle.deriv_pattern.proofs.Props.{in_order_alike}
use Rattle.deriv_plain.proofs.plain.Plain.start.Goals as goal

pub returns-clause-order : goal.returns-clause-order
returns-clause-order c =
    subst (λ (g : Grammar). IsInOrder (pattern_of g.start)) (sym c.grammar.ensures)
    (∥∥₁_elim c.args.self.now.sound (in_order_alike (pattern_of c.args.self.now.schema.grammar.start)) (λ s. c.sound_are_in_order.ensures _ _ s.start_is))
