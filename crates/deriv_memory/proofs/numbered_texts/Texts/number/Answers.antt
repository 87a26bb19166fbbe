use Rattle.std.proofs.Common.{◌∙◌}
use Rattle.deriv_memory.specs.Texts.{texts_in}
use Rattle.deriv_memory.proofs.Texts.{looked_up, looked_up_none}
use Rattle.deriv_memory.proofs.numbered_texts.Texts.number.Goals as goal

pub returns-clause-found : goal.returns-clause-found
returns-clause-found c =
    rw (← c.self.view_is) (looked_up (texts_in c.self.inside.texts.items) c.self.inside.numbers c.args.text.now c.self.invariant c.copied.result (c.copied.ensures ∙ c.get.ensures.value))

pub returns-clause-none : goal.returns-clause-none
returns-clause-none c =
    rw (← c.self.view_is) (looked_up_none (texts_in c.self.inside.texts.items) c.self.inside.numbers c.args.text.now c.self.invariant c.copied.result (c.copied.ensures ∙ c.get.ensures.value))
