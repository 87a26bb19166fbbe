use Rattle.deriv_memory.proofs.Texts.{puts}
use Rattle.deriv_memory.proofs.numbered_texts.put.Goals as goal

pub returns-clause-ok : goal.returns-clause-ok
returns-clause-ok c = puts c.args.numbers.now c.insert.new.self c.args.text.items c.args.number c.in_ok-insert.ensures.updates
