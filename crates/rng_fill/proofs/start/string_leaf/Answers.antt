use Rattle.std.proofs.Common.{sym, ◌∙◌, arith}
use Rattle.rng_fill.proofs.Adding.{string_found}
use Rattle.rng_fill.proofs.start.string_leaf.Goals as goal

pub returns-then-is_string : goal.returns-then-is_string
returns-then-is_string c =
    string_found c.args.leaves.now c.loop-leaf.leaf-index c.leaf-item.result (omega arith) c.leaf-item.is c.loop-leaf.invariant
    (sym c.is_string.ensures ∙ c.if-is_string.true)
