use Rattle.deriv_memory.proofs.Holding.{free_numbers}
use Rattle.deriv_memory.proofs.block.Block.new.Goals as goal

pub returns : goal.returns
returns c = λ local. free_numbers 256 local 0
