-- what is made of the files so far, and of those that are left, is what is made of all
use Rattle.std.proofs.Common.{◌≡◌}
use Rattle.rng_simplify.specs.MadeCells.{files_made, stock_of}
use Rattle.rng_simplify.proofs.compose.Composer.files.Given as goal

abbrev pub invariant-loop-file : goal.invariant-loop-file
invariant-loop-file l = files_made l.file-iterator.rest.items (stock_of l.self) ≡ files_made l.fn.loaded.items (stock_of l.fn.self)
