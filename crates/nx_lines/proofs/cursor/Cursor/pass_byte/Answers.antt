use Rattle.std.proofs.Common.{arith}
use Rattle.nx_lines.proofs.cursor.Cursor.pass_byte.Goals as goal

pub overflow_add-self : goal.overflow_add-self
overflow_add-self c = let fits = c.requires.held.fits in let inside = c.requires.inside in omega (arith, fits, inside)
