use Rattle.std.proofs.Common.{arith}
use Rattle.nx_lines.proofs.cursor.ends_line_at.Goals as goal

pub overflow_add-at : goal.overflow_add-at
overflow_add-at c = let fits = c.requires.held.fits in omega arith
