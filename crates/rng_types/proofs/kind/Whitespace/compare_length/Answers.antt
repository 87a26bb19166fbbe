use Rattle.std.proofs.Common.{refl}
use Rattle.rng_types.proofs.Lengths.{length-replaced}
use Rattle.rng_types.proofs.kind.Whitespace.compare_length.Goals as goal

pub returns-in-Replace : goal.returns-in-Replace
returns-in-Replace c =
    rw c.in-Replace.is (rw (length-replaced c.args.text.now c.utf8.text, c.cmp-in-Replace.ensures, c.char_count-in-Replace.ensures) refl)
