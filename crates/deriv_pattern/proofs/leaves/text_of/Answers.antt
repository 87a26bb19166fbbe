use Rattle.std.proofs.lemmas.Str.{IsUtf8-from_is_utf8}
use Rattle.deriv_pattern.proofs.leaves.text_of.Goals as goal

pub unreachable-requires : goal.unreachable-requires
unreachable-requires c = absurd ((c.in_default.ensures {u = tt}).cases.0 (IsUtf8-from_is_utf8 c.args.bytes.now c.requires))
