use Rattle.std.proofs.Common.{◌∙◌}
use Rattle.std.proofs.lemmas.Bool.Decides.{same_from_decides}
use Rattle.std.proofs.lemmas.Slice.Eq.{bytes_eq-Decides}
use Rattle.rng_more_types.specs.Spaces.{unspaced}
use Rattle.rng_more_types.proofs.Sixes.{base64_decides}
use Rattle.rng_more_types.proofs.octets.is_same_base64.Goals as goal

pub returns : goal.returns
returns c =
    c.are_same_unspaced.ensures ∙ same_from_decides _ _ (bytes_eq-Decides (unspaced c.args.a.now) (unspaced c.args.b.now)) (base64_decides (unspaced c.args.a.now) (unspaced c.args.b.now) c.requires.first c.requires.second)
