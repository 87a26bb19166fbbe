use Rattle.std.proofs.Common.{◌∙◌, subst, IsUtf8}
use Rattle.rng_simplify.specs.LoadedFiles.{SaysIn}
use Rattle.rng_simplify.proofs.Loading.{says_text}
use Rattle.rng_simplify.proofs.load.surface_of.Goals as goal

pub returns-in-Ok-clause-said : goal.returns-in-Ok-clause-said
returns-in-Ok-clause-said g c =
    says_text c.args.uri.now c.args.bytes.now c.surface_in.result (subst (λ bytes. IsUtf8 bytes) c.as_slice.ensures c.in-Ok.ensures.cases.1)
    (subst (λ text. SaysIn text c.surface_in.result) (c.in-Ok.ensures.cases.0 ∙ c.as_slice.ensures) c.surface_in.ensures.said)
