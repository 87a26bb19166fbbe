use Rattle.std.proofs.Common.{refl, ap, ◌∙◌}
use Rattle.rng_more_types.specs.declared.more_type.MoreType.{MoreType}
use Rattle.rng_more_types.specs.declared.more_type.MoreType.TheVariants.{HexBinary, Base64Binary}
use Rattle.rng_types.specs.declared.kind.Form.TheVariants.{More}
use Rattle.rng_types.proofs.MoreMembers.{no_octets_accepted}
use Rattle.rng_types.proofs.datatype.Datatype.has_more.Goals as goal

pub has_octets-requires-clause-empty : goal.has_octets-requires-clause-empty
has_octets-requires-clause-empty c = λ allowed.
    no_octets_accepted c.args.self.now HexBinary (c.requires.form ∙ ap (λ (more : MoreType). More more) c.in-HexBinary.is) refl c.requires.made allowed

pub has_octets-requires-in-Base64Binary-clause-empty : goal.has_octets-requires-in-Base64Binary-clause-empty
has_octets-requires-in-Base64Binary-clause-empty c = λ allowed.
    no_octets_accepted c.args.self.now Base64Binary (c.requires.form ∙ ap (λ (more : MoreType). More more) c.in-Base64Binary.is) refl c.requires.made allowed
