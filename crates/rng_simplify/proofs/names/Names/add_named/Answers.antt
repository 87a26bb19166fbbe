use Rattle.std.proofs.Common.{◌∙◌, refl}
use Rattle.rnc_parse.specs.declared.surface.Defined.TheVariants as defined
use Rattle.rng_simplify.proofs.Entries.{keeps_one}
use Rattle.rng_simplify.proofs.names.Names.add_named.Goals as goal

pub returns : goal.returns
returns g c =
    keeps_one c.args.self.now c.insert.new.self c.in_ok-key.key c.args.value (defined.Name c.args.name.now) c.args.name.now refl
    (c.in_ok-key.ensures.items ∙ c.as_slice.ensures) c.in_ok-insert.ensures.entries
