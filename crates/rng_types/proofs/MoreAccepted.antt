-- What a type of dates, times or octets accepts are its literals.
use Rattle.rng_more_types.proofs.Decided.{literal_decided}
use Rattle.rng_types.specs.MoreLaws.{AcceptsLiterals}

pub accepts_literals : AcceptsLiterals
accepts_literals more facets text = (
  λ accepts. ((literal_decided more text).0 accepts.form, accepts.facets),
  λ is. record { form = (literal_decided more text).1 is.0; facets = is.1 },
)
