use Rattle.rng_core.specs.Meaning.{class_of}
use Rattle.rng_fill.proofs.Trying.{tried_all}
use Rattle.rng_fill.proofs.names.unmentioned_name.Goals as goal

pub returns : goal.returns
returns c =
    tried_all c.args.bearer (class_of c.args.class.now) c.in_ok-short.short c.in_ok-long.long c.as_slice-3.result.now c.as_slice-4.result.now
    c.as_slice-2.result.now c.in_ok-name-2.field-0 c.in_ok-found.found c.in_ok-short.ensures c.in_ok-long.ensures c.as_slice-2.ensures
    c.in_ok-name-2.ensures c.in_default-2.is c.as_slice-3.ensures c.as_slice-4.ensures c.in_ok-found.ensures
