use Rattle.std.proofs.Common.{◌≡◌, true, None, drop, map}
use Rattle.std.specs.Prelude.{IfSome, option_copied}
use Rattle.rng_types.specs.Numbers.{is_integer}
use Rattle.rng_types.specs.Offsets.{end_of}
use Rattle.rng_types.specs.NumberMembers.{limit_over}
use Rattle.rng_types.proofs.Raised.{raised_by}
use Rattle.rng_types.proofs.integers.lower_end.Given as goal

abbrev pub invariant-loop-facet : goal.invariant-loop-facet
invariant-loop-facet l = record {
  integer : IfSome l.low (λ text. is_integer text.now ≡ true);
  value : raised_by (end_of (option_copied l.low)) (map (limit_over 0) (drop l.facet-index l.facets)) ≡ raised_by None (map (limit_over 0) l.facets);
}
