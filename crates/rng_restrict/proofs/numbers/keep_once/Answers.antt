use Rattle.std.proofs.Common.{eqb}
use Rattle.std.proofs.lemmas.List.Filters.{dedup_is}
use Rattle.rng_restrict.proofs.Alike.{once_alike}
use Rattle.rng_restrict.proofs.numbers.keep_once.Goals as goal

pub returns : goal.returns
returns c = once_alike c.args.numbers.now.items c.sort_unstable.new.self.items c.dedup.new.self.items c.sort_unstable.ensures.permutation (dedup_is eqb _ _ c.dedup.ensures.filtered)
