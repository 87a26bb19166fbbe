use Rattle.std.specs.Prelude.{map}
use Rattle.rng_core.specs.Meaning.{definition_of}
use Rattle.rng_restrict.proofs.Alike.{sides_once}
use Rattle.rng_restrict.proofs.element.+elements.Goals as goal

pub gather_sides-returns : goal.gather_sides-returns
gather_sides-returns t c =
    let one = rw c.as_slice.ensures.value at c.in_ok-fault.ensures in
    let both = rw c.as_slice-2.ensures.value at one in
    sides_once (map definition_of c.args.defs.now) c.args.found.now.items c.new-numbers.result.items c.new-others.result.items
    c.gather.new.found.items c.gather-2.new.found.items c.keep_once.new.numbers.items c.keep_once-2.new.numbers.items
    c.append.new.self.items c.append-2.new.self.items _ _ c.in_ok-first.first c.in_ok-second.second c.either-known.result c.in_ok-fault.fault _ _
    c.new-numbers.ensures.items c.new-others.ensures.items c.in_ok-first.ensures c.in_ok-second.ensures
    c.keep_once.ensures c.keep_once-2.ensures c.either-known.ensures both
    c.in_ok-append.ensures.items c.in_ok-append-2.ensures.items
