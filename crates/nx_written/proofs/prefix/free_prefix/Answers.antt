use Rattle.std.proofs.Common.{ap, sym, ◌∙◌, arith}
use Rattle.nx_events.specs.Scopes.{last_uri}
use Rattle.nx_written.proofs.Prefixes.{number_free, none_copied}
use Rattle.nx_written.proofs.prefix.free_prefix.Goals as goal

pub returns-then-is_none : goal.returns-then-is_none
returns-then-is_none c =
    let below = c.loop-number-test.true in
    number_free c.args.scope.now c.from_vec.result c.loop-number.number (omega (arith, below)) (c.from_vec.ensures ∙ c.in_ok-prefix.ensures)
    (ap (last_uri c.args.scope.now) (c.from_vec.ensures ∙ sym c.deref.ensures.value) ∙ sym c.last_uri.ensures ∙ none_copied c.last_uri.result c.if-is_none.ensures)
