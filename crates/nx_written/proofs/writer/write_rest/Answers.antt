use Rattle.std.proofs.Common.{List, refl, subst}
use Rattle.rng_fill.specs.Moves.{events_of}
use Rattle.nx_events.specs.declared.scope.Binding.{Binding}
use Rattle.nx_written.specs.Written.{IsRestText}
use Rattle.nx_written.proofs.Writing.{rest_written}
use Rattle.nx_written.proofs.writer.write_rest.Goals as goal

pub returns : goal.returns
returns c =
    subst (λ (s : List Binding). IsRestText c.args.open_tags.items s (events_of c.args.events.now) c.from_vec.result) c.in_ok-scope.ensures
    (rest_written c.in_ok-write_all.ensures refl c.new-2.ensures.items c.from_vec.ensures)
