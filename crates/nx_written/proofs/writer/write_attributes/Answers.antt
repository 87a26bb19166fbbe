use Rattle.std.proofs.Common.{List, refl, ap, drop, subst, ◌∙◌}
use Rattle.rng_fill.specs.Moves.{events_of}
use Rattle.nx_events.specs.declared.scope.Binding.{Binding}
use Rattle.nx_written.specs.Written.{IsBegunText}
use Rattle.nx_written.proofs.Writing.{begun_written}
use Rattle.nx_written.proofs.writer.write_attributes.Goals as goal

pub returns : goal.returns
returns c =
    subst (λ (s : List Binding). IsBegunText c.args.open_tags.items s (events_of c.args.events.now) c.without_first.result) c.in_ok-scope.ensures
    (begun_written c.in_ok-write_all.ensures refl c.new-2.ensures.items (c.without_first.ensures ∙ ap (drop 1) c.from_vec.ensures))
