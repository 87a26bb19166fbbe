use Rattle.std.proofs.Common.{Option, subst}
use Rattle.nx_base.specs.declared.name.Name.{Name}
use Rattle.rng_core.specs.declared.name_class.Bearer.TheVariants.{Element}
use Rattle.rng_fill.specs.Contents.{definitions_in, costs_in}
use Rattle.rng_fill.specs.Strings.{IsNameAnswer}
use Rattle.rng_fill.proofs.Going.{named_start}
use Rattle.rng_fill.proofs.contents.Contents.start.Goals as goal

pub returns-clause-steps : goal.returns-clause-steps
returns-clause-steps c =
    let w = c.in_ok-name.ensures.head in
    named_start (definitions_in c.args.self.now) (costs_in c.args.self.now) c.args.number w.definition c.in-Some.name
    c.args.tasks.now.items c.begin.new.tasks.items c.args.moves.now c.push.new.self c.begin.new.moves w.at
    (subst (λ (o : Option Name). IsNameAnswer Element w.definition.class o) c.in-Some.is w.name)
    c.in_ok-push.ensures.ok c.in_ok-begin.ensures
