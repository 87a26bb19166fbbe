use Rattle.std.proofs.Common.{sym, subst}
use Rattle.rng_fill.specs.declared.element.Task.{Task}
use Rattle.rng_fill.specs.Contents.{definitions_in, costs_in}
use Rattle.rng_fill.specs.Doing.{Steps}
use Rattle.rng_fill.proofs.Going.{ends}
use Rattle.rng_fill.proofs.contents.Contents.step.Goals as goal

pub returns-in_ok-push-in-Leave : goal.returns-in_ok-push-in-Leave
returns-in_ok-push-in-Leave c =
    let g = definitions_in c.args.self.now in
    let costs = costs_in c.args.self.now in
    record {
      steps =
          subst (λ (x : Task). Steps g costs x c.args.tasks.now.items c.args.tasks.now.items c.args.moves.now c.push.new.self) (sym c.in-Leave.is)
          (ends g costs c.args.tasks.now.items c.args.moves.now c.push.new.self c.requires.tasks c.in_ok-push-in-Leave.ensures.ok);
      heads = c.requires.heads;
    }
