use Rattle.std.proofs.Common.{refl, ap}
use Rattle.nx_recover.specs.declared.levels.Open.TheVariants.{Lost}
use Rattle.nx_recover.specs.States.{changed}
use Rattle.nx_recover.specs.Table.{begun}
use Rattle.std.specs.Prelude.{None, option_map}
use Rattle.nx_recover.proofs.Tops.{begins}
use Rattle.nx_recover.proofs.event.take_lost.Goals as goal

pub returns : goal.returns
returns g c =
    let a = c.args.matcher.now in
    let laws = g.met.M.Matcher.laws in
    let around = c.in_ok-around.around in
    record {
      gives = begins laws (laws.same a) c.args.levels.now c.args.change.now c.push.new.change _ c.requires
          (begun None (Lost (option_map (g.M.Matcher.means a) (changed c.args.levels.now c.args.change.now).here)) None) (record { here = None; element = Lost around; flaw = None })
          (record { here = tt; meaning = refl; state = c.in_ok-around.ensures.state; element = ap (λ o. Lost o) (rw c.here.ensures at c.in_ok-around.ensures.meaning); flaw = refl })
          c.in_ok-flaw.ensures;
    }
