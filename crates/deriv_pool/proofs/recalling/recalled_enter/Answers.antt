use Rattle.std.proofs.Common.{map, subst, IfSome}
use Rattle.nx_base.specs.declared.name.Name.{Name}
use Rattle.rng_core.specs.Meaning.{definition_of}
use Rattle.rng_kept.specs.Entering.{enter}
use Rattle.rng_kept.specs.Merging.{answered}
use Rattle.rng_live.specs.Calls.{Answers}
use Rattle.deriv_pool.specs.Meaning.{IsState, means_in}
use Rattle.deriv_pool.proofs.Remembering.{name_is}
use Rattle.deriv_pool.proofs.recalling.recalled_enter.Goals as goal

pub returns-clause-found : goal.returns-clause-found
returns-clause-found c =
    let places = c.args.states.now in
    let P : Name → Type 0 = λ n. IfSome c.recalled.result (Answers (IsState places) (means_in places)
    (answered (enter (map definition_of c.args.defs.now) n (means_in places c.args.state)))) in
    subst P (name_is c.args.memory.now.texts c.args.name.now (c.in_ok-ns.ns, c.in_ok-ns.local) c.in_ok-ns.ensures.found) c.recalled.ensures.found
