use Rattle.std.proofs.Common.{map, option_copied, ◌∙◌}
use Rattle.rng_core.specs.Meaning.{definition_of}
use Rattle.deriv_nodes.proofs.IfOk.{if_ok}
use Rattle.deriv_pool.proofs.Kept.{names_found}
use Rattle.deriv_pool.proofs.needed.view_names.Goals as goal

pub returns-in-Some-clause-gives : goal.returns-in-Some-clause-gives
returns-in-Some-clause-gives c =
    let g = map definition_of c.args.defs.now in
    let nodes = c.args.states.now.patterns in
    let found = names_found g nodes c.args.kept.now.entries.items c.args.p (option_copied c.args.skip) c.in-Some.names.now c.requires.right
    (λ are. c.in-Some.ensures g nodes are) in
    if_ok c.own_names.result c.own_names.ensures (λ copied is. is ∙ found)
