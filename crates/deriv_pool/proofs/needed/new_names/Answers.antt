use Rattle.std.proofs.Common.{map, option_copied, ap, ◌∙◌}
use Rattle.std.proofs.Math.Logic.{∥∥₁_map}
use Rattle.rng_core.specs.Meaning.{definition_of}
use Rattle.deriv_pool.specs.Kept.{IsKept, ordered}
use Rattle.deriv_pool.proofs.needed.new_names.Goals as goal

pub returns-in_err-keep-clause-right : goal.returns-in_err-keep-clause-right
returns-in_err-keep-clause-right c =
    let g = map definition_of c.args.defs.now in
    let nodes = c.args.states.now.patterns in
    let is : IsKept g nodes c.args.p (option_copied c.args.skip) c.in_ok-names.names = record { node = c.requires.node; are = c.in_ok-names.ensures ∙ ap ordered c.in_ok-found.ensures } in
    ∥∥₁_map c.requires.right (λ are. c.keep.ensures g nodes are is)

pub returns-clause-right : goal.returns-clause-right
returns-clause-right c =
    let g = map definition_of c.args.defs.now in
    let nodes = c.args.states.now.patterns in
    let is : IsKept g nodes c.args.p (option_copied c.args.skip) c.in_ok-names.names = record { node = c.requires.node; are = c.in_ok-names.ensures ∙ ap ordered c.in_ok-found.ensures } in
    ∥∥₁_map c.requires.right (λ are. c.keep.ensures g nodes are is)
