use Rattle.std.proofs.Common.{◌≡◌, List, Option, IfOk, map, sym, subst}
use Rattle.nx_base.specs.declared.name.Name.{Name}
use Rattle.rng_core.specs.Meaning.{definition_of}
use Rattle.rng_core.specs.Patterns.{Pattern}
use Rattle.rng_kept.specs.Needed as s
use Rattle.deriv_nodes.proofs.nodes.Nodes.+front_names.Goals as goal

pub returns-in-Group : goal.returns-in-Group
returns-in-Group t c =
    let front : Pattern → Option (List Name) = λ q. s.front_names (map definition_of c.args.defs.now) c.args.name.now q in
    subst (λ (q : Pattern). IfOk c.one_behind.result (λ names. names ≡ front q)) (sym c.in-Group.ensures.is)
    (c.one_behind.ensures _ _ c.front_names-in-Group.ensures c.front_names-in-Group-2.ensures)
