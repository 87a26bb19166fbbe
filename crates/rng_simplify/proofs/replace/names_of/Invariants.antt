-- the names of the definitions so far
use Rattle.std.proofs.Common.{◌≡◌, take, is_some}
use Rattle.rnc_parse.specs.declared.surface.Defined.{Defined}
use Rattle.rng_simplify.specs.NameTables.{kept_for}
use Rattle.rng_simplify.specs.MadeCells.{is_defined}
use Rattle.rng_simplify.proofs.replace.names_of.Given as goal

abbrev pub invariant-loop-clause : goal.invariant-loop-clause
invariant-loop-clause l = (name : Defined) → is_some (kept_for l.names name) ≡ is_defined (take l.clause-index l.clauses) name
