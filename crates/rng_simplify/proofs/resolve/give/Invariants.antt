-- what is still to be given a scope, on top of what was
use Rattle.std.proofs.Common.{◌≡◌, drop, length}
use Rattle.rng_simplify.specs.Findings.{given}
use Rattle.rng_simplify.specs.NodePlaces.{bodies_of}
use Rattle.rng_simplify.proofs.resolve.give.Given as goal

abbrev pub invariant-loop-clause : goal.invariant-loop-clause
invariant-loop-clause l = record {
  rest : given (bodies_of (drop l.clause-index l.clauses)) l.scope l.scopes.items ≡ given (bodies_of l.clauses) l.scope l.initial.scopes.items;
  same_length : length l.scopes.items ≡ length l.initial.scopes.items;
}
