-- A schema in one piece without the numbers of its elements, which are free.
use Rattle.rng_simplify.specs.Composed.{Composed, Clauses, end_of_clauses, clause_then}
use Rattle.rng_simplify.specs.Composed as composed

abbrev mutual
  -- each element has the same number
  pub unnumbered : Composed → Composed
  unnumbered (composed.element number class p) = composed.element 0 class (unnumbered p)
  unnumbered (composed.attribute class p) = composed.attribute class (unnumbered p)
  unnumbered (composed.listed p) = composed.listed (unnumbered p)
  unnumbered (composed.ref name) = composed.ref name
  unnumbered (composed.parent_ref name) = composed.parent_ref name
  unnumbered composed.empty = composed.empty
  unnumbered composed.any_text = composed.any_text
  unnumbered composed.not_allowed = composed.not_allowed
  unnumbered (composed.value type text) = composed.value type text
  unnumbered (composed.typed type params except) = composed.typed type params (unnumbered except)
  unnumbered (composed.grammar clauses) = composed.grammar (unnumbered_in clauses)
  unnumbered (composed.one_or_more p) = composed.one_or_more (unnumbered p)
  unnumbered (composed.choice p q) = composed.choice (unnumbered p) (unnumbered q)
  unnumbered (composed.group p q) = composed.group (unnumbered p) (unnumbered q)
  unnumbered (composed.interleave p q) = composed.interleave (unnumbered p) (unnumbered q)

  pub unnumbered_in : Clauses → Clauses
  unnumbered_in end_of_clauses = end_of_clauses
  unnumbered_in (clause_then name combine p more) = clause_then name combine (unnumbered p) (unnumbered_in more)
