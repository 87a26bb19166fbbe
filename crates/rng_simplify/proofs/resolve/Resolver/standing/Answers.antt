use Rattle.std.proofs.Common.{List, [], ◌∷◌, length, ap, ◌∙◌, Contains, subst, sym, arith}
use Rattle.std.proofs.lemmas.List.{length-set}
use Rattle.rng_simplify.specs.declared.node.Clause.{Clause}
use Rattle.rng_simplify.specs.Findings.{Findings}
use Rattle.rng_simplify.specs.declared.node.Node.{Node}
use Rattle.rng_simplify.specs.Cells.{cell_of}
use Rattle.rng_simplify.specs.NodePlaces.{inner_nodes, bodies_of}
use Rattle.rng_simplify.proofs.Nodes.{in_first, in_more}
use Rattle.rng_simplify.proofs.resolve.Resolver.standing.Goals as goal

pub part-requires : goal.part-requires
part-requires c = c.requires.within _ (subst (λ (n : Node). Contains (inner_nodes (cell_of n)) c.in-Element.part) (sym c.in-Element.is) (in_first _ []))

pub part-requires-in-Attribute : goal.part-requires-in-Attribute
part-requires-in-Attribute c = c.requires.within _ (subst (λ (n : Node). Contains (inner_nodes (cell_of n)) c.in-Attribute.part) (sym c.in-Attribute.is) (in_first _ []))

pub part-requires-in-List : goal.part-requires-in-List
part-requires-in-List c = c.requires.within _ (subst (λ (n : Node). Contains (inner_nodes (cell_of n)) c.in-List.part) (sym c.in-List.is) (in_first _ []))

pub part-requires-in-Typed : goal.part-requires-in-Typed
part-requires-in-Typed c = c.requires.within _ (subst (λ (n : Node). Contains (inner_nodes (cell_of n)) c.in-Typed.part) (sym c.in-Typed.is) (in_first _ []))

pub part-requires-in-OneOrMore : goal.part-requires-in-OneOrMore
part-requires-in-OneOrMore c = c.requires.within _ (subst (λ (n : Node). Contains (inner_nodes (cell_of n)) c.in-OneOrMore.part) (sym c.in-OneOrMore.is) (in_first _ []))

pub part-requires-in-Joined : goal.part-requires-in-Joined
part-requires-in-Joined c = c.requires.within _ (subst (λ (n : Node). Contains (inner_nodes (cell_of n)) c.in-Joined.first) (sym c.in-Joined.is) (in_first _ (c.in-Joined.second ∷ [])))

pub part-requires-in-Joined-2 : goal.part-requires-in-Joined-2
part-requires-in-Joined-2 c =
    let lt = c.requires.within c.in-Joined.second (subst (λ (n : Node). Contains (inner_nodes (cell_of n)) c.in-Joined.second) (sym c.in-Joined.is) (in_more c.in-Joined.first (c.in-Joined.second ∷ []) c.in-Joined.second (in_first c.in-Joined.second []))) in
    let same = ap (λ (f : Findings). length f.scopes) c.part-in-Joined.ensures ∙ length-set c.args.self.now.scopes.items c.in-Joined.first c.args.scope in
    omega (arith, lt, same)

pub grammar-requires-clause-within : goal.grammar-requires-clause-within
grammar-requires-clause-within c = λ body among.
    c.requires.within body (subst (λ (n : Node). Contains (inner_nodes (cell_of n)) body) (sym c.in-Grammar.is) (subst (λ (cs : List Clause). Contains (bodies_of cs) body) c.as_slice.ensures.value among))
