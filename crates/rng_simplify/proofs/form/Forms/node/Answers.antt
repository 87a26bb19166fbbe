use Rattle.rng_simplify.proofs.Forming.{of_node, lead_known, cell_added, element_added, value_added, type_added}
use Rattle.std.proofs.Common.{refl, subst, [], ◌∷◌, ◌+◌, arith}
use Rattle.rng_simplify.proofs.Nodes.{in_first, in_more}
use Rattle.rng_simplify.specs.declared.node.Node.{Node}
use Rattle.rng_simplify.specs.Cells.{cell_of}
use Rattle.rng_simplify.specs.Cells as cell
use Rattle.rng_simplify.specs.ResolvedNodes.{combined_number, IsLinkedAs}
use Rattle.rng_simplify.proofs.form.Forms.node.Goals as goal

pub of-value-requires : goal.of-value-requires
of-value-requires c = let known = (lead_known _ _ c.args.count (combined_number c.args.link) _ _ _ c.in-Attribute.is c.requires.known (in_first c.in-Attribute.part [])).within in omega (arith, known, c.part.view_is)

pub of-words-requires : goal.of-words-requires
of-words-requires c = let known = (lead_known _ _ c.args.count (combined_number c.args.link) _ _ _ c.in-List.is c.requires.known (in_first c.in-List.part [])).within in omega (arith, known, c.part-in-List.view_is)

pub of-body-requires : goal.of-body-requires
of-body-requires c = let known = (lead_known _ _ c.args.count (combined_number c.args.link) _ _ _ c.in-OneOrMore.is c.requires.known (in_first c.in-OneOrMore.part [])).within in omega (arith, known, c.part-in-OneOrMore.view_is)

pub of-one-requires : goal.of-one-requires
of-one-requires c = let known = (lead_known _ _ c.args.count (combined_number c.args.link) _ _ _ c.in-Joined.is c.requires.known (in_first c.in-Joined.first (c.in-Joined.second ∷ []))).within in omega (arith, known, c.first.view_is)

pub of-other-requires : goal.of-other-requires
of-other-requires c = let known = (lead_known _ _ c.args.count (combined_number c.args.link) _ _ _ c.in-Joined.is c.requires.known (in_more c.in-Joined.first (c.in-Joined.second ∷ []) _ (in_first c.in-Joined.second []))).within in omega (arith, known, c.second.view_is)

pub element-requires : goal.element-requires
element-requires c = let P : Node → Type 0 = λ n. IsLinkedAs (cell_of n) c.args.link in subst P c.in-Element.is c.requires.linked

pub linked-requires-clause-to : goal.linked-requires-clause-to
linked-requires-clause-to c = let P : Node → Type 0 = λ n. IsLinkedAs (cell_of n) c.args.link in subst P c.in-Ref.is c.requires.linked

pub linked-requires-in-ParentRef-clause-to : goal.linked-requires-in-ParentRef-clause-to
linked-requires-in-ParentRef-clause-to c = let P : Node → Type 0 = λ n. IsLinkedAs (cell_of n) c.args.link in subst P c.in-ParentRef.is c.requires.linked

pub linked-requires-in-Grammar-clause-to : goal.linked-requires-in-Grammar-clause-to
linked-requires-in-Grammar-clause-to c = let P : Node → Type 0 = λ n. IsLinkedAs (cell_of n) c.args.link in subst P c.in-Grammar.is c.requires.linked

pub linked-requires-clause-known : goal.linked-requires-clause-known
linked-requires-clause-known c = lead_known _ _ c.args.count (combined_number c.args.link) _ _ _ c.in-Ref.is c.requires.known (in_first (c.args.count + combined_number c.args.link) [])

pub linked-requires-in-ParentRef-clause-known : goal.linked-requires-in-ParentRef-clause-known
linked-requires-in-ParentRef-clause-known c = lead_known _ _ c.args.count (combined_number c.args.link) _ _ _ c.in-ParentRef.is c.requires.known (in_first (c.args.count + combined_number c.args.link) [])

pub linked-requires-in-Grammar-clause-known : goal.linked-requires-in-Grammar-clause-known
linked-requires-in-Grammar-clause-known c = lead_known _ _ c.args.count (combined_number c.args.link) _ _ _ c.in-Grammar.is c.requires.known (in_first (c.args.count + combined_number c.args.link) [])

pub returns-in-Element-clause-made : goal.returns-in-Element-clause-made
returns-in-Element-clause-made c = of_node _ _ _ _ _ _ _ _ _ c.in-Element.is (element_added _ _ _ _ _ _ _ _ _ _ c.element.ensures c.add.ensures)

pub returns-in-Empty-clause-made : goal.returns-in-Empty-clause-made
returns-in-Empty-clause-made c = of_node _ _ _ _ _ _ _ _ _ c.in-Empty.is (cell_added _ _ _ _ _ _ cell.empty _ _ (λ cells taken at. refl) (λ cells elements at below. tt) c.add-in-Empty.ensures)

pub returns-in-Text-clause-made : goal.returns-in-Text-clause-made
returns-in-Text-clause-made c = of_node _ _ _ _ _ _ _ _ _ c.in-Text.is (cell_added _ _ _ _ _ _ cell.any_text _ _ (λ cells taken at. refl) (λ cells elements at below. tt) c.add-in-Text.ensures)

pub returns-in-NotAllowed-clause-made : goal.returns-in-NotAllowed-clause-made
returns-in-NotAllowed-clause-made c = of_node _ _ _ _ _ _ _ _ _ c.in-NotAllowed.is (cell_added _ _ _ _ _ _ cell.not_allowed _ _ (λ cells taken at. refl) (λ cells elements at below. tt) c.add-in-NotAllowed.ensures)

pub returns-in-Value-clause-made : goal.returns-in-Value-clause-made
returns-in-Value-clause-made c = of_node _ _ _ _ _ _ _ _ _ c.in-Value.is (value_added _ _ _ _ _ _ _ _ _ c.add-in-Value.ensures)

pub returns-in-Typed-clause-made : goal.returns-in-Typed-clause-made
returns-in-Typed-clause-made c = of_node _ _ _ _ _ _ _ _ _ c.in-Typed.is (type_added _ _ _ _ _ _ _ _ _ _ c.add-in-Typed.ensures)
