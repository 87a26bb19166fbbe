use Rattle.std.proofs.Common.{refl, length}
use Rattle.std.proofs.lemmas.List.{get_or_read}
use Rattle.std.proofs.lemmas.Option.{slice_get_read}
use Rattle.rng_simplify.proofs.Spelling.{no_definition_yet, one_more_definition, all_built_of}
use Rattle.rng_simplify.proofs.build.Builder.grammar.Goals as goal

pub loop-element-init : goal.loop-element-init
loop-element-init c = no_definition_yet _ _ _ _ c.new-defs.ensures

pub definition-requires-clause-element : goal.definition-requires-clause-element
definition-requires-clause-element c = c.requires.elements.each_is _ _ (slice_get_read c.args.elements.now (length c.args.elements.now) c.loop-element.element-index c.element-item.result refl c.loop-element-test.true c.element-item.is)

pub definition-requires-clause-content : goal.definition-requires-clause-content
definition-requires-clause-content c = c.requires.elements.each_known _ _ (slice_get_read c.args.elements.now (length c.args.elements.now) c.loop-element.element-index c.element-item.result refl c.loop-element-test.true c.element-item.is)

pub loop-element-preserved : goal.loop-element-preserved
loop-element-preserved c = one_more_definition _ _ _ _ _ _ _ _ c.loop-element-test.true c.loop-element.invariant (rw (get_or_read c.args.elements.now c.loop-element.element-index c.element-item.result c.loop-element-test.true c.element-item.is 0) at c.in_ok-definition.ensures) c.in_ok-push.ensures.ok

pub returns : goal.returns
returns c = all_built_of _ _ _ _ _ _ _ _ _ c.loop-element-test.false c.loop-element.invariant (rw c.root.view_is at c.of.ensures) c.in_ok-pattern.ensures
