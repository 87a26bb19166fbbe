use Rattle.std.proofs.Common.{refl}
use Rattle.rng_simplify.specs.SpelledShapes.{spells_not_allowed, spells_empty, spells_text, spells_value, spells_type, spells_ref}
use Rattle.rng_simplify.proofs.Spelling.{leaf_done, leaves_one, leaves_two, is_it, value_ready, value_type_ready, type_ready, ref_ready}
use Rattle.rng_simplify.proofs.build.Builder.spell.Goals as goal

pub value-requires-clause-value : goal.value-requires-clause-value
value-requires-clause-value c = value_ready _ _ _ c.requires.ready _ _ c.in-Value.ensures.there

pub value-requires-clause-known : goal.value-requires-clause-known
value-requires-clause-known c = value_type_ready _ _ _ c.requires.ready _ _ c.in-Value.ensures.there

pub typed-requires : goal.typed-requires
typed-requires c = type_ready _ _ _ c.requires.ready _ _ c.in-Typed.ensures.there

pub overflow_cast-number-inside : goal.overflow_cast-number-inside
overflow_cast-number-inside c = let below = ref_ready _ _ _ c.requires.ready _ _ c.in-Ref.ensures.there in rw c.number.view_is (record { fits = below })

pub returns-in_ok-push-in-NotAllowed : goal.returns-in_ok-push-in-NotAllowed
returns-in_ok-push-in-NotAllowed c = leaf_done _ _ _ _ _ _ _ _ (spells_not_allowed (is_it _ _ _ c.in-NotAllowed.ensures.there c.in-NotAllowed.ensures.behind)) c.in_ok-push-in-NotAllowed.ensures.items

pub returns-in_ok-push-in-Empty : goal.returns-in_ok-push-in-Empty
returns-in_ok-push-in-Empty c = leaf_done _ _ _ _ _ _ _ _ (spells_empty (is_it _ _ _ c.in-Empty.ensures.there c.in-Empty.ensures.behind)) c.in_ok-push-in-Empty.ensures.items

pub returns-in_ok-push-in-Text : goal.returns-in_ok-push-in-Text
returns-in_ok-push-in-Text c = leaf_done _ _ _ _ _ _ _ _ (spells_text (is_it _ _ _ c.in-Text.ensures.there c.in-Text.ensures.behind)) c.in_ok-push-in-Text.ensures.items

pub returns-in_ok-push-in-Value : goal.returns-in_ok-push-in-Value
returns-in_ok-push-in-Value c = leaf_done _ _ _ _ _ _ _ _ (spells_value (is_it _ _ _ c.in-Value.ensures.there c.in-Value.ensures.behind) c.in_ok-value-in-Value.ensures) c.in_ok-push-in-Value.ensures.items

pub returns-in_ok-push-in-Typed : goal.returns-in_ok-push-in-Typed
returns-in_ok-push-in-Typed c = leaf_done _ _ _ _ _ _ _ _ (spells_type (is_it _ _ _ c.in-Typed.ensures.there c.in-Typed.ensures.behind) c.in_ok-typed-in-Typed.ensures) c.in_ok-push-in-Typed.ensures.items

pub returns-in_ok-push-in-Ref : goal.returns-in_ok-push-in-Ref
returns-in_ok-push-in-Ref c = leaf_done _ _ _ _ _ _ _ _ (spells_ref (is_it _ _ _ c.in-Ref.ensures.there c.in-Ref.ensures.behind)) (rw c.number.view_is at c.in_ok-push-in-Ref.ensures.items)

pub returns-in-List : goal.returns-in-List
returns-in-List c = leaves_one _ _ _ _ _ _ _ _ _ _ (is_it _ _ _ c.in-List.ensures.there c.in-List.ensures.behind) c.requires.within refl c.leave_one.ensures

pub returns-in-Attribute : goal.returns-in-Attribute
returns-in-Attribute c = leaves_one _ _ _ _ _ _ _ _ _ _ (is_it _ _ _ c.in-Attribute.ensures.there c.in-Attribute.ensures.behind) c.requires.within refl c.leave_one-in-Attribute.ensures

pub returns-in-OneOrMore : goal.returns-in-OneOrMore
returns-in-OneOrMore c = leaves_one _ _ _ _ _ _ _ _ _ _ (is_it _ _ _ c.in-OneOrMore.ensures.there c.in-OneOrMore.ensures.behind) c.requires.within refl c.leave_one-in-OneOrMore.ensures

pub returns-in-Joined : goal.returns-in-Joined
returns-in-Joined c = leaves_two _ _ _ _ _ _ _ _ _ _ _ (is_it _ _ _ c.in-Joined.ensures.there c.in-Joined.ensures.behind) c.requires.within refl c.leave_two.ensures
