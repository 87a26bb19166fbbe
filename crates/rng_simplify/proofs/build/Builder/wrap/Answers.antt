use Rattle.rng_simplify.proofs.Spelling.{attribute_ready, list_wrapped, one_or_more_wrapped, attribute_wrapped, joined_wrapped, second_there}
use Rattle.rng_simplify.proofs.build.Builder.wrap.Goals as goal

pub attribute-requires : goal.attribute-requires
attribute-requires c = attribute_ready _ _ _ c.requires.ready _ _ _ c.in-Attribute.ensures.there

pub last_of-first-requires : goal.last_of-first-requires
last_of-first-requires c = second_there _ _ _ _ _ _ _ _ _ _ c.requires.under_way c.in-Joined.ensures.there c.last_of-second.ensures

pub returns-in_ok-push-in-List : goal.returns-in_ok-push-in-List
returns-in_ok-push-in-List c = λ tasks. list_wrapped _ _ _ _ tasks _ _ _ _ _ c.last_of-body.ensures c.in_ok-push-in-List.ensures.items _ c.in-List.ensures.there c.in-List.ensures.behind c.in_ok-list_of-in-List.ensures

pub returns-in_ok-push-in-Attribute : goal.returns-in_ok-push-in-Attribute
returns-in_ok-push-in-Attribute c = λ tasks. attribute_wrapped _ _ _ _ tasks _ _ _ _ _ c.last_of-value.ensures c.in_ok-push-in-Attribute.ensures.items _ _ c.in-Attribute.ensures.there c.in-Attribute.ensures.behind c.in_ok-attribute-in-Attribute.ensures

pub returns-in_ok-push-in-OneOrMore : goal.returns-in_ok-push-in-OneOrMore
returns-in_ok-push-in-OneOrMore c = λ tasks. one_or_more_wrapped _ _ _ _ tasks _ _ _ _ _ c.last_of-body-in-OneOrMore.ensures c.in_ok-push-in-OneOrMore.ensures.items _ c.in-OneOrMore.ensures.there c.in-OneOrMore.ensures.behind c.in_ok-one_or_more_of-in-OneOrMore.ensures

pub returns-in_ok-push-in-Joined : goal.returns-in_ok-push-in-Joined
returns-in_ok-push-in-Joined c = λ tasks. joined_wrapped _ _ _ _ tasks _ _ _ _ _ _ _ _ _ _ c.last_of-second.ensures c.last_of-first.ensures c.in_ok-push-in-Joined.ensures.items c.in-Joined.ensures.there c.in-Joined.ensures.behind c.in_ok-joined-in-Joined.ensures
