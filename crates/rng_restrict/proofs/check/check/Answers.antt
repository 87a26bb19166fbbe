use Rattle.rng_restrict.proofs.Judged.{unbroken}
use Rattle.rng_restrict.proofs.check.check.Goals as goal

pub returns-then-breaks_path : goal.returns-then-breaks_path
returns-then-breaks_path c = c.breaks_path.ensures.0 c.if-breaks_path.true

pub returns-then-breaks_mixture : goal.returns-then-breaks_mixture
returns-then-breaks_mixture c = ((unbroken _ c.breaks_path.ensures c.if-breaks_path.false), c.breaks_mixture.ensures.0 c.if-breaks_mixture.true)

pub returns-then-attributes_overlap : goal.returns-then-attributes_overlap
returns-then-attributes_overlap c = ((unbroken _ c.breaks_path.ensures c.if-breaks_path.false), (unbroken _ c.breaks_mixture.ensures c.if-breaks_mixture.false), c.in_ok-attributes_overlap.ensures.0 c.if-attributes_overlap.true)

pub returns-then-breaks_wildcard_once : goal.returns-then-breaks_wildcard_once
returns-then-breaks_wildcard_once c =
    ((unbroken _ c.breaks_path.ensures c.if-breaks_path.false), (unbroken _ c.breaks_mixture.ensures c.if-breaks_mixture.false), (unbroken _ c.in_ok-attributes_overlap.ensures c.if-attributes_overlap.false), c.breaks_wildcard_once.ensures.0 c.if-breaks_wildcard_once.true)

pub returns-then-elements_overlap : goal.returns-then-elements_overlap
returns-then-elements_overlap c =
    ((unbroken _ c.breaks_path.ensures c.if-breaks_path.false), (unbroken _ c.breaks_mixture.ensures c.if-breaks_mixture.false), (unbroken _ c.in_ok-attributes_overlap.ensures c.if-attributes_overlap.false), (unbroken _ c.breaks_wildcard_once.ensures c.if-breaks_wildcard_once.false), c.in_ok-elements_overlap.ensures.0 c.if-elements_overlap.true)

pub returns-then-breaks_text_twice : goal.returns-then-breaks_text_twice
returns-then-breaks_text_twice c =
    ((unbroken _ c.breaks_path.ensures c.if-breaks_path.false), (unbroken _ c.breaks_mixture.ensures c.if-breaks_mixture.false), (unbroken _ c.in_ok-attributes_overlap.ensures c.if-attributes_overlap.false), (unbroken _ c.breaks_wildcard_once.ensures c.if-breaks_wildcard_once.false), (unbroken _ c.in_ok-elements_overlap.ensures c.if-elements_overlap.false), c.breaks_text_twice.ensures.0 c.if-breaks_text_twice.true)

pub returns : goal.returns
returns c =
    ((unbroken _ c.breaks_path.ensures c.if-breaks_path.false), (unbroken _ c.breaks_mixture.ensures c.if-breaks_mixture.false), (unbroken _ c.in_ok-attributes_overlap.ensures c.if-attributes_overlap.false), (unbroken _ c.breaks_wildcard_once.ensures c.if-breaks_wildcard_once.false), (unbroken _ c.in_ok-elements_overlap.ensures c.if-elements_overlap.false), (unbroken _ c.breaks_text_twice.ensures c.if-breaks_text_twice.false))
