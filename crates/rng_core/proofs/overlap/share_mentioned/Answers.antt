use Rattle.std.proofs.Common.{◌∙◌}
use Rattle.rng_core.specs.Meaning.{class_of}
use Rattle.rng_core.proofs.Borne.{elements_tried, attributes_tried}
use Rattle.rng_core.proofs.overlap.share_mentioned.Goals as goal

pub returns-in-Element : goal.returns-in-Element
returns-in-Element c = c.share_tried.ensures ∙ elements_tried c.args.bearer (class_of c.args.a.now) (class_of c.args.b.now) c.in-Element.is

pub returns-in-Attribute : goal.returns-in-Attribute
returns-in-Attribute c = c.share_attributes.ensures ∙ attributes_tried c.args.bearer (class_of c.args.a.now) (class_of c.args.b.now) c.in-Attribute.is
