-- The steps of a way to go on: what is left behind it, by the residuals of each kind of step.
use Rattle.std.specs.Prelude.{map}
use Rattle.rng_core.specs.Meaning.{definition_of}
use Rattle.rng_kept.specs.Residuals.{Way, Residual}
use Rattle.rng_kept.specs.Entering.{enter_way, skip_way}
use Rattle.rng_kept.specs.Tags.{attribute_way, any_value_way, tag_end_way, missing_way}
use Rattle.rng_kept.specs.Content.{chars_way, any_string_way, leave_way, leave_skip_way}
use Rattle.deriv_pattern.specs.declared.step.Step.{Step}
use Rattle.deriv_pattern.specs.declared.step.Step.TheVariants as step

abbrev pub way_step : Step → Way → Residual
way_step (step.Enter defs name) = enter_way (map definition_of defs.now) name.now
way_step (step.EnterSkip defs name) = skip_way (map definition_of defs.now) name.now
way_step (step.Attribute name value) = attribute_way name.now value.now
way_step (step.AttributeAny name) = any_value_way name.now
way_step step.TagEnd = tag_end_way
way_step step.TagEndMissing = missing_way
way_step (step.Chars text) = chars_way text.now
way_step step.CharsAny = any_string_way
way_step step.Leave = leave_way
way_step step.LeaveSkip = leave_skip_way
