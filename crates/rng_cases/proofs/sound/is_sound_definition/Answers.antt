use Rattle.rng_cases.proofs.sound.is_sound_definition.Goals as goal

pub returns-then-is_sound_class : goal.returns-then-is_sound_class
returns-then-is_sound_class c = λ h. record { class_is = c.is_sound_class.ensures c.if-is_sound_class.true; content_is = c.is_sound_pattern.ensures h }
