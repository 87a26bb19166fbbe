use Rattle.std.proofs.Common.{sym, ap, ◌∙◌, subst}
use Rattle.std.specs.Str.{is_utf8}
use Rattle.rng_core.specs.Soundness.{IsSoundClass, sound_any_name, sound_ns_name, sound_name, sound_either, sound_without}
use Rattle.rng_core.specs.Meaning.{class_of}
use Rattle.rng_cases.proofs.sound.+is_sound_class.Goals as goal

pub returns-in-AnyName : goal.returns-in-AnyName
returns-in-AnyName t c = λ h. subst IsSoundClass (sym (ap class_of c.in-AnyName.is)) sound_any_name

pub returns-in-NsName : goal.returns-in-NsName
returns-in-NsName t c = λ h. subst IsSoundClass (sym (ap class_of c.in-NsName.is)) (sound_ns_name (sym (c.is_text.ensures ∙ ap is_utf8 c.as_slice.ensures) ∙ h))

pub returns-then-is_text : goal.returns-then-is_text
returns-then-is_text t c = λ h.
    subst IsSoundClass (sym (ap class_of c.in-Name.is))
    (sound_name (sym (c.is_text-in-Name.ensures ∙ ap is_utf8 c.as_slice-in-Name.ensures) ∙ c.if-is_text.true) (sym (c.is_text-then-is_text.ensures ∙ ap is_utf8 c.as_slice-then-is_text.ensures) ∙ h))

pub returns-then-is_sound_class : goal.returns-then-is_sound_class
returns-then-is_sound_class t c = λ h.
    subst IsSoundClass (sym (ap class_of c.in-Choice.is))
    (sound_either (subst IsSoundClass (ap class_of c.deref.ensures) (c.is_sound_class.ensures c.if-is_sound_class.true))
    (subst IsSoundClass (ap class_of c.deref-then-is_sound_class.ensures) (c.is_sound_class-then-is_sound_class.ensures h)))

pub returns-then-is_sound_class-2 : goal.returns-then-is_sound_class-2
returns-then-is_sound_class-2 t c = λ h.
    subst IsSoundClass (sym (ap class_of c.in-Except.is))
    (sound_without (subst IsSoundClass (ap class_of c.deref-in-Except.ensures) (c.is_sound_class-in-Except.ensures c.if-is_sound_class-2.true))
    (subst IsSoundClass (ap class_of c.deref-then-is_sound_class-2.ensures) (c.is_sound_class-then-is_sound_class-2.ensures h)))
