use Rattle.std.proofs.Common.{sym, ap, ◌∙◌, subst, arith}
use Rattle.std.specs.Prelude.{IsTrue}
use Rattle.std.proofs.lemmas.Bool.{ltb-true}
use Rattle.nx_base.specs.Characters.{is_of_chars}
use Rattle.rng_types.specs.Types.{Accepts}
use Rattle.rng_types.specs.WellMade.{is_well_made}
use Rattle.rng_types.specs.declared.datatype.Datatype.{Datatype}
use Rattle.rng_core.specs.Soundness.{IsSoundClass, IsSoundPattern, sound_not_allowed, sound_empty, sound_text, sound_value, sound_list, sound_attribute, sound_ref, sound_one_or_more, sound_choice, sound_group}
use Rattle.rng_core.specs.Meaning.{pattern_of}
use Rattle.rng_cases.proofs.Orderly.{sound_type}
use Rattle.rng_cases.proofs.sound.+is_sound_pattern.Goals as goal

pub returns-in-NotAllowed : goal.returns-in-NotAllowed
returns-in-NotAllowed t c = λ h. subst (IsSoundPattern c.args.count) (sym (ap pattern_of c.in-NotAllowed.is)) sound_not_allowed

pub returns-in-Empty : goal.returns-in-Empty
returns-in-Empty t c = λ h. subst (IsSoundPattern c.args.count) (sym (ap pattern_of c.in-Empty.is)) sound_empty

pub returns-in-Text : goal.returns-in-Text
returns-in-Text t c = λ h. subst (IsSoundPattern c.args.count) (sym (ap pattern_of c.in-Text.is)) sound_text

pub returns-then-equals : goal.returns-then-equals
returns-then-equals t c = λ h.
    let made = subst (λ (d : Datatype). IsTrue (is_well_made d)) (sym (c.equals.ensures.0 c.if-equals.true)) c.requires in
    subst (IsSoundPattern c.args.count) (sym (ap pattern_of c.in-Typed.is)) (sound_type c.args.count c.in-Typed.datatype c.in-Typed.excepts made (sym c.is_empty.ensures ∙ h))

pub returns-then-equals-2 : goal.returns-then-equals-2
returns-then-equals-2 t c = λ h.
    let made = subst (λ (d : Datatype). IsTrue (is_well_made d)) (sym (c.equals-in-Value.ensures.0 c.if-equals-2.true)) c.requires in
    subst (IsSoundPattern c.args.count) (sym (ap pattern_of c.in-Value.is)) (sound_value made (c.is_literal.ensures.accepted h) (c.is_literal.ensures.chars h))

pub returns-in-List : goal.returns-in-List
returns-in-List t c = λ h.
    subst (IsSoundPattern c.args.count) (sym (ap pattern_of c.in-List.is)) (sound_list (subst (IsSoundPattern c.args.count) (ap pattern_of c.deref.ensures) (c.is_sound_pattern.ensures h)))

pub returns-then-is_sound_class : goal.returns-then-is_sound_class
returns-then-is_sound_class t c = λ h.
    subst (IsSoundPattern c.args.count) (sym (ap pattern_of c.in-Attribute.is))
    (sound_attribute (c.is_sound_class.ensures c.if-is_sound_class.true)
    (subst (IsSoundPattern c.args.count) (ap pattern_of c.deref-then-is_sound_class.ensures) (c.is_sound_pattern-then-is_sound_class.ensures h)))

pub returns-in-Ref : goal.returns-in-Ref
returns-in-Ref t c = λ h. subst (IsSoundPattern c.args.count) (sym (ap pattern_of c.in-Ref.is)) (sound_ref (ltb-true c.in-Ref.number c.args.count h))

pub returns-in-OneOrMore : goal.returns-in-OneOrMore
returns-in-OneOrMore t c = λ h.
    subst (IsSoundPattern c.args.count) (sym (ap pattern_of c.in-OneOrMore.is))
    (sound_one_or_more (subst (IsSoundPattern c.args.count) (ap pattern_of c.deref-in-OneOrMore.ensures) (c.is_sound_pattern-in-OneOrMore.ensures h)))

pub returns-then-is_sound_pattern : goal.returns-then-is_sound_pattern
returns-then-is_sound_pattern t c = λ h.
    subst (IsSoundPattern c.args.count) (sym (ap pattern_of c.in-Choice.is))
    (sound_choice (subst (IsSoundPattern c.args.count) (ap pattern_of c.deref-in-Choice.ensures) (c.is_sound_pattern-in-Choice.ensures c.if-is_sound_pattern.true))
    (subst (IsSoundPattern c.args.count) (ap pattern_of c.deref-then-is_sound_pattern.ensures) (c.is_sound_pattern-then-is_sound_pattern.ensures h)))

pub returns-then-is_sound_pattern-2 : goal.returns-then-is_sound_pattern-2
returns-then-is_sound_pattern-2 t c = λ h.
    subst (IsSoundPattern c.args.count) (sym (ap pattern_of c.in-Group.is))
    (sound_group (subst (IsSoundPattern c.args.count) (ap pattern_of c.deref-in-Group.ensures) (c.is_sound_pattern-in-Group.ensures c.if-is_sound_pattern-2.true))
    (subst (IsSoundPattern c.args.count) (ap pattern_of c.deref-then-is_sound_pattern-2.ensures) (c.is_sound_pattern-then-is_sound_pattern-2.ensures h)))
