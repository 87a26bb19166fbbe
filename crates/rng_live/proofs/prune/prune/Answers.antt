use Rattle.std.proofs.Common.{◌≡◌, ◌≤◌, List, Bool, length, map, true, refl, sym, ap, subst, ◌∙◌, arith}
use Rattle.std.proofs.lemmas.List.{length-map}
use Rattle.rng_core.specs.Meaning.{pattern_of, definition_of, language_of}
use Rattle.rng_restrict.proofs.Reached.{few}
use Rattle.rng_live.specs.declared.condition.Condition.{Condition}
use Rattle.rng_live.specs.Conditions.{is_marked, AreHeld}
use Rattle.rng_live.specs.Schemas.{schema_language}
use Rattle.rng_live.proofs.Assembled.{leaves_of, leaves_of_all, found_dead, found_answer_read}
use Rattle.rng_live.proofs.prune.prune.Goals as goal

pub conditions_of-requires : goal.conditions_of-requires
conditions_of-requires c = leaves_of_all _ _ c.requires.sound.definitions_are

pub add_pattern-requires : goal.add_pattern-requires
add_pattern-requires c = leaves_of c.requires.sound.start_is

pub returns-then-not-is_marked_at-clause-pruned : goal.returns-then-not-is_marked_at-clause-pruned
returns-then-not-is_marked_at-clause-pruned c =
    let held : AreHeld c.add_pattern.new.self.items.items c.in_ok-marks.marks.items = subst (λ (cs : List Condition). AreHeld cs c.in_ok-marks.marks.items) c.as_slice.ensures.value c.in_ok-marks.ensures in
    found_dead (language_of c.args.grammar) c.requires.sound c.requires.checked.0 c.requires.checked.2 c.in_ok-conditions.ensures c.in_ok-root.ensures held
    (sym (ap (λ (ms : List Bool). is_marked ms c.in_ok-root.root) c.as_slice-2.ensures.value) ∙ sym c.is_marked_at.ensures ∙ c.if-not-is_marked_at.true)

pub returns-clause-pruned : goal.returns-clause-pruned
returns-clause-pruned c =
    let held : AreHeld c.add_pattern.new.self.items.items c.in_ok-marks.marks.items = subst (λ (cs : List Condition). AreHeld cs c.in_ok-marks.marks.items) c.as_slice.ensures.value c.in_ok-marks.ensures in
    let most = few c.left_definitions.new.kept.numbers.items c.left_definitions.new.kept.seen.items c.left_definitions.new.kept.marked in
    let many = c.in_ok-kept.ensures.1 ∙ c.len.ensures ∙ sym (length-map c.args.grammar.defs definition_of) in
    (found_answer_read (language_of c.args.grammar) c.requires.sound c.requires.checked.0 c.requires.checked.2 c.in_ok-conditions.ensures c.in_ok-root.ensures held
    (schema_language (record { grammar = record { start = c.in_ok-start.start; defs = c.in_ok-defs.defs } })) c.as_slice-3.ensures.value c.as_slice-4.ensures.value
    (sym (ap (λ (ms : List Bool). is_marked ms c.in_ok-root.root) c.as_slice-2.ensures.value) ∙ sym c.is_marked_at.ensures ∙ c.if-not-is_marked_at.false) many c.in_ok-kept.ensures.0 c.in_ok-start.ensures.left c.in_ok-defs.ensures.left
    (omega (arith, most, c.in_ok-defs.ensures.steady, c.in_ok-start.ensures.steady, many))).pruned

pub returns-clause-live : goal.returns-clause-live
returns-clause-live c =
    let held : AreHeld c.add_pattern.new.self.items.items c.in_ok-marks.marks.items = subst (λ (cs : List Condition). AreHeld cs c.in_ok-marks.marks.items) c.as_slice.ensures.value c.in_ok-marks.ensures in
    let most = few c.left_definitions.new.kept.numbers.items c.left_definitions.new.kept.seen.items c.left_definitions.new.kept.marked in
    let many = c.in_ok-kept.ensures.1 ∙ c.len.ensures ∙ sym (length-map c.args.grammar.defs definition_of) in
    (found_answer_read (language_of c.args.grammar) c.requires.sound c.requires.checked.0 c.requires.checked.2 c.in_ok-conditions.ensures c.in_ok-root.ensures held
    (schema_language (record { grammar = record { start = c.in_ok-start.start; defs = c.in_ok-defs.defs } })) c.as_slice-3.ensures.value c.as_slice-4.ensures.value
    (sym (ap (λ (ms : List Bool). is_marked ms c.in_ok-root.root) c.as_slice-2.ensures.value) ∙ sym c.is_marked_at.ensures ∙ c.if-not-is_marked_at.false) many c.in_ok-kept.ensures.0 c.in_ok-start.ensures.left c.in_ok-defs.ensures.left
    (omega (arith, most, c.in_ok-defs.ensures.steady, c.in_ok-start.ensures.steady, many))).live

pub returns-clause-sound : goal.returns-clause-sound
returns-clause-sound c =
    let held : AreHeld c.add_pattern.new.self.items.items c.in_ok-marks.marks.items = subst (λ (cs : List Condition). AreHeld cs c.in_ok-marks.marks.items) c.as_slice.ensures.value c.in_ok-marks.ensures in
    let most = few c.left_definitions.new.kept.numbers.items c.left_definitions.new.kept.seen.items c.left_definitions.new.kept.marked in
    let many = c.in_ok-kept.ensures.1 ∙ c.len.ensures ∙ sym (length-map c.args.grammar.defs definition_of) in
    (found_answer_read (language_of c.args.grammar) c.requires.sound c.requires.checked.0 c.requires.checked.2 c.in_ok-conditions.ensures c.in_ok-root.ensures held
    (schema_language (record { grammar = record { start = c.in_ok-start.start; defs = c.in_ok-defs.defs } })) c.as_slice-3.ensures.value c.as_slice-4.ensures.value
    (sym (ap (λ (ms : List Bool). is_marked ms c.in_ok-root.root) c.as_slice-2.ensures.value) ∙ sym c.is_marked_at.ensures ∙ c.if-not-is_marked_at.false) many c.in_ok-kept.ensures.0 c.in_ok-start.ensures.left c.in_ok-defs.ensures.left
    (omega (arith, most, c.in_ok-defs.ensures.steady, c.in_ok-start.ensures.steady, many))).sound

pub returns-clause-trees : goal.returns-clause-trees
returns-clause-trees c =
    let held : AreHeld c.add_pattern.new.self.items.items c.in_ok-marks.marks.items = subst (λ (cs : List Condition). AreHeld cs c.in_ok-marks.marks.items) c.as_slice.ensures.value c.in_ok-marks.ensures in
    let most = few c.left_definitions.new.kept.numbers.items c.left_definitions.new.kept.seen.items c.left_definitions.new.kept.marked in
    let many = c.in_ok-kept.ensures.1 ∙ c.len.ensures ∙ sym (length-map c.args.grammar.defs definition_of) in
    (found_answer_read (language_of c.args.grammar) c.requires.sound c.requires.checked.0 c.requires.checked.2 c.in_ok-conditions.ensures c.in_ok-root.ensures held
    (schema_language (record { grammar = record { start = c.in_ok-start.start; defs = c.in_ok-defs.defs } })) c.as_slice-3.ensures.value c.as_slice-4.ensures.value
    (sym (ap (λ (ms : List Bool). is_marked ms c.in_ok-root.root) c.as_slice-2.ensures.value) ∙ sym c.is_marked_at.ensures ∙ c.if-not-is_marked_at.false) many c.in_ok-kept.ensures.0 c.in_ok-start.ensures.left c.in_ok-defs.ensures.left
    (omega (arith, most, c.in_ok-defs.ensures.steady, c.in_ok-start.ensures.steady, many))).trees
