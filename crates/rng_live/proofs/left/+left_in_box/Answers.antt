use Rattle.std.proofs.Common.{ap, sym, ◌∙◌}
use Rattle.rng_core.specs.Meaning.{pattern_of, class_of}
use Rattle.rng_core.specs.Patterns.{listed, attribute, one_or_more, choice, group, interleave}
use Rattle.rng_live.proofs.Lefts.{copy_left, one_of, two_of, left_of, left_not_allowed, left_empty, left_text, left_data, left_value, left_ref, left_list, left_attribute, left_one_or_more, left_first_dead, left_second_dead, left_choice, left_group, left_interleave}
use Rattle.rng_live.proofs.left.+left_in_box.Goals as goal

pub returns-then-not-is_marked_at-clause-left : goal.returns-then-not-is_marked_at-clause-left
returns-then-not-is_marked_at-clause-left t c =
    left_of (one_of (choice (pattern_of c.in-Choice.a.value)) (ap pattern_of c.in-Choice.is) (ap pattern_of c.deref-then-not-is_marked_at.ensures))
    (left_first_dead c.first_part-first.ensures c.second_part-second.ensures (sym c.is_marked_at.ensures ∙ c.if-not-is_marked_at.true) c.in_ok-side-in-Choice.ensures.left)

pub returns-then-not-is_marked_at-2-clause-left : goal.returns-then-not-is_marked_at-2-clause-left
returns-then-not-is_marked_at-2-clause-left t c =
    left_of (one_of (λ z. choice z (pattern_of c.in-Choice.b.value)) (ap pattern_of c.in-Choice.is) (ap pattern_of c.deref-then-not-is_marked_at-2.ensures))
    (left_second_dead c.first_part-first.ensures c.second_part-second.ensures (sym c.is_marked_at.ensures ∙ c.if-not-is_marked_at.false) (sym c.is_marked_at-in-Choice.ensures ∙ c.if-not-is_marked_at-2.true) c.in_ok-side-in-Choice-2.ensures.left)

pub returns-in_ok-whole-in-NotAllowed-clause-left : goal.returns-in_ok-whole-in-NotAllowed-clause-left
returns-in_ok-whole-in-NotAllowed-clause-left t c = copy_left (ap pattern_of c.in-NotAllowed.is) c.in_ok-whole-in-NotAllowed.ensures left_not_allowed

pub returns-in_ok-whole-in-Empty-clause-left : goal.returns-in_ok-whole-in-Empty-clause-left
returns-in_ok-whole-in-Empty-clause-left t c = copy_left (ap pattern_of c.in-Empty.is) c.in_ok-whole-in-Empty.ensures left_empty

pub returns-in_ok-whole-in-Text-clause-left : goal.returns-in_ok-whole-in-Text-clause-left
returns-in_ok-whole-in-Text-clause-left t c = copy_left (ap pattern_of c.in-Text.is) c.in_ok-whole-in-Text.ensures left_text

pub returns-in_ok-whole-in-Typed-clause-left : goal.returns-in_ok-whole-in-Typed-clause-left
returns-in_ok-whole-in-Typed-clause-left t c = copy_left (ap pattern_of c.in-Typed.is) c.in_ok-whole-in-Typed.ensures left_data

pub returns-in_ok-whole-in-Value-clause-left : goal.returns-in_ok-whole-in-Value-clause-left
returns-in_ok-whole-in-Value-clause-left t c = copy_left (ap pattern_of c.in-Value.is) c.in_ok-whole-in-Value.ensures left_value

pub returns-in_ok-whole-in-Ref-clause-left : goal.returns-in_ok-whole-in-Ref-clause-left
returns-in_ok-whole-in-Ref-clause-left t c = left_of (ap pattern_of c.in-Ref.is) (left_ref c.in_ok-place-in-Ref.ensures.kept c.in_ok-place-in-Ref.ensures.numbered c.in_ok-whole-in-Ref.ensures)

pub returns-in_ok-whole-in-List-clause-left : goal.returns-in_ok-whole-in-List-clause-left
returns-in_ok-whole-in-List-clause-left t c =
    left_of (one_of listed (ap pattern_of c.in-List.is) (ap pattern_of c.deref.ensures))
    (left_list c.first_part-part.ensures c.in_ok-body-in-List.ensures.left c.in_ok-whole-in-List.ensures)

pub returns-in_ok-whole-in-Attribute-clause-left : goal.returns-in_ok-whole-in-Attribute-clause-left
returns-in_ok-whole-in-Attribute-clause-left t c =
    left_of (one_of (attribute (class_of c.in-Attribute.class)) (ap pattern_of c.in-Attribute.is) (ap pattern_of c.deref-in-Attribute.ensures))
    (left_attribute c.first_part-part-in-Attribute.ensures c.in_ok-body-in-Attribute.ensures.left c.in_ok-whole-in-Attribute.ensures)

pub returns-in_ok-whole-in-OneOrMore-clause-left : goal.returns-in_ok-whole-in-OneOrMore-clause-left
returns-in_ok-whole-in-OneOrMore-clause-left t c =
    left_of (one_of one_or_more (ap pattern_of c.in-OneOrMore.is) (ap pattern_of c.deref-in-OneOrMore.ensures))
    (left_one_or_more c.first_part-part-in-OneOrMore.ensures c.in_ok-body-in-OneOrMore.ensures.left c.in_ok-whole-in-OneOrMore.ensures)

pub returns-in_ok-whole-in-Choice-clause-left : goal.returns-in_ok-whole-in-Choice-clause-left
returns-in_ok-whole-in-Choice-clause-left t c =
    left_of (two_of choice (ap pattern_of c.in-Choice.is) (ap pattern_of c.deref-in-Choice.ensures) (ap pattern_of c.deref-in-Choice-2.ensures))
    (left_choice c.first_part-first.ensures c.second_part-second.ensures c.in_ok-a-in-Choice.ensures.steady c.in_ok-a-in-Choice.ensures.left c.in_ok-b-in-Choice.ensures.left
    (sym c.is_marked_at.ensures ∙ c.if-not-is_marked_at.false) (sym c.is_marked_at-in-Choice.ensures ∙ c.if-not-is_marked_at-2.false) c.in_ok-whole-in-Choice.ensures)

pub returns-in_ok-whole-in-Group-clause-left : goal.returns-in_ok-whole-in-Group-clause-left
returns-in_ok-whole-in-Group-clause-left t c =
    left_of (two_of group (ap pattern_of c.in-Group.is) (ap pattern_of c.deref-in-Group.ensures) (ap pattern_of c.deref-in-Group-2.ensures))
    (left_group c.first_part-first-in-Group.ensures c.second_part-second-in-Group.ensures c.in_ok-a-in-Group.ensures.steady c.in_ok-a-in-Group.ensures.left c.in_ok-b-in-Group.ensures.left c.in_ok-whole-in-Group.ensures)

pub returns-in_ok-whole-in-Interleave-clause-left : goal.returns-in_ok-whole-in-Interleave-clause-left
returns-in_ok-whole-in-Interleave-clause-left t c =
    left_of (two_of interleave (ap pattern_of c.in-Interleave.is) (ap pattern_of c.deref-in-Interleave.ensures) (ap pattern_of c.deref-in-Interleave-2.ensures))
    (left_interleave c.first_part-first-in-Interleave.ensures c.second_part-second-in-Interleave.ensures c.in_ok-a-in-Interleave.ensures.steady c.in_ok-a-in-Interleave.ensures.left c.in_ok-b-in-Interleave.ensures.left c.in_ok-whole-in-Interleave.ensures)
