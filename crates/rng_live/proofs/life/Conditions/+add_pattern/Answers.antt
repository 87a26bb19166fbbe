use Rattle.std.proofs.Common.{ap, sym, ◌∙◌}
use Rattle.rng_core.specs.Meaning.{pattern_of, class_of}
use Rattle.rng_core.specs.Patterns.{listed, attribute, one_or_more, choice, group, interleave}
use Rattle.rng_kept.specs.Nullable.{nullable}
use Rattle.rng_kept.specs.SolidStrings.{has_words}
use Rattle.rng_live.specs.Living.{has_string}
use Rattle.rng_live.proofs.Lefts.{one_of, two_of}
use Rattle.rng_live.proofs.Spelled.{spelled_of, spelled_not_allowed, spelled_empty, spelled_text, spelled_data, spelled_value, spelled_ref, spelled_list, spelled_attribute, spelled_one_or_more, spelled_choice, spelled_group, spelled_interleave}
use Rattle.rng_live.proofs.life.Conditions.+add_pattern.Goals as goal

pub returns-in_ok-number-in-NotAllowed : goal.returns-in_ok-number-in-NotAllowed
returns-in_ok-number-in-NotAllowed t c = spelled_of (ap pattern_of c.in-NotAllowed.is) (spelled_not_allowed c.in_ok-number-in-NotAllowed.ensures)

pub returns-in_ok-number-in-Empty : goal.returns-in_ok-number-in-Empty
returns-in_ok-number-in-Empty t c = spelled_of (ap pattern_of c.in-Empty.is) (spelled_empty c.in_ok-number-in-Empty.ensures)

pub returns-in_ok-number-in-Text : goal.returns-in_ok-number-in-Text
returns-in_ok-number-in-Text t c = spelled_of (ap pattern_of c.in-Text.is) (spelled_text c.in_ok-number-in-Text.ensures)

pub returns-in_ok-number-in-Typed : goal.returns-in_ok-number-in-Typed
returns-in_ok-number-in-Typed t c = spelled_of (ap pattern_of c.in-Typed.is) (spelled_data c.has_member.ensures c.in_ok-number-in-Typed.ensures)

pub returns-in_ok-number-in-Value : goal.returns-in_ok-number-in-Value
returns-in_ok-number-in-Value t c = spelled_of (ap pattern_of c.in-Value.is) (spelled_value c.in_ok-number-in-Value.ensures)

pub returns-in_ok-number-in-Ref : goal.returns-in_ok-number-in-Ref
returns-in_ok-number-in-Ref t c = spelled_of (ap pattern_of c.in-Ref.is) (spelled_ref c.in-Ref.definition c.in_ok-number-in-Ref.ensures)

pub returns-in_ok-number-in-List : goal.returns-in_ok-number-in-List
returns-in_ok-number-in-List t c =
    let same = c.deref.ensures ∙ sym c.deref-in-List.ensures in
    spelled_of (one_of listed (ap pattern_of c.in-List.is) (ap pattern_of c.deref-in-List.ensures))
    (spelled_list c.any.ensures (c.in_ok-takes-in-List.ensures.something ∙ ap (λ z. has_words (pattern_of z)) same) (c.in_ok-takes-in-List.ensures.nothing ∙ ap (λ z. nullable (pattern_of z)) same) c.in_ok-part-in-List.ensures c.in_ok-number-in-List.ensures)

pub returns-in_ok-number-in-Attribute : goal.returns-in_ok-number-in-Attribute
returns-in_ok-number-in-Attribute t c =
    let same = c.deref-in-Attribute.ensures ∙ sym c.deref-in-Attribute-2.ensures in
    spelled_of (one_of (attribute (class_of c.in-Attribute.class)) (ap pattern_of c.in-Attribute.is) (ap pattern_of c.deref-in-Attribute-2.ensures))
    (spelled_attribute c.any_if.ensures c.has_some_name-named.ensures (c.in_ok-takes-in-Attribute.ensures.something ∙ ap (λ z. has_string (pattern_of z)) same) (c.in_ok-takes-in-Attribute.ensures.nothing ∙ ap (λ z. nullable (pattern_of z)) same) c.in_ok-part-in-Attribute.ensures c.in_ok-number-in-Attribute.ensures)

pub returns-in_ok-number-in-OneOrMore : goal.returns-in_ok-number-in-OneOrMore
returns-in_ok-number-in-OneOrMore t c =
    spelled_of (one_of one_or_more (ap pattern_of c.in-OneOrMore.is) (ap pattern_of c.deref-in-OneOrMore.ensures))
    (spelled_one_or_more c.in_ok-part-in-OneOrMore.ensures c.in_ok-number-in-OneOrMore.ensures)

pub returns-in_ok-number-in-Choice : goal.returns-in_ok-number-in-Choice
returns-in_ok-number-in-Choice t c =
    spelled_of (two_of choice (ap pattern_of c.in-Choice.is) (ap pattern_of c.deref-in-Choice.ensures) (ap pattern_of c.deref-in-Choice-2.ensures))
    (spelled_choice c.in_ok-first-in-Choice.ensures c.in_ok-second-in-Choice.ensures c.in_ok-number-in-Choice.ensures)

pub returns-in_ok-number-in-Group : goal.returns-in_ok-number-in-Group
returns-in_ok-number-in-Group t c =
    spelled_of (two_of group (ap pattern_of c.in-Group.is) (ap pattern_of c.deref-in-Group.ensures) (ap pattern_of c.deref-in-Group-2.ensures))
    (spelled_group c.in_ok-first-in-Group.ensures c.in_ok-second-in-Group.ensures c.in_ok-number-in-Group.ensures)

pub returns-in_ok-number-in-Interleave : goal.returns-in_ok-number-in-Interleave
returns-in_ok-number-in-Interleave t c =
    spelled_of (two_of interleave (ap pattern_of c.in-Interleave.is) (ap pattern_of c.deref-in-Interleave.ensures) (ap pattern_of c.deref-in-Interleave-2.ensures))
    (spelled_interleave c.in_ok-first-in-Interleave.ensures c.in_ok-second-in-Interleave.ensures c.in_ok-number-in-Interleave.ensures)
