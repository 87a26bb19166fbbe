use Rattle.std.proofs.Common.{ap, refl, subst, sym}
use Rattle.rng_core.specs.Meaning.{pattern_of}
use Rattle.rng_core.specs.Patterns.{Pattern, one_or_more, choice, group, interleave}
use Rattle.rng_fill.specs.WordLists.{AddsBy}
use Rattle.rng_fill.proofs.Boxes.{one_of, two_of}
use Rattle.rng_fill.proofs.Wording.{more_adds, first_adds, second_adds, both_add, in_group, in_interleave}
use Rattle.rng_fill.proofs.words.+add_words.Goals as goal

pub returns-then-first : goal.returns-then-first
returns-then-first t c =
    let whole = two_of choice (ap pattern_of c.in-Choice.is) (ap pattern_of c.deref-in-Choice.ensures) (ap pattern_of c.deref-then-first.ensures) in
    subst (λ (w : Pattern). AddsBy w c.args.words.now c.add_words-in-Choice.new.words c.or_nullable.result) (sym whole)
    (first_adds c.in_ok-first-in-Choice.ensures c.if-first.true c.or_nullable.ensures.nothing c.or_nullable.ensures.words)

pub returns-in_ok-takes-in-OneOrMore : goal.returns-in_ok-takes-in-OneOrMore
returns-in_ok-takes-in-OneOrMore t c =
    let whole = one_of one_or_more (ap pattern_of c.in-OneOrMore.is) (ap pattern_of c.deref.ensures) in
    subst (λ (w : Pattern). AddsBy w c.args.words.now c.add_words.new.words c.in_ok-takes-in-OneOrMore.takes) (sym whole)
    (more_adds c.in_ok-takes-in-OneOrMore.ensures)

pub returns-in_ok-second-in-Choice : goal.returns-in_ok-second-in-Choice
returns-in_ok-second-in-Choice t c =
    let whole = two_of choice (ap pattern_of c.in-Choice.is) (ap pattern_of c.deref-in-Choice.ensures) (ap pattern_of c.deref-in-Choice-2.ensures) in
    subst (λ (w : Pattern). AddsBy w c.args.words.now c.add_words-in-Choice-2.new.words c.or_second.result) (sym whole)
    (second_adds c.in_ok-first-in-Choice.ensures c.if-first.false c.in_ok-second-in-Choice.ensures c.or_second.ensures.nothing
    c.or_second.ensures.words)

pub returns-in_ok-second-in-Group : goal.returns-in_ok-second-in-Group
returns-in_ok-second-in-Group t c =
    let p : Pattern = pattern_of c.deref-in-Group.result.now in
    let q : Pattern = pattern_of c.deref-in-Group-2.result.now in
    let whole = two_of group (ap pattern_of c.in-Group.is) (ap pattern_of c.deref-in-Group.ensures) (ap pattern_of c.deref-in-Group-2.ensures) in
    subst (λ (w : Pattern). AddsBy w c.args.words.now c.together.new.words c.together.result) (sym whole)
    (both_add (in_group p q) c.len-before.result c.len-before.ensures c.in_ok-first-in-Group.ensures c.in_ok-second-in-Group.ensures refl refl
    c.together.ensures.nothing c.together.ensures.words c.together.ensures.kept)

pub returns-in_ok-second-in-Interleave : goal.returns-in_ok-second-in-Interleave
returns-in_ok-second-in-Interleave t c =
    let p : Pattern = pattern_of c.deref-in-Interleave.result.now in
    let q : Pattern = pattern_of c.deref-in-Interleave-2.result.now in
    let whole =
    two_of interleave (ap pattern_of c.in-Interleave.is) (ap pattern_of c.deref-in-Interleave.ensures)
    (ap pattern_of c.deref-in-Interleave-2.ensures) in
    subst (λ (w : Pattern). AddsBy w c.args.words.now c.together-in-Interleave.new.words c.together-in-Interleave.result) (sym whole)
    (both_add (in_interleave p q) c.len-before-in-Interleave.result c.len-before-in-Interleave.ensures c.in_ok-first-in-Interleave.ensures
    c.in_ok-second-in-Interleave.ensures refl refl c.together-in-Interleave.ensures.nothing c.together-in-Interleave.ensures.words
    c.together-in-Interleave.ensures.kept)
