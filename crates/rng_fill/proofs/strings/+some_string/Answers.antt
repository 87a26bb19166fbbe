use Rattle.std.proofs.Common.{ap, refl, subst, sym, ◌∙◌}
use Rattle.std.proofs.lemmas.Bool.{and_parts}
use Rattle.rng_core.specs.Meaning.{pattern_of}
use Rattle.rng_core.specs.Matching.{by_first, by_one}
use Rattle.rng_core.specs.Patterns.{Pattern, one_or_more, choice, group, interleave}
use Rattle.rng_fill.specs.Strings.{IsStringAnswer}
use Rattle.rng_fill.proofs.Boxes.{one_of, two_of, one_side}
use Rattle.rng_fill.proofs.Choosing.{answer_by, answer_after, second_choice, second_read, of_group, of_interleave}
use Rattle.rng_fill.proofs.strings.+some_string.Goals as goal

pub returns-then-is_some : goal.returns-then-is_some
returns-then-is_some t c =
    let p : Pattern = pattern_of c.deref-in-Choice.result.now in
    let whole = one_side choice (ap pattern_of c.in-Choice.is) (ap pattern_of c.deref-in-Choice.ensures) in
    subst (λ (w : Pattern). IsStringAnswer c.args.solid w c.in_ok-first-in-Choice.first) (sym whole)
    (answer_by c.args.solid p (choice p (pattern_of c.in-Choice.b.value)) c.in_ok-first-in-Choice.first (λ g t m. by_first m)
    (sym c.is_some.ensures ∙ c.if-is_some.true) c.in_ok-first-in-Choice.ensures)

pub returns-in_ok-found-in-OneOrMore : goal.returns-in_ok-found-in-OneOrMore
returns-in_ok-found-in-OneOrMore t c =
    let p : Pattern = pattern_of c.deref-in-OneOrMore.result.now in
    let whole = one_of one_or_more (ap pattern_of c.in-OneOrMore.is) (ap pattern_of c.deref-in-OneOrMore.ensures) in
    subst (λ (w : Pattern). IsStringAnswer c.args.solid w c.in_ok-found-in-OneOrMore.found) (sym whole)
    (answer_after c.args.solid p (one_or_more p) c.in_ok-found-in-OneOrMore.found (λ g t m. by_one m) refl c.in_ok-found-in-OneOrMore.ensures)

pub returns-in_ok-second-in-Choice : goal.returns-in_ok-second-in-Choice
returns-in_ok-second-in-Choice t c =
    let p : Pattern = pattern_of c.deref-in-Choice.result.now in
    let q : Pattern = pattern_of c.deref-in-Choice-2.result.now in
    let whole = two_of choice (ap pattern_of c.in-Choice.is) (ap pattern_of c.deref-in-Choice.ensures) (ap pattern_of c.deref-in-Choice-2.ensures) in
    subst (λ (w : Pattern). IsStringAnswer c.args.solid w c.in_ok-second-in-Choice.second) (sym whole)
    (second_choice p q c.args.solid c.in_ok-first-in-Choice.first c.in_ok-second-in-Choice.second (sym c.is_some.ensures ∙ c.if-is_some.false)
    c.in_ok-first-in-Choice.ensures c.in_ok-second-in-Choice.ensures)

pub returns-then-both : goal.returns-then-both
returns-then-both t c =
    let p : Pattern = pattern_of c.deref-in-Group.result.now in
    let q : Pattern = pattern_of c.deref-in-Group-2.result.now in
    let whole = two_of group (ap pattern_of c.in-Group.is) (ap pattern_of c.deref-in-Group.ensures) (ap pattern_of c.deref-in-Group-2.ensures) in
    let both = and_parts c.is_some-in-Group.result c.nullable.result (sym c.both.ensures ∙ c.if-both.true) in
    subst (λ (w : Pattern). IsStringAnswer c.args.solid w c.in_ok-first-in-Group.first) (sym whole)
    (answer_by c.args.solid p (group p q) c.in_ok-first-in-Group.first
    (λ g t m. (of_group p q).first g t (sym c.nullable.ensures ∙ both.1) m) (sym c.is_some-in-Group.ensures ∙ both.0) c.in_ok-first-in-Group.ensures)

pub returns-in_ok-second-in-Group : goal.returns-in_ok-second-in-Group
returns-in_ok-second-in-Group t c =
    let p : Pattern = pattern_of c.in-Group.a.value in
    let q : Pattern = pattern_of c.in-Group.b.value in
    subst (λ (w : Pattern). IsStringAnswer c.args.solid w c.in_ok-second-in-Group.second) (sym (ap pattern_of c.in-Group.is))
    (second_read (of_group p q) c.args.solid c.in_ok-first-in-Group.first c.in_ok-second-in-Group.second c.is_some-in-Group.result
    c.nullable.result c.nullable-in-Group.result (pattern_of c.deref-in-Group.result.now) (pattern_of c.deref-in-Group-3.result.now)
    (pattern_of c.deref-in-Group-2.result.now) (pattern_of c.deref-in-Group-4.result.now)
    (ap pattern_of c.deref-in-Group.ensures) (ap pattern_of c.deref-in-Group-3.ensures) (ap pattern_of c.deref-in-Group-2.ensures)
    (ap pattern_of c.deref-in-Group-4.ensures) c.in_ok-first-in-Group.ensures c.is_some-in-Group.ensures c.nullable.ensures
    (sym c.both.ensures ∙ c.if-both.false) c.nullable-in-Group.ensures c.if-not-nullable.false c.in_ok-second-in-Group.ensures)

pub returns-then-both-2 : goal.returns-then-both-2
returns-then-both-2 t c =
    let p : Pattern = pattern_of c.deref-in-Interleave.result.now in
    let q : Pattern = pattern_of c.deref-in-Interleave-2.result.now in
    let whole =
    two_of interleave (ap pattern_of c.in-Interleave.is) (ap pattern_of c.deref-in-Interleave.ensures)
    (ap pattern_of c.deref-in-Interleave-2.ensures) in
    let both = and_parts c.is_some-in-Interleave.result c.nullable-in-Interleave.result (sym c.both-in-Interleave.ensures ∙ c.if-both-2.true) in
    subst (λ (w : Pattern). IsStringAnswer c.args.solid w c.in_ok-first-in-Interleave.first) (sym whole)
    (answer_by c.args.solid p (interleave p q) c.in_ok-first-in-Interleave.first
    (λ g t m. (of_interleave p q).first g t (sym c.nullable-in-Interleave.ensures ∙ both.1) m)
    (sym c.is_some-in-Interleave.ensures ∙ both.0) c.in_ok-first-in-Interleave.ensures)

pub returns-in_ok-second-in-Interleave : goal.returns-in_ok-second-in-Interleave
returns-in_ok-second-in-Interleave t c =
    let p : Pattern = pattern_of c.in-Interleave.a.value in
    let q : Pattern = pattern_of c.in-Interleave.b.value in
    subst (λ (w : Pattern). IsStringAnswer c.args.solid w c.in_ok-second-in-Interleave.second) (sym (ap pattern_of c.in-Interleave.is))
    (second_read (of_interleave p q) c.args.solid c.in_ok-first-in-Interleave.first c.in_ok-second-in-Interleave.second c.is_some-in-Interleave.result
    c.nullable-in-Interleave.result c.nullable-in-Interleave-2.result (pattern_of c.deref-in-Interleave.result.now)
    (pattern_of c.deref-in-Interleave-3.result.now)
    (pattern_of c.deref-in-Interleave-2.result.now) (pattern_of c.deref-in-Interleave-4.result.now)
    (ap pattern_of c.deref-in-Interleave.ensures) (ap pattern_of c.deref-in-Interleave-3.ensures) (ap pattern_of c.deref-in-Interleave-2.ensures)
    (ap pattern_of c.deref-in-Interleave-4.ensures) c.in_ok-first-in-Interleave.ensures c.is_some-in-Interleave.ensures
    c.nullable-in-Interleave.ensures (sym c.both-in-Interleave.ensures ∙ c.if-both-2.false) c.nullable-in-Interleave-2.ensures
    c.if-not-nullable-2.false c.in_ok-second-in-Interleave.ensures)
