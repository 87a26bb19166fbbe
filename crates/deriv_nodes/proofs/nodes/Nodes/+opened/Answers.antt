use Rattle.std.proofs.Common.{◌≡◌, ◌<◌, List, length, map, sym, ap, ◌∙◌, subst, arith, true}
use Rattle.rng_core.specs.Patterns.{Pattern}
use Rattle.rng_kept.specs.Openings.{Opening, joined, then_group, then_interleave, under_interleave}
use Rattle.deriv_nodes.specs.Wanted.{opens_by, reference_opens}
use Rattle.deriv_nodes.specs.declared.openings.Open.{Open}
use Rattle.deriv_nodes.specs.declared.openings.Place.TheVariants.{InGroup}
use Rattle.deriv_nodes.specs.Numbers.{at}
use Rattle.deriv_nodes.specs.Opened.{openings_at, AreOpened, placed}
use Rattle.deriv_nodes.proofs.IfOk.{if_ok}
use Rattle.deriv_nodes.proofs.Opening.{both_opened, group_opened, null_opened, interleave_opened, told_as}
use Rattle.deriv_nodes.proofs.nodes.Nodes.+opened.Goals as goal

pub returns-in_ok-second-in-Choice-clause-made : goal.returns-in_ok-second-in-Choice-clause-made
returns-in_ok-second-in-Choice-clause-made t c =
    let old = c.args.self.now in
    let f : Pattern → List Opening = λ q. opens_by (reference_opens c.args.wanted) q in
    let here : c.in-Choice.b < length old = omega (arith, c.in-Choice.ensures.parts.1, c.requires) in
    if_ok c.of_choice.result c.of_choice.ensures.made (λ made is.
    told_as c.of_choice.new.self _ (f (at old c.args.p)) made.items
    (both_opened old c.opened-in-Choice.new.self c.opened-in-Choice-2.new.self f (f (at old c.in-Choice.a)) c.in-Choice.b
    c.in_ok-first-in-Choice.first.items c.in_ok-second-in-Choice.second.items c.in_ok-first-in-Choice.ensures.later
    c.in_ok-second-in-Choice.ensures.later here c.in_ok-first-in-Choice.ensures.made c.in_ok-second-in-Choice.ensures.made
    ∙ sym (ap f c.in-Choice.ensures.is)) is)

pub returns-in_ok-second-in-Group-clause-made : goal.returns-in_ok-second-in-Group-clause-made
returns-in_ok-second-in-Group-clause-made t c =
    let old = c.args.self.now in
    let one = c.opened-in-Group.new.self in
    let two = c.all_placed.new.self in
    let new = c.opened-in-Group-2.new.self in
    let f : Pattern → List Opening = λ q. opens_by (reference_opens c.args.wanted) q in
    let here : c.in-Group.b < length old = omega (arith, c.in-Group.ensures.parts.1, c.requires) in
    let P : List Open → Type 0 = λ os. AreOpened two (map (placed InGroup (at one c.in-Group.b)) (openings_at one os)) c.in_ok-first-in-Group-2.first.items in
    let whole = subst P c.as_slice-in-Group.ensures.value c.in_ok-first-in-Group-2.ensures.made in
    let found = c.nullable.ensures in
    let there : c.in-Group.a < length one = omega (arith, c.in-Group.ensures.parts.0, c.requires, c.in_ok-first-in-Group.ensures.later.grows) in
    let from : c.in-Group.a < length old = omega (arith, c.in-Group.ensures.parts.0, c.requires) in
    let same : at two c.in-Group.a ≡ at old c.in-Group.a
    = c.in_ok-first-in-Group-2.ensures.later.stays c.in-Group.a there ∙ c.in_ok-first-in-Group.ensures.later.stays c.in-Group.a from in
    let is_null : c.nullable.result ≡ true = c.if-not-nullable.false in
    if_ok c.of_choice-in-Group.result c.of_choice-in-Group.ensures.made (λ made is.
    told_as c.of_choice-in-Group.new.self _ (f (at old c.args.p)) made.items
    (null_opened old two c.in-Group.a (map (then_group (at old c.in-Group.b)) (f (at old c.in-Group.a))) (f (at old c.in-Group.b)) _
    c.nullable.result found is_null same (group_opened old one two new f c.in-Group.a c.in-Group.b c.in_ok-first-in-Group.first.items c.in_ok-first-in-Group-2.first.items
    c.in_ok-second-in-Group.second.items c.in_ok-first-in-Group.ensures.later c.in_ok-first-in-Group-2.ensures.later
    c.in_ok-second-in-Group.ensures.later here c.in_ok-first-in-Group.ensures.made whole c.in_ok-second-in-Group.ensures.made)
    ∙ sym (ap f c.in-Group.ensures.is)) is)

pub returns-in_ok-second-in-Interleave-clause-made : goal.returns-in_ok-second-in-Interleave-clause-made
returns-in_ok-second-in-Interleave-clause-made t c =
    let old = c.args.self.now in
    let one = c.opened-in-Interleave.new.self in
    let two = c.opened-in-Interleave-2.new.self in
    let f : Pattern → List Opening = λ q. opens_by (reference_opens c.args.wanted) q in
    let here_a : c.in-Interleave.a < length old = omega (arith, c.in-Interleave.ensures.parts.0, c.requires) in
    let here_b : c.in-Interleave.b < length old = omega (arith, c.in-Interleave.ensures.parts.1, c.requires) in
    let fs = c.in_ok-first-in-Interleave.first.items in
    let ss = c.in_ok-second-in-Interleave.second.items in
    let both : List Open → List Open → List Opening = λ xs ys.
    joined (map (then_interleave (at two c.in-Interleave.b)) (openings_at two xs))
    (map (under_interleave (at two c.in-Interleave.a)) (openings_at two ys)) in
    if_ok c.of_interleave.result c.of_interleave.ensures.made (λ made is.
    told_as c.of_interleave.new.self _ (f (at old c.args.p)) made.items
    (ap (λ xs. both xs c.as_slice-in-Interleave-2.result.now) c.as_slice-in-Interleave.ensures.value
    ∙ (ap (λ ys. both fs ys) c.as_slice-in-Interleave-2.ensures.value
    ∙ (interleave_opened old one two f c.in-Interleave.a c.in-Interleave.b fs ss c.in_ok-first-in-Interleave.ensures.later
    c.in_ok-second-in-Interleave.ensures.later here_a here_b c.in_ok-first-in-Interleave.ensures.made c.in_ok-second-in-Interleave.ensures.made
    ∙ sym (ap f c.in-Interleave.ensures.is)))) is)
