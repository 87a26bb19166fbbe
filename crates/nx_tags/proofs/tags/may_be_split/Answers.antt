use Rattle.std.proofs.Common.{◌≡◌, ◌<◌, ◌≤◌, length, sym, subst, arith}
use Rattle.std.proofs.lemmas.Bool.{true≢false}
use Rattle.nx_events.specs.declared.state.EventState.{EventState}
use Rattle.nx_tags.proofs.Answering.{too_few, parts_if}
use Rattle.nx_tags.proofs.tags.may_be_split.Goals as goal

pub returns-then-depth-lt2 : goal.returns-then-depth-lt2
returns-then-depth-lt2 g c =
    let few : length c.args.front.now.state.elements < 2 = omega (arith, c.depth.ensures, c.if-depth-lt2.true) in (
      λ bad. absurd (true≢false (sym bad)),
      λ may. absurd (too_few c.args.text.now c.args.at c.len-len.ensures.utf8 c.requires.place c.requires.free
          (subst (λ (state : EventState). length state.elements < 2) c.requires.known few) may),
    )

pub returns : goal.returns
returns g c =
    let enough : 2 ≤ length c.args.front.now.state.elements = omega (arith, c.depth.ensures, c.if-depth-lt2.false) in
    parts_if c.args.text.now c.args.at c.len-len.ensures.utf8 c.requires.place c.requires.free c.in_ok-tag.tag c.in_ok-tag.ensures.tag
    (subst (λ (state : EventState). 2 ≤ length state.elements) c.requires.known enough) c.in_ok-declares.field-0 c.in_ok-declares.ensures
