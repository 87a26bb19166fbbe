use Rattle.std.proofs.Common.{◌∷◌, [], length, ap, sym, ◌∙◌, arith}
use Rattle.std.proofs.lemmas.List.{length-append}
use Rattle.nx_marks.specs.Chain.{reach}
use Rattle.nx_marks.specs.Right.{tags_behind}
use Rattle.nx_marks.specs.declared.mark.Mark.{Mark}
use Rattle.nx_marks.proofs.Backs.{reach-append}
use Rattle.nx_marks.proofs.Topping.{raised, tags-last}
use Rattle.nx_marks.proofs.front.lengthen_last.Goals as goal

pub lengthen-requires-clause-room : goal.lengthen-requires-clause-room
lengthen-requires-clause-room g c =
    let below = c.raise.new.below in
    let last = c.in-Some.last in
    let all = raised c.args.front.now _ below c.raise.new.top last c.front.view_is c.raise.ensures.all c.in-Some.is in
    let a = ap reach all in
    let b = reach-append below (last ∷ []) in
    let l = ap (λ (m : Mark _). m.len) c.last.view_is in
    let n = ap (λ n. n.mark.len) c.deref_mut.ensures.value in
    omega (arith, c.requires.room)

pub lengthen-requires-clause-tags : goal.lengthen-requires-clause-tags
lengthen-requires-clause-tags g c =
    let below = c.raise.new.below in
    let last = c.in-Some.last in
    let all = raised c.args.front.now _ below c.raise.new.top last c.front.view_is c.raise.ensures.all c.in-Some.is in
    let a = ap tags_behind all ∙ tags-last below last in
    let l = ap (λ (m : Mark _). m.tags) c.last.view_is in
    let n = ap (λ n. n.mark.tags) c.deref_mut.ensures.value in
    omega (arith, c.requires.tags)

pub invariant_of-front-2 : goal.invariant_of-front-2
invariant_of-front-2 g c =
    let below = c.raise.new.below in
    let last = c.in-Some.last in
    let all = raised c.args.front.now _ below c.raise.new.top last c.front.view_is c.raise.ensures.all c.in-Some.is in
    let l = ap (λ (m : Mark _). m.len) c.last.view_is in
    let n = ap (λ n. n.mark.len) c.deref_mut.ensures.value in
    let longer = ap (λ (m : Mark _). m.len) c.in_ok-tags.ensures.longer in
    let bytes = ap length c.lengthen.ensures.bytes in
    let r = c.front.invariant in
    record {
      reaches = (let a = ap reach (c.front.view_is ∙ all) in let b = reach-append below (last ∷ []) in let d = reach-append below (c.lengthen.new.mark ∷ []) in omega (arith, r.reaches, c.len.ensures));
      counted = (let a = ap length (c.front.view_is ∙ all) in let b = length-append below (last ∷ []) in let d = length-append below (c.lengthen.new.mark ∷ []) in omega (arith, r.counted));
    }

pub returns-clause-tags : goal.returns-clause-tags
returns-clause-tags g c = c.in_ok-tags.ensures.tags ∙ sym (tags-last c.raise.new.below c.lengthen.new.mark)
