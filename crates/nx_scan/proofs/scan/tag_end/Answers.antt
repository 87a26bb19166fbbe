use Rattle.std.proofs.Common.{◌+◌, ◌∙◌, ap, sym, subst, arith}
use Rattle.nx_base.specs.Text.{IsPlace}
use Rattle.nx_base.specs.declared.token.TokenKind.TheVariants as kinds
use Rattle.nx_scan.specs.declared.tag.TagState.TheVariants as seen
use Rattle.nx_scan.specs.Tag.{left_of}
use Rattle.nx_scan.proofs.TagEnds.{begin-tag, begin-place, open-part, is_open, step-on, next-border, is-whole, is-lost, is-ended, start-whole, empty-whole, end-whole}
use Rattle.nx_scan.proofs.scan.tag_end.Goals as goal

pub read_on-part-requires-clause-place : goal.read_on-part-requires-clause-place
read_on-part-requires-clause-place c = begin-place c.args.text.now c.args.at c.requires.utf8 c.requires.within c.requires.open

pub loop-c-init : goal.loop-c-init
loop-c-init c =
    c.read_on-part.ensures.on c.args.at (record {
      border = begin-place c.args.text.now c.args.at c.requires.utf8 c.requires.within c.requires.open;
      behind = omega arith;
      part = open-part;
      so_far = begin-tag c.args.text.now c.args.at c.requires.utf8 c.requires.within c.requires.open;
    })

pub returns-in-Start : goal.returns-in-Start
returns-in-Start c =
    let inv = c.loop-c.invariant in
    is-whole c.args.text.now c.args.at c.loop-c.part.place c.in-Some.c (left_of c.loop-c.part.seen) c.requires.utf8 c.in-Some.ensures.char
    inv.behind inv.part inv.so_far seen.Start kinds.Start start-whole c.in-Start.ensures c.new.result c.new.ensures.kind
    (c.new.ensures.place ∙ ap (λ n. c.loop-c.part.place + n) c.len_utf8.ensures.value)

pub returns-in-Empty : goal.returns-in-Empty
returns-in-Empty c =
    let inv = c.loop-c.invariant in
    is-whole c.args.text.now c.args.at c.loop-c.part.place c.in-Some.c (left_of c.loop-c.part.seen) c.requires.utf8 c.in-Some.ensures.char
    inv.behind inv.part inv.so_far seen.Empty kinds.Empty empty-whole c.in-Empty.ensures c.new-in-Empty.result c.new-in-Empty.ensures.kind
    (c.new-in-Empty.ensures.place ∙ ap (λ n. c.loop-c.part.place + n) c.len_utf8.ensures.value)

pub returns-in-End : goal.returns-in-End
returns-in-End c =
    let inv = c.loop-c.invariant in
    is-whole c.args.text.now c.args.at c.loop-c.part.place c.in-Some.c (left_of c.loop-c.part.seen) c.requires.utf8 c.in-Some.ensures.char
    inv.behind inv.part inv.so_far seen.End kinds.End end-whole c.in-End.ensures c.new-in-End.result c.new-in-End.ensures.kind
    (c.new-in-End.ensures.place ∙ ap (λ n. c.loop-c.part.place + n) c.len_utf8.ensures.value)

pub returns-in-Lost : goal.returns-in-Lost
returns-in-Lost c =
    let inv = c.loop-c.invariant in
    is-lost c.args.text.now c.args.at c.loop-c.part.place c.in-Some.c (left_of c.loop-c.part.seen) c.requires.utf8 c.in-Some.ensures.char
    inv.behind inv.part inv.so_far c.in-Lost.ensures c.bad_end.result c.bad_end.ensures

pub read_on-part-requires-in-Some : goal.read_on-part-requires-in-Some
read_on-part-requires-in-Some c =
    let inv = c.loop-c.invariant in
    record {
      utf8 = c.requires.utf8;
      place =
          subst (λ n. IsPlace c.args.text.now n) (sym (ap (λ n. c.loop-c.part.place + n) c.len_utf8.ensures.value))
          (next-border c.args.text.now c.args.at c.loop-c.part.place c.in-Some.c (left_of c.loop-c.part.seen) c.requires.utf8
          c.in-Some.ensures.char inv.behind inv.part inv.so_far);
    }

pub loop-c-preserved : goal.loop-c-preserved
loop-c-preserved c =
    let inv = c.loop-c.invariant in
    let open_now = is_open c.then-next.result c.in_default-next.not-Start c.in_default-next.not-Empty c.in_default-next.not-End c.in_default-next.not-Lost in
    c.read_on-part-in-Some.ensures.on c.args.at
    (step-on c.args.text.now c.args.at c.loop-c.part.place c.in-Some.c (left_of c.loop-c.part.seen) c.requires.utf8 c.in-Some.ensures.char
    inv.behind inv.part inv.so_far c.then-next.result c.then-next.ensures open_now (c.loop-c.part.place + c.len_utf8.result)
    (ap (λ n. c.loop-c.part.place + n) c.len_utf8.ensures.value))

pub loop-c-smaller : goal.loop-c-smaller
loop-c-smaller c =
    let further = c.read_on-part-in-Some.ensures.further in
    let some = c.len_utf8.ensures.lower_bound in
    let inside = (loop-c-preserved c).border.0 in
    omega (arith, further, some, inside)

pub returns : goal.returns
returns c =
    let inv = c.loop-c.invariant in
    is-ended c.args.text.now c.args.at c.loop-c.part.place (left_of c.loop-c.part.seen) inv.border c.in_default.ensures.char inv.behind inv.part inv.so_far
    c.bad_end-2.result c.bad_end-2.ensures
