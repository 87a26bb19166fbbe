use Rattle.std.proofs.Common.{sym}
use Rattle.rng_types.proofs.Apart.{offset_above, offset_below, offset_up, offset_down}
use Rattle.rng_types.proofs.offset.offset.Goals as goal

pub returns-in-true-true : goal.returns-in-true-true
returns-in-true-true c =
    let is = offset_below c.args.a.now c.args.b.now c.requires.first c.requires.second (sym c.in-true-true.ensures) (sym c.in-true-true.ensures') in
    rw (c.offset_between.ensures, c.unsigned.ensures, c.unsigned-in-true-true.ensures) is

pub returns-in-true-false : goal.returns-in-true-false
returns-in-true-false c =
    let is = offset_down c.args.a.now c.args.b.now c.requires.first c.requires.second (sym c.in-true-false.ensures) (sym c.in-true-false.ensures') in
    rw (c.min.ensures, c.size.ensures, c.size-in-true-false.ensures) is

pub returns-in-false-true : goal.returns-in-false-true
returns-in-false-true c =
    let is = offset_up c.args.a.now c.args.b.now c.requires.first c.requires.second (sym c.in-false-true.ensures) (sym c.in-false-true.ensures') in
    rw (c.min-in-false-true.ensures, c.size-in-false-true.ensures, c.size-in-false-true-2.ensures) is

pub returns-in-false-false : goal.returns-in-false-false
returns-in-false-false c =
    let is = offset_above c.args.a.now c.args.b.now c.requires.first c.requires.second (sym c.in-false-false.ensures) (sym c.in-false-false.ensures') in
    rw (c.offset_between-in-false-false.ensures, c.unsigned-in-false-false.ensures, c.unsigned-in-false-false-2.ensures) is
