use Rattle.std.proofs.Common.{◌≡◌, ◌+◌, ◌&&◌, ◌||◌, length, refl, arith}
use Rattle.nx_marks.specs.Chain.{reach}
use Rattle.nx_marks.specs.Tree.{all_whole, any_faulty, has_some}
use Rattle.nx_marks.proofs.Trees.{node_of, between}
use Rattle.nx_marks.proofs.balance.even.Goals as goal

pub invariant_of-result : goal.invariant_of-result
invariant_of-result g c =
    let front = c.args.front in
    let m = c.args.middle in
    let behind = c.args.behind in
    let sums = c.with-sums.result in
    let counts : sums.count ≡ length front + 1 + length behind = omega (arith, c.with-sums.ensures.count, c.with.ensures.count, c.sums.ensures.count, c.sums-2.ensures.count, c.sums-3.ensures.count) in
    let reaches : sums.reach ≡ reach front + m.len + reach behind = omega (arith, c.with-sums.ensures.reach, c.with.ensures.reach, c.sums.ensures.reach, c.sums-2.ensures.reach, c.sums-3.ensures.reach) in
    let whole : sums.whole ≡ ((all_whole front && m.whole) && all_whole behind) = rw (c.with-sums.ensures.whole, c.with.ensures.whole, c.sums.ensures.whole, c.sums-2.ensures.whole, c.sums-3.ensures.whole) refl in
    let faulty : sums.faulty ≡ ((any_faulty front || has_some m.faults) || any_faulty behind) = rw (c.with-sums.ensures.faulty, c.with.ensures.faulty, c.sums.ensures.faulty, c.sums-2.ensures.faulty, c.sums-3.ensures.faulty) refl in
    rw (c.deref_mut-3.ensures.value, c.deref_mut-2.ensures.value, c.deref_mut.ensures.value, c.replace.ensures.after, c.replace-2.ensures.after, c.middle.view_is)
    (node_of front m behind sums.count sums.reach sums.whole sums.faulty c.requires.balanced c.requires.count c.requires.reach counts reaches whole faulty)

pub returns : goal.returns
returns g c =
    rw (c.deref_mut-3.ensures.value, c.deref_mut-2.ensures.value, c.deref_mut.ensures.value, c.replace.ensures.after, c.replace-2.ensures.after, c.middle.view_is) (between c.args.front c.args.middle c.args.behind)
