use Rattle.std.proofs.Common.{◌≡◌, ◌-◌, Some, None, length, take, sym, subst}
use Rattle.std.specs.Prelude.{slice_get}
use Rattle.nx_events.specs.declared.state.EventState.{EventState}
use Rattle.nx_tags.specs.Parts.{IsKnownAt}
use Rattle.nx_tags.specs.Reading.{FoundFree}
use Rattle.nx_tags.proofs.Finding.{innermost_is, last_found, none_last, some_known}
use Rattle.nx_tags.proofs.Reading.{start_known}
use Rattle.nx_tags.proofs.free.innermost_start.Goals as goal

pub returns-in-Some : goal.returns-in-Some
returns-in-Some g c =
    let starts = c.args.front.now.starts.items in
    let last : slice_get starts (length starts - 1) ≡ Some c.in-Some.field-0.now = cc (c.in-Some.ensures.value, c.deref.ensures.value) in
    innermost_is c.args.text.now c.args.at c.requires.opened.0 starts (take (length starts - 1) starts) c.in-Some.field-0.now c.requires.opened.1
    (last_found starts c.in-Some.field-0.now last)

pub front_of_free-requires-clause-known : goal.front_of_free-requires-clause-known
front_of_free-requires-clause-known g c =
    subst (λ (s : EventState). IsKnownAt c.args.text.now 0 s) (sym c.in_ok-nothing.ensures) (start_known c.args.text.now c.len-len.ensures.utf8)

pub unreachable-requires-in_default-last : goal.unreachable-requires-in_default-last
unreachable-requires-in_default-last g c =
    let starts = c.in-Some-2.whole.starts.items in
    let last : slice_get starts (length starts - 1) ≡ None = cc (c.in_default-last.ensures.value, c.deref-2.ensures.value) in
    let free = subst (λ o. FoundFree c.args.text.now 0 c.args.at o) c.in-Some-2.is c.in_ok-whole.ensures in
    none_last starts last (some_known c.args.text.now c.args.at c.len-len.ensures.utf8 c.requires.place c.requires.free starts free.2)

pub returns : goal.returns
returns g c =
    let starts = c.in-Some-2.whole.starts.items in
    let last : slice_get starts (length starts - 1) ≡ Some c.in-Some-last.field-0.now = cc (c.in-Some-last.ensures.value, c.deref-2.ensures.value) in
    let free = subst (λ o. FoundFree c.args.text.now 0 c.args.at o) c.in-Some-2.is c.in_ok-whole.ensures in
    innermost_is c.args.text.now c.args.at 0 starts (take (length starts - 1) starts) c.in-Some-last.field-0.now free.2 (last_found starts c.in-Some-last.field-0.now last)
