use Rattle.std.proofs.Common.{List, ℕ, ◌≡◌, ◌-◌, Some, length, take, map, true, sym, ap, ◌∙◌, arith}
use Rattle.std.proofs.lemmas.Grind.{common_steps}
use Rattle.std.proofs.lemmas.Slice.Eq.{bytes_eq-Decides}
use Rattle.nx_events.specs.Items.{around_innermost}
use Rattle.nx_events.specs.Places.{last_place}
use Rattle.nx_events.specs.Tags.{end_name}
use Rattle.nx_events.specs.declared.state.OpenElement.{OpenElement}
use Rattle.nx_events.proofs.Stacks.{innermost_is, last_of_front}
use Rattle.nx_events.proofs.nesting.is_end_of_innermost.Goals as goal

pub returns-clause-place : goal.returns-clause-place
returns-clause-place c = λ is.
    let all = c.as_slice-all.result.now in
    let innermost = c.index-all-len.result in
    let name = end_name c.args.bytes.now in
    let written : OpenElement → List ℕ = λ element. element.written in
    let whole : take (length all) all ≡ all = grind (arith, common_steps) in
    let same = (bytes_eq-Decides innermost.written name).1 (sym c.name.ensures ∙ c.is_end_tag_of.ensures is) in
    ap (around_innermost name) (sym c.as_slice-all.ensures)
    ∙ innermost_is name all
    ∙ ap (λ (xs : List OpenElement). last_place name (map written xs)) (sym whole)
    ∙ last_of_front written name all (length all) innermost true (omega arith) (omega arith) c.index-all-len.is same
    ∙ ap (λ (xs : List OpenElement). Some (length xs - 1)) c.as_slice-all.ensures
