use Rattle.std.proofs.Common.{◌≡◌, ◌+◌, ◌<◌, ◌≤◌, ◌^◌, inl, inr, length, sym, ◌∙◌, ap, subst, arith}
use Rattle.nx_base.specs.Text.{IsPlace}
use Rattle.nx_base.specs.Tokens.{end_of}
use Rattle.nx_events.specs.Tags.{start_name}
use Rattle.nx_tags.proofs.RenameAnswers.{nothing_there, tag_there, empty_answered, name_room, both_answered, end_room, not_answered, other_answered}
use Rattle.nx_tags.proofs.tags.rename.Goals as goal

pub returns-in_default : goal.returns-in_default
returns-in_default g c = nothing_there c.args.text.now c.args.at c.args.name.now c.len-len.ensures.utf8 c.in_ok-tag.field-0 c.in_ok-tag.ensures.token c.in_default.is

pub overflow_add-to : goal.overflow_add-to
overflow_add-to g c =
    let there = tag_there c.args.text.now c.args.at c.args.name.now c.len-len.ensures.utf8 c.in_ok-tag.field-0 c.in-Some.tag c.in_ok-tag.ensures.token c.in-Some.is in
    omega (arith, there.ends, there.border.0, c.len-len.ensures.bytes, c.len.ensures)

pub both_renamed-requires-clause-room : goal.both_renamed-requires-clause-room
both_renamed-requires-clause-room g c =
    let text = c.args.text.now in
    let utf8 = c.len-len.ensures.utf8 in
    let there = tag_there text c.args.at c.args.name.now utf8 c.in_ok-tag.field-0 c.in-Some.tag c.in_ok-tag.ensures.token c.in-Some.is in
    name_room text c.args.at c.args.name.now utf8 c.in-Some.tag there (length c.start_name-written.result.now)
    (ap length (c.start_name-written.ensures ∙ ap start_name c.as_slice.ensures)) (omega (arith, c.len-len.ensures.bytes)) (inr c.in-Empty.is)

pub returns-in-Empty : goal.returns-in-Empty
returns-in-Empty g c =
    let text = c.args.text.now in
    let utf8 = c.len-len.ensures.utf8 in
    let there = tag_there text c.args.at c.args.name.now utf8 c.in_ok-tag.field-0 c.in-Some.tag c.in_ok-tag.ensures.token c.in-Some.is in
    empty_answered text c.args.at c.args.name.now utf8 c.in-Some.tag there (length c.start_name-written.result.now)
    (ap length (c.start_name-written.ensures ∙ ap start_name c.as_slice.ensures)) c.both_renamed.result c.in-Empty.is c.both_renamed.ensures

pub end_tag_of-requires : goal.end_tag_of-requires
end_tag_of-requires g c =
    let text = c.args.text.now in
    let there = tag_there text c.args.at c.args.name.now c.len-len.ensures.utf8 c.in_ok-tag.field-0 c.in-Some.tag c.in_ok-tag.ensures.token c.in-Some.is in
    let end : end_of c.in-Some.tag ≡ c.args.at + c.len.result = omega (arith, there.ends, c.len.ensures) in
    subst (λ n. IsPlace text n) end there.border

pub returns-in_default-2 : goal.returns-in_default-2
returns-in_default-2 g c =
    let text = c.args.text.now in
    let utf8 = c.len-len.ensures.utf8 in
    let there = tag_there text c.args.at c.args.name.now utf8 c.in_ok-tag.field-0 c.in-Some.tag c.in_ok-tag.ensures.token c.in-Some.is in
    not_answered text c.args.at c.args.name.now utf8 c.in-Some.tag there (length c.start_name-written.result.now)
    (ap length (c.start_name-written.ensures ∙ ap start_name c.as_slice.ensures)) c.in-Start.is (c.args.at + c.len.result) (ap (λ n. c.args.at + n) c.len.ensures)
    c.in_ok-end-in-Start.field-0 c.in_ok-end-in-Start.ensures c.in_default-2.is

pub both_renamed-requires-in-Start-clause-room : goal.both_renamed-requires-in-Start-clause-room
both_renamed-requires-in-Start-clause-room g c =
    let text = c.args.text.now in
    let utf8 = c.len-len.ensures.utf8 in
    let there = tag_there text c.args.at c.args.name.now utf8 c.in_ok-tag.field-0 c.in-Some.tag c.in_ok-tag.ensures.token c.in-Some.is in
    name_room text c.args.at c.args.name.now utf8 c.in-Some.tag there (length c.start_name-written.result.now)
    (ap length (c.start_name-written.ensures ∙ ap start_name c.as_slice.ensures)) (omega (arith, c.len-len.ensures.bytes)) (inl c.in-Start.is)

pub both_renamed-requires-in-Start-clause-end_room : goal.both_renamed-requires-in-Start-clause-end_room
both_renamed-requires-in-Start-clause-end_room g c =
    let text = c.args.text.now in
    let utf8 = c.len-len.ensures.utf8 in
    let there = tag_there text c.args.at c.args.name.now utf8 c.in_ok-tag.field-0 c.in-Some.tag c.in_ok-tag.ensures.token c.in-Some.is in
    end_room text c.args.at c.args.name.now utf8 c.in-Some.tag there (length c.start_name-written.result.now)
    (ap length (c.start_name-written.ensures ∙ ap start_name c.as_slice.ensures)) c.in-Start.is (c.args.at + c.len.result) (ap (λ n. c.args.at + n) c.len.ensures)
    c.in_ok-end-in-Start.field-0 c.in-Some-2.end c.in_ok-end-in-Start.ensures c.in-Some-2.is (omega (arith, c.len-len.ensures.bytes))

pub returns-in-Some-2 : goal.returns-in-Some-2
returns-in-Some-2 g c =
    let text = c.args.text.now in
    let utf8 = c.len-len.ensures.utf8 in
    let there = tag_there text c.args.at c.args.name.now utf8 c.in_ok-tag.field-0 c.in-Some.tag c.in_ok-tag.ensures.token c.in-Some.is in
    both_answered text c.args.at c.args.name.now utf8 c.in-Some.tag there (length c.start_name-written.result.now)
    (ap length (c.start_name-written.ensures ∙ ap start_name c.as_slice.ensures)) c.in-Start.is (c.args.at + c.len.result) (ap (λ n. c.args.at + n) c.len.ensures)
    c.in_ok-end-in-Start.field-0 c.in-Some-2.end c.in_ok-end-in-Start.ensures c.in-Some-2.is c.both_renamed-in-Start.result c.both_renamed-in-Start.ensures

pub returns-in_default-kind : goal.returns-in_default-kind
returns-in_default-kind g c =
    let text = c.args.text.now in
    let utf8 = c.len-len.ensures.utf8 in
    other_answered text c.args.at c.args.name.now utf8 c.in-Some.tag
    (tag_there text c.args.at c.args.name.now utf8 c.in_ok-tag.field-0 c.in-Some.tag c.in_ok-tag.ensures.token c.in-Some.is)
    c.in_default-kind.not-Empty c.in_default-kind.not-Start
