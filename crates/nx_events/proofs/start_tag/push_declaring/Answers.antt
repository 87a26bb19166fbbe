use Rattle.std.proofs.Common.{◌≡◌, [], ap, sym, ◌∙◌}
use Rattle.nx_events.specs.Tags.{tag_attributes}
use Rattle.nx_events.proofs.OpenItems.{bare_open, bare_own}
use Rattle.nx_events.proofs.start_tag.push_declaring.Goals as goal

pub returns-clause-items : goal.returns-clause-items
returns-clause-items c =
    let token = c.args.token.now in
    let none : tag_attributes token.from token.bytes ≡ [] =
    sym (ap (tag_attributes token.from) c.as_slice-bytes.ensures) ∙ c.is_name_alone.ensures c.if-not-is_name_alone.false token.from in
    bare_open c.args.items.now c.push_character_faults.new.items c.push_tag_element.new.items c.args.state.now token c.new-own.result none c.new-own.ensures
    (rw c.as_slice-bytes.ensures at c.in_ok-push_character_faults.ensures) c.in_ok-push_tag_element.ensures

pub returns-clause-own : goal.returns-clause-own
returns-clause-own c =
    let token = c.args.token.now in
    let none : tag_attributes token.from token.bytes ≡ [] =
    sym (ap (tag_attributes token.from) c.as_slice-bytes.ensures) ∙ c.is_name_alone.ensures c.if-not-is_name_alone.false token.from in
    bare_own token c.new-own.result none c.new-own.ensures
