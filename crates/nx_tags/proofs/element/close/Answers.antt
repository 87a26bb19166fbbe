use Rattle.std.proofs.Common.{◌≡◌, ◌≢◌, ap, sym, ◌∙◌, rules}
use Rattle.nx_events.specs.Tags.{start_name, end_name}
use Rattle.nx_tags.proofs.Closing.{not_innermost, none_left}
use Rattle.nx_tags.proofs.element.close.Goals as goal

pub returns-then-ne : goal.returns-then-ne
returns-then-ne c =
    let differ : start_name c.in-Some.innermost.bytes ≢ end_name c.args.end.now.bytes =
    λ named. (let same : c.start_name.result.now ≡ c.end_name.result.now =
    c.start_name.ensures ∙ ap start_name c.as_slice.ensures ∙ named ∙ sym (c.end_name.ensures ∙ ap end_name c.as_slice-2.ensures) in search rules) in
    not_innermost c.args.end.now c.args.open_tags.now c.pop.new.self c.in-Some.innermost c.in-Some.ensures differ

pub returns-then-is_empty : goal.returns-then-is_empty
returns-then-is_empty c =
    let named : start_name c.in-Some.innermost.bytes ≡ end_name c.args.end.now.bytes = search rules in
    ((c.in-Some.innermost, c.in-Some.ensures, named), none_left c.pop.new.self (sym c.is_empty.ensures ∙ c.if-is_empty.true))
