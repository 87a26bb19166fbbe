use Rattle.std.proofs.Common.{◌++◌, ap, sym, ◌∙◌}
use Rattle.nx_events.specs.Elements.{new_or_flaw}
use Rattle.nx_events.specs.OpenItems.{name_resolved}
use Rattle.nx_events.proofs.OpenItems.{resolved_is, new_name_is}
use Rattle.nx_events.proofs.element.new_name.Goals as goal

pub returns : goal.returns
returns c names h =
    let scope = c.args.outer.now ++ c.args.own.now in
    let written = c.args.written.now in
    c.name_resolved.ensures
    ∙ ap name_resolved (c.in_ok-resolved.ensures.outcome names h ∙ ap (λ d. new_or_flaw names d written) c.in_ok-declared.ensures ∙ resolved_is scope names written)
    ∙ new_name_is scope names written (sym c.is_declaration.ensures ∙ c.if-is_declaration.false)
