use Rattle.std.proofs.Common.{refl, sym, ◌∙◌}
use Rattle.nx_events.proofs.PlainAttributes.{plain_named, xml_named, plain_goes_on, xml_goes_on}
use Rattle.nx_events.proofs.plain_opening.named.Goals as goal

pub returns-then-is_plain_name : goal.returns-then-is_plain_name
returns-then-is_plain_name c =
    let plain = c.is_plain_name.ensures c.if-is_plain_name.true in
    (plain_named c.args.name.now _ (sym c.is_declaration.ensures ∙ c.if-is_declaration.false) plain refl refl, refl, plain_goes_on c.args.name.now plain)

pub returns : goal.returns
returns c =
    let plain = c.is_plain_name-2.ensures c.if-not-is_plain_name.false in
    let begins = sym c.starts_with.ensures.value ∙ c.if-not-starts_with.false in (
      xml_named c.args.name.now _ (sym c.is_declaration.ensures ∙ c.if-is_declaration.false) begins plain refl refl,
      refl,
      xml_goes_on c.args.name.now _ begins plain refl,
    )
