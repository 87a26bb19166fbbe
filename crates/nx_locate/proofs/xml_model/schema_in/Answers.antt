use Rattle.std.proofs.Common.{◌≡◌, ◌∙◌, List, ℕ, Option, IfSome, IsUtf8, false, sym, subst}
use Rattle.std.proofs.lemmas.Result.{IfOk-weaker}
use Rattle.std.specs.List.{list_any}
use Rattle.nx_events.specs.declared.item.Item.{Item}
use Rattle.nx_locate.specs.RulesRead.{is_fault}
use Rattle.nx_locate.specs.NamedSchemas.{schema_among, schema_in}
use Rattle.nx_locate.proofs.Named.{not_text, is_read, among_text}
use Rattle.nx_locate.proofs.xml_model.schema_in.Goals as goal

pub returns-in_default-clause-schema : goal.returns-in_default-clause-schema
returns-in_default-clause-schema g c = not_text c.args.tag.now c.in_default.ensures.cases.0

pub returns-clause-schema : goal.returns-clause-schema
returns-clause-schema g c =
    let read =
    is_read c.args.tag.now c.in-Ok.written.now c.in_ok-text.text c.in_ok-items.items c.as_slice-2.result.now c.behind_first.result.now
    c.in-Ok.ensures.cases.1 c.in-Ok.ensures.cases.0 c.in_ok-text.ensures c.in_ok-items.ensures.items c.as_slice-2.ensures
    (subst (λ (its : List Item). list_any is_fault its ≡ false) (c.as_slice.ensures ∙ sym c.as_slice-2.ensures) (sym c.if-has_fault.ensures)) c.behind_first.ensures in
    IfOk-weaker c.schema_among.result (λ (found : Option (List ℕ)). found ≡ schema_among c.behind_first.result.now) (λ (found : Option (List ℕ)). found ≡ schema_in c.args.tag.now)
    (λ found is. is ∙ read) c.schema_among.ensures

pub returns-clause-utf8 : goal.returns-clause-utf8
returns-clause-utf8 g c =
    IfOk-weaker c.schema_among.result (λ (found : Option (List ℕ)). found ≡ schema_among c.behind_first.result.now) (λ (found : Option (List ℕ)). IfSome found IsUtf8)
    (λ found is. among_text c.in_ok-items.items c.as_slice-2.result.now c.behind_first.result.now found c.in_ok-items.ensures.texts c.as_slice-2.ensures c.behind_first.ensures is)
    c.schema_among.ensures
