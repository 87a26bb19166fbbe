use Rattle.std.proofs.Common.{◌+◌, refl, sym, ◌∙◌}
use Rattle.nx_events.specs.Plain.{is_plain}
use Rattle.nx_events.proofs.PlainAttributes.{plain_opening_is, rest_passes}
use Rattle.nx_events.proofs.plain_opening.plain_opening.Goals as goal

pub returns : goal.returns
returns c = λ kind.
    let bytes = c.as_slice-bytes.result.now in
    let m = c.name_end-n.result in
    let plain = c.are_plain.ensures c.if-not-are_plain.false in
    plain_opening_is c.args.state.now c.args.token.now bytes _ m _ c.as_slice-bytes.ensures plain (sym c.is_behind.ensures ∙ c.if-is_behind.false)
    c.name_end-n.ensures.value refl (c.is_plain_name.ensures c.if-not-is_plain_name.false) (c.in_ok-attributes.ensures (rest_passes is_plain (1 + m) bytes plain)) kind
