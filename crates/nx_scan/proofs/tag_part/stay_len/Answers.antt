use Rattle.std.proofs.Common.{sym, subst}
use Rattle.nx_scan.specs.Tag.{Stays, is_name_byte, is_value_byte}
use Rattle.nx_scan.specs.declared.tag.TagState.{TagState}
use Rattle.nx_scan.proofs.TagParts.{each_stays, in_name, in_attribute, in_end_name, in_double, in_single}
use Rattle.nx_scan.proofs.tag_part.stay_len.Goals as goal

pub returns-in-Name-clause-stay : goal.returns-in-Name-clause-stay
returns-in-Name-clause-stay c =
    each_stays is_name_byte c.args.seen (λ byte is. subst (λ (read : TagState). Stays read byte) (sym c.in-Name.is) (in_name byte is))
    c.args.piece.now c.args.from c.name_len.result c.name_len.ensures.len

pub returns-in-Attribute-clause-stay : goal.returns-in-Attribute-clause-stay
returns-in-Attribute-clause-stay c =
    each_stays is_name_byte c.args.seen (λ byte is. subst (λ (read : TagState). Stays read byte) (sym c.in-Attribute.is) (in_attribute byte is))
    c.args.piece.now c.args.from c.name_len-in-Attribute.result c.name_len-in-Attribute.ensures.len

pub returns-in-EndName-clause-stay : goal.returns-in-EndName-clause-stay
returns-in-EndName-clause-stay c =
    each_stays is_name_byte c.args.seen (λ byte is. subst (λ (read : TagState). Stays read byte) (sym c.in-EndName.is) (in_end_name byte is))
    c.args.piece.now c.args.from c.name_len-in-EndName.result c.name_len-in-EndName.ensures.len

pub returns-in-Double-clause-stay : goal.returns-in-Double-clause-stay
returns-in-Double-clause-stay c =
    each_stays (is_value_byte 34) c.args.seen (λ byte is. subst (λ (read : TagState). Stays read byte) (sym c.in-Double.is) (in_double byte is))
    c.args.piece.now c.args.from c.value_len.result c.value_len.ensures.len

pub returns-in-Single-clause-stay : goal.returns-in-Single-clause-stay
returns-in-Single-clause-stay c =
    each_stays (is_value_byte 39) c.args.seen (λ byte is. subst (λ (read : TagState). Stays read byte) (sym c.in-Single.is) (in_single byte is))
    c.args.piece.now c.args.from c.value_len-in-Single.result c.value_len-in-Single.ensures.len
