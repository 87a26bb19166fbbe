use Rattle.std.proofs.Common.{rules, ◌+◌, get_or, refl, arith}
use Rattle.nx_scan.specs.Tag.{is_name_byte, is_value_byte}
use Rattle.nx_scan.proofs.TagParts.{each_passes}
use Rattle.nx_scan.proofs.tag_part.attribute_end.Goals as goal

pub returns-then-piece-close : goal.returns-then-piece-close
returns-then-piece-close c =
    let piece = c.args.piece.now in
    let equals = c.args.from + 1 + c.name_len.result in
    let quote = get_or piece (equals + 1) 0 in
    record {
      equals = equals;
      close = equals + 2 + c.value_len.result;
      quote = quote;
      some = omega arith;
      low = search rules;
      first = search rules;
      others = λ k less. each_passes is_name_byte piece (c.args.from + 1) c.name_len.result c.name_len.ensures.len k (omega (arith, less));
      equals_there = search rules;
      opened = refl;
      quoted = search rules;
      behind = omega arith;
      value = λ k less. each_passes (is_value_byte quote) piece (equals + 2) c.value_len.result c.value_len.ensures.len k (omega (arith, less));
      within = search rules;
      closed = search rules;
      ends = refl;
    }
