use Rattle.std.proofs.Common.{◌<◌, ◌∙◌, ap, sym, subst}
use Rattle.std.specs.List.{prefix_len}
use Rattle.std.specs.Str.{IsCharBoundary}
use Rattle.nx_script.specs.Reading.{is_blank}
use Rattle.nx_script.proofs.Blanks.{blanks_boundary}
use Rattle.nx_script.proofs.read.after_blanks.Goals as goal

pub range_from-requires : goal.range_from-requires
range_from-requires c =
    let line = c.args.line.now in
    subst (λ n. 0 < n → IsCharBoundary line n)
    (sym (c.leading_blanks.ensures.counted ∙ ap (prefix_len is_blank) c.as_bytes.ensures.value))
    (blanks_boundary line c.utf8.line)
