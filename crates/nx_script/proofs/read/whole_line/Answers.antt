use Rattle.std.proofs.Common.{◌∙◌, ap, sym, subst}
use Rattle.std.specs.List.{position_or_len}
use Rattle.std.specs.Str.{IsCharBoundary}
use Rattle.nx_script.specs.Reading.{is_blank}
use Rattle.nx_script.proofs.Blanks.{word_boundary}
use Rattle.nx_script.proofs.read.whole_line.Goals as goal

pub split_at-requires : goal.split_at-requires
split_at-requires c =
    let line = c.after_blanks-line.result.now in
    subst (λ n. IsCharBoundary line n)
    (sym (c.word_len.ensures.counted ∙ ap (position_or_len is_blank) c.as_bytes-in_default.ensures.value))
    (word_boundary line)
