use Rattle.std.proofs.Common.{ap, ◌∙◌, refl, arith}
use Rattle.std.proofs.lemmas.Str.Pattern.{strip_suffix_char}
use Rattle.nx_script.proofs.Cutting.{without_cr_is}
use Rattle.nx_script.proofs.line.without_cr.Goals as goal

pub returns : goal.returns
returns c =
    let line = c.args.line.now in
    ap (λ r. r.now) c.unwrap_or.ensures
    ∙ without_cr_is line c.strip_suffix.result (strip_suffix_char 13 line c.strip_suffix.result c.strip_suffix.ensures.cases (omega arith)) c.args.line refl
