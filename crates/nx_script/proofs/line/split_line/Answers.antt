use Rattle.std.proofs.Common.{[], ◌∷◌, ap, sym, ◌∙◌, arith}
use Rattle.std.proofs.lemmas.Option.{MatchOption-at_some, MatchOption-at_none}
use Rattle.std.proofs.lemmas.Str.Pattern.{split_parts}
use Rattle.nx_script.specs.Lines.{lines_of}
use Rattle.nx_script.proofs.Cutting.{lines_of_first, lines_of_only}
use Rattle.nx_script.proofs.line.split_line.Goals as goal

pub returns-in-Some-clause-lines : goal.returns-in-Some-clause-lines
returns-in-Some-clause-lines c =
    let line = c.in-Some.line.now in
    let rest = c.in-Some.rest.now in
    let cut = MatchOption-at_some _ _ (c.in-Some.line, c.in-Some.rest) c.in-Some.is (split_parts 10 c.args.text.now c.split_once.result c.split_once.ensures.cases (omega arith)) in
    ap lines_of cut.0 ∙ lines_of_first line rest cut.1 ∙ ap (λ first. first ∷ lines_of rest) (sym c.without_cr.ensures)

pub returns-in-None-clause-lines : goal.returns-in-None-clause-lines
returns-in-None-clause-lines c =
    let text = c.args.text.now in
    let none = MatchOption-at_none _ _ c.in-None.is (split_parts 10 text c.split_once.result c.split_once.ensures.cases (omega arith)) in
    lines_of_only text none c.requires ∙ ap (λ first. first ∷ []) (sym c.without_cr-in-None.ensures)
