use Rattle.std.proofs.Common.{sym, subst}
use Rattle.nx_locate.specs.Making.{HasPatternRuns}
use Rattle.nx_locate.specs.Patterns.{file_name_of, folder_of}
use Rattle.nx_locate.specs.Running.{HasRuns}
use Rattle.nx_locate.proofs.Making.{name_runs, whole_runs, folder_runs, no_folder, behind_folder, not_behind, ok_with}
use Rattle.nx_locate.proofs.uri_pattern.pattern_runs.Goals as goal

pub returns-then-not-has_slash : goal.returns-then-not-has_slash
returns-then-not-has_slash c =
    let base = c.args.base.now in
    let document = c.args.document.now in
    let pattern = c.args.pattern.now in
    ok_with (HasRuns pattern c.file_name_of.result.now) (HasPatternRuns base document pattern) c.runs_of.result
    (λ found h. name_runs base document pattern found (sym c.if-not-has_slash.ensures)
    (subst (λ n. HasRuns pattern n found) c.file_name_of.ensures h)) c.runs_of.ensures

pub returns-then-has_scheme : goal.returns-then-has_scheme
returns-then-has_scheme c =
    let base = c.args.base.now in
    let document = c.args.document.now in
    let pattern = c.args.pattern.now in
    ok_with (HasRuns pattern document) (HasPatternRuns base document pattern) c.runs_of-then-has_scheme.result
    (λ found h. whole_runs base document pattern found (sym c.if-not-has_slash.ensures) (sym c.if-has_scheme.ensures) h)
    c.runs_of-then-has_scheme.ensures

pub returns-in-Some : goal.returns-in-Some
returns-in-Some c =
    let base = c.args.base.now in
    let document = c.args.document.now in
    let pattern = c.args.pattern.now in
    let rest = c.in-Some.rest.now in
    ok_with (HasRuns pattern rest) (HasPatternRuns base document pattern) c.runs_of-in-Some.result
    (λ found h. folder_runs base document pattern found rest (sym c.if-not-has_slash.ensures) (sym c.if-has_scheme.ensures)
    (behind_folder c.folder_of.result.now (folder_of base) document rest c.folder_of.ensures c.in-Some.ensures.cases.0
    c.in-Some.ensures.cases.1) h) c.runs_of-in-Some.ensures

pub returns-in-None : goal.returns-in-None
returns-in-None c =
    no_folder c.args.base.now c.args.document.now c.args.pattern.now (sym c.if-not-has_slash.ensures) (sym c.if-has_scheme.ensures)
    (not_behind c.folder_of.result.now (folder_of c.args.base.now) c.args.document.now c.folder_of.ensures c.in-None.ensures.cases)
