use Rattle.std.proofs.Common.{◌≡◌, ◌≢◌, ◌++◌, ℕ, List, codes, string_bytes, sym, ◌∙◌}
use Rattle.std.proofs.lemmas.Result.{IfOk-weaker}
use Rattle.percent_encoding.specs.Percent.{percent_decode}
use Rattle.nx_host.proofs.DiskPathLemmas.{Below, Named, stripped, not_stripped, named_in_work, named_elsewhere}
use Rattle.nx_host.proofs.disk_path.path_of.Goals as goal

pub returns-in-Some : goal.returns-in-Some
returns-in-Some c =
    let uri = c.args.uri.now in
    let rest = c.in-Some.rest.now in
    let is : uri ≡ codes "file:///work/" ++ rest = sym c.as_bytes-bytes.ensures.value ∙ stripped (codes "file:///work/") _ rest c.in-Some.ensures.cases.0 c.in-Some.ensures.cases.1 in
    IfOk-weaker c.path_below.result (Below string_bytes rest (codes "./" ++ percent_decode rest)) (Named string_bytes uri) (named_in_work string_bytes uri rest is) c.path_below.ensures

pub returns-in-Some-strip_prefix : goal.returns-in-Some-strip_prefix
returns-in-Some-strip_prefix c =
    let uri = c.args.uri.now in
    let rest = c.in-Some-strip_prefix.rest.now in
    let same : c.as_bytes-bytes.result.now ≡ uri = c.as_bytes-bytes.ensures.value in
    let outside : (inner : List ℕ) → uri ≢ codes "file:///work/" ++ inner = λ inner is. not_stripped (codes "file:///work/") c.as_bytes-bytes.result.now inner c.in-None.ensures.cases (same ∙ is) in
    let is : uri ≡ codes "file:///" ++ rest = sym same ∙ stripped (codes "file:///") _ rest c.in-Some-strip_prefix.ensures.cases.0 c.in-Some-strip_prefix.ensures.cases.1 in
    IfOk-weaker c.path_below-in-Some-strip_prefix.result (Below string_bytes rest (codes "/" ++ percent_decode rest)) (Named string_bytes uri) (named_elsewhere string_bytes uri rest outside is) c.path_below-in-Some-strip_prefix.ensures
