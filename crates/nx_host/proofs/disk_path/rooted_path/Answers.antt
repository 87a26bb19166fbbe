use Rattle.std.proofs.Common.{◌≡◌, ◌++◌, codes, string_bytes, sym, ◌∙◌}
use Rattle.std.proofs.lemmas.Result.{IfOk-weaker}
use Rattle.percent_encoding.specs.Percent.{percent_decode}
use Rattle.nx_host.proofs.DiskPathLemmas.{Below, RootNamed, stripped, named_from_root}
use Rattle.nx_host.proofs.disk_path.rooted_path.Goals as goal

pub returns-in-Some : goal.returns-in-Some
returns-in-Some c =
    let uri = c.args.uri.now in
    let rest = c.in-Some.rest.now in
    let is : uri ≡ codes "file:///" ++ rest = sym c.as_bytes.ensures.value ∙ stripped (codes "file:///") _ rest c.in-Some.ensures.cases.0 c.in-Some.ensures.cases.1 in
    IfOk-weaker c.path_below.result (Below string_bytes rest (codes "/" ++ percent_decode rest)) (RootNamed string_bytes uri) (named_from_root string_bytes uri rest is) c.path_below.ensures
