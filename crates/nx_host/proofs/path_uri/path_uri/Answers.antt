use Rattle.std.proofs.Common.{◌≡◌, ◌++◌, List, ℕ, codes, IsAscii, IsUtf8, subst, sym}
use Rattle.std.proofs.lemmas.Result.{IfOk-weaker}
use Rattle.std.specs.List.{flat_map}
use Rattle.nx_host.specs.PathUri.{written}
use Rattle.nx_host.proofs.PathUris.{path_is_ascii, path_is_text}
use Rattle.nx_host.proofs.path_uri.path_uri.Goals as goal

pub returns-clause-ascii : goal.returns-clause-ascii
returns-clause-ascii c = λ other.
    IfOk-weaker c.path_text.result (λ (uri : List ℕ). uri ≡ codes "file://" ++ flat_map written c.as_slice.result.now) IsAscii
    (λ uri is. subst IsAscii (sym is) (path_is_ascii c.as_slice.result.now)) c.path_text.ensures

pub returns-clause-utf8 : goal.returns-clause-utf8
returns-clause-utf8 c = λ text.
    IfOk-weaker c.path_text.result (λ (uri : List ℕ). uri ≡ codes "file://" ++ flat_map written c.as_slice.result.now) IsUtf8
    (λ uri is. subst IsUtf8 (sym is) (path_is_text c.as_slice.result.now)) c.path_text.ensures
