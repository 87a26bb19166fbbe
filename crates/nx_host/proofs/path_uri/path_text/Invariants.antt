use Rattle.std.proofs.Common.{◌≡◌, ◌++◌, drop, codes}
use Rattle.std.specs.List.{flat_map}
use Rattle.nx_host.specs.PathUri.{written}
use Rattle.nx_host.proofs.path_uri.path_text.Given as goal

abbrev pub invariant-loop-byte : goal.invariant-loop-byte
invariant-loop-byte l = l.uri.items ++ flat_map written (drop l.byte-index l.path) ≡ codes "file://" ++ flat_map written l.path
