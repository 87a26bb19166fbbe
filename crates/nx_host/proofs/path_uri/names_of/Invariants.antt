use Rattle.std.proofs.Common.{◌≡◌, ℕ, List, Bor, map, length}
use Rattle.std.specs.List.{slice_split}
use Rattle.nx_host.specs.PathUri.{is_slash, names_along, names_of}
use Rattle.nx_host.proofs.path_uri.names_of.Given as goal

-- the names so far go on along what is left to those of the whole path
abbrev pub invariant-loop-names : goal.invariant-loop-names
invariant-loop-names l = names_along (map (λ (name : Bor (List ℕ)). name.now) l.names.items) (slice_split is_slash l.left) ≡ names_of l.path

abbrev pub decreases-loop-names : goal.decreases-loop-names
decreases-loop-names l = length l.left
