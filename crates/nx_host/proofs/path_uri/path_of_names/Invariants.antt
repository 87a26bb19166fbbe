use Rattle.std.proofs.Common.{◌≡◌, ◌++◌, ℕ, List, Bor, map, drop, codes}
use Rattle.std.specs.List.{flat_map}
use Rattle.nx_host.specs.PathUri.{path_of_names}
use Rattle.nx_host.proofs.path_uri.path_of_names.Given as goal

abbrev pub invariant-loop-name : goal.invariant-loop-name
invariant-loop-name l =
    l.path.items ++ flat_map (λ (one : List ℕ). codes "/" ++ one) (map (λ (name : Bor (List ℕ)). name.now) (drop l.name-index l.names))
    ≡ path_of_names (map (λ (name : Bor (List ℕ)). name.now) l.names)
