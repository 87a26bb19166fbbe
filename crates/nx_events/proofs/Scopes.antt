-- Look-ups in scopes.
use Rattle.std.proofs.Common.{◌≡◌, ℕ, cond, Option, Some, None, List, [], ◌∷◌, ◌++◌, refl, ap, ◌∙◌}
use Rattle.std.specs.Str.{bytes_eq}
use Rattle.nx_events.specs.declared.scope.Binding.{Binding}
use Rattle.nx_events.specs.Scopes.{or_else, last_uri}

or_none : {A : Type 0} (a : Option A) → a ≡ or_else a None
or_none (Some x) = refl
or_none None = refl

or_else_chain : {A : Type 0} (a b c : Option A) → or_else (or_else a b) c ≡ or_else a (or_else b c)
or_else_chain (Some x) b c = refl
or_else_chain None b c = refl

pub last_uri-append : (xs ys : List Binding) (prefix : List ℕ) → last_uri (xs ++ ys) prefix ≡ or_else (last_uri ys prefix) (last_uri xs prefix)
unfolding last_uri
last_uri-append [] ys prefix = or_none (last_uri ys prefix)
last_uri-append (x ∷ xs) ys prefix =
    ap (λ (o : Option (List ℕ)). or_else o (cond (bytes_eq x.prefix prefix) (Some x.uri) None)) (last_uri-append xs ys prefix)
    ∙ or_else_chain (last_uri ys prefix) (last_uri xs prefix) (cond (bytes_eq x.prefix prefix) (Some x.uri) None)
