-- Look-ups among declarations in force.
use Rattle.std.proofs.Common.{◌≡◌, ℕ, true, false, cond, Option, Some, None, List, [], ◌∷◌, ◌++◌, length, refl, ap, ◌∙◌, arith}
use Rattle.std.specs.Str.{bytes_eq}
use Rattle.nx_base.specs.declared.name.Name.{Name}
use Rattle.nx_events.specs.Choices.{or_else}
use Rattle.rngx_read.specs.Names.{last_bound}

or_none : {A : Type 0} (a : Option A) → a ≡ or_else a None
or_none (Some x) = refl
or_none None = refl

or_else_chain : {A : Type 0} (a b c : Option A) → or_else (or_else a b) c ≡ or_else a (or_else b c)
or_else_chain (Some x) b c = refl
or_else_chain None b c = refl

-- the later pairs decide, and then those before them
pub bound_in_both : (xs ys : List Name) (prefix : List ℕ) → last_bound (xs ++ ys) prefix ≡ or_else (last_bound ys prefix) (last_bound xs prefix)
unfolding last_bound
bound_in_both [] ys prefix = or_none (last_bound ys prefix)
bound_in_both (x ∷ xs) ys prefix =
    ap (λ (o : Option (List ℕ)). or_else o (cond (bytes_eq x.local prefix) (Some x.ns) None)) (bound_in_both xs ys prefix)
    ∙ or_else_chain (last_bound ys prefix) (last_bound xs prefix) (cond (bytes_eq x.local prefix) (Some x.ns) None)

-- the last pair is of the prefix
pub bound_here : (pairs before : List Name) (pair : Name) (prefix : List ℕ) → pairs ≡ before ++ pair ∷ [] → bytes_eq pair.local prefix ≡ true →
    last_bound pairs prefix ≡ Some pair.ns
unfolding last_bound
bound_here pairs before pair prefix are is = rw (are, bound_in_both before (pair ∷ []) prefix, is) refl

-- it isn't
pub bound_before : (pairs before : List Name) (pair : Name) (prefix : List ℕ) → pairs ≡ before ++ pair ∷ [] → bytes_eq pair.local prefix ≡ false →
    last_bound pairs prefix ≡ last_bound before prefix
unfolding last_bound
bound_before pairs before pair prefix are is = rw (are, bound_in_both before (pair ∷ []) prefix, is) refl

pub bound_in_none : (pairs : List Name) (prefix : List ℕ) → length pairs ≡ 0 → last_bound pairs prefix ≡ None
unfolding last_bound
bound_in_none [] prefix none = refl
bound_in_none (pair ∷ more) prefix none = absurd (omega (arith, none))
