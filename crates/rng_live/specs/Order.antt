-- The order in which names and texts are listed: by namespace and then by local part, each by its bytes.
use Rattle.std.specs.Prelude.{◌↔◌, List, [], ◌∷◌, ℕ, Contains}
use Rattle.std.specs.BTreeSet.{insert_key}
use Rattle.std.specs.List.Sorted.{IsStrictlySortedBy}
use Rattle.std.specs.Cmp.Lexicographic.{slice_cmp}
use Rattle.std.specs.Ordering.{nat_cmp, then_cmp}
use Rattle.std.specs.declared.cmp.Ordering.{Ordering}
use Rattle.nx_base.specs.declared.name.Name.{Name}

abbrev pub text_order : List ℕ → List ℕ → Ordering
text_order = slice_cmp nat_cmp

abbrev pub name_order : Name → Name → Ordering
name_order = then_cmp (λ a b. text_order a.ns b.ns) (λ a b. text_order a.local b.local)

-- in order, each once
abbrev pub in_order : List Name → List Name
in_order [] = []
in_order (n ∷ ns) = insert_key name_order (in_order ns) n

-- a list has the items of another, in order and each once
pub record SortsOnce {X : Type 0} (order : X → X → Ordering) (old new : List X) : Type 0 where
  pub sorted : IsStrictlySortedBy order new
  pub same : (x : X) → Contains new x ↔ Contains old x
