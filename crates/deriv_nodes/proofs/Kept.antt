-- What is kept of nodes while nodes come behind.
use Rattle.std.proofs.Common.{◌≡◌, ℕ, zero, suc, ◌<◌, List, [], ◌∷◌, ◌++◌, length, sym, ap, subst, arith, get_or}
use Rattle.rng_core.specs.Patterns.{Pattern}
use Rattle.deriv_nodes.specs.declared.kept_openings.OpenedNode.{OpenedNode}
use Rattle.deriv_nodes.specs.declared.openings.Open.{Open}
use Rattle.deriv_nodes.specs.declared.openings.Wanted.TheVariants as wanted
use Rattle.deriv_nodes.specs.Kept.{IsKept, AreKept}
use Rattle.deriv_nodes.specs.Numbers.{at, Later}
use Rattle.deriv_nodes.specs.Wanted.{opens_by, reference_opens}
use Rattle.deriv_nodes.proofs.Opening.{opened_stay, told_as}

is_kept_later : (old new : List Pattern) (p : ℕ) (os : List Open) → Later old new → IsKept old p os → IsKept new p os
is_kept_later old new p os later is = record {
  node = omega (arith, later.grows, is.node);
  opened = told_as new _ _ os (sym (ap (λ q. opens_by (reference_opens wanted.Any) q) (later.stays p is.node)))
      (opened_stay old new _ os later is.opened);
}

kept_stay : (old new : List Pattern) (fs : List OpenedNode) → Later old new → AreKept old fs → AreKept new fs
kept_stay old new [] later are = tt
kept_stay old new (f ∷ fs) later are = (is_kept_later old new f.node f.opened.items later are.0, kept_stay old new fs later are.1)

-- the old nodes as they are seen, the new ones as they are made
pub kept_later : (made nodes new : List Pattern) (fs : List OpenedNode) → made ≡ nodes → Later nodes new → AreKept made fs → AreKept new fs
kept_later made nodes new fs is later are =
    let P : List Pattern → Type 0 = λ ps. AreKept ps fs in
    kept_stay nodes new fs later (subst P is are)

pub kept_more : (nodes : List Pattern) (fs : List OpenedNode) (f : OpenedNode) → AreKept nodes fs → IsKept nodes f.node f.opened.items
    → AreKept nodes (fs ++ f ∷ [])
kept_more nodes [] f are is = (is, tt)
kept_more nodes (x ∷ fs) f are is = (are.0, kept_more nodes fs f are.1 is)

pub kept_at : (nodes : List Pattern) (fs : List OpenedNode) (i : ℕ) (d : OpenedNode) → AreKept nodes fs → i < length fs
    → IsKept nodes (get_or fs i d).node (get_or fs i d).opened.items
kept_at nodes [] i d are here = absurd (omega (arith, here))
kept_at nodes (x ∷ fs) zero d are here = are.0
kept_at nodes (x ∷ fs) (suc i) d are here = kept_at nodes fs i d are.1 (omega (arith, here))
