-- A lively residual takes something fresh.
use Rattle.std.proofs.Common.{◌≡◌, List, [], ◌∷◌, Bool, true, false, not, ◌&&◌, refl, subst}
use Rattle.nx_base.specs.declared.name.Name.{Name}
use Rattle.nx_base.specs.Trees.{Children, nil, Event, TagEnd, Leave, attributes_flat, children_flat}
use Rattle.rng_core.specs.Patterns.{Pattern, Definition}
use Rattle.rng_core.specs.Matching.{Matches, as_they_stand}
use Rattle.rng_kept.specs.SmallPatterns.{is_not_allowed}
use Rattle.rng_kept.specs.Residuals.{Outer, inside, Way, Residual, TakesChildren, strictly, loosely, voidly, TakesOuter, at_document, at_inside, at_this, TakesWay, among_children, in_start_tag, Takes, by_this}
use Rattle.rng_kept.specs.Lively.{IsLivelyOutside, lively_document, lively_inside, lively_one_of, IsLively, lively_among, lively_in_tag, Lively, lively}
use Rattle.rng_residual.proofs.Fresh.{IsFresh, fresh_end, fresh_leave}
use Rattle.rng_kept.specs.Live.{AreLive}
use Rattle.rng_residual.proofs.Repair.{repair, distinct_right, distinct_apart2}
use Rattle.rng_residual.proofs.Fresh.{CanBeWritten, fresh_attributes, fresh_children}
use Rattle.rng_residual.proofs.Joining.{none_written, solid_stays}
use Rattle.rng_residual.proofs.Samples.{sample}
use Rattle.rng_residual.proofs.Alive.{lively_first}

-- outside of tags: fresh wherever it stands
pub record OuterRest (g : List Definition) (o : Outer) : Type 0 where
  pub rest : List Event
  pub fresh : (l : List Name) → IsFresh l rest
  pub taken : TakesOuter g o rest

in_children : {g : List Definition} {b l : Pattern} {v : Bool} {o : Outer} (k : Children) → CanBeWritten k → TakesChildren g b l v k → OuterRest g o → OuterRest g (inside b l v o)
in_children k w c h = record {
  rest = children_flat k (Leave ∷ h.rest);
  fresh = λ m. fresh_children m w (λ n. fresh_leave (h.fresh []));
  taken = at_inside k h.rest refl c h.taken;
}

pub outer_viable : {g : List Definition} {o : Outer} → IsLivelyOutside g o → OuterRest g o
outer_viable {g = g} (lively_document {p = p} c) =
    let w = sample c in
    record {
      rest = children_flat w.children [];
      fresh = λ l. fresh_children l w.written (λ m. fresh_end);
      taken = at_document w.children refl (subst (λ a. Matches g p a w.children) (w.none refl) w.matched);
    }
outer_viable {g = g} (lively_inside {b = b} {l = l} {v = v} {o = o} c d a h) = go (outer_viable h) (is_not_allowed b) (is_not_allowed l) v refl refl refl a
  where
    go : OuterRest g o → (x y z : Bool) → is_not_allowed b ≡ x → is_not_allowed l ≡ y → v ≡ z → (x && (y && not z)) ≡ false → OuterRest g (inside b l v o)
    go k false y z ex ey ez f =
        let w = sample (c.clean ex) in
        in_children w.children w.written (strictly (subst (λ s. Matches g b s w.children) (w.none refl) w.matched)) k
    go k true false z ex ey ez f =
        let w = sample (d.clean ey) in
        let m : Matches g l [] w.children = subst (λ s. Matches g l s w.children) (w.none refl) w.matched in
        in_children w.children w.written (loosely (rw (solid_stays (w.solid refl)) m)) k
    go k true true true ex ey ez f = in_children nil none_written (voidly ez refl) k
    go k true true false ex ey ez f = cc
outer_viable (lively_one_of h i) = let w = outer_viable h in record { rest = w.rest; fresh = w.fresh; taken = at_this w.taken }

-- what is taken, where the open tag has these attributes
pub record HasRest (g : List Definition) (l : List Name) (x : Residual) : Type 0 where
  pub rest : List Event
  pub fresh : IsFresh l rest
  pub taken : Takes g x rest

pub record WayRest (g : List Definition) (l : List Name) (w : Way) : Type 0 where
  pub rest : List Event
  pub fresh : IsFresh l rest
  pub taken : TakesWay g w rest

pub way_viable : {g : List Definition} {l : List Name} {w : Way} → AreLive g → IsLively g l w → WayRest g l w
way_viable {l = l} live (lively_among h) = let o = outer_viable h in record { rest = o.rest; fresh = o.fresh l; taken = among_children o.taken }
way_viable {g = g} {l = l} live (lively_in_tag {p = p} c i h) =
    let w = sample c in
    let o = outer_viable h in
    let v = i.behind w.attributes w.children w.matched in
    let r = repair v.matched (live.apart i.number i.definition i.is) v.split v.proper in
    record {
      rest = attributes_flat r.other (TagEnd ∷ children_flat w.children (Leave ∷ o.rest));
      fresh = fresh_attributes (distinct_right r.split r.distinct) (r.chars w.chars)
          (record { apart = λ n b a. distinct_apart2 r.split r.distinct (v.names n a) b })
          (fresh_children [] w.written (λ m. fresh_leave (o.fresh [])));
      taken = in_start_tag r.other w.children o.rest refl (record { children = w.children; weakly = as_they_stand; matched = v.from r.all r.other w.children r.split r.matched }) o.taken;
    }

pub viable : {g : List Definition} {l : List Name} {x : Residual} → AreLive g → Lively g l x → HasRest g l x
viable live (lively a) = let w = way_viable live (lively_first a).0 in record { rest = w.rest; fresh = w.fresh; taken = by_this w.taken }
