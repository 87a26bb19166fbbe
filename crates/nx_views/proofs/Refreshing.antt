-- How a refresh goes on from view to view.
use Rattle.std.proofs.Common.{◌≡◌, ℕ, ◌+◌, ◌≤◌, ◌<◌, ◌⊎◌, Bool, true, false, List, [], ◌∷◌, ◌++◌, length, take, drop, refl, sym, subst, ap, ◌∙◌, arith, set, ⊎_elim, zero, suc, inl, inr, map, drop-cons, add-one, append_assoc, length-set}
use Rattle.std.specs.Prelude.{remove}
use Rattle.std.proofs.lemmas.List.{drop-set-lt, append-nil, take-append-drop}
use Rattle.std.proofs.lemmas.Grind.{take-set_at}
use Rattle.std.proofs.Math.ListN.{drop_of_length-le}
use Rattle.std.proofs.Math.Seq.{drop-length, take-length}
use Rattle.nx_base.specs.declared.fault.Fault.{Fault}
use Rattle.nx_views.specs.States.{ViewState, AfterPuts, showing}
use Rattle.nx_views.specs.Refreshed.{KeptOrDropped, Shows, Holds, Fails, Refreshed, Starved}
use Rattle.nx_views.specs.Turns.{KeptAt, DroppedAt}

-- a put after n puts
pub one_more : (n : ℕ) (before now behind : ViewState) → AfterPuts n before now → AfterPuts 1 now behind → AfterPuts (n + 1) before behind
one_more n before now behind h k = record {
  dead = λ e. k.dead (h.dead e);
  stays = λ e. k.stays (h.same ∙ e) ∙ h.stays e;
  same = k.same ∙ h.same;
  lasts = λ e le. k.lasts (h.lasts e (omega arith)) (omega (arith, h.fell));
  fell = omega (arith, h.fell, k.fell);
  rose = omega (arith, h.rose, k.rose);
}

-- what holds behind fewer puts holds behind more
pub no_fewer : (n m : ℕ) (before behind : ViewState) → n ≤ m → AfterPuts n before behind → AfterPuts m before behind
no_fewer n m before behind le h = record {
  dead = h.dead;
  stays = h.stays;
  same = h.same;
  lasts = λ e k. h.lasts e (omega arith);
  fell = omega (arith, h.fell);
  rose = h.rose;
}

-- a view that shows another list bore no put, and so not more than n
pub no_put : (n : ℕ) (list : List Fault) (before behind : ViewState) → behind ≡ showing list before → AfterPuts n before behind
no_put n list before behind e = rw e (record { dead = λ d. d; stays = λ d. refl; same = refl; lasts = λ d k. d; fell = omega arith; rose = omega arith })

-- what a cut up to the end leaves, where the front is that of other faults
pub cut_to_end : (n len : ℕ) (faults : List Fault) (before behind : ViewState) → len ≡ length before.list → take n before.list ≡ take n faults
    → behind ≡ showing (take n before.list ++ drop len before.list) before → behind ≡ showing (take n faults) before
cut_to_end n len faults before behind e front h =
    h ∙ ap (λ ys. showing ys before) (rw (e, drop-length before.list) (append-nil (take n before.list)) ∙ front)

pub gone_why : (faults : List Fault) (before behind : ViewState) → AfterPuts (length faults) before behind → behind.live ≡ false → Fails faults before
gone_why faults before behind h dead lasts = ⊎_elim
    (λ (steady : before.steady ≡ true). let e : true ≡ false = sym lasts.lives ∙ sym (h.stays steady) ∙ dead in cc)
    (λ (room : length faults ≤ before.room). let e : true ≡ false = sym (h.lasts lasts.lives room) ∙ dead in cc) lasts.bears

pub remove-set : {X : Type 0} (xs : List X) (i : ℕ) (v : X) → remove (set xs i v) i ≡ remove xs i
remove-set [] i v = refl
remove-set (x ∷ xs) zero v = refl
remove-set (x ∷ xs) (suc i) v = ap (λ ys. x ∷ ys) (remove-set xs i v)

remove-take : {X : Type 0} (xs : List X) (i : ℕ) → i < length xs → take i (remove xs i) ≡ take i xs
remove-take [] i lt = absurd (omega arith)
remove-take (x ∷ xs) zero lt = refl
remove-take (x ∷ xs) (suc i) lt = ap (λ ys. x ∷ ys) (remove-take xs i (omega arith))

remove-drop : {X : Type 0} (xs : List X) (i : ℕ) → i < length xs → drop i (remove xs i) ≡ drop (i + 1) xs
remove-drop [] i lt = absurd (omega arith)
remove-drop (x ∷ xs) zero lt = refl
remove-drop (x ∷ xs) (suc i) lt = remove-drop xs i (omega arith) ∙ rw (add-one i, add-one (suc i)) refl

remove-within : {X : Type 0} (xs : List X) (i : ℕ) → i < length xs → i ≤ length (remove xs i)
remove-within [] i lt = absurd (omega arith)
remove-within (x ∷ xs) zero lt = omega arith
remove-within (x ∷ xs) (suc i) lt = let h = remove-within xs i (omega arith) in omega arith

module _ {X : Type 0} (kept : X → X → Type 0) (dropped : X → Type 0) where
  -- the first views are done with
  pub record Refreshing (old now : List X) (i : ℕ) : Type 0 where
    pub passed : List X
    pub rest : old ≡ passed ++ drop i now
    pub within : i ≤ length now
    pub done : KeptOrDropped kept dropped passed (take i now)

  joined : (xs ys vs ws : List X) → KeptOrDropped kept dropped xs ys → KeptOrDropped kept dropped vs ws → KeptOrDropped kept dropped (xs ++ vs) (ys ++ ws)
  joined [] [] vs ws h k = k
  joined [] (y ∷ ys) vs ws h k = absurd h
  joined (x ∷ xs) [] vs [] h k = (h.0, joined xs [] vs [] h.1 k)
  joined (x ∷ xs) [] vs (w ∷ ws) h k = inr (h.0, joined xs [] vs (w ∷ ws) h.1 k)
  joined (x ∷ xs) (y ∷ ys) vs ws (inl h) k = inl (h.0, joined xs ys vs ws h.1 k)
  joined (x ∷ xs) (y ∷ ys) vs ws (inr h) k = inr (h.0, joined xs (y ∷ ys) vs ws h.1 k)

  pub kept-on : (old now new : List X) (i : ℕ) → i < length now → KeptAt kept now i new → Refreshing old now i → Refreshing old new (i + 1)
  kept-on old now new i lt s h =
      let split : drop i now ≡ s.was ∷ drop (i + 1) now = rw (add-one, drop-cons now i s.was, ← s.read) refl in
      let j : i < i + 1 = omega arith in
      let e : i + 1 ≡ i + 1 = refl in
      record {
        passed = h.passed ++ s.was ∷ [];
        rest = rw (s.written, drop-set-lt (i + 1) now i s.is j) (h.rest ∙ ap (λ ys. h.passed ++ ys) split ∙ sym (append_assoc h.passed (s.was ∷ []) (drop (i + 1) now)));
        within = rw (s.written, length-set now i s.is) (omega arith);
        done = rw (s.written, take-set_at now i (i + 1) s.is e lt) (joined h.passed (take i now) (s.was ∷ []) (s.is ∷ []) h.done (inl (s.keeps, tt)));
      }

  pub dropped-on : (old now new : List X) (i : ℕ) → i < length now → DroppedAt dropped now i new → Refreshing old now i → Refreshing old new i
  dropped-on old now new i lt s h =
      let split : drop i now ≡ s.was ∷ drop (i + 1) now = rw (add-one, drop-cons now i s.was, ← s.read) refl in
      let more : KeptOrDropped kept dropped (h.passed ++ s.was ∷ []) (take i now ++ []) = joined h.passed (take i now) (s.was ∷ []) [] h.done (s.why, tt) in
      let P : List X → Type 0 = λ ys. KeptOrDropped kept dropped (h.passed ++ s.was ∷ []) ys in
      record {
        passed = h.passed ++ s.was ∷ [];
        rest = rw (s.written, remove-drop now i lt) (h.rest ∙ ap (λ ys. h.passed ++ ys) split ∙ sym (append_assoc h.passed (s.was ∷ []) (drop (i + 1) now)));
        within = rw s.written (remove-within now i lt);
        done = rw (s.written, remove-take now i lt) (subst P (append-nil (take i now)) more);
      }

  pub none-done : (old : List X) → Refreshing old old 0
  none-done old = record { passed = []; rest = refl; within = omega arith; done = tt }

  -- the views that weren't come to are as they were
  pub stopped : ((x : X) → kept x x) → (old now : List X) (i : ℕ) → Refreshing old now i → KeptOrDropped kept dropped old now
  stopped same old now i h =
      let P : List X → List X → Type 0 = λ a b. KeptOrDropped kept dropped a b in
      let both = joined h.passed (take i now) (drop i now) (drop i now) h.done (all_same (drop i now)) in
      subst (λ (a : List X). P a now) (sym h.rest) (subst (λ (b : List X). P (h.passed ++ drop i now) b) (take-append-drop i now) both)
    where
      all_same : (xs : List X) → KeptOrDropped kept dropped xs xs
      all_same [] = tt
      all_same (x ∷ xs) = inl (same x, all_same xs)

  pub all-done : (old now : List X) (i : ℕ) → length now ≤ i → Refreshing old now i → KeptOrDropped kept dropped old now
  all-done old now i le h =
      let e : old ≡ h.passed = h.rest ∙ ap (λ ys. h.passed ++ ys) (drop_of_length-le now le) ∙ append-nil h.passed in
      let end : i ≡ length now = omega (arith, h.within) in
      let f : take i now ≡ now = rw end (take-length now) in
      let P : List X → List X → Type 0 = λ a b. KeptOrDropped kept dropped a b in
      subst (λ (a : List X). P a now) (sym e) (subst (λ (b : List X). P h.passed b) f h.done)

weaker : {X : Type 0} (kept more : X → X → Type 0) (dropped : X → Type 0) → ((x y : X) → kept x y → more x y) → (xs ys : List X)
    → KeptOrDropped kept dropped xs ys → KeptOrDropped more dropped xs ys
weaker kept more dropped f [] [] h = tt
weaker kept more dropped f [] (y ∷ ys) h = absurd h
weaker kept more dropped f (x ∷ xs) [] h = (h.0, weaker kept more dropped f xs [] h.1)
weaker kept more dropped f (x ∷ xs) (y ∷ ys) (inl h) = inl (f x y h.0, weaker kept more dropped f xs ys h.1)
weaker kept more dropped f (x ∷ xs) (y ∷ ys) (inr h) = inr (h.0, weaker kept more dropped f xs (y ∷ ys) h.1)

pub still : (before behind : ViewState) → (before.live ≡ false → behind.live ≡ false) → behind.live ≡ true → behind.live ≡ before.live
still before behind dead lives = flag before.live behind.live dead lives
  where
    flag : (a b : Bool) → (a ≡ false → b ≡ false) → b ≡ true → b ≡ a
    flag true b dead lives = lives
    flag false b dead lives = dead refl

-- what holds of views by their states holds of the states
pub of_states : {X Y : Type 0} (f : X → Y) (kept : Y → Y → Type 0) (dropped : Y → Type 0) (xs ys : List X)
    → KeptOrDropped (λ x y. kept (f x) (f y)) (λ x. dropped (f x)) xs ys → KeptOrDropped kept dropped (map f xs) (map f ys)
of_states f kept dropped [] [] h = tt
of_states f kept dropped [] (y ∷ ys) h = absurd h
of_states f kept dropped (x ∷ xs) [] h = (h.0, of_states f kept dropped xs [] h.1)
of_states f kept dropped (x ∷ xs) (y ∷ ys) (inl h) = inl (h.0, of_states f kept dropped xs ys h.1)
of_states f kept dropped (x ∷ xs) (y ∷ ys) (inr h) = inr (h.0, of_states f kept dropped xs (y ∷ ys) h.1)

module _ {X : Type 0} (state : X → ViewState) (faults : List Fault) where
  abbrev Shown : X → X → Type 0
  Shown x y = Shows faults (state x) (state y)

  abbrev Held : X → X → Type 0
  Held x y = Holds faults (state x) (state y)

  abbrev Gone : X → Type 0
  Gone x = Fails faults (state x)

  -- the first views were refreshed
  abbrev pub SoFar : List X → List X → ℕ → Type 0
  SoFar = Refreshing Shown Gone

  held : (x y : X) → Shown x y → Held x y
  held x y h = record {
    after = h.after;
    same_live = still (state x) (state y) h.after.dead h.lives;
    shows = inr (length faults, h.shows ∙ sym (take-length faults));
  }

  same : (x : X) → Held x x
  same x = record { after = no_put (length faults) (state x).list (state x) (state x) refl; same_live = refl; shows = inl refl }

  pub starved : (old now new : List X) (i : ℕ) → i < length now → KeptAt Held now i new ⊎ DroppedAt Gone now i new → SoFar old now i
      → Starved faults (map state old) (map state new)
  starved old now new i lt s h =
      let so_far : Refreshing Held Gone old now i = record {
        passed = h.passed;
        rest = h.rest;
        within = h.within;
        done = weaker Shown Held Gone held h.passed (take i now) h.done;
      } in
      of_states state (Holds faults) (Fails faults) old new (elim s [
        | inl k ↦ stopped Held Gone same old new (i + 1) (kept-on Held Gone old now new i lt k so_far)
        | inr d ↦ stopped Held Gone same old new i (dropped-on Held Gone old now new i lt d so_far)
      ])

  pub left-on : (old now new : List X) (i : ℕ) → i < length now → KeptAt Shown now i new → SoFar old now i → SoFar old new (i + 1)
  left-on = kept-on Shown Gone

  pub gone-on : (old now new : List X) (i : ℕ) → i < length now → DroppedAt Gone now i new → SoFar old now i → SoFar old new i
  gone-on = dropped-on Shown Gone

  pub refreshed : (old now : List X) (i : ℕ) → length now ≤ i → SoFar old now i → Refreshed faults (map state old) (map state now)
  refreshed old now i le h = of_states state (Shows faults) (Fails faults) old now (all-done Shown Gone old now i le h)
