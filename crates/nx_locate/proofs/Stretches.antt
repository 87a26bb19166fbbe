-- Patterns that are held against texts from the left.
use Rattle.std.proofs.Common.{◌≡◌, ◌≢◌, refl, sym, ap, ◌∙◌, subst, ℕ, zero, suc, ◌+◌, ◌<◌, ◌≤◌, ◌⊎◌, inl, inr, Bool, true, false, cond, eqb, List, [], ◌∷◌, ◌++◌, length, take, drop, Option, Some, None, option_map, arith, append_assoc, append-nil, ◌||◌, ltb, ◌-◌, length-take, length-drop}
use Rattle.std.proofs.Math.Seq.{take-length}
use Rattle.std.proofs.lemmas.List.{drop-append-le, take-append-drop, drop-drop}
use Rattle.std.proofs.lemmas.Bool.{ne_eqb}
use Rattle.nx_locate.specs.declared.pattern.Stretch.{Stretch}
use Rattle.nx_locate.specs.Patterns.{has_slash, IsRun, Matches, match_end, match_byte, match_star, CanMatch, Fits, fit_end, fit_byte, fit_star}
use Rattle.nx_locate.specs.Rules.{first_of}
use Rattle.nx_locate.specs.Running.{front_len, next_stretch, longer, empty_run}

-- a run that is so many bytes longer
abbrev pub later_by : ℕ → Stretch → Stretch
later_by n stretch = record { run = n + stretch.run; front = stretch.front }

-- the runs so far, and what is left of the pattern and of the text, stand for the whole
pub record GoesOn (pattern text : List ℕ) (runs : List (List ℕ)) (rest left : List ℕ) : Type 0 where
  pub fits : (more : List (List ℕ)) → Fits rest left more → Fits pattern text (runs ++ more)
  pub can : CanMatch pattern text → CanMatch rest left
  pub at_star : (b : ℕ) (others : List ℕ) → rest ≡ b ∷ others → b ≡ 42
  pub at_end : rest ≡ [] → left ≡ []

-- ---- bytes and runs

eqb_same : (b : ℕ) → eqb b b ≡ true
eqb_same b = search (arith)

eqb_equal : (a b : ℕ) → eqb a b ≡ true → a ≡ b
eqb_equal a b h = grind arith

eqb_unequal : (a b : ℕ) → eqb a b ≡ false → a ≢ b
eqb_unequal a b h = λ e. let t : eqb a b ≡ true = ap (λ x. eqb x b) e ∙ eqb_same b in let never : ⊥ = cc in never

or_false : (a b : Bool) → (a || b) ≡ false → (a ≡ false) × (b ≡ false)
or_false true b h = let never : ⊥ = cc in absurd never
or_false false b h = (refl, h)

both_false : (a b : Bool) → a ≡ false → b ≡ false → (a || b) ≡ false
both_false a b ha hb = rw (ha, hb) refl

-- parts of runs are runs, and so are two in a row
run_tail : (b : ℕ) (run : List ℕ) → IsRun (b ∷ run) → (eqb b 47 ≡ false) × IsRun run
run_tail b run h = or_false (eqb b 47) (has_slash run) h

run_cons : (b : ℕ) (run : List ℕ) → eqb b 47 ≡ false → IsRun run → IsRun (b ∷ run)
run_cons b run hb h = both_false (eqb b 47) (has_slash run) hb h

run_append : (xs ys : List ℕ) → IsRun xs → IsRun ys → IsRun (xs ++ ys)
run_append [] ys hx hy = hy
run_append (x ∷ xs) ys hx hy =
    let parts = run_tail x xs hx in run_cons x (xs ++ ys) parts.0 (run_append xs ys parts.1 hy)

run_drop : (n : ℕ) (run : List ℕ) → IsRun run → IsRun (drop n run)
run_drop zero run h = h
run_drop (suc n) [] h = refl
run_drop (suc n) (b ∷ run) h = run_drop n run (run_tail b run h).1

-- ---- the front of a pattern

-- the pattern's front stands at the text, and this is left of both
data Fronts : List ℕ → List ℕ → List ℕ → List ℕ → Type 0 where
  front_end : Fronts [] [] [] []
  front_star : {pattern text : List ℕ} → Fronts (42 ∷ pattern) text (42 ∷ pattern) text
  front_byte : {b : ℕ} {pattern text rest left : List ℕ} → b ≢ 42 → Fronts pattern text rest left →
      Fronts (b ∷ pattern) (b ∷ text) rest left

-- what the answer on two bytes and what follows says
one_byte : (s e : Bool) (found : Option ℕ) (n : ℕ) → cond s (Some 0) (cond e (option_map suc found) None) ≡ Some n →
    ((s ≡ true) × (n ≡ 0)) ⊎ ((s ≡ false) × (e ≡ true) × ((m : ℕ) × (found ≡ Some m) × (n ≡ suc m)))
one_byte true e found n h = inl (refl, let same : n ≡ 0 = cc in same)
one_byte false true None n h = let never : ⊥ = cc in absurd never
one_byte false true (Some m) n h = inr (refl, refl, (m, refl, let same : n ≡ suc m = cc in same))
one_byte false false found n h = let never : ⊥ = cc in absurd never

last_byte : (s : Bool) (n : ℕ) → cond s (Some 0) None ≡ Some n → (s ≡ true) × (n ≡ 0)
last_byte true n h = (refl, let same : n ≡ 0 = cc in same)
last_byte false n h = let never : ⊥ = cc in absurd never

front_is : (p t : List ℕ) (n : ℕ) → front_len p t ≡ Some n → Fronts p t (drop n p) (drop n t)
unfolding front_len
front_is [] [] n h = let zero : n ≡ 0 = cc in subst (λ k. Fronts [] [] (drop k []) (drop k [])) (sym zero) front_end
front_is [] (x ∷ t) n h = let never : ⊥ = cc in absurd never
front_is (b ∷ p) [] n h =
    let at : (eqb b 42 ≡ true) × (n ≡ 0) = last_byte (eqb b 42) n h in
    subst (λ k. Fronts (b ∷ p) [] (drop k (b ∷ p)) (drop k [])) (sym at.1)
    (subst (λ x. Fronts (x ∷ p) [] (x ∷ p) []) (sym (eqb_equal b 42 at.0)) front_star)
front_is (b ∷ p) (x ∷ t) n h =
    elim (one_byte (eqb b 42) (eqb b x) (front_len p t) n h) [
      | inl at ↦ subst (λ k. Fronts (b ∷ p) (x ∷ t) (drop k (b ∷ p)) (drop k (x ∷ t))) (sym at.1)
          (subst (λ y. Fronts (y ∷ p) (x ∷ t) (y ∷ p) (x ∷ t)) (sym (eqb_equal b 42 at.0)) front_star)
      | inr at ↦ subst (λ k. Fronts (b ∷ p) (x ∷ t) (drop k (b ∷ p)) (drop k (x ∷ t))) (sym at.2.2)
          (subst (λ y. Fronts (b ∷ p) (y ∷ t) (drop at.2.0 p) (drop at.2.0 t)) (eqb_equal b x at.1)
          (front_byte (eqb_unequal b 42 at.0) (front_is p t at.2.0 at.2.1)))
    ]

pub front_within : (p t : List ℕ) (n : ℕ) → front_len p t ≡ Some n → (n ≤ length p) × (n ≤ length t)
unfolding front_len
front_within [] [] n h = let zero : n ≡ 0 = cc in (omega (arith, zero), omega (arith, zero))
front_within [] (x ∷ t) n h = let never : ⊥ = cc in absurd never
front_within (b ∷ p) [] n h = let at = last_byte (eqb b 42) n h in (omega (arith, at.1), omega (arith, at.1))
front_within (b ∷ p) (x ∷ t) n h =
    elim (one_byte (eqb b 42) (eqb b x) (front_len p t) n h) [
      | inl at ↦ (omega (arith, at.1), omega (arith, at.1))
      | inr at ↦ let inner = front_within p t at.2.0 at.2.1 in (omega (arith, inner.0, at.2.2), omega (arith, inner.1, at.2.2))
    ]

pub star_front : (p t : List ℕ) → front_len (42 ∷ p) t ≡ Some 0
unfolding front_len
star_front p [] = refl
star_front p (x ∷ t) = refl

-- the front stands wherever the pattern matches
matched_front : {p t : List ℕ} {runs : List (List ℕ)} → Matches p t runs → (n : ℕ) × (front_len p t ≡ Some n)
unfolding front_len
matched_front match_end = (0, refl)
matched_front (match_byte {b = b} {pattern = p} {text = t} ne m) =
    let inner = matched_front m in
    (suc inner.0, rw (ne_eqb b 42 ne, eqb_same b, inner.1) refl)
matched_front (match_star {pattern = p} {text = t} is_run same m) = (0, star_front p t)

fronts_fit : {p t q u : List ℕ} {runs : List (List ℕ)} → Fronts p t q u → Fits q u runs → Fits p t runs
fronts_fit front_end fits = fits
fronts_fit front_star fits = fits
fronts_fit (front_byte ne f) fits = fit_byte ne (fronts_fit f fits)

byte_matched : {b : ℕ} {p t : List ℕ} → b ≢ 42 → CanMatch (b ∷ p) t → (u : List ℕ) × (t ≡ b ∷ u) × CanMatch p u
byte_matched ne (runs, match_byte {text = u} other m) = (u, refl, (_, m))
byte_matched ne (runs, match_star is_run same m) = absurd (ne refl)

fronts_can : {p t q u : List ℕ} → Fronts p t q u → CanMatch p t → CanMatch q u
fronts_can front_end can = can
fronts_can front_star can = can
fronts_can (front_byte {b = b} {pattern = p} {text = t} ne f) can =
    let inner = byte_matched ne can in
    let same : t ≡ inner.0 = cc in
    fronts_can f (subst (λ x. CanMatch p x) (sym same) inner.2)

-- what is left begins with a star, or nothing is left
fronts_left : {p t q u : List ℕ} → Fronts p t q u → ((q ≡ []) × (u ≡ [])) ⊎ ((r : List ℕ) × (q ≡ 42 ∷ r))
fronts_left front_end = inl (refl, refl)
fronts_left (front_star {pattern = p}) = inr (p, refl)
fronts_left (front_byte ne f) = fronts_left f

-- ---- the first place serves

star_matched : {p t : List ℕ} → CanMatch (42 ∷ p) t →
    (run : List ℕ) × (rest : List ℕ) × IsRun run × (t ≡ run ++ rest) × CanMatch p rest
star_matched (runs, match_byte ne m) = absurd (ne refl)
star_matched (runs, match_star {rest = rest} {run = run} is_run same m) = (run, rest, is_run, same, (_, m))

-- Where the front stands here, up to a star, and the pattern matches behind a run, that star can go on from here: what the front
-- passes here is a part of the run, or the same bytes.
serves : {p t q u : List ℕ} → Fronts p t q u → (r : List ℕ) → q ≡ 42 ∷ r → (run rest : List ℕ) → t ≡ run ++ rest → IsRun run →
    CanMatch p rest → CanMatch q u
serves front_end r e run rest same is_run can = let never : ⊥ = cc in absurd never
serves (front_star {pattern = p} {text = t}) r e run rest same is_run can =
    let inner = star_matched can in (
      (run ++ inner.0) ∷ inner.4.0,
      match_star (run_append run inner.0 is_run inner.2)
          (same ∙ ap (λ x. run ++ x) inner.3 ∙ sym (append_assoc run inner.0 inner.1)) inner.4.1,
    )
serves (front_byte {b = b} {pattern = p} {text = t} ne f) r e [] rest same is_run can =
    let inner = byte_matched ne can in
    let at : t ≡ inner.0 = cc in
    fronts_can f (subst (λ x. CanMatch p x) (sym at) inner.2)
serves (front_byte {b = b} {pattern = p} {text = t} ne f) r e (c ∷ run) rest same is_run can =
    let inner = byte_matched ne can in
    let first : b ≡ c = cc in
    let others : t ≡ run ++ rest = cc in
    let parts = run_tail c run is_run in
    serves f r e (run ++ b ∷ []) inner.0
    (others ∙ ap (λ x. run ++ x) inner.1 ∙ sym (append_assoc run (b ∷ []) inner.0))
    (run_append run (b ∷ []) parts.1 (run_cons b [] (ap (λ x. eqb x 47) first ∙ parts.0) refl)) inner.2

-- ---- the next stretch

pub record IsNext (p t : List ℕ) (stretch : Stretch) : Type 0 where
  pub within : stretch.run ≤ length t
  pub is_run : IsRun (take stretch.run t)
  pub front : front_len p (drop stretch.run t) ≡ Some stretch.front
  pub shortest : (shorter more : List ℕ) → t ≡ shorter ++ more → length shorter < stretch.run → CanMatch p more → ⊥

first_found : {p t : List ℕ} {stretch : Stretch} (n : ℕ) → front_len p t ≡ Some n → empty_run n ≡ stretch → IsNext p t stretch
first_found {p} {t} n found same =
    subst (λ s. IsNext p t s) same
    (record { within = omega arith; is_run = refl; front = found; shortest = λ shorter more e less can. absurd (omega (arith, less)) })

no_front : {p t : List ℕ} → front_len p t ≡ None → CanMatch p t → ⊥
no_front none can = let found = matched_front can.1 in let never : ⊥ = cc in never

later_found : {p t : List ℕ} {b : ℕ} {stretch one : Stretch} → front_len p (b ∷ t) ≡ None → eqb b 47 ≡ false → IsNext p t one →
    longer one ≡ stretch → IsNext p (b ∷ t) stretch
later_found {p} {t} {b} {stretch} {one} none no_slash next same =
    subst (λ s. IsNext p (b ∷ t) s) same (record {
      within = omega (arith, next.within);
      is_run = run_cons b (take one.run t) no_slash next.is_run;
      front = next.front;
      shortest = by;
    })
  where
    by : (shorter more : List ℕ) → b ∷ t ≡ shorter ++ more → length shorter < suc one.run → CanMatch p more → ⊥
    by [] more e less can = no_front none (subst (λ x. CanMatch p x) (sym e) can)
    by (c ∷ shorter) more e less can =
        let others : t ≡ shorter ++ more = cc in next.shortest shorter more others (omega (arith, less)) can

stretch_by : (p t : List ℕ) (b : ℕ) (here : Option ℕ) (slash : Bool) (further : Option Stretch) (stretch : Stretch) →
    front_len p (b ∷ t) ≡ here → eqb b 47 ≡ slash → ((one : Stretch) → further ≡ Some one → IsNext p t one) →
    first_of (option_map empty_run here) (cond slash None (option_map longer further)) ≡ Some stretch → IsNext p (b ∷ t) stretch
stretch_by p t b (Some n) slash further stretch front at next h =
    first_found n front (let same : empty_run n ≡ stretch = cc in same)
stretch_by p t b None true further stretch front at next h = let never : ⊥ = cc in absurd never
stretch_by p t b None false None stretch front at next h = let never : ⊥ = cc in absurd never
stretch_by p t b None false (Some one) stretch front at next h =
    later_found front at (next one refl) (let same : longer one ≡ stretch = cc in same)

end_by : (p : List ℕ) (here : Option ℕ) (stretch : Stretch) → front_len p [] ≡ here → option_map empty_run here ≡ Some stretch →
    IsNext p [] stretch
end_by p None stretch front h = let never : ⊥ = cc in absurd never
end_by p (Some n) stretch front h = first_found n front (let same : empty_run n ≡ stretch = cc in same)

pub next_is : (p t : List ℕ) (stretch : Stretch) → next_stretch p t ≡ Some stretch → IsNext p t stretch
unfolding next_stretch
next_is p [] stretch h = end_by p (front_len p []) stretch refl h
next_is p (b ∷ t) stretch h =
    stretch_by p t b (front_len p (b ∷ t)) (eqb b 47) (next_stretch p t) stretch refl refl (λ one e. next_is p t one e) h

-- where there is none, a star and the pattern match nowhere
none_by : (p t : List ℕ) (b : ℕ) (here : Option ℕ) (slash : Bool) (further : Option Stretch) →
    front_len p (b ∷ t) ≡ here → eqb b 47 ≡ slash → (further ≡ None → CanMatch (42 ∷ p) t → ⊥) →
    first_of (option_map empty_run here) (cond slash None (option_map longer further)) ≡ None → CanMatch (42 ∷ p) (b ∷ t) → ⊥
none_by p t b (Some n) slash further front at next h can = let never : ⊥ = cc in never
none_by p t b None slash further front at next h can = by (star_matched can)
  where
    inner : (found : Option Stretch) (s : Bool) → s ≡ false → cond s None (option_map longer found) ≡ None → found ≡ None
    inner None s e g = refl
    inner (Some one) s e g = let never : ⊥ = (let x : cond false None (option_map longer (Some one)) ≡ None = subst (λ y. cond y None (option_map longer (Some one)) ≡ None) e g in cc) in absurd never

    by : (run : List ℕ) × (rest : List ℕ) × IsRun run × (b ∷ t ≡ run ++ rest) × CanMatch p rest → ⊥
    by ([], rest, is_run, same, m) = no_front front (subst (λ x. CanMatch p x) (sym same) m)
    by (c ∷ run, rest, is_run, same, m) =
        let first : b ≡ c = cc in
        let others : t ≡ run ++ rest = cc in
        let parts = run_tail c run is_run in
        next (inner further slash (sym at ∙ ap (λ x. eqb x 47) first ∙ parts.0) h) (run ∷ m.0, match_star parts.1 others m.1)

pub none_matches : (p t : List ℕ) → next_stretch p t ≡ None → CanMatch (42 ∷ p) t → ⊥
unfolding next_stretch
none_matches p [] h can = at_end (front_len p []) refl h (star_matched can)
  where
    at_end : (here : Option ℕ) → front_len p [] ≡ here → option_map empty_run here ≡ None →
        (run : List ℕ) × (rest : List ℕ) × IsRun run × ([] ≡ run ++ rest) × CanMatch p rest → ⊥
    at_end (Some n) front e found = let never : ⊥ = cc in never
    at_end None front e ([], rest, is_run, same, m) = no_front front (subst (λ x. CanMatch p x) (sym same) m)
    at_end None front e (c ∷ run, rest, is_run, same, m) = let never : ⊥ = cc in never
none_matches p (b ∷ t) h can =
    none_by p t b (front_len p (b ∷ t)) (eqb b 47) (next_stretch p t) refl refl (λ e c. none_matches p t e c) h can

-- ---- the loop

pub begins : (p t : List ℕ) (n : ℕ) → front_len p t ≡ Some n → GoesOn p t [] (drop n p) (drop n t)
begins p t n h =
    let f = front_is p t n h in record {
      fits = λ more fits. fronts_fit f fits;
      can = λ can. fronts_can f can;
      at_star = λ b others e. at_star (fronts_left f) b others e;
      at_end = λ e. at_end (fronts_left f) e;
    }
  where
    at_star : {q u : List ℕ} → ((q ≡ []) × (u ≡ [])) ⊎ ((r : List ℕ) × (q ≡ 42 ∷ r)) → (b : ℕ) (others : List ℕ) → q ≡ b ∷ others → b ≡ 42
    at_star (inl none) b others e = let never : ⊥ = (let x = none.0 in cc) in absurd never
    at_star (inr some) b others e = let same : b ≡ 42 = (let x = some.1 in cc) in same

    at_end : {q u : List ℕ} → ((q ≡ []) × (u ≡ [])) ⊎ ((r : List ℕ) × (q ≡ 42 ∷ r)) → q ≡ [] → u ≡ []
    at_end (inl none) e = none.1
    at_end (inr some) e = let never : ⊥ = (let x = some.1 in cc) in absurd never

pub nowhere : (p t : List ℕ) → front_len p t ≡ None → CanMatch p t → ⊥
nowhere p t h can = no_front h can

empty_can : {q u : List ℕ} → q ≡ [] → u ≡ [] → CanMatch q u
empty_can {q} {u} hq hu = subst (λ x. CanMatch x u) (sym hq) (subst (λ y. CanMatch [] y) (sym hu) ([], match_end))

-- one more stretch is found
pub goes_on : (p t : List ℕ) (runs : List (List ℕ)) (rest left more : List ℕ) (b : ℕ) (stretch : Stretch) → GoesOn p t runs rest left →
    rest ≡ b ∷ more → next_stretch more left ≡ Some stretch →
    GoesOn p t (runs ++ take stretch.run left ∷ []) (drop stretch.front more) (drop stretch.front (drop stretch.run left))
goes_on p t runs rest left more b stretch on is found =
    let star : b ≡ 42 = on.at_star b more is in
    let rest_is : rest ≡ 42 ∷ more = is ∙ ap (λ x. x ∷ more) star in
    let next : IsNext more left stretch = next_is more left stretch found in
    let behind = begins more (drop stretch.run left) stretch.front next.front in
    let split : left ≡ take stretch.run left ++ drop stretch.run left = sym (take-append-drop stretch.run left) in
    record {
      fits = λ others fits.
          subst (λ rs. Fits p t rs) (sym (append_assoc runs (take stretch.run left ∷ []) others))
          (on.fits (take stretch.run left ∷ others) (subst (λ r. Fits r left (take stretch.run left ∷ others)) (sym rest_is)
          (fit_star next.is_run split (behind.fits others fits) (shortest next))));
      can = λ can. can_behind next (star_matched (subst (λ r. CanMatch r left) rest_is (on.can can)));
      at_star = behind.at_star;
      at_end = behind.at_end;
    }
  where
    shortest : IsNext more left stretch → (shorter others : List ℕ) → left ≡ shorter ++ others →
        length shorter < length (take stretch.run left) → CanMatch more others → ⊥
    shortest next shorter others e less can =
        next.shortest shorter others e (omega (arith, less, length-take stretch.run left)) can

    can_behind : IsNext more left stretch →
        (run : List ℕ) × (behind : List ℕ) × IsRun run × (left ≡ run ++ behind) × CanMatch more behind →
        CanMatch (drop stretch.front more) (drop stretch.front (drop stretch.run left))
    can_behind next (run, behind, is_run, same, m) = by (fronts_left f) refl refl
      where
        f : Fronts more (drop stretch.run left) (drop stretch.front more) (drop stretch.front (drop stretch.run left))
        f = front_is more (drop stretch.run left) stretch.front next.front

        far : stretch.run ≤ length run
        far = at (ltb (length run) stretch.run) refl
          where
            at : (less : Bool) → ltb (length run) stretch.run ≡ less → stretch.run ≤ length run
            at true e = absurd (next.shortest run behind same (grind (arith, e)) m)
            at false e = grind (arith, e)

        by : {q u : List ℕ} → ((q ≡ []) × (u ≡ [])) ⊎ ((r : List ℕ) × (q ≡ 42 ∷ r)) → q ≡ drop stretch.front more →
            u ≡ drop stretch.front (drop stretch.run left) → CanMatch (drop stretch.front more) (drop stretch.front (drop stretch.run left))
        by (inl none) eq eu =
            empty_can (sym eq ∙ none.0) (sym eu ∙ none.1)
        by (inr some) eq eu =
            serves f some.0 (sym eq ∙ some.1) (drop stretch.run run) behind
            (ap (drop stretch.run) same ∙ drop-append-le stretch.run run behind far) (run_drop stretch.run run is_run) m

-- ---- the loops of the program, over what they have

pub nothing_left : (xs : List ℕ) → length xs ≡ 0 → xs ≡ []
nothing_left [] h = refl
nothing_left (x ∷ xs) h = absurd (omega (arith, h))

added : (n : ℕ) (found : Option ℕ) → option_map (λ k. n + k) (option_map suc found) ≡ option_map (λ k. n + 1 + k) found
added n None = refl
added n (Some k) = let more : n + suc k ≡ n + 1 + k = omega arith in ap Some more

module _ (pattern text rest left : List ℕ) (len : ℕ)
    (inv : front_len pattern text ≡ option_map (λ k. len + k) (front_len rest left)) where
  pub at_a_star : (b : ℕ) (more : List ℕ) → rest ≡ b ∷ more → b ≡ 42 → Some len ≡ front_len pattern text
  at_a_star b more is star =
      let here : front_len rest left ≡ Some 0 =
      ap (λ r. front_len r left) (is ∙ ap (λ x. x ∷ more) star) ∙ star_front more left in
      let zero : len ≡ len + 0 = omega arith in
      sym (inv ∙ ap (option_map (λ k. len + k)) here ∙ ap Some (sym zero))

  pub at_no_text : (b : ℕ) (more : List ℕ) → rest ≡ b ∷ more → b ≢ 42 → length left ≡ 0 → None ≡ front_len pattern text
  unfolding front_len
  at_no_text b more is ne none =
      let here : front_len rest left ≡ None =
      ap (λ r. front_len r left) is ∙ ap (λ t. front_len (b ∷ more) t) (nothing_left left none) ∙ rw (ne_eqb b 42 ne) refl in
      sym (inv ∙ ap (option_map (λ k. len + k)) here)

  here_are : (b x : ℕ) (more behind : List ℕ) → rest ≡ b ∷ more → left ≡ x ∷ behind → front_len rest left ≡ front_len (b ∷ more) (x ∷ behind)
  here_are b x more behind is there = ap (λ r. front_len r left) is ∙ ap (λ t. front_len (b ∷ more) t) there

  pub at_other : (b x : ℕ) (more behind : List ℕ) → rest ≡ b ∷ more → left ≡ x ∷ behind → b ≢ 42 → b ≢ x → None ≡ front_len pattern text
  unfolding front_len
  at_other b x more behind is there ne other =
      let here : front_len rest left ≡ None = here_are b x more behind is there ∙ rw (ne_eqb b 42 ne, ne_eqb b x other) refl in
      sym (inv ∙ ap (option_map (λ k. len + k)) here)

  pub at_same : (b x : ℕ) (more behind : List ℕ) → rest ≡ b ∷ more → left ≡ x ∷ behind → b ≢ 42 → b ≡ x →
      front_len pattern text ≡ option_map (λ k. len + 1 + k) (front_len more behind)
  unfolding front_len
  at_same b x more behind is there ne same =
      let equal : eqb b x ≡ true = ap (λ y. eqb y x) same ∙ eqb_same x in
      let here : front_len rest left ≡ option_map suc (front_len more behind) =
      here_are b x more behind is there ∙ rw (ne_eqb b 42 ne, equal) refl in
      inv ∙ ap (option_map (λ k. len + k)) here ∙ added len (front_len more behind)

  pub at_whole : length rest ≡ 0 → length left ≡ 0 → Some len ≡ front_len pattern text
  unfolding front_len
  at_whole all none =
      let here : front_len rest left ≡ Some 0 =
      ap (λ r. front_len r left) (nothing_left rest all) ∙ ap (λ t. front_len [] t) (nothing_left left none) in
      let zero : len ≡ len + 0 = omega arith in
      sym (inv ∙ ap (option_map (λ k. len + k)) here ∙ ap Some (sym zero))

  pub at_part : length rest ≡ 0 → 0 < length left → None ≡ front_len pattern text
  unfolding front_len
  at_part all some = by left some refl
    where
      by : (t : List ℕ) → 0 < length t → t ≡ left → None ≡ front_len pattern text
      by [] less e = absurd (omega (arith, less))
      by (x ∷ t) less e =
          let here : front_len rest left ≡ None =
          ap (λ r. front_len r left) (nothing_left rest all) ∙ ap (λ u. front_len [] u) (sym e) in
          sym (inv ∙ ap (option_map (λ k. len + k)) here)

module _ (pattern text left : List ℕ) (run : ℕ)
    (inv : next_stretch pattern text ≡ option_map (later_by run) (next_stretch pattern left)) where
  stretch_here : (n : ℕ) → next_stretch pattern left ≡ Some (empty_run n) → Some (record { run = run; front = n }) ≡ next_stretch pattern text
  stretch_here n here =
      let zero : run ≡ run + 0 = omega arith in
      sym (inv ∙ ap (option_map (later_by run)) here ∙ ap (λ (r : ℕ). Some (record { run = r; front = n })) (sym zero))

  pub found_here : (b n : ℕ) (behind : List ℕ) → left ≡ b ∷ behind → Some n ≡ front_len pattern left →
      Some (record { run = run; front = n }) ≡ next_stretch pattern text
  unfolding next_stretch
  found_here b n behind is front =
      let at : front_len pattern (b ∷ behind) ≡ Some n = sym (front ∙ ap (front_len pattern) is) in
      stretch_here n (ap (next_stretch pattern) is ∙ rw at refl)

  pub found_at_end : (n : ℕ) → length left ≡ 0 → Some n ≡ front_len pattern left →
      Some (record { run = run; front = n }) ≡ next_stretch pattern text
  unfolding next_stretch
  found_at_end n none front =
      let is = nothing_left left none in
      let at : front_len pattern [] ≡ Some n = sym (front ∙ ap (front_len pattern) is) in
      stretch_here n (ap (next_stretch pattern) is ∙ rw at refl)

  pub none_at_end : length left ≡ 0 → None ≡ front_len pattern left → None ≡ next_stretch pattern text
  unfolding next_stretch
  none_at_end none front =
      let is = nothing_left left none in
      let at : front_len pattern [] ≡ None = sym (front ∙ ap (front_len pattern) is) in
      let here : next_stretch pattern left ≡ None = ap (next_stretch pattern) is ∙ rw at refl in
      sym (inv ∙ ap (option_map (later_by run)) here)

  pub stopped : (b : ℕ) (behind : List ℕ) → left ≡ b ∷ behind → None ≡ front_len pattern left → b ≡ 47 → None ≡ next_stretch pattern text
  unfolding next_stretch
  stopped b behind is front slash =
      let at : front_len pattern (b ∷ behind) ≡ None = sym (front ∙ ap (front_len pattern) is) in
      let equal : eqb b 47 ≡ true = ap (λ y. eqb y 47) slash in
      let here : next_stretch pattern left ≡ None = ap (next_stretch pattern) is ∙ rw (at, equal) refl in
      sym (inv ∙ ap (option_map (later_by run)) here)

  pub further : (b : ℕ) (behind : List ℕ) → left ≡ b ∷ behind → None ≡ front_len pattern left → b ≢ 47 →
      next_stretch pattern text ≡ option_map (later_by (run + 1)) (next_stretch pattern behind)
  unfolding next_stretch
  further b behind is front other =
      let at : front_len pattern (b ∷ behind) ≡ None = sym (front ∙ ap (front_len pattern) is) in
      let here : next_stretch pattern left ≡ option_map longer (next_stretch pattern behind) =
      ap (next_stretch pattern) is ∙ rw (at, ne_eqb b 47 other) refl in
      inv ∙ ap (option_map (later_by run)) here ∙ later (next_stretch pattern behind)
    where
      later : (found : Option Stretch) → option_map (later_by run) (option_map longer found) ≡ option_map (later_by (run + 1)) found
      later None = refl
      later (Some one) =
          let more : run + suc one.run ≡ run + 1 + one.run = omega arith in
          ap (λ (r : ℕ). Some (record { run = r; front = one.front })) more

-- what is left of a list from a place on, as slices say it
tail_is : (n : ℕ) (xs : List ℕ) → take (length xs - n) (drop n xs) ≡ drop n xs
tail_is n xs = let e : length xs - n ≡ length (drop n xs) = sym (length-drop n xs) in ap (λ k. take k (drop n xs)) e ∙ take-length (drop n xs)

pub begins_by : (p t : List ℕ) (runs : List (List ℕ)) (n : ℕ) → runs ≡ [] → Some n ≡ front_len p t →
    GoesOn p t runs (take (length p - n) (drop n p)) (take (length t - n) (drop n t))
begins_by p t runs n none found =
    rw (none, tail_is n p, tail_is n t) (begins p t n (sym found))

pub goes_on_by : (p t : List ℕ) (runs pushed : List (List ℕ)) (rest left more run : List ℕ) (b : ℕ) (stretch : Stretch) →
    GoesOn p t runs rest left → rest ≡ b ∷ more → Some stretch ≡ next_stretch more left → run ≡ take stretch.run left →
    pushed ≡ runs ++ run ∷ [] →
    GoesOn p t pushed (take (length more - stretch.front) (drop stretch.front more))
    (take (length left - (stretch.run + stretch.front)) (drop (stretch.run + stretch.front) left))
goes_on_by p t runs pushed rest left more run b stretch on is found run_is pushed_is =
    rw (pushed_is, run_is, tail_is stretch.front more, tail_is (stretch.run + stretch.front) left, sym (drop-drop stretch.front stretch.run left))
    (goes_on p t runs rest left more b stretch on is (sym found))

pub nowhere_by : (p t : List ℕ) (runs : List (List ℕ)) (rest left more : List ℕ) (b : ℕ) → GoesOn p t runs rest left → rest ≡ b ∷ more →
    None ≡ next_stretch more left → CanMatch p t → ⊥
nowhere_by p t runs rest left more b on is none can =
    none_matches more left (sym none)
    (subst (λ r. CanMatch r left) (is ∙ ap (λ x. x ∷ more) (on.at_star b more is)) (on.can can))

pub fits_whole : (p t : List ℕ) (runs : List (List ℕ)) (rest left : List ℕ) → GoesOn p t runs rest left → length rest ≡ 0 → Fits p t runs
fits_whole p t runs rest left on none =
    let is = nothing_left rest none in
    subst (λ rs. Fits p t rs) (append-nil runs)
    (on.fits [] (subst (λ r. Fits r left []) (sym is) (subst (λ l. Fits [] l []) (sym (on.at_end is)) fit_end)))
