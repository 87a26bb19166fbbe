-- Marks aside that are in front of the frontier are found, and their faults are listed.
use Rattle.std.proofs.Common.{◌≡◌, ◌⊎◌, inl, inr, ℕ, zero, suc, ◌+◌, ◌-◌, ◌<◌, ◌≤◌, Bool, true, false, List, [], ◌∷◌, ◌++◌, length, take, refl, sym, ap, subst, ◌∙◌, arith, append_assoc}
use Rattle.std.specs.Prelude.{if◌then◌else◌}
use Rattle.std.proofs.lemmas.List.{length-append}
use Rattle.nx_marks.specs.Before.{IsLast, LiesInFront}
use Rattle.nx_marks.specs.Chain.{FaultsFit, Kept, faults_in, frontier_of, reach}
use Rattle.nx_marks.specs.Joined.{but_last, last, seen}
use Rattle.nx_marks.specs.Tree.{IsAt, count_up_to}
use Rattle.nx_marks.specs.declared.mark.Mark.{Mark}
use Rattle.nx_marks.proofs.Backs.{reach-append}
use Rattle.nx_marks.proofs.Cutting.{front-same}
use Rattle.nx_marks.proofs.Faults.{faults-append, fit-behind, fit-front}
use Rattle.nx_marks.proofs.Holding.{longer}
use Rattle.nx_marks.proofs.Marking.{found_front}
use Rattle.nx_marks.proofs.Seen.{Parted, parted_at, parts}
use Rattle.nx_marks.proofs.Walking.{up-to-within, up-to-next}

-- ---- the last mark at or before a place

-- a mark at hand or aside lies at a place that isn't behind the one asked for, and the next one up to the frontier lies behind it
pub record Found {S : Type 0} (at : ℕ) (k : Kept S) (place : ℕ) (mark : Mark S) : Type 0 where
  pub earlier : List (Mark S)
  pub later : List (Mark S)
  pub are : k.here ∷ k.aside ≡ earlier ++ mark ∷ later
  pub here : place ≡ frontier_of k + reach earlier
  pub before : place ≤ at
  pub marks : k.marked ≡ false → 0 < length later
  pub next : (length later ≤ (if k.marked then 0 else 1)) ⊎ (at < place + mark.len)

found_in : {S : Type 0} (at place : ℕ) (front mid : List (Mark S)) (here x : Mark S) (aside : List (Mark S)) (marked : Bool) (mark : Mark S) (earlier later : List (Mark S)) → here ∷ aside ≡ earlier ++ mark ∷ later →
    here ∷ aside ≡ mid ++ x ∷ [] → place ≡ reach front + reach earlier → place ≤ at → (marked ≡ false → 0 < length later) → (length later ≤ (if marked then 0 else 1)) ⊎ (at < place + mark.len) →
    IsLast at place (record { front = front ++ mid; here = x; marked = marked; aside = [] }) mark
found_in {S = S} at place front mid here x aside true mark earlier later e f p le some next = record {
  earlier = front ++ earlier;
  later = later;
  behind = later;
  are = list;
  all = list;
  front = (let a = ap length list in let b = length-append (front ++ mid) (x ∷ []) in let c = length-append (front ++ earlier) (mark ∷ later) in omega arith);
  here = (let r = reach-append front earlier in omega arith);
  before = le;
  none_later = ahead next;
}
  where
    list : (front ++ mid) ++ x ∷ [] ≡ (front ++ earlier) ++ mark ∷ later
    list = append_assoc front mid (x ∷ []) ∙ ap (λ l. front ++ l) (sym f ∙ e) ∙ sym (append_assoc front earlier (mark ∷ later))

    ahead : (length later ≤ 0) ⊎ (at < place + mark.len) → 0 < length later → at < place + mark.len
    ahead (inl none) lt = absurd (omega arith)
    ahead (inr lt) some = lt
found_in {S = S} at place front mid here x aside false mark earlier later e f p le some next = by (parted_at later (some refl))
  where
    by : Parted later → IsLast at place (record { front = front ++ mid; here = x; marked = false; aside = [] }) mark
    by t = record {
      earlier = front ++ earlier;
      later = t.earlier;
      behind = t.earlier ++ x ∷ [];
      are = short;
      all = ap (λ l. l ++ x ∷ []) short ∙ append_assoc (front ++ earlier) (mark ∷ t.earlier) (x ∷ []);
      front = (let a = ap length short in let c = length-append (front ++ earlier) (mark ∷ t.earlier) in omega arith);
      here = (let r = reach-append front earlier in omega arith);
      before = le;
      none_later = ahead next;
    }
      where
        whole : mid ++ x ∷ [] ≡ (earlier ++ mark ∷ t.earlier) ++ t.mark ∷ []
        whole = sym f ∙ e ∙ ap (λ l. earlier ++ mark ∷ l) t.are ∙ sym (append_assoc earlier (mark ∷ t.earlier) (t.mark ∷ []))

        front_part : mid ≡ earlier ++ mark ∷ t.earlier
        front_part =
            let n = ap length whole in
            let a = length-append mid (x ∷ []) in
            let b = length-append (earlier ++ mark ∷ t.earlier) (t.mark ∷ []) in
            front-same mid (earlier ++ mark ∷ t.earlier) (x ∷ []) (t.mark ∷ []) (omega arith) whole

        short : front ++ mid ≡ (front ++ earlier) ++ mark ∷ t.earlier
        short = ap (λ l. front ++ l) front_part ∙ sym (append_assoc front earlier (mark ∷ t.earlier))

        ahead : (length later ≤ 1) ⊎ (at < place + mark.len) → 0 < length t.earlier → at < place + mark.len
        ahead (inl one) lt = absurd (let l = longer later t.earlier t.mark t.are in omega arith)
        ahead (inr lt) some = lt

pub found_aside : {S : Type 0} (at place : ℕ) (k : Kept S) (mark : Mark S) → Found at k place mark → IsLast at place (seen true k) mark
found_aside at place k mark f =
    found_in at place k.front (but_last k.here k.aside) k.here (last k.here k.aside) k.aside k.marked mark f.earlier f.later f.are (sym (parts k.here k.aside)) f.here f.before f.marks f.next

-- the one at hand
pub found-at-hand : {S : Type 0} (at place count next : ℕ) (k : Kept S) → 0 < length k.aside → place ≡ frontier_of k → place ≤ at → next ≡ frontier_of k + k.here.len → (k.marked ≡ true → count ≡ length k.aside) → (k.marked ≡ false → count + 1 ≡ length k.aside) →
    (at < next) ⊎ (count ≡ 0) → Found at k place k.here
found-at-hand at place count next k some p le e f g d = record {
  earlier = [];
  later = k.aside;
  are = refl;
  here = omega arith;
  before = le;
  marks = λ _. some;
  next = by k.marked refl d;
}
  where
    by : (b : Bool) → k.marked ≡ b → (at < next) ⊎ (count ≡ 0) → (length k.aside ≤ (if b then 0 else 1)) ⊎ (at < place + k.here.len)
    by b m (inl lt) = inr (omega arith)
    by true m (inr z) = absurd (let n = f m in omega arith)
    by false m (inr z) = inl (let n = g m in omega arith)

-- one aside: no farther on than those up to the place
pub found-behind : {S : Type 0} (at count next index place place' : ℕ) (k : Kept S) (mark : Mark S) → next ≡ frontier_of k + k.here.len → next ≤ at → (k.marked ≡ true → count ≡ length k.aside) → (k.marked ≡ false → count + 1 ≡ length k.aside) →
    (index ≤ count_up_to (at - next) k.aside) × (index < count) → (index ≡ count_up_to (at - next) k.aside) ⊎ (index ≡ count - 1) → IsAt k.aside index place mark → place' ≡ next + place → Found at k place' mark
found-behind {S = S} at count next index place place' k mark e le f g within or i p = record {
  earlier = k.here ∷ i.earlier;
  later = i.later;
  are = ap (λ l. k.here ∷ l) i.are;
  here = (let t = i.there in omega arith);
  before = (let t = i.there in let r = near in omega arith);
  marks = λ m. (let n = g m in let l = long in omega (arith, within.1));
  next = by k.marked refl or;
}
  where
    long : length k.aside ≡ index + (length i.later + 1)
    long = let a = ap length i.are in let b = length-append i.earlier (mark ∷ i.later) in let c = i.count in omega arith

    near : reach i.earlier ≤ at - next
    near = let C : List (Mark S) → Type 0 = λ l. length i.earlier ≤ count_up_to (at - next) l in up-to-within (at - next) i.earlier (mark ∷ i.later) (subst C i.are (let c = i.count in omega (arith, within.0)))

    by : (b : Bool) → k.marked ≡ b → (index ≡ count_up_to (at - next) k.aside) ⊎ (index ≡ count - 1) → (length i.later ≤ (if b then 0 else 1)) ⊎ (at < place' + mark.len)
    by b m (inl z) =
        let C : List (Mark S) → Type 0 = λ l. count_up_to (at - next) l ≤ length i.earlier in
        let r = up-to-next (at - next) i.earlier mark i.later (subst C i.are (let c = i.count in omega arith)) in
        inr (let t = i.there in omega arith)
    by true m (inr z) = inl (let n = f m in let l = long in omega arith)
    by false m (inr z) = inl (let n = g m in let l = long in omega arith)

-- one in front of the line's place
pub found_in_front : {S : Type 0} (at place : ℕ) (k : Kept S) (mark : Mark S) → LiesInFront at k.front place mark → at < frontier_of k → IsLast at place (seen true k) mark
found_in_front {S = S} at place k mark f lt = found_front at place (seen true k) mark wider (λ _. (let n = reach-append k.front (but_last k.here k.aside) in omega arith))
  where
    far : frontier_of k ≡ reach f.earlier + (mark.len + reach f.later)
    far = ap reach f.are ∙ reach-append f.earlier (mark ∷ f.later)

    nearer : (f.later ≡ []) ⊎ (at < place + mark.len) → at < place + mark.len
    nearer (inl e) = let n = ap reach e in let h = f.here in let m = far in omega arith
    nearer (inr h) = h

    wider : LiesInFront at (seen true k).front place mark
    wider = record {
      earlier = f.earlier;
      later = f.later ++ but_last k.here k.aside;
      are = ap (λ l. l ++ but_last k.here k.aside) f.are ∙ append_assoc f.earlier (mark ∷ f.later) (but_last k.here k.aside);
      here = f.here;
      before = f.before;
      next = inr (nearer f.next);
    }

pub found_either : {S : Type 0} (joined : Bool) (at place : ℕ) (k : Kept S) (mark : Mark S) → LiesInFront at k.front place mark → at < frontier_of k → IsLast at place (seen joined k) mark
found_either true at place k mark f lt = found_in_front at place k mark f lt
found_either false at place k mark f lt = found_front at place k mark f (λ _. lt)

-- ---- faults

-- all but the last, those in front of it
pub but-last-taken : {S : Type 0} (x : Mark S) (ys : List (Mark S)) (n : ℕ) → n + 1 ≡ length ys → but_last x ys ≡ x ∷ take n ys
but-last-taken x [] n e = absurd (omega arith)
but-last-taken x (y ∷ []) zero e = refl
but-last-taken x (y ∷ []) (suc n) e = absurd (omega arith)
but-last-taken x (y ∷ z ∷ zs) zero e = absurd (omega arith)
but-last-taken x (y ∷ z ∷ zs) (suc n) e = ap (λ l. x ∷ l) (but-last-taken y (z ∷ zs) n (omega arith))

pub front-fits : {S : Type 0} (joined : Bool) (k : Kept S) → FaultsFit (seen joined k).front → FaultsFit k.front
front-fits false k h = h
front-fits true k h = fit-front k.front (but_last k.here k.aside) h

pub behind-fits : {S : Type 0} (joined : Bool) (k : Kept S) → joined ≡ true → FaultsFit (seen joined k).front → FaultsFit (but_last k.here k.aside)
behind-fits true k e h = fit-behind k.front (but_last k.here k.aside) h
behind-fits false k e h = absurd (cc)

pub faults-seen : {S : Type 0} (joined : Bool) (k : Kept S) → joined ≡ true → faults_in 0 (seen joined k).front ≡ faults_in 0 k.front ++ faults_in (frontier_of k) (but_last k.here k.aside)
faults-seen true k e = faults-append 0 (frontier_of k) k.front (but_last k.here k.aside) (omega arith)
faults-seen false k e = absurd (cc)

pub seen-plain : {S : Type 0} (joined : Bool) (k : Kept S) → joined ≡ false → faults_in 0 (seen joined k).front ≡ faults_in 0 k.front
seen-plain false k e = refl
seen-plain true k e = absurd (cc)
