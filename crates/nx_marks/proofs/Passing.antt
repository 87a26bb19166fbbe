-- Marks aside are passed, or followed.
use Rattle.std.proofs.Common.{◌≡◌, ◌⊎◌, inl, inr, ℕ, ◌+◌, ◌<◌, ◌≤◌, Bool, true, false, nat_le, List, [], ◌∷◌, ◌++◌, length, refl, sym, ap, subst, ◌∙◌, arith}
use Rattle.std.specs.Prelude.{if◌then◌else◌}
use Rattle.std.proofs.lemmas.List.{length-append, append-nil}
use Rattle.nx_marks.specs.Chain.{AreWhole, Kept}
use Rattle.nx_marks.specs.Editing.{split}
use Rattle.nx_marks.specs.Taking.{let_go}
use Rattle.nx_marks.specs.Tree.{whole_count}
use Rattle.nx_marks.specs.Walking.{MovesOn, PassesNext, PassesUpTo, TakesNext, Follows, farther}
use Rattle.nx_marks.specs.declared.mark.Mark.{Mark}
use Rattle.nx_marks.proofs.Splits.{split-on, split-off}
use Rattle.nx_marks.proofs.Trees.{fits-up-to, goes-beyond, is-empty}

abbrev pub gone_from : {S : Type 0} → ℕ → Kept S → Kept S
gone_from n k = let_go n k.here k.front k.marked k.aside

pub record LettingGo {S : Type 0} (n : ℕ) (old now : Kept S) : Type 0 where
  pub same : gone_from n now ≡ gone_from n old

go_one : {S : Type 0} (n : ℕ) (here : Mark S) (front : List (Mark S)) (marked : Bool) (y : Mark S) (ys : List (Mark S)) → here.len < n → let_go n here front marked (y ∷ ys) ≡ let_go n (farther here y.len) front marked ys
go_one n here front marked y ys lt = by (nat_le n here.len) (goes-beyond n here.len lt)
  where
    by : (b : Bool) → b ≡ false → (if b then record { front = front; here = here; marked = marked; aside = y ∷ ys } else let_go n (farther here y.len) front marked ys) ≡ let_go n (farther here y.len) front marked ys
    by true e = absurd (cc)
    by false e = refl

pub go_more : {S : Type 0} (n : ℕ) (old k j : Kept S) → LettingGo n old k → k.here.len < n → PassesNext k j → LettingGo n old j
go_more {S = S} n old k j g lt s =
    let P : Kept S → Type 0 = λ i. gone_from n i ≡ gone_from n k in
    record { same = subst P (sym s.is) (sym (ap (let_go n k.here k.front k.marked) s.are ∙ go_one n k.here k.front k.marked s.mark s.behind lt)) ∙ g.same }

go_front : {S : Type 0} (n : ℕ) (here : Mark S) (front : List (Mark S)) (marked : Bool) (aside : List (Mark S)) → (let_go n here front marked aside).front ≡ front
go_front n here front marked [] = refl
go_front n here front marked (y ∷ ys) = by (nat_le n here.len) (go_front n (farther here y.len) front marked ys)
  where
    by : (b : Bool) → (let_go n (farther here y.len) front marked ys).front ≡ front → (if b then record { front = front; here = here; marked = marked; aside = y ∷ ys } else let_go n (farther here y.len) front marked ys).front ≡ front
    by true e = refl
    by false e = e

-- the front stays
pub passed_front : {S : Type 0} (n : ℕ) (old now : Kept S) → PassesUpTo n old now → now.front ≡ old.front
passed_front {S = S} n old now p =
    sym (go_front n now.here now.front now.marked now.aside) ∙ ap (λ (k : Kept S). k.front) p.same ∙ go_front n old.here old.front old.marked old.aside

pub pass_fewer : {S : Type 0} (k j : Kept S) → PassesNext k j → length j.aside < length k.aside
pass_fewer k j s = let a = ap length s.are in let c = ap (λ (i : Kept _). length i.aside) s.is in omega arith

-- none is left
pub go_none : {S : Type 0} (n : ℕ) (k : Kept S) → k.aside ≡ [] → gone_from n k ≡ record { front = k.front; here = record { state = k.here.state; len = n; tags = k.here.tags; faults = k.here.faults; whole = k.here.whole; saved = k.here.saved }; marked = k.marked; aside = k.aside }
go_none {S = S} n k e =
    let P : List (Mark S) → Type 0 = λ l. let_go n k.here k.front k.marked l ≡ record { front = k.front; here = record { state = k.here.state; len = n; tags = k.here.tags; faults = k.here.faults; whole = k.here.whole; saved = k.here.saved }; marked = k.marked; aside = l } in
    subst P (sym e) refl

-- the next one isn't reached
pub go_idle : {S : Type 0} (n : ℕ) (k : Kept S) → 0 < length k.aside → n ≤ k.here.len → gone_from n k ≡ k
go_idle n k some le = by k.aside some
  where
    by : (l : List (Mark _)) → 0 < length l → let_go n k.here k.front k.marked l ≡ record { front = k.front; here = k.here; marked = k.marked; aside = l }
    by [] lt = absurd (omega arith)
    by (y ∷ ys) lt = rw (fits-up-to n k.here.len le) refl

-- ---- the row at hand

abbrev kept_of : {S : Type 0} → List (Mark S) → Mark S → Bool → List (Mark S) → Kept S
kept_of front here marked aside = record { front = front; here = here; marked = marked; aside = aside }

abbrev followed : {S : Type 0} → List (Mark S) → Bool → Mark S → List (Mark S) → Kept S
followed front marked here aside = let row = split marked here aside in record { front = front ++ row.front; here = row.here; marked = marked; aside = row.aside }

-- whole marks are passed, up to the first that isn't or the last of all
pub split-passed : {S : Type 0} (marked : Bool) (x : Mark S) (more : List (Mark S)) (y : Mark S) (ys : List (Mark S)) → x.whole ≡ true → AreWhole more → (ys ≡ []) ⊎ (y.whole ≡ false) → split marked x (more ++ y ∷ ys) ≡ kept_of (x ∷ more) y marked ys
split-passed {S = S} marked x [] y ys w ws e = split-on marked x y ys (kept_of [] y marked ys) w (stays ys e)
  where
    stays : (l : List (Mark S)) → (l ≡ []) ⊎ (y.whole ≡ false) → split marked y l ≡ kept_of [] y marked l
    stays [] e = refl
    stays (z ∷ zs) (inl e) = absurd (let n = ap length e in omega arith)
    stays (z ∷ zs) (inr e) = split-off marked y z zs e
split-passed marked x (z ∷ zs) y ys w ws e = split-on marked x z (zs ++ y ∷ ys) (kept_of (z ∷ zs) y marked ys) w (split-passed marked z zs y ys ws.0 ws.1 e)

-- no more than are whole from the first on
pub whole-within : {S : Type 0} (xs ys : List (Mark S)) → length xs ≤ whole_count (xs ++ ys) → AreWhole xs
whole-within [] ys le = tt
whole-within (x ∷ xs) ys le = by x.whole refl le (λ h. whole-within xs ys h)
  where
    by : (b : Bool) → x.whole ≡ b → length (x ∷ xs) ≤ (if b then 1 + whole_count (xs ++ ys) else 0) → (length xs ≤ whole_count (xs ++ ys) → AreWhole xs) → AreWhole (x ∷ xs)
    by true e h rest = (e, rest (omega arith))
    by false e h rest = absurd (omega arith)

-- the one behind all that are whole isn't
pub whole-next : {S : Type 0} (xs : List (Mark S)) (y : Mark S) (ys : List (Mark S)) → whole_count (xs ++ y ∷ ys) ≡ length xs → y.whole ≡ false
whole-next [] y ys e = by y.whole refl e
  where
    by : (b : Bool) → y.whole ≡ b → (if b then 1 + whole_count ys else 0) ≡ 0 → y.whole ≡ false
    by true w h = absurd (omega arith)
    by false w h = w
whole-next (x ∷ xs) y ys e = by x.whole e (λ h. whole-next xs y ys h)
  where
    by : (b : Bool) → (if b then 1 + whole_count (xs ++ y ∷ ys) else 0) ≡ length (x ∷ xs) → (whole_count (xs ++ y ∷ ys) ≡ length xs → y.whole ≡ false) → y.whole ≡ false
    by true h rest = rest (omega arith)
    by false h rest = absurd (omega arith)

-- so many of those aside were passed: the whole ones and one more, if there is one
pub followed_on : {S : Type 0} (n whole : ℕ) (old new : Kept S) → old.here.whole ≡ true → whole ≡ whole_count old.aside → (n ≤ whole + 1) × (n ≤ length old.aside) → (n ≡ length old.aside) ⊎ (n ≡ whole + 1) → MovesOn n old new → Follows old new
followed_on {S = S} n whole old new w e le or (inl same) = same.1 ∙ by old.aside (zero or)
  where
    zero : (n ≡ length old.aside) ⊎ (n ≡ whole + 1) → length old.aside ≤ 0
    zero (inl z) = omega (arith, same.0)
    zero (inr z) = absurd (omega (arith, same.0))

    by : (l : List (Mark S)) → length l ≤ 0 → kept_of old.front old.here old.marked l ≡ followed old.front old.marked old.here l
    by [] h = ap (λ f. kept_of f old.here old.marked []) (sym (append-nil old.front))
    by (x ∷ xs) h = absurd (omega arith)
followed_on {S = S} n whole old new w e le or (inr m) =
    ap (λ l. kept_of l new.here new.marked new.aside) m.front ∙ ap (λ b. kept_of (old.front ++ old.here ∷ m.more) new.here b new.aside) m.marked
    ∙ ap (λ (r : Kept S). kept_of (old.front ++ r.front) r.here old.marked r.aside) (sym (ap (split old.marked old.here) m.aside ∙ split-passed old.marked old.here m.more new.here new.aside w wholes (ended or)))
  where
    wholes : AreWhole m.more
    wholes = let C : List (Mark S) → Type 0 = λ l. length m.more ≤ whole_count l in whole-within m.more (new.here ∷ new.aside) (subst C m.aside (omega (arith, m.many, le.0)))

    ended : (n ≡ length old.aside) ⊎ (n ≡ whole + 1) → (new.aside ≡ []) ⊎ (new.here.whole ≡ false)
    ended (inl z) = inl (is-empty new.aside (let l = ap length m.aside in let a = length-append m.more (new.here ∷ new.aside) in omega (arith, m.many)))
    ended (inr z) = let C : List (Mark S) → Type 0 = λ l. whole_count l ≡ length m.more in inr (whole-next m.more new.here new.aside (subst C m.aside (omega (arith, m.many))))

-- one that isn't whole is no row
pub followed_none : {S : Type 0} (k : Kept S) → k.here.whole ≡ false → Follows k k
followed_none {S = S} k e = at_end k.aside
  where
    at_end : (l : List (Mark S)) → kept_of k.front k.here k.marked l ≡ followed k.front k.marked k.here l
    at_end [] = ap (λ f. kept_of f k.here k.marked []) (sym (append-nil k.front))
    at_end (y ∷ ys) = ap (λ f. kept_of f k.here k.marked (y ∷ ys)) (sym (append-nil k.front)) ∙ ap (λ (row : Kept S). kept_of (k.front ++ row.front) row.here k.marked row.aside) (sym (split-off k.marked k.here y ys e))

pub passed_next : {S : Type 0} (front : List (Mark S)) (here mark : Mark S) (marked : Bool) (aside fewer : List (Mark S)) (len : ℕ) → aside ≡ mark ∷ fewer → len ≡ mark.len →
    PassesNext (record { front = front; here = here; marked = marked; aside = aside }) (record { front = front; here = farther here len; marked = marked; aside = fewer })
passed_next front here mark marked aside fewer len e long = record { mark = mark; behind = fewer; are = e; is = ap (λ n. kept_of front (farther here n) marked fewer) long }

pub taken_next : {S : Type 0} (front : List (Mark S)) (here here' mark : Mark S) (marked : Bool) (aside fewer : List (Mark S)) → aside ≡ mark ∷ fewer → here' ≡ mark →
    TakesNext (record { front = front; here = here; marked = marked; aside = aside }) (record { front = front; here = here'; marked = marked; aside = fewer })
taken_next front here here' mark marked aside fewer e f = record { mark = mark; behind = fewer; are = e; is = ap (λ m. kept_of front m marked fewer) f }

pub let_went : {S : Type 0} (n : ℕ) (old k : Kept S) → PassesUpTo n old k → 0 < length k.aside → k ≡ gone_from n old
let_went n old k g some = by g.there
  where
    by : (k.aside ≡ []) ⊎ (n ≤ k.here.len) → k ≡ gone_from n old
    by (inl none) = absurd (let e = ap length none in omega arith)
    by (inr le) = sym (go_idle n k some le) ∙ g.same

pub let_all_go : {S : Type 0} (n : ℕ) (old k : Kept S) → PassesUpTo n old k → k.aside ≡ [] →
    record { front = k.front; here = record { state = k.here.state; len = n; tags = k.here.tags; faults = k.here.faults; whole = k.here.whole; saved = k.here.saved }; marked = k.marked; aside = k.aside } ≡ gone_from n old
let_all_go n old k g none = sym (go_none n k none) ∙ g.same
