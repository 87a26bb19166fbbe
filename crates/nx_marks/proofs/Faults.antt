-- The faults of the segments are copied to their places.
use Rattle.std.proofs.Common.{◌≡◌, Bool, true, false, ℕ, zero, suc, ◌+◌, ◌-◌, ◌^◌, ◌<◌, ◌≤◌, List, [], ◌∷◌, ◌++◌, length, map, take, refl, sym, ap, subst, ◌∙◌, arith, append_assoc}
use Rattle.std.specs.Prelude.{min, nat_lt, nat_le, ◌||◌, Option, Some, Result, Ok, Err, OnOk}
use Rattle.std.specs.Option.{option_to_list}
use Rattle.std.proofs.lemmas.List.{length-append, take_all, take-append-le}
use Rattle.std.specs.List.{AllByRecursion}
use Rattle.std.proofs.lemmas.Bool.Decides.{nat_tests}
use Rattle.nx_base.specs.Rules.{Rules, RulesLaws, Lexeme, IsWithin}
use Rattle.nx_base.specs.Running.{faults_along}
use Rattle.nx_base.specs.Shifting.{placed, placed_fault, moved_fault}
use Rattle.nx_base.specs.Text.{moved_place}
use Rattle.nx_base.specs.declared.fault.Fault.{Fault}
use Rattle.nx_marks.specs.Chain.{AreWhole, Chain, FaultsFit, Kept, faults_in, reach}
use Rattle.nx_marks.specs.Right.{IsRight}
use Rattle.nx_marks.specs.Tree.{any_faulty, has_some}
use Rattle.nx_marks.specs.declared.mark.Mark.{Mark}
use Rattle.nx_marks.proofs.Places.{size, cuts-size}
use Rattle.nx_marks.proofs.Edits.{whole-link}
use Rattle.nx_marks.proofs.Backs.{reach-append}

-- ---- where the faults of a segment lie

all-append : (n : ℕ) (xs ys : List Fault) → AllByRecursion (IsWithin n) xs → AllByRecursion (IsWithin n) ys → AllByRecursion (IsWithin n) (xs ++ ys)
all-append n [] ys a b = b
all-append n (x ∷ xs) ys a b = (a.0, all-append n xs ys a.1 b)

all-placed : (d m n : ℕ) (xs : List Fault) → d + m ≤ n → AllByRecursion (IsWithin m) xs → AllByRecursion (IsWithin n) (placed d xs)
all-placed d m n [] le a = tt
all-placed d m n (x ∷ xs) le a = (record { ordered = (let e = a.0.ordered in omega arith); inside = (let e = a.0.inside in omega arith) }, all-placed d m n xs le a.1)

pub all-wider : (m n : ℕ) (xs : List Fault) → m ≤ n → AllByRecursion (IsWithin m) xs → AllByRecursion (IsWithin n) xs
all-wider m n [] le a = tt
all-wider m n (x ∷ xs) le a = (record { ordered = a.0.ordered; inside = (let e = a.0.inside in omega arith) }, all-wider m n xs le a.1)

within-along : {M : Type 0} (r : Rules M) → RulesLaws r → (p e : ℕ) (m : M) (ks : List Lexeme) → r.back m ≤ p → p + size ks ≤ e → AllByRecursion (IsWithin e) (faults_along r p m ks)
within-along r laws p e m [] b le = tt
within-along r laws p e m (k ∷ ks) b le =
    let grown = laws.after_back m k in
    all-append e (placed (p - r.back m) (r.gives m k)) (faults_along r (p + length k.bytes) (r.after m k) ks)
    (all-placed (p - r.back m) (r.back m + length k.bytes) e (r.gives m k) (omega arith) (laws.gives_within m k))
    (within-along r laws (p + length k.bytes) e (r.after m k) ks (omega arith) (omega arith))

fit-chain : {S M : Type 0} (is_state : S → Type 0) (means : S → M) (r : Rules M) (t : List ℕ) → RulesLaws r → (p : ℕ) (xs ys : List (Mark S)) → AreWhole xs → Chain is_state means r t p (xs ++ ys) → FaultsFit xs
fit-chain is_state means r t laws p [] ys w h = tt
fit-chain is_state means r t laws p (x ∷ xs) ys w h =
    let g = whole-link means r t p x.whole x (xs ++ ys) w.0 h.1.0 in
    let s = cuts-size t p (p + x.len) g.tokens g.segment.cuts in
    let b = g.segment.back in
    let P : List Fault → Type 0 = λ fs. AllByRecursion (IsWithin x.len) fs in
    (subst P (sym g.segment.faults_are) (within-along r laws 0 x.len (means x.state) g.tokens (omega arith) (omega arith)), fit-chain is_state means r t laws (p + x.len) xs ys w.1 h.1.1)

pub faults_fit : {S M : Type 0} (is_state : S → Type 0) (means : S → M) (r : Rules M) (t : List ℕ) → RulesLaws r → (k : Kept S) → IsRight is_state means r t k → FaultsFit k.front
faults_fit is_state means r t laws k h = fit-chain is_state means r t laws 0 k.front (k.here ∷ k.aside) h.holds.whole h.holds.chain

-- ---- one mark's

moved-is : (at place : ℕ) → place + at < 2 ^ 64 → moved_place at (record { from = 0; to = 0; added = place }) ≡ place + at
moved-is at place lt = rw (not_before at, behind at) least
  where
    not_before : (n : ℕ) → nat_lt n 0 ≡ false
    not_before n = grind (arith, nat_tests)

    behind : (n : ℕ) → nat_le 0 n ≡ true
    behind n = grind (arith, nat_tests)

    least : min (at - (0 - 0) + place) (2 ^ 64 - 1) ≡ place + at
    least = grind arith

abbrev fault_at : Fault → ℕ → ℕ → Fault
fault_at f from to = record { span = record { from = from; to = to }; kind = f.kind; detail = f.detail }

pub shifted-is : (place : ℕ) (fs : List Fault) → place < 2 ^ 64 → AllByRecursion (IsWithin (2 ^ 64 - 1 - place)) fs → map (moved_fault (record { from = 0; to = 0; added = place })) fs ≡ placed place fs
shifted-is place [] lt a = refl
shifted-is place (f ∷ fs) lt a =
    let one : moved_fault (record { from = 0; to = 0; added = place }) f ≡ placed_fault place f = by in
    ap (λ x. x ∷ map (moved_fault (record { from = 0; to = 0; added = place })) fs) one ∙ ap (λ xs. placed_fault place f ∷ xs) (shifted-is place fs lt a.1)
  where
    by : moved_fault (record { from = 0; to = 0; added = place }) f ≡ placed_fault place f
    by =
        let o = a.0.ordered in
        let i = a.0.inside in
        ap (λ n. fault_at f n (moved_place f.span.to (record { from = 0; to = 0; added = place }))) (moved-is f.span.from place (omega arith)) ∙ ap (fault_at f (place + f.span.from)) (moved-is f.span.to place (omega arith))

-- ---- one after another

pub faults-append : {S : Type 0} (p q : ℕ) (xs ys : List (Mark S)) → p + reach xs ≡ q → faults_in p (xs ++ ys) ≡ faults_in p xs ++ faults_in q ys
faults-append p q [] ys e = ap (λ n. faults_in n ys) (omega arith)
faults-append p q (x ∷ xs) ys e = ap (λ fs. placed p x.faults ++ fs) (faults-append (p + x.len) q xs ys (omega arith)) ∙ sym (append_assoc (placed p x.faults) (faults_in (p + x.len) xs) (faults_in q ys))

pub none : (fs : List Fault) → fs ++ [] ≡ fs
none [] = refl
none (f ∷ fs) = ap (λ l. f ∷ l) (none fs)

-- ---- of some of the marks

either : (a b : Bool) → a || b ≡ false → (a ≡ false) × (b ≡ false)
either false false e = (refl, refl)
either false true e = (refl, e)
either true b e = absurd (cc)

has-none : (fs : List Fault) → has_some fs ≡ false → fs ≡ []
has-none [] e = refl
has-none (f ∷ fs) e = absurd (cc)

-- where no mark has faults there are none
pub faultless : {S : Type 0} (p : ℕ) (xs : List (Mark S)) → any_faulty xs ≡ false → faults_in p xs ≡ []
faultless p [] e = refl
faultless p (x ∷ xs) e =
    let h = either (has_some x.faults) (any_faulty xs) e in
    ap (λ (fs : List Fault). placed p fs ++ faults_in (p + x.len) xs) (has-none x.faults h.0) ∙ faultless (p + x.len) xs h.1

pub faultless_first : {S : Type 0} (p n : ℕ) (xs : List (Mark S)) → any_faulty xs ≡ false → faults_in p (take n xs) ≡ []
faultless_first p zero xs e = refl
faultless_first p (suc n) [] e = refl
faultless_first p (suc n) (x ∷ xs) e =
    let h = either (has_some x.faults) (any_faulty xs) e in
    ap (λ (fs : List Fault). placed p fs ++ faults_in (p + x.len) (take n xs)) (has-none x.faults h.0) ∙ faultless_first (p + x.len) n xs h.1

pub nothing-listed : {S : Type 0} (p n : ℕ) (xs : List (Mark S)) (old : List Fault) → faults_in p (take n xs) ≡ [] → old ≡ old ++ faults_in p (take n xs)
nothing-listed p n xs old e = sym (none old) ∙ ap (λ l. old ++ l) (sym e)

pub fit-front : {S : Type 0} (xs ys : List (Mark S)) → FaultsFit (xs ++ ys) → FaultsFit xs
fit-front [] ys h = tt
fit-front (x ∷ xs) ys h = (h.0, fit-front xs ys h.1)

pub fit-behind : {S : Type 0} (xs ys : List (Mark S)) → FaultsFit (xs ++ ys) → FaultsFit ys
fit-behind [] ys h = h
fit-behind (x ∷ xs) ys h = fit-behind xs ys h.1

fit-first : {S : Type 0} (m n : ℕ) (xs : List (Mark S)) → m ≤ n → FaultsFit (take n xs) → FaultsFit (take m xs)
fit-first zero n xs le h = tt
fit-first (suc m) zero xs le h = absurd (omega arith)
fit-first (suc m) (suc n) [] le h = tt
fit-first (suc m) (suc n) (x ∷ xs) le h = (h.0, fit-first m n xs (omega arith) h.1)

-- a mark, those in front of it and those behind
pub fit-left : {S : Type 0} (m n : ℕ) (all xs : List (Mark S)) (y : Mark S) (ys : List (Mark S)) → all ≡ xs ++ y ∷ ys → m ≤ n → m ≤ length xs → FaultsFit (take n all) → FaultsFit (take m xs)
fit-left {S = S} m n all xs y ys e le lt h =
    let P : List (Mark S) → Type 0 = FaultsFit in
    subst P (ap (take m) e ∙ take-append-le m xs (y ∷ ys) lt) (fit-first m n all le h)

pub take-past : {S : Type 0} (n m : ℕ) (xs : List (Mark S)) (y : Mark S) (ys : List (Mark S)) → n ≡ length xs + 1 + m → take n (xs ++ y ∷ ys) ≡ xs ++ y ∷ take m ys
take-past n m [] y ys e = let f : n ≡ suc m = omega arith in ap (λ k. take k (y ∷ ys)) f
take-past zero m (x ∷ xs) y ys e = absurd (omega arith)
take-past (suc n) m (x ∷ xs) y ys e = ap (λ l. x ∷ l) (take-past n m xs y ys (omega arith))

pub fit-parts : {S : Type 0} (n m : ℕ) (all xs : List (Mark S)) (y : Mark S) (ys : List (Mark S)) → all ≡ xs ++ y ∷ ys → n ≡ length xs + 1 + m → FaultsFit (take n all) → FaultsFit (y ∷ take m ys)
fit-parts {S = S} n m all xs y ys e f h =
    let P : List (Mark S) → Type 0 = FaultsFit in
    fit-behind xs (y ∷ take m ys) (subst P (ap (take n) e ∙ take-past n m xs y ys f) h)

pub fit-mark : {S : Type 0} (n m q : ℕ) (all xs : List (Mark S)) (y : Mark S) (ys : List (Mark S)) → all ≡ xs ++ y ∷ ys → n ≡ length xs + 1 + m → q + y.len < 2 ^ 64 → FaultsFit (take n all) → AllByRecursion (IsWithin (2 ^ 64 - 1 - q)) y.faults
fit-mark n m q all xs y ys e f lt h = all-wider y.len (2 ^ 64 - 1 - q) y.faults (omega arith) (fit-parts n m all xs y ys e f h).0

pub parts-length : {S : Type 0} (all xs : List (Mark S)) (y : Mark S) (ys : List (Mark S)) → all ≡ xs ++ y ∷ ys → length all ≡ length xs + 1 + length ys
parts-length all xs y ys e = let a = ap length e in let b = length-append xs (y ∷ ys) in omega arith

pub parts-reach : {S : Type 0} (all xs : List (Mark S)) (y : Mark S) (ys : List (Mark S)) → all ≡ xs ++ y ∷ ys → reach all ≡ reach xs + y.len + reach ys
parts-reach all xs y ys e = let a = ap reach e in let b = reach-append xs (y ∷ ys) in omega arith

pub on_ok : {T E : Type 0} (r : Result T E) {P Q : Type 0} → (P → Q) → OnOk r P → OnOk r Q
on_ok (Ok v) f p = f p
on_ok (Err e) f p = tt

-- the faults of those in front, of the mark, and of those behind
pub listed-parts : {S : Type 0} (p q n m k : ℕ) (all xs : List (Mark S)) (y : Mark S) (ys : List (Mark S)) (old front mid new : List Fault) → all ≡ xs ++ y ∷ ys → n ≡ length xs + 1 + m → k ≡ length xs → q ≡ p + reach xs →
    front ≡ old ++ faults_in p (take k xs) → mid ≡ front ++ placed q y.faults → new ≡ mid ++ faults_in (q + y.len) (take m ys) → new ≡ old ++ faults_in p (take n all)
listed-parts p q n m k all xs y ys old front mid new e f l r a b c =
    let left : faults_in p (take k xs) ≡ faults_in p xs = ap (faults_in p) (take_all k xs (omega arith)) in
    let whole : faults_in p (take n all) ≡ faults_in p xs ++ (placed q y.faults ++ faults_in (q + y.len) (take m ys)) =
    ap (λ l. faults_in p (take n l)) e ∙ ap (faults_in p) (take-past n m xs y ys f) ∙ faults-append p q xs (y ∷ take m ys) (omega arith) in
    c ∙ ap (λ l. l ++ faults_in (q + y.len) (take m ys)) (b ∙ ap (λ l. l ++ placed q y.faults) (a ∙ ap (λ l. old ++ l) left))
    ∙ append_assoc (old ++ faults_in p xs) (placed q y.faults) (faults_in (q + y.len) (take m ys))
    ∙ append_assoc old (faults_in p xs) (placed q y.faults ++ faults_in (q + y.len) (take m ys))
    ∙ ap (λ l. old ++ l) (sym whole)

-- ---- of a tree, and of the last one apart

pub fit-below : {S : Type 0} (n : ℕ) (xs all : List (Mark S)) (top : Option (Mark S)) → xs ++ option_to_list top ≡ all → n ≡ length xs → FaultsFit all → FaultsFit (take n xs)
fit-below {S = S} n xs all top e l h =
    let P : List (Mark S) → Type 0 = FaultsFit in
    subst P (sym (take_all n xs (omega arith))) (fit-front xs (option_to_list top) (subst P (sym e) h))

pub fit-top : {S : Type 0} (far place : ℕ) (xs all : List (Mark S)) (top : Option (Mark S)) (x y : Mark S) → xs ++ option_to_list top ≡ all → top ≡ Some x → y ≡ x → far ≡ reach all → far < 2 ^ 64 → place ≡ far - y.len → FaultsFit all →
    AllByRecursion (IsWithin (2 ^ 64 - 1 - place)) y.faults
fit-top {S = S} far place xs all top x y are e f r lt p h =
    let P : List (Mark S) → Type 0 = FaultsFit in
    let list : all ≡ xs ++ y ∷ [] = sym are ∙ ap (λ o. xs ++ option_to_list o) e ∙ ap (λ m. xs ++ m ∷ []) (sym f) in
    let a = ap reach list in
    let b = reach-append xs (y ∷ []) in
    all-wider y.len (2 ^ 64 - 1 - place) y.faults (omega arith) (fit-behind xs (y ∷ []) (subst P list h)).0

pub listed-top : {S : Type 0} (far place n : ℕ) (xs all : List (Mark S)) (top : Option (Mark S)) (x y : Mark S) (old mid new : List Fault) → xs ++ option_to_list top ≡ all → top ≡ Some x → y ≡ x → far ≡ reach all → place ≡ far - y.len → n ≡ length xs →
    mid ≡ old ++ faults_in 0 (take n xs) → new ≡ mid ++ placed place y.faults → new ≡ old ++ faults_in 0 all
listed-top far place n xs all top x y old mid new are e f r p l g h =
    let list : all ≡ xs ++ y ∷ [] = sym are ∙ ap (λ o. xs ++ option_to_list o) e ∙ ap (λ m. xs ++ m ∷ []) (sym f) in
    let a = ap reach list in
    let b = reach-append xs (y ∷ []) in
    let below : faults_in 0 (take n xs) ≡ faults_in 0 xs = ap (faults_in 0) (take_all n xs (omega arith)) in
    let whole : faults_in 0 all ≡ faults_in 0 xs ++ placed place y.faults = ap (faults_in 0) list ∙ faults-append 0 place xs (y ∷ []) (omega arith) ∙ ap (λ l. faults_in 0 xs ++ l) (none (placed place y.faults)) in
    h ∙ ap (λ l. l ++ placed place y.faults) (g ∙ ap (λ l. old ++ l) below) ∙ append_assoc old (faults_in 0 xs) (placed place y.faults) ∙ ap (λ l. old ++ l) (sym whole)
