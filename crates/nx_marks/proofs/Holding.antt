-- What marks come to where some move, go or come.
use Rattle.std.proofs.Common.{◌≡◌, ℕ, ◌+◌, ◌-◌, ◌^◌, ◌<◌, ◌≤◌, List, [], ◌∷◌, ◌++◌, length, refl, ap, arith}
use Rattle.std.proofs.lemmas.List.{length-append}
use Rattle.nx_marks.specs.Chain.{reach}
use Rattle.nx_marks.specs.Room.{Held}
use Rattle.nx_marks.specs.Tree.{unsaved}
use Rattle.nx_marks.specs.declared.mark.Mark.{Mark}
use Rattle.nx_marks.proofs.Backs.{reach-append}

pub longer : {S : Type 0} (xs ys : List (Mark S)) (x : Mark S) → xs ≡ ys ++ x ∷ [] → length xs ≡ length ys + 1
longer xs ys x e = let n = ap length e in let m = length-append ys (x ∷ []) in omega arith

pub further : {S : Type 0} (xs ys : List (Mark S)) (x : Mark S) → xs ≡ ys ++ x ∷ [] → reach xs ≡ reach ys + x.len
further xs ys x e = let n = ap reach e in let m = reach-append ys (x ∷ []) in omega arith

-- the same marks, parted elsewhere
pub held_elsewhere : {S : Type 0} (front front' aside aside' : List (Mark S)) (here here' : Mark S) → Held front here aside → front' ++ here' ∷ aside' ≡ front ++ here ∷ aside → Held front' here' aside'
held_elsewhere front front' aside aside' here here' h e =
    let n = ap length e in
    let a = length-append front (here ∷ aside) in
    let b = length-append front' (here' ∷ aside') in
    let m = ap reach e in
    let c = reach-append front (here ∷ aside) in
    let d = reach-append front' (here' ∷ aside') in
    record { counted = (let i = h.counted in omega arith); fits = (let i = h.fits in omega arith) }

-- the first aside goes, and the one in front of it may grow as much
pub dropped : {S : Type 0} (front : List (Mark S)) (here mark next : Mark S) (aside fewer : List (Mark S)) → Held front here aside → aside ≡ mark ∷ fewer → next.len ≤ here.len + mark.len → Held front next fewer
dropped front here mark next aside fewer h e le =
    let n = ap length e in
    let m = ap reach e in
    record { counted = (let i = h.counted in omega arith); fits = (let i = h.fits in omega arith) }

-- a mark with nothing behind it yet is put in front
pub began : {S : Type 0} (front more aside : List (Mark S)) (here x : Mark S) → Held front here aside → more ≡ front ++ x ∷ [] → x.len ≡ 0 → length front + length aside + 2 < 2 ^ 32 → Held more here aside
began front more aside here x h e zero lt =
    let a = longer more front x e in
    let b = further more front x e in
    record { counted = omega arith; fits = (let i = h.fits in omega arith) }

-- the last of all says that it is no mark
pub unsaved_held : {S : Type 0} (front aside aside' others single : List (Mark S)) (here x y : Mark S) → Held front here aside → aside ≡ others ++ x ∷ [] → y ≡ unsaved x → single ≡ y ∷ [] → aside' ≡ others ++ single → Held front here aside'
unsaved_held front aside aside' others single here x y h e u s f =
    let a = longer aside others x e in
    let b = further aside others x e in
    let c = ap length f in
    let d = length-append others single in
    let l = ap length s in
    let n = ap reach f in
    let m = reach-append others single in
    let r = ap reach s in
    let k = ap (λ (z : Mark _). z.len) u in
    record { counted = (let i = h.counted in omega arith); fits = (let i = h.fits in omega arith) }

-- the last of the front is longer by what the next mark is nearer
pub refilled : {S : Type 0} (front less more aside : List (Mark S)) (here x x' next : Mark S) (n : ℕ) → Held front here aside → front ≡ less ++ x ∷ [] → n ≤ here.len → x'.len ≡ x.len + n → next.len ≡ here.len - n → more ≡ less ++ x' ∷ [] → Held more next aside
refilled front less more aside here x x' next n h e le long near g =
    let a = longer front less x e in
    let b = further front less x e in
    let c = longer more less x' g in
    let d = further more less x' g in
    record { counted = (let j = h.counted in omega arith); fits = (let j = h.fits in omega arith) }

none_reaches : {S : Type 0} (xs : List (Mark S)) → length xs ≡ 0 → reach xs ≡ 0
none_reaches [] e = refl
none_reaches (x ∷ xs) e = absurd (omega arith)

-- where none is behind, the one in between may reach as far as there are numbers
pub last_held : {S : Type 0} (front : List (Mark S)) (here next : Mark S) (aside : List (Mark S)) → Held front here aside → length aside ≡ 0 → reach front + next.len < 2 ^ 64 → Held front next aside
last_held front here next aside h e lt = let n = none_reaches aside e in record { counted = h.counted; fits = omega arith }
