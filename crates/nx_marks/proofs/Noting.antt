-- The state at the frontier says that it is no mark, before an edit.
use Rattle.std.proofs.Common.{◌≡◌, ℕ, false, ◌∷◌, subst, arith}
use Rattle.nx_marks.specs.Chain.{AreWhole, Kept, frontier_of}
use Rattle.nx_marks.specs.Editing.{edit_kept, edit_noted, noted}
use Rattle.nx_marks.specs.Frontier.{FrontierAfterEdit}
use Rattle.nx_marks.specs.Walking.{Fits}
use Rattle.nx_marks.proofs.Stepping.{reach-append}

noted_fits : {S : Type 0} (from to added : ℕ) (k : Kept S) → Fits from to added k → Fits from to added (noted k)
noted_fits from to added k fits =
    let a = reach-append k.front (k.here ∷ k.aside) in
    let b = reach-append k.front ((noted k).here ∷ k.aside) in
    let old = fits.old in
    let new = fits.new in
    record { old = omega arith; new = omega arith }

pub edited_from_noted : {S : Type 0} (from to added : ℕ) (k n j : Kept S) → n ≡ noted k → (Fits from to added n → AreWhole n.front → n.here.whole ≡ false → j ≡ edit_noted from to added n) →
    Fits from to added k → AreWhole k.front → k.here.whole ≡ false → j ≡ edit_kept from to added k
edited_from_noted {S = S} from to added k n j e f fits whole ends =
    let P : Kept S → Type 0 = λ i. Fits from to added i → AreWhole i.front → i.here.whole ≡ false → j ≡ edit_noted from to added i in
    subst P e f (noted_fits from to added k fits) whole ends

pub frontier_from_noted : {S : Type 0} (from : ℕ) (k n j : Kept S) → n ≡ noted k → FrontierAfterEdit from (frontier_of n) (frontier_of j) → FrontierAfterEdit from (frontier_of k) (frontier_of j)
frontier_from_noted {S = S} from k n j e f = let P : Kept S → Type 0 = λ i. FrontierAfterEdit from (frontier_of i) (frontier_of j) in subst P e f
