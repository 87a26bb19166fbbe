-- Words put in their places, one after another.
use Rattle.std.proofs.Common.{◌≡◌, ℕ, List, [], ◌∷◌, ◌++◌, length, refl, sym, ap, ◌∙◌, arith, append_assoc}
use Rattle.rng_widen.specs.declared.widening.Widening.{Widening}
use Rattle.rng_widen.specs.Widened.{put_front, put_behind, put_from, put_all}

-- two parts that are added, one after the other
pub regrouped : (done longer longest front word : List ℕ) → longer ≡ done ++ front → longest ≡ longer ++ word → longest ≡ done ++ (front ++ word)
regrouped done longer longest front word e f = f ∙ ap (λ (t : List ℕ). t ++ word) e ∙ append_assoc done front word

-- one word more
pub put_more : (len : ℕ) (rest behind done longer whole : List ℕ) (one : Widening) (more left : List Widening) → left ≡ one ∷ more →
    longer ≡ done ++ put_front len rest one → behind ≡ put_behind len rest one → done ++ put_from len rest left ≡ whole →
    longer ++ put_from len behind more ≡ whole
unfolding put_from
put_more len rest behind done longer whole one more left e l b h =
    ap (λ (t : List ℕ). t ++ put_from len behind more) l
    ∙ append_assoc done (put_front len rest one) (put_from len behind more)
    ∙ ap (λ (t : List ℕ). done ++ (put_front len rest one ++ put_from len t more)) b
    ∙ ap (λ (l : List Widening). done ++ put_from len rest l) (sym e)
    ∙ h

-- no word is left
pub put_none : (len : ℕ) (rest done longer whole : List ℕ) (left : List Widening) → length left ≡ 0 → longer ≡ done ++ rest →
    done ++ put_from len rest left ≡ whole → longer ≡ whole
unfolding put_from
put_none len rest done longer whole [] none l h = l ∙ h
put_none len rest done longer whole (one ∷ left) none l h = absurd (omega (arith, none))

-- nothing is put yet
pub put_begun : (len : ℕ) (text done : List ℕ) (widenings : List Widening) → len ≡ length text → done ≡ [] →
    done ++ put_from len text widenings ≡ put_all text widenings
unfolding put_all
put_begun len text done widenings e none = rw (none, e) refl
