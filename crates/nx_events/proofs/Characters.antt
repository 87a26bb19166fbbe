-- The characters of a text, a character at a time.
use Rattle.std.proofs.Common.{◌≡◌, ℕ, zero, suc, ◌+◌, ◌-◌, ◌*◌, ◌<◌, ◌≤◌, Bool, true, false, List, [], ◌∷◌, length, take, drop, get_or, refl, ap, sym, subst, ◌∙◌, arith, add-one}
use Rattle.std.specs.Prelude.{◌&&◌, ◌==◌}
use Rattle.std.specs.List.{list_all}
use Rattle.std.proofs.lemmas.List.{take_rest}
use Rattle.std.proofs.lemmas.Bool.Decides.{Decides-eqb}
use Rattle.nx_events.specs.Names.{begins_unprefixed, goes_on_unprefixed, is_unprefixed, is_ncname}
use Rattle.std.specs.Str.{chars, chars_after, continuation_len, lead_bits}
use Rattle.nx_events.specs.Utf8.{with_following, front_char}

after_whole : (n c : ℕ) (bs : List ℕ) → n ≤ length bs → chars_after n c bs ≡ with_following n c bs ∷ chars (drop n bs)
unfolding chars
after_whole zero c [] h = refl
after_whole zero c (b ∷ bs) h = refl
after_whole (suc n) c [] h = absurd (omega arith)
after_whole (suc n) c (b ∷ bs) h = after_whole n (c * 64 + (b - 128)) bs (omega arith)

after_cut : (n c : ℕ) (bs : List ℕ) → length bs < n → chars_after n c bs ≡ []
after_cut zero c bs h = absurd (omega arith)
after_cut (suc n) c [] h = refl
after_cut (suc n) c (b ∷ bs) h = after_cut n (c * 64 + (b - 128)) bs (omega arith)

whole_at : (b m c n : ℕ) (bs : List ℕ) → n ≡ suc m → n ≤ suc (length bs) → chars_after m c bs ≡ with_following m c bs ∷ chars (drop n (b ∷ bs))
whole_at b m c n bs e k =
    let P : ℕ → Type 0 = λ n. n ≤ suc (length bs) → chars_after m c bs ≡ with_following m c bs ∷ chars (drop n (b ∷ bs)) in
    let here : P (suc m) = λ h. after_whole m c bs (omega arith) in
    subst P (sym e) here k

cut_at : (m c n : ℕ) (bs : List ℕ) → n ≡ suc m → suc (length bs) < n → chars_after m c bs ≡ []
cut_at m c n bs e k = after_cut m c bs (omega arith)

-- a whole character at the front, and a character that the text ends within
pub chars_whole : (bs : List ℕ) (k : ℕ) → 0 < length bs → k ≡ continuation_len (get_or bs 0 0) → k + 1 ≤ length bs → chars bs ≡ front_char bs ∷ chars (drop (k + 1) bs)
unfolding chars front_char
chars_whole [] k h e f = absurd (omega arith)
chars_whole (b ∷ bs) k h e f =
    let n : k + 1 ≡ suc (continuation_len b) = add-one k ∙ ap suc e in
    whole_at b (continuation_len b) (lead_bits b) (k + 1) bs n f

pub chars_cut : (bs : List ℕ) (k : ℕ) → k ≡ continuation_len (get_or bs 0 0) → length bs < k + 1 → chars bs ≡ []
unfolding chars
chars_cut [] k e f = refl
chars_cut (b ∷ bs) k e f =
    let n : k + 1 ≡ suc (continuation_len b) = add-one k ∙ ap suc e in
    cut_at (continuation_len b) (lead_bits b) (k + 1) bs n f

-- a character more is seen
pub names_more : (bs : List ℕ) (k : ℕ) → 0 < length bs → k ≡ continuation_len (get_or bs 0 0) → k + 1 ≤ length bs → goes_on_unprefixed (front_char bs) ≡ true →
    list_all goes_on_unprefixed (chars (take (length bs - (k + 1)) (drop (k + 1) bs))) ≡ list_all goes_on_unprefixed (chars bs)
names_more bs k h e f g =
    rw (take_rest bs (k + 1)) (sym (ap (list_all goes_on_unprefixed) (chars_whole bs k h e f) ∙ ap (λ (t : Bool). t && list_all goes_on_unprefixed (chars (drop (k + 1) bs))) g))

pub names_stop : (bs : List ℕ) (k : ℕ) → 0 < length bs → k ≡ continuation_len (get_or bs 0 0) → k + 1 ≤ length bs → goes_on_unprefixed (front_char bs) ≡ false →
    list_all goes_on_unprefixed (chars bs) ≡ false
names_stop bs k h e f g =
    ap (list_all goes_on_unprefixed) (chars_whole bs k h e f) ∙ ap (λ (t : Bool). t && list_all goes_on_unprefixed (chars (drop (k + 1) bs))) g

pub names_cut : (bs : List ℕ) (k : ℕ) → k ≡ continuation_len (get_or bs 0 0) → length bs < k + 1 → list_all goes_on_unprefixed (chars bs) ≡ true
names_cut bs k e f = ap (list_all goes_on_unprefixed) (chars_cut bs k e f)

pub names_end : (bs : List ℕ) → (length bs == 0) ≡ true → list_all goes_on_unprefixed (chars bs) ≡ true
unfolding chars
names_end [] e = refl
names_end (b ∷ bs) e = absurd (let h : suc (length bs) ≡ 0 = (Decides-eqb (suc (length bs)) 0).0 e in omega arith)

-- a name with a whole character at its front, and one without
pub ncname_whole : (bs : List ℕ) (k : ℕ) (begins goes : Bool) → 0 < length bs → k ≡ continuation_len (get_or bs 0 0) → k + 1 ≤ length bs →
    begins_unprefixed (front_char bs) ≡ begins → goes ≡ list_all goes_on_unprefixed (chars (take (length bs - (k + 1)) (drop (k + 1) bs))) →
    (begins && goes) ≡ is_ncname bs
unfolding is_ncname
ncname_whole bs k begins goes h e f b g =
    rw (g, take_rest bs (k + 1), ← b) (sym (ap is_unprefixed (chars_whole bs k h e f)))

pub ncname_cut : (bs : List ℕ) (k : ℕ) → k ≡ continuation_len (get_or bs 0 0) → length bs < k + 1 → is_ncname bs ≡ false
unfolding is_ncname
ncname_cut bs k e f = ap is_unprefixed (chars_cut bs k e f)

pub ncname_empty : (bs : List ℕ) → (length bs == 0) ≡ true → is_ncname bs ≡ false
unfolding is_ncname chars
ncname_empty [] e = refl
ncname_empty (b ∷ bs) e = absurd (let h : suc (length bs) ≡ 0 = (Decides-eqb (suc (length bs)) 0).0 e in omega arith)
