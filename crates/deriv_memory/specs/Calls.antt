-- Calls told apart by four numbers.
use Rattle.std.specs.Prelude.{◌≡◌, ℕ, Bool, true, false, ◌&&◌, ◌++◌, eqb}
use Rattle.std.proofs.Common.{refl, sym, ap, subst, ◌∙◌}
use Rattle.std.proofs.lemmas.Bool.{and_parts, and_from, false≢true}
use Rattle.std.proofs.lemmas.Bool.Decides.{Decides-eqb}
use Rattle.std.specs.Bool.{Decides}
use Rattle.std.specs.Cmp.{IsEquivalence, decided}
use Rattle.std.specs.Hash as fed
use Rattle.deriv_memory.specs.declared.asked.Asked.{Asked}
use Rattle.deriv_memory.specs.declared.asked.Asked.TheVariants as asked

-- a number for each form
abbrev pub form_of : Asked → ℕ
form_of (asked.Enter s ns local) = 0
form_of (asked.TagEnd s) = 1
form_of (asked.Leave s) = 2
form_of (asked.Blank s) = 3
form_of (asked.Solid s) = 4
form_of (asked.BlankValue s ns local) = 5
form_of (asked.SolidValue s ns local) = 6

-- the state that is asked
abbrev pub state_of : Asked → ℕ
state_of (asked.Enter s ns local) = s
state_of (asked.TagEnd s) = s
state_of (asked.Leave s) = s
state_of (asked.Blank s) = s
state_of (asked.Solid s) = s
state_of (asked.BlankValue s ns local) = s
state_of (asked.SolidValue s ns local) = s

-- the name's numbers, 0 where there is no name
abbrev pub ns_of : Asked → ℕ
ns_of (asked.Enter s ns local) = ns
ns_of (asked.BlankValue s ns local) = ns
ns_of (asked.SolidValue s ns local) = ns
ns_of other = 0

abbrev pub local_of : Asked → ℕ
local_of (asked.Enter s ns local) = local
local_of (asked.BlankValue s ns local) = local
local_of (asked.SolidValue s ns local) = local
local_of other = 0

abbrev pub same_asked : Asked → Asked → Bool
same_asked a b = ((eqb (form_of a) (form_of b) && eqb (state_of a) (state_of b)) && eqb (ns_of a) (ns_of b)) && eqb (local_of a) (local_of b)

different : (m n : ℕ) → eqb m n ≡ false → m ≡ n → ⊥
different m n apart is = false≢true (sym apart ∙ (Decides-eqb m n).1 is)

by_state : (f : ℕ → Asked) (s t : ℕ) → s ≡ t → f s ≡ f t
by_state f s t state = ap f state

by_name : (f : ℕ → ℕ → ℕ → Asked) (s t m n i j : ℕ) → s ≡ t → m ≡ n → i ≡ j → f s m i ≡ f t n j
by_name f s t m n i j state ns local = ap (λ x. f x m i) state ∙ (ap (λ x. f t x i) ns ∙ ap (λ x. f t n x) local)

pub by_parts : (a b : Asked) → form_of a ≡ form_of b → state_of a ≡ state_of b → ns_of a ≡ ns_of b → local_of a ≡ local_of b → a ≡ b
by_parts (asked.Enter s m i) (asked.Enter t n j) form state ns local = by_name (λ x y z. asked.Enter x y z) s t m n i j state ns local
by_parts (asked.TagEnd s) (asked.TagEnd t) form state ns local = by_state (λ x. asked.TagEnd x) s t state
by_parts (asked.Leave s) (asked.Leave t) form state ns local = by_state (λ x. asked.Leave x) s t state
by_parts (asked.Blank s) (asked.Blank t) form state ns local = by_state (λ x. asked.Blank x) s t state
by_parts (asked.Solid s) (asked.Solid t) form state ns local = by_state (λ x. asked.Solid x) s t state
by_parts (asked.BlankValue s m i) (asked.BlankValue t n j) form state ns local =
    by_name (λ x y z. asked.BlankValue x y z) s t m n i j state ns local
by_parts (asked.SolidValue s m i) (asked.SolidValue t n j) form state ns local =
    by_name (λ x y z. asked.SolidValue x y z) s t m n i j state ns local
by_parts a b form state ns local = absurd (different (form_of a) (form_of b) refl form)

same_sound : (a b : Asked) → same_asked a b ≡ true → a ≡ b
same_sound a b same =
    let last = and_parts ((eqb (form_of a) (form_of b) && eqb (state_of a) (state_of b)) && eqb (ns_of a) (ns_of b)) (eqb (local_of a) (local_of b)) same in
    let third = and_parts (eqb (form_of a) (form_of b) && eqb (state_of a) (state_of b)) (eqb (ns_of a) (ns_of b)) last.0 in
    let front = and_parts (eqb (form_of a) (form_of b)) (eqb (state_of a) (state_of b)) third.0 in
    by_parts a b ((Decides-eqb (form_of a) (form_of b)).0 front.0) ((Decides-eqb (state_of a) (state_of b)).0 front.1)
    ((Decides-eqb (ns_of a) (ns_of b)).0 third.1) ((Decides-eqb (local_of a) (local_of b)).0 last.1)

itself : (a : Asked) → same_asked a a ≡ true
itself a =
    and_from _ _ (and_from _ _ (and_from _ _ ((Decides-eqb (form_of a) (form_of a)).1 refl) ((Decides-eqb (state_of a) (state_of a)).1 refl))
    ((Decides-eqb (ns_of a) (ns_of a)).1 refl)) ((Decides-eqb (local_of a) (local_of a)).1 refl)

pub calls_decided : (a b : Asked) → Decides (same_asked a b) (a ≡ b)
calls_decided a b = (same_sound a b, λ is. let P : Asked → Type 0 = λ x. same_asked a x ≡ true in subst P is (itself a))

pub calls_laws : IsEquivalence same_asked
calls_laws = decided same_asked calls_decided

pub calls_hash : (a b : Asked) → same_asked a b ≡ true
    → fed.u8 (form_of a) ++ fed.usize (state_of a) ++ fed.usize (ns_of a) ++ fed.usize (local_of a)
    ≡ fed.u8 (form_of b) ++ fed.usize (state_of b) ++ fed.usize (ns_of b) ++ fed.usize (local_of b)
calls_hash a b same = ap (λ x. fed.u8 (form_of x) ++ fed.usize (state_of x) ++ fed.usize (ns_of x) ++ fed.usize (local_of x)) (same_sound a b same)
