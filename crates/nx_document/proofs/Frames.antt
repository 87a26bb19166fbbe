-- The elements that are open around a place, innermost first, and the state of events that they make.
use Rattle.std.proofs.Common.{◌≡◌, ℕ, suc, ◌<◌, Bool, true, false, cond, Option, Some, None, List, [], ◌∷◌, ◌++◌, length, take, drop, refl, ap, sym, ◌∙◌, arith, length-append}
use Rattle.std.specs.Prelude.{nat_lt}
use Rattle.std.specs.Str.{bytes_eq}
use Rattle.std.proofs.lemmas.Bool.{lt-ltb}
use Rattle.std.proofs.lemmas.Slice.Eq.{bytes_eq-Decides}
use Rattle.nx_events.specs.Scopes.{or_else}
use Rattle.nx_events.specs.Items.{one_more, around_innermost}
use Rattle.nx_events.specs.declared.scope.Binding.{Binding}
use Rattle.nx_events.specs.declared.state.EventState.{EventState}
use Rattle.nx_events.specs.declared.state.OpenElement.{OpenElement}
use Rattle.nx_events.specs.declared.state.Run.{Run}

-- an open element by its written name and what its tag declares
pub record Frame : Type 0 where
  pub written : List ℕ
  pub own : List Binding

-- the declarations in force inside of the first
abbrev pub scope_of : List Frame → List Binding
scope_of [] = []
scope_of (frame ∷ outer) = scope_of outer ++ frame.own

abbrev pub open_of : Frame → List Frame → OpenElement
open_of frame outer = record { written = frame.written; outer = length (scope_of outer) }

abbrev pub elements_of : List Frame → List OpenElement
elements_of [] = []
elements_of (frame ∷ outer) = elements_of outer ++ open_of frame outer ∷ []

-- the state with these elements open
abbrev pub at : List Frame → Bool → Bool → Bool → Option Run → EventState
at frames came doctype started run = record { elements = elements_of frames; scope = scope_of frames; came = came; doctype = doctype; started = started; run = run }

some_length : (xs : List OpenElement) (x : OpenElement) → 0 < length (xs ++ x ∷ [])
some_length xs x = omega (arith, length-append xs (x ∷ []))

pub inside_some : (frame : Frame) (outer : List Frame) → nat_lt 0 (length (elements_of (frame ∷ outer))) ≡ true
inside_some frame outer = lt-ltb 0 (length (elements_of (frame ∷ outer))) (some_length (elements_of outer) (open_of frame outer))

-- the innermost element of a name
one_more_chain : (a b : Option ℕ) → one_more (or_else a b) ≡ or_else (one_more a) (one_more b)
one_more_chain (Some n) b = refl
one_more_chain None b = refl

or_else_chain : (a b c : Option ℕ) → or_else (or_else a b) c ≡ or_else a (or_else b c)
or_else_chain (Some x) b c = refl
or_else_chain None b c = refl

or_none : (a : Option ℕ) → or_else a None ≡ a
or_none (Some x) = refl
or_none None = refl

one_more_cond : (t : Bool) (n : ℕ) → one_more (cond t (Some n) None) ≡ cond t (Some (suc n)) None
one_more_cond true n = refl
one_more_cond false n = refl

around_last : (name : List ℕ) (xs : List OpenElement) (e : OpenElement) →
    around_innermost name (xs ++ e ∷ []) ≡ or_else (cond (bytes_eq e.written name) (Some (length xs)) None) (around_innermost name xs)
unfolding around_innermost
around_last name [] e = sym (or_none (cond (bytes_eq e.written name) (Some 0) None))
around_last name (x ∷ xs) e =
    let here : Option ℕ = cond (bytes_eq x.written name) (Some 0) None in
    let found : Option ℕ = cond (bytes_eq e.written name) (Some (length xs)) None in
    ap (λ (o : Option ℕ). or_else (one_more o) here) (around_last name xs e)
    ∙ ap (λ (o : Option ℕ). or_else o here) (one_more_chain found (around_innermost name xs))
    ∙ or_else_chain (one_more found) (one_more (around_innermost name xs)) here
    ∙ ap (λ (o : Option ℕ). or_else o (or_else (one_more (around_innermost name xs)) here)) (one_more_cond (bytes_eq e.written name) (length xs))

pub around_within : (name : List ℕ) (xs : List OpenElement) (n : ℕ) → around_innermost name xs ≡ Some n → n < length xs
unfolding around_innermost
around_within name [] n e = let bad : None ≡ Some n = e in absurd (cc)
around_within name (x ∷ xs) n e = by_inner (around_innermost name xs) (λ m f. around_within name xs m f) (bytes_eq x.written name) e
  where
    by_inner : (o : Option ℕ) → ((m : ℕ) → o ≡ Some m → m < length xs) → (t : Bool) → or_else (one_more o) (cond t (Some 0) None) ≡ Some n → n < suc (length xs)
    by_inner (Some m) h t f = let same : Some (suc m) ≡ Some n = f in let num : suc m ≡ n = cc in let less = h m refl in omega arith
    by_inner None h true f = let same : Some 0 ≡ Some n = f in let num : 0 ≡ n = cc in omega arith
    by_inner None h false f = let bad : None ≡ Some n = f in absurd (cc)

-- where the innermost element has the name, it is found
pub found_here : (frame : Frame) (outer : List Frame) (name : List ℕ) → name ≡ frame.written → around_innermost name (elements_of (frame ∷ outer)) ≡ Some (length (elements_of outer))
found_here frame outer name e =
    around_last name (elements_of outer) (open_of frame outer)
    ∙ ap (λ t. or_else (cond t (Some (length (elements_of outer))) None) (around_innermost name (elements_of outer))) ((bytes_eq-Decides frame.written name).1 (sym e))

pub around_other : (frame : Frame) (outer : List Frame) (name : List ℕ) → bytes_eq frame.written name ≡ false → around_innermost name (elements_of (frame ∷ outer)) ≡ around_innermost name (elements_of outer)
around_other frame outer name e =
    around_last name (elements_of outer) (open_of frame outer)
    ∙ ap (λ t. or_else (cond t (Some (length (elements_of outer))) None) (around_innermost name (elements_of outer))) e

-- parts of a list with one more at the end
pub take_front : {A : Type 0} (xs ys : List A) → take (length xs) (xs ++ ys) ≡ xs
take_front [] ys = refl
take_front (x ∷ xs) ys = ap (λ zs. x ∷ zs) (take_front xs ys)

pub drop_front : {A : Type 0} (xs ys : List A) → drop (length xs) (xs ++ ys) ≡ ys
drop_front [] ys = refl
drop_front (x ∷ xs) ys = drop_front xs ys

pub drop_last : {A : Type 0} (xs : List A) (y : A) → drop (suc (length xs)) (xs ++ y ∷ []) ≡ []
drop_last [] y = refl
drop_last (x ∷ xs) y = drop_last xs y
