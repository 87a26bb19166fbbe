-- Whether a text is among others.
use Rattle.std.proofs.Common.{◌≡◌, refl, sym, ap, ◌∙◌, subst, ℕ, zero, suc, Bool, true, false, List, [], ◌∷◌, arith, Contains, ◌||◌}
use Rattle.std.proofs.lemmas.Bool.{false≢true}
use Rattle.std.specs.Cmp.Lexicographic.{bytes_decides}
use Rattle.std.specs.List.{list_any}
use Rattle.std.specs.Str.{bytes_eq}

or_true : (b r : Bool) → r ≡ true → (b || r) ≡ true
or_true true r h = refl
or_true false r h = h

-- what is found is there
pub found_there : (uri : List ℕ) (uris : List (List ℕ)) → list_any (bytes_eq uri) uris ≡ true → Contains uris uri
found_there uri [] h = let never : ⊥ = cc in absurd never
found_there uri (one ∷ uris) h = at (bytes_eq uri one) refl h (found_there uri uris)
  where
    at : (b : Bool) → bytes_eq uri one ≡ b → (b || list_any (bytes_eq uri) uris) ≡ true →
        (list_any (bytes_eq uri) uris ≡ true → Contains uris uri) → Contains (one ∷ uris) uri
    at true e more = λ _. (0, omega arith, sym ((bytes_decides uri one).0 e))
    at false e more = λ rest. let there : Contains uris uri = rest more in (suc there.0, omega (arith, there.1), there.2)

there_found : (uri : List ℕ) (uris : List (List ℕ)) → Contains uris uri → list_any (bytes_eq uri) uris ≡ true
there_found uri [] among = absurd (omega (arith, among.1))
there_found uri (one ∷ uris) (zero, below, is) =
    ap (λ b. b || list_any (bytes_eq uri) uris) ((bytes_decides uri one).1 (sym is))
there_found uri (one ∷ uris) (suc k, below, is) =
    or_true (bytes_eq uri one) (list_any (bytes_eq uri) uris) (there_found uri uris (k, omega (arith, below), is))

-- and what isn't found isn't there
pub not_there : (uri : List ℕ) (uris : List (List ℕ)) → list_any (bytes_eq uri) uris ≡ false → Contains uris uri → ⊥
not_there uri uris h among = false≢true (sym h ∙ there_found uri uris among)

-- the same with the text itself in front of the others
pub first_or_there : (uri one : List ℕ) (uris : List (List ℕ)) → bytes_eq uri one ≡ true → Contains (one ∷ uris) uri
first_or_there uri one uris e = (0, omega arith, sym ((bytes_decides uri one).0 e))

pub behind_first : (uri one : List ℕ) (uris : List (List ℕ)) → list_any (bytes_eq uri) uris ≡ true → Contains (one ∷ uris) uri
behind_first uri one uris h = let there = found_there uri uris h in (suc there.0, omega (arith, there.1), there.2)

pub nowhere_there : (uri one : List ℕ) (uris : List (List ℕ)) → bytes_eq uri one ≡ false → list_any (bytes_eq uri) uris ≡ false →
    Contains (one ∷ uris) uri → ⊥
nowhere_there uri one uris e h (zero, below, is) = false≢true (sym e ∙ (bytes_decides uri one).1 (sym is))
nowhere_there uri one uris e h (suc k, below, is) = not_there uri uris h (k, omega (arith, below), is)

-- texts that are met
pub met_there : (id : List ℕ) (met : List (List ℕ)) → list_any (λ other. bytes_eq other id) met ≡ true → Contains met id
met_there id [] h = let never : ⊥ = cc in absurd never
met_there id (one ∷ met) h = at (bytes_eq one id) refl h (met_there id met)
  where
    at : (b : Bool) → bytes_eq one id ≡ b → (b || list_any (λ other. bytes_eq other id) met) ≡ true →
        (list_any (λ other. bytes_eq other id) met ≡ true → Contains met id) → Contains (one ∷ met) id
    at true e more = λ _. (0, omega arith, (bytes_decides one id).0 e)
    at false e more = λ rest. let there : Contains met id = rest more in (suc there.0, omega (arith, there.1), there.2)

there_met : (id : List ℕ) (met : List (List ℕ)) → Contains met id → list_any (λ other. bytes_eq other id) met ≡ true
there_met id [] among = absurd (omega (arith, among.1))
there_met id (one ∷ met) (zero, below, is) =
    ap (λ b. b || list_any (λ other. bytes_eq other id) met) ((bytes_decides one id).1 is)
there_met id (one ∷ met) (suc k, below, is) =
    or_true (bytes_eq one id) (list_any (λ other. bytes_eq other id) met) (there_met id met (k, omega (arith, below), is))

pub not_met : (id : List ℕ) (met : List (List ℕ)) → list_any (λ other. bytes_eq other id) met ≡ false → Contains met id → ⊥
not_met id met h among = false≢true (sym h ∙ there_met id met among)

-- the same by what slices hold
pub met_by : (id s : List ℕ) (met m : List (List ℕ)) → s ≡ id → m ≡ met → true ≡ list_any (λ other. bytes_eq other s) m → Contains met id
met_by id s met m hs hm h = subst (λ i. Contains met i) hs (subst (λ ms. Contains ms s) hm (met_there s m (sym h)))

pub not_met_by : (id s : List ℕ) (met m : List (List ℕ)) → s ≡ id → m ≡ met → false ≡ list_any (λ other. bytes_eq other s) m →
    Contains met id → ⊥
not_met_by id s met m hs hm h among =
    not_met s m (sym h) (subst (λ ms. Contains ms s) (sym hm) (subst (λ i. Contains met i) (sym hs) among))
