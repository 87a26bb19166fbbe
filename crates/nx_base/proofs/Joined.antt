-- Lists that stand in two pieces.
use Rattle.std.proofs.Common.{◌≡◌, ℕ, ◌+◌, ◌≤◌, List, [], ◌∷◌, ◌++◌, length, take, drop, refl, sym, ◌∙◌, ap, arith}
use Rattle.std.proofs.lemmas.List.{take-append-le, drop-append-le, take-append-drop, append_assoc, length-append}
use Rattle.std.proofs.Math.Seq.{take-append_seam, drop-append_seam}

-- a list that is a front and an end
pub front_of_joined : (whole front end : List ℕ) → whole ≡ front ++ end → take (length front) whole ≡ front
front_of_joined whole front end h = ap (take (length front)) h ∙ take-append_seam front end

pub end_of_joined : (whole front end : List ℕ) → whole ≡ front ++ end → drop (length front) whole ≡ end
end_of_joined whole front end h = ap (drop (length front)) h ∙ drop-append_seam front end

pub no_longer : (whole front end : List ℕ) → whole ≡ front ++ end → length front ≤ length whole
no_longer whole front end h = let both = ap length h ∙ length-append front end in omega arith

pub joined_again : (whole front end : List ℕ) → take (length front) whole ≡ front → drop (length front) whole ≡ end → whole ≡ front ++ end
joined_again whole front end h g =
    sym (take-append-drop (length front) whole) ∙ ap (λ (xs : List ℕ). xs ++ drop (length front) whole) h ∙ ap (λ (xs : List ℕ). front ++ xs) g

-- where two such lists are equal, the longer front begins with the shorter one, and goes on as the other end
pub front_begins : (front end longer rest : List ℕ) → length front ≤ length longer → front ++ end ≡ longer ++ rest → take (length front) longer ≡ front
front_begins front end longer rest le h =
    sym (take-append-le (length front) longer rest le) ∙ ap (take (length front)) (sym h) ∙ take-append_seam front end

pub end_goes_on : (front end longer rest : List ℕ) → length front ≤ length longer → front ++ end ≡ longer ++ rest → end ≡ drop (length front) longer ++ rest
end_goes_on front end longer rest le h =
    sym (drop-append_seam front end) ∙ ap (drop (length front)) h ∙ drop-append-le (length front) longer rest le

pub both_again : (front end longer rest : List ℕ) → take (length front) longer ≡ front → end ≡ drop (length front) longer ++ rest → front ++ end ≡ longer ++ rest
both_again front end longer rest h g =
    ap (λ (xs : List ℕ). front ++ xs) g
    ∙ ap (λ (xs : List ℕ). xs ++ (drop (length front) longer ++ rest)) (sym h)
    ∙ sym (append_assoc (take (length front) longer) (drop (length front) longer) rest)
    ∙ ap (λ (xs : List ℕ). xs ++ rest) (take-append-drop (length front) longer)

-- the empty list is no piece beside another
pub nothing_in_front : (front end : List ℕ) → front ++ end ≡ [] → front ≡ []
nothing_in_front [] end h = refl
nothing_in_front (x ∷ front) end h = let e : x ∷ (front ++ end) ≡ [] = h in cc

pub nothing_behind : (front end : List ℕ) → front ++ end ≡ [] → end ≡ []
nothing_behind [] end h = h
nothing_behind (x ∷ front) end h = let e : x ∷ (front ++ end) ≡ [] = h in cc

pub nothing_at_all : (front end : List ℕ) → front ≡ [] → end ≡ [] → front ++ end ≡ []
nothing_at_all front end h g = rw h g
