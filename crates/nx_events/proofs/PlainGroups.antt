-- What is so of each byte of a text is so of the text.
use Rattle.std.proofs.Common.{◌≤◌, ◌≡◌, ◌∙◌, ℕ, suc, ◌<◌, Bool, true, false, not, List, [], ◌∷◌, length, get_or, refl, sym, ap, ap₂, arith, take}
use Rattle.std.specs.Prelude.{◌==◌, ◌&&◌, ◌||◌, nat_le}
use Rattle.std.specs.Bool.{OnTrue}
use Rattle.std.specs.Char.{is_ascii_alphabetic, is_ascii_digit}
use Rattle.std.specs.List.{prefix_len, list_all, position_or_len}
use Rattle.std.proofs.lemmas.Bool.{and_from, and_parts, eqb-true, false≢true, OnTrue_at, OnTrue_from}
use Rattle.std.proofs.lemmas.Bool.Decides.{nat_tests}
use Rattle.std.proofs.lemmas.List.Sums.{prefix_len_is, position_or_len_is, fails_before_first}
use Rattle.nx_base.specs.Characters.{is_space}
use Rattle.nx_events.specs.ByteClasses.{AllBetween, SameBetween, IsSameName, is_plain_or, is_high, is_low}
use Rattle.nx_events.specs.Plain.{is_plain}
use Rattle.nx_events.specs.PlainNames.{is_plain_start, is_plain_further, is_plain_name}
use Rattle.nx_events.specs.Tags.{ends_name}
use Rattle.nx_events.proofs.LaneMasks.{first_of_all, holds}
use Rattle.nx_events.proofs.PlainNames.{every, every_at, implies, further_small}

pub all_pass : (p : ℕ → Bool) (xs : List ℕ) → AllBetween p xs 0 (length xs) → prefix_len p xs ≡ length xs
all_pass p xs each = prefix_len_is p xs (length xs) 0 (omega arith) (λ k less. each k (omega arith) less) (λ h. absurd (omega (arith, h)))

-- a space stands for itself in any case
plain_or_space : (plain space : Bool) (b : ℕ) → space ≡ (b == 32) → (plain || space) ≡ true → plain ≡ is_plain b → is_plain b ≡ true
plain_or_space true space b is e same = sym same
plain_or_space false space b is e same = let at : b ≡ 32 = eqb-true b 32 (sym is ∙ e) in ap is_plain at

pub all_plain_values : (xs : List ℕ) → AllBetween (is_plain_or 32) xs 0 (length xs) → prefix_len is_plain xs ≡ length xs
all_plain_values xs each = all_pass is_plain xs (λ k from less. plain_or_space (is_plain (get_or xs k 0)) (get_or xs k 0 == 32) (get_or xs k 0) refl (each k from less) refl)

-- names
each_listed : (p : ℕ → Bool) (xs : List ℕ) → ((k : ℕ) → k < length xs → p (get_or xs k 0) ≡ true) → list_all p xs ≡ true
each_listed p [] each = refl
each_listed p (x ∷ xs) each = and_from (p x) (list_all p xs) (each 0 (omega arith)) (each_listed p xs (λ k less. each (suc k) (omega (arith, less))))

starts_behind_digits : every 128 (λ b. not (is_plain_further b) || (nat_le b 57 || is_plain_start b)) ≡ true
unfolding every
starts_behind_digits = refl

right_of : (a b : Bool) → a ≡ false → (a || b) ≡ true → b ≡ true
right_of true b e h = absurd (false≢true (sym e))
right_of false b e h = h

starts : (b : ℕ) → 57 < b → is_plain_further b ≡ true → is_plain_start b ≡ true
starts b high h =
    let either = implies (is_plain_further b) (nat_le b 57 || is_plain_start b)
    (every_at 128 b (λ c. not (is_plain_further c) || (nat_le c 57 || is_plain_start c)) starts_behind_digits (further_small b h)) h in
    let behind : nat_le b 57 ≡ false = grind (arith, nat_tests) in
    right_of (nat_le b 57) (is_plain_start b) behind either

pub plain_name_from : (name : List ℕ) → 57 < get_or name 0 0 → AllBetween is_plain_further name 0 (length name) → is_plain_name name ≡ true
plain_name_from [] high each = absurd (omega (arith, high))
plain_name_from (b ∷ bytes) high each =
    and_from (is_plain_start b) (list_all is_plain_further bytes) (starts b high (each 0 (omega arith) (omega arith)))
    (each_listed is_plain_further bytes (λ k less. each (suc k) (omega arith) (omega (arith, less))))

letter_goes_on : (b : ℕ) → is_ascii_alphabetic b ≡ true → is_plain_further b ≡ true
letter_goes_on b h = ap (λ t. (t || b == 95) || (is_ascii_digit b || (b == 45 || b == 46))) h

pub letters_go_on : (xs : List ℕ) → AllBetween is_ascii_alphabetic xs 0 (length xs) → AllBetween is_plain_further xs 0 (length xs)
letters_go_on xs each k from to = letter_goes_on (get_or xs k 0) (each k from to)

-- no such byte ends a name
high_stays : (b : ℕ) → is_high b ≡ true → ends_name b ≡ false
unfolding is_space
high_stays b h = grind (arith, nat_tests)

pub same_in_name : (r s : Bool) (a b : List ℕ) (from to : ℕ) → OnTrue r (SameBetween a b from to) → OnTrue s (AllBetween is_high a from to) →
    OnTrue (r && s) (IsSameName a b from to)
same_in_name r s a b from to same high =
    OnTrue_from (r && s) (IsSameName a b from to) (λ e k begin end. let t = and_parts r s e in (OnTrue_at t.0 same k begin end, high_stays (get_or a k 0) (OnTrue_at t.1 high k begin end)))

-- so a name ends at the first low byte that ends one
pub name_ends_at : (d : List ℕ) (n r : ℕ) → n ≤ 64 → n ≤ length d → r ≡ position_or_len is_low (take n d) → r < n → ends_name (get_or d r 0) ≡ true →
    r ≡ position_or_len ends_name d
name_ends_at d n r few room first short ends =
    let of_all = first_of_all is_low d n few room r first short in
    sym (position_or_len_is ends_name d r 0 (omega (arith, short, room))
    (λ k less. high_stays (get_or d k 0) (holds (is_high (get_or d k 0)) (fails_before_first is_low d k 0 (omega (arith, less, of_all)))))
    (λ _. ends))

-- texts of the same bytes are the same
pub each_same : (a b : List ℕ) → length a ≡ length b → ((k : ℕ) → k < length a → get_or a k 0 ≡ get_or b k 0) → a ≡ b
each_same [] [] l each = refl
each_same [] (y ∷ ys) l each = absurd (omega (arith, l))
each_same (x ∷ xs) [] l each = absurd (omega (arith, l))
each_same (x ∷ xs) (y ∷ ys) l each = ap₂ (λ p q. p ∷ q) (each 0 (omega arith)) (each_same xs ys (omega (arith, l)) (λ k less. each (suc k) (omega (arith, less))))
