-- Attributes, an attribute at a time.
use Rattle.std.proofs.Common.{◌≡◌, ℕ, zero, suc, ◌+◌, ◌-◌, ◌<◌, ◌≤◌, Bool, true, false, cond, List, [], ◌∷◌, ◌++◌, length, take, drop, get_or, refl, ap, sym, ◌∙◌, arith, length-drop, append_assoc}
use Rattle.std.specs.Prelude.{◌==◌, ◌&&◌, not, nat_le, slice_index}
use Rattle.std.specs.List.{position_or_len, list_all}
use Rattle.std.proofs.lemmas.Bool.{and_parts}
use Rattle.std.proofs.lemmas.List.{take_rest, append-nil}
use Rattle.std.proofs.lemmas.Bool.Decides.{Decides-eqb, nat_tests}
use Rattle.std.proofs.lemmas.List.Folds.{length-prefix_len}
use Rattle.nx_events.specs.Tags.{is_between, quote_place, value_len, attribute_len, begins_attribute, attribute_at, front_attribute, front_len, attributes_from, ends_name, written_name, tag_attributes}
use Rattle.nx_events.specs.declared.tag.Attribute.{Attribute}

and_false : (t : Bool) → (t && false) ≡ false
and_false true = refl
and_false false = refl

le_no : (m n : ℕ) → n < m → nat_le m n ≡ false
le_no m n h = grind (arith, nat_tests)

le_yes : (m n : ℕ) → m ≤ n → nat_le m n ≡ true
le_yes m n h = grind (arith, nat_tests)

-- the value's length, as the code counts it
pub value_is : (bs : List ℕ) (q : ℕ) → q ≡ quote_place bs →
    position_or_len (λ b. b == get_or bs q 0) (take (length bs - (q + 1)) (drop (q + 1) bs)) ≡ value_len bs
unfolding value_len
value_is bs q e = rw (take_rest bs (q + 1), e) refl

pub rest_len : (bs : List ℕ) (k : ℕ) → length (take (length bs - k) (drop k bs)) ≡ length bs - k
rest_len bs k = ap length (take_rest bs k) ∙ length-drop k bs

too_long : (bs : List ℕ) → length bs < attribute_len bs → begins_attribute bs ≡ false
unfolding begins_attribute
too_long bs h = ap (λ t. not (is_between (slice_index bs 0)) && t) (le_no (attribute_len bs) (length bs) h) ∙ and_false _

pub none_in_nothing : (bs : List ℕ) → (length bs == 0) ≡ true → begins_attribute bs ≡ false
unfolding attribute_len
none_in_nothing bs e = too_long bs (let h : length bs ≡ 0 = (Decides-eqb (length bs) 0).0 e in omega arith)

pub none_between : (bs : List ℕ) → is_between (get_or bs 0 0) ≡ true → begins_attribute bs ≡ false
unfolding begins_attribute
none_between bs e = ap (λ t. not t && nat_le (attribute_len bs) (length bs)) e

pub none_without_quote : (bs : List ℕ) → length bs ≤ quote_place bs → begins_attribute bs ≡ false
unfolding attribute_len
none_without_quote bs h = too_long bs (omega arith)

pub none_without_end : (bs : List ℕ) → length bs - (quote_place bs + 1) ≤ value_len bs → begins_attribute bs ≡ false
unfolding attribute_len
none_without_end bs h = too_long bs (omega arith)

pub one_begins : (bs : List ℕ) → is_between (get_or bs 0 0) ≡ false → quote_place bs + value_len bs + 2 ≤ length bs → begins_attribute bs ≡ true
unfolding begins_attribute attribute_len
one_begins bs e h = ap (λ t. not t && nat_le (quote_place bs + value_len bs + 2) (length bs)) e ∙ le_yes _ _ h

-- the first n bytes are passed, as far as there are any
past : (n at : ℕ) (xs : List ℕ) → n ≤ length xs → attributes_from n at xs ≡ attributes_from 0 (at + n) (drop n xs)
unfolding attributes_from
past zero at [] h = refl
past (suc n) at [] h = absurd (omega arith)
past zero at (b ∷ xs) h = ap (λ (k : ℕ). attributes_from 0 k (b ∷ xs)) (let e : at ≡ at + 0 = omega arith in e)
past (suc n) at (b ∷ xs) h =
    let e : at + 1 + n ≡ at + suc n = omega arith in
    past n (at + 1) xs (omega arith) ∙ ap (λ (k : ℕ). attributes_from 0 k (drop n xs)) e

-- the attribute at the front, and those behind it
pub attributes_step : (at n : ℕ) (xs : List ℕ) → n ≡ front_len xs → 0 < n → n ≤ length xs →
    attributes_from 0 at xs ≡ front_attribute at xs ++ attributes_from 0 (at + n) (drop n xs)
unfolding attributes_from
attributes_step at n [] e p h = absurd (omega arith)
attributes_step at zero (b ∷ xs) e p h = absurd (omega arith)
attributes_step at (suc n) (b ∷ xs) e p h =
    let less : front_len (b ∷ xs) - 1 ≡ n = omega arith in
    let place : at + 1 + n ≡ at + suc n = omega arith in
    ap (λ (k : ℕ). front_attribute at (b ∷ xs) ++ attributes_from k (at + 1) xs) less
    ∙ ap (λ (ys : List Attribute). front_attribute at (b ∷ xs) ++ ys) (past n (at + 1) xs (omega arith) ∙ ap (λ (k : ℕ). attributes_from 0 k (drop n xs)) place)

pub attributes_more : (at n : ℕ) (xs : List ℕ) (old new all : List Attribute) → n ≡ front_len xs → 0 < n → n ≤ length xs →
    new ≡ old ++ front_attribute at xs → old ++ attributes_from 0 at xs ≡ all → new ++ attributes_from 0 (at + n) (take (length xs - n) (drop n xs)) ≡ all
attributes_more at n xs old new all e p h f g =
    rw (take_rest xs n, f, append_assoc, ← attributes_step at n xs e p h) g

pub attributes_whole : (at : ℕ) (rest : List ℕ) (out all : List Attribute) → (length rest == 0) ≡ true → out ++ attributes_from 0 at rest ≡ all → out ≡ all
unfolding attributes_from
attributes_whole at [] out all e g = sym (append-nil out) ∙ g
attributes_whole at (b ∷ rest) out all e g = absurd (let h : suc (length rest) ≡ 0 = (Decides-eqb (suc (length rest)) 0).0 e in omega arith)

-- a tag without bytes, and with some
pub tag_of_nothing : (at : ℕ) (bs : List ℕ) → (length bs == 0) ≡ true → [] ≡ tag_attributes at bs
unfolding tag_attributes written_name attributes_from
tag_of_nothing at [] e = refl
tag_of_nothing at (b ∷ bs) e = absurd (let h : suc (length bs) ≡ 0 = (Decides-eqb (suc (length bs)) 0).0 e in omega arith)

-- no attribute stands among white space, `/` and `>`
pub none_among : (at : ℕ) (bs : List ℕ) → list_all is_between bs ≡ true → attributes_from 0 at bs ≡ []
unfolding attributes_from front_attribute front_len
none_among at [] h = refl
none_among at (b ∷ bs) h =
    let t = and_parts (is_between b) (list_all is_between bs) h in
    ap (λ (t : Bool). cond t (attribute_at at (b ∷ bs) ∷ []) [] ++ attributes_from (cond t (attribute_len (b ∷ bs)) 1 - 1) (at + 1) bs) (none_between (b ∷ bs) t.0)
    ∙ none_among (at + 1) bs t.1

pub tag_of_some : (at m : ℕ) (bs : List ℕ) → m ≡ position_or_len ends_name (take (length bs - 1) (drop 1 bs)) →
    attributes_from 0 (at + (1 + m)) (take (length bs - (1 + m)) (drop (1 + m) bs)) ≡ tag_attributes at bs
unfolding tag_attributes written_name
tag_of_some at m bs e =
    let named : m ≡ length (take (position_or_len ends_name (drop 1 bs)) (drop 1 bs)) = e ∙ ap (position_or_len ends_name) (take_rest bs 1) ∙ sym (length-prefix_len (λ b. not (ends_name b)) (drop 1 bs)) in
    rw (take_rest bs (1 + m)) (ap (λ (k : ℕ). attributes_from 0 (at + (1 + k)) (drop (1 + k) bs)) named)

pub alone_of_nothing : (bs : List ℕ) (at : ℕ) → (length bs == 0) ≡ true → tag_attributes at bs ≡ []
alone_of_nothing bs at e = sym (tag_of_nothing at bs e)

pub alone_of_some : (m : ℕ) (bs : List ℕ) (at : ℕ) → m ≡ position_or_len ends_name (take (length bs - 1) (drop 1 bs)) →
    list_all is_between (take (length bs - (1 + m)) (drop (1 + m) bs)) ≡ true → tag_attributes at bs ≡ []
alone_of_some m bs at e h = sym (tag_of_some at m bs e) ∙ none_among (at + (1 + m)) (take (length bs - (1 + m)) (drop (1 + m) bs)) h
