-- Runs of bytes that stand for themselves.
use Rattle.std.proofs.Common.{◌≡◌, ℕ, zero, suc, ◌+◌, ◌-◌, ◌<◌, ◌≤◌, Bool, true, false, cond, Option, Some, None, List, [], ◌∷◌, ◌++◌, length, take, drop, append_assoc, refl, ap, sym, ◌∙◌, subst, arith, inl, inr, ◌⊎◌, ⊎_elim}
use Rattle.std.specs.Prelude.{◌==◌, ◌&&◌, ◌||◌, not, nat_eq, nat_lt, nat_le, is_some, slice_index, codes}
use Rattle.std.proofs.lemmas.Bool.{false≢true, ne_eqb, eqb-true, eqb-false, not-true, leb-true, ltb-true, lt-ltb, cases_lt}
use Rattle.std.proofs.lemmas.Bool.Decides.{nat_tests}
use Rattle.std.specs.List.{prefix_len, starts_with}
use Rattle.std.specs.Str.{continuation_len, lead_bits}
use Rattle.nx_base.specs.Characters.{is_char, is_space}
use Rattle.std.proofs.lemmas.Grind.{common_steps}
use Rattle.std.proofs.lemmas.List.{take_rest}
use Rattle.nx_events.specs.Plain.{is_plain, is_plain_line, is_plain_in}
use Rattle.nx_events.specs.Utf8.{with_following, front_char}
use Rattle.nx_events.specs.References.{reference_len, referenced, spelled}
use Rattle.nx_base.specs.declared.fault.Fault.{Fault}
use Rattle.nx_base.specs.declared.fault.Span.{Span}
use Rattle.nx_events.specs.declared.item.Item.{Item}
use Rattle.nx_events.specs.Faults.{faults_as_items}
use Rattle.nx_base.specs.declared.fault.Kind.{Kind}
use Rattle.nx_base.specs.declared.fault.Kind.TheVariants.{BadChar, BadReference, BadText}
use Rattle.nx_events.specs.Strings.{line_piece_len, text_piece_len, piece_len, line_string_of, text_string_of, value_string_of, piece_string, string_of}
use Rattle.nx_events.specs.CharacterFaults.{character_flaw, tag_flaw, text_flaw, piece_flaw, told_behind, new_faults, faults_behind, character_faults}
use Rattle.nx_events.specs.declared.character_fault.Told.{Told}
use Rattle.nx_events.specs.declared.reading.Reading.{Reading}
use Rattle.nx_events.specs.declared.reading.Reading.TheVariants.{Plain, Text, Value}
use Rattle.nx_events.proofs.Pieces.{string_step, string_whole}
use Rattle.nx_events.proofs.CharacterFaults.{faults_step, faults_whole, faults_begin}

left_of : (a b : Bool) → (a && b) ≡ true → a ≡ true
left_of true b e = refl
left_of false b e = e

right_of : (a b : Bool) → (a && b) ≡ true → b ≡ true
right_of true b e = e
right_of false b e = absurd (false≢true e)

-- what is known of such a byte
record IsPlain (b : ℕ) : Type 0 where
  from : 32 ≤ b
  below : b < 128
  no_ampersand : (b == 38) ≡ false
  no_bracket : b ≡ 93 → ⊥

is_plain_tells : (b : ℕ) → is_plain b ≡ true → IsPlain b
is_plain_tells b e =
    let more = right_of (nat_le 32 b) _ e in
    let marks = right_of (nat_lt b 128) _ more in
    record {
      from = leb-true 32 b (left_of (nat_le 32 b) _ e);
      below = ltb-true b 128 (left_of (nat_lt b 128) _ more);
      no_ampersand = not-true (b == 38) (left_of (not (b == 38)) _ marks);
      no_bracket = eqb-false b 93 (not-true (b == 93) (right_of (not (b == 38)) _ marks));
    }

-- a byte of a run in lines is such a byte or a line feed
either : (a b : Bool) → (a || b) ≡ true → (a ≡ true) ⊎ (b ≡ true)
either true b e = inl refl
either false b e = inr e

by_line : (b : ℕ) (P : ℕ → Type 0) → is_plain_line b ≡ true → ((p : IsPlain b) → P b) → P 10 → P b
by_line b P e plain feed = ⊎_elim
    (λ (h : is_plain b ≡ true). plain (is_plain_tells b h))
    (λ (h : (b == 10) ≡ true). subst P (sym (eqb-true b 10 h)) feed)
    (either (is_plain b) (b == 10) e)

other_than : (b n : ℕ) → 32 ≤ b → n < 32 → (b == n) ≡ false
other_than b n h g = ne_eqb b n (λ (e : b ≡ n). omega (arith, e, h, g))

alone : (b : ℕ) → b < 128 → continuation_len b ≡ 0
alone b h = ap (λ t. cond t 0 (cond (nat_lt b 224) 1 (cond (nat_lt b 240) 2 3))) (lt-ltb b 128 h)

line_len : (b : ℕ) (xs : List ℕ) → IsPlain b → line_piece_len (b ∷ xs) ≡ 1
unfolding line_piece_len
line_len b xs p =
    ap (λ t. cond (t && (slice_index xs 0 == 10)) 2 (suc (continuation_len b))) (other_than b 13 p.from (omega arith)) ∙ ap suc (alone b p.below)

text_len : (b : ℕ) (xs : List ℕ) → IsPlain b → text_piece_len (b ∷ xs) ≡ 1
unfolding text_piece_len
text_len b xs p =
    ap (λ t. cond t (suc (reference_len xs)) (cond (starts_with nat_eq (b ∷ xs) (codes "]]>")) 3 (line_piece_len (b ∷ xs)))) p.no_ampersand
    ∙ ap (λ t. cond (t && starts_with nat_eq xs (codes "]>")) 3 (line_piece_len (b ∷ xs))) (ne_eqb 93 b (λ (e : 93 ≡ b). p.no_bracket (sym e)))
    ∙ line_len b xs p

feed_len : (xs : List ℕ) → (line_piece_len (10 ∷ xs) ≡ 1) × (text_piece_len (10 ∷ xs) ≡ 1)
unfolding line_piece_len text_piece_len
feed_len xs = (refl, refl)

plain_len : (reading : Reading) (b : ℕ) (xs : List ℕ) → is_plain_in reading b ≡ true → piece_len reading (b ∷ xs) ≡ 1
plain_len Plain b xs e = by_line b (λ n. line_piece_len (n ∷ xs) ≡ 1) e (λ p. line_len b xs p) (feed_len xs).0
plain_len Text b xs e = by_line b (λ n. text_piece_len (n ∷ xs) ≡ 1) e (λ p. text_len b xs p) (feed_len xs).1
plain_len Value b xs e = text_len b xs (is_plain_tells b e)

line_string : (b : ℕ) → IsPlain b → line_string_of (b ∷ []) ≡ b ∷ []
unfolding line_string_of
line_string b p = ap (λ t. cond t (10 ∷ []) (b ∷ [])) (other_than b 13 p.from (omega arith))

text_string : (b : ℕ) → IsPlain b → text_string_of (b ∷ []) ≡ b ∷ []
unfolding text_string_of
text_string b p = ap (λ t. cond t (spelled (referenced (b ∷ []))) (line_string_of (b ∷ []))) p.no_ampersand ∙ line_string b p

no_space : (b : ℕ) → 32 < b → is_space b ≡ false
unfolding is_space
no_space b h = grind (arith, nat_tests)

value_string : (b : ℕ) → IsPlain b → value_string_of (b ∷ []) ≡ b ∷ []
unfolding value_string_of is_space
value_string b p = ⊎_elim
    (λ (h : b < 33). let e : 32 ≡ b = omega (arith, h, p.from) in let P : ℕ → Type 0 = λ n. cond (is_space n) (32 ∷ []) (text_string_of (n ∷ [])) ≡ n ∷ [] in subst P e refl)
    (λ (h : 33 ≤ b). ap (λ t. cond t (32 ∷ []) (text_string_of (b ∷ []))) (no_space b (omega (arith, h))) ∙ text_string b p)
    (cases_lt b 33)

feed_string : (line_string_of (10 ∷ []) ≡ 10 ∷ []) × (text_string_of (10 ∷ []) ≡ 10 ∷ [])
unfolding line_string_of text_string_of
feed_string = (refl, refl)

plain_string : (reading : Reading) (b : ℕ) → is_plain_in reading b ≡ true → piece_string reading (b ∷ []) ≡ b ∷ []
plain_string Plain b e = by_line b (λ n. line_string_of (n ∷ []) ≡ n ∷ []) e (λ p. line_string b p) feed_string.0
plain_string Text b e = by_line b (λ n. text_string_of (n ∷ []) ≡ n ∷ []) e (λ p. text_string b p) feed_string.1
plain_string Value b e = value_string b (is_plain_tells b e)

is_allowed : (b : ℕ) → 32 ≤ b → b < 128 → is_char b ≡ true
unfolding is_char
is_allowed b h g = grind (arith, nat_tests)

front : (b : ℕ) → IsPlain b → front_char (b ∷ []) ≡ b
unfolding front_char
front b p =
    ap (λ n. with_following n (lead_bits b) []) (alone b p.below)
    ∙ ap (λ t. cond t b (cond (nat_lt b 224) (b - 192) (cond (nat_lt b 240) (b - 224) (b - 240)))) (lt-ltb b 128 p.below)

no_flaw : (b : ℕ) → IsPlain b → character_flaw (b ∷ []) ≡ None
unfolding character_flaw
no_flaw b p = ap (λ c. cond (is_char c) None (Some BadChar)) (front b p) ∙ ap (λ t. cond t None (Some BadChar)) (is_allowed b p.from p.below)

no_tag_flaw : (b : ℕ) → IsPlain b → tag_flaw (b ∷ []) ≡ None
unfolding tag_flaw
no_tag_flaw b p = ap (λ t. cond t (cond (is_some (referenced (b ∷ []))) None (Some BadReference)) (character_flaw (b ∷ []))) p.no_ampersand ∙ no_flaw b p

no_text_flaw : (b : ℕ) → IsPlain b → text_flaw (b ∷ []) ≡ None
unfolding text_flaw
no_text_flaw b p = ap (λ t. cond (t && (1 == 3)) (Some BadText) (tag_flaw (b ∷ []))) (ne_eqb b 93 p.no_bracket) ∙ no_tag_flaw b p

feed_flaw : (character_flaw (10 ∷ []) ≡ None) × (text_flaw (10 ∷ []) ≡ None)
unfolding character_flaw tag_flaw text_flaw front_char is_char
feed_flaw = (refl, refl)

plain_flaw : (reading : Reading) (b : ℕ) → is_plain_in reading b ≡ true → piece_flaw reading (b ∷ []) ≡ None
plain_flaw Plain b e = by_line b (λ n. character_flaw (n ∷ []) ≡ None) e (λ p. no_flaw b p) feed_flaw.0
plain_flaw Text b e = by_line b (λ n. text_flaw (n ∷ []) ≡ None) e (λ p. no_text_flaw b p) feed_flaw.1
plain_flaw Value b e = no_tag_flaw b (is_plain_tells b e)

-- a front that isn't empty begins with such a byte, and goes on with others
first_plain : (n : ℕ) (t : Bool) (k : ℕ) → suc n ≤ cond t (1 + k) 0 → t ≡ true
first_plain n true k h = refl
first_plain n false k h = absurd (omega (arith, h))

others_plain : (n : ℕ) (t : Bool) (k : ℕ) → suc n ≤ cond t (1 + k) 0 → n ≤ k
others_plain n true k h = omega (arith, h)
others_plain n false k h = absurd (omega (arith, h))

-- a run of such bytes is its own string
pub string_run : (reading : Reading) (n : ℕ) (xs : List ℕ) → n ≤ prefix_len (is_plain_in reading) xs →
    string_of reading xs ≡ take n xs ++ string_of reading (drop n xs)
string_run reading zero xs h = refl
string_run reading (suc n) [] h = absurd (omega (arith, h))
string_run reading (suc n) (b ∷ xs) h =
    let plain = first_plain n (is_plain_in reading b) (prefix_len (is_plain_in reading) xs) h in
    let piece : b ∷ [] ≡ take (piece_len reading (b ∷ xs)) (b ∷ xs) = ap (λ k. take k (b ∷ xs)) (sym (plain_len reading b xs plain)) in
    string_step reading (b ∷ xs) (b ∷ []) piece (omega arith)
    ∙ ap (λ (ys : List ℕ). ys ++ string_of reading xs) (plain_string reading b plain)
    ∙ ap (λ (ys : List ℕ). b ∷ ys) (string_run reading n xs (others_plain n (is_plain_in reading b) (prefix_len (is_plain_in reading) xs) h))

-- and has no fault
pub faults_run : (told : Told) (reading : Reading) (at n : ℕ) (xs : List ℕ) → n ≤ prefix_len (is_plain_in reading) xs →
    faults_behind told reading at xs ≡ faults_behind told reading (at + n) (drop n xs)
faults_run told reading at zero xs h = let e : at ≡ at + 0 = omega arith in ap (λ (k : ℕ). faults_behind told reading k xs) e
faults_run told reading at (suc n) [] h = absurd (omega (arith, h))
faults_run told reading at (suc n) (b ∷ xs) h =
    let plain = first_plain n (is_plain_in reading b) (prefix_len (is_plain_in reading) xs) h in
    let piece : b ∷ [] ≡ take (piece_len reading (b ∷ xs)) (b ∷ xs) = ap (λ k. take k (b ∷ xs)) (sym (plain_len reading b xs plain)) in
    let span : Span = record { from = at; to = at + 1 } in
    let place : at + 1 + n ≡ at + suc n = omega arith in
    faults_step told reading at (at + 1) (b ∷ xs) (b ∷ []) piece (omega arith) refl
    ∙ ap (λ (w : Option Kind). new_faults told w span ++ faults_behind (told_behind told w) reading (at + 1) xs) (plain_flaw reading b plain)
    ∙ faults_run told reading (at + 1) n xs (others_plain n (is_plain_in reading b) (prefix_len (is_plain_in reading) xs) h)
    ∙ ap (λ (k : ℕ). faults_behind told reading k (drop n xs)) place

-- a run is read
pub run_read : (reading : Reading) (n : ℕ) (xs out new : List ℕ) → n ≤ prefix_len (is_plain_in reading) xs → new ≡ out ++ take n xs →
    new ++ string_of reading (take (length xs - n) (drop n xs)) ≡ out ++ string_of reading xs
run_read reading n xs out new h e = rw (take_rest xs n, e, append_assoc) (ap (λ (ys : List ℕ). out ++ ys) (sym (string_run reading n xs h)))

-- and has nothing to tell
pub run_told : (told : Told) (reading : Reading) (at n : ℕ) (xs : List ℕ) (old : List Item) → n ≤ prefix_len (is_plain_in reading) xs →
    old ++ faults_as_items (faults_behind told reading (at + n) (take (length xs - n) (drop n xs))) ≡ old ++ faults_as_items (faults_behind told reading at xs)
run_told told reading at n xs old h = rw (take_rest xs n) (ap (λ (fs : List Fault). old ++ faults_as_items fs) (sym (faults_run told reading at n xs h)))

-- a text of such bytes alone has nothing to tell
pub plain_told : (reading : Reading) (at : ℕ) (xs : List ℕ) (old : List Item) → prefix_len (is_plain_in reading) xs ≡ length xs →
    old ≡ old ++ faults_as_items (character_faults reading at xs)
plain_told reading at xs old e =
    let none : Told = record { bad_char = false; bad_text = false } in
    let spent : length xs - length xs ≡ 0 = omega arith in
    faults_whole none reading (at + length xs) (take (length xs - length xs) (drop (length xs) xs)) old _
    (ap (λ (k : ℕ). length (take k (drop (length xs) xs)) == 0) spent)
    (run_told none reading at (length xs) xs old (omega (arith, e)) ∙ ap (λ (fs : List Fault). old ++ faults_as_items fs) (faults_begin reading at xs))

-- and is its own string
pub plain_string_of : (reading : Reading) (xs : List ℕ) → prefix_len (is_plain_in reading) xs ≡ length xs → xs ≡ string_of reading xs
plain_string_of reading xs e =
    let spent : length xs - length xs ≡ 0 = omega arith in
    let whole : take (length xs) xs ≡ xs = grind (arith, common_steps) in
    sym whole
    ∙ string_whole reading (take (length xs - length xs) (drop (length xs) xs)) (take (length xs) xs) _
    (ap (λ (k : ℕ). length (take k (drop (length xs) xs)) == 0) spent)
    (run_read reading (length xs) xs [] (take (length xs) xs) (omega (arith, e)) refl)
