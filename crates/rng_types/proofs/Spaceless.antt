-- What is left of a text without its white space.
use Rattle.std.specs.Prelude.{◌≡◌, ℕ, suc, ◌<◌, Bool, true, false, cond, not, ◌&&◌, if◌then◌else◌, List, [], ◌∷◌, ◌++◌, ◌+◌, length, take, get_or, encode_utf8}
use Rattle.std.proofs.Common.{refl, sym, ap, ◌∙◌, arith, append-nil}
use Rattle.std.proofs.lemmas.Bool.{and_parts, and_from, not_from_false, false≢true, false_from_ne_true}
use Rattle.std.proofs.lemmas.Bool.Decides.{nat_tests}
use Rattle.std.proofs.lemmas.List.{take_more}
use Rattle.std.proofs.lemmas.List.Elements.{filter-append}
use Rattle.std.proofs.lemmas.Str.{chars-encodes, encodes-chars, scalars-chars, encode_ascii, inside_one, IsUtf8-from_is_utf8, is_utf8-from_IsUtf8}
use Rattle.std.specs.List.{list_all, filter}
use Rattle.std.specs.Str.{chars, is_utf8, encode_utf8_all, all_scalars}
use Rattle.nx_base.specs.Characters.{is_space, is_blank, is_char, is_of_chars}
use Rattle.rng_more_types.specs.Spaces.{is_space as is_white, is_no_space as is_no_white, is_blank as is_white_only, unspaced}
use Rattle.rng_types.specs.Spaces.{is_some_text}
use Rattle.rng_types.proofs.SplitWords.{space_is_ascii}
use Rattle.rng_types.proofs.Collapsed.{is_bare}
use Rattle.rng_types.proofs.Printable.{some_cons}

-- both crates mean the same by white space
pub white_is_space : (c : ℕ) → is_white c ≡ is_space c
unfolding is_space
white_is_space c = grind (arith, nat_tests)

pub white_only_is_blank : (text : List ℕ) → is_white_only text ≡ is_blank text
white_only_is_blank [] = refl
white_only_is_blank (c ∷ cs) = rw (white_is_space c, white_only_is_blank cs) refl

-- what is left has none
bare-case : (b : Bool) (c : ℕ) (rest : List ℕ) → is_space c ≡ b → is_bare rest ≡ true → is_bare (cond (not b) (c ∷ rest) rest) ≡ true
bare-case true c rest space bare = bare
bare-case false c rest other bare = and_from _ _ (not_from_false _ other) bare

pub bare-unspaced : (text : List ℕ) → is_bare (unspaced text) ≡ true
bare-unspaced [] = refl
bare-unspaced (c ∷ cs) = rw (white_is_space c) (bare-case (is_space c) c (unspaced cs) refl (bare-unspaced cs))

blank-case : (b : Bool) (c : ℕ) (rest : List ℕ) (blank : Bool) → is_space c ≡ b → is_some_text (cond (not b) (c ∷ rest) rest) ≡ false → (is_some_text rest ≡ false → blank ≡ true) → (b && blank) ≡ true
blank-case true c rest blank space none before = before none
blank-case false c rest blank other none before = absurd (false≢true (sym none ∙ some_cons c rest))

-- where nothing is left the text is blank
pub blank-unspaced : (text : List ℕ) → is_some_text (unspaced text) ≡ false → is_blank text ≡ true
blank-unspaced [] none = refl
blank-unspaced (c ∷ cs) none = blank-case (is_space c) c (unspaced cs) (is_blank cs) refl (rw (white_is_space c) at none) (blank-unspaced cs)

-- and of a blank text nothing is
pub unspaced-blank : (text : List ℕ) → is_blank text ≡ true → unspaced text ≡ []
unspaced-blank [] blank = refl
unspaced-blank (c ∷ cs) blank =
    let parts = and_parts (is_space c) (is_blank cs) blank in
    rw (white_is_space c, parts.0) (unspaced-blank cs parts.1)

-- The characters that are left are those of the text, without white space
unspaced_none : (xs : List ℕ) → ((k : ℕ) → k < length xs → is_white (get_or xs k 0) ≡ false) → unspaced xs ≡ xs
unspaced_none [] other = refl
unspaced_none (x ∷ xs) other =
    let first : is_white x ≡ false = other 0 (omega arith) in
    rw (first, unspaced_none xs (λ k h. other (suc k) (omega (arith, h)))) refl

encode-case : (b : Bool) (c : ℕ) → is_white c ≡ b → unspaced (encode_utf8 c) ≡ (if b then [] else encode_utf8 c)
encode-case true c white = rw (encode_ascii c (space_is_ascii c (sym (white_is_space c) ∙ white))) (rw white refl)
encode-case false c other =
    unspaced_none (encode_utf8 c) (λ k h. false_from_ne_true _ (λ white.
    let small = space_is_ascii (get_or (encode_utf8 c) k 0) (sym (white_is_space (get_or (encode_utf8 c) k 0)) ∙ white) in
    let same : c ≡ get_or (encode_utf8 c) k 0 = inside_one c [] (encode_utf8 c) k (sym (append-nil (encode_utf8 c))) h small in
    false≢true (sym other ∙ ap is_white same ∙ white)))

spelled_case : (b : Bool) (c : ℕ) (rest kept : List ℕ) → unspaced (encode_utf8 c) ≡ (if b then [] else encode_utf8 c) → unspaced rest ≡ encode_utf8_all kept → unspaced (encode_utf8 c) ++ unspaced rest ≡ encode_utf8_all (cond (not b) (c ∷ kept) kept)
spelled_case true c rest kept first before = rw first before
spelled_case false c rest kept first before = rw (first, before) refl

unspaced-encodes : (cs : List ℕ) → unspaced (encode_utf8_all cs) ≡ encode_utf8_all (filter is_no_white cs)
unspaced-encodes [] = refl
unspaced-encodes (c ∷ cs) =
    filter-append is_no_white (encode_utf8 c) (encode_utf8_all cs)
    ∙ spelled_case (is_white c) c (encode_utf8_all cs) (filter is_no_white cs) (encode-case (is_white c) c refl) (unspaced-encodes cs)

all_case : (p : ℕ → Bool) (b : Bool) (c : ℕ) (kept : List ℕ) → p c ≡ true → list_all p kept ≡ true → list_all p (cond b (c ∷ kept) kept) ≡ true
all_case p true c kept first more = and_from _ _ first more
all_case p false c kept first more = more

all_kept : (p : ℕ → Bool) (cs : List ℕ) → list_all p cs ≡ true → list_all p (filter is_no_white cs) ≡ true
all_kept p [] all = refl
all_kept p (c ∷ cs) all =
    let parts = and_parts (p c) (list_all p cs) all in
    all_case p (is_no_white c) c (filter is_no_white cs) parts.0 (all_kept p cs parts.1)

scalars_case : (b : Bool) (c : ℕ) (cs kept : List ℕ) → all_scalars (c ∷ cs) ≡ true → all_scalars kept ≡ true → all_scalars (cond b (c ∷ kept) kept) ≡ true
scalars_case true c cs kept all more = and_from _ _ (and_parts _ _ all).0 more
scalars_case false c cs kept all more = more

scalars_kept : (cs : List ℕ) → all_scalars cs ≡ true → all_scalars (filter is_no_white cs) ≡ true
scalars_kept [] all = refl
scalars_kept (c ∷ cs) all = scalars_case (is_no_white c) c cs (filter is_no_white cs) all (scalars_kept cs (and_parts _ _ all).1)

pub characters-unspaced : (text : List ℕ) → is_of_chars text ≡ true → is_of_chars (unspaced text) ≡ true
characters-unspaced text of =
    let parts = and_parts (is_utf8 text) (list_all is_char (chars text)) of in
    let utf8 = IsUtf8-from_is_utf8 text parts.0 in
    let kept : List ℕ = filter is_no_white (chars text) in
    let scalars = scalars_kept (chars text) (scalars-chars text utf8) in
    let whole : unspaced text ≡ encode_utf8_all kept = ap unspaced (sym (encodes-chars text utf8)) ∙ unspaced-encodes (chars text) in
    let shown : chars (unspaced text) ≡ kept = ap chars whole ∙ chars-encodes kept scalars in
    and_from _ _ (is_utf8-from_IsUtf8 (unspaced text) (kept, (scalars, sym whole))) (ap (list_all is_char) shown ∙ all_kept is_char (chars text) parts.1)

-- byte by byte
pub unspaced_white : (c : ℕ) (kept : List ℕ) → is_space c ≡ true → kept ≡ kept ++ unspaced (c ∷ [])
unspaced_white c kept white = rw (white_is_space c, white) (sym (append-nil kept))

pub unspaced_solid : (c : ℕ) (kept : List ℕ) → is_space c ≡ false → kept ++ (c ∷ []) ≡ kept ++ unspaced (c ∷ [])
unspaced_solid c kept solid = rw (white_is_space c, solid) refl

pub unspaced_more : (bytes kept more : List ℕ) (i : ℕ) → i < length bytes → kept ≡ unspaced (take i bytes) → more ≡ kept ++ unspaced (get_or bytes i 0 ∷ []) → more ≡ unspaced (take (i + 1) bytes)
unspaced_more bytes kept more i inside before next =
    next ∙ ap (λ (t : List ℕ). t ++ unspaced (get_or bytes i 0 ∷ [])) before
    ∙ sym (filter-append is_no_white (take i bytes) (get_or bytes i 0 ∷ []))
    ∙ ap unspaced (sym (take_more bytes i 0 inside))
