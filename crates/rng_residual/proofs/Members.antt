-- By the members of types, the tests of leaves pass exactly those that take a text that isn't blank.
use Rattle.std.proofs.Common.{◌≡◌, ℕ, zero, suc, List, [], ◌∷◌, ◌++◌, Bool, true, false, not, ◌&&◌, ◌||◌, length, take, drop, filter, refl, sym, ap, subst, inl, inr, ◌⊎◌, ⊎_elim, ◌∙◌, arith, true≢false, IsUtf8}
use Rattle.std.specs.Prelude.{IsTrue, ◌+◌, ◌≤◌, Option, Some, None, is_some}
use Rattle.std.specs.List.{AllByRecursion, All, list_all, join_with_byte, prefix_len, position_or_len}
use Rattle.std.specs.Str.{is_utf8, chars, IsAscii}
use Rattle.std.proofs.lemmas.Str.{IsUtf8-take, IsUtf8-drop, IsUtf8-append, IsUtf8-from_ascii, IsUtf8-from_is_utf8, is_utf8-from_IsUtf8, chars-IsAscii}
use Rattle.std.proofs.lemmas.Bool.{cases_eq, not-true}
use Rattle.std.proofs.lemmas.List.Splits.{slice_split_none, slice_split_at}
use Rattle.std.proofs.lemmas.List.Sums.{AllPass-from_list_all}
use Rattle.std.proofs.lemmas.List.Folds.{list_all-append}
use Rattle.nx_base.specs.Characters.{is_blank, is_of_chars, is_char, is_space}
use Rattle.nx_base.specs.Trees.{Children, nil, string, element, strings}
use Rattle.rng_types.specs.Spaces.{words, collapsed, is_some_text}
use Rattle.rng_types.specs.Types.{Accepts}
use Rattle.rng_types.specs.declared.datatype.Datatype.{Datatype}
use Rattle.rng_types.specs.declared.datatype.Except.{Except}
use Rattle.rng_types.specs.declared.datatype.Except.TheVariants.{BuiltinToken}
use Rattle.rng_types.proofs.Blank.{blank_alike}
use Rattle.rng_types.proofs.Collapsed.{is_bare, IsBareWord, words-are_bare, words-from_collapsed, words-blank, blank-no_words}
use Rattle.rng_types.proofs.SplitWords.{words-found, no_words, utf8-leading, cut_before_space}
use Rattle.rng_types.proofs.Spaced.{chars-spaced}
use Rattle.rng_core.specs.Patterns.{Pattern, Definition, typed, literal, listed, one_or_more, choice, group, interleave}
use Rattle.rng_core.specs.Soundness.{IsSoundPattern, sound_not_allowed, sound_empty, sound_text, sound_data, sound_value, sound_list, sound_attribute, sound_ref, sound_one_or_more, sound_choice, sound_group, sound_interleave}
use Rattle.rng_core.specs.Matching.{no_attribute, InOrder, then_second, string_of_first, element_of_first, Shuffle, no_child, string_to_first, string_to_second, element_to_first, element_to_second, no_string, one_string, Matches, by_empty, by_text, by_data, by_value, by_list, by_first, by_second, by_group, by_interleave, by_one, by_more, by_element}
use Rattle.rng_kept.specs.Nullable.{nullable}
use Rattle.rng_kept.specs.Lists.{has_no_list}
use Rattle.rng_kept.specs.Clean.{TakesString}
use Rattle.rng_residual.proofs.SmallPatterns.{and_true, or_true, shuffle_none}
use Rattle.rng_residual.proofs.Nullable.{nullable_in, nullable_out, true_and, true_or_left, true_or_right}
use Rattle.rng_types.specs.Answers.{is_accepted}
use Rattle.rng_residual.specs.Solid.{IsSoundLeaf, TestsIn, TestsSolid, TestsAreSolid}
use Rattle.rng_kept.specs.SolidStrings.{has_words, solid_tests}
use Rattle.rng_types.proofs.Deciding.{accepts_decided}
use Rattle.rng_residual.proofs.Cleaning.{sound_value_is}
use Rattle.rng_residual.proofs.AnyMoves.{a_solid_text}
use Rattle.rng_types.specs.WellMade.{is_well_made}
use Rattle.rng_types.specs.Members.{is_one_token, IsMember, HasMember}
use Rattle.rng_types.specs.MemberTest.{has_member}
use Rattle.rng_types.proofs.Exist.{members_exist, texts_give_members}
use Rattle.rng_types.specs.OneToken.{IsOneTokenOf, IsOneTokenAnswer, one_token_of}
use Rattle.rng_types.proofs.Token.{one_tokens_exist}

-- ---- which children are tokens

data AreTokens : Children → Type 0 where
  no_tokens : AreTokens nil
  one_token : {t : List ℕ} {r : Children} → is_one_token t ≡ true → IsTrue (is_utf8 t) → AreTokens r → AreTokens (string t r)

order_first : {c x y : Children} → InOrder c x y → AreTokens c → AreTokens x
order_first then_second a = no_tokens
order_first (string_of_first o) (one_token t u a) = one_token t u (order_first o a)
order_first (element_of_first o) a = elim a [ ]

order_second : {c x y : Children} → InOrder c x y → AreTokens c → AreTokens y
order_second then_second a = a
order_second (string_of_first o) (one_token t u a) = order_second o a
order_second (element_of_first o) a = elim a [ ]

shuffle_first : {c x y : Children} → Shuffle c x y → AreTokens c → AreTokens x
shuffle_first no_child a = no_tokens
shuffle_first (string_to_first o) (one_token t u a) = one_token t u (shuffle_first o a)
shuffle_first (string_to_second o) (one_token t u a) = shuffle_first o a
shuffle_first (element_to_first o) a = elim a [ ]
shuffle_first (element_to_second o) a = elim a [ ]

shuffle_second : {c x y : Children} → Shuffle c x y → AreTokens c → AreTokens y
shuffle_second no_child a = no_tokens
shuffle_second (string_to_first o) (one_token t u a) = shuffle_second o a
shuffle_second (string_to_second o) (one_token t u a) = one_token t u (shuffle_second o a)
shuffle_second (element_to_first o) a = elim a [ ]
shuffle_second (element_to_second o) a = elim a [ ]

order_nothing : {c x y : Children} → InOrder c x y → x ≡ nil → y ≡ nil → c ≡ nil
order_nothing then_second e f = f
order_nothing (string_of_first o) e f = cc
order_nothing (element_of_first o) e f = cc

shuffle_nothing : {c x y : Children} → Shuffle c x y → x ≡ nil → y ≡ nil → c ≡ nil
shuffle_nothing no_child e f = refl
shuffle_nothing (string_to_first o) e f = cc
shuffle_nothing (string_to_second o) e f = cc
shuffle_nothing (element_to_first o) e f = cc
shuffle_nothing (element_to_second o) e f = cc

none_or_some : (c : Children) → (c ≡ nil) ⊎ (c ≡ nil → ⊥)
none_or_some nil = inl refl
none_or_some (string t r) = inr (λ e. cc)
none_or_some (element n a k r) = inr (λ e. cc)

-- two patterns in a row, of which one takes something
two_parts : (a b m n : Bool) → (a ≡ true) ⊎ (m ≡ true) → (b ≡ true) ⊎ (n ≡ true) → ((m ≡ true) → (n ≡ true) → (a ≡ true) ⊎ (b ≡ true)) → ((a && (b || n)) || (m && b)) ≡ true
two_parts true true m n h k some = refl
two_parts true false m true h k some = refl
two_parts true false m false h k some = ⊎_elim (λ e. cc) (λ e. cc) k
two_parts false true true n h k some = refl
two_parts false true false n h k some = ⊎_elim (λ e. cc) (λ e. cc) h
two_parts false false true true h k some = ⊎_elim (λ e. cc) (λ e. cc) (some refl refl)
two_parts false false true false h k some = ⊎_elim (λ e. cc) (λ e. cc) k
two_parts false false false n h k some = ⊎_elim (λ e. cc) (λ e. cc) h

part_of : {g : List Definition} {p : Pattern} {c : Children} {b : Bool} → Matches g p [] c → ((c ≡ nil → ⊥) → b ≡ true) → (b ≡ true) ⊎ (nullable p ≡ true)
part_of {g = g} {p = p} {c = c} m f = ⊎_elim (λ e. inr (nullable_in (subst (λ x. Matches g p [] x) e m))) (λ e. inl (f e)) (none_or_some c)

-- ---- what soundness says of leaves

list_sound : {count : ℕ} {p : Pattern} → IsSoundPattern count (listed p) → IsSoundPattern count p
list_sound (sound_list s) = s

data_sound : {count : ℕ} {type : Datatype} {excepts : List Except} → IsSoundPattern count (typed type excepts) → IsTrue (is_well_made type) × (length excepts ≤ 128)
data_sound (sound_data made few each) = (made, few)

choice_sound : {count : ℕ} {p q : Pattern} → IsSoundPattern count (choice p q) → IsSoundPattern count p × IsSoundPattern count q
choice_sound (sound_choice s r) = (s, r)

group_sound : {count : ℕ} {p q : Pattern} → IsSoundPattern count (group p q) → IsSoundPattern count p × IsSoundPattern count q
group_sound (sound_group s r) = (s, r)

interleave_sound : {count : ℕ} {p q : Pattern} → IsSoundPattern count (interleave p q) → IsSoundPattern count p × IsSoundPattern count q
interleave_sound (sound_interleave s r) = (s, r)

more_sound : {count : ℕ} {p : Pattern} → IsSoundPattern count (one_or_more p) → IsSoundPattern count p
more_sound (sound_one_or_more s) = s

-- ---- what is known of types

-- the answer whether a value has a text of one token
token_told : {type : Datatype} {wanted : List ℕ} (o : Option (List ℕ)) → IsOneTokenAnswer type wanted o → (t : List ℕ) → IsTrue (is_utf8 t) → IsOneTokenOf type wanted t → is_some o ≡ true
token_told None a t u is = absurd (a t u is)
token_told (Some text) a t u is = refl

record TokenText (type : Datatype) (wanted : List ℕ) : Type 0 where
  text : List ℕ
  of_chars : IsTrue (is_of_chars text)
  is : IsOneTokenOf type wanted text

token_given : {type : Datatype} {wanted : List ℕ} (o : Option (List ℕ)) → IsOneTokenAnswer type wanted o → is_some o ≡ true → TokenText type wanted
token_given None a h = cc
token_given (Some text) a h = record { text = text; of_chars = a.0; is = a.1 }

-- the test whether there is a member finds each text, and gives one of characters that XML allows
member_in : {count : ℕ} (type : Datatype) (excepts more : List Except) (one : Bool) (text : List ℕ) → IsSoundPattern count (typed type excepts) → length more ≤ length excepts + 1 →
    IsTrue (is_utf8 text) → IsMember type more one text → has_member type more one ≡ true
member_in type excepts more one text s l u is =
    let made = data_sound s in
    let most : length more ≤ 129 = omega (arith, made.1, l) in
    (members_exist type more one made.0 most).1 (texts_give_members type more one text made.0 most u is)

member_out : {count : ℕ} (type : Datatype) (excepts more : List Except) (one : Bool) → IsSoundPattern count (typed type excepts) → length more ≤ length excepts + 1 →
    has_member type more one ≡ true → HasMember type more one
member_out type excepts more one s l h =
    let made = data_sound s in
    let most : length more ≤ 129 = omega (arith, made.1, l) in
    (members_exist type more one made.0 most).0 h

-- ---- words that are matched are found

module _ {g : List Definition} where
  words_found_in : {count : ℕ} {p : Pattern} {c : Children} → IsSoundPattern count p → has_no_list p ≡ true → AreTokens c → (c ≡ nil → ⊥) → Matches g p [] c → has_words p ≡ true
  words_found_in z f a some by_empty = absurd (some refl)
  words_found_in z f a some (by_text s) = refl
  words_found_in z f (one_token {t = t} k u a) some (by_data {type = type} {excepts = es} b d) = member_in type es es true t z (omega arith) u (record { accepted = b; left = d; token = λ _. k })
  words_found_in z f (one_token {t = t} k u a) some (by_value {type = type} {wanted = w} b d) = let v = sound_value_is z in token_told (one_token_of type w) (one_tokens_exist type w v.0 v.1) t u (record { token = k; accepted = b; same = d })
  words_found_in z f a some (by_list m) = cc
  words_found_in z f a some (by_first {p = p} {q = q} m) = true_or_left (has_words p) (has_words q) (words_found_in (choice_sound z).0 (and_true _ _ f).0 a some m)
  words_found_in z f a some (by_second {p = p} {q = q} m) = true_or_right (has_words p) (has_words q) (words_found_in (choice_sound z).1 (and_true _ _ f).1 a some m)
  words_found_in {c = c} z f a some (by_group {p = p} {q = q} {c1 = c1} {c2 = c2} no_attribute o m n) =
      let left = part_of m (λ e. words_found_in (group_sound z).0 (and_true _ _ f).0 (order_first o a) e m) in
      let right = part_of n (λ e. words_found_in (group_sound z).1 (and_true _ _ f).1 (order_second o a) e n) in
      two_parts (has_words p) (has_words q) (nullable p) (nullable q) left right
      (λ _ _. ⊎_elim
      (λ e. ⊎_elim (λ d. absurd (some (order_nothing o e d))) (λ d. inr (words_found_in (group_sound z).1 (and_true _ _ f).1 (order_second o a) d n)) (none_or_some c2))
      (λ e. inl (words_found_in (group_sound z).0 (and_true _ _ f).0 (order_first o a) e m))
      (none_or_some c1))
  words_found_in {c = c} z f a some (by_interleave {p = p} {q = q} {c1 = c1} {c2 = c2} no_attribute o m n) =
      let left = part_of m (λ e. words_found_in (interleave_sound z).0 (and_true _ _ f).0 (shuffle_first o a) e m) in
      let right = part_of n (λ e. words_found_in (interleave_sound z).1 (and_true _ _ f).1 (shuffle_second o a) e n) in
      two_parts (has_words p) (has_words q) (nullable p) (nullable q) left right
      (λ _ _. ⊎_elim
      (λ e. ⊎_elim (λ d. absurd (some (shuffle_nothing o e d))) (λ d. inr (words_found_in (interleave_sound z).1 (and_true _ _ f).1 (shuffle_second o a) d n)) (none_or_some c2))
      (λ e. inl (words_found_in (interleave_sound z).0 (and_true _ _ f).0 (shuffle_first o a) e m))
      (none_or_some c1))
  words_found_in z f a some (by_one m) = words_found_in (more_sound z) f a some m
  words_found_in z f a some (by_more {p = p} {c1 = c1} {c2 = c2} no_attribute o m n) =
      ⊎_elim
      (λ e. ⊎_elim (λ d. absurd (some (order_nothing o e d))) (λ d. words_found_in z f (order_second o a) d n) (none_or_some c2))
      (λ e. words_found_in (more_sound z) f (order_first o a) e m)
      (none_or_some c1)
  words_found_in z f a some (by_element e h w m) = elim a [ ]

-- ---- the words of a text

bare_word : (word : List ℕ) → is_one_token word ≡ true → IsBareWord word
bare_word word t = let w = and_true (is_some_text word) (is_bare word) t in record { some = w.0; bare = w.1 }

words_text : (ws : List (List ℕ)) (text : List ℕ) → words text ≡ ws → IsUtf8 text → AllByRecursion (λ w. IsUtf8 w) ws
words_text [] text e u = tt
words_text (w ∷ more) text e u =
    let rest : List ℕ = drop (prefix_len is_space text) text in
    let k : ℕ = position_or_len is_space rest in
    ⊎_elim
    (λ blank. absurd (let none : w ∷ more ≡ [] = sym e ∙ no_words text blank in cc))
    (λ some.
    let found : words text ≡ take k rest ∷ words (drop k rest) = words-found text rest refl some in
    let same : w ≡ take k rest = cc in
    let behind : words (drop k rest) ≡ more = cc in
    let v : IsUtf8 rest = utf8-leading text u in
    (subst (λ x. IsUtf8 x) (sym same) (IsUtf8-take rest k v (cut_before_space rest)), words_text more (drop k rest) behind (IsUtf8-drop rest k v (cut_before_space rest))))
    (cases_eq (prefix_len is_space text) (length text))

bare_each : (word : List ℕ) → is_bare word ≡ true → All (λ c. is_space c ≡ false) word
bare_each word bare k d h = not-true _ (AllPass-from_list_all (λ c. not (is_space c)) word bare k d h)

word_alone : (word : List ℕ) → IsBareWord word → words word ≡ word ∷ []
word_alone word is = ap (filter is_some_text) (slice_split_none is_space word (bare_each word is.bare)) ∙ rw is.some refl

tokens_of : (ws : List (List ℕ)) → AllByRecursion IsBareWord ws → AllByRecursion (λ w. IsUtf8 w) ws → AreTokens (strings ws)
tokens_of [] b u = no_tokens
tokens_of (w ∷ ws) b u = one_token (true_and (is_some_text w) (is_bare w) b.0.some b.0.bare) (is_utf8-from_IsUtf8 w u.0) (tokens_of ws b.1 u.1)

-- ---- words put together

-- a token of characters that XML allows
record IsGoodWord (word : List ℕ) : Type 0 where
  token : is_one_token word ≡ true
  of_chars : IsTrue (is_of_chars word)

space_is_space : is_space 32 ≡ true
unfolding is_space
space_is_space = refl

space_is_char : is_char 32 ≡ true
unfolding is_char
space_is_char = refl

word_first : (word rest : List ℕ) → IsBareWord word → words (word ++ 32 ∷ rest) ≡ word ∷ words rest
word_first word rest is = ap (filter is_some_text) (slice_split_at is_space word 32 rest (bare_each word is.bare) space_is_space) ∙ rw is.some refl

words_joined : (ws : List (List ℕ)) → AllByRecursion IsGoodWord ws → words (join_with_byte 32 ws) ≡ ws
words_joined [] all = refl
words_joined (x ∷ []) all = word_alone x (bare_word x all.0.token)
words_joined (x ∷ y ∷ more) all = word_first x (join_with_byte 32 (y ∷ more)) (bare_word x all.0.token) ∙ ap (λ (ws : List (List ℕ)). x ∷ ws) (words_joined (y ∷ more) all.1)

space_ascii : IsAscii (32 ∷ [])
space_ascii zero = omega arith
space_ascii (suc i) = omega arith

utf8_of : (word : List ℕ) → IsTrue (is_of_chars word) → IsUtf8 word
utf8_of word c = IsUtf8-from_is_utf8 word (and_true _ _ c).0

spaced : (word rest : List ℕ) → IsTrue (is_of_chars word) → IsTrue (is_of_chars rest) → IsTrue (is_of_chars (word ++ 32 ∷ rest))
spaced word rest c d =
    let u = utf8_of word c in
    let v = utf8_of rest d in
    let whole : IsUtf8 (word ++ 32 ∷ rest) = IsUtf8-append word (32 ∷ rest) u (IsUtf8-append (32 ∷ []) rest (IsUtf8-from_ascii (32 ∷ []) space_ascii) v) in
    let all : list_all is_char (chars word ++ 32 ∷ chars rest) ≡ true =
    list_all-append is_char (chars word) (32 ∷ chars rest) ∙ true_and _ _ (and_true _ _ c).1 (true_and _ _ space_is_char (and_true _ _ d).1) in
    true_and _ _ (is_utf8-from_IsUtf8 (word ++ 32 ∷ rest) whole) (ap (list_all is_char) (chars-spaced word rest u) ∙ all)

nothing_of_chars : IsTrue (is_of_chars [])
nothing_of_chars = let u : IsUtf8 [] = IsUtf8-from_ascii [] none in true_and _ _ (is_utf8-from_IsUtf8 [] u) (rw (chars-IsAscii [] none) refl)
  where
    none : IsAscii []
    none i = omega arith

joined_of_chars : (ws : List (List ℕ)) → AllByRecursion IsGoodWord ws → IsTrue (is_of_chars (join_with_byte 32 ws))
joined_of_chars [] all = nothing_of_chars
joined_of_chars (x ∷ []) all = all.0.of_chars
joined_of_chars (x ∷ y ∷ more) all = spaced x (join_with_byte 32 (y ∷ more)) all.0.of_chars (joined_of_chars (y ∷ more) all.1)

-- ---- some words

record SomeWords (g : List Definition) (p : Pattern) : Type 0 where
  words : List (List ℕ)
  good : AllByRecursion IsGoodWord words
  some : words ≡ [] → ⊥
  matched : Matches g p [] (strings words)

one_word : {g : List Definition} {p : Pattern} (t : List ℕ) → is_one_token t ≡ true → IsTrue (is_of_chars t) → Matches g p [] (string t nil) → SomeWords g p
one_word t k c m = record { words = t ∷ []; good = (record { token = k; of_chars = c }, tt); some = λ e. cc; matched = m }

all_good : (a b : List (List ℕ)) → AllByRecursion IsGoodWord a → AllByRecursion IsGoodWord b → AllByRecursion IsGoodWord (a ++ b)
all_good [] b h k = k
all_good (x ∷ a) b h k = (h.0, all_good a b h.1 k)

strings_order : (a b : List (List ℕ)) → InOrder (strings (a ++ b)) (strings a) (strings b)
strings_order [] b = then_second
strings_order (x ∷ a) b = string_of_first (strings_order a b)

strings_shuffle : (a b : List (List ℕ)) → Shuffle (strings (a ++ b)) (strings a) (strings b)
strings_shuffle [] b = shuffle_none (strings b)
strings_shuffle (x ∷ a) b = string_to_first (strings_shuffle a b)

some_append : (a b : List (List ℕ)) → (a ≡ [] → ⊥) → a ++ b ≡ [] → ⊥
some_append [] b f e = f refl
some_append (x ∷ a) b f e = cc

-- words, or none
record Words (g : List Definition) (p : Pattern) : Type 0 where
  words : List (List ℕ)
  good : AllByRecursion IsGoodWord words
  matched : Matches g p [] (strings words)

words_of : {g : List Definition} {p : Pattern} → SomeWords g p → Words g p
words_of w = record { words = w.words; good = w.good; matched = w.matched }

no_words_of : {g : List Definition} {p : Pattern} → nullable p ≡ true → Words g p
no_words_of {p = p} h = record { words = []; good = tt; matched = nullable_out p h }

grouped : {g : List Definition} {p q : Pattern} → SomeWords g p → Words g q → SomeWords g (group p q)
grouped w v = record { words = w.words ++ v.words; good = all_good w.words v.words w.good v.good; some = some_append w.words v.words w.some; matched = by_group no_attribute (strings_order w.words v.words) w.matched v.matched }

behind_none : {g : List Definition} {p q : Pattern} → nullable p ≡ true → SomeWords g q → SomeWords g (group p q)
behind_none {p = p} h w = record { words = w.words; good = w.good; some = w.some; matched = by_group no_attribute then_second (nullable_out p h) w.matched }

interleaved : {g : List Definition} {p q : Pattern} → SomeWords g p → Words g q → SomeWords g (interleave p q)
interleaved w v = record { words = w.words ++ v.words; good = all_good w.words v.words w.good v.good; some = some_append w.words v.words w.some; matched = by_interleave no_attribute (strings_shuffle w.words v.words) w.matched v.matched }

beside_none : {g : List Definition} {p q : Pattern} → nullable p ≡ true → SomeWords g q → SomeWords g (interleave p q)
beside_none {p = p} h w = record { words = w.words; good = w.good; some = w.some; matched = by_interleave no_attribute (shuffle_none (strings w.words)) (nullable_out p h) w.matched }

not_blank_of : (t : List ℕ) → (words t ≡ [] → ⊥) → is_blank t ≡ false
not_blank_of t f = go (is_blank t) refl
  where
    go : (b : Bool) → is_blank t ≡ b → is_blank t ≡ false
    go true e = absurd (f (words-blank t e))
    go false e = e

not_nothing : (t : List ℕ) → is_blank t ≡ false → collapsed t ≡ collapsed [] → ⊥
not_nothing t b e = true≢false (sym (blank-no_words t (words-from_collapsed t [] e)) ∙ b)

pass_not : (x : Bool) → (x ≡ true → ⊥) → not x ≡ true
pass_not true f = absurd (f refl)
pass_not false f = refl

value_found : (type : Datatype) (v : List ℕ) → Accepts type v → not (is_blank v && is_accepted type v) ≡ true → is_blank v ≡ false
value_found type v a h = go (is_blank v) refl
  where
    go : (b : Bool) → is_blank v ≡ b → is_blank v ≡ false
    go true e = absurd (let both : (is_blank v && is_accepted type v) ≡ true = true_and _ _ e ((accepts_decided type v).1 a) in let no : not true ≡ true = subst (λ x. not x ≡ true) both h in cc)
    go false e = e

letter_bare : is_bare (120 ∷ []) ≡ true
unfolding is_space
letter_bare = refl

module _ {g : List Definition} where
  words_found_out : {count : ℕ} {p : Pattern} → IsSoundPattern count p → has_words p ≡ true → SomeWords g p
  words_found_out sound_text h = one_word (120 ∷ []) (true_and (is_some_text (120 ∷ [])) (is_bare (120 ∷ [])) refl letter_bare) a_solid_text.0 (by_text (one_string no_string))
  words_found_out {count = n} (sound_data {type = t} {excepts = e} made l s) h =
      let w = member_out {count = n} t e e true (sound_data made l s) (omega arith) h in
      one_word w.text (w.member.token refl) w.characters (by_data w.member.accepted w.member.left)
  words_found_out (sound_value {type = t} {text = v} made a c) h =
      let w = token_given (one_token_of t v) (one_tokens_exist t v a c) h in
      one_word w.text w.is.token w.of_chars (by_value w.is.accepted w.is.same)
  words_found_out (sound_one_or_more s) h = let w = words_found_out s h in record { words = w.words; good = w.good; some = w.some; matched = by_one w.matched }
  words_found_out (sound_choice {p = p} {q = q} s r) h =
      ⊎_elim
      (λ e. let w = words_found_out s e in record { words = w.words; good = w.good; some = w.some; matched = by_first w.matched })
      (λ e. let w = words_found_out r e in record { words = w.words; good = w.good; some = w.some; matched = by_second w.matched })
      (or_true (has_words p) (has_words q) h)
  words_found_out (sound_group {p = p} {q = q} s r) h =
      ⊎_elim
      (λ e.
      let d = and_true (has_words p) (has_words q || nullable q) e in
      grouped (words_found_out s d.0) (⊎_elim (λ i. words_of (words_found_out r i)) (λ i. no_words_of i) (or_true (has_words q) (nullable q) d.1)))
      (λ e. let d = and_true (nullable p) (has_words q) e in behind_none d.0 (words_found_out r d.1))
      (or_true (has_words p && (has_words q || nullable q)) (nullable p && has_words q) h)
  words_found_out (sound_interleave {p = p} {q = q} s r) h =
      ⊎_elim
      (λ e.
      let d = and_true (has_words p) (has_words q || nullable q) e in
      interleaved (words_found_out s d.0) (⊎_elim (λ i. words_of (words_found_out r i)) (λ i. no_words_of i) (or_true (has_words q) (nullable q) d.1)))
      (λ e. let d = and_true (nullable p) (has_words q) e in beside_none d.0 (words_found_out r d.1))
      (or_true (has_words p && (has_words q || nullable q)) (nullable p && has_words q) h)
  words_found_out sound_not_allowed h = cc
  words_found_out sound_empty h = cc
  words_found_out (sound_list s) h = cc
  words_found_out (sound_attribute c s) h = cc
  words_found_out (sound_ref l) h = cc

  -- ---- the tests

  list_passes : {count : ℕ} (t : List ℕ) (p : Pattern) → IsSoundPattern count p → IsTrue (is_utf8 t) → is_blank t ≡ false → has_no_list p ≡ true → Matches g p [] (strings (words t)) → has_words p ≡ true
  list_passes t p z u b f m =
      words_found_in z f (tokens_of (words t) (words-are_bare t) (words_text (words t) t refl (IsUtf8-from_is_utf8 t u))) (λ e. some (words t) refl e) m
    where
      some : (ws : List (List ℕ)) → words t ≡ ws → strings ws ≡ nil → ⊥
      some [] i e = true≢false (sym (blank-no_words t i) ∙ b)
      some (w ∷ ws) i e = cc

  passes_all : (t : List ℕ) → IsTrue (is_utf8 t) → is_blank t ≡ false → TestsIn g IsSoundLeaf solid_tests t
  passes_all t u b = record { data_in = λ type es z m. of_data z.sound m; value_in = λ type v z m. of_value m; list_in = λ p z m. of_list z.sound z.flat m }
    where
      of_data : {count : ℕ} {type : Datatype} {es : List Except} → IsSoundPattern count (typed type es) → Matches g (typed type es) [] (string t nil) → has_member type (BuiltinToken [] ∷ es) false ≡ true
      of_data z (by_data {type = type} {excepts = es} a d) =
          member_in type es (BuiltinToken [] ∷ es) false t z (omega arith) u
          (record { accepted = a; left = (not_nothing t b, d); token = λ e. absurd (true≢false (sym e)) })

      of_value : {type : Datatype} {v : List ℕ} → Matches g (literal type v) [] (string t nil) → not (is_blank v && is_accepted type v) ≡ true
      of_value (by_value {type = type} {wanted = v} a same) =
          pass_not (is_blank v && is_accepted type v)
          (λ h.
          let e = and_true (is_blank v) (is_accepted type v) h in
          true≢false (sym e.0 ∙ sym (blank_alike type t v a ((accepts_decided type v).0 e.1) same) ∙ b))

      of_list : {count : ℕ} {p : Pattern} → IsSoundPattern count (listed p) → has_no_list p ≡ true → Matches g (listed p) [] (string t nil) → has_words p ≡ true
      of_list z f (by_list {p = p} m) = list_passes t p (list_sound z) u b f m

  solid_string : {p : Pattern} (t : List ℕ) → IsTrue (is_of_chars t) → is_blank t ≡ false → Matches g p [] (string t nil) → TakesString g false p
  solid_string t c b m = record { text = t; of_chars = c; kind = rw b refl; matched = m }

  data_found : (count : ℕ) (type : Datatype) (es : List Except) → IsSoundPattern count (typed type es) → has_member type (BuiltinToken [] ∷ es) false ≡ true → TakesString g false (typed type es)
  data_found count type es z h =
      let w = member_out type es (BuiltinToken [] ∷ es) false z (omega arith) h in
      solid_string w.text w.characters (not_blank_of w.text (λ e. w.member.left.0 (ap (join_with_byte 32) e))) (by_data w.member.accepted w.member.left.1)

  list_found : (count : ℕ) (p : Pattern) → IsSoundPattern count p → has_no_list p ≡ true → has_words p ≡ true → TakesString g false (listed p)
  list_found count p s f h =
      let w = words_found_out s h in
      let t = join_with_byte 32 w.words in
      let e = words_joined w.words w.good in
      solid_string t (joined_of_chars w.words w.good) (not_blank_of t (λ none. w.some (sym e ∙ none))) (by_list (subst (λ ws. Matches g p [] (strings ws)) (sym e) w.matched))

  pub solid : TestsSolid g
  solid = record {
    all = record { passes = λ t u b. passes_all t u b };
    none_else = record { data_out = λ count type es z h. data_found count type es z h; value_out = λ count type v z h. value_found type v (sound_value_is z).0 h; list_out = λ count p s f h. list_found count p s f h };
  }

pub tests_are_solid : TestsAreSolid
tests_are_solid g = solid
