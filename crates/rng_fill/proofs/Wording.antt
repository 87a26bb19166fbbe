-- Words that the body of a list matches, and the string that they make.
use Rattle.std.proofs.Common.{◌≡◌, ℕ, List, [], ◌∷◌, ◌++◌, Bool, true, false, ◌&&◌, ◌||◌, length, take, refl, sym, ap, subst, ◌∙◌, IsUtf8}
use Rattle.std.proofs.Common.{append_assoc, append-nil, arith}
use Rattle.std.specs.Prelude.{IsTrue, Option, None, Some, is_some, replicate, if◌then◌else◌}
use Rattle.std.specs.List.{AllByRecursion, list_all, join_with_byte, flat_map}
use Rattle.std.specs.Str.{chars, IsAscii}
use Rattle.std.proofs.Math.Seq.{take-append_seam}
use Rattle.std.proofs.lemmas.Bool.{and_parts, and_from, false≢true, false_from_ne_true}
use Rattle.std.proofs.lemmas.List.Folds.{list_all-append}
use Rattle.std.proofs.lemmas.Str.{IsUtf8-append, IsUtf8-from_ascii, IsUtf8-from_is_utf8, is_utf8-from_IsUtf8}
use Rattle.std.proofs.lemmas.Str.Ascii.{IsAscii-nil, IsAscii-cons}
use Rattle.nx_base.specs.Characters.{is_blank, is_of_chars, is_char, is_space}
use Rattle.nx_base.specs.Trees.{nil, string, strings}
use Rattle.rng_types.specs.Spaces.{words, is_some_text}
use Rattle.rng_types.specs.Giving.{IsMemberAnswer}
use Rattle.rng_types.specs.MemberTest.{has_member}
use Rattle.rng_types.specs.Members.{is_one_token}
use Rattle.rng_types.specs.OneToken.{IsOneTokenAnswer, one_token_of}
use Rattle.rng_types.specs.declared.datatype.Datatype.{Datatype}
use Rattle.rng_types.specs.declared.datatype.Except.{Except}
use Rattle.rng_types.proofs.Collapsed.{is_bare, IsBareWord, words-joined, words-blank}
use Rattle.rng_types.proofs.Deciding.{accepts_decided}
use Rattle.rng_types.proofs.Exist.{members_exist}
use Rattle.rng_types.proofs.Spaced.{chars-spaced}
use Rattle.rng_types.proofs.Token.{one_tokens_exist}
use Rattle.rng_core.specs.Patterns.{Pattern, Definition, any_text, typed, literal, listed, one_or_more, choice, group, interleave}
use Rattle.rng_core.specs.Matching.{no_attribute, InOrder, then_second, string_of_first, Shuffle, string_to_first, no_string, one_string}
use Rattle.rng_core.specs.Matching.{Matches, by_first, by_second, by_group, by_interleave, by_one, by_text, by_data, by_value, by_list}
use Rattle.rng_kept.specs.Nullable.{nullable}
use Rattle.rng_kept.specs.SolidStrings.{has_words}
use Rattle.rng_residual.proofs.SmallPatterns.{order_all, shuffle_all, shuffle_none}
use Rattle.rng_residual.proofs.Nullable.{nullable_out}
use Rattle.rng_fill.specs.declared.words.Takes.{Takes}
use Rattle.rng_fill.specs.Strings.{AreSoundTexts, IsStringAnswer}
use Rattle.rng_fill.specs.WordLists.{IsWord, AddsWords, AddsIf, AddsBy, IsAddedWord}
use Rattle.rng_fill.proofs.Letters.{letters_are_of_chars}

-- ---- words in a row

all_good : (a b : List (List ℕ)) → AllByRecursion IsWord a → AllByRecursion IsWord b → AllByRecursion IsWord (a ++ b)
all_good [] b h k = k
all_good (x ∷ a) b h k = (h.0, all_good a b h.1 k)

strings_order : (a b : List (List ℕ)) → InOrder (strings (a ++ b)) (strings a) (strings b)
strings_order [] b = then_second
strings_order (x ∷ a) b = string_of_first (strings_order a b)

strings_shuffle : (a b : List (List ℕ)) → Shuffle (strings (a ++ b)) (strings a) (strings b)
strings_shuffle [] b = shuffle_none (strings b)
strings_shuffle (x ∷ a) b = string_to_first (strings_shuffle a b)

some_append : (a b : List (List ℕ)) → (a ≡ [] → ⊥) → a ++ b ≡ [] → ⊥
some_append [] b f e = f refl
some_append (x ∷ a) b f e = cc

adds_if : (b : Bool) (p : Pattern) (old new : List (List ℕ)) → b ≡ true → AddsWords p old new → AddsIf b p old new
adds_if true p old new is w = w
adds_if false p old new is w = absurd (false≢true is)

adds_not : (b : Bool) (p : Pattern) (old new : List (List ℕ)) → b ≡ false → new ≡ old → AddsIf b p old new
adds_not true p old new is same = absurd (false≢true (sym is))
adds_not false p old new is same = same

adds_one : (p : Pattern) (old : List (List ℕ)) (word : List ℕ) → is_one_token word ≡ true → IsTrue (is_of_chars word)
    → ((g : List Definition) → Matches g p [] (string word nil)) → AddsWords p old (old ++ word ∷ [])
adds_one p old word token of m = record {
  words = word ∷ [];
  good = (record { token = token; of_chars = of }, tt);
  some = λ e. cc;
  matched = m;
  is = refl;
}

-- ---- leaves

letter_token : is_one_token (97 ∷ []) ≡ true
unfolding is_space
letter_token = refl

pub letter_adds : (old new : List (List ℕ)) (takes : Takes) → new ≡ old ++ replicate 1 97 ∷ [] → takes.nothing ≡ true → takes.words ≡ true
    → AddsBy any_text old new takes
letter_adds old new takes is nothing some = record {
  nothing = nothing;
  words = some;
  adds = adds_if takes.words any_text old new some
      (subst (λ (x : List (List ℕ)). AddsWords any_text old x) (sym is)
      (adds_one any_text old (97 ∷ []) letter_token (letters_are_of_chars 1) (λ g. by_text (one_string no_string))));
}

pub member_adds : (type : Datatype) (excepts : List Except) (old new : List (List ℕ)) (found : Option (List ℕ)) (some : Bool) (takes : Takes)
    → AreSoundTexts (typed type excepts) → IsMemberAnswer type excepts true found → IsAddedWord found some old new
    → takes.nothing ≡ false → takes.words ≡ some → AddsBy (typed type excepts) old new takes
member_adds type excepts old new None some takes sound none added nothing is = record {
  nothing = nothing;
  words =
      is ∙ added.0
      ∙ sym (false_from_ne_true (has_member type excepts true) (λ h. none ((members_exist type excepts true sound.1 (omega (arith, sound.0))).0 h)));
  adds = adds_not takes.words (typed type excepts) old new (is ∙ added.0) added.1;
}
member_adds type excepts old new (Some text) some takes sound member added nothing is = record {
  nothing = nothing;
  words =
      is ∙ added.0
      ∙ sym ((members_exist type excepts true sound.1 (omega (arith, sound.0))).1 (record { text = text; characters = member.0; member = member.1 }));
  adds = adds_if takes.words (typed type excepts) old new (is ∙ added.0)
      (subst (λ (x : List (List ℕ)). AddsWords (typed type excepts) old x) (sym added.1)
      (adds_one (typed type excepts) old text (member.1.token refl) member.0 (λ g. by_data member.1.accepted member.1.left)));
}

pub literal_adds : (type : Datatype) (wanted : List ℕ) (old new : List (List ℕ)) (found : Option (List ℕ)) (some : Bool) (takes : Takes)
    → AreSoundTexts (literal type wanted) → found ≡ one_token_of type wanted → IsAddedWord found some old new
    → takes.nothing ≡ false → takes.words ≡ some → AddsBy (literal type wanted) old new takes
literal_adds type wanted old new found some takes sound told added nothing is =
    go found told (subst (λ (o : Option (List ℕ)). IsOneTokenAnswer type wanted o) (sym told)
    (one_tokens_exist type wanted ((accepts_decided type wanted).0 sound.0) sound.1)) added
  where
    go : (o : Option (List ℕ)) → o ≡ one_token_of type wanted → IsOneTokenAnswer type wanted o → IsAddedWord o some old new
        → AddsBy (literal type wanted) old new takes
    go None told none added = record {
      nothing = nothing;
      words = is ∙ added.0 ∙ ap is_some told;
      adds = adds_not takes.words (literal type wanted) old new (is ∙ added.0) added.1;
    }
    go (Some text) told token added = record {
      nothing = nothing;
      words = is ∙ added.0 ∙ ap is_some told;
      adds = adds_if takes.words (literal type wanted) old new (is ∙ added.0)
          (subst (λ (x : List (List ℕ)). AddsWords (literal type wanted) old x) (sym added.1)
          (adds_one (literal type wanted) old text token.1.token token.0 (λ g. by_value token.1.accepted token.1.same)));
    }

-- nothing is added by what takes no words
pub none_adds : (p : Pattern) (words : List (List ℕ)) (takes : Takes) → takes.nothing ≡ nullable p → takes.words ≡ false → has_words p ≡ false
    → AddsBy p words words takes
none_adds p words takes nothing some none = record {
  nothing = nothing;
  words = some ∙ sym none;
  adds = adds_not takes.words p words words some refl;
}

-- ---- what is put together

-- words of one pattern are words of another
as_words : {p q : Pattern} {old new : List (List ℕ)} → ((g : List Definition) (ws : List (List ℕ)) → Matches g p [] (strings ws)
    → Matches g q [] (strings ws)) → AddsWords p old new → AddsWords q old new
as_words f w = record { words = w.words; good = w.good; some = w.some; matched = λ g. f g w.words (w.matched g); is = w.is }

as_adds : (b : Bool) (p q : Pattern) (old new : List (List ℕ)) → ((g : List Definition) (ws : List (List ℕ)) → Matches g p [] (strings ws)
    → Matches g q [] (strings ws)) → AddsIf b p old new → AddsIf b q old new
as_adds true p q old new f w = as_words f w
as_adds false p q old new f w = w

pub more_adds : {p : Pattern} {old new : List (List ℕ)} {takes : Takes} → AddsBy p old new takes → AddsBy (one_or_more p) old new takes
more_adds {p = p} {old = old} {new = new} {takes = takes} w = record {
  nothing = w.nothing;
  words = w.words;
  adds = as_adds takes.words p (one_or_more p) old new (λ g ws m. by_one m) w.adds;
}

or_first : (a b x : Bool) → x ≡ a → x ≡ true → x ≡ (a || b)
or_first true b x is some = is
or_first false b x is some = absurd (false≢true (sym is ∙ some))

or_later : (a b x : Bool) → a ≡ false → x ≡ b → x ≡ (a || b)
or_later true b x none is = absurd (false≢true (sym none))
or_later false b x none is = is

pub first_adds : {p q : Pattern} {old new : List (List ℕ)} {first takes : Takes} → AddsBy p old new first → first.words ≡ true
    → takes.nothing ≡ (first.nothing || nullable q) → takes.words ≡ first.words → AddsBy (choice p q) old new takes
first_adds {p = p} {q = q} {old = old} {new = new} {first = first} {takes = takes} w some nothing is = record {
  nothing = nothing ∙ ap (λ (b : Bool). b || nullable q) w.nothing;
  words = or_first (has_words p) (has_words q) takes.words (is ∙ w.words) (is ∙ some);
  adds = as_adds takes.words p (choice p q) old new (λ g ws m. by_first m) (subst (λ (b : Bool). AddsIf b p old new) (sym is) w.adds);
}

pub second_adds : {p q : Pattern} {old middle new : List (List ℕ)} {first second takes : Takes} → AddsBy p old middle first → first.words ≡ false
    → AddsBy q middle new second → takes.nothing ≡ (first.nothing || second.nothing) → takes.words ≡ second.words
    → AddsBy (choice p q) old new takes
second_adds {p = p} {q = q} {old = old} {middle = middle} {new = new} {first = first} {second = second} {takes = takes} w none v nothing is = record {
  nothing = nothing ∙ ap (λ (b : Bool). b || second.nothing) w.nothing ∙ ap (λ (b : Bool). nullable p || b) v.nothing;
  words = or_later (has_words p) (has_words q) takes.words (sym w.words ∙ none) (is ∙ v.words);
  adds =
      let here : AddsIf takes.words q middle new = subst (λ (b : Bool). AddsIf b q middle new) (sym is) v.adds in
      let same : middle ≡ old = unadded first.words none w.adds in
      as_adds takes.words q (choice p q) old new (λ g ws m. by_second m) (subst (λ (x : List (List ℕ)). AddsIf takes.words q x new) same here);
}
  where
    unadded : (b : Bool) → b ≡ false → AddsIf b p old middle → middle ≡ old
    unadded true is w = absurd (false≢true (sym is))
    unadded false is w = w

-- two patterns beside one another: what both match, and what one matches where the other may match nothing
pub record Beside (p q r : Pattern) : Type 0 where
  pub both : (g : List Definition) (ws vs : List (List ℕ)) → Matches g p [] (strings ws) → Matches g q [] (strings vs)
      → Matches g r [] (strings (ws ++ vs))
  pub first : (g : List Definition) (ws : List (List ℕ)) → nullable q ≡ true → Matches g p [] (strings ws) → Matches g r [] (strings ws)
  pub second : (g : List Definition) (ws : List (List ℕ)) → nullable p ≡ true → Matches g q [] (strings ws) → Matches g r [] (strings ws)

pub in_group : (p q : Pattern) → Beside p q (group p q)
in_group p q = record {
  both = λ g ws vs m n. by_group no_attribute (strings_order ws vs) m n;
  first = λ g ws h m. by_group no_attribute (order_all (strings ws)) m (nullable_out q h);
  second = λ g ws h m. by_group no_attribute then_second (nullable_out p h) m;
}

pub in_interleave : (p q : Pattern) → Beside p q (interleave p q)
in_interleave p q = record {
  both = λ g ws vs m n. by_interleave no_attribute (strings_shuffle ws vs) m n;
  first = λ g ws h m. by_interleave no_attribute (shuffle_all (strings ws)) m (nullable_out q h);
  second = λ g ws h m. by_interleave no_attribute (shuffle_none (strings ws)) (nullable_out p h) m;
}

joined_words : {p q r : Pattern} → Beside p q r → {old middle new : List (List ℕ)} → AddsWords p old middle → AddsWords q middle new
    → AddsWords r old new
joined_words beside {old = old} w v = record {
  words = w.words ++ v.words;
  good = all_good w.words v.words w.good v.good;
  some = some_append w.words v.words w.some;
  matched = λ g. beside.both g w.words v.words (w.matched g) (v.matched g);
  is = v.is ∙ ap (λ (t : List (List ℕ)). t ++ v.words) w.is ∙ append_assoc old w.words v.words;
}

-- which words are there, by what each side takes
module _ {p q r : Pattern} (beside : Beside p q r) (old middle new : List (List ℕ)) where
  some_found : (s n t m : Bool) → ((s && (t || m)) || (n && t)) ≡ true → AddsIf s p old middle → AddsIf t q middle new
      → (n ≡ true → nullable p ≡ true) → (m ≡ true → nullable q ≡ true) → AddsWords r old new
  some_found true n true m is w v first second = joined_words beside w v
  some_found true n false true is w v first second =
      subst (λ (y : List (List ℕ)). AddsWords r old y) (sym v) (as_words (λ g ws k. beside.first g ws (second refl) k) w)
  some_found true true false false is w v first second = absurd (false≢true is)
  some_found true false false false is w v first second = absurd (false≢true is)
  some_found false true true m is w v first second =
      subst (λ (y : List (List ℕ)). AddsWords r y new) w (as_words (λ g ws k. beside.second g ws (first refl) k) v)
  some_found false false true m is w v first second = absurd (false≢true is)
  some_found false true false m is w v first second = absurd (false≢true is)
  some_found false false false m is w v first second = absurd (false≢true is)

  more_words : (s t : Bool) → AddsIf s p old middle → AddsIf t q middle new → (ws : List (List ℕ)) × (new ≡ old ++ ws)
  more_words true true w v = let both = joined_words beside w v in (both.words, both.is)
  more_words true false w v = (w.words, v ∙ w.is)
  more_words false true w v = (v.words, v.is ∙ ap (λ (t : List (List ℕ)). t ++ v.words) w)
  more_words false false w v = ([], v ∙ w ∙ sym (append-nil old))

  found : (last : List (List ℕ)) (s n t m x : Bool) → x ≡ ((s && (t || m)) || (n && t)) → AddsIf s p old middle → AddsIf t q middle new
      → (n ≡ true → nullable p ≡ true) → (m ≡ true → nullable q ≡ true) → last ≡ (if x then new else take (length old) new) → AddsIf x r old last
  found last s n t m true is w v first second last_is =
      subst (λ (y : List (List ℕ)). AddsWords r old y) (sym last_is) (some_found s n t m (sym is) w v first second)
  found last s n t m false is w v first second last_is =
      let more = more_words s t w v in last_is ∙ ap (take (length old)) more.1 ∙ take-append_seam old more.0

pub both_add : {p q r : Pattern} → Beside p q r → {old middle new last : List (List ℕ)} {first second takes : Takes} (before : ℕ)
    → before ≡ length old
    → AddsBy p old middle first → AddsBy q middle new second → nullable r ≡ (nullable p && nullable q)
    → has_words r ≡ ((has_words p && (has_words q || nullable q)) || (nullable p && has_words q))
    → takes.nothing ≡ (first.nothing && second.nothing)
    → takes.words ≡ ((first.words && (second.words || second.nothing)) || (first.nothing && second.words))
    → last ≡ (if takes.words then new else take before new) → AddsBy r old last takes
both_add beside {old = old} {middle = middle} {new = new} {last = last} {first = first} {second = second} {takes = takes}
    before many w v nullable_r words_r nothing some kept = record {
      nothing = let h = w.nothing in let k = v.nothing in cc;
      words = let a = w.words in let b = v.words in let h = w.nothing in let k = v.nothing in cc;
      adds = found beside old middle new last first.words first.nothing second.words second.nothing takes.words some w.adds v.adds
          (λ h. sym w.nothing ∙ h) (λ h. sym v.nothing ∙ h) (kept ∙ ap (λ (k : ℕ). if takes.words then new else take k new) many);
    }

-- ---- the string of words

space_ascii : IsAscii (32 ∷ [])
space_ascii = IsAscii-cons 32 [] (omega arith) IsAscii-nil

space_is_char : is_char 32 ≡ true
unfolding is_char
space_is_char = refl

utf8_of : (word : List ℕ) → IsTrue (is_of_chars word) → IsUtf8 word
utf8_of word c = IsUtf8-from_is_utf8 word (and_parts _ _ c).0

spaced : (word rest : List ℕ) → IsTrue (is_of_chars word) → IsTrue (is_of_chars rest) → IsTrue (is_of_chars (word ++ 32 ∷ rest))
spaced word rest c d =
    let u = utf8_of word c in
    let v = utf8_of rest d in
    let whole : IsUtf8 (word ++ 32 ∷ rest) =
    IsUtf8-append word (32 ∷ rest) u (IsUtf8-append (32 ∷ []) rest (IsUtf8-from_ascii (32 ∷ []) space_ascii) v) in
    let all : list_all is_char (chars word ++ 32 ∷ chars rest) ≡ true =
    list_all-append is_char (chars word) (32 ∷ chars rest) ∙ and_from _ _ (and_parts _ _ c).1 (and_from _ _ space_is_char (and_parts _ _ d).1) in
    and_from _ _ (is_utf8-from_IsUtf8 (word ++ 32 ∷ rest) whole) (ap (list_all is_char) (chars-spaced word rest u) ∙ all)

joined_of_chars : (ws : List (List ℕ)) → AllByRecursion IsWord ws → IsTrue (is_of_chars (join_with_byte 32 ws))
joined_of_chars [] all = letters_are_of_chars 0
joined_of_chars (x ∷ []) all = all.0.of_chars
joined_of_chars (x ∷ y ∷ more) all = spaced x (join_with_byte 32 (y ∷ more)) all.0.of_chars (joined_of_chars (y ∷ more) all.1)

bare_words : (ws : List (List ℕ)) → AllByRecursion IsWord ws → AllByRecursion IsBareWord ws
bare_words [] all = tt
bare_words (x ∷ ws) all =
    let w = and_parts (is_some_text x) (is_bare x) all.0.token in (record { some = w.0; bare = w.1 }, bare_words ws all.1)

pub words_answer : (solid : Bool) (p : Pattern) (text : List ℕ) (ws : List (List ℕ)) (takes : Takes) → AddsBy p [] ws takes → takes.words ≡ true
    → text ≡ join_with_byte 32 ws → IsStringAnswer solid (listed p) (Some text)
words_answer solid p text ws takes w some is = go takes.words some w.adds
  where
    go : (b : Bool) → b ≡ true → AddsIf b p [] ws → IsStringAnswer solid (listed p) (Some text)
    go false is w = absurd (false≢true is)
    go true is' w =
        let same : ws ≡ w.words = w.is in
        let text_is : text ≡ join_with_byte 32 w.words = is ∙ ap (join_with_byte 32) same in
        let parts : words text ≡ w.words = ap words text_is ∙ words-joined w.words (bare_words w.words w.good) in (
          record {
            of_chars = subst (λ (t : List ℕ). IsTrue (is_of_chars t)) (sym text_is) (joined_of_chars w.words w.good);
            matched = λ g. by_list (subst (λ (vs : List (List ℕ)). Matches g p [] (strings vs)) (sym parts) (w.matched g));
          },
          λ blank. w.some (sym parts ∙ words-blank text (and_parts solid (is_blank text) blank).1),
        )

pub empty_answer : (solid : Bool) (p : Pattern) → nullable p ≡ true → solid ≡ false → IsStringAnswer solid (listed p) (Some [])
empty_answer solid p h is = (
  record {
    of_chars = letters_are_of_chars 0;
    matched = λ g. by_list (subst (λ (ws : List (List ℕ)). Matches g p [] (strings ws)) (sym (words-blank [] refl)) (nullable_out p h));
  },
  λ blank. false≢true (sym is ∙ (and_parts solid (is_blank []) blank).0),
)

-- words behind a first one
pub joined_behind : (x : List ℕ) (ws : List (List ℕ)) → join_with_byte 32 (x ∷ ws) ≡ x ++ flat_map (λ word. 32 ∷ word) ws
joined_behind x [] = sym (append-nil x)
joined_behind x (y ∷ ws) = ap (λ (t : List ℕ). x ++ 32 ∷ t) (joined_behind y ws)
