-- Names, lists of names and language tags.
use Rattle.std.specs.Prelude.{◌≡◌, ℕ, zero, suc, ◌+◌, ◌*◌, ◌<◌, ◌≤◌, Bool, true, false, ◌==◌, List, [], ◌∷◌, length}
use Rattle.std.proofs.Common.{refl, sym, ap, ◌∙◌, arith}
use Rattle.std.proofs.Math.ListN.{replicate}
use Rattle.std.proofs.lemmas.Bool.{and_parts, and_from, false≢true}
use Rattle.std.specs.List.{list_all, slice_split, join_with_byte, AllByRecursion}
use Rattle.std.specs.Str.{chars}
use Rattle.std.specs.Char.{is_ascii_alphanumeric}
use Rattle.nx_base.specs.Characters.{is_name, is_of_chars}
use Rattle.rng_types.specs.Spaces.{is_some_text, words, collapsed}
use Rattle.rng_types.specs.Words.{is_nm_token, is_subtag, are_subtags, is_language, is_word, are_words}
use Rattle.rng_types.specs.Facets.{meets}
use Rattle.rng_types.specs.Types.{seen_by, Accepts}
use Rattle.rng_types.specs.Members.{is_one_token}
use Rattle.rng_types.specs.WellMade.{suits}
use Rattle.rng_types.specs.TextMembers.{allows, least_length, has_length}
use Rattle.rng_types.specs.MemberTest.{has_words}
use Rattle.rng_types.specs.declared.kind.Word.{Word}
use Rattle.rng_types.specs.declared.kind.Word.TheVariants.{Name, NcName, NmToken, Language}
use Rattle.rng_types.specs.declared.kind.Form.TheVariants.{One, Several}
use Rattle.rng_types.specs.declared.facet.Facet.{Facet}
use Rattle.rng_types.specs.declared.datatype.Except.{Except}
use Rattle.rng_types.proofs.Collapsed.{IsBareWord, words-collapsed, word-alone, words-joined}
use Rattle.rng_types.proofs.Plain.{IsPlain, plain_one, tight_one, seen-plain}
use Rattle.rng_types.proofs.Numeric.{typed}
use Rattle.rng_types.proofs.Allowed.{has_length-from, least_some, meets-lengths}
use Rattle.rng_types.proofs.Letters.{plain-word_of, apart-word_of, token-word_of, name-word_of, nc_name-word_of}
use Rattle.rng_types.proofs.Padded.{characters_append, characters_space}
use Rattle.rng_types.proofs.Printable.{is_printed, plain_printed, some_cons}
use Rattle.rng_types.proofs.Texts.{TakesLetters, letters_member, allowed_size, own_each, only_lengths, letter}
use Rattle.rng_types.proofs.Beside.{LeavesMember, LeavesText, LeavesOne, one_of}
use Rattle.rng_types.specs.Giving.{word_of, many, tail, tag}

-- forms of one word that is a name, or something like it
pub record TakesNames (word : Word) : Type 0 where
  pub letters : TakesLetters (One word)
  pub filled : (text : List ℕ) → is_word word text ≡ true → 1 ≤ length (chars text)

filled_name : (cs : List ℕ) → is_name cs ≡ true → 1 ≤ length cs
filled_name [] none = absurd (false≢true none)
filled_name (c ∷ cs) some = omega arith

filled_token : (cs : List ℕ) → is_nm_token cs ≡ true → 1 ≤ length cs
filled_token [] none = absurd (false≢true none)
filled_token (c ∷ cs) some = omega arith

pub names : TakesNames Name
names = record {
  letters = record { textual = λ facets. record { same = λ a b. refl }; fits = λ k c letter some. name-word_of k c letter some; size = λ text. refl; bounds = λ relation limit. refl };
  filled = λ text is. filled_name (chars text) is;
}

pub nc_names : TakesNames NcName
nc_names = record {
  letters = record { textual = λ facets. record { same = λ a b. refl }; fits = λ k c letter some. nc_name-word_of k c letter some; size = λ text. refl; bounds = λ relation limit. refl };
  filled = λ text is. filled_name (chars text) (and_parts (is_name (chars text)) _ is).0;
}

pub nm_tokens : TakesNames NmToken
nm_tokens = record {
  letters = record { textual = λ facets. record { same = λ a b. refl }; fits = λ k c letter some. token-word_of k c letter some; size = λ text. refl; bounds = λ relation limit. refl };
  filled = λ text is. filled_token (chars text) is;
}

pub name_sound : (word : Word) → TakesNames word → (facets : List Facet) (excepts : List Except) (one_token : Bool) → list_all (suits (One word)) facets ≡ true → length excepts ≤ 129 → has_length facets ≡ true → LeavesMember (typed (One word) facets) excepts one_token
name_sound word takes facets excepts one_token suit few has = letters_member (One word) facets excepts one_token takes.letters suit few has

pub name_complete : (word : Word) → TakesNames word → (facets : List Facet) (excepts : List Except) (one_token : Bool) → list_all (suits (One word)) facets ≡ true → LeavesText (typed (One word) facets) excepts one_token → has_length facets ≡ true
name_complete word takes facets excepts one_token suit member =
    has_length-from facets (length (chars (collapsed member.0))) (takes.filled (collapsed member.0) member.1.accepted.form) (allowed_size (One word) facets member.0 takes.letters suit member.1.accepted)

bare_replicate : (k : ℕ) (word : List ℕ) → IsBareWord word → AllByRecursion IsBareWord (replicate k word)
bare_replicate zero word is = tt
bare_replicate (suc k) word is = (is, bare_replicate k word is)

words-many : (k : ℕ) (word : List ℕ) → IsBareWord word → words (many k word) ≡ replicate k word
unfolding many
words-many k word is = words-joined (replicate k word) (bare_replicate k word is)

tight-many : (k : ℕ) (word : List ℕ) → IsBareWord word → collapsed (many k word) ≡ many k word
unfolding many
tight-many k word is = ap (join_with_byte 32) (words-many k word is)

characters_many : (k : ℕ) (word : List ℕ) → is_of_chars word ≡ true → 1 ≤ k → is_of_chars (many k word) ≡ true
unfolding many
characters_many zero word of some = absurd (omega arith)
characters_many (suc zero) word of some = of
characters_many (suc (suc k)) word of some = characters_append word (32 ∷ many (suc k) word) of (characters_space (many (suc k) word) (characters_many (suc k) word of (omega arith)))

lengths_replicate : (k : ℕ) (word : List ℕ) → length (replicate k word) ≡ k
lengths_replicate zero word = refl
lengths_replicate (suc k) word = omega (arith, lengths_replicate k word)

words_replicate : (kind : Word) (k : ℕ) (word : List ℕ) → is_word kind word ≡ true → list_all (is_word kind) (replicate k word) ≡ true
words_replicate kind zero word fits = refl
words_replicate kind (suc k) word fits = and_from _ _ fits (words_replicate kind k word fits)

are_replicate : (kind : Word) (k : ℕ) (word : List ℕ) → is_word kind word ≡ true → 1 ≤ k → are_words kind (replicate k word) ≡ true
are_replicate kind zero word fits some = absurd (omega arith)
are_replicate kind (suc k) word fits some = words_replicate kind (suc k) word fits

firsts_same : (k : ℕ) (a b : List ℕ) → replicate (suc k) a ≡ replicate (suc k) b → a ≡ b
firsts_same k a b same = cc

replicates_same : (k : ℕ) (a b : List ℕ) → 1 ≤ k → replicate k a ≡ replicate k b → a ≡ b
replicates_same zero a b some same = absurd (omega arith)
replicates_same (suc k) a b some same = firsts_same k a b same

many_one : (word : List ℕ) → many 1 word ≡ word
unfolding many
many_one word = refl

single_token : (text word : List ℕ) → IsPlain word → text ≡ word → is_one_token text ≡ true
single_token text word plain same = ap is_one_token same ∙ and_from _ _ plain.word.some plain.word.bare

pub words_one : (kind : Word) (facets : List Facet) (excepts : List Except) (one_token : Bool) (k : ℕ) → TakesNames kind → list_all (suits (Several kind)) facets ≡ true → length excepts ≤ 129 → 1 ≤ k → (one_token ≡ true → k ≡ 1) → allows facets k ≡ true →
    LeavesOne (typed (Several kind) facets) excepts one_token (λ i. many k (word_of 1 (256 + i))) 130
words_one kind facets excepts one_token k takes suit few some single allowed =
    let type = typed (Several kind) facets in
    let word : ℕ → List ℕ = λ i. word_of 1 (256 + i) in
    let plain : (i : ℕ) → i < 130 → IsPlain (word i) = λ i small. plain-word_of 1 (256 + i) (letter i small) (omega arith) in
    let candidate : ℕ → List ℕ = λ i. many k (word i) in
    let tight : (i : ℕ) → i < 130 → collapsed (candidate i) ≡ candidate i = λ i small. tight-many k (word i) (plain i small).word in
    let parts : (i : ℕ) → i < 130 → words (candidate i) ≡ replicate k (word i) = λ i small. words-many k (word i) (plain i small).word in
    let apart : (i j : ℕ) → i < 130 → j < 130 → candidate i ≡ candidate j → i ≡ j = λ i j hi hj same.
    let first : word i ≡ word j = replicates_same k (word i) (word j) some (sym (parts i hi) ∙ ap words same ∙ parts j hj) in
    omega (arith, apart-word_of 1 (256 + i) (256 + j) (omega arith) first) in
    tight_one type excepts one_token candidate 130
    (record {
      characters = λ i small. characters_many k (word i) (plain i small).characters some;
      tight = tight;
      accepted = λ i small. record {
        form = ap (λ (t : List ℕ). are_words kind (words t)) (tight i small) ∙ ap (are_words kind) (parts i small) ∙ are_replicate kind k (word i) (takes.letters.fits 1 (256 + i) (letter i small) (omega arith)) some;
        facets = ap (λ (t : List ℕ). list_all (meets (Several kind) t) facets) (tight i small) ∙ meets-lengths (Several kind) (candidate i) facets (only_lengths (Several kind) (λ relation limit. refl) facets suit)
            ∙ ap (λ (ws : List (List ℕ)). allows facets (length ws)) (parts i small) ∙ ap (allows facets) (lengths_replicate k (word i)) ∙ allowed;
      };
      apart = apart;
    })
    (λ i small asked. single_token (candidate i) (word i) (plain i small) (ap (λ n. many n (word i)) (single asked) ∙ many_one (word i)))
    (own_each type candidate 130 (record { same = λ a b. refl }) tight apart excepts) (omega arith)

pub words_sound : (kind : Word) → TakesNames kind → (facets : List Facet) (excepts : List Except) (one_token : Bool) → list_all (suits (Several kind)) facets ≡ true → length excepts ≤ 129 → has_words (typed (Several kind) facets) one_token ≡ true → LeavesMember (typed (Several kind) facets) excepts one_token
words_sound kind takes facets excepts true suit few has = one_of (words_one kind facets excepts true 1 takes suit few (omega arith) (λ asked. refl) has)
words_sound kind takes facets excepts false suit few has = one_of (words_one kind facets excepts false (least_length facets) takes suit few (least_some facets) (λ asked. absurd (false≢true asked)) has)

filled_words : (kind : Word) (ws : List (List ℕ)) → are_words kind ws ≡ true → 1 ≤ length ws
filled_words kind [] none = absurd (false≢true none)
filled_words kind (w ∷ ws) some = omega arith

words_allowed : (kind : Word) (facets : List Facet) (text : List ℕ) → list_all (suits (Several kind)) facets ≡ true → Accepts (typed (Several kind) facets) text → allows facets (length (words text)) ≡ true
words_allowed kind facets text suit accepted =
    ap (λ (ws : List (List ℕ)). allows facets (length ws)) (sym (words-collapsed text))
    ∙ sym (meets-lengths (Several kind) (collapsed text) facets (only_lengths (Several kind) (λ relation limit. refl) facets suit)) ∙ accepted.facets

pub words_complete : (kind : Word) (facets : List Facet) (excepts : List Except) (one_token : Bool) → list_all (suits (Several kind)) facets ≡ true → LeavesText (typed (Several kind) facets) excepts one_token → has_words (typed (Several kind) facets) one_token ≡ true
words_complete kind facets excepts true suit member =
    let parts = and_parts (is_some_text member.0) _ (member.1.token refl) in
    let alone : words member.0 ≡ member.0 ∷ [] = word-alone member.0 (record { some = parts.0; bare = parts.1 }) in
    ap (λ (ws : List (List ℕ)). allows facets (length ws)) (sym alone) ∙ words_allowed kind facets member.0 suit member.1.accepted
words_complete kind facets excepts false suit member =
    let some : 1 ≤ length (words member.0) = filled_words kind (words member.0) (ap (are_words kind) (sym (words-collapsed member.0)) ∙ member.1.accepted.form) in
    has_length-from facets (length (words member.0)) some (words_allowed kind facets member.0 suit member.1.accepted)

-- language tags without end: a-a-a..
subtags : ℕ → List (List ℕ)
subtags zero = (97 ∷ []) ∷ []
subtags (suc i) = (97 ∷ []) ∷ subtags i

split-tag : (i : ℕ) → slice_split (λ c. c == 45) (97 ∷ tail i) ≡ subtags i
unfolding tail subtags
split-tag zero = refl
split-tag (suc i) = ap (λ (parts : List (List ℕ)). (97 ∷ []) ∷ parts) (split-tag i)

all_subtags : (i : ℕ) → list_all (is_subtag is_ascii_alphanumeric) (subtags i) ≡ true
unfolding subtags
all_subtags zero = refl
all_subtags (suc i) = all_subtags i

are_subtags-tag : (i : ℕ) → are_subtags (subtags i) ≡ true
unfolding subtags
are_subtags-tag zero = refl
are_subtags-tag (suc i) = all_subtags i

pub language-tag : (i : ℕ) → is_language (tag i) ≡ true
unfolding tag
language-tag i = ap are_subtags (split-tag i) ∙ are_subtags-tag i

printed-tail : (i : ℕ) → list_all is_printed (tail i) ≡ true
unfolding tail
printed-tail zero = refl
printed-tail (suc i) = printed-tail i

length-tail : (i : ℕ) → length (tail i) ≡ i * 2
unfolding tail
length-tail zero = refl
length-tail (suc i) = omega (arith, length-tail i)

pub plain-tag : (i : ℕ) → IsPlain (tag i)
unfolding tag
plain-tag i = plain_printed (97 ∷ tail i) (some_cons 97 (tail i)) (printed-tail i)

pub apart-tag : (i j : ℕ) → tag i ≡ tag j → i ≡ j
unfolding tag
apart-tag i j same = let long : suc (length (tail i)) ≡ suc (length (tail j)) = ap length same in omega (arith, long, length-tail i, length-tail j)

pub language_one : (excepts : List Except) (one_token : Bool) (n : ℕ) → length excepts < n → LeavesOne (typed (One Language) []) excepts one_token tag n
language_one excepts one_token n more =
    let type = typed (One Language) [] in
    let seen : (i : ℕ) → seen_by type (tag i) ≡ tag i = λ i. seen-plain type (tag i) (plain-tag i).word in
    plain_one type excepts one_token tag n (λ i small. plain-tag i)
    (λ i small. record { form = ap is_language (seen i) ∙ language-tag i; facets = refl })
    (λ i j hi hj same. apart-tag i j same)
    (own_each type tag n (record { same = λ a b. refl }) (λ i small. seen i) (λ i j hi hj same. apart-tag i j same) excepts) more

pub language_member : (excepts : List Except) (one_token : Bool) → LeavesMember (typed (One Language) []) excepts one_token
language_member excepts one_token = one_of (language_one excepts one_token (suc (length excepts)) (omega arith))
