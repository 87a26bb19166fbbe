-- Texts of the same value are blank alike.
use Rattle.std.specs.Prelude.{◌≡◌, ℕ, Bool, true, false, if◌then◌else◌, List, [], ◌∷◌}
use Rattle.std.proofs.Common.{refl, sym, ap, ◌∙◌}
use Rattle.std.proofs.lemmas.Bool.{false≢true, false_from_ne_true}
use Rattle.nx_base.specs.Characters.{is_space, is_blank}
use Rattle.rng_types.specs.Spaces.{words, collapsed, replaced_char, replaced, normalized}
use Rattle.rng_types.specs.Words.{is_word, are_words, has_form, whitespace_of}
use Rattle.rng_types.specs.Types.{SameOfForm, SameAreBlankAlike}
use Rattle.rng_types.specs.declared.kind.Whitespace.{Whitespace}
use Rattle.rng_types.specs.declared.kind.Whitespace.TheVariants.{Preserve, Replace, Collapse}
use Rattle.rng_types.specs.declared.kind.Word.{Word}
use Rattle.rng_types.specs.declared.kind.Form.{Form}
use Rattle.rng_types.specs.declared.kind.Form.TheVariants.{Any, One, Several, More}
use Rattle.rng_types.proofs.Collapsed.{words-collapsed, words-blank, blank-no_words, no_word_fits}
use Rattle.rng_types.proofs.MoreLaws.{blank_alike as more_blank_alike}

pub space-case : (b : Bool) (c : ℕ) → is_space c ≡ b → is_space (if b then 32 else c) ≡ b
unfolding is_space
space-case true c space = refl
space-case false c other = other

blank-replaced : (text : List ℕ) → is_blank (replaced text) ≡ is_blank text
blank-replaced [] = refl
blank-replaced (c ∷ cs) =
    let first : is_space (replaced_char c) ≡ is_space c = space-case (is_space c) c refl in
    rw (first, blank-replaced cs) refl

-- two tests are the same where each follows from the other
pub same_tests : (a b : Bool) → (a ≡ true → b ≡ true) → (b ≡ true → a ≡ true) → a ≡ b
same_tests true b to from = sym (to refl)
same_tests false true to from = from refl
same_tests false false to from = refl

blank-by_words : (a b : List ℕ) → words a ≡ words b → is_blank a ≡ is_blank b
blank-by_words a b same =
    same_tests (is_blank a) (is_blank b)
    (λ blank. blank-no_words b (sym same ∙ words-blank a blank))
    (λ blank. blank-no_words a (same ∙ words-blank b blank))

blank-normalized : (whitespace : Whitespace) (text : List ℕ) → is_blank (normalized whitespace text) ≡ is_blank text
blank-normalized Preserve text = refl
blank-normalized Replace text = blank-replaced text
blank-normalized Collapse text = blank-by_words (collapsed text) text (words-collapsed text)

-- what has the form of words isn't blank
word_not_blank : (word : Word) (text : List ℕ) → is_word word (collapsed text) ≡ true → is_blank text ≡ false
word_not_blank word text fits = false_from_ne_true _ (λ blank. false≢true (sym (no_word_fits text word (words-blank text blank)) ∙ fits))

words_not_blank : (word : Word) (text : List ℕ) → are_words word (words (collapsed text)) ≡ true → is_blank text ≡ false
words_not_blank word text fit = false_from_ne_true _ (λ blank.
    false≢true (ap (are_words word) (sym (words-blank text blank) ∙ sym (words-collapsed text)) ∙ fit))

alike : (form : Form) (a b : List ℕ) → has_form form (normalized (whitespace_of form) a) ≡ true → has_form form (normalized (whitespace_of form) b) ≡ true →
    SameOfForm form (normalized (whitespace_of form) a) (normalized (whitespace_of form) b) → is_blank a ≡ is_blank b
alike (Any whitespace) a b fa fb same = sym (blank-normalized whitespace a) ∙ ap is_blank same ∙ blank-normalized whitespace b
alike (One word) a b fa fb same = word_not_blank word a fa ∙ sym (word_not_blank word b fb)
alike (Several word) a b fa fb same = words_not_blank word a fa ∙ sym (words_not_blank word b fb)
alike (More more) a b fa fb same = more_blank_alike more a b fa fb same

pub blank_alike : SameAreBlankAlike
blank_alike type a b accepts_a accepts_b same = alike type.form a b accepts_a.form accepts_b.form same
