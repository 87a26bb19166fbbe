-- Texts with spaces before them: where white space collapses they have the same value, and are without end.
use Rattle.std.specs.Prelude.{◌≡◌, ℕ, zero, suc, ◌+◌, ◌<◌, true, false, not, List, [], ◌∷◌, ◌++◌, length}
use Rattle.std.proofs.Common.{refl, sym, ap, ◌∙◌, arith}
use Rattle.std.proofs.lemmas.Bool.{and_parts, and_from, not-true, not_from_false, false≢true}
use Rattle.std.proofs.lemmas.List.Folds.{list_all-append}
use Rattle.std.proofs.lemmas.Str.{chars-append, IsUtf8-append, IsUtf8-from_ascii, IsUtf8-from_is_utf8, is_utf8-from_IsUtf8}
use Rattle.std.specs.List.{list_all, join_with_byte, AllByRecursion}
use Rattle.std.specs.Str.{chars, bytes_eq, is_utf8, IsAscii}
use Rattle.nx_base.specs.Characters.{is_char, is_blank, is_of_chars}
use Rattle.rng_types.specs.Spaces.{words, collapsed, normalized}
use Rattle.rng_types.specs.Words.{whitespace_of, has_form}
use Rattle.rng_types.specs.Facets.{meets}
use Rattle.rng_types.specs.Types.{seen_by, Accepts}
use Rattle.rng_types.specs.Answers.{is_same_of_form, is_taken_away}
use Rattle.rng_types.specs.Answers.{is_left}
use Rattle.rng_types.specs.TextMembers.{takes_spaced, is_left_spaced}
use Rattle.rng_types.specs.declared.kind.Whitespace.TheVariants.{Collapse}
use Rattle.rng_types.specs.declared.datatype.Datatype.{Datatype}
use Rattle.rng_types.specs.declared.datatype.Except.{Except}
use Rattle.rng_types.specs.declared.datatype.Except.TheVariants.{Own, BuiltinString, BuiltinToken}
use Rattle.rng_types.proofs.Spaced.{chars-space}
use Rattle.rng_types.proofs.SplitWords.{words-space}
use Rattle.rng_types.proofs.Collapsed.{space_is_space}
use Rattle.rng_types.proofs.LeftOver.{TakesOne, one_left}
use Rattle.rng_types.proofs.Numeric.{all_same}
use Rattle.rng_types.proofs.Plain.{same_by}
use Rattle.rng_types.proofs.Beside.{LeavesMember, LeavesOne, one_of}
use Rattle.rng_types.specs.Giving.{pad}

-- characters that XML allows, joined
pub characters_append : (xs ys : List ℕ) → is_of_chars xs ≡ true → is_of_chars ys ≡ true → is_of_chars (xs ++ ys) ≡ true
characters_append xs ys first second =
    let a = and_parts (is_utf8 xs) (list_all is_char (chars xs)) first in
    let b = and_parts (is_utf8 ys) (list_all is_char (chars ys)) second in
    let utf8 = IsUtf8-from_is_utf8 xs a.0 in
    and_from _ _ (is_utf8-from_IsUtf8 (xs ++ ys) (IsUtf8-append xs ys utf8 (IsUtf8-from_is_utf8 ys b.0)))
    (ap (list_all is_char) (chars-append xs ys utf8) ∙ list_all-append is_char (chars xs) (chars ys) ∙ and_from _ _ a.1 b.1)

space_ascii : IsAscii (32 ∷ [])
space_ascii zero = omega arith
space_ascii (suc i) = omega arith

space_is_char : is_char 32 ≡ true
unfolding is_char
space_is_char = refl

pub characters_space : (xs : List ℕ) → is_of_chars xs ≡ true → is_of_chars (32 ∷ xs) ≡ true
characters_space xs of =
    let parts = and_parts (is_utf8 xs) (list_all is_char (chars xs)) of in
    and_from _ _ (is_utf8-from_IsUtf8 (32 ∷ xs) (IsUtf8-append (32 ∷ []) xs (IsUtf8-from_ascii (32 ∷ []) space_ascii) (IsUtf8-from_is_utf8 xs parts.0)))
    (ap (list_all is_char) (chars-space xs) ∙ and_from _ _ space_is_char parts.1)

pub blank-pad : (i : ℕ) → is_blank (pad i []) ≡ true
unfolding pad
blank-pad zero = refl
blank-pad (suc i) = and_from _ _ space_is_space (blank-pad i)

words-pad : (i : ℕ) (text : List ℕ) → words (pad i text) ≡ words text
unfolding pad
words-pad zero text = refl
words-pad (suc i) text = words-space 32 (pad i text) space_is_space ∙ words-pad i text

pub collapsed-pad : (i : ℕ) (text : List ℕ) → collapsed (pad i text) ≡ collapsed text
collapsed-pad i text = ap (join_with_byte 32) (words-pad i text)

length-pad : (i : ℕ) (text : List ℕ) → length (pad i text) ≡ i + length text
unfolding pad
length-pad zero text = omega arith
length-pad (suc i) text = omega (arith, length-pad i text)

pub characters_pad : (i : ℕ) (text : List ℕ) → is_of_chars text ≡ true → is_of_chars (pad i text) ≡ true
unfolding pad
characters_pad zero text of = of
characters_pad (suc i) text of = characters_space (pad i text) (characters_pad i text of)

pub apart-pad : (i j : ℕ) (text : List ℕ) → pad i text ≡ pad j text → i ≡ j
apart-pad i j text same = omega (arith, ap length same, length-pad i text, length-pad j text)

module _ (type : Datatype) (collapses : whitespace_of type.form ≡ Collapse) where
  seen-collapsed : (text : List ℕ) → seen_by type text ≡ collapsed text
  seen-collapsed text = ap (λ whitespace. normalized whitespace text) collapses

  seen-pad : (i : ℕ) (text : List ℕ) → seen_by type (pad i text) ≡ seen_by type text
  seen-pad i text = seen-collapsed (pad i text) ∙ collapsed-pad i text ∙ sym (seen-collapsed text)

  pad_takes_one : (text : List ℕ) (n : ℕ) (except : Except) → takes_spaced type text except ≡ false → TakesOne (λ i. is_taken_away type (pad i text) except) n
  pad_takes_one text n (Own literal) spared = record {
    once = λ i j hi hj ti tj. absurd (false≢true (sym spared ∙ ap (λ (t : List ℕ). is_same_of_form type.form t (seen_by type literal)) (sym (seen-pad i text)) ∙ ti));
  }
  pad_takes_one text n (BuiltinString literal) spared = record { once = λ i j hi hj ti tj. apart-pad i j text (same_by (pad i text) (pad j text) literal ti tj) }
  pad_takes_one text n (BuiltinToken literal) spared = record {
    once = λ i j hi hj ti tj. absurd (false≢true (sym spared ∙ ap (λ (t : List ℕ). bytes_eq t (collapsed literal)) (sym (collapsed-pad i text)) ∙ ti));
  }

  pad_each : (text : List ℕ) (n : ℕ) (excepts : List Except) → is_left_spaced type excepts text ≡ true → AllByRecursion (λ except. TakesOne (λ i. is_taken_away type (pad i text) except) n) excepts
  pad_each text n [] spared = tt
  pad_each text n (except ∷ excepts) spared =
      let parts = and_parts _ _ spared in
      (pad_takes_one text n except (not-true _ parts.0), pad_each text n excepts parts.1)

  pad_accepted : (i : ℕ) (text : List ℕ) → Accepts type text → Accepts type (pad i text)
  pad_accepted i text accepted = record {
    form = ap (has_form type.form) (seen-pad i text) ∙ accepted.form;
    facets = ap (λ (t : List ℕ). list_all (meets type.form t) type.facets) (seen-pad i text) ∙ accepted.facets;
  }

  -- a text is left, or one with spaces before it
  pub spaced_one : (excepts : List Except) (text : List ℕ) (n : ℕ) → length excepts < n → is_of_chars text ≡ true → Accepts type text → is_left_spaced type excepts text ≡ true
      → LeavesOne type excepts false (λ i. pad i text) n
  spaced_one excepts text n more of accepted spared =
      let left = one_left excepts (λ except i. is_taken_away type (pad i text) except) n (pad_each text n excepts spared) more in
      record {
        at = left.at;
        below = left.below;
        is = record {
          characters = characters_pad left.at text of;
          accepted = pad_accepted left.at text accepted;
          left = left.free;
          token = λ asked. absurd (false≢true asked);
        };
      }

  pub spaced_member : (excepts : List Except) (text : List ℕ) → is_of_chars text ≡ true → Accepts type text → is_left_spaced type excepts text ≡ true → LeavesMember type excepts false
  spaced_member excepts text of accepted spared = one_of (spaced_one excepts text (suc (length excepts)) (omega arith) of accepted spared)

-- what takes each of them takes the text
spared_case : (type : Datatype) (text : List ℕ) (except : Except) → is_taken_away type text except ≡ false → takes_spaced type text except ≡ false
spared_case type text (Own literal) spared = spared
spared_case type text (BuiltinString literal) spared = refl
spared_case type text (BuiltinToken literal) spared = spared

pub left_spaced : (type : Datatype) (text : List ℕ) (excepts : List Except) → is_left type excepts text ≡ true → is_left_spaced type excepts text ≡ true
left_spaced type text [] left = refl
left_spaced type text (except ∷ excepts) left =
    let parts = and_parts _ _ left in
    and_from _ _ (not_from_false _ (spared_case type text except (not-true _ parts.0))) (left_spaced type text excepts parts.1)

takes_alike : (type : Datatype) (a b : List ℕ) → seen_by type a ≡ seen_by type b → collapsed a ≡ collapsed b → (except : Except) → takes_spaced type a except ≡ takes_spaced type b except
takes_alike type a b seen same (Own literal) = ap (λ (t : List ℕ). is_same_of_form type.form t (seen_by type literal)) seen
takes_alike type a b seen same (BuiltinString literal) = refl
takes_alike type a b seen same (BuiltinToken literal) = ap (λ (t : List ℕ). bytes_eq t (collapsed literal)) same

pub left_spaced_alike : (type : Datatype) (a b : List ℕ) → seen_by type a ≡ seen_by type b → collapsed a ≡ collapsed b → (excepts : List Except) → is_left_spaced type excepts a ≡ is_left_spaced type excepts b
left_spaced_alike type a b seen same excepts = all_same (λ except. not (takes_spaced type a except)) (λ except. not (takes_spaced type b except)) (λ except. ap not (takes_alike type a b seen same except)) excepts
