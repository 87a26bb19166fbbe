-- Strings of patterns by those of their parts.
use Rattle.std.proofs.Common.{◌≡◌, ◌≤◌, ℕ, List, [], ◌∷◌, Bool, true, false, ◌&&◌, ◌||◌, refl, sym, ap, subst, ◌∙◌, arith, length}
use Rattle.std.specs.Prelude.{IsTrue, Option, None, Some, is_some, replicate}
use Rattle.std.specs.List.{join_with_byte}
use Rattle.std.proofs.lemmas.Bool.{and_parts, false≢true, false_from_ne_true}
use Rattle.nx_base.specs.Characters.{is_blank, is_of_chars, is_space}
use Rattle.nx_base.specs.Trees.{nil, string}
use Rattle.rng_types.specs.Answers.{is_accepted}
use Rattle.rng_types.specs.Giving.{IsMemberAnswer}
use Rattle.rng_types.specs.MemberTest.{has_member}
use Rattle.rng_types.specs.declared.datatype.Datatype.{Datatype}
use Rattle.rng_types.specs.declared.datatype.Except.{Except}
use Rattle.rng_types.specs.declared.datatype.Except.TheVariants.{BuiltinToken}
use Rattle.rng_types.proofs.Collapsed.{words-blank}
use Rattle.rng_types.proofs.Deciding.{accepts_decided}
use Rattle.rng_types.proofs.Exist.{members_exist}
use Rattle.rng_core.specs.Patterns.{Pattern, Definition, any_text, typed, literal, choice, group, interleave}
use Rattle.rng_core.specs.Matching.{no_attribute, then_second, no_string, one_string, Matches, by_second, by_group, by_interleave}
use Rattle.rng_core.specs.Matching.{by_text, by_data, by_attribute, by_blank_attribute}
use Rattle.rng_kept.specs.Nullable.{nullable}
use Rattle.rng_residual.proofs.SmallPatterns.{order_all, shuffle_all, shuffle_none}
use Rattle.rng_residual.proofs.Nullable.{nullable_out}
use Rattle.rng_residual.proofs.Cleaning.{own_text}
use Rattle.rng_fill.specs.Strings.{AreSoundTexts, beside_blanks, has_some_string, IsStringAnswer, IsBestString, IsValueAnswer}
use Rattle.rng_fill.proofs.Letters.{letters_are_of_chars}

-- ---- leaves

letter_solid : is_blank (97 ∷ []) ≡ false
unfolding is_space
letter_solid = refl

pub letter_answer : (solid : Bool) (text : List ℕ) → text ≡ replicate 1 97 → IsStringAnswer solid any_text (Some text)
letter_answer solid text is =
    subst (λ (t : List ℕ). IsStringAnswer solid any_text (Some t)) (sym is) (
      record { of_chars = letters_are_of_chars 1; matched = λ g. by_text (one_string no_string) },
      λ blank. false≢true (sym letter_solid ∙ (and_parts solid (is_blank (97 ∷ [])) blank).1),
    )

pub no_text_answer : (solid : Bool) → solid ≡ false → IsStringAnswer solid any_text (Some [])
no_text_answer solid is = (
  record { of_chars = letters_are_of_chars 0; matched = λ g. by_text (one_string no_string) },
  λ blank. false≢true (sym is ∙ (and_parts solid (is_blank []) blank).0),
)

few_beside : (solid : Bool) (excepts : List Except) → length excepts ≤ 128 → length (beside_blanks solid excepts) ≤ 129
few_beside true excepts few = omega (arith, few)
few_beside false excepts few = omega (arith, few)

pub no_blanks : (solid : Bool) (excepts : List Except) → solid ≡ false → beside_blanks solid excepts ≡ excepts
no_blanks true excepts is = absurd (false≢true (sym is))
no_blanks false excepts is = refl

pub with_blanks : (solid : Bool) (excepts : List Except) (text : List ℕ) → text ≡ [] → solid ≡ true
    → BuiltinToken text ∷ excepts ≡ beside_blanks solid excepts
with_blanks true excepts text none is = ap (λ (t : List ℕ). BuiltinToken t ∷ excepts) none
with_blanks false excepts text none is = absurd (false≢true is)

pub data_answer : (solid : Bool) (type : Datatype) (excepts : List Except) (found : Option (List ℕ)) → AreSoundTexts (typed type excepts)
    → IsMemberAnswer type (beside_blanks solid excepts) false found → IsStringAnswer solid (typed type excepts) found
data_answer solid type excepts None sound none =
    false_from_ne_true (has_member type (beside_blanks solid excepts) false)
    (λ h. none ((members_exist type (beside_blanks solid excepts) false sound.1 (few_beside solid excepts sound.0)).0 h))
data_answer false type excepts (Some text) sound member =
    (record { of_chars = member.0; matched = λ g. by_data member.1.accepted member.1.left }, λ blank. false≢true blank)
data_answer true type excepts (Some text) sound member = (
  record { of_chars = member.0; matched = λ g. by_data member.1.accepted member.1.left.1 },
  λ blank. member.1.left.0 (ap (join_with_byte 32) (words-blank text blank ∙ sym (words-blank [] refl))),
)

pub value_answer : (solid : Bool) (type : Datatype) (text : List ℕ) → IsTrue (is_accepted type text) → IsTrue (is_of_chars text)
    → (solid && is_blank text) ≡ false → IsStringAnswer solid (literal type text) (Some text)
value_answer solid type text accepted of solid_text =
    (record { of_chars = of; matched = λ g. own_text ((accepts_decided type text).0 accepted) }, λ blank. false≢true (sym solid_text ∙ blank))

-- what is asked of the bytes is asked of the text
pub unwanted : (solid : Bool) (text bytes : List ℕ) → bytes ≡ text → (solid && is_blank bytes) ≡ false → (solid && is_blank text) ≡ false
unwanted solid text bytes is h = subst (λ (t : List ℕ). (solid && is_blank t) ≡ false) is h

-- ---- parts

-- a string of a part is one of the whole, and where the part has none the whole has what is asked next
pub answer_by : (solid : Bool) (p r : Pattern) (found : Option (List ℕ)) → ((g : List Definition) (t : List ℕ) → Matches g p [] (string t nil)
    → Matches g r [] (string t nil)) → is_some found ≡ true → IsStringAnswer solid p found → IsStringAnswer solid r found
answer_by solid p r None f some a = absurd (false≢true some)
answer_by solid p r (Some text) f some a = (record { of_chars = a.0.of_chars; matched = λ g. f g text (a.0.matched g) }, a.1)

pub answer_after : (solid : Bool) (q r : Pattern) (found : Option (List ℕ)) → ((g : List Definition) (t : List ℕ) → Matches g q [] (string t nil)
    → Matches g r [] (string t nil)) → has_some_string solid r ≡ has_some_string solid q → IsStringAnswer solid q found
    → IsStringAnswer solid r found
answer_after solid q r None f same a = same ∙ a
answer_after solid q r (Some text) f same a = (record { of_chars = a.0.of_chars; matched = λ g. f g text (a.0.matched g) }, a.1)

pub none_of : (solid : Bool) (p : Pattern) (found : Option (List ℕ)) → is_some found ≡ false → IsStringAnswer solid p found
    → has_some_string solid p ≡ false
none_of solid p None none a = a
none_of solid p (Some text) none a = absurd (false≢true (sym none))

-- two patterns beside one another
pub record Sides (p q r : Pattern) : Type 0 where
  pub first : (g : List Definition) (t : List ℕ) → nullable q ≡ true → Matches g p [] (string t nil) → Matches g r [] (string t nil)
  pub second : (g : List Definition) (t : List ℕ) → nullable p ≡ true → Matches g q [] (string t nil) → Matches g r [] (string t nil)
  pub some : (solid : Bool) → has_some_string solid r ≡ ((has_some_string solid p && nullable q) || (nullable p && has_some_string solid q))

pub of_group : (p q : Pattern) → Sides p q (group p q)
of_group p q = record {
  first = λ g t h m. by_group no_attribute (order_all (string t nil)) m (nullable_out q h);
  second = λ g t h m. by_group no_attribute then_second (nullable_out p h) m;
  some = λ solid. refl;
}

pub of_interleave : (p q : Pattern) → Sides p q (interleave p q)
of_interleave p q = record {
  first = λ g t h m. by_interleave no_attribute (shuffle_all (string t nil)) m (nullable_out q h);
  second = λ g t h m. by_interleave no_attribute (shuffle_none (string t nil)) (nullable_out p h) m;
  some = λ solid. refl;
}

-- the first side has none that is taken, where the second matches something
pub record NoFirst (solid : Bool) (p q : Pattern) : Type 0 where
  pub none : (has_some_string solid p && nullable q) ≡ false

and_false : (b : Bool) → (b && false) ≡ false
and_false true = refl
and_false false = refl

pub not_first : (solid : Bool) (p q : Pattern) (found : Option (List ℕ)) (n : Bool) → n ≡ nullable q → (is_some found && n) ≡ false
    → IsStringAnswer solid p found → NoFirst solid p q
not_first solid p q None n is none a = record { none = ap (λ (b : Bool). b && nullable q) a }
not_first solid p q (Some text) n is none a = record {
  none = ap (λ (b : Bool). has_some_string solid p && b) (sym is ∙ none) ∙ and_false (has_some_string solid p);
}

second_alone : (a b c : Bool) → a ≡ false → b ≡ true → (a || (b && c)) ≡ c
second_alone true b c none some = absurd (false≢true (sym none))
second_alone false true c none some = refl
second_alone false false c none some = absurd (false≢true some)

neither : (a b c : Bool) → a ≡ false → b ≡ false → (a || (b && c)) ≡ false
neither true b c none nothing = absurd (false≢true (sym none))
neither false true c none nothing = absurd (false≢true (sym nothing))
neither false false c none nothing = refl

pub second_answer : {p q r : Pattern} → Sides p q r → (solid : Bool) (found : Option (List ℕ)) → NoFirst solid p q → nullable p ≡ true
    → IsStringAnswer solid q found → IsStringAnswer solid r found
second_answer {p = p} {q = q} {r = r} sides solid found none nothing a =
    answer_after solid q r found (λ g t m. sides.second g t nothing m)
    (sides.some solid ∙ second_alone (has_some_string solid p && nullable q) (nullable p) (has_some_string solid q) none.none nothing) a

pub no_answer : {p q r : Pattern} → Sides p q r → (solid : Bool) → NoFirst solid p q → nullable p ≡ false → has_some_string solid r ≡ false
no_answer {p = p} {q = q} sides solid none nothing =
    sides.some solid ∙ neither (has_some_string solid p && nullable q) (nullable p) (has_some_string solid q) none.none nothing

-- the same where the sides are read several times
pub second_read : {p q r : Pattern} → Sides p q r → (solid : Bool) (first found : Option (List ℕ)) (some n m : Bool) (p1 p2 q1 q2 : Pattern)
    → p1 ≡ p → p2 ≡ p → q1 ≡ q → q2 ≡ q → IsStringAnswer solid p1 first → some ≡ is_some first → n ≡ nullable q1 → (some && n) ≡ false
    → m ≡ nullable p2 → m ≡ true → IsStringAnswer solid q2 found → IsStringAnswer solid r found
second_read {p = p} {q = q} sides solid first found some n m p1 p2 q1 q2 is_p1 is_p2 is_q1 is_q2 a is_some_first is_n none is_m nothing b =
    let at_p : IsStringAnswer solid p first = subst (λ (x : Pattern). IsStringAnswer solid x first) is_p1 a in
    let at_q : IsStringAnswer solid q found = subst (λ (x : Pattern). IsStringAnswer solid x found) is_q2 b in
    let not_both : (is_some first && n) ≡ false = subst (λ (x : Bool). (x && n) ≡ false) is_some_first none in
    second_answer sides solid found (not_first solid p q first n (is_n ∙ ap nullable is_q1) not_both at_p)
    (sym (is_m ∙ ap nullable is_p2) ∙ nothing) at_q

-- a choice whose first side has none
pub second_choice : (p q : Pattern) (solid : Bool) (first found : Option (List ℕ)) → is_some first ≡ false → IsStringAnswer solid p first
    → IsStringAnswer solid q found → IsStringAnswer solid (choice p q) found
second_choice p q solid first found none a b =
    answer_after solid q (choice p q) found (λ g t m. by_second m)
    (ap (λ (x : Bool). x || has_some_string solid q) (none_of solid p first none a)) b

-- ---- the best one, and values

pub best_none : (solid : Bool) (p : Pattern) (found : Option (List ℕ)) → is_some found ≡ false → solid ≡ true → IsStringAnswer true p found
    → IsBestString solid p found
best_none solid p None none is a = subst (λ (b : Bool). has_some_string b p ≡ false) (sym is) a
best_none solid p (Some text) none is a = absurd (false≢true (sym none))

pub best_first : (solid : Bool) (p : Pattern) (found : Option (List ℕ)) → is_some found ≡ true → IsStringAnswer true p found
    → IsBestString solid p found
best_first solid p None some a = absurd (false≢true some)
best_first solid p (Some text) some a = (a.0, λ blank. absurd (a.1 blank))

pub best_second : (p : Pattern) (solid : Bool) (first found : Option (List ℕ)) → solid ≡ false → is_some first ≡ false → IsStringAnswer true p first
    → IsStringAnswer false p found → IsBestString solid p found
best_second p solid first None is none before a = subst (λ (b : Bool). has_some_string b p ≡ false) (sym is) a
best_second p solid first (Some text) is none before a = (a.0, λ blank. (is, none_of true p first none before))

pub empty_value : (body : Pattern) → nullable body ≡ true → IsValueAnswer body (Some [])
empty_value body h = record {
  of_chars = letters_are_of_chars 0;
  matched = λ g class name named. by_blank_attribute named refl (nullable_out body h);
}

pub string_value : (body : Pattern) (found : Option (List ℕ)) → nullable body ≡ false → IsBestString false body found → IsValueAnswer body found
string_value body None nothing a = ap (λ (b : Bool). b || nullable body) a ∙ nothing
string_value body (Some text) nothing a = record {
  of_chars = a.0.of_chars;
  matched = λ g class name named. by_attribute named (a.0.matched g);
}
