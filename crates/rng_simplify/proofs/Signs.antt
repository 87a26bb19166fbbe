-- How definitions of one name are combined, with one more of them.
use Rattle.std.proofs.Common.{◌≡◌, refl, sym, ap, ◌∙◌, ℕ, ◌+◌, Bool, true, false, cond, List, [], ◌∷◌, ◌++◌, length, Some, None, arith, length-append}
use Rattle.std.specs.Prelude.{◌&&◌, ◌||◌, nat_lt, filter}
use Rattle.std.specs.List.{list_any}
use Rattle.std.proofs.lemmas.List.Folds.{list_any-append}
use Rattle.std.proofs.lemmas.List.{append-nil}
use Rattle.std.proofs.lemmas.Bool.{false≢true}
use Rattle.std.proofs.lemmas.List.Elements.{filter-append}
use Rattle.rnc_parse.specs.declared.surface.Combine.{Combine}
use Rattle.rnc_parse.specs.declared.surface.Combine.TheVariants as combine
use Rattle.std.proofs.lemmas.Option.{same_Some}
use Rattle.rng_simplify.specs.declared.resolve.Combined.{Combined}
use Rattle.rng_simplify.specs.Broken.{clash, is_alone, is_choice, is_interleave}
use Rattle.rng_simplify.specs.Forms.{combine_of}
use Rattle.rng_simplify.specs.Findings.{HasSigns, both_say}

-- what the first that says something says of all
abbrev TellsOf : Bool → Bool → Combine → Type 0
TellsOf choice interleave combine.Alone = (choice ≡ false) × (interleave ≡ false)
TellsOf choice interleave combine.Choice = choice ≡ true
TellsOf choice interleave combine.Interleave = interleave ≡ true

abbrev Tells : List Combine → Combine → Type 0
Tells all first = TellsOf (list_any is_choice all) (list_any is_interleave all) first

told : (all : List Combine) → Tells all (combine_of all)
told [] = (refl, refl)
told (combine.Alone ∷ more) = told more
told (combine.Choice ∷ more) = refl
told (combine.Interleave ∷ more) = refl

-- what one says, and else another
abbrev then_says : Combine → Combine → Combine
then_says combine.Alone next = next
then_says combine.Choice next = combine.Choice
then_says combine.Interleave next = combine.Interleave

one_says : (c : Combine) → combine_of (c ∷ []) ≡ c
one_says combine.Alone = refl
one_says combine.Choice = refl
one_says combine.Interleave = refl

says_next : (all : List Combine) (c : Combine) → combine_of (all ++ c ∷ []) ≡ then_says (combine_of all) c
says_next [] c = one_says c
says_next (combine.Alone ∷ more) c = says_next more c
says_next (combine.Choice ∷ more) c = refl
says_next (combine.Interleave ∷ more) c = refl

ok_says : (before c after : Combine) → both_say before c ≡ Some after → then_says before c ≡ after
ok_says combine.Alone combine.Alone after h = same_Some _ _ h
ok_says combine.Alone combine.Choice after h = same_Some _ _ h
ok_says combine.Alone combine.Interleave after h = same_Some _ _ h
ok_says combine.Choice combine.Alone after h = same_Some _ _ h
ok_says combine.Choice combine.Choice after h = same_Some _ _ h
ok_says combine.Choice combine.Interleave after h = absurd cc
ok_says combine.Interleave combine.Alone after h = same_Some _ _ h
ok_says combine.Interleave combine.Choice after h = absurd cc
ok_says combine.Interleave combine.Interleave after h = same_Some _ _ h

-- ---- tests

or_false : (a b : Bool) → (a || b) ≡ false → (a ≡ false) × (b ≡ false)
or_false true b h = absurd cc
or_false false b h = (refl, h)

or_right : (a : Bool) → (a || true) ≡ true
or_right true = refl
or_right false = refl

or_nothing : (a : Bool) → (a || false) ≡ a
or_nothing true = refl
or_nothing false = refl

and_right : (a : Bool) → (a && false) ≡ false
and_right true = refl
and_right false = refl

and_true : (a : Bool) → (a && true) ≡ a
and_true true = refl
and_true false = refl

any_alone_count : (all : List Combine) → nat_lt 0 (length (filter is_alone all)) ≡ list_any is_alone all
any_alone_count [] = refl
any_alone_count (combine.Alone ∷ more) = grind arith
any_alone_count (combine.Choice ∷ more) = any_alone_count more
any_alone_count (combine.Interleave ∷ more) = any_alone_count more

-- whether too many say nothing, or it is said in two ways
abbrev clashes : Bool → Bool → Bool → Bool
clashes many choice interleave = many || (choice && interleave)

abbrev many : List Combine → Bool
many all = nat_lt 1 (length (filter is_alone all))

-- one more that says something
many_more : (all : List Combine) (c : Combine) → is_alone c ≡ false → many (all ++ c ∷ []) ≡ many all
many_more all c says = ap (λ (xs : List Combine). nat_lt 1 (length xs)) (filter-append is_alone all (c ∷ []) ∙ ap (λ b. filter is_alone all ++ cond b (c ∷ []) []) says ∙ append-nil (filter is_alone all))

-- one more that says nothing
many_alone : (all : List Combine) → many (all ++ combine.Alone ∷ []) ≡ nat_lt 0 (length (filter is_alone all))
many_alone all = ap (λ (xs : List Combine). nat_lt 1 (length xs)) (filter-append is_alone all (combine.Alone ∷ [])) ∙ ap (nat_lt 1) (length-append (filter is_alone all) (combine.Alone ∷ [])) ∙ lt_more (length (filter is_alone all))
  where
    lt_more : (n : ℕ) → nat_lt 1 (n + 1) ≡ nat_lt 0 n
    lt_more n = grind arith

clash_next : (all : List Combine) (c : Combine) → clash (all ++ c ∷ []) ≡ clashes (many (all ++ c ∷ [])) (list_any is_choice all || list_any is_choice (c ∷ [])) (list_any is_interleave all || list_any is_interleave (c ∷ []))
clash_next all c =
    ap (λ b. clashes (many (all ++ c ∷ [])) b (list_any is_interleave (all ++ c ∷ []))) (list_any-append is_choice all (c ∷ []))
    ∙ ap (λ b. clashes (many (all ++ c ∷ [])) (list_any is_choice all || list_any is_choice (c ∷ [])) b) (list_any-append is_interleave all (c ∷ []))

-- what isn't said
no_interleave : (m choice interleave : Bool) (first : Combine) → clashes m choice interleave ≡ false → TellsOf choice interleave first → (first ≡ combine.Interleave → ⊥) → interleave ≡ false
no_interleave m choice interleave combine.Alone h told other = told.1
no_interleave m choice interleave combine.Choice h told other = sym (ap (λ b. b && interleave) told) ∙ (or_false m (choice && interleave) h).1
no_interleave m choice interleave combine.Interleave h told other = absurd (other refl)

no_choice : (m choice interleave : Bool) (first : Combine) → clashes m choice interleave ≡ false → TellsOf choice interleave first → (first ≡ combine.Choice → ⊥) → choice ≡ false
no_choice m choice interleave combine.Alone h told other = told.0
no_choice m choice interleave combine.Choice h told other = absurd (other refl)
no_choice m choice interleave combine.Interleave h told other =
    sym (and_true choice) ∙ ap (λ b. choice && b) (sym told) ∙ (or_false m (choice && interleave) h).1

-- ---- one more definition

-- it doesn't clash with the others
not_clashing : (all : List Combine) (c : Combine) → clash all ≡ false → (c ≡ combine.Alone → list_any is_alone all ≡ false) → (c ≡ combine.Choice → combine_of all ≡ combine.Interleave → ⊥) → (c ≡ combine.Interleave → combine_of all ≡ combine.Choice → ⊥) → clash (all ++ c ∷ []) ≡ false
not_clashing all combine.Alone h alone choice interleave =
    let parts = or_false (many all) (list_any is_choice all && list_any is_interleave all) h in
    clash_next all combine.Alone
    ∙ ap (λ b. clashes b (list_any is_choice all || false) (list_any is_interleave all || false)) (many_alone all ∙ any_alone_count all ∙ alone refl)
    ∙ ap (λ b. b && (list_any is_interleave all || false)) (or_nothing (list_any is_choice all))
    ∙ ap (λ b. list_any is_choice all && b) (or_nothing (list_any is_interleave all))
    ∙ parts.1
not_clashing all combine.Choice h alone choice interleave =
    let parts = or_false (many all) (list_any is_choice all && list_any is_interleave all) h in
    let none = no_interleave (many all) (list_any is_choice all) (list_any is_interleave all) (combine_of all) h (told all) (choice refl) in
    clash_next all combine.Choice
    ∙ ap (λ b. clashes b (list_any is_choice all || true) (list_any is_interleave all || false)) (many_more all combine.Choice refl ∙ parts.0)
    ∙ ap (λ b. (list_any is_choice all || true) && (b || false)) none
    ∙ and_right (list_any is_choice all || true)
not_clashing all combine.Interleave h alone choice interleave =
    let parts = or_false (many all) (list_any is_choice all && list_any is_interleave all) h in
    let none = no_choice (many all) (list_any is_choice all) (list_any is_interleave all) (combine_of all) h (told all) (interleave refl) in
    clash_next all combine.Interleave
    ∙ ap (λ b. clashes b (list_any is_choice all || false) (list_any is_interleave all || true)) (many_more all combine.Interleave refl ∙ parts.0)
    ∙ ap (λ b. (b || false) && (list_any is_interleave all || true)) none

pub signs_added : (all : List Combine) (c : Combine) (old new : Combined) → HasSigns all old → both_say old.combine c ≡ Some new.combine → new.has_alone ≡ (old.has_alone || is_alone c) → (old.has_alone && is_alone c) ≡ false → HasSigns (all ++ c ∷ []) new
signs_added all c old new signs both alone none = record {
  combine_is = sym (ok_says old.combine c new.combine both) ∙ ap (λ b. then_says b c) signs.combine_is ∙ sym (says_next all c);
  alone_is = alone ∙ ap (λ b. b || is_alone c) signs.alone_is ∙ ap (λ b. list_any is_alone all || b) (sym (or_nothing (is_alone c))) ∙ sym (list_any-append is_alone all (c ∷ []));
  no_clash = not_clashing all c signs.no_clash (λ is. sym signs.alone_is ∙ sym (and_true old.has_alone) ∙ ap (λ b. old.has_alone && is_alone b) (sym is) ∙ none)
      (λ is said. not_choice old.combine c new.combine both (signs.combine_is ∙ said) is)
      (λ is said. not_interleave old.combine c new.combine both (signs.combine_is ∙ said) is);
}
  where
    not_choice : (before c after : Combine) → both_say before c ≡ Some after → before ≡ combine.Interleave → c ≡ combine.Choice → ⊥
    not_choice before c after both said is =
        let both' : both_say combine.Interleave combine.Choice ≡ Some after = ap (λ b. both_say b combine.Choice) (sym said) ∙ ap (both_say before) (sym is) ∙ both in
        absurd cc

    not_interleave : (before c after : Combine) → both_say before c ≡ Some after → before ≡ combine.Choice → c ≡ combine.Interleave → ⊥
    not_interleave before c after both said is =
        let both' : both_say combine.Choice combine.Interleave ≡ Some after = ap (λ b. both_say b combine.Interleave) (sym said) ∙ ap (both_say before) (sym is) ∙ both in
        absurd cc

-- two say nothing
alone_clash : (all : List Combine) (old : Combined) → HasSigns all old → old.has_alone ≡ true → clash (all ++ combine.Alone ∷ []) ≡ true
alone_clash all old signs alone =
    clash_next all combine.Alone
    ∙ ap (λ b. clashes b (list_any is_choice all || false) (list_any is_interleave all || false)) (many_alone all ∙ any_alone_count all ∙ sym signs.alone_is ∙ alone)

pub both_alone_clash : (all : List Combine) (c : Combine) (old : Combined) → HasSigns all old → (old.has_alone && is_alone c) ≡ true → clash (all ++ c ∷ []) ≡ true
both_alone_clash all combine.Alone old signs both = alone_clash all old signs (sym (and_true old.has_alone) ∙ both)
both_alone_clash all combine.Choice old signs both = absurd (false≢true (sym (and_right old.has_alone) ∙ both))
both_alone_clash all combine.Interleave old signs both = absurd (false≢true (sym (and_right old.has_alone) ∙ both))

-- it is said in two ways
two_ways_clash : (all : List Combine) (before c : Combine) → Tells all before → both_say before c ≡ None → clash (all ++ c ∷ []) ≡ true
two_ways_clash all before combine.Alone h is = absurd cc
two_ways_clash all combine.Alone combine.Choice h is = absurd cc
two_ways_clash all combine.Alone combine.Interleave h is = absurd cc
two_ways_clash all combine.Choice combine.Choice h is = absurd cc
two_ways_clash all combine.Interleave combine.Interleave h is = absurd cc
two_ways_clash all combine.Choice combine.Interleave h is =
    clash_next all combine.Interleave
    ∙ ap (λ b. clashes (many (all ++ combine.Interleave ∷ [])) (b || false) (list_any is_interleave all || true)) h
    ∙ ap (λ b. many (all ++ combine.Interleave ∷ []) || b) (or_right (list_any is_interleave all))
    ∙ or_right (many (all ++ combine.Interleave ∷ []))
two_ways_clash all combine.Interleave combine.Choice h is =
    clash_next all combine.Choice
    ∙ ap (λ b. clashes (many (all ++ combine.Choice ∷ [])) b (list_any is_interleave all || false)) (or_right (list_any is_choice all))
    ∙ ap (λ b. many (all ++ combine.Choice ∷ []) || (b || false)) h
    ∙ or_right (many (all ++ combine.Choice ∷ []))

pub both_ways_clash : (all : List Combine) (c : Combine) (old : Combined) → HasSigns all old → both_say old.combine c ≡ None → clash (all ++ c ∷ []) ≡ true
both_ways_clash all c old signs is = two_ways_clash all (combine_of all) c (told all) (ap (λ b. both_say b c) (sym signs.combine_is) ∙ is)

-- a definition alone
pub signs_of_one : (c : Combine) (combination : Combined) → combination.combine ≡ c → combination.has_alone ≡ is_alone c → HasSigns (c ∷ []) combination
signs_of_one c combination said alone = record { combine_is = said ∙ sym (one_says c); alone_is = alone ∙ sym (or_nothing (is_alone c)); no_clash = alone_clashes_not c }
  where
    alone_clashes_not : (c : Combine) → clash (c ∷ []) ≡ false
    alone_clashes_not combine.Alone = refl
    alone_clashes_not combine.Choice = refl
    alone_clashes_not combine.Interleave = refl

-- ---- more definitions clash no less

many_longer : (n m : ℕ) → nat_lt 1 n ≡ true → nat_lt 1 (n + m) ≡ true
many_longer n m h = grind arith

and_both : (a b : Bool) → (a && b) ≡ true → (a ≡ true) × (b ≡ true)
and_both true b h = (refl, h)
and_both false b h = absurd (false≢true h)

clashes_more : (m m' choice choice' interleave interleave' : Bool) → (m ≡ true → m' ≡ true) → clashes m choice interleave ≡ true → clashes m' (choice || choice') (interleave || interleave') ≡ true
clashes_more true m' choice choice' interleave interleave' longer h = ap (λ b. clashes b (choice || choice') (interleave || interleave')) (longer refl)
clashes_more false m' choice choice' interleave interleave' longer h =
    let parts = and_both choice interleave h in
    ap (λ b. clashes m' (b || choice') (interleave || interleave')) parts.0
    ∙ ap (λ b. clashes m' true (b || interleave')) parts.1
    ∙ or_right m'

pub clash_more : (all more : List Combine) → clash all ≡ true → clash (all ++ more) ≡ true
clash_more all more h =
    ap (λ b. clashes (many (all ++ more)) b (list_any is_interleave (all ++ more))) (list_any-append is_choice all more)
    ∙ ap (λ b. clashes (many (all ++ more)) (list_any is_choice all || list_any is_choice more) b) (list_any-append is_interleave all more)
    ∙ clashes_more (many all) (many (all ++ more)) (list_any is_choice all) (list_any is_choice more) (list_any is_interleave all) (list_any is_interleave more)
    (λ long. ap (λ (xs : List Combine). nat_lt 1 (length xs)) (filter-append is_alone all more) ∙ ap (nat_lt 1) (length-append (filter is_alone all) (filter is_alone more)) ∙ many_longer (length (filter is_alone all)) (length (filter is_alone more)) long)
    h
