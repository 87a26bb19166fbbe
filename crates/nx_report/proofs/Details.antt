-- The words of a detail are the names that it was made of.
use Rattle.std.proofs.Common.{◌≡◌, ◌∙◌, ◌⊎◌, inl, inr, ℕ, Bool, true, false, cond, not, List, [], ◌∷◌, ◌++◌, drop, map, refl, sym, ap, append_assoc, append-nil}
use Rattle.std.specs.Prelude.{◌==◌, ◌&&◌, ◌||◌, codes}
use Rattle.std.specs.List.{list_all, flat_map}
use Rattle.std.proofs.lemmas.Bool.{and_parts}
use Rattle.nx_base.specs.PrintedNames.{braced, name_text}
use Rattle.nx_base.specs.declared.name.Name.{Name}
use Rattle.nx_report.specs.Words.{ends_word, in_braces_behind, onto, words_in, words, needed_words, is_no_end, is_no_border, is_separable, spaced, DetailsAreRead}

-- bytes in front of the first of some words
abbrev all_onto : List ℕ → List (List ℕ) → List (List ℕ)
all_onto [] ws = ws
all_onto (x ∷ xs) ws = onto x (all_onto xs ws)

one_word : (xs w : List ℕ) (ws : List (List ℕ)) → all_onto xs (w ∷ ws) ≡ (xs ++ w) ∷ ws
one_word [] w ws = refl
one_word (x ∷ xs) w ws = ap (onto x) (one_word xs w ws)

both_onto : (xs ys : List ℕ) (ws : List (List ℕ)) → all_onto (xs ++ ys) ws ≡ all_onto xs (all_onto ys ws)
both_onto [] ys ws = refl
both_onto (x ∷ xs) ys ws = ap (onto x) (both_onto xs ys ws)

-- no byte of a local part ends a word or opens a brace
outside : (local rest : List ℕ) → list_all is_no_border local ≡ true → words_in false (local ++ rest) ≡ all_onto local (words_in false rest)
outside [] rest is = refl
outside (b ∷ bs) rest is =
    let parts = and_parts (is_no_border b) (list_all is_no_border bs) is in
    by (b == 32) (b == 123) parts.0 (outside bs rest parts.1)
  where
    by : (p q : Bool) → not (p || q) ≡ true → words_in false (bs ++ rest) ≡ all_onto bs (words_in false rest)
        → cond p ([] ∷ words_in false (bs ++ rest)) (onto b (words_in q (bs ++ rest))) ≡ onto b (all_onto bs (words_in false rest))
    by true q is more = cc
    by false true is more = cc
    by false false is more = ap (onto b) more

-- in braces a word goes on to the brace that closes
inside : (ns rest : List ℕ) → list_all is_no_end ns ≡ true → words_in true (ns ++ 125 ∷ rest) ≡ all_onto ns (onto 125 (words_in false rest))
inside [] rest is = refl
inside (b ∷ bs) rest is =
    let parts = and_parts (is_no_end b) (list_all is_no_end bs) is in
    ap (λ (t : Bool). onto b (words_in t (bs ++ 125 ∷ rest))) parts.0 ∙ ap (onto b) (inside bs rest parts.1)

name_word : (name : Name) (rest : List ℕ) → is_separable name ≡ true → words_in false (name_text name ++ rest) ≡ all_onto (name_text name) (words_in false rest)
name_word name rest is =
    let parts = and_parts (list_all is_no_end name.ns) (list_all is_no_border name.local) is in by name.ns parts.0 (outside name.local rest parts.1)
  where
    by : (ns : List ℕ) → list_all is_no_end ns ≡ true → words_in false (name.local ++ rest) ≡ all_onto name.local (words_in false rest)
        → words_in false ((braced ns ++ name.local) ++ rest) ≡ all_onto (braced ns ++ name.local) (words_in false rest)
    by [] closed more = more
    by (b ∷ bs) closed more =
        let ns = b ∷ bs in
        let text : ((ns ++ 125 ∷ []) ++ name.local) ++ rest ≡ ns ++ 125 ∷ (name.local ++ rest) =
        append_assoc (ns ++ 125 ∷ []) name.local rest ∙ append_assoc ns (125 ∷ []) (name.local ++ rest) in
        ap (λ (t : List ℕ). onto 123 (words_in true t)) text
        ∙ ap (onto 123) (inside ns (name.local ++ rest) closed ∙ ap (λ ws. all_onto ns (onto 125 ws)) more)
        ∙ sym (ap (onto 123) (both_onto (ns ++ 125 ∷ []) name.local (words_in false rest) ∙ both_onto ns (125 ∷ []) (all_onto name.local (words_in false rest))))

-- a word, and the others behind it
behind : (word : List ℕ) (ws : List (List ℕ)) → all_onto word ([] ∷ ws) ≡ word ∷ ws
behind word ws = one_word word [] ws ∙ ap (λ w. w ∷ ws) (append-nil word)

others_are : (word : List ℕ) (others : List Name) → list_all is_separable others ≡ true → all_onto word (words_in false (spaced others)) ≡ word ∷ map name_text others
others_are word [] is = behind word []
others_are word (other ∷ others) is =
    let parts = and_parts (is_separable other) (list_all is_separable others) is in
    behind word (words_in false (name_text other ++ spaced others))
    ∙ ap (λ ws. word ∷ ws) (name_word other (spaced others) parts.0 ∙ others_are (name_text other) others parts.1)

pub details_are : DetailsAreRead
details_are = record {
  lists = λ name others is.
      let parts = and_parts (is_separable name) (list_all is_separable others) is in
      name_word name (spaced others) parts.0 ∙ others_are (name_text name) others parts.1;
  needs = λ name needed is.
      let parts = and_parts (is_separable name) (list_all is_separable needed) is in
      ap (drop 2) (name_word name (codes " needs" ++ spaced needed) parts.0
      ∙ behind (name_text name) (words_in false (codes "needs" ++ spaced needed))
      ∙ ap (λ ws. name_text name ∷ ws) (outside (codes "needs") (spaced needed) refl ∙ others_are (codes "needs") needed parts.1));
}
