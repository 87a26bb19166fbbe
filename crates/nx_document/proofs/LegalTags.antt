-- What is legal in a tag: its values alone can break it.
use Rattle.std.proofs.Common.{◌≡◌, ℕ, ◌<◌, append_assoc, List, [], ◌∷◌, ◌++◌, length, get_or, refl, sym, subst, arith}
use Rattle.std.specs.List.{AllByRecursion}
use Rattle.std.specs.Str.{IsUtf8}
use Rattle.std.proofs.lemmas.List.{take_at, length-append}
use Rattle.std.proofs.Math.Seq.{drop-append-add}
use Rattle.nx_events.specs.SpelledTags.{IsName}
use Rattle.nx_events.specs.Spelling.{Written, IsWritten, middle, spelled_before, spelled_all}
use Rattle.nx_events.specs.declared.reading.Reading.TheVariants.{Value}
use Rattle.nx_events.proofs.Spelling.{spaces_between}
use Rattle.nx_events.proofs.TextTags.{quote_small}
use Rattle.nx_events.proofs.Texts.{up_to, behind}
use Rattle.nx_document.specs.Constraints.{IsLegal}
use Rattle.nx_document.specs.LegalReadings.{LegalTagsHaveLegalValues}
use Rattle.nx_document.proofs.CleanTexts.{IsClean, clean_append, clean_legal, legal_clean}
use Rattle.nx_document.proofs.FineTexts.{AreFine, fine_append, fine_clean, fine_between, quote_fine, less_fine, equals_fine, fine_name, behind_fine}
use Rattle.nx_document.proofs.QuotedTexts.{value_apart}

-- what stands before a value, with its quote
abbrev before_quote : Written → List ℕ
before_quote it = it.space ++ (it.name ++ middle it)

abbrev before_value : Written → List ℕ
before_value it = before_quote it ++ it.quote ∷ []

to_value : (it : Written) (rest : List ℕ) → it.space ++ spelled_before it rest ≡ before_value it ++ (it.value ++ it.quote ∷ rest)
to_value it rest = simp append_assoc

before_fine : (it : Written) → IsWritten it → IsName it.name → AreFine (before_value it)
before_fine it w n =
    fine_append (before_quote it) (it.quote ∷ [])
    (fine_append it.space (it.name ++ middle it) (fine_between it.space (spaces_between it.space w.space))
    (fine_append it.name (middle it) (fine_name it.name n)
    (fine_append it.before (61 ∷ it.behind) (fine_between it.before (spaces_between it.before w.before))
    (fine_append (61 ∷ []) it.behind equals_fine (fine_between it.behind (spaces_between it.behind w.behind))))))
    (quote_fine it.quote w.quote)

abbrev AreNamed : List Written → Type 0
AreNamed its = AllByRecursion (λ (it : Written). IsName it.name) its

abbrev CleanValues : List Written → Type 0
CleanValues its = AllByRecursion (λ (it : Written). IsClean it.value) its

values_clean : (its : List Written) (closing : List ℕ) → AllByRecursion IsWritten its → AreNamed its → IsClean (spelled_all its closing) → CleanValues its
values_clean [] closing w n k = tt
values_clean (it ∷ its) closing w n k =
    let rest = spelled_all its closing in
    let inner = behind_fine (before_value it) (it.value ++ it.quote ∷ rest) (before_fine it w.0 n.0) (subst (λ xs. IsClean xs) (to_value it rest) k) in
    let both = value_apart it.quote w.0.quote (it.value ++ it.quote ∷ rest) inner it.value rest w.0.value refl in
    (both.0, values_clean its closing w.1 n.1 both.1)

tags_clean : (its : List Written) (closing : List ℕ) → AllByRecursion IsWritten its → AreNamed its → IsClean closing → CleanValues its → IsClean (spelled_all its closing)
tags_clean [] closing w n k v = k
tags_clean (it ∷ its) closing w n k v =
    let rest = spelled_all its closing in
    subst (λ xs. IsClean xs) (sym (to_value it rest))
    (clean_append (before_value it) (it.value ++ it.quote ∷ rest) (fine_clean (before_value it) (before_fine it w.0 n.0))
    (clean_append it.value (it.quote ∷ rest) v.0
    (clean_append (it.quote ∷ []) rest (fine_clean (it.quote ∷ []) (quote_fine it.quote w.0.quote)) (tags_clean its closing w.1 n.1 k v.1))))

-- what stands before a byte of ASCII, and behind it
byte_at : (xs ys : List ℕ) (b : ℕ) → get_or (xs ++ b ∷ ys) (length xs) 0 ≡ b
byte_at [] ys b = refl
byte_at (x ∷ xs) ys b = byte_at xs ys b

text_before : (xs ys : List ℕ) (b : ℕ) → b < 128 → IsUtf8 (xs ++ b ∷ ys) → IsUtf8 xs
text_before xs ys b small u =
    let size = length-append xs (b ∷ ys) in
    subst (λ (zs : List ℕ). IsUtf8 zs) (take_at xs (b ∷ ys) (length xs) refl) (up_to (xs ++ b ∷ ys) (length xs) u (omega arith) (λ lt. let same = byte_at xs ys b in omega arith))

text_behind : (xs ys : List ℕ) (b : ℕ) → b < 128 → IsUtf8 (xs ++ b ∷ ys) → IsUtf8 ys
text_behind xs ys b small u =
    let size = length-append xs (b ∷ ys) in
    subst (λ (zs : List ℕ). IsUtf8 zs) (drop-append-add xs (b ∷ ys) 1) (behind (xs ++ b ∷ ys) (length xs) u (omega arith) (let same = byte_at xs ys b in omega arith))

values_text : (its : List Written) (closing front : List ℕ) → AllByRecursion IsWritten its → IsUtf8 (front ++ spelled_all its closing) → AllByRecursion (λ (it : Written). IsUtf8 it.value) its
values_text [] closing front w u = tt
values_text (it ∷ its) closing front w u =
    let rest = spelled_all its closing in
    let small = quote_small it.quote w.0.quote in
    let inner = text_behind (front ++ before_quote it) (it.value ++ it.quote ∷ rest) it.quote small (subst (λ (xs : List ℕ). IsUtf8 xs) (regroup it rest) u) in
    (text_before it.value rest it.quote small inner, values_text its closing [] w.1 (text_behind it.value rest it.quote small inner))
  where
    regroup : (it : Written) (rest : List ℕ) → front ++ (it.space ++ spelled_before it rest) ≡ (front ++ before_quote it) ++ it.quote ∷ (it.value ++ it.quote ∷ rest)
    regroup it rest = simp append_assoc

-- the values
values_legal : (its : List Written) → CleanValues its → AllByRecursion (λ (it : Written). IsLegal Value it.value) its
values_legal [] k = tt
values_legal (it ∷ its) k = (clean_legal it.value k.0, values_legal its k.1)

legal_values : (its : List Written) → AllByRecursion (λ (it : Written). IsUtf8 it.value) its → AllByRecursion (λ (it : Written). IsLegal Value it.value) its → CleanValues its
legal_values [] u k = tt
legal_values (it ∷ its) u k = (legal_clean it.value u.0 k.0, legal_values its u.1 k.1)

pub legal_tags : LegalTagsHaveLegalValues
legal_tags mark bytes tag u =
    let closing = tag.space ++ mark in
    let rest = spelled_all tag.attributes closing in
    let front = 60 ∷ tag.name in
    let is = tag.is_tag in
    let fine : AreFine front = fine_append (60 ∷ []) tag.name less_fine (fine_name tag.name tag.is_name) in
    let values = values_text tag.attributes closing front is.written (subst (λ (xs : List ℕ). IsUtf8 xs) tag.spelled u) in (
      (λ legal. values_legal tag.attributes (values_clean tag.attributes closing is.written tag.are_names
          (behind_fine front rest fine (subst (λ xs. IsClean xs) tag.spelled (legal_clean bytes u legal))))),
      (λ legal. clean_legal bytes (subst (λ xs. IsClean xs) (sym tag.spelled)
          (clean_append front rest (fine_clean front fine) (tags_clean tag.attributes closing is.written tag.are_names (fine_clean closing (fine_between closing is.closes)) (legal_values tag.attributes values legal))))),
    )
