-- Rows that are read one element after another, by a loop that keeps what it read.
use Rattle.std.proofs.Common.{◌≡◌, ℕ, ◌+◌, ◌<◌, ◌≤◌, List, [], ◌∷◌, ◌++◌, length, map, get_or, drop, refl, sym, ap, ◌∙◌}
use Rattle.std.proofs.lemmas.List.{at_drop_more, at_drop_all}
use Rattle.rngx_read.specs.declared.element.Element.{Element}
use Rattle.rngx_read.specs.declared.stop.Stop.{Stop}
use Rattle.rngx_read.specs.declared.stop.Stop.TheVariants as stop
use Rattle.rnc_parse.specs.declared.surface.Item.{Item}
use Rattle.rnc_parse.specs.declared.surface.Replacement.{Replacement}
use Rattle.rnc_parse.specs.Views.{item_of, items_in, replacement_of, replacements_in}
use Rattle.rnc_parse.specs.Written.{item_then, no_items, replacement_then, no_replacements}
use Rattle.rngx_read.specs.Defaults.{Defaults, inside}
use Rattle.rngx_read.specs.Names.{Resolver}
use Rattle.rngx_read.specs.ReadingClasses.{class_at, class_readings}
use Rattle.rngx_read.specs.ReadingPatterns.{Parts, readings, pattern_at, item_by, replacement_by, part_by}
use Rattle.rngx_read.specs.Forms.{form_of}
use Rattle.rngx_read.specs.Views.{tag_of, children_of, listed}
use Rattle.rngx_read.specs.Reading.{Reading, read, no_form, no_prefix, ◌>>=◌}

-- ---- where a step stops

-- what is found by a call that stops so
abbrev pub Halts : {A : Type 0} → Stop → Reading A → Type 0
Halts (stop.Form at) found = found ≡ no_form
Halts (stop.Prefix prefix) found = found ≡ no_prefix prefix
Halts stop.NoMemory found = Unit {0}

halts_as : {A : Type 0} (why : Stop) (x y : Reading A) → x ≡ y → Halts why x → Halts why y
halts_as (stop.Form at) x y same h = sym same ∙ h
halts_as (stop.Prefix prefix) x y same h = sym same ∙ h
halts_as stop.NoMemory x y same h = tt

-- a step that stops is where the call stops
halts_behind : {A B : Type 0} (why : Stop) (found : Reading A) (more : A → Reading B) → Halts why found → Halts why (found >>= more)
halts_behind (stop.Form at) found more h = ap (λ x. x >>= more) h
halts_behind (stop.Prefix prefix) found more h = ap (λ x. x >>= more) h
halts_behind stop.NoMemory found more h = tt

-- ---- rows

module _ {A R : Type 0} (put : A → R → R) where
  -- a row with these in front
  abbrev pub in_front : List A → R → R
  in_front [] row = row
  in_front (x ∷ xs) row = put x (in_front xs row)

  in_front_push : (xs : List A) (x : A) (row : R) → in_front (xs ++ x ∷ []) row ≡ in_front xs (put x row)
  in_front_push [] x row = refl
  in_front_push (y ∷ xs) x row = ap (put y) (in_front_push xs x row)

  -- what a row is read as, where these stand in front of it
  abbrev pub with_front : List A → Reading R → Reading R
  with_front done rest = rest >>= λ row. read (in_front done row)

  -- what a row is read as, by its first element and the others
  abbrev pub and_others : Reading A → Reading R → Reading R
  and_others first others = first >>= λ x. others >>= λ row. read (put x row)

  one_further : (done : List A) (first : Reading A) (x : A) (others : Reading R) → first ≡ read x →
      with_front done (and_others first others) ≡ with_front (done ++ x ∷ []) others
  one_further done first x (read row) e = rw e (ap read (sym (in_front_push done x row)))
  one_further done first x no_form e = rw e refl
  one_further done first x (no_prefix prefix) e = rw e refl

  nothing_in_front : (found : Reading R) → with_front [] found ≡ found
  nothing_in_front (read row) = refl
  nothing_in_front no_form = refl
  nothing_in_front (no_prefix prefix) = refl

  -- what a row is read as, by what each element is
  pub record IsByElements (one : Element → Reading A) (row : List Element → Reading R) (none : R) : Type 0 where
    pub ended : row [] ≡ read none
    pub went : (first : Element) (others : List Element) → row (first ∷ others) ≡ and_others (one first) (row others)

  -- ---- a loop over elements, which keeps what those before the next one are read as

  module _ {one : Element → Reading A} {row : List Element → Reading R} {none : R} (by : IsByElements one row none) (elements : List Element) where
    pub begun : (done : List A) → done ≡ [] → with_front done (row elements) ≡ row elements
    begun done e = ap (λ (l : List A). with_front l (row elements)) e ∙ nothing_in_front (row elements)

    here : (i : ℕ) (element : Element) → i < length elements → element ≡ get_or elements i element →
        row (drop i elements) ≡ and_others (one element) (row (drop (i + 1) elements))
    here i element within is =
        at_drop_more row elements i element within ∙ ap (λ e. row (e ∷ drop (i + 1) elements)) (sym is) ∙ by.went element (drop (i + 1) elements)

    pub went_on : (done now : List A) (i : ℕ) (element : Element) (x : A) → i < length elements → element ≡ get_or elements i element →
        one element ≡ read x → now ≡ done ++ x ∷ [] → with_front done (row (drop i elements)) ≡ row elements →
        with_front now (row (drop (i + 1) elements)) ≡ row elements
    went_on done now i element x within is e pushed kept =
        ap (λ (l : List A). with_front l (row (drop (i + 1) elements))) pushed
        ∙ sym (one_further done (one element) x (row (drop (i + 1) elements)) e)
        ∙ sym (ap (with_front done) (here i element within is))
        ∙ kept

    pub stopped : (done : List A) (i : ℕ) (element : Element) (why : Stop) → i < length elements → element ≡ get_or elements i element →
        Halts why (one element) → with_front done (row (drop i elements)) ≡ row elements → Halts why (row elements)
    stopped done i element why within is halts kept =
        halts_as why _ _ (sym (ap (with_front done) (here i element within is)) ∙ kept)
        (halts_behind why (and_others (one element) (row (drop (i + 1) elements))) (λ rest. read (in_front done rest))
        (halts_behind why (one element) (λ x. row (drop (i + 1) elements) >>= λ rest. read (put x rest)) halts))

    pub over : (done : List A) (i : ℕ) → length elements ≤ i → with_front done (row (drop i elements)) ≡ row elements →
        row elements ≡ read (in_front done none)
    over done i all kept = sym kept ∙ ap (with_front done) (at_drop_all row elements i all ∙ by.ended)

-- ---- classes, patterns, items and replacements

pub list_in_front : {A : Type 0} (xs : List A) → in_front ◌∷◌ xs [] ≡ xs
list_in_front [] = refl
list_in_front (x ∷ xs) = ap (λ more. x ∷ more) (list_in_front xs)

pub items_in_front : (items : List Item) → in_front item_then (map item_of items) no_items ≡ items_in items
items_in_front [] = refl
items_in_front (item ∷ items) = ap (item_then (item_of item)) (items_in_front items)

pub replacements_in_front : (rs : List Replacement) → in_front replacement_then (map replacement_of rs) no_replacements ≡ replacements_in rs
replacements_in_front [] = refl
replacements_in_front (r ∷ rs) = ap (replacement_then (replacement_of r)) (replacements_in_front rs)

module _ (resolve : Resolver) (defaults : Defaults) where
  pub by_classes : IsByElements ◌∷◌ (λ e. class_at resolve defaults (tag_of e) (children_of e))
      (λ es. (class_readings resolve (listed es)).classes defaults) []
  unfolding class_at class_readings
  by_classes = record { ended = refl; went = λ first others. refl }

  pub by_patterns : IsByElements ◌∷◌ (λ e. pattern_at resolve defaults (tag_of e) (children_of e))
      (λ es. (readings resolve (listed es)).patterns defaults) []
  unfolding pattern_at readings
  by_patterns = record { ended = refl; went = λ first others. refl }

  pub by_items :
      IsByElements item_then
      (λ e. item_by resolve (inside defaults (tag_of e)) (tag_of e) (readings resolve (children_of e)) (form_of (tag_of e)))
      (λ es. (readings resolve (listed es)).items defaults) no_items
  unfolding readings
  by_items = record { ended = refl; went = λ first others. refl }

  pub by_replacements :
      IsByElements replacement_then
      (λ e. replacement_by resolve (inside defaults (tag_of e)) (tag_of e) (readings resolve (children_of e)) (form_of (tag_of e)))
      (λ es. (readings resolve (listed es)).replacements defaults) no_replacements
  unfolding readings
  by_replacements = record { ended = refl; went = λ first others. refl }

  -- ---- the parts of a `data`

  abbrev part : Element → Parts → Reading Parts
  part e before = part_by (inside defaults (tag_of e)) (tag_of e) (children_of e) (readings resolve (children_of e)) before.params before.except

  parts_here : (elements : List Element) (i : ℕ) (element : Element) (before : Parts) → i < length elements → element ≡ get_or elements i element →
      (readings resolve (listed (drop i elements))).parts defaults before
      ≡ (part element before >>= λ next. (readings resolve (listed (drop (i + 1) elements))).parts defaults next)
  unfolding readings
  parts_here elements i element before within is =
      at_drop_more (λ es. (readings resolve (listed es)).parts defaults before) elements i element within
      ∙ ap (λ e. (readings resolve (listed (e ∷ drop (i + 1) elements))).parts defaults before) (sym is)

  pub parts_went_on : (elements : List Element) (i : ℕ) (element : Element) (before next : Parts) (total : Reading Parts) → i < length elements →
      element ≡ get_or elements i element → part element before ≡ read next → (readings resolve (listed (drop i elements))).parts defaults before
      ≡ total →
      (readings resolve (listed (drop (i + 1) elements))).parts defaults next ≡ total
  parts_went_on elements i element before next total within is e kept =
      sym (ap (λ found. found >>= λ next. (readings resolve (listed (drop (i + 1) elements))).parts defaults next) e)
      ∙ sym (parts_here elements i element before within is)
      ∙ kept

  pub parts_stopped : (elements : List Element) (i : ℕ) (element : Element) (before : Parts) (total : Reading Parts) (why : Stop) →
      i < length elements →
      element ≡ get_or elements i element → Halts why (part element before) → (readings resolve (listed (drop i elements))).parts defaults before
      ≡ total →
      Halts why total
  parts_stopped elements i element before total why within is halts kept =
      halts_as why _ _ (sym (parts_here elements i element before within is) ∙ kept)
      (halts_behind why (part element before) (λ next. (readings resolve (listed (drop (i + 1) elements))).parts defaults next) halts)

  pub parts_over : (elements : List Element) (i : ℕ) (before : Parts) (total : Reading Parts) → length elements ≤ i →
      (readings resolve (listed (drop i elements))).parts defaults before ≡ total → total ≡ read before
  unfolding readings
  parts_over elements i before total all kept =
      sym kept ∙ at_drop_all (λ es. (readings resolve (listed es)).parts defaults before) elements i all
