-- Entries of a map from bytes, with one put in.
use Rattle.std.proofs.Common.{◌≡◌, ℕ, BTreeMap, Bool, true, false, cond, List, [], ◌∷◌, Option, Some, Vec, Global, refl, sym, ap, ◌∙◌}
use Rattle.std.specs.Cmp.Lexicographic.{slice_cmp, bytes_decides}
use Rattle.std.specs.BTreeMap.{insert_entry, is_at, get_by}
use Rattle.std.specs.Map.{lookup}
use Rattle.std.specs.List.{list_all, filter}
use Rattle.std.specs.Prelude.{◌&&◌}
use Rattle.std.specs.Ordering.{nat_cmp, is_eq, match_ordering}
use Rattle.std.specs.Str.{bytes_eq}
use Rattle.std.specs.declared.cmp.Ordering.{Ordering}
use Rattle.std.specs.declared.cmp.Ordering.TheVariants.{Less, Equal, Greater}
use Rattle.std.proofs.lemmas.Bool.{false≢true}
use Rattle.rnc_parse.specs.declared.surface.Defined.{Defined}
use Rattle.rnc_parse.specs.declared.surface.Defined.TheVariants as defined
use Rattle.rng_simplify.specs.declared.names.Names.{Names}
use Rattle.rng_simplify.specs.Composed.{same_defined}
use Rattle.rng_simplify.specs.NameTables.{kept_for}
use Rattle.std.proofs.lemmas.Map.Lookups.{exact_bytes}
use Rattle.std.proofs.lemmas.Map.Text.{is_eq-slice_cmp}

abbrev by_items : Vec ℕ Global → Vec ℕ Global → Ordering
by_items a b = slice_cmp nat_cmp a.items b.items

abbrev at_bytes : List ℕ → Vec ℕ Global → Bool
at_bytes name = is_at (λ k. slice_cmp nat_cmp name k.items)

twice : {X : Type 0} (b : Bool) (x y z : X) → cond b x z ≡ cond b x (cond b y z)
twice true x y z = refl
twice false x y z = refl

swapped : {X : Type 0} (b c : Bool) (x y z : X) → (b ≡ true → c ≡ true → ⊥) → cond b x (cond c y z) ≡ cond c y (cond b x z)
swapped true true x y z never = absurd (never refl refl)
swapped true false x y z never = refl
swapped false true x y z never = refl
swapped false false x y z never = refl

-- bytes that compare as greater aren't the same
greater_differs : (xs ys : List ℕ) → slice_cmp nat_cmp xs ys ≡ Greater → xs ≡ ys → ⊥
greater_differs xs ys greater same =
    false≢true (sym (ap is_eq greater) ∙ is_eq-slice_cmp xs ys ∙ (bytes_decides xs ys).1 same)

-- what is found under a name is the name
found_is : (name bytes : List ℕ) → is_eq (slice_cmp nat_cmp name bytes) ≡ true → name ≡ bytes
found_is name bytes found = (bytes_decides name bytes).0 (sym (is_eq-slice_cmp name bytes) ∙ found)

module _ {T : Type 0} where
  abbrev found : List ℕ → List (Vec ℕ Global × T) → Option T
  found name entries = lookup (at_bytes name) entries

  step : (e : Vec ℕ Global × T) (entries : List (Vec ℕ Global × T)) (key : Vec ℕ Global) (value : T) (name : List ℕ) → found name (insert_entry by_items entries key value) ≡ cond (at_bytes name key) (Some value) (found name entries) → (o : Ordering) → by_items key e.0 ≡ o → found name (match_ordering o ((key, value) ∷ e ∷ entries) ((e.0, value) ∷ entries) (e ∷ insert_entry by_items entries key value)) ≡ cond (at_bytes name key) (Some value) (cond (at_bytes name e.0) (Some e.1) (found name entries))
  step e entries key value name further Less compared = refl
  step e entries key value name further Equal compared =
      let same : at_bytes name e.0 ≡ at_bytes name key = ap (λ bytes. is_eq (slice_cmp nat_cmp name bytes)) (sym (exact_bytes key.items e.0.items compared)) in
      twice (at_bytes name e.0) (Some value) (Some e.1) (found name entries)
      ∙ ap (λ b. cond b (Some value) (cond (at_bytes name e.0) (Some e.1) (found name entries))) same
  step e entries key value name further Greater compared =
      ap (cond (at_bytes name e.0) (Some e.1)) further
      ∙ swapped (at_bytes name e.0) (at_bytes name key) (Some e.1) (Some value) (found name entries)
      (λ at_e at_key. greater_differs key.items e.0.items compared (sym (found_is name key.items at_key) ∙ found_is name e.0.items at_e))

  -- whoever looks for a name finds what was put in under it, and else what was there
  pub lookup_inserted : (entries : List (Vec ℕ Global × T)) (key : Vec ℕ Global) (value : T) (name : List ℕ) → found name (insert_entry by_items entries key value) ≡ cond (at_bytes name key) (Some value) (found name entries)
  lookup_inserted [] key value name = refl
  lookup_inserted (e ∷ entries) key value name = step e entries key value name (lookup_inserted entries key value name) (by_items key e.0) refl

  -- the same of a map with an entry put in under the bytes of a name
  kept_added : (old new : BTreeMap (Vec ℕ Global) T) (key : Vec ℕ Global) (value : T) (name : List ℕ) → key.items ≡ name → new.entries ≡ insert_entry by_items old.entries key value → (other : List ℕ) → get_by (λ k. slice_cmp nat_cmp other k.items) new ≡ cond (bytes_eq other name) (Some value) (get_by (λ k. slice_cmp nat_cmp other k.items) old)
  kept_added old new key value name items entries other =
      ap (lookup (at_bytes other)) entries
      ∙ lookup_inserted old.entries key value other
      ∙ ap (λ b. cond b (Some value) (lookup (at_bytes other) old.entries)) (is_eq-slice_cmp other key.items ∙ ap (bytes_eq other) items)

  pub keeps_one : (old : Names T) (names : BTreeMap (Vec ℕ Global) T) (key : Vec ℕ Global) (value : T) (name : Defined) (bytes : List ℕ) → name ≡ defined.Name bytes → key.items ≡ bytes → names.entries ≡ insert_entry by_items old.names.entries key value → (other : Defined) → kept_for (record old { names = names }) other ≡ cond (same_defined other name) (Some value) (kept_for old other)
  keeps_one old names key value name bytes is items entries defined.Start = ap (λ n. cond (same_defined defined.Start n) (Some value) old.start) (sym is)
  keeps_one old names key value name bytes is items entries (defined.Name other) =
      kept_added old.names names key value bytes items entries other
      ∙ ap (λ n. cond (same_defined (defined.Name other) n) (Some value) (kept_for old (defined.Name other))) (sym is)

-- tests that agree pass the same
pub all_same : {A : Type 0} (p q : A → Bool) → ((x : A) → p x ≡ q x) → (xs : List A) → list_all p xs ≡ list_all q xs
all_same p q same [] = refl
all_same p q same (x ∷ xs) = ap (λ b. b && list_all p xs) (same x) ∙ ap (λ b. q x && b) (all_same p q same xs)

pub filter_same : {A : Type 0} (p q : A → Bool) → ((x : A) → p x ≡ q x) → (xs : List A) → filter p xs ≡ filter q xs
filter_same p q same [] = refl
filter_same p q same (x ∷ xs) = ap (λ b. cond b (x ∷ filter p xs) (filter p xs)) (same x) ∙ ap (λ ys. cond (q x) (x ∷ ys) ys) (filter_same p q same xs)
