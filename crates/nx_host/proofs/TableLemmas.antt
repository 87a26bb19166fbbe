-- What the table that the entries of a map from strings make holds.
use Rattle.std.proofs.Common.{◌≡◌, ◌≢◌, ℕ, Bool, true, false, cond, List, [], ◌∷◌, Some, String, BTreeMap, refl, sym, ap, ◌∙◌}
use Rattle.std.specs.BTreeMap.{get_by_text, is_at}
use Rattle.std.specs.Cmp.{eq_by_cmp_equiv}
use Rattle.std.specs.Cmp.Lexicographic.{slice_cmp, nat_list_cmp_total, bytes_decides}
use Rattle.std.specs.FinMap as fin
use Rattle.std.specs.FinMap.{find, get-from_entries, get-insert, same_map}
use Rattle.std.specs.Map.{lookup, update}
use Rattle.std.specs.Ordering.{nat_cmp, eq_by_cmp}
use Rattle.std.specs.Str.{bytes_eq}
use Rattle.std.proofs.lemmas.Map.Lookups.{exact_bytes}
use Rattle.std.proofs.lemmas.Map.Text.{is_eq-slice_cmp, text_cmp}
use Rattle.nx_host.specs.Files.{SetsFile}
use Rattle.nx_host.specs.Table.{Table, text_entries}

module _ {A X : Type 0} where
  -- a text finds the first string with its bytes
  find-text_entries : (entries : List (String A × X)) (text : List ℕ) → find (slice_cmp nat_cmp) text (text_entries entries) ≡ lookup (is_at (text_cmp text)) entries
  find-text_entries [] text = refl
  find-text_entries (e ∷ entries) text = ap (cond (is_at (text_cmp text) e.0) (Some e.1)) (find-text_entries entries text)

  -- the table that a map's entries make, as the code's view of it
  abbrev pub table_of : BTreeMap (String A) X → fin.FinMap (slice_cmp nat_cmp) X
  table_of files = fin.from_entries (text_entries files.entries)

  -- the table holds under a text what the map does
  pub get-table_of : (files : BTreeMap (String A) X) (text : List ℕ) → fin.get (table_of files) text ≡ get_by_text files text
  get-table_of files text = get-from_entries nat_list_cmp_total (text_entries files.entries) text ∙ find-text_entries files.entries text

  -- maps that differ at one text make tables that differ there
  pub table_of-update : (old new : BTreeMap (String A) X) (text : List ℕ) (value : X) → ((key : List ℕ) → get_by_text new key ≡ update bytes_eq (get_by_text old) text (Some value) key) → table_of new ≡ fin.insert (table_of old) text value
  table_of-update old new text value updated = same_map nat_list_cmp_total exact_bytes _ _ (λ key.
      get-table_of new key
      ∙ updated key
      ∙ ap (λ b. cond b (Some value) (get_by_text old key)) (sym (is_eq-slice_cmp text key) ∙ (eq_by_cmp_equiv nat_list_cmp_total).symm text key)
      ∙ ap (cond (eq_by_cmp (slice_cmp nat_cmp) key text) (Some value)) (sym (get-table_of old key))
      ∙ sym (get-insert nat_list_cmp_total (table_of old) text value key))

  -- the same, where the text, the value and the table are known under other names
  pub table_of-updated : (old new : BTreeMap (String A) X) (table : fin.FinMap (slice_cmp nat_cmp) X) (text uri : List ℕ) (value held : X) → table_of old ≡ table → text ≡ uri → value ≡ held → ((key : List ℕ) → get_by_text new key ≡ update bytes_eq (get_by_text old) text (Some value) key) → table_of new ≡ fin.insert table uri held
  table_of-updated old new table text uri value held same_table same_text same_value updated = rw (← same_table, ← same_text, ← same_value) (table_of-update old new text value updated)

-- a table holds the bytes that were put under a text
pub get-insert_same : (table : Table) (uri bytes : List ℕ) → fin.get (fin.insert table uri bytes) uri ≡ Some bytes
get-insert_same table uri bytes =
    get-insert nat_list_cmp_total table uri bytes uri
    ∙ ap (λ b. cond b (Some bytes) (fin.get table uri)) ((eq_by_cmp_equiv nat_list_cmp_total).refl uri)

-- and under every other text what it held before
pub get-insert_other : (table : Table) (uri bytes key : List ℕ) → key ≢ uri → fin.get (fin.insert table uri bytes) key ≡ fin.get table key
get-insert_other table uri bytes key other =
    get-insert nat_list_cmp_total table uri bytes key ∙ kept (eq_by_cmp (slice_cmp nat_cmp) key uri) refl
  where
    kept : (b : Bool) → eq_by_cmp (slice_cmp nat_cmp) key uri ≡ b → cond b (Some bytes) (fin.get table key) ≡ fin.get table key
    kept true same = absurd (other ((bytes_decides key uri).0 (sym (is_eq-slice_cmp key uri) ∙ same)))
    kept false differs = refl

-- so putting bytes under a text is what a store is to do
pub insert-SetsFile : (table old new : Table) (uri bytes held : List ℕ) → table ≡ old → held ≡ bytes → new ≡ fin.insert table uri held → SetsFile (Some (fin.get old)) uri bytes (Some (fin.get new))
insert-SetsFile table old new uri bytes held same_table same_bytes set =
    rw (set, same_table, same_bytes) (get-insert_same old uri bytes, get-insert_other old uri bytes)
