-- Prefixes that are looked up, and those that are free.
use Rattle.std.proofs.Common.{◌≡◌, ℕ, ◌<◌, ◌^◌, Bool, true, false, cond, Option, Some, None, List, [], ◌∷◌, length, refl, sym, ◌∙◌, ap, subst, arith, codes}
use Rattle.std.specs.Prelude.{◌||◌, ◌==◌}
use Rattle.std.specs.Borrow.{Bor}
use Rattle.std.specs.Char.{is_ascii_digit}
use Rattle.std.specs.Fmt.{decimal}
use Rattle.std.specs.List.{list_all}
use Rattle.std.specs.Option.{is_some, option_copied}
use Rattle.std.specs.Str.{bytes_eq, IsUtf8, chars, is_utf8, all_ascii_digits}
use Rattle.std.proofs.lemmas.Bool.{and_parts, and_from, or_left, or_right, true≢false}
use Rattle.std.proofs.lemmas.Fmt.{digits_decimal, IsAscii-decimal}
use Rattle.std.proofs.lemmas.Str.{is_utf8-from_IsUtf8, IsUtf8-from_ascii, IsUtf8-append}
use Rattle.std.proofs.lemmas.Str.Parse.{numerals_by_value, tells_all_ascii_digits}
use Rattle.nx_base.specs.Characters.{is_nc_name}
use Rattle.nx_base.specs.Names.{is_local}
use Rattle.nx_events.specs.PlainNames.{is_plain_start, is_plain_further, is_plain_name}
use Rattle.nx_events.specs.Scopes.{or_else, xml_uri, last_uri, bound_uri}
use Rattle.nx_events.specs.declared.scope.Binding.{Binding}
use Rattle.nx_events.proofs.PlainNames.{plain_name}
use Rattle.nx_events.proofs.Texts.{ascii_one}
use Rattle.nx_document.proofs.Names.{names_agree}
use Rattle.nx_written.specs.Spellings.{Serves, IsFree}

-- ---- the last declaration of a prefix

chain : (a b c : Option (List ℕ)) → or_else (or_else a b) c ≡ or_else a (or_else b c)
chain (Some x) b c = refl
chain None b c = refl

-- the next declaration is of the prefix, or isn't
pub found_here : (whole rest : List Binding) (it : Binding) (prefix : List ℕ) (found last : Option (List ℕ)) → whole ≡ it ∷ rest →
    bytes_eq it.prefix prefix ≡ true → or_else (last_uri whole prefix) found ≡ last → or_else (last_uri rest prefix) (Some it.uri) ≡ last
unfolding last_uri
found_here whole rest it prefix found last e h f =
    let x = last_uri rest prefix in
    sym (chain x (Some it.uri) found) ∙ ap (λ (t : Bool). or_else (or_else x (cond t (Some it.uri) None)) found) (sym h)
    ∙ ap (λ (xs : List Binding). or_else (last_uri xs prefix) found) (sym e) ∙ f

pub not_here : (whole rest : List Binding) (it : Binding) (prefix : List ℕ) (found last : Option (List ℕ)) → whole ≡ it ∷ rest →
    bytes_eq it.prefix prefix ≡ false → or_else (last_uri whole prefix) found ≡ last → or_else (last_uri rest prefix) found ≡ last
unfolding last_uri
not_here whole rest it prefix found last e h f =
    let x = last_uri rest prefix in
    sym (chain x None found) ∙ ap (λ (t : Bool). or_else (or_else x (cond t (Some it.uri) None)) found) (sym h)
    ∙ ap (λ (xs : List Binding). or_else (last_uri xs prefix) found) (sym e) ∙ f

pub all_seen : (rest : List Binding) (prefix : List ℕ) (found last : Option (List ℕ)) → length rest ≡ 0 →
    or_else (last_uri rest prefix) found ≡ last → found ≡ last
unfolding last_uri
all_seen [] prefix found last e f = f
all_seen (it ∷ rest) prefix found last e f = absurd (omega (arith, e))

-- ---- prefixes that serve

pub serves_is : (scope : List Binding) (written prefix uri : List ℕ) → written ≡ prefix → is_local written ≡ true → bytes_eq written (codes "xml") ≡ false →
    bytes_eq written (codes "xmlns") ≡ false → last_uri scope written ≡ Some uri → Serves scope prefix uri
unfolding bound_uri
serves_is scope written prefix uri e form no_xml no_declaration last =
    subst (λ p. Serves scope p uri) e (record {
      form = form;
      no_declaration = no_declaration;
      bound = ap (λ (t : Bool). cond t (Some xml_uri) (last_uri scope written)) no_xml ∙ last;
    })

plain_local : (name : List ℕ) → IsUtf8 name → is_plain_name name ≡ true → is_local name ≡ true
plain_local name u h = and_from (is_utf8 name) (is_nc_name (chars name)) (is_utf8-from_IsUtf8 name u) (sym (names_agree name) ∙ plain_name name h)

xml_utf8 : IsUtf8 (codes "xml")
xml_utf8 = IsUtf8-append (codes "x") (codes "ml") (ascii_one 120 (omega arith)) (IsUtf8-append (codes "m") (codes "l") (ascii_one 109 (omega arith)) (ascii_one 108 (omega arith)))

pub xml_serves : (scope : List Binding) (uri : List ℕ) → uri ≡ xml_uri → Serves scope (codes "xml") uri
unfolding bound_uri
xml_serves scope uri e = record {
  form = plain_local (codes "xml") xml_utf8 refl;
  no_declaration = refl;
  bound = ap (λ (u : List ℕ). Some u) (sym e);
}

-- ---- `n` and a number

digits_further : (ds : List ℕ) → all_ascii_digits ds ≡ true → list_all is_plain_further ds ≡ true
digits_further [] h = refl
digits_further (d ∷ ds) h =
    let t = and_parts (is_ascii_digit d) (all_ascii_digits ds) h in
    and_from (is_plain_further d) (list_all is_plain_further ds)
    (or_right (is_plain_start d) (is_ascii_digit d || (d == 45 || d == 46)) (or_left (is_ascii_digit d) (d == 45 || d == 46) t.0))
    (digits_further ds t.1)

number_plain : (n : ℕ) → n < 2 ^ 64 → is_plain_name (110 ∷ decimal n) ≡ true
number_plain n h = digits_further (decimal n) (digits_decimal (numerals_by_value (λ ds. all_ascii_digits ds ≡ true) tells_all_ascii_digits) n h)

number_utf8 : (n : ℕ) → n < 2 ^ 64 → IsUtf8 (110 ∷ decimal n)
number_utf8 n h = IsUtf8-append (110 ∷ []) (decimal n) (ascii_one 110 (omega arith)) (IsUtf8-from_ascii (decimal n) (IsAscii-decimal n h))

pub number_free : (scope : List Binding) (prefix : List ℕ) (n : ℕ) → n < 2 ^ 64 → prefix ≡ 110 ∷ decimal n → last_uri scope prefix ≡ None → IsFree scope prefix
number_free scope prefix n h e free = record {
  form = ap is_local e ∙ plain_local (110 ∷ decimal n) (number_utf8 n h) (number_plain n h);
  no_declaration = ap (λ (p : List ℕ). bytes_eq p (codes "xmlns")) e;
  no_xml = ap (λ (p : List ℕ). bytes_eq p (codes "xml")) e;
  unbound = free;
}

-- nothing was found
pub none_copied : (found : Option (Bor (List ℕ))) → is_some found ≡ false → option_copied found ≡ None
none_copied None h = refl
none_copied (Some b) h = absurd (true≢false h)
