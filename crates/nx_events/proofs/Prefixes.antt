-- Each text of a tag is one of the cases of prefixes, and the place that is read tells which.
use Rattle.std.proofs.Common.{◌≡◌, ℕ, zero, suc, ◌+◌, ◌-◌, ◌<◌, ◌≤◌, Bool, true, false, cond, Option, Some, None, List, [], ◌∷◌, ◌++◌, length, take, drop, refl, ap, sym, subst, ◌∙◌, arith, append_assoc, codes, IsUtf8}
use Rattle.std.specs.Prelude.{◌==◌, nat_eq}
use Rattle.std.specs.List.{AllByRecursion, prefix_len, starts_with}
use Rattle.std.proofs.lemmas.Bool.{and_parts, eqb-true}
use Rattle.std.proofs.lemmas.Bool.Decides.{Decides-eqb, nat_tests}
use Rattle.std.proofs.lemmas.Slice.Eq.{starts_is}
use Rattle.std.proofs.lemmas.List.{length-append, drop_at, take_at, drop-drop}
use Rattle.std.proofs.lemmas.Str.{IsUtf8-drop, IsCharBoundary-from_take}
use Rattle.nx_base.specs.Characters.{is_space}
use Rattle.nx_base.specs.Tokens.{begins_with}
use Rattle.nx_events.specs.References.{name_chars_len, name_len}
use Rattle.nx_events.specs.Spelling.{Written, AreSpaces, middle, spelled_before, spelled_all, spelled_tag}
use Rattle.nx_events.specs.SpelledTags.{IsName}
use Rattle.nx_events.specs.XmlDeclaration.{after_spaces}
use Rattle.nx_events.specs.declared.place.PlaceInTag.{PlaceInTag}
use Rattle.nx_events.specs.declared.place.PlaceInTag.TheVariants as places
use Rattle.nx_events.specs.declared.prefix.TagPrefix.{TagPrefix}
use Rattle.nx_events.specs.declared.prefix.TagPrefix.TheVariants as prefixes
use Rattle.nx_events.specs.declared.state.EventState.{EventState}
use Rattle.nx_events.specs.Prefixes.{IsSpaced, IsOpenTag, IsElementName, IsEndName, IsAttributeName, IsAttributeValue, IsElsewhere, innermost_name, items_so_far, name_behind, IsPrefix, PrefixesAreTold}
use Rattle.nx_events.specs.TagPlaces.{are_name_chars, after_attribute, IsLeft, no_more, one_more, begins_value, end_place, attribute_place, behind_name, start_place, place_in_tag, IsPlace}
use Rattle.nx_events.proofs.Texts.{test_is}
use Rattle.nx_events.proofs.ReferenceForms.{name_found}
use Rattle.nx_events.proofs.DeclarationReads.{space_on, space_off, split_spaces}
use Rattle.nx_events.proofs.TagPlaces.{chars_measured, chars_found, ends_stop, NoSpace, nothing_no_space, spaces_counted, text_behind, text_behind_spaces, name_bytes_of, name_passed, not_zero, spaces_stop, attribute_found, attribute_passed, names_counted, value_begun, at_value, at_name, after_attribute_shorter}

-- ---- what is left behind attributes

pub left_more : (bytes rest left : List ℕ) → after_attribute bytes ≡ Some rest → IsLeft bytes left → IsLeft rest left
left_more bytes rest left e (no_more b l n s) = absurd (let bad : None ≡ Some rest = sym n ∙ e in cc)
left_more bytes rest left e (one_more b l r f h) =
    let both : Some r ≡ Some rest = sym f ∙ e in
    let same : r ≡ rest = cc in
    subst (λ xs. IsLeft xs left) same h

pub left_none : (bytes left : List ℕ) → after_attribute bytes ≡ None → IsLeft bytes left → left ≡ bytes
left_none bytes left e (no_more b l n s) = s
left_none bytes left e (one_more b l r f h) = absurd (let bad : Some r ≡ None = sym f ∙ e in cc)

left_through : (its : List Written) (rest left : List ℕ) → AllByRecursion IsSpaced its → IsLeft (spelled_all its rest) left → IsLeft rest left
left_through [] rest left h l = l
left_through (it ∷ its) rest left h l =
    left_through its rest left h.1 (left_more (spelled_all (it ∷ its) rest) (spelled_all its rest) left (attribute_passed it (spelled_all its rest) h.0) l)

record Passed (bytes left : List ℕ) : Type 0 where
  its : List Written
  are_spaced : AllByRecursion IsSpaced its
  utf8 : IsUtf8 left
  is : bytes ≡ spelled_all its left

passed_by : (bytes left : List ℕ) → IsUtf8 bytes → IsLeft bytes left → Passed bytes left
passed_by bytes left u (no_more b l n s) = record { its = []; are_spaced = tt; utf8 = subst (λ xs. IsUtf8 xs) (sym s) u; is = sym s }
passed_by bytes left u (one_more b l rest f h) =
    let a = attribute_found bytes rest u f in
    let p = passed_by rest left a.utf8 h in
    record {
      its = a.it ∷ p.its;
      are_spaced = (a.is_spaced, p.are_spaced);
      utf8 = p.utf8;
      is = a.is ∙ ap (λ ys. a.it.space ++ spelled_before a.it ys) p.is;
    }

left_exists : (n : ℕ) (bytes : List ℕ) → length bytes < n → (left : List ℕ) × IsLeft bytes left
left_exists zero bytes h = absurd (omega arith)
left_exists (suc n) bytes h = by_attribute (λ rest k. left_exists n rest k) (after_attribute bytes) refl
  where
    by_attribute : ((rest : List ℕ) → length rest < n → (left : List ℕ) × IsLeft rest left) → (o : Option (List ℕ)) → after_attribute bytes ≡ o →
        (left : List ℕ) × IsLeft bytes left
    by_attribute on None e = (bytes, no_more bytes bytes e refl)
    by_attribute on (Some rest) e =
        let t = on rest (let k = after_attribute_shorter bytes rest e in omega arith) in
        (t.0, one_more bytes t.0 rest e t.1)

-- ---- attributes and what follows them

spelled_on : (its : List Written) (space rest : List ℕ) → spelled_all its space ++ rest ≡ spelled_all its (space ++ rest)
spelled_on [] space rest = refl
spelled_on (it ∷ its) space rest =
    regroup it.space (it.name ++ middle it) it.value it.quote (spelled_all its space) rest ∙ ap (λ ys. it.space ++ spelled_before it ys) (spelled_on its space rest)
  where
    regroup : (a b c : List ℕ) (q : ℕ) (d e : List ℕ) → (a ++ (b ++ q ∷ (c ++ q ∷ d))) ++ e ≡ a ++ (b ++ q ∷ (c ++ q ∷ (d ++ e)))
    regroup a b c q d e = simp append_assoc

tail_stops : (its : List Written) (space rest : List ℕ) → AllByRecursion IsSpaced its → AreSpaces space → 0 < length space → name_chars_len 0 (spelled_all its (space ++ rest)) ≡ 0
tail_stops [] space rest h s l = spaces_stop space rest s l
tail_stops (it ∷ its) space rest h s l = spaces_stop it.space (spelled_before it (spelled_all its (space ++ rest))) h.0.0.written.space h.0.1

tail_some : (its : List Written) (space rest : List ℕ) → AllByRecursion IsSpaced its → 0 < length space → 0 < length (spelled_all its (space ++ rest))
tail_some [] space rest h l = let k = length-append space rest in omega arith
tail_some (it ∷ its) space rest h l =
    let k = length-append it.space (spelled_before it (spelled_all its (space ++ rest))) in
    let some = h.0.1 in
    omega arith

-- ---- a slash

slash_is : (xs : List ℕ) → starts_with nat_eq xs (codes "/") ≡ true → xs ≡ 47 ∷ drop 1 xs
slash_is xs h = (starts_is Decides-eqb xs (codes "/") (starts_with nat_eq xs (codes "/")) refl).0 h

slash_ends : (xs : List ℕ) → starts_with nat_eq xs (codes "/") ≡ true → (name_chars_len 0 xs ≡ 0) × (0 < length xs)
unfolding is_space
slash_ends xs h =
    let e = slash_is xs h in
    let size : length xs ≡ suc (length (drop 1 xs)) = ap length e in
    (ap (name_chars_len 0) e ∙ ends_stop 47 (drop 1 xs) refl, omega arith)

no_slash : (xs : List ℕ) → name_chars_len 0 xs ≡ length xs → starts_with nat_eq xs (codes "/") ≡ false
no_slash xs all = by_test (starts_with nat_eq xs (codes "/")) refl
  where
    by_test : (t : Bool) → starts_with nat_eq xs (codes "/") ≡ t → t ≡ false
    by_test true e = absurd (let k = slash_ends xs e in let none = k.0 in let some = k.1 in omega arith)
    by_test false e = refl

name_no_slash : (xs : List ℕ) → 0 < name_chars_len 0 xs → starts_with nat_eq xs (codes "/") ≡ false
name_no_slash xs some = by_test (starts_with nat_eq xs (codes "/")) refl
  where
    by_test : (t : Bool) → starts_with nat_eq xs (codes "/") ≡ t → t ≡ false
    by_test true e = absurd (let none = (slash_ends xs e).0 in omega arith)
    by_test false e = refl

-- ---- the place behind an open tag

-- what is told of what stands behind a tag of this length
abbrev begun_place : ℕ → List ℕ → PlaceInTag
begun_place n begun =
    cond (are_name_chars begun) (places.AttributeName n) (cond (begins_value begun) (places.AttributeValue n (name_len begun)) places.Elsewhere)

place_at : (bytes space begun : List ℕ) (at : ℕ) → drop at bytes ≡ space ++ begun → AreSpaces space → NoSpace begun →
    attribute_place bytes at ≡ cond (length space == 0) places.Elsewhere (begun_place (at + length space) begun)
unfolding attribute_place
place_at bytes space begun at e s n =
    let spaces : prefix_len is_space (drop at bytes) ≡ length space = ap (prefix_len is_space) e ∙ spaces_counted space begun s n in
    let left : drop (at + length space) bytes ≡ begun =
    sym (drop-drop (length space) at bytes) ∙ ap (drop (length space)) e ∙ drop_at space begun (length space) refl in
    ap (λ (k : ℕ). cond (k == 0) places.Elsewhere (begun_place (at + k) (drop (at + k) bytes))) spaces
    ∙ ap (λ xs. cond (length space == 0) places.Elsewhere (begun_place (at + length space) xs)) left

module _ (name : List ℕ) (its : List Written) (space begun : List ℕ) where
  -- the tag up to its white space, and through it
  front : List ℕ
  front = 60 ∷ (name ++ spelled_all its [])

  front_is : front ≡ 60 ∷ (name ++ spelled_all its [])
  unfolding front
  front_is = refl

  tag_split : spelled_tag name its space ≡ front ++ space
  unfolding front
  tag_split = ap (λ ys. 60 ∷ ys) (ap (λ ys. name ++ ys) (sym (spelled_on its [] space)) ∙ sym (append_assoc name (spelled_all its []) space))

  whole_is : spelled_tag name its space ++ begun ≡ 60 ∷ (name ++ spelled_all its (space ++ begun))
  whole_is = ap (λ ys. 60 ∷ ys) (append_assoc name (spelled_all its space) begun ∙ ap (λ ys. name ++ ys) (spelled_on its space begun))

  whole_split : spelled_tag name its space ++ begun ≡ front ++ (space ++ begun)
  whole_split = ap (λ ys. ys ++ begun) tag_split ∙ append_assoc front space begun

opened_place : (tag begun left : List ℕ) → IsOpenTag tag → NoSpace begun → ((space : List ℕ) → AreSpaces space → 0 < length space → after_attribute (space ++ begun) ≡ None) →
    IsLeft (behind_name (tag ++ begun)) left → place_in_tag (tag ++ begun) left ≡ begun_place (length tag) begun
unfolding place_in_tag start_place
opened_place tag begun left o n ends l =
    let name = o.name in
    let its = o.attributes in
    let space = o.space in
    let tail = spelled_all its (space ++ begun) in
    let xs = name ++ tail in
    let first = front name its space begun in
    let whole : tag ++ begun ≡ 60 ∷ xs = ap (λ ys. ys ++ begun) o.spelled ∙ whole_is name its space begun in
    let named = (name_passed name tail o.is_name (tail_stops its space begun o.are_attributes o.are_spaces o.some_space)).1 in
    let behind : behind_name (60 ∷ xs) ≡ tail = ap (λ k. drop k xs) named ∙ drop_at name tail (length name) refl in
    let left_is : left ≡ space ++ begun =
    left_none (space ++ begun) left (ends space o.are_spaces o.some_space) (left_through its (space ++ begun) left o.are_attributes (subst (λ ys. IsLeft ys left) (ap behind_name whole ∙ behind) l)) in
    let few = (name_bytes_of name o.is_name).some in
    let counted : name_chars_len 0 xs ≡ length name = names_counted xs (length name) named few in
    let slash : starts_with nat_eq xs (codes "/") ≡ false = name_no_slash xs (omega arith) in
    let long : length xs ≡ length name + length tail = length-append name tail in
    let some = tail_some its space begun o.are_attributes o.some_space in
    let no_all : are_name_chars xs ≡ false = differ (name_chars_len 0 xs) (length xs) (omega arith) in
    let no_zero : (name_len xs == 0) ≡ false = ap (λ k. k == 0) named ∙ not_zero (length name) few in
    let split : tag ++ begun ≡ first ++ (space ++ begun) = ap (λ ys. ys ++ begun) o.spelled ∙ whole_split name its space begun in
    let size : length (tag ++ begun) ≡ length first + length (space ++ begun) = ap length split ∙ length-append first (space ++ begun) in
    let tag_size : length tag ≡ length first + length space = ap length (o.spelled ∙ tag_split name its space begun) ∙ length-append first space in
    let at : length (60 ∷ xs) - length left ≡ length first =
    (let a : length (60 ∷ xs) ≡ length (tag ++ begun) = ap length (sym whole) in let b : length left ≡ length (space ++ begun) = ap length left_is in omega arith) in
    let there : drop (length first) (60 ∷ xs) ≡ space ++ begun = ap (drop (length first)) (sym whole ∙ split) ∙ drop_at first (space ++ begun) (length first) refl in
    let total : length first + length space ≡ length tag = sym tag_size in
    ap (λ ys. place_in_tag ys left) whole
    ∙ ap (λ (t : Bool). cond t (end_place (drop 1 xs)) (start_place (60 ∷ xs) left)) slash
    ∙ ap (λ (t : Bool). cond t places.ElementName (cond (name_len xs == 0) places.Elsewhere (attribute_place (60 ∷ xs) (length (60 ∷ xs) - length left)))) no_all
    ∙ ap (λ (t : Bool). cond t places.Elsewhere (attribute_place (60 ∷ xs) (length (60 ∷ xs) - length left))) no_zero
    ∙ ap (attribute_place (60 ∷ xs)) at
    ∙ place_at (60 ∷ xs) space begun (length first) there o.are_spaces n
    ∙ ap (λ (t : Bool). cond t places.Elsewhere (begun_place (length first + length space) begun)) (not_zero (length space) o.some_space)
    ∙ ap (λ (k : ℕ). begun_place k begun) total
  where
    differ : (m n : ℕ) → m < n → (m == n) ≡ false
    differ m n h = grind (arith, nat_tests)

-- ---- what stands there is read

of_element : (bytes left : List ℕ) → IsElementName bytes → place_in_tag bytes left ≡ places.ElementName
unfolding place_in_tag start_place
of_element bytes left h =
    let xs = h.begun in
    let all = chars_measured xs h.are_chars in
    ap (λ ys. place_in_tag ys left) h.spelled
    ∙ ap (λ (t : Bool). cond t (end_place (drop 1 xs)) (start_place (60 ∷ xs) left)) (no_slash xs all)
    ∙ ap (λ (t : Bool). cond t places.ElementName (cond (name_len xs == 0) places.Elsewhere (attribute_place (60 ∷ xs) (length (60 ∷ xs) - length left)))) (same (name_chars_len 0 xs) (length xs) all)
  where
    same : (m n : ℕ) → m ≡ n → (m == n) ≡ true
    same m n h = grind (arith, nat_tests)

of_end : (bytes left : List ℕ) → IsEndName bytes → place_in_tag bytes left ≡ places.EndName
unfolding place_in_tag
of_end bytes left h =
    let xs = h.begun in
    let found : starts_with nat_eq (47 ∷ xs) (codes "/") ≡ true = (starts_is Decides-eqb (47 ∷ xs) (codes "/") (starts_with nat_eq (47 ∷ xs) (codes "/")) refl).1 xs refl in
    ap (λ ys. place_in_tag ys left) h.spelled
    ∙ ap (λ (t : Bool). cond t (end_place xs) (start_place (60 ∷ 47 ∷ xs) left)) found
    ∙ ap (λ (t : Bool). cond t places.EndName places.Elsewhere) (same (name_chars_len 0 xs) (length xs) (chars_measured xs h.are_chars))
  where
    same : (m n : ℕ) → m ≡ n → (m == n) ≡ true
    same m n h = grind (arith, nat_tests)

of_name : (tag bytes left : List ℕ) → IsAttributeName tag bytes → IsLeft (behind_name bytes) left → place_in_tag bytes left ≡ places.AttributeName (length tag)
of_name tag bytes left h l =
    let at = at_name h.begun h.are_chars in
    ap (λ ys. place_in_tag ys left) h.spelled
    ∙ opened_place tag h.begun left h.is_open at.no_space at.open_ended (subst (λ ys. IsLeft (behind_name ys) left) h.spelled l)
    ∙ ap (λ (t : Bool). cond t (places.AttributeName (length tag)) (cond (begins_value h.begun) (places.AttributeValue (length tag) (name_len h.begun)) places.Elsewhere)) at.all_chars

of_value : (tag name bytes left : List ℕ) → IsAttributeValue tag name bytes → IsLeft (behind_name bytes) left →
    place_in_tag bytes left ≡ places.AttributeValue (length tag) (length name)
of_value tag name bytes left h l =
    let it = h.begun in
    let xs = (it.name ++ middle it) ++ it.quote ∷ it.value in
    let at = at_value it h.is_attribute in
    ap (λ ys. place_in_tag ys left) h.spelled
    ∙ opened_place tag xs left h.is_open at.no_space at.open_ended (subst (λ ys. IsLeft (behind_name ys) left) h.spelled l)
    ∙ ap (λ (t : Bool). cond t (places.AttributeName (length tag)) (cond (begins_value xs) (places.AttributeValue (length tag) (name_len xs)) places.Elsewhere)) at.no_chars
    ∙ ap (λ (t : Bool). cond t (places.AttributeValue (length tag) (name_len xs)) places.Elsewhere) at.begins
    ∙ ap (places.AttributeValue (length tag)) (at.size ∙ ap length h.named)

elsewhere_is : (bytes left : List ℕ) → IsLeft (behind_name bytes) left → place_in_tag bytes left ≡ places.Elsewhere → IsElsewhere bytes
elsewhere_is bytes left l e = record {
  no_element = λ h. (let bad : places.ElementName ≡ places.Elsewhere = sym (of_element bytes left h) ∙ e in cc);
  no_end = λ h. (let bad : places.EndName ≡ places.Elsewhere = sym (of_end bytes left h) ∙ e in cc);
  no_attribute = λ tag h. (let bad : places.AttributeName (length tag) ≡ places.Elsewhere = sym (of_name tag bytes left h l) ∙ e in cc);
  no_value = λ tag name h. (let bad : places.AttributeValue (length tag) (length name) ≡ places.Elsewhere = sym (of_value tag name bytes left h l) ∙ e in cc);
}

-- ---- what is read stands there

-- but for what is elsewhere
abbrev Sound : List ℕ → PlaceInTag → Type 0
Sound bytes places.ElementName = IsElementName bytes
Sound bytes places.EndName = IsEndName bytes
Sound bytes (places.AttributeName tag) = (tag ≤ length bytes) × IsAttributeName (take tag bytes) bytes
Sound bytes (places.AttributeValue tag name) = (tag + name ≤ length bytes) × IsAttributeValue (take tag bytes) (take name (drop tag bytes)) bytes
Sound bytes places.Elsewhere = Unit {0}

text_after : (xs ys : List ℕ) → IsUtf8 (xs ++ ys) → IsUtf8 xs → IsUtf8 ys
text_after xs ys u v =
    let more = length-append xs ys in
    let border = IsCharBoundary-from_take (xs ++ ys) (length xs) u (omega arith) (subst (λ zs. IsUtf8 zs) (sym (take_at xs ys (length xs) refl)) v) in
    subst (λ zs. IsUtf8 zs) (drop_at xs ys (length xs) refl) (IsUtf8-drop (xs ++ ys) (length xs) u border)

spaces_over : (xs : List ℕ) → NoSpace (after_spaces xs)
spaces_over [] = nothing_no_space
spaces_over (x ∷ xs) = by_test (spaces_over xs) (is_space x) refl
  where
    by_test : NoSpace (after_spaces xs) → (t : Bool) → is_space x ≡ t → NoSpace (after_spaces (x ∷ xs))
    by_test rest true e = subst (λ ys. NoSpace ys) (sym (space_on x xs e)) rest
    by_test rest false e = subst (λ ys. NoSpace ys) (sym (space_off x xs e)) e

-- behind an open tag
sound_begun : (tag begun bytes : List ℕ) → IsOpenTag tag → IsUtf8 begun → bytes ≡ tag ++ begun → Sound bytes (begun_place (length tag) begun)
sound_begun tag begun bytes o u e =
    let n = length tag in
    let size : length bytes ≡ n + length begun = ap length e ∙ length-append tag begun in
    let tag_is : take n bytes ≡ tag = ap (take n) e ∙ take_at tag begun n refl in
    let begun_is : drop n bytes ≡ begun = ap (drop n) e ∙ drop_at tag begun n refl in
    test_is (Sound bytes) (are_name_chars begun) (places.AttributeName n) (cond (begins_value begun) (places.AttributeValue n (name_len begun)) places.Elsewhere)
    (λ all. (
      omega arith,
      subst (λ t. IsAttributeName t bytes) (sym tag_is)
          (record { begun = begun; is_open = o; are_chars = chars_found begun u (eqb-true (name_chars_len 0 begun) (length begun) all); spelled = e }),
    ))
    (λ _. test_is (Sound bytes) (begins_value begun) (places.AttributeValue n (name_len begun)) places.Elsewhere
    (λ b. (let v = value_begun begun u b in
    let it = v.begun in
    let rest = middle it ++ it.quote ∷ it.value in
    let grouped : begun ≡ it.name ++ rest = v.is ∙ append_assoc it.name (middle it) (it.quote ∷ it.value) in
    let named : take (name_len begun) begun ≡ it.name = ap (take (name_len begun)) grouped ∙ take_at it.name rest (name_len begun) v.size in
    let few : length begun ≡ length it.name + length rest = ap length grouped ∙ length-append it.name rest in
    let same = v.size in (
      omega arith,
      subst (λ t. IsAttributeValue t (take (name_len begun) (drop n bytes)) bytes) (sym tag_is)
          (record { begun = it; is_open = o; is_attribute = v.is_attribute; named = sym named ∙ ap (take (name_len begun)) (sym begun_is); spelled = e ∙ ap (λ ys. tag ++ ys) v.is }),
    )))
    (λ _. tt))

sound_left : (body rest left : List ℕ) → IsUtf8 (body ++ rest) → IsName body → IsLeft rest left →
    Sound (60 ∷ (body ++ rest)) (attribute_place (60 ∷ (body ++ rest)) (length (60 ∷ (body ++ rest)) - length left))
sound_left body rest left u is_name l =
    let p = passed_by rest left (text_after body rest u is_name.utf8) l in
    let split = split_spaces left in
    let space = split.0 in
    let begun = after_spaces left in
    let bytes = 60 ∷ (body ++ rest) in
    let first = front body p.its space begun in
    let tag = spelled_tag body p.its space in
    let whole : bytes ≡ tag ++ begun = ap (λ ys. 60 ∷ (body ++ ys)) (p.is ∙ ap (spelled_all p.its) split.2) ∙ sym (whole_is body p.its space begun) in
    let apart : bytes ≡ first ++ (space ++ begun) = whole ∙ whole_split body p.its space begun in
    let size : length bytes ≡ length first + length (space ++ begun) = ap length apart ∙ length-append first (space ++ begun) in
    let tag_size : length first + length space ≡ length tag = sym (ap length (tag_split body p.its space begun) ∙ length-append first space) in
    let at : length bytes - length left ≡ length first = (let b : length left ≡ length (space ++ begun) = ap length split.2 in omega arith) in
    let there : drop (length first) bytes ≡ space ++ begun = ap (drop (length first)) apart ∙ drop_at first (space ++ begun) (length first) refl in
    let begun_text : IsUtf8 begun = text_behind_spaces space begun split.1 (subst (λ ys. IsUtf8 ys) split.2 p.utf8) in
    let place : attribute_place bytes (length bytes - length left) ≡ cond (length space == 0) places.Elsewhere (begun_place (length tag) begun) =
    ap (attribute_place bytes) at ∙ place_at bytes space begun (length first) there split.1 (spaces_over left) ∙ ap (λ k. cond (length space == 0) places.Elsewhere (begun_place k begun)) tag_size in
    subst (Sound bytes) (sym place)
    (test_is (Sound bytes) (length space == 0) places.Elsewhere (begun_place (length tag) begun) (λ _. tt)
    (λ some. sound_begun tag begun bytes
    (record { name = body; attributes = p.its; space = space; is_name = is_name; are_attributes = p.are_spaced; are_spaces = split.1; some_space = not_none (length space) some; spelled = refl })
    begun_text whole))
  where
    not_none : (n : ℕ) → (n == 0) ≡ false → 0 < n
    not_none n h = grind (arith, nat_tests)

sound_start : (xs left : List ℕ) → IsUtf8 xs → (name_len xs == 0) ≡ false → IsLeft (drop (name_len xs) xs) left →
    Sound (60 ∷ xs) (attribute_place (60 ∷ xs) (length (60 ∷ xs) - length left))
sound_start xs left u h l =
    let s = name_found xs u (not_none (name_len xs) h) in
    let rest : drop (name_len xs) xs ≡ s.rest = ap (drop (name_len xs)) s.is ∙ drop_at s.body s.rest (name_len xs) s.size in
    subst (λ ys. Sound (60 ∷ ys) (attribute_place (60 ∷ ys) (length (60 ∷ ys) - length left))) (sym s.is)
    (sound_left s.body s.rest left (subst (λ ys. IsUtf8 ys) s.is u) (record { utf8 = s.utf8; spelled = s.spelled }) (subst (λ ys. IsLeft ys left) rest l))
  where
    not_none : (n : ℕ) → (n == 0) ≡ false → 0 < n
    not_none n h = grind (arith, nat_tests)

sound : (xs left : List ℕ) → IsUtf8 (60 ∷ xs) → IsLeft (behind_name (60 ∷ xs)) left → Sound (60 ∷ xs) (place_in_tag (60 ∷ xs) left)
unfolding place_in_tag start_place
sound xs left u l =
    let v = text_behind [] xs 60 (omega arith) u in
    test_is (Sound (60 ∷ xs)) (starts_with nat_eq xs (codes "/")) (end_place (drop 1 xs)) (start_place (60 ∷ xs) left)
    (λ slash. (let e = slash_is xs slash in
    let w = text_behind [] (drop 1 xs) 47 (omega arith) (subst (λ ys. IsUtf8 ys) e v) in
    test_is (Sound (60 ∷ xs)) (are_name_chars (drop 1 xs)) places.EndName places.Elsewhere
    (λ all. record { begun = drop 1 xs; are_chars = chars_found (drop 1 xs) w (eqb-true (name_chars_len 0 (drop 1 xs)) (length (drop 1 xs)) all); spelled = ap (λ ys. 60 ∷ ys) e })
    (λ _. tt)))
    (λ _. test_is (Sound (60 ∷ xs)) (are_name_chars xs) places.ElementName (cond (name_len xs == 0) places.Elsewhere (attribute_place (60 ∷ xs) (length (60 ∷ xs) - length left)))
    (λ all. record { begun = xs; are_chars = chars_found xs v (eqb-true (name_chars_len 0 xs) (length xs) all); spelled = refl })
    (λ _. test_is (Sound (60 ∷ xs)) (name_len xs == 0) places.Elsewhere (attribute_place (60 ∷ xs) (length (60 ∷ xs) - length left)) (λ _. tt)
    (λ some. sound_start xs left v some l)))

-- ---- so the place is what is written there

place_told : (xs left : List ℕ) → IsUtf8 (60 ∷ xs) → IsLeft (behind_name (60 ∷ xs)) left → IsPlace (60 ∷ xs) (place_in_tag (60 ∷ xs) left)
place_told xs left u l = by_place (place_in_tag (60 ∷ xs) left) refl (sound xs left u l)
  where
    by_place : (place : PlaceInTag) → place_in_tag (60 ∷ xs) left ≡ place → Sound (60 ∷ xs) place → IsPlace (60 ∷ xs) place
    by_place places.ElementName e h = h
    by_place places.EndName e h = h
    by_place (places.AttributeName tag) e h = h
    by_place (places.AttributeValue tag name) e h = h
    by_place places.Elsewhere e h = elsewhere_is (60 ∷ xs) left l e

pub less_is : (bytes : List ℕ) → begins_with (codes "<") bytes ≡ true → bytes ≡ 60 ∷ drop 1 bytes
unfolding begins_with
less_is [] h = absurd (cc)
less_is (b ∷ bytes) h = ap (λ x. x ∷ bytes) (eqb-true b 60 (and_parts (b == 60) true h).0)

pub place_is : (bytes : List ℕ) (place : PlaceInTag) → begins_with (codes "<") bytes ≡ true → IsUtf8 bytes →
    ((left : List ℕ) → IsLeft (behind_name bytes) left → place ≡ place_in_tag bytes left) → IsPlace bytes place
place_is bytes place b u h =
    let e = less_is bytes b in
    let found = left_exists (suc (length (behind_name bytes))) (behind_name bytes) (omega arith) in
    let told : IsPlace (60 ∷ drop 1 bytes) (place_in_tag (60 ∷ drop 1 bytes) found.0) =
    place_told (drop 1 bytes) found.0 (subst (λ ys. IsUtf8 ys) e u) (subst (λ ys. IsLeft (behind_name ys) found.0) e found.1) in
    subst (λ p. IsPlace bytes p) (sym (h found.0 found.1)) (subst (λ ys. IsPlace ys (place_in_tag ys found.0)) (sym e) told)

-- ---- and the prefix is told

abbrev pub prefix_at : EventState → List ℕ → PlaceInTag → TagPrefix
prefix_at state bytes places.ElementName = prefixes.ElementName
prefix_at state bytes places.EndName = prefixes.EndName (innermost_name state.elements)
prefix_at state bytes (places.AttributeName tag) = prefixes.AttributeName (items_so_far state (take tag bytes))
prefix_at state bytes (places.AttributeValue tag name) =
    prefixes.AttributeValue (items_so_far state (take tag bytes)) (name_behind state (take tag bytes) (take name (drop tag bytes)))
prefix_at state bytes places.Elsewhere = prefixes.Elsewhere

pub prefix_is : (state : EventState) (bytes : List ℕ) (place : PlaceInTag) → IsPlace bytes place → IsPrefix state bytes (prefix_at state bytes place)
prefix_is state bytes places.ElementName h = h
prefix_is state bytes places.EndName h = (h, refl)
prefix_is state bytes (places.AttributeName tag) h = (take tag bytes, h.1, refl)
prefix_is state bytes (places.AttributeValue tag name) h = (take tag bytes, take name (drop tag bytes), h.1, refl, refl)
prefix_is state bytes places.Elsewhere h = h

tag_of_name : (tag bytes : List ℕ) → IsAttributeName tag bytes → take (length tag) bytes ≡ tag
tag_of_name tag bytes h = ap (take (length tag)) h.spelled ∙ take_at tag h.begun (length tag) refl

module _ (state : EventState) (bytes left : List ℕ) (l : IsLeft (behind_name bytes) left) (told : IsPlace bytes (place_in_tag bytes left)) where
  unique_by : (other : TagPrefix) → IsPrefix state bytes other → other ≡ prefix_at state bytes (place_in_tag bytes left)
  unique_by prefixes.ElementName h = sym (ap (prefix_at state bytes) (of_element bytes left h))
  unique_by (prefixes.EndName written) h = ap prefixes.EndName h.1 ∙ sym (ap (prefix_at state bytes) (of_end bytes left h.0))
  unique_by (prefixes.AttributeName items) h =
      ap prefixes.AttributeName (h.2 ∙ ap (items_so_far state) (sym (tag_of_name h.0 bytes h.1))) ∙ sym (ap (prefix_at state bytes) (of_name h.0 bytes left h.1 l))
  unique_by (prefixes.AttributeValue items name) h =
      let v = h.2 in
      let it = v.begun in
      let rest = (it.name ++ middle it) ++ it.quote ∷ it.value in
      let tag : take (length h.0) bytes ≡ h.0 = ap (take (length h.0)) v.spelled ∙ take_at h.0 rest (length h.0) refl in
      let behind : drop (length h.0) bytes ≡ rest = ap (drop (length h.0)) v.spelled ∙ drop_at h.0 rest (length h.0) refl in
      let grouped : rest ≡ h.1 ++ (middle it ++ it.quote ∷ it.value) = append_assoc it.name (middle it) (it.quote ∷ it.value) ∙ ap (λ ys. ys ++ (middle it ++ it.quote ∷ it.value)) v.named in
      let written : take (length h.1) (drop (length h.0) bytes) ≡ h.1 =
      ap (take (length h.1)) (behind ∙ grouped) ∙ take_at h.1 (middle it ++ it.quote ∷ it.value) (length h.1) refl in
      ap (λ xs. prefixes.AttributeValue xs name) (h.3 ∙ ap (items_so_far state) (sym tag))
      ∙ ap (prefixes.AttributeValue (items_so_far state (take (length h.0) bytes))) (h.4 ∙ ap (λ xs. name_behind state xs h.1) (sym tag) ∙ ap (name_behind state (take (length h.0) bytes)) (sym written))
      ∙ sym (ap (prefix_at state bytes) (of_value h.0 h.1 bytes left v l))
  unique_by prefixes.Elsewhere h = by_place (place_in_tag bytes left) told
    where
      by_place : (place : PlaceInTag) → IsPlace bytes place → prefixes.Elsewhere ≡ prefix_at state bytes place
      by_place places.ElementName t = absurd (h.no_element t)
      by_place places.EndName t = absurd (h.no_end t)
      by_place (places.AttributeName tag) t = absurd (h.no_attribute (take tag bytes) t.1)
      by_place (places.AttributeValue tag name) t = absurd (h.no_value (take tag bytes) (take name (drop tag bytes)) t.1)
      by_place places.Elsewhere t = refl

pub prefixes_are_told : PrefixesAreTold
prefixes_are_told state bytes u =
    let whole = 60 ∷ bytes in
    let found = left_exists (suc (length (behind_name whole))) (behind_name whole) (omega arith) in
    let told = place_told bytes found.0 u found.1 in (
      prefix_at state whole (place_in_tag whole found.0),
      prefix_is state whole (place_in_tag whole found.0) told,
      unique_by state whole found.0 found.1 told,
    )
