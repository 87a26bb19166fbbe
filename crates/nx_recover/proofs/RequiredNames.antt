-- The names that a residual requires are one list: what a matcher answers is what the rules say.
use Rattle.std.proofs.Common.{◌≡◌, List, [], ◌∷◌, Bool, true, false, refl, sym, ap, ◌∙◌, ◌⊎◌, inl, inr}
use Rattle.std.specs.Prelude.{if◌then◌else◌, ◌&&◌, not, ◌||◌}
use Rattle.std.specs.List.{filter, flat_map, list_all}
use Rattle.std.proofs.lemmas.Bool.{false≢true, cases_Bool, and_parts, and_from, or_left, or_right, or_cases, not-true}
use Rattle.nx_base.specs.declared.name.Name.{Name}
use Rattle.nx_base.specs.Names.{is_namespace, is_xml_name, is_attribute_name}
use Rattle.rng_core.specs.Names.{Class, any_name, ns_name, the_name, either, without, covers, has_attribute_name}
use Rattle.rng_core.specs.Patterns.{Pattern, not_allowed, empty, any_text, typed, literal, listed, attribute, ref, one_or_more, choice, group, interleave}
use Rattle.rng_core.specs.Unmentioned.{covers_others}
use Rattle.rng_kept.specs.Events.{IsAmong, first, later}
use Rattle.rng_kept.specs.Mentioned.{class_mentions, class_mentions_ns}
use Rattle.rng_kept.specs.Needed.{class_names}
use Rattle.rng_kept.specs.Required.{other_at, has_only, needs, way_needs, is_required}
use Rattle.rng_kept.specs.Residuals.{among, in_tag, Residual, is_in_tag}
use Rattle.rng_live.specs.Calls.{AreRequired}
use Rattle.rng_live.specs.Order.{in_order}
use Rattle.rng_live.proofs.OrderedNames.{to_among, from_among, among_front, among_back, from_order, to_order, sorted_order, one_list}
use Rattle.rng_residual.proofs.Mentioned.{covers-unmentioned, covers-other_namespace}
use Rattle.rng_residual.proofs.SoleNames.{found_by_ns, same_name_is}
use Rattle.nx_recover.specs.Required.{pattern_names, way_names, required_names}

-- ---- those that pass a test

passed_by : (b : Bool) (x n : Name) (xs : List Name) → IsAmong n (if b then x ∷ xs else xs) → ((b ≡ true) × (x ≡ n)) ⊎ IsAmong n xs
passed_by true x n xs (first e) = inl (refl, e)
passed_by true x n xs (later i) = inr i
passed_by false x n xs i = inr i

passed : (t : Name → Bool) (xs : List Name) (n : Name) → IsAmong n (filter t xs) → t n ≡ true
passed t [] n i = elim i [ ]
passed t (x ∷ xs) n i = elim (passed_by (t x) x n (filter t xs) i) [
  | inl w ↦ ap t (sym w.1) ∙ w.0
  | inr j ↦ passed t xs n j
]

kept_by : (b : Bool) (x n : Name) (xs : List Name) → b ≡ true → x ≡ n → IsAmong n (if b then x ∷ xs else xs)
kept_by true x n xs h e = first e
kept_by false x n xs h e = absurd (false≢true h)

kept_on : (b : Bool) (x n : Name) (xs : List Name) → IsAmong n xs → IsAmong n (if b then x ∷ xs else xs)
kept_on true x n xs i = later i
kept_on false x n xs i = i

kept : (t : Name → Bool) (xs : List Name) (n : Name) → IsAmong n xs → t n ≡ true → IsAmong n (filter t xs)
kept t [] n i h = elim i [ ]
kept t (x ∷ xs) n (first e) h = kept_by (t x) x n (filter t xs) (ap t e ∙ h) e
kept t (x ∷ xs) n (later i) h = kept_on (t x) x n (filter t xs) (kept t xs n i h)

-- ---- what is required is among the names that are mentioned

only_mentioned : (c : Class) (n : Name) → has_only c n ≡ true → class_mentions c n ≡ true
only_mentioned c n h =
    let w = and_parts (has_attribute_name c n) (not (covers_others c || other_at c c n)) h in
    let v = and_parts (is_attribute_name n) (covers c n) w.0 in
    let ns = (and_parts (is_namespace n.ns) _ (and_parts (is_xml_name n) _ v.0).0).0 in
    let no : (covers_others c || other_at c c n) ≡ false = not-true _ w.1 in
    elim (cases_Bool (class_mentions c n)) [
      | inl e ↦ e
      | inr e ↦ elim (cases_Bool (class_mentions_ns c n.ns)) [
        | inl i ↦ absurd (false≢true (sym no ∙ or_right (covers_others c) _ (found_by_ns c c n n.ns i (and_from _ _ ns (sym (covers-unmentioned c n e) ∙ v.1)))))
        | inr i ↦ absurd (false≢true (sym no ∙ or_left _ _ (sym (covers-other_namespace c n i) ∙ v.1)))
      ]
    ]

mentioned_named : (c : Class) (n : Name) → class_mentions c n ≡ true → IsAmong n (class_names c)
mentioned_named any_name n h = absurd (false≢true h)
mentioned_named (ns_name ns) n h = absurd (false≢true h)
mentioned_named (the_name m) n h = first (sym (same_name_is n m h))
mentioned_named (either c d) n h = elim (or_cases (class_mentions c n) (class_mentions d n) h) [
  | inl e ↦ among_back (class_names d) (class_names c) n (mentioned_named c n e)
  | inr e ↦ among_front (class_names d) (class_names c) n (mentioned_named d n e)
]
mentioned_named (without c d) n h = elim (or_cases (class_mentions c n) (class_mentions d n) h) [
  | inl e ↦ among_back (class_names d) (class_names c) n (mentioned_named c n e)
  | inr e ↦ among_front (class_names d) (class_names c) n (mentioned_named d n e)
]

needed_named : (p : Pattern) (n : Name) → needs n p ≡ true → IsAmong n (pattern_names p)
needed_named (attribute c p) n h = mentioned_named c n (only_mentioned c n h)
needed_named (one_or_more p) n h = needed_named p n h
needed_named (choice p q) n h = needed_named p n (and_parts (needs n p) (needs n q) h).0
needed_named (group p q) n h = elim (or_cases (needs n p) (needs n q) h) [
  | inl e ↦ among_front (pattern_names p) (pattern_names q) n (needed_named p n e)
  | inr e ↦ among_back (pattern_names p) (pattern_names q) n (needed_named q n e)
]
needed_named (interleave p q) n h = elim (or_cases (needs n p) (needs n q) h) [
  | inl e ↦ among_front (pattern_names p) (pattern_names q) n (needed_named p n e)
  | inr e ↦ among_back (pattern_names p) (pattern_names q) n (needed_named q n e)
]
needed_named not_allowed n h = absurd (false≢true h)
needed_named empty n h = absurd (false≢true h)
needed_named any_text n h = absurd (false≢true h)
needed_named (typed d e) n h = absurd (false≢true h)
needed_named (literal d v) n h = absurd (false≢true h)
needed_named (listed p) n h = absurd (false≢true h)
needed_named (ref i) n h = absurd (false≢true h)

required_named : (x : Residual) (n : Name) → is_in_tag x ≡ true → is_required n x ≡ true → IsAmong n (flat_map way_names x)
required_named [] n t r = absurd (false≢true t)
required_named (in_tag p o ∷ ws) n t r = among_front (pattern_names p) (flat_map way_names ws) n (needed_named p n (and_parts (needs n p) (list_all (way_needs n) ws) r).0)
required_named (among o ∷ ws) n t r = required_named ws n t r

-- ---- the list

pub required_names_are : (x : Residual) → AreRequired x (required_names x)
unfolding required_names
required_names_are x =
    let test : Name → Bool = λ n. is_in_tag x && is_required n x in
    let mentioned = flat_map way_names x in
    let names = in_order (filter test mentioned) in
    record {
      sorted = sorted_order (filter test mentioned);
      exact = λ n. (
        (λ c. passed test mentioned n (from_order (filter test mentioned) n (to_among names n c))),
        (λ told.
            let w = and_parts (is_in_tag x) (is_required n x) told in
            from_among names n (to_order (filter test mentioned) n (kept test mentioned n (required_named x n w.0 w.1) told))),
      );
    }

pub required_is : (x : Residual) (names : List Name) → AreRequired x names → names ≡ required_names x
required_is x names are =
    let all = required_names x in
    let own = required_names_are x in
    one_list names all are.sorted own.sorted
    (λ n i. to_among all n ((own.exact n).1 ((are.exact n).0 (from_among names n i))))
    (λ n i. to_among names n ((are.exact n).1 ((own.exact n).0 (from_among all n i))))
