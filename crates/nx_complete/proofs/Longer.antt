-- The name that is apart from others is none of them, and no class mentions it.
use Rattle.std.proofs.Common.{◌≡◌, ℕ, suc, ◌<◌, ◌≤◌, List, [], ◌∷◌, ◌++◌, length, Bool, true, false, refl, sym, ap, subst, ◌∙◌, arith, ◌⊎◌, inl, inr}
use Rattle.std.specs.Prelude.{max, not, ◌&&◌, Contains, codes}
use Rattle.std.specs.List.{fold, list_any}
use Rattle.std.specs.Str.{bytes_eq}
use Rattle.std.proofs.lemmas.Bool.{false≢true, false_from_ne_true, and_from, and_parts, and_right, not_from_false, or_cases, or_left, or_right, true≢false}
use Rattle.nx_base.specs.Names.{is_namespace, is_local, is_xml_name, is_attribute_name, same_name}
use Rattle.nx_base.specs.declared.name.Name.{Name}
use Rattle.rng_core.specs.Patterns.{Definition}
use Rattle.rng_kept.specs.Events.{IsAmong, first, later}
use Rattle.rng_kept.specs.Mentioned.{IsUnmentioned, IsUnmentionedNamespace}
use Rattle.rng_live.specs.Listed.{AreMentioned, AreNamespaces}
use Rattle.rng_residual.proofs.SoleNames.{same_name_is, same_itself}
use Rattle.nx_complete.specs.Asking.{named, letters, longest_space, longest_local, is_among}
use Rattle.nx_complete.proofs.Elements.{In, at_head, in_tail, to_in}
use Rattle.nx_complete.proofs.Exactly.{IsNew}
use Rattle.nx_complete.proofs.Witness.{letters_long, letters_are_namespace, letters_are_local}

-- ---- the longest

module _ {X : Type 0} (f : X → ℕ) where
  abbrev pub greatest : ℕ → List X → ℕ
  greatest least xs = fold (λ n (x : X). max n (f x)) least xs

  pub at_least : (least : ℕ) (xs : List X) → least ≤ greatest least xs
  at_least least [] = omega arith
  at_least least (x ∷ xs) = let more = at_least (max least (f x)) xs in omega arith

  pub as_long : (least : ℕ) (xs : List X) (x : X) → In x xs → f x ≤ greatest least xs
  as_long least [] x i = elim i [ ]
  as_long least (y ∷ xs) x (at_head e) = let more = at_least (max least (f y)) xs in let same : f y ≡ f x = ap f e in omega arith
  as_long least (y ∷ xs) x (in_tail i) = as_long (max least (f y)) xs x i

-- ---- one of these

among_in : (n : Name) (xs : List Name) → IsAmong n xs → In n xs
among_in n [] i = elim i [ ]
among_in n (x ∷ xs) (first e) = at_head e
among_in n (x ∷ xs) (later i) = in_tail (among_in n xs i)

pub is_one : (others : List Name) (n : Name) → is_among others n ≡ true → IsAmong n others
is_one [] n h = absurd (false≢true h)
is_one (x ∷ others) n h = elim (or_cases (same_name x n) (is_among others n) h) [
  | inl e ↦ first (same_name_is x n e)
  | inr e ↦ later (is_one others n e)
]

pub one_is : (others : List Name) (n : Name) → IsAmong n others → is_among others n ≡ true
one_is [] n i = elim i [ ]
one_is (x ∷ others) n (first e) = or_left _ _ (subst (λ (m : Name). same_name x m ≡ true) e (same_itself x))
one_is (x ∷ others) n (later i) = or_right (same_name x n) _ (one_is others n i)

pub none_is : (others : List Name) (n : Name) → (IsAmong n others → ⊥) → is_among others n ≡ false
none_is others n h = false_from_ne_true _ (λ e. h (is_one others n e))

-- ---- a name that is longer

module _ (g : List Definition) (names others spaces : List Name) (mentioned : AreMentioned g names) (mentioned_spaces : AreNamespaces g spaces) where
  abbrev long_local : List ℕ
  long_local = letters (suc (longest_local (longest_local 0 names) others))

  abbrev long_space : List ℕ
  long_space = letters (suc (longest_space 0 spaces))

  local_long : length long_local ≡ suc (longest_local (longest_local 0 names) others)
  local_long = letters_long _

  space_long : length long_space ≡ suc (longest_space 0 spaces)
  space_long = letters_long _

  not_mentioned : (ns : List ℕ) → IsUnmentioned g (named ns long_local)
  not_mentioned ns i d c e k = false_from_ne_true _ (λ h.
      let at = to_in names (named ns long_local) ((mentioned.exact (named ns long_local)).1 (record { number = i; definition = d; class = c; is = e; of_definition = k; mentioned = h })) in
      let one = as_long (λ (n : Name). length n.local) 0 names (named ns long_local) at in
      let two = at_least (λ (n : Name). length n.local) (longest_local 0 names) others in
      absurd (omega (arith, one, two, local_long)))

  pub not_other : (ns : List ℕ) → IsAmong (named ns long_local) others → ⊥
  not_other ns i =
      let one = as_long (λ (n : Name). length n.local) (longest_local 0 names) others (named ns long_local) (among_in (named ns long_local) others i) in
      omega (arith, one, local_long)

  not_a_space : IsUnmentionedNamespace g long_space
  not_a_space i d c e k = false_from_ne_true _ (λ h.
      let at = to_in spaces (named long_space []) ((mentioned_spaces.exact (named long_space [])).1 (refl, record { number = i; definition = d; class = c; is = e; of_definition = k; mentioned = h })) in
      let one = as_long (λ (n : Name). length n.ns) 0 spaces (named long_space []) at in
      absurd (omega (arith, one, space_long)))

  name_is : (ns : List ℕ) → is_namespace ns ≡ true → is_xml_name (named ns long_local) ≡ true
  name_is ns h = and_from _ _ h (letters_are_local (longest_local (longest_local 0 names) others))

  not_a_declaration : (n : ℕ) → bytes_eq (letters (suc n)) (codes "xmlns") ≡ false
  not_a_declaration n = refl

  attribute_is : (ns : List ℕ) → is_namespace ns ≡ true → is_attribute_name (named ns long_local) ≡ true
  attribute_is ns h = and_from _ _ (name_is ns h) (not_from_false _ (and_right (bytes_eq ns []) _ (not_a_declaration (longest_local (longest_local 0 names) others))))

  pub new_element : IsNew g (λ n. is_xml_name n ≡ true) long_space long_local
  new_element = record { unmentioned = not_mentioned; fits = name_is; elsewhere = not_a_space; space = letters_are_namespace (suc (longest_space 0 spaces)) }

  pub new_attribute : IsNew g (λ n. (is_attribute_name n ≡ true) × (IsAmong n others → ⊥)) long_space long_local
  new_attribute = record { unmentioned = not_mentioned; fits = λ ns h. (attribute_is ns h, not_other ns); elsewhere = not_a_space; space = letters_are_namespace (suc (longest_space 0 spaces)) }
