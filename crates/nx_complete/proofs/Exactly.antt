-- What is listed is exactly what is offered, in order and each once.
use Rattle.std.proofs.Common.{◌≡◌, ℕ, List, [], ◌∷◌, ◌++◌, map, Bool, true, false, refl, sym, ap, subst, ◌∙◌, ◌⊎◌, inl, inr}
use Rattle.std.specs.Prelude.{◌↔◌, Contains, if◌then◌else◌}
use Rattle.std.specs.List.{filter}
use Rattle.std.specs.List.Sorted.{IsStrictlySortedBy}
use Rattle.std.specs.Ordering.{nat_cmp, ordering_then}
use Rattle.std.specs.Str.{bytes_eq}
use Rattle.std.specs.declared.cmp.Ordering.TheVariants.{Less}
use Rattle.std.proofs.lemmas.Bool.{false≢true, and_parts, or_cases, or_left, or_right, false_from_ne_true}
use Rattle.std.proofs.lemmas.List.Kept.{IsStrictlySortedBy-filter}
use Rattle.nx_base.specs.Names.{is_namespace}
use Rattle.nx_base.specs.declared.name.Name.{Name}
use Rattle.nx_base.specs.declared.offer.Offer.{Offer}
use Rattle.nx_base.specs.declared.offer.Offer.TheVariants as offer
use Rattle.rng_core.specs.Names.{Class, any_name, ns_name, the_name, either, without}
use Rattle.rng_core.specs.Patterns.{Definition}
use Rattle.rng_kept.specs.Mentioned.{class_mentions, class_mentions_ns, IsUnmentioned, IsUnmentionedNamespace, AreUnmentionedAlike}
use Rattle.rng_live.specs.Listed.{Mentions, MentionsNamespace, AreMentioned, AreNamespaces}
use Rattle.rng_live.specs.Order.{name_order, text_order}
use Rattle.nx_recover.specs.Offered.{offer_kind, offer_key, offer_order, AreOffers, SomeOther, SomeElse, NameOffered}
use Rattle.nx_complete.specs.Asking.{named, names_passed, spaces_passed, rest_passed, name_offers}
use Rattle.nx_complete.proofs.Mentioning.{unmentioned_in}
use Rattle.nx_complete.proofs.Elements.{In, at_head, in_tail, to_in, from_in, in_front, in_back, in_either, in_filter, filter_in, in_map, map_in, sorted_append, sorted_map}

-- a test of names that tells which may stand here, and that doesn't tell names apart that the schema doesn't mention, if they fit
pub record Tests (g : List Definition) (May Fits : Name → Type 0) (may : Name → Bool) : Type 0 where
  pub told : (n : Name) → may n ≡ true → May n
  pub tells : (n : Name) → May n → may n ≡ true
  pub alike : (n m : Name) → AreUnmentionedAlike g n m → Fits m → May n → May m
  pub spaces : (n : Name) → May n → is_namespace n.ns ≡ true

-- a local part that no name has which is mentioned, and a namespace that isn't
pub record IsNew (g : List Definition) (Fits : Name → Type 0) (ns local : List ℕ) : Type 0 where
  pub unmentioned : (other : List ℕ) → IsUnmentioned g (named other local)
  pub fits : (other : List ℕ) → is_namespace other ≡ true → Fits (named other local)
  pub elsewhere : IsUnmentionedNamespace g ns
  pub space : is_namespace ns ≡ true

bare : (n : Name) → n.local ≡ [] → n ≡ named n.ns []
bare n e = ap (named n.ns) e

by_kinds : (x y : Offer) (a b : ℕ) → offer_kind x ≡ a → offer_kind y ≡ b → nat_cmp a b ≡ Less → offer_order x y ≡ Less
by_kinds x y a b e f h = ap (λ o. ordering_then o (name_order (offer_key x) (offer_key y))) (ap (λ k. nat_cmp k (offer_kind y)) e ∙ ap (nat_cmp a) f ∙ h)

module _ {g : List Definition} {May Fits : Name → Type 0} {may : Name → Bool} (t : Tests g May Fits may) {ns local : List ℕ} (w : IsNew g Fits ns local)
    {names spaces : List Name} (mentioned : AreMentioned g names) (mentioned_spaces : AreNamespaces g spaces) where
  -- ---- names

  named_out : (o : Offer) → In o (names_passed may names) → NameOffered g May o
  named_out o i =
      let m = in_map (λ name. offer.Name name) (filter may names) o i in
      let p = in_filter may names m.from m.inside in
      subst (NameOffered g May) m.is ((mentioned.exact m.from).0 (from_in names m.from p.inside), t.told m.from p.passes)

  named_in : (n : Name) → NameOffered g May (offer.Name n) → In (offer.Name n) (names_passed may names)
  named_in n h = map_in (λ name. offer.Name name) (filter_in may names n (to_in names n ((mentioned.exact n).1 h.0)) (t.tells n h.1))

  -- ---- namespaces

  space_out : (o : Offer) → In o (spaces_passed may local spaces) → NameOffered g May o
  space_out o i =
      let m = in_map (λ (space : Name). offer.AnyIn space.ns) (filter (λ (space : Name). may (named space.ns local)) spaces) o i in
      let p = in_filter (λ (space : Name). may (named space.ns local)) spaces m.from m.inside in
      subst (NameOffered g May) m.is
      (((mentioned_spaces.exact m.from).0 (from_in spaces m.from p.inside)).1, record { name = named m.from.ns local; of = refl; unmentioned = w.unmentioned m.from.ns; may = t.told _ p.passes })

  space_in : (of : List ℕ) → NameOffered g May (offer.AnyIn of) → In (offer.AnyIn of) (spaces_passed may local spaces)
  space_in of h =
      let s = h.1 in
      let is : is_namespace of ≡ true = subst (λ x. is_namespace x ≡ true) s.of (t.spaces s.name s.may) in
      let m : May (named of local) = t.alike s.name (named of local) (record { first = s.unmentioned; second = w.unmentioned of; namespaces = inl s.of }) (w.fits of is) s.may in
      map_in (λ (space : Name). offer.AnyIn space.ns)
      (filter_in (λ (space : Name). may (named space.ns local)) spaces (named of []) (to_in spaces (named of []) ((mentioned_spaces.exact (named of [])).1 (refl, h.0))) (t.tells (named of local) m))

  -- ---- all others

  rest_out : (o : Offer) → In o (rest_passed may (named ns local)) → NameOffered g May o
  rest_out o i = by (may (named ns local)) refl i
    where
      by : (b : Bool) → may (named ns local) ≡ b → In o (if b then offer.AnyElse ∷ [] else []) → NameOffered g May o
      by true e (at_head f) = subst (NameOffered g May) f (record { name = named ns local; unmentioned = w.elsewhere; may = t.told _ e })
      by true e (in_tail j) = elim j [ ]
      by false e j = elim j [ ]

  rest_in : NameOffered g May offer.AnyElse → In offer.AnyElse (rest_passed may (named ns local))
  rest_in h =
      let m : May (named ns local) = t.alike h.name (named ns local) (record { first = unmentioned_in g h.name h.unmentioned; second = w.unmentioned ns; namespaces = inr (h.unmentioned, w.elsewhere) }) (w.fits ns w.space) h.may in
      rw (t.tells (named ns local) m) (at_head refl)

  -- ---- whole

  listed_out : (o : Offer) → In o (name_offers may names spaces ns local) → NameOffered g May o
  listed_out o i = elim (in_either (names_passed may names) _ i) [
    | inl j ↦ named_out o j
    | inr j ↦ elim (in_either (spaces_passed may local spaces) _ j) [
      | inl k ↦ space_out o k
      | inr k ↦ rest_out o k
    ]
  ]

  listed_in : (o : Offer) → NameOffered g May o → In o (name_offers may names spaces ns local)
  listed_in (offer.Name n) h = in_front _ (named_in n h)
  listed_in (offer.AnyIn of) h = in_back (names_passed may names) (in_front _ (space_in of h))
  listed_in offer.AnyElse h = in_back (names_passed may names) (in_back (spaces_passed may local spaces) (rest_in h))
  listed_in (offer.Value text) h = absurd h
  listed_in (offer.End written) h = absurd h

  -- ---- in order

  name_kind : (o : Offer) → In o (names_passed may names) → offer_kind o ≡ 0
  name_kind o i = let m = in_map (λ name. offer.Name name) (filter may names) o i in subst (λ x. offer_kind x ≡ 0) m.is refl

  space_kind : (o : Offer) → In o (spaces_passed may local spaces) → offer_kind o ≡ 1
  space_kind o i =
      let m = in_map (λ (space : Name). offer.AnyIn space.ns) (filter (λ (space : Name). may (named space.ns local)) spaces) o i in
      subst (λ x. offer_kind x ≡ 1) m.is refl

  rest_kind : (o : Offer) → In o (rest_passed may (named ns local)) → offer_kind o ≡ 2
  rest_kind o i = by (may (named ns local)) i
    where
      by : (b : Bool) → In o (if b then offer.AnyElse ∷ [] else []) → offer_kind o ≡ 2
      by true (at_head f) = subst (λ x. offer_kind x ≡ 2) f refl
      by true (in_tail j) = elim j [ ]
      by false j = elim j [ ]

  names_sorted : IsStrictlySortedBy offer_order (names_passed may names)
  names_sorted = sorted_map name_order offer_order (λ name. offer.Name name) (filter may names) (λ x y i j e. e) (IsStrictlySortedBy-filter name_order may names mentioned.sorted)

  bare_in : (n : Name) → In n (filter (λ (space : Name). may (named space.ns local)) spaces) → n ≡ named n.ns []
  bare_in n i =
      let p = in_filter (λ (space : Name). may (named space.ns local)) spaces n i in
      bare n ((mentioned_spaces.exact n).0 (from_in spaces n p.inside)).0

  spaces_sorted : IsStrictlySortedBy offer_order (spaces_passed may local spaces)
  spaces_sorted =
      sorted_map name_order offer_order (λ (space : Name). offer.AnyIn space.ns) (filter (λ (space : Name). may (named space.ns local)) spaces)
      (λ x y i j e. subst (λ (z : Name). name_order (named x.ns []) z ≡ Less) (bare_in y j) (subst (λ (z : Name). name_order z y ≡ Less) (bare_in x i) e))
      (IsStrictlySortedBy-filter name_order (λ (space : Name). may (named space.ns local)) spaces mentioned_spaces.sorted)

  rest_sorted : IsStrictlySortedBy offer_order (rest_passed may (named ns local))
  unfolding IsStrictlySortedBy
  rest_sorted = by (may (named ns local))
    where
      by : (b : Bool) → IsStrictlySortedBy offer_order (if b then offer.AnyElse ∷ [] else [])
      by true = (tt, tt)
      by false = tt

  further_kind : (o : Offer) → In o (spaces_passed may local spaces ++ rest_passed may (named ns local)) → (offer_kind o ≡ 1) ⊎ (offer_kind o ≡ 2)
  further_kind o i = elim (in_either (spaces_passed may local spaces) _ i) [
    | inl j ↦ inl (space_kind o j)
    | inr j ↦ inr (rest_kind o j)
  ]

  listed_sorted : IsStrictlySortedBy offer_order (name_offers may names spaces ns local)
  listed_sorted =
      sorted_append offer_order (names_passed may names) _ names_sorted
      (sorted_append offer_order (spaces_passed may local spaces) _ spaces_sorted rest_sorted (λ x y i j. by_kinds x y 1 2 (space_kind x i) (rest_kind y j) refl))
      (λ x y i j. elim (further_kind y j) [
        | inl e ↦ by_kinds x y 0 1 (name_kind x i) e refl
        | inr e ↦ by_kinds x y 0 2 (name_kind x i) e refl
      ])

  pub names_exactly : AreOffers (NameOffered g May) (name_offers may names spaces ns local)
  names_exactly = record {
    sorted = listed_sorted;
    exact = λ o. (λ h. listed_out o (to_in _ o h), λ h. from_in _ o (listed_in o h));
  }
