-- What a name opens is, of what opens by whatever name, that whose definitions have it.
use Rattle.std.proofs.Common.{◌≡◌, ℕ, List, [], ◌∷◌, map, refl, sym, ap, ◌∙◌, subst, ◌==◌, Bool, true, false, cond, if◌then◌else◌, Option, None, Some, slice_get}
use Rattle.std.specs.Prelude.{filter}
use Rattle.std.proofs.lemmas.Bool.{true≢false}
use Rattle.std.proofs.lemmas.Bool.Decides.{Decides-eqb}
use Rattle.nx_base.specs.declared.name.Name.{Name}
use Rattle.rng_core.specs.Names.{has_name}
use Rattle.rng_core.specs.Patterns.{Pattern, Definition, not_allowed, empty, any_text, typed, literal, listed, attribute, ref}
use Rattle.rng_core.specs.Patterns.{one_or_more, choice, group, interleave}
use Rattle.rng_kept.specs.SmallPatterns.{choice_of, star}
use Rattle.rng_kept.specs.Nullable.{nullable}
use Rattle.rng_kept.specs.Openings.{Opening, opening, added, joined, then_group, then_interleave, under_interleave, open_definition, opens}
use Rattle.deriv_nodes.specs.declared.openings.Open.{Open}
use Rattle.deriv_nodes.specs.declared.openings.Wanted.TheVariants as wanted
use Rattle.deriv_nodes.specs.Opened.{opening_at, openings_at, AreNodes, AreOpened}
use Rattle.deriv_nodes.specs.Wanted.{has_at, is_named, opens_by, reference_opens}

-- ---- of openings those whose numbers pass a test

chosen : (b : Bool) (xs ys : List Opening) → b ≡ true → (if b then xs else ys) ≡ xs
chosen true xs ys is = refl
chosen false xs ys is = absurd (true≢false (sym is))

passed : (b : Bool) (xs ys : List Opening) → b ≡ false → (if b then xs else ys) ≡ ys
passed true xs ys is = absurd (true≢false is)
passed false xs ys is = refl

module _ (t : ℕ → Bool) where
  abbrev of : List Opening → List Opening
  of os = filter (λ o. t o.number) os

  merged : (c d : Bool) (i : ℕ) (r : Pattern) (o : Opening) (xs : List Opening) → (i == o.number) ≡ true → c ≡ d
      → cond c (opening o.number (choice_of o.rest r) ∷ xs) xs ≡ cond d (added i r (cond c (o ∷ xs) xs)) (cond c (o ∷ xs) xs)
  merged true true i r o xs is same = sym (chosen (i == o.number) _ _ is)
  merged true false i r o xs is same = absurd (true≢false same)
  merged false true i r o xs is same = absurd (true≢false (sym same))
  merged false false i r o xs is same = refl

  behind : (c d : Bool) (i : ℕ) (r : Pattern) (o : Opening) (xs ys : List Opening) → (i == o.number) ≡ false
      → ys ≡ cond d (added i r xs) xs
      → cond c (o ∷ ys) ys ≡ cond d (added i r (cond c (o ∷ xs) xs)) (cond c (o ∷ xs) xs)
  behind true true i r o xs ys is same = ap (λ zs. o ∷ zs) same ∙ sym (passed (i == o.number) _ _ is)
  behind true false i r o xs ys is same = ap (λ zs. o ∷ zs) same
  behind false true i r o xs ys is same = same
  behind false false i r o xs ys is same = same

  one_more : (b : Bool) (i : ℕ) (r : Pattern) (o : Opening) (os : List Opening) → (i == o.number) ≡ b
      → of (added i r os) ≡ cond (t i) (added i r (of os)) (of os)
      → of (added i r (o ∷ os)) ≡ cond (t i) (added i r (of (o ∷ os))) (of (o ∷ os))
  one_more true i r o os is same =
      ap of (chosen (i == o.number) (opening o.number (choice_of o.rest r) ∷ os) (o ∷ added i r os) is)
      ∙ merged (t o.number) (t i) i r o (of os) is (ap t (sym ((Decides-eqb i o.number).0 is)))
  one_more false i r o os is same =
      ap of (passed (i == o.number) (opening o.number (choice_of o.rest r) ∷ os) (o ∷ added i r os) is)
      ∙ behind (t o.number) (t i) i r o (of os) (of (added i r os)) is same

  of_added : (i : ℕ) (r : Pattern) (os : List Opening) → of (added i r os) ≡ cond (t i) (added i r (of os)) (of os)
  of_added i r [] = refl
  of_added i r (o ∷ os) = one_more (i == o.number) i r o os refl (of_added i r os)

  first_joined : (b : Bool) (p : Opening) (xs ys : List Opening)
      → joined (cond b (added p.number p.rest xs) xs) ys ≡ joined xs (cond b (p ∷ ys) ys)
  first_joined true p xs ys = refl
  first_joined false p xs ys = refl

  of_joined : (os ps : List Opening) → of (joined os ps) ≡ joined (of os) (of ps)
  of_joined os [] = refl
  of_joined os (p ∷ ps) =
      of_joined (added p.number p.rest os) ps
      ∙ (ap (λ xs. joined xs (of ps)) (of_added p.number p.rest os) ∙ first_joined (t p.number) p (of os) (of ps))

  first_mapped : (b : Bool) (f : Opening → Opening) (x : Opening) (xs ys : List Opening) → ys ≡ map f xs
      → cond b (f x ∷ ys) ys ≡ map f (cond b (x ∷ xs) xs)
  first_mapped true f x xs ys same = ap (λ zs. f x ∷ zs) same
  first_mapped false f x xs ys same = same

  of_map : (f : Opening → Opening) → ((o : Opening) → (f o).number ≡ o.number) → (os : List Opening) → of (map f os) ≡ map f (of os)
  of_map f keeps [] = refl
  of_map f keeps (o ∷ os) =
      ap (λ n. cond (t n) (f o ∷ of (map f os)) (of (map f os))) (keeps o)
      ∙ first_mapped (t o.number) f o (of os) (of (map f os)) (of_map f keeps os)

  of_where : (b : Bool) (os : List Opening) → of (if b then os else []) ≡ (if b then of os else [])
  of_where true os = refl
  of_where false os = refl

  -- ---- the same of openings by their numbers

  first_at : (b : Bool) (nodes : List Pattern) (o : Open) (os : List Open) (xs : List Opening) → openings_at nodes os ≡ xs
      → openings_at nodes (cond b (o ∷ os) os) ≡ cond b (opening_at nodes o ∷ xs) xs
  first_at true nodes o os xs same = ap (λ zs. opening_at nodes o ∷ zs) same
  first_at false nodes o os xs same = same

  of_at : (nodes : List Pattern) (os : List Open) → openings_at nodes (filter (λ o. t o.number) os) ≡ of (openings_at nodes os)
  of_at nodes [] = refl
  of_at nodes (o ∷ os) = first_at (t o.number) nodes o (filter (λ x. t x.number) os) (of (openings_at nodes os)) (of_at nodes os)

  first_node : (b : Bool) (nodes : List Pattern) (o : Open) (os : List Open) → AreNodes nodes (o ∷ os) → AreNodes nodes (cond b (o ∷ os) os)
  first_node true nodes o os are = are
  first_node false nodes o os are = are.1

  of_nodes : (nodes : List Pattern) (os : List Open) → AreNodes nodes os → AreNodes nodes (filter (λ o. t o.number) os)
  of_nodes nodes [] are = tt
  of_nodes nodes (o ∷ os) are = first_node (t o.number) nodes o (filter (λ x. t x.number) os) (are.0, of_nodes nodes os are.1)

-- ---- of a pattern

chosen_as : (b : Bool) (xs : List Opening) → (if b then xs else []) ≡ cond b xs []
chosen_as true xs = refl
chosen_as false xs = refl

definition_named : (d : Option Definition) (n : Name) (i : ℕ)
    → open_definition d n i ≡ cond (has_at d n) (opening i empty ∷ []) []
definition_named None n i = refl
definition_named (Some d) n i = chosen_as (has_name d.class n) (opening i empty ∷ [])

both : (a b c d : List Opening) → a ≡ b → c ≡ d → joined a c ≡ joined b d
both a b c d one other = ap (λ x. joined x c) one ∙ ap (λ x. joined b x) other

module _ (g : List Definition) (n : Name) where
  abbrev named : List Opening → List Opening
  named os = filter (λ o. is_named g n o.number) os

  abbrev pub all : Pattern → List Opening
  all p = opens_by (reference_opens wanted.Any) p

  placed_named : (f : Opening → Opening) → ((o : Opening) → (f o).number ≡ o.number) → (xs os : List Opening) → xs ≡ named os
      → map f xs ≡ named (map f os)
  placed_named f keeps xs os same = ap (λ ys. map f ys) same ∙ sym (of_map (is_named g n) f keeps os)

  joined_named : (xs ys os ps : List Opening) → xs ≡ named os → ys ≡ named ps → joined xs ys ≡ named (joined os ps)
  joined_named xs ys os ps one other = both xs (named os) ys (named ps) one other ∙ sym (of_joined (is_named g n) os ps)

  opens_named : (p : Pattern) → opens g n p ≡ named (all p)
  opens_named not_allowed = refl
  opens_named empty = refl
  opens_named any_text = refl
  opens_named (typed type excepts) = refl
  opens_named (literal type text) = refl
  opens_named (listed p) = refl
  opens_named (attribute class p) = refl
  opens_named (ref i) = definition_named (slice_get g i) n i
  opens_named (one_or_more p) = placed_named (then_group (star p)) (λ o. refl) (opens g n p) (all p) (opens_named p)
  opens_named (choice p q) = joined_named (opens g n p) (opens g n q) (all p) (all q) (opens_named p) (opens_named q)
  opens_named (group p q) =
      joined_named (map (then_group q) (opens g n p)) (if nullable p then opens g n q else [])
      (map (then_group q) (all p)) (if nullable p then all q else [])
      (placed_named (then_group q) (λ o. refl) (opens g n p) (all p) (opens_named p))
      (ap (λ xs. if nullable p then xs else []) (opens_named q) ∙ sym (of_where (is_named g n) (nullable p) (all q)))
  opens_named (interleave p q) =
      joined_named (map (then_interleave q) (opens g n p)) (map (under_interleave p) (opens g n q))
      (map (then_interleave q) (all p)) (map (under_interleave p) (all q))
      (placed_named (then_interleave q) (λ o. refl) (opens g n p) (all p) (opens_named p))
      (placed_named (under_interleave p) (λ o. refl) (opens g n q) (all q) (opens_named q))

  pub all_named : (nodes : List Pattern) (p : Pattern) (os made : List Open) → AreOpened nodes (all p) os
      → made ≡ filter (λ o. is_named g n o.number) os → AreOpened nodes (opens g n p) made
  all_named nodes p os made are is =
      let P : List Open → Type 0 = λ xs. AreOpened nodes (opens g n p) xs in
      subst P (sym is) (record {
        rests = of_nodes (is_named g n) nodes os are.rests;
        meaning = of_at (is_named g n) nodes os ∙ (ap named are.meaning ∙ sym (opens_named p));
      })

  pub named_by : (p : Pattern) → opens_by (λ i. open_definition (slice_get g i) n i) p ≡ opens g n p
  named_by not_allowed = refl
  named_by empty = refl
  named_by any_text = refl
  named_by (typed type excepts) = refl
  named_by (literal type text) = refl
  named_by (listed p) = refl
  named_by (attribute class p) = refl
  named_by (ref i) = refl
  named_by (one_or_more p) = ap (λ xs. map (then_group (star p)) xs) (named_by p)
  named_by (choice p q) = both _ (opens g n p) _ (opens g n q) (named_by p) (named_by q)
  named_by (group p q) =
      both _ (map (then_group q) (opens g n p)) _ (if nullable p then opens g n q else [])
      (ap (λ xs. map (then_group q) xs) (named_by p)) (ap (λ xs. if nullable p then xs else []) (named_by q))
  named_by (interleave p q) =
      both _ (map (then_interleave q) (opens g n p)) _ (map (under_interleave p) (opens g n q))
      (ap (λ xs. map (then_interleave q) xs) (named_by p)) (ap (λ xs. map (under_interleave p) xs) (named_by q))
