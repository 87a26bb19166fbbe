-- The names that came before in a tag, as a set and as the list that they stand for.
use Rattle.std.proofs.Common.{◌≡◌, ℕ, Bool, true, false, cond, inl, inr, List, [], ◌∷◌, ◌++◌, refl, ap, sym, ◌∙◌, Vec}
use Rattle.std.specs.Prelude.{◌&&◌, ◌||◌}
use Rattle.std.specs.List.{list_any}
use Rattle.std.specs.Str.{bytes_eq}
use Rattle.std.proofs.lemmas.Bool.{cases_Bool}
use Rattle.std.proofs.lemmas.Slice.Eq.{bytes_eq-Decides}
use Rattle.nx_base.specs.declared.name.Name.{Name}
use Rattle.nx_events.specs.declared.tag.Attribute.{Attribute}
use Rattle.nx_events.specs.declared.scope.Binding.{Binding}
use Rattle.nx_events.specs.Names.{is_qname}
use Rattle.nx_events.specs.Declarations.{is_declaration, has_attribute, flaw_kind, flaw_if, with_name, flaw_faults, binding_unless, faults_at, bindings_at}
use Rattle.nx_events.specs.Elements.{is_same_name, has_name, new_or_flaw, attribute_resolved, resolved_if_attribute, attribute_declared, declared_if_attribute}
use Rattle.nx_events.specs.SeenNames.{has_pair, AreKept, AreDeclared, new_of}

eq_turned : (xs ys : List ℕ) → bytes_eq xs ys ≡ bytes_eq ys xs
eq_turned xs ys =
    elim (cases_Bool (bytes_eq xs ys)) [
      | inl e ↦ e ∙ sym ((bytes_eq-Decides ys xs).1 (sym ((bytes_eq-Decides xs ys).0 e)))
      | inr e ↦ e ∙ sym (elim (cases_Bool (bytes_eq ys xs)) [
        | inl f ↦ absurd (let bad : true ≡ false = sym ((bytes_eq-Decides xs ys).1 (sym ((bytes_eq-Decides ys xs).0 f))) ∙ e in cc)
        | inr f ↦ f
      ])
    ]

any_last : {A : Type 0} (p : A → Bool) (xs : List A) (x : A) → list_any p (xs ++ x ∷ []) ≡ (list_any p xs || p x)
any_last p [] x = last (p x)
  where
    last : (t : Bool) → (t || false) ≡ t
    last true = refl
    last false = refl
any_last p (y ∷ xs) x = ap (λ (t : Bool). p y || t) (any_last p xs x) ∙ grouped (p y) (list_any p xs) (p x)
  where
    grouped : (a b c : Bool) → (a || (b || c)) ≡ ((a || b) || c)
    grouped true b c = refl
    grouped false b c = refl

module _ {Z : Type 0} where
  -- one more name is kept
  pub kept_more : (keys new : List (Vec ℕ Z × Vec ℕ Z)) (names : List Name) (name : Name) (first second : List ℕ) → first ≡ name.ns → second ≡ name.local →
      ((a b : List ℕ) → has_pair new a b ≡ (has_pair keys a b || (bytes_eq a first && bytes_eq b second))) → AreKept keys names → AreKept new (names ++ name ∷ [])
  kept_more keys new names name first second e f k h other =
      k other.ns other.local
      ∙ ap (λ xs. has_pair keys other.ns other.local || (bytes_eq other.ns xs && bytes_eq other.local second)) e
      ∙ ap (λ xs. has_pair keys other.ns other.local || (bytes_eq other.ns name.ns && bytes_eq other.local xs)) f
      ∙ ap (λ (t : Bool). t || (bytes_eq other.ns name.ns && bytes_eq other.local name.local)) (h other)
      ∙ ap (λ (t : Bool). has_name names other || (t && bytes_eq other.local name.local)) (eq_turned other.ns name.ns)
      ∙ ap (λ (t : Bool). has_name names other || (bytes_eq name.ns other.ns && t)) (eq_turned other.local name.local)
      ∙ sym (any_last (λ (n : Name). is_same_name n other) names name)

  -- one more declaration came
  pub declared_more : (keys new : List (Vec ℕ Z × Vec ℕ Z)) (before : List Attribute) (it : Attribute) (second : List ℕ) → second ≡ it.name →
      ((a b : List ℕ) → has_pair new a b ≡ (has_pair keys a b || (bytes_eq a [] && bytes_eq b second))) → AreDeclared keys before → AreDeclared new (before ++ it ∷ [])
  declared_more keys new before it second e k h name d =
      k [] name
      ∙ ap (λ xs. has_pair keys [] name || bytes_eq name xs) e
      ∙ ap (λ (t : Bool). t || bytes_eq name it.name) (h name d)
      ∙ ap (λ (t : Bool). has_attribute before name || t) (eq_turned name it.name)
      ∙ sym (any_last (λ (a : Attribute). bytes_eq a.name name) before it)

  -- and an attribute that is none
  pub declared_same : (keys : List (Vec ℕ Z × Vec ℕ Z)) (before : List Attribute) (it : Attribute) → is_declaration it.name ≡ false → AreDeclared keys before → AreDeclared keys (before ++ it ∷ [])
  declared_same keys before it n h name d =
      h name d ∙ last (has_attribute before name) ∙ ap (λ (t : Bool). has_attribute before name || t) (sym other) ∙ sym (any_last (λ (a : Attribute). bytes_eq a.name name) before it)
    where
      last : (t : Bool) → t ≡ (t || false)
      last true = refl
      last false = refl

      other : bytes_eq it.name name ≡ false
      other = elim (cases_Bool (bytes_eq it.name name)) [
        | inl e ↦ absurd (let bad : true ≡ false = sym d ∙ ap is_declaration (sym ((bytes_eq-Decides it.name name).0 e)) ∙ n in cc)
        | inr e ↦ e
      ]

  -- whether a declaration's name came before
  pub came_is : (keys : List (Vec ℕ Z × Vec ℕ Z)) (before : List Attribute) (it : Attribute) (second : List ℕ) (came : Bool) → second ≡ it.name → is_declaration it.name ≡ true →
      came ≡ has_pair keys [] second → AreDeclared keys before → came ≡ has_attribute before it.name
  came_is keys before it second came e d k h = k ∙ ap (has_pair keys []) e ∙ h it.name d

flaw_is : (before : List Attribute) (it : Attribute) (came : Bool) → came ≡ has_attribute before it.name → flaw_if came it ≡ flaw_kind before it
unfolding flaw_kind
flaw_is before it came e = ap (λ (t : Bool). flaw_if t it) e

pub faults_are : (before : List Attribute) (it : Attribute) (came : Bool) → is_declaration it.name ≡ true → came ≡ has_attribute before it.name →
    flaw_faults it.span (with_name it.name (flaw_if came it)) ≡ faults_at before it
unfolding faults_at
faults_are before it came d e =
    ap (λ k. flaw_faults it.span (with_name it.name k)) (flaw_is before it came e)
    ∙ sym (ap (λ (t : Bool). cond t (flaw_faults it.span (with_name it.name (flaw_kind before it))) []) d)

pub pairs_are : (before : List Attribute) (it : Attribute) (came : Bool) → is_declaration it.name ≡ true → came ≡ has_attribute before it.name →
    binding_unless it (with_name it.name (flaw_if came it)) ≡ bindings_at before it
unfolding bindings_at
pairs_are before it came d e =
    ap (λ k. binding_unless it (with_name it.name k)) (flaw_is before it came e)
    ∙ sym (ap (λ (t : Bool). cond t (binding_unless it (with_name it.name (flaw_kind before it))) []) d)

-- an attribute resolved in two steps
pub new_is : (scope : List Binding) (names : List Name) (it : Attribute) → new_of names (declared_if_attribute scope it) it.name ≡ resolved_if_attribute scope names it
unfolding declared_if_attribute resolved_if_attribute attribute_declared attribute_resolved new_or_flaw
new_is scope names it =
    elim (cases_Bool (is_declaration it.name)) [
      | inl e ↦ rw e refl
      | inr e ↦ elim (cases_Bool (is_qname it.name)) [ inl f ↦ rw (e, f) refl | inr f ↦ rw (e, f) refl ]
    ]
