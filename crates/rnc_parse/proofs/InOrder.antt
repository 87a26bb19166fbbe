-- Declarations are in order, or a prefix is declared twice.
use Rattle.std.proofs.Common.{◌≡◌, ◌≢◌, ℕ, zero, suc, ◌<◌, ◌⊎◌, inl, inr, bytes_eq, Bool, true, false, not, List, [], ◌∷◌, slice_get, Some, None, codes, refl, sym, ap, ◌∙◌, arith}
use Rattle.std.proofs.lemmas.Bool.{cases_Bool}
use Rattle.std.specs.Cmp.Lexicographic.{bytes_decides}
use Rattle.rnc_parse.specs.declared.declaration.Declaration.{Declaration}
use Rattle.rnc_parse.specs.declared.declaration.Declaration.TheVariants as declaration
use Rattle.rnc_parse.specs.declared.surface.Namespace.{Namespace}
use Rattle.rnc_parse.specs.declared.surface.Namespace.TheVariants.{Uri}
use Rattle.rnc_parse.specs.Scopes.{Binding, a_namespace, a_library, the_default, bound_prefix, bindings, IsMadeTwice, Binds, xml_uri, IsDeclaredTwice, made_twice, xmlns_declared, xml_declared_otherwise, AreInOrder}
use Rattle.rnc_parse.specs.LookingUp.{is_of_xml}
use Rattle.rnc_parse.proofs.Clashing.{of_xml, not_of_xml}

-- ---- bindings

-- two prefixes are the same, or aren't
same_or_not : (a b : List ℕ) → (a ≡ b) ⊎ (a ≢ b)
same_or_not a b = elim (cases_Bool (bytes_eq a b)) [
  | inl e ↦ inl ((bytes_decides a b).0 e)
  | inr e ↦ inr (λ same. let is = (bytes_decides a b).1 same in absurd cc)
]

-- two bindings are the same, or aren't
same_binding : (a b : Binding) → (a ≡ b) ⊎ (a ≢ b)
same_binding (a_namespace p) (a_namespace q) =
    elim (same_or_not p q) [ inl e ↦ inl (ap (λ x. a_namespace x) e) | inr other ↦ inr (λ e. let same : p ≡ q = cc in other same) ]
same_binding (a_library p) (a_library q) =
    elim (same_or_not p q) [ inl e ↦ inl (ap (λ x. a_library x) e) | inr other ↦ inr (λ e. let same : p ≡ q = cc in other same) ]
same_binding the_default the_default = inl refl
same_binding (a_namespace p) (a_library q) = inr (λ e. absurd cc)
same_binding (a_namespace p) the_default = inr (λ e. absurd cc)
same_binding (a_library p) (a_namespace q) = inr (λ e. absurd cc)
same_binding (a_library p) the_default = inr (λ e. absurd cc)
same_binding the_default (a_namespace q) = inr (λ e. absurd cc)
same_binding the_default (a_library q) = inr (λ e. absurd cc)

-- a binding is among those that are made, or isn't
abbrev IsMade : List Binding → Binding → Type 0
IsMade made binding = (i : ℕ) × (slice_get made i ≡ Some binding)

-- a binding that is neither the first nor among the others isn't there
not_first : (made : List Binding) (one binding : Binding) → one ≢ binding → (IsMade made binding → ⊥) → IsMade (one ∷ made) binding → ⊥
not_first made one binding other none (zero, e) = let same : one ≡ binding = cc in other same
not_first made one binding other none (suc i, e) = none (i, e)

-- a binding is among those that are made, or isn't
is_made : (made : List Binding) (binding : Binding) → IsMade made binding ⊎ (IsMade made binding → ⊥)
is_made [] binding = inr (λ m. absurd cc)
is_made (one ∷ made) binding = elim (same_binding one binding) [
  | inl same ↦ inl (zero, ap (λ b. Some b) same)
  | inr other ↦ elim (is_made made binding) [ inl m ↦ inl (suc m.0, m.1) | inr none ↦ inr (not_first made one binding other none) ]
]

-- some binding is made twice, or none is
twice_behind : (made : List Binding) (one binding : Binding) → IsMadeTwice made binding → IsMadeTwice (one ∷ made) binding
twice_behind made one binding t =
    record { first = suc t.first; second = suc t.second; apart = omega (arith, t.apart); there = t.there; again = t.again }

-- one more binding that wasn't made makes none twice
once_each : (made : List Binding) (one binding : Binding) (i j : ℕ) → (IsMade made one → ⊥) → (IsMadeTwice made binding → ⊥) → i < j →
    slice_get (one ∷ made) i ≡ Some binding → slice_get (one ∷ made) j ≡ Some binding → ⊥
once_each made one binding i zero fresh once less there again = absurd (omega (arith, less))
once_each made one binding zero (suc j) fresh once less there again = fresh (j, again ∙ sym there)
once_each made one binding (suc i) (suc j) fresh once less there again =
    once (record { first = i; second = j; apart = omega (arith, less); there = there; again = again })

made_twice_or_not : (made : List Binding) →
    ((binding : Binding) × IsMadeTwice made binding) ⊎ ((binding : Binding) → IsMadeTwice made binding → ⊥)
made_twice_or_not [] = inr (λ binding t. let e = t.there in absurd cc)
made_twice_or_not (one ∷ made) = elim (is_made made one) [
  | inl m ↦ inl (one, record { first = 0; second = suc m.0; apart = omega arith; there = refl; again = m.1 })
  | inr fresh ↦ elim (made_twice_or_not made) [
    | inl t ↦ inl (t.0, twice_behind made one t.0 t.1)
    | inr once ↦ inr (λ binding t. once_each made one binding t.first t.second fresh (once binding) t.apart t.there t.again)
  ]
]

-- ---- namespaces that a prefix is bound to

-- a bound namespace that passes the test, or none does
abbrev Bound : (Namespace → Type 0) → (Namespace → Bool) → Type 0
Bound Of test = (ns : Namespace) × Of ns × (test ns ≡ true)

abbrev First : List ℕ → Namespace → List ℕ → (Namespace → Type 0) → Namespace → Type 0
First bound to prefix Later ns = ((bound ≡ prefix) × (to ≡ ns)) ⊎ Later ns

-- a declaration binds the prefix to a namespace that passes the test, or doesn't
passes_first : (bound prefix : List ℕ) (to : Namespace) (test : Namespace → Bool) →
    ((bound ≡ prefix) × (test to ≡ true)) ⊎ (bound ≡ prefix → test to ≡ true → ⊥)
passes_first bound prefix to test = elim (same_or_not bound prefix) [
  | inl same ↦ elim (cases_Bool (test to)) [ inl e ↦ inl (same, e) | inr e ↦ inr (λ _ f. absurd cc) ]
  | inr other ↦ inr (λ same _. other same)
]

-- neither the first declaration nor a later one binds it so
not_bound_first : (bound prefix : List ℕ) (to : Namespace) (test : Namespace → Bool) (Later : Namespace → Type 0) →
    (bound ≡ prefix → test to ≡ true → ⊥) → (Bound Later test → ⊥) → Bound (First bound to prefix Later) test → ⊥
not_bound_first bound prefix to test Later first later (ns, inl here, e) = first here.0 (ap test here.1 ∙ e)
not_bound_first bound prefix to test Later first later (ns, inr there, e) = later (ns, there, e)

-- the first declaration or a later one binds it so, or none does
bound_first : (bound prefix : List ℕ) (to : Namespace) (test : Namespace → Bool) (Later : Namespace → Type 0) →
    (Bound Later test ⊎ (Bound Later test → ⊥)) → Bound (First bound to prefix Later) test ⊎ (Bound (First bound to prefix Later) test → ⊥)
bound_first bound prefix to test Later (inl b) = inl (b.0, inr b.1, b.2)
bound_first bound prefix to test Later (inr none) = elim (passes_first bound prefix to test) [
  | inl h ↦ inl (to, inl (h.0, refl), h.1)
  | inr first ↦ inr (not_bound_first bound prefix to test Later first none)
]

-- some declaration binds the prefix to a namespace that passes the test, or none does
is_bound : (declarations : List Declaration) (prefix : List ℕ) (test : Namespace → Bool) →
    Bound (Binds declarations prefix) test ⊎ (Bound (Binds declarations prefix) test → ⊥)
is_bound [] prefix test = inr (λ b. b.1)
is_bound (declaration.Namespace bound to ∷ more) prefix test =
    bound_first bound prefix to test (Binds more prefix) (is_bound more prefix test)
is_bound (declaration.Default (Some bound) to ∷ more) prefix test =
    bound_first bound prefix to test (Binds more prefix) (is_bound more prefix test)
is_bound (declaration.Default None to ∷ more) prefix test = is_bound more prefix test
is_bound (declaration.Datatypes bound uri ∷ more) prefix test = is_bound more prefix test

-- ---- order

-- what isn't true is false
not_false : (b : Bool) → not b ≡ true → b ≡ false
not_false true e = absurd cc
not_false false e = refl

-- a namespace other than that of `xml` fails the test of it
other_than_xml : (ns : Namespace) → ns ≢ Uri xml_uri → not (is_of_xml ns) ≡ true
other_than_xml ns other = elim (cases_Bool (is_of_xml ns)) [ inl e ↦ absurd (other (not_of_xml ns e)) | inr e ↦ ap not e ]

-- declarations that bind nothing twice, nor `xmlns`, nor `xml` otherwise, are in order
in_order : (declarations : List Declaration) → ((binding : Binding) → IsMadeTwice (bindings declarations) binding → ⊥) →
    (Bound (Binds declarations (codes "xmlns")) (λ ns. true) → ⊥) →
    (Bound (Binds declarations (codes "xml")) (λ ns. not (is_of_xml ns)) → ⊥) → AreInOrder declarations
in_order declarations once xmlns xml prefix (made_twice {binding = b} t) = once b t
in_order declarations once xmlns xml prefix (xmlns_declared ns b) = xmlns (ns, b, refl)
in_order declarations once xmlns xml prefix (xml_declared_otherwise ns b other) = xml (ns, b, other_than_xml ns other)

-- declarations are in order, or some prefix is declared twice
pub in_order_or_not : (declarations : List Declaration) →
    AreInOrder declarations ⊎ ((prefix : List ℕ) × IsDeclaredTwice declarations prefix)
in_order_or_not declarations = elim (made_twice_or_not (bindings declarations)) [
  | inl t ↦ inr (bound_prefix t.0, made_twice {binding = t.0} t.1)
  | inr once ↦ elim (is_bound declarations (codes "xmlns") (λ ns. true)) [
    | inl b ↦ inr (codes "xmlns", xmlns_declared b.0 b.1)
    | inr xmlns ↦ elim (is_bound declarations (codes "xml") (λ ns. not (is_of_xml ns))) [
      | inl b ↦ inr (codes "xml", xml_declared_otherwise b.0 b.1 (of_xml b.0 (not_false (is_of_xml b.0) b.2)))
      | inr xml ↦ inl (in_order declarations once xmlns xml)
    ]
  ]
]
