-- Declarations that clash.
use Rattle.std.proofs.Common.{◌≡◌, ◌≢◌, ℕ, zero, suc, ◌⊎◌, inl, inr, if◌then◌else◌, bytes_eq, Bool, true, false, List, [], ◌∷◌, ◌++◌, length, slice_get, Option, Some, None, codes, refl, sym, ap, subst, ◌∙◌}
use Rattle.std.specs.Cmp.Lexicographic.{bytes_decides}
use Rattle.rnc_parse.specs.declared.declaration.Declaration.{Declaration}
use Rattle.rnc_parse.specs.declared.declaration.Declaration.TheVariants as declaration
use Rattle.rnc_parse.specs.declared.surface.Namespace.{Namespace}
use Rattle.rnc_parse.specs.declared.surface.Namespace.TheVariants.{Inherited, Uri}
use Rattle.rnc_parse.specs.Scopes.{declared_namespace, declared_library, Binding, a_namespace, a_library, the_default, bound_prefix, bindings, Binds, xml_uri, IsDeclaredTwice, made_twice, xmlns_declared, xml_declared_otherwise}
use Rattle.rnc_parse.specs.LookingUp.{given_default, may_be_bound, is_of_xml}
use Rattle.rnc_parse.proofs.Declaring.{bindings_more, in_list}

-- ---- what stands in bindings

slice_last : {A : Type 0} (made : List A) (x : A) (more : List A) → slice_get (made ++ x ∷ more) (length made) ≡ Some x
slice_last [] x more = refl
slice_last (one ∷ made) x more = slice_last made x more

slice_before : {A : Type 0} (made more : List A) (i : ℕ) (x : A) → slice_get made i ≡ Some x → slice_get (made ++ more) i ≡ Some x
slice_before [] more i x e = absurd cc
slice_before (one ∷ made) more zero x e = e
slice_before (one ∷ made) more (suc i) x e = slice_before made more i x e

abbrev Stands : List Declaration → Binding → Type 0
Stands done binding = (i : ℕ) × (slice_get (bindings done) i ≡ Some binding)

some_by : {A : Type 0} (b : Bool) (x y : A) (rest : Option A) → (if b then Some x else rest) ≡ Some y → (b ≡ true) ⊎ (rest ≡ Some y)
some_by true x y rest e = inl refl
some_by false x y rest e = inr e

one_in : (made : List Binding) (one binding : Binding) → ((i : ℕ) × (slice_get made i ≡ Some binding)) →
    (i : ℕ) × (slice_get (one ∷ made) i ≡ Some binding)
one_in made one binding s = (suc s.0, s.1)

pub bound_name : (done : List Declaration) (prefix : List ℕ) (ns : Namespace) → declared_namespace done prefix ≡ Some ns →
    Stands done (a_namespace prefix)
bound_name [] prefix ns e = absurd cc
bound_name (declaration.Namespace bound to ∷ done) prefix ns e =
    elim (some_by (bytes_eq bound prefix) to ns (declared_namespace done prefix) e) [
      | inl is ↦ (zero, ap (λ p. Some (a_namespace p)) ((bytes_decides bound prefix).0 is))
      | inr further ↦ one_in (bindings done) (a_namespace bound) (a_namespace prefix) (bound_name done prefix ns further)
    ]
bound_name (declaration.Default (Some bound) to ∷ done) prefix ns e =
    elim (some_by (bytes_eq bound prefix) to ns (declared_namespace done prefix) e) [
      | inl is ↦ (suc zero, ap (λ p. Some (a_namespace p)) ((bytes_decides bound prefix).0 is))
      | inr further ↦ one_in (a_namespace bound ∷ bindings done) the_default (a_namespace prefix) (one_in (bindings done) (a_namespace bound) (a_namespace prefix) (bound_name done prefix ns further))
    ]
bound_name (declaration.Default None to ∷ done) prefix ns e =
    one_in (bindings done) the_default (a_namespace prefix) (bound_name done prefix ns e)
bound_name (declaration.Datatypes bound uri ∷ done) prefix ns e =
    one_in (bindings done) (a_library bound) (a_namespace prefix) (bound_name done prefix ns e)

pub bound_library : (done : List Declaration) (prefix uri : List ℕ) → declared_library done prefix ≡ Some uri →
    Stands done (a_library prefix)
bound_library [] prefix uri e = absurd cc
bound_library (declaration.Datatypes bound to ∷ done) prefix uri e =
    elim (some_by (bytes_eq bound prefix) to uri (declared_library done prefix) e) [
      | inl is ↦ (zero, ap (λ p. Some (a_library p)) ((bytes_decides bound prefix).0 is))
      | inr further ↦ one_in (bindings done) (a_library bound) (a_library prefix) (bound_library done prefix uri further)
    ]
bound_library (declaration.Namespace bound ns ∷ done) prefix uri e =
    one_in (bindings done) (a_namespace bound) (a_library prefix) (bound_library done prefix uri e)
bound_library (declaration.Default (Some bound) ns ∷ done) prefix uri e = one_in (a_namespace bound ∷ bindings done) the_default (a_library prefix) (one_in (bindings done) (a_namespace bound) (a_library prefix) (bound_library done prefix uri e))
bound_library (declaration.Default None ns ∷ done) prefix uri e =
    one_in (bindings done) the_default (a_library prefix) (bound_library done prefix uri e)

pub bound_default : (done : List Declaration) (ns : Namespace) → given_default done ≡ Some ns → Stands done the_default
bound_default [] ns e = absurd cc
bound_default (declaration.Namespace bound to ∷ done) ns e =
    one_in (bindings done) (a_namespace bound) the_default (bound_default done ns e)
bound_default (declaration.Default (Some bound) to ∷ done) ns e = (zero, refl)
bound_default (declaration.Default None to ∷ done) ns e = (zero, refl)
bound_default (declaration.Datatypes bound uri ∷ done) ns e = one_in (bindings done) (a_library bound) the_default (bound_default done ns e)

-- ---- clashes

-- one more that makes a binding that stands there
pub made_again : (done : List Declaration) (one : Declaration) (last : Binding) (rest : List Binding) → bindings (one ∷ []) ≡ last ∷ rest →
    Stands done last → IsDeclaredTwice (done ++ one ∷ []) (bound_prefix last)
made_again done one last rest is s =
    let all : bindings (done ++ one ∷ []) ≡ bindings done ++ last ∷ rest = bindings_more done (one ∷ []) ∙ ap (λ (bs : List Binding). bindings done ++ bs) is in
    made_twice {binding = last} (record {
      first = s.0;
      second = length (bindings done);
      apart = in_list (bindings done) last s.0 s.1;
      there = ap (λ (bs : List Binding). slice_get bs s.0) all ∙ slice_before (bindings done) (last ∷ rest) s.0 last s.1;
      again = ap (λ (bs : List Binding). slice_get bs (length (bindings done))) all ∙ slice_last (bindings done) last rest;
    })

pub binds_right : (done more : List Declaration) (prefix : List ℕ) (ns : Namespace) → Binds more prefix ns → Binds (done ++ more) prefix ns
binds_right [] more prefix ns b = b
binds_right (declaration.Namespace bound to ∷ done) more prefix ns b = inr (binds_right done more prefix ns b)
binds_right (declaration.Default (Some bound) to ∷ done) more prefix ns b = inr (binds_right done more prefix ns b)
binds_right (declaration.Default None to ∷ done) more prefix ns b = binds_right done more prefix ns b
binds_right (declaration.Datatypes bound uri ∷ done) more prefix ns b = binds_right done more prefix ns b

pub binds_left : (done more : List Declaration) (prefix : List ℕ) (ns : Namespace) → Binds done prefix ns → Binds (done ++ more) prefix ns
binds_left [] more prefix ns b = elim b [ ]
binds_left (declaration.Namespace bound to ∷ done) more prefix ns b =
    elim b [ inl is ↦ inl is | inr h ↦ inr (binds_left done more prefix ns h) ]
binds_left (declaration.Default (Some bound) to ∷ done) more prefix ns b =
    elim b [ inl is ↦ inl is | inr h ↦ inr (binds_left done more prefix ns h) ]
binds_left (declaration.Default None to ∷ done) more prefix ns b = binds_left done more prefix ns b
binds_left (declaration.Datatypes bound uri ∷ done) more prefix ns b = binds_left done more prefix ns b

-- a clash stays one, whatever follows
pub twice_more : (done more : List Declaration) (prefix : List ℕ) → IsDeclaredTwice done prefix → IsDeclaredTwice (done ++ more) prefix
twice_more done more prefix (made_twice {binding = b} t) =
    made_twice {binding = b} (record {
      first = t.first;
      second = t.second;
      apart = t.apart;
      there = ap (λ (bs : List Binding). slice_get bs t.first) (bindings_more done more) ∙ slice_before (bindings done) (bindings more) t.first b t.there;
      again = ap (λ (bs : List Binding). slice_get bs t.second) (bindings_more done more) ∙ slice_before (bindings done) (bindings more) t.second b t.again;
    })
twice_more done more prefix (xmlns_declared ns b) = xmlns_declared ns (binds_left done more (codes "xmlns") ns b)
twice_more done more prefix (xml_declared_otherwise ns b other) = xml_declared_otherwise ns (binds_left done more (codes "xml") ns b) other

-- ---- prefixes that may not be bound

pub of_xml : (ns : Namespace) → is_of_xml ns ≡ false → ns ≡ Uri xml_uri → ⊥
of_xml Inherited e is = absurd cc
of_xml (Uri uri) e is = let same : uri ≡ xml_uri = cc in let there = (bytes_decides uri xml_uri).1 same in absurd cc

pub not_of_xml : (ns : Namespace) → is_of_xml ns ≡ true → ns ≡ Uri xml_uri
not_of_xml Inherited e = absurd cc
not_of_xml (Uri uri) e = ap (λ (u : List ℕ). Uri u) ((bytes_decides uri xml_uri).0 e)

may_not : (prefix : List ℕ) (ns : Namespace) (x y : Bool) → bytes_eq prefix (codes "xmlns") ≡ x → bytes_eq prefix (codes "xml") ≡ y →
    (if x then false else (if y then is_of_xml ns else true)) ≡ false →
    (prefix ≡ codes "xmlns") ⊎ ((prefix ≡ codes "xml") × (ns ≢ Uri xml_uri))
may_not prefix ns true y ex ey e = inl ((bytes_decides prefix (codes "xmlns")).0 ex)
may_not prefix ns false true ex ey e = inr ((bytes_decides prefix (codes "xml")).0 ey, of_xml ns e)
may_not prefix ns false false ex ey e = absurd cc

pub may_not_be_bound : (done : List Declaration) (prefix : List ℕ) (ns : Namespace) → may_be_bound prefix ns ≡ false →
    IsDeclaredTwice (done ++ declaration.Namespace prefix ns ∷ []) prefix
may_not_be_bound done prefix ns e = elim (may_not prefix ns (bytes_eq prefix (codes "xmlns")) (bytes_eq prefix (codes "xml")) refl refl e) [
  | inl is ↦ subst (λ (p : List ℕ). IsDeclaredTwice (done ++ declaration.Namespace prefix ns ∷ []) p) (sym is) (xmlns_declared ns (binds_right done (declaration.Namespace prefix ns ∷ []) (codes "xmlns") ns (inl (is, refl))))
  | inr h ↦ subst (λ (p : List ℕ). IsDeclaredTwice (done ++ declaration.Namespace prefix ns ∷ []) p) (sym h.0) (xml_declared_otherwise ns (binds_right done (declaration.Namespace prefix ns ∷ []) (codes "xml") ns (inl (h.0, refl))) h.1)
]

pub not_xmlns : (prefix : List ℕ) (ns : Namespace) → may_be_bound prefix ns ≡ true → prefix ≡ codes "xmlns" → ⊥
not_xmlns prefix ns e is = let there = (bytes_decides prefix (codes "xmlns")).1 is in absurd cc

xml_only : (b x : Bool) → (if b then false else x) ≡ true → x ≡ true
xml_only true x e = absurd cc
xml_only false x e = e

then_by : (b x : Bool) → b ≡ true → (if b then x else true) ≡ true → x ≡ true
then_by true x is e = e
then_by false x is e = absurd cc

pub xml_is_its_own : (prefix : List ℕ) (ns : Namespace) → may_be_bound prefix ns ≡ true → prefix ≡ codes "xml" → ns ≢ Uri xml_uri → ⊥
xml_is_its_own prefix ns e is other =
    other (not_of_xml ns (then_by (bytes_eq prefix (codes "xml")) (is_of_xml ns) ((bytes_decides prefix (codes "xml")).1 is) (xml_only (bytes_eq prefix (codes "xmlns")) (if bytes_eq prefix (codes "xml") then is_of_xml ns else true) e)))
