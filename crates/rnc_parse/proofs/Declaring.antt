-- Look-ups made of declarations, one after another.
use Rattle.std.proofs.Common.{◌≡◌, ◌≢◌, ℕ, zero, suc, ◌<◌, ◌⊎◌, inl, inr, if◌then◌else◌, bytes_eq, Bool, true, false, List, [], ◌∷◌, ◌++◌, length, slice_get, Option, Some, None, codes, refl, sym, ap, subst, ◌∙◌, arith}
use Rattle.std.specs.Cmp.Lexicographic.{nat_list_eq_equiv, bytes_decides}
use Rattle.rnc_parse.specs.declared.declaration.Declaration.{Declaration}
use Rattle.rnc_parse.specs.declared.declaration.Declaration.TheVariants as declaration
use Rattle.rnc_parse.specs.declared.surface.Namespace.{Namespace}
use Rattle.rnc_parse.specs.declared.surface.Namespace.TheVariants.{Uri}
use Rattle.rnc_parse.specs.Scopes.{declared_namespace, declared_library, AreInOrder, Binding, a_namespace, a_library, the_default, bindings, IsMadeTwice, or_else, Binds, xml_uri, made_twice, xmlns_declared, xml_declared_otherwise}
use Rattle.rnc_parse.specs.LookingUp.{given_default}

-- ---- bindings that are made twice

made_last : {A : Type 0} (made : List A) (last x : A) (i : ℕ) →
    slice_get (made ++ last ∷ []) i ≡ Some x → (slice_get made i ≡ Some x) ⊎ ((i ≡ length made) × (last ≡ x))
made_last [] last x zero e = inr (refl, cc)
made_last [] last x (suc i) e = absurd cc
made_last (one ∷ made) last x zero e = inl e
made_last (one ∷ made) last x (suc i) e = elim (made_last made last x i e) [ inl h ↦ inl h | inr h ↦ inr (ap suc h.0, h.1) ]

pub in_list : {A : Type 0} (made : List A) (x : A) (i : ℕ) → slice_get made i ≡ Some x → i < length made
in_list [] x i e = absurd cc
in_list (one ∷ made) x zero e = omega arith
in_list (one ∷ made) x (suc i) e = omega (arith, in_list made x i e)

-- a binding made twice with one more binding was made twice before, or it is the last and was made before
pub twice_last : (made : List Binding) (last binding : Binding) → IsMadeTwice (made ++ last ∷ []) binding →
    IsMadeTwice made binding ⊎ ((last ≡ binding) × ((i : ℕ) × (slice_get made i ≡ Some binding)))
twice_last made last binding t = second (made_last made last binding t.second t.again) (made_last made last binding t.first t.there)
  where
    second : (slice_get made t.second ≡ Some binding) ⊎ ((t.second ≡ length made) × (last ≡ binding)) →
        (slice_get made t.first ≡ Some binding) ⊎ ((t.first ≡ length made) × (last ≡ binding)) →
        IsMadeTwice made binding ⊎ ((last ≡ binding) × ((i : ℕ) × (slice_get made i ≡ Some binding)))
    second (inl again) (inl there) = inl (record { first = t.first; second = t.second; apart = t.apart; there = there; again = again })
    second (inl again) (inr there) = absurd (omega (arith, in_list made binding t.second again, t.apart, there.0))
    second (inr again) (inl there) = inr (again.1, (t.first, there))
    second (inr again) (inr there) = absurd (omega (arith, t.apart, there.0, again.0))

-- bindings of declarations, one after another
pub bindings_more : (done : List Declaration) (more : List Declaration) → bindings (done ++ more) ≡ bindings done ++ bindings more
bindings_more [] more = refl
bindings_more (declaration.Namespace bound ns ∷ done) more = ap (λ (bs : List Binding). a_namespace bound ∷ bs) (bindings_more done more)
bindings_more (declaration.Default (Some bound) ns ∷ done) more =
    ap (λ (bs : List Binding). the_default ∷ a_namespace bound ∷ bs) (bindings_more done more)
bindings_more (declaration.Default None ns ∷ done) more = ap (λ (bs : List Binding). the_default ∷ bs) (bindings_more done more)
bindings_more (declaration.Datatypes bound uri ∷ done) more = ap (λ (bs : List Binding). a_library bound ∷ bs) (bindings_more done more)

-- ---- what stands for what, with one more declaration

or_by : {A : Type 0} (b : Bool) (x : A) (all one more : Option A) →
    all ≡ or_else one more → (if b then Some x else all) ≡ or_else (if b then Some x else one) more
or_by true x all one more e = refl
or_by false x all one more e = e

none_by : {A : Type 0} (b : Bool) (x : A) (rest : Option A) → (if b then Some x else rest) ≡ None → rest ≡ None
none_by true x rest e = absurd cc
none_by false x rest e = e

-- the first of two that stands there
pub more_names : (done more : List Declaration) (prefix : List ℕ) →
    declared_namespace (done ++ more) prefix ≡ or_else (declared_namespace done prefix) (declared_namespace more prefix)
more_names [] more prefix = refl
more_names (declaration.Namespace bound ns ∷ done) more prefix = or_by (bytes_eq bound prefix) ns _ _ _ (more_names done more prefix)
more_names (declaration.Default (Some bound) ns ∷ done) more prefix = or_by (bytes_eq bound prefix) ns _ _ _ (more_names done more prefix)
more_names (declaration.Default None ns ∷ done) more prefix = more_names done more prefix
more_names (declaration.Datatypes bound uri ∷ done) more prefix = more_names done more prefix

pub more_libraries : (done more : List Declaration) (prefix : List ℕ) →
    declared_library (done ++ more) prefix ≡ or_else (declared_library done prefix) (declared_library more prefix)
more_libraries [] more prefix = refl
more_libraries (declaration.Datatypes bound uri ∷ done) more prefix =
    or_by (bytes_eq bound prefix) uri _ _ _ (more_libraries done more prefix)
more_libraries (declaration.Namespace bound ns ∷ done) more prefix = more_libraries done more prefix
more_libraries (declaration.Default bound ns ∷ done) more prefix = more_libraries done more prefix

-- a prefix that stands for nothing isn't bound
same_bytes : (bound prefix : List ℕ) → bound ≡ prefix → bytes_eq bound prefix ≡ true
same_bytes bound prefix e = rw e (nat_list_eq_equiv.refl prefix)

pub unbound : (done : List Declaration) (prefix : List ℕ) (i : ℕ) → slice_get (bindings done) i ≡ Some (a_namespace prefix) →
    declared_namespace done prefix ≡ None → ⊥
unbound [] prefix i e none = absurd cc
unbound (declaration.Namespace bound ns ∷ done) prefix zero e none = let same : bound ≡ prefix = cc in let is = same_bytes bound prefix same in absurd cc
unbound (declaration.Namespace bound ns ∷ done) prefix (suc i) e none =
    unbound done prefix i e (none_by (bytes_eq bound prefix) ns (declared_namespace done prefix) none)
unbound (declaration.Default (Some bound) ns ∷ done) prefix zero e none = absurd cc
unbound (declaration.Default (Some bound) ns ∷ done) prefix (suc zero) e none = let same : bound ≡ prefix = cc in let is = same_bytes bound prefix same in absurd cc
unbound (declaration.Default (Some bound) ns ∷ done) prefix (suc (suc i)) e none =
    unbound done prefix i e (none_by (bytes_eq bound prefix) ns (declared_namespace done prefix) none)
unbound (declaration.Default None ns ∷ done) prefix zero e none = absurd cc
unbound (declaration.Default None ns ∷ done) prefix (suc i) e none = unbound done prefix i e none
unbound (declaration.Datatypes bound uri ∷ done) prefix zero e none = absurd cc
unbound (declaration.Datatypes bound uri ∷ done) prefix (suc i) e none = unbound done prefix i e none

pub unbound_library : (done : List Declaration) (prefix : List ℕ) (i : ℕ) → slice_get (bindings done) i ≡ Some (a_library prefix) →
    declared_library done prefix ≡ None → ⊥
unbound_library [] prefix i e none = absurd cc
unbound_library (declaration.Datatypes bound uri ∷ done) prefix zero e none = let same : bound ≡ prefix = cc in let is = same_bytes bound prefix same in absurd cc
unbound_library (declaration.Datatypes bound uri ∷ done) prefix (suc i) e none =
    unbound_library done prefix i e (none_by (bytes_eq bound prefix) uri (declared_library done prefix) none)
unbound_library (declaration.Namespace bound ns ∷ done) prefix zero e none = absurd cc
unbound_library (declaration.Namespace bound ns ∷ done) prefix (suc i) e none = unbound_library done prefix i e none
unbound_library (declaration.Default (Some bound) ns ∷ done) prefix zero e none = absurd cc
unbound_library (declaration.Default (Some bound) ns ∷ done) prefix (suc zero) e none = absurd cc
unbound_library (declaration.Default (Some bound) ns ∷ done) prefix (suc (suc i)) e none = unbound_library done prefix i e none
unbound_library (declaration.Default None ns ∷ done) prefix zero e none = absurd cc
unbound_library (declaration.Default None ns ∷ done) prefix (suc i) e none = unbound_library done prefix i e none

-- ---- declarations stay in order

pub binds_more : (done more : List Declaration) (prefix : List ℕ) (ns : Namespace) → Binds (done ++ more) prefix ns →
    Binds done prefix ns ⊎ Binds more prefix ns
binds_more [] more prefix ns b = inr b
binds_more (declaration.Namespace bound to ∷ done) more prefix ns (inl is) = inl (inl is)
binds_more (declaration.Namespace bound to ∷ done) more prefix ns (inr b) =
    elim (binds_more done more prefix ns b) [ inl h ↦ inl (inr h) | inr h ↦ inr h ]
binds_more (declaration.Default (Some bound) to ∷ done) more prefix ns (inl is) = inl (inl is)
binds_more (declaration.Default (Some bound) to ∷ done) more prefix ns (inr b) =
    elim (binds_more done more prefix ns b) [ inl h ↦ inl (inr h) | inr h ↦ inr h ]
binds_more (declaration.Default None to ∷ done) more prefix ns b = binds_more done more prefix ns b
binds_more (declaration.Datatypes bound uri ∷ done) more prefix ns b = binds_more done more prefix ns b

-- declarations with one more, which makes no binding again and doesn't bind what it may not
in_order_more : (done : List Declaration) (one : Declaration) → AreInOrder done
    → ((binding : Binding) → IsMadeTwice (bindings (done ++ one ∷ [])) binding → IsMadeTwice (bindings done) binding)
    → ((ns : Namespace) → Binds (one ∷ []) (codes "xmlns") ns → ⊥)
    → ((ns : Namespace) → Binds (one ∷ []) (codes "xml") ns → ns ≢ Uri xml_uri → ⊥)
    → AreInOrder (done ++ one ∷ [])
in_order_more done one order twice xmlns xml prefix (made_twice {binding = b} t) = order _ (made_twice (twice b t))
in_order_more done one order twice xmlns xml prefix (xmlns_declared ns b) =
    elim (binds_more done (one ∷ []) (codes "xmlns") ns b) [ inl h ↦ order _ (xmlns_declared ns h) | inr h ↦ xmlns ns h ]
in_order_more done one order twice xmlns xml prefix (xml_declared_otherwise ns b other) =
    elim (binds_more done (one ∷ []) (codes "xml") ns b) [ inl h ↦ order _ (xml_declared_otherwise ns h other) | inr h ↦ xml ns h other ]

-- one more binding that wasn't made before
once_more : (done : List Declaration) (one : Declaration) (last : Binding) → bindings (one ∷ []) ≡ last ∷ [] →
    ((i : ℕ) → slice_get (bindings done) i ≡ Some last → ⊥) → (binding : Binding) → IsMadeTwice (bindings (done ++ one ∷ [])) binding →
    IsMadeTwice (bindings done) binding
once_more done one last is fresh binding t =
    let all : bindings (done ++ one ∷ []) ≡ bindings done ++ last ∷ [] = bindings_more done (one ∷ []) ∙ ap (λ (bs : List Binding). bindings done ++ bs) is in
    elim (twice_last (bindings done) last binding (subst (λ (bs : List Binding). IsMadeTwice bs binding) all t)) [ inl h ↦ h | inr h ↦ elim (fresh h.1.0 (h.1.1 ∙ ap (λ (b : Binding). Some b) (sym h.0))) [ ] ]

pub in_order_name : (done : List Declaration) (bound : List ℕ) (ns : Namespace) → AreInOrder done → declared_namespace done bound ≡ None →
    (bound ≡ codes "xmlns" → ⊥) → (bound ≡ codes "xml" → ns ≢ Uri xml_uri → ⊥) → AreInOrder (done ++ declaration.Namespace bound ns ∷ [])
in_order_name done bound ns order none xmlns xml =
    in_order_more done (declaration.Namespace bound ns) order
    (once_more done (declaration.Namespace bound ns) (a_namespace bound) refl (λ i there. unbound done bound i there none))
    (λ to b. elim b [ inl h ↦ xmlns h.0 | inr h ↦ h ])
    (λ to b other. elim b [ inl h ↦ xml h.0 (λ is. other (sym h.1 ∙ is)) | inr h ↦ elim h [ ] ])

pub in_order_library : (done : List Declaration) (bound uri : List ℕ) → AreInOrder done → declared_library done bound ≡ None →
    AreInOrder (done ++ declaration.Datatypes bound uri ∷ [])
in_order_library done bound uri order none =
    in_order_more done (declaration.Datatypes bound uri) order
    (once_more done (declaration.Datatypes bound uri) (a_library bound) refl (λ i there. unbound_library done bound i there none))
    (λ to b. b)
    (λ to b other. b)

-- ---- what stands for what behind one more declaration

pub or_none : {A : Type 0} (x : Option A) → x ≡ or_else x None
or_none None = refl
or_none (Some x) = refl

-- what stands under one more prefix that stood for nothing
one_more_there : {A : Type 0} (stands : List ℕ → Option A) (bound prefix : List ℕ) (x : A) (b : Bool) →
    bytes_eq bound prefix ≡ b → stands bound ≡ None →
    (if b then Some x else stands prefix) ≡ or_else (stands prefix) (if b then Some x else None)
one_more_there stands bound prefix x true e none =
    let same : stands prefix ≡ None = ap stands (sym ((bytes_decides bound prefix).0 e)) ∙ none in
    rw same refl
one_more_there stands bound prefix x false e none = or_none (stands prefix)

pub name_step : (done : List Declaration) (bound prefix : List ℕ) (ns : Namespace) → declared_namespace done bound ≡ None →
    (if bytes_eq bound prefix then Some ns else declared_namespace done prefix) ≡ declared_namespace (done ++ declaration.Namespace bound ns ∷ []) prefix
name_step done bound prefix ns none = one_more_there (declared_namespace done) bound prefix ns (bytes_eq bound prefix) refl none ∙ sym (more_names done (declaration.Namespace bound ns ∷ []) prefix)

pub library_step : (done : List Declaration) (bound prefix uri : List ℕ) → declared_library done bound ≡ None →
    (if bytes_eq bound prefix then Some uri else declared_library done prefix) ≡ declared_library (done ++ declaration.Datatypes bound uri ∷ []) prefix
library_step done bound prefix uri none = one_more_there (declared_library done) bound prefix uri (bytes_eq bound prefix) refl none ∙ sym (more_libraries done (declaration.Datatypes bound uri ∷ []) prefix)

-- the default with one more declaration
pub more_default : (done more : List Declaration) → given_default (done ++ more) ≡ or_else (given_default done) (given_default more)
more_default [] more = refl
more_default (declaration.Namespace bound ns ∷ done) more = more_default done more
more_default (declaration.Default bound ns ∷ done) more = refl
more_default (declaration.Datatypes bound uri ∷ done) more = more_default done more

-- a default that isn't given isn't bound
pub unbound_default : (done : List Declaration) (i : ℕ) → slice_get (bindings done) i ≡ Some the_default → given_default done ≡ None → ⊥
unbound_default [] i e none = absurd cc
unbound_default (declaration.Namespace bound ns ∷ done) zero e none = absurd cc
unbound_default (declaration.Namespace bound ns ∷ done) (suc i) e none = unbound_default done i e none
unbound_default (declaration.Default bound ns ∷ done) i e none = absurd cc
unbound_default (declaration.Datatypes bound uri ∷ done) zero e none = absurd cc
unbound_default (declaration.Datatypes bound uri ∷ done) (suc i) e none = unbound_default done i e none

pub in_order_default : (done : List Declaration) (ns : Namespace) → AreInOrder done → given_default done ≡ None →
    AreInOrder (done ++ declaration.Default None ns ∷ [])
in_order_default done ns order none =
    in_order_more done (declaration.Default None ns) order
    (once_more done (declaration.Default None ns) the_default refl (λ i there. unbound_default done i there none))
    (λ to b. b)
    (λ to b other. b)
