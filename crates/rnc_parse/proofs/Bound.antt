-- What look-ups hold behind one more declaration.
use Rattle.std.proofs.Common.{◌≡◌, ℕ, Bool, true, false, cond, bytes_eq, List, [], ◌∷◌, ◌++◌, Option, Some, None, inl, inr, is_some, Bor, Result, Ok, Err, suc, length, take, drop, get_or, ◌<◌, codes, refl, sym, ap, subst, ◌∙◌}
use Rattle.std.proofs.lemmas.List.{append_assoc, take-append-drop}
use Rattle.std.proofs.Math.Path.{fun_ext}
use Rattle.std.proofs.Math.Seq.{take-suc, take-length}
use Rattle.std.specs.Option.{option_copied}
use Rattle.rnc_parse.specs.declared.scope.Clash.{Clash}
use Rattle.rnc_parse.specs.declared.scope.Clash.TheVariants as clash
use Rattle.std.specs.Cmp.Lexicographic.{bytes_decides}
use Rattle.rnc_parse.specs.declared.declaration.Declaration.{Declaration}
use Rattle.rnc_parse.specs.declared.declaration.Declaration.TheVariants as declaration
use Rattle.rnc_parse.specs.declared.scope.LookUps.{LookUps}
use Rattle.rnc_parse.specs.declared.surface.Namespace.{Namespace}
use Rattle.rnc_parse.specs.declared.surface.Namespace.TheVariants.{Uri}
use Rattle.rnc_parse.specs.Scopes.{declared_namespace, declared_library, declared_default, Binding, a_namespace, a_library, the_default, bindings, IsMadeTwice, or_else, Binds, IsDeclaredTwice, made_twice, xmlns_declared, xml_declared_otherwise, Scope, scope_of, xml_uri, xsd_uri}
use Rattle.rnc_parse.specs.Looking.{held, namespace_of, scope_in}
use Rattle.rnc_parse.specs.LookingUp.{given_default, may_be_bound, HoldsSoFar, Declares, LooksUp}
use Rattle.rnc_parse.proofs.Declaring.{bindings_more, more_names, more_libraries, more_default, binds_more, or_none, in_order_name, in_order_library, in_order_default, name_step, library_step}
use Rattle.rnc_parse.proofs.Clashing.{bound_name, bound_library, bound_default, made_again, binds_left, binds_right, twice_more, not_xmlns, xml_is_its_own}

-- ---- clashes with what is held

pub name_twice : (look_ups : LookUps) (done : List Declaration) (bound : List ℕ) (to ns : Namespace) → HoldsSoFar look_ups done →
    held look_ups.namespaces bound ≡ Some to → IsDeclaredTwice (done ++ declaration.Namespace bound ns ∷ []) bound
name_twice look_ups done bound to ns h there =
    made_again done (declaration.Namespace bound ns) (a_namespace bound) [] refl (bound_name done bound to (sym (h.names bound) ∙ there))

pub library_twice : (look_ups : LookUps) (done : List Declaration) (bound to uri : List ℕ) → HoldsSoFar look_ups done →
    held look_ups.libraries bound ≡ Some to → IsDeclaredTwice (done ++ declaration.Datatypes bound uri ∷ []) bound
library_twice look_ups done bound to uri h there = made_again done (declaration.Datatypes bound uri) (a_library bound) [] refl (bound_library done bound to (sym (h.libraries bound) ∙ there))

pub default_twice : (look_ups : LookUps) (done : List Declaration) (to ns : Namespace) → HoldsSoFar look_ups done →
    look_ups.unprefixed ≡ Some to → IsDeclaredTwice (done ++ declaration.Default None ns ∷ []) []
default_twice look_ups done to ns h there =
    made_again done (declaration.Default None ns) the_default [] refl (bound_default done to (sym h.unprefixed ∙ there))

-- ---- one more

swapped : (a b : List ℕ) (x y : Bool) → bytes_eq a b ≡ x → bytes_eq b a ≡ y → x ≡ y
swapped a b true true ex ey = refl
swapped a b false false ex ey = refl
swapped a b true false ex ey = let there = (bytes_decides b a).1 (sym ((bytes_decides a b).0 ex)) in absurd cc
swapped a b false true ex ey = let there = (bytes_decides a b).1 (sym ((bytes_decides b a).0 ey)) in absurd cc

-- the map has one more entry
abbrev pub PutIn : {A : Type 0} → (List ℕ → Option A) → List ℕ → A → (List ℕ → Option A) → Type 0
PutIn old bound x new = (other : List ℕ) → new other ≡ cond (bytes_eq other bound) (Some x) (old other)

put_in : {A : Type 0} (old new said : List ℕ → Option A) (bound : List ℕ) (x : A) →
    PutIn old bound x new → ((prefix : List ℕ) → old prefix ≡ said prefix) → (prefix : List ℕ) →
    new prefix ≡ cond (bytes_eq bound prefix) (Some x) (said prefix)
put_in old new said bound x put is prefix =
    put prefix
    ∙ ap (λ (b : Bool). cond b (Some x) (old prefix)) (swapped prefix bound (bytes_eq prefix bound) (bytes_eq bound prefix) refl refl)
    ∙ ap (λ (o : _). cond (bytes_eq bound prefix) (Some x) o) (is prefix)

pub name_added : (old new : LookUps) (done : List Declaration) (bound : List ℕ) (ns : Namespace) → HoldsSoFar old done →
    may_be_bound bound ns ≡ true → held old.namespaces bound ≡ None → new.any ≡ old.any →
    PutIn (held old.namespaces) bound ns (held new.namespaces) → new.libraries ≡ old.libraries → new.unprefixed ≡ old.unprefixed →
    HoldsSoFar new (done ++ declaration.Namespace bound ns ∷ [])
name_added old new done bound ns h may fresh any put libraries unprefixed =
    let none : declared_namespace done bound ≡ None = sym (h.names bound) ∙ fresh in
    record {
      none = any ∙ h.none;
      names = λ prefix. put_in (held old.namespaces) (held new.namespaces) (declared_namespace done) bound ns put h.names prefix ∙ name_step done bound prefix ns none;
      libraries = λ prefix. ap (λ (l : _). held l prefix) libraries ∙ h.libraries prefix ∙ or_none (declared_library done prefix) ∙ sym (more_libraries done (declaration.Namespace bound ns ∷ []) prefix);
      unprefixed = unprefixed ∙ h.unprefixed ∙ or_none (given_default done) ∙ sym (more_default done (declaration.Namespace bound ns ∷ []));
      in_order = in_order_name done bound ns h.in_order none (not_xmlns bound ns may) (xml_is_its_own bound ns may);
    }

pub library_added : (old new : LookUps) (done : List Declaration) (bound uri : List ℕ) → HoldsSoFar old done →
    held old.libraries bound ≡ None → new.any ≡ old.any → new.namespaces ≡ old.namespaces →
    PutIn (held old.libraries) bound uri (held new.libraries) → new.unprefixed ≡ old.unprefixed →
    HoldsSoFar new (done ++ declaration.Datatypes bound uri ∷ [])
library_added old new done bound uri h fresh any namespaces put unprefixed =
    let none : declared_library done bound ≡ None = sym (h.libraries bound) ∙ fresh in
    record {
      none = any ∙ h.none;
      names = λ prefix. ap (λ (l : _). held l prefix) namespaces ∙ h.names prefix ∙ or_none (declared_namespace done prefix) ∙ sym (more_names done (declaration.Datatypes bound uri ∷ []) prefix);
      libraries = λ prefix. put_in (held old.libraries) (held new.libraries) (declared_library done) bound uri put h.libraries prefix ∙ library_step done bound prefix uri none;
      unprefixed =
          unprefixed ∙ h.unprefixed ∙ or_none (given_default done) ∙ sym (more_default done (declaration.Datatypes bound uri ∷ []));
      in_order = in_order_library done bound uri h.in_order none;
    }

pub default_added : (old new : LookUps) (done : List Declaration) (ns : Namespace) → HoldsSoFar old done → old.unprefixed ≡ None →
    new.any ≡ old.any → new.namespaces ≡ old.namespaces → new.libraries ≡ old.libraries → new.unprefixed ≡ Some ns →
    HoldsSoFar new (done ++ declaration.Default None ns ∷ [])
default_added old new done ns h fresh any namespaces libraries unprefixed =
    let none : given_default done ≡ None = sym h.unprefixed ∙ fresh in
    record {
      none = any ∙ h.none;
      names = λ prefix. ap (λ (l : _). held l prefix) namespaces ∙ h.names prefix ∙ or_none (declared_namespace done prefix) ∙ sym (more_names done (declaration.Default None ns ∷ []) prefix);
      libraries = λ prefix. ap (λ (l : _). held l prefix) libraries ∙ h.libraries prefix ∙ or_none (declared_library done prefix) ∙ sym (more_libraries done (declaration.Default None ns ∷ []) prefix);
      unprefixed = unprefixed ∙ ap (λ (o : _). or_else o (Some ns)) (sym none) ∙ sym (more_default done (declaration.Default None ns ∷ []));
      in_order = in_order_default done ns h.in_order none;
    }

-- ---- a default with a prefix says what the two say, one after the other

module _ (done : List Declaration) (bound : List ℕ) (ns : Namespace) where
  abbrev at_once : List Declaration
  at_once = declaration.Default (Some bound) ns ∷ []

  abbrev two : List Declaration
  two = declaration.Default None ns ∷ declaration.Namespace bound ns ∷ []

  abbrev in_steps : List Declaration
  in_steps = (done ++ declaration.Default None ns ∷ []) ++ declaration.Namespace bound ns ∷ []

  steps : in_steps ≡ done ++ two
  steps = append_assoc done (declaration.Default None ns ∷ []) (declaration.Namespace bound ns ∷ [])

  same_bindings : bindings (done ++ two) ≡ bindings (done ++ at_once)
  same_bindings = bindings_more done two ∙ sym (bindings_more done at_once)

  at_once_binds : (prefix : List ℕ) (to : Namespace) → Binds (done ++ at_once) prefix to → Binds (done ++ two) prefix to
  at_once_binds prefix to b =
      elim (binds_more done at_once prefix to b) [ inl h ↦ binds_left done two prefix to h | inr h ↦ binds_right done two prefix to h ]

  two_bind : (prefix : List ℕ) (to : Namespace) → Binds (done ++ two) prefix to → Binds (done ++ at_once) prefix to
  two_bind prefix to b =
      elim (binds_more done two prefix to b) [ inl h ↦ binds_left done at_once prefix to h | inr h ↦ binds_right done at_once prefix to h ]

  twice_in_two : (prefix : List ℕ) → IsDeclaredTwice (done ++ at_once) prefix → IsDeclaredTwice (done ++ two) prefix
  twice_in_two prefix (made_twice {binding = b} t) =
      made_twice {binding = b} (subst (λ (bs : List Binding). IsMadeTwice bs b) (sym same_bindings) t)
  twice_in_two prefix (xmlns_declared to b) = xmlns_declared to (at_once_binds (codes "xmlns") to b)
  twice_in_two prefix (xml_declared_otherwise to b other) = xml_declared_otherwise to (at_once_binds (codes "xml") to b) other

  twice_of_two : (prefix : List ℕ) → IsDeclaredTwice (done ++ two) prefix → IsDeclaredTwice (done ++ at_once) prefix
  twice_of_two prefix (made_twice {binding = b} t) =
      made_twice {binding = b} (subst (λ (bs : List Binding). IsMadeTwice bs b) same_bindings t)
  twice_of_two prefix (xmlns_declared to b) = xmlns_declared to (two_bind (codes "xmlns") to b)
  twice_of_two prefix (xml_declared_otherwise to b other) = xml_declared_otherwise to (two_bind (codes "xml") to b) other

  pub twice_at_default : (prefix : List ℕ) → IsDeclaredTwice (done ++ declaration.Default None ns ∷ []) prefix →
      IsDeclaredTwice (done ++ at_once) prefix
  twice_at_default prefix t = twice_of_two prefix (subst (λ (l : List Declaration). IsDeclaredTwice l prefix) steps (twice_more (done ++ declaration.Default None ns ∷ []) (declaration.Namespace bound ns ∷ []) prefix t))

  pub twice_at_prefix : (prefix : List ℕ) → IsDeclaredTwice in_steps prefix → IsDeclaredTwice (done ++ at_once) prefix
  twice_at_prefix prefix t = twice_of_two prefix (subst (λ (l : List Declaration). IsDeclaredTwice l prefix) steps t)

  held_in_two : (look_ups : LookUps) → HoldsSoFar look_ups (done ++ two) → HoldsSoFar look_ups (done ++ at_once)
  held_in_two look_ups h = record {
    none = h.none;
    names = λ prefix. h.names prefix ∙ more_names done two prefix ∙ sym (more_names done at_once prefix);
    libraries = λ prefix. h.libraries prefix ∙ more_libraries done two prefix ∙ sym (more_libraries done at_once prefix);
    unprefixed = h.unprefixed ∙ more_default done two ∙ sym (more_default done at_once);
    in_order = λ prefix t. h.in_order prefix (twice_in_two prefix t);
  }

  pub held_in_steps : (look_ups : LookUps) → HoldsSoFar look_ups in_steps → HoldsSoFar look_ups (done ++ at_once)
  held_in_steps look_ups h = held_in_two look_ups (subst (λ (l : List Declaration). HoldsSoFar look_ups l) steps h)

  pub declares_both : {A : Type 0} (look_ups : LookUps) (result : Result A Clash) →
      Declares in_steps look_ups result → Declares (done ++ at_once) look_ups result
  declares_both look_ups (Ok x) d = held_in_steps look_ups d
  declares_both look_ups (Err (clash.Twice prefix)) d = twice_at_prefix prefix d
  declares_both look_ups (Err clash.NoMemory) d = d

  pub fails_at_default : (look_ups : LookUps) (why : Clash) → Declares {A = Unit {0}} (done ++ declaration.Default None ns ∷ []) look_ups (Err why) → Declares {A = Unit {0}} (done ++ at_once) look_ups (Err why)
  fails_at_default look_ups (clash.Twice prefix) d = twice_at_default prefix d
  fails_at_default look_ups clash.NoMemory d = d

-- ---- all of them

-- a clash at one of the declarations is one of them all
pub clash_stays : (declarations : List Declaration) (i : ℕ) (one : Declaration) (look_ups : LookUps) (why : Clash) → i < length declarations → one ≡ get_or declarations i one → Declares {A = Unit {0}} (take i declarations ++ one ∷ []) look_ups (Err why) → LooksUp declarations (Err why)
clash_stays declarations i one look_ups clash.NoMemory below is d = d
clash_stays declarations i one look_ups (clash.Twice prefix) below is d =
    let so_far : take (suc i) declarations ≡ take i declarations ++ one ∷ [] = take-suc declarations i one below ∙ ap (λ (x : Declaration). take i declarations ++ x ∷ []) (sym is) in
    subst (λ (l : List Declaration). IsDeclaredTwice l prefix) (take-append-drop (suc i) declarations)
    (twice_more (take (suc i) declarations) (drop (suc i) declarations) prefix (subst (λ (l : List Declaration). IsDeclaredTwice l prefix) (sym so_far) d))

pub all_done : (declarations : List Declaration) (i : ℕ) (look_ups : LookUps) → i ≡ length declarations →
    HoldsSoFar look_ups (take i declarations) → HoldsSoFar look_ups declarations
all_done declarations i look_ups is h =
    subst (λ (l : List Declaration). HoldsSoFar look_ups l) (ap (λ (n : ℕ). take n declarations) is ∙ take-length declarations) h

given_is_declared : (declarations : List Declaration) → namespace_of (given_default declarations) ≡ declared_default declarations
given_is_declared [] = refl
given_is_declared (declaration.Namespace bound ns ∷ more) = given_is_declared more
given_is_declared (declaration.Default bound ns ∷ more) = refl
given_is_declared (declaration.Datatypes bound uri ∷ more) = given_is_declared more

some_there : {A : Type 0} (o : Option A) → is_some o ≡ true → (x : A) × (o ≡ Some x)
some_there None e = absurd cc
some_there (Some x) e = (x, refl)

pub none_there : {A : Type 0} (o : Option A) → is_some o ≡ false → o ≡ None
none_there None e = refl
none_there (Some x) e = absurd cc

-- the same of what was found to be there
pub name_stands : (look_ups : LookUps) (done : List Declaration) (bound : List ℕ) (ns : Namespace) → HoldsSoFar look_ups done →
    is_some (held look_ups.namespaces bound) ≡ true → IsDeclaredTwice (done ++ declaration.Namespace bound ns ∷ []) bound
name_stands look_ups done bound ns h is = let there = some_there (held look_ups.namespaces bound) is in name_twice look_ups done bound there.0 ns h there.1

pub library_stands : (look_ups : LookUps) (done : List Declaration) (bound uri : List ℕ) → HoldsSoFar look_ups done →
    is_some (held look_ups.libraries bound) ≡ true → IsDeclaredTwice (done ++ declaration.Datatypes bound uri ∷ []) bound
library_stands look_ups done bound uri h is = let there = some_there (held look_ups.libraries bound) is in library_twice look_ups done bound there.0 uri h there.1

pub default_stands : (look_ups : LookUps) (done : List Declaration) (ns : Namespace) → HoldsSoFar look_ups done →
    is_some look_ups.unprefixed ≡ true → IsDeclaredTwice (done ++ declaration.Default None ns ∷ []) []
default_stands look_ups done ns h is = let there = some_there look_ups.unprefixed is in default_twice look_ups done there.0 ns h there.1

pub some_copied : {A : Type 0} (found : Option (Bor A)) → is_some (option_copied found) ≡ is_some found
some_copied None = refl
some_copied (Some x) = refl

names_agree : (look_ups : LookUps) (declarations : List Declaration) → HoldsSoFar look_ups declarations → (prefix : List ℕ) →
    (scope_in look_ups).namespace prefix ≡ (scope_of declarations).namespace prefix
names_agree look_ups declarations h prefix =
    rw h.none (ap (λ (o : _). cond (bytes_eq prefix (codes "xml")) (Some (Uri xml_uri)) o) (h.names prefix))

libraries_agree : (look_ups : LookUps) (declarations : List Declaration) → HoldsSoFar look_ups declarations → (prefix : List ℕ) →
    (scope_in look_ups).library prefix ≡ (scope_of declarations).library prefix
libraries_agree look_ups declarations h prefix =
    rw h.none (ap (λ (o : _). or_else o (cond (bytes_eq prefix (codes "xsd")) (Some xsd_uri) None)) (h.libraries prefix))

abbrev made_of : (List ℕ → Option Namespace) → Namespace → (List ℕ → Option (List ℕ)) → Scope
made_of names none libraries = record { namespace = names; unprefixed = none; library = libraries }

same_parts : (n n' : List ℕ → Option Namespace) (u u' : Namespace) (l l' : List ℕ → Option (List ℕ)) → n ≡ n' → u ≡ u' → l ≡ l' →
    made_of n u l ≡ made_of n' u' l'
same_parts n n' u u' l l' en eu el =
    ap (λ (x : _). made_of x u l) en ∙ ap (λ (x : _). made_of n' x l) eu ∙ ap (λ (x : _). made_of n' u' x) el

pub all_held : (look_ups : LookUps) (declarations : List Declaration) → HoldsSoFar look_ups declarations →
    LooksUp declarations (Ok look_ups)
all_held look_ups declarations h = (
  same_parts (scope_in look_ups).namespace (scope_of declarations).namespace (scope_in look_ups).unprefixed (scope_of declarations).unprefixed (scope_in look_ups).library (scope_of declarations).library
      (fun_ext (names_agree look_ups declarations h))
      (ap namespace_of h.unprefixed ∙ given_is_declared declarations)
      (fun_ext (libraries_agree look_ups declarations h)),
  h.in_order,
)
