-- A map knows the last pair of each prefix.
use Rattle.std.proofs.Common.{◌≡◌, ℕ, ◌+◌, ◌<◌, BTreeMap, Vec, Global, cond, Option, Some, None, List, [], ◌∷◌, ◌++◌, length, take, map, get_or, refl, sym, ap, ◌∙◌, arith}
use Rattle.std.specs.Map.{lookup}
use Rattle.std.specs.Option.{option_map, option_and_then}
use Rattle.std.specs.Prelude.{slice_get}
use Rattle.std.specs.Str.{bytes_eq}
use Rattle.std.proofs.lemmas.List.{map-append, length-map, length-take-le, take_more}
use Rattle.std.proofs.lemmas.Option.{slice_get-map}
use Rattle.std.proofs.lemmas.Simd.{map-map}
use Rattle.nx_base.specs.declared.name.Name.{Name}
use Rattle.nx_events.specs.Choices.{or_else}
use Rattle.nx_events.specs.Places.{last_place, PutsAt}
use Rattle.nx_events.specs.Scopes.{last_uri}
use Rattle.nx_events.specs.declared.scope.Binding.{Binding}
use Rattle.nx_events.proofs.Places.{last_place-push}
use Rattle.nx_events.proofs.Stacks.{last_uri_is}
use Rattle.rngx_read.specs.Indexing.{IsIndex, uri_at}
use Rattle.rngx_read.specs.Names.{last_bound}

abbrev locals : List Name → List (List ℕ)
locals pairs = map (λ (pair : Name). pair.local) pairs

-- ---- what a place leads to

-- a pair as a prefix and its URI
abbrev as_binding : Name → Binding
as_binding pair = record { prefix = pair.local; uri = pair.ns }

as_bindings : (pairs : List Name) (prefix : List ℕ) → last_bound pairs prefix ≡ last_uri (map as_binding pairs) prefix
unfolding last_bound last_uri
as_bindings [] prefix = refl
as_bindings (pair ∷ pairs) prefix =
    ap (λ (o : Option (List ℕ)). or_else o (cond (bytes_eq pair.local prefix) (Some pair.ns) None)) (as_bindings pairs prefix)

same_uri : (o : Option Name) → option_map (λ (b : Binding). b.uri) (option_map as_binding o) ≡ option_map (λ (pair : Name). pair.ns) o
same_uri None = refl
same_uri (Some pair) = refl

at_place : (pairs : List Name) (o : Option ℕ) → option_map (λ (b : Binding). b.uri) (option_and_then (slice_get (map as_binding pairs)) o)
    ≡ uri_at pairs o
at_place pairs None = refl
at_place pairs (Some n) = ap (option_map (λ (b : Binding). b.uri)) (slice_get-map as_binding pairs n) ∙ same_uri (slice_get pairs n)

pub found_at : (pairs : List Name) (prefix : List ℕ) (place : Option ℕ) → place ≡ last_place prefix (locals pairs) →
    uri_at pairs place ≡ last_bound pairs prefix
found_at pairs prefix place is =
    let names : map (λ (b : Binding). b.prefix) (map as_binding pairs) ≡ locals pairs = map-map (λ (b : Binding). b.prefix) as_binding pairs in
    sym (as_bindings pairs prefix ∙ last_uri_is (map as_binding pairs) prefix
    ∙ ap (λ (all : List (List ℕ)). option_map (λ (b : Binding). b.uri)
    (option_and_then (slice_get (map as_binding pairs)) (last_place prefix all))) names
    ∙ at_place pairs (last_place prefix (locals pairs))
    ∙ ap (uri_at pairs) (sym is))

-- ---- one pair after another

pub none_indexed : (places : BTreeMap (Vec ℕ Global) ℕ) → places.entries ≡ [] → IsIndex [] places
unfolding last_place
none_indexed places empty prefix = ap (lookup _) empty

pub one_indexed : (pairs : List Name) (i : ℕ) (pair : Name) (old new : BTreeMap (Vec ℕ Global) ℕ) → i < length pairs → pair ≡ get_or pairs i pair →
    IsIndex (take i pairs) old → PutsAt pair.local (Some i) old new → IsIndex (take (i + 1) pairs) new
one_indexed pairs i pair old new inside is so_far put prefix =
    let done : List Name = take i pairs in
    let count : length (locals done) ≡ i = length-map done (λ (p : Name). p.local) ∙ length-take-le i pairs (omega arith) in
    put prefix
    ∙ ap (λ (o : Option ℕ). cond (bytes_eq pair.local prefix) (Some i) o) (so_far prefix)
    ∙ ap (λ (n : ℕ). cond (bytes_eq pair.local prefix) (Some n) (last_place prefix (locals done))) (sym count)
    ∙ sym (last_place-push prefix (locals done) pair.local)
    ∙ ap (last_place prefix) (sym (map-append (λ (p : Name). p.local) done (pair ∷ [])))
    ∙ ap (λ (p : Name). last_place prefix (locals (done ++ p ∷ []))) is
    ∙ ap (λ (all : List Name). last_place prefix (locals all)) (sym (take_more pairs i pair inside))
