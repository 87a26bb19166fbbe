-- A map of names knows their last places.
use Rattle.std.proofs.Common.{◌≡◌, ℕ, suc, Bool, true, false, cond, inl, inr, Option, Some, None, List, [], ◌∷◌, ◌++◌, length, refl, ap, subst, sym, ◌∙◌, append_assoc, BTreeMap, Vec, Global}
use Rattle.std.proofs.Common.{rules}
use Rattle.std.specs.Prelude.{IsSome}
use Rattle.std.specs.BTreeMap.{UpdatesBy, is_at}
use Rattle.std.specs.Cmp.Lexicographic.{slice_cmp, bytes_decides}
use Rattle.std.specs.Map.{KeepsOthers, lookup}
use Rattle.std.specs.Ordering.{nat_cmp, is_eq}
use Rattle.std.specs.Str.{bytes_eq}
use Rattle.std.specs.declared.cmp.Ordering.{Ordering}
use Rattle.std.proofs.lemmas.Bool.{cases_Bool}
use Rattle.std.proofs.lemmas.List.{map-append, length-map}
use Rattle.std.proofs.lemmas.Map.Text.{is_eq-slice_cmp}
use Rattle.nx_events.specs.Items.{one_more}
use Rattle.nx_events.specs.Scopes.{or_else}
use Rattle.nx_events.specs.Places.{last_place, place_at, PutsAt, names_in, Linked, IsIndexed}
use Rattle.nx_events.specs.declared.name_places.Placed.{Placed}

abbrev by_items : Vec ℕ Global → Vec ℕ Global → Ordering
by_items a b = slice_cmp nat_cmp a.items b.items

-- what is found under a name is the name
found_is : (name bytes : List ℕ) → is_eq (slice_cmp nat_cmp name bytes) ≡ true → name ≡ bytes
found_is name bytes found = (bytes_decides name bytes).0 (sym (is_eq-slice_cmp name bytes) ∙ found)

differs : (name other bytes : List ℕ) → bytes_eq name other ≡ false → name ≡ bytes → (t : Bool) → bytes_eq other bytes ≡ t → t ≡ false
differs name other bytes apart same true e =
    let equal : name ≡ other = same ∙ sym ((bytes_decides other bytes).0 e) in
    let both : true ≡ false = sym ((bytes_decides name other).1 equal) ∙ apart in absurd (cc)
differs name other bytes apart same false e = refl

-- after each call that changes one key
pub puts : (old new : BTreeMap (Vec ℕ Global) ℕ) (name : List ℕ) (place : Option ℕ) →
    UpdatesBy by_items (λ key. slice_cmp nat_cmp name key.items) old new place → PutsAt name place old new
unfolding KeepsOthers
puts old new name place h other =
    elim (cases_Bool (bytes_eq name other)) [
      | inl e ↦ ap (place_at new) (sym ((bytes_decides name other).0 e)) ∙ h.1 ∙ sym (ap (λ (t : Bool). cond t place (place_at old other)) e)
      | inr e ↦
          h.3 (λ (key : Vec ℕ Global). is_eq (slice_cmp nat_cmp other key.items))
          (λ x y found. ap (λ n. is_eq (slice_cmp nat_cmp n y.items)) (found_is other x.items found))
          (λ key found. is_eq-slice_cmp other key.items ∙ differs name other key.items e (found_is name key.items found) (bytes_eq other key.items) refl)
          ∙ sym (ap (λ (t : Bool). cond t place (place_at old other)) e)
    ]

-- a name that is there isn't missing
pub not_missing : {X : Type 0} (o : Option X) → IsSome o → o ≡ None → ⊥
not_missing o h e = search rules

-- one name more
or_none : {X : Type 0} (a : Option X) → a ≡ or_else a None
or_none (Some x) = refl
or_none None = refl

or_else_chain : {X : Type 0} (a b c : Option X) → or_else (or_else a b) c ≡ or_else a (or_else b c)
or_else_chain (Some x) b c = refl
or_else_chain None b c = refl

one_more_chain : (a b : Option ℕ) → one_more (or_else a b) ≡ or_else (one_more a) (one_more b)
one_more_chain (Some n) b = refl
one_more_chain None b = refl

one_more_cond : (t : Bool) (n : ℕ) → one_more (cond t (Some n) None) ≡ cond t (Some (suc n)) None
one_more_cond true n = refl
one_more_cond false n = refl

chosen : (t : Bool) (n : ℕ) (o : Option ℕ) → or_else (cond t (Some n) None) o ≡ cond t (Some n) o
chosen true n o = refl
chosen false n o = refl

last_or : (name : List ℕ) (xs : List (List ℕ)) (x : List ℕ) →
    last_place name (xs ++ x ∷ []) ≡ or_else (cond (bytes_eq x name) (Some (length xs)) None) (last_place name xs)
unfolding last_place
last_or name [] x = or_none (cond (bytes_eq x name) (Some 0) None)
last_or name (y ∷ xs) x =
    let found : Option ℕ = cond (bytes_eq x name) (Some (length xs)) None in
    let here : Option ℕ = cond (bytes_eq y name) (Some 0) None in
    ap (λ (o : Option ℕ). or_else (one_more o) here) (last_or name xs x)
    ∙ ap (λ (o : Option ℕ). or_else o here) (one_more_chain found (last_place name xs))
    ∙ or_else_chain (one_more found) (one_more (last_place name xs)) here
    ∙ ap (λ (o : Option ℕ). or_else o (or_else (one_more (last_place name xs)) here)) (one_more_cond (bytes_eq x name) (length xs))

pub last_place-push : (name : List ℕ) (xs : List (List ℕ)) (x : List ℕ) →
    last_place name (xs ++ x ∷ []) ≡ cond (bytes_eq x name) (Some (length xs)) (last_place name xs)
last_place-push name xs x = last_or name xs x ∙ chosen (bytes_eq x name) (length xs) (last_place name xs)

pub names_pushed : (all : List Placed) (it : Placed) → names_in (all ++ it ∷ []) ≡ names_in all ++ it.name.items ∷ []
names_pushed all it = map-append (λ (p : Placed). p.name.items) all (it ∷ [])

linked_pushed : (before : List (List ℕ)) (all : List Placed) (it : Placed) → Linked before all → it.around ≡ last_place it.name.items (before ++ names_in all) →
    Linked before (all ++ it ∷ [])
linked_pushed before [] it h e = (e ∙ ap (last_place it.name.items) (nothing before), tt)
  where
    nothing : (xs : List (List ℕ)) → xs ++ [] ≡ xs
    nothing [] = refl
    nothing (x ∷ xs) = ap (λ ys. x ∷ ys) (nothing xs)
linked_pushed before (p ∷ all) it h e =
    (h.0, linked_pushed (before ++ p.name.items ∷ []) all it h.1 (e ∙ ap (last_place it.name.items) (sym (append_assoc before (p.name.items ∷ []) (names_in all)))))

linked_popped : (before : List (List ℕ)) (all : List Placed) (it : Placed) → Linked before (all ++ it ∷ []) →
    Linked before all × (it.around ≡ last_place it.name.items (before ++ names_in all))
linked_popped before [] it h = (tt, h.0 ∙ ap (last_place it.name.items) (nothing before))
  where
    nothing : (xs : List (List ℕ)) → xs ≡ xs ++ []
    nothing [] = refl
    nothing (x ∷ xs) = ap (λ ys. x ∷ ys) (nothing xs)
linked_popped before (p ∷ all) it h =
    let rest = linked_popped (before ++ p.name.items ∷ []) all it h.1 in
    ((h.0, rest.0), rest.1 ∙ ap (last_place it.name.items) (append_assoc before (p.name.items ∷ []) (names_in all)))

-- a map that knows the last places, and the names with one more at the end
pub pushed : (all : List Placed) (last new : BTreeMap (Vec ℕ Global) ℕ) (it : Placed) (key : List ℕ) (place : ℕ) → IsIndexed all last →
    it.around ≡ place_at last it.name.items → it.name.items ≡ key → place ≡ length all → PutsAt key (Some place) last new → IsIndexed (all ++ it ∷ []) new
pushed all last new it key place h around named size p = record {
  found = λ name.
      p name
      ∙ ap (λ (o : Option ℕ). cond (bytes_eq key name) (Some place) o) (h.found name)
      ∙ ap (λ k. cond (bytes_eq k name) (Some place) (last_place name (names_in all))) (sym named)
      ∙ ap (λ n. cond (bytes_eq it.name.items name) (Some n) (last_place name (names_in all))) (size ∙ sym (length-map all (λ (q : Placed). q.name.items)))
      ∙ sym (last_place-push name (names_in all) it.name.items)
      ∙ ap (last_place name) (sym (names_pushed all it));
  linked = linked_pushed [] all it h.linked (around ∙ h.found it.name.items);
}

-- and with the last one taken off
pub popped : (all : List Placed) (last new : BTreeMap (Vec ℕ Global) ℕ) (it : Placed) → IsIndexed (all ++ it ∷ []) last → PutsAt it.name.items it.around last new → IsIndexed all new
popped all last new it h p =
    let links = linked_popped [] all it h.linked in
    record { found = λ name. p name ∙ by_test links.1 name (bytes_eq it.name.items name) refl; linked = links.0 }
  where
    by_test : it.around ≡ last_place it.name.items (names_in all) → (name : List ℕ) (t : Bool) → bytes_eq it.name.items name ≡ t → cond t it.around (place_at last name) ≡ last_place name (names_in all)
    by_test around name true e = around ∙ ap (λ n. last_place n (names_in all)) ((bytes_decides it.name.items name).0 e)
    by_test around name false e =
        h.found name ∙ ap (last_place name) (names_pushed all it) ∙ last_place-push name (names_in all) it.name.items ∙ ap (λ (t : Bool). cond t (Some (length (names_in all))) (last_place name (names_in all))) e

some_there : {X : Type 0} (o : Option X) (x : X) → o ≡ Some x → IsSome o
some_there o x e = search rules

-- the last name is there
pub last_is_there : (all : List Placed) (last : BTreeMap (Vec ℕ Global) ℕ) (it : Placed) → IsIndexed (all ++ it ∷ []) last → IsSome (place_at last it.name.items)
last_is_there all last it h =
    some_there _ (length (names_in all))
    ((h.found it.name.items ∙ ap (last_place it.name.items) (names_pushed all it) ∙ last_place-push it.name.items (names_in all) it.name.items
    ∙ ap (λ (t : Bool). cond t (Some (length (names_in all))) (last_place it.name.items (names_in all))) ((bytes_decides it.name.items it.name.items).1 refl)))

pub none_indexed : (all : List Placed) (last : BTreeMap (Vec ℕ Global) ℕ) → all ≡ [] → last.entries ≡ [] → IsIndexed all last
unfolding last_place
none_indexed all last e f = subst (λ (xs : List Placed). IsIndexed xs last) (sym e) (record { found = λ name. none name last.entries f; linked = tt })
  where
    none : (name : List ℕ) (es : List (Vec ℕ Global × ℕ)) → es ≡ [] → lookup (is_at (λ (key : Vec ℕ Global). slice_cmp nat_cmp name key.items)) es ≡ None
    none name es e = ap (lookup (is_at (λ (key : Vec ℕ Global). slice_cmp nat_cmp name key.items))) e

-- entries that stay are the same map
pub same_indexed : (all : List Placed) (last new : BTreeMap (Vec ℕ Global) ℕ) → IsIndexed all last → new.entries ≡ last.entries → IsIndexed all new
same_indexed all last new h e =
    record { found = λ name. ap (lookup (is_at (λ (key : Vec ℕ Global). slice_cmp nat_cmp name key.items))) e ∙ h.found name; linked = h.linked }
