-- What is admitted in a frame: names that documents can have, with any others that the schema can't tell apart.
use Rattle.std.proofs.Common.{◌≡◌, ℕ, List, [], ◌∷◌, ◌++◌, refl, sym, ap, subst, ◌∙◌, append_assoc}
use Rattle.std.specs.Prelude.{IsTrue}
use Rattle.std.specs.List.{AllByRecursion}
use Rattle.std.specs.Str.{is_utf8}
use Rattle.std.proofs.lemmas.Bool.{and_parts}
use Rattle.nx_base.specs.Characters.{is_of_chars}
use Rattle.nx_base.specs.Names.{is_namespace, is_local, is_xml_name, is_attribute_name}
use Rattle.nx_base.specs.Trees.{Attribute, Children, flat, AreAttributes, no_attributes, one_more, AreChildren, no_children, string_first, element_first, Event, Enter, Att, TagEnd, Chars, Leave, attributes_flat, children_flat}
use Rattle.nx_base.specs.declared.name.Name.{Name}
use Rattle.rng_core.specs.Patterns.{Pattern, Language}
use Rattle.rng_core.specs.Validity.{Valid, Viable}
use Rattle.rng_kept.specs.Events.{IsAmong, IsDistinct, distinct_attribute}
use Rattle.rng_kept.specs.Live.{AreLive}
use Rattle.rng_kept.specs.Mentioned.{AreUnmentionedAlike}
use Rattle.rng_kept.specs.Moves.{take, any_value, Adds, adds_event, adds_value, attributes_of}
use Rattle.rng_kept.specs.Residuals.{Residual}
use Rattle.rng_kept.specs.Standing.{Stands}
use Rattle.rng_residual.proofs.Standing.{adds_is, kept_distinct, valid_distinct}
use Rattle.rng_residual.proofs.Unmentioned.{unmentioned_names_alike}
use Rattle.nx_recover.specs.Frames.{Frame, Can}

-- ---- names of valid lists

abbrev IsNamed : Event → Type 0
IsNamed (Enter n) = IsTrue (is_xml_name n)
IsNamed (Att n v) = IsTrue (is_attribute_name n)
IsNamed TagEnd = Unit {0}
IsNamed (Chars t) = Unit {0}
IsNamed Leave = Unit {0}

attributes_named : {a : List Attribute} (es : List Event) → AreAttributes a → AllByRecursion IsNamed es → AllByRecursion IsNamed (attributes_flat a es)
attributes_named es no_attributes h = h
attributes_named es (one_more i f d) h = (i, attributes_named es d h)

children_named : {c : Children} (es : List Event) → AreChildren c → AllByRecursion IsNamed es → AllByRecursion IsNamed (children_flat c es)
children_named es no_children h = h
children_named es (string_first d) h = (tt, children_named es d h)
children_named es (element_first {name = n} {attributes = a} {children = k} {rest = r} i d e f) h =
    (i, attributes_named (TagEnd ∷ children_flat k (Leave ∷ children_flat r es)) d (tt, children_named (Leave ∷ children_flat r es) e (tt, children_named es f h)))

last_named : (k : List Event) (e : Event) (s : List Event) → AllByRecursion IsNamed (k ++ e ∷ s) → IsNamed e
last_named [] e s h = h.0
last_named (x ∷ k) e s h = last_named k e s h.1

viable_named : (g : Language) (p : Pattern) (k : List Event) (e : Event) → Viable g.definitions p (k ++ e ∷ []) → IsNamed e
viable_named g p k e v =
    let w = v.is_rest.valid in
    let whole : k ++ e ∷ v.rest ≡ flat w.tree = sym (append_assoc k (e ∷ []) v.rest) ∙ w.events_are in
    last_named k e v.rest (subst (λ (l : List Event). AllByRecursion IsNamed l) (sym whole) (children_named [] w.is_tree tt))

module _ (g : Language) (f : Frame) where
  -- ---- an event of the text

  record IsLast (e : Event) : Type 0 where
    before : List Event
    viable : Viable g.definitions f.start (before ++ e ∷ [])

  last_of : (e : Event) → Can g f (take e) → IsLast e
  last_of e c =
      let k = c.is_kept in
      record { before = k.0; viable = subst (λ (l : List Event). Viable g.definitions f.start l) (k.4 ∙ ap (λ (a : List Event). k.0 ++ a) (adds_is k.3)) c.viable }

  pub entered_is_name : (n : Name) → Can g f (take (Enter n)) → IsTrue (is_xml_name n)
  entered_is_name n c = let w = last_of (Enter n) c in viable_named g f.start w.before (Enter n) w.viable

  -- ---- an attribute with some value

  pub record CanHave (n : Name) : Type 0 where
    pub value : List ℕ
    pub of_chars : IsTrue (is_of_chars value)
    pub can : Can g f (take (Att n value))

  record AddsValue (n : Name) (added : List Event) : Type 0 where
    value : List ℕ
    of_chars : IsTrue (is_of_chars value)
    is : added ≡ Att n value ∷ []

  value_added : {n : Name} {added : List Event} → Adds (any_value n) added → AddsValue n added
  value_added (adds_value v c) = record { value = v; of_chars = c; is = refl }

  pub some_value : (n : Name) → Can g f (any_value n) → CanHave n
  some_value n c =
      let k = c.is_kept in
      let a = value_added k.3 in
      record {
        value = a.value;
        of_chars = a.of_chars;
        can = record { kept = c.kept; is_kept = (k.0, k.1, k.2, subst (λ (l : List Event). Adds (take (Att n a.value)) l) (sym a.is) adds_event, k.4, tt); viable = c.viable };
      }

  pub any_of : (n : Name) → CanHave n → Can g f (any_value n)
  any_of n h =
      let c = h.can in
      let k = c.is_kept in
      record { kept = c.kept; is_kept = (k.0, k.1, k.2, subst (λ (l : List Event). Adds (any_value n) l) (sym (adds_is k.3)) (adds_value h.value h.of_chars), k.4, c.viable); viable = c.viable }

  pub had_is_name : (n : Name) → Can g f (any_value n) → IsTrue (is_attribute_name n)
  had_is_name n c =
      let h = some_value n c in
      let w = last_of (Att n h.value) h.can in
      viable_named g f.start w.before (Att n h.value) w.viable

  -- ---- alike

  pub entered_alike : {x : Residual} → AreLive g.definitions → Stands g f.start f.moves x → (n m : Name) → AreUnmentionedAlike g.definitions n m → IsTrue (is_xml_name m) →
      Can g f (take (Enter n)) → Can g f (take (Enter m))
  entered_alike {x = x} live s n m u i c = (unmentioned_names_alike g live f.start f.moves x s n m u).elements (entered_is_name n c) i c

  pub had_alike : {x : Residual} → AreLive g.definitions → Stands g f.start f.moves x → (n m : Name) → AreUnmentionedAlike g.definitions n m → IsTrue (is_attribute_name m) →
      (IsAmong n (attributes_of f.moves) → ⊥) → (IsAmong m (attributes_of f.moves) → ⊥) → Can g f (any_value n) → Can g f (any_value m)
  had_alike {x = x} live s n m u i a b c =
      let h = some_value n c in
      let utf8 : IsTrue (is_utf8 h.value) = (and_parts (is_utf8 h.value) _ h.of_chars).0 in
      any_of m (record {
        value = h.value;
        of_chars = h.of_chars;
        can = (unmentioned_names_alike g live f.start f.moves x s n m u).attributes h.value utf8 (had_is_name n c) i a b h.can;
      })

pub namespace_of : (n : Name) → IsTrue (is_xml_name n) → IsTrue (is_namespace n.ns)
namespace_of n h = (and_parts (is_namespace n.ns) (is_local n.local) h).0

pub name_of_attribute : (n : Name) → IsTrue (is_attribute_name n) → IsTrue (is_xml_name n)
name_of_attribute n h = (and_parts (is_xml_name n) _ h).0

-- an attribute that is admitted is a new one
distinct_first : {l : List Name} {n : Name} {v : List ℕ} {s : List Event} → IsDistinct l (Att n v ∷ s) → IsAmong n l → ⊥
distinct_first (distinct_attribute f d) = f

pub attribute_new : (g : Language) (f : Frame) (n : Name) (v : List ℕ) → Can g f (take (Att n v)) → IsAmong n (attributes_of f.moves) → ⊥
attribute_new g f n v c =
    let k = c.is_kept in
    let s = c.viable.rest in
    let is : c.kept ≡ k.0 ++ Att n v ∷ [] = k.4 ∙ ap (λ (a : List Event). k.0 ++ a) (adds_is k.3) in
    let whole : Valid g.definitions f.start (k.0 ++ Att n v ∷ s) =
    subst (λ (l : List Event). Valid g.definitions f.start l) (ap (λ (l : List Event). l ++ s) is ∙ append_assoc k.0 (Att n v ∷ []) s) c.viable.is_rest.valid in
    distinct_first (kept_distinct g f.start f.moves k.0 (Att n v ∷ s) k.2 (valid_distinct (k.0 ++ Att n v ∷ s) whole))
