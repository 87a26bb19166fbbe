-- Where none of the names that are tried is in a class, it has none.
use Rattle.std.specs.Prelude.{◌≡◌, ◌+◌, ℕ, Option, None, Some, true, false, not, ◌&&◌, List, [], length, replicate, codes}
use Rattle.std.proofs.Common.{sym, ◌∙◌, arith, inl, inr, subst}
use Rattle.std.proofs.lemmas.Bool.{cases_Bool, and_parts, and_from, and_right, false≢true, false_from_ne_true, not_from_false}
use Rattle.std.proofs.lemmas.List.{length-replicate}
use Rattle.std.specs.Str.{bytes_eq}
use Rattle.nx_base.specs.declared.name.Name.{Name}
use Rattle.nx_base.specs.Names.{is_namespace, is_local, is_xml_name, is_attribute_name}
use Rattle.rng_core.specs.Names.{Class, covers}
use Rattle.rng_core.specs.Unmentioned.{OverlapAs}
use Rattle.rng_core.specs.declared.name_class.Bearer.{Bearer}
use Rattle.rng_core.specs.declared.name_class.Bearer.TheVariants.{Element, Attribute}
use Rattle.rng_core.proofs.Borne.{overlap_there}
use Rattle.rng_kept.specs.Mentioned.{class_mentions, class_mentions_ns}
use Rattle.rng_live.specs.Living.{has_name_for}
use Rattle.rng_residual.proofs.Mentioned.{covers-unmentioned, covers-other_namespace}
use Rattle.rng_fill.specs.Strings.{has_name_as}
use Rattle.rng_fill.specs.ClassNames.{longest, HasNoneOf, HasNoneWith, IsNameElse}
use Rattle.rng_fill.proofs.Letters.{letters_are_namespace, letters_are_local, letters_declare_none, unmentioned_namespace, unmentioned_name}

-- a name that a class has
record Had (bearer : Bearer) (c : Class) : Type 0 where
  name : Name
  had : has_name_as bearer c name ≡ true

had_by : (bearer : Bearer) (c : Class) → OverlapAs bearer c c → Had bearer c
had_by Element c o = record { name = o.name; had = o.first }
had_by Attribute c o = record { name = o.name; had = o.first }

-- what that says of it
namespace_of : (bearer : Bearer) (c : Class) (n : Name) → has_name_as bearer c n ≡ true → (is_namespace n.ns ≡ true) × (covers c n ≡ true)
namespace_of Element c n h =
    let parts = and_parts (is_xml_name n) (covers c n) h in
    ((and_parts (is_namespace n.ns) (is_local n.local) parts.0).0, parts.1)
namespace_of Attribute c n h =
    let parts = and_parts (is_attribute_name n) (covers c n) h in
    let xml = and_parts (is_xml_name n) (not (bytes_eq n.ns [] && bytes_eq n.local (codes "xmlns"))) parts.0 in
    ((and_parts (is_namespace n.ns) (is_local n.local) xml.0).0, parts.1)

-- and so many letters in a namespace are a name of each kind
lettered : (bearer : Bearer) (c : Class) (ns : List ℕ) (k : ℕ) → is_namespace ns ≡ true
    → covers c (record { ns = ns; local = replicate (k + 1) 97 }) ≡ true
    → has_name_as bearer c (record { ns = ns; local = replicate (k + 1) 97 }) ≡ true
lettered Element c ns k is h = and_from _ _ (and_from _ _ is (letters_are_local k)) h
lettered Attribute c ns k is h =
    and_from _ _ (and_from _ _ (and_from _ _ is (letters_are_local k))
    (not_from_false _ (and_right (bytes_eq ns []) _ (letters_declare_none (k + 1))))) h

module _ (bearer : Bearer) (c : Class) where
  -- if none of these is in the class, none is
  pub none_left : HasNoneOf bearer c c → HasNoneWith bearer c (replicate (longest c + 1) 97) c
      → has_name_as bearer c (record { ns = replicate (longest c + 1) 97; local = replicate 1 97 }) ≡ false → has_name_for bearer c ≡ false
  none_left of with other = false_from_ne_true _ (λ h. none (had_by bearer c (overlap_there bearer c c h)))
    where
      many : length {A = ℕ} (replicate (longest c + 1) 97) ≡ longest c + 1
      many = length-replicate (longest c + 1) 97

      none : Had bearer c → ⊥
      none w = elim (cases_Bool (class_mentions c w.name)) [
        | inl mentioned ↦ false≢true (sym (of w.name mentioned) ∙ w.had)
        | inr unmentioned ↦ elim (cases_Bool (class_mentions_ns c w.name.ns)) [
          | inl known ↦
              let says = namespace_of bearer c w.name w.had in
              let m : Name = record { ns = w.name.ns; local = replicate (longest c + 1) 97 } in
              let covered : covers c m ≡ true =
              covers-unmentioned c m (unmentioned_name c m (omega (arith, many))) ∙ sym (covers-unmentioned c w.name unmentioned) ∙ says.1 in
              false≢true (sym (with w.name.ns known) ∙ lettered bearer c w.name.ns (longest c) says.0 covered)
          | inr unknown ↦
              let says = namespace_of bearer c w.name w.had in
              let m : Name = record { ns = replicate (longest c + 1) 97; local = replicate 1 97 } in
              let covered : covers c m ≡ true =
              covers-other_namespace c m (unmentioned_namespace c m.ns (omega (arith, many))) ∙ sym (covers-other_namespace c w.name unknown)
              ∙ says.1 in
              false≢true (sym other ∙ lettered bearer c m.ns 0 (letters_are_namespace (longest c + 1)) covered)
        ]
      ]

-- as the names are tried in turn
pub tried_all : (bearer : Bearer) (c : Class) (short long ns local behind : List ℕ) (second found : Option Name) → short ≡ replicate 1 97
    → long ≡ replicate (longest c + 1) 97 → behind ≡ long → IsNameElse (HasNoneWith bearer c behind c) bearer c second → second ≡ None
    → ns ≡ long → local ≡ short → IsNameElse (has_name_as bearer c (record { ns = ns; local = local }) ≡ false) bearer c found
    → IsNameElse (HasNoneOf bearer c c → has_name_for bearer c ≡ false) bearer c found
tried_all bearer c short long ns local behind second (Some name) is_short is_long is with none is_ns is_local other = other
tried_all bearer c short long ns local behind second None is_short is_long is with none is_ns is_local other = λ of.
    none_left bearer c of
    (subst (λ (l : List ℕ). HasNoneWith bearer c l c) (is ∙ is_long)
    (subst (λ (o : Option Name). IsNameElse (HasNoneWith bearer c behind c) bearer c o) none with))
    (subst (λ (n : List ℕ). has_name_as bearer c (record { ns = n; local = replicate 1 97 }) ≡ false) (is_ns ∙ is_long)
    (subst (λ (l : List ℕ). has_name_as bearer c (record { ns = ns; local = l }) ≡ false) (is_local ∙ is_short) other))
