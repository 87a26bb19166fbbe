-- What reading finds of name classes is in the relation, and what is in the relation is read.
use Rattle.std.proofs.Common.{◌≡◌, ◌≢◌, ℕ, List, [], ◌∷◌, Option, Some, None, refl, sym, ap, ◌∙◌, ◌⊎◌, inl, inr}
use Rattle.nx_base.specs.declared.name.Name.{Name}
use Rattle.nx_events.specs.Names.{is_qname, prefix_of, local_of}
use Rattle.rnc_parse.specs.declared.surface.Namespace.{Namespace}
use Rattle.rnc_parse.specs.Written.{WrittenClass, every_name, names_in, without}
use Rattle.rngx_read.specs.declared.element.Tag.{Tag}
use Rattle.rngx_read.specs.declared.kind.Kind.{Kind}
use Rattle.rngx_read.specs.declared.kind.Kind.TheVariants as kind
use Rattle.rngx_read.specs.Classes.{IsClass, a_name, any_name, ns_name, a_choice, IsAllBut, all_of_them, all_but, IsEither, any_of, AreClasses}
use Rattle.rngx_read.specs.Classes.{no_class, next_class}
use Rattle.rngx_read.specs.Defaults.{Defaults, inside}
use Rattle.rngx_read.specs.Elements.{Elements, no_elements, element_then}
use Rattle.rngx_read.specs.Names.{Resolver, trimmed, IsNamed, without_prefix, with_prefix, IsClassName}
use Rattle.rngx_read.specs.Reading.{Reading, read, no_form, ◌>>=◌}
use Rattle.rngx_read.specs.ReadingClasses.{either_of, either_at, excepted_by, all_but_by, named_by, named_at, class_name_at, lone_name_at, class_by}
use Rattle.rngx_read.specs.ReadingClasses.{class_readings, class_at}
use Rattle.rngx_read.specs.Reads.{Writes, in_name, NeedsPrefix, LeavesOut, here, within, behind}
use Rattle.rngx_read.specs.Tags.{IsTag}
use Rattle.rngx_read.specs.Forms.{form_of}
use Rattle.rngx_read.proofs.Sounding.{Sounds, finds, ends, stops, sound_bind, sound_weaker, sound_cond}
use Rattle.rngx_read.proofs.Tags.{form_is, form_found}

module _ (resolve : Resolver) where
  -- ---- names

  named_sound : (scope : List Name) (unprefixed : Namespace) (prefix local : List ℕ) → Sounds (IsNamed resolve scope unprefixed prefix local)
      (λ left_out. (left_out ≡ prefix) × (left_out ≢ []) × (resolve scope left_out ≡ None)) (named_at resolve scope unprefixed prefix local)
  named_sound scope unprefixed [] local = finds without_prefix
  named_sound scope unprefixed (b ∷ prefix) local = by_uri (resolve scope (b ∷ prefix)) refl
    where
      by_uri : (found : Option (List ℕ)) → resolve scope (b ∷ prefix) ≡ found →
          Sounds (IsNamed resolve scope unprefixed (b ∷ prefix) local)
          (λ left_out. (left_out ≡ b ∷ prefix) × (left_out ≢ []) × (resolve scope left_out ≡ None)) (named_by resolve (b ∷ prefix) local found)
      by_uri (Some uri) e = finds (with_prefix e)
      by_uri None e = stops (refl, (λ none. cc), e)

  pub class_name_sound : (tag : Tag) (unprefixed : Namespace) (written : List ℕ) → Writes tag written →
      Sounds (IsClassName resolve tag.scope unprefixed written) (λ prefix. NeedsPrefix resolve tag prefix)
      (class_name_at resolve unprefixed tag.scope written)
  unfolding class_name_at
  class_name_sound tag unprefixed written writes =
      sound_cond (is_qname (trimmed written)) _ no_form
      (λ qualified. sound_weaker (named_at resolve tag.scope unprefixed (prefix_of (trimmed written)) (local_of (trimmed written)))
      (named_sound tag.scope unprefixed (prefix_of (trimmed written)) (local_of (trimmed written)))
      (λ class named. record { qualified = qualified; named = named })
      (λ prefix left. record {
        written = written;
        writes = writes;
        qualified = qualified;
        prefix_is = sym left.0;
        some_prefix = left.1;
        undeclared = left.2;
      }))
      (λ _. ends)

  named_read : (scope : List Name) (unprefixed : Namespace) (prefix local : List ℕ) (class : WrittenClass) →
      IsNamed resolve scope unprefixed prefix local class → named_at resolve scope unprefixed prefix local ≡ read class
  named_read scope unprefixed _ local _ without_prefix = refl
  named_read scope unprefixed _ local _ (with_prefix {b = b} {prefix = prefix} e) = ap (named_by resolve (b ∷ prefix) local) e

  pub class_name_read : (scope : List Name) (unprefixed : Namespace) (written : List ℕ) (class : WrittenClass) →
      IsClassName resolve scope unprefixed written class → class_name_at resolve unprefixed scope written ≡ read class
  unfolding class_name_at
  class_name_read scope unprefixed written class is =
      rw is.qualified (named_read scope unprefixed (prefix_of (trimmed written)) (local_of (trimmed written)) class is.named)

  -- ---- sound

  -- the prefix is left out at an element or in it
  abbrev pub OutAt : Tag → Elements → List ℕ → Type 0
  OutAt tag children prefix = NeedsPrefix resolve tag prefix ⊎ LeavesOut resolve prefix children

  pub out_first : (tag : Tag) (children rest : Elements) (prefix : List ℕ) → OutAt tag children prefix →
      LeavesOut resolve prefix (element_then tag children rest)
  out_first tag children rest prefix (inl needs) = here needs
  out_first tag children rest prefix (inr left) = within left

  pub record ClassSound (elements : Elements) : Type 0 where
    pub classes : (defaults : Defaults) → Sounds (AreClasses resolve defaults elements) (λ prefix. LeavesOut resolve prefix elements)
        ((class_readings resolve elements).classes defaults)
    pub except : (defaults : Defaults) (all : WrittenClass) → Sounds (IsAllBut resolve defaults all elements)
        (λ prefix. LeavesOut resolve prefix elements) ((class_readings resolve elements).except defaults all)

  either_is : (defaults : Defaults) (elements : Elements) (classes : List WrittenClass) → AreClasses resolve defaults elements classes →
      Sounds (IsEither resolve defaults elements) (λ prefix. LeavesOut resolve prefix elements) (either_of classes)
  either_is defaults _ [] are = ends
  either_is defaults _ (first ∷ more) are = finds (any_of are refl)

  either_sound : (defaults : Defaults) (elements : Elements) → ClassSound elements →
      Sounds (IsEither resolve defaults elements) (λ prefix. LeavesOut resolve prefix elements) (either_at (class_readings resolve elements) defaults)
  either_sound defaults elements sound =
      sound_bind ((class_readings resolve elements).classes defaults) either_of (sound.classes defaults)
      (λ classes are. either_is defaults elements classes are)

  lone_name_sound : (defaults : Defaults) (tag : Tag) (children : Elements) → IsTag kind.Name tag →
      Sounds (IsClass resolve defaults tag children) (OutAt tag children) (lone_name_at resolve (inside defaults tag) tag children)
  lone_name_sound defaults tag no_elements is =
      sound_weaker (class_name_at resolve (inside defaults tag).namespace tag.scope tag.text)
      (class_name_sound tag (inside defaults tag).namespace tag.text (in_name is.called)) (λ class named. a_name is named) (λ prefix needs. inl needs)
  lone_name_sound defaults tag (element_then first inner rest) is = ends

  class_by_sound : (defaults : Defaults) (tag : Tag) (children : Elements) → ClassSound children → (form : Option Kind) →
      ((k : Kind) → form ≡ Some k → IsTag k tag) →
      Sounds (IsClass resolve defaults tag children) (OutAt tag children)
      (class_by resolve (inside defaults tag) tag children (class_readings resolve children) form)
  class_by_sound defaults tag children sound (Some kind.Name) is = lone_name_sound defaults tag children (is kind.Name refl)
  class_by_sound defaults tag children sound (Some kind.AnyName) is =
      sound_weaker _ (sound.except (inside defaults tag) every_name) (λ class but. any_name (is kind.AnyName refl) but) (λ prefix left. inr left)
  class_by_sound defaults tag children sound (Some kind.NsName) is =
      sound_weaker _ (sound.except (inside defaults tag) (names_in (inside defaults tag).namespace)) (λ class but. ns_name (is kind.NsName refl) but)
      (λ prefix left. inr left)
  class_by_sound defaults tag children sound (Some kind.Choice) is =
      sound_weaker _ (either_sound (inside defaults tag) children sound) (λ class any. a_choice (is kind.Choice refl) any) (λ prefix left. inr left)
  class_by_sound defaults tag children sound _ is = ends

  excepted_sound : (defaults : Defaults) (tag : Tag) (children : Elements) → ClassSound children → (form : Option Kind) →
      ((k : Kind) → form ≡ Some k → IsTag k tag) →
      Sounds (λ class. IsTag kind.Except tag × IsEither resolve (inside defaults tag) children class) (λ prefix. LeavesOut resolve prefix children)
      (excepted_by (inside defaults tag) (class_readings resolve children) form)
  excepted_sound defaults tag children sound (Some kind.Except) is =
      sound_weaker _ (either_sound (inside defaults tag) children sound) (λ class any. (is kind.Except refl, any)) (λ prefix left. left)
  excepted_sound defaults tag children sound _ is = ends

  all_but_sound : (defaults : Defaults) (all : WrittenClass) (tag : Tag) (children rest : Elements) → ClassSound children →
      Sounds (IsAllBut resolve defaults all (element_then tag children rest)) (λ prefix. LeavesOut resolve prefix (element_then tag children rest))
      (all_but_by all rest (excepted_by (inside defaults tag) (class_readings resolve children) (form_of tag)))
  all_but_sound defaults all tag children no_elements sound =
      sound_bind (excepted_by (inside defaults tag) (class_readings resolve children) (form_of tag)) (λ except. read (without all except))
      (sound_weaker _ (excepted_sound defaults tag children sound (form_of tag) (form_is tag)) (λ class is. is) (λ prefix left. within left))
      (λ except is. finds (all_but is.0 is.1))
  all_but_sound defaults all tag children (element_then next inner rest) sound = ends

  pub class_rows_sound : (elements : Elements) → ClassSound elements
  unfolding class_readings
  class_rows_sound no_elements = record { classes = λ defaults. finds no_class; except = λ defaults all. finds all_of_them }
  class_rows_sound (element_then tag children rest) =
      let inner = class_rows_sound children in
      let others = class_rows_sound rest in
      record {
        classes = λ defaults.
            sound_bind (class_by resolve (inside defaults tag) tag children (class_readings resolve children) (form_of tag))
            (λ class. (class_readings resolve rest).classes defaults >>= λ classes. read (class ∷ classes))
            (sound_weaker _ (class_by_sound defaults tag children inner (form_of tag) (form_is tag)) (λ class is. is)
            (λ prefix out. out_first tag children rest prefix out))
            (λ class is. sound_bind ((class_readings resolve rest).classes defaults) (λ classes. read (class ∷ classes))
            (sound_weaker _ (others.classes defaults) (λ classes are. are) (λ prefix left. behind left))
            (λ classes are. finds (next_class is are)));
        except = λ defaults all. all_but_sound defaults all tag children rest inner;
      }

  pub class_sound : (defaults : Defaults) (tag : Tag) (children : Elements) →
      Sounds (IsClass resolve defaults tag children) (OutAt tag children) (class_at resolve defaults tag children)
  unfolding class_at
  class_sound defaults tag children = class_by_sound defaults tag children (class_rows_sound children) (form_of tag) (form_is tag)

  -- ---- complete

  mutual
    unfolding class_at class_readings

    pub class_read : (defaults : Defaults) (tag : Tag) (children : Elements) (class : WrittenClass) → IsClass resolve defaults tag children class →
        class_at resolve defaults tag children ≡ read class
    class_read defaults tag _ class (a_name is named) =
        rw (form_found tag kind.Name is) (class_name_read tag.scope (inside defaults tag).namespace tag.text class named)
    class_read defaults tag children class (any_name is but) =
        rw (form_found tag kind.AnyName is) (but_read (inside defaults tag) every_name children class but)
    class_read defaults tag children class (ns_name is but) =
        rw (form_found tag kind.NsName is) (but_read (inside defaults tag) (names_in (inside defaults tag).namespace) children class but)
    class_read defaults tag children class (a_choice is any) = rw (form_found tag kind.Choice is) (either_read (inside defaults tag) children class any)

    but_read : (defaults : Defaults) (all : WrittenClass) (elements : Elements) (class : WrittenClass) → IsAllBut resolve defaults all elements class →
        (class_readings resolve elements).except defaults all ≡ read class
    but_read defaults all _ _ all_of_them = refl
    but_read defaults all _ _ (all_but {except = except} {tag = tag} {children = children} is any) =
        rw (form_found tag kind.Except is)
        (ap (λ (x : Reading WrittenClass). x >>= λ e. read (without all e)) (either_read (inside defaults tag) children except any))

    either_read : (defaults : Defaults) (elements : Elements) (class : WrittenClass) → IsEither resolve defaults elements class →
        either_at (class_readings resolve elements) defaults ≡ read class
    either_read defaults elements class (any_of {first = first} {more = more} are e) =
        ap (λ (x : Reading (List WrittenClass)). x >>= either_of) (classes_read defaults elements (first ∷ more) are) ∙ ap read (sym e)

    classes_read : (defaults : Defaults) (elements : Elements) (classes : List WrittenClass) → AreClasses resolve defaults elements classes →
        (class_readings resolve elements).classes defaults ≡ read classes
    classes_read defaults _ _ no_class = refl
    classes_read defaults _ _ (next_class {tag = tag} {children = children} {rest = rest} {class = class} {classes = classes} is are) =
        ap (λ (x : Reading WrittenClass). x >>= λ c. (class_readings resolve rest).classes defaults >>= λ cs. read (c ∷ cs))
        (class_read defaults tag children class is)
        ∙ ap (λ (x : Reading (List WrittenClass)). x >>= λ cs. read (class ∷ cs)) (classes_read defaults rest classes are)
