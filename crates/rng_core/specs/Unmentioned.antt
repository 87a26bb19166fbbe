-- Names that a class doesn't mention are in it alike.
use Rattle.std.specs.Prelude.{ℕ, Bool, true, false, not, ◌&&◌, ◌||◌, List, [], codes}
use Rattle.std.specs.Str.{bytes_eq}
use Rattle.nx_base.specs.Names.{is_namespace, is_xml_name, is_attribute_name}
use Rattle.nx_base.specs.declared.name.Name.{Name}
use Rattle.rng_core.specs.declared.name_class.Bearer.{Bearer}
use Rattle.rng_core.specs.declared.name_class.Bearer.TheVariants.{Element, Attribute}
use Rattle.rng_core.specs.Names.{Class, any_name, ns_name, the_name, either, without, has_name, Overlap, AttributeOverlap}

-- `xmlns` in no namespace, which no attribute has as its name
abbrev pub xmlns_name : Name
xmlns_name = record { ns = []; local = codes "xmlns" }

-- whether a class covers the names of a namespace that it doesn't mention
abbrev pub covers_others_in : Class → List ℕ → Bool
covers_others_in any_name ns = true
covers_others_in (ns_name of) ns = bytes_eq ns of
covers_others_in (the_name m) ns = false
covers_others_in (either c d) ns = covers_others_in c ns || covers_others_in d ns
covers_others_in (without c d) ns = covers_others_in c ns && not (covers_others_in d ns)

-- whether it covers the names of the namespaces that it doesn't mention
abbrev pub covers_others : Class → Bool
covers_others any_name = true
covers_others (ns_name of) = false
covers_others (the_name m) = false
covers_others (either c d) = covers_others c || covers_others d
covers_others (without c d) = covers_others c && not (covers_others d)

-- whether two classes share such names of a namespace
abbrev pub share_others_in : Class → Class → List ℕ → Bool
share_others_in c d ns = is_namespace ns && (covers_others_in c ns && covers_others_in d ns)

-- whether two classes share a name that a third mentions, or such names of a namespace that it mentions
abbrev pub meets_at : Class → Class → Class → Bool
meets_at any_name c d = false
meets_at (ns_name ns) c d = share_others_in c d ns
meets_at (the_name m) c d = (has_name c m && has_name d m) || share_others_in c d m.ns
meets_at (either x y) c d = meets_at x c d || meets_at y c d
meets_at (without x y) c d = meets_at x c d || meets_at y c d

-- whether two classes share one of all these
abbrev pub overlaps : Class → Class → Bool
overlaps c d = (covers_others c && covers_others d) || (meets_at c c d || meets_at d c d)

-- the same, with choices taken apart: a class against the parts of another
abbrev pub meets_part : Class → Class → Bool
meets_part c any_name = overlaps c any_name
meets_part c (ns_name ns) = overlaps c (ns_name ns)
meets_part c (the_name m) = has_name c m
meets_part c (either x y) = meets_part c x || meets_part c y
meets_part c (without x y) = overlaps c (without x y)

-- the names of a class that an element, or an attribute, can have
unfoldable pub borne : Bearer → Class → Class
borne Element c = c
borne Attribute c = without c (the_name xmlns_name)

-- whether an element, or an attribute, can have a name
abbrev pub is_borne_name : Bearer → Name → Bool
is_borne_name Element name = is_xml_name name
is_borne_name Attribute name = is_attribute_name name

-- some such name is in both classes
abbrev pub OverlapAs : Bearer → Class → Class → Type 0
OverlapAs Element c d = Overlap c d
OverlapAs Attribute c d = AttributeOverlap c d

-- whether two classes share such a name that a third mentions, or other names of a namespace that it mentions
abbrev pub meets_as : Bearer → Class → Class → Class → Bool
meets_as bearer any_name c d = false
meets_as bearer (ns_name ns) c d = share_others_in c d ns
meets_as bearer (the_name m) c d = (has_name (borne bearer c) m && has_name d m) || share_others_in c d m.ns
meets_as bearer (either x y) c d = meets_as bearer x c d || meets_as bearer y c d
meets_as bearer (without x y) c d = meets_as bearer x c d || meets_as bearer y c d

-- whether two classes share one of those that the two mention, or names that neither mentions
abbrev pub tries : Bearer → Class → Class → Bool
tries bearer c d = (covers_others c && covers_others d) || (meets_as bearer c c d || meets_as bearer d c d)

-- and the parts of one, as names of such a bearer, against another
abbrev pub parts_meet : Bearer → Class → Class → Bool
parts_meet bearer any_name d = meets_part (borne bearer any_name) d
parts_meet bearer (ns_name ns) d = meets_part (borne bearer (ns_name ns)) d
parts_meet bearer (the_name m) d = has_name (borne bearer d) m
parts_meet bearer (either x y) d = parts_meet bearer x d || parts_meet bearer y d
parts_meet bearer (without x y) d = meets_part (borne bearer (without x y)) d
