-- Attributes that a residual requires.
use Rattle.std.specs.Prelude.{Bool, true, false, not, ◌&&◌, ◌||◌}
use Rattle.std.specs.List.{list_all}
use Rattle.nx_base.specs.declared.name.Name.{Name}
use Rattle.nx_base.specs.Names.{is_namespace, same_name}
use Rattle.rng_core.specs.Names.{Class, any_name, ns_name, the_name, either, without, has_attribute_name}
use Rattle.rng_core.specs.Unmentioned.{covers_others_in, covers_others}
use Rattle.rng_core.specs.Patterns.{Pattern, attribute, one_or_more, choice, group, interleave}
use Rattle.rng_kept.specs.Residuals.{Way, among, in_tag, Residual}

-- another name than this one stands in a class and is one that an attribute can have: one that a part mentions, or one of a
-- namespace that it mentions
abbrev pub other_at : Class → Class → Name → Bool
other_at any_name class n = false
other_at (ns_name ns) class n = is_namespace ns && covers_others_in class ns
other_at (the_name m) class n =
    (has_attribute_name class m && not (same_name m n)) || (is_namespace m.ns && covers_others_in class m.ns)
other_at (either c d) class n = other_at c class n || other_at d class n
other_at (without c d) class n = other_at c class n || other_at d class n

-- whether a class has this name, and no other one that an attribute can have
abbrev pub has_only : Class → Name → Bool
has_only class n = has_attribute_name class n && not (covers_others class || other_at class class n)

-- whether each list of attributes that is matched has one of this name
abbrev pub needs : Name → Pattern → Bool
needs n (attribute class p) = has_only class n
needs n (one_or_more p) = needs n p
needs n (choice p q) = needs n p && needs n q
needs n (group p q) = needs n p || needs n q
needs n (interleave p q) = needs n p || needs n q
needs n _ = false

abbrev pub way_needs : Name → Way → Bool
way_needs n (among o) = true
way_needs n (in_tag p o) = needs n p

-- each way needs it
abbrev pub is_required : Name → Residual → Bool
is_required n x = list_all (way_needs n) x
