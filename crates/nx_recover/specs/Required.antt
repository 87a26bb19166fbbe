-- The attributes that a residual requires, as a list.
use Rattle.std.specs.Prelude.{◌&&◌, List, [], ◌++◌}
use Rattle.std.specs.List.{filter, flat_map}
use Rattle.nx_base.specs.declared.name.Name.{Name}
use Rattle.rng_core.specs.Patterns.{Pattern, attribute, one_or_more, choice, group, interleave}
use Rattle.rng_kept.specs.Needed.{class_names}
use Rattle.rng_kept.specs.Required.{is_required}
use Rattle.rng_kept.specs.Residuals.{Way, among, in_tag, Residual, is_in_tag}
use Rattle.rng_live.specs.Order.{in_order}

-- the names that the classes of the attributes in a pattern mention: no other one is required
abbrev pub pattern_names : Pattern → List Name
pattern_names (attribute class p) = class_names class
pattern_names (one_or_more p) = pattern_names p
pattern_names (choice p q) = pattern_names p
pattern_names (group p q) = pattern_names p ++ pattern_names q
pattern_names (interleave p q) = pattern_names p ++ pattern_names q
pattern_names _ = []

abbrev pub way_names : Way → List Name
way_names (among o) = []
way_names (in_tag p o) = pattern_names p

-- those that are required where a start tag is open
unfoldable pub required_names : Residual → List Name
required_names x = in_order (filter (λ n. is_in_tag x && is_required n x) (flat_map way_names x))
