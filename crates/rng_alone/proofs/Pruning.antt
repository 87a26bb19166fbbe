-- What pruning leaves of a content whose strings stand alone is such a content.
use Rattle.std.proofs.Common.{◌≡◌, ℕ, List, true, refl}
use Rattle.std.specs.Prelude.{◌||◌}
use Rattle.std.proofs.lemmas.Bool.{and_parts, or_parts, or_from}
use Rattle.rng_core.specs.Patterns.{Pattern, group}
use Rattle.rng_live.specs.Pruned.{PrunesBy, prunes_not_allowed, prunes_empty, prunes_text, prunes_data, prunes_value, prunes_list, prunes_attribute}
use Rattle.rng_live.specs.Pruned.{prunes_ref, prunes_one_or_more, prunes_neither, prunes_second, prunes_first, prunes_group, prunes_interleave}
use Rattle.rng_fill.specs.Fillable.{has_string_leaf}
use Rattle.rng_alone.specs.Alone.{has_complex, are_beside, is_alone, PruningKeepsAlone}
use Rattle.rng_alone.proofs.Under.{Under, IsUnder, itself, wider_left, wider_right, both_left, grouped_alone, repeated_alone, repeated_parts, group_parts}

sides_under : (p q r s : Pattern) → are_beside p q ≡ true → IsUnder p r → IsUnder q s → Under (has_string_leaf p || has_string_leaf q)
    (has_complex p || has_complex q) (group r s)
sides_under p q r s beside u v = record {
  strings = λ e.
      let o = or_parts (has_string_leaf p) (has_string_leaf q) e in
      or_from (has_string_leaf r) (has_string_leaf s) (u.strings o.0) (v.strings o.1);
  complex = λ e.
      let o = or_parts (has_complex p) (has_complex q) e in or_from (has_complex r) (has_complex s) (u.complex o.0) (v.complex o.1);
  alone = grouped_alone beside r s u v;
}

module _ {L D : Pattern → Type 0} {numbers : List ℕ} where
  pruned_under : {p r : Pattern} → PrunesBy L D numbers p r → is_alone p ≡ true → IsUnder p r
  pruned_under prunes_not_allowed a = itself a
  pruned_under prunes_empty a = itself a
  pruned_under prunes_text a = itself a
  pruned_under prunes_data a = itself a
  pruned_under prunes_value a = itself a
  pruned_under (prunes_list w) a = record { strings = λ e. e; complex = λ e. e; alone = refl }
  pruned_under (prunes_attribute w) a = record { strings = λ e. e; complex = λ e. e; alone = refl }
  pruned_under (prunes_ref at) a = record { strings = λ e. e; complex = λ e. e; alone = refl }
  pruned_under (prunes_one_or_more {p = p} {r = r} w) a =
      let k = repeated_parts p a in
      let u = pruned_under w k.1 in
      record { strings = u.strings; complex = u.complex; alone = repeated_alone r (u.strings k.0) u.alone }
  pruned_under (prunes_neither {p = p} {q = q} {r = r} {s = s} l m w v) a =
      let k = and_parts (is_alone p) (is_alone q) a in
      both_left r s (wider_left (has_string_leaf q) (has_complex q) (pruned_under w k.0))
      (wider_right (has_string_leaf p) (has_complex p) (pruned_under v k.1))
  pruned_under (prunes_second {p = p} {q = q} l d w) a =
      wider_left (has_string_leaf q) (has_complex q) (pruned_under w (and_parts (is_alone p) (is_alone q) a).0)
  pruned_under (prunes_first {p = p} {q = q} d w) a =
      wider_right (has_string_leaf p) (has_complex p) (pruned_under w (and_parts (is_alone p) (is_alone q) a).1)
  pruned_under (prunes_group {p = p} {q = q} {r = r} {s = s} w v) a =
      let k = group_parts p q a in sides_under p q r s k.0 (pruned_under w k.1) (pruned_under v k.2)
  pruned_under (prunes_interleave {p = p} {q = q} {r = r} {s = s} w v) a =
      let k = group_parts p q a in
      let u = sides_under p q r s k.0 (pruned_under w k.1) (pruned_under v k.2) in
      record { strings = u.strings; complex = u.complex; alone = u.alone }

pub pruning_keeps_alone : PruningKeepsAlone
pruning_keeps_alone g numbers p r w a = (pruned_under w a).alone
