use Rattle.std.proofs.Common.{◌≡◌, ◌∷◌, drop, map}
use Rattle.rnc_parse.specs.Views.{item_of, replacement_of}
use Rattle.rnc_parse.specs.Written.{item_then, replacement_then}
use Rattle.rngx_read.specs.Names.{bound_in}
use Rattle.rngx_read.specs.ReadingPatterns.{readings, no_parts}
use Rattle.rngx_read.specs.Views.{defaults_of, listed, patterns_of, parts_of}
use Rattle.rngx_read.proofs.Loops.{with_front}
use Rattle.rngx_read.proofs.+pattern.Given as goal

abbrev pub invariant-pattern::patterns-loop-element : goal.invariant-pattern::patterns-loop-element
invariant-pattern::patterns-loop-element l =
    with_front ◌∷◌ (patterns_of l.patterns.items) ((readings bound_in (listed (drop l.element-index l.elements))).patterns (defaults_of l.defaults))
    ≡ (readings bound_in (listed l.elements)).patterns (defaults_of l.defaults)

abbrev pub invariant-pattern::all_parts-loop-element : goal.invariant-pattern::all_parts-loop-element
invariant-pattern::all_parts-loop-element l =
    (readings bound_in (listed (drop l.element-index l.elements))).parts (defaults_of l.defaults) (parts_of l.parts)
    ≡ (readings bound_in (listed l.elements)).parts (defaults_of l.defaults) no_parts

abbrev pub invariant-grammar::items-loop-element : goal.invariant-grammar::items-loop-element
invariant-grammar::items-loop-element l =
    with_front item_then (map item_of l.items.items) ((readings bound_in (listed (drop l.element-index l.elements))).items (defaults_of l.defaults))
    ≡ (readings bound_in (listed l.elements)).items (defaults_of l.defaults)

abbrev pub invariant-grammar::replacements-loop-element : goal.invariant-grammar::replacements-loop-element
invariant-grammar::replacements-loop-element l =
    with_front replacement_then (map replacement_of l.replacements.items)
    ((readings bound_in (listed (drop l.element-index l.elements))).replacements (defaults_of l.defaults))
    ≡ (readings bound_in (listed l.elements)).replacements (defaults_of l.defaults)
