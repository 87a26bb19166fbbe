-- Classes, patterns and items that stand in a row, as what is made of them.
use Rattle.std.proofs.Common.{◌≡◌, ◌≢◌, List, [], ◌∷◌, length, Vec, Global, refl, sym, ap, ◌∙◌}
use Rattle.rnc_parse.specs.declared.surface.NameClass.{NameClass}
use Rattle.rnc_parse.specs.declared.surface.NameClass as class
use Rattle.rnc_parse.specs.declared.surface.Pattern.{Pattern}
use Rattle.rnc_parse.specs.declared.surface.Pattern as pattern
use Rattle.rnc_parse.specs.declared.surface.Item.{Item}
use Rattle.rnc_parse.specs.declared.surface.Item as item
use Rattle.rnc_parse.specs.declared.surface.Replacement.{Replacement}
use Rattle.rnc_parse.specs.declared.surface.Replacement as replacement
use Rattle.rnc_parse.specs.declared.surface.FileReference.{FileReference}
use Rattle.rnc_parse.specs.Views.{class_of, pattern_of, item_of, items_in, replacement_of, replacements_in}
use Rattle.rnc_parse.specs.Written.{WrittenPattern, no_name, either, empty, not_allowed, choice, group, interleave, joined_or, grammar, div, include}
use Rattle.rnc_parse.specs.Written.{div_anew}
use Rattle.rnc_parse.proofs.ClassViews.{class_of-Choice}
use Rattle.rnc_parse.proofs.PatternViews.{pattern_of-Choice, pattern_of-Group, pattern_of-Interleave, pattern_of-Grammar, item_of-Div}
use Rattle.rnc_parse.proofs.PatternViews.{item_of-Include, replacement_of-Div}
use Rattle.rngx_read.specs.Reading.{read}
use Rattle.rngx_read.specs.ReadingClasses.{either_of}
use Rattle.rngx_read.specs.ReadingPatterns.{row_joined, one_of_row}
use Rattle.rngx_read.specs.Views.{classes_of, patterns_of}

some_either : (classes : List NameClass) → length classes ≢ 0 → either_of (classes_of classes) ≡ read (joined_or either no_name (classes_of classes))
some_either [] some = absurd (some refl)
some_either (first ∷ more) some = refl

pub either_seen : (classes : Vec NameClass Global) → length classes.items ≢ 0 → either_of (classes_of classes.items)
    ≡ read (class_of (class.Choice classes))
either_seen classes some = some_either classes.items some ∙ ap read (sym (class_of-Choice classes))

some_row : (join : WrittenPattern → WrittenPattern → WrittenPattern) (none : WrittenPattern) (patterns : List Pattern) → length patterns ≢ 0 →
    row_joined join (patterns_of patterns) ≡ read (joined_or join none (patterns_of patterns))
some_row join none [] some = absurd (some refl)
some_row join none (first ∷ more) some = refl

module _ (patterns : Vec Pattern Global) (some : length patterns.items ≢ 0) where
  pub choice_seen : row_joined choice (patterns_of patterns.items) ≡ read (pattern_of (pattern.Choice patterns))
  choice_seen = some_row choice not_allowed patterns.items some ∙ ap read (sym (pattern_of-Choice patterns))

  pub group_seen : row_joined group (patterns_of patterns.items) ≡ read (pattern_of (pattern.Group patterns))
  group_seen = some_row group empty patterns.items some ∙ ap read (sym (pattern_of-Group patterns))

  pub interleave_seen : row_joined interleave (patterns_of patterns.items) ≡ read (pattern_of (pattern.Interleave patterns))
  interleave_seen = some_row interleave empty patterns.items some ∙ ap read (sym (pattern_of-Interleave patterns))

one_row : (patterns : List Pattern) → length patterns ≡ 1 → one_of_row (patterns_of patterns) ≡ read (joined_or group empty (patterns_of patterns))
one_row [] e = absurd cc
one_row (one ∷ []) e = refl
one_row (one ∷ other ∷ more) e = absurd cc

pub one_seen : (patterns : Vec Pattern Global) → length patterns.items ≡ 1 → one_of_row (patterns_of patterns.items)
    ≡ read (pattern_of (pattern.Group patterns))
one_seen patterns one = one_row patterns.items one ∙ ap read (sym (pattern_of-Group patterns))

-- items, as what is made of them
pub grammar_seen : (items : Vec Item Global) → grammar (items_in items.items) ≡ pattern_of (pattern.Grammar items)
grammar_seen items = sym (pattern_of-Grammar items)

pub div_seen : (items : Vec Item Global) → div (items_in items.items) ≡ item_of (item.Div items)
div_seen items = sym (item_of-Div items)

pub include_seen : (file : FileReference) (replacements : Vec Replacement Global) →
    include file (replacements_in replacements.items) ≡ item_of (item.Include file replacements)
include_seen file replacements = sym (item_of-Include file replacements)

pub div_anew_seen : (replacements : Vec Replacement Global) → div_anew (replacements_in replacements.items)
    ≡ replacement_of (replacement.Div replacements)
div_anew_seen replacements = sym (replacement_of-Div replacements)
