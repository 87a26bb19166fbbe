-- The patterns and items that the program puts together.
use Rattle.std.proofs.Common.{◌≡◌, List, [], ◌∷◌, ◌++◌, map, Vec, Global, Some, refl, ap, ◌∙◌}
use mathlib.Core.Former.{Count}
use Rattle.rnc_parse.specs.declared.surface.Pattern as pattern
use Rattle.rnc_parse.specs.declared.surface.Pattern.{Pattern}
use Rattle.rnc_parse.specs.declared.surface.Item as item
use Rattle.rnc_parse.specs.declared.surface.Item.{Item}
use Rattle.rnc_parse.specs.declared.surface.Replacement as replacement
use Rattle.rnc_parse.specs.declared.surface.Replacement.{Replacement}
use Rattle.rnc_parse.specs.declared.surface.FileReference.{FileReference}
use Rattle.rnc_parse.specs.declared.sign.Sign.TheVariants as sign
use Rattle.rnc_parse.specs.Views.{pattern_of, patterns_of, patterns_behind, item_of, items_of, items_in, replacement_of, replacements_of, replacements_in}
use Rattle.rnc_parse.specs.Written.{WrittenPattern, empty, not_allowed, choice, group, interleave, grammar, div, include, item_then, div_anew, replacement_then, joined, joined_or}
use Rattle.rnc_parse.specs.ReadingPatterns.{joined_all, add_item, add_replacement}

-- ---- patterns

patterns_row : Pattern → (n : Count) × pattern.Row_of-Pattern n
patterns_row (pattern.Choice' shape row) = (_, row)
patterns_row (pattern.Group' shape row) = (_, row)
patterns_row (pattern.Interleave' shape row) = (_, row)
patterns_row _ = (_, pattern.end_of-Pattern)

behind_row : (n : _) (join : WrittenPattern → WrittenPattern → WrittenPattern) (before : WrittenPattern) (row : pattern.Row_of-Pattern n) →
    patterns_behind join before row ≡ joined join before (map pattern_of (pattern.items-the_row-Pattern n row))
behind_row n join before pattern.end_of-Pattern = refl
behind_row n join before (pattern.more_of-Pattern next row) = behind_row _ join (join before (pattern_of next)) row

of_row : (n : _) (join : WrittenPattern → WrittenPattern → WrittenPattern) (none : WrittenPattern) (row : pattern.Row_of-Pattern n) →
    patterns_of join none row ≡ joined_or join none (map pattern_of (pattern.items-the_row-Pattern n row))
of_row n join none pattern.end_of-Pattern = refl
of_row n join none (pattern.more_of-Pattern first row) = behind_row _ join (pattern_of first) row

pub pattern_of-Choice : (ps : Vec Pattern Global) → pattern_of (pattern.Choice ps) ≡ joined_all sign.Choice ps.items
unfolding patterns_row
pattern_of-Choice ps =
    let row = patterns_row (pattern.Choice ps) in
    of_row row.0 choice not_allowed row.1 ∙ ap (λ l. joined_or choice not_allowed (map pattern_of l)) (pattern.items_hidden-the_row-Pattern-2 ps)

pub pattern_of-Group : (ps : Vec Pattern Global) → pattern_of (pattern.Group ps) ≡ joined_all sign.Group ps.items
unfolding patterns_row
pattern_of-Group ps =
    let row = patterns_row (pattern.Group ps) in
    of_row row.0 group empty row.1 ∙ ap (λ l. joined_or group empty (map pattern_of l)) (pattern.items_hidden-the_row-Pattern-2 ps)

pub pattern_of-Interleave : (ps : Vec Pattern Global) → pattern_of (pattern.Interleave ps) ≡ joined_all sign.Interleave ps.items
unfolding patterns_row
pattern_of-Interleave ps =
    let row = patterns_row (pattern.Interleave ps) in
    of_row row.0 interleave empty row.1 ∙ ap (λ l. joined_or interleave empty (map pattern_of l)) (pattern.items_hidden-the_row-Pattern-2 ps)

-- ---- items

items_row : (n : _) (row : item.Row_of-Item n) → items_of row ≡ items_in (item.items-the_row-Item n row)
items_row n item.end_of-Item = refl
items_row n (item.more_of-Item first row) = ap (item_then (item_of first)) (items_row _ row)

row_of_grammar : Pattern → (n : Count) × item.Row_of-Item n
row_of_grammar (pattern.Grammar' shape row) = (_, row)
row_of_grammar _ = (_, item.end_of-Item)

pub pattern_of-Grammar : (items : Vec Item Global) → pattern_of (pattern.Grammar items) ≡ grammar (items_in items.items)
unfolding row_of_grammar
pattern_of-Grammar items =
    let row = row_of_grammar (pattern.Grammar items) in
    ap grammar (items_row row.0 row.1 ∙ ap items_in (pattern.items_hidden-the_row-Item-0 items))

row_of_div : Item → (n : Count) × item.Row_of-Item n
row_of_div (item.Div' shape row) = (_, row)
row_of_div _ = (_, item.end_of-Item)

pub item_of-Div : (items : Vec Item Global) → item_of (item.Div items) ≡ div (items_in items.items)
unfolding row_of_div
item_of-Div items =
    let row = row_of_div (item.Div items) in
    ap div (items_row row.0 row.1 ∙ ap items_in (item.items_hidden-the_row-Item-0 items))

replacements_row : (n : _) (row : item.Row_of-Replacement n) → replacements_of row ≡ replacements_in (item.items-the_row-Replacement n row)
replacements_row n item.end_of-Replacement = refl
replacements_row n (item.more_of-Replacement first row) = ap (replacement_then (replacement_of first)) (replacements_row _ row)

row_of_include : Item → (n : Count) × item.Row_of-Replacement n
row_of_include (item.Include' file shape row) = (_, row)
row_of_include _ = (_, item.end_of-Replacement)

pub item_of-Include : (file : FileReference) (rs : Vec Replacement Global) →
    item_of (item.Include file rs) ≡ include file (replacements_in rs.items)
unfolding row_of_include
item_of-Include file rs =
    let row = row_of_include (item.Include file rs) in
    ap (include file) (replacements_row row.0 row.1 ∙ ap replacements_in (item.items_hidden-the_row-Replacement-1 rs))

row_of_div_anew : Replacement → (n : Count) × item.Row_of-Replacement n
row_of_div_anew (replacement.Div' shape row) = (_, row)
row_of_div_anew _ = (_, item.end_of-Replacement)

pub replacement_of-Div : (rs : Vec Replacement Global) → replacement_of (replacement.Div rs) ≡ div_anew (replacements_in rs.items)
unfolding row_of_div_anew
replacement_of-Div rs =
    let row = row_of_div_anew (replacement.Div rs) in
    ap div_anew (replacements_row row.0 row.1 ∙ ap replacements_in (replacement.items_hidden-the_row-Replacement-1 rs))

-- ---- one more

pub items_in_push : (items : List Item) (one : Item) → items_in (items ++ one ∷ []) ≡ add_item (items_in items) (Some (item_of one))
items_in_push [] one = refl
items_in_push (x ∷ items) one = ap (item_then (item_of x)) (items_in_push items one)

pub replacements_in_push : (rs : List Replacement) (one : Replacement) →
    replacements_in (rs ++ one ∷ []) ≡ add_replacement (replacements_in rs) (Some (replacement_of one))
replacements_in_push [] one = refl
replacements_in_push (x ∷ rs) one = ap (replacement_then (replacement_of x)) (replacements_in_push rs one)
