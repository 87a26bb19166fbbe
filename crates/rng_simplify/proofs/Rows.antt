-- Rows of patterns and of items as lists, and what is made of them.
use Rattle.std.proofs.Common.{◌≡◌, refl, ap, sym, ◌∙◌, ℕ, List, [], ◌∷◌, ◌++◌, Option, Some, None, Vec, Global}
use Rattle.std.proofs.lemmas.List.{append_assoc}
use Rattle.rnc_parse.specs.declared.surface.Pattern.{Pattern}
use Rattle.rnc_parse.specs.declared.surface.Pattern as pattern
use Rattle.rnc_parse.specs.declared.surface.Item.{Item}
use Rattle.rnc_parse.specs.declared.surface.Item as item
use Rattle.rnc_parse.specs.declared.surface.Replacement.{Replacement}
use Rattle.rnc_parse.specs.declared.surface.Replacement as replacement
use Rattle.rnc_parse.specs.declared.surface.FileReference.{FileReference}
use Rattle.rnc_parse.specs.Written.{WrittenPattern}
use Rattle.rnc_parse.specs.Written as written
use Rattle.rnc_parse.specs.Views.{pattern_of, patterns_of, patterns_behind, item_of, items_of, items_in, replacement_of, replacements_of, replacements_in}
use Rattle.rng_simplify.specs.declared.node.Sign.{Sign}
use Rattle.rng_simplify.specs.declared.node.Sign.TheVariants as sign
use Rattle.rng_simplify.specs.Cells as cell
use Rattle.rng_simplify.specs.Rows.{join_by, none_by}
use Rattle.rng_simplify.specs.declared.node.Clause.{Clause}
use Rattle.rng_simplify.specs.MadeCells.{Stock, Outcome, made, refused, no_piece, ◌>>=◌, cell_made, make, make_next, make_behind, make_row, none_made, behind}

-- steps one after another
pub then_again : {A B C : Type 0} → (outcome : Outcome A) (f : A → Stock → Outcome B) (g : B → Stock → Outcome C) → ((outcome >>= f) >>= g) ≡ (outcome >>= λ a now. f a now >>= g)
then_again (made value now) f g = refl
then_again (refused why) f g = refl
then_again no_piece f g = refl

pub then_nothing : {A : Type 0} → (outcome : Outcome A) → (outcome >>= made) ≡ outcome
then_nothing (made value now) = refl
then_nothing (refused why) = refl
then_nothing no_piece = refl

pub joined_made : (ns : List ℕ) (by : Sign) (p q : WrittenPattern) (now : Stock) → make ns (join_by by p q) now ≡ (make ns p now >>= λ i then. make ns q then >>= λ j. cell_made (cell.joined by i j))
joined_made ns sign.Choice p q now = refl
joined_made ns sign.Group p q now = refl
joined_made ns sign.Interleave p q now = refl

pub none_joined_made : (ns : List ℕ) (by : Sign) (now : Stock) → make ns (none_by by) now ≡ none_made by now
none_joined_made ns sign.Choice now = refl
none_joined_made ns sign.Group now = refl
none_joined_made ns sign.Interleave now = refl

-- patterns behind one are made behind it
row_behind : (ns : List ℕ) (by : Sign) (n : _) (before : WrittenPattern) (row : pattern.Row_of-Pattern n) (now : Stock) → make ns (patterns_behind (join_by by) before row) now ≡ (make ns before now >>= λ i. make_behind ns by i (pattern.items-the_row-Pattern n row))
row_behind ns by n before pattern.end_of-Pattern now = sym (then_nothing (make ns before now))
row_behind ns by n before (pattern.more_of-Pattern next row) now =
    row_behind ns by _ (join_by by before (pattern_of next)) row now
    ∙ ap (λ outcome. outcome >>= λ i. make_behind ns by i (pattern.items-the_row-Pattern _ row)) (joined_made ns by before (pattern_of next) now)
    ∙ then_again (make ns before now) (λ i. make_next ns by (Some i) next) (λ i. make_behind ns by i (pattern.items-the_row-Pattern _ row))

row_made : (ns : List ℕ) (by : Sign) (n : _) (row : pattern.Row_of-Pattern n) (now : Stock) → make ns (patterns_of (join_by by) (none_by by) row) now ≡ make_row ns by (pattern.items-the_row-Pattern n row) now
row_made ns by n pattern.end_of-Pattern now = none_joined_made ns by now
row_made ns by n (pattern.more_of-Pattern first row) now = row_behind ns by _ (pattern_of first) row now

abbrev pub row_in : Pattern → (n : _) × pattern.Row_of-Pattern n
row_in (pattern.Choice' shape row) = (_, row)
row_in (pattern.Group' shape row) = (_, row)
row_in (pattern.Interleave' shape row) = (_, row)
row_in _ = (_, pattern.end_of-Pattern)

-- what is made of patterns joined by a sign, by the list of them
pub choice_seen : (ns : List ℕ) (patterns : Vec Pattern Global) (now : Stock) → make_row ns sign.Choice patterns.items now ≡ make ns (pattern_of (pattern.Choice patterns)) now
choice_seen ns patterns now =
    let row = row_in (pattern.Choice patterns) in
    sym (row_made ns sign.Choice row.0 row.1 now ∙ ap (λ ps. make_row ns sign.Choice ps now) (pattern.items_hidden-the_row-Pattern-2 patterns))

pub group_seen : (ns : List ℕ) (patterns : Vec Pattern Global) (now : Stock) → make_row ns sign.Group patterns.items now ≡ make ns (pattern_of (pattern.Group patterns)) now
group_seen ns patterns now =
    let row = row_in (pattern.Group patterns) in
    sym (row_made ns sign.Group row.0 row.1 now ∙ ap (λ ps. make_row ns sign.Group ps now) (pattern.items_hidden-the_row-Pattern-2 patterns))

pub interleave_seen : (ns : List ℕ) (patterns : Vec Pattern Global) (now : Stock) → make_row ns sign.Interleave patterns.items now ≡ make ns (pattern_of (pattern.Interleave patterns)) now
interleave_seen ns patterns now =
    let row = row_in (pattern.Interleave patterns) in
    sym (row_made ns sign.Interleave row.0 row.1 now ∙ ap (λ ps. make_row ns sign.Interleave ps now) (pattern.items_hidden-the_row-Pattern-2 patterns))

-- what is made of the patterns that are left, behind those that are joined so far, if there are some
abbrev pub make_rest : List ℕ → Sign → Option ℕ → List Pattern → Stock → Outcome ℕ
make_rest ns by None rest now = make_row ns by rest now
make_rest ns by (Some first) rest now = make_behind ns by first rest now

-- the next one of these, and then the others
pub rest_next : (ns : List ℕ) (by : Sign) (joined : Option ℕ) (next : Pattern) (more : List Pattern) (now : Stock) → make_rest ns by joined (next ∷ more) now ≡ (make_next ns by joined next now >>= λ i. make_rest ns by (Some i) more)
rest_next ns by None next more now = refl
rest_next ns by (Some first) next more now = refl

-- ---- items

item_row : (n : _) (row : item.Row_of-Item n) → items_of row ≡ items_in (item.items-the_row-Item n row)
item_row n item.end_of-Item = refl
item_row n (item.more_of-Item first row) = ap (written.item_then (item_of first)) (item_row _ row)

replacement_row : (n : _) (row : item.Row_of-Replacement n) → replacements_of row ≡ replacements_in (item.items-the_row-Replacement n row)
replacement_row n item.end_of-Replacement = refl
replacement_row n (item.more_of-Replacement first row) = ap (written.replacement_then (replacement_of first)) (replacement_row _ row)

abbrev items_row_in : Pattern → (n : _) × item.Row_of-Item n
items_row_in (pattern.Grammar' shape row) = (_, row)
items_row_in _ = (_, item.end_of-Item)

pub grammar_seen : (items : Vec Item Global) → written.grammar (items_in items.items) ≡ pattern_of (pattern.Grammar items)
grammar_seen items =
    let row = items_row_in (pattern.Grammar items) in
    sym (ap written.grammar (item_row row.0 row.1 ∙ ap items_in (item.items_hidden-the_row-Item-0 items)))

abbrev div_row_in : Item → (n : _) × item.Row_of-Item n
div_row_in (item.Div' shape row) = (_, row)
div_row_in _ = (_, item.end_of-Item)

pub div_seen : (items : Vec Item Global) → written.div (items_in items.items) ≡ item_of (item.Div items)
div_seen items =
    let row = div_row_in (item.Div items) in
    sym (ap written.div (item_row row.0 row.1 ∙ ap items_in (item.items_hidden-the_row-Item-0 items)))

abbrev include_row_in : Item → (n : _) × item.Row_of-Replacement n
include_row_in (item.Include' reference shape row) = (_, row)
include_row_in _ = (_, item.end_of-Replacement)

pub include_seen : (reference : FileReference) (replacements : Vec Replacement Global) → written.include reference (replacements_in replacements.items) ≡ item_of (item.Include reference replacements)
include_seen reference replacements =
    let row = include_row_in (item.Include reference replacements) in
    sym (ap (written.include reference) (replacement_row row.0 row.1 ∙ ap replacements_in (item.items_hidden-the_row-Replacement-1 replacements)))

abbrev anew_row_in : Replacement → (n : _) × item.Row_of-Replacement n
anew_row_in (replacement.Div' shape row) = (_, row)
anew_row_in _ = (_, item.end_of-Replacement)

pub div_anew_seen : (replacements : Vec Replacement Global) → written.div_anew (replacements_in replacements.items) ≡ replacement_of (replacement.Div replacements)
div_anew_seen replacements =
    let row = anew_row_in (replacement.Div replacements) in
    sym (ap written.div_anew (replacement_row row.0 row.1 ∙ ap replacements_in (item.items_hidden-the_row-Replacement-1 replacements)))

-- ---- definitions behind others

pub behind_again : (before first : List Clause) (outcome : Outcome (List Clause)) → behind (before ++ first) outcome ≡ behind before (outcome >>= λ more. made (first ++ more))
behind_again before first (made more now) = ap (λ all. made all now) (append_assoc before first more)
behind_again before first (refused why) = refl
behind_again before first no_piece = refl

-- one item and those behind it, behind others
pub behind_item : (before : List Clause) (first : Outcome (List Clause)) (more : Stock → Outcome (List Clause)) → behind before (first >>= λ cs now. more now >>= λ ds. made (cs ++ ds)) ≡ (behind before first >>= λ cs now. behind cs (more now))
behind_item before (made cs now) more = sym (behind_again before cs (more now))
behind_item before (refused why) more = refl
behind_item before no_piece more = refl
