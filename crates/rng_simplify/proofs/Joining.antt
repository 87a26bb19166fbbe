-- Rows of patterns as one pattern: what is a grammar alone, and what is mentioned.
use Rattle.std.proofs.Common.{◌≡◌, ◌≢◌, refl, ap, sym, ◌∙◌, ℕ, length, arith, List, [], ◌∷◌, ◌++◌, Vec, Global, Some, None, Result, Ok, Err, IfOk}
use Rattle.std.specs.Prelude.{map}
use Rattle.std.proofs.lemmas.List.{append_assoc, append-nil}
use Rattle.rnc_parse.specs.declared.surface.Pattern.{Pattern}
use Rattle.rnc_parse.specs.declared.surface.Pattern as pattern
use Rattle.nx_base.specs.declared.memory.NoMemory.{NoMemory}
use Rattle.rnc_parse.specs.declared.surface.FileReference.{FileReference}
use Rattle.rnc_parse.specs.Written.{WrittenPattern, WrittenReplacements, a_pattern, joined, joined_or}
use Rattle.rnc_parse.specs.Written as written
use Rattle.rnc_parse.specs.Views.{pattern_of, patterns_of, patterns_behind}
use Rattle.rng_simplify.specs.declared.compose.Piece.{Piece}
use Rattle.rng_simplify.specs.declared.node.Sign.{Sign}
use Rattle.rng_simplify.specs.declared.node.Sign.TheVariants as sign
use Rattle.rng_simplify.specs.declared.stop.Stop.{Stop}
use Rattle.rng_simplify.specs.declared.stop.Stop.TheVariants as stops
use Rattle.rng_simplify.specs.ComposedFiles.{grammar_items}
use Rattle.rng_simplify.specs.MadeCells.{Stock, Outcome, made, ◌>>=◌, Makes, FilePiece, of_pattern, piece_of, make, make_next, make_behind, make_row, make_file, lone_made}
use Rattle.rng_simplify.specs.declared.mention.Mention.{Mention as Kept}
use Rattle.rng_simplify.specs.Classes.{namespace_in}
use Rattle.rng_simplify.specs.KeptMentions.{kept_of_all, mentions_of_each}
use Rattle.rng_simplify.specs.References.{mentions, mentions_of_item, mentions_anew}
use Rattle.rng_simplify.specs.Rows.{join_by, none_by, row_of}
use Rattle.rng_simplify.proofs.Rows.{row_in, then_again, then_nothing, joined_made, none_joined_made}

behind_is : (join : WrittenPattern → WrittenPattern → WrittenPattern) (n : _) (before : WrittenPattern) (row : pattern.Row_of-Pattern n) →
    patterns_behind join before row ≡ joined join before (map pattern_of (pattern.items-the_row-Pattern n row))
behind_is join n before pattern.end_of-Pattern = refl
behind_is join n before (pattern.more_of-Pattern next row) = behind_is join _ (join before (pattern_of next)) row

row_is : (join : WrittenPattern → WrittenPattern → WrittenPattern) (none : WrittenPattern) (n : _) (row : pattern.Row_of-Pattern n) →
    patterns_of join none row ≡ joined_or join none (map pattern_of (pattern.items-the_row-Pattern n row))
row_is join none n pattern.end_of-Pattern = refl
row_is join none n (pattern.more_of-Pattern first row) = behind_is join _ (pattern_of first) row

-- a row is its patterns joined
pub choice_is : (patterns : Vec Pattern Global) → pattern_of (pattern.Choice patterns) ≡ row_of sign.Choice patterns.items
choice_is patterns =
    let row = row_in (pattern.Choice patterns) in
    row_is written.choice written.not_allowed row.0 row.1 ∙ ap (row_of sign.Choice) (pattern.items_hidden-the_row-Pattern-2 patterns)

pub group_is : (patterns : Vec Pattern Global) → pattern_of (pattern.Group patterns) ≡ row_of sign.Group patterns.items
group_is patterns =
    let row = row_in (pattern.Group patterns) in
    row_is written.group written.empty row.0 row.1 ∙ ap (row_of sign.Group) (pattern.items_hidden-the_row-Pattern-2 patterns)

pub interleave_is : (patterns : Vec Pattern Global) → pattern_of (pattern.Interleave patterns) ≡ row_of sign.Interleave patterns.items
interleave_is patterns =
    let row = row_in (pattern.Interleave patterns) in
    row_is written.interleave written.empty row.0 row.1 ∙ ap (row_of sign.Interleave) (pattern.items_hidden-the_row-Pattern-2 patterns)

-- ---- a grammar alone

join_is_none : (by : Sign) (p q : WrittenPattern) → grammar_items (a_pattern (join_by by p q)) ≡ None
join_is_none sign.Choice p q = refl
join_is_none sign.Group p q = refl
join_is_none sign.Interleave p q = refl

joined_is_none : (by : Sign) (first : WrittenPattern) (more : List WrittenPattern) → grammar_items (a_pattern first) ≡ None →
    grammar_items (a_pattern (joined (join_by by) first more)) ≡ None
joined_is_none by first [] h = h
joined_is_none by first (next ∷ more) h = joined_is_none by (join_by by first next) more (join_is_none by first next)

none_is_none : (by : Sign) → grammar_items (a_pattern (none_by by)) ≡ None
none_is_none sign.Choice = refl
none_is_none sign.Group = refl
none_is_none sign.Interleave = refl

-- a row is none, unless it is one pattern
row_is_none : (by : Sign) (patterns : List Pattern) → length patterns ≢ 1 → grammar_items (a_pattern (row_of by patterns)) ≡ None
row_is_none by [] other = none_is_none by
row_is_none by (first ∷ []) other = absurd (other refl)
row_is_none by (first ∷ next ∷ more) other =
    joined_is_none by (join_by by (pattern_of first) (pattern_of next)) (map pattern_of more)
    (join_is_none by (pattern_of first) (pattern_of next))

-- a file of a pattern that is no grammar alone
pub lone_is : (ns : List ℕ) (p : WrittenPattern) (now : Stock) → grammar_items (a_pattern p) ≡ None →
    make_file ns (a_pattern p) now ≡ lone_made ns p now
lone_is ns (written.grammar items) now h = let never : ⊥ = cc in absurd never
lone_is ns p now h = refl

-- patterns behind one are made behind it
behind_made : (ns : List ℕ) (by : Sign) (before : WrittenPattern) (more : List Pattern) (now : Stock) →
    make ns (joined (join_by by) before (map pattern_of more)) now ≡ (make ns before now >>= λ i. make_behind ns by i more)
behind_made ns by before [] now = sym (then_nothing (make ns before now))
behind_made ns by before (next ∷ more) now =
    behind_made ns by (join_by by before (pattern_of next)) more now
    ∙ ap (λ outcome. outcome >>= λ i. make_behind ns by i more) (joined_made ns by before (pattern_of next) now)
    ∙ then_again (make ns before now) (λ i. make_next ns by (Some i) next) (λ i. make_behind ns by i more)

row_made : (ns : List ℕ) (by : Sign) (patterns : List Pattern) (now : Stock) → make ns (row_of by patterns) now ≡ make_row ns by patterns now
row_made ns by [] now = none_joined_made ns by now
row_made ns by (first ∷ more) now = behind_made ns by (pattern_of first) more now

-- a file of a row of none, or of two or more
pub row_file_is : (ns : List ℕ) (by : Sign) (patterns : List Pattern) (now : Stock) → length patterns ≢ 1 →
    make_file ns (a_pattern (row_of by patterns)) now ≡ (make_row ns by patterns now >>= λ root. made (of_pattern root))
row_file_is ns by patterns now other =
    lone_is ns (row_of by patterns) now (row_is_none by patterns other)
    ∙ ap (λ outcome. outcome >>= λ root. made (of_pattern root)) (row_made ns by patterns now)

-- where nothing is made of the row, nothing is made of the file
pub row_refused : (after : Stock) (outcome : Outcome ℕ) (file : Outcome FilePiece) (stop : Stop) →
    file ≡ (outcome >>= λ root. made (of_pattern root)) → Makes {A = ℕ} after (λ i. i) outcome (Err stop) →
    Makes {A = Piece} after piece_of file (Err stop)
row_refused after outcome file (stops.Unreadable why) is h = is ∙ ap (λ o. o >>= λ root. made (of_pattern root)) h
row_refused after outcome file stops.NoPiece is h = is ∙ ap (λ o. o >>= λ root. made (of_pattern root)) h
row_refused after outcome file stops.NoMemory is h = tt

-- ---- what is mentioned

join_mentions : (by : Sign) (p q : WrittenPattern) → mentions (join_by by p q) ≡ mentions p ++ mentions q
join_mentions sign.Choice p q = refl
join_mentions sign.Group p q = refl
join_mentions sign.Interleave p q = refl

joined_mentions : (by : Sign) (first : WrittenPattern) (more : List Pattern) →
    mentions (joined (join_by by) first (map pattern_of more)) ≡ mentions first ++ mentions_of_each more
joined_mentions by first [] = sym (append-nil (mentions first))
joined_mentions by first (next ∷ more) =
    joined_mentions by (join_by by first (pattern_of next)) more
    ∙ ap (λ xs. xs ++ mentions_of_each more) (join_mentions by first (pattern_of next))
    ∙ append_assoc (mentions first) (mentions (pattern_of next)) (mentions_of_each more)

none_mentions : (by : Sign) → mentions (none_by by) ≡ []
none_mentions sign.Choice = refl
none_mentions sign.Group = refl
none_mentions sign.Interleave = refl

-- a row mentions what its patterns mention
pub row_mentions : (by : Sign) (patterns : List Pattern) → mentions (row_of by patterns) ≡ mentions_of_each patterns
row_mentions by [] = none_mentions by
row_mentions by (first ∷ more) = joined_mentions by (pattern_of first) more

-- what is found of an include, and behind that of what is in its braces
pub reference_then : (ns : List ℕ) (reference : FileReference) (replacements : WrittenReplacements) (old mid new : List Kept)
    (result : Result (Unit {0}) NoMemory) →
    mid ≡ old ++ record { text = reference.uri; inherited = namespace_in ns reference.namespace } ∷ [] →
    IfOk result (λ _. new ≡ mid ++ kept_of_all ns (mentions_anew replacements)) →
    IfOk result (λ _. new ≡ old ++ kept_of_all ns (mentions_of_item (written.include reference replacements)))
reference_then ns reference replacements old mid new (Ok done) first second =
    second ∙ ap (λ xs. xs ++ kept_of_all ns (mentions_anew replacements)) first
    ∙ append_assoc old (record { text = reference.uri; inherited = namespace_in ns reference.namespace } ∷ [])
    (kept_of_all ns (mentions_anew replacements))
reference_then ns reference _ old mid new (Err fault) first second = tt
