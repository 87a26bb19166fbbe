-- What composing makes of files, each behind those that it mentions.
use Rattle.std.proofs.Common.{◌≡◌, refl, sym, ap, ◌∙◌, subst, eqb, Bool, true, false, ℕ, zero, suc, ◌+◌, ◌<◌, ◌≤◌, List, [], ◌∷◌, ◌++◌, length, drop, length-drop, Option, arith, ◌⊎◌, inl, inr}
use Rattle.std.specs.Prelude.{Contains, flat_map, reverse, ◌==◌}
use Rattle.std.specs.List.{IsDistinct, AllByRecursion}
use Rattle.std.proofs.lemmas.Bool.{eqb-true, eqb-false}
use Rattle.std.proofs.lemmas.List.{reverse-append, reverse-reverse, length-append, length-map}
use Rattle.nx_host.specs.Files.{FileMap}
use Rattle.rnc_parse.specs.Views.{surface_of}
use Rattle.rng_simplify.specs.declared.load.Loaded.{Loaded}
use Rattle.rng_simplify.specs.Cells.{Cell}
use Rattle.rng_simplify.specs.ComposedFiles.{Context, top}
use Rattle.rng_simplify.specs.Composition.{NoPieceIsMissing, MadeIsWellFormed}
use Rattle.rng_simplify.specs.CellMeanings.{IsCell}
use Rattle.rng_simplify.specs.NodePlaces.{inner_nodes, AreWellFormed}
use Rattle.rng_simplify.specs.LoadedFiles.{Waiting, waiting_in, AreRead, all_read, one_read, AllLoaded}
use Rattle.rng_simplify.specs.MadeCells.{Stock, Outcome, made, refused, no_piece, ◌>>=◌, FilePiece, make_file, file_made, files_made, next_pattern, nothing_made, whole_made}
use Rattle.rng_simplify.specs.References.{Mention, mentions_of}
use Rattle.rng_simplify.proofs.Owning.{one_if, count, count-append, counted, self_counted, le_or_gt, piece_nodes, Owns, held_else}
use Rattle.rng_simplify.proofs.Pieces.{Keeps, file_runs, next_pattern_runs, one}

-- ---- files in order

apart_behind : (xs ys : List Loaded) → ((now : Stock) → files_made (xs ++ ys) now ≡ (files_made xs now >>= λ done. files_made ys)) →
    (outcome : Outcome (Unit {0})) →
    (outcome >>= λ done. files_made (xs ++ ys)) ≡ ((outcome >>= λ done. files_made xs) >>= λ done. files_made ys)
apart_behind xs ys more (made done then) = more then
apart_behind xs ys more (refused why) = refl
apart_behind xs ys more no_piece = refl

-- files and those behind them
files_apart : (xs ys : List Loaded) (now : Stock) → files_made (xs ++ ys) now ≡ (files_made xs now >>= λ done. files_made ys)
files_apart [] ys now = refl
files_apart (x ∷ xs) ys now = apart_behind xs ys (λ then. files_apart xs ys then) (file_made x now)

one_file : (file : Loaded) (now : Stock) → files_made (file ∷ []) now ≡ file_made file now
one_file file now = go (file_made file now)
  where
    go : (outcome : Outcome (Unit {0})) → (outcome >>= λ done. made (tt {0})) ≡ outcome
    go (made tt then) = refl
    go (refused why) = refl
    go no_piece = refl

-- the file comes behind those that it mentions
pub file_last : (file : Loaded) (files : List Loaded) →
    files_made (reverse (file ∷ files)) nothing_made ≡ (files_made (reverse files) nothing_made >>= λ done. file_made file)
file_last file files =
    ap (λ fs. files_made fs nothing_made) (reverse-append (file ∷ []) files)
    ∙ files_apart (reverse files) (file ∷ []) nothing_made
    ∙ go (files_made (reverse files) nothing_made)
  where
    go : (outcome : Outcome (Unit {0})) → (outcome >>= λ done. files_made (file ∷ [])) ≡ (outcome >>= λ done. file_made file)
    go (made done then) = one_file file then
    go (refused why) = refl
    go no_piece = refl

-- ---- what is left

-- so many pieces are left, each node has one place, and no piece was missing
abbrev pub Leaves : {A : Type 0} → ℕ → Outcome A → Type 0
Leaves n (made v now) = (length now.pieces ≡ n) × Owns now []
Leaves n (refused why) = Unit {0}
Leaves n no_piece = ⊥

nothing_owns : Owns nothing_made []
nothing_owns = record {
  parts = λ k j c at among. let never : ⊥ = cc in absurd never;
  once = λ i. omega arith;
  below = λ i h. omega arith;
}

file_leaves : (n : ℕ) (file : Loaded) (outcome : Outcome FilePiece) (now : Stock) → Keeps [] piece_nodes n now outcome → (more : ℕ) →
    length now.pieces ≡ n + more → Owns now [] →
    Leaves (suc more) (outcome >>= λ piece then. made (tt {0}) (record { cells = then.cells; pieces = piece ∷ then.pieces }))
file_leaves n file (made piece then) now keeps more enough owns = (
  (let e : length then.pieces ≡ length (drop n now.pieces) = ap (λ (ps : List FilePiece). length ps) keeps.0 in
      omega (arith, e, length-drop n now.pieces, enough)),
  held_piece piece then (keeps.2 [] owns),
)
  where
    held_piece : (piece : FilePiece) (then : Stock) → Owns then (piece_nodes piece ++ []) →
        Owns (record { cells = then.cells; pieces = piece ∷ then.pieces }) []
    held_piece piece then owns =
        held_else then (record { cells = then.cells; pieces = piece ∷ then.pieces }) (piece_nodes piece ++ []) [] refl
        (λ i. omega (
          arith,
          count-append i (piece_nodes piece) [],
          count-append i (piece_nodes piece)
              (flat_map piece_nodes then.pieces),
        )) owns
file_leaves n file (refused why) now keeps more enough owns = tt
file_leaves n file no_piece now keeps more enough owns = keeps

then_leaves : {A B : Type 0} (n m : ℕ) (outcome : Outcome A) (more : A → Stock → Outcome B) → Leaves n outcome →
    ((v : A) (now : Stock) → length now.pieces ≡ n → Owns now [] → Leaves m (more v now)) → Leaves m (outcome >>= more)
then_leaves n m (made v now) more first second = second v now first.0 first.1
then_leaves n m (refused why) more first second = tt
then_leaves n m no_piece more first second = absurd first

-- a file behind those that it mentions
file_step : (file : Loaded) (files : List Loaded) (n more : ℕ) → n ≡ length (mentions_of (surface_of file.surface)) + more →
    Leaves n (files_made (reverse files) nothing_made) → Leaves (suc more) (files_made (reverse (file ∷ files)) nothing_made)
file_step file files n more together before =
    subst (Leaves (suc more)) (sym (file_last file files))
    (then_leaves n (suc more) (files_made (reverse files) nothing_made) (λ done. file_made file) before
    (λ done now enough owns. file_leaves (length (mentions_of (surface_of file.surface))) file
    (make_file file.inherited (surface_of file.surface) now) now ((file_runs file.inherited (surface_of file.surface) now).keeps
    (omega (arith, enough, together))) more (enough ∙ together) owns))

pub waiting_together : (context : Context) (all : List Mention) (more : List Waiting) →
    length (waiting_in context all ++ more) ≡ length all + length more
waiting_together context all more =
    length-append (waiting_in context all) more ∙ ap (λ n. n + length more)
    (length-map all (λ (mention : Mention). record { context = context; mention = mention }))

walk_leaves : (told : Option FileMap) (waiting : List Waiting) (files : List Loaded) → AreRead told waiting files →
    Leaves (length waiting) (files_made (reverse files) nothing_made)
walk_leaves told waiting files all_read = (refl, nothing_owns)
walk_leaves told waiting files (one_read {more = more} {file = file} {files = rest} inner is_read read) =
    let all : List Mention = mentions_of (surface_of file.surface) in
    file_step file rest (length (waiting_in inner all ++ more)) (length more) (waiting_together inner all more)
    (walk_leaves told (waiting_in inner all ++ more) rest read)

-- the whole is held, each node has one place, and no piece was missing
abbrev pub WholeOwns : Outcome ℕ → Type 0
WholeOwns (made root now) = Owns now (root ∷ [])
WholeOwns (refused why) = Unit {0}
WholeOwns no_piece = ⊥

whole_owned : (outcome : Outcome (Unit {0})) → Leaves 1 outcome → WholeOwns (outcome >>= λ done. next_pattern)
whole_owned (made done now) leaves = at (next_pattern now) ((next_pattern_runs now).keeps (omega (arith, leaves.0)))
  where
    at : (outcome : Outcome ℕ) → Keeps [] one 1 now outcome → WholeOwns outcome
    at (made root new) keeps = keeps.2 [] leaves.1
    at (refused why) keeps = tt
    at no_piece keeps = keeps
whole_owned (refused why) leaves = tt
whole_owned no_piece leaves = leaves

files_owned : (told : Option FileMap) (uri : List ℕ) (files : List Loaded) → AllLoaded told uri files →
    WholeOwns (whole_made (reverse files))
files_owned told uri [] loaded = absurd loaded
files_owned told uri (first ∷ others) loaded =
    let all : List Mention = mentions_of (surface_of first.surface) in
    let count_is : length (waiting_in (top uri) all) ≡ length all + 0 =
    length-map all (λ (mention : Mention). record { context = top uri; mention = mention })
    ∙ (let e : length all ≡ length all + 0 = omega arith in e) in
    whole_owned (files_made (reverse (first ∷ others)) nothing_made) (file_step first others (length (waiting_in (top uri) all)) 0 count_is
    (walk_leaves told (waiting_in (top uri) all) others loaded.others_read))

pub whole_owns : (told : Option FileMap) (uri : List ℕ) (loaded : List Loaded) → AllLoaded told uri (reverse loaded) →
    WholeOwns (whole_made loaded)
whole_owns told uri loaded all =
    subst (λ files. WholeOwns (whole_made files)) (reverse-reverse loaded) (files_owned told uri (reverse loaded) all)

pub no_piece_is_missing : NoPieceIsMissing
no_piece_is_missing told uri loaded all missing = subst WholeOwns missing (whole_owns told uri loaded all)

-- ---- well-formed nodes

same_or : (i k : ℕ) → (i ≡ k) ⊎ (i ≡ k → ⊥)
same_or i k = at (eqb i k) refl
  where
    at : (b : Bool) → eqb i k ≡ b → (i ≡ k) ⊎ (i ≡ k → ⊥)
    at true e = inl (eqb-true i k e)
    at false e = inr (eqb-false i k e)

one_counted : (j : ℕ) (cells : List Cell) (i : ℕ) (c : Cell) → IsCell cells i c →
    count j (inner_nodes c) ≤ count j (flat_map inner_nodes cells)
one_counted j [] i c at = let never : ⊥ = cc in absurd never
one_counted j (x ∷ cells) zero c at =
    let same : count j (inner_nodes x) ≡ count j (inner_nodes c) = ap (λ y. count j (inner_nodes y)) (let e : x ≡ c = cc in e) in
    omega (arith, same, count-append j (inner_nodes x) (flat_map inner_nodes cells))
one_counted j (x ∷ cells) (suc i) c at =
    omega (arith, one_counted j cells i c at, count-append j (inner_nodes x) (flat_map inner_nodes cells))

two_counted : (j : ℕ) (cells : List Cell) (i k : ℕ) (c d : Cell) → IsCell cells i c → IsCell cells k d → (i ≡ k → ⊥) →
    count j (inner_nodes c) + count j (inner_nodes d) ≤ count j (flat_map inner_nodes cells)
two_counted j [] i k c d at_c at_d other = let never : ⊥ = cc in absurd never
two_counted j (x ∷ cells) zero zero c d at_c at_d other = absurd (other refl)
two_counted j (x ∷ cells) zero (suc k) c d at_c at_d other =
    let same : count j (inner_nodes x) ≡ count j (inner_nodes c) = ap (λ y. count j (inner_nodes y)) (let e : x ≡ c = cc in e) in
    omega (arith, same, one_counted j cells k d at_d, count-append j (inner_nodes x) (flat_map inner_nodes cells))
two_counted j (x ∷ cells) (suc i) zero c d at_c at_d other =
    let same : count j (inner_nodes x) ≡ count j (inner_nodes d) = ap (λ y. count j (inner_nodes y)) (let e : x ≡ d = cc in e) in
    omega (arith, same, one_counted j cells i c at_c, count-append j (inner_nodes x) (flat_map inner_nodes cells))
two_counted j (x ∷ cells) (suc i) (suc k) c d at_c at_d other =
    omega (
      arith,
      two_counted j cells i k c d at_c at_d (λ e. other (ap suc e)),
      count-append j (inner_nodes x)
          (flat_map inner_nodes cells),
    )

apart_if : (b : Bool) (n : ℕ) → one_if b + n ≡ 0 → b ≡ false
apart_if true n none = absurd (omega (arith, none))
apart_if false n none = refl

none_counted : (x : ℕ) (xs : List ℕ) → count x xs ≡ 0 → AllByRecursion (λ y. (x == y) ≡ false) xs
none_counted x [] none = tt
none_counted x (y ∷ xs) none = (apart_if (eqb x y) (count x xs) none, none_counted x xs (omega (arith, none)))

distinct_from : (xs : List ℕ) → ((j : ℕ) → count j xs ≤ 1) → IsDistinct (λ a b. a == b) xs
unfolding IsDistinct
distinct_from [] once = tt
distinct_from (x ∷ xs) once = (none_counted x xs (omega (arith, once x, self_counted x)), distinct_from xs (λ j. omega (arith, once j)))

well_formed : (left : Stock) (root : ℕ) → Owns left (root ∷ []) → AreWellFormed left.cells root
well_formed left root owns = record {
  root_within = within (le_or_gt (length left.cells) root);
  inner_below = λ i j c at among. owns.parts i j c at among;
  one_outer = λ i k j c d at_c at_d in_c in_d. outer i k j c d at_c at_d in_c in_d (same_or i k);
  once = λ i c at. distinct_from (inner_nodes c) (λ j. omega (arith, owns.once j, one_counted j left.cells i c at));
}
  where
    within : (length left.cells ≤ root) ⊎ (root < length left.cells) → root < length left.cells
    within (inl beyond) = absurd (omega (arith, owns.below root beyond, self_counted root))
    within (inr h) = h

    outer : (i k j : ℕ) (c d : Cell) → IsCell left.cells i c → IsCell left.cells k d → Contains (inner_nodes c) j →
        Contains (inner_nodes d) j → (i ≡ k) ⊎ (i ≡ k → ⊥) → i ≡ k
    outer i k j c d at_c at_d in_c in_d (inl same) = same
    outer i k j c d at_c at_d in_c in_d (inr other) =
        absurd (omega (
          arith,
          owns.once j,
          two_counted j left.cells i k c d at_c at_d other,
          counted (inner_nodes c) j in_c,
          counted (inner_nodes d) j in_d,
        ))

pub made_is_well_formed : MadeIsWellFormed
made_is_well_formed told uri loaded all root left is = well_formed left root (subst WholeOwns is (whole_owns told uri loaded all))
