-- What composing makes of the files that were loaded is the schema in one piece.
use Rattle.std.proofs.Common.{◌≡◌, refl, sym, ap, ◌∙◌, subst, ℕ, ◌≤◌, List, [], ◌∷◌, ◌++◌, length, drop, Some, None, arith}
use Rattle.std.specs.Prelude.{reverse}
use Rattle.std.proofs.lemmas.List.{append-nil, reverse-reverse}
use Rattle.nx_host.specs.Files.{FileMap}
use Rattle.rnc_parse.specs.Views.{surface_of}
use Rattle.rnc_parse.specs.Written.{WrittenPattern, WrittenItems, WrittenSurface}
use Rattle.rnc_parse.specs.Written as written
use Rattle.rng_simplify.specs.declared.load.Loaded.{Loaded}
use Rattle.rng_simplify.specs.declared.node.Clause.{Clause}
use Rattle.rng_simplify.specs.Cells.{Cell}
use Rattle.rng_simplify.specs.Cells as cell
use Rattle.rng_simplify.specs.Composed.{Composed, Clauses}
use Rattle.rng_simplify.specs.Composed as composed
use Rattle.rng_simplify.specs.ComposedFiles.{Context, top, Opens, grammar_items, ComposesFile, Gathers, of_pattern as file_of_pattern}
use Rattle.rng_simplify.specs.Composition.{IsOnePiece, MadeIsComposed}
use Rattle.rng_simplify.specs.CellMeanings.{Denotes, DenoteAll, is_grammar}
use Rattle.rng_simplify.specs.LoadedFiles.{Waiting, waiting_in, AreRead, all_read, one_read, AreLoaded, AllLoaded}
use Rattle.rng_simplify.specs.MadeCells.{Stock, Outcome, made, ◌>>=◌, FilePiece, of_pattern, of_grammar, next_piece, as_pattern, next_pattern, make, make_items, make_file, lone_made, file_made, files_made, nothing_made, whole_made}
use Rattle.rng_simplify.specs.References.{Mention, reference_of, mentions, mentions_of, mentions_of_items}
use Rattle.rng_simplify.specs.SuppliedPieces.{Grows, Supply, a_pattern_piece, a_grammar_piece, Supplies, nothing_more, one_further, IsMadeOf}
use Rattle.rng_simplify.proofs.Growing.{denote_all_on, last_cell, one_more}
use Rattle.rng_simplify.proofs.Made.{both, value_or, now_or, supply_on, file_from, pattern_is, items_is, ItemsMade}
use Rattle.rng_simplify.proofs.Pieces.{Keeps, file_runs}
use Rattle.rng_simplify.proofs.Owning.{piece_nodes}
use Rattle.rng_simplify.proofs.Walking.{file_last}

module _ (files : FileMap) (number : ℕ → ℕ) where
  -- the piece stands for the file in one piece
  pub data PieceStands (context : Context) (surface : WrittenSurface) (cells : List Cell) : FilePiece → Type 0 where
    stands_as_pattern : {root : ℕ} {q : Composed} → grammar_items surface ≡ None → ComposesFile files context surface q →
        Denotes cells number root q → PieceStands context surface cells (of_pattern root)
    stands_as_grammar : {items : WrittenItems} {clauses : List Clause} {all : Clauses} → grammar_items surface ≡ Some items →
        Gathers files context items all → DenoteAll cells number clauses all → PieceStands context surface cells (of_grammar clauses)

  supply_of : (context inner : Context) (surface : WrittenSurface) (cells : List Cell) (mention : Mention) (piece : FilePiece) →
      Opens files context (reference_of mention) inner surface → PieceStands inner surface cells piece →
      Supply files number context cells mention piece
  supply_of context inner surface cells mention piece opens (stands_as_pattern none composes denotes) =
      a_pattern_piece opens none composes denotes
  supply_of context inner surface cells mention piece opens (stands_as_grammar items gathers denotes) =
      a_grammar_piece opens items gathers denotes

  -- ---- a file

  pub record FileStands (context : Context) (surface : WrittenSurface) (piece : FilePiece) (old new : Stock) : Type 0 where
    pub stands : PieceStands context surface new.cells piece
    pub grows : Grows old.cells new.cells

  stands_at : (context : Context) (surface : WrittenSurface) (first piece : FilePiece) (old mid new : Stock) →
      made first mid ≡ made piece new → FileStands context surface first old mid → FileStands context surface piece old new
  stands_at context surface first piece old mid new is stands =
      subst (λ n. FileStands context surface piece old n) (ap (now_or mid) is) (subst (λ p. FileStands context surface p old mid)
      (ap (value_or first) is) stands)

  lone_stands : (context : Context) (p : WrittenPattern) (piece : FilePiece) (old new : Stock) →
      grammar_items (written.a_pattern p) ≡ None → Supplies files number context old.cells (mentions p) old.pieces →
      lone_made context.inherited p old ≡ made piece new → FileStands context (written.a_pattern p) piece old new
  lone_stands context p piece old new none supplied is =
      let b = both (make context.inherited p old) (λ root. made (of_pattern root)) piece new is in
      let inner : IsMadeOf files number context p [] b.value old b.mid =
      pattern_is files number context p [] b.value old b.mid (subst (λ ms. Supplies files number context old.cells ms old.pieces)
      (sym (append-nil (mentions p))) supplied) b.first in
      stands_at context (written.a_pattern p) (of_pattern b.value) piece old b.mid new b.second
      (record { stands = stands_as_pattern none (file_of_pattern inner.composes) inner.denotes; grows = inner.grows })

  grammar_stands : (context : Context) (surface : WrittenSurface) (items : WrittenItems) (piece : FilePiece) (old new : Stock) →
      grammar_items surface ≡ Some items → Supplies files number context old.cells (mentions_of_items items) old.pieces →
      (make_items context.inherited items old >>= λ clauses. made (of_grammar clauses)) ≡ made piece new →
      FileStands context surface piece old new
  grammar_stands context surface items piece old new some supplied is =
      let b = both (make_items context.inherited items old) (λ clauses. made (of_grammar clauses)) piece new is in
      let inner : ItemsMade files number context items [] b.value old b.mid =
      items_is files number context items [] b.value old b.mid (subst (λ ms. Supplies files number context old.cells ms old.pieces)
      (sym (append-nil (mentions_of_items items))) supplied) b.first in
      stands_at context surface (of_grammar b.value) piece old b.mid new b.second
      (record { stands = stands_as_grammar some inner.gathers inner.part.denotes; grows = inner.part.grows })

  file_stands : (context : Context) (surface : WrittenSurface) (piece : FilePiece) (old new : Stock) →
      Supplies files number context old.cells (mentions_of surface) old.pieces → make_file context.inherited surface old ≡ made piece new →
      FileStands context surface piece old new
  file_stands context (written.a_grammar items) piece old new supplied is =
      grammar_stands context (written.a_grammar items) items piece old new refl supplied is
  file_stands context (written.a_pattern (written.grammar items)) piece old new supplied is =
      grammar_stands context (written.a_pattern (written.grammar items)) items piece old new refl supplied is
  file_stands context (written.a_pattern p) piece old new supplied is = lone_stands context p piece old new refl supplied is

  -- ---- pieces for all that waits

  pub data SuppliesAll (cells : List Cell) : List Waiting → List FilePiece → Type 0 where
    none_waits : SuppliesAll cells [] []
    next_waits : {waiting : Waiting} {more : List Waiting} {piece : FilePiece} {pieces : List FilePiece} →
        Supply files number waiting.context cells waiting.mention piece → SuppliesAll cells more pieces →
        SuppliesAll cells (waiting ∷ more) (piece ∷ pieces)

  -- those of a file come first
  pub supplied_first : (cells : List Cell) (context : Context) (all : List Mention) (more : List Waiting) (pieces : List FilePiece) →
      SuppliesAll cells (waiting_in context all ++ more) pieces → Supplies files number context cells all pieces
  supplied_first cells context [] more pieces supplied = nothing_more
  supplied_first cells context (m ∷ all) more pieces (next_waits {pieces = rest} first supplied) =
      one_further first (supplied_first cells context all more rest supplied)

  -- and the others behind them
  supplied_behind : (cells : List Cell) (context : Context) (all : List Mention) (more : List Waiting) (pieces : List FilePiece) →
      SuppliesAll cells (waiting_in context all ++ more) pieces → SuppliesAll cells more (drop (length all) pieces)
  supplied_behind cells context [] more pieces supplied = supplied
  supplied_behind cells context (m ∷ all) more pieces (next_waits {pieces = rest} first supplied) =
      supplied_behind cells context all more rest supplied

  supplied_on : (old new : List Cell) (waiting : List Waiting) (pieces : List FilePiece) → Grows old new → SuppliesAll old waiting pieces →
      SuppliesAll new waiting pieces
  supplied_on old new waiting pieces grows none_waits = none_waits
  supplied_on old new waiting pieces grows (next_waits {more = more} {pieces = rest} first supplied) =
      next_waits (supply_on grows first) (supplied_on old new more rest grows supplied)

  enough : (cells : List Cell) (context : Context) (all : List Mention) (pieces : List FilePiece) →
      Supplies files number context cells all pieces → length all ≤ length pieces
  enough cells context [] pieces supplied = omega arith
  enough cells context (m ∷ all) pieces (one_further {pieces = rest} first supplied) =
      let more : length all ≤ length rest = enough cells context all rest supplied in omega arith

  pieces_are : (need : ℕ) (old new : Stock) (piece : FilePiece) (outcome : Outcome FilePiece) → Keeps [] piece_nodes need old outcome →
      outcome ≡ made piece new → new.pieces ≡ drop need old.pieces
  pieces_are need old new piece outcome keeps is =
      let k : Keeps [] piece_nodes need old (made piece new) = subst (Keeps [] piece_nodes need old) is keeps in k.0

  -- ---- files in order

  -- a file takes the place of what it mentions
  pub record FileMade (context : Context) (surface : WrittenSurface) (more : List Waiting) (new : Stock) : Type 0 where
    pub piece : FilePiece
    pub pieces : List FilePiece
    pub pieces_are : new.pieces ≡ piece ∷ pieces
    pub stands : PieceStands context surface new.cells piece
    pub left : SuppliesAll new.cells more pieces

  one_made : (context : Context) (file : Loaded) (more : List Waiting) (old new : Stock) (done : Unit {0}) →
      file.inherited ≡ context.inherited → SuppliesAll old.cells (waiting_in context (mentions_of (surface_of file.surface)) ++ more)
      old.pieces → file_made file old ≡ made done new → FileMade context (surface_of file.surface) more new
  one_made context file more old new done inherits supplied is =
      let surface : WrittenSurface = surface_of file.surface in
      let all : List Mention = mentions_of surface in
      let first : Supplies files number context old.cells all old.pieces = supplied_first old.cells context all more old.pieces supplied in
      let b =
      both (make_file file.inherited surface old)
      (λ piece then. made (tt {0}) (record { cells = then.cells; pieces = piece ∷ then.pieces })) done new is in
      let stands : FileStands context surface b.value old b.mid =
      file_stands context surface b.value old b.mid first (subst (λ ns. make_file ns surface old ≡ made b.value b.mid) inherits
      b.first) in
      let rest : b.mid.pieces ≡ drop (length all) old.pieces =
      pieces_are (length all) old b.mid b.value (make_file file.inherited surface old)
      ((file_runs file.inherited surface old).keeps (enough old.cells context all old.pieces first)) b.first in
      subst (FileMade context surface more) (ap (now_or old) b.second) (record {
        piece = b.value;
        pieces = b.mid.pieces;
        pieces_are = refl;
        stands = stands.stands;
        left =
            subst (SuppliesAll b.mid.cells more) (sym rest) (supplied_on old.cells b.mid.cells more (drop (length all) old.pieces)
            stands.grows (supplied_behind old.cells context all more old.pieces supplied));
      })

  waits_for : (waiting : Waiting) (more : List Waiting) (inner : Context) (surface : WrittenSurface) (new : Stock) →
      Opens files waiting.context (reference_of waiting.mention) inner surface → FileMade inner surface more new →
      SuppliesAll new.cells (waiting ∷ more) new.pieces
  waits_for waiting more inner surface new opens file =
      subst (SuppliesAll new.cells (waiting ∷ more)) (sym file.pieces_are)
      (next_waits (supply_of waiting.context inner surface new.cells waiting.mention file.piece opens file.stands) file.left)

  nothing_supplied : (now : Stock) (done : Unit {0}) → made (tt {0}) nothing_made ≡ made done now → SuppliesAll now.cells [] now.pieces
  nothing_supplied now done is = subst (λ (n : Stock). SuppliesAll n.cells [] n.pieces) (ap (now_or nothing_made) is) none_waits

  -- what was made of the files behind is what waits
  pub walk_made : (waiting : List Waiting) (read : List Loaded) (now : Stock) (done : Unit {0}) → AreRead (Some files) waiting read →
      files_made (reverse read) nothing_made ≡ made done now → SuppliesAll now.cells waiting now.pieces
  walk_made waiting read now done all_read is = nothing_supplied now done is
  walk_made waiting read now done (one_read {waiting = first} {more = more} {file = file} {files = rest} inner is_read reads) is =
      let b = both (files_made (reverse rest) nothing_made) (λ before. file_made file) done now (sym (file_last file rest) ∙ is) in
      waits_for first more inner (surface_of file.surface) now is_read.opens (one_made inner file more b.mid now done is_read.inherits
      (walk_made (waiting_in inner (mentions_of (surface_of file.surface)) ++ more) rest b.mid b.value reads b.first) b.second)

  -- ---- the whole

  pub record Stands (context : Context) (surface : WrittenSurface) (root : ℕ) (left : Stock) : Type 0 where
    pub whole : Composed
    pub composed : ComposesFile files context surface whole
    pub denotes : Denotes left.cells number root whole

  whole_at : (context : Context) (surface : WrittenSurface) (first root : ℕ) (mid left : Stock) → made first mid ≡ made root left →
      Stands context surface first mid → Stands context surface root left
  whole_at context surface first root mid left is stands =
      subst (λ n. Stands context surface root n) (ap (now_or mid) is) (subst (λ i. Stands context surface i mid) (ap (value_or first) is)
      stands)

  whole_stands : (context : Context) (surface : WrittenSurface) (cells : List Cell) (piece : FilePiece) (pieces : List FilePiece) (root : ℕ)
      (left : Stock) → PieceStands context surface cells piece → (next_piece cells (piece ∷ pieces) >>= as_pattern) ≡ made root left →
      Stands context surface root left
  whole_stands context surface cells piece pieces root left (stands_as_pattern {root = first} {q = q} none composes denotes) is =
      whole_at context surface first root (record { cells = cells; pieces = pieces }) left is
      (record { whole = q; composed = composes; denotes = denotes })
  whole_stands context surface cells piece pieces root left (stands_as_grammar {items = items} {clauses = clauses} {all = all} some gathers
      denotes) is =
      whole_at context surface (length cells) root (record { cells = cells ++ cell.grammar clauses ∷ []; pieces = pieces }) left is
      (record {
        whole = composed.grammar all;
        composed = file_from files number context context surface items all some gathers;
        denotes = is_grammar (last_cell cells (cell.grammar clauses)) (denote_all_on (one_more cells (cell.grammar clauses)) denotes);
      })

  files_stand : (uri : List ℕ) (first : Loaded) (others : List Loaded) (root : ℕ) (left : Stock) →
      AreLoaded (Some files) uri first others → whole_made (reverse (first ∷ others)) ≡ made root left →
      IsOnePiece files uri number left.cells root
  files_stand uri first others root left loaded is =
      let surface : WrittenSurface = surface_of first.surface in
      let waiting : List Waiting = waiting_in (top uri) (mentions_of surface) in
      let a = both (files_made (reverse (first ∷ others)) nothing_made) (λ done. next_pattern) root left is in
      let b =
      both (files_made (reverse others) nothing_made) (λ before. file_made first) a.value a.mid
      (sym (file_last first others) ∙ a.first) in
      let supplied : SuppliesAll b.mid.cells waiting b.mid.pieces = walk_made waiting others b.mid b.value loaded.others_read b.first in
      let file : FileMade (top uri) surface [] a.mid =
      one_made (top uri) first [] b.mid a.mid a.value loaded.inherits (subst (λ ws. SuppliesAll b.mid.cells ws b.mid.pieces)
      (sym (append-nil waiting)) supplied) b.second in
      let stands : Stands (top uri) surface root left =
      whole_stands (top uri) surface a.mid.cells file.piece file.pieces root left file.stands
      (subst (λ ps. (next_piece a.mid.cells ps >>= as_pattern) ≡ made root left) file.pieces_are a.second) in
      record {
        whole = stands.whole;
        composed = record { surface = surface; says = loaded.says; composed = stands.composed };
        denotes = stands.denotes;
      }

all_stand : (files : FileMap) (number : ℕ → ℕ) (uri : List ℕ) (loaded : List Loaded) (root : ℕ) (left : Stock) →
    AllLoaded (Some files) uri loaded → whole_made (reverse loaded) ≡ made root left → IsOnePiece files uri number left.cells root
all_stand files number uri [] root left loaded is = absurd loaded
all_stand files number uri (first ∷ others) root left loaded is = files_stand files number uri first others root left loaded is

pub made_is_composed : MadeIsComposed
made_is_composed files uri loaded all root left is number =
    all_stand files number uri (reverse loaded) root left all (ap whole_made (reverse-reverse loaded) ∙ is)
