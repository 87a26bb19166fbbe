-- What is kept by numbers, as contracts see it.
use Rattle.std.proofs.Common.{◌≡◌, ℕ, zero, suc, ◌<◌, ◌≤◌, List, [], ◌∷◌, ◌++◌, length, refl, sym, ap, ◌∙◌, subst, arith, Some, slice_get, Bool, eqb}
use Rattle.std.proofs.lemmas.Option.{slice_get_within}
use Rattle.std.proofs.lemmas.Bool.Decides.{Decides-eqb, same_from_decides}
use Rattle.rng_core.specs.Patterns.{Pattern, not_allowed}
use Rattle.rng_kept.specs.Residuals.{Outer, document, inside, one_of, among, in_tag, Residual}
use Rattle.rng_kept.specs.Merging.{same_outer}
use Rattle.deriv_nodes.specs.Numbers.{at, AreSingle, IsAt, Later}
use Rattle.deriv_nodes.specs.Reading.{HasKey, AreOnce}
use Rattle.deriv_states.specs.declared.around.Around.{Around}
use Rattle.deriv_states.specs.declared.around.Around.TheVariants as around
use Rattle.deriv_states.specs.declared.branch.Branch.{Branch}
use Rattle.deriv_states.specs.declared.branch.Branch.TheVariants as branch
use Rattle.deriv_states.specs.declared.branch.Row.{Row}
use Rattle.deriv_states.specs.declared.branch.Row.TheVariants as row
use Rattle.deriv_states.specs.Tables.{AreOrdered, Grows, AreApart}
use Rattle.deriv_states.specs.Places.{Places, LaterPlaces, outer_in, state_in, way_made, IsBranchBelow, IsOuter, IsState}
use Rattle.deriv_states.specs.Parts.{outer_made, state_made, outers_of, states_of, IsAroundBelow, IsRowBelow, AreBelow, AreTables}
use Rattle.deriv_states.specs.Parts.{contents_in, places_of}
use Rattle.deriv_states.proofs.Alike.{outers_decided}
use Rattle.deriv_states.proofs.Table.{ordered_kept, ordered_wider, read_below, as_many, wholes_grow, row as table_row, put_is, wholes_apart, wholes_stay}

-- ---- parts that stay what they were make the same wholes

insides : (v : Bool) (b c l k : Pattern) (o u : Outer) → b ≡ c → l ≡ k → o ≡ u → inside b l v o ≡ inside c k v u
insides v b c l k o u one two three =
    ap (λ x. inside x l v o) one ∙ (ap (λ x. inside c x v o) two ∙ ap (λ x. inside c k v x) three)

outer_steady : (old new : List Pattern) (done all : List Outer) (m n : ℕ) (a : Around) → IsAroundBelow m n a
    → ((i : ℕ) → i < m → at new i ≡ at old i) → ((i : ℕ) → i < n → outer_in all i ≡ outer_in done i)
    → outer_made new all a ≡ outer_made old done a
outer_steady old new done all m n (around.Document rest) below nodes outers = ap (λ p. document p) (nodes rest below)
outer_steady old new done all m n (around.Inside b l v o) below nodes outers =
    insides v _ _ _ _ _ _ (nodes b below.0) (nodes l below.1) (outers o below.2)
outer_steady old new done all m n (around.OneOf this other) below nodes outers =
    ap (λ x. one_of x (outer_in all other)) (outers this below.0) ∙ ap (λ x. one_of (outer_in done this) x) (outers other below.1)

pub way_steady : (old new : List Pattern) (done all : List Outer) (m n : ℕ) (one : Branch) → IsBranchBelow m n one
    → ((i : ℕ) → i < m → at new i ≡ at old i) → ((i : ℕ) → i < n → outer_in all i ≡ outer_in done i)
    → way_made new all one ≡ way_made old done one
way_steady old new done all m n (branch.Among here) there nodes outers = ap (λ o. among o) (outers here there)
way_steady old new done all m n (branch.InTag p o) there nodes outers =
    ap (λ x. in_tag x (outer_in all o)) (nodes p there.0) ∙ ap (λ x. in_tag (at old p) x) (outers o there.1)

state_steady : (old new : List Pattern) (done all : List Outer) (states more : List Residual) (m n k : ℕ) (r : Row) → IsRowBelow m n k r
    → ((i : ℕ) → i < m → at new i ≡ at old i) → ((i : ℕ) → i < n → outer_in all i ≡ outer_in done i)
    → ((i : ℕ) → i < k → state_in more i ≡ state_in states i) → state_made new all more r ≡ state_made old done states r
state_steady old new done all states more m n k row.End below nodes outers rows = refl
state_steady old new done all states more m n k (row.Way one rest) below nodes outers rows =
    ap (λ w. w ∷ state_in more rest) (way_steady old new done all m n one below.0 nodes outers)
    ∙ ap (λ x. way_made old done one ∷ x) (rows rest below.1)

-- ---- with more nodes, and with more outers

around_wider : (m k n : ℕ) (a : Around) → m ≤ k → IsAroundBelow m n a → IsAroundBelow k n a
around_wider m k n (around.Document rest) up below = omega (arith, up, below)
around_wider m k n (around.Inside b l v o) up below = (omega (arith, up, below.0), omega (arith, up, below.1), below.2)
around_wider m k n (around.OneOf this other) up below = below

pub there_wider : (m k n l : ℕ) (one : Branch) → m ≤ k → n ≤ l → IsBranchBelow m n one → IsBranchBelow k l one
there_wider m k n l (branch.Among here) up out there = omega (arith, out, there)
there_wider m k n l (branch.InTag p o) up out there = (omega (arith, up, there.0), omega (arith, out, there.1))

row_wider : (m k n l i : ℕ) (r : Row) → m ≤ k → n ≤ l → IsRowBelow m n i r → IsRowBelow k l i r
row_wider m k n l i row.End up out below = tt
row_wider m k n l i (row.Way one rest) up out below = (there_wider m k n l one up out below.0, below.1)

below_wider : (m k : ℕ) (numbers : List ℕ) → m ≤ k → AreBelow m numbers → AreBelow k numbers
below_wider m k [] up below = tt
below_wider m k (n ∷ ns) up below = (omega (arith, up, below.0), below_wider m k ns up below.1)

pub contents_stay : (old new : List Pattern) (numbers : List ℕ) → AreBelow (length old) numbers → Later old new
    → contents_in new numbers ≡ contents_in old numbers
contents_stay old new [] below later = refl
contents_stay old new (n ∷ ns) below later =
    ap (λ p. p ∷ contents_in new ns) (later.stays n below.0) ∙ ap (λ ps. at old n ∷ ps) (contents_stay old new ns below.1 later)

outers_stay : (old new : List Pattern) (xs : List Around) → AreOrdered (IsAroundBelow (length old)) 0 xs → Later old new
    → outers_of new xs ≡ outers_of old xs
outers_stay old new xs ordered later =
    wholes_stay (outer_made old) (outer_made new) (IsAroundBelow (length old))
    (λ done n a below. outer_steady old new done done (length old) n a below later.stays (λ i here. refl)) xs ordered

states_stay : (old new : List Pattern) (outers more : List Outer) (n : ℕ) (rs : List Row) → AreOrdered (IsRowBelow (length old) n) 0 rs
    → Later old new → ((i : ℕ) → i < n → outer_in more i ≡ outer_in outers i) → states_of new more rs ≡ states_of old outers rs
states_stay old new outers more n rs ordered later stays =
    wholes_stay (state_made old outers) (state_made new more) (IsRowBelow (length old) n)
    (λ done k r below. state_steady old new outers more done done (length old) n k r below later.stays stays (λ i here. refl)) rs ordered

same_later : (xs : List Pattern) → Later xs xs
same_later xs = record { grows = omega arith; stays = λ i here. refl }

same_grows : {M : Type 0} (none : M) (xs ys : List M) → ys ≡ xs → Grows none xs ys
same_grows {M} none xs ys is = let P : List M → Type 0 = λ zs. Grows none xs zs in subst P (sym is) (record { grows = omega arith; stays = λ i here. refl })

pub nodes_kept : (old new : List Pattern) (xs : List Around) (rs : List Row) (cs : List ℕ) → AreTables old xs rs cs → Later old new
    → AreTables new xs rs cs
nodes_kept old new xs rs cs tables later = record {
  arounds_ordered = ordered_wider (IsAroundBelow (length old)) (IsAroundBelow (length new))
      (λ n a below. around_wider (length old) (length new) n a later.grows below) 0 xs tables.arounds_ordered;
  rows_ordered = ordered_wider (IsRowBelow (length old) (length xs)) (IsRowBelow (length new) (length xs))
      (λ n r below. row_wider (length old) (length new) (length xs) (length xs) n r later.grows (omega arith) below) 0 rs tables.rows_ordered;
  arounds_once = tables.arounds_once;
  rows_once = tables.rows_once;
  contents_below = below_wider (length old) (length new) cs later.grows tables.contents_below;
}

pub nodes_later : (old new : List Pattern) (xs : List Around) (rs : List Row) (cs : List ℕ) (places : Places)
    → places_of old xs rs cs ≡ places → AreTables old xs rs cs → Later old new → LaterPlaces places (places_of new xs rs cs)
nodes_later old new xs rs cs places is tables later =
    let outers = outers_stay old new xs tables.arounds_ordered later in
    let states = states_stay old new (outers_of old xs) (outers_of new xs) (length xs) rs tables.rows_ordered later
    (λ i here. ap (λ os. outer_in os i) outers) in
    let P : Places → Type 0 = λ p. LaterPlaces p (places_of new xs rs cs) in
    subst P is (record {
      patterns = later;
      outers = same_grows (document not_allowed) (outers_of old xs) (outers_of new xs) outers;
      states = same_grows [] (states_of old (outers_of old xs) rs) (states_of new (outers_of new xs) rs) states;
      contents = contents_stay old new cs tables.contents_below later;
    })

-- ---- with one outer more

module _ (patterns : List Pattern) (old new : List Around) (rs : List Row) (cs : List ℕ) (a : Around)
    (tables : AreTables patterns old rs cs) (kept : HasKey old new a) where
  outers_grow : Grows (document not_allowed) (outers_of patterns old) (outers_of patterns new)
  outers_grow = wholes_grow (document not_allowed) (outer_made patterns) old new a kept

  more_arounds : length old ≤ length new
  more_arounds = omega (arith, outers_grow.grows, as_many (document not_allowed) (outer_made patterns) old, as_many (document not_allowed) (outer_made patterns) new)

  pub around_kept : IsAroundBelow (length patterns) (length old) a → AreOnce new → AreTables patterns new rs cs
  around_kept below once = record {
    arounds_ordered = ordered_kept (IsAroundBelow (length patterns)) old new a tables.arounds_ordered below kept;
    rows_ordered = ordered_wider (IsRowBelow (length patterns) (length old)) (IsRowBelow (length patterns) (length new))
        (λ n r below. row_wider (length patterns) (length patterns) (length old) (length new) n r (omega arith) more_arounds below)
        0 rs tables.rows_ordered;
    arounds_once = once;
    rows_once = tables.rows_once;
    contents_below = tables.contents_below;
  }

  around_later_here : LaterPlaces (places_of patterns old rs cs) (places_of patterns new rs cs)
  around_later_here = record {
    patterns = same_later patterns;
    outers = outers_grow;
    states = same_grows [] (states_of patterns (outers_of patterns old) rs) (states_of patterns (outers_of patterns new) rs)
        (states_stay patterns patterns (outers_of patterns old) (outers_of patterns new) (length old) rs tables.rows_ordered (same_later patterns)
        (λ i here. outers_grow.stays i (omega (arith, here, as_many (document not_allowed) (outer_made patterns) old))));
    contents = refl;
  }

  pub around_later : (places : Places) → places_of patterns old rs cs ≡ places → LaterPlaces places (places_of patterns new rs cs)
  around_later places is = let P : Places → Type 0 = λ p. LaterPlaces p (places_of patterns new rs cs) in subst P is around_later_here

  pub around_is : (places : Places) (i : ℕ) → places_of patterns old rs cs ≡ places → IsAroundBelow (length patterns) (length old) a
      → slice_get new i ≡ Some a → IsOuter (places_of patterns new rs cs) (outer_made places.patterns places.outers a) i
  around_is places i is below there =
      let P : Places → Type 0 = λ p. IsOuter (places_of patterns new rs cs) (outer_made p.patterns p.outers a) i in
      subst P is (record {
        there = omega (arith, as_many (document not_allowed) (outer_made patterns) new, slice_get_within new i a there);
        meaning = put_is (document not_allowed) (outer_made patterns) (IsAroundBelow (length patterns))
            (λ done all n x under stays. outer_steady patterns patterns done all (length patterns) n x under (λ k here. refl) stays)
            old new a i (ordered_kept (IsAroundBelow (length patterns)) old new a tables.arounds_ordered below kept) below kept there;
      })

-- ---- with one state more

module _ (patterns : List Pattern) (xs : List Around) (old new : List Row) (cs : List ℕ) (r : Row)
    (tables : AreTables patterns xs old cs) (kept : HasKey old new r) where
  pub row_kept : IsRowBelow (length patterns) (length xs) (length old) r → AreOnce new → AreTables patterns xs new cs
  row_kept below once = record {
    arounds_ordered = tables.arounds_ordered;
    rows_ordered = ordered_kept (IsRowBelow (length patterns) (length xs)) old new r tables.rows_ordered below kept;
    arounds_once = tables.arounds_once;
    rows_once = once;
    contents_below = tables.contents_below;
  }

  row_later_here : LaterPlaces (places_of patterns xs old cs) (places_of patterns xs new cs)
  row_later_here = record {
    patterns = same_later patterns;
    outers = same_grows (document not_allowed) (outers_of patterns xs) (outers_of patterns xs) refl;
    states = wholes_grow [] (state_made patterns (outers_of patterns xs)) old new r kept;
    contents = refl;
  }

  pub row_later : (places : Places) → places_of patterns xs old cs ≡ places → LaterPlaces places (places_of patterns xs new cs)
  row_later places is = let P : Places → Type 0 = λ p. LaterPlaces p (places_of patterns xs new cs) in subst P is row_later_here

  pub row_is : (places : Places) (i : ℕ) → places_of patterns xs old cs ≡ places → IsRowBelow (length patterns) (length xs) (length old) r
      → slice_get new i ≡ Some r → IsState (places_of patterns xs new cs) (state_made places.patterns places.outers places.states r) i
  row_is places i is below there =
      let outers = outers_of patterns xs in
      let P : Places → Type 0 = λ p. IsState (places_of patterns xs new cs) (state_made p.patterns p.outers p.states r) i in
      subst P is (record {
        there = omega (arith, as_many [] (state_made patterns outers) new, slice_get_within new i r there);
        meaning = put_is [] (state_made patterns outers) (IsRowBelow (length patterns) (length xs))
            (λ done all n x under stays. state_steady patterns patterns outers outers done all (length patterns) (length xs) n x under
            (λ k here. refl) (λ k here. refl) stays)
            old new r i (ordered_kept (IsRowBelow (length patterns) (length xs)) old new r tables.rows_ordered below kept) below kept there;
      })

-- ---- what contracts see is as much as there is

module _ (patterns : List Pattern) (xs : List Around) (rs : List Row) (cs : List ℕ) (places : Places) (is : places_of patterns xs rs cs ≡ places) where
  pub many_outers : length xs ≡ length places.outers
  many_outers = sym (as_many (document not_allowed) (outer_made patterns) xs) ∙ ap (λ (p : Places). length p.outers) is

  pub many_states : length rs ≡ length places.states
  many_states = sym (as_many [] (state_made patterns (outers_of patterns xs)) rs) ∙ ap (λ (p : Places). length p.states) is

  many_patterns : length patterns ≡ length places.patterns
  many_patterns = ap (λ (p : Places). length p.patterns) is

  pub around_fits : (a : Around) → IsAroundBelow (length places.patterns) (length places.outers) a → IsAroundBelow (length patterns) (length xs) a
  around_fits a below =
      let P : ℕ → Type 0 = λ m. IsAroundBelow m (length xs) a in
      let Q : ℕ → Type 0 = λ n. IsAroundBelow (length places.patterns) n a in
      subst P (sym many_patterns) (subst Q (sym many_outers) below)

  pub row_fits : (r : Row) → IsRowBelow (length places.patterns) (length places.outers) (length places.states) r
      → IsRowBelow (length patterns) (length xs) (length rs) r
  row_fits r below =
      let P : ℕ → Type 0 = λ m. IsRowBelow m (length xs) (length rs) r in
      let Q : ℕ → Type 0 = λ n. IsRowBelow (length places.patterns) n (length rs) r in
      let R : ℕ → Type 0 = λ k. IsRowBelow (length places.patterns) (length places.outers) k r in
      subst P (sym many_patterns) (subst Q (sym many_outers) (subst R (sym many_states) below))

  module _ (tables : AreTables patterns xs rs cs) where
    pub read_outer : (o : ℕ) (a : Around) → slice_get xs o ≡ Some a → outer_in places.outers o ≡ outer_made places.patterns places.outers a
    read_outer o a there =
        let P : Places → Type 0 = λ p. outer_in p.outers o ≡ outer_made p.patterns p.outers a in
        subst P is (table_row (document not_allowed) (outer_made patterns) (IsAroundBelow (length patterns))
        (λ done all n x under stays. outer_steady patterns patterns done all (length patterns) n x under (λ k here. refl) stays)
        xs o a tables.arounds_ordered there)

    pub outer_parts : (o : ℕ) (a : Around) → slice_get xs o ≡ Some a → IsAroundBelow (length places.patterns) o a
    outer_parts o a there =
        let P : Places → Type 0 = λ p. IsAroundBelow (length p.patterns) o a in
        subst P is (read_below (IsAroundBelow (length patterns)) xs o a tables.arounds_ordered there)

    pub read_state : (s : ℕ) (r : Row) → slice_get rs s ≡ Some r
        → state_in places.states s ≡ state_made places.patterns places.outers places.states r
    read_state s r there =
        let outers = outers_of patterns xs in
        let P : Places → Type 0 = λ p. state_in p.states s ≡ state_made p.patterns p.outers p.states r in
        subst P is (table_row [] (state_made patterns outers) (IsRowBelow (length patterns) (length xs))
        (λ done all n x under stays. state_steady patterns patterns outers outers done all (length patterns) (length xs) n x under
        (λ k here. refl) (λ k here. refl) stays) rs s r tables.rows_ordered there)

    pub state_parts : (s : ℕ) (r : Row) → slice_get rs s ≡ Some r → IsRowBelow (length places.patterns) (length places.outers) s r
    state_parts s r there =
        let P : ℕ → Type 0 = λ m. IsRowBelow m (length places.outers) s r in
        let Q : ℕ → Type 0 = λ n. IsRowBelow (length patterns) n s r in
        subst P many_patterns (subst Q many_outers (read_below (IsRowBelow (length patterns) (length xs)) rs s r tables.rows_ordered there))

-- ---- what is the same is one

module _ (patterns : List Pattern) (xs : List Around) (rs : List Row) (cs : List ℕ) (tables : AreTables patterns xs rs cs)
    (single : AreSingle patterns) where
  one_around : (n m : ℕ) (a b : Around)
      → ((i j : ℕ) → i < n → j < m → outer_in (outers_of patterns xs) i ≡ outer_in (outers_of patterns xs) j → i ≡ j)
      → IsAroundBelow (length patterns) n a → IsAroundBelow (length patterns) m b
      → outer_made patterns (outers_of patterns xs) a ≡ outer_made patterns (outers_of patterns xs) b → a ≡ b
  one_around n m (around.Document p) (around.Document q) part here there e =
      let is : at patterns p ≡ at patterns q = cc in ap (λ x. around.Document x) (single p q here there is)
  one_around n m (around.Document p) (around.Inside c k w u) part here there e = cc
  one_around n m (around.Document p) (around.OneOf this other) part here there e = cc
  one_around n m (around.Inside b l v o) (around.Document q) part here there e = cc
  one_around n m (around.Inside b l v o) (around.OneOf this other) part here there e = cc
  one_around n m (around.OneOf this other) (around.Document q) part here there e = cc
  one_around n m (around.OneOf this other) (around.Inside c k w u) part here there e = cc
  one_around n m (around.OneOf o r) (around.OneOf u s) part here there e =
      let this : outer_in (outers_of patterns xs) o ≡ outer_in (outers_of patterns xs) u = cc in
      let other : outer_in (outers_of patterns xs) r ≡ outer_in (outers_of patterns xs) s = cc in
      ap (λ x. around.OneOf x r) (part o u here.0 there.0 this) ∙ ap (λ x. around.OneOf u x) (part r s here.1 there.1 other)
  one_around n m (around.Inside b l v o) (around.Inside c k w u) part here there e =
      let strict : at patterns b ≡ at patterns c = cc in
      let loose : at patterns l ≡ at patterns k = cc in
      let void : v ≡ w = cc in
      let outer : outer_in (outers_of patterns xs) o ≡ outer_in (outers_of patterns xs) u = cc in
      ap (λ x. around.Inside x l v o) (single b c here.0 there.0 strict)
      ∙ (ap (λ x. around.Inside c x v o) (single l k here.1 there.1 loose)
      ∙ (ap (λ x. around.Inside c k x o) void ∙ ap (λ x. around.Inside c k w x) (part o u here.2 there.2 outer)))

  outers_apart : AreApart (document not_allowed) (outers_of patterns xs)
  outers_apart = wholes_apart (document not_allowed) (outer_made patterns) (IsAroundBelow (length patterns))
      (λ done all n x under stays. outer_steady patterns patterns done all (length patterns) n x under (λ k here. refl) stays)
      xs tables.arounds_ordered tables.arounds_once one_around

  outer_number : (i j : ℕ) → i < length xs → j < length xs → outer_in (outers_of patterns xs) i ≡ outer_in (outers_of patterns xs) j → i ≡ j
  outer_number i j here there e =
      outers_apart i j (omega (arith, here, as_many (document not_allowed) (outer_made patterns) xs))
      (omega (arith, there, as_many (document not_allowed) (outer_made patterns) xs)) e

  one_branch : (a b : Branch) → IsBranchBelow (length patterns) (length xs) a → IsBranchBelow (length patterns) (length xs) b
      → way_made patterns (outers_of patterns xs) a ≡ way_made patterns (outers_of patterns xs) b → a ≡ b
  one_branch (branch.Among o) (branch.Among u) here there e =
      let is : outer_in (outers_of patterns xs) o ≡ outer_in (outers_of patterns xs) u = cc in
      ap (λ x. branch.Among x) (outer_number o u here there is)
  one_branch (branch.Among o) (branch.InTag q u) here there e = cc
  one_branch (branch.InTag p o) (branch.Among u) here there e = cc
  one_branch (branch.InTag p o) (branch.InTag q u) here there e =
      let content : at patterns p ≡ at patterns q = cc in
      let is : outer_in (outers_of patterns xs) o ≡ outer_in (outers_of patterns xs) u = cc in
      ap (λ x. branch.InTag x o) (single p q here.0 there.0 content) ∙ ap (λ x. branch.InTag q x) (outer_number o u here.1 there.1 is)

  one_row : (n m : ℕ) (a b : Row)
      → ((i j : ℕ) → i < n → j < m → state_in (states_of patterns (outers_of patterns xs) rs) i
      ≡ state_in (states_of patterns (outers_of patterns xs) rs) j → i ≡ j)
      → IsRowBelow (length patterns) (length xs) n a → IsRowBelow (length patterns) (length xs) m b
      → state_made patterns (outers_of patterns xs) (states_of patterns (outers_of patterns xs) rs) a
      ≡ state_made patterns (outers_of patterns xs) (states_of patterns (outers_of patterns xs) rs) b → a ≡ b
  one_row n m row.End row.End part here there e = refl
  one_row n m row.End (row.Way v l) part here there e = cc
  one_row n m (row.Way w k) row.End part here there e = cc
  one_row n m (row.Way w k) (row.Way v l) part here there e =
      let way : way_made patterns (outers_of patterns xs) w ≡ way_made patterns (outers_of patterns xs) v = cc in
      let more : state_in (states_of patterns (outers_of patterns xs) rs) k ≡ state_in (states_of patterns (outers_of patterns xs) rs) l = cc in
      ap (λ x. row.Way x k) (one_branch w v here.0 there.0 way) ∙ ap (λ x. row.Way v x) (part k l here.1 there.1 more)

  states_apart : AreApart [] (states_of patterns (outers_of patterns xs) rs)
  states_apart = wholes_apart [] (state_made patterns (outers_of patterns xs)) (IsRowBelow (length patterns) (length xs))
      (λ done all n x under stays. state_steady patterns patterns (outers_of patterns xs) (outers_of patterns xs) done all
      (length patterns) (length xs) n x under (λ k here. refl) (λ k here. refl) stays)
      rs tables.rows_ordered tables.rows_once one_row

  -- whether two numbers are one tells whether the outers are
  pub outers_answer : (places : Places) (o u : ℕ) → places_of patterns xs rs cs ≡ places
      → o < length places.outers → u < length places.outers → eqb o u ≡ same_outer (outer_in places.outers o) (outer_in places.outers u)
  outers_answer places o u is here there =
      let P : Places → Type 0 = λ p. o < length p.outers → u < length p.outers
      → eqb o u ≡ same_outer (outer_in p.outers o) (outer_in p.outers u) in
      let Q : ℕ → Type 0 = λ k. outer_in (outers_of patterns xs) o ≡ outer_in (outers_of patterns xs) k in
      let told = outers_decided (outer_in (outers_of patterns xs) o) (outer_in (outers_of patterns xs) u) in
      subst P is (λ first second. same_from_decides (eqb o u)
      (same_outer (outer_in (outers_of patterns xs) o) (outer_in (outers_of patterns xs) u)) (Decides-eqb o u)
      ((λ t. outers_apart o u first second (told.0 t)), (λ e. told.1 (subst Q e refl)))) here there

  -- nothing stands twice
  pub patterns_single : (places : Places) → places_of patterns xs rs cs ≡ places → AreApart not_allowed places.patterns
  patterns_single places is = let P : Places → Type 0 = λ p. AreApart not_allowed p.patterns in subst P is single

  pub outers_single : (places : Places) → places_of patterns xs rs cs ≡ places → AreApart (document not_allowed) places.outers
  outers_single places is = let P : Places → Type 0 = λ p. AreApart (document not_allowed) p.outers in subst P is outers_apart

  pub states_single : (places : Places) → places_of patterns xs rs cs ≡ places → AreApart [] places.states
  states_single places is = let P : Places → Type 0 = λ p. AreApart [] p.states in subst P is states_apart

-- ---- the content of a definition

content_there : (patterns : List Pattern) (cs : List ℕ) (i : ℕ) (c : ℕ) → AreBelow (length patterns) cs → slice_get cs i ≡ Some c
    → IsAt patterns (at (contents_in patterns cs) i) c
content_there patterns [] i c below there = cc
content_there patterns (n ∷ ns) zero c below there =
    let is : n ≡ c = cc in
    let P : ℕ → Type 0 = λ k. IsAt patterns (at patterns n) k in
    subst P is (record { node = below.0; meaning = refl })
content_there patterns (n ∷ ns) (suc i) c below there = content_there patterns ns i c below.1 there

pub content_is : (patterns : List Pattern) (xs : List Around) (rs : List Row) (cs : List ℕ) (places : Places) (i : ℕ) (c : ℕ)
    → places_of patterns xs rs cs ≡ places → AreTables patterns xs rs cs → slice_get cs i ≡ Some c → IsAt places.patterns (at places.contents i) c
content_is patterns xs rs cs places i c is tables there =
    let P : Places → Type 0 = λ p. IsAt p.patterns (at p.contents i) c in
    subst P is (content_there patterns cs i c tables.contents_below there)

none_there : (patterns : List Pattern) (cs : List ℕ) (i : ℕ) → length cs ≤ i → at (contents_in patterns cs) i ≡ not_allowed
none_there patterns [] i past = refl
none_there patterns (c ∷ cs) zero past = absurd (omega (arith, past))
none_there patterns (c ∷ cs) (suc i) past = none_there patterns cs i (omega (arith, past))

pub content_none : (patterns : List Pattern) (xs : List Around) (rs : List Row) (cs : List ℕ) (places : Places) (i : ℕ)
    → places_of patterns xs rs cs ≡ places → length cs ≤ i → at places.contents i ≡ not_allowed
content_none patterns xs rs cs places i is past =
    let P : Places → Type 0 = λ p. at p.contents i ≡ not_allowed in
    subst P is (none_there patterns cs i past)

-- ---- with one content more

below_more : (m : ℕ) (cs : List ℕ) (n : ℕ) → AreBelow m cs → n < m → AreBelow m (cs ++ n ∷ [])
below_more m [] n below here = (here, tt)
below_more m (c ∷ cs) n below here = (below.0, below_more m cs n below.1 here)

pub content_kept : (patterns : List Pattern) (xs : List Around) (rs : List Row) (cs : List ℕ) (n : ℕ) → AreTables patterns xs rs cs
    → n < length patterns → AreTables patterns xs rs (cs ++ n ∷ [])
content_kept patterns xs rs cs n tables here = record {
  arounds_ordered = tables.arounds_ordered;
  rows_ordered = tables.rows_ordered;
  arounds_once = tables.arounds_once;
  rows_once = tables.rows_once;
  contents_below = below_more (length patterns) cs n tables.contents_below here;
}

pub contents_more : (patterns : List Pattern) (cs : List ℕ) (n : ℕ) → contents_in patterns (cs ++ n ∷ []) ≡ contents_in patterns cs ++ at patterns n ∷ []
contents_more patterns [] n = refl
contents_more patterns (c ∷ cs) n = ap (λ ps. at patterns c ∷ ps) (contents_more patterns cs n)

pub ruleset contents_read = (content_is, content_none)
