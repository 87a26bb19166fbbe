-- Forms of nodes and combined definitions, as further shapes are put behind others.
use Rattle.std.proofs.Common.{◌≡◌, refl, sym, ap, ◌∙◌, subst, ℕ, ◌+◌, ◌-◌, ◌<◌, ◌≤◌, inl, inr, ◌⊎◌, List, [], ◌∷◌, ◌++◌, length, map, take, get_or, slice_get, Some, Result, Ok, Err, Contains, arith}
use Rattle.std.specs.Prelude.{slice_index}
use Rattle.std.specs.Option.{option_map}
use Rattle.std.proofs.lemmas.List.{length-append, append_assoc, append-nil, length-map, map-append, take_more, get_or_default, get_or-set_same, get_or-set_other, length-set}
use Rattle.std.proofs.lemmas.Bool.{cases_lt}
use Rattle.std.proofs.lemmas.Option.{same_Some, slice_get_within, slice_get-map, slice_get_past, slice_get-get_or, get_or_from_slice_get}
use Rattle.rnc_parse.specs.declared.surface.Combine.{Combine}
use Rattle.rnc_parse.specs.declared.surface.TypeName.{TypeName}
use Rattle.rnc_parse.specs.declared.surface.Param.{Param}
use Rattle.rnc_parse.specs.Written.{joined}
use Rattle.rng_core.specs.Names.{Class}
use Rattle.rng_simplify.specs.declared.fault.SchemaFault.{SchemaFault}
use Rattle.rng_simplify.specs.declared.fault.SchemaFault.TheVariants as fault
use Rattle.rng_simplify.specs.declared.form.Forms.{Forms}
use Rattle.rng_simplify.specs.declared.node.Node.{Node}
use Rattle.rng_simplify.specs.declared.node.Sign.{Sign}
use Rattle.rng_simplify.specs.declared.resolve.Combined.{Combined}
use Rattle.rng_simplify.specs.declared.resolve.Resolved.{Resolved}
use Rattle.rng_simplify.specs.declared.shape.Shape.{Shape}
use Rattle.rng_simplify.specs.declared.shape.Shape.TheVariants as shape
use Rattle.rng_simplify.specs.Cells.{Cell, cell_of}
use Rattle.rng_simplify.specs.Cells as cell
use Rattle.rng_simplify.specs.CellMeanings.{IsCell}
use Rattle.rng_simplify.specs.Forms.{Form, Value, list_of, attribute_of, one_or_more_of, combined_by}
use Rattle.rng_simplify.specs.Forms as form
use Rattle.rng_simplify.specs.NodeForms.{cell_form, bodies_form, combined_form, form_in, form_of, IsKnown, IsBefore, IsInOrder, AreFormed, IsNumberedBelow, IsCellMade, MakesCell, IsCombinedMade, MakesCombined, AreAllJoined, JoinsAll, Makes, IsPlaced}
use Rattle.rng_simplify.specs.declared.resolve.Target.{Target}
use Rattle.rng_simplify.specs.declared.resolve.Target.TheVariants.{Nothing}
use Rattle.rng_simplify.specs.ResolvedNodes.{combined_number, element_number, target_at, IsLinkedAs, number_at, cell_leads, combined_leads, leads_if, leads, link_at}
use Rattle.rng_simplify.specs.Shown.{value_in, type_in, params_in, class_in, joined_of, form_by, form_at, IsBehindParts, shape_parts, IsOfSchema, IsShown, Shows, Adds}
use Rattle.rng_simplify.proofs.Nodes.{in_none, in_first, in_more}
use Rattle.rng_simplify.proofs.Showing.{shows_still, shows_last, before_or_last}

-- ---- shapes without parts

pub no_parts : (n : ℕ) (s : Shape) → shape_parts s ≡ [] → IsBehindParts n s
no_parts n s none = record { below = λ part within. let P : List ℕ → Type 0 = λ parts. Contains parts part in absurd (in_none (subst P none within)) }

-- ---- a node by its cell

-- what holds of a cell holds of a node's
pub of_node : (old new : List Shape) (of : List ℕ) (count i : ℕ) (link : Target) (n m : Node) (result : Result ℕ SchemaFault) → n ≡ m → MakesCell old new of count i link (cell_of m) result → MakesCell old new of count i link (cell_of n) result
of_node old new of count i link n m result is made =
    let P : Node → Type 0 = λ k. MakesCell old new of count i link (cell_of k) result in
    subst P (sym is) made

-- where a node leads
pub lead_known : (shapes : List Shape) (of : List ℕ) (count link j : ℕ) (n m : Node) → n ≡ m → ((j : ℕ) → Contains (cell_leads count link (cell_of n)) j → IsKnown shapes of j) → Contains (cell_leads count link (cell_of m)) j → IsKnown shapes of j
lead_known shapes of count link j n m is known within =
    let P : Node → Type 0 = λ k. Contains (cell_leads count link (cell_of k)) j in
    known j (subst P (sym is) within)

module _ (old new : List Shape) (of : List ℕ) (count i : ℕ) (link : Target) (c : Cell) where
  -- a shape that is put behind the others
  pub cell_added : (s : Shape) (result : Result ℕ SchemaFault) → ((cells : List Cell) (taken : ℕ → List Value) → IsCell cells i c → form_by cells taken (form_at cells taken old) s ≡ cell_form (form_in cells taken old of) count link (taken i) c) → ((cells : List Cell) (elements : ℕ) → IsCell cells i c → IsNumberedBelow elements link c → IsOfSchema cells elements s) → Adds old new s result → MakesCell old new of count i link c result
  cell_added s (Ok number) is of_schema added =
      let place : number ≡ length old = added.0 in
      let grows : new ≡ old ++ s ∷ [] = added.1 in
      record {
        more = s ∷ [];
        grows = grows;
        within = let longer = length-append old (s ∷ []) in let same = ap length grows in omega arith;
        shows = λ cells taken at.
            ap (λ shapes. form_at cells taken shapes number) grows
            ∙ ap (λ n. form_at cells taken (old ++ s ∷ []) n) place
            ∙ shows_last cells taken old s
            ∙ is cells taken at;
        kept = λ cells elements at below are. record {
          each_is = λ n t h.
              let P : List Shape → Type 0 = λ shapes. slice_get shapes n ≡ Some t in
              elim (before_or_last old s n t (subst P grows h)) [
                | inl there ↦ are.each_is n t there
                | inr e ↦ let Q : Shape → Type 0 = IsOfSchema cells elements in subst Q (sym e.1) (of_schema cells elements at below)
              ];
        };
      }
  cell_added s (Err fault.NoMemory) is of_schema added = tt
  cell_added s (Err fault.Failed) is of_schema added = added
  cell_added s (Err (fault.Absent a)) is of_schema added = added
  cell_added s (Err (fault.NotUtf8 a at)) is of_schema added = added
  cell_added s (Err (fault.BadUri a)) is of_schema added = added
  cell_added s (Err (fault.Unreadable why)) is of_schema added = added

  -- a shape that shows what is made of parts
  pub cell_shown : (own : Shape) (made : List Cell → (ℕ → Form) → Form) (result : Result ℕ SchemaFault) → ((cells : List Cell) (taken : ℕ → List Value) → IsCell cells i c → made cells (form_at cells taken old) ≡ cell_form (form_in cells taken old of) count link (taken i) c) → ((cells : List Cell) (elements : ℕ) → IsCell cells i c → IsOfSchema cells elements own) → Shows old new own made result → MakesCell old new of count i link c result
  cell_shown own made (Ok number) is of_schema shown = record {
    more = shown.more;
    grows = shown.grows;
    within = shown.within;
    shows = λ cells taken at. shown.shows cells taken ∙ is cells taken at;
    kept = λ cells elements at below are. shown.kept cells elements (of_schema cells elements at) are;
  }
  cell_shown own made (Err fault.NoMemory) is of_schema shown = tt
  cell_shown own made (Err fault.Failed) is of_schema shown = shown
  cell_shown own made (Err (fault.Absent a)) is of_schema shown = shown
  cell_shown own made (Err (fault.NotUtf8 a at)) is of_schema shown = shown
  cell_shown own made (Err (fault.BadUri a)) is of_schema shown = shown
  cell_shown own made (Err (fault.Unreadable why)) is of_schema shown = shown

-- the shape of combined definitions is a node's
pub cell_linked : (old : List Shape) (of : List ℕ) (count i : ℕ) (link : Target) (c : Cell) (number : ℕ) → ((at : ℕ → Form) (values : List Value) → cell_form at count link values c ≡ at (count + combined_number link)) → IsKnown old of (count + combined_number link) → number ≡ slice_index of (count + combined_number link) → IsCellMade old old of count i link c number
cell_linked old of count i link c number is known at = record {
  more = [];
  grows = sym (append-nil old);
  within = let there = known.there in omega arith;
  shows = λ cells taken there. ap (λ n. form_at cells taken old n) at ∙ sym (is (form_in cells taken old of) (taken i));
  kept = λ cells elements there below are. are;
}

-- ---- the cells by their kinds

pub element_added : (old new : List Shape) (of : List ℕ) (count i : ℕ) (link : Target) (class : Class) (part number : ℕ) (result : Result ℕ SchemaFault) → number ≡ element_number link → Adds old new (shape.Ref number) result → MakesCell old new of count i link (cell.element class part) result
element_added old new of count i link class part number result is added =
    let P : ℕ → Type 0 = λ n. Adds old new (shape.Ref n) result in
    cell_added old new of count i link (cell.element class part) (shape.Ref (element_number link)) result (λ cells taken at. refl) (λ cells elements at below. below) (subst P is added)

pub value_added : (old new : List Shape) (of : List ℕ) (count i : ℕ) (link : Target) (type : TypeName) (text : List ℕ) (result : Result ℕ SchemaFault) → Adds old new (shape.Value i) result → MakesCell old new of count i link (cell.value type text) result
value_added old new of count i link type text result added =
    cell_added old new of count i link (cell.value type text) (shape.Value i) result
    (λ cells taken at. ap (λ o. form.value (value_in o)) at)
    (λ cells elements at below. (type, text, at))
    added

pub type_added : (old new : List Shape) (of : List ℕ) (count i : ℕ) (link : Target) (type : TypeName) (params : List Param) (part : ℕ) (result : Result ℕ SchemaFault) → Adds old new (shape.Typed i) result → MakesCell old new of count i link (cell.typed type params part) result
type_added old new of count i link type params part result added =
    cell_added old new of count i link (cell.typed type params part) (shape.Typed i) result
    (λ cells taken at. ap (λ o. form.typed (type_in o) (params_in o) (taken i)) at)
    (λ cells elements at below. (type, params, part, at))
    added

pub attribute_made : (old new : List Shape) (of : List ℕ) (count i : ℕ) (link : Target) (class : Class) (part value : ℕ) (result : Result ℕ SchemaFault) → value ≡ slice_index of part → Shows old new (shape.Attribute i value) (λ cells at. attribute_of (class_in (slice_get cells i)) (at value)) result → MakesCell old new of count i link (cell.attribute class part) result
attribute_made old new of count i link class part value result is shown =
    cell_shown old new of count i link (cell.attribute class part) (shape.Attribute i value) _ result
    (λ cells taken at.
    ap (λ o. attribute_of (class_in o) (form_at cells taken old value)) at
    ∙ ap (λ n. attribute_of class (form_at cells taken old n)) is)
    (λ cells elements at. (class, part, at))
    shown

pub list_made : (old new : List Shape) (of : List ℕ) (count i : ℕ) (link : Target) (part words : ℕ) (result : Result ℕ SchemaFault) → words ≡ slice_index of part → Shows old new shape.Empty (λ cells at. list_of (at words)) result → MakesCell old new of count i link (cell.listed part) result
list_made old new of count i link part words result is shown =
    cell_shown old new of count i link (cell.listed part) shape.Empty _ result
    (λ cells taken at. ap (λ n. list_of (form_at cells taken old n)) is)
    (λ cells elements at. tt)
    shown

pub one_or_more_made : (old new : List Shape) (of : List ℕ) (count i : ℕ) (link : Target) (part body : ℕ) (result : Result ℕ SchemaFault) → body ≡ slice_index of part → Shows old new shape.Empty (λ cells at. one_or_more_of (at body)) result → MakesCell old new of count i link (cell.one_or_more part) result
one_or_more_made old new of count i link part body result is shown =
    cell_shown old new of count i link (cell.one_or_more part) shape.Empty _ result
    (λ cells taken at. ap (λ n. one_or_more_of (form_at cells taken old n)) is)
    (λ cells elements at. tt)
    shown

pub joined_made : (old new : List Shape) (of : List ℕ) (count i : ℕ) (link : Target) (by : Sign) (first second one other : ℕ) (result : Result ℕ SchemaFault) → one ≡ slice_index of first → other ≡ slice_index of second → Shows old new shape.Empty (λ cells at. joined_of by (at one) (at other)) result → MakesCell old new of count i link (cell.joined by first second) result
joined_made old new of count i link by first second one other result is also shown =
    cell_shown old new of count i link (cell.joined by first second) shape.Empty _ result
    (λ cells taken at.
    ap (λ n. joined_of by (form_at cells taken old n) (form_at cells taken old other)) is
    ∙ ap (λ n. joined_of by (form_at cells taken old (slice_index of first)) (form_at cells taken old n)) also)
    (λ cells elements at. tt)
    shown

-- ---- forms that are joined one by one

joined_further : (join : Form → Form → Form) (first : Form) (others : List Form) (last : Form) → joined join first (others ++ last ∷ []) ≡ join (joined join first others) last
joined_further join first [] last = refl
joined_further join first (next ∷ others) last = joined_further join (join first next) others last

pub none_joined : (old : List Shape) (of : List ℕ) (by : Sign) (first : ℕ) (others : List ℕ) → first < length old → AreAllJoined old old of by first (take 0 others) first
none_joined old of by first others within = record {
  more = [];
  grows = sym (append-nil old);
  within = within;
  shows = λ cells taken. refl;
  kept = λ cells elements are. are;
}

pub one_more_joined : (old mid new : List Shape) (of : List ℕ) (by : Sign) (first : ℕ) (done : List ℕ) (other next number further : ℕ) → AreAllJoined old mid of by first done number → IsKnown old of other → next ≡ slice_index of other → IsShown mid new shape.Empty (λ cells at. joined_of by (at number) (at next)) further → AreAllJoined old new of by first (done ++ other ∷ []) further
one_more_joined old mid new of by first done other next number further so_far known is shown = record {
  more = so_far.more ++ shown.more;
  grows = shown.grows ∙ ap (λ shapes. shapes ++ shown.more) so_far.grows ∙ append_assoc old so_far.more shown.more;
  within = shown.within;
  shows = λ cells taken.
      let at : ℕ → Form = form_in cells taken old of in
      let there = known.there in
      shown.shows cells taken
      ∙ ap (λ p. joined_of by p (form_at cells taken mid next)) (so_far.shows cells taken)
      ∙ ap (λ p. joined_of by (joined (joined_of by) (form_at cells taken old first) (map at done)) p)
      (ap (λ shapes. form_at cells taken shapes next) so_far.grows ∙ shows_still cells taken old so_far.more next (omega arith) ∙ ap (λ n. form_at cells taken old n) is)
      ∙ sym (joined_further (joined_of by) (form_at cells taken old first) (map at done) (at other))
      ∙ ap (λ forms. joined (joined_of by) (form_at cells taken old first) forms) (sym (map-append at done (other ∷ [])));
  kept = λ cells elements are. shown.kept cells elements tt (so_far.kept cells elements are);
}

pub all_joined : (old new : List Shape) (of : List ℕ) (combine : Combine) (by : Sign) (bodies others : List ℕ) (first start : ℕ) (result : Result ℕ SchemaFault) → bodies ≡ first ∷ others → start ≡ slice_index of first → joined_of by ≡ combined_by combine → JoinsAll old new of by start others result → MakesCombined old new of combine bodies result
all_joined old new of combine by bodies others first start (Ok number) parts is same made =
    let P : List ℕ → Type 0 = λ all. IsCombinedMade old new of combine all number in
    subst P (sym parts) (record {
      more = made.more;
      grows = made.grows;
      within = made.within;
      shows = λ cells taken.
          made.shows cells taken
          ∙ ap (λ join. joined join (form_at cells taken old start) (map (form_in cells taken old of) others)) same
          ∙ ap (λ n. joined (combined_by combine) (form_at cells taken old n) (map (form_in cells taken old of) others)) is;
      kept = made.kept;
    })
all_joined old new of combine by bodies others first start (Err fault.NoMemory) parts is same made = tt
all_joined old new of combine by bodies others first start (Err fault.Failed) parts is same made = made
all_joined old new of combine by bodies others first start (Err (fault.Absent a)) parts is same made = made
all_joined old new of combine by bodies others first start (Err (fault.NotUtf8 a at)) parts is same made = made
all_joined old new of combine by bodies others first start (Err (fault.BadUri a)) parts is same made = made
all_joined old new of combine by bodies others first start (Err (fault.Unreadable why)) parts is same made = made

none_in : {A : Type 0} → (xs : List A) → length xs ≡ 0 → xs ≡ []
none_in [] h = refl
none_in (x ∷ xs) h = absurd (omega arith)

-- where there is nothing to be joined
pub none_to_join : (old new : List Shape) (of : List ℕ) (combine : Combine) (bodies : List ℕ) (result : Result ℕ SchemaFault) → length bodies ≡ 0 → Adds old new shape.NotAllowed result → MakesCombined old new of combine bodies result
none_to_join old new of combine bodies (Ok number) none added =
    let P : List ℕ → Type 0 = λ all. IsCombinedMade old new of combine all number in
    let made = cell_added old new of 0 0 Nothing cell.not_allowed shape.NotAllowed (Ok number) (λ cells taken at. refl) (λ cells elements at below. tt) added in
    subst P (sym (none_in bodies none)) (record {
      more = made.more;
      grows = made.grows;
      within = made.within;
      shows = λ cells taken.
          ap (λ shapes. form_at cells taken shapes number) added.1
          ∙ ap (λ n. form_at cells taken (old ++ shape.NotAllowed ∷ []) n) added.0
          ∙ shows_last cells taken old shape.NotAllowed;
      kept = λ cells elements are. record {
        each_is = λ n t h.
            let Q : List Shape → Type 0 = λ shapes. slice_get shapes n ≡ Some t in
            elim (before_or_last old shape.NotAllowed n t (subst Q added.1 h)) [
              | inl there ↦ are.each_is n t there
              | inr e ↦ let R : Shape → Type 0 = IsOfSchema cells elements in subst R (sym e.1) tt
            ];
      };
    })
none_to_join old new of combine bodies (Err fault.NoMemory) none added = tt
none_to_join old new of combine bodies (Err fault.Failed) none added = added
none_to_join old new of combine bodies (Err (fault.Absent a)) none added = added
none_to_join old new of combine bodies (Err (fault.NotUtf8 a at)) none added = added
none_to_join old new of combine bodies (Err (fault.BadUri a)) none added = added
none_to_join old new of combine bodies (Err (fault.Unreadable why)) none added = added

-- the first body and the others are known
pub first_known : (shapes : List Shape) (of bodies others : List ℕ) (first : ℕ) → bodies ≡ first ∷ others → ((j : ℕ) → Contains bodies j → IsKnown shapes of j) → IsKnown shapes of first
first_known shapes of bodies others first parts known =
    let P : List ℕ → Type 0 = λ all. Contains all first in
    known first (subst P (sym parts) (in_first first others))

pub others_known : (shapes : List Shape) (of bodies others : List ℕ) (first : ℕ) → bodies ≡ first ∷ others → ((j : ℕ) → Contains bodies j → IsKnown shapes of j) → (j : ℕ) → Contains others j → IsKnown shapes of j
others_known shapes of bodies others first parts known j within =
    let P : List ℕ → Type 0 = λ all. Contains all j in
    known j (subst P (sym parts) (in_more first others j within))

-- the item of a loop is known
pub item_known : (shapes : List Shape) (of others : List ℕ) (index : ℕ) → index < length others → ((j : ℕ) → Contains others j → IsKnown shapes of j) → IsKnown shapes of (slice_index others index)
item_known shapes of others index within known = known (get_or others index 0) (index, within, get_or_default others index (get_or others index 0) 0 within)

-- one more of a loop
pub next_joined : (old mid new : List Shape) (of now_of : List ℕ) (by : Sign) (first : ℕ) (others : List ℕ) (index next number further : ℕ) → now_of ≡ of → index < length others → ((j : ℕ) → Contains others j → IsKnown old of j) → AreAllJoined old mid now_of by first (take index others) number → next ≡ slice_index now_of (slice_index others index) → IsShown mid new shape.Empty (λ cells at. joined_of by (at number) (at next)) further → AreAllJoined old new now_of by first (take (index + 1) others) further
next_joined old mid new of now_of by first others index next number further stays within known so_far is shown =
    let P : List ℕ → Type 0 = λ done. AreAllJoined old new now_of by first done further in
    let Q : List ℕ → Type 0 = λ o. IsKnown old o (slice_index others index) in
    subst P (sym (take_more others index 0 within))
    (one_more_joined old mid new now_of by first (take index others) (slice_index others index) next number further so_far (subst Q (sym stays) (item_known old of others index within known)) is shown)

-- ---- nodes and combined definitions by their numbers

pub cell_there : (nodes : List Node) (i : ℕ) (n : Node) → i < length nodes → n ≡ get_or nodes i n → slice_get (map cell_of nodes) i ≡ Some (cell_of n)
cell_there nodes i n within is = slice_get-map cell_of nodes i ∙ ap (option_map cell_of) (slice_get-get_or nodes i n within ∙ ap (λ m. Some m) (sym is))

link_there : (found : Resolved) (i : ℕ) (link : Target) → i < length found.links.items → link ≡ get_or found.links.items i link → link ≡ target_at found i
link_there found i link within is = is ∙ get_or_default found.links.items i link Nothing within

-- and is linked as its cell asks
pub linked_so : (nodes : List Node) (found : Resolved) (i : ℕ) (link : Target) (n : Node) → i < length nodes → length found.links.items ≡ length nodes → n ≡ get_or nodes i n → link ≡ get_or found.links.items i link → ((c : Cell) → IsCell (map cell_of nodes) i c → IsLinkedAs c (target_at found i)) → IsLinkedAs (cell_of n) link
linked_so nodes found i link n within links is linked all =
    let P : Target → Type 0 = λ target. IsLinkedAs (cell_of n) target in
    subst P (sym (link_there found i link (omega arith) linked)) (all (cell_of n) (cell_there nodes i n within is))

pub leads_of_node : (nodes : List Node) (found : Resolved) (i : ℕ) (link : Target) (n : Node) → i < length nodes → length found.links.items ≡ length nodes → n ≡ get_or nodes i n → link ≡ get_or found.links.items i link → leads (map cell_of nodes) found i ≡ cell_leads (length nodes) (combined_number link) (cell_of n)
leads_of_node nodes found i link n within links is linked =
    ap (leads_if (map cell_of nodes) found i) (cell_there nodes i n within is)
    ∙ ap (λ count. cell_leads count (link_at found i) (cell_of n)) (length-map nodes cell_of)
    ∙ ap (λ (k : Target). cell_leads (length nodes) (combined_number k) (cell_of n)) (sym (link_there found i link (omega arith) linked))

pub leads_of_combination : (nodes : List Node) (found : Resolved) (i : ℕ) (combination : Combined) → length nodes ≤ i → i < length nodes + length found.combined.items → combination ≡ get_or found.combined.items (i - length nodes) combination → leads (map cell_of nodes) found i ≡ combination.bodies.items
leads_of_combination nodes found i combination behind within is =
    let all = length-map nodes cell_of in
    ap (leads_if (map cell_of nodes) found i) (slice_get_past (map cell_of nodes) i (omega arith))
    ∙ ap (λ count. combined_leads (slice_get found.combined.items (i - count))) all
    ∙ ap combined_leads (slice_get-get_or found.combined.items (i - length nodes) combination (omega arith) ∙ ap (λ j. Some j) (sym is))

-- what holds of all that something leads to
pub leads_known : (shapes : List Shape) (of some others : List ℕ) → some ≡ others → ((j : ℕ) → Contains some j → IsKnown shapes of j) → (j : ℕ) → Contains others j → IsKnown shapes of j
leads_known shapes of some others same known j within = let P : List ℕ → Type 0 = λ all. Contains all j in known j (subst P (sym same) within)

module _ (nodes : List Node) (found : Resolved) (i : ℕ) (old new : List Shape) (of : List ℕ) where
  pub node_made : (link : Target) (n : Node) (result : Result ℕ SchemaFault) → i < length nodes → length found.links.items ≡ length nodes → n ≡ get_or nodes i n → link ≡ get_or found.links.items i link → MakesCell old new of (length nodes) i link (cell_of n) result → Makes (map cell_of nodes) found i old new of result
  node_made link n (Ok number) within links is linked made =
      let cells : List Cell = map cell_of nodes in
      let all : length cells ≡ length nodes = length-map nodes cell_of in
      let there : slice_get cells i ≡ Some (cell_of n) = cell_there nodes i n within is in
      let same : link ≡ target_at found i = link_there found i link (omega arith) linked in
      record {
        more = made.more;
        grows = made.grows;
        within = made.within;
        node_is = λ c taken at.
            let P : ℕ → Type 0 = λ count. form_at cells taken new number ≡ cell_form (form_in cells taken old of) count (target_at found i) (taken i) c in
            let Q : Target → Type 0 = λ k. form_at cells taken new number ≡ cell_form (form_in cells taken old of) (length nodes) k (taken i) c in
            let R : Cell → Type 0 = λ d. form_at cells taken new number ≡ cell_form (form_in cells taken old of) (length nodes) link (taken i) d in
            subst P (sym all) (subst Q same (subst R (same_Some _ _ (sym there ∙ at)) (made.shows cells taken there)));
        combination_is = λ k combination taken place combined. absurd (omega arith);
        kept = λ others elements alike below are.
            let P : Target → Type 0 = λ k. IsNumberedBelow elements k (cell_of n) in
            made.kept others elements (alike (cell_of n) there) (subst P (sym same) (below (cell_of n) there)) are;
      }
  node_made link n (Err fault.NoMemory) within links is linked made = tt
  node_made link n (Err fault.Failed) within links is linked made = made
  node_made link n (Err (fault.Absent a)) within links is linked made = made
  node_made link n (Err (fault.NotUtf8 a at)) within links is linked made = made
  node_made link n (Err (fault.BadUri a)) within links is linked made = made
  node_made link n (Err (fault.Unreadable why)) within links is linked made = made

  pub combination_made : (combination : Combined) (result : Result ℕ SchemaFault) → length nodes ≤ i → i < length nodes + length found.combined.items → combination ≡ get_or found.combined.items (i - length nodes) combination → MakesCombined old new of combination.combine combination.bodies.items result → Makes (map cell_of nodes) found i old new of result
  combination_made combination (Ok number) behind within is made =
      let cells : List Cell = map cell_of nodes in
      let all : length cells ≡ length nodes = length-map nodes cell_of in
      record {
        more = made.more;
        grows = made.grows;
        within = made.within;
        node_is = λ c taken at. let inside = slice_get_within cells i c at in absurd (omega arith);
        combination_is = λ k other taken place there.
            let P : Combined → Type 0 = λ j. form_at cells taken new number ≡ combined_form (form_in cells taken old of) j in
            let number_is : i - length nodes ≡ k = omega arith in
            let Q : ℕ → Type 0 = λ m. combination ≡ get_or found.combined.items m combination in
            subst P (subst Q number_is is ∙ get_or_from_slice_get found.combined.items k other combination there) (made.shows cells taken);
        kept = λ others elements alike below are. made.kept others elements are;
      }
  combination_made combination (Err fault.NoMemory) behind within is made = tt
  combination_made combination (Err fault.Failed) behind within is made = made
  combination_made combination (Err (fault.Absent a)) behind within is made = made
  combination_made combination (Err (fault.NotUtf8 a at)) behind within is made = made
  combination_made combination (Err (fault.BadUri a)) behind within is made = made
  combination_made combination (Err (fault.Unreadable why)) behind within is made = made

-- ---- forms in order

-- a form depends on those of what it leads to alone
pub same_cell_form : (at other : ℕ → Form) (count : ℕ) (link : Target) (values : List Value) (c : Cell) → ((j : ℕ) → Contains (cell_leads count (combined_number link) c) j → at j ≡ other j) → cell_form at count link values c ≡ cell_form other count link values c
same_cell_form at other count link values (cell.element class part) same = refl
same_cell_form at other count link values (cell.attribute class part) same = ap (attribute_of class) (same part (in_first part []))
same_cell_form at other count link values (cell.listed part) same = ap list_of (same part (in_first part []))
same_cell_form at other count link values (cell.ref name) same = same (count + combined_number link) (in_first (count + combined_number link) [])
same_cell_form at other count link values (cell.parent_ref name) same = same (count + combined_number link) (in_first (count + combined_number link) [])
same_cell_form at other count link values cell.empty same = refl
same_cell_form at other count link values cell.any_text same = refl
same_cell_form at other count link values cell.not_allowed same = refl
same_cell_form at other count link values (cell.value type text) same = refl
same_cell_form at other count link values (cell.typed type params part) same = refl
same_cell_form at other count link values (cell.grammar clauses) same = same (count + combined_number link) (in_first (count + combined_number link) [])
same_cell_form at other count link values (cell.one_or_more part) same = ap one_or_more_of (same part (in_first part []))
same_cell_form at other count link values (cell.joined by first second) same =
    ap (λ p. joined_of by p (at second)) (same first (in_first first (second ∷ [])))
    ∙ ap (λ p. joined_of by (other first) p) (same second (in_more first (second ∷ []) second (in_first second [])))

pub same_map : (at other : ℕ → Form) (numbers : List ℕ) → ((j : ℕ) → Contains numbers j → at j ≡ other j) → map at numbers ≡ map other numbers
same_map at other [] same = refl
same_map at other (first ∷ more) same =
    ap (λ p. p ∷ map at more) (same first (in_first first more))
    ∙ ap (λ ps. other first ∷ ps) (same_map at other more (λ j within. same j (in_more first more j within)))

pub same_combination_form : (at other : ℕ → Form) (combination : Combined) → ((j : ℕ) → Contains combination.bodies.items j → at j ≡ other j) → combined_form at combination ≡ combined_form other combination
same_combination_form at other combination same = ap (bodies_form combination.combine) (same_map at other combination.bodies.items same)

-- nothing stands in front of the first place
pub none_before : (order : List ℕ) (i : ℕ) → IsBefore order 0 i → ⊥
none_before order i h = let before = h.before in omega arith

-- what stands in front of the next place is in front of this one, or here
pub before_next : (order : List ℕ) (end i here : ℕ) → slice_get order end ≡ Some here → IsBefore order (end + 1) i → IsBefore order end i ⊎ (i ≡ here)
before_next order end i here is h =
    let before = h.before in
    elim (cases_lt h.place end) [
      | inl less ↦ inl (record { place = h.place; before = less; there = h.there })
      | inr more ↦
          let place : h.place ≡ end = omega arith in
          let P : ℕ → Type 0 = λ k. slice_get order k ≡ Some i in
          inr (same_Some i here (sym (subst P place h.there) ∙ is))
    ]

-- and in front of a later place
pub before_later : (order : List ℕ) (end later i : ℕ) → end ≤ later → IsBefore order end i → IsBefore order later i
before_later order end later i less h = record { place = h.place; before = let before = h.before in omega arith; there = h.there }

pub cell_leads_are : (cells : List Cell) (found : Resolved) (i : ℕ) (c : Cell) → IsCell cells i c → leads cells found i ≡ cell_leads (length cells) (link_at found i) c
cell_leads_are cells found i c at = ap (leads_if cells found i) at

pub combination_leads_are : (cells : List Cell) (found : Resolved) (number : ℕ) (combination : Combined) → slice_get found.combined.items number ≡ Some combination → leads cells found (length cells + number) ≡ combination.bodies.items
combination_leads_are cells found number combination there =
    let back : (length cells + number) - length cells ≡ number = omega arith in
    ap (leads_if cells found (length cells + number)) (slice_get_past cells (length cells + number) (omega arith))
    ∙ ap (λ k. combined_leads (slice_get found.combined.items k)) back
    ∙ ap combined_leads there

module _ (cells : List Cell) (found : Resolved) (order : List ℕ) (ordered : IsInOrder cells found order) where
  -- the parts of a node and of combined definitions stand in front of it
  pub leads_before : (end i : ℕ) (all : List ℕ) → leads cells found i ≡ all → IsBefore order end i → (j : ℕ) → Contains all j → IsBefore order end j
  leads_before end i all are h j within =
      let P : List ℕ → Type 0 = λ some. Contains some j in
      let before = h.before in
      before_later order h.place end j (omega arith) (ordered.behind h.place i j h.there (subst P (sym are) within))

  pub none_formed : (forms : Forms) → length forms.of.items ≡ length cells + length found.combined.items → forms.shapes ≡ [] → AreFormed cells found order 0 forms
  none_formed forms all none = record {
    all = all;
    known = λ i h. absurd (none_before order i h);
    node_is = λ i c taken h at. absurd (none_before order i h);
    combination_is = λ number combination taken h there. absurd (none_before order _ h);
    of_schema = λ others alike. record {
      each_is = λ n s h.
          let P : List Shape → Type 0 = λ shapes. slice_get shapes n ≡ Some s in
          let never : ⊥ = let nothing : slice_get [] n ≡ Some s = subst P none h in cc in
          absurd never;
    };
  }

  module _ (end here : ℕ) (place : slice_get order end ≡ Some here) (old new : Forms) (formed : AreFormed cells found order end old) (placed : IsPlaced cells found here old new) where
    here_within : here < length old.of.items
    here_within = let all = formed.all in let within = ordered.within end here place in omega arith

    -- what was in front keeps its shape
    of_before : (i : ℕ) → IsBefore order end i → slice_index new.of.items i ≡ slice_index old.of.items i
    of_before i h =
        let before = h.before in
        let P : List ℕ → Type 0 = λ of. slice_index of i ≡ slice_index old.of.items i in
        subst P (sym placed.set) (get_or-set_other old.of.items here i placed.number 0 (λ same.
        let Q : ℕ → Type 0 = λ k. slice_get order end ≡ Some k in
        let one : h.place ≡ end = ordered.once h.place end i h.there (subst Q (sym same) place) in
        omega arith))

    of_here : slice_index new.of.items here ≡ placed.number
    of_here =
        let P : List ℕ → Type 0 = λ of. slice_index of here ≡ placed.number in
        subst P (sym placed.set) (get_or-set_same old.of.items here placed.number 0 here_within)

    form_before : (taken : ℕ → List Value) (i : ℕ) → IsBefore order end i → form_of cells taken new i ≡ form_of cells taken old i
    form_before taken i h =
        let known = formed.known i h in
        let there = known.there in
        ap (λ n. form_at cells taken new.shapes n) (of_before i h)
        ∙ ap (λ shapes. form_at cells taken shapes (slice_index old.of.items i)) placed.made.grows
        ∙ shows_still cells taken old.shapes placed.made.more (slice_index old.of.items i) (omega arith)

    -- one more node has its form, or combined definitions have theirs
    pub one_more_formed : AreFormed cells found order (end + 1) new
    one_more_formed = record {
      all = let all = formed.all in let same = ap length placed.set in let kept = length-set old.of.items here placed.number in omega arith;
      known = λ i h. elim (before_next order end i here place h) [
        | inl before ↦
            let known = formed.known i before in
            let within = known.within in
            let there = known.there in
            let same = ap length placed.set in
            let kept = length-set old.of.items here placed.number in
            let stays = of_before i before in
            let longer = ap length placed.made.grows in
            let sum = length-append old.shapes placed.made.more in
            record { within = omega arith; there = omega arith }
        | inr is ↦
            let inside = here_within in
            let same = ap length placed.set in
            let kept = length-set old.of.items here placed.number in
            let now = of_here in
            let there = placed.made.within in
            let P : ℕ → Type 0 = IsKnown new.shapes new.of.items in
            subst P (sym is) (record { within = omega arith; there = omega arith })
      ];
      node_is = λ i c taken h at. elim (before_next order end i here place h) [
        | inl before ↦
            form_before taken i before
            ∙ formed.node_is i c taken before at
            ∙ same_cell_form (form_of cells taken old) (form_of cells taken new) (length cells) (target_at found i) (taken i) c (λ j within.
            sym (form_before taken j (leads_before end i (cell_leads (length cells) (link_at found i) c) (cell_leads_are cells found i c at) before j within)))
        | inr is ↦
            let P : ℕ → Type 0 = λ k. IsCell cells k c in
            let Q : ℕ → Type 0 = λ k. form_of cells taken new k ≡ cell_form (form_of cells taken new) (length cells) (target_at found k) (taken k) c in
            let also : IsCell cells here c = subst P is at in
            let R : List ℕ → ℕ → Type 0 = λ all j. Contains all j in
            subst Q (sym is) (
            ap (λ n. form_at cells taken new.shapes n) of_here
            ∙ placed.made.node_is c taken also
            ∙ same_cell_form (form_of cells taken old) (form_of cells taken new) (length cells) (target_at found here) (taken here) c (λ j within.
            sym (form_before taken j (ordered.behind end here j place (let S : List ℕ → Type 0 = λ all. Contains all j in subst S (sym (cell_leads_are cells found here c also)) within)))))
      ];
      combination_is = λ number combination taken h there. elim (before_next order end (length cells + number) here place h) [
        | inl before ↦
            form_before taken (length cells + number) before
            ∙ formed.combination_is number combination taken before there
            ∙ same_combination_form (form_of cells taken old) (form_of cells taken new) combination (λ j within.
            sym (form_before taken j (leads_before end (length cells + number) combination.bodies.items (combination_leads_are cells found number combination there) before j within)))
        | inr is ↦
            let P : ℕ → Type 0 = λ k. slice_get order end ≡ Some k in
            ap (λ k. form_of cells taken new k) is
            ∙ ap (λ n. form_at cells taken new.shapes n) of_here
            ∙ placed.made.combination_is number combination taken (sym is) there
            ∙ same_combination_form (form_of cells taken old) (form_of cells taken new) combination (λ j within.
            sym (form_before taken j (ordered.behind end (length cells + number) j (subst P (sym is) place) (let S : List ℕ → Type 0 = λ all. Contains all j in subst S (sym (combination_leads_are cells found number combination there)) within))))
      ];
      of_schema = λ others alike.
          placed.made.kept others (length found.elements.items)
          (λ c at. alike.alike here c (record { place = end; before = omega arith; there = place }) at)
          (λ c at. numbered_below c at)
          (formed.of_schema others (record { alike = λ i c h at. alike.alike i c (before_later order end (end + 1) i (omega arith) h) at }));
    } where
      numbered_below : (c : Cell) → IsCell cells here c → IsNumberedBelow (length found.elements.items) (target_at found here) c
      numbered_below (cell.element class part) at = ordered.numbered end here class part place at
      numbered_below (cell.attribute class part) at = tt
      numbered_below (cell.listed part) at = tt
      numbered_below (cell.ref name) at = tt
      numbered_below (cell.parent_ref name) at = tt
      numbered_below cell.empty at = tt
      numbered_below cell.any_text at = tt
      numbered_below cell.not_allowed at = tt
      numbered_below (cell.value type text) at = tt
      numbered_below (cell.typed type params part) at = tt
      numbered_below (cell.grammar clauses) at = tt
      numbered_below (cell.one_or_more part) at = tt
      numbered_below (cell.joined by first second) at = tt
