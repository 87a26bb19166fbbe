-- What shapes show, as further shapes are put behind them.
use Rattle.std.proofs.Common.{◌≡◌, refl, sym, ap, ◌∙◌, subst, ℕ, zero, suc, ◌+◌, ◌-◌, ◌^◌, ◌<◌, inl, inr, ◌⊎◌, List, [], ◌∷◌, ◌++◌, length, get_or, slice_get, Option, Some, None, Result, Ok, Err, Contains, arith}
use Rattle.std.specs.Prelude.{min, max}
use Rattle.std.specs.List.{fold}
use Rattle.std.specs.Option.{option_map, option_and_then}
use Rattle.std.proofs.lemmas.List.{length-append, get_or_append_left, append_assoc, append-nil, length-map}
use Rattle.std.proofs.lemmas.List.Sums.{fold-append}
use Rattle.std.proofs.lemmas.Option.{same_Some, slice_get_within, slice_get-map}
use Rattle.rng_core.specs.Names.{Class}
use Rattle.rng_simplify.specs.declared.fault.SchemaFault.{SchemaFault}
use Rattle.rng_simplify.specs.declared.fault.SchemaFault.TheVariants as fault
use Rattle.rng_simplify.specs.declared.node.Sign.{Sign}
use Rattle.rng_simplify.specs.declared.node.Sign.TheVariants as sign
use Rattle.rng_simplify.specs.declared.shape.Entry.{Entry}
use Rattle.rng_simplify.specs.declared.shape.Head.{Head}
use Rattle.rng_simplify.specs.declared.shape.Head.TheVariants as head
use Rattle.rng_simplify.specs.declared.shape.Shape.{Shape}
use Rattle.rng_simplify.specs.declared.shape.Shape.TheVariants as shape
use Rattle.rng_simplify.specs.declared.shape.Size.{Size}
use Rattle.rng_simplify.specs.Cells.{Cell}
use Rattle.rng_simplify.specs.Forms.{Form, Value, list_of, attribute_of, one_or_more_of, choice_of, group_of, interleave_of, values_of, nodes, depth}
use Rattle.rng_simplify.specs.Forms as form
use Rattle.rng_simplify.specs.Shown.{class_in, joined_form, joined_of, form_by, among, shown, form_at, shape_parts, IsBehindParts, head_of, head_by, IsHeadAt, stopped, HasSize, IsSizeAt, IsSizeOf, shapes_of, AreSized, size_alone, size_around, values_beside, size_beside, IsOfSchema, IsShown, Shows, Adds}

-- ---- places in lists

-- an element stands between what is before it and what is behind it
pub record Seam {A : Type 0} (xs : List A) (i : ℕ) (x : A) : Type 0 where
  pub front : List A
  pub back : List A
  pub is : xs ≡ front ++ x ∷ back
  pub place : length front ≡ i

pub seam : {A : Type 0} → (xs : List A) (i : ℕ) (x : A) → slice_get xs i ≡ Some x → Seam xs i x
seam [] i x h = let never : ⊥ = cc in absurd never
seam (y ∷ ys) zero x h = record { front = []; back = ys; is = ap (λ z. z ∷ ys) (same_Some y x h); place = refl }
seam (y ∷ ys) (suc i) x h =
    let rest = seam ys i x h in
    record { front = y ∷ rest.front; back = rest.back; is = ap (λ zs. y ∷ zs) rest.is; place = ap (λ n. suc n) rest.place }

-- an element of a list with one more at its end is one before it, or the last
pub before_or_last : {A : Type 0} → (xs : List A) (y : A) (i : ℕ) (x : A) → slice_get (xs ++ y ∷ []) i ≡ Some x → (slice_get xs i ≡ Some x) ⊎ ((i ≡ length xs) × (x ≡ y))
before_or_last [] y zero x h = inr (refl, sym (same_Some y x h))
before_or_last [] y (suc i) x h = let never : ⊥ = cc in absurd never
before_or_last (z ∷ xs) y zero x h = inl h
before_or_last (z ∷ xs) y (suc i) x h =
    elim (before_or_last xs y i x h) [ inl e ↦ inl e | inr e ↦ inr (ap (λ n. suc n) e.0, e.1) ]

-- an element stays where others are put behind
pub stays_before : {A : Type 0} → (xs ys : List A) (i : ℕ) (x : A) → slice_get xs i ≡ Some x → slice_get (xs ++ ys) i ≡ Some x
stays_before [] ys i x h = let never : ⊥ = cc in absurd never
stays_before (z ∷ xs) ys zero x h = h
stays_before (z ∷ xs) ys (suc i) x h = stays_before xs ys i x h

pub at_seam : {A : Type 0} → (xs : List A) (y : A) (ys : List A) (d : A) → get_or (xs ++ y ∷ ys) (length xs) d ≡ y
at_seam [] y ys d = refl
at_seam (x ∷ xs) y ys d = at_seam xs y ys d

-- ---- the form of a shape is that of its parts

-- each part of a shape has a smaller number
pub part_below : (n part : ℕ) (s t : Shape) → s ≡ t → Contains (shape_parts t) part → IsBehindParts n s → part < n
part_below n part s t is within behind = let P : Shape → Type 0 = IsBehindParts n in (subst P is behind).below part within

-- the form depends on those of the parts alone
pub by_parts : (cells : List Cell) (taken : ℕ → List Value) (at other : ℕ → Form) (s : Shape) → ((part : ℕ) → Contains (shape_parts s) part → at part ≡ other part) → form_by cells taken at s ≡ form_by cells taken other s
by_parts cells taken at other shape.NotAllowed same = refl
by_parts cells taken at other shape.Empty same = refl
by_parts cells taken at other shape.Text same = refl
by_parts cells taken at other (shape.Value i) same = refl
by_parts cells taken at other (shape.Typed i) same = refl
by_parts cells taken at other (shape.Ref number) same = refl
by_parts cells taken at other (shape.List part) same = ap (λ q. form.listed q) (same part (0, omega arith, refl))
by_parts cells taken at other (shape.Attribute i part) same = ap (λ q. form.attribute (class_in (slice_get cells i)) q) (same part (0, omega arith, refl))
by_parts cells taken at other (shape.OneOrMore part) same = ap (λ q. form.one_or_more q) (same part (0, omega arith, refl))
by_parts cells taken at other (shape.Joined by first second) same =
    ap (λ q. joined_form by q (at second)) (same first (0, omega arith, refl)) ∙ ap (λ q. joined_form by (other first) q) (same second (1, omega arith, refl))

module _ (cells : List Cell) (taken : ℕ → List Value) where
  -- one more form
  abbrev further : List Form → Shape → List Form
  further forms s = forms ++ form_by cells taken (among forms) s ∷ []

  length_from : (shapes : List Shape) (forms : List Form) → length (fold further forms shapes) ≡ length forms + length shapes
  length_from [] forms = omega arith
  length_from (s ∷ shapes) forms =
      let rest = length_from shapes (further forms s) in
      let more = length-append forms (form_by cells taken (among forms) s ∷ []) in
      omega arith

  stays_from : (shapes : List Shape) (forms : List Form) (n : ℕ) → n < length forms → among (fold further forms shapes) n ≡ among forms n
  stays_from [] forms n h = refl
  stays_from (s ∷ shapes) forms n h =
      let more = length-append forms (form_by cells taken (among forms) s ∷ []) in
      stays_from shapes (further forms s) n (omega arith) ∙ get_or_append_left forms (form_by cells taken (among forms) s ∷ []) form.not_allowed n h

  -- as many forms as shapes
  pub all_shown : (shapes : List Shape) → length (shown cells taken shapes) ≡ length shapes
  unfolding shown
  all_shown shapes = let all = length_from shapes [] in omega arith

  -- further shapes leave the forms of the others
  pub shows_still : (old more : List Shape) (n : ℕ) → n < length old → form_at cells taken (old ++ more) n ≡ form_at cells taken old n
  unfolding form_at shown
  shows_still old more n h =
      let all = length_from old [] in
      ap (λ forms. among forms n) (fold-append further [] old more) ∙ stays_from more (fold further [] old) n (omega arith)

  -- the last one has the form that those before it give
  pub shows_last : (old : List Shape) (s : Shape) → form_at cells taken (old ++ s ∷ []) (length old) ≡ form_by cells taken (form_at cells taken old) s
  unfolding form_at shown
  shows_last old s =
      let all = length_from old [] in
      let place : length old ≡ length (fold further [] old) = omega arith in
      ap (λ forms. among forms (length old)) (fold-append further [] old (s ∷ []))
      ∙ ap (λ n. among (fold further [] old ++ form_by cells taken (among (fold further [] old)) s ∷ []) n) place
      ∙ at_seam (fold further [] old) (form_by cells taken (among (fold further [] old)) s) [] form.not_allowed

  -- each shape shows the form of its parts' forms
  pub shows_by_parts : (shapes : List Shape) (n : ℕ) (s : Shape) → slice_get shapes n ≡ Some s → IsBehindParts n s → form_at cells taken shapes n ≡ form_by cells taken (form_at cells taken shapes) s
  shows_by_parts shapes n s there behind =
      let cut = seam shapes n s there in
      let parted : shapes ≡ (cut.front ++ s ∷ []) ++ cut.back = cut.is ∙ sym (append_assoc cut.front (s ∷ []) cut.back) in
      let longer = length-append cut.front (s ∷ []) in
      let place = cut.place in
      ap (λ all. form_at cells taken all n) parted
      ∙ shows_still (cut.front ++ s ∷ []) cut.back n (omega arith)
      ∙ ap (λ k. form_at cells taken (cut.front ++ s ∷ []) k) (sym place)
      ∙ shows_last cut.front s
      ∙ by_parts cells taken (form_at cells taken cut.front) (form_at cells taken shapes) s (λ part h.
      let below = behind.below part h in
      sym (ap (λ all. form_at cells taken all part) cut.is ∙ shows_still cut.front (s ∷ cut.back) part (omega arith)))

-- ---- what a form counts for

head_of_joined : (by : Sign) (p q : Form) → head_of (joined_form by p q) ≡ head.Other
head_of_joined sign.Choice p q = refl
head_of_joined sign.Group p q = refl
head_of_joined sign.Interleave p q = refl

head_of_shape : (cells : List Cell) (taken : ℕ → List Value) (at : ℕ → Form) (s : Shape) → head_of (form_by cells taken at s) ≡ head_by s
head_of_shape cells taken at shape.NotAllowed = refl
head_of_shape cells taken at shape.Empty = refl
head_of_shape cells taken at shape.Text = refl
head_of_shape cells taken at (shape.Value i) = refl
head_of_shape cells taken at (shape.Typed i) = refl
head_of_shape cells taken at (shape.Ref number) = refl
head_of_shape cells taken at (shape.List part) = refl
head_of_shape cells taken at (shape.Attribute i part) = refl
head_of_shape cells taken at (shape.OneOrMore part) = refl
head_of_shape cells taken at (shape.Joined by first second) = head_of_joined by (at first) (at second)

-- the form of a shape counts for what the shape does
pub has_head : (shapes : List Shape) (n : ℕ) (s : Shape) (h : Head) → slice_get shapes n ≡ Some s → IsBehindParts n s → h ≡ head_by s → IsHeadAt shapes n h
has_head shapes n s h there behind is = record {
  counts = λ cells taken.
      ap head_of (shows_by_parts cells taken shapes n s there behind)
      ∙ head_of_shape cells taken (form_at cells taken shapes) s
      ∙ sym is;
}

-- ---- forms by what their parts count for

abbrev list_by : Head → Form → Form
list_by head.NotAllowed p = p
list_by head.Empty p = form.listed p
list_by head.Other p = form.listed p

abbrev attribute_by : Head → Class → Form → Form
attribute_by head.NotAllowed class p = p
attribute_by head.Empty class p = form.attribute class p
attribute_by head.Other class p = form.attribute class p

abbrev one_or_more_by : Head → Form → Form
one_or_more_by head.NotAllowed p = p
one_or_more_by head.Empty p = p
one_or_more_by head.Other p = form.one_or_more p

abbrev choice_by : Head → Head → Form → Form → Form
choice_by head.NotAllowed h p q = q
choice_by head.Empty head.NotAllowed p q = p
choice_by head.Empty head.Empty p q = p
choice_by head.Empty head.Other p q = form.choice p q
choice_by head.Other head.NotAllowed p q = p
choice_by head.Other head.Empty p q = form.choice q p
choice_by head.Other head.Other p q = form.choice p q

abbrev both_by : Sign → Head → Head → Form → Form → Form
both_by by head.NotAllowed h p q = p
both_by by head.Empty h p q = q
both_by by head.Other head.NotAllowed p q = q
both_by by head.Other head.Empty p q = p
both_by by head.Other head.Other p q = joined_form by p q

list_law : (p : Form) → list_of p ≡ list_by (head_of p) p
list_law form.not_allowed = refl
list_law form.empty = refl
list_law p = refl

attribute_law : (class : Class) (p : Form) → attribute_of class p ≡ attribute_by (head_of p) class p
attribute_law class form.not_allowed = refl
attribute_law class form.empty = refl
attribute_law class p = refl

one_or_more_law : (p : Form) → one_or_more_of p ≡ one_or_more_by (head_of p) p
one_or_more_law form.not_allowed = refl
one_or_more_law form.empty = refl
one_or_more_law p = refl

choice_law : (p q : Form) → choice_of p q ≡ choice_by (head_of p) (head_of q) p q
choice_law form.not_allowed q = refl
choice_law p form.not_allowed = refl
choice_law form.empty form.empty = refl
choice_law p form.empty = refl
choice_law p q = refl

group_law : (p q : Form) → group_of p q ≡ both_by sign.Group (head_of p) (head_of q) p q
group_law form.not_allowed q = refl
group_law p form.not_allowed = refl
group_law form.empty q = refl
group_law p form.empty = refl
group_law p q = refl

interleave_law : (p q : Form) → interleave_of p q ≡ both_by sign.Interleave (head_of p) (head_of q) p q
interleave_law form.not_allowed q = refl
interleave_law p form.not_allowed = refl
interleave_law form.empty q = refl
interleave_law p form.empty = refl
interleave_law p q = refl

-- the same, where it is known what the forms count for
list_at : (p : Form) (h : Head) → head_of p ≡ h → list_of p ≡ list_by h p
list_at p h is = list_law p ∙ ap (λ k. list_by k p) is

attribute_at : (class : Class) (p : Form) (h : Head) → head_of p ≡ h → attribute_of class p ≡ attribute_by h class p
attribute_at class p h is = attribute_law class p ∙ ap (λ k. attribute_by k class p) is

one_or_more_at : (p : Form) (h : Head) → head_of p ≡ h → one_or_more_of p ≡ one_or_more_by h p
one_or_more_at p h is = one_or_more_law p ∙ ap (λ k. one_or_more_by k p) is

choice_at : (p q : Form) (h k : Head) → head_of p ≡ h → head_of q ≡ k → choice_of p q ≡ choice_by h k p q
choice_at p q h k is also = choice_law p q ∙ ap (λ j. choice_by j (head_of q) p q) is ∙ ap (λ j. choice_by h j p q) also

both_law : (by : Sign) (p q : Form) → (by ≡ sign.Choice → ⊥) → joined_of by p q ≡ both_by by (head_of p) (head_of q) p q
both_law sign.Choice p q other = absurd (other refl)
both_law sign.Group p q other = group_law p q
both_law sign.Interleave p q other = interleave_law p q

both_at : (by : Sign) (p q : Form) (h k : Head) → (by ≡ sign.Choice → ⊥) → head_of p ≡ h → head_of q ≡ k → joined_of by p q ≡ both_by by h k p q
both_at by p q h k other is also = both_law by p q other ∙ ap (λ j. both_by by j (head_of q) p q) is ∙ ap (λ j. both_by by h j p q) also

-- ---- what is made

-- one of the shapes shows the form already
pub shown_already : (old : List Shape) (own : Shape) (made : List Cell → (ℕ → Form) → Form) (n : ℕ) → n < length old → ((cells : List Cell) (taken : ℕ → List Value) → made cells (form_at cells taken old) ≡ form_at cells taken old n) → IsShown old old own made n
shown_already old own made n within is = record {
  more = [];
  grows = sym (append-nil old);
  within = within;
  shows = λ cells taken. sym (is cells taken);
  kept = λ cells count own_is old_are. old_are;
}

-- a shape that is put behind them shows it
pub shown_anew : (old : List Shape) (s own : Shape) (made : List Cell → (ℕ → Form) → Form) → ((cells : List Cell) (taken : ℕ → List Value) → made cells (form_at cells taken old) ≡ form_by cells taken (form_at cells taken old) s) → ((cells : List Cell) (count : ℕ) → IsOfSchema cells count own → IsOfSchema cells count s) → IsShown old (old ++ s ∷ []) own made (length old)
shown_anew old s own made is own_is = record {
  more = s ∷ [];
  grows = refl;
  within = let longer = length-append old (s ∷ []) in omega arith;
  shows = λ cells taken. shows_last cells taken old s ∙ sym (is cells taken);
  kept = λ cells count of_own old_are. record {
    each_is = λ n t h. elim (before_or_last old s n t h) [
      | inl there ↦ old_are.each_is n t there
      | inr e ↦ let P : Shape → Type 0 = IsOfSchema cells count in subst P (sym e.1) (own_is cells count of_own)
    ];
  };
}

-- a call that puts it there, answers it
pub adds_shown : (old new : List Shape) (s own : Shape) (made : List Cell → (ℕ → Form) → Form) (result : Result ℕ SchemaFault) → ((cells : List Cell) (taken : ℕ → List Value) → made cells (form_at cells taken old) ≡ form_by cells taken (form_at cells taken old) s) → ((cells : List Cell) (count : ℕ) → IsOfSchema cells count own → IsOfSchema cells count s) → Adds old new s result → Shows old new own made result
adds_shown old new s own made (Ok number) is own_is added =
    let P : List Shape → Type 0 = λ shapes. IsShown old shapes own made number in
    let Q : ℕ → Type 0 = λ n. IsShown old (old ++ s ∷ []) own made n in
    subst P (sym added.1) (subst Q (sym added.0) (shown_anew old s own made is own_is))
adds_shown old new s own made (Err fault.NoMemory) is own_is added = tt
adds_shown old new s own made (Err fault.Failed) is own_is added = added
adds_shown old new s own made (Err (fault.Absent a)) is own_is added = added
adds_shown old new s own made (Err (fault.NotUtf8 a at)) is own_is added = added
adds_shown old new s own made (Err (fault.BadUri a)) is own_is added = added
adds_shown old new s own made (Err (fault.Unreadable why)) is own_is added = added

-- ---- what code makes of shapes by what they count for

module _ (old : List Shape) (part : ℕ) (h : Head) (is : IsHeadAt old part h) where
  -- words
  pub list_is : (cells : List Cell) (taken : ℕ → List Value) → list_of (form_at cells taken old part) ≡ list_by h (form_at cells taken old part)
  list_is cells taken = list_at (form_at cells taken old part) h (is.counts cells taken)

  -- an attribute
  pub attribute_is : (class : List Cell → Class) (cells : List Cell) (taken : ℕ → List Value) → attribute_of (class cells) (form_at cells taken old part) ≡ attribute_by h (class cells) (form_at cells taken old part)
  attribute_is class cells taken = attribute_at (class cells) (form_at cells taken old part) h (is.counts cells taken)

  -- one or more
  pub one_or_more_is : (cells : List Cell) (taken : ℕ → List Value) → one_or_more_of (form_at cells taken old part) ≡ one_or_more_by h (form_at cells taken old part)
  one_or_more_is cells taken = one_or_more_at (form_at cells taken old part) h (is.counts cells taken)

module _ (old : List Shape) (first second : ℕ) (h k : Head) (is : IsHeadAt old first h) (also : IsHeadAt old second k) where
  -- a choice
  pub choice_is : (cells : List Cell) (taken : ℕ → List Value) → choice_of (form_at cells taken old first) (form_at cells taken old second) ≡ choice_by h k (form_at cells taken old first) (form_at cells taken old second)
  choice_is cells taken = choice_at (form_at cells taken old first) (form_at cells taken old second) h k (is.counts cells taken) (also.counts cells taken)

  -- both
  pub both_are : (by : Sign) → (by ≡ sign.Choice → ⊥) → (cells : List Cell) (taken : ℕ → List Value) → joined_of by (form_at cells taken old first) (form_at cells taken old second) ≡ both_by by h k (form_at cells taken old first) (form_at cells taken old second)
  both_are by other cells taken = both_at by (form_at cells taken old first) (form_at cells taken old second) h k other (is.counts cells taken) (also.counts cells taken)

-- both, where the first counts for nothing
pub both_first : (old : List Shape) (by : Sign) (first second : ℕ) → IsHeadAt old first head.Empty → (by ≡ sign.Choice → ⊥) → (cells : List Cell) (taken : ℕ → List Value) → joined_of by (form_at cells taken old first) (form_at cells taken old second) ≡ form_at cells taken old second
both_first old by first second is other cells taken =
    both_at by (form_at cells taken old first) (form_at cells taken old second) head.Empty _ other (is.counts cells taken) refl

-- ---- sizes

-- a number that stops stops where it is counted on
stops_further : (limit m n : ℕ) → m ≡ min n limit → min (m + 1) limit ≡ min (1 + n) limit
stops_further limit m n is = omega arith

stops_together : (limit a b m n : ℕ) → a ≡ min m limit → b ≡ min n limit → min (min (a + b) limit + 1) limit ≡ min (1 + m + n) limit
stops_together limit a b m n is also = omega arith

stops_at_greater : (limit a b m n : ℕ) → a ≡ min m limit → b ≡ min n limit → min (max a b + 1) limit ≡ min (1 + max m n) limit
stops_at_greater limit a b m n is also = omega arith

stops_in_sum : (limit m n : ℕ) → min (min m limit + min n limit) limit ≡ min (m + n) limit
stops_in_sum limit m n = omega arith

abbrev counted : Option (List Value) → Option ℕ
counted values = option_map (λ vs. stopped (length vs)) values

values_join : (x y : Option (List Value)) → values_beside sign.Choice (counted x) (counted y) ≡ counted (option_and_then (λ first. option_map (λ second. first ++ second) y) x)
values_join None y = refl
values_join (Some first) None = refl
values_join (Some first) (Some second) =
    ap (λ n. Some n) (stops_in_sum (2 ^ 64 - 1) (length first) (length second) ∙ ap stopped (sym (length-append first second)))

around_sized : (p q : Form) (size : Size) → HasSize p size → nodes q ≡ 1 + nodes p → depth q ≡ 1 + depth p → values_of q ≡ None → HasSize q (size_around size)
around_sized p q size sized nodes_are depth_is none = record {
  nodes_are = stops_further (2 ^ 64 - 1) size.nodes (nodes p) sized.nodes_are ∙ ap stopped (sym nodes_are);
  depth_is = stops_further (2 ^ 64 - 1) size.depth (depth p) sized.depth_is ∙ ap stopped (sym depth_is);
  values_are = ap counted (sym none);
}

values_joined : (by : Sign) (p q : Form) → values_beside by (counted (values_of p)) (counted (values_of q)) ≡ counted (values_of (joined_form by p q))
values_joined sign.Choice p q = values_join (values_of p) (values_of q)
values_joined sign.Group p q = refl
values_joined sign.Interleave p q = refl

nodes_joined : (by : Sign) (p q : Form) → nodes (joined_form by p q) ≡ 1 + nodes p + nodes q
nodes_joined sign.Choice p q = refl
nodes_joined sign.Group p q = refl
nodes_joined sign.Interleave p q = refl

depth_joined : (by : Sign) (p q : Form) → depth (joined_form by p q) ≡ 1 + max (depth p) (depth q)
depth_joined sign.Choice p q = refl
depth_joined sign.Group p q = refl
depth_joined sign.Interleave p q = refl

beside_sized : (by : Sign) (p q : Form) (one other : Size) → HasSize p one → HasSize q other → HasSize (joined_form by p q) (size_beside by one other)
beside_sized by p q one other first second = record {
  nodes_are = stops_together (2 ^ 64 - 1) one.nodes other.nodes (nodes p) (nodes q) first.nodes_are second.nodes_are ∙ ap stopped (sym (nodes_joined by p q));
  depth_is = stops_at_greater (2 ^ 64 - 1) one.depth other.depth (depth p) (depth q) first.depth_is second.depth_is ∙ ap stopped (sym (depth_joined by p q));
  values_are =
      ap (λ v. values_beside by v other.values) first.values_are
      ∙ ap (λ v. values_beside by (counted (values_of p)) v) second.values_are
      ∙ values_joined by p q;
}

module _ (shapes : List Shape) where
  -- a form without parts
  pub alone_is_sized : (s : Shape) (values : Option ℕ) (size : Size) → ((cells : List Cell) (taken : ℕ → List Value) → HasSize (form_by cells taken (form_at cells taken shapes) s) (size_alone values)) → size ≡ size_alone values → IsSizeOf shapes s size
  alone_is_sized s values size sized is = let P : Size → Type 0 = IsSizeOf shapes s in subst P (sym is) (record { sized = sized })

  list_is_sized : (part : ℕ) (size whole : Size) → IsSizeAt shapes part size → whole ≡ size_around size → IsSizeOf shapes (shape.List part) whole
  list_is_sized part size whole sized is =
      let P : Size → Type 0 = IsSizeOf shapes (shape.List part) in
      subst P (sym is) (record { sized = λ cells taken. around_sized (form_at cells taken shapes part) _ size (sized.sized cells taken) refl refl refl })

  attribute_is_sized : (i part : ℕ) (size whole : Size) → IsSizeAt shapes part size → whole ≡ size_around size → IsSizeOf shapes (shape.Attribute i part) whole
  attribute_is_sized i part size whole sized is =
      let P : Size → Type 0 = IsSizeOf shapes (shape.Attribute i part) in
      subst P (sym is) (record { sized = λ cells taken. around_sized (form_at cells taken shapes part) _ size (sized.sized cells taken) refl refl refl })

  one_or_more_is_sized : (part : ℕ) (size whole : Size) → IsSizeAt shapes part size → whole ≡ size_around size → IsSizeOf shapes (shape.OneOrMore part) whole
  one_or_more_is_sized part size whole sized is =
      let P : Size → Type 0 = IsSizeOf shapes (shape.OneOrMore part) in
      subst P (sym is) (record { sized = λ cells taken. around_sized (form_at cells taken shapes part) _ size (sized.sized cells taken) refl refl refl })

  joined_is_sized : (by : Sign) (first second : ℕ) (one other whole : Size) → IsSizeAt shapes first one → IsSizeAt shapes second other → whole ≡ size_beside by one other → IsSizeOf shapes (shape.Joined by first second) whole
  joined_is_sized by first second one other whole sized also is =
      let P : Size → Type 0 = IsSizeOf shapes (shape.Joined by first second) in
      subst P (sym is) (record { sized = λ cells taken. beside_sized by (form_at cells taken shapes first) (form_at cells taken shapes second) one other (sized.sized cells taken) (also.sized cells taken) })

-- ---- shapes with their sizes

shapes_of_more : (entries : List Entry) (entry : Entry) → shapes_of (entries ++ entry ∷ []) ≡ shapes_of entries ++ entry.shape ∷ []
shapes_of_more [] entry = refl
shapes_of_more (first ∷ entries) entry = ap (λ shapes. first.shape ∷ shapes) (shapes_of_more entries entry)

pub length_shapes : (entries : List Entry) → length (shapes_of entries) ≡ length entries
length_shapes entries = length-map entries (λ (entry : Entry). entry.shape)

pub none_sized : AreSized []
none_sized = record {
  behind = λ n entry h. let never : ⊥ = cc in absurd never;
  sized = λ n entry h. let never : ⊥ = cc in absurd never;
}

size_still : (shapes more : List Shape) (n : ℕ) (size : Size) → n < length shapes → IsSizeAt shapes n size → IsSizeAt (shapes ++ more) n size
size_still shapes more n size within sized = record {
  sized = λ cells taken. let P : Form → Type 0 = λ q. HasSize q size in subst P (sym (shows_still cells taken shapes more n within)) (sized.sized cells taken);
}

size_last : (shapes : List Shape) (s : Shape) (size : Size) → IsSizeOf shapes s size → IsSizeAt (shapes ++ s ∷ []) (length shapes) size
size_last shapes s size sized = record {
  sized = λ cells taken. let P : Form → Type 0 = λ q. HasSize q size in subst P (sym (shows_last cells taken shapes s)) (sized.sized cells taken);
}

-- a further shape with its size
pub one_more_sized : (entries : List Entry) (entry : Entry) → AreSized entries → IsBehindParts (length (shapes_of entries)) entry.shape → IsSizeOf (shapes_of entries) entry.shape entry.size → AreSized (entries ++ entry ∷ [])
one_more_sized entries entry are behind sized =
    let all = length_shapes entries in
    record {
      behind = λ n e h. elim (before_or_last entries entry n e h) [
        | inl there ↦ are.behind n e there
        | inr last ↦
            let P : ℕ → Type 0 = λ k. IsBehindParts k e.shape in
            let Q : Entry → Type 0 = λ d. IsBehindParts (length (shapes_of entries)) d.shape in
            subst P (all ∙ sym last.0) (subst Q (sym last.1) behind)
      ];
      sized = λ n e h. elim (before_or_last entries entry n e h) [
        | inl there ↦
            let within = slice_get_within entries n e there in
            let P : List Shape → Type 0 = λ shapes. IsSizeAt shapes n e.size in
            subst P (sym (shapes_of_more entries entry)) (size_still (shapes_of entries) (entry.shape ∷ []) n e.size (omega arith) (are.sized n e there))
        | inr last ↦
            let P : List Shape → Type 0 = λ shapes. IsSizeAt shapes n e.size in
            let Q : ℕ → Type 0 = λ k. IsSizeAt (shapes_of entries ++ entry.shape ∷ []) k e.size in
            let R : Entry → Type 0 = λ d. IsSizeAt (shapes_of entries ++ entry.shape ∷ []) (length (shapes_of entries)) d.size in
            subst P (sym (shapes_of_more entries entry)) (subst Q (all ∙ sym last.0) (subst R (sym last.1) (size_last (shapes_of entries) entry.shape entry.size sized)))
      ];
    }

-- the shape and the size of a number
pub shape_there : (entries : List Entry) (n : ℕ) (e : Entry) → slice_get entries n ≡ Some e → slice_get (shapes_of entries) n ≡ Some e.shape
shape_there entries n e there = slice_get-map (λ (entry : Entry). entry.shape) entries n ∙ ap (option_map (λ (entry : Entry). entry.shape)) there

-- the same, where the shapes are seen as a list
pub one_more_seen : (entries : List Entry) (entry : Entry) (shapes : List Shape) → shapes_of entries ≡ shapes → AreSized entries → IsBehindParts (length shapes) entry.shape → IsSizeOf shapes entry.shape entry.size → AreSized (entries ++ entry ∷ [])
one_more_seen entries entry shapes seen are behind sized =
    let P : List Shape → Type 0 = λ all. IsBehindParts (length all) entry.shape in
    let Q : List Shape → Type 0 = λ all. IsSizeOf all entry.shape entry.size in
    one_more_sized entries entry are (subst P (sym seen) behind) (subst Q (sym seen) sized)
