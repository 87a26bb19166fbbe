-- What is at hand, while answers are put.
use Rattle.std.proofs.Common.{◌≡◌, ◌⊎◌, ◌<◌, ◌≤◌, inl, inr, ⊎_elim, ℕ, zero, suc, List, [], ◌∷◌, ◌++◌, length, refl, sym, ap, ◌∙◌, subst, arith, Option, Some, None, Bool, true, false, not, cond, IfSome, replicate, slice_get, slice_index_or, slice_set}
use Rattle.std.specs.Map.{lookup}
use Rattle.std.specs.Option.{option_eq}
use Rattle.std.specs.Prelude.{eqb, ◌&&◌}
use Rattle.std.proofs.lemmas.Bool.{and_parts, false≢true}
use Rattle.std.proofs.lemmas.Bool.Decides.{Decides-eqb}
use Rattle.deriv_memory.specs.declared.asked.Asked.{Asked}
use Rattle.deriv_memory.specs.declared.asked.Asked.TheVariants as calls
use Rattle.deriv_memory.specs.declared.at_hand.AtHand.{AtHand}
use Rattle.deriv_memory.specs.declared.at_hand.Row.{Row}
use Rattle.deriv_memory.specs.declared.at_hand.Slot.{Slot}
use Rattle.deriv_memory.specs.declared.block.Block.{Block}
use Rattle.deriv_memory.specs.declared.block.Owner.{Owner}
use Rattle.deriv_memory.specs.Calls.{form_of, state_of, ns_of, local_of, same_asked, by_parts, calls_decided}
use Rattle.deriv_memory.specs.AtHand.{said, free_row, free_slot, free_block, free_owner, is_named, is_owner, is_slot, number_in, row_with, row_says, slot_of}
use Rattle.deriv_memory.specs.AtHand.{AreNoted, BlockHolds, BlockSays, HoldNoMore, HoldOneMore, HoldThisMore, IsFree, IsPut, ReadAlike, SayOneMore, SlotHolds}

-- ---- lists with free places

-- one more free place is none
pub pushed : {A : Type 0} (free : A) (xs : List A) (i : ℕ) → slice_index_or (xs ++ free ∷ []) i free ≡ slice_index_or xs i free
pushed free [] zero = refl
pushed free [] (suc i) = refl
pushed free (x ∷ xs) zero = refl
pushed free (x ∷ xs) (suc i) = pushed free xs i

-- where one place is set, each of the others is what it was
set_read : {A : Type 0} (xs : List A) (i j : ℕ) (y free : A)
    → ((j ≡ i) × (slice_index_or (slice_set xs i y) j free ≡ y)) ⊎ (slice_index_or (slice_set xs i y) j free ≡ slice_index_or xs j free)
set_read [] i j y free = inr refl
set_read (x ∷ xs) zero zero y free = inl (refl, refl)
set_read (x ∷ xs) zero (suc j) y free = inr refl
set_read (x ∷ xs) (suc i) zero y free = inr refl
set_read (x ∷ xs) (suc i) (suc j) y free = ⊎_elim (λ here. inl (ap suc here.0, here.1)) (λ other. inr other) (set_read xs i j y free)

-- ---- rows

row_put : (row : Row) (call other : Asked) (n : ℕ) → state_of other ≡ state_of call
    → (number_in (row_with row call n) other ≡ number_in row other) ⊎ ((other ≡ call) × (number_in (row_with row call n) other ≡ n))
row_put row (calls.TagEnd s) (calls.TagEnd t) n same = inr (ap (λ x. calls.TagEnd x) same, refl)
row_put row (calls.Leave s) (calls.Leave t) n same = inr (ap (λ x. calls.Leave x) same, refl)
row_put row (calls.Blank s) (calls.Blank t) n same = inr (ap (λ x. calls.Blank x) same, refl)
row_put row (calls.Solid s) (calls.Solid t) n same = inr (ap (λ x. calls.Solid x) same, refl)
row_put row call other n same = inl refl

-- a place that is there is set
set_here : {A : Type 0} (xs : List A) (i : ℕ) (y free : A) → i < length xs → slice_index_or (slice_set xs i y) i free ≡ y
set_here [] i y free here = absurd (omega (arith, here))
set_here (x ∷ xs) zero y free here = refl
set_here (x ∷ xs) (suc i) y free here = set_here xs i y free (omega (arith, here))

own_number : (row : Row) (call : Asked) (n : ℕ) → is_named call ≡ false → number_in (row_with row call n) call ≡ n
own_number row (calls.TagEnd s) n plain = refl
own_number row (calls.Leave s) n plain = refl
own_number row (calls.Blank s) n plain = refl
own_number row (calls.Solid s) n plain = refl
own_number row (calls.Enter s ns local) n plain = absurd (false≢true (sym plain))
own_number row (calls.BlankValue s ns local) n plain = absurd (false≢true (sym plain))
own_number row (calls.SolidValue s ns local) n plain = absurd (false≢true (sym plain))

rows_put : (rows : List Row) (call : Asked) (n : ℕ) → state_of call < length rows → is_named call ≡ false
    → SayOneMore rows (slice_set rows (state_of call) (row_with (slice_index_or rows (state_of call) free_row) call n)) call n
rows_put rows call n room plain other = by (same_asked call other) refl
  where
    row : Row
    row = slice_index_or rows (state_of call) free_row

    new : List Row
    new = slice_set rows (state_of call) (row_with row call n)

    by : (b : Bool) → same_asked call other ≡ b → row_says new other ≡ cond (same_asked call other) (said n) (row_says rows other)
    by true same =
        let one : call ≡ other = (calls_decided call other).0 same in
        let P : Asked → Type 0 = λ c. row_says new c ≡ said n in
        let own : row_says new call ≡ said n =
        ap (λ r. said (number_in r call)) (set_here rows (state_of call) (row_with row call n) free_row room) ∙ ap said (own_number row call n plain) in
        subst P one own ∙ sym (ap (λ b. cond b (said n) (row_says rows other)) same)
    by false apart =
        let stays : row_says new other ≡ row_says rows other = ⊎_elim
        (λ here.
        ap (λ r. said (number_in r other)) here.1
        ∙ ⊎_elim
        (λ kept. ap said kept ∙ ap (λ s. said (number_in (slice_index_or rows s free_row) other)) (sym here.0))
        (λ is. absurd (false≢true (sym apart ∙ (calls_decided call other).1 (sym is.0))))
        (row_put row call other n here.0))
        (λ same. ap (λ r. said (number_in r other)) same)
        (set_read rows (state_of call) (state_of other) (row_with row call n) free_row) in
        stays ∙ sym (ap (λ b. cond b (said n) (row_says rows other)) apart)

pub plain_put : (rows new : List Row) (call : Asked) (i n : ℕ) (row put : Row) → state_of call < length rows → is_named call ≡ false
    → i ≡ state_of call → row ≡ slice_index_or rows i free_row → put ≡ row_with row call n → new ≡ slice_set rows i put
    → SayOneMore rows new call n
plain_put rows new call i n row put room plain of at is set =
    let P : List Row → Type 0 = λ rs. SayOneMore rows rs call n in
    let whole : new ≡ slice_set rows (state_of call) (row_with (slice_index_or rows (state_of call) free_row) call n) =
    set
    ∙ (ap (λ r. slice_set rows i r) (is ∙ ap (λ r. row_with r call n) at)
    ∙ ap (λ s. slice_set rows s (row_with (slice_index_or rows s free_row) call n)) of) in
    subst P (sym whole) (rows_put rows call n room plain)

-- ---- slots

slots_put : (slots : List Slot) (i : ℕ) (call : Asked) (n : ℕ) (other : Asked) (kept : Option ℕ)
    → SlotHolds (slice_set slots i (slot_of call n)) other kept → ((other ≡ call) × (said n ≡ Some kept)) ⊎ SlotHolds slots other kept
slots_put slots i call n other kept holds = ⊎_elim
    (λ here.
    let same : slot_of other holds.number ≡ slot_of call n = sym holds.here ∙ here.1 in
    inl (
      by_parts other call (ap (λ (s : Slot). s.form) same) (ap (λ (s : Slot). s.state) same) (ap (λ (s : Slot). s.ns) same) (ap (λ (s : Slot). s.local) same),
      ap (λ (s : Slot). said s.answer) (sym same) ∙ holds.says,
    ))
    (λ same. inr (record { place = holds.place; number = holds.number; here = sym same ∙ holds.here; says = holds.says }))
    (set_read slots i holds.place (slot_of call n) free_slot)

pub named_put : (slots : List Slot) (call : Asked) (i n : ℕ) (slot : Slot) → slot ≡ slot_of call n → (answer : Option ℕ) → said n ≡ Some answer
    → HoldOneMore slots (slice_set slots i slot) call answer
named_put slots call i n slot is answer says = λ other kept held.
    let Q : List Slot → Type 0 = λ ss. SlotHolds ss other kept in
    ⊎_elim (λ one. inl (one.0, let two : Some kept ≡ Some answer = sym one.1 ∙ says in cc)) (λ before. inr before)
    (slots_put slots i call n other kept (subst Q (ap (λ s. slice_set slots i s) is) held))

-- the slot of the call with these numbers says its answer
pub slot_says : (hand : AtHand) (place form state ns local : ℕ) (slot : Slot) (said_of : Option (Option ℕ))
    → slot ≡ slice_index_or hand.slots.items place free_slot → is_slot slot form state ns local ≡ true → said_of ≡ said slot.answer
    → (call : Asked) → form_of call ≡ form → state_of call ≡ state → ns_of call ≡ ns → local_of call ≡ local → IfSome said_of (SlotHolds hand.slots.items call)
slot_says hand place form state ns local slot None is same says call f s n l = tt
slot_says hand place form state ns local slot (Some answer) is same says call f s n l =
    let last = and_parts ((eqb slot.state state && eqb slot.local local) && eqb slot.ns ns) (eqb slot.form form) same in
    let third = and_parts (eqb slot.state state && eqb slot.local local) (eqb slot.ns ns) last.0 in
    let front = and_parts (eqb slot.state state) (eqb slot.local local) third.0 in
    let of_state : slot.state ≡ state_of call = (Decides-eqb slot.state state).0 front.0 ∙ sym s in
    let of_local : slot.local ≡ local_of call = (Decides-eqb slot.local local).0 front.1 ∙ sym l in
    let of_ns : slot.ns ≡ ns_of call = (Decides-eqb slot.ns ns).0 third.1 ∙ sym n in
    let of_form : slot.form ≡ form_of call = (Decides-eqb slot.form form).0 last.1 ∙ sym f in
    let whole : slot ≡ slot_of call slot.answer =
    λ i. record { state = of_state i; local = of_local i; answer = slot.answer; ns = of_ns i; form = of_form i } in
    record { place = place; number = slot.answer; here = sym is ∙ whole; says = sym says }

-- ---- blocks

-- a place that is there has its item
got : {A : Type 0} (xs : List A) (i : ℕ) (x free : A) → slice_get xs i ≡ Some x → slice_index_or xs i free ≡ x
got [] i x free e = cc
got (y ∷ ys) zero x free e = cc
got (y ∷ ys) (suc i) x free e = got ys i x free e

-- where one item is put last, it is at one place, and each other is what it was
pushed_read : {A : Type 0} (xs : List A) (y free : A) (i : ℕ)
    → ((i ≡ length xs) × (slice_index_or (xs ++ y ∷ []) i free ≡ y)) ⊎ (slice_index_or (xs ++ y ∷ []) i free ≡ slice_index_or xs i free)
pushed_read [] y free zero = inl (refl, refl)
pushed_read [] y free (suc i) = inr refl
pushed_read (x ∷ xs) y free zero = inr refl
pushed_read (x ∷ xs) y free (suc i) = ⊎_elim (λ here. inl (ap suc here.0, here.1)) (λ other. inr other) (pushed_read xs y free i)

beyond : {A : Type 0} (xs : List A) (i : ℕ) (free : A) → length xs ≤ i → slice_index_or xs i free ≡ free
beyond [] i free there = refl
beyond (x ∷ xs) zero free there = absurd (omega (arith, there))
beyond (x ∷ xs) (suc i) free there = beyond xs i free (omega (arith, there))

pub free_numbers : (n local free : ℕ) → slice_index_or (replicate n free) local free ≡ free
free_numbers zero local free = refl
free_numbers (suc n) zero free = refl
free_numbers (suc n) (suc local) free = free_numbers n local free

free_says : (owner : Owner) (block : Block) (call : Asked) (answer : Option ℕ) → IsFree block → BlockSays owner block call answer → ⊥
free_says owner block call answer free says = let two : None ≡ Some answer = sym (ap said (free (local_of call))) ∙ says.says in cc

-- one more owner, and one more block in which nothing stands, hold nothing more
pub block_pushed : (owners more : List Owner) (blocks larger : List Block) (owner : Owner) (block : Block) → length blocks ≤ length owners → IsFree block
    → more ≡ owners ++ owner ∷ [] → larger ≡ blocks ++ block ∷ [] → (other : Asked) (kept : Option ℕ)
    → (place : ℕ) × BlockSays (slice_index_or more place free_owner) (slice_index_or larger place free_block) other kept
    → (place : ℕ) × BlockSays (slice_index_or owners place free_owner) (slice_index_or blocks place free_block) other kept
block_pushed owners more blocks larger owner block fewer free one other_one other kept held =
    let i = held.0 in
    let Says : Owner → Block → Type 0 = λ o b. BlockSays o b other kept in
    let now = slice_index_or more i free_owner in
    let says : Says now (slice_index_or blocks i free_block) = ⊎_elim
    (λ here. absurd (free_says now block other kept free
    (subst (λ b. Says now b) (ap (λ bs. slice_index_or bs i free_block) other_one ∙ here.1) held.1)))
    (λ before. subst (λ b. Says now b) (ap (λ bs. slice_index_or bs i free_block) other_one ∙ before) held.1)
    (pushed_read blocks block free_block i) in
    ⊎_elim
    (λ here.
    let none : slice_index_or blocks i free_block ≡ free_block = beyond blocks i free_block (omega (arith, fewer, here.0)) in
    absurd (free_says now free_block other kept (λ local. refl) (subst (λ b. Says now b) none says)))
    (λ before. (i, subst (λ o. Says o (slice_index_or blocks i free_block)) (ap (λ os. slice_index_or os i free_owner) one ∙ before) says))
    (pushed_read owners owner free_owner i)

owner_is : (owner : Owner) (s n : ℕ) → is_owner owner s n ≡ true → (owner.state ≡ s) × (owner.ns ≡ n)
owner_is owner s n its =
    let parts = and_parts (eqb owner.state s) (eqb owner.ns n) its in
    ((Decides-eqb owner.state s).0 parts.0, (Decides-eqb owner.ns n).0 parts.1)

-- a block in which one number is put, of a call that is its owner's
said_of : (owner : Owner) (block new : Block) (call : Asked) (n : ℕ) → form_of call ≡ 0 → is_owner owner (state_of call) (ns_of call) ≡ true
    → IsPut block new (local_of call) n → (answer : Option ℕ) → said n ≡ Some answer
    → (other : Asked) (kept : Option ℕ) → BlockSays owner new other kept → ((other ≡ call) × (kept ≡ answer)) ⊎ BlockSays owner block other kept
said_of owner block new call n enters owned put answer told other kept says =
    let own = owner_is owner (state_of call) (ns_of call) owned in
    let its = owner_is owner (state_of other) (ns_of other) says.its in
    ⊎_elim
    (λ here. inl (
      by_parts other call (says.enters ∙ sym enters) (sym its.0 ∙ own.0) (sym its.1 ∙ own.1) here.0,
      let two : Some kept ≡ Some answer = sym says.says ∙ (ap said here.1 ∙ told) in cc,
    ))
    (λ same. inr (record { enters = says.enters; its = says.its; says = sym (ap said same) ∙ says.says }))
    (put (local_of other))

-- and blocks of which that is one
pub block_put : (old new : AtHand) (i : ℕ) (block after : Block) (call : Asked) (n : ℕ) → form_of call ≡ 0
    → is_owner (slice_index_or old.owners.items i free_owner) (state_of call) (ns_of call) ≡ true → slice_get old.blocks.items i ≡ Some block
    → IsPut block after (local_of call) n → new.owners.items ≡ old.owners.items → new.blocks.items ≡ slice_set old.blocks.items i after
    → (answer : Option ℕ) → said n ≡ Some answer → HoldThisMore old new call answer
block_put old new i block after call n enters owned there put owners blocks answer told = λ other kept held.
    let j = held.0 in
    let Says : Owner → Block → Type 0 = λ o b. BlockSays o b other kept in
    let o = slice_index_or old.owners.items j free_owner in
    let is : Says o (slice_index_or (slice_set old.blocks.items i after) j free_block) =
    subst (λ os. Says (slice_index_or os j free_owner) (slice_index_or (slice_set old.blocks.items i after) j free_block)) owners
    (subst (λ bs. Says (slice_index_or new.owners.items j free_owner) (slice_index_or bs j free_block)) blocks held.1) in
    ⊎_elim
    (λ here.
    let at : o ≡ slice_index_or old.owners.items i free_owner = ap (λ k. slice_index_or old.owners.items k free_owner) here.0 in
    ⊎_elim (λ one. inl one)
    (λ before. inr (i, subst (λ b. Says (slice_index_or old.owners.items i free_owner) b) (sym (got old.blocks.items i block free_block there)) before))
    (said_of (slice_index_or old.owners.items i free_owner) block after call n enters owned put answer told other kept
    (subst (λ x. Says x after) at (subst (λ b. Says o b) here.1 is))))
    (λ same. inr (j, subst (λ b. Says o b) same is))
    (set_read old.blocks.items i j after free_block)

-- ---- one after the other

pub alike_slots : (old new : List Slot) (call : Asked) (answer : Option ℕ) → ReadAlike free_slot old new → HoldOneMore old new call answer
alike_slots old new call answer alike = λ other kept held.
    inr (record { place = held.place; number = held.number; here = sym (alike held.place) ∙ held.here; says = held.says })

pub then_one_more : (old mid new : List Slot) (call : Asked) (answer : Option ℕ) → ReadAlike free_slot old mid → HoldOneMore mid new call answer
    → HoldOneMore old new call answer
then_one_more old mid new call answer alike more = λ other kept held. ⊎_elim (λ one. inl one) (λ was. alike_slots old mid call answer alike other kept was) (more other kept held)

pub then_no_more : (old mid new : AtHand) (call : Asked) (answer : Option ℕ) → HoldThisMore old mid call answer → HoldNoMore mid new
    → HoldThisMore old new call answer
then_no_more old mid new call answer more none = λ other kept held. more other kept (none other kept held)

-- ---- what is at hand was noted

-- where lists read alike
pub noted_still : (answers : List (Asked × Option ℕ)) (old new : AtHand) → ReadAlike free_row old.rows.items new.rows.items
    → ReadAlike free_slot old.slots.items new.slots.items → HoldNoMore old new → AreNoted answers old → AreNoted answers new
noted_still answers old new rows slots blocks right = record {
  rows = λ call plain. right.rows call plain ∙ sym (ap (λ r. said (number_in r call)) (rows (state_of call)));
  slots = λ call answer held named.
      right.slots call answer (record { place = held.place; number = held.number; here = sym (slots held.place) ∙ held.here; says = held.says }) named;
  blocks = λ call answer held named. right.blocks call answer (blocks call answer held) named;
}

-- a call with a name is none without
apart : (call other : Asked) (b : Bool) → is_named call ≡ b → is_named other ≡ not b → same_asked call other ≡ false
apart call other b one two = by (same_asked call other) refl
  where
    no : (x : Bool) → x ≡ not x → ⊥
    no true e = false≢true (sym e)
    no false e = false≢true e

    by : (c : Bool) → same_asked call other ≡ c → c ≡ false
    by true same = absurd (no b (sym one ∙ (ap is_named ((calls_decided call other).0 same) ∙ two)))
    by false e = refl

kept_apart : (before after : List (Asked × Option ℕ)) (call : Asked) (answer : Option ℕ) (b : Bool) → is_named call ≡ b
    → ((other : Asked) → lookup (same_asked other) after ≡ cond (same_asked call other) (Some answer) (lookup (same_asked other) before))
    → (other : Asked) → is_named other ≡ not b → lookup (same_asked other) after ≡ lookup (same_asked other) before
kept_apart before after call answer b one updates other two =
    updates other ∙ ap (λ c. cond c (Some answer) (lookup (same_asked other) before)) (apart call other b one two)

-- when an answer is noted of a call without a name, and put in its row
pub noted_plain : (before after : List (Asked × Option ℕ)) (old new : AtHand) (call : Asked) (answer : Option ℕ) (n : ℕ) → is_named call ≡ false
    → said n ≡ Some answer
    → ((other : Asked) → lookup (same_asked other) after ≡ cond (same_asked call other) (Some answer) (lookup (same_asked other) before))
    → SayOneMore old.rows.items new.rows.items call n → ReadAlike free_slot old.slots.items new.slots.items
    → HoldNoMore old new → AreNoted before old → AreNoted after new
noted_plain before after old new call answer n plain says updates rows slots blocks right = record {
  rows = λ other is.
      updates other
      ∙ (ap (λ x. cond (same_asked call other) (Some answer) x) (right.rows other is)
      ∙ sym (rows other ∙ ap (λ x. cond (same_asked call other) x (row_says old.rows.items other)) says));
  slots = λ other kept held named.
      kept_apart before after call answer false plain updates other named
      ∙ right.slots other kept (record { place = held.place; number = held.number; here = sym (slots held.place) ∙ held.here; says = held.says }) named;
  blocks = λ other kept held named.
      kept_apart before after call answer false plain updates other named ∙ right.blocks other kept (blocks other kept held) named;
}

rows_apart : (before after : List (Asked × Option ℕ)) (old new : AtHand) (call : Asked) (answer : Option ℕ) → is_named call ≡ true
    → ((other : Asked) → lookup (same_asked other) after ≡ cond (same_asked call other) (Some answer) (lookup (same_asked other) before))
    → ReadAlike free_row old.rows.items new.rows.items → AreNoted before old
    → (other : Asked) → is_named other ≡ false → lookup (same_asked other) after ≡ row_says new.rows.items other
rows_apart before after old new call answer named updates rows right = λ other plain.
    kept_apart before after call answer true named updates other plain
    ∙ (right.rows other plain ∙ sym (ap (λ r. said (number_in r other)) (rows (state_of other))))

-- where nothing was noted of a call, what was noted of others stays when it is
pub stays_noted : (before after : List (Asked × Option ℕ)) (call : Asked) (answer : Option ℕ) → None ≡ lookup (same_asked call) before
    → ((other : Asked) → lookup (same_asked other) after ≡ cond (same_asked call other) (Some answer) (lookup (same_asked other) before))
    → (other : Asked) (kept : Option ℕ) → lookup (same_asked other) before ≡ Some kept → lookup (same_asked other) after ≡ Some kept
stays_noted before after call answer none updates other kept is = by (same_asked call other) refl
  where
    by : (b : Bool) → same_asked call other ≡ b → lookup (same_asked other) after ≡ Some kept
    by true same =
        let one = (calls_decided call other).0 same in
        let P : Asked → Type 0 = λ c. None ≡ lookup (same_asked c) before in
        let two : None ≡ Some kept = subst P one none ∙ is in cc
    by false apart = updates other ∙ (ap (λ b. cond b (Some answer) (lookup (same_asked other) before)) apart ∙ is)

-- and what is noted of it is this answer
one_or_noted : (before after : List (Asked × Option ℕ)) (call : Asked) (answer : Option ℕ)
    → ((other : Asked) → lookup (same_asked other) after ≡ cond (same_asked call other) (Some answer) (lookup (same_asked other) before))
    → lookup (same_asked call) after ≡ Some answer → None ≡ lookup (same_asked call) before
    → (other : Asked) (kept : Option ℕ) → ((other ≡ call) × (kept ≡ answer)) ⊎ (lookup (same_asked other) before ≡ Some kept)
    → lookup (same_asked other) after ≡ Some kept
one_or_noted before after call answer updates here none other kept (inl one) =
    let P : Asked → Type 0 = λ c. lookup (same_asked c) after ≡ Some kept in
    let Q : Option ℕ → Type 0 = λ a. lookup (same_asked call) after ≡ Some a in
    subst P (sym one.0) (subst Q (sym one.1) here)
one_or_noted before after call answer updates here none other kept (inr was) = stays_noted before after call answer none updates other kept was

-- when one is noted of a call with a name, of which nothing was noted before, and put in a block or a slot
pub noted_named : (before after : List (Asked × Option ℕ)) (old new : AtHand) (call : Asked) (answer : Option ℕ) → is_named call ≡ true
    → ((other : Asked) → lookup (same_asked other) after ≡ cond (same_asked call other) (Some answer) (lookup (same_asked other) before))
    → lookup (same_asked call) after ≡ Some answer → None ≡ lookup (same_asked call) before
    → ReadAlike free_row old.rows.items new.rows.items → HoldOneMore old.slots.items new.slots.items call answer
    → HoldThisMore old new call answer → AreNoted before old → AreNoted after new
noted_named before after old new call answer named updates here none rows slots blocks right = record {
  rows = rows_apart before after old new call answer named updates rows right;
  slots = λ other kept held is.
      one_or_noted before after call answer updates here none other kept
      (⊎_elim (λ one. inl one) (λ was. inr (right.slots other kept was is)) (slots other kept held));
  blocks = λ other kept held is.
      one_or_noted before after call answer updates here none other kept
      (⊎_elim (λ one. inl one) (λ was. inr (right.blocks other kept was is)) (blocks other kept held));
}

no_slot : (call : Asked) (answer : Option ℕ) → SlotHolds [] call answer → ⊥
no_slot call answer held =
    let n : 0 ≡ held.number = ap (λ (s : Slot). s.answer) held.here in
    let two : None ≡ Some answer = ap said n ∙ held.says in cc

no_block : (hand : AtHand) (call : Asked) (answer : Option ℕ) → hand.blocks.items ≡ [] → BlockHolds hand call answer → ⊥
no_block hand call answer empty held =
    let i = held.0 in
    let o = slice_index_or hand.owners.items i free_owner in
    free_says o free_block call answer (λ local. refl)
    (subst (λ bs. BlockSays o (slice_index_or bs i free_block) call answer) empty held.1)

-- and where another was noted before, and nothing is in a block or a slot
pub noted_anew : (before after : List (Asked × Option ℕ)) (old new : AtHand) (call : Asked) (answer : Option ℕ) → is_named call ≡ true
    → ((other : Asked) → lookup (same_asked other) after ≡ cond (same_asked call other) (Some answer) (lookup (same_asked other) before))
    → ReadAlike free_row old.rows.items new.rows.items → new.slots.items ≡ [] → new.blocks.items ≡ [] → AreNoted before old → AreNoted after new
noted_anew before after old new call answer named updates rows none empty right = record {
  rows = rows_apart before after old new call answer named updates rows right;
  slots = λ other kept held is. let P : List Slot → Type 0 = λ ss. SlotHolds ss other kept in absurd (no_slot other kept (subst P none held));
  blocks = λ other kept held is. absurd (no_block new other kept empty held);
}

same_answer : (a b : Option ℕ) → option_eq eqb a b ≡ true → a ≡ b
same_answer None None same = refl
same_answer None (Some n) same = absurd (false≢true same)
same_answer (Some m) None same = absurd (false≢true same)
same_answer (Some m) (Some n) same = ap (λ x. Some x) ((Decides-eqb m n).0 same)

-- and where the same was noted before
pub noted_again : (before after : List (Asked × Option ℕ)) (hand : AtHand) (call : Asked) (was answer : Option ℕ)
    → Some was ≡ lookup (same_asked call) before → option_eq eqb was answer ≡ true
    → ((other : Asked) → lookup (same_asked other) after ≡ cond (same_asked call other) (Some answer) (lookup (same_asked other) before))
    → AreNoted before hand → AreNoted after hand
noted_again before after hand call was answer is same updates right = record {
  rows = λ other plain. stays other ∙ right.rows other plain;
  slots = λ other kept held named. stays other ∙ right.slots other kept held named;
  blocks = λ other kept held named. stays other ∙ right.blocks other kept held named;
}
  where
    stays_by : (other : Asked) (b : Bool) → same_asked call other ≡ b → lookup (same_asked other) after ≡ lookup (same_asked other) before
    stays_by other true here =
        let P : Asked → Type 0 = λ c. Some was ≡ lookup (same_asked c) before in
        updates other
        ∙ (ap (λ b. cond b (Some answer) (lookup (same_asked other) before)) here
        ∙ (ap (λ x. Some x) (sym (same_answer was answer same)) ∙ subst P ((calls_decided call other).0 here) is))
    stays_by other false apart = updates other ∙ ap (λ b. cond b (Some answer) (lookup (same_asked other) before)) apart

    stays : (other : Asked) → lookup (same_asked other) after ≡ lookup (same_asked other) before
    stays other = stays_by other (same_asked call other) refl

-- where nothing was noted and nothing is at hand
pub none_noted : (answers : List (Asked × Option ℕ)) (hand : AtHand) → answers ≡ [] → hand.rows.items ≡ [] → hand.slots.items ≡ [] → hand.blocks.items ≡ []
    → AreNoted answers hand
none_noted answers hand none rows slots blocks = record {
  rows = λ call plain. ap (λ l. lookup (same_asked call) l) none ∙ (nothing call ∙ sym (ap (λ rs. row_says rs call) rows));
  slots = λ call answer held named. let P : List Slot → Type 0 = λ ss. SlotHolds ss call answer in absurd (no_slot call answer (subst P slots held));
  blocks = λ call answer held named. absurd (no_block hand call answer blocks held);
}
  where
    nothing : (call : Asked) → None ≡ row_says [] call
    nothing (calls.TagEnd s) = refl
    nothing (calls.Leave s) = refl
    nothing (calls.Blank s) = refl
    nothing (calls.Solid s) = refl
    nothing named = refl
