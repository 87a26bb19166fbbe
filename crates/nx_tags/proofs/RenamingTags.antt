-- What a start tag or an empty-element tag with another name gives.
use Rattle.std.proofs.Common.{◌≡◌, ℕ, suc, ◌+◌, ◌≤◌, List, [], ◌∷◌, ◌++◌, length, map, drop, sym, ◌∙◌, ap, arith, append_assoc, length-append}
use Rattle.std.specs.Str.{IsUtf8}
use Rattle.std.proofs.lemmas.List.{drop_at, map-append}
use Rattle.nx_base.specs.declared.fault.Span.{Span}
use Rattle.nx_base.specs.declared.token.Token.{Token}
use Rattle.nx_events.specs.CharacterFaults.{character_faults}
use Rattle.nx_events.specs.Declarations.{declaration_faults, bindings}
use Rattle.nx_events.specs.Elements.{element_resolved, element_items, attribute_items}
use Rattle.nx_events.specs.Faults.{faults_as_items}
use Rattle.nx_events.specs.Items.{token_span, is_behind, own_bindings, start_items}
use Rattle.nx_events.specs.ItemsMove.{moved_attribute, characters_move, as_items_move, attributes_move, declared_faults_move, declared_pairs_stay, attribute_items_move}
use Rattle.nx_events.specs.Moves.{placed_item}
use Rattle.nx_events.specs.Runs.{run_items}
use Rattle.nx_events.specs.SpelledTags.{IsName}
use Rattle.nx_events.specs.Tags.{start_name, attributes_from, tag_attributes}
use Rattle.nx_events.specs.declared.item.Event.TheVariants.{TagEnd}
use Rattle.nx_events.specs.declared.item.Item.{Item}
use Rattle.nx_events.specs.declared.item.Item.TheVariants as items
use Rattle.nx_events.specs.declared.reading.Reading.TheVariants.{Value}
use Rattle.nx_events.specs.declared.scope.Binding.{Binding}
use Rattle.nx_events.specs.declared.state.EventState.{EventState}
use Rattle.nx_events.specs.declared.tag.Attribute.{Attribute}
use Rattle.nx_tags.specs.Renamed.{span_by, item_by}
use Rattle.nx_tags.proofs.ReadTags.{faults_behind_name}
use Rattle.nx_tags.proofs.RenamingItems.{all_alike, unmoved, all_placed, run_items_within}

-- ---- a tag by its name and what follows it

pub record IsRead (tag : Token) (name tail : List ℕ) : Type 0 where
  pub is : IsName name
  pub utf8 : IsUtf8 tail
  pub bytes : tag.bytes ≡ 60 ∷ (name ++ tail)
  pub named : start_name (60 ∷ (name ++ tail)) ≡ name

-- its attributes, counted from the end of its name
abbrev pub further : List ℕ → List Attribute
further tail = attributes_from 0 0 tail

module _ (tag : Token) (name tail : List ℕ) (read : IsRead tag name tail) where
  abbrev behind : ℕ
  behind = tag.from + (1 + length name)

  attributes_are : tag_attributes tag.from tag.bytes ≡ map (moved_attribute behind) (further tail)
  unfolding tag_attributes
  attributes_are =
      let size : length (60 ∷ name) ≡ 1 + length name = omega arith in
      let none : behind ≡ behind + 0 = omega arith in
      ap (tag_attributes tag.from) read.bytes
      ∙ ap (λ n. attributes_from 0 (tag.from + (1 + length n)) (drop (1 + length n) (60 ∷ (name ++ tail)))) read.named
      ∙ ap (attributes_from 0 behind) (drop_at (60 ∷ name) tail (1 + length name) size)
      ∙ ap (λ n. attributes_from 0 n tail) none ∙ attributes_move 0 behind 0 tail

  pub own_is : own_bindings tag ≡ bindings [] (further tail)
  own_is = ap (bindings []) attributes_are ∙ declared_pairs_stay behind [] (further tail)

  characters_are : faults_as_items (character_faults Value tag.from tag.bytes) ≡ map (placed_item behind) (faults_as_items (character_faults Value 0 tail))
  characters_are =
      let none : behind ≡ behind + 0 = omega arith in
      ap (λ bs. faults_as_items (character_faults Value tag.from bs)) read.bytes
      ∙ ap faults_as_items (faults_behind_name tag.from name tail read.is read.utf8 ∙ ap (λ n. character_faults Value n tail) none ∙ characters_move behind Value 0 tail)
      ∙ as_items_move behind (character_faults Value 0 tail)

  declarations_are : faults_as_items (declaration_faults [] (tag_attributes tag.from tag.bytes))
      ≡ map (placed_item behind) (faults_as_items (declaration_faults [] (further tail)))
  declarations_are =
      ap (λ (xs : List Attribute). faults_as_items (declaration_faults [] xs)) attributes_are
      ∙ ap faults_as_items (declared_faults_move behind [] (further tail)) ∙ as_items_move behind (declaration_faults [] (further tail))

  others_are : (scope : List Binding) → attribute_items scope [] (tag_attributes tag.from tag.bytes)
      ≡ map (placed_item behind) (attribute_items scope [] (further tail))
  others_are scope = ap (attribute_items scope []) attributes_are ∙ attribute_items_move behind scope [] (further tail)

-- ---- its items, in front of its element and behind it

abbrev pub front_part : EventState → Token → List Item
front_part state tag =
    run_items tag.from state.run
    ++ (faults_as_items (character_faults Value tag.from tag.bytes)
    ++ faults_as_items (declaration_faults [] (tag_attributes tag.from tag.bytes)))

abbrev pub element_part : EventState → Token → List Item
element_part state tag =
    element_items (token_span tag) (element_resolved (is_behind state) (state.scope ++ own_bindings tag) (start_name tag.bytes))

abbrev pub back_part : EventState → Token → List Item
back_part state tag =
    attribute_items (state.scope ++ own_bindings tag) [] (tag_attributes tag.from tag.bytes) ++ items.Event TagEnd (token_span tag) ∷ []

six : (a b c d e f : List Item) → a ++ b ++ c ++ d ++ e ++ f ≡ (a ++ (b ++ c)) ++ (d ++ (e ++ f))
six a b c d e f = simp append_assoc

pub start_parts : (state : EventState) (tag : Token) → start_items state tag ≡ front_part state tag ++ (element_part state tag ++ back_part state tag)
unfolding start_items
start_parts state tag =
    six (run_items tag.from state.run) (faults_as_items (character_faults Value tag.from tag.bytes))
    (faults_as_items (declaration_faults [] (tag_attributes tag.from tag.bytes))) (element_part state tag)
    (attribute_items (state.scope ++ own_bindings tag) [] (tag_attributes tag.from tag.bytes)) (items.Event TagEnd (token_span tag) ∷ [])

-- ---- two tags that differ in their names

module _ (m : ℕ → ℕ) (state : EventState) (old new : Token) (name other tail : List ℕ) (old_is : IsRead old name tail) (new_is : IsRead new other tail)
    (from : new.from ≡ old.from) (low : (p : ℕ) → p ≤ old.from → m p ≡ p)
    (shift : (p : ℕ) → m (old.from + (1 + length name) + p) ≡ new.from + (1 + length other) + p) where
  abbrev there : ℕ
  there = new.from + (1 + length other)

  abbrev here : ℕ
  here = old.from + (1 + length name)

  joined_moved : (xs ys zs ws : List Item) → xs ≡ map (item_by m) zs → ys ≡ map (item_by m) ws → xs ++ ys ≡ map (item_by m) (zs ++ ws)
  joined_moved xs ys zs ws e f =
      ap (λ (us : List Item). us ++ ys) e ∙ ap (λ (us : List Item). map (item_by m) zs ++ us) f ∙ sym (map-append (item_by m) zs ws)

  placed_moved : (xs ys base : List Item) → xs ≡ map (placed_item there) base → ys ≡ map (placed_item here) base → xs ≡ map (item_by m) ys
  placed_moved xs ys base e f = e ∙ all_placed m here there shift base ∙ ap (map (item_by m)) (sym f)

  run_kept : run_items new.from state.run ≡ map (item_by m) (run_items old.from state.run)
  run_kept =
      ap (λ n. run_items n state.run) from
      ∙ sym (unmoved (run_items old.from state.run))
      ∙ all_alike (λ p. p) m 0 old.from (λ p le. sym (low p le)) (run_items old.from state.run) (run_items_within old.from state.run)

  pub front_moved : front_part state new ≡ map (item_by m) (front_part state old)
  front_moved =
      joined_moved (run_items new.from state.run)
      (faults_as_items (character_faults Value new.from new.bytes) ++ faults_as_items (declaration_faults [] (tag_attributes new.from new.bytes)))
      (run_items old.from state.run)
      (faults_as_items (character_faults Value old.from old.bytes) ++ faults_as_items (declaration_faults [] (tag_attributes old.from old.bytes)))
      run_kept
      (joined_moved (faults_as_items (character_faults Value new.from new.bytes)) (faults_as_items (declaration_faults [] (tag_attributes new.from new.bytes)))
      (faults_as_items (character_faults Value old.from old.bytes)) (faults_as_items (declaration_faults [] (tag_attributes old.from old.bytes)))
      (placed_moved (faults_as_items (character_faults Value new.from new.bytes)) (faults_as_items (character_faults Value old.from old.bytes))
      (faults_as_items (character_faults Value 0 tail)) (characters_are new other tail new_is) (characters_are old name tail old_is))
      (placed_moved (faults_as_items (declaration_faults [] (tag_attributes new.from new.bytes))) (faults_as_items (declaration_faults [] (tag_attributes old.from old.bytes)))
      (faults_as_items (declaration_faults [] (further tail))) (declarations_are new other tail new_is) (declarations_are old name tail old_is)))

  pub own_same : own_bindings new ≡ own_bindings old
  own_same = own_is new other tail new_is ∙ sym (own_is old name tail old_is)

  pub span_moved : token_span new ≡ span_by m (token_span old)
  span_moved =
      let new_size : length new.bytes ≡ suc (length (other ++ tail)) = ap length new_is.bytes in
      let old_size : length old.bytes ≡ suc (length (name ++ tail)) = ap length old_is.bytes in
      let a = length-append other tail in
      let b = length-append name tail in
      let begin : new.from ≡ m old.from = from ∙ sym (low old.from (omega arith)) in
      let at_end : old.from + (1 + length name) + length tail ≡ old.from + length old.bytes = omega (arith, old_size, b) in
      let end : new.from + length new.bytes ≡ m (old.from + length old.bytes) =
      (let e : new.from + length new.bytes ≡ new.from + (1 + length other) + length tail = omega (arith, new_size, a) in e ∙ sym (shift (length tail)) ∙ ap m at_end) in
      ap (λ n. record { from = n; to = new.from + length new.bytes }) begin ∙ ap (λ n. record { from = m old.from; to = n }) end

  tag_end_moved : items.Event TagEnd (token_span new) ∷ [] ≡ map (item_by m) (items.Event TagEnd (token_span old) ∷ [])
  tag_end_moved = ap (λ (s : Span). items.Event TagEnd s ∷ []) span_moved

  pub back_moved : back_part state new ≡ map (item_by m) (back_part state old)
  back_moved =
      ap (λ (own : List Binding). attribute_items (state.scope ++ own) [] (tag_attributes new.from new.bytes) ++ items.Event TagEnd (token_span new) ∷ []) own_same
      ∙ joined_moved (attribute_items (state.scope ++ own_bindings old) [] (tag_attributes new.from new.bytes)) (items.Event TagEnd (token_span new) ∷ [])
      (attribute_items (state.scope ++ own_bindings old) [] (tag_attributes old.from old.bytes)) (items.Event TagEnd (token_span old) ∷ [])
      (placed_moved (attribute_items (state.scope ++ own_bindings old) [] (tag_attributes new.from new.bytes))
      (attribute_items (state.scope ++ own_bindings old) [] (tag_attributes old.from old.bytes))
      (attribute_items (state.scope ++ own_bindings old) [] (further tail))
      (others_are new other tail new_is (state.scope ++ own_bindings old)) (others_are old name tail old_is (state.scope ++ own_bindings old)))
      tag_end_moved

  pub element_is : element_part state new
      ≡ element_items (span_by m (token_span old)) (element_resolved (is_behind state) (state.scope ++ own_bindings old) other)
  element_is =
      ap (λ (s : Span). element_items s (element_resolved (is_behind state) (state.scope ++ own_bindings new) (start_name new.bytes))) span_moved
      ∙ ap (λ (own : List Binding). element_items (span_by m (token_span old)) (element_resolved (is_behind state) (state.scope ++ own) (start_name new.bytes))) own_same
      ∙ ap (λ n. element_items (span_by m (token_span old)) (element_resolved (is_behind state) (state.scope ++ own_bindings old) n))
      (ap start_name new_is.bytes ∙ new_is.named)
