-- What tags give that are put in at a free place.
use Rattle.std.proofs.Common.{◌≡◌, ℕ, ◌+◌, ◌-◌, ◌<◌, true, false, inl, inr, None, List, [], ◌∷◌, ◌++◌, length, map, take, drop, refl, sym, ◌∙◌, ap}
use Rattle.std.proofs.Common.{subst, arith, append_assoc, append-nil, length-append}
use Rattle.std.specs.Prelude.{◌||◌}
use Rattle.std.specs.List.{AllByRecursion, flat_map, list_any}
use Rattle.std.specs.Str.{IsUtf8}
use Rattle.std.proofs.lemmas.Bool.{cases_Bool, cases_lt, or_left}
use Rattle.std.proofs.lemmas.List.{drop-drop, drop_at, take_all}
use Rattle.std.proofs.lemmas.Str.{IsUtf8-append, IsUtf8-drop, IsCharBoundary-start}
use Rattle.nx_base.specs.Text.{IsPlace, edited}
use Rattle.nx_base.specs.Tokens.{tokens_from, tokens_of}
use Rattle.nx_base.specs.declared.token.Token.{Token}
use Rattle.nx_base.specs.declared.token.TokenKind.TheVariants as kinds
use Rattle.nx_events.specs.Declarations.{is_declaration, bindings, bindings_at}
use Rattle.nx_events.specs.Items.{first_state, own_bindings, items_of_token, state_behind}
use Rattle.nx_events.specs.Moves.{placed_token}
use Rattle.nx_events.specs.OpenTags.{state_after, elements_of}
use Rattle.nx_events.specs.Prefixes.{innermost_name}
use Rattle.nx_events.specs.Runs.{run_items}
use Rattle.nx_events.specs.SpelledTags.{IsName}
use Rattle.nx_events.specs.Tags.{start_name, tag_attributes}
use Rattle.nx_events.specs.declared.scope.Binding.{Binding}
use Rattle.nx_events.specs.declared.tag.Attribute.{Attribute}
use Rattle.nx_events.specs.declared.state.EventState.{EventState}
use Rattle.nx_events.specs.declared.state.OpenElement.{OpenElement}
use Rattle.nx_tags.specs.Answers.{innermost_name_at}
use Rattle.nx_tags.specs.Changing.{start_tag, end_tag}
use Rattle.nx_events.proofs.StatesKnown.{states_are_known, flat_append, elements_append, elements_len}
use Rattle.nx_tags.specs.Elements.{MayBeSplit}
use Rattle.nx_tags.specs.Free.{IsFree, IsCutWell}
use Rattle.nx_tags.specs.Given.{start_token, end_token, PutsIn, IsFinished, IsPaired, IsSplit}
use Rattle.nx_tags.specs.Parts.{cuts, ending_by, in_front, state_at}
use Rattle.nx_tags.proofs.Around.{Around, PartsText, behind_place, stands_there, after_utf8, after_back, after_place, front_lies, around_insertion, behind_insertion}
use Rattle.nx_tags.proofs.NameTags.{start_is_token, end_is_token, start_tag_utf8, end_tag_utf8}
use Rattle.nx_tags.proofs.OpenNames.{tokens_named, front_named, named_after, AreNamed}
use Rattle.nx_tags.proofs.TagItems.{LastOf, last_open, innermost_last, ending, ended, beginning, begun}

-- ---- what a free place is free of

pub text_alone : (state : EventState) (at : ℕ) (tokens : List Token) →
    AllByRecursion (λ (token : Token). cuts at token ≡ true → IsCutWell state at token) tokens → PartsText at tokens
text_alone state at [] h = tt
text_alone state at (t ∷ ts) h = (λ e. (h.0 e).kind, text_alone state at ts h.1)

-- at the start of a text nothing is open
nothing_in_front : (text : List ℕ) → IsUtf8 text → in_front text 0 ≡ []
nothing_in_front text utf8 =
    let b = behind_place (length text) text 0 0 utf8 (IsCharBoundary-start text utf8) (omega arith) (omega arith) in
    ap (ending_by 0) b.kept ∙ b.none

not_at_start : (text : List ℕ) (at : ℕ) → IsUtf8 text → 0 < length (state_at text at).elements → 0 < at
unfolding state_after
not_at_start text at utf8 some_open =
    elim (cases_lt 0 at) [
      | inl some ↦ some
      | inr none ↦
          absurd (let start : at ≡ 0 = omega arith in
          let front : in_front text at ≡ [] = ap (in_front text) start ∙ nothing_in_front text utf8 in
          let empty : length (state_at text at).elements ≡ 0 = ap (λ ts. length (state_after first_state ts).elements) front in
          omega arith)
    ]

-- the names of what is open
open_named : (text : List ℕ) (at : ℕ) → IsUtf8 text → PartsText at (tokens_of text) → AreNamed (state_at text at).elements
open_named text at utf8 alone =
    named_after first_state (in_front text at) tt
    (front_named at (tokens_of text) (tokens_named (length text - 0) text 0 utf8 (IsCharBoundary-start text utf8) (omega arith)) alone)

last_named : (outer : List OpenElement) (element : OpenElement) → AreNamed (outer ++ element ∷ []) → IsName element.written
last_named [] element h = h.0
last_named (x ∷ outer) element h = last_named outer element h.1

-- an insertion of tags, by the tokens that it makes
module _ (text rest : List ℕ) (at : ℕ) (utf8 : IsUtf8 text) (added_utf8 : IsUtf8 (60 ∷ rest)) (place : IsPlace text at) (free : IsFree text at) where
  some_before : 0 < at
  some_before = not_at_start text at utf8 free.opened

  all_around : Around text (edited text at at (60 ∷ rest)) at 0
  all_around = around_insertion text rest at utf8 added_utf8 place some_before free.ended (text_alone (state_at text at) at (tokens_of text) free.cut_well)

  puts_in : (tags : List Token) → IsPlace (edited text at at (60 ∷ rest)) (length (60 ∷ rest) + at) →
      tokens_from (edited text at at (60 ∷ rest)) at ≡ tags ++ tokens_from (edited text at at (60 ∷ rest)) (length (60 ∷ rest) + at) →
      PutsIn text at tags (length (60 ∷ rest)) (edited text at at (60 ∷ rest))
  puts_in tags border there =
      all_around.front ∙ ap (λ ts. in_front text at ++ ts) (there ∙ ap (λ ts. tags ++ ts)
      (behind_insertion text rest at utf8 added_utf8 place some_before border ∙ ap (map (placed_token (length (60 ∷ rest)))) (sym all_around.back)))

-- ---- finishing

module _ (text : List ℕ) (at : ℕ) (utf8 : IsUtf8 text) (place : IsPlace text at) (free : IsFree text at) where
  last : LastOf (state_at text at).elements
  last = last_open (state_at text at).elements free.opened

  pub name_is : IsName (innermost_name_at text at)
  name_is =
      subst (λ n. IsName n) (sym last.name)
      (last_named last.outer last.innermost (subst (λ xs. AreNamed xs) last.split (open_named text at utf8 (text_alone (state_at text at) at (tokens_of text) free.cut_well))))

  pub finishing : IsFinished text at (edited text at at (end_tag (innermost_name_at text at)))
  finishing =
      let name = innermost_name_at text at in
      let rest : List ℕ = 47 ∷ (name ++ 62 ∷ []) in
      let tag_utf8 = end_tag_utf8 name name_is in
      let some = not_at_start text at utf8 free.opened in
      let after_is = after_utf8 text rest at utf8 tag_utf8 place some in
      let there = stands_there (edited text at at (end_tag name)) at kinds.End (end_tag name) (drop at text) after_is
      (after_place text rest at utf8 tag_utf8 place some) some (after_back text rest at utf8 tag_utf8 place some) (omega arith)
      (end_is_token false name (drop at text) name_is (IsUtf8-drop text at utf8 place)) in
      let turned : at + length (end_tag name) ≡ length (end_tag name) + at = omega arith in
      record {
        tokens = puts_in text rest at utf8 tag_utf8 place free (end_token at name ∷ [])
            (subst (λ n. IsPlace (edited text at at (end_tag name)) n) turned there.border)
            (there.tokens ∙ ap (λ n. end_token at name ∷ tokens_from (edited text at at (end_tag name)) n) turned);
        items = ending (state_at text at) at name name_is last.outer last.innermost last.split (sym last.name);
      }

-- ---- an element without content

module _ (text name : List ℕ) (at : ℕ) (utf8 : IsUtf8 text) (place : IsPlace text at) (is : IsName name) (free : IsFree text at) where
  pub pairing : IsPaired text at name (edited text at at (start_tag name ++ end_tag name))
  unfolding run_items
  pairing =
      let state = state_at text at in
      let first = start_tag name in
      let second = end_tag name in
      let rest : List ℕ = (name ++ 62 ∷ []) ++ second in
      let tags_utf8 : IsUtf8 (first ++ second) = IsUtf8-append first second (start_tag_utf8 name is) (end_tag_utf8 name is) in
      let some = not_at_start text at utf8 free.opened in
      let after = edited text at at (first ++ second) in
      let after_is = after_utf8 text rest at utf8 tags_utf8 place some in
      let back : drop at after ≡ (first ++ second) ++ drop at text = after_back text rest at utf8 tags_utf8 place some in
      let begins : drop at after ≡ first ++ (second ++ drop at text) = back ∙ append_assoc first second (drop at text) in
      let text_behind = IsUtf8-drop text at utf8 place in
      let one = stands_there after at kinds.Start first (second ++ drop at text) after_is
      (after_place text rest at utf8 tags_utf8 place some) some begins (omega arith)
      (start_is_token false name (second ++ drop at text) is (IsUtf8-append second (drop at text) (end_tag_utf8 name is) text_behind)) in
      let goes_on : drop (at + length first) after ≡ second ++ drop at text =
      sym (drop-drop (length first) at after) ∙ ap (drop (length first)) begins ∙ drop_at first (second ++ drop at text) (length first) refl in
      let two = stands_there after (at + length first) kinds.End second (drop at text) after_is one.border (omega arith) goes_on (omega arith)
      (end_is_token false name (drop at text) is text_behind) in
      let turned : at + length first + length second ≡ length (first ++ second) + at = (let k = length-append first second in omega arith) in
      let start_state = begun state at name is in
      let element : OpenElement = record { written = name; outer = length state.scope } in
      let inner : EventState = record state { elements = state.elements ++ element ∷ []; scope = state.scope; came = true; started = true; run = None } in
      record {
        tokens = puts_in text rest at utf8 tags_utf8 place free (start_token at name ∷ end_token (at + length first) name ∷ [])
            (subst (λ n. IsPlace after n) turned two.border)
            (one.tokens ∙ ap (λ ts. start_token at name ∷ ts) (two.tokens ∙ ap (λ n. end_token (at + length first) name ∷ tokens_from after n) turned));
        start = beginning state at name is free.opened;
        end = ap (λ (s : EventState). items_of_token s (end_token (at + length first) name)) start_state
            ∙ ending inner (at + length first) name is state.elements element refl refl;
        state = ap (λ (s : EventState). state_behind s (end_token (at + length first) name)) start_state
            ∙ ended inner (at + length first) name is state.elements element refl refl
            ∙ ap (λ (scope : List Binding). record state { scope = scope; came = true; started = true; run = None })
            (take_all (length state.scope) state.scope (omega arith));
      }

-- ---- parting an element

none_declared : (before all : List Attribute) → list_any (λ (it : Attribute). is_declaration it.name) all ≡ false → bindings before all ≡ []
unfolding bindings bindings_at
none_declared before [] h = refl
none_declared before (it ∷ others) h =
    elim (cases_Bool (is_declaration it.name)) [
      | inl e ↦ absurd (let bad : true ≡ false = sym (or_left (is_declaration it.name) (list_any (λ (it : Attribute). is_declaration it.name) others) e) ∙ h in cc)
      | inr e ↦
          (let rest : list_any (λ (it : Attribute). is_declaration it.name) others ≡ false =
          ap (λ b. b || list_any (λ (it : Attribute). is_declaration it.name) others) (sym e) ∙ h in
          rw e (none_declared (before ++ it ∷ []) others rest))
    ]

element_is : (a b : OpenElement) → a.written ≡ b.written → a.outer ≡ b.outer → a ≡ b
element_is a b w o = ap (λ x. record { written = x; outer = a.outer }) w ∙ ap (λ x. record { written = b.written; outer = x }) o

-- the innermost element, whose start tag declares nothing
record IsPlainlyOpen (state : EventState) : Type 0 where
  outer : List OpenElement
  element : OpenElement
  split : state.elements ≡ outer ++ element ∷ []
  around : 0 < length outer
  scope : element.outer ≡ length state.scope

plainly_open : (text : List ℕ) (at : ℕ) → IsUtf8 text → IsPlace text at → MayBeSplit text at → IsPlainlyOpen (state_at text at)
unfolding elements_of
plainly_open text at utf8 place may =
    let alone = text_alone (state_at text at) at (tokens_of text) may.free.cut_well in
    let known = states_are_known (in_front text at) at (front_lies text at utf8 place alone) in
    let tags_are = (known.3 (may.outer ++ may.tag ∷ []) may.run may.opened).0 in
    let state = known.4 in
    let none : own_bindings may.tag ≡ [] = none_declared [] (tag_attributes may.tag.from may.tag.bytes) may.declares_nothing in
    let scope : (state_at text at).scope ≡ flat_map own_bindings may.outer =
    state.scope ∙ ap (flat_map own_bindings) (sym tags_are) ∙ flat_append own_bindings may.outer (may.tag ∷ [])
    ∙ ap (λ (own : List Binding). flat_map own_bindings may.outer ++ (own ++ [])) none ∙ append-nil (flat_map own_bindings may.outer) in
    let len = elements_len 0 may.outer in
    let some = may.around in
    record {
      outer = elements_of 0 may.outer;
      element = record { written = start_name may.tag.bytes; outer = 0 + length (flat_map own_bindings may.outer) };
      split = state.elements ∙ ap (elements_of 0) (sym tags_are) ∙ elements_append 0 may.outer (may.tag ∷ []);
      around = omega arith;
      scope = (let e : 0 + length (flat_map own_bindings may.outer) ≡ length (flat_map own_bindings may.outer) = omega arith in e ∙ ap length (sym scope));
    }

module _ (text : List ℕ) (at : ℕ) (utf8 : IsUtf8 text) (place : IsPlace text at) (may : MayBeSplit text at) where
  pub splitting : IsSplit text at (edited text at at (end_tag (innermost_name_at text at) ++ start_tag (innermost_name_at text at)))
  unfolding run_items
  splitting =
      let state = state_at text at in
      let name = innermost_name_at text at in
      let is : IsName name = name_is text at utf8 place may.free in
      let first = end_tag name in
      let second = start_tag name in
      let rest : List ℕ = (47 ∷ (name ++ 62 ∷ [])) ++ second in
      let tags_utf8 : IsUtf8 (first ++ second) = IsUtf8-append first second (end_tag_utf8 name is) (start_tag_utf8 name is) in
      let some = not_at_start text at utf8 may.free.opened in
      let after = edited text at at (first ++ second) in
      let after_is = after_utf8 text rest at utf8 tags_utf8 place some in
      let back : drop at after ≡ (first ++ second) ++ drop at text = after_back text rest at utf8 tags_utf8 place some in
      let begins : drop at after ≡ first ++ (second ++ drop at text) = back ∙ append_assoc first second (drop at text) in
      let text_behind = IsUtf8-drop text at utf8 place in
      let one = stands_there after at kinds.End first (second ++ drop at text) after_is
      (after_place text rest at utf8 tags_utf8 place some) some begins (omega arith)
      (end_is_token false name (second ++ drop at text) is (IsUtf8-append second (drop at text) (start_tag_utf8 name is) text_behind)) in
      let goes_on : drop (at + length first) after ≡ second ++ drop at text =
      sym (drop-drop (length first) at after) ∙ ap (drop (length first)) begins ∙ drop_at first (second ++ drop at text) (length first) refl in
      let two = stands_there after (at + length first) kinds.Start second (drop at text) after_is one.border (omega arith) goes_on (omega arith)
      (start_is_token false name (drop at text) is text_behind) in
      let turned : at + length first + length second ≡ length (first ++ second) + at = (let k = length-append first second in omega arith) in
      let here = plainly_open text at utf8 place may in
      let named : here.element.written ≡ name = sym (innermost_last here.outer here.element) ∙ ap innermost_name (sym here.split) in
      let scope_stays : take here.element.outer state.scope ≡ state.scope =
      ap (λ n. take n state.scope) here.scope ∙ take_all (length state.scope) state.scope (omega arith) in
      let outside : EventState = record state { elements = here.outer; scope = state.scope; came = true; run = None } in
      let left : state_behind state (end_token at name) ≡ outside =
      ended state at name is here.outer here.element here.split named
      ∙ ap (λ (scope : List Binding). record state { elements = here.outer; scope = scope; came = true; run = None }) scope_stays in
      let again : OpenElement = record { written = name; outer = length state.scope } in
      let same_element : here.element ≡ again = element_is here.element again named here.scope in
      record {
        tokens = puts_in text rest at utf8 tags_utf8 place may.free (end_token at name ∷ start_token (at + length first) name ∷ [])
            (subst (λ n. IsPlace after n) turned two.border)
            (one.tokens ∙ ap (λ ts. end_token at name ∷ ts) (two.tokens ∙ ap (λ n. start_token (at + length first) name ∷ tokens_from after n) turned));
        end = ending state at name is here.outer here.element here.split named;
        start = ap (λ (s : EventState). items_of_token s (start_token (at + length first) name)) left
            ∙ beginning outside (at + length first) name is here.around;
        state = ap (λ (s : EventState). state_behind s (start_token (at + length first) name)) left
            ∙ begun outside (at + length first) name is
            ∙ ap (λ (elements : List OpenElement). record state { elements = elements; came = true; started = true; run = None })
            (ap (λ (x : OpenElement). here.outer ++ x ∷ []) (sym same_element) ∙ sym here.split);
      }
