-- The document element among the items of a text that is read token by token.
use Rattle.std.proofs.Common.{◌≡◌, refl, sym, ap, ◌∙◌, subst, ℕ, ◌+◌, ◌-◌, ◌<◌, ◌≤◌, true, false, eqb, List, [], ◌∷◌, ◌++◌, length, Option, Some, None, arith, append_assoc, reverse, suc, take, drop, get_or, is_some, drop-cons, IsUtf8}
use Rattle.std.specs.List.{AllByRecursion, flat_map}
use Rattle.nx_base.specs.Text.{IsPlace}
use Rattle.nx_base.specs.Tokens.{tokens_from, cut}
use Rattle.nx_base.specs.declared.fault.Kind.{Kind}
use Rattle.nx_base.specs.declared.fault.Kind.TheVariants as kinds
use Rattle.nx_base.specs.declared.fault.Span.{Span}
use Rattle.nx_base.specs.declared.token.Token.{Token}
use Rattle.nx_events.specs.Items.{items_of_text, items_from, items_of_token, items_at_end, state_behind, first_state, left_out, is_before}
use Rattle.nx_events.specs.Runs.{run_items, run_back}
use Rattle.nx_events.specs.RunsGrow.{back_grows}
use Rattle.nx_events.specs.declared.item.Item.{Item}
use Rattle.nx_events.specs.declared.state.EventState.{EventState}
use Rattle.nx_events.specs.declared.state.OpenElement.{OpenElement}
use Rattle.nx_events.specs.declared.state.Run.{Run}
use Rattle.nx_locate.specs.declared.document_element.DocumentElement.{DocumentElement}
use Rattle.std.proofs.lemmas.List.{take-append-drop}
use Rattle.nx_locate.specs.ElementsFound.{IsElement}
use Rattle.nx_locate.specs.DocumentElements.{EntersNone, FirstElement, IsFirstIn, HasDocumentElement}
use Rattle.nx_locate.proofs.Cutting.{tokens_are, no_tokens}
use Rattle.nx_locate.proofs.RuleTexts.{all_append, either}
use Rattle.nx_scan.specs.Borders.{TokensGoOn, TokensFit}

-- the items before a place have no element, and those from there on are the rest
pub record HasSeen (text : List ℕ) (state : EventState) (at : ℕ) : Type 0 where
  pub seen : List Item
  pub none_seen : AllByRecursion EntersNone seen
  pub items_are : items_of_text text ≡ seen ++ items_from state (tokens_from text at) (length text)

pub seen_none : (text : List ℕ) (state : EventState) → state ≡ first_state → HasSeen text state 0
seen_none text state first =
    subst (λ s. HasSeen text s 0) (sym first) (record { seen = []; none_seen = tt; items_are = refl })

-- ---- the end of a text enters nothing

run_enters_none : (at : ℕ) (run : Option Run) → AllByRecursion EntersNone (run_items at run)
unfolding run_items
run_enters_none at None = tt
run_enters_none at (Some run) = either (AllByRecursion EntersNone) (eqb (length run.string) 0) [] (_ ∷ []) tt (tt, tt)

left_enters_none : (kind : Kind) (span : Span) (open_elements : List OpenElement) →
    AllByRecursion EntersNone (flat_map (left_out kind span) open_elements)
left_enters_none kind span [] = tt
left_enters_none kind span (one ∷ others) = (tt, (tt, left_enters_none kind span others))

end_enters_none : (state : EventState) (len : ℕ) → AllByRecursion EntersNone (items_at_end state len)
unfolding items_at_end
end_enters_none state len =
    all_append EntersNone (run_items len state.run ++ flat_map (left_out kinds.UnclosedElement (record { from = len; to = len })) (reverse state.elements)) _
    (all_append EntersNone (run_items len state.run) _ (run_enters_none len state.run)
    (left_enters_none kinds.UnclosedElement (record { from = len; to = len }) (reverse state.elements)))
    (either (AllByRecursion EntersNone) (is_before state) (_ ∷ []) [] (tt, tt) tt)

-- ---- one more token

pub back_is : (state after : EventState) (token : Token) (at : ℕ) → run_back state.run ≤ at → after ≡ state_behind state token →
    run_back after.run ≤ at + length token.bytes
back_is state after token at back behind =
    subst (λ (s : EventState). run_back s.run ≤ at + length token.bytes) (sym behind) (omega (arith, back, back_grows state token))

module _ (text : List ℕ) (state : EventState) (at : ℕ) (token : Token) (go_on : TokensGoOn) (fit : TokensFit) (is_text : IsUtf8 text)
    (place : IsPlace text at) (inside : at < length text) (is_cut : token ≡ cut text at) where
  items_are : (seen : HasSeen text state at) → items_of_text text ≡
      seen.seen ++ (items_of_token state token ++ items_from (state_behind state token) (tokens_from text (at + length token.bytes)) (length text))
  unfolding items_from
  items_are seen = seen.items_are ∙ ap (λ (ts : List Token). seen.seen ++ items_from state ts (length text)) (tokens_are text at token fit is_text place inside is_cut go_on)

  pub seen_more : (items : List Item) (after : EventState) → HasSeen text state at → items ≡ items_of_token state token →
      after ≡ state_behind state token → AllByRecursion EntersNone items → HasSeen text after (at + length token.bytes)
  seen_more items after seen items_is behind none =
      subst (λ (s : EventState). HasSeen text s (at + length token.bytes)) (sym behind) (record {
        seen = seen.seen ++ items;
        none_seen = all_append EntersNone seen.seen items seen.none_seen none;
        items_are =
            items_are seen
            ∙ ap (λ its. seen.seen ++ (its ++ rest)) (sym items_is)
            ∙ sym (append_assoc seen.seen items rest);
      })
    where
      rest : List Item
      rest = items_from (state_behind state token) (tokens_from text (at + length token.bytes)) (length text)

  pub seen_first : (items : List Item) (element : DocumentElement) → HasSeen text state at → items ≡ items_of_token state token →
      IsFirstIn text items element → HasDocumentElement text (Some element)
  seen_first items element seen items_is first = record {
    before = seen.seen ++ first.before;
    name = first.name;
    span = first.span;
    after = first.after ++ rest;
    items_are =
        items_are seen
        ∙ ap (λ its. seen.seen ++ (its ++ rest)) (sym items_is ∙ first.items_are)
        ∙ ap (λ its. seen.seen ++ its) (append_assoc first.before (_ ∷ first.after) rest)
        ∙ sym (append_assoc seen.seen first.before (_ ∷ (first.after ++ rest)));
    none_before = all_append EntersNone seen.seen first.before seen.none_seen first.none_before;
    element_is = first.element_is;
  }
    where
      rest : List Item
      rest = items_from (state_behind state token) (tokens_from text (at + length token.bytes)) (length text)

-- the whole text has no element
pub seen_all : (text : List ℕ) (state : EventState) (at : ℕ) → HasSeen text state at → length text ≤ at → HasDocumentElement text None
unfolding items_from
seen_all text state at seen past =
    subst (AllByRecursion EntersNone)
    (sym (seen.items_are ∙ ap (λ (ts : List Token). seen.seen ++ items_from state ts (length text)) (no_tokens text at past)))
    (all_append EntersNone seen.seen (items_at_end state (length text)) seen.none_seen (end_enters_none state (length text)))

-- ---- the first of some items

pub found_first : (text : List ℕ) (all : List Item) (i : ℕ) (item : Item) (found : Option DocumentElement) → is_some found ≡ true →
    AllByRecursion EntersNone (take i all) → i < length all → item ≡ get_or all i item → IsElement text item found →
    FirstElement text all found
found_first text all i item None some before inside is h = let never : ⊥ = cc in absurd never
found_first text all i item (Some element) some before inside is (name, span, item_is, element_is) =
    let next : suc i ≡ i + 1 = omega arith in
    record {
      before = take i all;
      name = name;
      span = span;
      after = drop (suc i) all;
      items_are =
          sym (take-append-drop i all)
          ∙ ap (λ its. take i all ++ its) (drop-cons all i item inside ∙ ap (λ (x : Item). x ∷ drop (suc i) all) (sym is ∙ item_is));
      none_before = before;
      element_is = element_is;
    }

pub none_found : (text : List ℕ) (all : List Item) (found : Option DocumentElement) → is_some found ≡ false → FirstElement text all found →
    AllByRecursion EntersNone all
none_found text all None some h = h
none_found text all (Some element) some h = let never : ⊥ = cc in absurd never

pub first_back : (state : EventState) → state ≡ first_state → run_back state.run ≤ 0
first_back state first = subst (λ (s : EventState). run_back s.run ≤ 0) (sym first) (omega arith)

pub seen_found : (text : List ℕ) (state : EventState) (at : ℕ) (token : Token) → TokensGoOn → TokensFit → IsUtf8 text →
    IsPlace text at → at < length text → token ≡ cut text at → (items : List Item) (found : Option DocumentElement) →
    HasSeen text state at → items ≡ items_of_token state token → is_some found ≡ true → FirstElement text items found →
    HasDocumentElement text found
seen_found text state at token go_on fit is_text place inside is_cut items None seen items_is some h = let never : ⊥ = cc in absurd never
seen_found text state at token go_on fit is_text place inside is_cut items (Some element) seen items_is some h =
    seen_first text state at token go_on fit is_text place inside is_cut items element seen items_is h
