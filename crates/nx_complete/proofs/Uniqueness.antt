-- A place of a text has one answer at most: one token is in front of it, one thing is being written there, and one list is what is
-- offered, in order and each once.
use Rattle.std.proofs.Common.{◌≡◌, ℕ, zero, suc, ◌-◌, List, [], ◌∷◌, ◌++◌, get_or, take, Option, Some, None, refl, sym, ap, subst, ◌∙◌, inl, inr, arith}
use Rattle.std.specs.Prelude.{IsUtf8}
use Rattle.std.specs.Cmp.{IsTotalOrder}
use Rattle.std.specs.Ordering.{nat_cmp}
use Rattle.std.proofs.lemmas.Bool.{cases_eq}
use Rattle.std.proofs.lemmas.Cmp.{then_total, on_total, nat_cmp_total}
use Rattle.std.proofs.lemmas.Map.Lookups.{CmpEqualImpliesEq, exact_unsigned, exact_pairs}
use Rattle.nx_base.specs.declared.name.Name.{Name}
use Rattle.nx_base.specs.declared.offer.Offer.{Offer}
use Rattle.nx_base.specs.declared.offer.Offer.TheVariants as offer
use Rattle.nx_base.specs.declared.offer.Offers.{Offers}
use Rattle.nx_base.specs.declared.offer.Offers.TheVariants as answers
use Rattle.nx_base.specs.declared.token.Token.{Token}
use Rattle.rng_core.specs.Patterns.{Language}
use Rattle.rng_live.specs.Order.{name_order}
use Rattle.nx_events.proofs.Prefixes.{prefixes_are_told}
use Rattle.nx_events.specs.Items.{first_state}
use Rattle.nx_events.specs.OpenTags.{state_after}
use Rattle.nx_events.specs.Prefixes.{IsPrefix}
use Rattle.nx_events.specs.Runs.{run_items}
use Rattle.nx_events.specs.declared.item.Item.{Item}
use Rattle.nx_events.specs.declared.prefix.TagPrefix.{TagPrefix}
use Rattle.nx_events.specs.declared.prefix.TagPrefix.TheVariants.{ElementName, EndName, AttributeName, AttributeValue, Elsewhere}
use Rattle.nx_events.specs.declared.state.EventState.{EventState}
use Rattle.nx_recover.specs.Behind.{LevelsBehind, items_through}
use Rattle.nx_recover.specs.Frames.{Frame}
use Rattle.nx_recover.specs.Offered.{offer_kind, offer_key, offer_order, AreOffers, ElementOffered, EndOffered, AttributeOffered, ValueOffered, attributes_among}
use Rattle.nx_recover.specs.Offers.{UpTo, state_before, items_before, bytes_before, Answers, AnswersBehind, AnswersInTag, inside, OffersIn, at_start, without_schema, by_prefix}
use Rattle.nx_recover.specs.declared.levels.Open.{Open}
use Rattle.rng_live.proofs.OrderedNames.{names_total}
use Rattle.nx_recovery.proofs.Levels.{one_behind}
use Rattle.nx_base.specs.Text.{IsPlace}
use Rattle.nx_complete.specs.Uniqueness.{OffersAreOne}
use Rattle.nx_complete.proofs.Elements.{to_in, from_in}
use Rattle.nx_complete.proofs.Order.{Among, one_list, names_exact}
use Rattle.nx_complete.proofs.Places.{one_place, bytes_utf8}
use Rattle.nx_complete.proofs.Prefixed.{is_elsewhere}

-- ---- one list of offers

offers_total : IsTotalOrder offer_order
offers_total = then_total (on_total offer_kind nat_cmp_total) (on_total offer_key names_total)

-- an offer is told by its kind and its key
abbrev offer_by : ℕ → Name → Offer
offer_by zero name = offer.Name name
offer_by (suc zero) name = offer.AnyIn name.ns
offer_by (suc (suc zero)) name = offer.AnyElse
offer_by (suc (suc (suc zero))) name = offer.Value name.ns
offer_by (suc (suc (suc (suc kind)))) name = offer.End name.ns

told_by : (o : Offer) → offer_by (offer_kind o) (offer_key o) ≡ o
told_by (offer.Name name) = refl
told_by (offer.AnyIn ns) = refl
told_by offer.AnyElse = refl
told_by (offer.Value text) = refl
told_by (offer.End written) = refl

offers_exact : CmpEqualImpliesEq offer_order
offers_exact x y same =
    let pair = exact_pairs nat_cmp name_order exact_unsigned names_exact (offer_kind x, offer_key x) (offer_kind y, offer_key y) same in
    sym (told_by x) ∙ ap (λ (p : ℕ × Name). offer_by p.0 p.1) pair ∙ told_by y

among_offered : {offered : Offer → Type 0} (xs ys : List Offer) → AreOffers offered xs → AreOffers offered ys → Among xs ys
among_offered xs ys a b o i = to_in ys o ((b.exact o).1 ((a.exact o).0 (from_in xs o i)))

same_offers : {offered : Offer → Type 0} (xs ys : List Offer) → AreOffers offered xs → AreOffers offered ys → xs ≡ ys
same_offers xs ys a b = one_list offers_total offers_exact xs ys a.sorted b.sorted (among_offered xs ys a b) (among_offered ys xs b a)

-- ---- one answer behind items

same_answers : (offered : Frame → Offer → Type 0) (here : Option Frame) (one other : Offers) → Answers offered here one → Answers offered here other → one ≡ other
same_answers offered None answers.Nowhere answers.Nowhere a b = refl
same_answers offered None answers.Nowhere (answers.List ys) a b = absurd b
same_answers offered None (answers.List xs) other a b = absurd a
same_answers offered (Some f) answers.Nowhere other a b = absurd a
same_answers offered (Some f) (answers.List xs) answers.Nowhere a b = absurd b
same_answers offered (Some f) (answers.List xs) (answers.List ys) a b = ap answers.List (same_offers xs ys a b)

module _ (g : Language) (all : List Item) where
  same_behind : (offered : List (Open Frame) → Frame → Offer → Type 0) (one other : Offers) → AnswersBehind g all offered one → AnswersBehind g all offered other → one ≡ other
  same_behind offered one other a b =
      let same = one_behind b.behind a.behind in
      let moved : Answers (offered a.elements) a.here other =
      subst (λ (os : List (Open Frame)). Answers (offered os) a.here other) same.1 (subst (λ (h : Option Frame). Answers (offered b.elements) h other) same.0 b.answers) in
      same_answers (offered a.elements) a.here one other a.answers moved

  same_in_tag : (own : List Item) (offered : Frame → Offer → Type 0) (one other : Offers) → AnswersInTag g all own offered one → AnswersInTag g all own offered other → one ≡ other
  same_in_tag own offered one other a b =
      let same = one_behind b.behind a.behind in
      let in_tag : LevelsBehind g a.here a.elements own b.last b.around =
      subst (λ (os : List (Open Frame)). LevelsBehind g a.here os own b.last b.around) same.1 (subst (λ (h : Option Frame). LevelsBehind g h b.elements own b.last b.around) same.0 b.in_tag) in
      let last = (one_behind in_tag a.in_tag).0 in
      let moved : Answers offered (inside a.here a.last) other =
      subst (λ (l : Option Frame). Answers offered (inside a.here l) other) last (subst (λ (h : Option Frame). Answers offered (inside h b.last) other) same.0 b.answers) in
      same_answers offered (inside a.here a.last) one other a.answers moved

  same_in : (prefix : TagPrefix) (one other : Offers) → OffersIn g all prefix one → OffersIn g all prefix other → one ≡ other
  same_in ElementName one other a b = same_behind (λ elements f. ElementOffered g f) one other a b
  same_in (EndName written) one other a b = same_behind (EndOffered g written) one other a b
  same_in (AttributeName own) one other a b = same_in_tag own (AttributeOffered g (attributes_among own)) one other a b
  same_in (AttributeValue own name) one other a b = same_in_tag own (ValueOffered g name) one other a b
  same_in Elsewhere one other a b = a ∙ sym b

-- ---- one thing that is being written

module _ (state : EventState) where
  elsewhere_alone : (bytes : List ℕ) → (get_or bytes 0 0 ≡ 60 → ⊥) → (prefix : TagPrefix) → IsPrefix state bytes prefix → prefix ≡ Elsewhere
  elsewhere_alone bytes h ElementName is = absurd ((is_elsewhere bytes h).no_element is)
  elsewhere_alone bytes h (EndName written) is = absurd ((is_elsewhere bytes h).no_end is.0)
  elsewhere_alone bytes h (AttributeName own) is = absurd ((is_elsewhere bytes h).no_attribute is.0 is.1)
  elsewhere_alone bytes h (AttributeValue own name) is = absurd ((is_elsewhere bytes h).no_value is.0 is.1 is.2)
  elsewhere_alone bytes h Elsewhere is = refl

  both_elsewhere : (bytes : List ℕ) → (get_or bytes 0 0 ≡ 60 → ⊥) → (one other : TagPrefix) → IsPrefix state bytes one → IsPrefix state bytes other → one ≡ other
  both_elsewhere bytes h one other a b = elsewhere_alone bytes h one a ∙ sym (elsewhere_alone bytes h other b)

  one_prefix : (bytes : List ℕ) → IsUtf8 bytes → (one other : TagPrefix) → IsPrefix state bytes one → IsPrefix state bytes other → one ≡ other
  one_prefix [] utf8 one other a b = both_elsewhere [] (λ e. omega (arith, e)) one other a b
  one_prefix (x ∷ bytes) utf8 one other a b = elim (cases_eq x 60) [
    | inl e ↦
        (let P : ℕ → TagPrefix → Type 0 = λ n p. IsPrefix state (n ∷ bytes) p in
        let told = prefixes_are_told state bytes (subst (λ n. IsUtf8 (n ∷ bytes)) e utf8) in
        told.2 one (subst (λ n. P n one) e a) ∙ sym (told.2 other (subst (λ n. P n other) e b)))
    | inr h ↦ both_elsewhere (x ∷ bytes) h one other a b
  ]

-- ---- one answer at a place

-- this is being written behind these tokens, up to the place in this token, and this answer is given
abbrev IsSaid : Language → ℕ → TagPrefix → Offers → List Token → Token → Type 0
IsSaid g at prefix answer front token =
    let state = state_after first_state front in
    IsPrefix state (take (at - token.from) token.bytes) prefix × OffersIn g (items_through first_state front ++ run_items token.from state.run) prefix answer

one_answer : (g : Language) (text : List ℕ) (at : ℕ) → IsUtf8 text → IsPlace text at → (p q : UpTo text at) (one other : Offers) (prefix also : TagPrefix) →
    IsSaid g at prefix one p.front p.token → IsSaid g at also other q.front q.token → one ≡ other
one_answer g text at utf8 place p q one other prefix also a b =
    let same = one_place text utf8 at p q in
    let here : IsSaid g at also other p.front p.token =
    subst (λ (token : Token). IsSaid g at also other p.front token) (sym same.itself) (subst (λ (front : List Token). IsSaid g at also other front q.token) (sym same.before) b) in
    let is : also ≡ prefix = one_prefix (state_before p) (bytes_before p) (bytes_utf8 text utf8 at place p) also prefix here.0 a.0 in
    same_in g (items_before p) prefix one other a.1 (subst (λ (w : TagPrefix). OffersIn g (items_before p) w other) is here.1)

pub offers_are_one : OffersAreOne
offers_are_one schema text at utf8 place one other (at_start e) (at_start f) = refl
offers_are_one schema text at utf8 place one other (at_start e) (without_schema f) = refl
offers_are_one schema text at utf8 place one other (at_start e) (by_prefix h f q also was b) = absurd (omega (arith, e, q.begun))
offers_are_one schema text at utf8 place one other (without_schema e) (at_start f) = refl
offers_are_one schema text at utf8 place one other (without_schema e) (without_schema f) = refl
offers_are_one schema text at utf8 place one other (without_schema e) (by_prefix h f q also was b) = cc
offers_are_one schema text at utf8 place one other (by_prefix g e p prefix is a) (at_start f) = absurd (omega (arith, f, p.begun))
offers_are_one schema text at utf8 place one other (by_prefix g e p prefix is a) (without_schema f) = cc
offers_are_one schema text at utf8 place one other (by_prefix g e p prefix is a) (by_prefix h f q also was b) =
    let same : h ≡ g = cc in
    one_answer g text at utf8 place p q one other prefix also (is, a) (was, subst (λ (l : Language). OffersIn l (items_before q) also other) same b)
