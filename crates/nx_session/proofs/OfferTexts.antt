-- What may stand at a place of a text is text, where the schema is sound.
use Rattle.std.proofs.Common.{◌≡◌, ℕ, zero, suc, ◌+◌, ◌-◌, ◌<◌, List, [], ◌∷◌, length, map, true, Option, Some, None, option_map, refl, sym, ap, subst, inl, inr, arith}
use Rattle.std.specs.Prelude.{slice_get, IfSome, Contains}
use Rattle.std.specs.List.{AllByRecursion}
use Rattle.std.specs.Option.{option_map_or}
use Rattle.std.specs.Str.{IsUtf8}
use Rattle.std.proofs.lemmas.Bool.{false≢true, or_cases}
use Rattle.std.proofs.lemmas.Option.{same_Some}
use Rattle.std.proofs.lemmas.Slice.Eq.{bytes_eq-Decides}
use Rattle.std.proofs.lemmas.Str.{IsUtf8-from_is_utf8, IsUtf8-nil}
use Rattle.nx_base.specs.declared.name.Name.{Name}
use Rattle.nx_base.specs.declared.offer.Offer.{Offer}
use Rattle.nx_base.specs.declared.offer.Offer.TheVariants as offer
use Rattle.nx_base.specs.declared.offer.Offers.{Offers}
use Rattle.nx_base.specs.declared.offer.Offers.TheVariants as answers
use Rattle.nx_complete.proofs.Told.{state_text}
use Rattle.nx_events.specs.Prefixes.{IsPrefix, innermost_name}
use Rattle.nx_events.specs.Texts.{StateIsText}
use Rattle.nx_events.specs.declared.item.Item.{Item}
use Rattle.nx_events.specs.declared.prefix.TagPrefix.{TagPrefix}
use Rattle.nx_events.specs.declared.prefix.TagPrefix.TheVariants.{ElementName, EndName, AttributeName, AttributeValue, Elsewhere}
use Rattle.nx_events.specs.declared.state.EventState.{EventState}
use Rattle.nx_events.specs.declared.state.OpenElement.{OpenElement}
use Rattle.nx_recover.specs.Frames.{Frame}
use Rattle.nx_recover.specs.Offered.{NameOffered, MayEnter, MayHave, ElementOffered, AttributeOffered, ValueOffered, EndOffered, attributes_among}
use Rattle.nx_recover.specs.Offers.{Answers, OffersIn, OffersOf, at_start, without_schema, by_prefix, state_before, items_before, bytes_before, inside}
use Rattle.nx_recover.specs.declared.levels.Open.{Open}
use Rattle.nx_script.specs.Replies.{OfferIsText, OffersAreText}
use Rattle.rng_core.specs.Meaning.{language_of}
use Rattle.rng_core.specs.Names.{Class, any_name, ns_name, the_name, either, without}
use Rattle.rng_core.specs.Patterns.{Definition, Language, Pattern}
use Rattle.rng_core.specs.Soundness.{IsSound, IsSoundClass, sound_ns_name, sound_name, sound_either, sound_without}
use Rattle.rng_core.specs.Soundness.{IsSoundPattern, sound_attribute, sound_one_or_more, sound_choice, sound_group, sound_interleave, IsSoundDefinition}
use Rattle.rng_core.specs.declared.grammar.Grammar.{Grammar}
use Rattle.rng_kept.specs.Mentioned.{IsClassOf, of_elements, of_attributes, class_mentions, class_mentions_ns}
use Rattle.rng_kept.specs.Mentioned.{IsAttributesOf, itself, of_one_or_more, of_first_choice, of_second_choice, of_first_of_group, of_second_of_group, of_first_of_interleave, of_second_of_interleave}
use Rattle.rng_live.specs.Listed.{Mentions, MentionsNamespace}
use Rattle.rng_residual.proofs.SoleNames.{same_name_is}

-- ---- what a sound class mentions

mentioned_text : (class : Class) (n : Name) → IsSoundClass class → class_mentions class n ≡ true → IsUtf8 n.ns × IsUtf8 n.local
mentioned_text any_name n s h = absurd (false≢true h)
mentioned_text (ns_name of) n s h = absurd (false≢true h)
mentioned_text (the_name m) n (sound_name ns local) h =
    let P : Name → Type 0 = λ k. IsUtf8 k.ns × IsUtf8 k.local in
    subst P (sym (same_name_is n m h)) (IsUtf8-from_is_utf8 m.ns ns, IsUtf8-from_is_utf8 m.local local)
mentioned_text (either c d) n (sound_either s t) h = elim (or_cases (class_mentions c n) (class_mentions d n) h) [
  | inl e ↦ mentioned_text c n s e
  | inr e ↦ mentioned_text d n t e
]
mentioned_text (without c d) n (sound_without s t) h = elim (or_cases (class_mentions c n) (class_mentions d n) h) [
  | inl e ↦ mentioned_text c n s e
  | inr e ↦ mentioned_text d n t e
]

space_text : (class : Class) (ns : List ℕ) → IsSoundClass class → class_mentions_ns class ns ≡ true → IsUtf8 ns
space_text any_name ns s h = absurd (false≢true h)
space_text (ns_name of) ns (sound_ns_name utf8) h = subst IsUtf8 (sym ((bytes_eq-Decides ns of).0 h)) (IsUtf8-from_is_utf8 of utf8)
space_text (the_name m) ns (sound_name utf8 local) h = subst IsUtf8 (sym ((bytes_eq-Decides ns m.ns).0 h)) (IsUtf8-from_is_utf8 m.ns utf8)
space_text (either c d) ns (sound_either s t) h = elim (or_cases (class_mentions_ns c ns) (class_mentions_ns d ns) h) [
  | inl e ↦ space_text c ns s e
  | inr e ↦ space_text d ns t e
]
space_text (without c d) ns (sound_without s t) h = elim (or_cases (class_mentions_ns c ns) (class_mentions_ns d ns) h) [
  | inl e ↦ space_text c ns s e
  | inr e ↦ space_text d ns t e
]

-- ---- the classes of a sound grammar are sound

attributes_sound : {count : ℕ} {class : Class} {p : Pattern} → IsAttributesOf class p → IsSoundPattern count p → IsSoundClass class
attributes_sound itself (sound_attribute c s) = c
attributes_sound (of_one_or_more a) (sound_one_or_more s) = attributes_sound a s
attributes_sound (of_first_choice a) (sound_choice s t) = attributes_sound a s
attributes_sound (of_second_choice a) (sound_choice s t) = attributes_sound a t
attributes_sound (of_first_of_group a) (sound_group s t) = attributes_sound a s
attributes_sound (of_second_of_group a) (sound_group s t) = attributes_sound a t
attributes_sound (of_first_of_interleave a) (sound_interleave s t) = attributes_sound a s
attributes_sound (of_second_of_interleave a) (sound_interleave s t) = attributes_sound a t

class_sound : {count : ℕ} {class : Class} {d : Definition} → IsClassOf class d → IsSoundDefinition count d → IsSoundClass class
class_sound (of_elements e) s = subst IsSoundClass e s.class_is
class_sound (of_attributes a) s = attributes_sound a s.content_is

-- what holds of all items holds of each
at_number : {X : Type 0} (P : X → Type 0) (xs : List X) (i : ℕ) (x : X) → AllByRecursion P xs → slice_get xs i ≡ Some x → P x
at_number P [] i x all is = absurd cc
at_number P (y ∷ xs) zero x all is = subst P (same_Some y x is) all.0
at_number P (y ∷ xs) (suc i) x all is = at_number P xs i x all.1 is

abbrev AreSound : Language → Type 0
AreSound g = AllByRecursion (IsSoundDefinition (length g.definitions)) g.definitions

-- ---- offers

name_offer_text : (g : Language) → AreSound g → (May : Name → Type 0) (o : Offer) → NameOffered g.definitions May o → OfferIsText o
name_offer_text g sound May (offer.Name n) h =
    let m = h.0 in
    mentioned_text m.class n (class_sound m.of_definition (at_number (IsSoundDefinition (length g.definitions)) g.definitions m.number m.definition sound m.is)) m.mentioned
name_offer_text g sound May (offer.AnyIn ns) h =
    let m = h.0 in
    space_text m.class ns (class_sound m.of_definition (at_number (IsSoundDefinition (length g.definitions)) g.definitions m.number m.definition sound m.is)) m.mentioned
name_offer_text g sound May offer.AnyElse h = tt
name_offer_text g sound May (offer.Value text) h = absurd h
name_offer_text g sound May (offer.End written) h = absurd h

value_offer_text : (g : Language) (name : Option Name) (f : Frame) (o : Offer) → ValueOffered g name f o → OfferIsText o
value_offer_text g None f o h = absurd h
value_offer_text g (Some n) f (offer.Value text) h = IsUtf8-from_is_utf8 text h.1
value_offer_text g (Some n) f (offer.Name name) h = absurd h
value_offer_text g (Some n) f (offer.AnyIn ns) h = absurd h
value_offer_text g (Some n) f offer.AnyElse h = absurd h
value_offer_text g (Some n) f (offer.End written) h = absurd h

end_offer_text : (g : Language) (written : List ℕ) (os : List (Open Frame)) (f : Frame) (o : Offer) → IsUtf8 written → EndOffered g written os f o → OfferIsText o
end_offer_text g written os f (offer.End other) utf8 h = subst IsUtf8 (sym h.0) utf8
end_offer_text g written os f (offer.Name name) utf8 h = absurd h
end_offer_text g written os f (offer.AnyIn ns) utf8 h = absurd h
end_offer_text g written os f offer.AnyElse utf8 h = absurd h
end_offer_text g written os f (offer.Value text) utf8 h = absurd h

all_text : (offers : List Offer) → ((o : Offer) → Contains offers o → OfferIsText o) → AllByRecursion OfferIsText offers
all_text [] h = tt
all_text (o ∷ offers) h = (h o (zero, omega arith, refl), all_text offers (λ k c. h k (suc c.0, omega (arith, c.1), c.2)))

answers_text : (offered : Frame → Offer → Type 0) (here : Option Frame) (answer : Offers) → ((f : Frame) (o : Offer) → offered f o → OfferIsText o)
    → Answers offered here answer → OffersAreText answer
answers_text offered None answers.Nowhere t h = tt
answers_text offered None (answers.List offers) t h = absurd h
answers_text offered (Some f) answers.Nowhere t h = absurd h
answers_text offered (Some f) (answers.List offers) t h = all_text offers (λ o c. t f o ((h.exact o).0 c))

-- the written name of the innermost open element
abbrev written_of : OpenElement → List ℕ
written_of element = element.written

found_text : (elements : List OpenElement) (i : ℕ) (found : Option OpenElement) → AllByRecursion (λ (element : OpenElement). IsUtf8 element.written) elements
    → slice_get elements i ≡ found → IsUtf8 (option_map_or written_of found [])
found_text elements i None h is = IsUtf8-nil
found_text elements i (Some element) h is = at_number (λ (element : OpenElement). IsUtf8 element.written) elements i element h is

innermost_text : (elements : List OpenElement) → AllByRecursion (λ (element : OpenElement). IsUtf8 element.written) elements → IsUtf8 (innermost_name elements)
innermost_text elements h = found_text elements (length elements - 1) (slice_get elements (length elements - 1)) h refl

prefix_text : (g : Language) → AreSound g → (all : List Item) (state : EventState) → StateIsText state → (bytes : List ℕ) (prefix : TagPrefix) → IsPrefix state bytes prefix
    → (answer : Offers) → OffersIn g all prefix answer → OffersAreText answer
prefix_text g sound all state text bytes ElementName is answer h =
    answers_text (ElementOffered g) h.here answer (λ f o. name_offer_text g sound (MayEnter g f) o) h.answers
prefix_text g sound all state text bytes (EndName written) is answer h =
    let utf8 : IsUtf8 written = subst IsUtf8 (sym is.1) (innermost_text state.elements text.elements) in
    answers_text (EndOffered g written h.elements) h.here answer (λ f o. end_offer_text g written h.elements f o utf8) h.answers
prefix_text g sound all state text bytes (AttributeName own) is answer h =
    answers_text (AttributeOffered g (attributes_among own)) (inside h.here h.last) answer (λ f o. name_offer_text g sound (MayHave g (attributes_among own) f) o) h.answers
prefix_text g sound all state text bytes (AttributeValue own name) is answer h =
    answers_text (ValueOffered g name) (inside h.here h.last) answer (λ f o. value_offer_text g name f o) h.answers
prefix_text g sound all state text bytes Elsewhere is answer h = subst OffersAreText (sym h) tt

-- ---- the offers of a place

sound_language : (grammar : Option Grammar) (g : Language) → IfSome grammar IsSound → option_map language_of grammar ≡ Some g → AreSound g
sound_language None g h is = absurd cc
sound_language (Some grammar) g h is = subst AreSound (same_Some (language_of grammar) g is) h.definitions_are

pub offers_text : (grammar : Option Grammar) → IfSome grammar IsSound → (text : List ℕ) → IsUtf8 text → (at : ℕ) {answer : Offers}
    → OffersOf (option_map language_of grammar) text at answer → OffersAreText answer
offers_text grammar sound text utf8 at (at_start e) = tt
offers_text grammar sound text utf8 at (without_schema e) = tt
offers_text grammar sound text utf8 at {answer} (by_prefix g is p prefix told h) =
    prefix_text g (sound_language grammar g sound is) (items_before p) (state_before p) (state_text text utf8 at p) (bytes_before p) prefix told answer h
