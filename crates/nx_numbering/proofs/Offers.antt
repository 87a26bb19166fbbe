-- Against languages that are one but for numbers the same may stand at each place.
use Rattle.std.proofs.Common.{◌≡◌, ℕ, List, [], ◌∷◌, refl, sym, subst, Option, Some, None}
use Rattle.nx_base.specs.declared.name.Name.{Name}
use Rattle.nx_base.specs.declared.offer.Offer.{Offer}
use Rattle.nx_base.specs.declared.offer.Offer.TheVariants as offer
use Rattle.nx_base.specs.declared.offer.Offers.{Offers}
use Rattle.nx_base.specs.declared.offer.Offers.TheVariants as answers
use Rattle.nx_base.specs.Trees as trees
use Rattle.nx_events.specs.declared.item.Item.{Item}
use Rattle.nx_events.specs.declared.prefix.TagPrefix.{TagPrefix}
use Rattle.nx_events.specs.declared.prefix.TagPrefix.TheVariants.{ElementName, EndName, AttributeName, AttributeValue, Elsewhere}
use Rattle.rng_core.specs.Names.{Class}
use Rattle.rng_core.specs.Patterns.{Pattern, Definition, Language}
use Rattle.rng_kept.specs.Mentioned.{IsAttributesOf, itself, of_one_or_more, of_first_choice, of_second_choice, of_first_of_group, of_second_of_group, of_first_of_interleave, of_second_of_interleave, IsClassOf, of_elements, of_attributes, IsUnmentioned, IsUnmentionedNamespace}
use Rattle.rng_kept.specs.Moves.{take, any_value}
use Rattle.rng_live.specs.Listed.{Mentions, MentionsNamespace, HasLiteral}
use Rattle.nx_recover.specs.Behind.{LevelsBehind, no_item, an_event, a_fault}
use Rattle.nx_recover.specs.Frames.{Frame, document_frame}
use Rattle.nx_recover.specs.Offered.{NameOffered, MayEnter, MayHave, ElementOffered, AttributeOffered, EndOffered, ValueOffered, IsSomeOpen, attributes_among}
use Rattle.nx_recover.specs.Offers.{Answers, AnswersBehind, AnswersInTag, OffersIn, inside, items_before, at_start, without_schema, by_prefix}
use Rattle.nx_recover.specs.declared.levels.Open.{Open}
use Rattle.nx_recover.specs.declared.levels.Open.TheVariants.{In, Begins, Lost}
use Rattle.nx_numbering.specs.Answers.{NumbersHaveSameOffers}
use Rattle.nx_numbering.specs.Numbers.{AreOneButForNumbers, Renumbers, renumbered, renumbered_in}
use Rattle.nx_numbering.proofs.Alike.{AlikeFrames, frame_can, frames_turned, documents_alike}
use Rattle.nx_numbering.proofs.Faults.{Heres, Opens, levels_on}
use Rattle.nx_numbering.proofs.Matching.{one_turned}
use Rattle.nx_numbering.proofs.Standing.{stands_on}

-- ---- what is mentioned

attributes_on : {class : Class} {p : Pattern} (f : ℕ → ℕ) → IsAttributesOf class p → IsAttributesOf class (renumbered f p)
attributes_on f itself = itself
attributes_on f (of_one_or_more h) = of_one_or_more (attributes_on f h)
attributes_on f (of_first_choice h) = of_first_choice (attributes_on f h)
attributes_on f (of_second_choice h) = of_second_choice (attributes_on f h)
attributes_on f (of_first_of_group h) = of_first_of_group (attributes_on f h)
attributes_on f (of_second_of_group h) = of_second_of_group (attributes_on f h)
attributes_on f (of_first_of_interleave h) = of_first_of_interleave (attributes_on f h)
attributes_on f (of_second_of_interleave h) = of_second_of_interleave (attributes_on f h)

class_on : {class : Class} {d : Definition} (f : ℕ → ℕ) → IsClassOf class d → IsClassOf class (renumbered_in f d)
class_on f (of_elements is) = of_elements is
class_on f (of_attributes h) = of_attributes (attributes_on f h)

mentions_on : {f : ℕ → ℕ} {g h : Language} {n : Name} → Renumbers f g h → Mentions g.definitions n → Mentions h.definitions n
mentions_on {f = f} r m =
    record { number = f m.number; definition = renumbered_in f m.definition; class = m.class; is = r.definitions m.number m.definition m.is; of_definition = class_on f m.of_definition; mentioned = m.mentioned }

namespace_on : {f : ℕ → ℕ} {g h : Language} {ns : List ℕ} → Renumbers f g h → MentionsNamespace g.definitions ns → MentionsNamespace h.definitions ns
namespace_on {f = f} r m =
    record { number = f m.number; definition = renumbered_in f m.definition; class = m.class; is = r.definitions m.number m.definition m.is; of_definition = class_on f m.of_definition; mentioned = m.mentioned }

unmentioned_on : {f : ℕ → ℕ} {g h : Language} {n : Name} → Renumbers f h g → IsUnmentioned g.definitions n → IsUnmentioned h.definitions n
unmentioned_on {f = f} r is = λ i d class at of. is (f i) (renumbered_in f d) class (r.definitions i d at) (class_on f of)

namespace_unmentioned_on : {f : ℕ → ℕ} {g h : Language} {ns : List ℕ} → Renumbers f h g → IsUnmentionedNamespace g.definitions ns → IsUnmentionedNamespace h.definitions ns
namespace_unmentioned_on {f = f} r is = λ i d class at of. is (f i) (renumbered_in f d) class (r.definitions i d at) (class_on f of)

literal_on : {f : ℕ → ℕ} {g h : Language} {text : List ℕ} → Renumbers f g h → HasLiteral g.definitions text → HasLiteral h.definitions text
literal_on {f = f} r m =
    record { number = f m.number; definition = renumbered_in f m.definition; type = m.type; is = r.definitions m.number m.definition m.is; stands = stands_on f m.stands }

-- ---- what is offered in a frame

names_on : {g h : Language} (May Might : Name → Type 0) → AreOneButForNumbers g h → ((n : Name) → May n → Might n) → (o : Offer) → NameOffered g.definitions May o → NameOffered h.definitions Might o
names_on May Might one may (offer.Name name) k = (mentions_on one.leads_there k.0, may name k.1)
names_on May Might one may (offer.AnyIn ns) k =
    let some = k.1 in
    (namespace_on one.leads_there k.0, record { name = some.name; of = some.of; unmentioned = unmentioned_on one.leads_back some.unmentioned; may = may some.name some.may })
names_on May Might one may offer.AnyElse k = record { name = k.name; unmentioned = namespace_unmentioned_on one.leads_back k.unmentioned; may = may k.name k.may }
names_on May Might one may (offer.Value text) k = absurd k
names_on May Might one may (offer.End written) k = absurd k

elements_on : {g h : Language} {e f : Frame} → AreOneButForNumbers g h → AlikeFrames g h e f → (o : Offer) → ElementOffered g e o → ElementOffered h f o
elements_on {g = g} {h = h} {e = e} {f = f} one r o k = names_on (MayEnter g e) (MayEnter h f) one (λ n can. frame_can r (take (trees.Enter n)) can) o k

attributes_offered_on : {g h : Language} {e f : Frame} (others : List Name) → AreOneButForNumbers g h → AlikeFrames g h e f → (o : Offer) → AttributeOffered g others e o → AttributeOffered h others f o
attributes_offered_on {g = g} {h = h} {e = e} {f = f} others one r o k = names_on (MayHave g others e) (MayHave h others f) one (λ n may. (frame_can r (any_value n) may.0, may.1)) o k

values_on : {g h : Language} {e f : Frame} (name : Option Name) → AreOneButForNumbers g h → AlikeFrames g h e f → (o : Offer) → ValueOffered g name e o → ValueOffered h name f o
values_on (Some n) one r (offer.Value text) k = (literal_on one.leads_there k.0, k.1, frame_can r (take (trees.Att n text)) k.2)
values_on (Some n) one r (offer.Name name) k = absurd k
values_on (Some n) one r (offer.AnyIn ns) k = absurd k
values_on (Some n) one r offer.AnyElse k = absurd k
values_on (Some n) one r (offer.End written) k = absurd k
values_on None one r o k = absurd k

some_open_on : (g h : Language) (os ps : List (Open Frame)) → Opens g h os ps → IsSomeOpen os → IsSomeOpen ps
some_open_on g h [] ps s k = absurd k
some_open_on g h (In n ∷ os) ps s k = let P : List (Open Frame) → Type 0 = λ l. IsSomeOpen l in subst P (sym s.1) tt
some_open_on g h (Begins n a ∷ os) ps s k = let P : List (Open Frame) → Type 0 = λ l. IsSomeOpen l in subst P (sym s.2) tt
some_open_on g h (Lost a ∷ os) ps s k = let P : List (Open Frame) → Type 0 = λ l. IsSomeOpen l in subst P (sym s.2) tt

some_open_back : (g h : Language) (os ps : List (Open Frame)) → Opens g h os ps → IsSomeOpen ps → IsSomeOpen os
some_open_back g h [] ps s k = let P : List (Open Frame) → Type 0 = λ l. IsSomeOpen l in subst P s k
some_open_back g h (In n ∷ os) ps s k = tt
some_open_back g h (Begins n a ∷ os) ps s k = tt
some_open_back g h (Lost a ∷ os) ps s k = tt

end_on : {g h : Language} {e f : Frame} (os ps : List (Open Frame)) (written : List ℕ) → (IsSomeOpen os → IsSomeOpen ps) → AlikeFrames g h e f → (o : Offer) → EndOffered g written os e o → EndOffered h written ps f o
end_on os ps written some r (offer.End other) k = (k.0, some k.1, frame_can r (take trees.Leave) k.2)
end_on os ps written some r (offer.Name name) k = absurd k
end_on os ps written some r (offer.AnyIn ns) k = absurd k
end_on os ps written some r offer.AnyElse k = absurd k
end_on os ps written some r (offer.Value text) k = absurd k

-- ---- answers

answers_on : (g h : Language) (offered others : Frame → Offer → Type 0) → ((e f : Frame) → AlikeFrames g h e f → (o : Offer) → offered e o → others f o) → ((e f : Frame) → AlikeFrames g h e f → (o : Offer) → others f o → offered e o) →
    (here y : Option Frame) → Heres g h here y → (answer : Offers) → Answers offered here answer → Answers others y answer
answers_on g h offered others on back None y r answers.Nowhere k = let P : Option Frame → Type 0 = λ x. Answers others x answers.Nowhere in subst P (sym r) tt
answers_on g h offered others on back None y r (answers.List offers) k = absurd k
answers_on g h offered others on back (Some e) y r answers.Nowhere k = absurd k
answers_on g h offered others on back (Some e) y r (answers.List offers) k =
    let P : Option Frame → Type 0 = λ x. Answers others x (answers.List offers) in
    subst P (sym r.1) (record { sorted = k.sorted; exact = λ o. (λ among. on e r.0 r.2 o ((k.exact o).0 among), λ is. (k.exact o).1 (back e r.0 r.2 o is)) })

-- the levels behind items
record BehindThere (g h : Language) (y : Option Frame) (ps : List (Open Frame)) (all : List Item) (here : Option Frame) (os : List (Open Frame)) : Type 0 where
  last : Option Frame
  around : List (Open Frame)
  behind : LevelsBehind h y ps all last around
  heres : Heres g h here last
  opens : Opens g h os around

behind_on : {g h : Language} {here last : Option Frame} {os around : List (Open Frame)} {all : List Item} → AreOneButForNumbers g h → LevelsBehind g here os all last around → (y : Option Frame) (ps : List (Open Frame)) → Heres g h here y → Opens g h os ps →
    BehindThere g h y ps all last around
behind_on one no_item y ps r s = record { last = y; around = ps; behind = no_item; heres = r; opens = s }
behind_on one (an_event next behind w step rest) y ps r s =
    let k = levels_on one step y ps r s in
    let on = behind_on one rest k.last k.around k.heres k.opens in
    record { last = on.last; around = on.around; behind = an_event k.last k.around w k.step on.behind; heres = on.heres; opens = on.opens }
behind_on one (a_fault rest) y ps r s =
    let on = behind_on one rest y ps r s in
    record { last = on.last; around = on.around; behind = a_fault on.behind; heres = on.heres; opens = on.opens }

inside_on : (g h : Language) (here own y z : Option Frame) → Heres g h here y → Heres g h own z → Heres g h (inside here own) (inside y z)
inside_on g h None own y z r s = let P : Option Frame → Type 0 = λ x. Heres g h None (inside x z) in subst P (sym r) refl
inside_on g h (Some e) own y z r s = let P : Option Frame → Type 0 = λ x. Heres g h own (inside x z) in subst P (sym r.1) s

answers_behind_on : {g h : Language} {all : List Item} (offered others : List (Open Frame) → Frame → Offer → Type 0) {answer : Offers} → AreOneButForNumbers g h →
    ((os ps : List (Open Frame)) → Opens g h os ps → (e f : Frame) → AlikeFrames g h e f → (o : Offer) → offered os e o → others ps f o) →
    ((os ps : List (Open Frame)) → Opens g h os ps → (e f : Frame) → AlikeFrames g h e f → (o : Offer) → others ps f o → offered os e o) →
    AnswersBehind g all offered answer → AnswersBehind h all others answer
answers_behind_on {g = g} {h = h} offered others {answer = answer} one on back k =
    let b = behind_on one k.behind (Some (document_frame h)) [] (document_frame h, refl, documents_alike one) refl in
    record {
      here = b.last;
      elements = b.around;
      behind = b.behind;
      answers = answers_on g h (offered k.elements) (others b.around) (on k.elements b.around b.opens) (back k.elements b.around b.opens) k.here b.last b.heres answer k.answers;
    }

answers_in_tag_on : {g h : Language} {all own : List Item} (offered others : Frame → Offer → Type 0) {answer : Offers} → AreOneButForNumbers g h →
    ((e f : Frame) → AlikeFrames g h e f → (o : Offer) → offered e o → others f o) → ((e f : Frame) → AlikeFrames g h e f → (o : Offer) → others f o → offered e o) →
    AnswersInTag g all own offered answer → AnswersInTag h all own others answer
answers_in_tag_on {g = g} {h = h} offered others {answer = answer} one on back k =
    let b = behind_on one k.behind (Some (document_frame h)) [] (document_frame h, refl, documents_alike one) refl in
    let t = behind_on one k.in_tag b.last b.around b.heres b.opens in
    record {
      here = b.last;
      elements = b.around;
      behind = b.behind;
      last = t.last;
      around = t.around;
      in_tag = t.behind;
      answers = answers_on g h offered others on back (inside k.here k.last) (inside b.last t.last) (inside_on g h k.here k.last b.last t.last b.heres t.heres) answer k.answers;
    }

offers_in_on : {g h : Language} (all : List Item) (prefix : TagPrefix) (answer : Offers) → AreOneButForNumbers g h → OffersIn g all prefix answer → OffersIn h all prefix answer
offers_in_on {g = g} {h = h} all ElementName answer one k =
    answers_behind_on (λ elements f. ElementOffered g f) (λ elements f. ElementOffered h f) one (λ os ps s e f r o. elements_on one r o) (λ os ps s e f r o. elements_on (one_turned one) (frames_turned r) o) k
offers_in_on {g = g} {h = h} all (EndName written) answer one k =
    answers_behind_on (EndOffered g written) (EndOffered h written) one
    (λ os ps s e f r o. end_on os ps written (some_open_on g h os ps s) r o)
    (λ os ps s e f r o. end_on ps os written (some_open_back g h os ps s) (frames_turned r) o) k
offers_in_on {g = g} {h = h} all (AttributeName own) answer one k =
    answers_in_tag_on (AttributeOffered g (attributes_among own)) (AttributeOffered h (attributes_among own)) one
    (λ e f r o. attributes_offered_on (attributes_among own) one r o) (λ e f r o. attributes_offered_on (attributes_among own) (one_turned one) (frames_turned r) o) k
offers_in_on {g = g} {h = h} all (AttributeValue own name) answer one k =
    answers_in_tag_on (ValueOffered g name) (ValueOffered h name) one (λ e f r o. values_on name one r o) (λ e f r o. values_on name (one_turned one) (frames_turned r) o) k
offers_in_on all Elsewhere answer one k = k

pub numbers_have_same_offers : NumbersHaveSameOffers
numbers_have_same_offers g h text at offers one (at_start start) = at_start start
numbers_have_same_offers g h text at offers one (without_schema none) = let never : ⊥ = cc in absurd never
numbers_have_same_offers g h text at offers one (by_prefix k same p prefix is in_it) =
    let eq : k ≡ g = cc in
    by_prefix h refl p prefix is (offers_in_on (items_before p) prefix offers one (subst (λ (x : Language). OffersIn x (items_before p) prefix offers) eq in_it))
