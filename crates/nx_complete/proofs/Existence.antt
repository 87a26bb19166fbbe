-- Each place of a text has an answer: what is being written there is told, and what is listed of residuals answers it.
use Rattle.std.proofs.Common.{◌≡◌, ℕ, zero, suc, List, [], ◌∷◌, map, Option, Some, None, refl, sym, subst, inl, inr, arith}
use Rattle.std.specs.Prelude.{IsUtf8}
use Rattle.std.proofs.lemmas.Bool.{cases_eq}
use Rattle.nx_base.specs.Rules.{lexeme_of}
use Rattle.nx_base.specs.Running.{after_all}
use Rattle.nx_base.specs.Text.{IsPlace}
use Rattle.nx_base.specs.declared.name.Name.{Name}
use Rattle.nx_base.specs.declared.offer.Offer.{Offer}
use Rattle.nx_base.specs.declared.offer.Offers.{Offers}
use Rattle.nx_base.specs.declared.offer.Offers.TheVariants as answers
use Rattle.rng_core.specs.Patterns.{Definition, Language}
use Rattle.rng_kept.specs.Live.{IsLive}
use Rattle.rng_kept.specs.Residuals.{Residual}
use Rattle.nx_events.proofs.Prefixes.{prefixes_are_told}
use Rattle.nx_events.specs.Prefixes.{IsPrefix}
use Rattle.nx_events.specs.declared.prefix.TagPrefix.{TagPrefix}
use Rattle.nx_events.specs.declared.prefix.TagPrefix.TheVariants.{ElementName, EndName, AttributeName, AttributeValue, Elsewhere}
use Rattle.nx_events.specs.declared.state.EventState.{EventState}
use Rattle.nx_recover.specs.Items.{form_along}
use Rattle.nx_recover.specs.Offered.{attributes_among}
use Rattle.nx_recover.specs.Offers.{UpTo, bytes_before, at_start, without_schema}
use Rattle.nx_recover.specs.RecoverRules.{Recovered, recover_rules}
use Rattle.nx_recover.specs.Table.{Form}
use Rattle.nx_complete.specs.Answering.{Lists, ends_among, inside, PrefixAnswer, run_event, IsAnswer}
use Rattle.nx_complete.specs.Asking.{asks, others_of, apart_from, name_offers, takes_value, values_passed, ListsNames, ListsValues}
use Rattle.nx_complete.specs.Existence.{HasOffers, EveryPlaceHasOffers}
use Rattle.nx_complete.specs.declared.naming.Naming.{Naming}
use Rattle.nx_complete.specs.declared.naming.Naming.TheVariants.{Element, Attribute}
use Rattle.nx_complete.proofs.Answered.{place_answer}
use Rattle.nx_complete.proofs.Listings.{mentioned_names, mentioned_spaces, literals_of}
use Rattle.nx_complete.proofs.Places.{some_place, bytes_utf8}
use Rattle.nx_complete.proofs.Prefixed.{is_elsewhere}

-- ---- what is listed

abbrev Listed : (Residual → List Offer → Type 0) → Type 0
Listed listed = (x : Residual) → (offers : List Offer) × listed x offers

names_listed : (g : List Definition) (naming : Naming) → Listed (ListsNames g naming)
names_listed g naming x =
    let names = mentioned_names g in
    let spaces = mentioned_spaces g in
    let apart = apart_from names.0 (others_of naming) spaces.0 in (
      name_offers (asks g naming x) names.0 spaces.0 apart.ns apart.local,
      record { names = names.0; spaces = spaces.0; mentioned = names.1; mentioned_spaces = spaces.1; are = refl },
    )

values_listed : (g : List Definition) (name : Option Name) → Listed (ListsValues g name)
values_listed g None x = ([], refl)
values_listed g (Some n) x = let texts = literals_of g in (values_passed (takes_value n x) texts.0, record { texts = texts.0; literals = texts.1; are = refl })

some_answer : (listed : Residual → List Offer → Type 0) → Listed listed → (left : Option Residual) → (answer : Offers) × Lists listed left answer
some_answer listed h None = (answers.Nowhere, refl)
some_answer listed h (Some x) = let w = h x in (answers.List w.0, w.1)

prefix_answer : (g : Language) (l : Form) (prefix : TagPrefix) → (answer : Offers) × PrefixAnswer g l prefix answer
prefix_answer g l ElementName = some_answer (ListsNames g.definitions Element) (names_listed g.definitions Element) l.here
prefix_answer g l (EndName written) = some_answer (λ x offers. offers ≡ ends_among written l.elements x) (λ x. (ends_among written l.elements x, refl)) l.here
prefix_answer g l (AttributeName own) =
    let naming = Attribute (attributes_among own) in
    some_answer (ListsNames g.definitions naming) (names_listed g.definitions naming) (inside l.here (form_along g l own).here)
prefix_answer g l (AttributeValue own name) = some_answer (ListsValues g.definitions name) (values_listed g.definitions name) (inside l.here (form_along g l own).here)
prefix_answer g l Elsewhere = (answers.Nowhere, refl)

-- ---- what is being written

some_prefix : (state : EventState) (bytes : List ℕ) → IsUtf8 bytes → (prefix : TagPrefix) × IsPrefix state bytes prefix
some_prefix state [] utf8 = (Elsewhere, is_elsewhere [] (λ e. omega (arith, e)))
some_prefix state (x ∷ bytes) utf8 = elim (cases_eq x 60) [
  | inl e ↦
      (let told = prefixes_are_told state bytes (subst (λ n. IsUtf8 (n ∷ bytes)) e utf8) in
      (told.0, subst (λ n. IsPrefix state (n ∷ bytes) told.0) (sym e) told.1))
  | inr h ↦ (Elsewhere, is_elsewhere (x ∷ bytes) h)
]

-- ---- at a place

answer_there : (g : Language) → IsLive g → (text : List ℕ) (at : ℕ) → IsUtf8 text → IsPlace text at → UpTo text at → HasOffers (Some g) text at
answer_there g live text at utf8 place p =
    let rules = recover_rules (Some g) in
    let meant : Recovered = after_all rules rules.first (map lexeme_of p.front) in
    let prefix = some_prefix meant.events (bytes_before p) (bytes_utf8 text utf8 at place p) in
    let answer = prefix_answer g (form_along g meant.levels (run_event meant.events.run)) prefix.0 in
    let is : IsAnswer g meant.levels meant.events (bytes_before p) answer.0 = record { prefix = prefix.0; is = prefix.1; are = answer.1 } in
    record { answer = answer.0; is = place_answer g live text utf8 at p answer.0 is }

pub every_place_has_offers : EveryPlaceHasOffers
every_place_has_offers None text at live utf8 place = record { answer = answers.Nowhere; is = without_schema refl }
every_place_has_offers (Some g) text zero live utf8 place = record { answer = answers.Nowhere; is = at_start refl }
every_place_has_offers (Some g) text (suc at) live utf8 place = answer_there g live text (suc at) utf8 place (some_place text utf8 (suc at) (omega arith) place.0)
