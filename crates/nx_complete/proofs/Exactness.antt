-- In a front without faults, what is offered completes it, and what completes it is offered.
use Rattle.std.proofs.Common.{◌≡◌, ℕ, List, [], ◌++◌, drop, Option, Some, None, refl, sym, ap, subst, ◌∙◌, inl, inr, ◌-◌, arith, append_assoc}
use Rattle.std.proofs.lemmas.List.{take-append-drop}
use Rattle.std.specs.Prelude.{◌↔◌, IsTrue, IsUtf8}
use Rattle.nx_base.specs.Names.{is_xml_name, is_attribute_name}
use Rattle.nx_base.specs.Trees as trees
use Rattle.nx_base.specs.declared.name.Name.{Name}
use Rattle.nx_base.specs.declared.offer.Offer.{Offer}
use Rattle.nx_base.specs.declared.offer.Offer.TheVariants as offer
use Rattle.nx_base.specs.declared.offer.Offers.{Offers}
use Rattle.nx_base.specs.declared.offer.Offers.TheVariants as answers
use Rattle.rng_core.specs.Patterns.{Definition, Language}
use Rattle.rng_kept.specs.Events.{IsAmong}
use Rattle.rng_kept.specs.Live.{AreLive, IsLive}
use Rattle.rng_kept.specs.Mentioned.{AreUnmentionedAlike}
use Rattle.rng_kept.specs.Moves.{attributes_of}
use Rattle.rng_kept.specs.Residuals.{Residual}
use Rattle.rng_kept.specs.Standing.{Stands}
use Rattle.nx_recover.specs.Completing.{IsErrorFree, Denotes, by_name, by_namespace, by_rest}
use Rattle.nx_recover.specs.Frames.{Frame, document_frame}
use Rattle.nx_recover.specs.Offered.{AreOffers, NameOffered, ElementOffered, EndOffered, AttributeOffered, MayEnter, MayHave, attributes_among, IsSomeOpen}
use Rattle.nx_recover.specs.Behind.{LevelsBehind}
use Rattle.nx_recover.specs.Offers.{UpTo, state_before, items_before, bytes_before, Answers, inside, OffersIn, at_start, without_schema, by_prefix}
use Rattle.nx_recover.specs.Table.{Form}
use Rattle.nx_recover.specs.declared.levels.Open.{Open}
use Rattle.nx_recovery.specs.Levels.{tag_behind, own_elements, IsOfTag, StandsFor, StandsHere, lost_here, frame_here, TellLevels}
use Rattle.nx_recovery.proofs.Levels.{one_behind}
use Rattle.nx_events.specs.Prefixes.{items_so_far, IsAttributeName, IsPrefix}
use Rattle.nx_events.specs.declared.item.Item.{Item}
use Rattle.nx_events.specs.declared.prefix.TagPrefix.{TagPrefix}
use Rattle.nx_events.specs.declared.prefix.TagPrefix.TheVariants.{ElementName, EndName, AttributeName, AttributeValue, Elsewhere}
use Rattle.nx_complete.specs.Exact.{DenotesExactly, OffersExactly, IsExact, OffersAreExact}
use Rattle.nx_complete.proofs.Admitting.{entered_is_name, entered_alike, had_alike, had_is_name, some_value, any_of, attribute_new}
use Rattle.nx_complete.proofs.Behind.{behind_append, frame_inside}
use Rattle.nx_complete.proofs.Ending.{before_open, own_open}
use Rattle.nx_complete.proofs.Faultless.{HasTag, Goes, goes, completes, admitted, closes_one, first_free}
use Rattle.nx_complete.proofs.TagText.{IsTextTag, open_tag_text}
use Rattle.nx_complete.proofs.Told.{token_utf8, told_before, told_in_tag, tag_is, tag_so_far}
use Rattle.nx_complete.proofs.Mentioning.{mentions_or_not, mentions_space_or_not, unmentioned_in}

-- names that may stand here: any that fits does where one does that the schema can't tell apart from it
pub record Alike (g : List Definition) (May Fits : Name → Type 0) : Type 0 where
  pub alike : (n m : Name) → AreUnmentionedAlike g n m → Fits m → May n → May m

-- offers of names denote those that may stand here, if they fit
module _ {g : List Definition} {May Fits : Name → Type 0} (a : Alike g May Fits) (offers : List Offer) (o : AreOffers (NameOffered g May) offers) where
  pub denoted : (n : Name) → Fits n → Denotes g offers n → May n
  denoted n fits (by_name c) = ((o.exact (offer.Name n)).0 c).1
  denoted n fits (by_namespace c u) =
      let s = ((o.exact (offer.AnyIn n.ns)).0 c).1 in
      a.alike s.name n (record { first = s.unmentioned; second = u; namespaces = inl s.of }) fits s.may
  denoted n fits (by_rest c u) =
      let s = (o.exact offer.AnyElse).0 c in
      a.alike s.name n (record { first = unmentioned_in g s.name s.unmentioned; second = unmentioned_in g n u; namespaces = inr (s.unmentioned, u) }) fits s.may

  pub denotes : (n : Name) → May n → Denotes g offers n
  denotes n may = elim (mentions_or_not g n) [
    | inl m ↦ by_name ((o.exact (offer.Name n)).1 (m, may))
    | inr u ↦ elim (mentions_space_or_not g n.ns) [
      | inl m ↦ by_namespace ((o.exact (offer.AnyIn n.ns)).1 (m, record { name = n; of = refl; unmentioned = u; may = may })) u
      | inr v ↦ by_rest ((o.exact offer.AnyElse).1 (record { name = n; unmentioned = v; may = may })) v
    ]
  ]

-- ---- frames

-- the frame goes on here, and something stands for it
pub record HasFrame (g : Language) (tag : Option (List Name)) (depth : ℕ) (f : Frame) : Type 0 where
  pub residual : Residual
  pub for : StandsFor g tag depth f residual

pub frame_stands : {g : Language} {tag : Option (List Name)} {depth : ℕ} {here : Option Frame} {x : Option Residual} → StandsHere g tag depth here x → (f : Frame) → here ≡ Some f → HasFrame g tag depth f
frame_stands lost_here f e = cc
frame_stands {g = g} {tag = tag} {depth = depth} (frame_here {f = k} {x = x} s) f e =
    let same : k ≡ f = cc in
    subst (λ (h : Frame). HasFrame g tag depth h) same (record { residual = x; for = s })

-- names of elements
elements_alike : {g : Language} {f : Frame} {x : Residual} → AreLive g.definitions → Stands g f.start f.moves x → Alike g.definitions (MayEnter g f) (λ n. IsTrue (is_xml_name n))
elements_alike {g = g} {f = f} live s = record { alike = λ n m u i c. entered_alike g f live s n m u i c }

-- names of attributes
abbrev pub FitsAttribute : List Name → Name → Type 0
FitsAttribute others n = IsTrue (is_attribute_name n) × (IsAmong n others → ⊥)

attributes_alike : {g : Language} {f : Frame} {x : Residual} (others : List Name) → AreLive g.definitions → Stands g f.start f.moves x →
    ((n : Name) → IsAmong n (attributes_of f.moves) → IsAmong n others) → Alike g.definitions (MayHave g others f) (FitsAttribute others)
attributes_alike {g = g} {f = f} others live s inside = record {
  alike = λ n m u i c. (had_alike g f live s n m u i.0 (λ h. c.1 (inside n h)) (λ h. i.1 (inside m h)) c.0, i.1);
}

-- ---- answers in a frame

answered_some : (offered : Frame → Offer → Type 0) (here : Option Frame) (answer : Offers) (f : Frame) → here ≡ Some f → Answers offered here answer → Answers offered (Some f) answer
answered_some offered here answer f e a = subst (λ (h : Option Frame). Answers offered h answer) e a

names_exact : (offered : Frame → Offer → Type 0) (f : Frame) {denotes : List Offer → Name → Type 0} {P : Name → Type 0} (answer : Offers) → Answers offered (Some f) answer →
    ((offers : List Offer) → AreOffers (offered f) offers → (n : Name) → denotes offers n ↔ P n) → DenotesExactly denotes P answer
names_exact offered f answers.Nowhere a h = absurd a
names_exact offered f (answers.List offers) a h = h offers a

offer_exact : (offered : Frame → Offer → Type 0) (f : Frame) (o : Offer) {P : Type 0} (answer : Offers) → Answers offered (Some f) answer → (offered f o ↔ P) → OffersExactly o P answer
offer_exact offered f o answers.Nowhere a h = absurd a
offer_exact offered f o (answers.List offers) a h = (λ c. h.0 ((a.exact o).0 c), λ p. (a.exact o).1 (h.1 p))

-- ---- a place of a text

module _ (g : Language) (live : IsLive g) (text : List ℕ) (utf8 : IsUtf8 text) (at : ℕ) (p : UpTo text at) where
  abbrev pub Front : List Item → List trees.Event → Type 0
  Front all k = Goes g (Some (document_frame g)) [] all (document_frame g) [] k

  pub goes_before : (k : List trees.Event) → IsErrorFree g (items_before p) k → Front (items_before p) k
  goes_before k e = goes g e.faultless refl (document_frame g) refl k e.events tt (before_open text utf8 at p) [] refl (λ kept h. h)

  pub goes_in_tag : (tag : List ℕ) (k : List trees.Event) → IsErrorFree g (items_before p ++ items_so_far (state_before p) tag) k → Front (items_before p ++ items_so_far (state_before p) tag) k
  goes_in_tag tag k e = goes g e.faultless refl (document_frame g) refl k e.events tt (own_open text utf8 at p tag) [] refl (λ kept h. h)

  -- the levels that the definition of offers speaks of
  same_levels : (all : List Item) (k : List trees.Event) → (r : Front all k) → (here : Option Frame) (os : List (Open Frame)) →
      LevelsBehind g (Some (document_frame g)) [] all here os → (here ≡ Some r.last) × (os ≡ r.around)
  same_levels all k r here os b = one_behind b r.behind

  frame_of : (all : List Item) (l : Form) → TellLevels g all l → (f : Frame) (os : List (Open Frame)) → LevelsBehind g (Some (document_frame g)) [] all (Some f) os →
      HasFrame g (tag_behind None all) (own_elements os) f
  frame_of all l t f os b =
      let same = one_behind t.behind b in
      let w = frame_stands t.inside f same.0 in
      subst (λ (xs : List (Open Frame)). HasFrame g (tag_behind None all) (own_elements xs) f) same.1 w

  pub elements_exact : (answer : Offers) → OffersIn g (items_before p) ElementName answer → IsExact g (items_before p) ElementName answer
  elements_exact answer o k e =
      let r = goes_before k e in
      let same = same_levels (items_before p) k r o.here o.elements o.behind in
      let w = frame_of (items_before p) _ (told_before text utf8 at p g live) r.last r.around r.behind in
      let alike = elements_alike live.definitions w.for.stands in
      names_exact (ElementOffered g) r.last answer (answered_some (ElementOffered g) o.here answer r.last same.0 o.answers) (λ offers a n. (
        λ d. completes g r.last k (trees.Enter n) r.start r.only (denoted alike offers a n d.1 d.0),
        λ v. let c = admitted g r.last k (trees.Enter n) r.start r.kept v in (denotes alike offers a n c, entered_is_name g r.last n c),
      ))

  pub ends_exact : (written : List ℕ) (answer : Offers) → OffersIn g (items_before p) (EndName written) answer → IsExact g (items_before p) (EndName written) answer
  ends_exact written answer o k e =
      let r = goes_before k e in
      let same = same_levels (items_before p) k r o.here o.elements o.behind in
      offer_exact (EndOffered g written o.elements) r.last (offer.End written) answer (answered_some (EndOffered g written o.elements) o.here answer r.last same.0 o.answers) (
        λ h. completes g r.last k trees.Leave r.start r.only h.2,
        λ v. (refl, subst (λ (os : List (Open Frame)). IsSomeOpen os) (sym same.1) (closes_one g k r.around r.balance v), admitted g r.last k trees.Leave r.start r.kept v),
      )

  -- ---- behind a tag that is being written

  module _ (tag : List ℕ) (u : IsUtf8 tag) (v : IsUtf8 (drop 1 tag)) where
    abbrev own : List Item
    own = items_so_far (state_before p) tag

    -- the frame went on in front of the tag
    goes_on_before : (k : List trees.Event) → IsErrorFree g (items_before p ++ own) k → (here : Option Frame) (os : List (Open Frame)) → LevelsBehind g (Some (document_frame g)) [] (items_before p) here os → here ≡ None → ⊥
    goes_on_before k e here os b none =
        let f = first_free (items_before p) own k e in
        let r = goes_before f.events f.free in
        let some : Some r.last ≡ None = sym (same_levels (items_before p) f.events r here os b).0 ∙ none in
        cc

    -- one list of levels behind both
    both_behind : {here last : Option Frame} {os around : List (Open Frame)} → LevelsBehind g (Some (document_frame g)) [] (items_before p) here os → LevelsBehind g here os own last around →
        LevelsBehind g (Some (document_frame g)) [] (items_before p ++ own) last around
    both_behind b c = behind_append b c

    pub names_kept : (k : List trees.Event) (r : Front (items_before p ++ own) k) → (n : Name) → IsAmong n (attributes_among own) → IsAmong n (attributes_of r.last.moves)
    names_kept k r n i =
        let t = tag_so_far (state_before p) tag in
        let is : tag_behind None (items_before p ++ own) ≡ Some t.names = tag_is text utf8 at p tag u v ∙ t.is in
        let has : HasTag (Some t.names) r.last.moves = subst (λ (o : Option (List Name)). HasTag o r.last.moves) is (r.tags None tt) in
        has n (t.has n i)

    names_inside : {depth : ℕ} {f : Frame} {x : Residual} → StandsFor g (tag_behind None (items_before p ++ own)) depth f x → (n : Name) → IsAmong n (attributes_of f.moves) → IsAmong n (attributes_among own)
    names_inside {f = f} s n i =
        let t = tag_so_far (state_before p) tag in
        let is : tag_behind None (items_before p ++ own) ≡ Some t.names = tag_is text utf8 at p tag u v ∙ t.is in
        let of : IsOfTag (Some t.names) f.moves = subst (λ (o : Option (List Name)). IsOfTag o f.moves) is s.of_tag in
        t.out n (of.1 n i)

    pub attributes_exact : (answer : Offers) → OffersIn g (items_before p) (AttributeName own) answer → IsExact g (items_before p) (AttributeName own) answer
    attributes_exact answer o k e =
        let r = goes_in_tag tag k e in
        let whole = both_behind o.behind o.in_tag in
        let same = same_levels (items_before p ++ own) k r o.last o.around whole in
        let w = frame_of (items_before p ++ own) _ (told_in_tag text utf8 at p tag u v g live) r.last r.around r.behind in
        let alike = attributes_alike (attributes_among own) live.definitions w.for.stands (names_inside w.for) in
        let here : inside o.here o.last ≡ Some r.last = frame_inside o.here o.last r.last same.0 (goes_on_before k e o.here o.elements o.behind) in
        names_exact (AttributeOffered g (attributes_among own)) r.last answer (answered_some (AttributeOffered g (attributes_among own)) (inside o.here o.last) answer r.last here o.answers) (λ offers a n. (
          λ d.
              let m = denoted alike offers a n (d.1, d.2) d.0 in
              let c = some_value g r.last n m.0 in
              record { value = c.value; of_chars = c.of_chars; viable = completes g r.last k (trees.Att n c.value) r.start r.only c.can },
          λ c.
              let can = admitted g r.last k (trees.Att n c.value) r.start r.kept c.viable in
              let any = any_of g r.last n (record { value = c.value; of_chars = c.of_chars; can = can }) in
              let new : IsAmong n (attributes_among own) → ⊥ = λ i. attribute_new g r.last n c.value can (names_kept k r n i) in
              (denotes alike offers a n (any, new), had_is_name g r.last n any, new),
        ))

  -- ---- whatever is being written

  pub tag_of_place : (tag : List ℕ) → IsAttributeName tag (bytes_before p) → IsTextTag tag
  tag_of_place tag a =
      let rest = drop (at - p.token.from) p.token.bytes in
      let whole : p.token.bytes ≡ tag ++ (a.begun ++ rest) =
      sym (take-append-drop (at - p.token.from) p.token.bytes) ∙ ap (λ (l : List ℕ). l ++ rest) a.spelled ∙ append_assoc tag a.begun rest in
      open_tag_text tag (a.begun ++ rest) a.is_open (subst IsUtf8 whole (token_utf8 text utf8 at p))

  pub exact_at : (answer : Offers) (prefix : TagPrefix) → IsPrefix (state_before p) (bytes_before p) prefix → OffersIn g (items_before p) prefix answer → IsExact g (items_before p) prefix answer
  exact_at answer ElementName is o = elements_exact answer o
  exact_at answer (EndName written) is o = ends_exact written answer o
  exact_at answer (AttributeName all) is o =
      let t = tag_of_place is.0 is.1 in
      let P : List Item → Type 0 = λ l. OffersIn g (items_before p) (AttributeName l) answer → IsExact g (items_before p) (AttributeName l) answer in
      subst P (sym is.2) (attributes_exact is.0 t.utf8 t.behind answer) o
  exact_at answer (AttributeValue all name) is o = tt
  exact_at answer Elsewhere is o = tt

pub offers_are_exact : OffersAreExact
offers_are_exact g live text utf8 at some answer (at_start e) = absurd (omega arith)
offers_are_exact g live text utf8 at some answer (without_schema e) = cc
offers_are_exact g live text utf8 at some answer (by_prefix h e p prefix is o) =
    let same : h ≡ g = cc in
    record {
      place = p;
      prefix = prefix;
      is = is;
      exact = exact_at g live text utf8 at p answer prefix is (subst (λ (l : Language). OffersIn l (items_before p) prefix answer) same o);
    }
