-- What is listed of a residual that stands for a frame is what is offered there.
use Rattle.std.proofs.Common.{◌≡◌, ℕ, List, [], ◌∷◌, ◌++◌, map, Bool, true, false, Option, Some, None, refl, sym, ap, subst, ◌∙◌, ◌⊎◌, inl, inr}
use Rattle.std.specs.Prelude.{◌↔◌, is_some, IsSome, IsTrue, Contains, if◌then◌else◌}
use Rattle.std.specs.List.{filter}
use Rattle.std.specs.List.Sorted.{IsStrictlySortedBy}
use Rattle.std.specs.Ordering.{ordering_then}
use Rattle.std.specs.Str.{is_utf8}
use Rattle.std.specs.declared.cmp.Ordering.{Ordering}
use Rattle.std.specs.declared.cmp.Ordering.TheVariants.{Less}
use Rattle.std.proofs.lemmas.Bool.{false≢true, cases_Bool}
use Rattle.std.proofs.lemmas.List.Kept.{IsStrictlySortedBy-filter}
use Rattle.nx_base.specs.Names.{is_namespace, is_xml_name, is_attribute_name}
use Rattle.nx_base.specs.Trees as trees
use Rattle.nx_base.specs.declared.name.Name.{Name}
use Rattle.nx_base.specs.declared.offer.Offer.{Offer}
use Rattle.nx_base.specs.declared.offer.Offer.TheVariants as offer
use Rattle.rng_core.specs.Patterns.{Definition, Language}
use Rattle.rng_kept.specs.Content.{leave}
use Rattle.rng_kept.specs.Entering.{enter}
use Rattle.rng_kept.specs.Events.{IsAmong, IsText}
use Rattle.rng_kept.specs.Live.{AreLive}
use Rattle.rng_kept.specs.Merging.{answered}
use Rattle.rng_kept.specs.Moves.{Move, take, any_value, attributes_of}
use Rattle.rng_kept.specs.Residuals.{Residual}
use Rattle.rng_kept.specs.Standing.{Stands, StandsBehind}
use Rattle.rng_kept.specs.Tags.{attribute_of, attribute_any}
use Rattle.rng_live.specs.Listed.{HasLiteral, AreLiterals}
use Rattle.rng_live.specs.Order.{text_order}
use Rattle.rng_residual.proofs.MoveStands.{moves_stand}
use Rattle.rng_residual.proofs.Standing.{answers_tell_moves}
use Rattle.nx_recover.specs.Frames.{Frame, Can}
use Rattle.nx_recover.specs.Offered.{AreOffers, ElementOffered, EndOffered, AttributeOffered, ValueOffered, IsSomeOpen, MayEnter, MayHave, offer_order, offer_key}
use Rattle.nx_recover.specs.declared.levels.Open.{Open}
use Rattle.nx_complete.specs.Asking.{asks, is_among, takes_value, values_passed, ListsNames, ListsLiterals, ListsValues, end_listed}
use Rattle.nx_complete.specs.declared.naming.Naming.TheVariants.{Element, Attribute}
use Rattle.nx_complete.proofs.Admitting.{entered_is_name, entered_alike, had_alike, had_is_name, namespace_of, name_of_attribute}
use Rattle.nx_complete.proofs.Longer.{new_element, new_attribute, one_is, none_is}
use Rattle.nx_complete.proofs.Elements.{In, at_head, in_tail, to_in, from_in, in_filter, filter_in, in_map, map_in, sorted_map}
use Rattle.nx_complete.proofs.Exactly.{Tests, names_exactly}

module _ (g : Language) (live : AreLive g.definitions) (f : Frame) (x : Residual) (s : Stands g f.start f.moves x) where
  -- an answer is given exactly where the move can be made
  given : (m : Move) (o : Option Residual) → StandsBehind g f.start f.moves m o → (is_some o ≡ true → Can g f m) × (Can g f m → is_some o ≡ true)
  given m o b = let w = answers_tell_moves g f.start f.moves m o live b in (w.1, w.0)

  enters : (n : Name) → (is_some (answered (enter g.definitions n x)) ≡ true → Can g f (take (trees.Enter n))) × (Can g f (take (trees.Enter n)) → is_some (answered (enter g.definitions n x)) ≡ true)
  enters n = given (take (trees.Enter n)) _ ((moves_stand g live f.start f.moves x s).event (trees.Enter n) tt tt)

  ends : (is_some (answered (leave x)) ≡ true → Can g f (take trees.Leave)) × (Can g f (take trees.Leave) → is_some (answered (leave x)) ≡ true)
  ends = given (take trees.Leave) _ ((moves_stand g live f.start f.moves x s).event trees.Leave tt tt)

  has : (n : Name) → (IsAmong n (attributes_of f.moves) → ⊥) → (is_some (answered (attribute_any n x)) ≡ true → Can g f (any_value n)) × (Can g f (any_value n) → is_some (answered (attribute_any n x)) ≡ true)
  has n new = given (any_value n) _ ((moves_stand g live f.start f.moves x s).value n new)

  has_value : (n : Name) (v : List ℕ) → is_utf8 v ≡ true → (IsAmong n (attributes_of f.moves) → ⊥) →
      (is_some (answered (attribute_of n v x)) ≡ true → Can g f (take (trees.Att n v))) × (Can g f (take (trees.Att n v)) → is_some (answered (attribute_of n v x)) ≡ true)
  has_value n v u new = given (take (trees.Att n v)) _ ((moves_stand g live f.start f.moves x s).event (trees.Att n v) u new)

  -- ---- names of elements

  pub elements_offered : (offers : List Offer) → ListsNames g.definitions Element x offers → AreOffers (ElementOffered g f) offers
  elements_offered offers l =
      let t : Tests g.definitions (MayEnter g f) (λ n. is_xml_name n ≡ true) (asks g.definitions Element x) = record {
        told = λ n h. (enters n).0 h;
        tells = λ n h. (enters n).1 h;
        alike = λ n m u i c. entered_alike g f live s n m u i c;
        spaces = λ n c. namespace_of n (entered_is_name g f n c);
      } in
      let w = new_element g.definitions l.names [] l.spaces l.mentioned l.mentioned_spaces in
      subst (λ (all : List Offer). AreOffers (ElementOffered g f) all) (sym l.are) (names_exactly t w l.mentioned l.mentioned_spaces)

  -- ---- names of attributes

  pub attributes_offered : (others : List Name) → ((n : Name) → IsAmong n (attributes_of f.moves) → IsAmong n others) → (offers : List Offer) →
      ListsNames g.definitions (Attribute others) x offers → AreOffers (AttributeOffered g others f) offers
  attributes_offered others inside offers l =
      let t : Tests g.definitions (MayHave g others f) (λ n. (is_attribute_name n ≡ true) × (IsAmong n others → ⊥)) (asks g.definitions (Attribute others) x) = record {
        told = λ n h. told n (is_among others n) refl h;
        tells = λ n m. tells n m;
        alike = λ n m u i c. (had_alike g f live s n m u i.0 (λ a. c.1 (inside n a)) (λ a. i.1 (inside m a)) c.0, i.1);
        spaces = λ n c. namespace_of n (name_of_attribute n (had_is_name g f n c.0));
      } in
      let w = new_attribute g.definitions l.names others l.spaces l.mentioned l.mentioned_spaces in
      subst (λ (all : List Offer). AreOffers (AttributeOffered g others f) all) (sym l.are) (names_exactly t w l.mentioned l.mentioned_spaces)
    where
      new_one : (n : Name) → is_among others n ≡ false → IsAmong n others → ⊥
      new_one n e i = false≢true (sym e ∙ one_is others n i)

      told : (n : Name) (b : Bool) → is_among others n ≡ b → (if b then false else is_some (answered (attribute_any n x))) ≡ true → MayHave g others f n
      told n true e h = absurd (false≢true h)
      told n false e h = ((has n (λ a. new_one n e (inside n a))).0 h, new_one n e)

      tells : (n : Name) → MayHave g others f n → asks g.definitions (Attribute others) x n ≡ true
      tells n m = rw (none_is others n m.1) ((has n (λ a. m.1 (inside n a))).1 m.0)

  -- ---- the end

  pub end_offered : (written : List ℕ) (os : List (Open Frame)) → IsSomeOpen os → (offers : List Offer) → offers ≡ end_listed written x → AreOffers (EndOffered g written os f) offers
  unfolding IsStrictlySortedBy
  end_offered written os some offers e = subst (λ (all : List Offer). AreOffers (EndOffered g written os f) all) (sym e) (by (is_some (answered (leave x))) refl)
    where
      one : (o : Offer) → Can g f (take trees.Leave) → Contains (offer.End written ∷ []) o ↔ EndOffered g written os f o
      one o c = (λ h. out (to_in (offer.End written ∷ []) o h), λ h. from_in (offer.End written ∷ []) o (back o h))
        where
          out : In o (offer.End written ∷ []) → EndOffered g written os f o
          out (at_head e) = subst (EndOffered g written os f) e (refl, some, c)
          out (in_tail i) = elim i [ ]

          back : (o : Offer) → EndOffered g written os f o → In o (offer.End written ∷ [])
          back (offer.Name n) h = absurd h
          back (offer.AnyIn ns) h = absurd h
          back offer.AnyElse h = absurd h
          back (offer.Value text) h = absurd h
          back (offer.End other) h = at_head (ap offer.End (sym h.0))

      none : (o : Offer) → (Can g f (take trees.Leave) → ⊥) → Contains [] o ↔ EndOffered g written os f o
      none o c = (λ h. out (to_in [] o h), λ h. absurd (back o h))
        where
          out : In o [] → EndOffered g written os f o
          out i = elim i [ ]

          back : (o : Offer) → EndOffered g written os f o → ⊥
          back (offer.Name n) h = h
          back (offer.AnyIn ns) h = h
          back offer.AnyElse h = h
          back (offer.Value text) h = h
          back (offer.End other) h = c h.2

      by : (b : Bool) → is_some (answered (leave x)) ≡ b → AreOffers (EndOffered g written os f) (if b then offer.End written ∷ [] else [])
      by true e = record { sorted = (tt, tt); exact = λ o. one o (ends.0 e) }
      by false e = record { sorted = tt; exact = λ o. none o (λ c. false≢true (sym e ∙ ends.1 c)) }

  -- ---- values

  pub values_offered : (n : Name) → (IsAmong n (attributes_of f.moves) → ⊥) → (offers : List Offer) → ListsLiterals g.definitions n x offers → AreOffers (ValueOffered g (Some n) f) offers
  values_offered n new offers l = subst (λ (all : List Offer). AreOffers (ValueOffered g (Some n) f) all) (sym l.are) (record {
    sorted = sorted_map text_order offer_order (λ text. offer.Value text) (filter (takes_value n x) l.texts) (λ a b i j e. ap (λ (o : Ordering). ordering_then o (text_order [] [])) e) (IsStrictlySortedBy-filter text_order (takes_value n x) l.texts l.literals.sorted);
    exact = λ o. (λ h. out o (to_in _ o h), λ h. from_in _ o (back o h));
  })
    where
      takes : (t : List ℕ) → takes_value n x t ≡ true → IsText (trees.Att n t) × Can g f (take (trees.Att n t))
      takes t h = by (is_utf8 t) refl h
        where
          by : (b : Bool) → is_utf8 t ≡ b → (if b then is_some (answered (attribute_of n t x)) else false) ≡ true → IsText (trees.Att n t) × Can g f (take (trees.Att n t))
          by true e h = (e, (has_value n t e new).0 h)
          by false e h = absurd (false≢true h)

      taken : (t : List ℕ) → IsText (trees.Att n t) → Can g f (take (trees.Att n t)) → takes_value n x t ≡ true
      taken t u c = rw u ((has_value n t u new).1 c)

      out : (o : Offer) → In o (values_passed (takes_value n x) l.texts) → ValueOffered g (Some n) f o
      out o i =
          let m = in_map (λ text. offer.Value text) (filter (takes_value n x) l.texts) o i in
          let p = in_filter (takes_value n x) l.texts m.from m.inside in
          let t = takes m.from p.passes in
          subst (ValueOffered g (Some n) f) m.is ((l.literals.exact m.from).0 (from_in l.texts m.from p.inside), t.0, t.1)

      back : (o : Offer) → ValueOffered g (Some n) f o → In o (values_passed (takes_value n x) l.texts)
      back (offer.Name m) h = absurd h
      back (offer.AnyIn ns) h = absurd h
      back offer.AnyElse h = absurd h
      back (offer.Value t) h = map_in (λ text. offer.Value text) (filter_in (takes_value n x) l.texts t (to_in l.texts t ((l.literals.exact t).1 h.0)) (taken t h.1 h.2))
      back (offer.End w) h = absurd h
