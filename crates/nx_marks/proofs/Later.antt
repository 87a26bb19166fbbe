-- What is right for a machine is right for each later one.
use Rattle.std.proofs.Common.{◌≡◌, ℕ, ◌+◌, Bool, true, false, List, [], ◌∷◌, refl, sym, ap, subst, ◌∙◌}
use Rattle.nx_base.specs.Rules.{Rules, LaterLaws}
use Rattle.nx_base.specs.Running.{after_all}
use Rattle.nx_marks.specs.Ruling.{is_due}
use Rattle.nx_marks.specs.Chain.{FirstMeans, Segment, Link, Chain, Kept, all_of}
use Rattle.nx_marks.specs.Right.{tags_behind, NonePends, IsRight}
use Rattle.nx_marks.specs.declared.mark.Mark.{Mark}
use Rattle.nx_marks.proofs.Taking.{chain-tail}

module _ {Self S M : Type 0} (later : Self → Self → Type 0) (is_state : Self → S → Type 0) (means : Self → S → M) (rules : Self → Rules M)
    (laws : LaterLaws later is_state means rules) where
  first-later : (a b : Self) (m : M) (xs : List (Mark S)) → later a b → ((y : Mark S) (ys : List (Mark S)) → xs ≡ y ∷ ys → is_state a y.state) → FirstMeans (means a) m xs → FirstMeans (means b) m xs
  first-later a b m [] l own h = h
  first-later a b m (y ∷ ys) l own h = laws.meaning a b y.state l (own y ys refl) ∙ h

  own-first : (a : Self) (r : Rules M) (t : List ℕ) (p : ℕ) (xs : List (Mark S)) → Chain (is_state a) (means a) r t p xs → (y : Mark S) (ys : List (Mark S)) → xs ≡ y ∷ ys → is_state a y.state
  own-first a r t p xs h y ys e = let P : List (Mark S) → Type 0 = λ l. Chain (is_state a) (means a) r t p l in (subst P e h).0

  link-later : (a b : Self) (r : Rules M) (t : List ℕ) (p : ℕ) (c : Bool) (x : Mark S) (xs : List (Mark S)) → later a b → is_state a x.state → ((y : Mark S) (ys : List (Mark S)) → xs ≡ y ∷ ys → is_state a y.state) →
      Link (means a) r t p c x xs → Link (means b) r t p c x xs
  link-later a b r t p false x xs l mine own h = h
  link-later a b r t p true x xs l mine own h =
      let e : means a x.state ≡ means b x.state = sym (laws.meaning a b x.state l mine) in
      let P : M → Type 0 = λ m. Segment r t p m x.len x.tags x.faults h.0 in
      let Q : M → Type 0 = λ m. FirstMeans (means b) (after_all r m h.0) xs in
      (h.0, (subst P e h.1.0, subst Q e (first-later a b (after_all r (means a x.state) h.0) xs l own h.1.1)))

  chain-later : (a b : Self) (r : Rules M) (t : List ℕ) (p : ℕ) (xs : List (Mark S)) → later a b → Chain (is_state a) (means a) r t p xs → Chain (is_state b) (means b) r t p xs
  chain-later a b r t p [] l h = h
  chain-later a b r t p (x ∷ xs) l h =
      (laws.state a b x.state l h.0, (link-later a b r t p x.whole x xs l h.0 (own-first a r t (p + x.len) xs h.1.1) h.1.0, chain-later a b r t (p + x.len) xs l h.1.1))

  pends-later : (a b : Self) (r : Rules M) (t : List ℕ) (p : ℕ) (xs : List (Mark S)) → later a b → Chain (is_state a) (means a) r t p xs → NonePends (means a) r xs → NonePends (means b) r xs
  pends-later a b r t p [] l h u = u
  pends-later a b r t p (x ∷ xs) l h u = ((λ yes. ap r.back (laws.meaning a b x.state l h.0) ∙ u.0 yes), pends-later a b r t (p + x.len) xs l h.1.1 u.1)

  pub right_later : (a b : Self) (t : List ℕ) (k : Kept S) → later a b → IsRight (is_state a) (means a) (rules a) t k → IsRight (is_state b) (means b) (rules b) t k
  right_later a b t k l h =
      let r = rules a in
      let P : Rules M → Type 0 = λ s. IsRight (is_state b) (means b) s t k in
      let tail = chain-tail (is_state a) (means a) r t 0 _ k.front (k.here ∷ k.aside) refl h.holds.chain in
      let e : means a k.here.state ≡ means b k.here.state = sym (laws.meaning a b k.here.state l tail.0) in
      let D : M → Type 0 = λ m. is_due r m (tags_behind k.front) ≡ false in
      let B : M → Type 0 = λ m. r.back m ≡ 0 in
      subst P (sym (laws.rule a b l)) (record {
        holds = record {
          first = first-later a b r.first (all_of k) l (own-first a r t 0 (all_of k) h.holds.chain) h.holds.first;
          chain = chain-later a b r t 0 (all_of k) l h.holds.chain;
          whole = h.holds.whole;
          ends = h.holds.ends;
        };
        rule = record { rule = λ no. subst D e (h.rule.rule no); some = h.rule.some; mark = λ yes. subst B e (h.rule.mark yes); saved = pends-later a b r t _ k.aside l tail.1.1 h.rule.saved };
      })
