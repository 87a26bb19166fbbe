-- The names of which an attribute is required.
use Rattle.std.proofs.Common.{◌≡◌, List, [], ◌∷◌, ◌++◌, Bool, true, false, ◌&&◌, refl, sym, ap, subst, inl, inr, ◌⊎◌, ⊎_elim, ◌∙◌, append_assoc}
use Rattle.std.specs.Prelude.{IsTrue}
use Rattle.std.specs.List.{list_all}
use Rattle.nx_base.specs.declared.name.Name.{Name}
use Rattle.nx_base.specs.Characters.{is_of_chars}
use Rattle.nx_base.specs.Trees.{Attribute, Children, nil, HasAttribute, here, further, Event, TagEnd, Leave, attributes_flat, children_flat, AreWritable}
use Rattle.rng_core.specs.Names.{Class, has_attribute_name}
use Rattle.rng_core.specs.Patterns.{Pattern, Definition, attribute, Language}
use Rattle.rng_core.specs.Matching.{Matches, by_empty, by_text, by_data, by_value, by_list, by_attribute, by_blank_attribute, by_first, by_second, by_group, by_interleave, by_one, by_more, by_element, as_they_stand}
use Rattle.rng_core.specs.Validity.{Valid}
use Rattle.rng_kept.specs.Residuals.{Outer, Way, among, in_tag, Residual, TakesWay, among_children, in_start_tag, Takes, by_this, by_later}
use Rattle.rng_kept.specs.Clean.{Clean, clean_empty, clean_text, clean_data, clean_value, clean_list, clean_attribute, clean_ref, clean_one_or_more, clean_choice, clean_group, clean_interleave}
use Rattle.rng_kept.specs.Lively.{IsLively, lively_in_tag, AreLively}
use Rattle.rng_kept.specs.Moves.{Move, attributes_of}
use Rattle.rng_kept.specs.Events.{AreText}
use Rattle.rng_residual.proofs.Fresh.{IsFresh, fresh_leave}
use Rattle.rng_kept.specs.KeptLists.{IsEndOf, IsRequired}
use Rattle.rng_kept.specs.Standing.{Stands}
use Rattle.rng_residual.proofs.SmallPatterns.{and_true, or_true}
use Rattle.rng_residual.proofs.Nullable.{true_and}
use Rattle.rng_kept.specs.Live.{AreLive}
use Rattle.rng_residual.specs.Required.{RequiredIsExact}
use Rattle.rng_kept.specs.Required.{has_only, needs, way_needs, is_required}
use Rattle.rng_residual.proofs.SoleNames.{only_is_exact}
use Rattle.rng_residual.proofs.Keeping.{or_false}
use Rattle.rng_residual.proofs.Attributes.{attribute_is}
use Rattle.rng_residual.proofs.Repair.{HaveChars, chars_join, has_left, has_right, has_side, repair, distinct_right, distinct_apart2}
use Rattle.rng_residual.proofs.Fresh.{CanBeWritten, writable_of, fresh_attributes, fresh_children, attributes_can_be_written}
use Rattle.rng_residual.proofs.Joining.{none_written, cat, cat_order, cat_shuffle, cat_written, app, app_split}
use Rattle.rng_residual.proofs.Samples.{sample}
use Rattle.rng_residual.proofs.Viable.{outer_viable}
use Rattle.rng_residual.proofs.Alive.{lively_first}
use Rattle.rng_residual.proofs.Distinct.{text_of_writable, distinct_of, attributes_append}
use Rattle.rng_residual.proofs.Events.{attributes_unique}
use Rattle.rng_residual.proofs.Standing.{lively_all}
use Rattle.rng_residual.proofs.MoveStands.{attributes_text, no_tag_outside}

module _ {g : List Definition} (n : Name) where
  -- a needed name is there
  pub needed : {p : Pattern} {a : List Attribute} {c : Children} → Matches g p a c → needs n p ≡ true → HasAttribute n a
  needed (by_attribute {class = k} {a = x} h m) e = here ((only_is_exact k n x.name h).0 e)
  needed (by_blank_attribute {class = k} {a = x} h b m) e = here ((only_is_exact k n x.name h).0 e)
  needed (by_first {p = p} {q = q} m) e = needed m (and_true (needs n p) (needs n q) e).0
  needed (by_second {p = p} {q = q} m) e = needed m (and_true (needs n p) (needs n q) e).1
  needed (by_group {p = p} {q = q} s o m k) e = ⊎_elim (λ f. has_left s (needed m f)) (λ f. has_right s (needed k f)) (or_true (needs n p) (needs n q) e)
  needed (by_interleave {p = p} {q = q} s o m k) e = ⊎_elim (λ f. has_left s (needed m f)) (λ f. has_right s (needed k f)) (or_true (needs n p) (needs n q) e)
  needed (by_one m) e = needed m e
  needed (by_more s o m k) e = has_left s (needed m e)
  needed by_empty e = cc
  needed (by_text s) e = cc
  needed (by_data a d) e = cc
  needed (by_value a d) e = cc
  needed (by_list m) e = cc
  needed (by_element i h w m) e = cc

-- a name that isn't needed may lack
record Lacking (g : List Definition) (p : Pattern) (n : Name) : Type 0 where
  given : List Attribute
  children : Children
  chars : HaveChars given
  written : CanBeWritten children
  matched : Matches g p given children
  lacks : HasAttribute n given → ⊥

renamed : {g : List Definition} {c : Class} {p : Pattern} {a : Attribute} (m : Name) → has_attribute_name c m ≡ true → Matches g (attribute c p) (a ∷ []) nil → Matches g (attribute c p) (attribute_is m a.value ∷ []) nil
renamed m e (by_attribute h k) = by_attribute e k
renamed m e (by_blank_attribute h b k) = by_blank_attribute e b k

class_has : {g : List Definition} {c : Class} {p : Pattern} {a : Attribute} → Matches g (attribute c p) (a ∷ []) nil → has_attribute_name c a.name ≡ true
class_has (by_attribute h k) = h
class_has (by_blank_attribute h b k) = h

and_false : (a b : Bool) → (a && b) ≡ false → (a ≡ false) ⊎ (b ≡ false)
and_false true b h = inr h
and_false false b h = inl refl

-- no attribute at all
plain : {g : List Definition} {b : Bool} {p : Pattern} (n : Name) → Clean g false b p → Lacking g p n
plain {g = g} {p = p} n c =
    let s = sample c in
    record { given = []; children = s.children; chars = tt; written = s.written; matched = subst (λ a. Matches g p a s.children) (s.none refl) s.matched; lacks = λ h. elim h [ ] }

module _ {g : List Definition} (n : Name) where
  lacking_attribute : {c : Class} {p : Pattern} (a : Attribute) → has_only c n ≡ false → IsTrue (is_of_chars a.value) → Matches g (attribute c p) (a ∷ []) nil → Lacking g (attribute c p) n
  lacking_attribute {c = c} {p = p} a e o m =
      let w = (only_is_exact c n a.name (class_has m)).1 e in
      record { given = attribute_is w.name a.value ∷ []; children = nil; chars = (o, tt); written = none_written; matched = renamed w.name w.has m; lacks = λ h. go w.name w.other h }
    where
      go : (k : Name) → (k ≡ n → ⊥) → HasAttribute n (attribute_is k a.value ∷ []) → ⊥
      go k f (here i) = f i
      go k f (further h) = elim h [ ]

  lacking : {f b : Bool} {p : Pattern} → Clean g f b p → needs n p ≡ false → Lacking g p n
  lacking clean_empty e = plain {b = true} n clean_empty
  lacking clean_text e = plain {b = true} n clean_text
  lacking {b = b} (clean_data z s) e = plain {b = b} n (clean_data z s)
  lacking {b = b} (clean_value z k) e = plain {b = b} n (clean_value z k)
  lacking {b = b} (clean_list w h s) e = plain {b = b} n (clean_list w h s)
  lacking {b = b} (clean_ref m a k c w h) e = plain {b = b} n (clean_ref m a k c w h)
  lacking (clean_attribute a h i o m) e = lacking_attribute a e o m
  lacking (clean_one_or_more k) e = let w = lacking k e in record { given = w.given; children = w.children; chars = w.chars; written = w.written; matched = by_one w.matched; lacks = w.lacks }
  lacking (clean_choice {p = p} {q = q} k l) e =
      ⊎_elim
      (λ f. let w = lacking k f in record { given = w.given; children = w.children; chars = w.chars; written = w.written; matched = by_first w.matched; lacks = w.lacks })
      (λ f. let w = lacking l f in record { given = w.given; children = w.children; chars = w.chars; written = w.written; matched = by_second w.matched; lacks = w.lacks })
      (and_false (needs n p) (needs n q) e)
  lacking (clean_group {p = p} {q = q} k l) e =
      let f = or_false (needs n p) (needs n q) e in
      let w = lacking k f.0 in
      let v = lacking l f.1 in
      record {
        given = app w.given v.given;
        children = cat w.children v.children;
        chars = chars_join (app_split w.given v.given) w.chars v.chars;
        written = cat_written w.written v.written;
        matched = by_group (app_split w.given v.given) (cat_order w.children v.children) w.matched v.matched;
        lacks = λ h. ⊎_elim w.lacks v.lacks (has_side (app_split w.given v.given) h);
      }
  lacking (clean_interleave {p = p} {q = q} k l) e =
      let f = or_false (needs n p) (needs n q) e in
      let w = lacking k f.0 in
      let v = lacking l f.1 in
      record {
        given = app w.given v.given;
        children = cat w.children v.children;
        chars = chars_join (app_split w.given v.given) w.chars v.chars;
        written = cat_written w.written v.written;
        matched = by_interleave (app_split w.given v.given) (cat_shuffle w.children v.children) w.matched v.matched;
        lacks = λ h. ⊎_elim w.lacks v.lacks (has_side (app_split w.given v.given) h);
      }

-- with names that differ from each other and from those of the open tag, and what stands behind
record Spared (g : List Definition) (l : List Name) (w : Way) (n : Name) : Type 0 where
  given : List Attribute
  writable : AreWritable (attributes_flat given [])
  rest : List Event
  fresh : IsFresh l (attributes_flat given (TagEnd ∷ rest))
  behind : AreWritable rest
  taken : TakesWay g w (attributes_flat given (TagEnd ∷ rest))
  lacks : HasAttribute n given → ⊥

spared : {g : List Definition} {l : List Name} {p : Pattern} {o : Outer} (n : Name) → AreLive g → IsLively g l (in_tag p o) → needs n p ≡ false → Spared g l (in_tag p o) n
spared {g = g} {l = l} {p = p} n live (lively_in_tag c i h) e =
    let w = lacking n c e in
    let o = outer_viable h in
    let v = i.behind w.given w.children w.matched in
    let r = repair v.matched (live.apart i.number i.definition i.is) v.split v.proper in
    let d = distinct_right r.split r.distinct in
    let rest = children_flat w.children (Leave ∷ o.rest) in
    let f : IsFresh [] rest = fresh_children [] w.written (λ m. fresh_leave (o.fresh [])) in
    record {
      given = r.other;
      writable = attributes_can_be_written d (r.chars w.chars);
      rest = rest;
      fresh = fresh_attributes d (r.chars w.chars) (record { apart = λ m b a. distinct_apart2 r.split r.distinct (v.names m a) b }) f;
      behind = writable_of f;
      taken = in_start_tag r.other w.children o.rest refl (record { children = w.children; weakly = as_they_stand; matched = v.from r.all r.other w.children r.split r.matched }) o.taken;
      lacks = λ k. w.lacks (r.fewer n k);
    }

-- ---- of a residual

one_taken : {g : List Definition} (n : Name) (a : List Attribute) (r : List Event) (x : Residual) → is_required n x ≡ true → Takes g x (attributes_flat a (TagEnd ∷ r)) → HasAttribute n a
one_taken n a r [] e h = elim h [ ]
one_taken {g = g} n a r (w ∷ ws) e (by_later h) = one_taken n a r ws (and_true _ _ e).1 h
one_taken {g = g} n a r (among o ∷ ws) e (by_this (among_children h)) = no_tag_outside a r o h
one_taken {g = g} n a r (in_tag p o ∷ ws) e (by_this (in_start_tag b k rest f w h)) =
    let v = attributes_unique a b r (children_flat k (Leave ∷ rest)) f in
    subst (λ y. HasAttribute n y) (sym v.0) (needed n w.matched (and_true (needs n p) _ e).0)

module _ {g : Language} {p : Pattern} {h : List Move} {x : Residual} (live : AreLive g.definitions) (e : Stands g p h x) (n : Name) where
  required_in : is_required n x ≡ true → IsRequired g p h n
  required_in t a k w kept v =
      let r = v.rest in
      let whole : (k ++ attributes_flat a (TagEnd ∷ [])) ++ r ≡ k ++ attributes_flat a (TagEnd ∷ r) = append_assoc k (attributes_flat a (TagEnd ∷ [])) r ∙ ap (λ (y : List Event). k ++ y) (attributes_append a (TagEnd ∷ []) r) in
      let o : IsEndOf g p h (attributes_flat a (TagEnd ∷ r)) = record { kept = k; is_kept = kept; valid = subst (λ y. Valid g.definitions p y) whole v.is_rest.valid } in
      let u : AreText (attributes_flat a (TagEnd ∷ r)) = attributes_text a [] (TagEnd ∷ r) (text_of_writable (attributes_flat a []) w) (tt, text_of_writable r v.is_rest.writable) in
      one_taken n a r x t (e.complete (attributes_flat a (TagEnd ∷ r)) u o)

  way_required : (w : Way) → IsLively g.definitions (attributes_of h) w → ((s : List Event) → TakesWay g.definitions w s → Takes g.definitions x s) → IsRequired g p h n → way_needs n w ≡ true
  way_required (among o) i up f = refl
  way_required (in_tag q o) i up f = go (needs n q) refl
    where
      none : Spared g.definitions (attributes_of h) (in_tag q o) n → ⊥
      none s =
          let whole = attributes_flat s.given (TagEnd ∷ s.rest) in
          let b = e.sound whole (text_of_writable whole (writable_of s.fresh)) (distinct_of s.fresh) (up whole s.taken) in
          let i : b.kept ++ whole ≡ (b.kept ++ attributes_flat s.given (TagEnd ∷ [])) ++ s.rest = ap (λ (y : List Event). b.kept ++ y) (sym (attributes_append s.given (TagEnd ∷ []) s.rest)) ∙ sym (append_assoc b.kept (attributes_flat s.given (TagEnd ∷ [])) s.rest) in
          s.lacks (f s.given b.kept s.writable b.is_kept (record { rest = s.rest; is_rest = record { writable = s.behind; valid = subst (λ y. Valid g.definitions p y) i b.valid } }))

      go : (b : Bool) → needs n q ≡ b → needs n q ≡ true
      go true d = d
      go false d = absurd (none (spared n live i d))

  ways_required : (ws : Residual) → AreLively g.definitions (attributes_of h) ws → ((s : List Event) → Takes g.definitions ws s → Takes g.definitions x s) → IsRequired g p h n → is_required n ws ≡ true
  ways_required [] a up f = refl
  ways_required (w ∷ ws) a up f =
      let b = lively_first a in
      true_and (way_needs n w) (list_all (way_needs n) ws) (way_required w b.0 (λ s t. up s (by_this t)) f) (ways_required ws b.1 (λ s t. up s (by_later t)) f)

pub required_is_exact : RequiredIsExact
required_is_exact g live p h x e n =
    (λ t. required_in live e n t, λ f. ways_required live e n x (lively_all e.lively) (λ s t. t) f)
