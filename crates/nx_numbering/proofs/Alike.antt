-- Patterns of two languages behind which the same lists are viable, and frames that begin with such.
use Rattle.std.proofs.Common.{◌≡◌, List, [], ◌∷◌, ◌++◌, refl, sym, ap, subst, Option}
use Rattle.nx_base.specs.Trees.{Attribute, Children, Event, TagEnd, attributes_flat, children_flat}
use Rattle.nx_base.specs.declared.name.Name.{Name}
use Rattle.rng_core.specs.Matching.{Matches}
use Rattle.rng_core.specs.Patterns.{Pattern, Language}
use Rattle.rng_core.specs.Validity.{Viable}
use Rattle.rng_kept.specs.KeptLists.{Asks, Kept, CanMove, IsRequired, IsNeeded, skip_end}
use Rattle.rng_kept.specs.Moves.{Move, take, skip_to, any_value, any_string, missing_attributes, missing_content}
use Rattle.nx_recover.specs.Frames.{Frame, moved, Can, AreRequiredNames, AreNeededNames, known_frame, document_frame}
use Rattle.nx_numbering.specs.Numbers.{AreOneButForNumbers}
use Rattle.nx_numbering.proofs.Matching.{known_matches, start_matches}

-- ---- what is viable

viable_on : (g h : Language) {p q : Pattern} {k : List Event} → ((a : List Attribute) (c : Children) → Matches g.definitions p a c → Matches h.definitions q a c) → Viable g.definitions p k → Viable h.definitions q k
viable_on g h on v =
    let valid = v.is_rest.valid in
    record {
      rest = v.rest;
      is_rest = record {
        writable = v.is_rest.writable;
        valid = record { tree = valid.tree; is_tree = valid.is_tree; events_are = valid.events_are; matched = on _ _ valid.matched };
      };
    }

-- behind two patterns the same lists are viable
pub record AreAlike (g h : Language) (p q : Pattern) : Type 0 where
  pub there : (k : List Event) → Viable g.definitions p k → Viable h.definitions q k
  pub back : (k : List Event) → Viable h.definitions q k → Viable g.definitions p k

pub turned : {g h : Language} {p q : Pattern} → AreAlike g h p q → AreAlike h g q p
turned r = record { there = r.back; back = r.there }

-- ---- what moves keep

asks_on : {g h : Language} {p q : Pattern} → AreAlike g h p q → (m : Move) (k : List Event) → Asks g p m k → Asks h q m k
asks_on r (take e) k a = tt
asks_on r (skip_to n) k a = r.there k a
asks_on r (any_value n) k a = r.there k a
asks_on r any_string k a = r.there k a
asks_on r missing_attributes k a = r.there k a
asks_on r missing_content k a = r.there k a

kept_on : {g h : Language} {p q : Pattern} → AreAlike g h p q → (moves : List Move) (k : List Event) → Kept g p moves k → Kept h q moves k
kept_on r [] k is = is
kept_on r (m ∷ moves) k is = (is.0, is.1, kept_on r moves is.0 is.2, is.3, is.4, asks_on r m k is.5)

can_on : {g h : Language} {p q : Pattern} → AreAlike g h p q → (moves : List Move) (m : Move) → CanMove g p moves m → CanMove h q moves m
can_on r moves m c = record { kept = c.kept; is_kept = kept_on r (m ∷ moves) c.kept c.is_kept; viable = r.there c.kept c.viable }

required_on : {g h : Language} {p q : Pattern} → AreAlike g h p q → (moves : List Move) (n : Name) → IsRequired g p moves n → IsRequired h q moves n
required_on r moves n is = λ a k writable kept viable. is a k writable (kept_on (turned r) moves k kept) (r.back (k ++ attributes_flat a (TagEnd ∷ [])) viable)

needed_on : {g h : Language} {p q : Pattern} → AreAlike g h p q → (moves : List Move) (skip : Option Name) (n : Name) → IsNeeded g p moves skip n → IsNeeded h q moves skip n
needed_on r moves skip n is = λ over k children writable kept viable. is over k children writable (kept_on (turned r) moves k kept) (r.back (k ++ children_flat over (skip_end skip ∷ [])) viable)

-- ---- frames

pub record AlikeFrames (g h : Language) (e f : Frame) : Type 0 where
  pub moves : f.moves ≡ e.moves
  pub starts : AreAlike g h e.start f.start

pub frames_turned : {g h : Language} {e f : Frame} → AlikeFrames g h e f → AlikeFrames h g f e
frames_turned r = record { moves = sym r.moves; starts = turned r.starts }

pub moved_alike : {g h : Language} {e f : Frame} (m : Move) → AlikeFrames g h e f → AlikeFrames g h (moved e m) (moved f m)
moved_alike m r = record { moves = ap (λ (ms : List Move). m ∷ ms) r.moves; starts = r.starts }

pub frame_can : {g h : Language} {e f : Frame} → AlikeFrames g h e f → (m : Move) → Can g e m → Can h f m
frame_can {h = h} {e = e} {f = f} r m c = let P : List Move → Type 0 = λ ms. CanMove h f.start ms m in subst P (sym r.moves) (can_on r.starts e.moves m c)

pub frame_cant : {g h : Language} {e f : Frame} → AlikeFrames g h e f → (m : Move) → (Can g e m → ⊥) → Can h f m → ⊥
frame_cant r m never c = never (frame_can (frames_turned r) m c)

pub frame_required : {g h : Language} {e f : Frame} → AlikeFrames g h e f → (names : List Name) → AreRequiredNames g e names → AreRequiredNames h f names
frame_required {g = g} {h = h} {e = e} {f = f} r names are =
    let on : (n : Name) → IsRequired g e.start e.moves n → IsRequired h f.start f.moves n =
    λ n is. (let P : List Move → Type 0 = λ ms. IsRequired h f.start ms n in subst P (sym r.moves) (required_on r.starts e.moves n is)) in
    let back : (n : Name) → IsRequired h f.start f.moves n → IsRequired g e.start e.moves n =
    λ n is. (let P : List Move → Type 0 = λ ms. IsRequired g e.start ms n in subst P r.moves (required_on (turned r.starts) f.moves n is)) in
    record { sorted = are.sorted; exact = λ n. (λ c. on n ((are.exact n).0 c), λ is. (are.exact n).1 (back n is)) }

pub frame_needed : {g h : Language} {e f : Frame} → AlikeFrames g h e f → (skip : Option Name) (names : List Name) → AreNeededNames g e skip names → AreNeededNames h f skip names
frame_needed {g = g} {h = h} {e = e} {f = f} r skip names are =
    let on : (n : Name) → IsNeeded g e.start e.moves skip n → IsNeeded h f.start f.moves skip n =
    λ n is. (let P : List Move → Type 0 = λ ms. IsNeeded h f.start ms skip n in subst P (sym r.moves) (needed_on r.starts e.moves skip n is)) in
    let back : (n : Name) → IsNeeded h f.start f.moves skip n → IsNeeded g e.start e.moves skip n =
    λ n is. (let P : List Move → Type 0 = λ ms. IsNeeded g e.start ms skip n in subst P r.moves (needed_on (turned r.starts) f.moves skip n is)) in
    record { sorted = are.sorted; exact = λ n. (λ c. on n ((are.exact n).0 c), λ is. (are.exact n).1 (back n is)) }

-- ---- the frames that begin

pub documents_alike : {g h : Language} → AreOneButForNumbers g h → AlikeFrames g h (document_frame g) (document_frame h)
documents_alike {g = g} {h = h} one = record {
  moves = refl;
  starts = record {
    there = λ k v. viable_on g h (λ a c m. start_matches one.leads_there m) v;
    back = λ k v. viable_on h g (λ a c m. start_matches one.leads_back m) v;
  };
}

pub knowns_alike : {g h : Language} (n : Name) → AreOneButForNumbers g h → AlikeFrames g h (known_frame g n) (known_frame h n)
knowns_alike {g = g} {h = h} n one = record {
  moves = refl;
  starts = record {
    there = λ k v. viable_on g h (λ a c m. known_matches n one.leads_there m) v;
    back = λ k v. viable_on h g (λ a c m. known_matches n one.leads_back m) v;
  };
}
