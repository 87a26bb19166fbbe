-- The definitions that have a name begin a frame that takes the start of an element of that name.
use Rattle.std.proofs.Common.{◌≡◌, ℕ, zero, suc, ◌+◌, List, [], ◌∷◌, Bool, true, false, refl, sym, subst, Option, Some, None, arith}
use Rattle.std.specs.Prelude.{IsTrue, IsSome, slice_get, if◌then◌else◌}
use Rattle.nx_base.specs.declared.name.Name.{Name}
use Rattle.nx_base.specs.Names.{is_xml_name}
use Rattle.nx_base.specs.Trees.{Attribute, Children, nil, element, AreChildren, no_attributes, no_children, element_first, Event, Enter, TagEnd, Leave, attributes_flat, children_flat, AreWritable}
use Rattle.rng_core.specs.Names.{has_name, covers}
use Rattle.rng_core.specs.Patterns.{Pattern, Definition, ref, Language}
use Rattle.rng_core.specs.Matching.{Matches, by_element, as_they_stand, by_first, by_second}
use Rattle.rng_kept.specs.Entering.{enter}
use Rattle.rng_kept.specs.Merging.{answered}
use Rattle.rng_kept.specs.SmallPatterns.{is_not_allowed, choice_of}
use Rattle.rng_kept.specs.Live.{AreLive}
use Rattle.rng_kept.specs.Moves.{take, adds_event}
use Rattle.rng_kept.specs.KeptLists.{CanMove}
use Rattle.rng_kept.specs.Residuals.{Residual}
use Rattle.rng_kept.specs.Standing.{Stands, StandsBehind, first_residual, known, known_from, IsKnown}
use Rattle.rng_residual.proofs.SmallPatterns.{by_test, and_true, split_none, or_same}
use Rattle.rng_residual.proofs.Samples.{sample}
use Rattle.rng_residual.proofs.Repair.{HaveChars, repair, splits_right}
use Rattle.rng_residual.proofs.Fresh.{attributes_can_be_written, children_written}
use Rattle.rng_residual.proofs.Standing.{frames_stand, answers_tell_moves}
use Rattle.rng_residual.proofs.MoveStands.{moves_stand}
use Rattle.rng_residual.proofs.Known.{known_is_told, known_frames_begin}
use Rattle.nx_recover.specs.Table.{entered_first, entered_known}

-- an element of a name that can be written, and that a pattern matches
record Sample (g : List Definition) (n : Name) (p : Pattern) : Type 0 where
  attributes : List Attribute
  children : Children
  proper : AreChildren (element n attributes children nil)
  written : AreWritable (attributes_flat attributes (TagEnd ∷ children_flat children (Leave ∷ [])))
  matched : Matches g p [] (element n attributes children nil)

written : (a : List Attribute) (z : List Event) → AreWritable (attributes_flat a []) → AreWritable z → AreWritable (attributes_flat a z)
written [] z h k = k
written (y ∷ a) z h k = (h.0, written a z h.1 k)

named_sample : {g : List Definition} (n : Name) (i : ℕ) (d : Definition) → AreLive g → slice_get g i ≡ Some d → IsTrue (has_name d.class n) → Sample g n (ref i)
named_sample {g = g} n i d live e h =
    let w = sample (live.clean i d e) in
    let r = repair w.matched (live.apart i d e) (split_none w.attributes) no_attributes in
    let x = (and_true (is_xml_name n) (covers d.class n) h).0 in
    let c : HaveChars r.all = subst (λ a. HaveChars a) (sym (splits_right r.split refl)) (r.chars w.chars) in
    record {
      attributes = r.all;
      children = w.children;
      proper = element_first x r.distinct w.written.are_children no_children;
      written = written r.all _ (attributes_can_be_written r.distinct c) (tt, children_written w.children [] (Leave ∷ []) w.written.writable (λ _. (tt, tt)));
      matched = by_element e h as_they_stand r.matched;
    }

known_takes : {g : List Definition} {a : List Attribute} {c : Children} (ds : List Definition) (n : Name) (i k : ℕ) (d : Definition) →
    slice_get ds k ≡ Some d → IsTrue (has_name d.class n) → Matches g (ref (i + k)) a c → Matches g (known_from ds n i) a c
known_takes [] n i k d e h m = cc
known_takes {g = g} {a = a} {c = c} (x ∷ ds) n i zero d e h m =
    let same : x ≡ d = cc in
    let t : has_name x.class n ≡ true = subst (λ (y : Definition). has_name y.class n ≡ true) (sym same) h in
    let at : i + 0 ≡ i = omega arith in
    rw t ((or_same g (ref i) (known_from ds n (i + 1))).from (by_first (subst (λ j. Matches g (ref j) a c) at m)))
known_takes {g = g} {a = a} {c = c} (x ∷ ds) n i (suc k) d e h m =
    let at : i + suc k ≡ i + 1 + k = omega arith in
    let w = known_takes {g = g} {a = a} {c = c} ds n (i + 1) k d e h (subst (λ j. Matches g (ref j) a c) at m) in
    by_test (λ r. Matches g r a c) (has_name x.class n) (choice_of (ref i) (known_from ds n (i + 1))) (known_from ds n (i + 1))
    (λ _. (or_same g (ref i) (known_from ds n (i + 1))).from (by_second w))
    (λ _. w)

known_can : (g : Language) (n : Name) → AreLive g.definitions → IsKnown g n → CanMove g (known g n) [] (take (Enter n))
known_can g n live k =
    let s = named_sample n k.number k.definition live k.is k.named in
    let at : k.number ≡ 0 + k.number = omega arith in
    let m = known_takes g.definitions n 0 k.number k.definition k.is k.named (subst (λ j. Matches g.definitions (ref j) [] (element n s.attributes s.children nil)) at s.matched) in
    record {
      kept = Enter n ∷ [];
      is_kept = ([], Enter n ∷ [], refl, adds_event, refl, tt);
      viable = record {
        rest = attributes_flat s.attributes (TagEnd ∷ children_flat s.children (Leave ∷ []));
        is_rest = record {
          writable = s.written;
          valid = record { tree = record { name = n; attributes = s.attributes; children = s.children }; is_tree = s.proper; events_are = refl; matched = m };
        };
      };
    }

-- ---- what is left behind such a start

abbrev no_residual : Option Residual
no_residual = None

pub none_given : IsSome no_residual → ⊥
none_given h = cc

abbrev pub FollowsKnown : Language → Name → Option Residual → Type 0
FollowsKnown g n (Some y) = IsKnown g n × Stands g (known g n) (take (Enter n) ∷ []) y
FollowsKnown g n None = IsKnown g n → ⊥

opened : (g : Language) (n : Name) (o : Option Residual) → AreLive g.definitions → IsKnown g n → StandsBehind g (known g n) [] (take (Enter n)) o → FollowsKnown g n o
opened g n (Some y) live k h = (k, h)
opened g n None live k h =
    absurd (none_given ((answers_tell_moves g (known g n) [] (take (Enter n)) None live h).0 (known_can g n live k)))

pub known_follows : (g : Language) (n : Name) → AreLive g.definitions → FollowsKnown g n (entered_known g n)
unfolding entered_known
known_follows g n live = by (is_not_allowed (known g n)) refl
  where
    first : Residual
    first = first_residual (known g n)

    by : (b : Bool) → is_not_allowed (known g n) ≡ b → FollowsKnown g n (entered_first g n (if b then None else Some first))
    by true e = λ k. let f = (known_is_told g n).1 k in cc
    by false e =
        let k = (known_is_told g n).0 e in
        let s = frames_stand g (known g n) (known_frames_begin g n live k) in
        opened g n (answered (enter g.definitions n first)) live k ((moves_stand g live (known g n) [] first s).event (Enter n) tt tt)
