-- Children with a string in front, and their events.
use Rattle.std.proofs.Common.{◌≡◌, ℕ, Bool, true, false, cond, Option, Some, None, List, [], ◌∷◌, ◌++◌, map, refl, ap, append_assoc, length, suc, arith}
use Rattle.std.specs.Prelude.{◌==◌}
use Rattle.std.proofs.lemmas.Bool.{ne_eqb}
use Rattle.std.proofs.lemmas.List.{append-nil}
use Rattle.nx_base.specs.Trees.{Tree, Children, nil, string, element, children_flat, alone}
use Rattle.nx_base.specs.Trees as trees
use Rattle.nx_base.specs.declared.fault.Span.{Span}
use Rattle.nx_events.specs.Runs.{run_items, run_passed, run_joined}
use Rattle.nx_events.specs.declared.item.Event.{Event}
use Rattle.nx_events.specs.declared.item.Event.TheVariants.{Chars}
use Rattle.nx_events.specs.declared.item.Item.TheVariants as items
use Rattle.nx_events.specs.declared.state.Run.{Run}
use Rattle.nx_document.specs.Document.{with_text}
use Rattle.nx_events.specs.Among.{events_among}
use Rattle.nx_events.specs.TreeEvents.{as_event}
use Rattle.nx_document.proofs.Told.{Clean, clean_nil}

-- the string of a run that is pending, empty where there is none
abbrev pub pending : Option Run → List ℕ
pending None = []
pending (Some run) = run.string

pub pending_passed : (n : ℕ) (run : Option Run) → pending (run_passed n run) ≡ pending run
pending_passed n None = refl
pending_passed n (Some run) = refl

pub pending_joined : (text : List ℕ) (n : ℕ) (run : Option Run) → pending (run_joined text n run) ≡ pending run ++ text
pending_joined text n None = refl
pending_joined text n (Some run) = refl

-- the events of a pending string, and then these
abbrev pub text_flat : List ℕ → List trees.Event → List trees.Event
text_flat text x = children_flat (with_text text nil) x

either_clean : (t : Bool) (event : Event) (span : Span) → Clean (cond t [] (items.Event event span ∷ []))
either_clean true event span = clean_nil
either_clean false event span = record { none = refl }

pub run_clean : (at : ℕ) (run : Option Run) → Clean (run_items at run)
unfolding run_items
run_clean at None = clean_nil
run_clean at (Some run) = either_clean (length run.string == 0) (Chars run.string) _

run_told : (text : List ℕ) (at len gap : ℕ) (x : List trees.Event) → events_among (run_items at (Some (record { string = text; len = len; gap = gap }))) ++ map as_event x ≡ map as_event (text_flat text x)
unfolding run_items
run_told [] at len gap x = refl
run_told (b ∷ text) at len gap x =
    let some : (suc (length text) == 0) ≡ false = ne_eqb (suc (length text)) 0 (λ e. absurd (omega (arith, e))) in
    rw some refl

pub run_events : (at : ℕ) (run : Option Run) (x : List trees.Event) → events_among (run_items at run) ++ map as_event x ≡ map as_event (text_flat (pending run) x)
unfolding run_items
run_events at None x = refl
run_events at (Some run) x = run_told run.string at run.len run.gap x

-- two strings in front are one
pub text_twice : (a b : List ℕ) (c : Children) → with_text (a ++ b) c ≡ with_text a (with_text b c)
text_twice [] b c = refl
text_twice (x ∷ a) [] nil = ap (λ (t : List ℕ). string (x ∷ t) nil) (append-nil a)
text_twice (x ∷ a) [] (string text rest) = ap (λ (t : List ℕ). string (x ∷ (t ++ text)) rest) (append-nil a)
text_twice (x ∷ a) [] (element n at k r) = ap (λ (t : List ℕ). string (x ∷ t) (element n at k r)) (append-nil a)
text_twice (x ∷ a) (y ∷ b) nil = refl
text_twice (x ∷ a) (y ∷ b) (string text rest) = ap (λ (t : List ℕ). string (x ∷ t) rest) (append_assoc a (y ∷ b) text)
text_twice (x ∷ a) (y ∷ b) (element n at k r) = refl

-- an element behind a string
pub element_flat : (text : List ℕ) (tree : Tree) (c : Children) (x : List trees.Event) →
    children_flat (with_text text (element tree.name tree.attributes tree.children c)) x ≡ text_flat text (children_flat (alone tree) (children_flat c x))
element_flat [] tree c x = refl
element_flat (b ∷ text) tree c x = refl
