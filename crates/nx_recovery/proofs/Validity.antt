-- Without faults each event is admitted, and where the events are valid each is.
use Rattle.std.proofs.Common.{◌≡◌, ℕ, suc, List, [], ◌∷◌, ◌++◌, length, map, Option, Some, None, refl, ap, sym, subst, ◌∙◌, append_assoc, append-nil}
use Rattle.std.specs.Str.{IsUtf8}
use Rattle.std.proofs.lemmas.Str.{is_utf8-from_IsUtf8}
use Rattle.nx_base.specs.Tokens.{tokens_of}
use Rattle.nx_base.specs.Trees as trees
use Rattle.nx_base.specs.Trees.{Tree, Attribute, Children, nil, string, element, alone, flat, attributes_flat, children_flat}
use Rattle.nx_base.specs.declared.fault.Fault.{Fault}
use Rattle.nx_base.specs.declared.fault.Span.{Span}
use Rattle.nx_base.specs.declared.name.Name.{Name}
use Rattle.nx_document.specs.Document.{Document}
use Rattle.nx_document.proofs.Proper.{proper_names}
use Rattle.nx_document.proofs.Borders.{tokens_mark_first}
use Rattle.nx_document.proofs.Nesting.{document_reads}
use Rattle.nx_document.proofs.Prologs.{faultless_is_document}
use Rattle.nx_events.specs.Among.{faults_among, events_among}
use Rattle.nx_events.specs.Items.{items_of_text}
use Rattle.nx_events.specs.Texts.{EventIsText, ItemsAreText}
use Rattle.nx_events.specs.TreeEvents.{as_event}
use Rattle.nx_events.specs.declared.flaw.Flaw.{Flaw}
use Rattle.nx_events.specs.declared.item.Event.{Event}
use Rattle.nx_events.specs.declared.item.Event.TheVariants.{Att, Chars}
use Rattle.nx_events.specs.declared.item.Item.{Item}
use Rattle.nx_events.specs.declared.item.Item.TheVariants as items
use Rattle.nx_events.proofs.TreeEvents.{stay_apart}
use Rattle.rng_core.specs.Patterns.{Language}
use Rattle.rng_core.specs.Matching.{Matches}
use Rattle.rng_core.specs.Validity.{Valid, Viable}
use Rattle.rng_kept.specs.Events.{IsText, AreText}
use Rattle.rng_kept.specs.KeptLists.{Kept}
use Rattle.rng_kept.specs.Live.{IsLive, IsFrame}
use Rattle.rng_kept.specs.Moves.{take, adds_event}
use Rattle.rng_kept.specs.Standing.{first_residual}
use Rattle.rng_residual.proofs.Distinct.{attributes_append, children_append}
use Rattle.rng_residual.proofs.Events.{attributes_unique, children_unique}
use Rattle.rng_residual.proofs.Standing.{adds_is, frames_stand, standing_goes_on, fronts_are_viable}
use Rattle.nx_recover.specs.Faults.{flaw_at, Along, at_end, by_event, by_fault, AreFaultsOf}
use Rattle.nx_recover.specs.Frames.{Frame, moved, Can, document_frame}
use Rattle.nx_recover.specs.Nesting as nesting
use Rattle.nx_recover.specs.Nesting.{LevelsAfter}
use Rattle.nx_recover.specs.Outcomes as rows
use Rattle.nx_recover.specs.Outcomes.{Outcome, goes_on, begins_frame, loses, Recovers, EndsElement}
use Rattle.nx_recover.specs.declared.levels.Open.{Open}
use Rattle.nx_recover.specs.declared.levels.Open.TheVariants.{In}
use Rattle.nx_recovery.specs.Validity.{IsValidDocument, NoFaultsIsValid, NoFaultsHaveValidEvents}
use Rattle.nx_recovery.proofs.Along.{text_items}

-- ---- elements nest

-- where so many elements are open, these events end each element that they begin, and all that are open
abbrev pub Balanced : List trees.Event → ℕ → Type 0
Balanced [] depth = depth ≡ 0
Balanced (trees.Enter n ∷ es) depth = Balanced es (suc depth)
Balanced (trees.Att n v ∷ es) depth = Balanced es depth
Balanced (trees.TagEnd ∷ es) depth = Balanced es depth
Balanced (trees.Chars t ∷ es) depth = Balanced es depth
Balanced (trees.Leave ∷ es) depth = (outer : ℕ) × (depth ≡ suc outer) × Balanced es outer

attributes_balanced : (a : List Attribute) (es : List trees.Event) (depth : ℕ) → Balanced es depth → Balanced (attributes_flat a es) depth
attributes_balanced [] es depth h = h
attributes_balanced (x ∷ a) es depth h = attributes_balanced a es depth h

pub children_balanced : (c : Children) (es : List trees.Event) (depth : ℕ) → Balanced es depth → Balanced (children_flat c es) depth
children_balanced nil es depth h = h
children_balanced (string t c) es depth h = children_balanced c es depth h
children_balanced (element n a k c) es depth h =
    attributes_balanced a (trees.TagEnd ∷ children_flat k (trees.Leave ∷ children_flat c es)) (suc depth)
    (children_balanced k (trees.Leave ∷ children_flat c es) (suc depth) (depth, refl, children_balanced c es depth h))

-- so many elements are open, each of the frame here
data AllIn : ℕ → List (Open Frame) → Type 0 where
  none_in : AllIn 0 []
  more_in : {depth : ℕ} {n : Name} {os : List (Open Frame)} → AllIn depth os → AllIn (suc depth) (In n ∷ os)

-- ---- first parts

pub frame_in : Frame → Outcome → Frame
frame_in f (goes_on k) = k
frame_in f begins_frame = f
frame_in f loses = f

pub same_frame : {k j : Frame} → goes_on k ≡ goes_on j → Some k ≡ Some j
unfolding frame_in
same_frame {k = k} e = ap (λ o. Some (frame_in k o)) e

pub nothing_first : (s : Span) (w : Option Flaw) (faults : List Fault) → flaw_at s w ++ faults ≡ [] → (w ≡ None) × (faults ≡ [])
nothing_first s None faults e = (refl, e)
nothing_first s (Some w) faults e = cc

pub first_event : (e : Event) (es : List Event) (x : trees.Event) (xs : List trees.Event) → e ∷ es ≡ map as_event (x ∷ xs) → (e ≡ as_event x) × (es ≡ map as_event xs)
first_event e es x xs h = let both : e ∷ es ≡ as_event x ∷ map as_event xs = h in (cc, cc)

pub front_text : (k : List trees.Event) (x : trees.Event) → AreText k → IsText x → AreText (k ++ x ∷ [])
front_text [] x h i = (i, tt)
front_text (y ∷ k) x h i = (h.0, front_text k x h.1 i)

-- ---- one event

module _ (g : Language) where
  pub record Admits (f : Frame) (e : trees.Event) (o : Outcome) : Type 0 where
    pub can : Can g f (take e)
    pub outcome : o ≡ goes_on (moved f (take e))

  pub admits : {f : Frame} {e : trees.Event} {o : Outcome} {w : Option Flaw} → Recovers g f e o w → w ≡ None → Admits f e o
  admits (rows.admitted a) e = record { can = a; outcome = refl }
  admits (rows.not_yet names a b c) e = cc
  admits (rows.not_allowed a b c) e = cc
  admits (rows.unknown a b c) e = cc
  admits (rows.bad_value a b) e = cc
  admits (rows.unknown_attribute a b) e = cc
  admits (rows.lacks_attributes names a b) e = cc
  admits (rows.bad_text a b) e = cc
  admits (rows.text_not_allowed a b) e = cc

  record Step (f : Frame) (x : trees.Event) (es : List trees.Event) (next : Option Frame) (behind : List (Open Frame)) : Type 0 where
    can : Can g f (take x)
    next_is : next ≡ Some (moved f (take x))
    depth : ℕ
    all_in : AllIn depth behind
    balanced : Balanced es depth

  step : {f : Frame} {os behind : List (Open Frame)} {next : Option Frame} {w : Option Flaw} (x : trees.Event) (es : List trees.Event) (depth : ℕ) →
      AllIn depth os → Balanced (x ∷ es) depth → LevelsAfter g (Some f) os (as_event x) next behind w → w ≡ None → Step f x es next behind
  step (trees.Enter n) es depth i b (nesting.enters r) e = let a = admits r e in record { can = a.can; next_is = same_frame a.outcome; depth = suc depth; all_in = more_in i; balanced = b }
  step (trees.Enter n) es depth i b (nesting.enters_own r) e = let o = (admits r e).outcome in cc
  step (trees.Enter n) es depth i b (nesting.enters_unknown r) e = let o = (admits r e).outcome in cc
  step (trees.Att n v) es depth i b (nesting.attribute r) e = let a = admits r e in record { can = a.can; next_is = same_frame a.outcome; depth = depth; all_in = i; balanced = b }
  step trees.TagEnd es depth i b (nesting.tag_end r) e = let a = admits r e in record { can = a.can; next_is = same_frame a.outcome; depth = depth; all_in = i; balanced = b }
  step (trees.Chars t) es depth i b (nesting.text r) e = let a = admits r e in record { can = a.can; next_is = same_frame a.outcome; depth = depth; all_in = i; balanced = b }
  step trees.Leave es depth (more_in {depth = d} i) b (nesting.leaves (rows.complete a)) e =
      let same : b.0 ≡ d = cc in
      record { can = a; next_is = refl; depth = d; all_in = i; balanced = subst (λ k. Balanced es k) same b.2 }
  step trees.Leave es depth i b (nesting.leaves (rows.incomplete names a c)) e = cc
  step trees.Leave es depth i b (nesting.leaves_own c) e = elim i [ ]
  step trees.Leave es depth i b nesting.leaves_lost e = elim i [ ]
  step trees.Leave es depth none_in b nesting.leaves_nothing e = let z = b.1 in cc

  record Goes (f : Frame) (os : List (Open Frame)) (x : trees.Event) (es : List trees.Event) : Type 0 where
    behind : List (Open Frame)
    goes : LevelsAfter g (Some f) os (as_event x) (Some (moved f (take x))) behind None
    depth : ℕ
    all_in : AllIn depth behind
    balanced : Balanced es depth

  go : (f : Frame) {os : List (Open Frame)} (x : trees.Event) (es : List trees.Event) (depth : ℕ) → AllIn depth os → Balanced (x ∷ es) depth → Can g f (take x) → Goes f os x es
  go f {os = os} (trees.Enter n) es depth i b c = record { behind = In n ∷ os; goes = nesting.enters (rows.admitted c); depth = suc depth; all_in = more_in i; balanced = b }
  go f {os = os} (trees.Att n v) es depth i b c = record { behind = os; goes = nesting.attribute (rows.admitted c); depth = depth; all_in = i; balanced = b }
  go f {os = os} trees.TagEnd es depth i b c = record { behind = os; goes = nesting.tag_end (rows.admitted c); depth = depth; all_in = i; balanced = b }
  go f {os = os} (trees.Chars t) es depth i b c = record { behind = os; goes = nesting.text (rows.admitted c); depth = depth; all_in = i; balanced = b }
  go f trees.Leave es depth none_in b c = let z = b.1 in cc
  go f trees.Leave es depth (more_in {depth = d} {os = os} i) b c =
      let same : b.0 ≡ d = cc in
      record { behind = os; goes = nesting.leaves (rows.complete c); depth = d; all_in = i; balanced = subst (λ k. Balanced es k) same b.2 }

  -- ---- without faults

  -- the moves keep this list alone
  abbrev pub KeepsOnly : Frame → List trees.Event → Type 0
  KeepsOnly f k = (kept : List trees.Event) → Kept g f.start f.moves kept → kept ≡ k

  pub keeps_next : (f : Frame) (x : trees.Event) (k : List trees.Event) → KeepsOnly f k → KeepsOnly (moved f (take x)) (k ++ x ∷ [])
  keeps_next f x k only kept w =
      w.4 ∙ ap (λ (v : List trees.Event). w.0 ++ v) (adds_is w.3) ∙ ap (λ (v : List trees.Event). v ++ x ∷ []) (only w.0 w.2)

  pub viable_next : (f : Frame) (x : trees.Event) (k : List trees.Event) → KeepsOnly f k → Can g f (take x) → Viable g.definitions f.start (k ++ x ∷ [])
  viable_next f x k only c = subst (λ v. Viable g.definitions f.start v) (keeps_next f x k only c.kept c.is_kept) c.viable

  admitted_along : {here : Option Frame} {os : List (Open Frame)} {all : List Item} {faults : List Fault} → Along g here os all faults → faults ≡ [] →
      (f : Frame) → here ≡ Some f → (es : List trees.Event) → events_among all ≡ map as_event es → (depth : ℕ) → AllIn depth os → Balanced es depth →
      (k : List trees.Event) → KeepsOnly f k → Viable g.definitions f.start k → Viable g.definitions f.start (k ++ es)
  admitted_along at_end e f h [] m depth i b k only v = subst (λ (l : List trees.Event). Viable g.definitions f.start l) (sym (append-nil k)) v
  admitted_along at_end e f h (x ∷ es) m depth i b k only v = cc
  admitted_along (by_event {s = s} {faults = faults} next behind w l a) e f h [] m depth i b k only v = cc
  admitted_along (by_event {os = os} {e = event} {s = s} {all = all} {faults = faults} next behind w l a) e f h (x ∷ es) m depth i b k only v =
      let n = nothing_first s w faults e in
      let first = first_event event (events_among all) x es m in
      let there : LevelsAfter g (Some f) os (as_event x) next behind w =
      subst (λ (y : Event). LevelsAfter g (Some f) os y next behind w) first.0 (subst (λ (o : Option Frame). LevelsAfter g o os event next behind w) h l) in
      let t = step x es depth i b there n.0 in
      subst (λ (l : List trees.Event). Viable g.definitions f.start l) (append_assoc k (x ∷ []) es)
      (admitted_along a n.1 (moved f (take x)) t.next_is es first.1 t.depth t.all_in t.balanced (k ++ x ∷ []) (keeps_next f x k only) (viable_next f x k only t.can))
  admitted_along (by_fault a) e f h es m depth i b k only v = cc

  no_fault_among : {here : Option Frame} {os : List (Open Frame)} {all : List Item} {faults : List Fault} → Along g here os all faults → faults ≡ [] → faults_among all ≡ []
  no_fault_among at_end e = refl
  no_fault_among (by_event {s = s} {faults = faults} next behind w l a) e = no_fault_among a (nothing_first s w faults e).1
  no_fault_among (by_fault a) e = cc

  -- ---- where the events are valid

  valid_along : IsLive g → (all : List Item) → faults_among all ≡ [] → (f : Frame) (os : List (Open Frame)) → IsFrame g f.start →
      (es : List trees.Event) → events_among all ≡ map as_event es → AreText es → (depth : ℕ) → AllIn depth os → Balanced es depth →
      (k : List trees.Event) → Kept g f.start f.moves k → AreText k → Valid g.definitions f.start (k ++ es) → Along g (Some f) os all []
  valid_along live [] e f os frame es m t depth i b k kept u v = at_end
  valid_along live (items.Fault x ∷ all) e f os frame es m t depth i b k kept u v = cc
  valid_along live (items.Event event s ∷ all) e f os frame [] m t depth i b k kept u v = cc
  valid_along live (items.Event event s ∷ all) e f os frame (x ∷ es) m t depth i b k kept u v =
      let first = first_event event (events_among all) x es m in
      let whole : Valid g.definitions f.start ((k ++ x ∷ []) ++ es) = subst (λ (l : List trees.Event). Valid g.definitions f.start l) (sym (append_assoc k (x ∷ []) es)) v in
      let text = front_text k x u t.0 in
      let next_kept : Kept g f.start (take x ∷ f.moves) (k ++ x ∷ []) = (k, x ∷ [], kept, adds_event, refl, tt) in
      let can : Can g f (take x) = record { kept = k ++ x ∷ []; is_kept = next_kept; viable = fronts_are_viable g live.definitions f.start frame (k ++ x ∷ []) es text t.1 whole } in
      let w = go f x es depth i b can in
      by_event (Some (moved f (take x))) w.behind None
      (subst (λ (y : Event). LevelsAfter g (Some f) os y (Some (moved f (take x))) w.behind None) (sym first.0) w.goes)
      (valid_along live all e (moved f (take x)) w.behind frame es first.1 t.1 w.depth w.all_in w.balanced (k ++ x ∷ []) next_kept text whole)

-- ---- the strings of events

text_of : (x : trees.Event) (e : Event) → e ≡ as_event x → EventIsText e → IsText x
text_of (trees.Enter n) e q h = tt
text_of (trees.Att n v) e q h = let w : EventIsText (Att n v) = subst EventIsText q h in is_utf8-from_IsUtf8 v w.1
text_of trees.TagEnd e q h = tt
text_of (trees.Chars u) e q h = let w : EventIsText (Chars u) = subst EventIsText q h in is_utf8-from_IsUtf8 u w
text_of trees.Leave e q h = tt

pub event_text : (all : List Item) (es : List trees.Event) → ItemsAreText all → events_among all ≡ map as_event es → AreText es
event_text all [] t m = tt
event_text [] (x ∷ es) t m = cc
event_text (items.Fault y ∷ all) (x ∷ es) t m = event_text all (x ∷ es) t.1 m
event_text (items.Event e s ∷ all) (x ∷ es) t m = let first = first_event e (events_among all) x es m in (text_of x e first.0 t.0, event_text all es t.1 first.1)

-- ---- what begins with the events of a tree is the events of that tree alone

record SameTree (one other : Tree) (s : List trees.Event) : Type 0 where
  same : one ≡ other
  ends : s ≡ []

tree_alone : (one other : Tree) (s : List trees.Event) → flat one ++ s ≡ flat other → SameTree one other s
tree_alone one other s e =
    let n = one.name in
    let whole : trees.Enter n ∷ attributes_flat one.attributes (trees.TagEnd ∷ children_flat one.children (trees.Leave ∷ s)) ≡ trees.Enter other.name ∷ attributes_flat other.attributes (trees.TagEnd ∷ children_flat other.children (trees.Leave ∷ [])) =
    sym (ap (λ (l : List trees.Event). trees.Enter n ∷ l)
    (attributes_append one.attributes (trees.TagEnd ∷ children_flat one.children (trees.Leave ∷ [])) s
    ∙ ap (λ (l : List trees.Event). attributes_flat one.attributes (trees.TagEnd ∷ l)) (children_append one.children (trees.Leave ∷ []) s))) ∙ e in
    let names : n ≡ other.name = cc in
    let tails : attributes_flat one.attributes (trees.TagEnd ∷ children_flat one.children (trees.Leave ∷ s)) ≡ attributes_flat other.attributes (trees.TagEnd ∷ children_flat other.children (trees.Leave ∷ [])) = cc in
    let a = attributes_unique one.attributes other.attributes (children_flat one.children (trees.Leave ∷ s)) (children_flat other.children (trees.Leave ∷ [])) tails in
    let c = children_unique one.children other.children s [] a.1 in
    record { same = λ i. record { name = names i; attributes = a.0 i; children = c.0 i }; ends = c.1 }

-- ---- both ways

tree_of_text : (text : List ℕ) → IsUtf8 text → faults_among (items_of_text text) ≡ [] → (tree : Tree) × Document (tokens_of text) tree
tree_of_text text utf8 e = faultless_is_document (tokens_of text) (length text) (tokens_mark_first text utf8) e

faultless_valid : (g : Language) → IsLive g → (text : List ℕ) → IsUtf8 text → AreFaultsOf (Some g) text [] → IsValidDocument g text
faultless_valid g live text utf8 along =
    let w = tree_of_text text utf8 (no_fault_among g along refl) in
    let tree = w.0 in
    let are = (document_reads (tokens_of text) tree (length text) w.1).1 in
    let start = standing_goes_on g g.start [] (first_residual g.start) live.definitions (frames_stand g g.start live.start) in
    let begins : Viable g.definitions g.start [] =
    record { rest = start.rest; is_rest = record { writable = start.is_rest_of.is_rest.writable; valid = subst (λ (k : List trees.Event). Valid g.definitions g.start (k ++ start.rest)) start.is_rest_of.is_kept start.is_rest_of.is_rest.valid } } in
    let whole = admitted_along g along refl (document_frame g) refl (flat tree) are 0 none_in (children_balanced (alone tree) [] 0 refl) [] (λ kept h. h) begins in
    let v = whole.is_rest.valid in
    let s = tree_alone tree v.tree whole.rest v.events_are in
    record { tree = tree; document = w.1; matched = subst (λ (t : Tree). Matches g.definitions g.start [] (alone t)) (sym s.same) v.matched }

valid_faultless : (g : Language) → IsLive g → (text : List ℕ) → IsUtf8 text → IsValidDocument g text → AreFaultsOf (Some g) text []
valid_faultless g live text utf8 d =
    let none = (document_reads (tokens_of text) d.tree (length text) d.document).0 in
    let are = (document_reads (tokens_of text) d.tree (length text) d.document).1 in
    let v : Valid g.definitions g.start (flat d.tree) = record { tree = d.tree; is_tree = proper_names text d.tree utf8 d.document; events_are = refl; matched = d.matched } in
    valid_along g live (items_of_text text) none (document_frame g) [] live.start (flat d.tree) are (event_text (items_of_text text) (flat d.tree) (text_items text utf8) are)
    0 none_in (children_balanced (alone d.tree) [] 0 refl) [] refl tt v

pub no_faults_is_valid : NoFaultsIsValid
no_faults_is_valid g live text utf8 = (faultless_valid g live text utf8, valid_faultless g live text utf8)

pub no_faults_have_valid_events : NoFaultsHaveValidEvents
no_faults_have_valid_events g live text utf8 = (
  λ h.
      let d = faultless_valid g live text utf8 h in
      record {
        faultless = no_fault_among g h refl;
        events = flat d.tree;
        are = (document_reads (tokens_of text) d.tree (length text) d.document).1;
        valid = record { tree = d.tree; is_tree = proper_names text d.tree utf8 d.document; events_are = refl; matched = d.matched };
      },
  λ h.
      let w = tree_of_text text utf8 h.faultless in
      let are = (document_reads (tokens_of text) w.0 (length text) w.1).1 in
      let same : flat w.0 ≡ h.events = stay_apart (flat w.0) h.events (sym are ∙ h.are) in
      let v = h.valid in
      let s = tree_alone w.0 v.tree [] (append-nil (flat w.0) ∙ same ∙ v.events_are) in
      valid_faultless g live text utf8 (record { tree = w.0; document = w.1; matched = subst (λ (t : Tree). Matches g.definitions g.start [] (alone t)) (sym s.same) v.matched }),
)
