-- The details of faults are names of the text or names that the schema requires, and so UTF-8.
use Rattle.std.proofs.Common.{◌≡◌, ℕ, suc, List, [], ◌∷◌, ◌++◌, Option, Some, None, refl, sym, subst, arith}
use Rattle.std.specs.Prelude.{IfSome, IsTrue, Contains, codes}
use Rattle.std.specs.List.{AllByRecursion}
use Rattle.std.specs.Str.{IsUtf8, is_utf8, chars}
use lib.Utf8.{encode}
use Rattle.std.proofs.lemmas.Bool.{and_parts}
use Rattle.std.proofs.lemmas.List.Elements.{recursion_from_All, Contains-get_or}
use Rattle.std.proofs.lemmas.Str.{IsUtf8-append, IsUtf8-nil, IsUtf8-from_is_utf8}
use Rattle.nx_base.specs.Characters.{is_of_chars, is_nc_name}
use Rattle.nx_base.specs.Names.{is_namespace, is_local, is_xml_name, is_attribute_name}
use Rattle.nx_base.specs.Trees as trees
use Rattle.nx_base.specs.Trees.{Attribute, HasAttribute, Children, nil, string, element, Leave, TagEnd, attributes_flat, children_flat, AreWritable}
use Rattle.nx_base.specs.declared.fault.Fault.{Fault}
use Rattle.nx_base.specs.declared.fault.Span.{Span}
use Rattle.nx_base.specs.declared.name.Name.{Name}
use Rattle.nx_events.specs.Among.{faults_among}
use Rattle.nx_events.specs.Items.{items_of_text}
use Rattle.nx_events.specs.Texts.{NameIsText, EventIsText, ItemsAreText}
use Rattle.nx_events.specs.declared.flaw.Flaw.{Flaw}
use Rattle.nx_events.specs.declared.item.Event.{Event}
use Rattle.nx_events.specs.declared.item.Event.TheVariants as event
use Rattle.nx_events.specs.declared.item.Item.{Item}
use Rattle.nx_events.specs.declared.item.Item.TheVariants as items
use Rattle.nx_events.proofs.Texts.{ascii_one}
use Rattle.rng_core.specs.Patterns.{Language}
use Rattle.rng_core.specs.Validity.{Viable}
use Rattle.rng_kept.specs.KeptLists.{Kept, IsRequired, IsNeeded, HasChild, this_element, behind_element, behind_string, skip_move}
use Rattle.rng_kept.specs.Live.{AreLive}
use Rattle.rng_kept.specs.Moves.{Adds, adds_attributes, adds_skipped, adds_content, missing_attributes}
use Rattle.rng_kept.specs.Residuals.{Residual}
use Rattle.rng_kept.specs.Standing.{first_residual}
use Rattle.rng_residual.proofs.Missing.{missing_parts_go_on}
use Rattle.rng_residual.proofs.Solid.{behind_attributes, behind_children}
use Rattle.nx_base.specs.PrintedNames.{braced, name_text}
use Rattle.nx_recover.specs.Details.{further_text, names_text, needed_text}
use Rattle.nx_recover.specs.Faults.{flaw_at, Along, at_end, by_event, by_fault}
use Rattle.nx_recover.specs.Frames.{Frame, Can, AreRequiredNames, AreNeededNames}
use Rattle.nx_recover.specs.Nesting as nesting
use Rattle.nx_recover.specs.Nesting.{LevelsAfter}
use Rattle.nx_recover.specs.Outcomes as rows
use Rattle.nx_recover.specs.Outcomes.{Outcome, Recovers, EndsElement}
use Rattle.nx_recover.specs.declared.levels.Open.{Open}
use Rattle.nx_recover.specs.declared.levels.Open.TheVariants.{In, Begins, Lost}
use Rattle.nx_recovery.specs.Details.{FaultsAreText}
use Rattle.nx_recovery.proofs.Tags.{Fits, InTags, text_in_tags}
use Rattle.nx_recovery.specs.Levels.{tag_after, StandsFor, StandsHere, lost_here, frame_here, none_around}
use Rattle.nx_recovery.proofs.Standing.{document_stands}
use Rattle.nx_recovery.proofs.Following.{LevelsStand, follow}
use Rattle.nx_recovery.proofs.Along.{text_items}

-- ---- names as they print

braced_text : (ns : List ℕ) → IsUtf8 ns → IsUtf8 (braced ns)
braced_text [] h = IsUtf8-nil
braced_text (b ∷ bs) h = IsUtf8-append (codes "{") ((b ∷ bs) ++ codes "}") (ascii_one 123 (omega arith)) (IsUtf8-append (b ∷ bs) (codes "}") h (ascii_one 125 (omega arith)))

name_utf8 : (n : Name) → NameIsText n → IsUtf8 (name_text n)
name_utf8 n h = IsUtf8-append (braced n.ns) n.local (braced_text n.ns h.0) h.1

further_utf8 : (names : List Name) → AllByRecursion NameIsText names → IsUtf8 (further_text names)
further_utf8 [] h = IsUtf8-nil
further_utf8 (n ∷ names) h = IsUtf8-append (codes " " ++ name_text n) _ (IsUtf8-append (codes " ") (name_text n) (ascii_one 32 (omega arith)) (name_utf8 n h.0)) (further_utf8 names h.1)

names_utf8 : (names : List Name) → AllByRecursion NameIsText names → IsUtf8 (names_text names)
names_utf8 [] h = IsUtf8-nil
names_utf8 (n ∷ names) h = IsUtf8-append (name_text n) _ (name_utf8 n h.0) (further_utf8 names h.1)

-- ---- names that are required

attribute_name_text : (n : Name) → IsTrue (is_attribute_name n) → NameIsText n
attribute_name_text n h =
    let x = and_parts (is_namespace n.ns) (is_local n.local) (and_parts (is_xml_name n) _ h).0 in
    let ns = (and_parts (is_of_chars n.ns) _ x.0).0 in
    (IsUtf8-from_is_utf8 n.ns (and_parts (is_utf8 n.ns) _ ns).0, IsUtf8-from_is_utf8 n.local (and_parts (is_utf8 n.local) (is_nc_name (chars n.local)) x.1).0)

attribute_text : {n : Name} {a : List Attribute} → HasAttribute n a → AreWritable (attributes_flat a []) → NameIsText n
attribute_text (trees.here {a = x} e) w = subst NameIsText e (attribute_name_text x.name w.0.0)
attribute_text (trees.further h) w = attribute_text h w.1

added_text : (g : Language) (f : Frame) (n : Name) (before : List trees.Event) {added : List trees.Event} → IsRequired g f.start f.moves n → Kept g f.start f.moves before →
    Adds missing_attributes added → Viable g.definitions f.start (before ++ added) → NameIsText n
added_text g f n before r k (adds_attributes a w) v = attribute_text (r a before w k v) w

required_text : (g : Language) → AreLive g.definitions → (f : Frame) (x : Residual) (l : List Name) (depth : ℕ) → StandsFor g (Some l) depth f x →
    (names : List Name) → AreRequiredNames g f names → AllByRecursion NameIsText names
required_text g live f x l depth s names r =
    let c = (missing_parts_go_on g f.start f.moves x live s.stands).0 s.of_tag.0 in
    let k = c.is_kept in
    let v : Viable g.definitions f.start (k.0 ++ k.1) = subst (λ (e : List trees.Event). Viable g.definitions f.start e) k.4 c.viable in
    let one : (n : Name) → Contains names n → NameIsText n = λ n h. added_text g f n k.0 ((r.exact n).0 h) k.2 k.3 v in
    recursion_from_All NameIsText names (λ i d lt. one _ (Contains-get_or names i d lt))

-- ---- names that are needed

needed_utf8 : (names : List Name) → AllByRecursion NameIsText names → IsUtf8 (needed_text names)
unfolding is_utf8 chars encode
needed_utf8 [] h = IsUtf8-nil
needed_utf8 (n ∷ names) h = IsUtf8-append (codes " needs") _ (IsUtf8-from_is_utf8 (codes " needs") refl) (further_utf8 (n ∷ names) h)

child_name_text : (n : Name) → IsTrue (is_xml_name n) → NameIsText n
child_name_text n h =
    let x = and_parts (is_namespace n.ns) (is_local n.local) h in
    let ns = (and_parts (is_of_chars n.ns) _ x.0).0 in
    (IsUtf8-from_is_utf8 n.ns (and_parts (is_utf8 n.ns) _ ns).0, IsUtf8-from_is_utf8 n.local (and_parts (is_utf8 n.local) (is_nc_name (chars n.local)) x.1).0)

child_text : {n : Name} (k : Children) → HasChild n k → AreWritable (children_flat k []) → NameIsText n
child_text nil h w = elim h [ ]
child_text (string t k) (behind_string h) w = child_text k h w.1
child_text (element m a j k) (this_element e) w = subst NameIsText e (child_name_text m w.0)
child_text (element m a j k) (behind_element h) w =
    let inside = (behind_attributes trees.IsWritable a (TagEnd ∷ children_flat j (Leave ∷ children_flat k [])) w.1).1 in
    child_text k h (behind_children trees.IsWritable j (Leave ∷ children_flat k []) inside).1

skipped_text : (g : Language) (f : Frame) (skip : Option Name) (n : Name) (before : List trees.Event) {added : List trees.Event} → IsNeeded g f.start f.moves skip n →
    Kept g f.start f.moves before → Adds (skip_move skip) added → Viable g.definitions f.start (before ++ added) → NameIsText n
skipped_text g f (Some m) n before r k (adds_skipped over c w) v = child_text over (r over before c w k v) w
skipped_text g f None n before r k (adds_content over c w) v = child_text over (r over before c w k v) w

needed_are_text : {g : Language} {f : Frame} (skip : Option Name) → Can g f (skip_move skip) → (names : List Name) → AreNeededNames g f skip names → AllByRecursion NameIsText names
needed_are_text {g = g} {f = f} skip c names r =
    let k = c.is_kept in
    let v : Viable g.definitions f.start (k.0 ++ k.1) = subst (λ (e : List trees.Event). Viable g.definitions f.start e) k.4 c.viable in
    let one : (n : Name) → Contains names n → NameIsText n = λ n h. skipped_text g f skip n k.0 ((r.exact n).0 h) k.2 k.3 v in
    recursion_from_All NameIsText names (λ i d lt. one _ (Contains-get_or names i d lt))

needs_utf8 : (n : Name) (names : List Name) → NameIsText n → AllByRecursion NameIsText names → IsUtf8 (name_text n ++ needed_text names)
needs_utf8 n names h k = IsUtf8-append (name_text n) (needed_text names) (name_utf8 n h) (needed_utf8 names k)

-- ---- rows

abbrev FlawIsText : Option Flaw → Type 0
FlawIsText w = IfSome w (λ (flaw : Flaw). IsUtf8 flaw.detail)

module _ {g : Language} {f : Frame} where
  enter_text : {n : Name} {o : Outcome} {w : Option Flaw} → NameIsText n → Recovers g f (trees.Enter n) o w → FlawIsText w
  enter_text h (rows.admitted a) = tt
  enter_text {n = n} h (rows.not_yet names a b c) = needs_utf8 n names h (needed_are_text (Some n) b names c)
  enter_text {n = n} h (rows.not_allowed a b c) = name_utf8 n h
  enter_text {n = n} h (rows.unknown a b c) = name_utf8 n h

  att_text : {n : Name} {v : List ℕ} {o : Outcome} {w : Option Flaw} → NameIsText n → Recovers g f (trees.Att n v) o w → FlawIsText w
  att_text h (rows.admitted a) = tt
  att_text {n = n} h (rows.bad_value a b) = name_utf8 n h
  att_text {n = n} h (rows.unknown_attribute a b) = name_utf8 n h

  tag_text : {o : Outcome} {w : Option Flaw} → ((names : List Name) → AreRequiredNames g f names → AllByRecursion NameIsText names) → Recovers g f trees.TagEnd o w → FlawIsText w
  tag_text h (rows.admitted a) = tt
  tag_text h (rows.lacks_attributes names a b) = names_utf8 names (h names b)

  chars_text : {t : List ℕ} {o : Outcome} {w : Option Flaw} → Recovers g f (trees.Chars t) o w → FlawIsText w
  chars_text (rows.admitted a) = tt
  chars_text (rows.bad_text a b) = IsUtf8-nil
  chars_text (rows.text_not_allowed a b) = IsUtf8-nil

completes_text : {g : Language} {f k : Frame} {w : Option Flaw} (n : Name) → NameIsText n → ((names : List Name) → AreNeededNames g f None names → AllByRecursion NameIsText names) →
    EndsElement g f n k w → FlawIsText w
completes_text n h all (rows.complete a) = tt
completes_text n h all (rows.incomplete names a b) = needs_utf8 n names h (all names b)

-- ---- events

abbrev OpenIsText : Open Frame → Type 0
OpenIsText (In n) = NameIsText n
OpenIsText (Begins n around) = NameIsText n
OpenIsText (Lost around) = Unit {0}

abbrev OpenAreText : List (Open Frame) → Type 0
OpenAreText os = AllByRecursion OpenIsText os

-- the names that are required where a tag ends, in a frame that stands
tag_required : (g : Language) → AreLive g.definitions → (tag : Option (List Name)) (depth : ℕ) (f : Frame) {here : Option Frame} {x : Option Residual} → here ≡ Some f → Fits tag event.TagEnd → StandsHere g tag depth here x →
    (names : List Name) → AreRequiredNames g f names → AllByRecursion NameIsText names
tag_required g live None depth f e fits s names r = absurd fits
tag_required g live (Some l) depth f e fits (frame_here {f = k} {x = x} s) names r =
    let same : k ≡ f = cc in
    required_text g live k x l depth s names (subst (λ (j : Frame). AreRequiredNames g j names) (sym same) r)
tag_required g live (Some l) depth f e fits lost_here names r = cc

-- the names that are needed where an element ends, in a frame that stands
end_needed : (g : Language) → AreLive g.definitions → (tag : Option (List Name)) (depth : ℕ) (f : Frame) {here : Option Frame} {x : Option Residual} → here ≡ Some f → Fits tag event.Leave → StandsHere g tag (suc depth) here x →
    (names : List Name) → AreNeededNames g f None names → AllByRecursion NameIsText names
end_needed g live (Some l) depth f e fits s names r = absurd fits
end_needed g live None depth f e fits (frame_here {f = k} {x = x} s) names r =
    let same : k ≡ f = cc in
    let opened = s.opened in
    let can = (missing_parts_go_on g k.start k.moves x live s.stands).1 s.of_tag (omega arith) in
    needed_are_text None can names (subst (λ (j : Frame). AreNeededNames g j None names) (sym same) r)
end_needed g live None depth f e fits lost_here names r = cc

module _ (g : Language) (live : AreLive g.definitions) where
  record TextAfter (behind : List (Open Frame)) (w : Option Flaw) : Type 0 where
    flaw : FlawIsText w
    elements : OpenAreText behind

  text_after : (tag : Option (List Name)) {here next : Option Frame} {os behind : List (Open Frame)} {e : Event} {w : Option Flaw} →
      Fits tag e → EventIsText e → OpenAreText os → LevelsStand g tag here os → LevelsAfter g here os e next behind w → TextAfter behind w
  text_after tag fits t h l (nesting.enters r) = record { flaw = enter_text t r; elements = (t, h) }
  text_after tag fits t h l (nesting.enters_own r) = record { flaw = enter_text t r; elements = (t, h) }
  text_after tag fits t h l (nesting.enters_unknown r) = record { flaw = enter_text t r; elements = (tt, h) }
  text_after tag fits t h l (nesting.attribute r) = record { flaw = att_text t.0 r; elements = h }
  text_after tag fits t h l (nesting.tag_end {f = f} r) = record { flaw = tag_text (tag_required g live tag _ f refl fits l.stands) r; elements = h }
  text_after tag fits t h l (nesting.text r) = record { flaw = chars_text r; elements = h }
  text_after tag fits t h l (nesting.leaves {f = f} {n = n} c) = record { flaw = completes_text n h.0 (end_needed g live tag _ f refl fits l.stands) c; elements = h.1 }
  text_after tag fits t h l (nesting.leaves_own {f = f} {n = n} c) = record { flaw = completes_text n h.0 (end_needed g live tag 0 f refl fits l.stands) c; elements = h.1 }
  text_after tag fits t h l (nesting.enters_known k) = record { flaw = tt; elements = (t, h) }
  text_after tag fits t h l (nesting.enters_lost k) = record { flaw = tt; elements = (tt, h) }
  text_after tag fits t h l nesting.attribute_lost = record { flaw = tt; elements = h }
  text_after tag fits t h l nesting.tag_end_lost = record { flaw = tt; elements = h }
  text_after tag fits t h l nesting.text_lost = record { flaw = tt; elements = h }
  text_after tag fits t h l nesting.loses_nameless = record { flaw = tt; elements = (tt, h) }
  text_after tag fits t h l nesting.leaves_lost = record { flaw = tt; elements = h.1 }
  text_after tag fits t h l nesting.leaves_nothing = record { flaw = tt; elements = h }
  text_after tag fits t h l nesting.leaves_nowhere = record { flaw = tt; elements = h.1 }
  text_after tag fits t h l nesting.leaves_own_nowhere = record { flaw = tt; elements = h.1 }

  abbrev AreTextFaults : List Fault → Type 0
  AreTextFaults faults = AllByRecursion (λ (fault : Fault). IsUtf8 fault.detail) faults

  flaw_first : (s : Span) (w : Option Flaw) (faults : List Fault) → FlawIsText w → AreTextFaults faults → AreTextFaults (flaw_at s w ++ faults)
  flaw_first s None faults h k = k
  flaw_first s (Some flaw) faults h k = (h, k)

  text_along : (tag : Option (List Name)) {here : Option Frame} {os : List (Open Frame)} {all : List Item} {faults : List Fault} →
      Along g here os all faults → InTags tag all → ItemsAreText all → OpenAreText os → LevelsStand g tag here os → AreTextFaults faults
  text_along tag at_end i t h l = tt
  text_along tag (by_event {e = e} {s = s} {faults = faults} next behind w after more) i t h l =
      let a = text_after tag i.0 t.0 h l after in
      flaw_first s w faults a.flaw (text_along (tag_after tag e) more i.1 t.1 a.elements (follow g live tag e i.0 t.0 l after))
  text_along tag (by_fault more) i t h l = (t.0, text_along tag more i t.1 h l)

among_text : (all : List Item) → ItemsAreText all → AllByRecursion (λ (fault : Fault). IsUtf8 fault.detail) (faults_among all)
among_text [] t = tt
among_text (items.Event e s ∷ all) t = among_text all t.1
among_text (items.Fault x ∷ all) t = (t.0, among_text all t.1)

pub faults_are_text : FaultsAreText
faults_are_text None text faults live utf8 are =
    subst (λ (xs : List Fault). AllByRecursion (λ (fault : Fault). IsUtf8 fault.detail) xs) (sym are) (among_text (items_of_text text) (text_items text utf8))
faults_are_text (Some g) text faults live utf8 along =
    text_along g live.definitions None along (text_in_tags text) (text_items text utf8) tt
    (record { form = record { here = Some (first_residual g.start); elements = [] }; stands = document_stands live.start; around = none_around })
