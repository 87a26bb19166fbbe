-- What a writer wrote is a text of the events: by what may still follow it.
use Rattle.std.proofs.Common.{◌≡◌, ℕ, suc, ◌<◌, List, [], ◌∷◌, ◌++◌, length, take, drop, refl, sym, ◌∙◌, ap, subst, arith, append_assoc, append-nil, codes}
use Rattle.std.specs.Prelude.{IsTrue}
use Rattle.std.proofs.lemmas.List.{take_at}
use Rattle.nx_base.specs.Characters.{is_of_chars}
use Rattle.nx_base.specs.Trees.{Attribute, Event, Enter, Att, TagEnd, Chars, Leave, attributes_flat, AreWritable}
use Rattle.nx_base.specs.declared.name.Name.{Name}
use Rattle.nx_events.specs.Spelling.{Written, spelled_before, spelled_all, spelled_tag}
use Rattle.nx_events.specs.declared.scope.Binding.{Binding}
use Rattle.nx_events.specs.declared.state.OpenElement.{OpenElement}
use Rattle.nx_written.specs.Documents.{Around, in_scope, end_tag, ArePlain, BeginsApart, BeginsContent, Writes, all_ended, a_string, a_start_tag, an_empty_tag, an_end_tag, WritesRoot, root_with_tags, root_alone}
use Rattle.nx_written.specs.Escaping.{escaped}
use Rattle.nx_written.specs.Naming.{NamesElement, NamesAttribute}
use Rattle.nx_written.specs.Reading.{open_elements}
use Rattle.nx_written.specs.Tags.{attribute_of, declarations, WritesAttributes, no_attribute, an_attribute, WritesTag}
use Rattle.nx_written.specs.Writing.{Held, opening_end, end_by, EntersElement, AddsAttribute, EndsAttributes, AddsString, WritesEvent, WritesAll, all_written, one_written}
use Rattle.nx_written.specs.Written.{AreLeft, nothing_left, string_left, element_left, end_left, RootIsLeft, AreOpen, IsRestText, BegunIsLeft, IsBegunText}
use Rattle.nx_written.specs.Begun.{WritesOn, WritesBegun, goes_inside, ends_at_once}
use Rattle.rng_fill.specs.Moves.{event_of, events_of}
use Rattle.rng_fill.specs.declared.moves.Move.{Move}
use Rattle.nx_written.specs.declared.writer.Stage.{Stage}
use Rattle.nx_written.specs.declared.writer.Stage.TheVariants as stage

-- ---- spelled attributes in a row

spelled_behind : (its others : List Written) (closing : List ℕ) → spelled_all (its ++ others) closing ≡ spelled_all its [] ++ spelled_all others closing
spelled_behind [] others closing = refl
spelled_behind (it ∷ its) others closing =
    ap (λ xs. it.space ++ spelled_before it xs) (spelled_behind its others closing) ∙ further it (spelled_all its []) (spelled_all others closing)
  where
    further : (it : Written) (xs ys : List ℕ) → it.space ++ spelled_before it (xs ++ ys) ≡ (it.space ++ spelled_before it xs) ++ ys
    further it xs ys = simp append_assoc

closing_behind : (its : List Written) (closing : List ℕ) → spelled_all its closing ≡ spelled_all its [] ++ closing
closing_behind its closing = ap (λ (xs : List Written). spelled_all xs closing) (sym (append-nil its)) ∙ spelled_behind its [] closing

-- attributes stand in front of one end of a tag only
tails : (e f : Event) (xs ys : List Event) → e ∷ xs ≡ f ∷ ys → xs ≡ ys
tails e f xs ys h = cc

flat_once : (a b : List Attribute) (xs ys : List Event) → attributes_flat a (TagEnd ∷ xs) ≡ attributes_flat b (TagEnd ∷ ys) → (a ≡ b) × (xs ≡ ys)
flat_once [] [] xs ys e = (refl, tails TagEnd TagEnd xs ys e)
flat_once [] (y ∷ b) xs ys e = let bad : TagEnd ∷ xs ≡ Att y.name y.value ∷ attributes_flat b (TagEnd ∷ ys) = e in cc
flat_once (x ∷ a) [] xs ys e = let bad : Att x.name x.value ∷ attributes_flat a (TagEnd ∷ xs) ≡ TagEnd ∷ ys = e in cc
flat_once (x ∷ a) (y ∷ b) xs ys e =
    let more = flat_once a b xs ys (tails (Att x.name x.value) (Att y.name y.value) (attributes_flat a (TagEnd ∷ xs)) (attributes_flat b (TagEnd ∷ ys)) e) in
    let name : x.name ≡ y.name = cc in
    let value : x.value ≡ y.value = cc in
    (ap (λ (n : Name). (record { name = n; value = x.value }) ∷ a) name ∙ ap (λ (v : List ℕ). (record { name = y.name; value = v }) ∷ a) value ∙ ap (λ (them : List Attribute). y ∷ them) more.0, more.1)

-- ---- what is open

abbrev pub IsInside : List Around → Held → Type 0
IsInside around it = AreOpen around it.open_tags it.scope

-- behind what was there stands a text
pub record AddsText (IsText : List ℕ → Type 0) (old new : Held) : Type 0 where
  pub added : List ℕ
  pub text : new.text ≡ old.text ++ added
  pub says : IsText added

-- ---- what may follow

-- behind the attributes of the tag of an element
data EndsTag (element : Around) (outer : List Around) (events : List Event) (bytes : List ℕ) : Type 0 where
  with_content : (rest : List ℕ) → BeginsContent events → Writes (element ∷ outer) events rest → bytes ≡ codes ">" ++ rest → EndsTag element outer events bytes
  without : (after : List Event) (rest : List ℕ) → events ≡ Leave ∷ after → Writes outer after rest → bytes ≡ codes "/>" ++ rest → EndsTag element outer events bytes

-- in a tag that declares these so far
record InTag (element : Around) (outer : List Around) (events : List Event) (bytes : List ℕ) : Type 0 where
  attributes : List Attribute
  its : List Written
  own : List Binding
  after : List Event
  rest : List ℕ
  writes : WritesAttributes (in_scope outer ++ element.own) attributes its own
  events_are : events ≡ attributes_flat attributes (TagEnd ∷ after)
  bytes_are : bytes ≡ spelled_all its [] ++ rest
  ends : EndsTag (record { written = element.written; own = element.own ++ own }) outer after rest

Follows : Stage → List Around → List Event → List ℕ → Type 0
Follows stage.Inside around events bytes = Writes around events bytes
Follows stage.InTag [] events bytes = ⊥
Follows stage.InTag (element ∷ outer) events bytes = InTag element outer events bytes
Follows stage.Ended [] events bytes = ⊥
Follows stage.Ended (element ∷ outer) events bytes = EndsTag element outer events bytes

-- which events are left there
record TagIsLeft (n : ℕ) (events : List Event) : Type 0 where
  attributes : List Attribute
  after : List Event
  left : AreLeft n after
  is : events ≡ attributes_flat attributes (TagEnd ∷ after)

Needs : Stage → List Around → List Event → Type 0
Needs stage.Inside around events = AreLeft (length around) events
Needs stage.InTag [] events = ⊥
Needs stage.InTag (element ∷ outer) events = TagIsLeft (suc (length outer)) events
Needs stage.Ended [] events = ⊥
Needs stage.Ended (element ∷ outer) events = AreLeft (suc (length outer)) events

-- what is written so far, in front of all that may follow
record Going (IsText : List ℕ → Type 0) (start : List ℕ) (it : Held) (events : List Event) : Type 0 where
  around : List Around
  inside : IsInside around it
  needs : Needs it.stage around events
  so_far : List ℕ
  text : it.text ≡ start ++ so_far
  says : (bytes : List ℕ) → Follows it.stage around events bytes → IsText (so_far ++ bytes)

-- ---- one event

-- `>` in front of content
record IsOpened (IsText : List ℕ → Type 0) (start : List ℕ) (it : Held) (events : List Event) : Type 0 where
  element : Around
  outer : List Around
  inside : IsInside (element ∷ outer) it
  left : AreLeft (suc (length outer)) events
  so_far : List ℕ
  text : it.text ++ opening_end it.stage ≡ start ++ so_far
  says : (bytes : List ℕ) → Writes (element ∷ outer) events bytes → IsText (so_far ++ bytes)

opened : {IsText : List ℕ → Type 0} {start : List ℕ} {it : Held} {events : List Event} → BeginsContent events → Going IsText start it events → IsOpened IsText start it events
unfolding Needs Follows
opened {IsText} {start} {it} {events} content g = by it.stage refl g.around g.inside g.needs g.says
  where
    by : (s : Stage) → it.stage ≡ s → (around : List Around) → IsInside around it → Needs it.stage around events →
        ((bytes : List ℕ) → Follows it.stage around events bytes → IsText (g.so_far ++ bytes)) → IsOpened IsText start it events
    by stage.Inside e [] inside needs says = absurd (none events content (subst (λ (s : Stage). Needs s [] events) e needs))
      where
        none : (es : List Event) → BeginsContent es → AreLeft 0 es → ⊥
        none [] c nothing_left = c
        none (Leave ∷ es) c l = c
        none (TagEnd ∷ es) c l = c
        none (Att n v ∷ es) c l = c
        none (Enter n ∷ es) c l = elim l [ ]
        none (Chars t ∷ es) c l = elim l [ ]
    by stage.Inside e (element ∷ outer) inside needs says = record {
      element = element;
      outer = outer;
      inside = inside;
      left = subst (λ (s : Stage). Needs s (element ∷ outer) events) e needs;
      so_far = g.so_far;
      text = ap (λ (s : Stage). it.text ++ opening_end s) e ∙ append-nil it.text ∙ g.text;
      says = λ bytes w. says bytes (subst (λ (s : Stage). Follows s (element ∷ outer) events bytes) (sym e) w);
    }
    by stage.InTag e [] inside needs says = absurd (subst (λ (s : Stage). Needs s [] events) e needs)
    by stage.InTag e (element ∷ outer) inside needs says =
        let left = subst (λ (s : Stage). Needs s (element ∷ outer) events) e needs in
        absurd (none events left.attributes left.after content left.is)
      where
        none : (es : List Event) (them : List Attribute) (after : List Event) → BeginsContent es → es ≡ attributes_flat them (TagEnd ∷ after) → ⊥
        none es [] after c f = subst BeginsContent f c
        none es (a ∷ them) after c f = subst BeginsContent f c
    by stage.Ended e [] inside needs says = absurd (subst (λ (s : Stage). Needs s [] events) e needs)
    by stage.Ended e (element ∷ outer) inside needs says = record {
      element = element;
      outer = outer;
      inside = inside;
      left = subst (λ (s : Stage). Needs s (element ∷ outer) events) e needs;
      so_far = g.so_far ++ codes ">";
      text = ap (λ (s : Stage). it.text ++ opening_end s) e ∙ ap (λ xs. xs ++ codes ">") g.text ∙ append_assoc start g.so_far (codes ">");
      says = λ bytes w. subst IsText (sym (append_assoc g.so_far (codes ">") bytes))
          (says (codes ">" ++ bytes) (subst (λ (s : Stage). Follows s (element ∷ outer) events (codes ">" ++ bytes)) (sym e) (with_content bytes content w refl)));
    }

-- the whole tag, by what follows its name
tag_text : (written : List ℕ) (own : List Binding) (its : List Written) (mark rest : List ℕ) →
    spelled_tag written (declarations own ++ its) mark ++ rest ≡ (60 ∷ (written ++ spelled_all (declarations own) [])) ++ (spelled_all its [] ++ (mark ++ rest))
tag_text written own its mark rest =
    ap (λ xs. 60 ∷ ((written ++ xs) ++ rest)) (spelled_behind (declarations own) its mark ∙ ap (λ xs. spelled_all (declarations own) [] ++ xs) (closing_behind its mark))
    ∙ further (spelled_all (declarations own) []) (spelled_all its [])
  where
    further : (xs ys : List ℕ) → 60 ∷ ((written ++ (xs ++ (ys ++ mark))) ++ rest) ≡ (60 ∷ (written ++ xs)) ++ (ys ++ (mark ++ rest))
    further xs ys = simp append_assoc

-- the start of an element, inside of another one
module _ {name : Name} {events : List Event} where
  module _ (element : Around) (outer : List Around) (written : List ℕ) (own : List Binding) (named : NamesElement (in_scope (element ∷ outer)) name written own)
      (attributes : List Attribute) (after : List Event) (plain : ArePlain attributes) (is : events ≡ attributes_flat attributes (TagEnd ∷ after)) where
    entered : (bytes : List ℕ) → InTag (record { written = written; own = own }) (element ∷ outer) events bytes →
        Writes (element ∷ outer) (Enter name ∷ events) ((60 ∷ (written ++ spelled_all (declarations own) [])) ++ bytes)
    entered bytes t =
        let once = flat_once attributes t.attributes after t.after (sym is ∙ t.events_are) in
        let plain_here : ArePlain t.attributes = subst (λ (them : List Attribute). ArePlain them) once.0 plain in
        by plain_here t.ends
      where
        begin : List ℕ
        begin = 60 ∷ (written ++ spelled_all (declarations own) [])

        whole : (mark : List ℕ) (rest : List ℕ) → t.rest ≡ mark ++ rest → spelled_tag written (declarations own ++ t.its) mark ++ rest ≡ begin ++ bytes
        whole mark rest e = tag_text written own t.its mark rest ∙ ap (λ xs. begin ++ (spelled_all t.its [] ++ xs)) (sym e) ∙ ap (λ xs. begin ++ xs) (sym t.bytes_are)

        tag : (mark : List ℕ) → WritesTag (in_scope (element ∷ outer)) name t.attributes mark (spelled_tag written (declarations own ++ t.its) mark) written (own ++ t.own)
        tag mark = record { first = own; others = t.own; its = t.its; named = named; writes = t.writes; spelled = refl; own_is = refl }

        by : ArePlain t.attributes → EndsTag (record { written = written; own = own ++ t.own }) (element ∷ outer) t.after t.rest →
            Writes (element ∷ outer) (Enter name ∷ events) (begin ++ bytes)
        by plain_here (with_content rest content w e) =
            let P : List Event → List ℕ → Type 0 = λ es xs. Writes (element ∷ outer) (Enter name ∷ es) xs in
            subst (λ es. P es (begin ++ bytes)) (sym t.events_are)
            (subst (λ xs. P (attributes_flat t.attributes (TagEnd ∷ t.after)) xs) (whole (codes ">") rest e)
            (a_start_tag name t.attributes (spelled_tag written (declarations own ++ t.its) (codes ">")) written (own ++ t.own) plain_here content (tag (codes ">")) w))
        by plain_here (without left rest f w e) =
            let P : List Event → List ℕ → Type 0 = λ es xs. Writes (element ∷ outer) (Enter name ∷ es) xs in
            subst (λ es. P es (begin ++ bytes)) (sym (t.events_are ∙ ap (λ es. attributes_flat t.attributes (TagEnd ∷ es)) f))
            (subst (λ xs. P (attributes_flat t.attributes (TagEnd ∷ Leave ∷ left)) xs) (whole (codes "/>") rest e)
            (an_empty_tag name t.attributes (spelled_tag written (declarations own ++ t.its) (codes "/>")) written (own ++ t.own) plain_here (tag (codes "/>")) w))

-- what the next event needs
record EnterNeeds (n : ℕ) (name : Name) (events : List Event) : Type 0 where
  attributes : List Attribute
  after : List Event
  plain : ArePlain attributes
  left : AreLeft (suc n) after
  is : events ≡ attributes_flat attributes (TagEnd ∷ after)

enter_needs : {n : ℕ} {name : Name} {events : List Event} → AreLeft n (Enter name ∷ events) → EnterNeeds n name events
enter_needs (element_left name attributes named plain left) = record { attributes = attributes; after = _; plain = plain; left = left; is = refl }

enter_goes : {IsText : List ℕ → Type 0} {start : List ℕ} {old new : Held} {name : Name} {events : List Event} →
    EntersElement name old new → Going IsText start old (Enter name ∷ events) → Going IsText start new events
unfolding Needs Follows
enter_goes {IsText} {start} {old} {new} {name} {events} w g =
    let o = opened tt g in
    let n = enter_needs o.left in
    let here : List Around = o.element ∷ o.outer in
    let named : NamesElement (in_scope here) name w.written w.own = subst (λ (s : List Binding). NamesElement s name w.written w.own) o.inside.scope w.named in
    let begin : List ℕ = 60 ∷ (w.written ++ spelled_all (declarations w.own) []) in
    let inside : IsInside (record { written = w.written; own = w.own } ∷ here) new = record {
      open_tags = w.open_tags ∙ ap (λ (xs : List OpenElement). xs ++ (record { written = w.written; outer = length old.scope }) ∷ []) o.inside.open_tags
          ∙ ap (λ (s : List Binding). open_elements here ++ (record { written = w.written; outer = length s }) ∷ []) o.inside.scope;
      scope = w.scope ∙ ap (λ (s : List Binding). s ++ w.own) o.inside.scope;
      names = (w.named.is_name, o.inside.names);
    } in
    record {
      around = record { written = w.written; own = w.own } ∷ here;
      inside = inside;
      needs = subst (λ (s : Stage). Needs s (record { written = w.written; own = w.own } ∷ here) events) (sym w.stage)
          (record { attributes = n.attributes; after = n.after; left = n.left; is = n.is });
      so_far = o.so_far ++ begin;
      text = w.text ∙ sym (append_assoc old.text (opening_end old.stage) begin) ∙ ap (λ xs. xs ++ begin) o.text ∙ append_assoc start o.so_far begin;
      says = λ bytes f. subst IsText (sym (append_assoc o.so_far begin bytes))
          (o.says (begin ++ bytes) (entered o.element o.outer w.written w.own named n.attributes n.after n.plain n.is bytes
          (subst (λ (s : Stage). Follows s (record { written = w.written; own = w.own } ∷ here) events bytes) w.stage f)));
    }

-- a string
record StringNeeds (n : ℕ) (text : List ℕ) (events : List Event) : Type 0 where
  some : 0 < length text
  chars : IsTrue (is_of_chars text)
  apart : BeginsApart events
  left : AreLeft n events

string_needs : {n : ℕ} {text : List ℕ} {events : List Event} → AreLeft n (Chars text ∷ events) → StringNeeds n text events
string_needs (string_left text some chars apart left) = record { some = some; chars = chars; apart = apart; left = left }

string_goes : {IsText : List ℕ → Type 0} {start : List ℕ} {old new : Held} {string : List ℕ} {events : List Event} →
    AddsString string old new → Going IsText start old (Chars string ∷ events) → Going IsText start new events
unfolding Needs Follows
string_goes {IsText} {start} {old} {new} {string} {events} w g =
    let o = opened tt g in
    let n = string_needs o.left in
    let here : List Around = o.element ∷ o.outer in
    record {
      around = here;
      inside = record { open_tags = w.open_tags ∙ o.inside.open_tags; scope = w.scope ∙ o.inside.scope; names = o.inside.names };
      needs = subst (λ (s : Stage). Needs s here events) (sym w.stage) n.left;
      so_far = o.so_far ++ escaped string;
      text = w.text ∙ sym (append_assoc old.text (opening_end old.stage) (escaped string)) ∙ ap (λ xs. xs ++ escaped string) o.text ∙ append_assoc start o.so_far (escaped string);
      says = λ bytes f. subst IsText (sym (append_assoc o.so_far (escaped string) bytes))
          (o.says (escaped string ++ bytes) (a_string string n.some n.chars n.apart (subst (λ (s : Stage). Follows s here events bytes) w.stage f)));
    }

-- ---- an attribute, and the end of the attributes

-- an attribute comes only in a tag
record InTagBefore (IsText : List ℕ → Type 0) (start : List ℕ) (it : Held) (events : List Event) : Type 0 where
  element : Around
  outer : List Around
  stage_is : it.stage ≡ stage.InTag
  inside : IsInside (element ∷ outer) it
  needs : TagIsLeft (suc (length outer)) events
  so_far : List ℕ
  text : it.text ≡ start ++ so_far
  says : (bytes : List ℕ) → InTag element outer events bytes → IsText (so_far ++ bytes)

InATag : List Event → Type 0
InATag (Att name value ∷ events) = Unit {0}
InATag (TagEnd ∷ events) = Unit {0}
InATag _ = ⊥

not_left : {n : ℕ} (events : List Event) → InATag events → AreLeft n events → ⊥
unfolding InATag
not_left [] c l = c
not_left (Enter name ∷ events) c l = c
not_left (Chars text ∷ events) c l = c
not_left (Leave ∷ events) c l = c
not_left (Att name value ∷ events) c l = elim l [ ]
not_left (TagEnd ∷ events) c l = elim l [ ]

in_tag : {IsText : List ℕ → Type 0} {start : List ℕ} {it : Held} {events : List Event} → InATag events → Going IsText start it events → InTagBefore IsText start it events
unfolding Needs Follows
in_tag {IsText} {start} {it} {events} own g = by it.stage refl g.around g.inside g.needs g.says
  where
    by : (s : Stage) → it.stage ≡ s → (around : List Around) → IsInside around it → Needs it.stage around events →
        ((bytes : List ℕ) → Follows it.stage around events bytes → IsText (g.so_far ++ bytes)) → InTagBefore IsText start it events
    by stage.Inside e around inside needs says = absurd (not_left events own (subst (λ (s : Stage). Needs s around events) e needs))
    by stage.Ended e [] inside needs says = absurd (subst (λ (s : Stage). Needs s [] events) e needs)
    by stage.Ended e (element ∷ outer) inside needs says = absurd (not_left events own (subst (λ (s : Stage). Needs s (element ∷ outer) events) e needs))
    by stage.InTag e [] inside needs says = absurd (subst (λ (s : Stage). Needs s [] events) e needs)
    by stage.InTag e (element ∷ outer) inside needs says = record {
      element = element;
      outer = outer;
      stage_is = e;
      inside = inside;
      needs = subst (λ (s : Stage). Needs s (element ∷ outer) events) e needs;
      so_far = g.so_far;
      text = g.text;
      says = λ bytes f. says bytes (subst (λ (s : Stage). Follows s (element ∷ outer) events bytes) (sym e) f);
    }

-- what is left behind an attribute
attribute_needs : {n : ℕ} {name : Name} {value : List ℕ} {events : List Event} → TagIsLeft n (Att name value ∷ events) → TagIsLeft n events
attribute_needs {n} {name} {value} {events} t = by t.attributes t.is
  where
    by : (them : List Attribute) → Att name value ∷ events ≡ attributes_flat them (TagEnd ∷ t.after) → TagIsLeft n events
    by [] e = let bad : Att name value ∷ events ≡ TagEnd ∷ t.after = e in cc
    by (a ∷ them) e = record {
      attributes = them;
      after = t.after;
      left = t.left;
      is = tails (Att name value) (Att a.name a.value) events (attributes_flat them (TagEnd ∷ t.after)) e;
    }

attribute_added : (element : Around) (outer : List Around) (name : Name) (value written : List ℕ) (own : List Binding) (events : List Event) (bytes : List ℕ) →
    NamesAttribute (in_scope outer ++ element.own) name written own →
    InTag (record { written = element.written; own = element.own ++ own }) outer events bytes →
    InTag element outer (Att name value ∷ events) (spelled_all (attribute_of written value ∷ declarations own) [] ++ bytes)
attribute_added element outer name value written own events bytes named t = record {
  attributes = (record { name = name; value = value }) ∷ t.attributes;
  its = attribute_of written value ∷ (declarations own ++ t.its);
  own = own ++ t.own;
  after = t.after;
  rest = t.rest;
  writes = an_attribute written own named
      (subst (λ (s : List Binding). WritesAttributes s t.attributes t.its t.own) (sym (append_assoc (in_scope outer) element.own own)) t.writes);
  events_are = ap (λ (es : List Event). Att name value ∷ es) t.events_are;
  bytes_are = ap (λ xs. spelled_all (attribute_of written value ∷ declarations own) [] ++ xs) t.bytes_are
      ∙ sym (append_assoc (spelled_all (attribute_of written value ∷ declarations own) []) (spelled_all t.its []) t.rest)
      ∙ ap (λ xs. xs ++ t.rest) (sym (spelled_behind (attribute_of written value ∷ declarations own) t.its []));
  ends = subst (λ (os : List Binding). EndsTag (record { written = element.written; own = os }) outer t.after t.rest) (append_assoc element.own own t.own) t.ends;
}

attribute_goes : {IsText : List ℕ → Type 0} {start : List ℕ} {old new : Held} {name : Name} {value : List ℕ} {events : List Event} →
    AddsAttribute name value old new → Going IsText start old (Att name value ∷ events) → Going IsText start new events
unfolding Needs Follows InATag
attribute_goes {IsText} {start} {old} {new} {name} {value} {events} w g =
    let t = in_tag tt g in
    let here : Around = record { written = t.element.written; own = t.element.own ++ w.own } in
    let bytes_here : List ℕ = spelled_all (attribute_of w.written value ∷ declarations w.own) [] in
    let named : NamesAttribute (in_scope t.outer ++ t.element.own) name w.written w.own = subst (λ (s : List Binding). NamesAttribute s name w.written w.own) t.inside.scope w.named in
    record {
      around = here ∷ t.outer;
      inside = record {
        open_tags = w.open_tags ∙ t.inside.open_tags;
        scope = w.scope ∙ ap (λ (s : List Binding). s ++ w.own) t.inside.scope ∙ append_assoc (in_scope t.outer) t.element.own w.own;
        names = t.inside.names;
      };
      needs = subst (λ (s : Stage). Needs s (here ∷ t.outer) events) (sym (w.stage ∙ t.stage_is)) (attribute_needs t.needs);
      so_far = t.so_far ++ bytes_here;
      text = w.text ∙ ap (λ xs. xs ++ bytes_here) t.text ∙ append_assoc start t.so_far bytes_here;
      says = λ bytes f. subst IsText (sym (append_assoc t.so_far bytes_here bytes))
          (t.says (bytes_here ++ bytes) (attribute_added t.element t.outer name value w.written w.own events bytes named
          (subst (λ (s : Stage). Follows s (here ∷ t.outer) events bytes) (w.stage ∙ t.stage_is) f)));
    }

end_needs : {n : ℕ} {events : List Event} → TagIsLeft n (TagEnd ∷ events) → AreLeft n events
end_needs {n} {events} t = by t.attributes t.is
  where
    by : (them : List Attribute) → TagEnd ∷ events ≡ attributes_flat them (TagEnd ∷ t.after) → AreLeft n events
    by [] e = subst (λ (es : List Event). AreLeft n es) (sym (tails TagEnd TagEnd events t.after e)) t.left
    by (a ∷ them) e = let bad : TagEnd ∷ events ≡ Att a.name a.value ∷ attributes_flat them (TagEnd ∷ t.after) = e in absurd (cc)

end_goes : {IsText : List ℕ → Type 0} {start : List ℕ} {old new : Held} {events : List Event} →
    EndsAttributes old new → Going IsText start old (TagEnd ∷ events) → Going IsText start new events
unfolding Needs Follows InATag
end_goes {IsText} {start} {old} {new} {events} w g =
    let t = in_tag tt g in
    record {
      around = t.element ∷ t.outer;
      inside = record { open_tags = w.open_tags ∙ t.inside.open_tags; scope = w.scope ∙ t.inside.scope; names = t.inside.names };
      needs = subst (λ (s : Stage). Needs s (t.element ∷ t.outer) events) (sym w.stage) (end_needs t.needs);
      so_far = t.so_far;
      text = w.text ∙ t.text;
      says = λ bytes f. t.says bytes (record {
        attributes = [];
        its = [];
        own = [];
        after = events;
        rest = bytes;
        writes = no_attribute;
        events_are = refl;
        bytes_are = refl;
        ends = subst (λ (os : List Binding). EndsTag (record { written = t.element.written; own = os }) t.outer events bytes) (sym (append-nil t.element.own))
            (subst (λ (s : Stage). Follows s (t.element ∷ t.outer) events bytes) w.stage f);
      });
    }

-- ---- the end of an element

leave_needs : {n : ℕ} {events : List Event} → AreLeft (suc n) (Leave ∷ events) → AreLeft n events
leave_needs (end_left left) = left

-- the last of a list
last_once : {A : Type 0} (xs ys : List A) (x y : A) → xs ++ x ∷ [] ≡ ys ++ y ∷ [] → (xs ≡ ys) × (x ≡ y)
last_once {A} [] [] x y e = (refl, cc)
last_once {A} [] (z ∷ []) x y e = absurd (let bad : [] ≡ y ∷ [] = cc in cc)
last_once {A} [] (z ∷ u ∷ ys) x y e = absurd (let bad : [] ≡ u ∷ (ys ++ y ∷ []) = cc in cc)
last_once {A} (z ∷ []) [] x y e = absurd (let bad : x ∷ [] ≡ [] = cc in cc)
last_once {A} (z ∷ u ∷ xs) [] x y e = absurd (let bad : u ∷ (xs ++ x ∷ []) ≡ [] = cc in cc)
last_once {A} (z ∷ xs) (u ∷ ys) x y e =
    let head : z ≡ u = cc in
    let rest : xs ++ x ∷ [] ≡ ys ++ y ∷ [] = cc in
    let more = last_once xs ys x y rest in
    (ap (λ (a : A). a ∷ xs) head ∙ ap (λ (them : List A). u ∷ them) more.0, more.1)

-- what an end needs: an element that is open, and what may follow behind it
record CanLeave (IsText : List ℕ → Type 0) (start : List ℕ) (it : Held) (events : List Event) : Type 0 where
  element : Around
  outer : List Around
  inside : IsInside (element ∷ outer) it
  left : AreLeft (length outer) events
  so_far : List ℕ
  text : it.text ≡ start ++ so_far
  says : (bytes : List ℕ) → Writes outer events bytes → IsText (so_far ++ (end_by it.stage element.written ++ bytes))

can_leave : {IsText : List ℕ → Type 0} {start : List ℕ} {it : Held} {events : List Event} → Going IsText start it (Leave ∷ events) → CanLeave IsText start it events
unfolding Needs Follows
can_leave {IsText} {start} {it} {events} g = by it.stage refl g.around g.inside g.needs g.says
  where
    none : (es : List Event) → AreLeft 0 (Leave ∷ es) → ⊥
    none es l = elim l [ ]

    no_end : (them : List Attribute) (after : List Event) → Leave ∷ events ≡ attributes_flat them (TagEnd ∷ after) → ⊥
    no_end [] after e = let bad : Leave ∷ events ≡ TagEnd ∷ after = e in cc
    no_end (a ∷ them) after e = let bad : Leave ∷ events ≡ Att a.name a.value ∷ attributes_flat them (TagEnd ∷ after) = e in cc

    by : (s : Stage) → it.stage ≡ s → (around : List Around) → IsInside around it → Needs it.stage around (Leave ∷ events) →
        ((bytes : List ℕ) → Follows it.stage around (Leave ∷ events) bytes → IsText (g.so_far ++ bytes)) → CanLeave IsText start it events
    by stage.Inside e [] inside needs says = absurd (none events (subst (λ (s : Stage). Needs s [] (Leave ∷ events)) e needs))
    by stage.Inside e (element ∷ outer) inside needs says = record {
      element = element;
      outer = outer;
      inside = inside;
      left = leave_needs (subst (λ (s : Stage). Needs s (element ∷ outer) (Leave ∷ events)) e needs);
      so_far = g.so_far;
      text = g.text;
      says = λ bytes w. subst (λ (s : Stage). IsText (g.so_far ++ (end_by s element.written ++ bytes))) (sym e)
          (says (end_tag element.written ++ bytes) (subst (λ (s : Stage). Follows s (element ∷ outer) (Leave ∷ events) (end_tag element.written ++ bytes)) (sym e) (an_end_tag {element = element} inside.names.0 w)));
    }
    by stage.InTag e [] inside needs says = absurd (subst (λ (s : Stage). Needs s [] (Leave ∷ events)) e needs)
    by stage.InTag e (element ∷ outer) inside needs says =
        let t = subst (λ (s : Stage). Needs s (element ∷ outer) (Leave ∷ events)) e needs in absurd (no_end t.attributes t.after t.is)
    by stage.Ended e [] inside needs says = absurd (subst (λ (s : Stage). Needs s [] (Leave ∷ events)) e needs)
    by stage.Ended e (element ∷ outer) inside needs says = record {
      element = element;
      outer = outer;
      inside = inside;
      left = leave_needs (subst (λ (s : Stage). Needs s (element ∷ outer) (Leave ∷ events)) e needs);
      so_far = g.so_far;
      text = g.text;
      says = λ bytes w. subst (λ (s : Stage). IsText (g.so_far ++ (end_by s element.written ++ bytes))) (sym e)
          (says (codes "/>" ++ bytes) (subst (λ (s : Stage). Follows s (element ∷ outer) (Leave ∷ events) (codes "/>" ++ bytes)) (sym e) (without events bytes refl w refl)));
    }

leave_goes : {IsText : List ℕ → Type 0} {start : List ℕ} {old new : Held} {events : List Event} →
    WritesEvent Leave old new → Going IsText start old (Leave ∷ events) → Going IsText start new events
unfolding Needs Follows
leave_goes {IsText} {start} {old} {new} {events} w g =
    let t = can_leave g in
    let tag : OpenElement = record { written = t.element.written; outer = length (in_scope t.outer) } in
    let l = w (open_elements t.outer) tag t.inside.open_tags in
    let bytes_here : List ℕ = end_by old.stage t.element.written in
    record {
      around = t.outer;
      inside = record {
        open_tags = l.open_tags;
        scope = l.scope ∙ ap (λ (s : List Binding). take (length (in_scope t.outer)) s) t.inside.scope ∙ take_at (in_scope t.outer) t.element.own (length (in_scope t.outer)) refl;
        names = t.inside.names.1;
      };
      needs = subst (λ (s : Stage). Needs s t.outer events) (sym l.stage) t.left;
      so_far = t.so_far ++ bytes_here;
      text = l.text ∙ ap (λ xs. xs ++ bytes_here) t.text ∙ append_assoc start t.so_far bytes_here;
      says = λ bytes f. subst IsText (sym (append_assoc t.so_far bytes_here bytes)) (t.says bytes (subst (λ (s : Stage). Follows s t.outer events bytes) l.stage f));
    }

-- ---- all of them

goes : {IsText : List ℕ → Type 0} {start : List ℕ} {old new : Held} (event : Event) {events : List Event} →
    WritesEvent event old new → Going IsText start old (event ∷ events) → Going IsText start new events
goes (Enter name) w g = enter_goes w g
goes (Att name value) w g = attribute_goes w g
goes TagEnd w g = end_goes w g
goes (Chars text) w g = string_goes w g
goes Leave w g = leave_goes w g

gone : {IsText : List ℕ → Type 0} {old it : Held} → Going IsText old.text it [] → AddsText IsText old it
unfolding Needs Follows
gone {IsText} {old} {it} g = by it.stage refl g.around g.needs g.says
  where
    no_events : (them : List Attribute) (after : List Event) → [] ≡ attributes_flat them (TagEnd ∷ after) → ⊥
    no_events [] after e = let bad : [] ≡ TagEnd ∷ after = e in cc
    no_events (a ∷ them) after e = let bad : [] ≡ Att a.name a.value ∷ attributes_flat them (TagEnd ∷ after) = e in cc

    by : (s : Stage) → it.stage ≡ s → (around : List Around) → Needs it.stage around [] →
        ((bytes : List ℕ) → Follows it.stage around [] bytes → IsText (g.so_far ++ bytes)) → AddsText IsText old it
    by stage.Inside e [] needs says = record {
      added = g.so_far ++ [];
      text = g.text ∙ ap (λ xs. old.text ++ xs) (sym (append-nil g.so_far));
      says = says [] (subst (λ (s : Stage). Follows s [] [] []) (sym e) all_ended);
    }
    by stage.Inside e (element ∷ outer) needs says = absurd (let l = subst (λ (s : Stage). Needs s (element ∷ outer) []) e needs in elim l [ ])
    by stage.InTag e [] needs says = absurd (subst (λ (s : Stage). Needs s [] []) e needs)
    by stage.InTag e (element ∷ outer) needs says = let t = subst (λ (s : Stage). Needs s (element ∷ outer) []) e needs in absurd (no_events t.attributes t.after t.is)
    by stage.Ended e [] needs says = absurd (subst (λ (s : Stage). Needs s [] []) e needs)
    by stage.Ended e (element ∷ outer) needs says = absurd (let l = subst (λ (s : Stage). Needs s (element ∷ outer) []) e needs in elim l [ ])

-- inside of elements
rest_begins : (events : List Event) (it : Held) (around : List Around) → IsInside around it → it.stage ≡ stage.Inside → AreLeft (length around) events →
    Going (Writes around events) it.text it events
unfolding Needs Follows
rest_begins events it around inside e left = record {
  around = around;
  inside = inside;
  needs = subst (λ (s : Stage). Needs s around events) (sym e) left;
  so_far = [];
  text = sym (append-nil it.text);
  says = λ bytes f. subst (λ (s : Stage). Follows s around events bytes) e f;
}

-- in front of the root: the start of the root, and then its inside
root_entered : (name : Name) (written : List ℕ) (own : List Binding) (events : List Event) → NamesElement [] name written own →
    (attributes : List Attribute) (after : List Event) → ArePlain attributes → events ≡ attributes_flat attributes (TagEnd ∷ after) →
    (bytes : List ℕ) → InTag (record { written = written; own = own }) [] events bytes →
    WritesRoot (Enter name ∷ events) ((60 ∷ (written ++ spelled_all (declarations own) [])) ++ bytes)
root_entered name written own events named attributes after plain is bytes t =
    let once = flat_once attributes t.attributes after t.after (sym is ∙ t.events_are) in
    by (subst (λ (them : List Attribute). ArePlain them) once.0 plain) t.ends
  where
    begin : List ℕ
    begin = 60 ∷ (written ++ spelled_all (declarations own) [])

    whole : (mark rest : List ℕ) → t.rest ≡ mark ++ rest → spelled_tag written (declarations own ++ t.its) mark ++ rest ≡ begin ++ bytes
    whole mark rest e = tag_text written own t.its mark rest ∙ ap (λ xs. begin ++ (spelled_all t.its [] ++ xs)) (sym e) ∙ ap (λ xs. begin ++ xs) (sym t.bytes_are)

    tag : (mark : List ℕ) → WritesTag [] name t.attributes mark (spelled_tag written (declarations own ++ t.its) mark) written (own ++ t.own)
    tag mark = record { first = own; others = t.own; its = t.its; named = named; writes = t.writes; spelled = refl; own_is = refl }

    alone : (left : List Event) (rest : List ℕ) → Writes [] left rest → ArePlain t.attributes → t.after ≡ Leave ∷ left → t.rest ≡ codes "/>" ++ rest →
        WritesRoot (Enter name ∷ events) (begin ++ bytes)
    alone [] [] all_ended plain_here f e =
        subst (λ es. WritesRoot (Enter name ∷ es) (begin ++ bytes)) (sym (t.events_are ∙ ap (λ es. attributes_flat t.attributes (TagEnd ∷ es)) f))
        (subst (λ xs. WritesRoot (Enter name ∷ attributes_flat t.attributes (TagEnd ∷ Leave ∷ [])) xs)
        (sym (append-nil (spelled_tag written (declarations own ++ t.its) (codes "/>"))) ∙ whole (codes "/>") [] e)
        (root_alone name t.attributes (spelled_tag written (declarations own ++ t.its) (codes "/>")) written (own ++ t.own) plain_here (tag (codes "/>"))))
    alone [] (b ∷ rest) w plain_here f e = elim w [ ]
    alone (event ∷ left) rest w plain_here f e = elim w [ ]

    by : ArePlain t.attributes → EndsTag (record { written = written; own = own ++ t.own }) [] t.after t.rest → WritesRoot (Enter name ∷ events) (begin ++ bytes)
    by plain_here (with_content rest content w e) =
        subst (λ es. WritesRoot (Enter name ∷ es) (begin ++ bytes)) (sym t.events_are)
        (subst (λ xs. WritesRoot (Enter name ∷ attributes_flat t.attributes (TagEnd ∷ t.after)) xs) (whole (codes ">") rest e)
        (root_with_tags name t.attributes (spelled_tag written (declarations own ++ t.its) (codes ">")) written (own ++ t.own) plain_here content (tag (codes ">")) w))
    by plain_here (without left rest f w e) = alone left rest w plain_here f e

root_begins : {old new : Held} (root : List Event) (r : RootIsLeft root) → old.open_tags ≡ [] → old.scope ≡ [] → old.stage ≡ stage.Inside →
    EntersElement r.name old new → Going (λ bytes. WritesRoot (Enter r.name ∷ attributes_flat r.attributes (TagEnd ∷ r.after)) bytes) old.text new
    (attributes_flat r.attributes (TagEnd ∷ r.after))
unfolding Needs Follows
root_begins {old} {new} root r none_open none_declared inside w =
    let here : Around = record { written = w.written; own = w.own } in
    let begin : List ℕ = 60 ∷ (w.written ++ spelled_all (declarations w.own) []) in
    let events : List Event = attributes_flat r.attributes (TagEnd ∷ r.after) in
    let named : NamesElement [] r.name w.written w.own = subst (λ (s : List Binding). NamesElement s r.name w.written w.own) none_declared w.named in
    record {
      around = here ∷ [];
      inside = record {
        open_tags = w.open_tags ∙ ap (λ (xs : List OpenElement). xs ++ (record { written = w.written; outer = length old.scope }) ∷ []) none_open
            ∙ ap (λ (s : List Binding). (record { written = w.written; outer = length s }) ∷ []) none_declared;
        scope = w.scope ∙ ap (λ (s : List Binding). s ++ w.own) none_declared;
        names = (w.named.is_name, tt);
      };
      needs = subst (λ (s : Stage). Needs s (here ∷ []) events) (sym w.stage) (record { attributes = r.attributes; after = r.after; left = r.left; is = refl });
      so_far = begin;
      text = w.text ∙ ap (λ (s : Stage). old.text ++ (opening_end s ++ begin)) inside;
      says = λ bytes f. root_entered r.name w.written w.own events named r.attributes r.after r.plain refl bytes
          (subst (λ (s : Stage). Follows s (here ∷ []) events bytes) w.stage f);
    }

-- ---- a list of events

all_goes : {IsText : List ℕ → Type 0} {start : List ℕ} {old new : Held} {events : List Event} → WritesAll events old new → Going IsText start old events → Going IsText start new []
all_goes all_written g = g
all_goes (one_written {event = event} w more) g = all_goes more (goes event w g)

says_all : {IsText : List ℕ → Type 0} {old new : Held} {text : List ℕ} → old.text ≡ [] → text ≡ new.text → AddsText IsText old new → IsText text
says_all {IsText} {old} {new} {text} none e a = subst IsText (ap (λ xs. xs ++ a.added) (sym none) ∙ sym a.text ∙ sym e) a.says

root_says : {old new : Held} {text : List ℕ} (events : List Event) → WritesAll events old new → old.open_tags ≡ [] → old.scope ≡ [] → old.stage ≡ stage.Inside → old.text ≡ [] →
    text ≡ new.text → (r : RootIsLeft events) → events ≡ Enter r.name ∷ attributes_flat r.attributes (TagEnd ∷ r.after) → WritesRoot events text
root_says {old} {new} {text} events w none_open none_declared inside none e r is =
    by (subst (λ (es : List Event). WritesAll es old new) is w)
  where
    by : WritesAll (Enter r.name ∷ attributes_flat r.attributes (TagEnd ∷ r.after)) old new → WritesRoot events text
    by (one_written first more) =
        subst (λ (es : List Event). WritesRoot es text) (sym is)
        (says_all {IsText = λ bytes. WritesRoot (Enter r.name ∷ attributes_flat r.attributes (TagEnd ∷ r.after)) bytes} none e
        (gone {old = old} (all_goes more (root_begins events r none_open none_declared inside first))))

pub rest_written : {old new : Held} {events : List Event} {text : List ℕ} → WritesAll events old new → old.stage ≡ stage.Inside → old.text ≡ [] → text ≡ new.text →
    IsRestText old.open_tags old.scope events text
rest_written {old} {new} {events} {text} w inside none e = record {
  inside = λ around are left. says_all {IsText = Writes around events} none e (gone {old = old} (all_goes w (rest_begins events old around are inside left)));
  root = λ none_open none_declared r. root_says events w none_open none_declared inside none e r r.is;
}

-- ---- behind a begun tag

-- a space, and then a text behind the white space of a begun tag
record BegunText (element : Around) (outer : List Around) (events : List Event) (attributes : List Attribute) (bytes : List ℕ) : Type 0 where
  text : List ℕ
  is : bytes ≡ 32 ∷ text
  begun : WritesBegun outer element.written element.own attributes events text

-- what is written behind the white space of a tag that is begun
begun_text : (element : Around) (outer : List Around) (a : Attribute) (more : List Attribute) (after : List Event) (its : List Written) (own : List Binding) (rest : List ℕ) →
    WritesAttributes (in_scope outer ++ element.own) (a ∷ more) its own → EndsTag (record { written = element.written; own = element.own ++ own }) outer after rest →
    (bytes : List ℕ) → bytes ≡ spelled_all its [] ++ rest → BegunText element outer (attributes_flat (a ∷ more) (TagEnd ∷ after)) (a ∷ more) bytes
begun_text element outer a more after its own rest (an_attribute {its = others} {more = own_others} written own_first named writes) ends bytes e = by ends
  where
    first : Written
    first = attribute_of written a.value

    behind : List Written
    behind = declarations own_first ++ others

    added : List ℕ → List ℕ
    added mark = spelled_before first (spelled_all behind mark)

    on : (mark : List ℕ) → WritesOn (in_scope outer ++ element.own) (a ∷ more) mark (added mark) (own_first ++ own_others)
    on mark = record { first = first; others = behind; writes = an_attribute written own_first named writes; spelled = refl }

    whole : (mark left : List ℕ) → rest ≡ mark ++ left → bytes ≡ 32 ∷ (added mark ++ left)
    whole mark left f =
        e ∙ ap (λ xs. (32 ∷ spelled_before first (spelled_all behind [])) ++ xs) f ∙ regroup (spelled_all behind [])
        ∙ ap (λ xs. 32 ∷ (spelled_before first xs ++ left)) (sym (closing_behind behind mark))
      where
        regroup : (xs : List ℕ) → (32 ∷ spelled_before first xs) ++ (mark ++ left) ≡ 32 ∷ (spelled_before first (xs ++ mark) ++ left)
        regroup xs = simp append_assoc

    by : EndsTag (record { written = element.written; own = element.own ++ (own_first ++ own_others) }) outer after rest →
        BegunText element outer (attributes_flat (a ∷ more) (TagEnd ∷ after)) (a ∷ more) bytes
    by (with_content left content w f) = record {
      text = added (codes ">") ++ left;
      is = whole (codes ">") left f;
      begun = goes_inside (added (codes ">")) (own_first ++ own_others) content (on (codes ">")) w;
    }
    by (without behind_it left g w f) = record {
      text = added (codes "/>") ++ left;
      is = whole (codes "/>") left f;
      begun = subst (λ (es : List Event). WritesBegun outer element.written element.own (a ∷ more) (attributes_flat (a ∷ more) (TagEnd ∷ es)) (added (codes "/>") ++ left)) (sym g)
          (ends_at_once (added (codes "/>")) (own_first ++ own_others) (on (codes "/>")) w);
    }

begun_says : (element : Around) (outer : List Around) (events : List Event) (b : BegunIsLeft (suc (length outer)) events) (bytes : List ℕ) →
    InTag element outer events bytes → BegunText element outer events (b.first ∷ b.others) bytes
begun_says element outer events b bytes t =
    let once = flat_once (b.first ∷ b.others) t.attributes b.after t.after (sym b.is ∙ t.events_are) in
    let writes : WritesAttributes (in_scope outer ++ element.own) (b.first ∷ b.others) t.its t.own =
    subst (λ (them : List Attribute). WritesAttributes (in_scope outer ++ element.own) them t.its t.own) (sym once.0) t.writes in
    let events_are : attributes_flat (b.first ∷ b.others) (TagEnd ∷ t.after) ≡ events =
    ap (λ (them : List Attribute). attributes_flat them (TagEnd ∷ t.after)) once.0 ∙ sym t.events_are in
    subst (λ (es : List Event). BegunText element outer es (b.first ∷ b.others) bytes) events_are
    (begun_text element outer b.first b.others t.after t.its t.own t.rest writes t.ends bytes t.bytes_are)

begun_begins : (events : List Event) (it : Held) (element : Around) (outer : List Around) (b : BegunIsLeft (suc (length outer)) events) → IsInside (element ∷ outer) it →
    it.stage ≡ stage.InTag → Going (λ bytes. BegunText element outer events (b.first ∷ b.others) bytes) it.text it events
unfolding Needs Follows
begun_begins events it element outer b inside e = record {
  around = element ∷ outer;
  inside = inside;
  needs = subst (λ (s : Stage). Needs s (element ∷ outer) events) (sym e) (record { attributes = b.first ∷ b.others; after = b.after; left = b.left; is = b.is });
  so_far = [];
  text = sym (append-nil it.text);
  says = λ bytes f. begun_says element outer events b bytes (subst (λ (s : Stage). Follows s (element ∷ outer) events bytes) e f);
}

pub begun_written : {old new : Held} {events : List Event} {text : List ℕ} → WritesAll events old new → old.stage ≡ stage.InTag → old.text ≡ [] → text ≡ drop 1 new.text →
    IsBegunText old.open_tags old.scope events text
begun_written {old} {new} {events} {text} w inside none e = λ element outer are b.
    (let t = says_all {IsText = λ bytes. BegunText element outer events (b.first ∷ b.others) bytes} {text = new.text} none refl
    (gone {old = old} (all_goes w (begun_begins events old element outer b are inside))) in
    subst (λ xs. WritesBegun outer element.written element.own (b.first ∷ b.others) events xs) (sym (e ∙ ap (drop 1) t.is)) t.begun)

-- ---- the loop

pub more_written : {rest behind : List Move} {first : Move} {start now next : Held} {all : List Event} → rest ≡ first ∷ behind →
    AreWritable (events_of rest) × ((new : Held) → WritesAll (events_of rest) now new → WritesAll all start new) → WritesEvent (event_of first) now next →
    AreWritable (events_of behind) × ((new : Held) → WritesAll (events_of behind) next new → WritesAll all start new)
more_written {rest} {behind} {first} {start} {now} {next} {all} e so_far w =
    let P : List Move → Type 0 = λ ms. AreWritable (events_of ms) × ((new : Held) → WritesAll (events_of ms) now new → WritesAll all start new) in
    let here = subst P e so_far in
    (here.0.1, λ new more. here.1 new (one_written w more))

pub all_are_written : (rest : List Move) {start now : Held} {all : List Event} → length rest ≡ 0 →
    AreWritable (events_of rest) × ((new : Held) → WritesAll (events_of rest) now new → WritesAll all start new) → WritesAll all start now
all_are_written [] {start} {now} e so_far = so_far.1 now all_written
all_are_written (first ∷ others) e so_far = absurd (omega (arith, e))
