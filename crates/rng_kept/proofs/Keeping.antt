-- Kept lists of the worked example, and documents that they begin.
use Rattle.std.proofs.Common.{◌≡◌, ℕ, List, [], ◌∷◌, ◌++◌, refl, subst, sym, ◌∙◌, ap, Some, false}
use Rattle.std.specs.Prelude.{codes, IsTrue, slice_get}
use Rattle.std.proofs.lemmas.Bool.{false≢true}
use Rattle.std.specs.Str.{bytes_eq, chars, is_utf8}
use lib.Utf8.{encode}
use Rattle.nx_base.specs.Characters.{is_blank, is_char, is_space, is_name_start, is_name_char, is_of_chars}
use Rattle.nx_base.specs.declared.name.Name.{Name}
use Rattle.nx_base.specs.Names.{is_xml_name, is_attribute_name}
use Rattle.nx_base.specs.Trees.{Attribute, Children, nil, string, element, no_attributes, one_more, AreChildren, no_children, string_first, element_first, Event, Enter, Att, TagEnd, Chars, Leave, Tree, flat, children_flat, AreWritable}
use Rattle.rng_types.specs.Types.{Accepts}
use Rattle.rng_core.specs.Names.{the_name, has_name, has_attribute_name}
use Rattle.rng_core.specs.Patterns.{Definition, ref}
use Rattle.rng_core.specs.Matching.{no_attribute, to_first, then_second, element_of_first, AreStrings, no_string, one_string, as_they_stand, Matches, by_group, by_empty, by_text, by_one, by_first, by_second, by_element, by_attribute, by_data}
use Rattle.rng_core.specs.Validity.{Valid, Viable}
use Rattle.rng_kept.specs.Moves.{Move, take, Adds, adds_event, adds_skipped, adds_value, adds_string, adds_attributes, adds_content}
use Rattle.rng_kept.specs.KeptLists.{Kept, IsRestOf, HasChild, this_element, behind_element, behind_string, IsNeeded}
use Rattle.rng_kept.specs.Examples.{doc, id, title, para, em, nc_name_type, doc_content, paragraphs, Keeps, named, opened, opening, KeepsLists, NoParagraphAlone, CountsChildren}

-- ---- documents

doc_is_named : IsTrue (has_name (the_name doc) doc)
unfolding is_char is_name_start is_name_char chars is_utf8 encode
doc_is_named = refl

title_is_named : IsTrue (has_name (the_name title) title)
unfolding is_char is_name_start is_name_char chars is_utf8 encode
title_is_named = refl

para_is_named : IsTrue (has_name (the_name para) para)
unfolding is_char is_name_start is_name_char chars is_utf8 encode
para_is_named = refl

id_is_named : IsTrue (has_attribute_name (the_name id) id)
unfolding is_char is_name_start is_name_char chars is_utf8 encode
id_is_named = refl

accepts_a : Accepts nc_name_type (codes "a")
unfolding is_char is_space is_name_start is_name_char chars is_utf8 encode
accepts_a = record { form = refl; facets = refl }

accepts_b : Accepts nc_name_type (codes "b")
unfolding is_char is_space is_name_start is_name_char chars is_utf8 encode
accepts_b = record { form = refl; facets = refl }

-- <doc id='..'><title>..</title></doc>
abbrev with_title : List ℕ → Children → Tree
with_title v inside = record { name = doc; attributes = record { name = id; value = v } ∷ []; children = element title [] inside nil }

-- <doc id='a'><title/><para/></doc>
abbrev with_para : Tree
with_para = record { name = doc; attributes = record { name = id; value = codes "a" } ∷ []; children = element title [] nil (element para [] nil nil) }

title_matches : {v : List ℕ} {inside : Children} → Accepts nc_name_type v → AreStrings inside →
    Matches paragraphs.definitions (ref 0) [] (element doc (record { name = id; value = v } ∷ []) (element title [] inside nil) nil)
title_matches accepted strings =
    by_element refl doc_is_named as_they_stand
    (by_group (to_first no_attribute) (element_of_first then_second)
    (by_group (to_first no_attribute) then_second (by_attribute id_is_named (by_data accepted tt)) (by_element refl title_is_named as_they_stand (by_text strings)))
    (by_second by_empty))

para_matches : Matches paragraphs.definitions (ref 0) [] (element doc (record { name = id; value = codes "a" } ∷ []) (element title [] nil (element para [] nil nil)) nil)
para_matches =
    by_element refl doc_is_named as_they_stand
    (by_group (to_first no_attribute) (element_of_first then_second)
    (by_group (to_first no_attribute) then_second (by_attribute id_is_named (by_data accepts_a tt)) (by_element refl title_is_named as_they_stand (by_text no_string)))
    (by_first (by_one (by_element refl para_is_named as_they_stand (by_second by_empty)))))

-- their names and attributes are such as a document can have
title_stands : (v : List ℕ) (inside : Children) → AreChildren inside → AreChildren (element doc (record { name = id; value = v } ∷ []) (element title [] inside nil) nil)
unfolding is_char is_name_start is_name_char chars is_utf8 encode
title_stands v inside stand =
    element_first refl (one_more refl (λ has. elim has [ ]) no_attributes) (element_first refl no_attributes stand no_children) no_children

para_stands : AreChildren (element doc (record { name = id; value = codes "a" } ∷ []) (element title [] nil (element para [] nil nil)) nil)
unfolding is_char is_name_start is_name_char chars is_utf8 encode
para_stands =
    element_first refl (one_more refl (λ has. elim has [ ]) no_attributes)
    (element_first refl no_attributes no_children (element_first refl no_attributes no_children no_children)) no_children

abbrev IsViable : List Event → Type 0
IsViable k = Viable paragraphs.definitions paragraphs.start k

-- events that go on as such a document
begins_title : {v : List ℕ} {inside : Children} (k s : List Event) → Accepts nc_name_type v → AreStrings inside → AreChildren inside → AreWritable s →
    k ++ s ≡ flat (with_title v inside) → IsViable k
begins_title {v = v} {inside = inside} k s accepted strings stand writable same = record {
  rest = s;
  is_rest = record {
    writable = writable;
    valid = record { tree = with_title v inside; is_tree = title_stands v inside stand; events_are = same; matched = title_matches accepted strings };
  };
}

begins_para : (k s : List Event) → AreWritable s → k ++ s ≡ flat with_para → IsViable k
begins_para k s writable same = record {
  rest = s;
  is_rest = record { writable = writable; valid = record { tree = with_para; is_tree = para_stands; events_are = same; matched = para_matches } };
}

title_is_written : IsTrue (is_xml_name title)
unfolding is_char is_name_start is_name_char chars is_utf8 encode
title_is_written = refl

id_is_written : IsTrue (is_attribute_name id)
unfolding is_char is_name_start is_name_char chars is_utf8 encode
id_is_written = refl

of_chars_a : IsTrue (is_of_chars (codes "a"))
unfolding is_char chars is_utf8 encode
of_chars_a = refl

of_chars_b : IsTrue (is_of_chars (codes "b"))
unfolding is_char chars is_utf8 encode
of_chars_b = refl

of_chars_x : IsTrue (is_of_chars (codes "x"))
unfolding is_char chars is_utf8 encode
of_chars_x = refl

-- ---- kept lists

named_kept : Keeps named (Enter doc ∷ [])
named_kept = ([], Enter doc ∷ [], refl, adds_event, refl, tt)

with_id_kept : Keeps (take (Att id (codes "a")) ∷ named) (Enter doc ∷ Att id (codes "a") ∷ [])
with_id_kept = (Enter doc ∷ [], Att id (codes "a") ∷ [], named_kept, adds_event, refl, tt)

opened_kept : Keeps opened opening
opened_kept = (Enter doc ∷ Att id (codes "a") ∷ [], TagEnd ∷ [], with_id_kept, adds_event, refl, tt)

title_kept : Keeps (take (Enter title) ∷ opened) (Enter doc ∷ Att id (codes "a") ∷ TagEnd ∷ Enter title ∷ [])
title_kept = (opening, Enter title ∷ [], opened_kept, adds_event, refl, tt)

in_title_kept : Keeps (take TagEnd ∷ take (Enter title) ∷ opened) (Enter doc ∷ Att id (codes "a") ∷ TagEnd ∷ Enter title ∷ TagEnd ∷ [])
in_title_kept = (Enter doc ∷ Att id (codes "a") ∷ TagEnd ∷ Enter title ∷ [], TagEnd ∷ [], title_kept, adds_event, refl, tt)

a_title : AreChildren (element title [] nil nil)
a_title = element_first title_is_written no_attributes no_children no_children

x_is_not_blank : is_blank (codes "x") ≡ false
unfolding is_space
x_is_not_blank = refl

pub keeps_lists : KeepsLists
keeps_lists = record {
  taken = opened_kept;
  wrongly_taken = ([], Enter para ∷ [], refl, adds_event, refl, tt);
  skipped = (
    opening,
    Enter title ∷ TagEnd ∷ Leave ∷ Enter para ∷ [],
    opened_kept,
    adds_skipped (element title [] nil nil) a_title (title_is_written, (tt, (tt, tt))),
    refl,
    begins_para _ (TagEnd ∷ Leave ∷ Leave ∷ []) (tt, (tt, (tt, tt))) refl,
  );
  with_value = (
    Enter doc ∷ [],
    Att id (codes "b") ∷ [],
    named_kept,
    adds_value (codes "b") of_chars_b,
    refl,
    begins_title {inside = nil} _ (TagEnd ∷ Enter title ∷ TagEnd ∷ Leave ∷ Leave ∷ []) accepts_b no_string no_children (tt, (title_is_written, (tt, (tt, (tt, tt))))) refl,
  );
  with_string = (
    Enter doc ∷ Att id (codes "a") ∷ TagEnd ∷ Enter title ∷ TagEnd ∷ [],
    Chars (codes "x") ∷ [],
    in_title_kept,
    adds_string (codes "x") of_chars_x x_is_not_blank,
    refl,
    begins_title {inside = string (codes "x") nil} _ (Leave ∷ Leave ∷ []) accepts_a (one_string no_string) (string_first no_children) (tt, (tt, tt)) refl,
  );
  with_attributes = (
    Enter doc ∷ [],
    Att id (codes "a") ∷ TagEnd ∷ [],
    named_kept,
    adds_attributes (record { name = id; value = codes "a" } ∷ []) ((id_is_written, of_chars_a), tt),
    refl,
    begins_title {inside = nil} _ (Enter title ∷ TagEnd ∷ Leave ∷ Leave ∷ []) accepts_a no_string no_children (title_is_written, (tt, (tt, (tt, tt)))) refl,
  );
  with_content = (
    opening,
    Enter title ∷ TagEnd ∷ Leave ∷ Leave ∷ [],
    opened_kept,
    adds_content (element title [] nil nil) a_title (title_is_written, (tt, (tt, tt))),
    refl,
    begins_title {inside = nil} _ [] accepts_a no_string no_children tt refl,
  );
}

-- ---- elements among the children

no_para_first : HasChild para (element title [] nil nil) → ⊥
no_para_first (this_element same) = false≢true (ap (λ (n : Name). bytes_eq n.local para.local) same)
no_para_first (behind_element h) = elim h [ ]

no_em_beside : HasChild em (element para [] (element em [] nil nil) nil) → ⊥
no_em_beside (this_element same) = false≢true (ap (λ (n : Name). bytes_eq n.local em.local) same)
no_em_beside (behind_element h) = elim h [ ]

-- a title alone can stand there
pub counts_children : CountsChildren
counts_children = record {
  behind_others = behind_string (behind_element (this_element refl));
  none_inside = no_em_beside;
  no_para_is_needed = λ needed. no_para_first
      (needed (element title [] nil nil) opening a_title (title_is_written, (tt, (tt, tt))) opened_kept
      (begins_title {inside = nil} _ [] accepts_a no_string no_children tt refl));
}

-- ---- no paragraph alone

added_is : {e : Event} {k : List Event} → Adds (take e) k → k ≡ e ∷ []
added_is adds_event = refl

no_para_named : {n : Name} {x : List Attribute} {k : Children} → n ≡ para → Matches paragraphs.definitions (ref 0) [] (element n x k nil) → ⊥
unfolding is_char is_name_start is_name_char chars is_utf8 encode
no_para_named {n = n} other (by_element {d = d} found is w m) =
    let same : d ≡ record { class = the_name doc; content = doc_content } = cc in
    let P : Definition → Type 0 = λ e. IsTrue (has_name e.class n) in
    let Q : Name → Type 0 = λ m. IsTrue (has_name (the_name doc) m) in
    false≢true (subst Q other (subst P same is))

pub no_paragraph_alone : NoParagraphAlone
no_paragraph_alone s r =
    let k = r.is_kept in
    let is : r.kept ≡ Enter para ∷ [] = k.4 ∙ (ap (λ (v : List Event). v ++ k.1) k.2 ∙ added_is k.3) in
    let v = r.is_rest.valid in
    let first : Enter para ∷ s ≡ flat v.tree = sym (ap (λ (z : List Event). z ++ s) is) ∙ v.events_are in
    let same : v.tree.name ≡ para = cc (first) in
    no_para_named same v.matched
