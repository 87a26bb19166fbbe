-- Worked examples: a schema with its kept lists and residuals, step by step.
use Rattle.std.specs.Prelude.{◌≡◌, ℕ, List, [], ◌∷◌, length, codes, true, false, Some, None, IsSome}
use Rattle.nx_base.specs.declared.name.Name.{Name}
use Rattle.nx_base.specs.Trees.{nil, string, element, Event, Enter, Att, TagEnd, Chars, Leave}
use Rattle.rng_types.specs.declared.datatype.Datatype.{Datatype}
use Rattle.rng_types.specs.declared.kind.Word.TheVariants.{NcName}
use Rattle.rng_types.specs.declared.kind.Form.TheVariants.{One}
use Rattle.rng_core.specs.Names.{the_name}
use Rattle.rng_core.specs.Patterns.{Pattern, Definition, empty, any_text, typed, attribute, ref, one_or_more, choice, group, interleave}
use Rattle.rng_core.specs.Patterns.{Language}
use Rattle.rng_kept.specs.Moves.{Move, take, skip_to, any_value, any_string, missing_attributes, missing_content}
use Rattle.rng_kept.specs.KeptLists.{Kept, NoneIsViable, HasChild, IsNeeded}
use Rattle.rng_kept.specs.Residuals.{Residual}
use Rattle.rng_kept.specs.Merging.{answered}
use Rattle.rng_kept.specs.Entering.{enter, enter_skip}
use Rattle.rng_kept.specs.Tags.{attribute_of, attribute_any, tag_end, tag_end_missing}
use Rattle.rng_kept.specs.Content.{chars, chars_any, leave, leave_skip}
use Rattle.rng_kept.specs.Required.{is_required}
use Rattle.rng_kept.specs.Needed.{needed}
use Rattle.rng_kept.specs.Standing.{first_residual}

abbrev pub plain_name : List ℕ → Name
plain_name local = record { ns = []; local = local }

abbrev pub doc : Name
doc = plain_name (codes "doc")

abbrev pub id : Name
id = plain_name (codes "id")

abbrev pub title : Name
title = plain_name (codes "title")

abbrev pub para : Name
para = plain_name (codes "para")

abbrev pub em : Name
em = plain_name (codes "em")

abbrev pub element_of : Name → Pattern → Definition
element_of name content = record { class = the_name name; content = content }

abbrev pub nc_name_type : Datatype
nc_name_type = record { form = One NcName; facets = [] }

-- element doc { attribute id { xsd:NCName }, element title { text }, element para { (text | element em { text })* }* }
abbrev pub doc_content : Pattern
doc_content = group (group (attribute (the_name id) (typed nc_name_type [])) (ref 1)) (choice (one_or_more (ref 2)) empty)

abbrev pub para_content : Pattern
para_content = choice (one_or_more (choice any_text (ref 3))) empty

abbrev pub paragraphs : Language
paragraphs = record {
  start = ref 0;
  definitions = element_of doc doc_content ∷ element_of title any_text ∷ element_of para para_content ∷ element_of em any_text ∷ [];
}

-- ---- what is kept behind each kind of move

abbrev pub Keeps : List Move → List Event → Type 0
Keeps h k = Kept paragraphs paragraphs.start h k

-- <doc
abbrev pub named : List Move
named = take (Enter doc) ∷ []

-- <doc id='a'>
abbrev pub opened : List Move
opened = take TagEnd ∷ take (Att id (codes "a")) ∷ named

abbrev pub opening : List Event
opening = Enter doc ∷ Att id (codes "a") ∷ TagEnd ∷ []

-- the text's own events are kept, whether the schema admits them or not; any other move adds what can be written, so that the whole
-- can become valid
pub record KeepsLists : Type 0 where
  pub taken : Keeps opened opening
  pub wrongly_taken : Keeps (take (Enter para) ∷ []) (Enter para ∷ [])
  pub skipped : Keeps (skip_to para ∷ opened) (Enter doc ∷ Att id (codes "a") ∷ TagEnd ∷ Enter title ∷ TagEnd ∷ Leave ∷ Enter para ∷ [])
  pub with_value : Keeps (any_value id ∷ named) (Enter doc ∷ Att id (codes "b") ∷ [])
  pub with_string : Keeps (any_string ∷ take TagEnd ∷ take (Enter title) ∷ opened)
      (Enter doc ∷ Att id (codes "a") ∷ TagEnd ∷ Enter title ∷ TagEnd ∷ Chars (codes "x") ∷ [])
  pub with_attributes : Keeps (missing_attributes ∷ named) opening
  pub with_content : Keeps (missing_content ∷ opened) (Enter doc ∷ Att id (codes "a") ∷ TagEnd ∷ Enter title ∷ TagEnd ∷ Leave ∷ Leave ∷ [])

-- a document of this schema is no paragraph
abbrev pub NoParagraphAlone : Type 0
NoParagraphAlone = NoneIsViable paragraphs paragraphs.start (take (Enter para) ∷ [])

-- ---- what is left behind the same events

abbrev pub at_start : Residual
at_start = first_residual paragraphs.start

abbrev pub in_name : Residual
in_name = enter paragraphs.definitions doc at_start

abbrev pub with_id : Residual
with_id = attribute_of id (codes "a") in_name

abbrev pub in_doc : Residual
in_doc = tag_end with_id

pub record LeavesResiduals : Type 0 where
  pub no_para : answered (enter paragraphs.definitions para at_start) ≡ None
  pub no_skip_to_para : answered (enter_skip paragraphs.definitions para at_start) ≡ None
  pub a_doc : IsSome (answered in_name)
  pub no_such_id : answered (attribute_of id (codes "1a") in_name) ≡ None
  pub some_id : IsSome (answered (attribute_any id in_name))
  pub no_end_yet : answered (tag_end in_name) ≡ None
  pub id_is_required : is_required id in_name ≡ true
  pub title_is_not : is_required title in_name ≡ false
  pub no_more_is : is_required id with_id ≡ false
  pub an_end : IsSome (answered in_doc)
  pub no_para_yet : answered (enter paragraphs.definitions para in_doc) ≡ None
  pub no_leave_yet : answered (leave in_doc) ≡ None
  pub no_text : answered (chars (codes "x") in_doc) ≡ None
  pub no_text_whatever : answered (chars_any in_doc) ≡ None
  pub a_blank : IsSome (answered (chars (codes " ") in_doc))
  pub skip_to_para : IsSome (answered (enter_skip paragraphs.definitions para in_doc))
  pub skip_to_end : IsSome (answered (leave_skip in_doc))
  pub end_without_id : IsSome (answered (tag_end_missing in_name))

-- ---- children in any order

abbrev pub r : Name
r = plain_name (codes "r")

abbrev pub a : Name
a = plain_name (codes "a")

abbrev pub b : Name
b = plain_name (codes "b")

-- element r { element a { empty }+ & element b { empty } }
abbrev pub shuffled : Language
shuffled = record {
  start = ref 0;
  definitions = element_of r (interleave (one_or_more (ref 1)) (ref 2)) ∷ element_of a empty ∷ element_of b empty ∷ [];
}

-- behind an element without attributes and children
abbrev pub behind_empty : Name → Residual → Residual
behind_empty n x = leave (tag_end (enter shuffled.definitions n x))

-- behind the start tag of the root, which has no attributes
abbrev pub inside_root : Language → Residual
inside_root g = tag_end (enter g.definitions r (first_residual g.start))

pub record ShufflesChildren : Type 0 where
  pub a_b_a : IsSome (answered (leave (behind_empty a (behind_empty b (behind_empty a (inside_root shuffled))))))
  pub no_second_b : answered (behind_empty b (behind_empty b (inside_root shuffled))) ≡ None
  pub no_end_without_a : answered (leave (behind_empty b (inside_root shuffled))) ≡ None

-- ---- two definitions of one name, each inside of the other

abbrev pub c : Name
c = plain_name (codes "c")

abbrev pub d : Name
d = plain_name (codes "d")

-- element r { (itself, element b { empty }) | (the other, element d { empty }) | empty }
abbrev pub of_either : Pattern
of_either = choice (choice (group (ref 0) (ref 2)) (group (ref 1) (ref 3))) empty

abbrev pub doubled : Language
doubled = record {
  start = ref 0;
  definitions = element_of r of_either ∷ element_of r of_either ∷ element_of b empty ∷ element_of d empty ∷ [];
}

-- inside of an r
abbrev pub in_r : Residual → Residual
in_r x = tag_end (enter doubled.definitions r x)

-- behind a b or a d, and the end of what it stands in
abbrev pub behind_end : Name → Residual → Residual
behind_end n x = leave (leave (tag_end (enter doubled.definitions n x)))

-- at each depth there is one way to go on, and what comes behind an r may be what either definition wants there
pub record SharesWays : Type 0 where
  pub one_way : length (in_r (in_r (inside_root doubled))) ≡ 1
  pub either_then_either : IsSome (answered (behind_end d (behind_end b (leave (in_r (in_r (inside_root doubled)))))))
  pub none_behind : answered (leave (leave (in_r (inside_root doubled)))) ≡ None

-- ---- elements that are needed where content is skipped

abbrev pub e : Name
e = plain_name (codes "e")

-- element r { element a { empty } | element b { empty } }
abbrev pub chosen : Language
chosen = record {
  start = ref 0;
  definitions = element_of r (choice (ref 1) (ref 2)) ∷ element_of a empty ∷ element_of b empty ∷ [];
}

-- element r { element b { empty }, element c { empty }?, element d { empty }, element e { empty } }
abbrev pub ordered : Language
ordered = record {
  start = ref 0;
  definitions = element_of r (group (group (group (ref 1) (choice (ref 2) empty)) (ref 3)) (ref 4))
      ∷ element_of b empty ∷ element_of c empty ∷ element_of d empty ∷ element_of e empty ∷ [];
}

-- an element is one of the children wherever it stands among them, but not inside of another one; and of what may be left out no
-- content need have any
pub record CountsChildren : Type 0 where
  pub behind_others : HasChild para (string (codes " ") (element title [] nil (element para [] nil nil)))
  pub none_inside : HasChild em (element para [] (element em [] nil nil) nil) → ⊥
  pub no_para_is_needed : IsNeeded paragraphs paragraphs.start opened None para → ⊥

pub record NeedsElements : Type 0 where
  pub a_title_before_a_para : needed paragraphs.definitions (Some para) in_doc ≡ title ∷ []
  pub a_title_in_all : needed paragraphs.definitions None in_doc ≡ title ∷ []
  pub neither_of_a_choice : needed chosen.definitions None (inside_root chosen) ≡ []
  pub all_but_what_is_optional : needed ordered.definitions (Some e) (inside_root ordered) ≡ b ∷ d ∷ []
  pub both_of_an_interleave : needed shuffled.definitions None (inside_root shuffled) ≡ a ∷ b ∷ []
  pub none_in_front_of_the_other_side : needed shuffled.definitions (Some b) (inside_root shuffled) ≡ []
