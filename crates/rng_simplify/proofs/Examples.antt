-- Small schemas, simplified by hand.
use Rattle.std.specs.Prelude.{◌≡◌, ℕ, true, false, List, [], ◌∷◌, codes, Some, None, Contains}
use Rattle.std.proofs.Common.{refl, arith}
use Rattle.nx_base.specs.declared.cause.Cause.TheVariants as cause
use Rattle.nx_host.specs.Files.{FileMap}
use Rattle.nx_host.specs.Uri.{Joins}
use Rattle.rnc_parse.specs.declared.surface.FileReference.{FileReference}
use Rattle.rnc_parse.specs.declared.surface.Namespace.TheVariants.{Inherited}
use Rattle.rnc_parse.specs.declared.surface.Defined.TheVariants.{Start, Name}
use Rattle.rnc_parse.specs.declared.surface.Combine.TheVariants.{Alone, Choice, Interleave}
use Rattle.rnc_parse.specs.Written.{WrittenClass, WrittenReplacements, WrittenSurface, a_grammar}
use Rattle.rnc_parse.specs.Written as written
use Rattle.rng_core.specs.Names.{Class, any_name, ns_name, the_name, either, without}
use Rattle.rng_simplify.specs.Broken.{IsBroken, WholeIsBroken, clash}
use Rattle.rng_simplify.specs.Classes.{has_bad_except, names_declarations, names_declarations_of_attribute}
use Rattle.rng_simplify.specs.Composed.{Clauses, end_of_clauses, clause_then}
use Rattle.rng_simplify.specs.Composed as composed
use Rattle.rng_simplify.specs.ComposedFiles.{Says, ComposesSchema, top, of_grammar, no_item, definition, inclusion, none_anew, definition_anew, by_element, by_ref, by_empty}
use Rattle.rng_simplify.specs.Forms.{Form, Value, choice_of, group_of, one_or_more_of, list_of, values_of, nodes, depth}
use Rattle.rng_simplify.specs.Forms as form
use Rattle.rng_simplify.specs.Places.{the_whole, further_in, a_content, a_definition, to_part, to_definition, in_one_step, in_more_steps}
use Rattle.rng_simplify.specs.References.{the_first, an_include}
use Rattle.rng_simplify.specs.Simple.{Simple, simple_element, simple_empty, simple_grammar, simple_ref, simple_choice, simple_text, simple_one_or_more, combined_in_order, none_simple, next_simple}

abbrev named : List ℕ → WrittenClass
named local = written.the_name Inherited local

abbrev has_name : List ℕ → Class
has_name local = the_name (record { ns = []; local = local })

abbrev x : List ℕ
x = codes "x"

-- ---- include "i.rnc" { start = element a { x } }, where i.rnc holds start = element b { x } and x = element c { empty }

abbrev to_i : FileReference
to_i = record { uri = codes "i.rnc"; namespace = Inherited }

abbrev replaced : WrittenReplacements
replaced = written.replacement_then (written.define_anew Start Alone (written.element (named (codes "a")) (written.ref x))) written.no_replacements

abbrev main_file : WrittenSurface
main_file = a_grammar (written.item_then (written.include to_i replaced) written.no_items)

abbrev included_file : WrittenSurface
included_file = a_grammar (written.item_then (written.define Start Alone (written.element (named (codes "b")) (written.ref x))) (written.item_then (written.define (Name x) Alone (written.element (named (codes "c")) written.empty)) written.no_items))

abbrev both_clauses : Clauses
both_clauses = clause_then (Name x) Alone (composed.element 1 (has_name (codes "c")) composed.empty) (clause_then Start Alone (composed.element 0 (has_name (codes "a")) (composed.ref x)) end_of_clauses)

-- b is read and dropped: what number it has counts for nothing
pub replaced_start_is_dropped : (files : FileMap) (m i : List ℕ) → Says files m main_file → Says files i included_file → Joins m (codes "i.rnc") i → ¬ Contains (m ∷ []) i → ComposesSchema files m (composed.grammar both_clauses)
replaced_start_is_dropped files m i says_m says_i joined no_loop = record {
  surface = main_file;
  says = says_m;
  composed = of_grammar (inclusion
      (record { uri = i; refers = joined; inner_is = refl; no_loop = no_loop; says = says_i })
      refl
      (definition (by_element 7 by_ref) (definition (by_element 1 by_empty) no_item))
      (definition_anew (by_element 0 by_ref) none_anew)
      (refl, tt)
      no_item
      refl);
}

-- the start refers to a, whose content refers to c, which is empty
pub start_refers_to_a : Simple [] (composed.grammar both_clauses) (form.ref 0)
start_refers_to_a = simple_grammar (combined_in_order (next_simple simple_element none_simple) refl)

pub a_refers_to_c : Simple (both_clauses ∷ []) (composed.ref x) (form.ref 1)
a_refers_to_c = simple_ref (combined_in_order (next_simple simple_element none_simple) refl)

pub c_is_empty : Simple (both_clauses ∷ []) composed.empty form.empty
c_is_empty = simple_empty

-- ---- a file that includes itself

abbrev own_file : WrittenSurface
own_file = a_grammar (written.item_then (written.include to_i written.no_replacements) written.no_items)

pub a_file_includes_itself : (files : FileMap) (i : List ℕ) → Says files i own_file → Joins i (codes "i.rnc") i → IsBroken files i cause.IncludeLoop
a_file_includes_itself files i says joined = record {
  context = top i;
  mention = an_include to_i written.no_replacements;
  mentioned = record { reached = the_first; surface = own_file; says = says; mentioned = (0, omega arith, refl) };
  other = i;
  refers = joined;
  leads_here = (0, omega arith, refl);
}

-- ---- start = x, x = element a { empty } | x

abbrev looping : Clauses
looping = clause_then Start Alone (composed.ref x) (clause_then (Name x) Alone (composed.choice (composed.element 0 (has_name (codes "a")) composed.empty) (composed.ref x)) end_of_clauses)

pub x_is_part_of_itself : WholeIsBroken (composed.grammar looping) cause.RefLoop
x_is_part_of_itself = record {
  scopes = looping ∷ [];
  pattern = composed.ref x;
  occurs = further_in the_whole (a_definition (0, omega arith, refl));
  is = in_more_steps (to_definition (0, omega arith, refl)) (in_one_step (to_part (1, omega arith, refl)));
}

-- ---- start = element a { empty }, twice

abbrev two_starts : Clauses
two_starts = clause_then Start Alone (composed.element 0 (has_name (codes "a")) composed.empty) (clause_then Start Alone (composed.element 1 (has_name (codes "a")) composed.empty) end_of_clauses)

pub two_starts_clash : WholeIsBroken (composed.grammar two_starts) cause.CombineClash
two_starts_clash = record { scopes = []; pattern = composed.grammar two_starts; occurs = the_whole; is = (Start, refl) }

pub clashes_are_told : (clash (Alone ∷ Choice ∷ Choice ∷ []) ≡ false) × (clash (Choice ∷ Alone ∷ Interleave ∷ []) ≡ true) × (clash (Alone ∷ []) ≡ false)
clashes_are_told = (refl, refl, refl)

-- ---- an empty file

pub nothing_has_no_start : WholeIsBroken (composed.grammar end_of_clauses) cause.NoStart
nothing_has_no_start = record { scopes = []; pattern = composed.grammar end_of_clauses; occurs = the_whole; is = refl }

-- a reference outside of every grammar
pub nothing_is_defined : WholeIsBroken (composed.element 0 any_name (composed.ref x)) cause.NoDefinition
nothing_is_defined = record { scopes = []; pattern = composed.ref x; occurs = further_in the_whole a_content; is = tt }

-- ---- text*, and combined definitions

pub text_many_times : Simple [] (composed.choice (composed.one_or_more composed.any_text) composed.empty) (form.choice form.empty (form.one_or_more form.any_text))
text_many_times = simple_choice (simple_one_or_more simple_text) simple_empty

abbrev three_combined : Clauses
three_combined = clause_then Start Interleave composed.any_text (clause_then Start Alone composed.empty (clause_then Start Interleave (composed.element 4 any_name composed.empty) (clause_then Start Interleave composed.any_text end_of_clauses)))

pub combined_to_the_left : Simple [] (composed.grammar three_combined) (form.interleave (form.interleave form.any_text (form.ref 4)) form.any_text)
combined_to_the_left = simple_grammar (combined_in_order (next_simple simple_text (next_simple simple_empty (next_simple simple_element (next_simple simple_text none_simple)))) refl)

-- ---- what is not allowed, and what is empty

pub nothing_is_left_of_a_group : (p : Form) → group_of form.not_allowed p ≡ form.not_allowed
nothing_is_left_of_a_group p = refl

pub empty_sides : (choice_of form.any_text form.empty ≡ form.choice form.empty form.any_text) × (choice_of form.empty form.empty ≡ form.empty) × (group_of form.empty form.any_text ≡ form.any_text) × (one_or_more_of form.empty ≡ form.empty) × (list_of form.empty ≡ form.listed form.empty)
empty_sides = (refl, refl, refl, refl, refl)

abbrev one : Value
one = record { type = record { library = []; name = codes "token" }; text = codes "1" }

pub values_are_told : (values_of (choice_of (form.value one) (choice_of form.not_allowed (form.value one))) ≡ Some (one ∷ one ∷ [])) × (values_of form.not_allowed ≡ Some []) × (values_of (form.choice form.empty (form.value one)) ≡ None)
values_are_told = (refl, refl, refl)

-- three texts one after another: five nodes, three on a path
pub three_texts : (nodes (form.group (form.group form.any_text form.any_text) form.any_text) ≡ 5) × (depth (form.group (form.group form.any_text form.any_text) form.any_text) ≡ 3)
three_texts = (refl, refl)

-- ---- classes

pub wildcards_without_wildcards : (has_bad_except (without any_name (either (ns_name []) (has_name x))) ≡ false) × (has_bad_except (without any_name (either (has_name x) any_name)) ≡ true) × (has_bad_except (without (ns_name []) (ns_name x)) ≡ true) × (has_bad_except (without any_name (without (ns_name []) (ns_name x))) ≡ true)
wildcards_without_wildcards = (refl, refl, refl, refl)

pub xmlns_is_told : (names_declarations (has_name (codes "xmlns")) ≡ false) × (names_declarations_of_attribute (has_name (codes "xmlns")) ≡ true) × (names_declarations_of_attribute (without any_name (ns_name (codes "http://www.w3.org/2000/xmlns"))) ≡ true) × (names_declarations (ns_name (codes "http://www.w3.org/2000/xmlns/")) ≡ true)
xmlns_is_told = (refl, refl, refl, refl)
