-- Languages that are one but for numbers break the same restrictions.
use Rattle.std.proofs.Common.{◌≡◌, ℕ, Result, Ok, Err, refl, sym, subst, inl, inr}
use Rattle.rng_core.specs.Patterns.{Pattern, Definition, Language, not_allowed, empty, any_text, typed, literal, listed, attribute, ref, one_or_more, choice, group, interleave}
use Rattle.rng_live.specs.Dead.{Lives}
use Rattle.rng_restrict.specs.Attributes.{HasAttributeOverlap, in_group, in_interleave, BreaksAttributeOverlap, HasWildcardOnce, wildcard_once, BreaksWildcardOnce}
use Rattle.rng_restrict.specs.Contents.{HasType, value_is_simple, data_is_simple, list_is_simple, text_is_complex, ref_is_complex, empty_is_empty, attribute_is_empty, group_has, interleave_has, one_or_more_has, choice_has, BreaksMixture}
use Rattle.rng_restrict.specs.declared.content.Content.{Content}
use Rattle.rng_restrict.specs.Interleaves.{HasInterleaveOverlap, elements_overlap, BreaksInterleaveOverlap, HasTextTwice, text_twice, BreaksTextTwice}
use Rattle.rng_restrict.specs.Paths.{HasPath, attribute_below_attribute, ref_below_attribute, attribute_below_repeated_group, attribute_below_repeated_interleave, list_below_list, ref_below_list, attribute_below_list, text_below_list, interleave_below_list, HasStartPath, attribute_in_start, data_in_start, value_in_start, text_in_start, list_in_start, group_in_start, interleave_in_start, one_or_more_in_start, empty_in_start, BreaksPath}
use Rattle.rng_restrict.specs.Reaching.{IsReached, from_start, from_content, Somewhere, in_start, in_content}
use Rattle.rng_restrict.specs.Standing.{Stands, StandsOnce, once_itself, once_in_list, once_in_attribute, once_in_first_choice, once_in_second_choice, once_in_first_of_group, once_in_second_of_group, once_in_first_of_interleave, once_in_second_of_interleave}
use Rattle.rng_restrict.specs.Standing.{Occurs, as_itself, below_one_or_more, below_first_choice, below_second_choice, below_first_of_group, below_second_of_group, below_first_of_interleave, below_second_of_interleave}
use Rattle.rng_restrict.specs.Checking.{Answers}
use Rattle.rng_restrict.specs.declared.fault.RestrictFault.{RestrictFault}
use Rattle.rng_restrict.specs.declared.fault.RestrictFault.TheVariants.{Path, Mixture, AttributeOverlap, WildcardOnce, InterleaveOverlap, TextTwice, NoMemory}
use Rattle.nx_numbering.specs.Answers.{NumbersBreakTheSame, NumbersLiveAlike}
use Rattle.nx_numbering.specs.Numbers.{renumbered, renumbered_in, Renumbers}
use Rattle.nx_numbering.proofs.Matching.{start_matches}
use Rattle.nx_numbering.proofs.Pruning.{by_numbers}
use Rattle.nx_numbering.proofs.Standing.{stands_on}

once_on : {q p : Pattern} (f : ℕ → ℕ) → StandsOnce q p → StandsOnce (renumbered f q) (renumbered f p)
once_on f once_itself = once_itself
once_on f (once_in_list h) = once_in_list (once_on f h)
once_on f (once_in_attribute h) = once_in_attribute (once_on f h)
once_on f (once_in_first_choice h) = once_in_first_choice (once_on f h)
once_on f (once_in_second_choice h) = once_in_second_choice (once_on f h)
once_on f (once_in_first_of_group h) = once_in_first_of_group (once_on f h)
once_on f (once_in_second_of_group h) = once_in_second_of_group (once_on f h)
once_on f (once_in_first_of_interleave h) = once_in_first_of_interleave (once_on f h)
once_on f (once_in_second_of_interleave h) = once_in_second_of_interleave (once_on f h)

occurs_on : {q p : Pattern} (f : ℕ → ℕ) → Occurs q p → Occurs (renumbered f q) (renumbered f p)
occurs_on f as_itself = as_itself
occurs_on f (below_one_or_more h) = below_one_or_more (occurs_on f h)
occurs_on f (below_first_choice h) = below_first_choice (occurs_on f h)
occurs_on f (below_second_choice h) = below_second_choice (occurs_on f h)
occurs_on f (below_first_of_group h) = below_first_of_group (occurs_on f h)
occurs_on f (below_second_of_group h) = below_second_of_group (occurs_on f h)
occurs_on f (below_first_of_interleave h) = below_first_of_interleave (occurs_on f h)
occurs_on f (below_second_of_interleave h) = below_second_of_interleave (occurs_on f h)

-- ---- what is reached

reached_on : {f : ℕ → ℕ} {g h : Language} {d : Definition} → Renumbers f g h → IsReached g.start g.definitions d → IsReached h.start h.definitions (renumbered_in f d)
reached_on {f = f} {h = h} r (from_start {i = i} {d = d} stands at) =
    let P : Pattern → Type 0 = λ p. Stands (ref (f i)) p in
    from_start (subst P (sym r.start) (stands_on f stands)) (r.definitions i d at)
reached_on {f = f} r (from_content {i = i} {d = d} before stands at) = from_content (reached_on r before) (stands_on f stands) (r.definitions i d at)

somewhere_on : {f : ℕ → ℕ} {g h : Language} {Has Might : Pattern → Type 0} → Renumbers f g h → ((p : Pattern) → Has p → Might (renumbered f p)) → Somewhere Has g.start g.definitions → Somewhere Might h.start h.definitions
somewhere_on {g = g} {Might = Might} r on (in_start has) = in_start (subst Might (sym r.start) (on g.start has))
somewhere_on r on (in_content {d = d} reached has) = in_content (reached_on r reached) (on d.content has)

-- ---- each restriction

path_on : (f : ℕ → ℕ) (p : Pattern) → HasPath p → HasPath (renumbered f p)
path_on f p (attribute_below_attribute s t) = attribute_below_attribute (stands_on f s) (stands_on f t)
path_on f p (ref_below_attribute s t) = ref_below_attribute (stands_on f s) (stands_on f t)
path_on f p (attribute_below_repeated_group s t u) = attribute_below_repeated_group (stands_on f s) (stands_on f t) (stands_on f u)
path_on f p (attribute_below_repeated_interleave s t u) = attribute_below_repeated_interleave (stands_on f s) (stands_on f t) (stands_on f u)
path_on f p (list_below_list s t) = list_below_list (stands_on f s) (stands_on f t)
path_on f p (ref_below_list s t) = ref_below_list (stands_on f s) (stands_on f t)
path_on f p (attribute_below_list s t) = attribute_below_list (stands_on f s) (stands_on f t)
path_on f p (text_below_list s t) = text_below_list (stands_on f s) (stands_on f t)
path_on f p (interleave_below_list s t) = interleave_below_list (stands_on f s) (stands_on f t)

start_path_on : (f : ℕ → ℕ) (p : Pattern) → HasStartPath p → HasStartPath (renumbered f p)
start_path_on f p (attribute_in_start s) = attribute_in_start (stands_on f s)
start_path_on f p (data_in_start s) = data_in_start (stands_on f s)
start_path_on f p (value_in_start s) = value_in_start (stands_on f s)
start_path_on f p (text_in_start s) = text_in_start (stands_on f s)
start_path_on f p (list_in_start s) = list_in_start (stands_on f s)
start_path_on f p (group_in_start s) = group_in_start (stands_on f s)
start_path_on f p (interleave_in_start s) = interleave_in_start (stands_on f s)
start_path_on f p (one_or_more_in_start s) = one_or_more_in_start (stands_on f s)
start_path_on f p (empty_in_start s) = empty_in_start (stands_on f s)

paths_on : {f : ℕ → ℕ} {g h : Language} → Renumbers f g h → BreaksPath g.start g.definitions → BreaksPath h.start h.definitions
paths_on {f} {g} {h} r (inl start) = inl (subst HasStartPath (sym r.start) (start_path_on f g.start start))
paths_on {f} {g} {h} r (inr some) = inr (somewhere_on r (path_on f) some)

type_back : (f : ℕ → ℕ) {q : Pattern} {t : Content} → HasType q t → (p : Pattern) → q ≡ renumbered f p → HasType p t
type_back f {q} {t} (value_is_simple {type = type} {text = text}) p same = let P : Pattern → Type 0 = λ z. HasType z t in subst P (sym (by_numbers f (literal type text) p same)) value_is_simple
type_back f {q} {t} (data_is_simple {type = type} {excepts = excepts}) p same = let P : Pattern → Type 0 = λ z. HasType z t in subst P (sym (by_numbers f (typed type excepts) p same)) data_is_simple
type_back f {q} {t} (list_is_simple {p = x}) p same = let P : Pattern → Type 0 = λ z. HasType z t in subst P (sym (by_numbers f (listed x) p same).1) list_is_simple
type_back f {q} {t} text_is_complex p same = let P : Pattern → Type 0 = λ z. HasType z t in subst P (sym (by_numbers f any_text p same)) text_is_complex
type_back f {q} {t} (ref_is_complex {i = i}) p same = let P : Pattern → Type 0 = λ z. HasType z t in subst P (sym (by_numbers f (ref i) p same).1) ref_is_complex
type_back f {q} {t} empty_is_empty p same = let P : Pattern → Type 0 = λ z. HasType z t in subst P (sym (by_numbers f empty p same)) empty_is_empty
type_back f {q} {t} (attribute_is_empty {class = class} {p = x} h) p same =
    let k = by_numbers f (attribute class x) p same in
    let P : Pattern → Type 0 = λ z. HasType z t in
    subst P (sym k.1) (attribute_is_empty (type_back f h k.0 k.2))
type_back f {q} {t} (group_has {p = x} {q = y} h l fit) p same =
    let k = by_numbers f (group x y) p same in
    let P : Pattern → Type 0 = λ z. HasType z t in
    subst P (sym k.2) (group_has (type_back f h k.0 k.3) (type_back f l k.1 k.4) fit)
type_back f {q} {t} (interleave_has {p = x} {q = y} h l fit) p same =
    let k = by_numbers f (interleave x y) p same in
    let P : Pattern → Type 0 = λ z. HasType z t in
    subst P (sym k.2) (interleave_has (type_back f h k.0 k.3) (type_back f l k.1 k.4) fit)
type_back f {q} {t} (one_or_more_has {p = x} h fit) p same =
    let k = by_numbers f (one_or_more x) p same in
    let P : Pattern → Type 0 = λ z. HasType z t in
    subst P (sym k.1) (one_or_more_has (type_back f h k.0 k.2) fit)
type_back f {q} {t} (choice_has {p = x} {q = y} h l) p same =
    let k = by_numbers f (choice x y) p same in
    let P : Pattern → Type 0 = λ z. HasType z t in
    subst P (sym k.2) (choice_has (type_back f h k.0 k.3) (type_back f l k.1 k.4))

mixtures_on : {f : ℕ → ℕ} {g h : Language} → Renumbers f g h → BreaksMixture g.start g.definitions → BreaksMixture h.start h.definitions
mixtures_on {f = f} r b = record {
  definition = renumbered_in f b.definition;
  reached = reached_on r b.reached;
  mixture = record {
    is_allowed = λ none. b.mixture.is_allowed (by_numbers f not_allowed b.definition.content (sym none));
    has_no_type = λ t has. b.mixture.has_no_type t (type_back f has b.definition.content refl);
  };
}

attributes_on : (f : ℕ → ℕ) (p : Pattern) → HasAttributeOverlap p → HasAttributeOverlap (renumbered f p)
attributes_on f p (in_group s t u overlap) = in_group (stands_on f s) (occurs_on f t) (occurs_on f u) overlap
attributes_on f p (in_interleave s t u overlap) = in_interleave (stands_on f s) (occurs_on f t) (occurs_on f u) overlap

wildcards_on : (f : ℕ → ℕ) (p : Pattern) → HasWildcardOnce p → HasWildcardOnce (renumbered f p)
wildcards_on f p (wildcard_once s wildcard) = wildcard_once (once_on f s) wildcard

interleaves_on : {f : ℕ → ℕ} {g h : Language} → Renumbers f g h → (p : Pattern) → HasInterleaveOverlap g.definitions p → HasInterleaveOverlap h.definitions (renumbered f p)
interleaves_on {f = f} r p (elements_overlap {i = i} {j = j} {d = d} {e = e} s t at u there overlap) =
    elements_overlap (stands_on f s) (occurs_on f t) (r.definitions i d at) (occurs_on f u) (r.definitions j e there) overlap

texts_on : (f : ℕ → ℕ) (p : Pattern) → HasTextTwice p → HasTextTwice (renumbered f p)
texts_on f p (text_twice s t u) = text_twice (stands_on f s) (occurs_on f t) (occurs_on f u)

-- ---- the answers

-- each restriction that one language breaks, another does
record BreaksOn (g h : Language) : Type 0 where
  path : BreaksPath g.start g.definitions → BreaksPath h.start h.definitions
  mixture : BreaksMixture g.start g.definitions → BreaksMixture h.start h.definitions
  overlap : BreaksAttributeOverlap g.start g.definitions → BreaksAttributeOverlap h.start h.definitions
  wildcard : BreaksWildcardOnce g.start g.definitions → BreaksWildcardOnce h.start h.definitions
  interleaved : BreaksInterleaveOverlap g.start g.definitions → BreaksInterleaveOverlap h.start h.definitions
  twice : BreaksTextTwice g.start g.definitions → BreaksTextTwice h.start h.definitions

breaks_on : {f : ℕ → ℕ} {g h : Language} → Renumbers f g h → BreaksOn g h
breaks_on {f = f} r = record {
  path = paths_on r;
  mixture = mixtures_on r;
  overlap = somewhere_on r (attributes_on f);
  wildcard = somewhere_on r (wildcards_on f);
  interleaved = somewhere_on r (interleaves_on r);
  twice = somewhere_on r (texts_on f);
}

answered_on : (g h : Language) (answer : Result Unit RestrictFault) → BreaksOn g h → BreaksOn h g → Answers g.start g.definitions answer
    → Answers h.start h.definitions answer
answered_on g h (Ok none) on back a = (
  (λ b. a.0 (back.path b)),
  (λ b. a.1 (back.mixture b)),
  (λ b. a.2 (back.overlap b)),
  (λ b. a.3 (back.wildcard b)),
  (λ b. a.4 (back.interleaved b)),
  (λ b. a.5 (back.twice b)),
)
answered_on g h (Err Path) on back a = on.path a
answered_on g h (Err Mixture) on back a = ((λ b. a.0 (back.path b)), on.mixture a.1)
answered_on g h (Err AttributeOverlap) on back a = ((λ b. a.0 (back.path b)), (λ b. a.1 (back.mixture b)), on.overlap a.2)
answered_on g h (Err WildcardOnce) on back a =
    ((λ b. a.0 (back.path b)), (λ b. a.1 (back.mixture b)), (λ b. a.2 (back.overlap b)), on.wildcard a.3)
answered_on g h (Err InterleaveOverlap) on back a =
    ((λ b. a.0 (back.path b)), (λ b. a.1 (back.mixture b)), (λ b. a.2 (back.overlap b)), (λ b. a.3 (back.wildcard b)), on.interleaved a.4)
answered_on g h (Err TextTwice) on back a = (
  (λ b. a.0 (back.path b)),
  (λ b. a.1 (back.mixture b)),
  (λ b. a.2 (back.overlap b)),
  (λ b. a.3 (back.wildcard b)),
  (λ b. a.4 (back.interleaved b)),
  on.twice a.5,
)
answered_on g h (Err NoMemory) on back a = tt

pub numbers_break_the_same : NumbersBreakTheSame
numbers_break_the_same g h answer one answers = answered_on g h answer (breaks_on one.leads_there) (breaks_on one.leads_back) answers

lives_on : {f : ℕ → ℕ} {g h : Language} → Renumbers f g h → Lives g.definitions g.start → Lives h.definitions h.start
lives_on r lives =
    record { attributes = lives.attributes; children = lives.children; values = lives.values; strings_are = lives.strings_are; matched = start_matches r lives.matched }

pub numbers_live_alike : NumbersLiveAlike
numbers_live_alike g h one = ((λ lives. lives_on one.leads_there lives), (λ lives. lives_on one.leads_back lives))
