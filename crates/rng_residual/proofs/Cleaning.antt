-- What is left of a pattern each part of which matches something is such a pattern, or notAllowed.
use Rattle.std.proofs.Common.{◌≡◌, ℕ, List, [], Bool, true, false, not, ◌||◌, refl}
use Rattle.std.specs.Prelude.{if◌then◌else◌, IsTrue}
use Rattle.nx_base.specs.declared.name.Name.{Name}
use Rattle.nx_base.specs.Characters.{is_blank, is_of_chars}
use Rattle.nx_base.specs.Trees.{nil, string}
use Rattle.rng_types.specs.Types.{Accepts, SameWord, SameOfForm, seen_by}
use Rattle.rng_types.specs.Words.{has_form}
use Rattle.rng_types.specs.declared.kind.Word.{Word}
use Rattle.rng_types.specs.declared.kind.Word.TheVariants.{Name as NameWord, NcName, NmToken, Language, Boolean, Decimal, Integer}
use Rattle.rng_types.specs.declared.kind.Form.{Form}
use Rattle.rng_types.specs.declared.kind.Form.TheVariants.{Any, One, Several, More}
use Rattle.rng_types.specs.declared.datatype.Datatype.{Datatype}
use Rattle.rng_types.specs.declared.datatype.Except.{Except}
use Rattle.rng_types.proofs.MoreSame.{more_itself}
use Rattle.rng_core.specs.Patterns.{Pattern, Definition, not_allowed, typed, literal, listed, one_or_more, choice, group, interleave}
use Rattle.rng_core.specs.Matching.{Matches, by_value}
use Rattle.rng_kept.specs.SmallPatterns.{is_not_allowed, choice_of, group_of, interleave_of, star, one_or_more_of}
use Rattle.rng_kept.specs.Lists.{has_flat_lists}
use Rattle.rng_kept.specs.Clean.{Clean, clean_empty, clean_text, clean_data, clean_value, clean_list, clean_attribute, clean_ref, clean_one_or_more, clean_choice, clean_group, clean_interleave, Fine}
use Rattle.rng_residual.proofs.SmallPatterns.{by_test, is_not_allowed-is}
use Rattle.rng_residual.proofs.Nullable.{true_and}
use Rattle.rng_core.specs.Soundness.{IsSoundPattern, sound_value, sound_list}
use Rattle.rng_residual.specs.Solid.{IsSoundLeaf, TestsIn, PassNoBlank}
use Rattle.rng_kept.specs.Strings.{Tests, after_by, after}
use Rattle.rng_kept.specs.Content.{loose_after}
use Rattle.rng_kept.specs.Attributes.{attribute_by, close}
use Rattle.rng_kept.specs.SolidStrings.{solid_tests, loosen}
use Rattle.rng_residual.proofs.Keeping.{Keeps, choice_keeps, group_keeps, interleave_keeps, star_keeps, after_keeps, attribute_keeps, some_choice, some_group, some_interleave, some_star}

module _ {g : List Definition} {f b : Bool} where
  pub some_clean : {p : Pattern} → Clean g f b p → is_not_allowed p ≡ false
  some_clean clean_empty = refl
  some_clean clean_text = refl
  some_clean (clean_data z s) = refl
  some_clean (clean_value z k) = refl
  some_clean (clean_list w h s) = refl
  some_clean (clean_attribute a h e c m) = refl
  some_clean (clean_ref n a k c w m) = refl
  some_clean (clean_one_or_more c) = refl
  some_clean (clean_choice c d) = refl
  some_clean (clean_group c d) = refl
  some_clean (clean_interleave c d) = refl

  pub flat_clean : {p : Pattern} → Clean g f b p → has_flat_lists p ≡ true
  flat_clean clean_empty = refl
  flat_clean clean_text = refl
  flat_clean (clean_data z s) = refl
  flat_clean (clean_value z k) = refl
  flat_clean (clean_list w h s) = h
  flat_clean (clean_attribute a h e c m) = h
  flat_clean (clean_ref n a k c w m) = refl
  flat_clean (clean_one_or_more c) = flat_clean c
  flat_clean (clean_choice c d) = true_and _ _ (flat_clean c) (flat_clean d)
  flat_clean (clean_group c d) = true_and _ _ (flat_clean c) (flat_clean d)
  flat_clean (clean_interleave c d) = true_and _ _ (flat_clean c) (flat_clean d)

  choice_parts : {p q : Pattern} → Clean g f b (choice p q) → Clean g f b p × Clean g f b q
  choice_parts (clean_choice c d) = (c, d)

  group_parts : {p q : Pattern} → Clean g f b (group p q) → Clean g f b p × Clean g f b q
  group_parts (clean_group c d) = (c, d)

  interleave_parts : {p q : Pattern} → Clean g f b (interleave p q) → Clean g f b p × Clean g f b q
  interleave_parts (clean_interleave c d) = (c, d)

  more_part : {p : Pattern} → Clean g f b (one_or_more p) → Clean g f b p
  more_part (clean_one_or_more c) = c

  pub fine : {p : Pattern} → Clean g f b p → Fine g f b p
  fine c = record { clean = λ _. c }

  pub fine_none : Fine g f b not_allowed
  fine_none = record { clean = λ e. cc }

  pub flat_fine : {p : Pattern} → Fine g f b p → has_flat_lists p ≡ true
  flat_fine {p = p} c = go (is_not_allowed p) refl
    where
      go : (v : Bool) → is_not_allowed p ≡ v → has_flat_lists p ≡ true
      go true e = rw (is_not_allowed-is p e) refl
      go false e = flat_clean (c.clean e)

-- one law for choices, groups, interleaves and repetitions, whatever the flags
pub fine_keeps : (g : List Definition) (f b : Bool) → Keeps (λ p. Fine g f b p)
fine_keeps g f b = record {
  none = fine_none;
  nothing = fine clean_empty;
  of_choice = λ p q h i c d. fine (clean_choice (c.clean h) (d.clean i));
  from_choice = λ p q c. let w = choice_parts (c.clean refl) in (fine w.0, fine w.1);
  of_group = λ p q h i c d. fine (clean_group (c.clean h) (d.clean i));
  from_group = λ p q c. let w = group_parts (c.clean refl) in (fine w.0, fine w.1);
  of_interleave = λ p q h i c d. fine (clean_interleave (c.clean h) (d.clean i));
  from_interleave = λ p q c. let w = interleave_parts (c.clean refl) in (fine w.0, fine w.1);
  of_more = λ p h c. fine (clean_one_or_more (c.clean h));
  from_more = λ p c. fine (more_part (c.clean refl));
}

module _ {g : List Definition} {f b : Bool} where
  pub fine_choice : (p q : Pattern) → Fine g f b p → Fine g f b q → Fine g f b (choice_of p q)
  fine_choice p q c d = choice_keeps (fine_keeps g f b) p q c d

  pub fine_group : (p q : Pattern) → Fine g f b p → Fine g f b q → Fine g f b (group_of p q)
  fine_group p q c d = group_keeps (fine_keeps g f b) p q c d

  pub fine_interleave : (p q : Pattern) → Fine g f b p → Fine g f b q → Fine g f b (interleave_of p q)
  fine_interleave p q c d = interleave_keeps (fine_keeps g f b) p q c d

  -- what is clean is kept so
  pub clean_choice_of : (p q : Pattern) → Clean g f b p → Fine g f b q → Clean g f b (choice_of p q)
  clean_choice_of p q c d = (fine_choice p q (fine c) d).clean (some_choice p q (some_clean c))

  pub clean_group_of : (p q : Pattern) → Clean g f b p → Clean g f b q → Clean g f b (group_of p q)
  clean_group_of p q c d = (fine_group p q (fine c) (fine d)).clean (some_group p q (some_clean c) (some_clean d))

  pub clean_interleave_of : (p q : Pattern) → Clean g f b p → Clean g f b q → Clean g f b (interleave_of p q)
  clean_interleave_of p q c d = (fine_interleave p q (fine c) (fine d)).clean (some_interleave p q (some_clean c) (some_clean d))

  pub clean_star : (p : Pattern) → Clean g f b p → Clean g f b (star p)
  clean_star p c = (star_keeps (fine_keeps g f b) p (fine (clean_one_or_more c))).clean (some_star p)

  pub fine_if : (t : Bool) (p : Pattern) → Fine g f b p → Fine g f b (if t then p else not_allowed)
  fine_if true p c = c
  fine_if false p c = fine_none

  pub fine_more : (p : Pattern) → Fine g f b p → Fine g f b (one_or_more_of p)
  fine_more p c = by_test (λ r. Fine g f b r) (is_not_allowed p) _ _ (λ _. fine_none) (λ h. fine (clean_one_or_more (c.clean h)))

  pub fine_after : (tests : Tests) (p : Pattern) → Fine g f b p → Fine g f b (after_by tests p)
  fine_after tests p c = after_keeps (fine_keeps g f b) tests p c

  pub fine_loose_after : (t : List ℕ) (p : Pattern) → Fine g f b p → Fine g f b (loose_after t p)
  fine_loose_after t p c = by_test (λ r. Fine g f b r) (is_blank t) p (after t p) (λ _. c) (λ _. fine_after _ p c)

  pub fine_attribute : (fits : Pattern → Bool) (n : Name) (p : Pattern) → Fine g f b p → Fine g f b (attribute_by fits n p)
  fine_attribute fits n p c = attribute_keeps (fine_keeps g f b) fits n p c

-- ---- leaves are those of a sound grammar

pub sound_value_is : {count : ℕ} {type : Datatype} {text : List ℕ} → IsSoundPattern count (literal type text) → Accepts type text × IsTrue (is_of_chars text)
sound_value_is (sound_value made a c) = (a, c)

pub clean_sound_data : {g : List Definition} {f b : Bool} {type : Datatype} {excepts : List Except} → Clean g f b (typed type excepts) → IsSoundLeaf (typed type excepts)
clean_sound_data (clean_data {count = n} z s) = record { count = n; sound = z; flat = refl }

pub clean_sound_value : {g : List Definition} {f b : Bool} {type : Datatype} {wanted : List ℕ} → Clean g f b (literal type wanted) → IsSoundLeaf (literal type wanted)
clean_sound_value (clean_value {count = n} z k) = record { count = n; sound = z; flat = refl }

pub clean_sound_list : {g : List Definition} {f b : Bool} {p : Pattern} → Clean g f b (listed p) → IsSoundLeaf (listed p)
clean_sound_list (clean_list {count = n} w h s) = record { count = n; sound = sound_list w; flat = h }

pub leaf_data : {g : List Definition} {f b : Bool} {type : Datatype} {excepts : List Except} → Fine g f b (typed type excepts) → IsSoundLeaf (typed type excepts)
leaf_data c = clean_sound_data (c.clean refl)

pub leaf_value : {g : List Definition} {f b : Bool} {type : Datatype} {wanted : List ℕ} → Fine g f b (literal type wanted) → IsSoundLeaf (literal type wanted)
leaf_value c = clean_sound_value (c.clean refl)

pub leaf_list : {g : List Definition} {f b : Bool} {p : Pattern} → Fine g f b (listed p) → IsSoundLeaf (listed p)
leaf_list c = clean_sound_list (c.clean refl)

-- tests that pass the sound leaves that take a string pass those of a clean pattern
pub tests_of_fine : {g : List Definition} {tests : Tests} {t : List ℕ} (f b : Bool) → TestsIn g IsSoundLeaf tests t → TestsIn g (λ p. Fine g f b p) tests t
tests_of_fine f b l = record {
  data_in = λ type es c m. l.data_in type es (leaf_data c) m;
  value_in = λ type v c m. l.value_in type v (leaf_value c) m;
  list_in = λ p c m. l.list_in p (leaf_list c) m;
}

-- through a pattern that may be notAllowed
pub fine_on : {g : List Definition} {f b f' b' : Bool} (h : Pattern → Pattern) (p : Pattern) → h not_allowed ≡ not_allowed → ((q : Pattern) → Clean g f b q → Fine g f' b' (h q)) → Fine g f b p → Fine g f' b' (h p)
fine_on {g = g} {f = f} {b = b} {f' = f'} {b' = b'} h p e c d = go (is_not_allowed p) refl
  where
    go : (v : Bool) → is_not_allowed p ≡ v → Fine g f' b' (h p)
    go true k = rw (is_not_allowed-is p k, e) fine_none
    go false k = c p (d.clean k)

-- ---- where no attribute comes any more

pub fine_close : {g : List Definition} {f b : Bool} {p : Pattern} → Clean g f b p → Fine g false b (close p)
fine_close clean_empty = fine clean_empty
fine_close clean_text = fine clean_text
fine_close (clean_data z s) = fine (clean_data z s)
fine_close (clean_value z k) = fine (clean_value z k)
fine_close (clean_list w h s) = fine (clean_list w h s)
fine_close (clean_attribute a h e c m) = fine_none
fine_close (clean_ref n a k c w m) = fine (clean_ref n a k c w m)
fine_close (clean_one_or_more {p = p} c) = fine_more (close p) (fine_close c)
fine_close (clean_choice {p = p} {q = q} c d) = fine_choice (close p) (close q) (fine_close c) (fine_close d)
fine_close (clean_group {p = p} {q = q} c d) = fine_group (close p) (close q) (fine_close c) (fine_close d)
fine_close (clean_interleave {p = p} {q = q} c d) = fine_interleave (close p) (close q) (fine_close c) (fine_close d)

-- ---- where no blank string comes any more

if_test : {g : List Definition} {f b : Bool} (t : Bool) (p : Pattern) → (t ≡ true → Fine g f b p) → Fine g f b (if t then p else not_allowed)
if_test true p c = c refl
if_test false p c = fine_none

not_true : (v : Bool) → v ≡ false → (false || not v) ≡ true
not_true v e = rw e refl

pub fine_loosen : {g : List Definition} {f b : Bool} {p : Pattern} → PassNoBlank g → Clean g f b p → Fine g f false (loosen p)
fine_loosen l clean_empty = fine clean_empty
fine_loosen l clean_text = fine clean_text
fine_loosen l (clean_data {count = n} {type = t} {excepts = e} z s) = if_test (solid_tests.of_data t e) (typed t e) (λ h. fine (clean_data z (l.data_out n t e z h)))
fine_loosen l (clean_value {count = n} {type = t} {text = v} z k) =
    if_test (solid_tests.of_value t v) (literal t v) (λ h. fine (clean_value z (not_true (is_blank v) (l.value_out n t v z h))))
fine_loosen l (clean_list {count = n} {p = p} w h s) = if_test (solid_tests.of_list p) (listed p) (λ t. fine (clean_list w h (l.list_out n p w h t)))
fine_loosen l (clean_attribute a h e c m) = fine (clean_attribute a h e c m)
fine_loosen l (clean_ref n a k c w m) = fine (clean_ref n a k c w m)
fine_loosen l (clean_one_or_more {p = p} c) = fine_more (loosen p) (fine_loosen l c)
fine_loosen l (clean_choice {p = p} {q = q} c d) = fine_choice (loosen p) (loosen q) (fine_loosen l c) (fine_loosen l d)
fine_loosen l (clean_group {p = p} {q = q} c d) = fine_group (loosen p) (loosen q) (fine_loosen l c) (fine_loosen l d)
fine_loosen l (clean_interleave {p = p} {q = q} c d) = fine_interleave (loosen p) (loosen q) (fine_loosen l c) (fine_loosen l d)

-- ---- a literal takes its own text

same_word_itself : (word : Word) (a : List ℕ) → SameWord word a a
same_word_itself Boolean a = refl
same_word_itself Decimal a = refl
same_word_itself Integer a = refl
same_word_itself NameWord a = refl
same_word_itself NcName a = refl
same_word_itself NmToken a = refl
same_word_itself Language a = refl

same_itself : (form : Form) (a : List ℕ) → IsTrue (has_form form a) → SameOfForm form a a
same_itself (Any whitespace) a is = refl
same_itself (One word) a is = same_word_itself word a
same_itself (Several word) a is = refl
same_itself (More more) a is = more_itself more a is

pub own_text : {g : List Definition} {type : Datatype} {text : List ℕ} → Accepts type text → Matches g (literal type text) [] (string text nil)
own_text {type = type} {text = text} a = by_value a (same_itself type.form (seen_by type text) a.form)
