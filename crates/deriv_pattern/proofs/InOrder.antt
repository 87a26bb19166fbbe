-- What is left of patterns that are in order is in order.
use Rattle.std.proofs.Common.{ℕ, true, List, [], ◌∷◌, map, ◌==◌, Option, None, Some}
use Rattle.std.specs.Prelude.{slice_get}
use Rattle.nx_base.specs.declared.name.Name.{Name}
use Rattle.rng_core.specs.Names.{has_name}
use Rattle.rng_core.specs.Patterns.{Pattern, Definition, not_allowed, empty, any_text, typed, literal, listed, attribute, ref, one_or_more, choice, group, interleave}
use Rattle.rng_core.specs.Soundness.{IsSoundPattern, sound_not_allowed, sound_empty, sound_text, sound_data, sound_value, sound_list, sound_attribute, sound_ref, sound_one_or_more, sound_choice, sound_group, sound_interleave, SoundExceptsSuit}
use Rattle.rng_kept.specs.SmallPatterns.{is_not_allowed, choice_of, group_of, interleave_of, one_or_more_of, star}
use Rattle.rng_kept.specs.Nullable.{nullable}
use Rattle.rng_kept.specs.Strings.{string_tests, word_tests, after_word}
use Rattle.rng_kept.specs.SolidStrings.{solid_tests, loosen}
use Rattle.rng_kept.specs.Attributes.{value_fits, close, drop}
use Rattle.rng_kept.specs.Openings.{Opening, opening, added, joined, then_group, then_interleave, under_interleave, open_definition, opens}
use Rattle.rng_kept.specs.Skipping.{ending, skip_opens}
use Rattle.rng_kept.specs.Entering.{rest_at}
use Rattle.rng_residual.proofs.SmallPatterns.{by_test, and_true}
use Rattle.rng_residual.proofs.Keeping.{Keeps, if_keeps, choice_keeps, group_keeps, interleave_keeps, star_keeps, after_keeps, attribute_keeps}
use Rattle.deriv_pattern.specs.Leaves.{IsInOrder, RestsAreInOrder, LeftInOrder}

pub order_keeps : Keeps IsInOrder
order_keeps = record {
  none = tt;
  nothing = tt;
  of_choice = λ p q h i c d. (c, d);
  from_choice = λ p q c. c;
  of_group = λ p q h i c d. (c, d);
  from_group = λ p q c. c;
  of_interleave = λ p q h i c d. (c, d);
  from_interleave = λ p q c. c;
  of_more = λ p h c. c;
  from_more = λ p c. c;
}

more_in_order : (p : Pattern) → IsInOrder p → IsInOrder (one_or_more_of p)
more_in_order p c = by_test IsInOrder (is_not_allowed p) _ _ (λ _. tt) (λ _. c)

both_chosen : (p q : Pattern) → IsInOrder p → IsInOrder q → IsInOrder (choice_of p q)
both_chosen p q c d = choice_keeps order_keeps p q c d

both_grouped : (p q : Pattern) → IsInOrder p → IsInOrder q → IsInOrder (group_of p q)
both_grouped p q c d = group_keeps order_keeps p q c d

both_shuffled : (p q : Pattern) → IsInOrder p → IsInOrder q → IsInOrder (interleave_of p q)
both_shuffled p q c d = interleave_keeps order_keeps p q c d

star_in_order : (p : Pattern) → IsInOrder p → IsInOrder (star p)
star_in_order p c = star_keeps order_keeps p c

pub word_in_order : (t : List ℕ) (p : Pattern) → IsInOrder p → IsInOrder (after_word t p)
word_in_order t p c = after_keeps order_keeps (word_tests t) p c

loosen_in_order : (p : Pattern) → IsInOrder p → IsInOrder (loosen p)
loosen_in_order not_allowed c = tt
loosen_in_order empty c = tt
loosen_in_order any_text c = tt
loosen_in_order (typed type excepts) c = if_keeps order_keeps (solid_tests.of_data type excepts) (typed type excepts) c
loosen_in_order (literal type text) c = if_keeps order_keeps (solid_tests.of_value type text) (literal type text) c
loosen_in_order (listed p) c = if_keeps order_keeps (solid_tests.of_list p) (listed p) c
loosen_in_order (attribute class p) c = c
loosen_in_order (ref i) c = tt
loosen_in_order (one_or_more p) c = more_in_order (loosen p) (loosen_in_order p c)
loosen_in_order (choice p q) c = both_chosen (loosen p) (loosen q) (loosen_in_order p c.0) (loosen_in_order q c.1)
loosen_in_order (group p q) c = both_grouped (loosen p) (loosen q) (loosen_in_order p c.0) (loosen_in_order q c.1)
loosen_in_order (interleave p q) c = both_shuffled (loosen p) (loosen q) (loosen_in_order p c.0) (loosen_in_order q c.1)

close_in_order : (p : Pattern) → IsInOrder p → IsInOrder (close p)
close_in_order not_allowed c = tt
close_in_order empty c = tt
close_in_order any_text c = tt
close_in_order (typed type excepts) c = c
close_in_order (literal type text) c = c
close_in_order (listed p) c = c
close_in_order (attribute class p) c = tt
close_in_order (ref i) c = tt
close_in_order (one_or_more p) c = more_in_order (close p) (close_in_order p c)
close_in_order (choice p q) c = both_chosen (close p) (close q) (close_in_order p c.0) (close_in_order q c.1)
close_in_order (group p q) c = both_grouped (close p) (close q) (close_in_order p c.0) (close_in_order q c.1)
close_in_order (interleave p q) c = both_shuffled (close p) (close q) (close_in_order p c.0) (close_in_order q c.1)

drop_in_order : (p : Pattern) → IsInOrder p → IsInOrder (drop p)
drop_in_order not_allowed c = tt
drop_in_order empty c = tt
drop_in_order any_text c = tt
drop_in_order (typed type excepts) c = c
drop_in_order (literal type text) c = c
drop_in_order (listed p) c = c
drop_in_order (attribute class p) c = tt
drop_in_order (ref i) c = tt
drop_in_order (one_or_more p) c = more_in_order (drop p) (drop_in_order p c)
drop_in_order (choice p q) c = both_chosen (drop p) (drop q) (drop_in_order p c.0) (drop_in_order q c.1)
drop_in_order (group p q) c = both_grouped (drop p) (drop q) (drop_in_order p c.0) (drop_in_order q c.1)
drop_in_order (interleave p q) c = both_shuffled (drop p) (drop q) (drop_in_order p c.0) (drop_in_order q c.1)

ending_in_order : (p : Pattern) → IsInOrder p → IsInOrder (ending p)
ending_in_order not_allowed c = tt
ending_in_order empty c = tt
ending_in_order any_text c = tt
ending_in_order (typed type excepts) c = (c, tt)
ending_in_order (literal type text) c = (c, tt)
ending_in_order (listed p) c = (c, tt)
ending_in_order (attribute class p) c = tt
ending_in_order (ref i) c = (tt, tt)
ending_in_order (one_or_more p) c = both_grouped (ending p) (star p) (ending_in_order p c) (star_in_order p c)
ending_in_order (choice p q) c = both_chosen (ending p) (ending q) (ending_in_order p c.0) (ending_in_order q c.1)
ending_in_order (group p q) c = both_chosen (group_of (ending p) q) (ending q) (both_grouped (ending p) q (ending_in_order p c.0) c.1) (ending_in_order q c.1)
ending_in_order (interleave p q) c = both_shuffled (ending p) (ending q) (ending_in_order p c.0) (ending_in_order q c.1)

-- ---- openings

added_in_order : (i : ℕ) (r : Pattern) (os : List Opening) → IsInOrder r → RestsAreInOrder os → RestsAreInOrder (added i r os)
added_in_order i r [] c h = (c, tt)
added_in_order i r (o ∷ os) c h =
    by_test RestsAreInOrder (i == o.number) _ _ (λ _. (both_chosen o.rest r h.0 c, h.1)) (λ _. (h.0, added_in_order i r os c h.1))

joined_in_order : (os ps : List Opening) → RestsAreInOrder os → RestsAreInOrder ps → RestsAreInOrder (joined os ps)
joined_in_order os [] h k = h
joined_in_order os (p ∷ ps) h k = joined_in_order (added p.number p.rest os) ps (added_in_order p.number p.rest os k.0 h) k.1

all_in_order : (f : Opening → Opening) → ((o : Opening) → IsInOrder o.rest → IsInOrder (f o).rest) → (os : List Opening)
    → RestsAreInOrder os → RestsAreInOrder (map f os)
all_in_order f keeps [] h = tt
all_in_order f keeps (o ∷ os) h = (keeps o h.0, all_in_order f keeps os h.1)

definition_in_order : (d : Option Definition) (n : Name) (i : ℕ) → RestsAreInOrder (open_definition d n i)
definition_in_order None n i = tt
definition_in_order (Some d) n i = by_test RestsAreInOrder (has_name d.class n) (opening i empty ∷ []) [] (λ _. (tt, tt)) (λ _. tt)

grouped : (q : Pattern) → IsInOrder q → (os : List Opening) → RestsAreInOrder os → RestsAreInOrder (map (then_group q) os)
grouped q c os h = all_in_order (then_group q) (λ o d. both_grouped o.rest q d c) os h

shuffled : (q : Pattern) → IsInOrder q → (os : List Opening) → RestsAreInOrder os → RestsAreInOrder (map (then_interleave q) os)
shuffled q c os h = all_in_order (then_interleave q) (λ o d. both_shuffled o.rest q d c) os h

under : (q : Pattern) → IsInOrder q → (os : List Opening) → RestsAreInOrder os → RestsAreInOrder (map (under_interleave q) os)
under q c os h = all_in_order (under_interleave q) (λ o d. both_shuffled q o.rest c d) os h

opens_in_order : (g : List Definition) (n : Name) (p : Pattern) → IsInOrder p → RestsAreInOrder (opens g n p)
opens_in_order g n not_allowed c = tt
opens_in_order g n empty c = tt
opens_in_order g n any_text c = tt
opens_in_order g n (typed type excepts) c = tt
opens_in_order g n (literal type text) c = tt
opens_in_order g n (listed p) c = tt
opens_in_order g n (attribute class p) c = tt
opens_in_order g n (ref i) c = definition_in_order (slice_get g i) n i
opens_in_order g n (one_or_more p) c = grouped (star p) (star_in_order p c) _ (opens_in_order g n p c)
opens_in_order g n (choice p q) c = joined_in_order _ _ (opens_in_order g n p c.0) (opens_in_order g n q c.1)
opens_in_order g n (group p q) c =
    joined_in_order _ _ (grouped q c.1 _ (opens_in_order g n p c.0))
    (by_test RestsAreInOrder (nullable p) (opens g n q) [] (λ _. opens_in_order g n q c.1) (λ _. tt))
opens_in_order g n (interleave p q) c =
    joined_in_order _ _ (shuffled q c.1 _ (opens_in_order g n p c.0)) (under p c.0 _ (opens_in_order g n q c.1))

skip_opens_in_order : (g : List Definition) (n : Name) (p : Pattern) → IsInOrder p → RestsAreInOrder (skip_opens g n p)
skip_opens_in_order g n not_allowed c = tt
skip_opens_in_order g n empty c = tt
skip_opens_in_order g n any_text c = tt
skip_opens_in_order g n (typed type excepts) c = tt
skip_opens_in_order g n (literal type text) c = tt
skip_opens_in_order g n (listed p) c = tt
skip_opens_in_order g n (attribute class p) c = tt
skip_opens_in_order g n (ref i) c = definition_in_order (slice_get g i) n i
skip_opens_in_order g n (one_or_more p) c = grouped (star p) (star_in_order p c) _ (skip_opens_in_order g n p c)
skip_opens_in_order g n (choice p q) c = joined_in_order _ _ (skip_opens_in_order g n p c.0) (skip_opens_in_order g n q c.1)
skip_opens_in_order g n (group p q) c =
    joined_in_order _ _ (grouped q c.1 _ (skip_opens_in_order g n p c.0)) (skip_opens_in_order g n q c.1)
skip_opens_in_order g n (interleave p q) c =
    joined_in_order _ _ (shuffled (ending q) (ending_in_order q c.1) _ (skip_opens_in_order g n p c.0))
    (under (ending p) (ending_in_order p c.0) _ (skip_opens_in_order g n q c.1))

rest_in_order : (i : ℕ) (os : List Opening) → RestsAreInOrder os → IsInOrder (rest_at i os)
rest_in_order i [] h = tt
rest_in_order i (o ∷ os) h =
    by_test IsInOrder (i == o.number) _ _ (λ _. both_chosen o.rest (rest_at i os) h.0 (rest_in_order i os h.1)) (λ _. rest_in_order i os h.1)

-- ---- what is left, whichever way

pub left_in_order : LeftInOrder
left_in_order = record {
  choice_of = both_chosen;
  after = λ t p c. after_keeps order_keeps (string_tests t) p c;
  after_solid = λ p c. after_keeps order_keeps solid_tests p c;
  loosen = loosen_in_order;
  after_attribute = λ n v p c. attribute_keeps order_keeps (value_fits v) n p c;
  after_any_attribute = λ n p c. attribute_keeps order_keeps (λ q. true) n p c;
  close = close_in_order;
  drop = drop_in_order;
  opens = opens_in_order;
  skip_opens = skip_opens_in_order;
  rest_at = rest_in_order;
}

-- ---- sound patterns

pub sound_in_order : SoundExceptsSuit → {count : ℕ} {p : Pattern} → IsSoundPattern count p → IsInOrder p
sound_in_order suit sound_not_allowed = tt
sound_in_order suit sound_empty = tt
sound_in_order suit sound_text = tt
sound_in_order suit (sound_data {type = type} {excepts = es} m l e) = (l, m, suit type es e)
sound_in_order suit (sound_value m a c) = ((and_true _ _ c).0, a)
sound_in_order suit (sound_list s) = sound_in_order suit s
sound_in_order suit (sound_attribute c s) = sound_in_order suit s
sound_in_order suit (sound_ref l) = tt
sound_in_order suit (sound_one_or_more s) = sound_in_order suit s
sound_in_order suit (sound_choice s t) = (sound_in_order suit s, sound_in_order suit t)
sound_in_order suit (sound_group s t) = (sound_in_order suit s, sound_in_order suit t)
sound_in_order suit (sound_interleave s t) = (sound_in_order suit s, sound_in_order suit t)
