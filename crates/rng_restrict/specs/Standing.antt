-- Where patterns stand in one another: ISO/IEC 19757-2, sections 10.2 and 10.4. References aren't followed.
use Rattle.rng_core.specs.Names.{Class}
use Rattle.rng_core.specs.Patterns.{Pattern, listed, attribute, one_or_more, choice, group, interleave}

-- a pattern stands in another: it is the other one, or stands somewhere below it
pub data Stands (q : Pattern) : Pattern → Type 0 where
  itself : Stands q q
  in_list : {p : Pattern} → Stands q p → Stands q (listed p)
  in_attribute : {class : Class} {p : Pattern} → Stands q p → Stands q (attribute class p)
  in_one_or_more : {p : Pattern} → Stands q p → Stands q (one_or_more p)
  in_first_choice : {p r : Pattern} → Stands q p → Stands q (choice p r)
  in_second_choice : {p r : Pattern} → Stands q r → Stands q (choice p r)
  in_first_of_group : {p r : Pattern} → Stands q p → Stands q (group p r)
  in_second_of_group : {p r : Pattern} → Stands q r → Stands q (group p r)
  in_first_of_interleave : {p r : Pattern} → Stands q p → Stands q (interleave p r)
  in_second_of_interleave : {p r : Pattern} → Stands q r → Stands q (interleave p r)

-- it stands there without a oneOrMore above it
pub data StandsOnce (q : Pattern) : Pattern → Type 0 where
  once_itself : StandsOnce q q
  once_in_list : {p : Pattern} → StandsOnce q p → StandsOnce q (listed p)
  once_in_attribute : {class : Class} {p : Pattern} → StandsOnce q p → StandsOnce q (attribute class p)
  once_in_first_choice : {p r : Pattern} → StandsOnce q p → StandsOnce q (choice p r)
  once_in_second_choice : {p r : Pattern} → StandsOnce q r → StandsOnce q (choice p r)
  once_in_first_of_group : {p r : Pattern} → StandsOnce q p → StandsOnce q (group p r)
  once_in_second_of_group : {p r : Pattern} → StandsOnce q r → StandsOnce q (group p r)
  once_in_first_of_interleave : {p r : Pattern} → StandsOnce q p → StandsOnce q (interleave p r)
  once_in_second_of_interleave : {p r : Pattern} → StandsOnce q r → StandsOnce q (interleave p r)

-- section 10.4: it occurs in another, where nothing but choices, groups, interleaves and oneOrMores lie between
pub data Occurs (q : Pattern) : Pattern → Type 0 where
  as_itself : Occurs q q
  below_one_or_more : {p : Pattern} → Occurs q p → Occurs q (one_or_more p)
  below_first_choice : {p r : Pattern} → Occurs q p → Occurs q (choice p r)
  below_second_choice : {p r : Pattern} → Occurs q r → Occurs q (choice p r)
  below_first_of_group : {p r : Pattern} → Occurs q p → Occurs q (group p r)
  below_second_of_group : {p r : Pattern} → Occurs q r → Occurs q (group p r)
  below_first_of_interleave : {p r : Pattern} → Occurs q p → Occurs q (interleave p r)
  below_second_of_interleave : {p r : Pattern} → Occurs q r → Occurs q (interleave p r)
