-- What an element's name opens: the definitions whose elements may begin here, each once, with what is left behind the element.
use Rattle.std.specs.Prelude.{ℕ, List, [], ◌∷◌, map, ◌==◌, if◌then◌else◌, Option, Some, None, slice_get}
use Rattle.nx_base.specs.declared.name.Name.{Name}
use Rattle.rng_core.specs.Names.{has_name}
use Rattle.rng_core.specs.Patterns.{Pattern, Definition, empty, ref, one_or_more, choice, group, interleave}
use Rattle.rng_kept.specs.SmallPatterns.{choice_of, group_of, interleave_of, star}
use Rattle.rng_kept.specs.Nullable.{nullable}

-- the number of a definition, and what is left behind its element
pub record Opening : Type 0 where
  pub number : ℕ
  pub rest : Pattern

abbrev pub opening : ℕ → Pattern → Opening
opening number rest = record { number = number; rest = rest }

-- with one opening more; of each number there is one, with the rests of all
abbrev pub added : ℕ → Pattern → List Opening → List Opening
added i r [] = opening i r ∷ []
added i r (o ∷ os) = if i == o.number then opening o.number (choice_of o.rest r) ∷ os else o ∷ added i r os

-- with the openings of another list
abbrev pub joined : List Opening → List Opening → List Opening
joined os [] = os
joined os (p ∷ ps) = joined (added p.number p.rest os) ps

abbrev pub then_group : Pattern → Opening → Opening
then_group q o = opening o.number (group_of o.rest q)

abbrev pub then_interleave : Pattern → Opening → Opening
then_interleave q o = opening o.number (interleave_of o.rest q)

abbrev pub under_interleave : Pattern → Opening → Opening
under_interleave q o = opening o.number (interleave_of q o.rest)

-- a definition opens where its class has the name
abbrev pub open_definition : Option Definition → Name → ℕ → List Opening
open_definition None n i = []
open_definition (Some d) n i = if has_name d.class n then opening i empty ∷ [] else []

abbrev pub opens : List Definition → Name → Pattern → List Opening
opens g n (ref i) = open_definition (slice_get g i) n i
opens g n (one_or_more p) = map (then_group (star p)) (opens g n p)
opens g n (choice p q) = joined (opens g n p) (opens g n q)
opens g n (group p q) = joined (map (then_group q) (opens g n p)) (if nullable p then opens g n q else [])
opens g n (interleave p q) = joined (map (then_interleave q) (opens g n p)) (map (under_interleave p) (opens g n q))
opens g n _ = []
