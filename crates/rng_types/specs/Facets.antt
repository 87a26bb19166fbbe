-- What facets ask of a text: XML Schema Part 2, section 4.3.
use Rattle.std.specs.Prelude.{ℕ, Bool, true, false, ◌&&◌, List, length, unwrap_or}
use Rattle.std.specs.Str.{chars}
use Rattle.std.specs.Ordering.{nat_cmp}
use Rattle.std.specs.declared.cmp.Ordering.{Ordering}
use Rattle.std.specs.declared.cmp.Ordering.TheVariants.{Less, Equal, Greater}
use Rattle.rng_more_types.specs.MoreTypes.{octets_of}
use Rattle.rng_more_types.specs.declared.more_type.MoreType.{MoreType}
use Rattle.rng_types.specs.Spaces.{words}
use Rattle.rng_types.specs.Numbers.{is_decimal, number_of, compared}
use Rattle.rng_types.specs.declared.kind.Form.{Form}
use Rattle.rng_types.specs.declared.kind.Form.TheVariants.{Any, One, Several, More}
use Rattle.rng_types.specs.declared.facet.Relation.{Relation}
use Rattle.rng_types.specs.declared.facet.Relation.TheVariants.{Exactly, AtLeast, AtMost, Above, Below}
use Rattle.rng_types.specs.declared.facet.Facet.{Facet}
use Rattle.rng_types.specs.declared.facet.Facet.TheVariants.{Length, Bound}

-- whether something that compares so with its limit is in the relation to it
abbrev pub holds : Relation → Ordering → Bool
holds Exactly Less = false
holds Exactly Equal = true
holds Exactly Greater = false
holds AtLeast Less = false
holds AtLeast Equal = true
holds AtLeast Greater = true
holds AtMost Less = true
holds AtMost Equal = true
holds AtMost Greater = false
holds Above Less = false
holds Above Equal = false
holds Above Greater = true
holds Below Less = true
holds Below Equal = false
holds Below Greater = false

-- how many octets a text stands for; 0 where that isn't what it stands for
abbrev pub octet_count : MoreType → List ℕ → ℕ
octet_count more text = unwrap_or (octets_of more text) 0

-- a text's length: its words where the form is several, its octets where they are what it stands for, otherwise its
-- characters
abbrev pub size_of : Form → List ℕ → ℕ
size_of (Any whitespace) text = length (chars text)
size_of (One word) text = length (chars text)
size_of (Several word) text = length (words text)
size_of (More more) text = octet_count more text

-- whether a number is in the relation to another, by their literals; other texts are in none
abbrev pub is_related : Relation → List ℕ → List ℕ → Bool
is_related relation text limit =
    is_decimal text && (is_decimal limit && holds relation (compared (number_of text) (number_of limit)))

-- whether a text of the form meets the facet. A bound is one on numbers, which are single words
abbrev pub meets : Form → List ℕ → Facet → Bool
meets form text (Length relation limit) = holds relation (nat_cmp (size_of form text) limit)
meets (Any whitespace) text (Bound relation limit) = false
meets (One word) text (Bound relation limit) = is_related relation text limit
meets (Several word) text (Bound relation limit) = false
meets (More more) text (Bound relation limit) = false
