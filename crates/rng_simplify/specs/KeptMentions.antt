-- What the program keeps of the files that are mentioned.
use Rattle.std.specs.Prelude.{ℕ, List, map, flat_map, IsUtf8}
use Rattle.std.specs.List.{AllByRecursion}
use Rattle.rnc_parse.specs.declared.surface.Pattern.{Pattern}
use Rattle.rnc_parse.specs.Views.{pattern_of}
use Rattle.rng_simplify.specs.declared.mention.Mention.{Mention as Kept}
use Rattle.rng_simplify.specs.Classes.{namespace_in}
use Rattle.rng_simplify.specs.References.{Mention, reference_of, mentions}

-- of a mention in a file that inherits this namespace: its text, and the namespace that the other file inherits
abbrev pub kept_of : List ℕ → Mention → Kept
kept_of ns mention = record { text = (reference_of mention).uri; inherited = namespace_in ns (reference_of mention).namespace }

abbrev pub kept_of_all : List ℕ → List Mention → List Kept
kept_of_all ns all = map (kept_of ns) all

-- what is mentioned in patterns, in order
abbrev pub mentions_of_each : List Pattern → List Mention
mentions_of_each patterns = flat_map (λ (p : Pattern). mentions (pattern_of p)) patterns

-- the text and the namespace are UTF-8
abbrev pub IsTextMention : Kept → Type 0
IsTextMention mention = IsUtf8 mention.text × IsUtf8 mention.inherited

abbrev pub AreTextMentions : List Kept → Type 0
AreTextMentions all = AllByRecursion IsTextMention all
