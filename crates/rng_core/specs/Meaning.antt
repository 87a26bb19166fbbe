-- What the classes, patterns and grammars of the program stand for.
use Rattle.std.specs.Prelude.{List, map}
use Rattle.rng_core.specs.declared.name_class.NameClass.{NameClass}
use Rattle.rng_core.specs.declared.name_class.NameClass.TheVariants as class
use Rattle.rng_core.specs.declared.grammar.Pat.{Pat}
use Rattle.rng_core.specs.declared.grammar.Pat.TheVariants as pat
use Rattle.rng_core.specs.declared.grammar.Def.{Def}
use Rattle.rng_core.specs.declared.grammar.Grammar.{Grammar}
use Rattle.rng_core.specs.Names.{Class, any_name, ns_name, the_name, either, without}
use Rattle.rng_core.specs.Patterns.{Pattern, Definition, Language, not_allowed, empty, any_text, typed, literal, listed}
use Rattle.rng_core.specs.Patterns.{attribute, ref, one_or_more, choice, group, interleave}

abbrev pub class_of : NameClass → Class
class_of class.AnyName = any_name
class_of (class.NsName ns) = ns_name ns
class_of (class.Name name) = the_name name
class_of (class.Choice' p a q b) = either (class_of a) (class_of b)
class_of (class.Except' p a q b) = without (class_of a) (class_of b)

abbrev pub pattern_of : Pat → Pattern
pattern_of pat.NotAllowed = not_allowed
pattern_of pat.Empty = empty
pattern_of pat.Text = any_text
pattern_of (pat.Typed type excepts) = typed type excepts
pattern_of (pat.Value type text) = literal type text
pattern_of (pat.List' p body) = listed (pattern_of body)
pattern_of (pat.Attribute' c p body) = attribute (class_of c) (pattern_of body)
pattern_of (pat.Ref number) = ref number
pattern_of (pat.OneOrMore' p body) = one_or_more (pattern_of body)
pattern_of (pat.Choice' p a q b) = choice (pattern_of a) (pattern_of b)
pattern_of (pat.Group' p a q b) = group (pattern_of a) (pattern_of b)
pattern_of (pat.Interleave' p a q b) = interleave (pattern_of a) (pattern_of b)

abbrev pub definition_of : Def → Definition
definition_of def = record { class = class_of def.class; content = pattern_of def.content }

abbrev pub definitions_of : Grammar → List Definition
definitions_of grammar = map definition_of grammar.defs

abbrev pub language_of : Grammar → Language
language_of grammar = record { start = pattern_of grammar.start; definitions = definitions_of grammar }
