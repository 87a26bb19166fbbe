-- Why a schema or another file can't be used, in words.
use Rattle.std.specs.Prelude.{ℕ, List, [], ◌∷◌, ◌++◌, codes}
use Rattle.std.specs.Fmt.{decimal}
use Rattle.nx_base.specs.declared.cause.Cause.{Cause}
use Rattle.nx_base.specs.declared.cause.Cause.TheVariants as causes
use Rattle.nx_report.specs.declared.trouble.Trouble.{Trouble}
use Rattle.nx_report.specs.declared.trouble.Trouble.TheVariants as troubles
use Rattle.nx_report.specs.Printed.{quoted}

-- what a cause says of a schema
abbrev pub cause_text : Cause → List ℕ
cause_text causes.BadEscape = codes "this escape denotes no character"
cause_text causes.BadLiteral = codes "this literal has no end"
cause_text causes.BadCharacter = codes "this character may not stand here"
cause_text causes.Syntax = codes "this isn't the compact syntax of RELAX NG"
cause_text causes.TooDeep = codes "more than 200 brackets or elements are open here"
cause_text causes.UndeclaredPrefix = codes "a prefix isn't declared"
cause_text causes.Twice = codes "a prefix is declared twice, or may not be declared so"
cause_text causes.BadMarkup = codes "this is no well-formed XML"
cause_text causes.BadForm = codes "this isn't the XML syntax of RELAX NG"
cause_text causes.NotGrammar = codes "a file that is included is no grammar"
cause_text causes.IncludeLoop = codes "a file refers to itself, perhaps through others"
cause_text causes.NoDefinition = codes "a name is referred to or overridden that has no definition"
cause_text causes.NoStart = codes "the grammar has no start"
cause_text causes.CombineClash = codes "definitions of one name don't say how they are combined, or say it in two ways"
cause_text causes.RefLoop = codes "a definition leads back to itself without an element between"
cause_text causes.BadExcept = codes "a wildcard may not be excepted from one that is no wider"
cause_text causes.XmlnsName = codes "a name is used that belongs to the declaration of namespaces"
cause_text causes.TooLarge = codes "the schema is too large"
cause_text causes.UnknownType = codes "a datatype isn't known"
cause_text causes.UnknownParam = codes "a datatype has no such parameter"
cause_text causes.BadParam = codes "the value of a datatype's parameter isn't of its form"
cause_text causes.BadValue = codes "a value isn't one of its datatype"
cause_text causes.TooManyExcepts = codes "more than 128 values are excepted at once"
cause_text causes.UnsupportedExcept = codes "from a datatype something is excepted that isn't a choice of its values"
cause_text causes.Path = codes "a pattern stands in one in which it may not stand"
cause_text causes.Mixture = codes "data or a value stands beside elements or text"
cause_text causes.AttributeOverlap = codes "two attributes of one element can have the same name"
cause_text causes.WildcardOnce = codes "an attribute with a wildcard for its name isn't repeated"
cause_text causes.InterleaveOverlap = codes "elements of one name stand on both sides of an interleave"
cause_text causes.TextTwice = codes "text stands on both sides of an interleave"
cause_text causes.NothingValid = codes "no document is valid by this schema"

-- what is wrong with a file
abbrev pub trouble_text : Trouble → List ℕ
trouble_text troubles.Absent = codes "there is no such file"
trouble_text (troubles.NotUtf8 at) = codes "this isn't UTF-8 from byte " ++ decimal at ++ codes " on"
trouble_text troubles.BadUri = codes "this refers to a file by a text that is no URI"
trouble_text troubles.Failed = codes "this file can't be read"
trouble_text troubles.NoMemory = codes "there is no memory for this"
trouble_text troubles.BadRules = codes "this isn't a file of rules that locate schemas"
trouble_text troubles.RulesLoop = codes "this file of rules includes itself, perhaps through others"
trouble_text troubles.NoSchema = codes "no schema is found for this document"
trouble_text (troubles.Schema cause) = cause_text cause

-- what it is about, the name of a definition or an element, or a URI, where that is known
abbrev pub about_text : List ℕ → List ℕ
about_text [] = []
about_text (byte ∷ bytes) = codes ": " ++ quoted (byte ∷ bytes)
