-- The names of the causes for which a schema can't be used.
use Rattle.std.specs.Prelude.{ℕ, List, codes}
use Rattle.nx_base.specs.declared.cause.Cause.{Cause}
use Rattle.nx_base.specs.declared.cause.Cause.TheVariants as causes

-- the name that a cause prints as
abbrev pub cause_name : Cause → List ℕ
cause_name causes.BadEscape = codes "BadEscape"
cause_name causes.BadLiteral = codes "BadLiteral"
cause_name causes.BadCharacter = codes "BadCharacter"
cause_name causes.Syntax = codes "Syntax"
cause_name causes.TooDeep = codes "TooDeep"
cause_name causes.UndeclaredPrefix = codes "UndeclaredPrefix"
cause_name causes.Twice = codes "Twice"
cause_name causes.BadMarkup = codes "BadMarkup"
cause_name causes.BadForm = codes "BadForm"
cause_name causes.NotGrammar = codes "NotGrammar"
cause_name causes.IncludeLoop = codes "IncludeLoop"
cause_name causes.NoDefinition = codes "NoDefinition"
cause_name causes.NoStart = codes "NoStart"
cause_name causes.CombineClash = codes "CombineClash"
cause_name causes.RefLoop = codes "RefLoop"
cause_name causes.BadExcept = codes "BadExcept"
cause_name causes.XmlnsName = codes "XmlnsName"
cause_name causes.TooLarge = codes "TooLarge"
cause_name causes.UnknownType = codes "UnknownType"
cause_name causes.UnknownParam = codes "UnknownParam"
cause_name causes.BadParam = codes "BadParam"
cause_name causes.BadValue = codes "BadValue"
cause_name causes.TooManyExcepts = codes "TooManyExcepts"
cause_name causes.UnsupportedExcept = codes "UnsupportedExcept"
cause_name causes.Path = codes "Path"
cause_name causes.Mixture = codes "Mixture"
cause_name causes.AttributeOverlap = codes "AttributeOverlap"
cause_name causes.WildcardOnce = codes "WildcardOnce"
cause_name causes.InterleaveOverlap = codes "InterleaveOverlap"
cause_name causes.TextTwice = codes "TextTwice"
cause_name causes.NothingValid = codes "NothingValid"
