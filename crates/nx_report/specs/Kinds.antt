-- The names of the kinds of faults, as a line has them in brackets.
use Rattle.std.specs.Prelude.{ℕ, List, codes}
use Rattle.nx_base.specs.declared.fault.Kind.{Kind}
use Rattle.nx_base.specs.declared.fault.Kind.TheVariants as kinds

abbrev pub kind_name : Kind → List ℕ
kind_name kinds.BadMarkup = codes "BadMarkup"
kind_name kinds.BadChar = codes "BadChar"
kind_name kinds.BadReference = codes "BadReference"
kind_name kinds.BadText = codes "BadText"
kind_name kinds.BadComment = codes "BadComment"
kind_name kinds.BadPi = codes "BadPi"
kind_name kinds.BadDecl = codes "BadDecl"
kind_name kinds.Unclosed = codes "Unclosed"
kind_name kinds.Misplaced = codes "Misplaced"
kind_name kinds.TextOutside = codes "TextOutside"
kind_name kinds.MissingEnd = codes "MissingEnd"
kind_name kinds.ExtraEnd = codes "ExtraEnd"
kind_name kinds.UnclosedElement = codes "UnclosedElement"
kind_name kinds.SecondRoot = codes "SecondRoot"
kind_name kinds.NoRoot = codes "NoRoot"
kind_name kinds.BadName = codes "BadName"
kind_name kinds.UndeclaredPrefix = codes "UndeclaredPrefix"
kind_name kinds.DuplicateAttribute = codes "DuplicateAttribute"
kind_name kinds.BadBinding = codes "BadBinding"
kind_name kinds.Unknown = codes "Unknown"
kind_name kinds.NotAllowed = codes "NotAllowed"
kind_name kinds.NotYet = codes "NotYet"
kind_name kinds.UnknownAttribute = codes "UnknownAttribute"
kind_name kinds.BadValue = codes "BadValue"
kind_name kinds.MissingAttributes = codes "MissingAttributes"
kind_name kinds.TextNotAllowed = codes "TextNotAllowed"
kind_name kinds.Incomplete = codes "Incomplete"
