-- Faults in the words of those who write documents.
use Rattle.std.specs.Prelude.{ℕ, List, [], ◌∷◌, ◌++◌, map, codes}
use Rattle.nx_base.specs.declared.fault.Fault.{Fault}
use Rattle.nx_base.specs.declared.fault.Kind.{Kind}
use Rattle.nx_base.specs.declared.fault.Kind.TheVariants as kinds
use Rattle.nx_base.specs.declared.offer.Offer.{Offer}
use Rattle.nx_report.specs.Printed.{printed_text, quoted}
use Rattle.nx_report.specs.Names.{namespace_of, quoted_name}
use Rattle.nx_report.specs.Words.{first_word, words, needed_words}
use Rattle.nx_report.specs.Lists.{introduced}
use Rattle.nx_report.specs.Expected.{expected_text}

-- an element's name without its namespace, since the document shows which element it is
abbrev pub element_name : List ℕ → List ℕ
element_name name = quoted_name (namespace_of name) name

-- the elements that are needed, by a detail that begins with an element's name
abbrev pub needs : List ℕ → List ℕ
needs detail = introduced (codes ": needs ") (map (quoted_name (namespace_of (first_word detail))) (needed_words detail))

-- attributes that are missing
abbrev pub lacking : List (List ℕ) → List ℕ
lacking [] = []
lacking (name ∷ []) = codes "attribute " ++ quoted_name [] name
lacking (name ∷ other ∷ names) = introduced (codes "attributes ") (map (quoted_name []) (name ∷ other ∷ names))

-- a value that may not stand where it does: of an attribute, or a text
abbrev pub wrong_value : List ℕ → List ℕ
wrong_value [] = codes "this text may not stand here"
wrong_value (byte ∷ bytes) = codes "attribute " ++ quoted_name [] (byte ∷ bytes) ++ codes " may not have this value"

-- what a kind of faults says, by its detail and by what is expected in its place
abbrev pub sentence_of : Kind → List ℕ → List Offer → List ℕ
sentence_of kinds.BadMarkup detail expected = codes "this is no markup that XML knows; in text \"<\" is written \"&lt;\""
sentence_of kinds.BadChar detail expected = codes "XML allows no such character"
sentence_of kinds.BadReference detail expected = codes "this is no reference that is known; in text \"&\" is written \"&amp;\""
sentence_of kinds.BadText detail expected = codes "\"]]>\" may not stand in text; it is written \"]]&gt;\""
sentence_of kinds.BadComment detail expected = codes "a comment may neither hold \"--\" nor end with \"-\" in front of its end"
sentence_of kinds.BadPi detail expected =
    codes "a processing instruction begins with a name that has no \":\" and isn't \"xml\", with a space behind it"
sentence_of kinds.BadDecl detail expected = codes "the XML declaration isn't of its form, or names an encoding other than UTF-8 and US-ASCII"
sentence_of kinds.Unclosed detail expected = codes "this has no end"
sentence_of kinds.Misplaced detail expected =
    codes "an XML declaration may stand at the very start of a document only, and one document type in front of its root"
sentence_of kinds.TextOutside detail expected = codes "text may not stand outside of the root element"
sentence_of kinds.MissingEnd detail expected = codes "element " ++ quoted detail ++ codes " has no end tag: that of an element around it stands first"
sentence_of kinds.ExtraEnd detail expected = codes "no element " ++ quoted detail ++ codes " is open that this tag could end"
sentence_of kinds.UnclosedElement detail expected = codes "element " ++ quoted detail ++ codes " has no end tag"
sentence_of kinds.SecondRoot detail expected = codes "element " ++ quoted detail ++ codes " is a second root; a document has one"
sentence_of kinds.NoRoot detail expected = codes "the document has no element"
sentence_of kinds.BadName detail expected = quoted detail ++ codes " is no name: it may have one \":\", with a name on both sides"
sentence_of kinds.UndeclaredPrefix detail expected =
    codes "prefix " ++ quoted detail ++ codes " isn't declared; it needs an attribute \"xmlns:" ++ printed_text detail ++ codes "\""
sentence_of kinds.DuplicateAttribute detail expected = codes "attribute " ++ quoted detail ++ codes " stands twice in this tag"
sentence_of kinds.BadBinding detail expected = quoted detail ++ codes " may not declare this namespace"
sentence_of kinds.Unknown detail expected = codes "the schema knows no element " ++ quoted_name [] detail
sentence_of kinds.NotAllowed detail expected =
    codes "element " ++ element_name detail ++ codes " may not stand here" ++ expected_text (codes "; here may stand ") (namespace_of detail) (codes "element") expected
sentence_of kinds.NotYet detail expected = codes "element " ++ element_name (first_word detail) ++ codes " may not stand here yet" ++ needs detail
sentence_of kinds.UnknownAttribute detail expected =
    codes "attribute " ++ quoted_name [] detail ++ codes " may not stand here" ++ expected_text (codes "; here may stand ") [] (codes "attribute") expected
sentence_of kinds.BadValue detail expected = wrong_value detail ++ expected_text (codes "; it may be ") [] (codes "value") expected
sentence_of kinds.MissingAttributes detail expected = codes "this tag lacks " ++ lacking (words detail)
sentence_of kinds.TextNotAllowed detail expected = codes "text may not stand here"
sentence_of kinds.Incomplete detail expected = codes "element " ++ element_name (first_word detail) ++ codes " isn't complete" ++ needs detail

abbrev pub sentence : Fault → List Offer → List ℕ
sentence fault expected = sentence_of fault.kind fault.detail expected
