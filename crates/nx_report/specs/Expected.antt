-- What is expected at a place, from the offers that completion gives there.
use Rattle.std.specs.Prelude.{ℕ, List, [], ◌∷◌, ◌++◌, map, codes}
use Rattle.nx_base.specs.PrintedNames.{name_text}
use Rattle.nx_base.specs.declared.offer.Offer.{Offer}
use Rattle.nx_base.specs.declared.offer.Offer.TheVariants.{Name, AnyIn, AnyElse, Value, End}
use Rattle.nx_report.specs.Printed.{printed_text, quoted}
use Rattle.nx_report.specs.Names.{quoted_name}
use Rattle.nx_report.specs.Lists.{introduced}

abbrev pub of_namespace : List ℕ → List ℕ
of_namespace [] = codes " of no namespace"
of_namespace (byte ∷ bytes) = codes " of namespace " ++ quoted (byte ∷ bytes)

-- a thing, which is an element or an attribute; the names of one namespace, in its braces or none, are told without it
abbrev pub offer_text : List ℕ → List ℕ → Offer → List ℕ
offer_text own thing (Name name) = quoted_name own (name_text name)
offer_text own thing (AnyIn ns) = codes "any " ++ thing ++ of_namespace ns
offer_text own thing AnyElse = codes "any other " ++ thing
offer_text own thing (Value literal) = quoted literal
offer_text own thing (End written) = codes "\"</" ++ printed_text written ++ codes ">\""

abbrev pub expected_text : List ℕ → List ℕ → List ℕ → List Offer → List ℕ
expected_text words own thing offers = introduced words (map (offer_text own thing) offers)
