-- The lines that tell what may stand at a place.
use Rattle.std.specs.Prelude.{ℕ, List, ◌++◌, length, codes}
use Rattle.std.specs.Fmt.{decimal}
use Rattle.std.specs.List.{flat_map}
use Rattle.nx_base.specs.PrintedNames.{name_text}
use Rattle.nx_base.specs.declared.offer.Offer.{Offer}
use Rattle.nx_base.specs.declared.offer.Offer.TheVariants.{Name, AnyIn, AnyElse, Value, End}
use Rattle.nx_base.specs.declared.offer.Offers.{Offers}
use Rattle.nx_base.specs.declared.offer.Offers.TheVariants as offered
use Rattle.nx_script.specs.Escapes.{printed_text}

-- `name N`, `any-in NS`, `any-else`, `value V` or `end Q`
abbrev pub offer_text : Offer → List ℕ
offer_text (Name name) = codes "name " ++ printed_text (name_text name)
offer_text (AnyIn ns) = codes "any-in " ++ printed_text ns
offer_text AnyElse = codes "any-else"
offer_text (Value literal) = codes "value " ++ printed_text literal
offer_text (End written) = codes "end " ++ printed_text written

abbrev pub offer_line : Offer → List ℕ
offer_line offer = offer_text offer ++ codes "\n"

-- how many offers there are, and a line for each; or that no schema says anything of the place
abbrev pub offers_text : Offers → List ℕ
offers_text offered.Nowhere = codes "offers: none\n"
offers_text (offered.List offers) = codes "offers: " ++ decimal (length offers) ++ codes "\n" ++ flat_map offer_line offers
