use Rattle.std.proofs.Common.{◌≡◌, ◌++◌, take, length, codes}
use Rattle.std.specs.Fmt.{decimal}
use Rattle.std.specs.List.{flat_map}
use Rattle.nx_script.specs.OfferLines.{offer_line}
use Rattle.nx_script.proofs.offer_line.listed.Given as goal

abbrev pub invariant-loop-offer : goal.invariant-loop-offer
invariant-loop-offer l = l.text.items ≡ codes "offers: " ++ decimal (length l.offers) ++ codes "\n" ++ flat_map offer_line (take l.offer-index l.offers)
