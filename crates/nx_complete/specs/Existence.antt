-- Each place of a text has an answer: what is listed there of residuals.
use Rattle.std.specs.Prelude.{ℕ, List, Option, IfSome, IsUtf8}
use Rattle.nx_base.specs.Text.{IsPlace}
use Rattle.nx_base.specs.declared.offer.Offers.{Offers}
use Rattle.rng_core.specs.Patterns.{Language}
use Rattle.rng_kept.specs.Live.{IsLive}
use Rattle.nx_recover.specs.Offers.{OffersOf}

pub record HasOffers (schema : Option Language) (text : List ℕ) (at : ℕ) : Type 0 where
  pub answer : Offers
  pub is : OffersOf schema text at answer

-- against a live schema or none
abbrev pub EveryPlaceHasOffers : Type 0
EveryPlaceHasOffers = (schema : Option Language) (text : List ℕ) (at : ℕ) → IfSome schema IsLive → IsUtf8 text → IsPlace text at →
    HasOffers schema text at
