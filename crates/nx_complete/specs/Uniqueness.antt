-- A place of a text has one answer at most.
use Rattle.std.specs.Prelude.{◌≡◌, ℕ, List, Option, IsUtf8}
use Rattle.nx_base.specs.Text.{IsPlace}
use Rattle.nx_base.specs.declared.offer.Offers.{Offers}
use Rattle.rng_core.specs.Patterns.{Language}
use Rattle.nx_recover.specs.Offers.{OffersOf}

-- against any schema or none, live or not
abbrev pub OffersAreOne : Type 0
OffersAreOne = (schema : Option Language) (text : List ℕ) (at : ℕ) → IsUtf8 text → IsPlace text at → (one other : Offers) →
    OffersOf schema text at one → OffersOf schema text at other → one ≡ other
