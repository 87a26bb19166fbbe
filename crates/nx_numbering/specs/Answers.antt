-- Laws of languages that are one but for numbers: whatever is asked of them has the same answers.
use Rattle.std.specs.Prelude.{◌↔◌, ℕ, List, Some, Result}
use Rattle.nx_base.specs.Trees.{Attribute, Children}
use Rattle.nx_base.specs.declared.fault.Fault.{Fault}
use Rattle.nx_base.specs.declared.offer.Offers.{Offers}
use Rattle.rng_core.specs.Matching.{Matches}
use Rattle.rng_core.specs.Patterns.{Language}
use Rattle.rng_live.specs.Dead.{Lives}
use Rattle.rng_restrict.specs.Checking as restrictions
use Rattle.rng_restrict.specs.declared.fault.RestrictFault.{RestrictFault}
use Rattle.nx_recover.specs.Faults.{AreFaultsOf}
use Rattle.nx_recover.specs.Offers.{OffersOf}
use Rattle.nx_numbering.specs.Numbers.{AreOneButForNumbers}

-- they match the same
abbrev pub NumbersMatchAlike : Type 0
NumbersMatchAlike = (g h : Language) (a : List Attribute) (c : Children) → AreOneButForNumbers g h →
    Matches g.definitions g.start a c → Matches h.definitions h.start a c

-- they break the same restrictions: what may be answered of the one may be answered of the other, none or the first that it breaks
abbrev pub NumbersBreakTheSame : Type 0
NumbersBreakTheSame = (g h : Language) (answer : Result Unit RestrictFault) → AreOneButForNumbers g h →
    restrictions.Answers g.start g.definitions answer → restrictions.Answers h.start h.definitions answer

-- the start of the one lives exactly where that of the other does, so both have valid documents, or none has
abbrev pub NumbersLiveAlike : Type 0
NumbersLiveAlike = (g h : Language) → AreOneButForNumbers g h → Lives g.definitions g.start ↔ Lives h.definitions h.start

-- each text has the same lists of faults against them
abbrev pub NumbersHaveSameFaults : Type 0
NumbersHaveSameFaults = (g h : Language) (text : List ℕ) (faults : List Fault) → AreOneButForNumbers g h →
    AreFaultsOf (Some g) text faults → AreFaultsOf (Some h) text faults

-- and at each place the same may stand
abbrev pub NumbersHaveSameOffers : Type 0
NumbersHaveSameOffers = (g h : Language) (text : List ℕ) (at : ℕ) (offers : Offers) → AreOneButForNumbers g h →
    OffersOf (Some g) text at offers → OffersOf (Some h) text at offers
