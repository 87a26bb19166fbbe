-- The tests of a string by types and values decide what the types say.
use Rattle.std.proofs.Common.{ℕ, List, Decides}
use Rattle.std.specs.List.{AllByRecursion}
use Rattle.std.proofs.lemmas.Bool.Decides.{Decides-and}
use Rattle.rng_types.specs.Types.{Accepts, SameValue, TakesAway}
use Rattle.rng_types.specs.declared.datatype.Datatype.{Datatype}
use Rattle.rng_types.specs.declared.datatype.Except.{Except}
use Rattle.rng_types.proofs.Deciding.{accepts_decided, same_value_decided, left_decided}
use Rattle.rng_kept.specs.Strings.{is_data, is_value}

pub is_data-Decides : (type : Datatype) (excepts : List Except) (text : List ℕ) →
    Decides (is_data type excepts text) (Accepts type text × AllByRecursion (λ except. TakesAway type text except → ⊥) excepts)
is_data-Decides type excepts text = Decides-and _ _ (accepts_decided type text) (left_decided type text excepts)

pub is_value-Decides : (type : Datatype) (wanted text : List ℕ) → Decides (is_value type wanted text) (Accepts type text × SameValue type text wanted)
is_value-Decides type wanted text = Decides-and _ _ (accepts_decided type text) (same_value_decided type text wanted)
