-- What a member of a type is, beside excepts.
use Rattle.std.specs.Prelude.{ℕ, Bool, not, ◌&&◌, List, IsTrue}
use Rattle.std.specs.List.{list_all, AllByRecursion}
use Rattle.nx_base.specs.Characters.{is_space, is_of_chars}
use Rattle.rng_types.specs.Spaces.{is_some_text}
use Rattle.rng_types.specs.Types.{Accepts, TakesAway}
use Rattle.rng_types.specs.declared.datatype.Datatype.{Datatype}
use Rattle.rng_types.specs.declared.datatype.Except.{Except}

-- at least one character, and no white space
abbrev pub is_one_token : List ℕ → Bool
is_one_token text = is_some_text text && list_all (λ c. not (is_space c)) text

-- a text of the type that no except takes away, and that is one token where one is asked for
pub record IsMember (type : Datatype) (excepts : List Except) (one_token : Bool) (text : List ℕ) : Type 0 where
  pub accepted : Accepts type text
  pub left : AllByRecursion (λ except. TakesAway type text except → ⊥) excepts
  pub token : IsTrue one_token → IsTrue (is_one_token text)

-- some text of characters that XML allows is a member
pub record HasMember (type : Datatype) (excepts : List Except) (one_token : Bool) : Type 0 where
  pub text : List ℕ
  pub characters : IsTrue (is_of_chars text)
  pub member : IsMember type excepts one_token text
