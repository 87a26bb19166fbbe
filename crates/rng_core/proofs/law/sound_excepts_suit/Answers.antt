use Rattle.std.specs.Prelude.{[], ◌∷◌, IsTrue}
use Rattle.std.proofs.Common.{refl}
use Rattle.std.proofs.lemmas.Bool.{and_from}
use Rattle.rng_types.specs.WellMade.{is_sound_except}
use Rattle.rng_types.specs.declared.datatype.Datatype.{Datatype}
use Rattle.rng_types.specs.declared.datatype.Except.{Except}
use Rattle.rng_types.specs.declared.datatype.Except.TheVariants.{Own, BuiltinString, BuiltinToken}
use Rattle.rng_types.proofs.Deciding.{accepts_decided}
use Rattle.rng_core.specs.Soundness.{IsSoundExcept, SoundExceptsSuit}
use Rattle.rng_core.proofs.law.sound_excepts_suit.Goals as goal

suits : (type : Datatype) (except : Except) → IsSoundExcept type except → IsTrue (is_sound_except type except)
suits type (Own literal) sound = and_from _ _ sound.0 ((accepts_decided type literal).1 sound.1)
suits type (BuiltinString literal) sound = refl
suits type (BuiltinToken literal) sound = refl

all_suit : SoundExceptsSuit
all_suit type [] sound = refl
all_suit type (except ∷ excepts) sound = and_from _ _ (suits type except sound.0) (all_suit type excepts sound.1)

pub returns : goal.returns
returns c = all_suit
