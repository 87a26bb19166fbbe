-- What an editor holds between two commands, whatever came before.
use Rattle.std.specs.Prelude.{IfSome, option_map}
use Rattle.nx_base.specs.Text.{IsPlace}
use Rattle.nx_session.specs.Editor.{SessionState}
use Rattle.rng_core.specs.Meaning.{language_of}
use Rattle.rng_core.specs.Soundness.{IsSound}
use Rattle.rng_kept.specs.Live.{IsLive}

-- the caret stands at a place of the text, and the schema, if one is held, is live and sound
pub record IsWellHeld (now : SessionState) : Type 0 where
  pub place : IsPlace now.editor.text now.editor.caret
  pub live : IfSome (option_map language_of now.editor.schema) IsLive
  pub sound : IfSome now.editor.schema IsSound
