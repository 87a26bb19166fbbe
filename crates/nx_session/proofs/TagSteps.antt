-- Faults behind a step.
use Rattle.std.proofs.Common.{ℕ, List}
use Rattle.nx_recovery.specs.ItemFaults.{SameEventsHaveItemFaults}
use Rattle.nx_recovery.specs.Uniqueness.{RecoveryIsOne}
use Rattle.nx_scan.specs.Borders.{TokensJoin}
use Rattle.nx_script.specs.declared.command.Command.{Command}
use Rattle.nx_script.specs.declared.command.Command.TheVariants.{Finish, Rename}
use Rattle.nx_script.specs.declared.reply.Reply.{Reply}
use Rattle.nx_script.specs.declared.reply.Reply.TheVariants.{Silent}
use Rattle.nx_session.specs.TagFaults.{TagsTouchFewFaults}
use Rattle.nx_session.proofs.TagFaults.{finish_takes_one, rename_keeps_none}
use Rattle.nx_tags.specs.Renamed.{RenamingGives, RenamingKeepsEvents}

pub tags_touch_few : TokensJoin → SameEventsHaveItemFaults → RecoveryIsOne → RenamingGives → RenamingKeepsEvents → TagsTouchFewFaults
tags_touch_few join own one gives keeps old new (Finish at) Silent utf8 fit ((place, changes, answers, are, made, moved), files) =
    (finish_takes_one join own one old.editor new.editor at changes utf8 place answers.0 answers.1 made, tt)
tags_touch_few join own one gives keeps old new (Rename at name) Silent utf8 fit ((place, changes, answers, are, made, moved), files) =
    (tt, rename_keeps_none join own gives keeps old.editor new.editor at name changes utf8 fit answers made)
tags_touch_few join own one gives keeps old new given reply utf8 fit h = (tt, tt)
