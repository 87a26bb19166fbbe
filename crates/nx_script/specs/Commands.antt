-- What holds of every command that is read.
use Rattle.std.specs.Str.{IsUtf8}
use Rattle.nx_script.specs.QualifiedNames.{IsQName}
use Rattle.nx_script.specs.declared.command.Command.{Command}
use Rattle.nx_script.specs.declared.command.Command.TheVariants.{Nothing, OpenFile, Save, Insert, Delete, Print, Errors, Slice, Stats}
use Rattle.nx_script.specs.declared.command.Command.TheVariants.{SchemaFile, SchemaNone, SchemaAuto, Complete, Goto, Move, Next, Previous}
use Rattle.nx_script.specs.declared.command.Command.TheVariants.{Position, View, Close, Make, Finish, Split, Pair, Rename}

-- the texts of the command are UTF-8, and where they are names, QNames
abbrev pub HasFitTexts : Command → Type 0
HasFitTexts Nothing = Unit {0}
HasFitTexts (OpenFile uri) = IsUtf8 uri
HasFitTexts (Save uri) = IsUtf8 uri
HasFitTexts (Insert at added) = IsUtf8 added
HasFitTexts (Delete from to) = Unit {0}
HasFitTexts Print = Unit {0}
HasFitTexts Errors = Unit {0}
HasFitTexts (Slice count) = Unit {0}
HasFitTexts Stats = Unit {0}
HasFitTexts (SchemaFile uri) = IsUtf8 uri
HasFitTexts SchemaNone = Unit {0}
HasFitTexts SchemaAuto = Unit {0}
HasFitTexts (Complete at) = Unit {0}
HasFitTexts (Goto at) = Unit {0}
HasFitTexts (Move way) = Unit {0}
HasFitTexts Next = Unit {0}
HasFitTexts Previous = Unit {0}
HasFitTexts Position = Unit {0}
HasFitTexts (View index) = Unit {0}
HasFitTexts (Close index) = Unit {0}
HasFitTexts (Make seed pieces) = Unit {0}
HasFitTexts (Finish at) = Unit {0}
HasFitTexts (Split at) = Unit {0}
HasFitTexts (Pair at name) = IsQName name
HasFitTexts (Rename at name) = IsQName name
