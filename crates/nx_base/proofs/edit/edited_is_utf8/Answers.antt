use Rattle.std.proofs.Common.{◌++◌, take, drop}
use Rattle.std.proofs.lemmas.Str.{IsUtf8-append, IsUtf8-take, IsUtf8-drop}
use Rattle.nx_base.proofs.edit.edited_is_utf8.Goals as goal

pub returns : goal.returns
returns c text added from to utf8 added_utf8 start end =
    IsUtf8-append (take from text ++ added) (drop to text)
    (IsUtf8-append (take from text) added (IsUtf8-take text from utf8 start) added_utf8)
    (IsUtf8-drop text to utf8 end)
