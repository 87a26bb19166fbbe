use Rattle.std.proofs.Common.{sym, ◌∙◌}
use Rattle.std.proofs.lemmas.Str.{IsUtf8-from_is_utf8}
use Rattle.nx_complete.proofs.values.takes_value.Goals as goal

pub attribute-requires-clause-text : goal.attribute-requires-clause-text
attribute-requires-clause-text g c = IsUtf8-from_is_utf8 c.args.text.now (sym c.is_text.ensures ∙ c.if-is_text.true)
