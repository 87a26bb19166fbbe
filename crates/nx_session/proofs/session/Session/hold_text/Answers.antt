use Rattle.std.proofs.lemmas.Str.{IsUtf8-from_ascii}
use Rattle.nx_session.proofs.session.Session.hold_text.Goals as goal

pub open_bytes-answer-requires-clause-utf8 : goal.open_bytes-answer-requires-clause-utf8
open_bytes-answer-requires-clause-utf8 g c = IsUtf8-from_ascii c.args.uri c.requires
