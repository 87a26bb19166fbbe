use Rattle.std.proofs.lemmas.Str.{IsUtf8-from_ascii}
use Rattle.nx_session.proofs.document_uri.DocumentUri.as_str.Goals as goal

pub text_of-requires : goal.text_of-requires
text_of-requires c = IsUtf8-from_ascii c.self.inside.printed c.self.invariant
