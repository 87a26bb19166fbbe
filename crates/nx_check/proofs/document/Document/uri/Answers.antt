use Rattle.std.proofs.lemmas.Str.{IsUtf8-from_ascii}
use Rattle.nx_check.proofs.document.Document.uri.Goals as goal

pub text_of-requires : goal.text_of-requires
text_of-requires c = IsUtf8-from_ascii c.args.self.now.uri c.requires
