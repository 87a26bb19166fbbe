use Rattle.std.proofs.lemmas.Str.{IsCharBoundary-start}
use Rattle.nx_session.proofs.session.Session.whole_text.Goals as goal

pub copy_range-requires-clause-from : goal.copy_range-requires-clause-from
copy_range-requires-clause-from c = IsCharBoundary-start c.self.inside.text c.len.ensures.utf8
