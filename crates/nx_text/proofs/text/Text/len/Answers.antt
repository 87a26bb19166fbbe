use Rattle.std.proofs.Common.{subst}
use Rattle.std.specs.Str.{IsUtf8}
use Rattle.nx_text.proofs.Sides.{kept_utf8}
use Rattle.nx_text.proofs.text.Text.len.Goals as goal

pub returns-clause-utf8 : goal.returns-clause-utf8
returns-clause-utf8 c = subst IsUtf8 c.self.view_is (kept_utf8 c.self.inside.bytes c.self.inside.feeds c.self.invariant)
