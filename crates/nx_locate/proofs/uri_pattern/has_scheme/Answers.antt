use Rattle.nx_locate.proofs.Making.{scheme_by}
use Rattle.nx_locate.proofs.uri_pattern.has_scheme.Goals as goal

pub returns-then-letters-gt0 : goal.returns-then-letters-gt0
returns-then-letters-gt0 c =
    scheme_by c.args.pattern.now c.letters_len-letters.result c.has_colon_at.result c.letters_len-letters.ensures c.if-letters-gt0.true
    c.has_colon_at.ensures
