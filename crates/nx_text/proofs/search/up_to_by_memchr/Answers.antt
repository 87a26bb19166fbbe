use Rattle.nx_text.proofs.NextByte.{up_to_found, up_to_none}
use Rattle.nx_text.proofs.search.up_to_by_memchr.Goals as goal

pub returns-in-Some-clause-first : goal.returns-in-Some-clause-first
returns-in-Some-clause-first c = up_to_found c.args.byte c.args.bytes.now c.in-Some.before c.in-Some.ensures

pub returns-in-None-clause-first : goal.returns-in-None-clause-first
returns-in-None-clause-first c = up_to_none c.args.byte c.args.bytes.now c.in-None.ensures
