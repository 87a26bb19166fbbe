use Rattle.nx_tags_cases.proofs.Names.{named_q, named_x, named_long, named_prefixed}
use Rattle.nx_tags_cases.proofs.cases.name_of.Goals as goal

pub returns-in-Q : goal.returns-in-Q
returns-in-Q c = named_q c.bytes_of.result c.bytes_of.ensures.bytes c.bytes_of.ensures.utf8

pub returns-in-X : goal.returns-in-X
returns-in-X c = named_x c.bytes_of-in-X.result c.bytes_of-in-X.ensures.bytes c.bytes_of-in-X.ensures.utf8

pub returns-in-Long : goal.returns-in-Long
returns-in-Long c = named_long c.bytes_of-in-Long.result c.bytes_of-in-Long.ensures.bytes c.bytes_of-in-Long.ensures.utf8

pub returns-in-Prefixed : goal.returns-in-Prefixed
returns-in-Prefixed c = named_prefixed c.bytes_of-in-Prefixed.result c.bytes_of-in-Prefixed.ensures.bytes c.bytes_of-in-Prefixed.ensures.utf8
