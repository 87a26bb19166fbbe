use Rattle.std.proofs.Common.{sym}
use Rattle.std.proofs.lemmas.Str.{IsUtf8-from_is_utf8}
use Rattle.rng_types.proofs.TriedMore.{no_member_in}
use Rattle.rng_types.proofs.datatype.Datatype.is_member_in_bytes.Goals as goal

pub returns-in-Err : goal.returns-in-Err
returns-in-Err c = sym (no_member_in c.args.self.now c.args.excepts.now c.args.one_token c.args.bytes.now (λ valid. c.in-Err.ensures.cases.0 (IsUtf8-from_is_utf8 _ valid)))
