use Rattle.rng_types.proofs.Token.{replaced_answer}
use Rattle.rng_types.proofs.kind.Whitespace.token.Goals as goal

pub returns-in-Replace : goal.returns-in-Replace
returns-in-Replace c = replaced_answer c.whole_token-in-Replace.result c.args.self c.args.bytes.now c.in-Replace.is c.whole_token-in-Replace.ensures
