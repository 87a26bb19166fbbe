use Rattle.nx_events.proofs.PlainTokens.{unprefixed_is}
use Rattle.nx_events.proofs.element.put_unprefixed_name.Goals as goal

pub returns : goal.returns
returns c = unprefixed_is c.args.scope.now c.default_uri.result.now c.args.written.now _ _ c.default_uri.ensures c.in_ok-put_namespace.ensures c.in_ok-refill.ensures
