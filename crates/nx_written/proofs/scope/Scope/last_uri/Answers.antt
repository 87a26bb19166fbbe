use Rattle.std.proofs.Common.{Some, ap, sym, ◌∙◌}
use Rattle.std.specs.Option.{option_map}
use Rattle.nx_events.specs.declared.scope.Binding.{Binding}
use Rattle.nx_events.proofs.Stacks.{last_uri_is}
use Rattle.nx_written.proofs.scope.Scope.last_uri.Goals as goal

pub returns-in-None : goal.returns-in-None
returns-in-None c = ap (option_map (λ (b : Binding). b.uri)) c.in-None.ensures ∙ sym (last_uri_is c.args.self.now c.args.prefix.now)

pub returns-in-Some : goal.returns-in-Some
returns-in-Some c =
    ap Some c.uri.ensures ∙ ap (option_map (λ (b : Binding). b.uri)) c.in-Some.ensures ∙ sym (last_uri_is c.args.self.now c.args.prefix.now)
