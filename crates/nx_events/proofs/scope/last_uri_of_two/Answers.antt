use Rattle.std.proofs.Common.{sym, ap, ◌∙◌}
use Rattle.std.specs.Prelude.{List, ℕ, Option}
use Rattle.nx_events.specs.Scopes.{or_else, last_uri}
use Rattle.nx_events.proofs.Scopes.{last_uri-append}
use Rattle.nx_events.proofs.scope.last_uri_of_two.Goals as goal

pub returns-in-Some : goal.returns-in-Some
returns-in-Some c =
    sym (last_uri-append c.args.outer.now c.args.own.now c.args.prefix.now
    ∙ ap (λ (o : Option (List ℕ)). or_else o (last_uri c.args.outer.now c.args.prefix.now)) (sym c.in-Some.ensures))

pub returns-in-None : goal.returns-in-None
returns-in-None c =
    c.last_uri-in-None.ensures
    ∙ sym (last_uri-append c.args.outer.now c.args.own.now c.args.prefix.now
    ∙ ap (λ (o : Option (List ℕ)). or_else o (last_uri c.args.outer.now c.args.prefix.now)) (sym c.in-None.ensures))
