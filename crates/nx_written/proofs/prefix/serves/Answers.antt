use Rattle.std.proofs.Common.{ap, sym, ◌∙◌}
use Rattle.std.specs.Str.{bytes_eq}
use Rattle.nx_written.proofs.Prefixes.{serves_is}
use Rattle.nx_written.proofs.prefix.serves.Goals as goal

pub returns-then-is_local : goal.returns-then-is_local
returns-then-is_local c = λ h.
    serves_is c.args.scope.now c.prefix-prefix.result.now c.args.declaration.now.prefix c.args.uri.now c.prefix-prefix.ensures
    (sym c.is_local.ensures ∙ c.if-is_local.true)
    (ap (bytes_eq c.prefix-prefix.result.now) (sym c.as_slice.ensures) ∙ sym c.eq.ensures ∙ c.if-eq.false)
    (ap (bytes_eq c.prefix-prefix.result.now) (sym c.as_slice-else-eq.ensures) ∙ sym c.eq-else-eq.ensures ∙ c.if-eq-2.false)
    (c.is_last.ensures h)
