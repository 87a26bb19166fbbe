use Rattle.std.proofs.Common.{refl, sym, ap, subst, ◌∙◌, List, ℕ, ◌++◌, ◌∷◌, [], Some, None}
use Rattle.rnc_parse.specs.declared.declaration.Declaration.TheVariants as declaration
use Rattle.rnc_parse.specs.Scopes.{IsDeclaredTwice}
use Rattle.rnc_parse.proofs.Bound.{none_there, default_stands, default_added}
use Rattle.rnc_parse.proofs.scope.LookUps.set_default.Goals as goal

pub returns-then-is_some : goal.returns-then-is_some
returns-then-is_some c done h =
    subst (λ (p : List ℕ). IsDeclaredTwice (done ++ declaration.Default None c.args.ns.now ∷ []) p) (sym c.new.ensures)
    (default_stands c.args.self.now done c.args.ns.now h (sym c.is_some.ensures ∙ c.if-is_some.true))

pub returns : goal.returns
returns c done h =
    default_added c.args.self.now (record c.args.self.now { unprefixed = Some c.in_ok-copy.field-0 }) done c.args.ns.now h
    (none_there c.args.self.now.unprefixed (sym c.is_some.ensures ∙ c.if-is_some.false)) refl refl refl (ap (λ (ns : _). Some ns) c.in_ok-copy.ensures)
