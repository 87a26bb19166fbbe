use Rattle.std.proofs.Common.{◌≡◌, refl, sym, ap, subst, cond, bytes_eq, ◌∙◌, List, ℕ, ◌++◌, ◌∷◌, [], Some, is_some}
use Rattle.rnc_parse.specs.declared.declaration.Declaration.TheVariants as declaration
use Rattle.rnc_parse.specs.Scopes.{IsDeclaredTwice}
use Rattle.rnc_parse.specs.Looking.{held}
use Rattle.rnc_parse.proofs.Entries.{kept_added}
use Rattle.rnc_parse.proofs.Bound.{none_there, some_copied, library_stands, library_added}
use Rattle.rnc_parse.proofs.scope.LookUps.bind_library.Goals as goal

pub returns-then-is_some : goal.returns-then-is_some
returns-then-is_some c done h =
    let found : is_some (held c.args.self.now.libraries c.args.prefix.now) ≡ is_some c.get.result =
    sym (ap is_some (c.get.ensures.value ∙ ap (held c.args.self.now.libraries) c.as_slice.ensures)) ∙ some_copied c.get.result in
    subst (λ (p : List ℕ). IsDeclaredTwice (done ++ declaration.Datatypes c.args.prefix.now c.args.uri.now ∷ []) p) (sym c.in_ok-copy.ensures)
    (library_stands c.args.self.now done c.args.prefix.now c.args.uri.now h (found ∙ sym c.is_some.ensures ∙ c.if-is_some.true))

pub returns : goal.returns
returns c done h =
    let found : is_some (held c.args.self.now.libraries c.args.prefix.now) ≡ is_some c.get.result =
    sym (ap is_some (c.get.ensures.value ∙ ap (held c.args.self.now.libraries) c.as_slice.ensures)) ∙ some_copied c.get.result in
    let fresh = none_there (held c.args.self.now.libraries c.args.prefix.now) (found ∙ sym c.is_some.ensures ∙ c.if-is_some.false) in
    let put = λ (other : List ℕ). kept_added c.args.self.now.libraries c.insert.new.self c.in_ok-key.key c.in_ok-uri.uri c.args.prefix.now (c.in_ok-key.ensures.items ∙ c.as_slice-2.ensures) c.in_ok-insert.ensures.entries other
    ∙ ap (λ (x : _). cond (bytes_eq other c.args.prefix.now) (Some x) (held c.args.self.now.libraries other)) c.in_ok-uri.ensures in
    library_added c.args.self.now (record c.args.self.now { libraries = c.insert.new.self }) done c.args.prefix.now c.args.uri.now h fresh refl refl put refl
