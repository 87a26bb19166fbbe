use Rattle.std.proofs.Common.{ap, sym, subst, ◌∙◌, None, List, ℕ}
use Rattle.std.specs.Str.{bytes_eq}
use Rattle.nx_events.specs.Scopes.{xml_uri}
use Rattle.nx_events.specs.declared.scope.Binding.{Binding}
use Rattle.nx_written.specs.Spellings.{IsChosen}
use Rattle.nx_written.proofs.Spellings.{chosen_old, chosen_new}
use Rattle.nx_written.proofs.spelling.choose.Goals as goal

pub returns-in-Some : goal.returns-in-Some
returns-in-Some c =
    subst (λ u. IsChosen c.args.scope.now u (record { prefix = c.from_vec.result; declared = None })) c.as_slice.ensures
    (subst (λ p. IsChosen c.args.scope.now c.as_slice.result.now (record { prefix = p; declared = None })) (sym (c.from_vec.ensures ∙ c.in_ok-from_slice.ensures.items))
    (chosen_old c.args.scope.now c.in-Some.prefix.now c.as_slice.result.now c.in-Some.ensures))

pub returns : goal.returns
returns c =
    let pair : List ℕ → List ℕ → Binding = λ p u. record { prefix = p; uri = u } in
    chosen_new c.args.scope.now c.in_ok-prefix.prefix c.args.uri.now c.new-declared.result c.in_ok-prefix.ensures c.requires.namespace c.requires.some
    (ap (λ u. bytes_eq u xml_uri) (sym c.as_slice.ensures) ∙ c.in_default.ensures)
    (c.new-declared.ensures ∙ ap (λ p. pair p c.in_ok-copy-2.field-0) c.in_ok-copy.ensures ∙ ap (λ u. pair c.in_ok-prefix.prefix u) c.in_ok-copy-2.ensures)
