use Rattle.std.proofs.Common.{◌≡◌, ◌∷◌, [], ◌++◌, All, IsUtf8, IfSome, option_map, sym, subst, ◌∙◌}
use Rattle.std.proofs.lemmas.List.Elements.{All-push}
use Rattle.serde_json.specs.View.{items_view}
use Rattle.nx_position.specs.declared.change.Change.{Change}
use Rattle.nx_wire.specs.Changes.{changes_in}
use Rattle.nx_wire.proofs.Changing.{one_more}
use Rattle.nx_wire.proofs.change.changes_in.Goals as goal

pub loop-value-preserved : goal.loop-value-preserved
loop-value-preserved c =
    let done = c.loop-value.changes.items in
    let change = c.in-Some-2.change in
    let pushed : c.push.new.self.items ≡ done ++ change ∷ [] = c.in_ok-push-in-Some-2.ensures.items in (
      subst (λ xs. option_map (λ more. xs ++ more) (changes_in (items_view c.in-Some.behind.now)) ≡ changes_in (items_view c.args.values.now)) (sym pushed)
          (one_more done change c.in-Some.value.now c.loop-value.rest.now c.in-Some.behind.now _ c.in-Some.ensures.cases.0 (sym c.in-Some-2.is ∙ c.in_ok-change.ensures.change) c.loop-value.invariant.0),
      subst (λ xs. All (λ (one : Change). IsUtf8 one.text) xs) (sym pushed) (All-push (λ (one : Change). IsUtf8 one.text) done change c.loop-value.invariant.1
          (subst (λ found. IfSome found (λ (one : Change). IsUtf8 one.text)) c.in-Some-2.is c.in_ok-change.ensures.utf8)),
    )
