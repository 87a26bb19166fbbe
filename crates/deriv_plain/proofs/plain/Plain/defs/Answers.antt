use Rattle.std.proofs.Common.{◌≡◌, ◌<◌, ◌^◌, List, length, map, sym, ap, subst, ◌∙◌}
use Rattle.std.proofs.lemmas.List.{length-map}
use Rattle.std.proofs.Math.Logic.{∥∥₁_elim}
use Rattle.std.specs.Coded.{le_prop}
use Rattle.rng_core.specs.declared.grammar.Def.{Def}
use Rattle.rng_core.specs.declared.grammar.Grammar.{Grammar}
use Rattle.rng_core.specs.Meaning.{definition_of}
use Rattle.deriv_pattern.specs.Leaves.{ContentsAreInOrder}
use Rattle.deriv_pattern.proofs.Props.{contents_alike, sound_contents}
use Rattle.deriv_plain.proofs.plain.Plain.defs.Goals as goal

pub returns-clause-order : goal.returns-clause-order
returns-clause-order c =
    let is : c.as_slice.result.now ≡ c.args.self.now.schema.grammar.defs = c.as_slice.ensures ∙ ap (λ (g : Grammar). g.defs) c.grammar.ensures in
    subst (λ (ds : List Def). ContentsAreInOrder (map definition_of ds)) (sym is)
    (∥∥₁_elim c.args.self.now.sound (contents_alike _) (λ s. sound_contents c.sound_are_in_order.ensures _ _ s.definitions_are))

pub returns-clause-few : goal.returns-clause-few
returns-clause-few c =
    let is : c.as_slice.result.now ≡ c.args.self.now.schema.grammar.defs = c.as_slice.ensures ∙ ap (λ (g : Grammar). g.defs) c.grammar.ensures in
    subst (λ (ds : List Def). length ds < 2 ^ 32) (sym is)
    (subst (λ n. n < 2 ^ 32) (length-map c.args.self.now.schema.grammar.defs definition_of) (∥∥₁_elim c.args.self.now.sound le_prop (λ s. s.few)))
