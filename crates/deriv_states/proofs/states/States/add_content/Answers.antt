use Rattle.std.proofs.Common.{◌++◌, ◌∷◌, [], ℕ, List, sym, ap, ◌∙◌, subst}
use Rattle.rng_core.specs.Patterns.{Pattern}
use Rattle.deriv_nodes.specs.Numbers.{at}
use Rattle.deriv_states.specs.Parts.{AreTables, contents_in}
use Rattle.deriv_states.specs.Places.{Places}
use Rattle.deriv_states.proofs.Places.{content_kept, contents_more, contents_stay, nodes_kept}
use Rattle.deriv_states.proofs.states.States.add_content.Goals as goal

pub invariant_of-self : goal.invariant_of-self
invariant_of-self c =
    let inside = c.self.inside in
    nodes_kept inside.nodes c.imported.new.self inside.arounds.keys inside.rows.keys inside.contents.items c.self.invariant c.imported.ensures.later

pub invariant_of-self-in_err-push : goal.invariant_of-self-in_err-push
invariant_of-self-in_err-push c =
    let inside = c.self.inside in
    let P : List ℕ → Type 0 = λ cs. AreTables c.imported.new.self inside.arounds.keys inside.rows.keys cs in
    subst P (sym c.in_err-push.ensures.items)
    (nodes_kept inside.nodes c.imported.new.self inside.arounds.keys inside.rows.keys inside.contents.items c.self.invariant c.imported.ensures.later)

pub invariant_of-self-2 : goal.invariant_of-self-2
invariant_of-self-2 c =
    let inside = c.self.inside in
    let P : List ℕ → Type 0 = λ cs. AreTables c.imported.new.self inside.arounds.keys inside.rows.keys cs in
    subst P (sym c.in_ok-push.ensures.items)
    (content_kept c.imported.new.self inside.arounds.keys inside.rows.keys inside.contents.items c.in_ok-number.number
    (nodes_kept inside.nodes c.imported.new.self inside.arounds.keys inside.rows.keys inside.contents.items c.self.invariant c.imported.ensures.later)
    c.in_ok-number.ensures.made.node)

pub returns : goal.returns
returns c =
    let inside = c.self.inside in
    let new = c.imported.new.self in
    let cs = inside.contents.items in
    ap (λ (is : List ℕ). contents_in new is) c.in_ok-push.ensures.items
    ∙ (contents_more new cs c.in_ok-number.number
    ∙ (ap (λ (ps : List Pattern). ps ++ at new c.in_ok-number.number ∷ [])
    (contents_stay inside.nodes new cs c.self.invariant.contents_below c.imported.ensures.later ∙ ap (λ (p : Places). p.contents) c.self.view_is)
    ∙ ap (λ (p : Pattern). c.args.self.now.contents ++ p ∷ []) c.in_ok-number.ensures.made.meaning))
