use Rattle.std.proofs.Common.{List, [], ◌∷◌, ◌++◌, sym, ap, ◌∙◌, subst}
use Rattle.deriv_nodes.specs.declared.kept_openings.OpenedNode.{OpenedNode}
use Rattle.deriv_nodes.specs.Kept.{AreKept}
use Rattle.deriv_nodes.proofs.Kept.{kept_more}
use Rattle.deriv_nodes.proofs.kept_openings.KeptOpenings.keep.Goals as goal

pub returns : goal.returns
returns c = λ nodes are is.
    let first : OpenedNode = record { node = c.args.p; opened = c.args.opened } in
    let P : List OpenedNode → Type 0 = λ fs. AreKept nodes fs in
    subst P (sym (c.in_ok-push.ensures.items ∙ ap (λ entries. entries.items ++ first ∷ []) c.put_place.ensures))
    (kept_more nodes c.args.self.now.entries.items first are is)
