use Rattle.std.specs.Prelude.{filter}
use Rattle.std.proofs.Common.{List, map, sym, ap, ◌∙◌, subst, IfOk}
use Rattle.rng_core.specs.Meaning.{definition_of}
use Rattle.rng_core.specs.Patterns.{Pattern}
use Rattle.rng_kept.specs.Openings.{Opening, opens}
use Rattle.deriv_nodes.specs.declared.openings.Open.{Open}
use Rattle.deriv_nodes.specs.Numbers.{at}
use Rattle.deriv_nodes.specs.Opened.{AreOpened}
use Rattle.deriv_nodes.specs.declared.openings.Wanted.TheVariants as wanted
use Rattle.deriv_nodes.specs.Wanted.{is_named, opens_by, reference_opens}
use Rattle.deriv_nodes.proofs.IfOk.{if_ok}
use Rattle.deriv_nodes.proofs.Named.{all_named, named_by}
use Rattle.deriv_nodes.proofs.Opening.{told_as}
use Rattle.deriv_nodes.proofs.nodes.Nodes.opens.Goals as goal

pub returns-in-Some-clause-made : goal.returns-in-Some-clause-made
returns-in-Some-clause-made c =
    let nodes = c.args.self.now in
    if_ok c.named.result c.named.ensures (λ made is.
    all_named (map definition_of c.args.defs.now) c.args.name.now nodes (at nodes c.args.p) c.in-Some.opened.now made.items
    c.in-Some.ensures.opened is)

pub returns-then-not-are_to_be_kept-clause-made : goal.returns-then-not-are_to_be_kept-clause-made
returns-then-not-are_to_be_kept-clause-made c =
    let g = map definition_of c.args.defs.now in
    let n = c.args.name.now in
    let new = c.opened.new.self in
    let P : List Pattern → Type 0 = λ ps. IfOk c.opened.result (λ made. AreOpened new (opens g n (at ps c.args.p)) made.items) in
    subst P c.are_to_be_kept.ensures (if_ok c.opened.result c.opened.ensures.made (λ made is.
    let Q : List Opening → Type 0 = λ q. AreOpened new q made.items in
    subst Q (named_by g n (at c.are_to_be_kept.new.self c.args.p)) is))

pub returns-clause-made : goal.returns-clause-made
returns-clause-made c =
    let g = map definition_of c.args.defs.now in
    let p = at c.args.self.now c.args.p in
    let found = c.in_ok-found.found.items in
    let P : List Pattern → Type 0 = λ ps. AreOpened ps (opens g c.args.name.now p) found in
    let all = c.in_ok-opened.opened.items in
    let Q : List Pattern → Type 0 = λ ps. AreOpened c.opened-2.new.self (opens_by (reference_opens wanted.Any) (at ps c.args.p)) all in
    let of : List Open → List Open = λ os. filter (λ o. is_named g c.args.name.now o.number) os in
    subst P (sym c.self.view_is)
    (all_named g c.args.name.now c.opened-2.new.self p all found (subst Q c.are_to_be_kept.ensures c.in_ok-opened.ensures.made)
    (c.in_ok-found.ensures ∙ ap of c.as_slice.ensures.value))
