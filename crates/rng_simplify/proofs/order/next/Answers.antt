use Rattle.std.proofs.Common.{◌≡◌, ◌-◌, ◌<◌, ◌≤◌, sym, ap, ◌∙◌, length, arith}
use Rattle.std.proofs.lemmas.List.{get_or_read, length-map}
use Rattle.rng_simplify.specs.Cells.{cell_of}
use Rattle.rng_simplify.specs.declared.resolve.Target.TheVariants.{Nothing}
use Rattle.rng_simplify.specs.ResolvedNodes.{combined_number}
use Rattle.rng_simplify.proofs.WalkTurns.{leads_linked, leads_parts, leads_bodies, link_fits, link_leads, combination_there}
use Rattle.rng_simplify.proofs.order.next.Goals as goal

pub combined-linked-requires : goal.combined-linked-requires
combined-linked-requires c =
    let nodes = c.args.whole.now.nodes.items in
    let within : c.args.place < length nodes = omega (arith, c.place.view_is, c.if-place-len.true, c.len.ensures, c.args.whole.now.nodes.ok.0) in
    link_leads nodes c.args.whole.now.root c.args.found.now c.args.place c.index-here.result.now c.index.result.now c.requires.resolved c.requires.met within (rw c.place.view_is at c.index-here.ensures) (sym c.is_linked.ensures ∙ c.if-is_linked.true) (rw c.place.view_is at c.index.ensures)

pub overflow_add-len : goal.overflow_add-len
overflow_add-len c =
    let nodes = c.args.whole.now.nodes.items in
    let links = c.args.found.now.links.items in
    let within : c.args.place < length nodes = omega (arith, c.place.view_is, c.if-place-len.true, c.len.ensures, c.args.whole.now.nodes.ok.0) in
    let known : c.args.place < length links = omega (arith, within, c.requires.resolved.all_links, length-map nodes cell_of) in
    let link = c.combined-linked.ensures ∙ ap combined_number (get_or_read links c.args.place c.index.result.now known (rw c.place.view_is at c.index.ensures) Nothing) in
    let fits = link_fits nodes c.args.whole.now.root c.args.found.now c.args.place c.index-here.result.now c.requires.formed c.requires.resolved c.requires.met within (rw c.place.view_is at c.index-here.ensures) (sym c.is_linked.ensures ∙ c.if-is_linked.true) in
    omega (arith, c.linked.view_is, link, fits, c.requires.room, c.len-then-is_linked.ensures, c.args.whole.now.nodes.ok.0)

pub index-requires-else-place-len : goal.index-requires-else-place-len
index-requires-else-place-len c =
    let nodes = c.args.whole.now.nodes.items in
    let past : length nodes ≤ c.args.place = omega (arith, c.place.view_is, c.if-place-len.false, c.len.ensures, c.args.whole.now.nodes.ok.0) in
    let there = combination_there nodes c.args.whole.now.root c.args.found.now c.args.place c.requires.formed c.requires.met past in
    omega (arith, there, c.len-else-place-len.ensures, c.args.whole.now.nodes.ok.0, c.args.found.now.combined.ok.0)

pub returns-then-is_linked-clause-next_is : goal.returns-then-is_linked-clause-next_is
returns-then-is_linked-clause-next_is c =
    let nodes = c.args.whole.now.nodes.items in
    let links = c.args.found.now.links.items in
    let within : c.args.place < length nodes = omega (arith, c.place.view_is, c.if-place-len.true, c.len.ensures, c.args.whole.now.nodes.ok.0) in
    let known : c.args.place < length links = omega (arith, within, c.requires.resolved.all_links, length-map nodes cell_of) in
    c.only.ensures ∙ leads_linked nodes c.args.found.now c.args.place c.combined-linked.result c.args.k c.index-here.result.now within (rw c.place.view_is at c.index-here.ensures) (sym c.is_linked.ensures ∙ c.if-is_linked.true) (c.combined-linked.ensures ∙ ap combined_number (get_or_read links c.args.place c.index.result.now known (rw c.place.view_is at c.index.ensures) Nothing)) _ (omega (arith, c.linked.view_is, c.len-then-is_linked.ensures, c.args.whole.now.nodes.ok.0))

pub returns-else-is_linked-clause-next_is : goal.returns-else-is_linked-clause-next_is
returns-else-is_linked-clause-next_is c =
    let nodes = c.args.whole.now.nodes.items in
    let within : c.args.place < length nodes = omega (arith, c.place.view_is, c.if-place-len.true, c.len.ensures, c.args.whole.now.nodes.ok.0) in
    c.part.ensures ∙ leads_parts nodes c.args.found.now c.args.place c.args.k c.index-here.result.now within (rw c.place.view_is at c.index-here.ensures) (sym c.is_linked.ensures ∙ c.if-is_linked.false)

pub returns-else-place-len-clause-next_is : goal.returns-else-place-len-clause-next_is
returns-else-place-len-clause-next_is c =
    let nodes = c.args.whole.now.nodes.items in
    let past : length nodes ≤ c.args.place = omega (arith, c.place.view_is, c.if-place-len.false, c.len.ensures, c.args.whole.now.nodes.ok.0) in
    let there = combination_there nodes c.args.whole.now.root c.args.found.now c.args.place c.requires.formed c.requires.met past in
    let number : c.args.place - c.len-else-place-len.result ≡ c.args.place - length nodes = omega (arith, c.len-else-place-len.ensures, c.args.whole.now.nodes.ok.0) in
    c.body.ensures.body_is ∙ leads_bodies nodes c.args.found.now c.args.place (c.args.place - c.len-else-place-len.result) c.args.k c.index-else-place-len.result.now past number (omega (arith, number, there)) (rw c.place.view_is at c.index-else-place-len.ensures)
