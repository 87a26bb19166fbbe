use Rattle.std.proofs.Common.{◌≡◌, List, [], ◌∷◌, ◌++◌, refl, sym, ap, subst, ◌∙◌}
use Rattle.nx_base.specs.declared.name.Name.{Name}
use Rattle.nx_base.specs.declared.offer.Offer.{Offer}
use Rattle.rng_core.specs.Patterns.{Definition, Language}
use Rattle.rng_live.specs.Listed.{AreMentioned, AreNamespaces}
use Rattle.rng_live.specs.Schemas.{schema_language}
use Rattle.nx_complete.specs.Asking.{asks, names_passed, spaces_passed, rest_passed, name_offers, apart_from, others_of, ListsNames}
use Rattle.nx_complete.proofs.Asked.{same_asked, listed_names}
use Rattle.nx_complete.proofs.names.offer_names.Goals as goal

pub returns-clause-lists : goal.returns-clause-lists
returns-clause-lists g c =
    let m = g.M.Matcher in
    let laws = g.met.M.Matcher.laws in
    let a = c.args.matcher.now in
    let b = c.push_names.new.matcher in
    let d = c.push_spaces.new.matcher in
    let here = c.args.here.now in
    let naming = c.args.naming.now in
    let one = c.in_ok-push_names.ensures.later in
    let two = laws.chain a b d one c.in_ok-push_spaces.ensures.later in
    listed_names (m.language a).definitions naming (m.means a here) c.in_ok-names.names c.in_ok-spaces.spaces c.in_ok-apart.apart
    (subst (λ (l : Language). AreMentioned l.definitions c.in_ok-names.names) c.schema.ensures c.in_ok-names.ensures)
    (subst (λ (l : Language). AreNamespaces l.definitions c.in_ok-spaces.spaces) c.schema-2.ensures c.in_ok-spaces.ensures)
    (c.in_ok-apart.ensures ∙ ap (λ (l : List Name). apart_from l c.others.result.now c.as_slice-2.result.now) c.as_slice.ensures
    ∙ ap (λ (l : List Name). apart_from c.in_ok-names.names l c.as_slice-2.result.now) c.others.ensures
    ∙ ap (λ (l : List Name). apart_from c.in_ok-names.names (others_of naming) l) c.as_slice-2.ensures)
    c.push_names.new.offers.items c.push_spaces.new.offers.items c.push_rest.new.offers.items c.from_vec.result
    (c.in_ok-push_names.ensures.offers ∙ ap (λ (l : List Offer). l ++ names_passed (asks (m.language a).definitions naming (m.means a here)) c.as_slice-3.result.now) c.new-offers.ensures.items
    ∙ ap (λ (l : List Name). [] ++ names_passed (asks (m.language a).definitions naming (m.means a here)) l) c.as_slice-3.ensures)
    (c.in_ok-push_spaces.ensures.offers ∙ ap (λ may. c.push_names.new.offers.items ++ spaces_passed may c.in_ok-apart.apart.local c.as_slice-4.result.now) (same_asked laws a b here one c.requires naming)
    ∙ ap (λ (l : List Name). c.push_names.new.offers.items ++ spaces_passed (asks (m.language a).definitions naming (m.means a here)) c.in_ok-apart.apart.local l) c.as_slice-4.ensures)
    (c.in_ok-push_rest.ensures.offers ∙ ap (λ may. c.push_spaces.new.offers.items ++ rest_passed may c.in_ok-apart.apart) (same_asked laws a d here two c.requires naming))
    c.from_vec.ensures
