use Rattle.std.proofs.Common.{◌≡◌, ◌++◌, ap, sym, ◌∙◌, subst, IfOk}
use Rattle.rnc_parse.specs.Written as written
use Rattle.rnc_parse.specs.Views.{pattern_of, item_of, items_in, replacement_of, replacements_in}
use Rattle.rng_simplify.specs.declared.node.Sign.TheVariants as sign
use Rattle.rng_simplify.specs.KeptMentions.{kept_of_all, mentions_of_each}
use Rattle.rng_simplify.specs.References.{mentions, mentions_of_item, mentions_of_replacement}
use Rattle.rng_simplify.proofs.Joining.{choice_is, group_is, interleave_is, row_mentions, reference_then}
use Rattle.rng_simplify.proofs.Rows.{grammar_seen, div_seen, include_seen, div_anew_seen}
use Rattle.rng_simplify.proofs.mention.+mentions.Goals as goal

pub add_item-returns-in-Div : goal.add_item-returns-in-Div
add_item-returns-in-Div t c =
    let seen : written.div (items_in c.as_slice.result.now) ≡ item_of c.args.item.now =
    ap (λ xs. written.div (items_in xs)) c.as_slice.ensures.value ∙ div_seen c.in-Div.inside ∙ ap item_of (sym c.in-Div.is) in
    subst (λ w. IfOk c.add_items.result (λ _. c.add_items.new.found.items ≡ c.args.found.now.items ++ kept_of_all c.args.inherited.now
    (mentions_of_item w))) seen c.add_items.ensures

pub add_item-returns-in_ok-add_reference-in-Include : goal.add_item-returns-in_ok-add_reference-in-Include
add_item-returns-in_ok-add_reference-in-Include t c =
    let seen : written.include c.in-Include.reference (replacements_in c.as_slice-in-Include.result.now) ≡ item_of c.args.item.now =
    ap (λ xs. written.include c.in-Include.reference (replacements_in xs)) c.as_slice-in-Include.ensures.value
    ∙ include_seen c.in-Include.reference c.in-Include.replacements ∙ ap item_of (sym c.in-Include.is) in
    subst (λ w. IfOk c.add_replacements.result (λ _. c.add_replacements.new.found.items ≡ c.args.found.now.items ++ kept_of_all
    c.args.inherited.now (mentions_of_item w))) seen
    (reference_then c.args.inherited.now c.in-Include.reference (replacements_in c.as_slice-in-Include.result.now) c.args.found.now.items
    c.add_reference.new.found.items c.add_replacements.new.found.items c.add_replacements.result
    c.in_ok-add_reference-in-Include.ensures c.add_replacements.ensures)

pub add_pattern-returns-in-Grammar : goal.add_pattern-returns-in-Grammar
add_pattern-returns-in-Grammar t c =
    let seen : written.grammar (items_in c.as_slice.result.now) ≡ pattern_of c.args.pattern.now =
    ap (λ xs. written.grammar (items_in xs)) c.as_slice.ensures.value ∙ grammar_seen c.in-Grammar.items
    ∙ ap pattern_of (sym c.in-Grammar.is) in
    subst (λ p. IfOk c.add_items.result (λ _. c.add_items.new.found.items ≡ c.args.found.now.items ++ kept_of_all c.args.inherited.now
    (mentions p))) seen c.add_items.ensures

pub add_pattern-returns-in-Choice : goal.add_pattern-returns-in-Choice
add_pattern-returns-in-Choice t c =
    let seen : mentions_of_each c.as_slice-in-Choice.result.now ≡ mentions (pattern_of c.args.pattern.now) =
    ap mentions_of_each c.as_slice-in-Choice.ensures.value ∙ sym (row_mentions sign.Choice c.in-Choice.patterns.items)
    ∙ ap mentions (sym (choice_is c.in-Choice.patterns)) ∙ ap (λ p. mentions (pattern_of p)) (sym c.in-Choice.is) in
    subst (λ ms. IfOk c.add_patterns.result (λ _. c.add_patterns.new.found.items ≡ c.args.found.now.items ++ kept_of_all
    c.args.inherited.now ms)) seen c.add_patterns.ensures

pub add_pattern-returns-in-Group : goal.add_pattern-returns-in-Group
add_pattern-returns-in-Group t c =
    let seen : mentions_of_each c.as_slice-in-Group.result.now ≡ mentions (pattern_of c.args.pattern.now) =
    ap mentions_of_each c.as_slice-in-Group.ensures.value ∙ sym (row_mentions sign.Group c.in-Group.patterns.items)
    ∙ ap mentions (sym (group_is c.in-Group.patterns)) ∙ ap (λ p. mentions (pattern_of p)) (sym c.in-Group.is) in
    subst (λ ms. IfOk c.add_patterns-in-Group.result (λ _. c.add_patterns-in-Group.new.found.items ≡ c.args.found.now.items ++ kept_of_all
    c.args.inherited.now ms)) seen c.add_patterns-in-Group.ensures

pub add_pattern-returns-in-Interleave : goal.add_pattern-returns-in-Interleave
add_pattern-returns-in-Interleave t c =
    let seen : mentions_of_each c.as_slice-in-Interleave.result.now ≡ mentions (pattern_of c.args.pattern.now) =
    ap mentions_of_each c.as_slice-in-Interleave.ensures.value ∙ sym (row_mentions sign.Interleave c.in-Interleave.patterns.items)
    ∙ ap mentions (sym (interleave_is c.in-Interleave.patterns)) ∙ ap (λ p. mentions (pattern_of p)) (sym c.in-Interleave.is) in
    subst (λ ms. IfOk c.add_patterns-in-Interleave.result
    (λ _. c.add_patterns-in-Interleave.new.found.items ≡ c.args.found.now.items ++ kept_of_all c.args.inherited.now ms)) seen
    c.add_patterns-in-Interleave.ensures

pub add_replacement-returns-in-Div : goal.add_replacement-returns-in-Div
add_replacement-returns-in-Div t c =
    let seen : written.div_anew (replacements_in c.as_slice.result.now) ≡ replacement_of c.args.replacement.now =
    ap (λ xs. written.div_anew (replacements_in xs)) c.as_slice.ensures.value ∙ div_anew_seen c.in-Div.inside
    ∙ ap replacement_of (sym c.in-Div.is) in
    subst (λ w. IfOk c.add_replacements.result (λ _. c.add_replacements.new.found.items ≡ c.args.found.now.items ++ kept_of_all
    c.args.inherited.now (mentions_of_replacement w))) seen c.add_replacements.ensures
