use Rattle.std.proofs.Common.{[], ◌∷◌, ◌++◌, sym, ◌∙◌, ap}
use Rattle.std.proofs.lemmas.Result.{err_from_is_err_and}
use Rattle.rnc_parse.specs.Looking.{scope_in}
use Rattle.rnc_parse.specs.Views.{pattern_of, items_in, replacements_in}
use Rattle.rnc_parse.specs.Reading.{read, stands}
use Rattle.rnc_parse.specs.ReadingParts.{goes_on}
use Rattle.rnc_parse.specs.ReadingPatterns.{add_item, add_replacement, inside_at, particle_at, item_at, items_within, replacement_at, replacements_within}
use Rattle.rnc_parse.proofs.Finding.{loop_fails, loop_next, loop_over}
use Rattle.rnc_parse.proofs.PatternLoops.{begun, went_on, fails, over}
use Rattle.rnc_parse.proofs.Shortening.{particle_shortens, item_shortens, replacement_shortens}
use Rattle.rnc_parse.proofs.reader.Reader.+pattern.Goals as goal

pub particles-particles-init : goal.particles-particles-init
particles-particles-init t c = begun _ _ _ c.push.new.self.items c.args.first c.args.cursor.now (c.in_ok-push.ensures.items ∙ ap (λ l. l ++ c.args.first ∷ []) c.new-particles.ensures.items)

pub particles-returns-in_err-next : goal.particles-returns-in_err-next
particles-returns-in_err-next t c =
    let p = err_from_is_err_and c.from_residual-in_err-next.result c.from_residual-in_err-next.ensures.1 in
    rw (p.1, p.2)
    (fails (scope_in c.args.self.now.look_ups) c.args.left c.args.sign c.particles.particles.items c.particles.cursor _ c.in_err-next.field-0.0 (ap (λ s. stands s c.particles.cursor) (sym c.sign_symbol.ensures) ∙ sym c.stands.ensures ∙ c.particles-test.true) c.particles.invariant (rw c.advance.ensures at c.in_err-next.ensures))

pub particles-particles-smaller : goal.particles-particles-smaller
particles-particles-smaller t c = (particle_shortens (scope_in c.args.self.now.look_ups) c.args.left c.args.sign).shorter c.particles.cursor (ap (λ s. stands s c.particles.cursor) (sym c.sign_symbol.ensures) ∙ sym c.stands.ensures ∙ c.particles-test.true) (pattern_of c.in_ok-next.next) c.particle.new.cursor (ap (particle_at _ _ _) (sym c.advance.ensures) ∙ c.in_ok-next.ensures)

pub particles-particles-preserved : goal.particles-particles-preserved
particles-particles-preserved t c = went_on _ _ _ c.particles.particles.items c.push-in-particles.new.self.items c.in_ok-next.next c.particles.cursor c.particle.new.cursor _ (ap (λ s. stands s c.particles.cursor) (sym c.sign_symbol.ensures) ∙ sym c.stands.ensures ∙ c.particles-test.true) (ap (particle_at _ _ _) (sym c.advance.ensures) ∙ c.in_ok-next.ensures) c.in_ok-push-2.ensures.items c.particles.invariant

pub particles-returns : goal.particles-returns
particles-returns t c =
    over _ _ _ c.particles.particles.items c.particles.cursor _ (ap (λ s. stands s c.particles.cursor) (sym c.sign_symbol.ensures) ∙ sym c.stands.ensures ∙ c.particles-test.false) c.particles.invariant
    ∙ ap (λ p. read p c.particles.cursor) (sym c.joined.ensures)

pub items-returns-in_err-item : goal.items-returns-in_err-item
unfolding items_within
items-returns-in_err-item t c =
    let p = err_from_is_err_and c.from_residual.result c.from_residual.ensures.1 in
    rw (p.1, p.2)
    (loop_fails goes_on (item_at (scope_in c.args.self.now.look_ups) c.args.left (inside_at (scope_in c.args.self.now.look_ups) c.args.left)) add_item (items_in c.items.items.items) c.items.cursor _ c.in_err-item.field-0.0 (item_shortens (scope_in c.args.self.now.look_ups) c.args.left) (sym c.goes_on.ensures ∙ c.items-test.true) c.items.invariant c.in_err-item.ensures)

pub items-items-smaller : goal.items-items-smaller
items-items-smaller t c = (item_shortens (scope_in c.args.self.now.look_ups) c.args.left).shorter c.items.cursor (sym c.goes_on.ensures ∙ c.items-test.true) _ c.item.new.cursor c.in_ok-item.ensures

pub items-items-preserved : goal.items-items-preserved
items-items-preserved t c =
    loop_next goes_on (item_at (scope_in c.args.self.now.look_ups) c.args.left (inside_at (scope_in c.args.self.now.look_ups) c.args.left)) add_item (items_in c.items.items.items) (items_in c.add_item.new.items.items) _ c.items.cursor c.item.new.cursor _ (item_shortens (scope_in c.args.self.now.look_ups) c.args.left) (sym c.goes_on.ensures ∙ c.items-test.true) c.in_ok-item.ensures (sym c.in_ok-add_item.ensures) c.items.invariant

pub items-returns : goal.items-returns
unfolding items_within
items-returns t c = loop_over goes_on (item_at (scope_in c.args.self.now.look_ups) c.args.left (inside_at (scope_in c.args.self.now.look_ups) c.args.left)) add_item (items_in c.items.items.items) c.items.cursor _ (sym c.goes_on.ensures ∙ c.items-test.false) c.items.invariant

pub replacements-returns-in_err-one : goal.replacements-returns-in_err-one
unfolding replacements_within
replacements-returns-in_err-one t c =
    let p = err_from_is_err_and c.from_residual.result c.from_residual.ensures.1 in
    rw (p.1, p.2)
    (loop_fails goes_on (replacement_at (scope_in c.args.self.now.look_ups) c.args.left (inside_at (scope_in c.args.self.now.look_ups) c.args.left)) add_replacement (replacements_in c.replacements.replacements.items) c.replacements.cursor _ c.in_err-one.field-0.0 (replacement_shortens (scope_in c.args.self.now.look_ups) c.args.left) (sym c.goes_on.ensures ∙ c.replacements-test.true) c.replacements.invariant c.in_err-one.ensures)

pub replacements-replacements-smaller : goal.replacements-replacements-smaller
replacements-replacements-smaller t c = (replacement_shortens (scope_in c.args.self.now.look_ups) c.args.left).shorter c.replacements.cursor (sym c.goes_on.ensures ∙ c.replacements-test.true) _ c.replacement.new.cursor c.in_ok-one.ensures

pub replacements-replacements-preserved : goal.replacements-replacements-preserved
replacements-replacements-preserved t c =
    loop_next goes_on (replacement_at (scope_in c.args.self.now.look_ups) c.args.left (inside_at (scope_in c.args.self.now.look_ups) c.args.left)) add_replacement (replacements_in c.replacements.replacements.items) (replacements_in c.add_replacement.new.replacements.items) _ c.replacements.cursor c.replacement.new.cursor _ (replacement_shortens (scope_in c.args.self.now.look_ups) c.args.left) (sym c.goes_on.ensures ∙ c.replacements-test.true) c.in_ok-one.ensures (sym c.in_ok-add_replacement.ensures) c.replacements.invariant

pub replacements-returns : goal.replacements-returns
unfolding replacements_within
replacements-returns t c = loop_over goes_on (replacement_at (scope_in c.args.self.now.look_ups) c.args.left (inside_at (scope_in c.args.self.now.look_ups) c.args.left)) add_replacement (replacements_in c.replacements.replacements.items) c.replacements.cursor _ (sym c.goes_on.ensures ∙ c.replacements-test.false) c.replacements.invariant
