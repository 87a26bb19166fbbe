-- What is told of numbers stays true while more is kept.
use Rattle.std.proofs.Common.{◌≡◌, ℕ, zero, suc, List, [], ◌∷◌, length, map, refl, ap, ◌∙◌}
use Rattle.rng_core.specs.Meaning.{definition_of}
use Rattle.rng_core.specs.Patterns.{Definition}
use Rattle.rng_kept.specs.Entering.{content_of}
use Rattle.rng_kept.specs.Openings.{Opening}
use Rattle.deriv_nodes.specs.declared.openings.Open.{Open}
use Rattle.deriv_nodes.specs.Numbers.{at}
use Rattle.deriv_nodes.specs.Opened.{openings_at, AreNodes, AreOpened}
use Rattle.deriv_nodes.proofs.Opening.{nodes_stay, openings_stay, opened_stay}
use Rattle.deriv_states.specs.declared.branch.Branch.{Branch}
use Rattle.deriv_pattern.specs.declared.step.Step.{Step}
use Rattle.deriv_pattern.specs.declared.step.Step.TheVariants as step
use Rattle.deriv_states.specs.Places.{Places, LaterPlaces, AreContents, IsThere, way_in}
use Rattle.deriv_states.specs.Steps.{HasContents}
use Rattle.deriv_states.proofs.Places.{way_steady, there_wider}

pub way_carried : (old new : Places) (one : Branch) → LaterPlaces old new → IsThere old one
    → way_in new one ≡ way_in old one
way_carried old new one later there =
    way_steady old.patterns new.patterns old.outers new.outers (length old.patterns) (length old.outers) one there later.patterns.stays later.outers.stays

pub there_carried : (old new : Places) (one : Branch) → LaterPlaces old new → IsThere old one
    → IsThere new one
there_carried old new one later there =
    there_wider (length old.patterns) (length new.patterns) (length old.outers) (length new.outers) one later.patterns.grows later.outers.grows there

pub contents_carried : (old new : Places) (g : List Definition) → LaterPlaces old new → AreContents old g → AreContents new g
contents_carried old new g later are = later.contents ∙ are

pub step_carried : (old new : Places) (s : Step) → LaterPlaces old new → HasContents old s → HasContents new s
step_carried old new (step.Enter defs name) later has = contents_carried old new (map definition_of defs.now) later has
step_carried old new (step.EnterSkip defs name) later has = contents_carried old new (map definition_of defs.now) later has
step_carried old new (step.Attribute name value) later has = tt
step_carried old new (step.AttributeAny name) later has = tt
step_carried old new step.TagEnd later has = tt
step_carried old new step.TagEndMissing later has = tt
step_carried old new (step.Chars text) later has = tt
step_carried old new step.CharsAny later has = tt
step_carried old new step.Leave later has = tt
step_carried old new step.LeaveSkip later has = tt

content_in_list : (g : List Definition) (i : ℕ) → at (map (λ (d : Definition). d.content) g) i ≡ content_of g i
content_in_list [] i = refl
content_in_list (d ∷ g) zero = refl
content_in_list (d ∷ g) (suc i) = content_in_list g i

pub content_told : (places : Places) (g : List Definition) (i : ℕ) → AreContents places g → at places.contents i ≡ content_of g i
content_told places g i are = ap (λ ps. at ps i) are ∙ content_in_list g i

pub nodes_carried : (old new : Places) (os : List Open) → LaterPlaces old new → AreNodes old.patterns os → AreNodes new.patterns os
nodes_carried old new os later are = nodes_stay old.patterns new.patterns os later.patterns are

pub openings_carried : (old new : Places) (os : List Open) → LaterPlaces old new → AreNodes old.patterns os
    → openings_at new.patterns os ≡ openings_at old.patterns os
openings_carried old new os later are = openings_stay old.patterns new.patterns os later.patterns are

pub opened_carried : (old new : Places) (xs : List Opening) (os : List Open) → LaterPlaces old new → AreOpened old.patterns xs os
    → AreOpened new.patterns xs os
opened_carried old new xs os later are = opened_stay old.patterns new.patterns xs os later.patterns are

pub ruleset ways = (way_carried, there_carried, step_carried)

pub ruleset opened = (content_told, contents_carried, nodes_carried, openings_carried, opened_carried)

pub ruleset opened_ways = (way_carried, there_carried, contents_carried, nodes_carried, openings_carried)
