use Rattle.std.proofs.Common.{◌++◌, reverse, map, List, ap, ◌∙◌}
use Rattle.rng_core.specs.Meaning.{pattern_of}
use Rattle.rng_cost.specs.Leaves.{patterns_of}
use Rattle.rng_fill.specs.declared.element.Task.{Task}
use Rattle.rng_fill.specs.declared.element.Task.TheVariants as task
use Rattle.rng_fill.specs.Sorted.{ref_leaves}
use Rattle.rng_fill.proofs.Held.{same_leaves, kept_elements, kept_string}
use Rattle.rng_fill.proofs.contents.Contents.begin.Goals as goal

pub returns-in-Some : goal.returns-in-Some
returns-in-Some c =
    kept_string c.requires.fit c.leaves_at-leaves.ensures c.requires.tasks (same_leaves c.leaves_at-leaves.ensures c.requires.beginning)
    c.in_ok-append.ensures.ok (pattern_of c.in-Some.field-0.now) c.in-Some.ensures c.in_ok-push.ensures.items

pub returns-in_ok-push_elements-in-None : goal.returns-in_ok-push_elements-in-None
returns-in_ok-push_elements-in-None c =
    kept_elements c.requires.fit c.leaves_at-leaves.ensures c.requires.tasks (same_leaves c.leaves_at-leaves.ensures c.requires.beginning)
    c.in_ok-append.ensures.ok c.in-None.ensures
    (c.in_ok-push_elements-in-None.ensures
    ∙ ap (λ (t : List Task). t ++ reverse (map task.Element (ref_leaves (patterns_of c.leaves_at-leaves.result.now)))) c.in_ok-push.ensures.items)
