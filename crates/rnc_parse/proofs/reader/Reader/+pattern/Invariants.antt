use Rattle.std.proofs.Common.{◌≡◌, ◌+◌, ◌*◌, length}
use Rattle.rnc_parse.specs.Looking.{scope_in}
use Rattle.rnc_parse.specs.Views.{pattern_of, items_in, replacements_in}
use Rattle.rnc_parse.specs.ReadingPatterns.{inside_at, items_within, replacements_within}
use Rattle.rnc_parse.proofs.PatternLoops.{Keeps, particles_loop, items_loop, replacements_loop}
use Rattle.rnc_parse.proofs.reader.Reader.+pattern.Given as goal

abbrev pub decreases-items : goal.decreases-items
decreases-items l = l.left * 16 + 13

abbrev pub decreases-replacements : goal.decreases-replacements
decreases-replacements l = l.left * 16 + 13

abbrev pub decreases-item : goal.decreases-item
decreases-item l = l.left * 16 + 12

abbrev pub decreases-replacement : goal.decreases-replacement
decreases-replacement l = l.left * 16 + 12

abbrev pub decreases-include : goal.decreases-include
decreases-include l = l.left * 16 + 11

abbrev pub decreases-definition : goal.decreases-definition
decreases-definition l = l.left * 16 + 11

abbrev pub decreases-pattern : goal.decreases-pattern
decreases-pattern l = l.left * 16 + 10

abbrev pub decreases-data : goal.decreases-data
decreases-data l = l.left * 16 + 9

abbrev pub decreases-behind_primary : goal.decreases-behind_primary
decreases-behind_primary l = l.left * 16 + 7

abbrev pub decreases-particles : goal.decreases-particles
decreases-particles l = l.left * 16 + 6

abbrev pub decreases-primary : goal.decreases-primary
decreases-primary l = l.left * 16 + 3

abbrev pub decreases-enclosed : goal.decreases-enclosed
decreases-enclosed l = l.left * 16

abbrev pub decreases-braced_items : goal.decreases-braced_items
decreases-braced_items l = l.left * 16

abbrev pub decreases-braced_replacements : goal.decreases-braced_replacements
decreases-braced_replacements l = l.left * 16

abbrev pub invariant-particles-particles : goal.invariant-particles-particles
invariant-particles-particles l = Keeps (scope_in l.self.look_ups) l.left l.sign l.particles.items l.cursor (particles_loop (scope_in l.self.look_ups) l.left l.sign (pattern_of l.fn.first) l.fn.cursor)

abbrev pub decreases-particles-particles : goal.decreases-particles-particles
decreases-particles-particles l = length l.cursor

abbrev pub invariant-items-items : goal.invariant-items-items
invariant-items-items l = items_loop (scope_in l.self.look_ups) l.left (items_in l.items.items) l.cursor ≡ items_within (scope_in l.self.look_ups) l.left (inside_at (scope_in l.self.look_ups) l.left) l.fn.cursor

abbrev pub decreases-items-items : goal.decreases-items-items
decreases-items-items l = length l.cursor

abbrev pub invariant-replacements-replacements : goal.invariant-replacements-replacements
invariant-replacements-replacements l = replacements_loop (scope_in l.self.look_ups) l.left (replacements_in l.replacements.items) l.cursor ≡ replacements_within (scope_in l.self.look_ups) l.left (inside_at (scope_in l.self.look_ups) l.left) l.fn.cursor

abbrev pub decreases-replacements-replacements : goal.decreases-replacements-replacements
decreases-replacements-replacements l = length l.cursor

abbrev pub decreases-particle : goal.decreases-particle
decreases-particle l = l.left * 16 + 5

abbrev pub decreases-behind_type : goal.decreases-behind_type
decreases-behind_type l = l.left * 16 + 8

abbrev pub decreases-opened_primary : goal.decreases-opened_primary
decreases-opened_primary l = l.left * 16 + 4

abbrev pub decreases-element : goal.decreases-element
decreases-element l = l.left * 16 + 2

abbrev pub decreases-attribute : goal.decreases-attribute
decreases-attribute l = l.left * 16 + 2

abbrev pub decreases-boxed_body : goal.decreases-boxed_body
decreases-boxed_body l = l.left * 16 + 1
