use Rattle.std.proofs.Common.{◌≡◌, List, [], ◌∷◌, length, map, refl, sym, subst, IfOk}
use Rattle.rng_core.specs.Meaning.{definition_of}
use Rattle.rng_kept.specs.Entering.{tag_at_top}
use Rattle.deriv_nodes.specs.declared.openings.Open.{Open}
use Rattle.deriv_nodes.specs.Opened.{openings_at}
use Rattle.deriv_states.specs.Places.{IsState}
use Rattle.deriv_states.proofs.states.States.+tags_at_top.Goals as goal

none_open : (opened : List Open) → 0 ≡ length opened → [] ≡ opened
none_open [] is = refl
none_open (one ∷ rest) is = cc

pub returns-in-None-clause-made : goal.returns-in-None-clause-made
returns-in-None-clause-made t c =
    let P : List Open → Type 0 = λ os. IfOk c.end.result (IsState c.end.new.self
    (map (tag_at_top (map definition_of c.args.defs.now)) (openings_at c.args.self.now.patterns os))) in
    subst P (none_open c.args.opened.now (sym c.in-None.ensures.cases)) c.end.ensures.made
