use Rattle.std.proofs.Common.{sym, ◌∙◌, Option}
use Rattle.rng_kept.specs.Merging.{answered}
use Rattle.rng_kept.specs.Residuals.{Residual}
use Rattle.rng_live.specs.Calls.{Answers}
use Rattle.deriv_pool.specs.Meaning.{IsState, means_in}
use Rattle.deriv_pool.specs.Remembering.{a_blank, a_solid}
use Rattle.deriv_pool.specs.declared.state.PoolState.{PoolState}
use Rattle.deriv_pool.specs.Remembering.{name_in}
use Rattle.deriv_pool.proofs.Remembering.{name_is}
use Rattle.deriv_pool.proofs.Strings.{some_value, solid}
use Rattle.deriv_pool.proofs.recalling.recalled_attribute.Goals as goal

pub returns-then-is_blank : goal.returns-then-is_blank
returns-then-is_blank c =
    let places = c.args.states.now in
    let texts = c.args.memory.now.texts in
    let Q : Residual → Option PoolState → Type 0 = λ y. Answers (IsState places) (means_in places) (answered y) in
    some_value c.recalled.result Q c.args.name.now (name_in texts c.in_ok-ns.ns c.in_ok-ns.local) c.args.value.now a_blank (means_in places c.args.state)
    (name_is texts c.args.name.now (c.in_ok-ns.ns, c.in_ok-ns.local) c.in_ok-ns.ensures.found)
    (sym c.is_blank.ensures ∙ c.if-is_blank.true) c.recalled.ensures.alike c.recalled.ensures.found

pub returns : goal.returns
returns c =
    let places = c.args.states.now in
    let texts = c.args.memory.now.texts in
    let Q : Residual → Option PoolState → Type 0 = λ y. Answers (IsState places) (means_in places) (answered y) in
    some_value c.recalled-2.result Q c.args.name.now (name_in texts c.in_ok-ns.ns c.in_ok-ns.local) c.args.value.now a_solid (means_in places c.args.state)
    (name_is texts c.args.name.now (c.in_ok-ns.ns, c.in_ok-ns.local) c.in_ok-ns.ensures.found)
    (sym c.is_blank.ensures ∙ c.if-is_blank.false ∙ sym solid) c.recalled-2.ensures.alike c.recalled-2.ensures.found
