use Rattle.std.proofs.Common.{map, sym, ap, subst, ◌∙◌, IfOk}
use Rattle.nx_base.specs.declared.name.Name.{Name}
use Rattle.rng_core.specs.Meaning.{definition_of}
use Rattle.rng_kept.specs.Merging.{answered}
use Rattle.rng_kept.specs.Residuals.{Residual}
use Rattle.rng_kept.specs.Tags.{attribute_of}
use Rattle.rng_live.specs.Calls.{Answers}
use Rattle.deriv_states.specs.Telling.{tells_values_of}
use Rattle.deriv_pool.specs.Laws.{later_same}
use Rattle.deriv_pool.specs.Meaning.{IsState, means_in}
use Rattle.deriv_pool.specs.Remembering.{a_blank, a_solid}
use Rattle.deriv_pool.proofs.Remembering.{answers_later, answers_on, name_is}
use Rattle.deriv_pool.proofs.Strings.{of_value, solid}
use Rattle.deriv_pool.proofs.recalling.read_attribute.Goals as goal

pub returns-then-tells_values_of-clause-right : goal.returns-then-tells_values_of-clause-right
returns-then-tells_values_of-clause-right c =
    answers_on (map definition_of c.args.defs.now) c.args.states.now c.behind_attribute.new.states c.args.memory.now c.behind_attribute.ensures.later
    c.requires.right

pub returns-in_err-ns-clause-right : goal.returns-in_err-ns-clause-right
returns-in_err-ns-clause-right c =
    answers_later (map definition_of c.args.defs.now) c.args.states.now c.args.states.now c.args.memory.now c.keep_name.new.self
    (later_same c.args.states.now) c.keep_name.ensures.later.texts c.keep_name.ensures.answers c.requires.right

pub noted_answer-requires-clause-right : goal.noted_answer-requires-clause-right
noted_answer-requires-clause-right c =
    answers_later (map definition_of c.args.defs.now) c.args.states.now c.args.states.now c.args.memory.now c.keep_name.new.self
    (later_same c.args.states.now) c.keep_name.ensures.later.texts c.keep_name.ensures.answers c.requires.right

pub noted_answer-requires-2-clause-right : goal.noted_answer-requires-2-clause-right
noted_answer-requires-2-clause-right c =
    answers_later (map definition_of c.args.defs.now) c.args.states.now c.args.states.now c.args.memory.now c.keep_name.new.self
    (later_same c.args.states.now) c.keep_name.ensures.later.texts c.keep_name.ensures.answers c.requires.right

pub noted_answer-requires-clause-alike : goal.noted_answer-requires-clause-alike
noted_answer-requires-clause-alike c =
    ap (λ (n : Name). tells_values_of n (means_in c.args.states.now c.args.state))
    (name_is c.keep_name.new.self.texts c.args.name.now (c.in_ok-ns.ns, c.in_ok-ns.local) c.in_ok-ns.ensures.made)
    ∙ (sym c.tells_values_of.ensures ∙ c.if-tells_values_of.false)

pub noted_answer-requires-2-clause-alike : goal.noted_answer-requires-2-clause-alike
noted_answer-requires-2-clause-alike c =
    ap (λ (n : Name). tells_values_of n (means_in c.args.states.now c.args.state))
    (name_is c.keep_name.new.self.texts c.args.name.now (c.in_ok-ns.ns, c.in_ok-ns.local) c.in_ok-ns.ensures.made)
    ∙ (sym c.tells_values_of.ensures ∙ c.if-tells_values_of.false)

pub noted_answer-requires-clause-behind : goal.noted_answer-requires-clause-behind
noted_answer-requires-clause-behind c = λ x.
    ap (λ (n : Name). attribute_of n a_blank x)
    (sym (name_is c.keep_name.new.self.texts c.args.name.now (c.in_ok-ns.ns, c.in_ok-ns.local) c.in_ok-ns.ensures.made))

pub noted_answer-requires-2-clause-behind : goal.noted_answer-requires-2-clause-behind
noted_answer-requires-2-clause-behind c = λ x.
    ap (λ (n : Name). attribute_of n a_solid x)
    (sym (name_is c.keep_name.new.self.texts c.args.name.now (c.in_ok-ns.ns, c.in_ok-ns.local) c.in_ok-ns.ensures.made))

pub returns-then-is_blank-clause-gives : goal.returns-then-is_blank-clause-gives
returns-then-is_blank-clause-gives c =
    let new = c.noted_answer.new.states in
    let x = means_in c.args.states.now c.args.state in
    let P : Residual → Type 0 = λ y. IfOk c.noted_answer.result (Answers (IsState new) (means_in new) (answered y)) in
    let R : Name → Type 0 = λ n. P (attribute_of n a_blank x) in
    of_value c.args.name.now c.args.value.now a_blank x P
    (sym c.is_blank.ensures ∙ c.if-is_blank.true) (sym c.tells_values_of.ensures ∙ c.if-tells_values_of.false)
    (subst R (name_is c.keep_name.new.self.texts c.args.name.now (c.in_ok-ns.ns, c.in_ok-ns.local) c.in_ok-ns.ensures.made) c.noted_answer.ensures.gives)

pub returns-clause-gives : goal.returns-clause-gives
returns-clause-gives c =
    let new = c.noted_answer-2.new.states in
    let x = means_in c.args.states.now c.args.state in
    let P : Residual → Type 0 = λ y. IfOk c.noted_answer-2.result (Answers (IsState new) (means_in new) (answered y)) in
    let R : Name → Type 0 = λ n. P (attribute_of n a_solid x) in
    of_value c.args.name.now c.args.value.now a_solid x P
    (sym c.is_blank.ensures ∙ c.if-is_blank.false ∙ sym solid) (sym c.tells_values_of.ensures ∙ c.if-tells_values_of.false)
    (subst R (name_is c.keep_name.new.self.texts c.args.name.now (c.in_ok-ns.ns, c.in_ok-ns.local) c.in_ok-ns.ensures.made) c.noted_answer-2.ensures.gives)
