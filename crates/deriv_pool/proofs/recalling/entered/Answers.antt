use Rattle.std.proofs.Common.{map, sym, ap, subst, IfOk}
use Rattle.nx_base.specs.declared.name.Name.{Name}
use Rattle.rng_core.specs.Meaning.{definition_of}
use Rattle.rng_kept.specs.Entering.{enter}
use Rattle.rng_kept.specs.Merging.{answered}
use Rattle.rng_live.specs.Calls.{Answers}
use Rattle.deriv_pool.specs.Laws.{later_same}
use Rattle.deriv_pool.specs.Meaning.{IsState, means_in}
use Rattle.deriv_pool.proofs.Remembering.{answers_later, name_is}
use Rattle.deriv_pool.proofs.recalling.entered.Goals as goal

pub returns-in_err-ns-clause-right : goal.returns-in_err-ns-clause-right
returns-in_err-ns-clause-right c =
    answers_later (map definition_of c.args.defs.now) c.args.states.now c.args.states.now c.args.memory.now c.keep_name.new.self
    (later_same c.args.states.now) c.keep_name.ensures.later.texts c.keep_name.ensures.answers c.requires.right

pub noted_answer-requires-clause-right : goal.noted_answer-requires-clause-right
noted_answer-requires-clause-right c =
    answers_later (map definition_of c.args.defs.now) c.args.states.now c.args.states.now c.args.memory.now c.keep_name.new.self
    (later_same c.args.states.now) c.keep_name.ensures.later.texts c.keep_name.ensures.answers c.requires.right

pub noted_answer-requires-clause-behind : goal.noted_answer-requires-clause-behind
noted_answer-requires-clause-behind c = λ x.
    ap (λ (n : Name). enter (map definition_of c.args.defs.now) n x)
    (sym (name_is c.keep_name.new.self.texts c.args.name.now (c.in_ok-ns.ns, c.in_ok-ns.local) c.in_ok-ns.ensures.made))

pub returns-clause-gives : goal.returns-clause-gives
returns-clause-gives c =
    let new = c.noted_answer.new.states in
    let P : Name → Type 0 = λ n. IfOk c.noted_answer.result (Answers (IsState new) (means_in new)
    (answered (enter (map definition_of c.args.defs.now) n (means_in c.args.states.now c.args.state)))) in
    subst P (name_is c.keep_name.new.self.texts c.args.name.now (c.in_ok-ns.ns, c.in_ok-ns.local) c.in_ok-ns.ensures.made) c.noted_answer.ensures.gives
