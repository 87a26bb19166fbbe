use Rattle.std.proofs.Common.{map, sym, subst}
use Rattle.rng_core.specs.Meaning.{definition_of}
use Rattle.deriv_memory.specs.Remembered.{Remembered}
use Rattle.deriv_pool.specs.Meaning.{means_in}
use Rattle.deriv_pool.specs.Remembering.{AreAnswers}
use Rattle.deriv_pool.proofs.Remembering.{answers_on, answer_is, answers_noted}
use Rattle.deriv_pool.proofs.recalling.noted_answer.Goals as goal

pub returns-in_err-found-clause-right : goal.returns-in_err-found-clause-right
returns-in_err-found-clause-right c =
    answers_on (map definition_of c.args.defs.now) c.args.states.now c.answer.new.states c.args.memory.now c.answer.ensures.later c.requires.right

pub returns-in_err-note-clause-right : goal.returns-in_err-note-clause-right
returns-in_err-note-clause-right c =
    let P : Remembered → Type 0 = λ m. ∥ AreAnswers (map definition_of c.args.defs.now) c.answer.new.states m ∥₁ in
    subst P (sym c.in_err-note.ensures.refused)
    (answers_on (map definition_of c.args.defs.now) c.args.states.now c.answer.new.states c.args.memory.now c.answer.ensures.later c.requires.right)

pub returns-clause-right : goal.returns-clause-right
returns-clause-right c =
    let g = map definition_of c.args.defs.now in
    let old = c.args.states.now in
    let new = c.answer.new.states in
    let memory = c.args.memory.now in
    answers_noted g new memory c.note.new.self c.args.call c.as_number.result c.in_ok-note.ensures.made
    (answer_is g old new memory.texts c.args.call c.args.state.number _ c.as_number.result c.in_ok-found.found c.answer.ensures.later c.requires.asked c.requires.alike c.requires.of
    c.requires.state (c.requires.behind (means_in old c.args.state)) c.as_number.ensures c.in_ok-found.ensures.gives)
    (answers_on g old new memory c.answer.ensures.later c.requires.right)
