use Rattle.std.proofs.Common.{map, sym, ◌∙◌, IfOk}
use Rattle.rng_core.specs.Meaning.{definition_of}
use Rattle.rng_kept.specs.Merging.{answered}
use Rattle.rng_kept.specs.Residuals.{Residual}
use Rattle.rng_live.specs.Calls.{Answers}
use Rattle.deriv_pool.specs.Meaning.{IsState, means_in}
use Rattle.deriv_pool.specs.Remembering.{a_blank, a_solid}
use Rattle.deriv_pool.proofs.Remembering.{answers_on}
use Rattle.deriv_pool.proofs.Strings.{of_text, solid}
use Rattle.deriv_pool.proofs.recalling.read_chars.Goals as goal

pub returns-then-tells_texts-clause-right : goal.returns-then-tells_texts-clause-right
returns-then-tells_texts-clause-right c =
    answers_on (map definition_of c.args.defs.now) c.args.states.now c.behind_chars.new.states c.args.memory.now c.behind_chars.ensures.later c.requires.right

pub returns-then-is_blank-clause-gives : goal.returns-then-is_blank-clause-gives
returns-then-is_blank-clause-gives c =
    let new = c.noted_answer.new.states in
    let P : Residual → Type 0 = λ x. IfOk c.noted_answer.result (Answers (IsState new) (means_in new) (answered x)) in
    of_text c.args.text.now a_blank (means_in c.args.states.now c.args.state) P
    (sym c.is_blank.ensures ∙ c.if-is_blank.true) (sym c.tells_texts.ensures ∙ c.if-tells_texts.false) c.noted_answer.ensures.gives

pub returns-clause-gives : goal.returns-clause-gives
returns-clause-gives c =
    let new = c.noted_answer-2.new.states in
    let P : Residual → Type 0 = λ x. IfOk c.noted_answer-2.result (Answers (IsState new) (means_in new) (answered x)) in
    of_text c.args.text.now a_solid (means_in c.args.states.now c.args.state) P
    (sym c.is_blank.ensures ∙ c.if-is_blank.false ∙ sym solid) (sym c.tells_texts.ensures ∙ c.if-tells_texts.false) c.noted_answer-2.ensures.gives
