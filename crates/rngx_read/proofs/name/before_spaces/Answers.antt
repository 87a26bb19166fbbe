use Rattle.std.proofs.Common.{sym, ◌∙◌, ap}
use Rattle.rngx_read.specs.Names.{before_spaces}
use Rattle.rngx_read.proofs.Trimming.{last_gone, last_kept}
use Rattle.rngx_read.proofs.name.before_spaces.Goals as goal

pub returns-then-not-is_space : goal.returns-then-not-is_space
returns-then-not-is_space c =
    let split = c.in-Some.ensures.cases.0 in
    split ∙ sym (last_kept c.in-Some.before.now c.in-Some.last.now (cc (c.from.ensures, c.is_space.ensures, c.if-not-is_space.true)))
    ∙ ap before_spaces (sym split)
    ∙ c.loop-last.invariant

pub loop-last-preserved : goal.loop-last-preserved
loop-last-preserved c =
    let split = c.in-Some.ensures.cases.0 in
    sym (last_gone c.in-Some.before.now c.in-Some.last.now (cc (c.from.ensures, c.is_space.ensures, c.if-not-is_space.false)))
    ∙ ap before_spaces (sym split)
    ∙ c.loop-last.invariant
