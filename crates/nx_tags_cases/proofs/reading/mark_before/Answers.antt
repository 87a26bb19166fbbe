use Rattle.std.proofs.Common.{inl, inr, arith}
use Rattle.std.proofs.lemmas.Bool.{cases_lt}
use Rattle.nx_tags.proofs.Reading.{read_border, border_state}
use Rattle.nx_tags_cases.proofs.reading.mark_before.Goals as goal

pub returns-clause-before : goal.returns-clause-before
returns-clause-before g c =
    elim (cases_lt 0 c.in_ok-border.border.place) [
      | inl some ↦ inl (omega (arith, c.in_ok-border.ensures.before, c.requires))
      | inr none ↦ inr (omega arith)
    ]

pub returns-clause-known : goal.returns-clause-known
returns-clause-known g c =
    let text = c.args.text.now in
    let utf8 = c.len-len.ensures.utf8 in
    let place = c.in_ok-border.border.place in
    let state = c.in_ok-border.border.state in
    record { border = read_border text utf8 place state c.in_ok-border.ensures.read; known = border_state text utf8 place state c.in_ok-border.ensures.read }
