use Rattle.std.proofs.Common.{◌∙◌, rules}
use Rattle.nx_text.proofs.Gaps.{front_of_parts}
use Rattle.nx_text.proofs.fill.fill.Goals as goal

pub returns-in-Some-first_chunk : goal.returns-in-Some-first_chunk
returns-in-Some-first_chunk c =
    let both = c.in-Some.ensures.cases in let second = c.in-Some-first_chunk.ensures.cases in
    c.from_vec.ensures ∙ c.filled_with_few.ensures
    ∙ front_of_parts 16 16 c.args.len c.args.piece.now c.in-Some.first.now c.in-Some.rest.now c.in-Some-first_chunk.second.now both.0 both.1
    second.same (search rules) second.enough c.if-len-le-FEW.true
