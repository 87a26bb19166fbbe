use Rattle.std.proofs.Common.{List, subst}
use Rattle.rng_types.specs.Giving.{IsMemberAnswer}
use Rattle.rng_types.specs.declared.datatype.Except.{Except}
use Rattle.std.proofs.Common.{true}
use Rattle.rng_fill.proofs.Wording.{member_adds}
use Rattle.rng_fill.proofs.words.add_member.Goals as goal

pub returns : goal.returns
returns c =
    member_adds c.args.datatype.now c.args.excepts.now c.args.words.now c.add_found.new.words c.in_ok-found.found c.in_ok-some.some
    c.words_alone.result c.requires
    (subst (λ (es : List Except). IsMemberAnswer c.args.datatype.now es true c.in_ok-found.found) c.as_slice.ensures c.in_ok-found.ensures)
    c.in_ok-some.ensures c.words_alone.ensures.nothing c.words_alone.ensures.words
