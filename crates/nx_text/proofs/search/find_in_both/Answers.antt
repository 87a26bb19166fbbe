use Rattle.std.proofs.Common.{rules}
use Rattle.nx_text.proofs.NextByte.{found_near, found_far, found_behind}
use Rattle.nx_text.proofs.search.find_in_both.Goals as goal

pub returns-then-from-gap : goal.returns-then-from-gap
returns-then-from-gap c =
    found_behind c.args.byte c.args.front.now c.args.back.now c.args.from c.up_to_byte.result (search rules) c.up_to_byte.ensures.first

pub returns-then-near-gap : goal.returns-then-near-gap
returns-then-near-gap c =
    found_near c.args.byte c.args.front.now c.args.back.now c.args.from c.up_to_byte-2.result (search rules) c.up_to_byte-2.ensures.first
    (search rules)

pub returns : goal.returns
returns c =
    found_far c.args.byte c.args.front.now c.args.back.now c.args.from c.up_to_byte-2.result c.up_to_byte-3.result (search rules)
    c.up_to_byte-2.ensures.first (search rules) c.up_to_byte-3.ensures.first
