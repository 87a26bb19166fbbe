use Rattle.std.proofs.Common.{arith, ap, ◌+◌}
use Rattle.nx_move.proofs.Cutting.{fits_here, is_piece}
use Rattle.nx_move.proofs.tag.piece_of.Goals as goal

pub overflow_add-to : goal.overflow_add-to
overflow_add-to c =
    let fits = fits_here c.args.text.now c.args.at c.args.token.now
    (record { utf8 = c.len-end.ensures.utf8; place = c.requires.place; within = c.requires.rest; is = c.requires.token }) in
    omega arith

pub returns : goal.returns
returns c =
    is_piece c.args.text.now c.args.at c.args.token.now _
    (record { utf8 = c.len-end.ensures.utf8; place = c.requires.place; within = c.requires.rest; is = c.requires.token })
    (ap (λ n. c.args.at + n) c.len-len.ensures) c.tag_between.ensures
