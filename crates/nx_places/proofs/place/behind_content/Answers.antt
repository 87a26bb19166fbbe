use Rattle.std.proofs.Common.{◌≡◌, ◌≤◌}
use Rattle.nx_places.proofs.Lines.{content_within, past_content}
use Rattle.nx_places.proofs.place.behind_content.Goals as goal

pub returns-clause-line : goal.returns-clause-line
returns-clause-line c =
    past_content c.args.text.now c.piece_at.result.now c.piece_at.ensures.piece.rest c.args.at c.content_len.result c.requires.inside c.requires.content
    c.piece_at.ensures.piece.whole c.content_len.ensures.len

pub returns-clause-within : goal.returns-clause-within
returns-clause-within c =
    content_within c.args.text.now c.piece_at.result.now c.piece_at.ensures.piece.rest c.args.at c.content_len.result c.requires.inside
    c.piece_at.ensures.piece.whole c.content_len.ensures.bound
