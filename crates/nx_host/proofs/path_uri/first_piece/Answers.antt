use Rattle.nx_host.specs.PathUri.{is_slash}
use Rattle.nx_host.proofs.Splits.{split_alone, split_more}
use Rattle.nx_host.proofs.path_uri.first_piece.Goals as goal

pub returns-then-end-path-clause-alone : goal.returns-then-end-path-clause-alone
returns-then-end-path-clause-alone c = split_alone is_slash c.args.path.now c.slash_place-end.result c.slash_place-end.ensures.place c.if-end-path.true

pub returns-clause-more : goal.returns-clause-more
returns-clause-more c = split_more is_slash c.args.path.now c.slash_place-end.result c.slash_place-end.ensures.place c.slash_place-end.ensures.within c.if-end-path.false
