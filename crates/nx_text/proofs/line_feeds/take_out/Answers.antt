use Rattle.std.proofs.Common.{◌∙◌, ◌-◌, length, drop, ap}
use Rattle.nx_text.proofs.Sides.{kept_cut}
use Rattle.nx_text.proofs.line_feeds.take_out.Goals as goal

pub returns-clause-kept : goal.returns-clause-kept
returns-clause-kept c =
    let bytes = c.args.bytes.now in let kept = c.requires.kept in
    let front = c.feeds_below-kept.ensures.count bytes.front (c.front.ensures ∙ kept.front_feeds) in
    let back = c.feeds_beyond-dropped.ensures.count bytes.back c.args.behind (c.back.ensures ∙ kept.back_feeds) c.requires.back
    (ap (λ t. length t - c.args.behind) c.back-2.ensures) in
    kept_cut bytes c.args.feeds.now c.drop_back-2.new.self c.drop_back.new.self c.args.from c.args.behind
    c.feeds_below-kept.result c.feeds_beyond-dropped.result kept c.requires.front_utf8 c.requires.back_utf8 front back
    (c.drop_back-2.ensures.front ∙ c.keep_front-2.ensures.front) (c.drop_back-2.ensures.back ∙ ap (drop c.args.behind) c.keep_front-2.ensures.back)
    (c.drop_back.ensures.front ∙ c.keep_front.ensures.front)
    (c.drop_back.ensures.back ∙ ap (drop c.feeds_beyond-dropped.result) c.keep_front.ensures.back)
