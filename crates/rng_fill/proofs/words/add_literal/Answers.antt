use Rattle.rng_fill.proofs.Wording.{literal_adds}
use Rattle.rng_fill.proofs.words.add_literal.Goals as goal

pub returns : goal.returns
returns c =
    literal_adds c.args.datatype.now c.args.text.now c.args.words.now c.add_found.new.words c.in_ok-found.found c.in_ok-some.some
    c.words_alone.result c.requires c.in_ok-found.ensures c.in_ok-some.ensures c.words_alone.ensures.nothing c.words_alone.ensures.words
