use Rattle.std.proofs.Common.{sym, ◌∙◌, ap}
use Rattle.rng_types.specs.Words.{are_words}
use Rattle.rng_types.proofs.Collapsed.{words-collapsed}
use Rattle.rng_types.proofs.kind.Form.has.Goals as goal

pub returns-in-Several : goal.returns-in-Several
returns-in-Several c =
    rw c.in-Several.is (c.are_words.ensures ∙ ap (are_words c.in-Several.word) (sym (words-collapsed c.args.text.now)))
