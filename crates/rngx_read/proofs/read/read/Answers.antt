use Rattle.std.proofs.Common.{refl, ap, subst, ◌∙◌}
use Rattle.nx_base.specs.Tokens.{tokens_of}
use Rattle.rngx_read.specs.Marking.{AreTextTokens}
use Rattle.rngx_read.proofs.SaidTexts.{answered_text}
use Rattle.rngx_read.proofs.read.read.Goals as goal

pub returns-clause-texts : goal.returns-clause-texts
returns-clause-texts g c =
    let tokens = c.in_ok-tokens.ensures.tokens ∙ ap tokens_of c.in_ok-whole.ensures in
    answered_text c.args.text.now c.read_tokens.result (subst AreTextTokens tokens c.in_ok-tokens.ensures.texts)
    (c.read_tokens.ensures c.args.text.now c.utf8.text (c.as_slice.ensures.value ∙ tokens) refl)
