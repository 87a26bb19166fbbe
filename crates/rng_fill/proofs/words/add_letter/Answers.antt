use Rattle.std.proofs.Common.{true, refl, ap, ◌∙◌, List, ℕ, ◌++◌, ◌∷◌, []}
use Rattle.rng_fill.proofs.Wording.{letter_adds}
use Rattle.rng_fill.proofs.words.add_letter.Goals as goal

pub returns : goal.returns
returns c =
    letter_adds c.args.words.now c.push.new.self (record { nothing = true; words = true })
    (c.in_ok-push.ensures.ok ∙ ap (λ (w : List ℕ). c.args.words.now ++ w ∷ []) c.in_ok-letter.ensures) refl refl
