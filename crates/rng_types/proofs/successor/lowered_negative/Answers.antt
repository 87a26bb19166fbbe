use Rattle.std.proofs.Common.{List, ℕ, [], ap, ◌∙◌, ◌++◌, ◌∷◌}
use Rattle.rng_types.proofs.Stepped.{lowered_whole}
use Rattle.rng_types.proofs.successor.lowered_negative.Goals as goal

pub returns : goal.returns
returns c =
    lowered_whole c.args.digits.now c.in_ok-less.less c.in_ok-less-2.less c.append.new.self c.requires.digits c.in_ok-less.ensures.1 c.in_ok-less-2.ensures
    (c.in_ok-append.ensures.ok ∙ ap (λ (t : List ℕ). t ++ c.in_ok-less-2.less) (c.in_ok-push.ensures.ok ∙ ap (λ (t : List ℕ). t ++ 45 ∷ []) c.new-text.ensures))
