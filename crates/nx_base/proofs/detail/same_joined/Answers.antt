use Rattle.std.proofs.Common.{◌≡◌, ◌++◌, ℕ, List, sym, ◌∙◌, ap, refl}
use Rattle.nx_base.proofs.detail.same_joined.Goals as goal
use Rattle.nx_base.proofs.Joined.{end_goes_on, both_again}

pub returns-then-all_equal : goal.returns-then-all_equal
returns-then-all_equal c =
    let front = c.args.front.now in
    let end = c.args.end.now in
    let longer = c.args.longer.now in
    let rest = c.args.rest.now in (
      (λ t. both_again front end longer rest (sym c.split_at.ensures.front ∙ c.if-all_equal.ensures.0 refl)
          (c.is_joined.ensures.0 t ∙ ap (λ (xs : List ℕ). xs ++ rest) c.split_at.ensures.back)),
      (λ h. c.is_joined.ensures.1
          (end_goes_on front end longer rest c.requires h ∙ ap (λ (xs : List ℕ). xs ++ rest) (sym c.split_at.ensures.back))),
    )
