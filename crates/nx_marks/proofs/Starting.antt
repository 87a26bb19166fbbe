-- With nothing taken, what is kept is right for every text.
use Rattle.std.proofs.Common.{◌≡◌, ℕ, List, [], false, true, refl, arith, ap, ◌∙◌}
use Rattle.nx_base.specs.Rules.{Rules, RulesLaws}
use Rattle.nx_marks.specs.Right.{IsRight}

pub fresh_right : {S M : Type 0} (is_state : S → Type 0) (means : S → M) (r : Rules M) (t : List ℕ) (s : S) → RulesLaws r → is_state s → means s ≡ r.first →
    IsRight is_state means r t (record { front = []; here = record { state = s; len = 0; tags = 0; faults = []; whole = false; saved = false }; marked = true; aside = [] })
fresh_right is_state means r t s laws own first = record {
  holds = record { first = first; chain = (own, (tt, omega arith)); whole = tt; ends = refl };
  rule = record { rule = λ no. absurd (cc); some = λ no. absurd (cc); mark = λ _. ap r.back first ∙ laws.first_back; saved = tt };
}
