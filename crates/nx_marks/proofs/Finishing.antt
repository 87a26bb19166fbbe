-- Tokens are taken where no mark is aside any more.
use Rattle.std.proofs.Common.{◌≡◌, ◌⊎◌, inl, inr, ℕ, ◌+◌, ◌-◌, ◌<◌, ◌≤◌, List, [], ◌∷◌, ◌++◌, length, sym, ap, subst, ◌∙◌, arith}
use Rattle.std.specs.Prelude.{IsUtf8}
use Rattle.nx_base.specs.Rules.{Rules}
use Rattle.nx_base.specs.Running.{after_all}
use Rattle.nx_marks.specs.Bound.{ReachesIn}
use Rattle.nx_marks.specs.Chain.{Kept, FirstMeans, frontier_of}
use Rattle.nx_marks.specs.Frontier.{IsBorder, MovesOver}
use Rattle.nx_marks.specs.Keeping.{KeepsMarks}
use Rattle.nx_marks.specs.declared.mark.Mark.{Mark}
use Rattle.nx_marks.proofs.Moving.{moves_on, from_border}

-- where no mark is aside, the row that was to be joined is
pub none_near : {S M : Type 0} (means : S → M) (r : Rules M) (t : List ℕ) (n end : ℕ) (k : Kept S) → k.aside ≡ [] → ReachesIn means r t n end k → end ≤ frontier_of k
none_near means r t n end k none (inr there) = there
none_near {S = S} means r t n end k none (inl w) =
    absurd (let F : List (Mark S) → Type 0 = λ l. FirstMeans means (after_all r (means k.here.state) w.0.left) l in subst F none w.0.first)

-- nothing comes aside
pub still_none : {S M : Type 0} (means : S → M) (r : Rules M) (t : List ℕ) (k j : Kept S) → k.aside ≡ [] → KeepsMarks means r t k j → j.aside ≡ []
still_none {S = S} means r t k j none keeps = behind keeps.gone j.aside (sym keeps.aside ∙ none)
  where
    behind : (xs ys : List (Mark S)) → xs ++ ys ≡ [] → ys ≡ []
    behind [] ys e = e
    behind (x ∷ xs) ys e = absurd (let n = ap length e in omega arith)

-- the tokens that are taken then lie behind the row that was joined
pub over_finished : (t : List ℕ) (end count before taken via to : ℕ) → IsUtf8 t → IsBorder t end → IsBorder t via → (count ≤ before → MovesOver t end (before - count) via) → end ≤ via → before ≤ taken → MovesOver t via (taken - before) to → count ≤ taken →
    MovesOver t end (taken - count) to
over_finished t end count before taken via to utf8 row border joined behind more on le = by (order count before)
  where
    P : ℕ → Type 0
    P n = MovesOver t end n to

    order : (a b : ℕ) → (a ≤ b) ⊎ (b < a)
    order a b = grind arith

    by : (count ≤ before) ⊎ (before < count) → MovesOver t end (taken - count) to
    by (inl was) = let e : before - count + (taken - before) ≡ taken - count = omega arith in subst P e (moves_on t end (before - count) via (taken - before) to (joined was) on)
    by (inr first) =
        let all = moves_on t end 0 via (taken - before) to (from_border t end via utf8 row border behind) on in
        let counted = all.counted in
        record { tokens = all.tokens; cuts = all.cuts; counted = omega arith }
