-- Another state of the same meaning may stand at the frontier, as after a step that is refused.
use Rattle.std.proofs.Common.{◌≡◌, ℕ, ◌+◌, List, ◌∷◌, refl, sym, ap, ◌∙◌}
use Rattle.nx_base.specs.Rules.{Rules}
use Rattle.nx_marks.specs.Chain.{reach, Kept}
use Rattle.nx_marks.specs.Editing.{noted}
use Rattle.nx_marks.specs.Right.{tags_behind, IsRight}
use Rattle.nx_marks.specs.Ruling.{is_due}
use Rattle.nx_marks.specs.declared.mark.Mark.{Mark}
use Rattle.nx_marks.proofs.Taking.{chain-tail, chain-with, first-with, other-here}

pub same_right : {S M : Type 0} (is_state : S → Type 0) (means : S → M) (r : Rules M) (t : List ℕ) (k : Kept S) (here : Mark S) → here.whole ≡ k.here.whole → here.len ≡ k.here.len → is_state here.state →
    means here.state ≡ means k.here.state → IsRight is_state means r t k → IsRight is_state means r t (record { front = k.front; here = here; marked = k.marked; aside = k.aside })
same_right {M = M} is_state means r t k here w n own same h =
    let at : ℕ = 0 + reach k.front in
    let tail = chain-tail is_state means r t 0 at k.front (k.here ∷ k.aside) refl h.holds.chain in
    let on = other-here is_state means r t at at k.here here k.aside h.holds.ends (w ∙ h.holds.ends) own (ap (λ m. at + m) (sym n)) tail in
    record {
      holds = record {
        first = first-with is_state means r t k.front k.here here k.aside k.aside r.first same h.holds.first;
        chain = chain-with is_state means r t 0 at k.front k.here here k.aside k.aside refl same h.holds.chain on;
        whole = h.holds.whole;
        ends = w ∙ h.holds.ends;
      };
      rule = record {
        rule = λ no. ap (λ m. is_due r m (tags_behind k.front)) same ∙ h.rule.rule no;
        some = h.rule.some;
        mark = λ yes. ap r.back same ∙ h.rule.mark yes;
        saved = h.rule.saved;
      };
    }

-- the frontier's state may say whether it is a mark
pub note_right : {S M : Type 0} (is_state : S → Type 0) (means : S → M) (r : Rules M) (t : List ℕ) (k : Kept S) → IsRight is_state means r t k → IsRight is_state means r t (noted k)
note_right is_state means r t k h =
    let own = (chain-tail is_state means r t 0 (0 + reach k.front) k.front (k.here ∷ k.aside) refl h.holds.chain).0 in
    same_right is_state means r t k (noted k).here refl refl own refl h
