use Rattle.std.proofs.Common.{◌≡◌, ◌<◌, ℕ, Vec, Global, subst, sym, ap, ◌∙◌, length, slice_index}
use Rattle.std.proofs.lemmas.List.{get_or_read}
use Rattle.rng_simplify.proofs.Forming.{item_known, next_joined}
use Rattle.rng_simplify.proofs.form.Forms.behind.Goals as goal

pub of-next-requires : goal.of-next-requires
of-next-requires c =
    let item : c.other.inside.0 ≡ slice_index c.args.others.now c.loop-other.other-index =
    c.other.view_is ∙ get_or_read c.args.others.now c.loop-other.other-index c.other-item.result c.loop-other-test.true c.other-item.is 0 in
    let P : Vec ℕ Global → Type 0 = λ of. slice_index c.args.others.now c.loop-other.other-index < length of.items in
    let Q : ℕ → Type 0 = λ i. i < length c.loop-other.self.of.items in
    subst Q (sym item) (subst P (sym c.loop-other.invariant.of_stays) (item_known _ _ _ _ c.loop-other-test.true c.requires.known).within)

pub loop-other-preserved : goal.loop-other-preserved
loop-other-preserved c =
    let item : c.other.inside.0 ≡ slice_index c.args.others.now c.loop-other.other-index =
    c.other.view_is ∙ get_or_read c.args.others.now c.loop-other.other-index c.other-item.result c.loop-other-test.true c.other-item.is 0 in
    record {
      so_far = next_joined _ _ _ _ _ _ _ _ _ _ _ _ (ap (λ (of : Vec ℕ Global). of.items) c.loop-other.invariant.of_stays) c.loop-other-test.true c.requires.known c.loop-other.invariant.so_far (c.of-next.ensures ∙ ap (slice_index c.loop-other.self.of.items) item) c.in_ok-joined.ensures;
      of_stays = c.loop-other.invariant.of_stays;
    }
