use Rattle.std.proofs.Common.{◌≡◌, ◌∙◌, ◌≤◌, List, ℕ, length, subst, sym, refl, ap, rules}
use Rattle.std.specs.Prelude.{min, max}
use Rattle.std.proofs.lemmas.Str.{IsCharBoundary-at_seam}
use Rattle.nx_base.specs.Text.{IsPlace}
use Rattle.nx_text.specs.Feeds.{joined}
use Rattle.nx_text.proofs.Sides.{kept_utf8, place_between, front_text, back_text}
use Rattle.nx_text.proofs.text.Text.cut.Goals as goal

pub move_gaps-requires-clause-place : goal.move_gaps-requires-clause-place
move_gaps-requires-clause-place c =
    let bytes = c.self.inside.bytes in let text = joined bytes in
    let from = subst (λ (t : List ℕ). IsPlace t c.args.from) (sym c.self.view_is) c.requires.start in
    let to = subst (λ (t : List ℕ). IsPlace t c.args.to) (sym c.self.view_is) c.requires.end in
    let gap = IsCharBoundary-at_seam text bytes.front bytes.back refl c.self.invariant.back_utf8 in
    let is : c.min-middle.result ≡ min (max (length bytes.front) c.args.from) c.args.to =
    c.min-middle.ensures ∙ ap (λ k. min k c.args.to) (c.max.ensures ∙ ap (λ k. max k c.args.from) c.front_len.ensures) in
    place_between text (length bytes.front) c.args.from c.args.to c.min-middle.result gap from to c.requires.ordered is

pub take_out-requires-clause-front_utf8 : goal.take_out-requires-clause-front_utf8
take_out-requires-clause-front_utf8 c =
    let bytes = c.self.inside.bytes in let text = joined bytes in
    let from = subst (λ (t : List ℕ). IsPlace t c.args.from) (sym c.self.view_is) c.requires.start in
    let low : c.args.from ≤ c.min-middle.result = search rules in
    front_text text c.move_gaps.new.bytes.front c.args.from c.min-middle.result (kept_utf8 bytes c.self.inside.feeds c.self.invariant)
    from low c.move_gaps.ensures.front

pub take_out-requires-clause-back_utf8 : goal.take_out-requires-clause-back_utf8
take_out-requires-clause-back_utf8 c =
    let bytes = c.self.inside.bytes in let text = joined bytes in
    let to = subst (λ (t : List ℕ). IsPlace t c.args.to) (sym c.self.view_is) c.requires.end in
    let high : c.min-middle.result ≤ c.args.to = search rules in
    back_text text c.move_gaps.new.bytes.back c.args.to c.min-middle.result (kept_utf8 bytes c.self.inside.feeds c.self.invariant)
    to high c.move_gaps.ensures.back
