use Rattle.std.proofs.Common.{◌∙◌, List, ℕ, subst, sym}
use Rattle.std.specs.Str.{IsUtf8}
use Rattle.std.proofs.lemmas.Str.{IsUtf8-between}
use Rattle.nx_base.specs.Text.{IsPlace}
use Rattle.nx_text.specs.Feeds.{joined}
use Rattle.nx_text.proofs.Sides.{kept_utf8}
use Rattle.nx_text.proofs.text.Text.copy_range_into.Goals as goal

pub returns-clause-utf8 : goal.returns-clause-utf8
returns-clause-utf8 c =
    let text = joined c.self.inside.bytes in
    let whole = kept_utf8 c.self.inside.bytes c.self.inside.feeds c.self.invariant in
    let from = subst (λ (t : List ℕ). IsPlace t c.args.from) (sym c.self.view_is) c.requires.from in
    let to = subst (λ (t : List ℕ). IsPlace t c.args.to) (sym c.self.view_is) c.requires.to in
    subst IsUtf8 (sym (c.from_vec.ensures ∙ c.in_ok-copy_range.ensures))
    (IsUtf8-between text c.args.from c.args.to whole c.requires.ordered from to)
