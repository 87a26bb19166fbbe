use Rattle.std.proofs.Common.{◌≡◌, ◌∙◌, ◌-◌, ◌≤◌, ◌++◌, List, ℕ, true, false, length, take, ap, ap₂, sym, subst, rules}
use Rattle.std.specs.Prelude.{nat_lt, chars}
use Rattle.std.specs.List.{suffix_len}
use Rattle.std.proofs.lemmas.Bool.{ltb-true}
use Rattle.unicode_width.specs.Width.{str_width}
use Rattle.nx_text.specs.Places.{is_in_line, column_at}
use Rattle.nx_text.proofs.Sides.{line_behind}
use Rattle.nx_text.proofs.text.Text.column_of.Goals as goal

pub returns-then-has_feed-clause-column : goal.returns-then-has_feed-clause-column
returns-then-has_feed-clause-column c =
    let front = c.self.inside.bytes.front in let back = c.self.inside.bytes.back in let at = c.args.at in
    let gap : c.front_len-gap.result ≡ length front = c.front_len-gap.ensures in
    let past : length front ≤ at = search rules in
    let short : at ≤ length (front ++ back) = subst (λ (t : List ℕ). at ≤ length t) (sym c.self.view_is) c.requires.0 in
    let found : true ≡ nat_lt (suffix_len is_in_line (take (at - length front) back)) (at - length front) =
    c.if-has_feed.ensures ∙ ap₂ (λ t k. nat_lt (suffix_len is_in_line (take (at - k) t)) (at - k)) c.back.ensures gap in
    let less = ltb-true (suffix_len is_in_line (take (at - length front) back)) (at - length front) (sym found) in
    c.column_in-then-has_feed.ensures
    ∙ ap₂ (λ t k. column_at t (at - k)) (c.as_text-then-has_feed.ensures ∙ c.back-then-has_feed.ensures) gap
    ∙ ap (λ t. str_width false (chars t)) (line_behind front back at past short less) ∙ ap (λ t. column_at t at) c.self.view_is
