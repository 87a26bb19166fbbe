use Rattle.std.proofs.Common.{refl, ap, ◌∙◌, ◌<◌, ◌≤◌, length, arith}
use Rattle.std.specs.List.{prefix_len}
use Rattle.deriv_plain.specs.Ways.{way_of}
use Rattle.deriv_plain.proofs.Joined.{is_apart, joined_at, added_behind}
use Rattle.deriv_plain.proofs.merging.with_way.Goals as goal

pub returns-in_ok-ways : goal.returns-in_ok-ways
returns-in_ok-ways c =
    let first = c.count_apart-apart.ensures ∙ ap (λ xs. prefix_len (is_apart (way_of c.args.way)) xs) c.as_slice.ensures.value in
    let inside : c.count_apart-apart.result < length c.args.ways.items = omega (arith, c.len.ensures, c.args.ways.ok.0, c.if-apart-len.true) in
    joined_at (way_of c.args.way) c.args.ways.items c.count_apart-apart.result c.index.result.now c.in_ok-ways.field-0 first inside c.index.ensures c.in_ok-ways.ensures

pub returns-in_ok-push : goal.returns-in_ok-push
returns-in_ok-push c =
    let first = c.count_apart-apart.ensures ∙ ap (λ xs. prefix_len (is_apart (way_of c.args.way)) xs) c.as_slice.ensures.value in
    let all : length c.args.ways.items ≤ c.count_apart-apart.result = omega (arith, c.len.ensures, c.args.ways.ok.0, c.if-apart-len.false) in
    added_behind (way_of c.args.way) c.args.ways.items c.push.new.self.items c.args.way c.count_apart-apart.result refl c.in_ok-push.ensures.items first all
