use Rattle.std.proofs.Common.{◌≡◌, ◌≤◌, length, rules}
use Rattle.nx_text.proofs.Gaps.{put_both, copied_both}
use Rattle.nx_text.proofs.gap_buffer.GapBuffer.copy_over_gap.Goals as goal

pub returns : goal.returns
returns g c =
    let s = c.args.self.now in let start = c.self.inside.start in
    let len : length s.front ≡ start = search rules in
    let low : c.args.from ≤ start = search rules in
    let high : start ≤ c.args.to = search rules in
    copied_both s.front s.back c.front.result.now c.back.result.now c.extend_from_slice-2.new.self.items c.args.from c.args.to start
    (search rules) len low high c.front.ensures c.back.ensures
    (put_both _ _ _ _ _ c.requires.empty c.in_ok-extend_from_slice.ensures.items c.in_ok-extend_from_slice-2.ensures.items)
