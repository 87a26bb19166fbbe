use Rattle.std.proofs.Common.{◌≡◌, ◌≤◌, length, rules}
use Rattle.nx_text.proofs.Gaps.{put_first, copied_back}
use Rattle.nx_text.proofs.gap_buffer.GapBuffer.copy_range.Goals as goal

pub returns-then-from-gap : goal.returns-then-from-gap
returns-then-from-gap g c =
    let s = c.args.self.now in let start = c.self.inside.start in
    let len : length s.front ≡ start = search rules in
    let past : start ≤ c.args.from = search rules in
    copied_back s.front s.back c.back.result.now c.extend_from_slice-then-from-gap.new.self.items c.args.from c.args.to start
    c.requires.ordered len past c.back.ensures (put_first _ _ _ c.clear.ensures.items c.in_ok-extend_from_slice-2.ensures.items)
