use Rattle.std.proofs.Common.{ℕ, ◌≡◌, ◌∙◌, ◌+◌, ap, subst, arith}
use Rattle.nx_scan.specs.Tag.{left_of, left_after, IsReadTo}
use Rattle.nx_scan.proofs.TagEnds.{is_open}
use Rattle.nx_scan.proofs.TagParts.{byte-on, passed-on}
use Rattle.nx_scan.proofs.tag_part.read_on.Goals as goal

pub loop-n-init : goal.loop-n-init
loop-n-init c = (
  omega arith,
  λ at so_far.
      (let start : c.args.place ≡ c.args.place + 0 = omega arith in
      subst (λ (k : ℕ). IsReadTo c.args.text.now at k c.args.seen) start so_far),
)

pub loop-n-preserved : goal.loop-n-preserved
loop-n-preserved c =
    let open_next = is_open c.then-next.result c.in_default.not-Start c.in_default.not-Empty c.in_default.not-End c.in_default.not-Lost in
    let text = c.args.text.now in let piece = c.piece_at-piece.result.now in let i = c.loop-n.n in let passed = c.pass_on-passed.result in (
      c.pass_on-passed.ensures.within,
      λ at so_far.
          passed-on text piece at c.args.place (i + 1) passed.to c.then-next.result passed.seen c.requires.utf8 c.piece_at-piece.ensures.piece
          c.pass_on-passed.ensures.further c.pass_on-passed.ensures.within c.pass_on-passed.ensures.passes open_next
          (byte-on text piece at c.args.place i c.loop-n.so_far c.then-next.result c.requires.utf8 c.piece_at-piece.ensures.piece
          c.loop-n-test.true (omega arith) (c.then-next.ensures ∙ ap (left_after (left_of c.loop-n.so_far)) c.from.ensures) open_next
          (c.loop-n.invariant.1 at so_far)),
    )
