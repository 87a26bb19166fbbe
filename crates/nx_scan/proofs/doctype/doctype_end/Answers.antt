use Rattle.std.proofs.Common.{◌≡◌, ◌+◌, ◌-◌, sym, ◌∙◌, ap, arith, drop, get_or}
use Rattle.std.specs.Prelude.{◌==◌, not}
use Rattle.std.proofs.lemmas.Bool.{and_parts, eqb-true}
use Rattle.std.specs.Option.{option_map}
use Rattle.nx_base.specs.Tokens.{doctype_bytes}
use Rattle.nx_scan.proofs.Marks.{byte_read, no_byte}
use Rattle.nx_scan.proofs.Doctypes.{declaration-close, declaration-piece, declaration-open, declaration-end}
use Rattle.nx_scan.proofs.doctype.doctype_end.Goals as goal

pub piece_end-requires-clause-within : goal.piece_end-requires-clause-within
piece_end-requires-clause-within c = (byte_read c.args.text.now c.loop-byte.at c.in-Some.byte c.in-Some.ensures.byte).0

pub piece_end-requires-clause-byte : goal.piece_end-requires-clause-byte
piece_end-requires-clause-byte c = (byte_read c.args.text.now c.loop-byte.at c.in-Some.byte c.in-Some.ensures.byte).1

pub loop-byte-preserved : goal.loop-byte-preserved
loop-byte-preserved c =
    let read = byte_read c.args.text.now c.loop-byte.at c.in-Some.byte c.in-Some.ensures.byte in
    record {
      within = c.in_ok-at.ensures.within.1;
      behind = omega (arith, c.in_ok-at.ensures.within.0);
      left =
          c.loop-byte.invariant.left
          ∙ declaration-piece c.args.text.now c.loop-byte.at c.in-Some.byte c.loop-byte.subset read.0 read.1
          (sym c.closes.ensures ∙ c.if-closes.false) c.in_ok-at.at c.in_ok-at.ensures.within.0 c.in_ok-at.ensures.within.1
          c.in_ok-at.ensures.end
          ∙ ap (λ s. option_map (λ n. c.in_ok-at.at + n) (doctype_bytes s 0 (drop c.in_ok-at.at c.args.text.now)))
          (sym c.subset_behind-subset.ensures);
    }

pub returns-then-closes-clause-end : goal.returns-then-closes-clause-end
returns-then-closes-clause-end c =
    let read = byte_read c.args.text.now c.loop-byte.at c.in-Some.byte c.in-Some.ensures.byte in
    sym (c.loop-byte.invariant.left
    ∙ declaration-close c.args.text.now c.loop-byte.at c.in-Some.byte c.loop-byte.subset read.0 read.1
    (sym c.closes.ensures ∙ c.if-closes.true))

pub returns-then-closes-clause-close : goal.returns-then-closes-clause-close
returns-then-closes-clause-close c =
    let read = byte_read c.args.text.now c.loop-byte.at c.in-Some.byte c.in-Some.ensures.byte in
    let byte_is : c.in-Some.byte ≡ 62 =
    eqb-true c.in-Some.byte 62 (and_parts (c.in-Some.byte == 62) (not c.loop-byte.subset) (sym c.closes.ensures ∙ c.if-closes.true)).0 in
    let same : c.loop-byte.at + 1 - 1 ≡ c.loop-byte.at = omega arith in
    (omega arith, omega (arith, read.0), ap (λ n. get_or c.args.text.now n 0) same ∙ read.1 ∙ byte_is)

pub returns-in_err-at-clause-end : goal.returns-in_err-at-clause-end
returns-in_err-at-clause-end c =
    let read = byte_read c.args.text.now c.loop-byte.at c.in-Some.byte c.in-Some.ensures.byte in
    c.from_residual.ensures
    ∙ sym (c.loop-byte.invariant.left
    ∙ declaration-open c.args.text.now c.loop-byte.at c.in-Some.byte c.loop-byte.subset read.0 read.1
    (sym c.closes.ensures ∙ c.if-closes.false) c.in_err-at.ensures.end)

pub returns-clause-end : goal.returns-clause-end
returns-clause-end c =
    sym (c.loop-byte.invariant.left ∙ declaration-end c.args.text.now c.loop-byte.at c.loop-byte.subset (no_byte c.args.text.now c.loop-byte.at c.in_default.ensures.byte))
