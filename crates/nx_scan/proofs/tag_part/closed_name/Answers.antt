use Rattle.std.proofs.Common.{rules, ◌≡◌, ℕ, ◌+◌, true, subst, arith}
use Rattle.nx_scan.specs.Tag.{is_name_byte}
use Rattle.nx_scan.proofs.TagParts.{there}
use Rattle.nx_scan.proofs.tag_part.closed_name.Goals as goal

pub returns-then-bytes-close-eq62 : goal.returns-then-bytes-close-eq62
returns-then-bytes-close-eq62 c =
    record {
      some = omega arith;
      within = c.if-close-bytes.true;
      low = search rules;
      first = search rules;
      others = λ k less.
          subst (λ (byte : ℕ). is_name_byte byte ≡ true) (there (c.args.from + 1) k c.args.bytes.now)
          (c.closed_len.ensures.names k (omega (arith, less)));
      closed = search rules;
    }
