use Rattle.std.proofs.Common.{◌≡◌, ◌∙◌, ◌+◌, ◌-◌, length, take, drop, ap, arith, take_all}
use Rattle.std.specs.List.{prefix_len}
use Rattle.std.proofs.lemmas.List.{length-drop}
use Rattle.nx_scan.specs.Tag.{is_value_byte}
use Rattle.nx_scan.proofs.Runs.{run-stops, run-through}
use Rattle.nx_scan.proofs.tag_part.value_len.Goals as goal

pub returns-then-run-lt-LANES-clause-len : goal.returns-then-run-lt-LANES-clause-len
returns-then-run-lt-LANES-clause-len c =
    run-stops (is_value_byte c.args.quote) c.args.bytes.now c.value_run-run.result c.if-bytes-lt-LANES.false c.value_run-run.ensures c.if-run-lt-LANES.true

pub returns-clause-len : goal.returns-clause-len
returns-clause-len c =
    let bytes = c.args.bytes.now in
    let rest : take (length bytes - 16) (drop 16 bytes) ≡ drop 16 bytes =
    take_all (length bytes - 16) (drop 16 bytes) (omega (arith, length-drop 16 bytes)) in
    ap (λ n. 16 + n) (c.short_value_len-2.ensures.len ∙ ap (prefix_len (is_value_byte c.args.quote)) rest)
    ∙ run-through (is_value_byte c.args.quote) bytes c.value_run-run.result c.if-bytes-lt-LANES.false c.value_run-run.ensures c.if-run-lt-LANES.false
