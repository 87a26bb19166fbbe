use Rattle.std.proofs.Common.{ℕ, List, sym, ap, ◌∙◌, arith}
use Rattle.std.proofs.lemmas.List.{take_rest}
use Rattle.nx_base.specs.Characters.{is_name_char}
use Rattle.nx_events.specs.Utf8.{front_char}
use Rattle.nx_events.proofs.References.{name_goes_on, name_stops, name_ends}
use Rattle.nx_events.proofs.reference.name_chars_len.Goals as goal

pub loop-i-preserved : goal.loop-i-preserved
loop-i-preserved c =
    let bytes = c.args.bytes.now in
    let goes = sym (ap (λ (x : List ℕ). is_name_char (front_char x)) (take_rest bytes c.loop-i.i)) ∙ sym (ap is_name_char c.front_char.ensures) ∙ sym c.is_name_char.ensures ∙ c.if-not-is_name_char.false in
    (omega (arith, c.min-i.ensures), name_goes_on bytes c.loop-i.i c.min-i.result c.continuation_len.result (omega arith) goes c.continuation_len.ensures c.min-i.ensures ∙ c.loop-i.invariant.1)

pub returns-then-not-is_name_char-clause-value : goal.returns-then-not-is_name_char-clause-value
returns-then-not-is_name_char-clause-value c =
    let bytes = c.args.bytes.now in
    let stops = name_stops _ (sym (ap (λ (x : List ℕ). is_name_char (front_char x)) (take_rest bytes c.loop-i.i)) ∙ sym (ap is_name_char c.front_char.ensures) ∙ sym c.is_name_char.ensures ∙ c.if-not-is_name_char.true) in
    omega (arith, stops, c.loop-i.invariant.1)

pub returns-clause-value : goal.returns-clause-value
returns-clause-value c = let ends = name_ends c.args.bytes.now c.loop-i.i (omega arith) in omega (arith, ends, c.loop-i.invariant.1)
