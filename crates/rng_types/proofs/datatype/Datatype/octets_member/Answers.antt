use Rattle.std.proofs.Common.{◌-◌, ap, sym, ◌∙◌, arith}
use Rattle.rng_types.specs.TextMembers.{has_length, least_length}
use Rattle.rng_types.proofs.Allowed.{least_some}
use Rattle.rng_types.proofs.TriedMore.{octets_given, blank_given}
use Rattle.rng_types.proofs.datatype.Datatype.octets_member.Goals as goal

pub overflow_sub-length : goal.overflow_sub-length
overflow_sub-length c = omega (arith, c.in_ok-length.ensures.value, c.least_length-least.ensures, least_some c.as_slice-then-has_length.result.now)

pub returns-then-has_length : goal.returns-then-has_length
returns-then-has_length c =
    octets_given c.args.self.now c.args.more c.args.excepts.now c.args.one_token (c.in_ok-length.length - 1) c.in_ok-found.found c.requires.form c.requires.octets c.requires.made c.requires.few
    (ap has_length (sym c.as_slice.ensures) ∙ sym c.has_length.ensures ∙ c.if-has_length.true)
    (omega (arith, c.in_ok-length.ensures.value, c.least_length-least.ensures, ap least_length c.as_slice-then-has_length.ensures, least_some c.as_slice-then-has_length.result.now)) c.in_ok-found.ensures

pub returns : goal.returns
returns c =
    blank_given c.args.self.now c.args.more c.args.excepts.now c.args.one_token c.in_ok-blank.blank c.requires.form c.requires.octets c.requires.made c.requires.few
    (ap has_length (sym c.as_slice.ensures) ∙ sym c.has_length.ensures ∙ c.if-has_length.false) c.in_ok-blank.ensures
