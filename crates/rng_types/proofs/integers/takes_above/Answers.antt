use Rattle.std.proofs.Common.{◌≡◌, sym, ap, ◌∙◌, ◌+◌}
use Rattle.std.specs.Prelude.{ℕ, List, true, pos, ◌+ℤ◌, ◌-ℤ◌, ◌==◌, ◌&&◌}
use Rattle.std.proofs.lemmas.Bool.{and_parts}
use Rattle.std.specs.Str.{is_utf8}
use Rattle.rng_types.specs.Spaces.{collapsed}
use Rattle.rng_types.specs.Numbers.{is_integer, is_decimal}
use Rattle.rng_types.specs.Offsets.{whole_number, offset_of}
use Rattle.rng_types.specs.NumberMembers.{is_integer_except, takes_number, over}
use Rattle.rng_types.proofs.Raised.{taken_by_offset, decimal_literal}
use Rattle.rng_types.proofs.integers.takes_above.Goals as goal

pub number_word-requires : goal.number_word-requires
number_word-requires c =
    let own : (is_utf8 c.in-Own.own && is_integer (collapsed c.in-Own.own)) ≡ true = ap is_integer_except (sym c.in-Own.is) ∙ c.requires.other in
    ap (λ (t : List ℕ). is_utf8 t && is_decimal (collapsed t)) c.as_slice.ensures ∙ decimal_literal c.in-Own.own own

pub returns-in-Own : goal.returns-in-Own
returns-in-Own c =
    let low = whole_number c.args.low.now in
    let own : (is_utf8 c.in-Own.own && is_integer (collapsed c.in-Own.own)) ≡ true = ap is_integer_except (sym c.in-Own.is) ∙ c.requires.other in
    ap (λ n. n == 1000 + c.args.above) (c.offset.ensures ∙ ap (λ (t : List ℕ). offset_of (whole_number t -ℤ low)) (c.number_word.ensures ∙ ap collapsed c.as_slice.ensures))
    ∙ taken_by_offset low c.args.above c.in-Own.own (and_parts (is_utf8 c.in-Own.own) (is_integer (collapsed c.in-Own.own)) own).1 c.requires.near
    ∙ ap (takes_number (over 0 (low +ℤ pos c.args.above))) (sym c.in-Own.is)
