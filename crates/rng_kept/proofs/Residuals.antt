-- What is left behind events, computed.
use Rattle.std.proofs.Common.{refl}
use Rattle.std.specs.Str.{chars, is_utf8}
use lib.Utf8.{encode}
use Rattle.nx_base.specs.Characters.{is_char, is_space, is_name_start, is_name_char}
use Rattle.rng_kept.specs.SmallPatterns.{star}
use Rattle.rng_kept.specs.Examples.{LeavesResiduals, ShufflesChildren, SharesWays, NeedsElements}

pub leaves_residuals : LeavesResiduals
unfolding star is_char is_space is_name_start is_name_char chars is_utf8 encode
leaves_residuals = record {
  no_para = refl;
  no_skip_to_para = refl;
  a_doc = refl;
  no_such_id = refl;
  some_id = refl;
  no_end_yet = refl;
  id_is_required = refl;
  title_is_not = refl;
  no_more_is = refl;
  an_end = refl;
  no_para_yet = refl;
  no_leave_yet = refl;
  no_text = refl;
  no_text_whatever = refl;
  a_blank = refl;
  skip_to_para = refl;
  skip_to_end = refl;
  end_without_id = refl;
}

pub shuffles_children : ShufflesChildren
unfolding star is_char is_space is_name_start is_name_char chars is_utf8 encode
shuffles_children = record { a_b_a = refl; no_second_b = refl; no_end_without_a = refl }

pub shares_ways : SharesWays
unfolding star is_char is_space is_name_start is_name_char chars is_utf8 encode
shares_ways = record { one_way = refl; either_then_either = refl; none_behind = refl }

pub needs_elements : NeedsElements
unfolding star is_char is_space is_name_start is_name_char chars is_utf8 encode
needs_elements = record {
  a_title_before_a_para = refl;
  a_title_in_all = refl;
  neither_of_a_choice = refl;
  all_but_what_is_optional = refl;
  both_of_an_interleave = refl;
  none_in_front_of_the_other_side = refl;
}
