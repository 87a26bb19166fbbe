use Rattle.std.proofs.Common.{◌≡◌, ℕ, List, [], get_or, refl, sym, ap, subst, ◌∙◌}
use Rattle.std.specs.Prelude.{IsUtf8}
use Rattle.nx_events.specs.declared.prefix.TagPrefix.TheVariants.{Elsewhere}
use Rattle.nx_complete.proofs.Prefixed.{is_elsewhere, begins_tag, prefix_text}
use Rattle.nx_complete.proofs.answers.answer.Goals as goal

pub returns-then-as_slice-ne60-clause-answer : goal.returns-then-as_slice-ne60-clause-answer
returns-then-as_slice-ne60-clause-answer g c = record {
  prefix = Elsewhere;
  is = is_elsewhere _ (λ e. c.if-as_slice-ne60.true (ap (λ (l : List ℕ). get_or l 0 0) (c.as_slice.ensures ∙ c.in_ok-bytes.ensures) ∙ e));
  are = refl;
}

pub tag_prefix-requires-clause-begins : goal.tag_prefix-requires-clause-begins
tag_prefix-requires-clause-begins g c = begins_tag c.in_ok-bytes.bytes (ap (λ (l : List ℕ). get_or l 0 0) (sym c.as_slice.ensures) ∙ c.if-as_slice-ne60.false)

pub prefix_answer-requires-clause-text : goal.prefix_answer-requires-clause-text
prefix_answer-requires-clause-text g c =
    prefix_text c.args.state.now.events c.in_ok-bytes.bytes c.in_ok-prefix.prefix (subst (λ (l : List ℕ). IsUtf8 l) (sym c.in_ok-bytes.ensures) c.requires.utf8) c.requires.text c.in_ok-prefix.ensures
