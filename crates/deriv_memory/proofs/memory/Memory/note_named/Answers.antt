use Rattle.std.proofs.Common.{List, Option, ℕ, sym, ◌∙◌, subst}
use Rattle.std.proofs.lemmas.Bool.{not-false}
use Rattle.deriv_memory.specs.declared.asked.Asked.{Asked}
use Rattle.deriv_memory.specs.AtHand.{AreNoted}
use Rattle.deriv_memory.proofs.Holding.{noted_still, noted_named, noted_anew, noted_again}
use Rattle.deriv_memory.proofs.memory.Memory.note_named.Goals as goal

pub invariant_of-self : goal.invariant_of-self
invariant_of-self c = (
  c.self.invariant.0,
  noted_still c.self.inside.answers.entries c.self.inside.at_hand c.make_places.new.self c.make_places.ensures.rows c.make_places.ensures.slots c.make_places.ensures.blocks c.self.invariant.1,
)

pub invariant_of-self-in_err-insert : goal.invariant_of-self-in_err-insert
invariant_of-self-in_err-insert c =
    let P : List (Asked × Option ℕ) → Type 0 = λ answers. AreNoted answers c.make_places.new.self in (
      c.self.invariant.0,
      subst P (sym c.in_err-insert.ensures.err)
          (noted_still c.self.inside.answers.entries c.self.inside.at_hand c.make_places.new.self c.make_places.ensures.rows c.make_places.ensures.slots c.make_places.ensures.blocks c.self.invariant.1),
    )

pub invariant_of-self-in-None : goal.invariant_of-self-in-None
invariant_of-self-in-None c =
    let right = noted_still c.self.inside.answers.entries c.self.inside.at_hand c.make_places.new.self c.make_places.ensures.rows c.make_places.ensures.slots c.make_places.ensures.blocks c.self.invariant.1 in
    let updates = c.in_ok-insert.ensures.updates in (
      c.self.invariant.0,
      noted_named c.self.inside.answers.entries c.insert.new.self.entries c.make_places.new.self c.put_named.new.self c.args.call c.args.answer
          c.requires.named updates.0 updates.1 (sym c.in-None.is ∙ c.in_ok-insert.ensures.old) c.put_named.ensures.rows
          (c.put_named.ensures.slots c.args.answer c.requires.says)
          (c.put_named.ensures.blocks c.args.answer c.requires.says) right,
    )

pub invariant_of-self-then-ne : goal.invariant_of-self-then-ne
invariant_of-self-then-ne c =
    let right = noted_still c.self.inside.answers.entries c.self.inside.at_hand c.make_places.new.self c.make_places.ensures.rows c.make_places.ensures.slots c.make_places.ensures.blocks c.self.invariant.1 in (
      c.self.invariant.0,
      noted_anew c.self.inside.answers.entries c.insert.new.self.entries c.make_places.new.self c.clear_named.new.self c.args.call c.args.answer
          c.requires.named c.in_ok-insert.ensures.updates.0 c.clear_named.ensures.rows c.clear_named.ensures.slots c.clear_named.ensures.blocks right,
    )

pub invariant_of-self-else-ne : goal.invariant_of-self-else-ne
invariant_of-self-else-ne c =
    let right = noted_still c.self.inside.answers.entries c.self.inside.at_hand c.make_places.new.self c.make_places.ensures.rows c.make_places.ensures.slots c.make_places.ensures.blocks c.self.invariant.1 in
    let same = not-false _ (sym c.ne.ensures ∙ c.if-ne.false) in (
      c.self.invariant.0,
      noted_again c.self.inside.answers.entries c.insert.new.self.entries c.make_places.new.self c.args.call c.in-Some.before c.args.answer
          (sym c.in-Some.is ∙ c.in_ok-insert.ensures.old) same c.in_ok-insert.ensures.updates.0 right,
    )
