use Rattle.std.proofs.Common.{List, Option, ℕ, sym, subst}
use Rattle.deriv_memory.specs.declared.asked.Asked.{Asked}
use Rattle.deriv_memory.specs.AtHand.{AreNoted}
use Rattle.deriv_memory.proofs.Holding.{noted_still, noted_plain}
use Rattle.deriv_memory.proofs.memory.Memory.note_plain.Goals as goal

pub invariant_of-self : goal.invariant_of-self
invariant_of-self c = (
  c.self.invariant.0,
  noted_still c.self.inside.answers.entries c.self.inside.at_hand c.make_row.new.self c.make_row.ensures.rows c.make_row.ensures.slots c.make_row.ensures.blocks c.self.invariant.1,
)

pub invariant_of-self-in_err-insert : goal.invariant_of-self-in_err-insert
invariant_of-self-in_err-insert c =
    let P : List (Asked × Option ℕ) → Type 0 = λ answers. AreNoted answers c.make_row.new.self in (
      c.self.invariant.0,
      subst P (sym c.in_err-insert.ensures.err)
          (noted_still c.self.inside.answers.entries c.self.inside.at_hand c.make_row.new.self c.make_row.ensures.rows c.make_row.ensures.slots c.make_row.ensures.blocks c.self.invariant.1),
    )

pub invariant_of-self-2 : goal.invariant_of-self-2
invariant_of-self-2 c =
    let right = noted_still c.self.inside.answers.entries c.self.inside.at_hand c.make_row.new.self c.make_row.ensures.rows c.make_row.ensures.slots c.make_row.ensures.blocks c.self.invariant.1 in (
      c.self.invariant.0,
      noted_plain c.self.inside.answers.entries c.insert.new.self.entries c.make_row.new.self c.put_plain.new.self c.args.call c.args.answer
          c.args.number c.requires.plain c.requires.says c.in_ok-insert.ensures.updates.0 c.put_plain.ensures.rows c.put_plain.ensures.slots c.put_plain.ensures.blocks right,
    )
