use Rattle.std.proofs.Common.{◌≡◌, ◌≤◌, List, ℕ, length, ap, sym, subst, ◌∙◌, arith}
use Rattle.nx_base.specs.Text.{edited}
use Rattle.nx_marks.specs.Chain.{frontier_of}
use Rattle.nx_marks.specs.Editing.{edit_kept}
use Rattle.nx_session.specs.Reading.{IsReadRight, meant}
use Rattle.nx_session.proofs.Carets.{caret_stands}
use Rattle.nx_session.proofs.Edited.{shown_is_edited}
use Rattle.nx_session.proofs.Sessions.{seen}
use Rattle.nx_session.proofs.Views.{moved_views}
use Rattle.nx_session.proofs.session.Session.insert.Goals as goal

pub invariant_of-self : goal.invariant_of-self
invariant_of-self g c =
    let done = c.in-Ok.ensures in
    let Q : List ℕ → Type 0 = λ new. IsReadRight new c.self.inside.machine.matcher c.edit.new.self.kept in
    let is : c.insert.new.self ≡ edited c.self.inside.text c.args.at c.args.at c.args.added.now = rw (← c.text_of.ensures) done.1 in
    record {
      well = record {
        live = c.self.invariant.well.live;
        sound = c.self.invariant.well.sound;
        read = subst Q (sym done.1) (rw c.text_of.ensures
            (c.edit.ensures.right c.self.inside.machine c.self.inside.text c.args.added.now c.len-len.ensures.utf8 c.requires done.0 done.0 (omega arith) c.len.ensures (omega (arith, c.len-len.ensures.bytes)) (omega (arith, ap (λ (t : List ℕ). length t) is, c.len-new_len.ensures.bytes)) c.self.invariant.well.read));
      };
      place = caret_stands c.self.inside.text c.args.added.now c.insert.new.self c.args.at c.args.at c.self.inside.caret c.moved_caret-self-inside.result c.len.result
          c.edited_keeps_rest.ensures c.len-len.ensures.utf8 c.len-new_len.ensures.utf8 is done.0 (omega arith) done.0.0 (omega (arith, c.len-new_len.ensures.bytes)) c.len.ensures c.self.invariant.place c.moved_caret-self-inside.ensures;
    }

pub returns-in-Ok-clause-step : goal.returns-in-Ok-clause-step
returns-in-Ok-clause-step g c =
    let done = c.in-Ok.ensures in
    let text : c.insert.new.self ≡ edited c.self.inside.text c.args.at c.args.at c.args.added.now = rw (← c.text_of.ensures) done.1 in
    rw (← c.self.view_is) (
      done.0,
      record {
        editor = shown_is_edited (seen c.self.inside.text c.self.inside.caret c.self.inside.document c.self.inside.machine.matcher c.self.inside.locating (frontier_of c.self.inside.marks.kept) c.self.inside.marks.taken) c.args.at c.args.at c.args.added.now c.insert.new.self c.moved_caret-self-inside.result (frontier_of c.edit.new.self.kept) c.edit.new.self.taken c.len.result
            text c.moved_caret-self-inside.ensures c.len.ensures c.edit.ensures.taken;
        frontier = c.edit.ensures.frontier;
        border = c.frontier_is_border.ensures c.self.inside.machine c.insert.new.self c.edit.new.self.kept c.len-new_len.ensures.utf8 (invariant_of-self g c).well.read;
      },
    )

pub returns-in-Ok-clause-views_text : goal.returns-in-Ok-clause-views_text
returns-in-Ok-clause-views_text g c = moved_views _ _ _ c.shift_all.ensures

pub returns-in-Ok-clause-marks : goal.returns-in-Ok-clause-marks
returns-in-Ok-clause-marks g c =
    let done = c.in-Ok.ensures in
    let matcher = c.self.inside.machine.matcher in
    let kept = c.self.inside.marks.kept in
    let is : c.insert.new.self ≡ edited c.self.inside.text c.args.at c.args.at c.args.added.now = rw (← c.text_of.ensures) done.1 in
    let told = c.edit.ensures.told c.self.inside.machine c.self.inside.text c.args.added.now c.len-len.ensures.utf8 c.requires done.0 done.0 (omega arith) c.len.ensures (omega (arith, c.len-len.ensures.bytes)) (omega (arith, ap (λ (t : List ℕ). length t) is, c.len-new_len.ensures.bytes)) c.self.invariant.well.read in
    rw (← c.self.view_is) (ap (meant matcher) told ∙ c.edits_look_at_no_state.ensures c.self.inside.machine c.args.at c.args.at c.len.result kept
    ∙ ap (λ n. edit_kept c.args.at c.args.at n (meant matcher kept)) c.len.ensures)
