use Rattle.std.proofs.Common.{◌≡◌, List, ℕ, [], length, ap, refl, sym, subst, ◌∙◌, arith}
use Rattle.std.proofs.lemmas.Str.{IsUtf8-nil}
use Rattle.nx_marks.specs.Chain.{frontier_of}
use Rattle.nx_session.specs.Reading.{IsReadRight, meant}
use Rattle.nx_session.proofs.Carets.{caret_stands}
use Rattle.nx_session.proofs.Edited.{shown_is_edited}
use Rattle.nx_session.proofs.Sessions.{seen}
use Rattle.nx_session.proofs.Views.{moved_views}
use Rattle.nx_session.proofs.session.Session.delete.Goals as goal

pub invariant_of-self : goal.invariant_of-self
invariant_of-self g c =
    let done = c.in-Ok.ensures in
    let Q : List ℕ → Type 0 = λ new. IsReadRight new c.self.inside.machine.matcher c.edit.new.self.kept in
    record {
      well = record {
        live = c.self.invariant.well.live;
        sound = c.self.invariant.well.sound;
        read = subst Q (sym done.1)
            (c.edit.ensures.right c.self.inside.machine c.self.inside.text [] c.len-len.ensures.utf8 IsUtf8-nil done.0.start done.0.end done.0.ordered refl (omega (arith, c.len-len.ensures.bytes)) (omega (arith, ap (λ (t : List ℕ). length t) done.1, c.len-new_len.ensures.bytes)) c.self.invariant.well.read);
      };
      place = caret_stands c.self.inside.text [] c.delete.new.self c.args.from c.args.to c.self.inside.caret c.moved_caret-self-inside.result 0
          c.edited_keeps_rest.ensures c.len-len.ensures.utf8 c.len-new_len.ensures.utf8 done.1 done.0.start done.0.ordered done.0.end.0 (omega (arith, c.len-new_len.ensures.bytes)) refl c.self.invariant.place c.moved_caret-self-inside.ensures;
    }

pub returns-in-Ok-clause-step : goal.returns-in-Ok-clause-step
returns-in-Ok-clause-step g c =
    let done = c.in-Ok.ensures in
    rw (← c.self.view_is) (
      done.0,
      record {
        editor = shown_is_edited (seen c.self.inside.text c.self.inside.caret c.self.inside.document c.self.inside.machine.matcher c.self.inside.locating (frontier_of c.self.inside.marks.kept) c.self.inside.marks.taken) c.args.from c.args.to [] c.delete.new.self c.moved_caret-self-inside.result (frontier_of c.edit.new.self.kept) c.edit.new.self.taken 0
            done.1 c.moved_caret-self-inside.ensures refl c.edit.ensures.taken;
        frontier = c.edit.ensures.frontier;
        border = c.frontier_is_border.ensures c.self.inside.machine c.delete.new.self c.edit.new.self.kept c.len-new_len.ensures.utf8 (invariant_of-self g c).well.read;
      },
    )

pub returns-in-Ok-clause-views_text : goal.returns-in-Ok-clause-views_text
returns-in-Ok-clause-views_text g c = moved_views _ _ _ c.shift_all.ensures

pub returns-in-Ok-clause-marks : goal.returns-in-Ok-clause-marks
returns-in-Ok-clause-marks g c =
    let done = c.in-Ok.ensures in
    let kept = c.self.inside.marks.kept in
    let told = c.edit.ensures.told c.self.inside.machine c.self.inside.text [] c.len-len.ensures.utf8 IsUtf8-nil done.0.start done.0.end done.0.ordered refl (omega (arith, c.len-len.ensures.bytes)) (omega (arith, ap (λ (t : List ℕ). length t) done.1, c.len-new_len.ensures.bytes)) c.self.invariant.well.read in
    rw (← c.self.view_is) (ap (meant c.self.inside.machine.matcher) told ∙ c.edits_look_at_no_state.ensures c.self.inside.machine c.args.from c.args.to 0 kept)
