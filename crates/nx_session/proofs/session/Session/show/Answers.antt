use Rattle.std.proofs.Common.{◌≡◌, ◌≤◌, List, ℕ, length, ap, sym, subst, ◌∙◌, arith}
use Rattle.std.proofs.lemmas.Str.{IsCharBoundary-start, IsCharBoundary-end}
use Rattle.nx_base.specs.Text.{IsPlace}
use Rattle.nx_marks.specs.Editing.{edit_kept}
use Rattle.nx_session.specs.Reading.{IsReadRight, meant}
use Rattle.nx_session.proofs.Replacing.{edited_whole}
use Rattle.nx_session.proofs.session.Session.show.Goals as goal

pub invariant_of-self : goal.invariant_of-self
invariant_of-self g c =
    let text = c.self.inside.text in
    let P : ℕ → Type 0 = λ n. IsPlace text n in
    let Q : List ℕ → Type 0 = λ new. IsReadRight new c.self.inside.machine.matcher c.edit.new.self.kept in
    record {
      well = record {
        live = c.self.invariant.well.live;
        sound = c.self.invariant.well.sound;
        read = subst Q (edited_whole text c.args.text c.len.result c.len.ensures.bytes)
            (c.edit.ensures.right c.self.inside.machine text c.args.text c.len.ensures.utf8 c.len-2.ensures.utf8 (IsCharBoundary-start text c.len.ensures.utf8)
            (subst P (sym c.len.ensures.bytes) (IsCharBoundary-end text)) (omega arith) c.len-2.ensures.bytes (omega (arith, c.len.ensures.bytes)) (omega (arith, ap (λ (t : List ℕ). length t) (edited_whole text c.args.text c.len.result c.len.ensures.bytes), c.len-2.ensures.bytes)) c.self.invariant.well.read);
      };
      place = IsCharBoundary-start c.args.text c.len-2.ensures.utf8;
    }

pub returns-clause-marks : goal.returns-clause-marks
returns-clause-marks g c =
    let text = c.self.inside.text in
    let matcher = c.self.inside.machine.matcher in
    let kept = c.self.inside.marks.kept in
    let P : ℕ → Type 0 = λ n. IsPlace text n in
    let told = c.edit.ensures.told c.self.inside.machine text c.args.text c.len.ensures.utf8 c.len-2.ensures.utf8 (IsCharBoundary-start text c.len.ensures.utf8)
    (subst P (sym c.len.ensures.bytes) (IsCharBoundary-end text)) (omega arith) c.len-2.ensures.bytes (omega (arith, c.len.ensures.bytes)) (omega (arith, ap (λ (t : List ℕ). length t) (edited_whole text c.args.text c.len.result c.len.ensures.bytes), c.len-2.ensures.bytes)) c.self.invariant.well.read in
    rw (← c.self.view_is) (ap (meant matcher) told ∙ c.edits_look_at_no_state.ensures c.self.inside.machine 0 c.len.result c.len-2.result kept
    ∙ ap (λ n. edit_kept 0 n c.len-2.result (meant matcher kept)) c.len.ensures.bytes ∙ ap (λ n. edit_kept 0 (length text) n (meant matcher kept)) c.len-2.ensures.bytes)
