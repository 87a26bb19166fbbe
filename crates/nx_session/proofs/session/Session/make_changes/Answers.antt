use Rattle.std.proofs.Common.{◌≡◌, ◌<◌, ◌^◌, List, ℕ, length, ap, refl, sym, subst, ◌∙◌, arith}
use Rattle.nx_base.specs.declared.change.Change.{Change}
use Rattle.nx_base.specs.Text.{IsPlace}
use Rattle.nx_marks.specs.Chain.{frontier_of}
use Rattle.nx_session.specs.Editor.{SessionState}
use Rattle.nx_session.specs.Reading.{IsReadRight, meant}
use Rattle.nx_session.specs.Telling.{FitsThen, caret_behind}
use Rattle.nx_session.proofs.Changing.{caret_stands_behind}
use Rattle.nx_session.proofs.Sessions.{seen}
use Rattle.nx_session.proofs.Telling.{are_made, made_shown, told_is, told_meant, told_right}
use Rattle.nx_text.specs.Changing.{changed, AreChanges}
use Rattle.nx_session.proofs.session.Session.make_changes.Goals as goal

pub apply-requires : goal.apply-requires
apply-requires g c =
    let P : SessionState → Type 0 = λ s. AreChanges s.editor.text c.args.changes.now in
    subst P (sym c.self.view_is) c.requires.changes

pub invariant_of-self-2 : goal.invariant_of-self-2
invariant_of-self-2 g c =
    let text = c.self.inside.text in
    let changes = c.args.changes.now in
    let utf8 = c.len-len.ensures.utf8 in
    let is : c.apply.new.self ≡ changed text changes = c.in_ok-apply.ensures.changed in
    let P : SessionState → Type 0 = λ s. AreChanges s.editor.text changes in
    let F : SessionState → Type 0 = λ s. FitsThen s.editor.text changes in
    let are = subst P (sym c.self.view_is) c.requires.changes in
    let fit = (subst F (sym c.self.view_is) c.requires.fit) (omega (arith, ap (λ (t : List ℕ). length t) is, c.len-new_len.ensures.bytes)) in
    let told = c.tell.ensures.told c.self.inside.machine text utf8 are fit c.self.invariant.well.read in
    let Q : List ℕ → Type 0 = λ new. IsReadRight new c.self.inside.machine.matcher c.tell.new.marks.kept in
    let H : List ℕ → Type 0 = λ new. IsPlace new (caret_behind changes c.self.inside.caret) in
    record {
      well = record {
        live = c.self.invariant.well.live;
        sound = c.self.invariant.well.sound;
        read = subst Q (sym is) (told_right _ _ _ text changes c.self.inside.marks.kept c.tell.new.marks.kept told);
      };
      place = subst (IsPlace c.apply.new.self) (sym c.caret_behind-self-inside.ensures) (subst H (sym is)
          (caret_stands_behind c.edited_keeps_rest.ensures text changes c.self.inside.caret utf8 are fit c.self.invariant.place));
    }

pub returns-clause-made : goal.returns-clause-made
returns-clause-made g c =
    let text = c.self.inside.text in
    let changes = c.args.changes.now in
    let old = seen text c.self.inside.caret c.self.inside.document c.self.inside.machine.matcher c.self.inside.locating
    (frontier_of c.self.inside.marks.kept) c.self.inside.marks.taken in
    let is : c.apply.new.self ≡ changed text changes = c.in_ok-apply.ensures.changed in
    let P : SessionState → Type 0 = λ s. AreChanges s.editor.text changes in
    let F : SessionState → Type 0 = λ s. FitsThen s.editor.text changes in
    let are = subst P (sym c.self.view_is) c.requires.changes in
    let fit = (subst F (sym c.self.view_is) c.requires.fit) (omega (arith, ap (λ (t : List ℕ). length t) is, c.len-new_len.ensures.bytes)) in
    let told = c.tell.ensures.told c.self.inside.machine text c.len-len.ensures.utf8 are fit c.self.invariant.well.read in
    rw (← c.self.view_is) (made_shown changes old c.apply.new.self c.caret_behind-self-inside.result (frontier_of c.tell.new.marks.kept) c.tell.new.marks.taken
    is c.caret_behind-self-inside.ensures c.tell.ensures.taken
    (are_made _ _ _ (c.frontier_is_border.ensures c.self.inside.machine) changes old c.self.inside.marks.kept c.tell.new.marks.kept refl
    c.len-len.ensures.utf8 are told))

pub returns-clause-marks : goal.returns-clause-marks
returns-clause-marks g c =
    let text = c.self.inside.text in
    let changes = c.args.changes.now in
    let matcher = c.self.inside.machine.matcher in
    let kept = c.self.inside.marks.kept in
    let is : c.apply.new.self ≡ changed text changes = c.in_ok-apply.ensures.changed in
    let P : SessionState → Type 0 = λ s. AreChanges s.editor.text changes in
    let F : SessionState → Type 0 = λ s. FitsThen s.editor.text changes in
    let are = subst P (sym c.self.view_is) c.requires.changes in
    let fit = (subst F (sym c.self.view_is) c.requires.fit) (omega (arith, ap (λ (t : List ℕ). length t) is, c.len-new_len.ensures.bytes)) in
    let told = c.tell.ensures.told c.self.inside.machine text c.len-len.ensures.utf8 are fit c.self.invariant.well.read in
    rw (← c.self.view_is) (ap (meant matcher) (told_is _ _ _ text changes kept c.tell.new.marks.kept told)
    ∙ told_meant (meant matcher) (c.edits_look_at_no_state.ensures c.self.inside.machine) changes kept)
