-- One edit of a text that is read to its end.
use Rattle.std.proofs.Common.{◌≡◌, ℕ, ◌+◌, List, Option, length, sym, ap, subst, ◌∙◌}
use Rattle.nx_base.specs.Rules.{Rules}
use Rattle.nx_base.specs.Running.{CutsTo, after_all}
use Rattle.nx_base.specs.Text.{edited}
use Rattle.nx_marks.specs.Bound.{WillJoin}
use Rattle.nx_marks.specs.Chain.{FirstMeans, Kept, frontier_of}
use Rattle.nx_marks.specs.Editing.{edit_kept, noted}
use Rattle.nx_marks.specs.Keeping.{next_of}
use Rattle.nx_marks.specs.Meant.{is_any, itself}
use Rattle.nx_marks.proofs.Moving.{will_join}
use Rattle.nx_marks.proofs.Refused.{note_right}
use Rattle.nx_recover.specs.RecoverRules.{Recovered}
use Rattle.nx_session.specs.Editor.{EditorState}
use Rattle.nx_session.specs.Marks.{OneEditTakesFew}
use Rattle.nx_session.specs.Reading.{rules_for}
use Rattle.rng_core.specs.declared.grammar.Grammar.{Grammar}

pub one_edit_takes_few : OneEditTakesFew
one_edit_takes_few before after_it last from to added faults left added_utf8 f u ordered short right all none changed told reads cuts first =
    let r : Rules Recovered = rules_for before.editor.schema in
    let k : Kept Recovered = before.marks in
    let text : List ℕ = edited before.editor.text from to added in
    let is_text : after_it.editor.text ≡ text = ap (λ (e : EditorState). e.text) changed.editor in
    let is_schema : after_it.editor.schema ≡ before.editor.schema = ap (λ (e : EditorState). e.schema) changed.editor in
    let T : List ℕ → Type 0 = λ t. CutsTo t (frontier_of after_it.marks) left (next_of after_it.marks) in
    let C : Kept Recovered → Type 0 = λ j. CutsTo text (frontier_of j) left (next_of j) in
    let G : Option Grammar → Type 0 = λ g. FirstMeans itself (after_all (rules_for g) after_it.marks.here.state left) after_it.marks.aside in
    let F : Kept Recovered → Type 0 = λ j. FirstMeans itself (after_all r j.here.state left) j.aside in
    let will = will_join is_any itself r before.editor.text added from to (noted k) left right.utf8 added_utf8 f u ordered
    (note_right is_any itself r before.editor.text k right.right) (sym right.frontier ∙ all) none short
    (subst C told (subst T is_text cuts)) (subst F told (subst G is_schema first)) in
    let W : Kept Recovered → Type 0 = λ j. WillJoin itself r text (length left) j in
    let V : List ℕ → Type 0 = λ t. WillJoin itself r t (length left) after_it.marks in
    let S : Option Grammar → Type 0 = λ g. WillJoin itself (rules_for g) after_it.editor.text (length left) after_it.marks in
    reads.1 (length left) (subst S (sym is_schema) (subst V (sym is_text) (subst W (sym told) will)))
