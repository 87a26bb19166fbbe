-- The row of an element that is admitted, and the rows of one that isn't.
use Rattle.std.proofs.Common.{◌≡◌, [], ◌∷◌, ◌++◌, Option, Some, None, Result, refl, sym, ap, subst, ◌∙◌}
use Rattle.std.specs.Prelude.{IfOk, IfSome, option_map}
use Rattle.nx_base.specs.Rules.{LaterLaws}
use Rattle.nx_base.specs.declared.name.Name.{Name}
use Rattle.nx_events.specs.declared.flaw.Flaw.{Flaw}
use Rattle.nx_events.specs.declared.item.Event.TheVariants.{Enter}
use Rattle.rng_core.specs.Patterns.{Language}
use Rattle.rng_kept.specs.Entering.{enter_skip}
use Rattle.rng_kept.specs.Merging.{answered}
use Rattle.rng_kept.specs.Residuals.{Residual}
use Rattle.rng_live.specs.Calls.{Answers}
use Rattle.nx_recover.specs.Admitting.{admitted, refused, refused_in}
use Rattle.nx_recover.specs.Aside.{Takes}
use Rattle.nx_recover.specs.Later.{form_same}
use Rattle.nx_recover.specs.Needed.{needed_names}
use Rattle.nx_recover.specs.States.{View, AreStates, IsChange, changed, form, stack}
use Rattle.nx_recover.specs.Table.{Form, begun, done_in, entered, entered_by, entered_known, opens}
use Rattle.nx_recover.specs.declared.levels.Open.TheVariants.{In}
use Rattle.nx_recover.specs.declared.levels.Levels.{Levels}
use Rattle.nx_recover.specs.declared.levels.Change.{Change}
use Rattle.nx_recover.specs.declared.levels.Begun.{Begun}
use Rattle.nx_recover.proofs.Tops.{begins}

pub entered_if_admitted : (g : Language) (n : Name) (here : Option Residual) (y : Residual) → admitted g n here ≡ Some y → entered g n here ≡ begun (Some y) (In n) None
unfolding entered
entered_if_admitted g n (Some x) y e = ap (λ o. entered_by x n (needed_names g (Some n) x) o (answered (enter_skip g.definitions n x)) (entered_known g n)) e
entered_if_admitted g n None y e = cc

entered_if_refused : (g : Language) (n : Name) (here : Option Residual) → admitted g n here ≡ None → entered g n here ≡ refused g n here
unfolding entered
entered_if_refused g n (Some x) e = ap (λ o. entered_by x n (needed_names g (Some n) x) o (answered (enter_skip g.definitions n x)) (entered_known g n)) e
entered_if_refused g n None e = refl

module _ {D S : Type 0} {later : D → D → Type 0} {is_state : D → S → Type 0} {means : D → S → Residual} {language : D → Language} (laws : LaterLaws later is_state means language) {a b : D} (on : later a b) where
  -- an element that is admitted is put on top
  pub admits : (l : Levels S) (c d : Change S) → IsChange (is_state a) l c → (n : Name) (first : Option S) (s : S) → first ≡ Some s →
      Answers (is_state b) (means b) (admitted (language a) n (option_map (means a) (changed l c).here)) first →
      d.here ≡ Some (Some s) → d.kept ≡ c.kept → d.above.items ≡ c.above.items ++ In n ∷ [] →
      Takes (is_state b) (means b) l d (done_in (language a) (form (means a) (changed l c)) (Enter n)) None
  admits l c d h n first s is k now kept above =
      let here = option_map (means a) (changed l c).here in
      let row : Begun Residual = begun (Some (means b s)) (In n) None in
      let e : admitted (language a) n here ≡ Some (means b s) = sym k.meaning ∙ ap (option_map (means b)) is in
      let P : Option S → Type 0 = λ o. IfSome o (is_state b) in
      let T : Begun Residual → Type 0 = λ m. Takes (is_state b) (means b) l d (opens (stack (means a) (changed l c).elements) m) None in
      subst T (sym (entered_if_admitted (language a) n here (means b s) e))
      (begins laws on l c d None h row (record { here = Some s; element = In n; flaw = None })
      (record { here = subst P is k.state; meaning = refl; state = tt; element = refl; flaw = refl })
      (record { here = now; kept = kept; above = above; flaw = refl }))

  -- one that isn't takes one of the other rows, whichever the later matcher answers
  pub refuses : {E : Type 0} (v : View S) → AreStates (is_state a) v → (n : Name) (first : Option S) → first ≡ None →
      option_map (means b) first ≡ admitted (language a) n (option_map (means a) v.here) →
      (P : S → Type 0) (f : S → Residual) (l : Levels S) (d : Change S) (result : Result (Option Flaw) E) →
      IfOk result (Takes P f l d (refused_in (language b) (form (means b) v) n)) →
      IfOk result (Takes P f l d (done_in (language a) (form (means a) v) (Enter n)))
  refuses v h n first none e P f l d result k =
      let G : Language → Type 0 = λ g. IfOk result (Takes P f l d (refused_in g (form (means b) v) n)) in
      let F : Form → Type 0 = λ x. IfOk result (Takes P f l d (refused_in (language a) x n)) in
      let R : Begun Residual → Type 0 = λ m. IfOk result (Takes P f l d (opens (stack (means a) v.elements) m)) in
      let nothing : admitted (language a) n (option_map (means a) v.here) ≡ None = sym e ∙ ap (option_map (means b)) none in
      subst R (sym (entered_if_refused (language a) n (option_map (means a) v.here) nothing)) (subst F (form_same laws on v h) (subst G (laws.rule a b on) k))
