-- How far recovery has come along items.
use Rattle.std.proofs.Common.{◌≡◌, ◌+◌, ◌<◌, ◌≤◌, ℕ, zero, suc, List, [], ◌∷◌, ◌++◌, length, drop, get_or, set, refl, ap, sym, subst, ◌∙◌, arith, append_assoc}
use Rattle.std.specs.List.{AllByRecursion}
use Rattle.std.proofs.lemmas.List.{append-nil, drop_more, drop-set-lt}
use Rattle.nx_base.specs.declared.fault.Fault.{Fault}
use Rattle.nx_events.specs.declared.item.Item.{Item}
use Rattle.nx_base.specs.Rules.{LaterLaws}
use Rattle.rng_core.specs.Patterns.{Language}
use Rattle.rng_kept.specs.Residuals.{Residual}
use Rattle.nx_recover.specs.Table.{Form}
use Rattle.nx_recover.specs.States.{changed, form, IsChange}
use Rattle.nx_recover.specs.Items.{form_behind, faults_found, form_along, found_along}
use Rattle.nx_recover.specs.declared.levels.Levels.{Levels}
use Rattle.nx_recover.specs.declared.levels.Change.{Change}

-- from matcher a and the form on, at matcher b, with the rest of the items
pub record Going {D S : Type 0} (later : D → D → Type 0) (is_state : D → S → Type 0) (means : D → S → Residual) (g : Language) (a : D) (first : Form) (old : List Fault) (all : List Item) (b : D) (l : Levels S) (c : Change S) (now : List Fault) (rest : List Item) : Type 0 where
  pub on : later a b
  pub change : IsChange (is_state b) l c
  pub forms : form_along g (form (means b) (changed l c)) rest ≡ form_along g first all
  pub faults : now ++ found_along g (form (means b) (changed l c)) rest ≡ old ++ found_along g first all

-- behind all items none is left
pub none_left : {X : Type 0} (n : ℕ) (xs : List X) → length xs ≤ n → drop n xs ≡ []
none_left zero [] h = refl
none_left zero (x ∷ xs) h = absurd (omega arith)
none_left (suc n) [] h = refl
none_left (suc n) (x ∷ xs) h = none_left n xs (omega arith)

-- the item at a place comes next, and others behind it, whatever is put in its place
pub comes_next : {X : Type 0} (xs : List X) (i : ℕ) (x y : X) → i < length xs → x ≡ get_or xs i x → drop i xs ≡ x ∷ drop (i + 1) (set xs i y)
comes_next xs i x y lt at = drop_more xs i x lt ∙ ap (λ z. z ∷ drop (i + 1) xs) (sym at) ∙ ap (λ zs. x ∷ zs) (sym (drop-set-lt (i + 1) xs i y (omega arith)))

-- what holds of all holds of the first and of the others
pub first_and_rest : {X : Type 0} (P : X → Type 0) (xs : List X) (x : X) (rest : List X) → xs ≡ x ∷ rest → AllByRecursion P xs → P x × AllByRecursion P rest
first_and_rest P xs x rest e h = subst (AllByRecursion P) e h

module _ {D S : Type 0} {later : D → D → Type 0} {is_state : D → S → Type 0} {means : D → S → Residual} {language : D → Language} (laws : LaterLaws later is_state means language) (a : D) (l : Levels S) where
  pub gone_on : (first : Form) (old : List Fault) (all : List Item) (b d : D) (c e : Change S) (now more : List Fault) (item : Item) (left rest : List Item) →
      Going later is_state means (language a) a first old all b l c now left → left ≡ item ∷ rest → later b d → IsChange (is_state d) l e →
      form (means d) (changed l e) ≡ form_behind (language b) (form (means b) (changed l c)) item → more ≡ now ++ faults_found (language b) (form (means b) (changed l c)) item →
      Going later is_state means (language a) a first old all d l e more rest
  unfolding form_along found_along
  gone_on first old all b d c e now more item left rest go cons on ch fo fa =
      let g = language a in
      let r : language b ≡ g = laws.rule a b go.on in
      let F = form (means b) (changed l c) in
      let fo' : form (means d) (changed l e) ≡ form_behind g F item = fo ∙ ap (λ x. form_behind x F item) r in
      let fa' : more ≡ now ++ faults_found g F item = fa ∙ ap (λ x. now ++ faults_found x F item) r in
      record {
        on = laws.chain a b d go.on on;
        change = ch;
        forms = ap (λ x. form_along g x rest) fo' ∙ ap (form_along g F) (sym cons) ∙ go.forms;
        faults = ap (λ x. x ++ found_along g (form (means d) (changed l e)) rest) fa'
            ∙ ap (λ x. (now ++ faults_found g F item) ++ found_along g x rest) fo'
            ∙ append_assoc now (faults_found g F item) (found_along g (form_behind g F item) rest)
            ∙ ap (λ x. now ++ found_along g F x) (sym cons) ∙ go.faults;
      }

  pub gone_forms : (first : Form) (old : List Fault) (all : List Item) (b : D) (c : Change S) (now : List Fault) (left : List Item) → Going later is_state means (language a) a first old all b l c now left → left ≡ [] → form (means b) (changed l c) ≡ form_along (language a) first all
  unfolding form_along
  gone_forms first old all b c now left go e = ap (form_along (language a) (form (means b) (changed l c))) (sym e) ∙ go.forms

  pub gone_faults : (first : Form) (old : List Fault) (all : List Item) (b : D) (c : Change S) (now : List Fault) (left : List Item) → Going later is_state means (language a) a first old all b l c now left → left ≡ [] → now ≡ old ++ found_along (language a) first all
  unfolding found_along
  gone_faults first old all b c now left go e = sym (append-nil now) ∙ ap (λ x. now ++ found_along (language a) (form (means b) (changed l c)) x) (sym e) ∙ go.faults
