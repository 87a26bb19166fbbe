-- One element more or less, and the levels behind an event.
use Rattle.std.proofs.Common.{◌≡◌, ℕ, ◌-◌, ◌<◌, ◌≤◌, List, [], ◌∷◌, ◌++◌, length, take, get_or, map, reverse, Option, Some, None, suc, zero, refl, ap, sym, subst, ◌∙◌, arith, append_assoc, length-append}
use Rattle.std.proofs.lemmas.List.{reverse-append, map-append, take_all}
use Rattle.std.proofs.Math.Seq.{take-suc}
use Rattle.std.specs.Prelude.{IfSome, option_map, unwrap_or}
use Rattle.std.specs.List.{AllByRecursion}
use Rattle.nx_base.specs.Rules.{LaterLaws}
use Rattle.rng_core.specs.Patterns.{Language}
use Rattle.rng_kept.specs.Residuals.{Residual}
use Rattle.nx_recover.specs.States.{View, IsOpen, open_form, stack, form, changed, IsChange, TurnIs, BegunIs, EndedIs}
use Rattle.nx_recover.specs.Table.{goes_on_as, goes_on_by, opens, ended, closes, leaves}
use Rattle.nx_recover.specs.Aside.{IsInnermost, IsOneLess, Pushed, Takes, without_innermost}
use Rattle.nx_recover.specs.declared.levels.Open.{Open}
use Rattle.nx_recover.specs.declared.levels.Levels.{Levels}
use Rattle.nx_recover.specs.declared.levels.Change.{Change}
use Rattle.nx_events.specs.declared.flaw.Flaw.{Flaw}
use Rattle.nx_recover.specs.declared.levels.Turn.{Turn}
use Rattle.nx_recover.specs.declared.levels.Begun.{Begun}
use Rattle.nx_recover.specs.declared.levels.Ended.{Ended}
use Rattle.nx_recover.specs.Later.{states_later, form_same, stack_of_same, change_later}

pub all_joined : {X : Type 0} (P : X → Type 0) (xs ys : List X) → AllByRecursion P xs → AllByRecursion P ys → AllByRecursion P (xs ++ ys)
all_joined P [] ys h k = k
all_joined P (x ∷ xs) ys h k = (h.0, all_joined P xs ys h.1 k)

pub all_front : {X : Type 0} (P : X → Type 0) (xs ys : List X) → AllByRecursion P (xs ++ ys) → AllByRecursion P xs
all_front P [] ys h = tt
all_front P (x ∷ xs) ys h = (h.0, all_front P xs ys h.1)

pub all_back : {X : Type 0} (P : X → Type 0) (xs ys : List X) → AllByRecursion P (xs ++ ys) → AllByRecursion P ys
all_back P [] ys h = h
all_back P (x ∷ xs) ys h = all_back P xs ys h.1

pub stack_nil : {S : Type 0} (f : S → Residual) → stack f [] ≡ []
unfolding stack
stack_nil f = refl

pub stack_more : {S : Type 0} (f : S → Residual) (l : List (Open S)) (o : Open S) → stack f (l ++ o ∷ []) ≡ open_form f o ∷ stack f l
unfolding stack
stack_more f l o = ap reverse (map-append (open_form f) l (o ∷ [])) ∙ reverse-append (map (open_form f) l) (open_form f o ∷ [])

pub form_is : {S : Type 0} (f : S → Residual) (v : View S) (h : Option Residual) (s : List (Open Residual)) → option_map f v.here ≡ h → stack f v.elements ≡ s → form f v ≡ record { here = h; elements = s }
form_is f v h s e k = cc

pub no_items : {X : Type 0} (xs : List X) → length xs ≡ 0 → xs ≡ []
no_items [] e = refl
no_items (x ∷ xs) e = absurd (omega (arith, e))

pub last_kept : {X : Type 0} (xs : List X) (n : ℕ) (x : X) → 0 < n → n ≤ length xs → x ≡ get_or xs (n - 1) x → take n xs ≡ take (n - 1) xs ++ x ∷ []
last_kept xs n x p h e =
    let k : n ≡ suc (n - 1) = omega arith in
    ap (λ m. take m xs) k ∙ take-suc xs (n - 1) x (omega arith) ∙ ap (λ y. take (n - 1) xs ++ y ∷ []) (sym e)

-- ---- all but the innermost, which stands last

take_front : {X : Type 0} (n : ℕ) (xs : List X) (x : X) → n ≡ length xs → take n (xs ++ x ∷ []) ≡ xs
take_front zero [] x e = refl
take_front zero (y ∷ ys) x e = absurd (omega (arith, e))
take_front (suc n) [] x e = absurd (omega (arith, e))
take_front (suc n) (y ∷ ys) x e = ap (λ zs. y ∷ zs) (take_front n ys x (omega (arith, e)))

without_innermost_is : {X : Type 0} (es ys : List X) (x : X) → es ≡ ys ++ x ∷ [] → without_innermost es ≡ ys
without_innermost_is es ys x e = ap without_innermost e ∙ take_front (length (ys ++ x ∷ []) - 1) ys x (omega (arith, length-append ys (x ∷ [])))

ends_with : {X : Type 0} (es ys : List X) (x : X) → es ≡ ys ++ x ∷ [] → es ≡ without_innermost es ++ x ∷ []
ends_with es ys x e = e ∙ ap (λ zs. zs ++ x ∷ []) (sym (without_innermost_is es ys x e))

-- one that is aside stands last
pub last_above : {X : Type 0} (below above : List X) (n : ℕ) (x : X) → n ≡ length above → 0 < n → x ≡ get_or above (n - 1) x → below ++ above ≡ without_innermost (below ++ above) ++ x ∷ []
last_above below above n x size some at =
    let ys = take (n - 1) above in
    let e : above ≡ ys ++ x ∷ [] = sym (take_all n above (omega (arith, size))) ∙ last_kept above n x some (omega (arith, size)) at in
    ends_with (below ++ above) (below ++ ys) x (ap (λ zs. below ++ zs) e ∙ sym (append_assoc below ys (x ∷ [])))

more_above : {S : Type 0} (l : Levels S) (c d : Change S) (o : Open S) → d.kept ≡ c.kept → d.above.items ≡ c.above.items ++ o ∷ [] → (changed l d).elements ≡ (changed l c).elements ++ o ∷ []
more_above l c d o e k =
    ap (λ n. take n l.elements.items ++ d.above.items) e ∙ ap (λ x. take c.kept l.elements.items ++ x) k ∙ sym (append_assoc (take c.kept l.elements.items) c.above.items (o ∷ []))

-- ---- an event that leaves the elements

module _ {D S : Type 0} {later : D → D → Type 0} {is_state : D → S → Type 0} {means : D → S → Residual} {language : D → Language} (laws : LaterLaws later is_state means language) {a b : D} (on : later a b) where
  -- the frame goes on as another
  pub turned : (l : Levels S) (c : Change S) → IsChange (is_state a) l c → (m : Turn Residual) (t : Turn S) (s : S) → t.next ≡ Some s → TurnIs (is_state b) (means b) m t →
      Takes (is_state b) (means b) l (record c { here = Some (Some s) }) (goes_on_by (option_map (means a) (changed l c).here) (stack (means a) (changed l c).elements) m) t.flaw
  turned l c h m t s is k =
      let e = stack_of_same laws on (changed l c) h.states in
      let P : Option S → Type 0 = λ o. IfSome o (is_state b) in
      let next : m.next ≡ Some (means b s) = sym k.meaning ∙ ap (option_map (means b)) is in
      let here : goes_on_as (option_map (means a) (changed l c).here) m.next ≡ Some (means b s) = ap (goes_on_as (option_map (means a) (changed l c).here)) next in
      record {
        change = record { kept = h.kept; states = record { here = subst P is k.state; elements = (states_later laws on (changed l c) h.states).elements } };
        form = cc;
        flaw = k.flaw;
      }

  -- it stays
  pub stayed : (l : Levels S) (c : Change S) → IsChange (is_state a) l c → (m : Turn Residual) (t : Turn S) → t.next ≡ None → TurnIs (is_state b) (means b) m t →
      Takes (is_state b) (means b) l c (goes_on_by (option_map (means a) (changed l c).here) (stack (means a) (changed l c).elements) m) t.flaw
  stayed l c h m t is k =
      let next : m.next ≡ None = sym k.meaning ∙ ap (option_map (means b)) is in
      let here : goes_on_as (option_map (means a) (changed l c).here) m.next ≡ option_map (means a) (changed l c).here = ap (goes_on_as (option_map (means a) (changed l c).here)) next in
      let e = form_same laws on (changed l c) h.states in
      record {
        change = change_later laws on l c h;
        form = cc;
        flaw = k.flaw;
      }

  -- the frame behind an element goes on
  pub ends : (l : Levels S) (c : Change S) → IsChange (is_state a) l c → (m : Ended Residual) (t : Ended S) → EndedIs (is_state b) (means b) m t →
      Takes (is_state b) (means b) l (record c { here = Some t.here }) (closes (stack (means a) (changed l c).elements) m) t.flaw
  ends l c h m t k =
      let e = stack_of_same laws on (changed l c) h.states in
      let f = k.meaning in
      record {
        change = record { kept = h.kept; states = record { here = k.state; elements = (states_later laws on (changed l c) h.states).elements } };
        form = cc;
        flaw = k.flaw;
      }

  pub begins : (l : Levels S) (c d : Change S) (o : Option Flaw) → IsChange (is_state a) l c → (m : Begun Residual) (t : Begun S) → BegunIs (is_state b) (means b) m t → Pushed t c d o →
      Takes (is_state b) (means b) l d (opens (stack (means a) (changed l c).elements) m) o
  begins l c d o h m t k p =
      let es : List (Open S) = (changed l c).elements in
      let v : (changed l d).elements ≡ es ++ t.element ∷ [] = more_above l c d t.element p.kept p.above in
      let q = stack_of_same laws on (changed l c) h.states in
      let en = k.element in
      let st : stack (means b) (es ++ t.element ∷ []) ≡ m.element ∷ stack (means a) es = cc (stack_more (means b) es t.element) in
      let H : Option (Option S) → Type 0 = λ x. IfSome (unwrap_or x l.here) (is_state b) in
      let A : List (Open S) → Type 0 = λ x. AllByRecursion (IsOpen (is_state b)) x in
      record {
        change = record {
          kept = omega (arith, p.kept, h.kept);
          states = record {
            here = subst H (sym p.here) k.here;
            elements = subst A (sym v) (all_joined (IsOpen (is_state b)) es (t.element ∷ []) (states_later laws on (changed l c) h.states).elements (k.state, tt));
          };
        };
        form = form_is (means b) (changed l d) m.here (m.element ∷ stack (means a) es) (ap (λ x. option_map (means b) (unwrap_or x l.here)) p.here ∙ k.meaning) (ap (stack (means b)) v ∙ st);
        flaw = p.flaw ∙ k.flaw;
      }

  -- the innermost element ends
  pub leaves_last : (l : Levels S) (c d : Change S) (o : Open S) → IsChange (is_state a) l c → IsInnermost (changed l c).elements (Some o) → IsOneLess l c d →
      (t : Ended S) → EndedIs (is_state b) (means b) (ended (language a) (option_map (means a) (changed l c).here) (open_form (means a) o)) t →
      Takes (is_state b) (means b) l (record d { here = Some t.here }) (leaves (language a) (option_map (means a) (changed l c).here) (stack (means a) (changed l c).elements)) t.flaw
  leaves_last l c d o h last less t k =
      let es : List (Open S) = without_innermost (changed l c).elements in
      let H : Option (Option S) → Type 0 = λ x. IfSome (unwrap_or x l.here) (is_state a) in
      let A : List (Open S) → Type 0 = λ x. AllByRecursion (IsOpen (is_state a)) x in
      let left : IsChange (is_state a) l d = record {
        kept = omega (arith, less.kept, h.kept);
        states = record {
          here = subst H (sym less.here) h.states.here;
          elements = subst A (sym less.elements) (all_front (IsOpen (is_state a)) es (o ∷ []) (subst A last h.states.elements));
        };
      } in
      let top : stack (means a) (changed l c).elements ≡ open_form (means a) o ∷ stack (means a) (changed l d).elements =
      ap (stack (means a)) last ∙ stack_more (means a) es o ∙ ap (λ zs. open_form (means a) o ∷ stack (means a) zs) (sym less.elements) in
      let T : List (Open Residual) → Type 0 = λ s. Takes (is_state b) (means b) l (record d { here = Some t.here }) (leaves (language a) (option_map (means a) (changed l c).here) s) t.flaw in
      subst T (sym top) (ends l d left (ended (language a) (option_map (means a) (changed l c).here) (open_form (means a) o)) t k)

-- nothing ends where nothing is open
pub leaves_none : {S : Type 0} (g : Language) (P : S → Type 0) (f : S → Residual) (l : Levels S) (c : Change S) → IsChange P l c → (changed l c).elements ≡ [] →
    Takes P f l c (leaves g (option_map f (changed l c).here) (stack f (changed l c).elements)) None
leaves_none g P f l c h none =
    let e : stack f (changed l c).elements ≡ [] = ap (stack f) none ∙ stack_nil f in
    let T : List (Open Residual) → Type 0 = λ s. Takes P f l c (leaves g (option_map f (changed l c).here) s) None in
    subst T (sym e) (record { change = h; form = form_is f (changed l c) (option_map f (changed l c).here) [] refl e; flaw = refl })

-- the innermost element's states are states
pub last_is_open : {S : Type 0} (P : S → Type 0) (l : Levels S) (c : Change S) (o : Open S) → IsChange P l c → IsInnermost (changed l c).elements (Some o) → IsOpen P o
last_is_open {S = S} P l c o h last =
    let A : List (Open S) → Type 0 = λ x. AllByRecursion (IsOpen P) x in
    (all_back (IsOpen P) (without_innermost (changed l c).elements) (o ∷ []) (subst A last h.states.elements)).0
