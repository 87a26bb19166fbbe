-- Whether the innermost element may be split, and an answer by its changes.
use Rattle.std.proofs.Common.{◌≡◌, ◌≢◌, ℕ, suc, ◌+◌, ◌-◌, ◌<◌, ◌≤◌, Bool, true, false, inl, inr, Option, Some, None, List, [], ◌∷◌, ◌++◌, length}
use Rattle.std.proofs.Common.{refl, sym, ◌∙◌, ap, subst, arith, length-append}
use Rattle.std.specs.Prelude.{◌↔◌, not, IsTrue, IfOk, Result, Ok, Err}
use Rattle.std.specs.List.{list_any}
use Rattle.std.specs.Str.{IsUtf8}
use Rattle.std.proofs.lemmas.Bool.{true≢false}
use Rattle.nx_base.specs.Text.{IsPlace}
use Rattle.nx_base.specs.Tokens.{tokens_of}
use Rattle.nx_base.specs.declared.change.Change.{Change}
use Rattle.nx_base.specs.declared.token.Token.{Token}
use Rattle.nx_events.specs.Declarations.{is_declaration}
use Rattle.nx_events.specs.OpenTags.{Leaves}
use Rattle.nx_events.specs.Tags.{tag_attributes}
use Rattle.nx_events.specs.declared.tag.Attribute.{Attribute}
use Rattle.nx_events.proofs.OpenTags.{leaves_one}
use Rattle.nx_tags.specs.Answers.{IfDone, Renames, IfRenamed}
use Rattle.nx_tags.specs.Changing.{inserting}
use Rattle.nx_tags.specs.Elements.{MayBeSplit}
use Rattle.nx_tags.specs.Free.{IsFree}
use Rattle.nx_tags.specs.Parts.{in_front, state_at}
use Rattle.nx_tags.specs.Reading.{IsInnermostTag}
use Rattle.nx_tags.proofs.Around.{front_lies}
use Rattle.nx_tags.proofs.Insertions.{text_alone}
use Rattle.nx_tags.proofs.Opened.{counted}

-- ---- whether the innermost element may be split

last_same : (xs ys : List Token) (x y : Token) → xs ++ x ∷ [] ≡ ys ++ y ∷ [] → x ≡ y
last_same [] [] x y e = cc
last_same [] (z ∷ []) x y e = absurd (let k = ap length e in omega arith)
last_same [] (z ∷ w ∷ ys) x y e = absurd (let k = ap length e in omega arith)
last_same (z ∷ []) [] x y e = absurd (let k = ap length e in omega arith)
last_same (z ∷ w ∷ xs) [] x y e = absurd (let k = ap length e in omega arith)
last_same (z ∷ xs) (w ∷ ys) x y e = let tails : xs ++ x ∷ [] ≡ ys ++ y ∷ [] = cc in last_same xs ys x y tails

abbrev declares : Token → Bool
declares tag = list_any (λ (it : Attribute). is_declaration it.name) (tag_attributes tag.from tag.bytes)

module _ (text : List ℕ) (at : ℕ) (utf8 : IsUtf8 text) (place : IsPlace text at) (free : IsFree text at) where
  pub depth_is : (tags run : List Token) → Leaves (in_front text at) tags run → length (state_at text at).elements ≡ length tags
  depth_is tags run leaves =
      counted (in_front text at) tags run at (front_lies text at utf8 place (text_alone (state_at text at) at (tokens_of text) free.cut_well)) leaves

  pub too_few : length (state_at text at).elements < 2 → MayBeSplit text at → ⊥
  too_few few may =
      let depth = depth_is (may.outer ++ may.tag ∷ []) may.run may.opened in
      let len = length-append may.outer (may.tag ∷ []) in
      let around = may.around in
      omega arith

  pub may_part : (tag : Token) → IsInnermostTag text at tag → 2 ≤ length (state_at text at).elements → declares tag ≡ false → MayBeSplit text at
  may_part tag is enough none =
      let depth = depth_is (is.outer ++ tag ∷ []) is.run is.leaves in
      let len = length-append is.outer (tag ∷ []) in
      record { free = free; outer = is.outer; tag = tag; run = is.run; opened = is.leaves; around = omega arith; declares_nothing = none }

  pub may_not : (tag : Token) → IsInnermostTag text at tag → declares tag ≡ true → MayBeSplit text at → ⊥
  may_not tag is some may =
      let both = leaves_one (in_front text at) (is.outer ++ tag ∷ []) is.run (may.outer ++ may.tag ∷ []) may.run is.leaves may.opened in
      let same : may.tag ≡ tag = last_same may.outer is.outer may.tag tag both.0 in
      let bad : true ≡ false = sym some ∙ ap declares (sym same) ∙ may.declares_nothing in
      cc

  pub parts_if : (tag : Token) → IsInnermostTag text at tag → 2 ≤ length (state_at text at).elements → (found : Bool) → found ≡ declares tag →
      IsTrue (not found) ↔ MayBeSplit text at
  parts_if tag is enough true e = (λ t. absurd (true≢false (sym t)), λ may. absurd (may_not tag is (sym e) may))
  parts_if tag is enough false e = (λ t. may_part tag is enough (sym e), λ may. refl)

-- ---- an answer by its changes

pub done : {E : Type 0} (allowed : Type 0) (at : ℕ) (added there : List ℕ) (result : Result (Option (List Change)) E) →
    IfOk result (λ found. found ≡ Some (inserting at added ∷ [])) →
    allowed → added ≡ there → IfOk result (IfDone allowed (inserting at there ∷ []))
done allowed at added there (Err e) h a s = tt
done allowed at added there (Ok found) h a s =
    subst (λ o. IfDone allowed (inserting at there ∷ []) o) (sym (h ∙ ap (λ (xs : List ℕ). Some (inserting at xs ∷ [])) s)) (a, refl)

pub done_renamed : {E : Type 0} (text : List ℕ) (at : ℕ) (name : List ℕ) (there : List Change) (result : Result (Option (List Change)) E) →
    IfOk result (λ found. found ≡ Some there) →
    Renames text at name there → IfOk result (IfRenamed text at name)
done_renamed text at name there (Err e) h r = tt
done_renamed text at name there (Ok found) h r = subst (λ o. IfRenamed text at name o) (sym h) r
