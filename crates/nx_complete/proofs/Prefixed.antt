-- What is told of the bytes in front of a place.
use Rattle.std.proofs.Common.{◌≡◌, ℕ, zero, suc, List, [], ◌∷◌, ◌++◌, get_or, Bool, true, false, refl, sym, ap, subst, ◌∙◌, arith}
use Rattle.std.specs.Prelude.{IsUtf8, ◌==◌, ◌&&◌}
use Rattle.nx_base.specs.Tokens.{begins_with}
use Rattle.nx_events.specs.Prefixes.{IsOpenTag, IsElsewhere, IsPrefix, items_so_far}
use Rattle.nx_events.specs.Spelling.{middle}
use Rattle.nx_events.specs.Texts.{ItemsAreText, StateIsText}
use Rattle.nx_events.specs.declared.item.Item.{Item}
use Rattle.nx_events.specs.declared.prefix.TagPrefix.{TagPrefix}
use Rattle.nx_events.specs.declared.prefix.TagPrefix.TheVariants.{ElementName, EndName, AttributeName, AttributeValue, Elsewhere}
use Rattle.nx_events.specs.declared.state.EventState.{EventState}
use Rattle.nx_complete.specs.Answering.{PrefixIsText}
use Rattle.nx_complete.proofs.TagText.{open_tag_text}
use Rattle.nx_complete.proofs.Told.{so_far_text}

-- tags begin with `<`
first_of : (bytes rest : List ℕ) → bytes ≡ 60 ∷ rest → get_or bytes 0 0 ≡ 60
first_of bytes rest e = ap (λ (l : List ℕ). get_or l 0 0) e

first_of_tag : (tag bytes rest : List ℕ) → IsOpenTag tag → bytes ≡ tag ++ rest → get_or bytes 0 0 ≡ 60
first_of_tag tag bytes rest o e = ap (λ (l : List ℕ). get_or l 0 0) (e ∙ ap (λ (l : List ℕ). l ++ rest) o.spelled)

pub is_elsewhere : (bytes : List ℕ) → (get_or bytes 0 0 ≡ 60 → ⊥) → IsElsewhere bytes
is_elsewhere bytes h = record {
  no_element = λ w. h (first_of bytes w.begun w.spelled);
  no_end = λ w. h (first_of bytes (47 ∷ w.begun) w.spelled);
  no_attribute = λ tag w. h (first_of_tag tag bytes w.begun w.is_open w.spelled);
  no_value = λ tag name w. h (first_of_tag tag bytes ((w.begun.name ++ middle w.begun) ++ w.begun.quote ∷ w.begun.value) w.is_open w.spelled);
}

pub begins_tag : (bytes : List ℕ) → get_or bytes 0 0 ≡ 60 → begins_with (60 ∷ []) bytes ≡ true
unfolding begins_with
begins_tag [] e = absurd (omega arith)
begins_tag (b ∷ bytes) e = ap (λ n. (n == 60) && true) e

-- its items are text
tag_items_text : (events : EventState) (bytes tag rest : List ℕ) → IsUtf8 bytes → IsOpenTag tag → bytes ≡ tag ++ rest → StateIsText events →
    ItemsAreText (items_so_far events tag)
tag_items_text events bytes tag rest u o e h = let t = open_tag_text tag rest o (subst IsUtf8 e u) in so_far_text events tag t.utf8 t.behind h

pub prefix_text : (events : EventState) (bytes : List ℕ) (prefix : TagPrefix) → IsUtf8 bytes → StateIsText events → IsPrefix events bytes prefix → PrefixIsText prefix
prefix_text events bytes ElementName u h is = tt
prefix_text events bytes (EndName written) u h is = tt
prefix_text events bytes (AttributeName own) u h is = subst (λ (l : List Item). ItemsAreText l) (sym is.2) (tag_items_text events bytes is.0 is.1.begun u is.1.is_open is.1.spelled h)
prefix_text events bytes (AttributeValue own name) u h is =
    let v = is.2 in
    subst (λ (l : List Item). ItemsAreText l) (sym is.3) (tag_items_text events bytes is.0 ((v.begun.name ++ middle v.begun) ++ v.begun.quote ∷ v.begun.value) u v.is_open v.spelled h)
prefix_text events bytes Elsewhere u h is = tt
