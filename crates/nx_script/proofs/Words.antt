-- A word that stands behind a gap.
use Rattle.std.proofs.Common.{◌≡◌, ℕ, ◌&&◌, Bool, true, false, not, eqb, List, [], ◌∷◌, ◌++◌, length, take, drop, codes, cond, option_map, Option, Some, None, refl, sym, ap, subst, ◌∙◌, inl, inr, append_assoc}
use Rattle.std.specs.List.{flat_map}
use Rattle.std.specs.Str.{bytes_eq}
use Rattle.std.proofs.lemmas.Bool.{cases_Bool, and_parts, not-true}
use Rattle.std.proofs.lemmas.List.{take_at, drop_at, take-append-drop}
use Rattle.std.proofs.lemmas.Option.{cond_some}
use Rattle.std.proofs.lemmas.Slice.Eq.{bytes_eq-Decides}
use Rattle.std.specs.Option.{option_or}
use Rattle.std.proofs.lemmas.Option.{same_Some}
use Rattle.nx_base.specs.declared.way.Way.{Way}
use Rattle.nx_base.specs.declared.way.Way.TheVariants.{Forward, Backward, Up, BackUp, Down}
use Rattle.nx_script.specs.Grammar.{IsGap, IsText, spelled, way_word}
use Rattle.nx_script.specs.Reading.{is_blank, after_gap, word_at, along_at, way_at}
use Rattle.nx_script.proofs.Blanks.{found_step, FirstFails, after_gap_is, after_gap_takes}
use Rattle.nx_script.proofs.Texts.{quoted_word}

-- the word begins with a byte that is neither a blank nor a quote
abbrev pub is_plain : List ℕ → Bool
is_plain [] = false
is_plain (b ∷ bytes) = not (is_blank b) && not (eqb b 34)

plain_no_blank : (word rest : List ℕ) → is_plain word ≡ true → FirstFails is_blank (word ++ rest)
plain_no_blank [] rest h = absurd cc
plain_no_blank (b ∷ word) rest h = not-true (is_blank b) (and_parts (not (is_blank b)) (not (eqb b 34)) h).0

pub word_at_is : (word gap rest : List ℕ) → is_plain word ≡ true → IsGap gap → word_at word (gap ++ word ++ rest) ≡ Some rest
unfolding word_at
word_at_is word gap rest plain g =
    let same = (bytes_eq-Decides word word).1 refl in
    rw (append_assoc gap word rest, after_gap_is gap (word ++ rest) g (plain_no_blank word rest plain), take_at word rest (length word) refl, same, drop_at word rest (length word) refl) refl

pub word_at_takes : (word bytes rest : List ℕ) → word_at word bytes ≡ Some rest → (gap : List ℕ) × (bytes ≡ gap ++ word ++ rest) × IsGap gap
unfolding word_at
word_at_takes word bytes rest e =
    let n = length word in
    let first = found_step (after_gap bytes) (λ gone. cond (bytes_eq (take n gone) word) (Some (drop n gone)) None) rest e in
    let gone = first.0 in
    let parts = cond_some (bytes_eq (take n gone) word) (drop n gone) rest first.2 in
    let gap = after_gap_takes bytes gone first.1 in
    let front = (bytes_eq-Decides (take n gone) word).0 parts.0 in
    let behind : gone ≡ word ++ rest = sym (take-append-drop n gone) ∙ ap (λ w. w ++ drop n gone) front ∙ ap (λ r. word ++ r) parts.1 in
    (gap.0, gap.1 ∙ ap (λ r. gap.0 ++ r) behind ∙ sym (append_assoc gap.0 word rest), gap.2)

-- such a word doesn't stand where a text does
quote_other : (word rest : List ℕ) → is_plain word ≡ true → bytes_eq (take (length word) (34 ∷ rest)) word ≡ false
quote_other [] rest h = absurd cc
quote_other (b ∷ word) rest h =
    let other = not-true (eqb b 34) (and_parts (not (is_blank b)) (not (eqb b 34)) h).1 in
    let front = take (length (b ∷ word)) (34 ∷ rest) in
    elim (cases_Bool (bytes_eq front (b ∷ word))) [
      | inl same ↦ let all = (bytes_eq-Decides front (b ∷ word)).0 same in absurd cc
      | inr differs ↦ differs
    ]

pub word_at_text : (word gap text rest value : List ℕ) → is_plain word ≡ true → IsGap gap → IsText text value → word_at word (gap ++ text ++ rest) ≡ None
unfolding word_at
word_at_text word gap text rest value plain g (pieces, sound, is, means) =
    let inside = flat_map spelled pieces in
    let behind = inside ++ 34 ∷ rest in
    let front : gap ++ text ++ rest ≡ gap ++ (34 ∷ behind) = append_assoc gap text rest ∙ ap (λ w. gap ++ (w ++ rest)) is ∙ ap (λ r. gap ++ r) (quoted_word inside rest) in
    rw (front, after_gap_is gap (34 ∷ behind) g refl, quote_other word behind plain) refl

-- another word doesn't stand where this one does
pub word_at_other : (word other gap rest : List ℕ) → is_plain other ≡ true → IsGap gap → bytes_eq (take (length word) (other ++ rest)) word ≡ false
    → word_at word (gap ++ other ++ rest) ≡ None
unfolding word_at
word_at_other word other gap rest plain g differs =
    rw (append_assoc gap other rest, after_gap_is gap (other ++ rest) g (plain_no_blank other rest plain), differs) refl

-- ---- ways

pub way_at_is : (way : Way) (gap rest : List ℕ) → IsGap gap → way_at (gap ++ way_word way ++ rest) ≡ Some (way, rest)
unfolding way_at
way_at_is Forward gap rest g = rw (word_at_is (codes "forward") gap rest refl g) refl
way_at_is Backward gap rest g =
    rw (word_at_other (codes "forward") (codes "backward") gap rest refl g refl, word_at_is (codes "backward") gap rest refl g) refl
way_at_is Up gap rest g =
    rw (
      word_at_other (codes "forward") (codes "up") gap rest refl g refl,
      word_at_other (codes "backward") (codes "up") gap rest refl g refl,
      word_at_is (codes "up") gap rest refl g,
    ) refl
way_at_is BackUp gap rest g =
    rw (
      word_at_other (codes "forward") (codes "back-up") gap rest refl g refl,
      word_at_other (codes "backward") (codes "back-up") gap rest refl g refl,
      word_at_other (codes "up") (codes "back-up") gap rest refl g refl,
      word_at_is (codes "back-up") gap rest refl g,
    ) refl
way_at_is Down gap rest g =
    rw (
      word_at_other (codes "forward") (codes "down") gap rest refl g refl,
      word_at_other (codes "backward") (codes "down") gap rest refl g refl,
      word_at_other (codes "up") (codes "down") gap rest refl g refl,
      word_at_other (codes "back-up") (codes "down") gap rest refl g refl,
      word_at_is (codes "down") gap rest refl g,
    ) refl

-- the way's word stands there
abbrev StandsAt : Way → List ℕ → List ℕ → Type 0
StandsAt way bytes rest = (gap : List ℕ) × (bytes ≡ gap ++ way_word way ++ rest) × IsGap gap

along_parts : (this way : Way) (found : Option (List ℕ)) (rest : List ℕ) → option_map {U = Way × List ℕ} (λ r. (this, r)) found ≡ Some (way, rest)
    → (this ≡ way) × (found ≡ Some rest)
along_parts this way (Some r) rest e =
    let pair = same_Some (this, r) (way, rest) e in
    (ap (λ (x : Way × List ℕ). x.0) pair, ap (λ (x : Way × List ℕ). Some x.1) pair)
along_parts this way None rest e = absurd cc

along_takes : (this way : Way) (bytes rest : List ℕ) → along_at this bytes ≡ Some (way, rest) → StandsAt way bytes rest
along_takes this way bytes rest e =
    let parts = along_parts this way (word_at (way_word this) bytes) rest e in
    subst (λ (w : Way). StandsAt w bytes rest) parts.0 (word_at_takes (way_word this) bytes rest parts.1)

-- this way stands there, or one of the others does
along_or : (this way : Way) (bytes rest : List ℕ) (found others : Option (Way × List ℕ)) → along_at this bytes ≡ found
    → (others ≡ Some (way, rest) → StandsAt way bytes rest) → option_or found others ≡ Some (way, rest) → StandsAt way bytes rest
along_or this way bytes rest (Some found) others is more e = along_takes this way bytes rest (is ∙ e)
along_or this way bytes rest None others is more e = more e

pub way_at_takes : (bytes rest : List ℕ) (way : Way) → way_at bytes ≡ Some (way, rest) → (gap : List ℕ) × (bytes ≡ gap ++ way_word way ++ rest) × IsGap gap
unfolding way_at
way_at_takes bytes rest way e =
    along_or Forward way bytes rest (along_at Forward bytes) _ refl
    (λ k. along_or Backward way bytes rest (along_at Backward bytes) _ refl
    (λ k. along_or Up way bytes rest (along_at Up bytes) _ refl
    (λ k. along_or BackUp way bytes rest (along_at BackUp bytes) _ refl
    (λ k. along_takes Down way bytes rest k) k) k) k) e
