-- Where a way along the tags of a text leads is a place of it.
use Rattle.std.proofs.Common.{◌≡◌, ℕ, zero, suc, ◌+◌, ◌-◌, Bool, List, [], ◌∷◌, ◌++◌, length, Option, Some, None, refl, sym, ap, subst, inl, inr}
use Rattle.std.specs.List.{AllByRecursion, filter, filter_map}
use Rattle.std.specs.Str.{IsUtf8}
use Rattle.std.proofs.lemmas.Bool.{cases_Bool, cases_lt, le-leb, lt-leb}
use Rattle.std.proofs.lemmas.Str.{IsCharBoundary-start}
use Rattle.nx_base.specs.Text.{IsPlace}
use Rattle.nx_base.specs.Tokens.{cut, end_of, tokens_within}
use Rattle.nx_base.specs.declared.token.Token.{Token}
use Rattle.nx_base.specs.declared.way.Way.{Way}
use Rattle.nx_base.specs.declared.way.Way.TheVariants.{Forward, Backward, Up, BackUp, Down}
use Rattle.nx_move.specs.Balance.{ClosedAt, OpenedAt}
use Rattle.nx_move.specs.Tags.{tag_kind, tag_of, tags_of}
use Rattle.nx_move.specs.Ways.{LeadsTo}
use Rattle.nx_move.specs.declared.tag.Tag.{Tag}
use Rattle.nx_move.specs.declared.tag.TagKind.{TagKind}
use Rattle.nx_scan.proofs.Every.{cut-is_token}

-- the tag lies between two places
abbrev Stands : List ℕ → Tag → Type 0
Stands text tag = IsPlace text tag.from × IsPlace text tag.to

abbrev AllStand : List ℕ → List Tag → Type 0
AllStand text tags = AllByRecursion (Stands text) tags

one_more : (text : List ℕ) (token : Token) (kind : Option TagKind) (others : List Token) → tag_kind token.kind ≡ kind → IsPlace text token.from → IsPlace text (end_of token)
    → AllStand text (filter_map tag_of others) → AllStand text (filter_map tag_of (token ∷ others))
one_more text token (Some kind) others is start end h = rw is ((start, end), h)
one_more text token None others is start end h = rw is h

tags_stand : (n : ℕ) (text : List ℕ) (at : ℕ) → IsUtf8 text → IsPlace text at → AllStand text (filter_map tag_of (tokens_within n text at))
unfolding tokens_within
tags_stand zero text at utf8 place = tt
tags_stand (suc n) text at utf8 place = elim (cases_lt at (length text)) [
  | inl within ↦
      let token = cut text at in
      let here = cut-is_token text at utf8 place within in
      let P : ℕ → Type 0 = λ m. IsPlace text m in
      let next : end_of token ≡ at + length token.bytes = ap (λ m. m + length token.bytes) here.from in
      rw (lt-leb (length text) at within) (one_more text token (tag_kind token.kind) (tokens_within n text (at + length token.bytes)) refl (subst P (sym here.from) place) here.border
      (tags_stand n text (at + length token.bytes) utf8 (subst P next here.border)))
  | inr past ↦ rw (le-leb (length text) at past) tt
]

all_tags_stand : (text : List ℕ) → IsUtf8 text → AllStand text (tags_of text)
all_tags_stand text utf8 = tags_stand (length text - 0) text 0 utf8 (IsCharBoundary-start text utf8)

some_stand : (text : List ℕ) (test : Tag → Bool) (tags : List Tag) → AllStand text tags → AllStand text (filter test tags)
some_stand text test [] h = tt
some_stand text test (tag ∷ tags) h = elim (cases_Bool (test tag)) [
  | inl in_it ↦ rw in_it (h.0, some_stand text test tags h.1)
  | inr out ↦ rw out (some_stand text test tags h.1)
]

-- one among them, and those in front of it and behind it
stands_among : (text : List ℕ) (front : List Tag) (tag : Tag) (behind : List Tag) → AllStand text (front ++ tag ∷ behind) → Stands text tag × AllStand text front × AllStand text behind
stands_among text [] tag behind h = (h.0, tt, h.1)
stands_among text (first ∷ front) tag behind h = let more = stands_among text front tag behind h.1 in (more.0, (h.0, more.1), more.2)

split_stands : (text : List ℕ) (tags front : List Tag) (tag : Tag) (behind : List Tag) → tags ≡ front ++ tag ∷ behind → AllStand text tags
    → Stands text tag × AllStand text front × AllStand text behind
split_stands text tags front tag behind e h = stands_among text front tag behind (subst (AllStand text) e h)

closed_stands : (text : List ℕ) (tags : List Tag) (place : ℕ) → AllStand text tags → ClosedAt tags place → IsPlace text place
closed_stands text tags place h closed =
    let P : ℕ → Type 0 = λ m. IsPlace text m in
    subst P (sym closed.there) (split_stands text tags closed.inner closed.end closed.others closed.split h).0.1

opened_stands : (text : List ℕ) (tags : List Tag) (place : ℕ) → AllStand text tags → OpenedAt tags place → IsPlace text place
opened_stands text tags place h opened =
    let P : ℕ → Type 0 = λ m. IsPlace text m in
    subst P (sym opened.there) (split_stands text tags opened.others opened.start opened.inner opened.split h).0.0

pub leads_to_place : (text : List ℕ) (way : Way) (at place : ℕ) → IsUtf8 text → LeadsTo way (tags_of text) at place → IsPlace text place
leads_to_place text Forward at place utf8 over =
    let P : ℕ → Type 0 = λ m. IsPlace text m in
    let parts = split_stands text _ [] over.first over.others over.split (some_stand text _ (tags_of text) (all_tags_stand text utf8)) in
    elim over.over [
      | inl (empty, there) ↦ subst P (sym there) parts.0.1
      | inr (start, closed) ↦ closed_stands text over.others place parts.2 closed
    ]
leads_to_place text Backward at place utf8 over =
    let P : ℕ → Type 0 = λ m. IsPlace text m in
    let parts = split_stands text _ over.others over.last [] over.split (some_stand text _ (tags_of text) (all_tags_stand text utf8)) in
    elim over.over [
      | inl (empty, there) ↦ subst P (sym there) parts.0.0
      | inr (end, opened) ↦ opened_stands text over.others place parts.1 opened
    ]
leads_to_place text Up at place utf8 closed = closed_stands text _ place (some_stand text _ (tags_of text) (all_tags_stand text utf8)) closed
leads_to_place text BackUp at place utf8 opened = opened_stands text _ place (some_stand text _ (tags_of text) (all_tags_stand text utf8)) opened
leads_to_place text Down at place utf8 inside =
    let P : ℕ → Type 0 = λ m. IsPlace text m in
    subst P (sym inside.there) (split_stands text _ inside.empties inside.first inside.others inside.split (some_stand text _ (tags_of text) (all_tags_stand text utf8))).0.1
