-- What is found is where the way leads.
use Rattle.std.proofs.Common.{◌≡◌, ℕ, List, [], ◌∷◌, ◌++◌, Option, Some, None, inl, inr, ◌⊎◌, refl, sym, ap, ◌∙◌}
use Rattle.std.specs.Prelude.{Result, Ok, Err, IfOk}
use Rattle.std.specs.List.{AllByRecursion}
use Rattle.nx_base.specs.declared.memory.NoMemory.{NoMemory}
use Rattle.nx_base.specs.declared.way.Way.{Way}
use Rattle.nx_base.specs.declared.way.Way.TheVariants as ways
use Rattle.nx_move.specs.declared.tag.Tag.{Tag}
use Rattle.nx_move.specs.declared.tag.TagKind.{TagKind}
use Rattle.nx_move.specs.declared.tag.TagKind.TheVariants as kinds
use Rattle.nx_move.specs.Balance.{ClosedAt, OpenedAt}
use Rattle.nx_move.specs.Ways.{ahead, behind, OverFirst, OverLast, InFirst, LeadsTo, IsReached, LeadsToOnePlace}
use Rattle.nx_move.specs.Walks.{Left, left_by, left_of, nothing_left, over, over_tag, into, into_tag, place_of}
use Rattle.nx_move.proofs.Counting.{closed_only, closed_found}
use Rattle.nx_move.proofs.Keeping.{left_on, opened_only, opened_found}

-- ---- over the first

over_only : (tags : List Tag) (place : ℕ) → OverFirst tags place → over tags ≡ Some place
over_only tags place h = ap over h.split ∙ by h.over
  where
    by : ((h.first.kind ≡ kinds.Empty) × (place ≡ h.first.to)) ⊎ ((h.first.kind ≡ kinds.Start) × ClosedAt h.others place)
        → over_tag h.first.kind h.first.to h.others ≡ Some place
    by (inl e) = ap (λ k. over_tag k h.first.to h.others) e.0 ∙ ap (λ n. Some n) (sym e.1)
    by (inr s) = ap (λ k. over_tag k h.first.to h.others) s.0 ∙ closed_only h.others place s.1

over_found : (tags : List Tag) (place : ℕ) → over tags ≡ Some place → OverFirst tags place
over_found [] place e = absurd (cc)
over_found (first ∷ others) place e = by first.kind refl e
  where
    by : (kind : TagKind) → first.kind ≡ kind → over_tag kind first.to others ≡ Some place → OverFirst (first ∷ others) place
    by kinds.Start k e = record { first = first; others = others; split = refl; over = inr (k, closed_found others place e) }
    by kinds.Empty k e = (let there : place ≡ first.to = cc in record { first = first; others = others; split = refl; over = inl (k, there) })
    by kinds.End k e = absurd (cc)

-- ---- into the first

into_only_from : (empties : List Tag) (first : Tag) (others : List Tag) (place : ℕ) → AllByRecursion (λ tag. tag.kind ≡ kinds.Empty) empties
    → first.kind ≡ kinds.Start → place ≡ first.to → into (empties ++ first ∷ others) ≡ Some place
into_only_from [] first others place passed s there = ap (λ k. into_tag k first.to (into others)) s ∙ ap (λ n. Some n) (sym there)
into_only_from (tag ∷ empties) first others place passed s there =
    ap (λ k. into_tag k tag.to (into (empties ++ first ∷ others))) passed.0 ∙ into_only_from empties first others place passed.1 s there

into_only : (tags : List Tag) (place : ℕ) → InFirst tags place → into tags ≡ Some place
into_only tags place h = ap into h.split ∙ into_only_from h.empties h.first h.others place h.passed h.kind h.there

into_found : (tags : List Tag) (place : ℕ) → into tags ≡ Some place → InFirst tags place
into_found [] place e = absurd (cc)
into_found (tag ∷ tags) place e = by tag.kind refl e (into_found tags place)
  where
    by : (kind : TagKind) → tag.kind ≡ kind → into_tag kind tag.to (into tags) ≡ Some place → (into tags ≡ Some place → InFirst tags place)
        → InFirst (tag ∷ tags) place
    by kinds.Start k e more =
        let there : place ≡ tag.to = cc in
        record { empties = []; first = tag; others = tags; split = refl; passed = tt; kind = k; there = there }
    by kinds.Empty k e more =
        let h = more e in
        record {
          empties = tag ∷ h.empties;
          first = h.first;
          others = h.others;
          split = ap (λ ts. tag ∷ ts) h.split;
          passed = (k, h.passed);
          kind = h.kind;
          there = h.there;
        }
    by kinds.End k e more = absurd (cc)

-- ---- back over the last

last_left : (others : List Tag) (last : Tag)
    → (left_of nothing_left (others ++ last ∷ [])).last ≡ (left_by last.kind last.from (left_of nothing_left others).starts).last
last_left others last = ap (λ (l : Left). l.last) (left_on nothing_left others (last ∷ []))

back_only : (tags : List Tag) (place : ℕ) → OverLast tags place → (left_of nothing_left tags).last ≡ Some place
back_only tags place h = ap (λ ts. (left_of nothing_left ts).last) h.split ∙ last_left h.others h.last ∙ by h.over
  where
    by : ((h.last.kind ≡ kinds.Empty) × (place ≡ h.last.from)) ⊎ ((h.last.kind ≡ kinds.End) × OpenedAt h.others place)
        → (left_by h.last.kind h.last.from (left_of nothing_left h.others).starts).last ≡ Some place
    by (inl e) = ap (λ k. (left_by k h.last.from (left_of nothing_left h.others).starts).last) e.0 ∙ ap (λ n. Some n) (sym e.1)
    by (inr s) = ap (λ k. (left_by k h.last.from (left_of nothing_left h.others).starts).last) s.0 ∙ opened_only h.others place s.1

-- a list is empty, or has a last item
record Ends (tags : List Tag) : Type 0 where
  pub others : List Tag
  pub last : Tag
  pub split : tags ≡ others ++ last ∷ []

ends : (tags : List Tag) → (tags ≡ []) ⊎ Ends tags
ends [] = inl refl
ends (tag ∷ tags) = by (ends tags)
  where
    by : (tags ≡ []) ⊎ Ends tags → (tag ∷ tags ≡ []) ⊎ Ends (tag ∷ tags)
    by (inl none) = inr (record { others = []; last = tag; split = ap (λ ts. tag ∷ ts) none })
    by (inr h) = inr (record { others = tag ∷ h.others; last = h.last; split = ap (λ ts. tag ∷ ts) h.split })

back_found : (tags : List Tag) (place : ℕ) → (left_of nothing_left tags).last ≡ Some place → OverLast tags place
back_found tags place e = by (ends tags)
  where
    over_last : (kind : TagKind) (others : List Tag) (last : Tag) → tags ≡ others ++ last ∷ [] → last.kind ≡ kind
        → (left_by kind last.from (left_of nothing_left others).starts).last ≡ Some place → OverLast tags place
    over_last kinds.Start others last split k e = absurd (cc)
    over_last kinds.Empty others last split k e =
        let there : place ≡ last.from = cc in
        record { others = others; last = last; split = split; over = inl (k, there) }
    over_last kinds.End others last split k e = record { others = others; last = last; split = split; over = inr (k, opened_found others place e) }

    by : (tags ≡ []) ⊎ Ends tags → OverLast tags place
    by (inl none) = (let is : None ≡ Some place = sym (ap (λ ts. (left_of nothing_left ts).last) none) ∙ e in absurd (cc))
    by (inr h) = over_last h.last.kind h.others h.last h.split refl (sym (ap (λ ts. (left_of nothing_left ts).last) h.split ∙ last_left h.others h.last) ∙ e)

-- ---- every way

only : (way : Way) (tags : List Tag) (at place : ℕ) → LeadsTo way tags at place → place_of way tags at ≡ Some place
only ways.Forward tags at place h = over_only (ahead at tags) place h
only ways.Backward tags at place h = back_only (behind at tags) place h
only ways.Up tags at place h = closed_only (ahead at tags) place h
only ways.BackUp tags at place h = opened_only (behind at tags) place h
only ways.Down tags at place h = into_only (ahead at tags) place h

found : (way : Way) (tags : List Tag) (at place : ℕ) → place_of way tags at ≡ Some place → LeadsTo way tags at place
found ways.Forward tags at place e = over_found (ahead at tags) place e
found ways.Backward tags at place e = back_found (behind at tags) place e
found ways.Up tags at place e = closed_found (ahead at tags) place e
found ways.BackUp tags at place e = opened_found (behind at tags) place e
found ways.Down tags at place e = into_found (ahead at tags) place e

reached : (way : Way) (tags : List Tag) (at : ℕ) (answer : Option ℕ) → place_of way tags at ≡ answer → IsReached way tags at answer
reached way tags at None is = λ place h. (let e : None ≡ Some place = sym is ∙ only way tags at place h in absurd (cc))
reached way tags at (Some place) is = found way tags at place is

pub is_reached : (way : Way) (tags : List Tag) (at : ℕ) (answer : Option ℕ) → answer ≡ place_of way tags at → IsReached way tags at answer
is_reached way tags at answer is = reached way tags at answer (sym is)

pub if_reached : (way : Way) (tags : List Tag) (at : ℕ) (result : Result (Option ℕ) NoMemory) (found : Option ℕ) → IfOk result (λ answer. answer ≡ found)
    → found ≡ place_of way tags at → IfOk result (IsReached way tags at)
if_reached way tags at (Ok answer) found h is = is_reached way tags at answer (h ∙ is)
if_reached way tags at (Err fault) found h is = h

pub one_place : LeadsToOnePlace
one_place way tags at here there h k =
    let e : Some here ≡ Some there = sym (only way tags at here h) ∙ only way tags at there k in
    cc
