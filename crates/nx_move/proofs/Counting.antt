-- Counting the depth finds the End that closes.
use Rattle.std.proofs.Common.{◌≡◌, ℕ, zero, suc, List, [], ◌∷◌, ◌++◌, Option, Some, None, inl, inr, ◌⊎◌, refl, sym, ap, subst, ◌∙◌, append_assoc, add-one}
use Rattle.std.specs.Option.{option_map}
use Rattle.nx_move.specs.declared.tag.Tag.{Tag}
use Rattle.nx_move.specs.declared.tag.TagKind.{TagKind}
use Rattle.nx_move.specs.declared.tag.TagKind.TheVariants as kinds
use Rattle.nx_move.specs.Balance.{Balanced, nothing, empty, element, ClosedAt}
use Rattle.nx_move.specs.Walks.{closing, out_of}

-- ---- balanced tags

pub both_balanced : (front back : List Tag) → Balanced front → Balanced back → Balanced (front ++ back)
both_balanced [] back nothing k = k
both_balanced (tag ∷ others) back (empty _ _ e h) k = empty tag (others ++ back) e (both_balanced others back h k)
both_balanced _ back (element start end inner others s h e more) k =
    subst Balanced (ap (λ ts. start ∷ ts) (sym (append_assoc inner (end ∷ others) back)))
    (element start end inner (others ++ back) s h e (both_balanced others back more k))

-- ---- one tag more

at_start : (depth : ℕ) (tag : Tag) (tags : List Tag) → tag.kind ≡ kinds.Start → closing depth (tag ∷ tags) ≡ closing (suc depth) tags
at_start depth tag tags e = rw (e, add-one) refl

at_empty : (depth : ℕ) (tag : Tag) (tags : List Tag) → tag.kind ≡ kinds.Empty → closing depth (tag ∷ tags) ≡ closing depth tags
at_empty depth tag tags e = rw e refl

at_inner_end : (depth : ℕ) (tag : Tag) (tags : List Tag) → tag.kind ≡ kinds.End → closing (suc depth) (tag ∷ tags) ≡ closing depth tags
at_inner_end depth tag tags e = rw e refl

at_last_end : (tag : Tag) (tags : List Tag) → tag.kind ≡ kinds.End → closing 0 (tag ∷ tags) ≡ Some tag
at_last_end tag tags e = rw e refl

-- ---- what is balanced is passed

through : (inner others : List Tag) (depth : ℕ) → Balanced inner → closing depth (inner ++ others) ≡ closing depth others
through [] others depth nothing = refl
through (tag ∷ inner) others depth (empty _ _ e h) = at_empty depth tag (inner ++ others) e ∙ through inner others depth h
through _ others depth (element start end inner more s h e k) =
    at_start depth start ((inner ++ end ∷ more) ++ others) s
    ∙ ap (closing (suc depth)) (append_assoc inner (end ∷ more) others)
    ∙ through inner (end ∷ (more ++ others)) (suc depth) h
    ∙ at_inner_end depth end (more ++ others) e
    ∙ through more others depth k

pub closed_only : (tags : List Tag) (place : ℕ) → ClosedAt tags place → out_of tags ≡ Some place
closed_only tags place h =
    ap (option_map (λ (tag : Tag). tag.to)) (ap (closing 0) h.split ∙ through h.inner (h.end ∷ h.others) 0 h.between ∙ at_last_end h.end h.others h.kind)
    ∙ ap (λ n. Some n) (sym h.there)

-- ---- what is found closes

-- so many Ends close what is around, and the last of them is this
data Closes : ℕ → List Tag → Tag → Type 0 where
  here : (tags inner others : List Tag) (end : Tag) → tags ≡ inner ++ end ∷ others → Balanced inner → end.kind ≡ kinds.End → Closes zero tags end
  after : (depth : ℕ) (tags inner others : List Tag) (first end : Tag) → tags ≡ inner ++ first ∷ others → Balanced inner → first.kind ≡ kinds.End
      → Closes depth others end → Closes (suc depth) tags end

behind_balanced : (depth : ℕ) (front tags : List Tag) (end : Tag) → Balanced front → Closes depth tags end → Closes depth (front ++ tags) end
behind_balanced zero front tags end b (here _ inner others _ split h e) =
    here (front ++ tags) (front ++ inner) others end (ap (λ ts. front ++ ts) split ∙ sym (append_assoc front inner (end ∷ others))) (both_balanced front inner b h) e
behind_balanced (suc depth) front tags end b (after _ _ inner others first _ split h e more) =
    after depth (front ++ tags) (front ++ inner) others first end (ap (λ ts. front ++ ts) split ∙ sym (append_assoc front inner (first ∷ others)))
    (both_balanced front inner b h) e more

behind_start : (depth : ℕ) (tag : Tag) (tags : List Tag) (end : Tag) → tag.kind ≡ kinds.Start → Closes (suc depth) tags end → Closes depth (tag ∷ tags) end
behind_start depth tag tags end s (after _ _ inner others first _ split h e more) =
    let whole : (tag ∷ (inner ++ first ∷ [])) ++ others ≡ tag ∷ tags =
    ap (λ ts. tag ∷ ts) (append_assoc inner (first ∷ []) others ∙ sym split) in
    subst (λ ts. Closes depth ts end) whole
    (behind_balanced depth (tag ∷ (inner ++ first ∷ [])) others end (element tag first inner [] s h e nothing) more)

is_kind : (kind : TagKind) → (kind ≡ kinds.Start) ⊎ ((kind ≡ kinds.Empty) ⊎ (kind ≡ kinds.End))
is_kind kinds.Start = inl refl
is_kind kinds.Empty = inr (inl refl)
is_kind kinds.End = inr (inr refl)

closes : (depth : ℕ) (tags : List Tag) (end : Tag) → closing depth tags ≡ Some end → Closes depth tags end
closes depth [] end h = absurd (cc)
closes depth (tag ∷ tags) end h = elim (is_kind tag.kind) [
  | inl s ↦ behind_start depth tag tags end s (closes (suc depth) tags end (sym (at_start depth tag tags s) ∙ h))
  | inr (inl e) ↦ behind_balanced depth (tag ∷ []) tags end (empty tag [] e nothing) (closes depth tags end (sym (at_empty depth tag tags e) ∙ h))
  | inr (inr e) ↦ at_end depth e h (λ (d : ℕ). closes d tags end)
]
  where
    at_end : (depth : ℕ) → tag.kind ≡ kinds.End → closing depth (tag ∷ tags) ≡ Some end → ((d : ℕ) → closing d tags ≡ Some end → Closes d tags end)
        → Closes depth (tag ∷ tags) end
    at_end zero e h more =
        let is : Some tag ≡ Some end = sym (at_last_end tag tags e) ∙ h in
        let same : tag ≡ end = cc in
        subst (λ t. Closes zero (tag ∷ tags) t) same (here (tag ∷ tags) [] tags tag refl nothing e)
    at_end (suc depth) e h more = after depth (tag ∷ tags) [] tags tag end refl nothing e (more depth (sym (at_inner_end depth tag tags e) ∙ h))

found_closed : (tags : List Tag) (end : Tag) (place : ℕ) → place ≡ end.to → Closes 0 tags end → ClosedAt tags place
found_closed tags end place there (here _ inner others _ split h e) =
    record { inner = inner; end = end; others = others; split = split; between = h; kind = e; there = there }

pub closed_found : (tags : List Tag) (place : ℕ) → out_of tags ≡ Some place → ClosedAt tags place
closed_found tags place h = by (closing 0 tags) refl h
  where
    by : (found : Option Tag) → closing 0 tags ≡ found → option_map (λ (tag : Tag). tag.to) found ≡ Some place → ClosedAt tags place
    by None is e = absurd (cc)
    by (Some end) is e = (let there : place ≡ end.to = cc in found_closed tags end place there (closes 0 tags end is))
