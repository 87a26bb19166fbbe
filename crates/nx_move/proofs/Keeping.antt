-- Keeping the starts that are open finds the Start that an End closes.
use Rattle.std.proofs.Common.{◌≡◌, ℕ, List, [], ◌∷◌, ◌++◌, Some, refl, sym, ap, subst, ◌∙◌, append_assoc}
use Rattle.std.proofs.lemmas.List.{append-nil}
use Rattle.nx_move.specs.declared.tag.Tag.{Tag}
use Rattle.nx_move.specs.declared.tag.TagKind.{TagKind}
use Rattle.nx_move.specs.declared.tag.TagKind.TheVariants as kinds
use Rattle.nx_move.specs.Balance.{Balanced, nothing, empty, element, OpenedAt}
use Rattle.nx_move.specs.Walks.{Left, left_by, left_of, nothing_left, first_of, others_of}
use Rattle.nx_move.proofs.Counting.{both_balanced}

pub left_on : (left : Left) (front back : List Tag) → left_of left (front ++ back) ≡ left_of (left_of left front) back
left_on left [] back = refl
left_on left (tag ∷ front) back = left_on (left_by tag.kind tag.from left.starts) front back

-- what is balanced leaves the starts that are open
through : (left : Left) (inner : List Tag) → Balanced inner → (left_of left inner).starts ≡ left.starts
through left [] nothing = refl
through left (tag ∷ inner) (empty _ _ e h) =
    through (left_by tag.kind tag.from left.starts) inner h ∙ rw e refl
through left _ (element start end inner more s h e k) =
    let begun = left_by start.kind start.from left.starts in
    let past = left_of begun inner in
    let ended = left_by end.kind end.from past.starts in
    let started : begun.starts ≡ start.from ∷ left.starts = rw s refl in
    let still : past.starts ≡ start.from ∷ left.starts = through begun inner h ∙ started in
    let closed : ended.starts ≡ left.starts = rw (e, still) refl in
    ap (λ (l : Left). l.starts) (left_on begun inner (end ∷ more)) ∙ through ended more k ∙ closed

pub opened_starts : (tags : List Tag) (place : ℕ) (h : OpenedAt tags place)
    → (left_of nothing_left tags).starts ≡ place ∷ (left_of nothing_left h.others).starts
opened_starts tags place h =
    let around = left_of nothing_left h.others in
    let begun = left_by h.start.kind h.start.from around.starts in
    let kind = h.kind in
    let started : begun.starts ≡ h.start.from ∷ around.starts = rw kind refl in
    ap (λ ts. (left_of nothing_left ts).starts) h.split
    ∙ ap (λ (l : Left). l.starts) (left_on nothing_left h.others (h.start ∷ h.inner))
    ∙ through begun h.inner h.between ∙ started ∙ ap (λ n. n ∷ around.starts) (sym h.there)

pub opened_only : (tags : List Tag) (place : ℕ) → OpenedAt tags place → first_of (left_of nothing_left tags).starts ≡ Some place
opened_only tags place h = ap first_of (opened_starts tags place h)

-- ---- what is kept is open

-- the tags leave these starts open
data Leaves : List Tag → List ℕ → Type 0 where
  none : (tags : List Tag) → Leaves tags []
  begun : (tags others inner : List Tag) (start : Tag) (places : List ℕ) → tags ≡ others ++ start ∷ inner → Balanced inner → start.kind ≡ kinds.Start
      → Leaves others places → Leaves tags (start.from ∷ places)

behind_balanced : (tags more : List Tag) (places : List ℕ) → Leaves tags places → Balanced more → Leaves (tags ++ more) places
behind_balanced tags more [] h b = none (tags ++ more)
behind_balanced tags more _ (begun _ others inner start places split h s around) b =
    begun (tags ++ more) others (inner ++ more) start places
    (ap (λ ts. ts ++ more) split ∙ append_assoc others (start ∷ inner) more) (both_balanced inner more h b) s around

ended : (tags : List Tag) (tag : Tag) (places : List ℕ) → tag.kind ≡ kinds.End → Leaves tags places → Leaves (tags ++ tag ∷ []) (others_of places)
ended tags tag [] e h = none (tags ++ tag ∷ [])
ended tags tag _ e (begun _ others inner start places split h s around) =
    subst (λ ts. Leaves ts places)
    (sym (append_assoc others (start ∷ inner) (tag ∷ [])) ∙ ap (λ ts. ts ++ tag ∷ []) (sym split))
    (behind_balanced others (start ∷ (inner ++ tag ∷ [])) places around (element start tag inner [] s h e nothing))

one_more : (kind : TagKind) (tags : List Tag) (tag : Tag) (places : List ℕ) → tag.kind ≡ kind → Leaves tags places
    → Leaves (tags ++ tag ∷ []) (left_by kind tag.from places).starts
one_more kinds.Start tags tag places e h = begun (tags ++ tag ∷ []) tags [] tag places refl nothing e h
one_more kinds.Empty tags tag places e h = behind_balanced tags (tag ∷ []) places h (empty tag [] e nothing)
one_more kinds.End tags tag places e h = ended tags tag places e h

all_leave : (front tags : List Tag) (left : Left) → Leaves front left.starts → Leaves (front ++ tags) (left_of left tags).starts
all_leave front [] left h = subst (λ ts. Leaves ts left.starts) (sym (append-nil front)) h
all_leave front (tag ∷ tags) left h =
    subst (λ ts. Leaves ts (left_of (left_by tag.kind tag.from left.starts) tags).starts) (append_assoc front (tag ∷ []) tags)
    (all_leave (front ++ tag ∷ []) tags (left_by tag.kind tag.from left.starts) (one_more tag.kind front tag left.starts refl h))

first_open : (tags : List Tag) (places : List ℕ) (place : ℕ) → first_of places ≡ Some place → Leaves tags places → OpenedAt tags place
first_open tags [] place e h = absurd (cc)
first_open tags _ place e (begun _ others inner start places split h s around) =
    let there : place ≡ start.from = cc in
    record { others = others; start = start; inner = inner; split = split; between = h; kind = s; there = there }

pub opened_found : (tags : List Tag) (place : ℕ) → first_of (left_of nothing_left tags).starts ≡ Some place → OpenedAt tags place
opened_found tags place e = first_open tags (left_of nothing_left tags).starts place e (all_leave [] tags nothing_left (none []))
