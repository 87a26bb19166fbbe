-- A tag up to where an attribute may begin is text where the token is, since it ends with white space.
use Rattle.std.proofs.Common.{◌≡◌, ℕ, suc, ◌+◌, ◌<◌, List, [], ◌∷◌, ◌++◌, length, take, drop, get_or, true, refl, sym, ap, subst, ◌∙◌, arith, append_assoc}
use Rattle.std.specs.Prelude.{IsUtf8}
use Rattle.std.proofs.lemmas.Str.{IsUtf8-take, IsCharBoundary-after_ascii}
use Rattle.nx_base.specs.Characters.{is_space}
use Rattle.nx_events.specs.Prefixes.{IsOpenTag}
use Rattle.nx_events.specs.Spelling.{Written, AreSpaces, middle, spelled_before, spelled_all, spelled_tag}
use Rattle.nx_events.proofs.Texts.{behind, space_small}

record EndsInSpace (l : List ℕ) : Type 0 where
  front : List ℕ
  last : ℕ
  is : l ≡ front ++ last ∷ []
  space : is_space last ≡ true

ends_spaces : (l : List ℕ) → AreSpaces l → 0 < length l → EndsInSpace l
ends_spaces [] a h = absurd (omega arith)
ends_spaces (b ∷ []) a h = record { front = []; last = b; is = refl; space = a.0 }
ends_spaces (b ∷ c ∷ l) a h =
    let w = ends_spaces (c ∷ l) a.1 (omega arith) in
    record { front = b ∷ w.front; last = w.last; is = ap (λ (x : List ℕ). b ∷ x) w.is; space = w.space }

ends_more : (xs ys : List ℕ) → EndsInSpace ys → EndsInSpace (xs ++ ys)
ends_more xs ys w = record { front = xs ++ w.front; last = w.last; is = ap (λ (l : List ℕ). xs ++ l) w.is ∙ sym (append_assoc xs w.front (w.last ∷ [])); space = w.space }

ends_all : (all : List Written) (space : List ℕ) → EndsInSpace space → EndsInSpace (spelled_all all space)
ends_all [] space w = w
ends_all (it ∷ others) space w =
    let rest = spelled_all others space in
    ends_more it.space (spelled_before it rest)
    (ends_more (it.name ++ middle it) (it.quote ∷ (it.value ++ it.quote ∷ rest))
    (ends_more (it.quote ∷ []) (it.value ++ it.quote ∷ rest)
    (ends_more it.value (it.quote ∷ rest) (ends_more (it.quote ∷ []) rest (ends_all others space w)))))

last_at : (front : List ℕ) (b : ℕ) (rest : List ℕ) → get_or (front ++ b ∷ rest) (length front) 0 ≡ b
last_at [] b rest = refl
last_at (x ∷ front) b rest = last_at front b rest

take_front : (front : List ℕ) (b : ℕ) (rest : List ℕ) → take (length front + 1) (front ++ b ∷ rest) ≡ front ++ b ∷ []
take_front [] b rest = refl
take_front (x ∷ front) b rest =
    let e : suc (length front) + 1 ≡ suc (length front + 1) = omega arith in
    ap (λ n. take n (x ∷ (front ++ b ∷ rest))) e ∙ ap (λ (l : List ℕ). x ∷ l) (take_front front b rest)

long : (front : List ℕ) (b : ℕ) (rest : List ℕ) → length front < length (front ++ b ∷ rest)
long [] b rest = omega arith
long (x ∷ front) b rest = let more = long front b rest in omega arith

pub record IsTextTag (tag : List ℕ) : Type 0 where
  pub utf8 : IsUtf8 tag
  pub behind : IsUtf8 (drop 1 tag)

spaced_text : (tag rest : List ℕ) → EndsInSpace tag → IsUtf8 (tag ++ rest) → IsUtf8 tag
spaced_text tag rest w u =
    let whole : tag ++ rest ≡ w.front ++ w.last ∷ rest = ap (λ (l : List ℕ). l ++ rest) w.is ∙ append_assoc w.front (w.last ∷ []) rest in
    let v : IsUtf8 (w.front ++ w.last ∷ rest) = subst IsUtf8 whole u in
    let low : get_or (w.front ++ w.last ∷ rest) (length w.front) 0 < 128 = rw (last_at w.front w.last rest) (space_small w.last w.space) in
    let border = IsCharBoundary-after_ascii (w.front ++ w.last ∷ rest) (length w.front) v (long w.front w.last rest) low in
    subst IsUtf8 (take_front w.front w.last rest ∙ sym w.is) (IsUtf8-take (w.front ++ w.last ∷ rest) (length w.front + 1) v border)

pub open_tag_text : (tag rest : List ℕ) → IsOpenTag tag → IsUtf8 (tag ++ rest) → IsTextTag tag
open_tag_text tag rest o u =
    let inner = o.name ++ spelled_all o.attributes o.space in
    let ends : EndsInSpace (spelled_tag o.name o.attributes o.space) =
    ends_more (60 ∷ []) inner (ends_more o.name (spelled_all o.attributes o.space) (ends_all o.attributes o.space (ends_spaces o.space o.are_spaces o.some_space))) in
    let w : EndsInSpace tag = subst EndsInSpace (sym o.spelled) ends in
    let t = spaced_text tag rest w u in
    let s : IsUtf8 (60 ∷ inner) = subst IsUtf8 o.spelled t in
    let more : IsUtf8 inner = behind (60 ∷ inner) 0 s (omega arith) (omega arith) in
    record { utf8 = t; behind = subst (λ (l : List ℕ). IsUtf8 (drop 1 l)) (sym o.spelled) more }
