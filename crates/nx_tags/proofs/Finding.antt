-- What is found where reading stops.
use Rattle.std.proofs.Common.{◌≡◌, ℕ, suc, ◌-◌, ◌<◌, true, false, Some, None, List, [], ◌∷◌, ◌++◌, length, map, take, refl, sym, ◌∙◌, ap, subst, arith, append_assoc, length-append}
use Rattle.std.specs.Prelude.{slice_get}
use Rattle.std.specs.List.{AllByRecursion}
use Rattle.std.specs.Str.{IsUtf8}
use Rattle.std.proofs.lemmas.Option.{slice_get-get_or}
use Rattle.nx_base.specs.Text.{IsPlace}
use Rattle.nx_base.specs.Tokens.{cut, end_of, tokens_of}
use Rattle.nx_base.specs.declared.token.Token.{Token}
use Rattle.nx_events.specs.OpenTags.{Leaves}
use Rattle.nx_events.specs.declared.state.EventState.{EventState}
use Rattle.nx_tags.specs.declared.front.Front.{Front}
use Rattle.nx_tags.specs.Free.{IsFree}
use Rattle.nx_tags.specs.Parts.{ending_by, front_half, in_front, IsKnownAt}
use Rattle.nx_tags.specs.Reading.{IsRead, IsOpen, IsCutIn, IsStoppedInside, IfEnded, FoundInside, FoundFree, IsInnermostTag}
use Rattle.nx_tags.proofs.Answering.{depth_is}
use Rattle.nx_tags.proofs.Opened.{none_known, opened_inside}
use Rattle.nx_tags.proofs.Reading.{start_front, border_front, border_state, border_free, border_nothing_open, inside_front, inside_state, inside_free, free_inside}
use Rattle.nx_tags.proofs.Towards.{IsNext, next}

module _ (text : List ℕ) (utf8 : IsUtf8 text) where
  -- no start tag is known where reading begins
  pub first_opened : (first : ℕ) (state : EventState) (starts : List ℕ) → IsKnownAt text first state → starts ≡ [] → IsOpen text first (ending_by first (tokens_of text)) starts
  first_opened first state starts known none =
      none_known text first (ending_by first (tokens_of text)) starts
      (λ e. subst (λ n. ending_by n (tokens_of text) ≡ []) (sym e) (start_front text utf8)) none

  module _ (first at : ℕ) (front : Front) where
    -- where reading stops at the place
    pub found_border : IsRead text at front.state → IsOpen text first (ending_by at (tokens_of text)) front.starts.items → IfEnded text at true →
        0 < length front.state.elements → FoundFree text first at (Some front)
    found_border read opened ended some = (
      border_free text utf8 at front.state read ended some,
      border_state text utf8 at front.state read,
      subst (λ xs. IsOpen text first xs front.starts.items) (sym (border_front text utf8 at front.state read)) opened,
    )

    pub not_ended : IfEnded text at false → FoundFree text first at None
    not_ended ended = λ free. ended free.ended

    pub nothing_open : IsRead text at front.state → length front.state.elements ≡ 0 → FoundFree text first at None
    nothing_open read none = border_nothing_open text utf8 at front.state read none

    -- and where it stops at a token that the place cuts
    module _ (token : Token) (stopped : IsStoppedInside text first at front token) where
      abbrev here : Token
      here = cut text stopped.place

      last : at < end_of here
      last = subst (λ (t : Token). at < end_of t) stopped.is stopped.behind

      pub stopped_next : IsNext text utf8 stopped.place front.state token
      stopped_next = next text utf8 stopped.place front.state token stopped.read stopped.within stopped.is

      pub found_inside : (between : EventState) → FoundInside front.state at token (Some between) → (found : Front) → found.state ≡ between →
          found.starts.items ≡ front.starts.items → FoundFree text first at (Some found)
      found_inside between h found state_is starts_are =
          let inside = subst (λ t. FoundInside front.state at t (Some between)) stopped.is h in
          let p = stopped.place in
          let r = stopped.read in (
            inside_free text utf8 at p front.state r stopped.within stopped.before last inside.0,
            state_is ∙ inside.1 ∙ inside_state text utf8 at p front.state r stopped.within stopped.before last,
            subst (λ xs. IsOpen text first (in_front text at) xs) (sym starts_are)
                (opened_inside text first (ending_by p (tokens_of text)) (in_front text at) (front_half at here) front.starts.items stopped.opened
                (inside_front text utf8 at p front.state r stopped.within stopped.before last) inside.0.1.kind),
          )

      pub not_inside : FoundInside front.state at token None → FoundFree text first at None
      not_inside h =
          let no = subst (λ t. FoundInside front.state at t None) stopped.is h in
          λ free. no (free_inside text utf8 at stopped.place front.state stopped.read stopped.within stopped.before last free)

-- ---- the start tag of the innermost element

-- the last number of a list
last_at : (y : ℕ) (xs : List ℕ) (x : ℕ) → slice_get (y ∷ xs) (length xs) ≡ Some x → y ∷ xs ≡ take (length xs) (y ∷ xs) ++ x ∷ []
last_at y [] x e = let same : Some y ≡ Some x = e in let is : y ≡ x = cc in ap (λ n. n ∷ []) is
last_at y (z ∷ zs) x e = ap (λ ls. y ∷ ls) (last_at z zs x e)

pub last_found : (xs : List ℕ) (x : ℕ) → slice_get xs (length xs - 1) ≡ Some x → xs ≡ take (length xs - 1) xs ++ x ∷ []
last_found [] x e = absurd (let bad : None ≡ Some x = e in cc)
last_found (y ∷ xs) x e =
    let n : length (y ∷ xs) - 1 ≡ length xs = omega arith in
    subst (λ m. y ∷ xs ≡ take m (y ∷ xs) ++ x ∷ []) (sym n) (last_at y xs x (subst (λ m. slice_get (y ∷ xs) m ≡ Some x) n e))

pub none_last : (xs : List ℕ) → slice_get xs (length xs - 1) ≡ None → 0 < length xs → ⊥
none_last xs e some =
    let got = slice_get-get_or xs (length xs - 1) 0 (omega arith) in
    cc

-- the last of a list
pub record IsLast {A : Type 0} (xs : List A) : Type 0 where
  pub front : List A
  pub item : A
  pub split : xs ≡ front ++ item ∷ []

last_one : {A : Type 0} (x : A) (xs : List A) → IsLast (x ∷ xs)
last_one x [] = record { front = []; item = x; split = refl }
last_one x (y ∷ ys) = let r = last_one y ys in record { front = x ∷ r.front; item = r.item; split = ap (λ zs. x ∷ zs) r.split }

map_two : (xs ys : List Token) → map (λ (t : Token). t.from) (xs ++ ys) ≡ map (λ (t : Token). t.from) xs ++ map (λ (t : Token). t.from) ys
map_two [] ys = refl
map_two (x ∷ xs) ys = ap (λ zs. x.from ∷ zs) (map_two xs ys)

all_last : (P : Token → Type 0) (xs : List Token) (x : Token) → AllByRecursion P (xs ++ x ∷ []) → P x
all_last P [] x h = h.0
all_last P (y ∷ xs) x h = all_last P xs x h.1

last_number : (xs ys : List ℕ) (x y : ℕ) → xs ++ x ∷ [] ≡ ys ++ y ∷ [] → x ≡ y
last_number [] [] x y e = cc
last_number [] (z ∷ []) x y e = absurd (let k = ap length e in omega arith)
last_number [] (z ∷ w ∷ ys) x y e = absurd (let k = ap length e in omega arith)
last_number (z ∷ []) [] x y e = absurd (let k = ap length e in omega arith)
last_number (z ∷ w ∷ xs) [] x y e = absurd (let k = ap length e in omega arith)
last_number (z ∷ xs) (w ∷ ys) x y e = let tails : xs ++ x ∷ [] ≡ ys ++ y ∷ [] = cc in last_number xs ys x y tails

module _ (text : List ℕ) (at : ℕ) where
  known_last : (first : ℕ) (front : List ℕ) (start : ℕ) (opened : IsOpen text first (in_front text at) (front ++ start ∷ [])) → (known : List Token) → opened.known ≡ known →
      (tag : Token) × (tag.from ≡ start) × IsInnermostTag text at tag
  known_last first front start opened [] none =
      absurd (let e : front ++ start ∷ [] ≡ [] = opened.starts_are ∙ ap (λ ts. map (λ (t : Token). t.from) ts) none in
      let k = ap length e in let m = length-append front (start ∷ []) in omega arith)
  known_last first front start opened (x ∷ xs) some =
      let l = last_one x xs in
      let whole : opened.known ≡ l.front ++ l.item ∷ [] = some ∙ l.split in
      let numbers : front ++ start ∷ [] ≡ map (λ (t : Token). t.from) l.front ++ l.item.from ∷ [] =
      opened.starts_are ∙ ap (λ ts. map (λ (t : Token). t.from) ts) whole ∙ map_two l.front (l.item ∷ []) in (
        l.item,
        sym (last_number front (map (λ (t : Token). t.from) l.front) start l.item.from numbers),
        record {
          outer = opened.around ++ l.front;
          run = opened.run;
          leaves = subst (λ ts. Leaves (in_front text at) ts opened.run)
              (ap (λ ts. opened.around ++ ts) whole ∙ sym (append_assoc opened.around l.front (l.item ∷ []))) opened.leaves;
          cut_in = all_last (IsCutIn text) l.front l.item (subst (λ ts. AllByRecursion (IsCutIn text) ts) whole opened.cuts);
        },
      )

  pub innermost_is : (first : ℕ) (starts front : List ℕ) (start : ℕ) → IsOpen text first (in_front text at) starts → starts ≡ front ++ start ∷ [] →
      (tag : Token) × (tag.from ≡ start) × IsInnermostTag text at tag
  innermost_is first starts front start opened e =
      let o = subst (λ xs. IsOpen text first (in_front text at) xs) e opened in
      known_last first front start o o.known refl

  -- where reading began at the start of the text, all that are open are known
  pub some_known : (utf8 : IsUtf8 text) → IsPlace text at → IsFree text at → (starts : List ℕ) → IsOpen text 0 (in_front text at) starts → 0 < length starts
  some_known utf8 place free starts opened =
      let tags : opened.around ++ opened.known ≡ opened.known = ap (λ ts. ts ++ opened.known) (opened.whole refl) in
      let depth = depth_is text at utf8 place free (opened.around ++ opened.known) opened.run opened.leaves in
      let some = free.opened in
      let len = ap length tags in
      let numbers = ap length opened.starts_are ∙ map_len opened.known in
      omega arith
    where
      map_len : (xs : List Token) → length (map (λ (t : Token). t.from) xs) ≡ length xs
      map_len [] = refl
      map_len (x ∷ xs) = ap suc (map_len xs)
