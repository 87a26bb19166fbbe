-- How far the frontier moves.
use Rattle.std.proofs.Common.{◌≡◌, ◌⊎◌, inl, inr, ℕ, ◌+◌, ◌-◌, ◌^◌, ◌<◌, ◌≤◌, true, List, [], ◌∷◌, ◌++◌, length, refl, sym, ap, subst, ◌∙◌, arith}
use Rattle.std.specs.Prelude.{IsUtf8, OnOk, OnErr, Result, Ok, Err}
use Rattle.nx_base.specs.Rules.{Rules, RulesLaws, Lexeme, lexeme_of}
use Rattle.nx_base.specs.Running.{CutsTo, after_all}
use Rattle.nx_base.specs.Text.{IsPlace, edited}
use Rattle.nx_base.specs.Tokens.{cut}
use Rattle.nx_base.specs.declared.token.Token.{Token}
use Rattle.nx_marks.specs.Bound.{WillJoin, WillReach, ReachesIn, row_len}
use Rattle.nx_marks.specs.Chain.{Chain, Kept, FirstMeans, frontier_of, reach}
use Rattle.nx_marks.specs.Editing.{edit_noted, place_after, split}
use Rattle.nx_marks.specs.Frontier.{IsBorder, MovesOver}
use Rattle.nx_marks.specs.Rejoining.{Rejoins}
use Rattle.nx_marks.specs.Right.{IsRight}
use Rattle.nx_marks.specs.Walking.{Fits}
use Rattle.nx_marks.specs.declared.mark.Mark.{Mark}
use Rattle.nx_marks.proofs.Places.{reaches, next, edited-length, moved-behind}
use Rattle.nx_marks.proofs.Ends.{edit_row}
use Rattle.nx_marks.proofs.Reading.{cuts-append, front-led, frontier_place, led}
use Rattle.nx_marks.proofs.Splits.{split-is, split-whole}
use Rattle.nx_marks.proofs.Bounding.{none-left, gone_right}
use Rattle.nx_marks.proofs.Joining.{gone, Gone}
use Rattle.nx_marks.proofs.Passing.{go_idle, gone_from}
use Rattle.nx_marks.proofs.Stepping.{all_within, reach-append}
use Rattle.nx_marks.proofs.Taking.{chain-tail}

-- each token of a text has a byte or more
pub no_more_than_bytes : (text : List ℕ) (from to : ℕ) (tokens : List Lexeme) → IsUtf8 text → CutsTo text from tokens to → length tokens ≤ to - from
no_more_than_bytes text from to [] utf8 cuts = omega arith
no_more_than_bytes text from to (k ∷ ks) utf8 cuts =
    let here = next text from k utf8 cuts.0 cuts.1.0 cuts.1.1.0 in
    let more = no_more_than_bytes text (from + length k.bytes) to ks utf8 cuts.1.1.1 in
    let far = reaches text (from + length k.bytes) to ks cuts.1.1.1 in
    omega (arith, here.some)

pub over_reaches : (text : List ℕ) (from n to : ℕ) → MovesOver text from n to → from ≤ to
over_reaches text from n to over = reaches text from to over.tokens over.cuts

pub over_grows : (text : List ℕ) (from to : ℕ) → IsUtf8 text → MovesOver text from 1 to → from < to
over_grows text from to utf8 over =
    let bytes = no_more_than_bytes text from to over.tokens utf8 over.cuts in
    let one = over.counted in
    omega arith

-- tokens without end are taken by no text
pub over_all : (text : List ℕ) (from n to most : ℕ) → IsUtf8 text → MovesOver text from n to → to ≤ length text → length text ≤ most → (n ≡ most) ⊎ (to ≡ length text) → to ≡ length text
over_all text from n to most utf8 over within short (inl all) =
    let bytes = no_more_than_bytes text from to over.tokens utf8 over.cuts in
    let counted = over.counted in
    let far = reaches text from to over.tokens over.cuts in
    omega arith
over_all text from n to most utf8 over within short (inr end) = end

pub smaller : (len old new : ℕ) → old < new → new ≤ len → len - new < len - old
smaller len old new grows within = omega arith

length-both : (ks ls : List Lexeme) → length (ks ++ ls) ≡ length ks + length ls
length-both [] ls = omega arith
length-both (k ∷ ks) ls = let more = length-both ks ls in omega arith

pub moves_on : (text : List ℕ) (from m via n to : ℕ) → MovesOver text from m via → MovesOver text via n to → MovesOver text from (m + n) to
moves_on text from m via n to front back = record {
  tokens = front.tokens ++ back.tokens;
  cuts = cuts-append text from via to front.tokens back.tokens front.cuts back.cuts;
  counted = let both = length-both front.tokens back.tokens in let one = front.counted in let two = back.counted in omega arith;
}

pub one_token : (text : List ℕ) (at to : ℕ) (token : Token) → IsPlace text at → at < length text → token ≡ cut text at → to ≡ at + length token.bytes → MovesOver text at 1 to
one_token text at to token place within is end = record {
  tokens = lexeme_of token ∷ [];
  cuts = (place, (within, (ap lexeme_of is, sym end)));
  counted = omega arith;
}

-- of two borders, tokens lead from the first to the second
between : (t : List ℕ) (p a b : ℕ) (ks ls : List Lexeme) → IsUtf8 t → CutsTo t p ks a → CutsTo t p ls b → a ≤ b → MovesOver t a 0 b
between t p a b [] ls utf8 h g le =
    let P : ℕ → Type 0 = λ n. CutsTo t n ls b in
    record { tokens = ls; cuts = subst P h g; counted = omega arith }
between t p a b (k ∷ ks) [] utf8 h g le =
    absurd (let n = next t p k utf8 h.0 h.1.0 h.1.1.0 in let far = reaches t (p + length k.bytes) a ks h.1.1.1 in let some = n.some in omega arith)
between t p a b (k ∷ ks) (l ∷ ls) utf8 h g le =
    let same : l ≡ k = g.1.1.0 ∙ sym h.1.1.0 in
    let P : Lexeme → Type 0 = λ i. CutsTo t (p + length i.bytes) ls b in
    between t (p + length k.bytes) a b ks ls utf8 h.1.1.1 (subst P same g.1.1.1) le

pub from_border : (t : List ℕ) (a b : ℕ) → IsUtf8 t → IsBorder t a → IsBorder t b → a ≤ b → MovesOver t a 0 b
from_border t a b utf8 first second le = between t 0 a b first.tokens second.tokens utf8 first.cuts second.cuts le

-- the tokens that are taken since a row was joined lie behind it
pub over_joined : (t : List ℕ) (end count taken now via to : ℕ) → IsUtf8 t → IsBorder t end → IsBorder t to → (count ≤ taken → MovesOver t end (taken - count) via) → MovesOver t via 1 to → now ≡ taken + 1 → (count ≤ now → end ≤ to) → count ≤ now →
    MovesOver t end (now - count) to
over_joined t end count taken now via to utf8 row border before one more there le = by (earlier count taken)
  where
    P : ℕ → Type 0
    P n = MovesOver t end n to

    earlier : (a b : ℕ) → (a ≤ b) ⊎ (b < a)
    earlier a b = grind arith

    by : (count ≤ taken) ⊎ (taken < count) → MovesOver t end (now - count) to
    by (inl was) = let e : taken - count + 1 ≡ now - count = omega arith in subst P e (moves_on t end (taken - count) via 1 to (before was) one)
    by (inr first) = let e : 0 ≡ now - count = omega arith in subst P e (from_border t end to utf8 row border (there le))

-- where a row reaches the text's end, no token is taken behind it
pub none_behind : (t : List ℕ) (count taken to : ℕ) → IsUtf8 t → to ≤ length t → (count ≤ taken → MovesOver t (length t) (taken - count) to) → taken ≤ count
none_behind t count taken to utf8 within behind = by (order count taken)
  where
    order : (a b : ℕ) → (a ≤ b) ⊎ (b ≤ a)
    order a b = grind arith

    by : (count ≤ taken) ⊎ (taken ≤ count) → taken ≤ count
    by (inr le) = le
    by (inl le) = let m = behind le in let bytes = no_more_than_bytes t (length t) to m.tokens utf8 m.cuts in let counted = m.counted in omega arith

module _ {S M : Type 0} (is_state : S → Type 0) (means : S → M) (r : Rules M) (laws : RulesLaws r) (t : List ℕ) (utf8 : IsUtf8 t) where
  -- the frontier is a border
  pub border_of : (k : Kept S) → IsRight is_state means r t k → IsBorder t (frontier_of k)
  border_of k h = let l = front-led is_state means r t laws k h in record { tokens = l.tokens; cuts = l.cuts }

  -- so is the end of a row that tokens lead to
  pub end_border : (k : Kept S) (n end : ℕ) → IsRight is_state means r t k → WillReach means r t n end k → IsBorder t end
  end_border k n end h w = by k.aside refl
    where
      by : (l : List (Mark S)) → k.aside ≡ l → IsBorder t end
      by [] e = absurd (let F : List (Mark S) → Type 0 = λ l. FirstMeans means (after_all r (means k.here.state) w.left) l in subst F e w.first)
      by (y ∷ ys) e =
          let row = split true y ys in
          let at : ℕ = 0 + reach k.front in
          let b = border_of k h in
          let tail = chain-tail is_state means r t 0 at k.front (k.here ∷ k.aside) refl h.holds.chain in
          let C : List (Mark S) → Type 0 = λ l. Chain is_state means r t (at + k.here.len) l in
          let F : List (Mark S) → Type 0 = λ l. FirstMeans means (means y.state) l in
          let is = split-is true y ys in
          let l = led is_state means r t laws (at + k.here.len) (means y.state) row.front (at + k.here.len + reach row.front) row.here row.aside refl (split-whole true y ys) (subst F (sym is) refl) (subst C (sym is) (subst C e tail.1.1)) in
          let R : List (Mark S) → Type 0 = λ l. frontier_of k + k.here.len + row_len l ≡ end in
          let there = subst R e w.row in
          let P : ℕ → Type 0 = λ n. CutsTo t n l.tokens (at + k.here.len + reach row.front) in
          let Q : ℕ → Type 0 = λ n. CutsTo t (frontier_of k + k.here.len) l.tokens n in
          let near : at + k.here.len ≡ frontier_of k + k.here.len = omega arith in
          let far : at + k.here.len + reach row.front ≡ end = omega arith in
          record {
            tokens = (b.tokens ++ w.left) ++ l.tokens;
            cuts = cuts-append t 0 (frontier_of k + k.here.len) end (b.tokens ++ w.left) l.tokens
                (cuts-append t 0 (frontier_of k) (frontier_of k + k.here.len) b.tokens w.left b.cuts w.cuts)
                (subst Q far (subst P near l.cuts));
          }

  pub over_between : (k j : Kept S) → IsRight is_state means r t k → IsRight is_state means r t j → frontier_of k ≤ frontier_of j → MovesOver t (frontier_of k) 0 (frontier_of j)
  over_between k j h g le =
      let a = border_of k h in
      let b = border_of j g in
      between t 0 (frontier_of k) (frontier_of j) a.tokens b.tokens utf8 a.cuts b.cuts le

  -- what is left when marks were joined
  pub rejoined : (k j : Kept S) (n end : ℕ) → Rejoins is_state means r k j → WillReach means r t n end k → ReachesIn means r t n end j
  rejoined k j n end s w = by (zero_or k.here.len)
    where
      zero_or : (m : ℕ) → (0 < m) ⊎ (m ≡ 0)
      zero_or m = grind arith

      by : (0 < k.here.len) ⊎ (k.here.len ≡ 0) → ReachesIn means r t n end j
      by (inl some) =
          let P : Kept S → Type 0 = λ i. ReachesIn means r t n end i in
          subst P (sym (s.waits some)) (inl (w, some))
      by (inr none) =
          let no : w.left ≡ [] = none-left is_state means r t utf8 (frontier_of k) (frontier_of k + k.here.len) w.left (omega arith) w.cuts in
          let count : n ≡ 0 = (let e = ap length no in let c = w.count in omega arith) in
          let P : ℕ → Type 0 = λ m. WillReach means r t m end k in
          inr (s.joins t end utf8 (subst P count w))

  -- a token doesn't pass a mark that is to be joined
  pub gone_idle : (k : Kept S) (n end : ℕ) (token : Token) → token ≡ cut t (frontier_of k) → 0 < k.here.len → WillReach means r t n end k → gone_from (length token.bytes) k ≡ k
  gone_idle k n end token is some w = by w.left w.cuts w.first
    where
      aside : (m : M) (l : List (Mark S)) → FirstMeans means m l → 0 < length l
      aside m [] f = absurd f
      aside m (y ∷ ys) f = omega arith

      by : (ks : List Lexeme) → CutsTo t (frontier_of k) ks (frontier_of k + k.here.len) → FirstMeans means (after_all r (means k.here.state) ks) k.aside → gone_from (length token.bytes) k ≡ k
      by [] h f = absurd (omega arith)
      by (c ∷ cs) h f =
          let same : length c.bytes ≡ length token.bytes = ap (λ (i : Lexeme). length i.bytes) (h.1.1.0 ∙ sym (ap lexeme_of is)) in
          let far = reaches t (frontier_of k + length c.bytes) (frontier_of k + k.here.len) cs h.1.1.1 in
          go_idle (length token.bytes) k (aside (after_all r (means k.here.state) (c ∷ cs)) k.aside f) (omega arith)

  -- the marks that a token passes go
  pub gone_there : (k : Kept S) (n : ℕ) → frontier_of k + n ≤ length t → IsRight is_state means r t k → Gone is_state means r t n (0 + reach k.front) k.here k.front k.marked (gone_from n k)
  gone_there k n fits h =
      gone is_state means r t n (0 + reach k.front) k.here k.front k.marked k.aside h.holds.ends (omega arith) (chain-tail is_state means r t 0 (0 + reach k.front) k.front (k.here ∷ k.aside) refl h.holds.chain) h.rule.saved

  -- a token was found at the frontier, and the marks that it passes are gone
  pub record Passed (k j : Kept S) (token : Token) : Type 0 where
    pub right : IsRight is_state means r t j
    pub marked : j.marked ≡ k.marked
    pub at : frontier_of j ≡ frontier_of k
    pub far : length token.bytes ≤ j.here.len
    pub waits : (n end : ℕ) → WillReach means r t n end k → 0 < k.here.len → j ≡ k

  pub token_fits : (k : Kept S) (token : Token) → IsRight is_state means r t k → token ≡ cut t (frontier_of k) → frontier_of k < length t → frontier_of k + length token.bytes ≤ length t
  token_fits k token h is rest =
      let place = frontier_place is_state means r t laws utf8 k h in
      let here = next t (frontier_of k) (lexeme_of token) utf8 place rest (ap lexeme_of is) in
      let fits = here.fits in
      omega arith

  pub passed : (k j : Kept S) (n : ℕ) (token : Token) → IsRight is_state means r t k → token ≡ cut t (frontier_of k) → frontier_of k < length t → n ≡ length token.bytes → j ≡ gone_from n k → Passed k j token
  passed k j n token h is rest count gone_is =
      let place = frontier_place is_state means r t laws utf8 k h in
      let here = next t (frontier_of k) (lexeme_of token) utf8 place rest (ap lexeme_of is) in
      let fits = here.fits in
      let g = gone_there k n (omega arith) h in
      let P : Kept S → Type 0 = λ i. IsRight is_state means r t i in
      let far = g.far in
      let len = ap (λ (i : Kept S). i.here.len) gone_is in
      record {
        right = subst P (sym gone_is) (gone_right is_state means r t k n (omega arith) h);
        marked = ap (λ (i : Kept S). i.marked) gone_is ∙ g.marked_is;
        at = ap (λ (i : Kept S). frontier_of i) gone_is ∙ ap reach g.front_is;
        far = omega arith;
        waits = λ m end w some. gone_is ∙ ap (λ c. gone_from c k) count ∙ gone_idle k m end token is some w;
      }

  -- what is left behind a token, and behind the marks that were joined
  pub near_on : (earlier_means : S → M) (earlier : Rules M) (k i j : Kept S) (n end : ℕ) → frontier_of k ≤ frontier_of j →
      ((m e : ℕ) → WillReach earlier_means earlier t m e k → 0 < k.here.len → (0 < m) × WillReach means r t (m - 1) e i) →
      Rejoins is_state means r i j → ReachesIn earlier_means earlier t n end k → ((0 < n) ⊎ (end ≤ frontier_of k)) × ReachesIn means r t (n - 1) end j
  near_on earlier_means earlier k i j n end grows step s (inl w) = let x = step n end w.0 w.1 in (inl x.0, rejoined i j (n - 1) end s x.1)
  near_on earlier_means earlier k i j n end grows step s (inr all) = (inr all, inr (omega arith))

  pub within : (k : Kept S) → IsRight is_state means r t k → frontier_of k ≤ length t
  within k h = (frontier_place is_state means r t laws utf8 k h).0

pub fits_text : {S M : Type 0} (is_state : S → Type 0) (means : S → M) (r : Rules M) (t added : List ℕ) (from to : ℕ) (k : Kept S) → IsUtf8 t → IsUtf8 added → IsPlace t from → IsPlace t to → from ≤ to →
    IsRight is_state means r t k → length t < 2 ^ 64 → length (edited t from to added) < 2 ^ 64 → Fits from to (length added) k
fits_text is_state means r t added from to k utf8 added_utf8 f u o h small new =
    let all = all_within is_state means r t k h in
    let parts = reach-append k.front (k.here ∷ k.aside) in
    let long = edited-length t added from to utf8 added_utf8 f u o in
    record { old = omega arith; new = omega arith }

-- what holds where a call answers, on to what follows from it
pub on_ok : {A E : Type 0} (P Q : Type 0) (o : Result A E) → (P → Q) → OnOk o P → OnOk o Q
on_ok P Q (Ok x) f p = f p
on_ok P Q (Err e) f p = tt

pub on_err : {A E : Type 0} (P : Type 0) (o : Result A E) → P → OnErr o P
on_err P (Ok x) p = tt
on_err P (Err e) p = p

-- before the text's end some token is left
pub still_some : (n len at : ℕ) → at < len → (0 < n) ⊎ (len ≤ at) → 0 < n
still_some n len at lt (inl some) = some
still_some n len at lt (inr all) = absurd (omega arith)

-- where no token is left up to a row, the frontier is at its end, or behind it
pub reached : {S M : Type 0} (means : S → M) (r : Rules M) (t : List ℕ) (count taken end : ℕ) (k : Kept S) → count ≤ taken → ReachesIn means r t (count - taken) end k → end ≤ frontier_of k
reached means r t count taken end k le (inr there) = there
reached means r t count taken end k le (inl w) = absurd (none w.0.left (let c = w.0.count in omega arith) w.0.cuts)
  where
    none : (ks : List Lexeme) → length ks ≡ 0 → CutsTo t (frontier_of k) ks (frontier_of k + k.here.len) → ⊥
    none [] e h = let some = w.1 in omega arith
    none (c ∷ cs) e h = omega arith

-- at the end of the text nothing is aside
pub none_aside : {S M : Type 0} (is_state : S → Type 0) (means : S → M) (r : Rules M) (t : List ℕ) (k : Kept S) → IsRight is_state means r t k → frontier_of k ≡ length t → (0 < k.here.len) ⊎ (k.aside ≡ []) → k.aside ≡ []
none_aside is_state means r t k h all (inr none) = none
none_aside is_state means r t k h all (inl some) = absurd (let e = all_within is_state means r t k h in omega arith)

-- behind one edit of a text that is read to its end, the row of the first mark behind the edit reaches the new end
pub will_join : {S M : Type 0} (is_state : S → Type 0) (means : S → M) (r : Rules M) (t added : List ℕ) (from to : ℕ) (k : Kept S) (left : List Lexeme) → IsUtf8 t → IsUtf8 added → IsPlace t from → IsPlace t to → from ≤ to →
    IsRight is_state means r t k → frontier_of k ≡ length t → k.aside ≡ [] → to < length t →
    CutsTo (edited t from to added) (frontier_of (edit_noted from to (length added) k)) left (frontier_of (edit_noted from to (length added) k) + (edit_noted from to (length added) k).here.len) →
    FirstMeans means (after_all r (means (edit_noted from to (length added) k).here.state) left) (edit_noted from to (length added) k).aside →
    WillJoin means r (edited t from to added) (length left) (edit_noted from to (length added) k)
will_join is_state means r t added from to k left utf8 added_utf8 f u o h all none behind cuts first =
    let row = edit_row from to (length added) k o h.holds.whole h.holds.ends none (omega arith) in
    let long = edited-length t added from to utf8 added_utf8 f u o in
    let end : place_after from to (length added) (frontier_of k) ≡ from + length added + (frontier_of k - to) = moved-behind from to (length added) (frontier_of k) (omega arith) in
    record { left = left; cuts = cuts; first = first; row = omega arith; count = refl }
