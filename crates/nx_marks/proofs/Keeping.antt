-- Marks stay, and none is saved where none is due.
use Rattle.std.proofs.Common.{◌≡◌, ◌⊎◌, inl, inr, ℕ, ◌+◌, ◌-◌, ◌<◌, ◌≤◌, Bool, true, false, ◌||◌, nat_le, List, [], ◌∷◌, ◌++◌, length, refl, sym, ap, subst, ◌∙◌, arith, append_assoc, append-nil}
use Rattle.std.specs.Prelude.{IsUtf8, if◌then◌else◌}
use Rattle.std.proofs.lemmas.Bool.Decides.{nat_tests}
use Rattle.nx_base.specs.Rules.{Rules, RulesLaws, LaterLaws, Lexeme, lexeme_of}
use Rattle.nx_base.specs.Running.{CutsTo, after_all}
use Rattle.nx_base.specs.Shifting.{placed}
use Rattle.nx_base.specs.Tokens.{cut}
use Rattle.nx_base.specs.declared.token.Token.{Token}
use Rattle.nx_marks.specs.Before.{marks_with}
use Rattle.nx_marks.specs.Chain.{Chain, AreWhole, Kept, frontier_of, is_mark, reach, FirstMeans}
use Rattle.nx_marks.specs.Editing.{split}
use Rattle.nx_marks.specs.Keeping.{places_from, places_of, next_of, IsAmong, Stands, IsDueAt, AreCalledFor, last_of, LeadsTo, AreUsed, KeepsMarks}
use Rattle.nx_marks.specs.Right.{IsRight, tags_behind}
use Rattle.nx_marks.specs.Ruling.{is_due}
use Rattle.nx_marks.specs.Tags.{tags_in}
use Rattle.nx_marks.specs.Taking.{begun, longer, took, let_go, marked_behind, row_joined}
use Rattle.nx_marks.specs.declared.mark.Mark.{Mark}
use Rattle.nx_marks.proofs.Places.{next, reaches}
use Rattle.nx_marks.proofs.Edits.{whole-link}
use Rattle.nx_marks.proofs.Splits.{split-is, split-whole, split-ends}
use Rattle.nx_marks.proofs.Taking.{chain-tail, reach-snoc, whole-last, tags-snoc}
use Rattle.nx_marks.proofs.Reading.{front-led, led, after-append, cuts-append}
use Rattle.nx_marks.proofs.Stepping.{reach-append}
use Rattle.nx_marks.proofs.Pending.{or-right, or-none, or-cases}

-- ---- places

pub places-append : {S : Type 0} (p : ℕ) (xs ys : List (Mark S)) → places_from p (xs ++ ys) ≡ places_from p xs ++ places_from (p + reach xs) ys
places-append p [] ys = let e : p ≡ p + 0 = omega arith in ap (λ n. places_from n ys) e
places-append p (x ∷ xs) ys =
    let e : p + x.len + reach xs ≡ p + (x.len + reach xs) = omega arith in
    ap (λ l. p ∷ l) (places-append (p + x.len) xs ys ∙ ap (λ n. places_from (p + x.len) xs ++ places_from n ys) e)

-- where marks stand, by the front alone and whether the frontier is one
abbrev pub standing : {S : Type 0} → List (Mark S) → Bool → List ℕ
standing front true = places_from 0 front ++ reach front ∷ []
standing front false = places_from 0 front

pub standing-is : {S : Type 0} (front : List (Mark S)) (here : Mark S) (marked : Bool) → places_from 0 (marks_with front here marked) ≡ standing front marked
standing-is front here true = places-append 0 front (here ∷ []) ∙ (let e : 0 + reach front ≡ reach front = omega arith in ap (λ n. places_from 0 front ++ n ∷ []) e)
standing-is front here false = refl

pub standing-same : {S : Type 0} (k j : Kept S) → j.front ≡ k.front → j.marked ≡ k.marked → places_of j ≡ places_of k
standing-same {S = S} k j f m =
    standing-is j.front j.here j.marked ∙ ap (λ l. standing l j.marked) f ∙ ap (λ b. standing k.front b) m ∙ sym (standing-is k.front k.here k.marked)

abbrev tip : Bool → ℕ → List ℕ
tip true p = p ∷ []
tip false p = []

standing-ends : {S : Type 0} (front : List (Mark S)) (marked : Bool) → standing front marked ≡ places_from 0 front ++ tip marked (reach front)
standing-ends front true = refl
standing-ends front false = sym (append-nil (places_from 0 front))

length-both : {X : Type 0} (xs ys : List X) → length (xs ++ ys) ≡ length xs + length ys
length-both [] ys = omega arith
length-both (x ∷ xs) ys = let e = length-both xs ys in omega arith

tags-some : {S : Type 0} (xs : List (Mark S)) (y : Mark S) (ys : List (Mark S)) → tags_behind (xs ++ y ∷ ys) ≡ tags_behind (y ∷ ys)
tags-some [] y ys = refl
tags-some (x ∷ []) y ys = refl
tags-some (x ∷ z ∷ xs) y ys = tags-some (z ∷ xs) y ys

-- the last of the front may be longer
places-last : {S : Type 0} (p : ℕ) (xs : List (Mark S)) (x y : Mark S) → places_from p (xs ++ y ∷ []) ≡ places_from p (xs ++ x ∷ [])
places-last p [] x y = refl
places-last p (z ∷ xs) x y = ap (λ l. p ∷ l) (places-last (p + z.len) xs x y)

last-from : {S : Type 0} (q p : ℕ) (xs : List (Mark S)) (x : Mark S) → last_of q (places_from p (xs ++ x ∷ [])) ≡ p + reach xs
last-from q p [] x = omega arith
last-from q p (y ∷ xs) x = last-from p (p + y.len) xs x ∙ (let e : p + y.len + reach xs ≡ p + (y.len + reach xs) = omega arith in e)

last-append : (q : ℕ) (ps qs : List ℕ) → last_of q (ps ++ qs) ≡ last_of (last_of q ps) qs
last-append q [] qs = refl
last-append q (p ∷ ps) qs = last-append p ps qs

among-left : (at : ℕ) (ps qs : List ℕ) → IsAmong at ps → IsAmong at (ps ++ qs)
among-left at [] qs h = absurd h
among-left at (p ∷ ps) qs (inl e) = inl e
among-left at (p ∷ ps) qs (inr h) = inr (among-left at ps qs h)

among-right : (at : ℕ) (ps qs : List ℕ) → IsAmong at qs → IsAmong at (ps ++ qs)
among-right at [] qs h = h
among-right at (p ∷ ps) qs h = inr (among-right at ps qs h)

module _ {S M : Type 0} (means : S → M) (r : Rules M) (t : List ℕ) where
  stands-behind : (at p q : ℕ) (xs ys : List (Mark S)) → p + reach xs ≡ q → Stands means r t at q ys → Stands means r t at p (xs ++ ys)
  stands-behind at p q [] ys e h = let P : ℕ → Type 0 = λ n. Stands means r t at n ys in let there : q ≡ p = omega arith in subst P there h
  stands-behind at p q (x ∷ xs) ys e h = inr (stands-behind at (p + x.len) q xs ys (omega arith) h)

  -- tokens lead to each of these, the first of them at a place
  abbrev AreLed : ℕ → List (Mark S) → Type 0
  AreLed p [] = Unit {0}
  AreLed p (x ∷ xs) = LeadsTo means r t p x.state × AreLed (p + x.len) xs

  led-behind : (p q : ℕ) (xs ys : List (Mark S)) → p + reach xs ≡ q → AreLed p (xs ++ ys) → AreLed q ys
  led-behind p q [] ys e h = let P : ℕ → Type 0 = λ n. AreLed n ys in let there : p ≡ q = omega arith in subst P there h
  led-behind p q (x ∷ xs) ys e h = led-behind (p + x.len) q xs ys (omega arith) h.1

  -- each of these, which are whole, is a mark
  stands-whole : (at p : ℕ) (xs ys : List (Mark S)) → AreWhole xs → AreLed p xs → IsAmong at (places_from p xs) → Stands means r t at p (xs ++ ys)
  stands-whole at p [] ys w l h = absurd h
  stands-whole at p (x ∷ xs) ys w l (inl e) = inl (e, whole_is x.whole x.saved w.0, l.0)
    where
      whole_is : (a b : Bool) → a ≡ true → (a || b) ≡ true
      whole_is true b e = refl
      whole_is false b e = absurd (cc)
  stands-whole at p (x ∷ xs) ys w l (inr h) = inr (stands-whole at (p + x.len) xs ys w.1 l.1 h)

reach-both : {S : Type 0} (xs ys : List (Mark S)) → reach (xs ++ ys) ≡ reach xs + reach ys
reach-both xs ys = reach-append xs ys

both-empty : {X : Type 0} (xs ys : List X) → xs ++ ys ≡ [] → (xs ≡ []) × (ys ≡ [])
both-empty [] ys e = (refl, e)
both-empty (x ∷ xs) ys e = absurd (let n = ap length e in omega arith)

module _ {M : Type 0} (r : Rules M) (t : List ℕ) where
  pub called-more : (stood older : ℕ → Type 0) (q : ℕ) (ps : List ℕ) → ((at : ℕ) → stood at → older at) → AreCalledFor r t stood q ps → AreCalledFor r t older q ps
  called-more stood older q [] f h = tt
  called-more stood older q (p ∷ ps) f h = (by h.0, called-more stood older p ps f h.1)
    where
      by : stood p ⊎ IsDueAt r t q p → older p ⊎ IsDueAt r t q p
      by (inl s) = inl (f p s)
      by (inr d) = inr d

  called-append : (stood : ℕ → Type 0) (q : ℕ) (ps qs : List ℕ) → AreCalledFor r t stood q ps → AreCalledFor r t stood (last_of q ps) qs → AreCalledFor r t stood q (ps ++ qs)
  called-append stood q [] qs h g = g
  called-append stood q (p ∷ ps) qs h g = (h.0, called-append stood p ps qs h.1 g)

  called-stood : {S : Type 0} (stood : ℕ → Type 0) (q p : ℕ) (xs : List (Mark S)) → ((at : ℕ) → IsAmong at (places_from p xs) → stood at) → AreCalledFor r t stood q (places_from p xs)
  called-stood stood q p [] f = tt
  called-stood stood q p (x ∷ xs) f = (inl (f p (inl refl)), called-stood stood p (p + x.len) xs (λ at h. f at (inr h)))

module _ {S M : Type 0} (means : S → M) (r : Rules M) (t : List ℕ) where
  used-more : (now later : List ℕ) (p : ℕ) (xs : List (Mark S)) → ((at : ℕ) → IsAmong at now → IsAmong at later) → AreUsed means r t now p xs → AreUsed means r t later p xs
  used-more now later p [] f h = tt
  used-more now later p (x ∷ xs) f h = ((λ m. by (h.0 m)), used-more now later (p + x.len) xs f h.1)
    where
      by : IsAmong p now ⊎ (LeadsTo means r t p x.state → ⊥) → IsAmong p later ⊎ (LeadsTo means r t p x.state → ⊥)
      by (inl a) = inl (f p a)
      by (inr d) = inr d

  used-append : (now : List ℕ) (p q : ℕ) (xs ys : List (Mark S)) → p + reach xs ≡ q → AreUsed means r t now p xs → AreUsed means r t now q ys → AreUsed means r t now p (xs ++ ys)
  used-append now p q [] ys e h g = let P : ℕ → Type 0 = λ n. AreUsed means r t now n ys in let there : q ≡ p = omega arith in subst P there g
  used-append now p q (x ∷ xs) ys e h g = (h.0, used-append now (p + x.len) q xs ys (omega arith) h.1 g)

  -- nothing happens to the marks
  pub keeps_same : (k j : Kept S) → places_of j ≡ places_of k → j.aside ≡ k.aside → next_of j ≡ next_of k → KeepsMarks means r t k j
  keeps_same k j e a n = record {
    more = [];
    stay = e ∙ sym (append-nil (places_of k));
    due = tt;
    gone = [];
    aside = sym a;
    next = inr (n ∙ (let z : next_of k ≡ next_of k + 0 = omega arith in z));
    used = tt;
  }

  pub keeps_all : (k : Kept S) → KeepsMarks means r t k k
  keeps_all k = keeps_same k k refl refl refl

  -- one after the other
  pub keeps_on : (a b c : Kept S) → KeepsMarks means r t a b → KeepsMarks means r t b c → KeepsMarks means r t a c
  keeps_on a b c h g = by h.next g.next
    where
      stay : places_of c ≡ places_of a ++ (h.more ++ g.more)
      stay = g.stay ∙ ap (λ l. l ++ g.more) h.stay ∙ append_assoc (places_of a) h.more g.more

      aside : a.aside ≡ (h.gone ++ g.gone) ++ c.aside
      aside = h.aside ∙ ap (λ l. h.gone ++ l) g.aside ∙ sym (append_assoc h.gone g.gone c.aside)

      now : (at : ℕ) → IsAmong at (places_of b) → IsAmong at (places_of c)
      now at i = let P : List ℕ → Type 0 = λ l. IsAmong at l in subst P (sym g.stay) (among-left at (places_of b) g.more i)

      due : ((at : ℕ) → Stands means r t at (next_of b) b.aside → Stands means r t at (next_of a) a.aside) → AreCalledFor r t (λ at. Stands means r t at (next_of a) a.aside) (last_of 0 (places_of a)) (h.more ++ g.more)
      due f =
          let P : ℕ → Type 0 = λ n. AreCalledFor r t (λ at. Stands means r t at (next_of a) a.aside) n g.more in
          let e : last_of 0 (places_of b) ≡ last_of (last_of 0 (places_of a)) h.more = ap (last_of 0) h.stay ∙ last-append 0 (places_of a) h.more in
          called-append r t (λ at. Stands means r t at (next_of a) a.aside) (last_of 0 (places_of a)) h.more g.more h.due
          (subst P e (called-more r t (λ at. Stands means r t at (next_of b) b.aside) (λ at. Stands means r t at (next_of a) a.aside) (last_of 0 (places_of b)) g.more f g.due))

      first : AreUsed means r t (places_of c) (next_of a) h.gone
      first = used-more (places_of b) (places_of c) (next_of a) h.gone now h.used

      by : (b.aside ≡ []) ⊎ (next_of b ≡ next_of a + reach h.gone) → (c.aside ≡ []) ⊎ (next_of c ≡ next_of b + reach g.gone) → KeepsMarks means r t a c
      by (inl none) n =
          let empty = both-empty g.gone c.aside (sym g.aside ∙ none) in
          let P : List (Mark S) → Type 0 = λ l. AreUsed means r t (places_of c) (next_of a) (h.gone ++ l) in
          let Q : List (Mark S) → Type 0 = λ l. AreUsed means r t (places_of c) (next_of a) l in
          record {
            more = h.more ++ g.more;
            stay = stay;
            due = due (λ at s. absurd (let R : List (Mark S) → Type 0 = λ l. Stands means r t at (next_of b) l in subst R none s));
            gone = h.gone ++ g.gone;
            aside = aside;
            next = inl empty.1;
            used = subst P (sym empty.0) (subst Q (sym (append-nil h.gone)) first);
          }
      by (inr e) n = record {
        more = h.more ++ g.more;
        stay = stay;
        due = due (λ at s. (let P : List (Mark S) → Type 0 = λ l. Stands means r t at (next_of a) l in subst P (sym h.aside) (stands-behind means r t at (next_of a) (next_of b) h.gone b.aside (sym e) s)));
        gone = h.gone ++ g.gone;
        aside = aside;
        next = far n;
        used = used-append (places_of c) (next_of a) (next_of b) h.gone g.gone (sym e) first g.used;
      }
        where
          far : (c.aside ≡ []) ⊎ (next_of c ≡ next_of b + reach g.gone) → (c.aside ≡ []) ⊎ (next_of c ≡ next_of a + reach (h.gone ++ g.gone))
          far (inl none) = inl none
          far (inr f) = inr (let both = reach-both h.gone g.gone in omega arith)

  -- a mark goes to the front
  pub keeps_begun : (k : Kept S) (s : S) → k.marked ≡ true → KeepsMarks means r t k (begun k s)
  keeps_begun k s e =
      let mark : Mark S = record { state = s; len = 0; tags = 0; faults = []; whole = true; saved = true } in
      let far : reach (k.front ++ mark ∷ []) ≡ reach k.front + 0 = reach-append k.front (mark ∷ []) ∙ (let z : reach k.front + (0 + 0) ≡ reach k.front + 0 = omega arith in z) in
      keeps_same k (begun k s)
      (places-append 0 k.front (mark ∷ []) ∙ (let z : 0 + reach k.front ≡ reach k.front = omega arith in ap (λ n. places_from 0 k.front ++ n ∷ []) z) ∙ sym (standing-is k.front k.here k.marked ∙ ap (λ b. standing k.front b) e))
      refl
      (omega arith)

-- ---- tokens

same-tokens : (t : List ℕ) (p q : ℕ) (ks ls : List Lexeme) → IsUtf8 t → CutsTo t p ks q → CutsTo t p ls q → ks ≡ ls
same-tokens t p q [] [] utf8 h g = refl
same-tokens t p q [] (l ∷ ls) utf8 h g =
    absurd (let n = next t p l utf8 g.0 g.1.0 g.1.1.0 in let far = reaches t (p + length l.bytes) q ls g.1.1.1 in let some = n.some in omega arith)
same-tokens t p q (k ∷ ks) [] utf8 h g =
    absurd (let n = next t p k utf8 h.0 h.1.0 h.1.1.0 in let far = reaches t (p + length k.bytes) q ks h.1.1.1 in let some = n.some in omega arith)
same-tokens t p q (k ∷ ks) (l ∷ ls) utf8 h g =
    let one : l ≡ k = g.1.1.0 ∙ sym h.1.1.0 in
    let P : Lexeme → Type 0 = λ i. CutsTo t (p + length i.bytes) ls q in
    ap (λ i. k ∷ i) (same-tokens t (p + length k.bytes) q ks ls utf8 h.1.1.1 (subst P one g.1.1.1)) ∙ ap (λ i. i ∷ ls) (sym one)

-- no token ends inside of the one at a border
not-inside : (t : List ℕ) (p f n at : ℕ) (ks ls : List Lexeme) → IsUtf8 t → CutsTo t p ks f → CutsTo t p ls at → n ≡ length (lexeme_of (cut t f)).bytes → f < at → at < f + n → ⊥
not-inside t p f n at [] [] utf8 h g e lt le = omega arith
not-inside t p f n at [] (l ∷ ls) utf8 h g e lt le =
    let P : ℕ → Type 0 = λ i. l ≡ lexeme_of (cut t i) in
    let same : length l.bytes ≡ length (lexeme_of (cut t f)).bytes = ap (λ (i : Lexeme). length i.bytes) (subst P h g.1.1.0) in
    let far = reaches t (p + length l.bytes) at ls g.1.1.1 in
    omega arith
not-inside t p f n at (k ∷ ks) [] utf8 h g e lt le = let far = reaches t (p + length k.bytes) f ks h.1.1.1 in omega arith
not-inside t p f n at (k ∷ ks) (l ∷ ls) utf8 h g e lt le =
    let one : l ≡ k = g.1.1.0 ∙ sym h.1.1.0 in
    let P : Lexeme → Type 0 = λ i. CutsTo t (p + length i.bytes) ls at in
    not-inside t (p + length k.bytes) f n at ks ls utf8 h.1.1.1 (subst P one g.1.1.1) e lt le

within-or : (a b : ℕ) → nat_le a b ≡ false → b < a
within-or a b h = grind (arith, nat_tests)

-- ---- one step

module _ {S M : Type 0} (is_state : S → Type 0) (means : S → M) (r : Rules M) (t : List ℕ) (laws : RulesLaws r) where
  row-led : (p q : ℕ) (xs : List (Mark S)) (z : Mark S) (zs : List (Mark S)) (before : List Lexeme) (m : M) → p + reach xs ≡ q → CutsTo t 0 before p → m ≡ after_all r r.first before →
      AreWhole xs → FirstMeans means m (xs ++ z ∷ zs) → Chain is_state means r t p (xs ++ z ∷ zs) → AreLed means r t p xs × LeadsTo means r t q z.state
  row-led p q [] z zs before m e cuts is w f h =
      let C : ℕ → Type 0 = λ n. CutsTo t 0 before n in
      let at : p ≡ q = omega arith in
      (tt, record { tokens = before; cuts = subst C at cuts; meaning = f ∙ is })
  row-led p q (x ∷ xs) z zs before m e cuts is w f h =
      let g = whole-link means r t p x.whole x (xs ++ z ∷ zs) w.0 h.1.0 in
      let on : after_all r (means x.state) g.tokens ≡ after_all r r.first (before ++ g.tokens) = ap (λ n. after_all r n g.tokens) (f ∙ is) ∙ sym (after-append r r.first before g.tokens) in
      let rest = row-led (p + x.len) q xs z zs (before ++ g.tokens) (after_all r (means x.state) g.tokens) (omega arith)
      (cuts-append t 0 p (p + x.len) before g.tokens cuts g.segment.cuts) on w.1 g.leads h.1.1 in
      ((record { tokens = before; cuts = cuts; meaning = f ∙ is }, rest.0), rest.1)

  -- tokens lead to each mark in front, and to the frontier's state
  all-led : (k : Kept S) → IsRight is_state means r t k → AreLed means r t 0 k.front × LeadsTo means r t (reach k.front) k.here.state
  all-led k h = row-led 0 (reach k.front) k.front k.here k.aside [] r.first (omega arith) refl refl h.holds.whole h.holds.first h.holds.chain

  -- by the rule, where the frontier is a mark behind a segment
  due-there : (k : Kept S) (before : List (Mark S)) (x : Mark S) → IsRight is_state means r t k → k.front ≡ before ++ x ∷ [] → is_due r (means k.here.state) x.tags ≡ true → IsDueAt r t (0 + reach before) (reach k.front)
  due-there k before x h front_is due =
      let all : k.front ++ k.here ∷ k.aside ≡ before ++ x ∷ k.here ∷ k.aside = ap (λ l. l ++ k.here ∷ k.aside) front_is ∙ append_assoc before (x ∷ []) (k.here ∷ k.aside) in
      let Q : List (Mark S) → Type 0 = λ l. Chain is_state means r t 0 l in
      let F : List (Mark S) → Type 0 = λ l. FirstMeans means r.first l in
      let W : List (Mark S) → Type 0 = λ l. AreWhole l in
      let wholes = subst W front_is h.holds.whole in
      let l = led is_state means r t laws 0 r.first before (0 + reach before) x (k.here ∷ k.aside) refl (whole-left before (x ∷ []) wholes) (subst F all h.holds.first) (subst Q all h.holds.chain) in
      let w = whole-link means r t (0 + reach before) x.whole x (k.here ∷ k.aside) (whole-last is_state means r t before x wholes) l.chain.1.0 in
      let end : 0 + reach before + x.len ≡ reach k.front = sym (ap reach front_is ∙ reach-snoc is_state means r t before x ∙ (let e : reach before + x.len ≡ 0 + reach before + x.len = omega arith in e)) in
      let C : ℕ → Type 0 = λ n. CutsTo t (0 + reach before) w.tokens n in
      let D : M → ℕ → Type 0 = λ m n. is_due r m n ≡ true in
      record {
        before = l.tokens;
        since = w.tokens;
        leads = l.cuts;
        on = subst C end w.segment.cuts;
        due = subst (λ (m : M). D (after_all r m w.tokens) (tags_in w.tokens)) l.meaning
            (subst (λ (n : ℕ). D (after_all r (means x.state) w.tokens) n) w.segment.tags_are (subst (λ (m : M). D m x.tags) w.leads due));
      }
    where
      whole-left : (xs ys : List (Mark S)) → AreWhole (xs ++ ys) → AreWhole xs
      whole-left [] ys w = tt
      whole-left (x ∷ xs) ys w = (w.0, whole-left xs ys w.1)

  -- a token is taken
  pub keeps_took : (earlier : S → M) (k : Kept S) (before : List (Mark S)) (x : Mark S) (token : Lexeme) (s : S) → k.front ≡ before ++ x ∷ [] → k.marked ≡ false → length token.bytes ≤ k.here.len →
      IsRight is_state means r t (took means r k before x token s) → KeepsMarks earlier r t k (took means r k before x token s)
  keeps_took earlier k before x token s front_is unmarked far h = by (took means r k before x token s).marked refl
    where
      j : Kept S
      j = took means r k before x token s

      y : Mark S
      y = longer x token (placed (x.len - r.back (means k.here.state)) (r.gives (means k.here.state) token))

      was : places_of k ≡ places_from 0 (before ++ x ∷ [])
      was = standing-is k.front k.here k.marked ∙ ap (λ b. standing k.front b) unmarked ∙ ap (places_from 0) front_is

      same : places_from 0 j.front ≡ places_of k
      same = places-last 0 before x y ∙ sym was

      next_is : next_of j ≡ next_of k + 0
      next_is =
          let a = ap reach front_is in
          let b = reach-append before (x ∷ []) in
          let c = reach-append before (y ∷ []) in
          let lt = far in
          omega arith

      by : (b : Bool) → j.marked ≡ b → KeepsMarks earlier r t k j
      by false e = record {
        more = [];
        stay = standing-is j.front j.here j.marked ∙ ap (λ b. standing j.front b) e ∙ same ∙ sym (append-nil (places_of k));
        due = tt;
        gone = [];
        aside = refl;
        next = inr next_is;
        used = tt;
      }
      by true e =
          let P : ℕ → Type 0 = λ n. IsDueAt r t n (reach j.front) in
          let last : last_of 0 (places_of k) ≡ 0 + reach before = ap (last_of 0) was ∙ last-from 0 0 before x in
          record {
            more = reach j.front ∷ [];
            stay = standing-is j.front j.here j.marked ∙ ap (λ b. standing j.front b) e ∙ ap (λ l. l ++ reach j.front ∷ []) same;
            due = (inr (subst P (sym last) (due-there j before y h refl e)), tt);
            gone = [];
            aside = refl;
            next = inr next_is;
            used = tt;
          }

  -- the marks that lie in a token go
  record Passes (f n gap : ℕ) (front : List (Mark S)) (marked : Bool) (now : List ℕ) (aside : List (Mark S)) (j : Kept S) : Type 0 where
    front_is : j.front ≡ front
    marked_is : j.marked ≡ marked
    gone : List (Mark S)
    aside_is : aside ≡ gone ++ j.aside
    far : (j.aside ≡ []) ⊎ (f + j.here.len ≡ f + gap + reach gone)
    used : AreUsed means r t now (f + gap) gone

  passes : (f n : ℕ) (here : Mark S) (front : List (Mark S)) (marked : Bool) (now : List ℕ) (aside : List (Mark S)) → ((at : ℕ) (s : S) → f < at → at < f + n → LeadsTo means r t at s → ⊥) → (0 < here.len) ⊎ (aside ≡ []) →
      Passes f n here.len front marked now aside (let_go n here front marked aside)
  passes f n here front marked now [] never some = record { front_is = refl; marked_is = refl; gone = []; aside_is = refl; far = inl refl; used = tt }
  passes f n here front marked now (y ∷ ys) never (inr none) = absurd (let e = ap length none in omega arith)
  passes f n here front marked now (y ∷ ys) never (inl some) = by (nat_le n here.len) refl (passes f n on front marked now ys never (inl (omega arith)))
    where
      on : Mark S
      on = record { state = here.state; len = here.len + y.len; tags = here.tags; faults = here.faults; whole = here.whole; saved = here.saved }

      by : (b : Bool) → nat_le n here.len ≡ b → Passes f n on.len front marked now ys (let_go n on front marked ys) →
          Passes f n here.len front marked now (y ∷ ys) (if b then record { front = front; here = here; marked = marked; aside = y ∷ ys } else let_go n on front marked ys)
      by true i rest = record { front_is = refl; marked_is = refl; gone = []; aside_is = refl; far = inr (let z : f + here.len ≡ f + here.len + 0 = omega arith in z); used = tt }
      by false i rest =
          let P : ℕ → Type 0 = λ m. AreUsed means r t now m rest.gone in
          let lt = within-or n here.len i in
          let pos = some in
          let e : f + (here.len + y.len) ≡ f + here.len + y.len = omega arith in
          record {
            front_is = rest.front_is;
            marked_is = rest.marked_is;
            gone = y ∷ rest.gone;
            aside_is = ap (λ l. y ∷ l) rest.aside_is;
            far = on_far rest.far;
            used = ((λ _. inr (never (f + here.len) y.state (omega arith) (omega arith))), subst P e rest.used);
          }
        where
          on_far : ((let_go n on front marked ys).aside ≡ []) ⊎ (f + (let_go n on front marked ys).here.len ≡ f + (here.len + y.len) + reach rest.gone) →
              ((let_go n on front marked ys).aside ≡ []) ⊎ (f + (let_go n on front marked ys).here.len ≡ f + here.len + reach (y ∷ rest.gone))
          on_far (inl none) = inl none
          on_far (inr far) = inr (omega arith)

  pub keeps_passing : (k j : Kept S) (n : ℕ) (token : Token) → IsUtf8 t → IsRight is_state means r t k → token ≡ cut t (frontier_of k) → n ≡ length token.bytes → (0 < k.here.len) ⊎ (k.aside ≡ []) →
      j ≡ let_go n k.here k.front k.marked k.aside → KeepsMarks means r t k j
  keeps_passing k j n token utf8 h is count some gone_is =
      let i : Kept S = let_go n k.here k.front k.marked k.aside in
      let l = front-led is_state means r t laws k h in
      let long : n ≡ length (lexeme_of (cut t (frontier_of k))).bytes = count ∙ ap (λ (u : Token). length u.bytes) is in
      let never : (at : ℕ) (s : S) → frontier_of k < at → at < frontier_of k + n → LeadsTo means r t at s → ⊥ = λ at s lt le w. not-inside t 0 (frontier_of k) n at l.tokens w.tokens utf8 l.cuts w.cuts long lt le in
      let g = passes (frontier_of k) n k.here k.front k.marked (places_of i) k.aside never some in
      let P : Kept S → Type 0 = λ u. KeepsMarks means r t k u in
      subst P (sym gone_is) (record {
        more = [];
        stay = standing-same k i g.front_is g.marked_is ∙ sym (append-nil (places_of k));
        due = tt;
        gone = g.gone;
        aside = g.aside_is;
        next = elim g.far [ inl none ↦ inl none | inr far ↦ inr (let e = ap reach g.front_is in omega arith) ];
        used = g.used;
      })

  -- a mark that differs goes
  pub keeps_dropping : (k j : Kept S) (mark : Mark S) (behind : List (Mark S)) → IsUtf8 t → IsRight is_state means r t k → k.aside ≡ mark ∷ behind → k.here.len ≡ 0 → (means mark.state ≡ means k.here.state → ⊥) →
      j.front ≡ k.front → j.marked ≡ k.marked → j.aside ≡ behind → j.here.len ≡ k.here.len + mark.len → KeepsMarks means r t k j
  keeps_dropping k j mark behind utf8 h aside_is here differs f m a n =
      let l = front-led is_state means r t laws k h in
      let at : frontier_of k + k.here.len ≡ frontier_of k = omega arith in
      let other : LeadsTo means r t (frontier_of k + k.here.len) mark.state → ⊥ = λ w.
      (let C : ℕ → Type 0 = λ p. CutsTo t 0 w.tokens p in
      let same = same-tokens t 0 (frontier_of k) w.tokens l.tokens utf8 (subst C at w.cuts) l.cuts in
      differs (w.meaning ∙ ap (after_all r r.first) same ∙ sym l.meaning)) in
      let front = ap reach f in
      record {
        more = [];
        stay = standing-same k j f m ∙ sym (append-nil (places_of k));
        due = tt;
        gone = mark ∷ [];
        aside = aside_is ∙ ap (λ l. mark ∷ l) (sym a);
        next = inr (omega arith);
        used = ((λ _. inr other), tt);
      }

  split-last : (xs : List (Mark S)) → (xs ≡ []) ⊎ ((before : List (Mark S)) × ((x : Mark S) × (xs ≡ before ++ x ∷ [])))
  split-last [] = inl refl
  split-last (x ∷ xs) = by (split-last xs)
    where
      by : (xs ≡ []) ⊎ ((before : List (Mark S)) × ((y : Mark S) × (xs ≡ before ++ y ∷ []))) → (x ∷ xs ≡ []) ⊎ ((before : List (Mark S)) × ((y : Mark S) × (x ∷ xs ≡ before ++ y ∷ [])))
      by (inl e) = inr ([], (x, ap (λ l. x ∷ l) e))
      by (inr w) = inr (x ∷ w.0, (w.1.0, ap (λ l. x ∷ l) w.1.1))

  used-among : (now : List ℕ) (p : ℕ) (xs : List (Mark S)) → ((at : ℕ) → IsAmong at (places_from p xs) → IsAmong at now) → AreUsed means r t now p xs
  used-among now p [] f = tt
  used-among now p (x ∷ xs) f = ((λ _. inl (f p (inl refl))), used-among now (p + x.len) xs (λ at i. f at (inr i)))

  saved-marks : (marked : Bool) (end : Mark S) (xs : List (Mark S)) → end.saved ≡ true → marked_behind means r marked end xs ≡ true
  saved-marks marked end [] e = or-right marked end.saved e
  saved-marks marked end (x ∷ xs) e = or-left end.saved (is_due r (means end.state) (tags_behind (x ∷ xs))) e
    where
      or-left : (a b : Bool) → a ≡ true → (a || b) ≡ true
      or-left true b e = refl
      or-left false b e = absurd (cc)

  -- why the end of a row is a mark
  why-marked : (marked : Bool) (end : Mark S) (xs : List (Mark S)) → marked_behind means r marked end xs ≡ true → ((marked ≡ true) × (xs ≡ [])) ⊎ ((end.saved ≡ true) ⊎ ((0 < length xs) × (is_due r (means end.state) (tags_behind xs) ≡ true)))
  why-marked marked end [] e = elim (or-cases marked end.saved e) [ inl m ↦ inl (m, refl) | inr s ↦ inr (inl s) ]
  why-marked marked end (x ∷ xs) e = elim (or-cases end.saved (is_due r (means end.state) (tags_behind (x ∷ xs))) e) [ inl s ↦ inr (inl s) | inr d ↦ inr (inr (omega arith, d)) ]

  tags-both : (xs ys : List (Mark S)) → 0 < length ys → tags_behind (xs ++ ys) ≡ tags_behind ys
  tags-both xs [] lt = absurd (omega arith)
  tags-both xs (y ∷ ys) lt = tags-some xs y ys

  -- a row is joined
  pub record Row (k row j : Kept S) (e : ℕ) : Type 0 where
    pub list : k.aside ≡ row.front ++ row.here ∷ row.aside
    pub at : frontier_of k ≡ next_of k
    pub wholes : AreWhole row.front
    pub ends : row.here.whole ≡ false
    pub end : e ≡ next_of k + reach row.front
    pub front : j.front ≡ k.front ++ row.front
    pub marked : j.marked ≡ marked_behind means r k.marked row.here row.front
    pub state : j.here.state ≡ row.here.state
    pub aside : j.aside ≡ row.aside
    pub len : j.here.len ≡ row.here.len
    pub right : IsRight is_state means r t j

  module _ (k row j : Kept S) (e : ℕ) (g : Row k row j e) where
    abbrev stood : ℕ → Type 0
    stood at = Stands means r t at (next_of k) k.aside

    led-front : AreLed means r t 0 (k.front ++ row.front) × LeadsTo means r t (reach (k.front ++ row.front)) j.here.state
    led-front = let P : List (Mark S) → Type 0 = λ l. AreLed means r t 0 l × LeadsTo means r t (reach l) j.here.state in subst P g.front (all-led j g.right)

    led-row : AreLed means r t (next_of k) row.front
    led-row = led-behind means r t 0 (next_of k) k.front row.front (let d = g.at in omega arith) led-front.0

    led-end : LeadsTo means r t e row.here.state
    led-end =
        let P : ℕ → Type 0 = λ n. LeadsTo means r t n row.here.state in
        let Q : S → Type 0 = λ s. LeadsTo means r t (reach (k.front ++ row.front)) s in
        let at : reach (k.front ++ row.front) ≡ e = (let a = reach-append k.front row.front in let c = g.end in let d = g.at in omega arith) in
        subst P at (subst Q g.state led-front.1)

    stood-row : (at : ℕ) → IsAmong at (places_from (next_of k) row.front) → stood at
    stood-row at i = let P : List (Mark S) → Type 0 = λ l. Stands means r t at (next_of k) l in subst P (sym g.list) (stands-whole means r t at (next_of k) row.front (row.here ∷ row.aside) g.wholes led-row i)

    stood-end : row.here.saved ≡ true → stood e
    stood-end s =
        let P : List (Mark S) → Type 0 = λ l. Stands means r t e (next_of k) l in
        subst P (sym g.list) (stands-behind means r t e (next_of k) e row.front (row.here ∷ row.aside) (sym g.end) (inl (refl, or-right row.here.whole row.here.saved s, led-end)))

    front-places : places_from 0 j.front ≡ places_from 0 k.front ++ places_from (next_of k) row.front
    front-places = ap (places_from 0) g.front ∙ places-append 0 k.front row.front ∙ (let d = g.at in let z : 0 + reach k.front ≡ next_of k = omega arith in ap (λ n. places_from 0 k.front ++ places_from n row.front) z)

    front-end : reach j.front ≡ e
    front-end = let a = reach-append k.front row.front in let b = ap reach g.front in let c = g.end in let d = g.at in omega arith

    all-places : places_of j ≡ (places_from 0 k.front ++ places_from (next_of k) row.front) ++ tip j.marked e
    all-places = standing-is j.front j.here j.marked ∙ standing-ends j.front j.marked ∙ ap (λ l. l ++ tip j.marked (reach j.front)) front-places
        ∙ ap (λ n. (places_from 0 k.front ++ places_from (next_of k) row.front) ++ tip j.marked n) front-end

    due-end : 0 < length row.front → is_due r (means row.here.state) (tags_behind row.front) ≡ true → IsDueAt r t (last_of 0 (places_from 0 k.front ++ places_from (next_of k) row.front)) e
    due-end some due = by (split-last j.front)
      where
        by : (j.front ≡ []) ⊎ ((before : List (Mark S)) × ((x : Mark S) × (j.front ≡ before ++ x ∷ []))) → IsDueAt r t (last_of 0 (places_from 0 k.front ++ places_from (next_of k) row.front)) e
        by (inl none) = absurd (let a : length j.front ≡ 0 = ap length none in let b = ap length g.front in let c = length-both k.front row.front in let d = some in omega arith)
        by (inr w) =
            let x = w.1.0 in
            let tags : tags_behind row.front ≡ x.tags = sym (tags-both k.front row.front some) ∙ ap tags_behind (sym g.front) ∙ ap tags_behind w.1.1 ∙ tags-snoc is_state means r t w.0 x in
            let D : S → ℕ → Type 0 = λ s n. is_due r (means s) n ≡ true in
            let here : is_due r (means j.here.state) x.tags ≡ true = subst (λ (s : S). D s x.tags) (sym g.state) (subst (λ (n : ℕ). D row.here.state n) tags due) in
            let d = due-there j w.0 x g.right w.1.1 here in
            let last : 0 + reach w.0 ≡ last_of 0 (places_from 0 k.front ++ places_from (next_of k) row.front) = sym (ap (last_of 0) (sym front-places ∙ ap (places_from 0) w.1.1) ∙ last-from 0 0 w.0 x) in
            let P : ℕ → Type 0 = λ n. IsDueAt r t (last_of 0 (places_from 0 k.front ++ places_from (next_of k) row.front)) n in
            let Q : ℕ → Type 0 = λ n. IsDueAt r t n (reach j.front) in
            subst P front-end (subst Q last d)

    -- the frontier, where it wasn't a mark without a segment
    called-end : (last : ℕ) → last ≡ last_of 0 (places_from 0 k.front ++ places_from (next_of k) row.front) → ((k.marked ≡ true) × (row.front ≡ []) → ⊥) → AreCalledFor r t stood last (tip j.marked e)
    called-end last same not = by j.marked refl
      where
        by : (b : Bool) → j.marked ≡ b → AreCalledFor r t stood last (tip b e)
        by false m = tt
        by true m = (on (why-marked k.marked row.here row.front (sym g.marked ∙ m)), tt)
          where
            on : ((k.marked ≡ true) × (row.front ≡ [])) ⊎ ((row.here.saved ≡ true) ⊎ ((0 < length row.front) × (is_due r (means row.here.state) (tags_behind row.front) ≡ true))) → stood e ⊎ IsDueAt r t last e
            on (inl both) = absurd (not both)
            on (inr (inl s)) = inl (stood-end s)
            on (inr (inr d)) = inr (let P : ℕ → Type 0 = λ n. IsDueAt r t n e in subst P (sym same) (due-end d.0 d.1))

    used-end : is_mark row.here ≡ true → IsAmong e (places_of j)
    used-end m =
        let saved : row.here.saved ≡ true = sym (or-none row.here.whole row.here.saved g.ends) ∙ m in
        let marked : j.marked ≡ true = g.marked ∙ saved-marks k.marked row.here row.front saved in
        let P : List ℕ → Type 0 = λ l. IsAmong e l in
        subst P (sym (all-places ∙ ap (λ b. (places_from 0 k.front ++ places_from (next_of k) row.front) ++ tip b e) marked))
        (among-right e (places_from 0 k.front ++ places_from (next_of k) row.front) (e ∷ []) (inl refl))

    used-row : (at : ℕ) → IsAmong at (places_from (next_of k) row.front) → IsAmong at (places_of j)
    used-row at i =
        let P : List ℕ → Type 0 = λ l. IsAmong at l in
        subst P (sym all-places) (among-left at (places_from 0 k.front ++ places_from (next_of k) row.front) (tip j.marked e) (among-right at (places_from 0 k.front) (places_from (next_of k) row.front) i))

    with-more : (more : List ℕ) → places_of j ≡ places_of k ++ more → AreCalledFor r t stood (last_of 0 (places_of k)) more → KeepsMarks means r t k j
    with-more more stay due = record {
      more = more;
      stay = stay;
      due = due;
      gone = row.front ++ row.here ∷ [];
      aside = g.list ∙ sym (append_assoc row.front (row.here ∷ []) row.aside) ∙ ap (λ l. (row.front ++ row.here ∷ []) ++ l) (sym g.aside);
      next = inr (let a = reach-append row.front (row.here ∷ []) in let b = front-end in let c = g.end in let d = g.len in omega arith);
      used = used-append means r t (places_of j) (next_of k) e row.front (row.here ∷ []) (sym g.end) (used-among (places_of j) (next_of k) row.front used-row) ((λ m. inl (used-end m)), tt);
    }

    pub keeps-row : KeepsMarks means r t k j
    keeps-row = by k.marked refl row.front refl
      where
        was : (b : Bool) → k.marked ≡ b → places_of k ≡ places_from 0 k.front ++ tip b (next_of k)
        was b m = standing-is k.front k.here k.marked ∙ ap (λ c. standing k.front c) m ∙ standing-ends k.front b ∙ ap (λ n. places_from 0 k.front ++ tip b n) g.at

        by : (b : Bool) → k.marked ≡ b → (l : List (Mark S)) → row.front ≡ l → KeepsMarks means r t k j
        by false m l f =
            let plain : places_of k ≡ places_from 0 k.front = was false m ∙ append-nil (places_from 0 k.front) in
            let last : last_of (last_of 0 (places_of k)) (places_from (next_of k) row.front) ≡ last_of 0 (places_from 0 k.front ++ places_from (next_of k) row.front) =
            ap (λ q. last_of (last_of 0 q) (places_from (next_of k) row.front)) plain ∙ sym (last-append 0 (places_from 0 k.front) (places_from (next_of k) row.front)) in
            with-more (places_from (next_of k) row.front ++ tip j.marked e)
            (all-places ∙ append_assoc (places_from 0 k.front) (places_from (next_of k) row.front) (tip j.marked e) ∙ ap (λ l. l ++ (places_from (next_of k) row.front ++ tip j.marked e)) (sym plain))
            (called-append r t stood (last_of 0 (places_of k)) (places_from (next_of k) row.front) (tip j.marked e)
            (called-stood r t stood (last_of 0 (places_of k)) (next_of k) row.front stood-row)
            (called-end (last_of (last_of 0 (places_of k)) (places_from (next_of k) row.front)) last (λ both. (let yes_it = m in let no_it = both.0 in cc))))
        by true m [] f =
            let marked : j.marked ≡ true = g.marked ∙ ap (marked_behind means r k.marked row.here) f ∙ ap (λ b. b || row.here.saved) m in
            let here : e ≡ next_of k = (let a : reach row.front ≡ 0 = ap reach f in let b = g.end in omega arith) in
            with-more []
            (all-places ∙ ap (λ b. (places_from 0 k.front ++ places_from (next_of k) row.front) ++ tip b e) marked ∙ ap (λ l. (places_from 0 k.front ++ places_from (next_of k) l) ++ e ∷ []) f
            ∙ ap (λ l. l ++ e ∷ []) (append-nil (places_from 0 k.front)) ∙ ap (λ n. places_from 0 k.front ++ n ∷ []) here ∙ sym (was true m) ∙ sym (append-nil (places_of k)))
            tt
        by true m (z ∷ zs) f =
            let rest : List ℕ = places_from (next_of k + z.len) zs in
            let parts : places_from (next_of k) row.front ≡ next_of k ∷ rest = ap (places_from (next_of k)) f in
            let join : places_from 0 k.front ++ places_from (next_of k) row.front ≡ places_of k ++ rest =
            ap (λ l. places_from 0 k.front ++ l) parts ∙ sym (append_assoc (places_from 0 k.front) (next_of k ∷ []) rest) ∙ ap (λ l. l ++ rest) (sym (was true m)) in
            let last : last_of (last_of 0 (places_of k)) rest ≡ last_of 0 (places_from 0 k.front ++ places_from (next_of k) row.front) = sym (last-append 0 (places_of k) rest) ∙ ap (last_of 0) (sym join) in
            let stands : (at : ℕ) → IsAmong at rest → stood at = λ at i. stood-row at (let P : List ℕ → Type 0 = λ l. IsAmong at l in subst P (sym parts) (inr i)) in
            with-more (rest ++ tip j.marked e)
            (all-places ∙ ap (λ l. l ++ tip j.marked e) join ∙ append_assoc (places_of k) rest (tip j.marked e))
            (called-append r t stood (last_of 0 (places_of k)) rest (tip j.marked e)
            (called-stood r t stood (last_of 0 (places_of k)) (next_of k + z.len) zs stands)
            (called-end (last_of (last_of 0 (places_of k)) rest) last (λ both. (let n = ap length (sym f ∙ both.1) in omega arith))))

  pub keeps_joined : (k : Kept S) (y : Mark S) (ys : List (Mark S)) → k.aside ≡ y ∷ ys → k.here.len ≡ 0 → IsRight is_state means r t k → IsRight is_state means r t (row_joined means r k y ys) → KeepsMarks means r t k (row_joined means r k y ys)
  keeps_joined k y ys aside_is here was h =
      let row : Kept S = split k.marked y ys in
      let tail = chain-tail is_state means r t 0 (0 + reach k.front) k.front (k.here ∷ k.aside) refl was.holds.chain in
      let A : List (Mark S) → Type 0 = λ l. Chain is_state means r t (0 + reach k.front + k.here.len) l in
      keeps-row k row (row_joined means r k y ys) (next_of k + reach row.front) (record {
        list = aside_is ∙ sym (split-is k.marked y ys);
        at = omega arith;
        wholes = split-whole k.marked y ys;
        ends = split-ends is_state means r t k.marked (0 + reach k.front + k.here.len) y ys (subst A aside_is tail.1.1);
        end = refl;
        front = refl;
        marked = refl;
        state = refl;
        aside = refl;
        len = refl;
        right = h;
      })

-- ---- later machines

module _ {Self S M : Type 0} (later : Self → Self → Type 0) (is_state : Self → S → Type 0) (means : Self → S → M) (rules : Self → Rules M)
    (laws : LaterLaws later is_state means rules) where
  used-earlier : (a b : Self) (r : Rules M) (t : List ℕ) (now : List ℕ) (p q : ℕ) (xs ys : List (Mark S)) → later a b → Chain (is_state a) (means a) r t q (xs ++ ys) → AreUsed (means b) r t now p xs → AreUsed (means a) r t now p xs
  used-earlier a b r t now p q [] ys l h u = tt
  used-earlier a b r t now p q (x ∷ xs) ys l h u = ((λ m. by (u.0 m)), used-earlier a b r t now (p + x.len) (q + x.len) xs ys l h.1.1 u.1)
    where
      by : IsAmong p now ⊎ (LeadsTo (means b) r t p x.state → ⊥) → IsAmong p now ⊎ (LeadsTo (means a) r t p x.state → ⊥)
      by (inl i) = inl i
      by (inr never) = inr (λ w. never (record { tokens = w.tokens; cuts = w.cuts; meaning = laws.meaning a b x.state l h.0 ∙ w.meaning }))

  stands-earlier : (a b : Self) (r : Rules M) (t : List ℕ) (at p q : ℕ) (xs : List (Mark S)) → later a b → Chain (is_state a) (means a) r t q xs → Stands (means b) r t at p xs → Stands (means a) r t at p xs
  stands-earlier a b r t at p q [] l h s = s
  stands-earlier a b r t at p q (x ∷ xs) l h (inl s) =
      let w = s.2 in inl (s.0, s.1, record { tokens = w.tokens; cuts = w.cuts; meaning = sym (laws.meaning a b x.state l h.0) ∙ w.meaning })
  stands-earlier a b r t at p q (x ∷ xs) l h (inr s) = inr (stands-earlier a b r t at (p + x.len) (q + x.len) xs l h.1.1 s)

  -- on with a later machine
  pub keeps_later : (a b : Self) (t : List ℕ) (old k j : Kept S) → later a b → IsRight (is_state a) (means a) (rules a) t old → KeepsMarks (means a) (rules a) t old k → KeepsMarks (means b) (rules b) t k j → KeepsMarks (means a) (rules a) t old j
  keeps_later a b t old k j l h g s =
      let tail = chain-tail (is_state a) (means a) (rules a) t 0 (0 + reach old.front) old.front (old.here ∷ old.aside) refl h.holds.chain in
      let C : ℕ → List (Mark S) → Type 0 = λ p l. Chain (is_state a) (means a) (rules a) t p l in
      let here : ℕ = 0 + reach old.front + old.here.len in
      let first = subst (λ (l : List (Mark S)). C here l) g.aside tail.1.1 in
      let left = chain-tail (is_state a) (means a) (rules a) t here (here + reach g.gone) g.gone k.aside refl first in
      let P : Rules M → Type 0 = λ r. KeepsMarks (means b) r t k j in
      let e : KeepsMarks (means b) (rules a) t k j = subst P (laws.rule a b l) s in
      keeps_on (means a) (rules a) t old k j g (record {
        more = e.more;
        stay = e.stay;
        due = called-more (rules a) t (λ at. Stands (means b) (rules a) t at (next_of k) k.aside) (λ at. Stands (means a) (rules a) t at (next_of k) k.aside) (last_of 0 (places_of k)) e.more
            (λ at s. stands-earlier a b (rules a) t at (next_of k) (here + reach g.gone) k.aside l left s) e.due;
        gone = e.gone;
        aside = e.aside;
        next = e.next;
        used = used-earlier a b (rules a) t (places_of j) (next_of k) (here + reach g.gone) e.gone j.aside l (subst (λ (l : List (Mark S)). C (here + reach g.gone) l) e.aside left) e.used;
      })

-- how far the first mark aside is, where fewer are aside
pub still_settled : {S : Type 0} (k j : Kept S) (gone : List (Mark S)) → k.aside ≡ gone ++ j.aside → j.here.len ≡ k.here.len → (0 < k.here.len) ⊎ (k.aside ≡ []) → (0 < j.here.len) ⊎ (j.aside ≡ [])
still_settled k j gone e n (inl some) = inl (omega arith)
still_settled k j gone e n (inr none) = inr (both-empty gone j.aside (sym e ∙ none)).1
