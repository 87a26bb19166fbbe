-- The start tags that are open where a text is read, and where they begin.
use Rattle.std.proofs.Common.{◌≡◌, ℕ, zero, suc, ◌-◌, ◌⊎◌, inl, inr, List, [], ◌∷◌, ◌++◌, length, map, take, refl, sym, ◌∙◌, ap, subst, arith}
use Rattle.std.proofs.Common.{append_assoc, append-nil, length-append}
use Rattle.std.specs.List.{AllByRecursion}
use Rattle.std.specs.Str.{bytes_eq}
use Rattle.std.proofs.lemmas.Bool.{cases_Bool, true≢false}
use Rattle.std.proofs.lemmas.List.{take_at}
use Rattle.std.proofs.lemmas.Slice.Eq.{bytes_eq-Decides}
use Rattle.nx_base.specs.Tokens.{AreTokensOf}
use Rattle.nx_base.specs.declared.token.Token.{Token}
use Rattle.nx_base.specs.declared.token.TokenKind.{TokenKind}
use Rattle.nx_base.specs.declared.token.TokenKind.TheVariants as kinds
use Rattle.nx_events.specs.Items.{first_state}
use Rattle.nx_events.specs.OpenTags.{IsCharacterData, IsPassed, NoneNamed, Leaves, nothing_read, start_tag, empty_tag, end_tag, extra_end}
use Rattle.nx_events.specs.OpenTags.{data_inside, data_outside, passed, state_after}
use Rattle.nx_events.specs.Tags.{start_name, end_name}
use Rattle.nx_events.specs.declared.state.EventState.{EventState}
use Rattle.nx_events.proofs.OpenTags.{some_left, leaves_one}
use Rattle.nx_events.proofs.StatesKnown.{elements_len, state_is}
use Rattle.nx_tags.specs.Reading.{IsCutIn, IsOpen, starts_by_kind}

-- ---- which of the open start tags an end tag closes

record IsInner (tags : List Token) (token : Token) : Type 0 where
  outer : List Token
  closed : Token
  inner : List Token
  is : tags ≡ outer ++ closed ∷ inner
  named : start_name closed.bytes ≡ end_name token.bytes
  others : NoneNamed inner token

closed_among : (tags : List Token) (token : Token) → NoneNamed tags token ⊎ IsInner tags token
closed_among [] token = inl tt
closed_among (tag ∷ tags) token =
    elim (closed_among tags token) [
      | inr i ↦ inr (record { outer = tag ∷ i.outer; closed = i.closed; inner = i.inner; is = ap (λ xs. tag ∷ xs) i.is; named = i.named; others = i.others })
      | inl none ↦ elim (cases_Bool (bytes_eq (start_name tag.bytes) (end_name token.bytes))) [
        | inl e ↦ inr (record { outer = []; closed = tag; inner = tags; is = refl; named = (bytes_eq-Decides (start_name tag.bytes) (end_name token.bytes)).0 e; others = none })
        | inr e ↦ inl (λ same. absurd (true≢false (sym ((bytes_eq-Decides (start_name tag.bytes) (end_name token.bytes)).1 same) ∙ e)), none)
      ]
    ]

-- ---- lists

take_two : {A : Type 0} (n : ℕ) (xs ys : List A) → take n (xs ++ ys) ≡ take n xs ++ take (n - length xs) ys
take_two zero xs ys = let e : 0 - length xs ≡ 0 = omega arith in ap (λ m. take m ys) (sym e)
take_two (suc n) [] ys = let e : suc n ≡ suc n - 0 = omega arith in ap (λ m. take m ys) e
take_two (suc n) (x ∷ xs) ys =
    let e : n - length xs ≡ suc n - length (x ∷ xs) = omega arith in
    ap (λ zs. x ∷ zs) (take_two n xs ys ∙ ap (λ m. take n xs ++ take m ys) e)

map_front : {A B : Type 0} (f : A → B) (n : ℕ) (xs : List A) → map f (take n xs) ≡ take n (map f xs)
map_front f zero xs = refl
map_front f (suc n) [] = refl
map_front f (suc n) (x ∷ xs) = ap (λ ys. f x ∷ ys) (map_front f n xs)

map_two : {A B : Type 0} (f : A → B) (xs ys : List A) → map f (xs ++ ys) ≡ map f xs ++ map f ys
map_two f [] ys = refl
map_two f (x ∷ xs) ys = ap (λ zs. f x ∷ zs) (map_two f xs ys)

map_len : {A B : Type 0} (f : A → B) (xs : List A) → length (map f xs) ≡ length xs
map_len f [] = refl
map_len f (x ∷ xs) = ap suc (map_len f xs)

all_front : (P : Token → Type 0) (n : ℕ) (xs : List Token) → AllByRecursion P xs → AllByRecursion P (take n xs)
all_front P zero xs h = tt
all_front P (suc n) [] h = tt
all_front P (suc n) (x ∷ xs) h = (h.0, all_front P n xs h.1)

all_one_more : (P : Token → Type 0) (xs : List Token) (x : Token) → AllByRecursion P xs → P x → AllByRecursion P (xs ++ x ∷ [])
all_one_more P [] x h k = (k, tt)
all_one_more P (y ∷ xs) x h k = (h.0, all_one_more P xs x h.1 k)

empty_front : {A : Type 0} (n : ℕ) (xs : List A) → xs ≡ [] → take n xs ≡ []
empty_front zero xs e = refl
empty_front (suc n) xs e = ap (take (suc n)) e

-- ---- where reading begins

pub none_known : (text : List ℕ) (first : ℕ) (all : List Token) (starts : List ℕ) → (first ≡ 0 → all ≡ []) → starts ≡ [] → IsOpen text first all starts
none_known text first all starts nothing none =
    let left = some_left all in
    record {
      around = left.tags;
      known = [];
      run = left.run;
      leaves = subst (λ ts. Leaves all ts left.run) (sym (append-nil left.tags)) left.leaves;
      starts_are = none;
      cuts = tt;
      whole = λ e. (leaves_one all [] [] left.tags left.run (nothing_read all [] [] (nothing e) refl refl) left.leaves).0;
    }

-- ---- one token more

module _ (text : List ℕ) (first : ℕ) (before : List Token) (token : Token) (starts : List ℕ) (h : IsOpen text first before starts) where
  kept_by : (run : List Token) → Leaves (before ++ token ∷ []) (h.around ++ h.known) run → IsOpen text first (before ++ token ∷ []) starts
  kept_by run leaves = record {
    around = h.around;
    known = h.known;
    run = run;
    leaves = leaves;
    starts_are = h.starts_are;
    cuts = h.cuts;
    whole = h.whole;
  }

  begun_by : token.kind ≡ kinds.Start → IsCutIn text token → IsOpen text first (before ++ token ∷ []) (starts ++ token.from ∷ [])
  begun_by is cut_in = record {
    around = h.around;
    known = h.known ++ token ∷ [];
    run = [];
    leaves = start_tag (before ++ token ∷ []) (h.around ++ (h.known ++ token ∷ [])) [] before (h.around ++ h.known) h.run token h.leaves refl is
        (sym (append_assoc h.around h.known (token ∷ []))) refl;
    starts_are = ap (λ xs. xs ++ token.from ∷ []) h.starts_are ∙ sym (map_two (λ (tag : Token). tag.from) h.known (token ∷ []));
    cuts = all_one_more (IsCutIn text) h.known token h.cuts cut_in;
    whole = h.whole;
  }

  data_by : IsCharacterData token.kind → (tags : List Token) → h.around ++ h.known ≡ tags → IsOpen text first (before ++ token ∷ []) starts
  data_by is [] none = kept_by h.run (data_outside (before ++ token ∷ []) (h.around ++ h.known) h.run before token h.leaves refl is none)
  data_by is (tag ∷ tags) some =
      kept_by (h.run ++ token ∷ [])
      (data_inside (before ++ token ∷ []) (h.around ++ h.known) (h.run ++ token ∷ []) before h.run token h.leaves refl is (let n = ap length some in omega arith) refl)

  -- so many of them are open in front of an end tag, and so many behind it
  closed_by : token.kind ≡ kinds.End → (outer left : ℕ) → length (h.around ++ h.known) ≡ outer →
      ((tags run : List Token) → Leaves (before ++ token ∷ []) tags run → length tags ≡ left) →
      IsOpen text first (before ++ token ∷ []) (take (left - (outer - length starts)) starts)
  closed_by is outer left len_is left_is =
      let two = length-append h.around h.known in
      let len = ap length h.starts_are ∙ map_len (λ (tag : Token). tag.from) h.known in
      elim (closed_among (h.around ++ h.known) token) [
        | inl none ↦
            (let same = left_is (h.around ++ h.known) h.run (extra_end (before ++ token ∷ []) (h.around ++ h.known) h.run before token h.leaves refl is none) in
            subst (λ xs. IsOpen text first (before ++ token ∷ []) xs)
            (sym (ap (λ n. take n starts) (let e : left - (outer - length starts) ≡ length starts = omega arith in e) ∙ take-whole starts))
            (kept_by h.run (extra_end (before ++ token ∷ []) (h.around ++ h.known) h.run before token h.leaves refl is none)))
        | inr i ↦
            (let leaves : Leaves (before ++ token ∷ []) i.outer [] =
            end_tag (before ++ token ∷ []) i.outer [] before i.inner h.run i.closed token (subst (λ xs. Leaves before xs h.run) i.is h.leaves) refl is i.named i.others refl in
            let same = left_is i.outer [] leaves in
            let m : left - (outer - length starts) ≡ length i.outer - length h.around = omega arith in
            let front : i.outer ≡ take (length i.outer) h.around ++ take (length i.outer - length h.around) h.known =
            sym (take_at i.outer (i.closed ∷ i.inner) (length i.outer) refl) ∙ ap (take (length i.outer)) (sym i.is) ∙ take_two (length i.outer) h.around h.known in
            record {
              around = take (length i.outer) h.around;
              known = take (length i.outer - length h.around) h.known;
              run = [];
              leaves = subst (λ xs. Leaves (before ++ token ∷ []) xs []) front leaves;
              starts_are = ap (λ n. take n starts) m ∙ ap (take (length i.outer - length h.around)) h.starts_are
                  ∙ sym (map_front (λ (tag : Token). tag.from) (length i.outer - length h.around) h.known);
              cuts = all_front (IsCutIn text) (length i.outer - length h.around) h.known h.cuts;
              whole = λ e. empty_front (length i.outer) h.around (h.whole e);
            })
      ]
    where
      take-whole : (xs : List ℕ) → take (length xs) xs ≡ xs
      take-whole [] = refl
      take-whole (x ∷ xs) = ap (λ ys. x ∷ ys) (take-whole xs)

  by_kind : (kind : TokenKind) → token.kind ≡ kind → IsCutIn text token → (outer left : ℕ) → length (h.around ++ h.known) ≡ outer →
      ((tags run : List Token) → Leaves (before ++ token ∷ []) tags run → length tags ≡ left) →
      IsOpen text first (before ++ token ∷ []) (starts_by_kind kind token.from outer left starts)
  by_kind kinds.Start is cut_in outer left len_is left_is = begun_by is cut_in
  by_kind kinds.End is cut_in outer left len_is left_is = closed_by is outer left len_is left_is
  by_kind kinds.Empty is cut_in outer left len_is left_is =
      kept_by [] (empty_tag (before ++ token ∷ []) (h.around ++ h.known) [] before h.run token h.leaves refl is refl)
  by_kind kinds.Text is cut_in outer left len_is left_is = data_by (subst (λ k. IsCharacterData k) (sym is) tt) (h.around ++ h.known) refl
  by_kind kinds.Cdata is cut_in outer left len_is left_is = data_by (subst (λ k. IsCharacterData k) (sym is) tt) (h.around ++ h.known) refl
  by_kind _ is cut_in outer left len_is left_is =
      kept_by h.run (passed (before ++ token ∷ []) (h.around ++ h.known) h.run before token h.leaves refl (subst (λ k. IsPassed k) (sym is) tt))

-- how many elements are open is how many start tags are
pub counted : (all tags run : List Token) (at : ℕ) → AreTokensOf at all → Leaves all tags run → length (state_after first_state all).elements ≡ length tags
counted all tags run at lie leaves = ap length (state_is all tags run at leaves lie).elements ∙ elements_len 0 tags

pub opened_more : (text : List ℕ) (first : ℕ) (before all : List Token) (token : Token) (starts : List ℕ) (at to : ℕ) (old new : EventState) →
    IsOpen text first before starts → IsCutIn text token → all ≡ before ++ token ∷ [] → AreTokensOf at before → AreTokensOf to all →
    old ≡ state_after first_state before → new ≡ state_after first_state all →
    IsOpen text first all (starts_by_kind token.kind token.from (length old.elements) (length new.elements) starts)
opened_more text first before all token starts at to old new h cut_in more lie lie_more old_is new_is =
    subst (λ xs. IsOpen text first xs (starts_by_kind token.kind token.from (length old.elements) (length new.elements) starts)) (sym more)
    (by_kind text first before token starts h token.kind refl cut_in (length old.elements) (length new.elements)
    (sym (ap (λ (s : EventState). length s.elements) old_is ∙ counted before (h.around ++ h.known) h.run at lie h.leaves))
    (λ tags run leaves. sym (ap (λ (s : EventState). length s.elements) new_is
    ∙ counted all tags run to lie_more (subst (λ xs. Leaves xs tags run) (sym more) leaves))))

-- ---- behind a part of character data

pub opened_inside : (text : List ℕ) (first : ℕ) (before all : List Token) (half : Token) (starts : List ℕ) → IsOpen text first before starts →
    all ≡ before ++ half ∷ [] → half.kind ≡ kinds.Text → IsOpen text first all starts
opened_inside text first before all half starts h more is =
    subst (λ xs. IsOpen text first xs starts) (sym more) (data_by text first before half starts h (subst (λ k. IsCharacterData k) (sym is) tt) (h.around ++ h.known) refl)
