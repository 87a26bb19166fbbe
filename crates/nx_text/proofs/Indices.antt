-- An index of line feeds, as its gap is moved.
use Rattle.std.proofs.Common.{◌≡◌, ◌∙◌, ℕ, suc, ◌+◌, ◌-◌, ◌<◌, ◌≤◌, List, [], ◌∷◌, ◌++◌, map, length, take, drop, get_or, refl, sym, ap}
use Rattle.std.proofs.Common.{arith}
use Rattle.std.proofs.Common.{take_at, drop_at, length-append, take-take, get_or-take, take-suc, drop-cons, take_all}
use Rattle.std.proofs.lemmas.List.{length-take, length-drop, length-map, get_or-map, length-take-le}
use Rattle.std.proofs.Math.Seq.{get_or_at}
use Rattle.std.specs.Prelude.{min}
use Rattle.nx_text.specs.Gap.{Parted}
use Rattle.nx_text.specs.Feeds.{feeds_of, feeds_to_end, joined, IsKept, IsIndex}
use Rattle.nx_text.proofs.Feeds.{feed_count, feeds_before, feeds_of_front, feeds_of_rest, from_end, feeds_counted, feed_below}

module _ (text : List ℕ) where
  mirrored : feeds_to_end text ≡ map (λ at. length text - at) (feeds_of text)
  mirrored = from_end 0 text ∙ ap (λ k. map (λ at. k - at) (feeds_of text)) (omega arith)

  pub same_number : length (feeds_to_end text) ≡ length (feeds_of text)
  same_number = ap length mirrored ∙ length-map (feeds_of text) (λ at. length text - at)

  pub same_feed : (j d : ℕ) → j < length (feeds_of text) → get_or (feeds_to_end text) j d ≡ length text - get_or (feeds_of text) j 0
  same_feed j d lt =
      ap (λ t. get_or t j d) mirrored ∙ get_or-map (λ at. length text - at) (feeds_of text) j 0 d lt

  pub feed_inside : (j : ℕ) → j < length (feeds_of text) → get_or (feeds_of text) j 0 < length text
  feed_inside j lt =
      let all : feeds_before text (length text) ≡ length (feeds_of text) =
      ap feed_count (take_all (length text) text (omega arith)) ∙ sym (feeds_counted 0 text) in
      let less : get_or (feeds_of text) j 0 < 0 + length text = feed_below 0 (length text) text 0 j (omega arith) in
      omega arith

-- what is taken out in front of an index's gap
pub record IsLast (text mid : List ℕ) (x : ℕ) : Type 0 where
  pub rest : mid ≡ take (length mid) (feeds_of text)
  pub feed : x ≡ get_or (feeds_of text) (length mid) 0
  pub inside : length mid < length (feeds_of text)

pub last_feed : (text front mid : List ℕ) (x : ℕ) → front ≡ take (length front) (feeds_of text) → front ≡ mid ++ x ∷ [] → IsLast text mid x
last_feed text front mid x is cut =
    let all = feeds_of text in let j = length mid in
    let len : length front ≡ j + 1 = ap length cut ∙ length-append mid (x ∷ []) in
    let most : length front ≡ min (length front) (length all) = ap length is ∙ length-take (length front) all in
    let rest : mid ≡ take j all = sym (take_at mid (x ∷ []) j refl) ∙ ap (take j) (sym cut ∙ is)
    ∙ take-take j (length front) all (omega arith) in
    let feed : x ≡ get_or all j 0 =
    sym (get_or_at mid x [] 0 j refl) ∙ ap (λ t. get_or t j 0) (sym cut ∙ is) ∙ get_or-take (length front) all j 0 (omega arith) in
    record { rest = rest; feed = feed; inside = omega arith }

pub last_inside : (text front mid : List ℕ) (x : ℕ) → front ≡ take (length front) (feeds_of text) → front ≡ mid ++ x ∷ [] → x ≤ length text
last_inside text front mid x is cut =
    let l = last_feed text front mid x is cut in
    let less = feed_inside text (length mid) l.inside in
    let same : x ≡ get_or (feeds_of text) (length mid) 0 = l.feed in
    omega arith

-- it is put in again behind the gap
pub lowered : (text : List ℕ) (old mid new : Parted ℕ) (x : ℕ) → IsIndex text old → old.front ≡ mid.front ++ x ∷ [] → mid.back ≡ old.back
    → new.front ≡ mid.front → new.back ≡ (length text - x) ∷ mid.back → IsIndex text new
lowered text old mid new x is cut same front back =
    let l = last_feed text old.front mid.front x is.front cut in
    let j = length mid.front in let all = feeds_to_end text in
    let len : length old.front ≡ j + 1 = ap length cut ∙ length-append mid.front (x ∷ []) in
    let number : length all ≡ length (feeds_of text) = same_number text in
    let some : j < length (feeds_of text) = l.inside in
    let feed : length text - x ≡ get_or all j 0 = ap (λ k. length text - k) l.feed ∙ sym (same_feed text j 0 l.inside) in
    let next : length old.front ≡ suc j = omega arith in
    let rest : mid.back ≡ drop (suc j) all = same ∙ is.back ∙ ap (λ k. drop k all) next in
    let whole : new.back ≡ drop j all =
    back ∙ ap (λ k. k ∷ mid.back) feed ∙ ap (λ t. get_or all j 0 ∷ t) rest ∙ sym (drop-cons all j 0 (omega arith)) in
    record {
      front = front ∙ l.rest ∙ ap (λ t. take (length t) (feeds_of text)) (sym front);
      back = whole ∙ ap (λ t. drop (length t) all) (sym front);
    }

-- what is taken out behind an index's gap
pub record IsFirst (text rest : List ℕ) (j y : ℕ) : Type 0 where
  pub behind : rest ≡ drop (suc j) (feeds_to_end text)
  pub feed : y ≡ get_or (feeds_to_end text) j 0
  pub inside : j < length (feeds_of text)

pub first_feed : (text back rest : List ℕ) (j y : ℕ) → back ≡ drop j (feeds_to_end text) → back ≡ y ∷ rest → IsFirst text rest j y
first_feed text back rest j y is cut =
    let all = feeds_to_end text in
    let number : length all ≡ length (feeds_of text) = same_number text in
    let here : y ∷ rest ≡ drop j all = sym cut ∙ is in
    let len : suc (length rest) ≡ length all - j = ap length here ∙ length-drop j all in
    let some : j < length all = omega arith in
    let split : y ∷ rest ≡ get_or all j 0 ∷ drop (suc j) all = here ∙ drop-cons all j 0 some in
    record {
      behind = ap (drop 1) split;
      feed = ap (λ t. get_or t 0 0) split;
      inside = omega arith;
    }

pub first_inside : (text back rest : List ℕ) (j y : ℕ) → back ≡ drop j (feeds_to_end text) → back ≡ y ∷ rest → y ≤ length text
first_inside text back rest j y is cut =
    let f = first_feed text back rest j y is cut in
    let same : y ≡ length text - get_or (feeds_of text) j 0 = f.feed ∙ same_feed text j 0 f.inside in
    omega arith

-- it is put in again in front of the gap
pub raised : (text : List ℕ) (old mid new : Parted ℕ) (y : ℕ) → IsIndex text old → mid.front ≡ old.front → old.back ≡ y ∷ mid.back
    → new.front ≡ mid.front ++ (length text - y) ∷ [] → new.back ≡ mid.back → IsIndex text new
raised text old mid new y is same cut front back =
    let j = length old.front in let all = feeds_of text in
    let f = first_feed text old.back mid.back j y is.back cut in
    let number : length (feeds_to_end text) ≡ length all = same_number text in
    let some : j < length all = f.inside in
    let less = feed_inside text j f.inside in
    let far : y ≡ length text - get_or all j 0 = f.feed ∙ same_feed text j 0 f.inside in
    let feed : length text - y ≡ get_or all j 0 = omega arith in
    let whole : new.front ≡ take (suc j) all =
    front ∙ ap (λ t. t ++ (length text - y) ∷ []) (same ∙ is.front) ∙ ap (λ k. take j all ++ k ∷ []) feed ∙ sym (take-suc all j 0 some) in
    let len : length new.front ≡ suc j = ap length whole ∙ length-take-le (suc j) all (omega arith) in
    record {
      front = whole ∙ ap (λ k. take k all) (sym len);
      back = back ∙ f.behind ∙ ap (λ k. drop k (feeds_to_end text)) (sym len);
    }

-- a gap of the index that is at the gap of the bytes, or at another place
pub index_of : (bytes feeds : Parted ℕ) → IsKept bytes feeds → IsIndex (joined bytes) feeds
index_of bytes feeds is =
    let text = joined bytes in let at = length bytes.front in
    let front : take at text ≡ bytes.front = take_at bytes.front bytes.back at refl in
    let back : drop at text ≡ bytes.back = drop_at bytes.front bytes.back at refl in
    let len : feeds_before text at ≡ length feeds.front =
    ap feed_count front ∙ sym (feeds_counted 0 bytes.front) ∙ ap length (sym is.front_feeds) in
    record {
      front = is.front_feeds ∙ ap feeds_of (sym front) ∙ feeds_of_front 0 at text ∙ ap (λ k. take k (feeds_of text)) len;
      back = is.back_feeds ∙ ap feeds_to_end (sym back) ∙ feeds_of_rest at text ∙ ap (λ k. drop k (feeds_to_end text)) len;
    }

pub index_at : (text : List ℕ) (feeds : Parted ℕ) (at : ℕ) → IsIndex text feeds → length feeds.front ≡ feeds_before text at
    → (feeds.front ≡ feeds_of (take at text)) × (feeds.back ≡ feeds_to_end (drop at text))
index_at text feeds at is len = (
  is.front ∙ ap (λ k. take k (feeds_of text)) len ∙ sym (feeds_of_front 0 at text),
  is.back ∙ ap (λ k. drop k (feeds_to_end text)) len ∙ sym (feeds_of_rest at text),
)
