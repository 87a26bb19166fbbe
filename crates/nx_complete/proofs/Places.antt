-- The token that holds the byte in front of a place: one at most, and some where there is such a byte. Its bytes up to there are text.
use Rattle.std.proofs.Common.{◌≡◌, ℕ, zero, suc, ◌+◌, ◌-◌, ◌<◌, ◌≤◌, Bool, true, false, cond, List, [], ◌∷◌, ◌++◌, length, take, drop, refl, sym, ap, subst, ◌∙◌, inl, inr, arith}
use Rattle.std.specs.Prelude.{nat_le, IsUtf8}
use Rattle.std.specs.List.{AllByRecursion}
use Rattle.std.proofs.lemmas.Bool.{leb-false, cases_lt}
use Rattle.std.proofs.lemmas.List.{take-take, take-append-drop}
use Rattle.std.proofs.lemmas.Str.{IsCharBoundary-start, IsUtf8-between}
use Rattle.nx_base.specs.Text.{IsPlace}
use Rattle.nx_base.specs.Tokens.{cut, end_of, tokens_within, tokens_of, AreTokensFrom}
use Rattle.nx_base.specs.declared.token.Token.{Token}
use Rattle.nx_scan.proofs.Every.{cut-is_token}
use Rattle.nx_scan.proofs.Joined.{joined-from}
use Rattle.nx_recover.specs.Offers.{UpTo, bytes_before}
use Rattle.nx_complete.proofs.Told.{later_first}

-- ---- one at most

-- a token behind others begins where they end or later
behind_others : (len at : ℕ) (front : List Token) (token : Token) (rest : List Token) → AreTokensFrom len at (front ++ token ∷ rest) → at ≤ token.from
unfolding AreTokensFrom
behind_others len at [] token rest h = omega (arith, h.0)
behind_others len at (k ∷ front) token rest h = let more = behind_others len (at + length k.bytes) front token rest h.1 in omega arith

pub record SameToken (front others : List Token) (token other : Token) : Type 0 where
  pub before : front ≡ others
  pub itself : token ≡ other

same_token : (len from at : ℕ) (front others : List Token) (token other : Token) (rest more : List Token) → AreTokensFrom len from (front ++ token ∷ rest) → front ++ token ∷ rest ≡ others ++ other ∷ more →
    token.from < at → at ≤ end_of token → other.from < at → at ≤ end_of other → SameToken front others token other
unfolding AreTokensFrom
same_token len from at [] [] token other rest more lie e a b c d = let same : token ≡ other = cc in record { before = refl; itself = same }
same_token len from at [] (k ∷ others) token other rest more lie e a b c d =
    let first : rest ≡ others ++ other ∷ more = cc in
    let later = behind_others len (from + length token.bytes) others other more (subst (λ (all : List Token). AreTokensFrom len (from + length token.bytes) all) first lie.1) in
    absurd (omega (arith, lie.0, later, b, c))
same_token len from at (k ∷ front) [] token other rest more lie e a b c d =
    let is : k ≡ other = cc in
    let later = behind_others len (from + length k.bytes) front token rest lie.1 in
    let ends : at ≤ end_of k = subst (λ (t : Token). at ≤ end_of t) (sym is) d in
    absurd (omega (arith, lie.0, later, a, ends))
same_token len from at (j ∷ front) (k ∷ others) token other rest more lie e a b c d =
    let first : j ≡ k = cc in
    let tails : front ++ token ∷ rest ≡ others ++ other ∷ more = cc in
    let same = same_token len (from + length j.bytes) at front others token other rest more lie.1 tails a b c d in
    record { before = ap (λ (t : Token). t ∷ front) first ∙ ap (λ (ts : List Token). k ∷ ts) same.before; itself = same.itself }

-- ---- some where there is a byte in front

record Split (all : List Token) (at : ℕ) : Type 0 where
  front : List Token
  token : Token
  rest : List Token
  is : all ≡ front ++ token ∷ rest
  begun : token.from < at
  inside : at ≤ end_of token

split : (len from at : ℕ) (all : List Token) → AreTokensFrom len from all → from < at → at ≤ len → Split all at
unfolding AreTokensFrom
split len from at [] lie some within = absurd (omega (arith, lie, some, within))
split len from at (k ∷ all) lie some within =
    elim (cases_lt (end_of k) at) [
      | inl past ↦
          (let w = split len (from + length k.bytes) at all lie.1 (omega (arith, lie.0, past)) within in
          record { front = k ∷ w.front; token = w.token; rest = w.rest; is = ap (λ (ts : List Token). k ∷ ts) w.is; begun = w.begun; inside = w.inside })
      | inr inside ↦ record { front = []; token = k; rest = all; is = refl; begun = omega (arith, lie.0, some); inside = inside }
    ]

-- ---- text

-- the bytes of a token up to a place inside of it
pub text_up_to : (text : List ℕ) (border at : ℕ) (token : Token) → IsUtf8 text → IsPlace text border → IsPlace text at → token ≡ cut text border → token.from ≡ border → token.from < at → at ≤ end_of token →
    IsUtf8 (take (at - token.from) token.bytes)
text_up_to text border at token utf8 there place is from begun inside =
    let within : border < length text = omega (arith, from, begun, place.0) in
    let w = cut-is_token text border utf8 there within in
    let whole : token.bytes ≡ take (end_of (cut text border) - border) (drop border text) = ap (λ (k : Token). k.bytes) is ∙ w.bytes in
    let ends : end_of token ≡ end_of (cut text border) = ap end_of is in
    let fewer : take (at - border) (take (end_of (cut text border) - border) (drop border text)) ≡ take (at - border) (drop border text) =
    take-take (at - border) (end_of (cut text border) - border) (drop border text) (omega (arith, inside, ends)) in
    let same : take (at - token.from) token.bytes ≡ take (at - border) (drop border text) = ap (λ n. take (at - n) token.bytes) from ∙ ap (take (at - border)) whole ∙ fewer in
    subst IsUtf8 (sym same) (IsUtf8-between text border at utf8 (omega (arith, from, begun)) there place)

-- a token of the text, which is cut at a place of it
record IsCut (text : List ℕ) (token : Token) : Type 0 where
  border : ℕ
  place : IsPlace text border
  is : token ≡ cut text border
  from : token.from ≡ border

-- a token's bytes, where it begins
pub record LiesIn (text : List ℕ) (token : Token) : Type 0 where
  pub within : token.from < length text
  pub rest : List ℕ
  pub is : drop token.from text ≡ token.bytes ++ rest

module _ (text : List ℕ) (utf8 : IsUtf8 text) where
  lie : AreTokensFrom (length text) 0 (tokens_of text)
  lie = (joined-from (length text - 0) text 0 utf8 (IsCharBoundary-start text utf8) (omega arith)).lie

  cut_there : (at : ℕ) → IsPlace text at → at < length text → IsCut text (cut text at)
  cut_there at place within = record { border = at; place = place; is = refl; from = (cut-is_token text at utf8 place within).from }

  next_place : (at : ℕ) → IsPlace text at → at < length text → IsPlace text (at + length (cut text at).bytes)
  next_place at place within =
      let w = cut-is_token text at utf8 place within in
      subst (λ k. IsPlace text (k + length (cut text at).bytes)) w.from w.border

  all_cut : (n at : ℕ) → IsPlace text at → AllByRecursion (IsCut text) (tokens_within n text at)
  unfolding tokens_within
  all_cut zero at place = tt
  all_cut (suc n) at place = by_end (nat_le (length text) at) (leb-false (length text) at) (λ p. all_cut n (at + length (cut text at).bytes) p)
    where
      by_end : (t : Bool) → (t ≡ false → at < length text) → (IsPlace text (at + length (cut text at).bytes) → AllByRecursion (IsCut text) (tokens_within n text (at + length (cut text at).bytes))) →
          AllByRecursion (IsCut text) (cond t [] (cut text at ∷ tokens_within n text (at + length (cut text at).bytes)))
      by_end true within more = tt
      by_end false within more = (cut_there at place (within refl), more (next_place at place (within refl)))

  module _ (at : ℕ) where
    pub one_place : (p q : UpTo text at) → SameToken p.front q.front p.token q.token
    one_place p q =
        same_token (length text) 0 at p.front q.front p.token q.token p.rest q.rest (subst (λ (all : List Token). AreTokensFrom (length text) 0 all) p.tokens lie) (sym p.tokens ∙ q.tokens)
        p.begun p.inside q.begun q.inside

    pub some_place : 0 < at → at ≤ length text → UpTo text at
    some_place some within =
        let w = split (length text) 0 at (tokens_of text) lie some within in
        record { front = w.front; token = w.token; rest = w.rest; tokens = w.is; begun = w.begun; inside = w.inside }

    pub bytes_utf8 : IsPlace text at → (p : UpTo text at) → IsUtf8 (bytes_before p)
    bytes_utf8 place p =
        let all : AllByRecursion (IsCut text) (p.front ++ p.token ∷ p.rest) = subst (λ (ts : List Token). AllByRecursion (IsCut text) ts) p.tokens (all_cut (length text - 0) 0 (IsCharBoundary-start text utf8)) in
        let c = later_first (IsCut text) p.front p.token p.rest all in
        text_up_to text c.border at p.token utf8 c.place place c.is c.from p.begun p.inside

    pub token_lies : at ≤ length text → (p : UpTo text at) → LiesIn text p.token
    token_lies fits p =
        let all : AllByRecursion (IsCut text) (p.front ++ p.token ∷ p.rest) = subst (λ (ts : List Token). AllByRecursion (IsCut text) ts) p.tokens (all_cut (length text - 0) 0 (IsCharBoundary-start text utf8)) in
        let c = later_first (IsCut text) p.front p.token p.rest all in
        let within : c.border < length text = omega (arith, c.from, p.begun, fits) in
        let w = cut-is_token text c.border utf8 c.place within in
        let n = end_of (cut text c.border) - c.border in
        let whole : p.token.bytes ≡ take n (drop c.border text) = ap (λ (k : Token). k.bytes) c.is ∙ w.bytes in
        record {
          within = omega (arith, c.from, within);
          rest = drop n (drop c.border text);
          is = ap (λ m. drop m text) c.from ∙ sym (take-append-drop n (drop c.border text)) ∙ ap (λ (bs : List ℕ). bs ++ drop n (drop c.border text)) (sym whole);
        }

    -- behind another token
    pub behind_first : IsPlace text at → (p : UpTo text at) (t : Token) (front : List Token) → p.front ≡ t ∷ front → 0 < p.token.from
    unfolding AreTokensFrom
    behind_first place p t front e =
        let all : AllByRecursion (IsCut text) (p.front ++ p.token ∷ p.rest) = subst (λ (ts : List Token). AllByRecursion (IsCut text) ts) p.tokens (all_cut (length text - 0) 0 (IsCharBoundary-start text utf8)) in
        let cuts : AllByRecursion (IsCut text) ((t ∷ front) ++ p.token ∷ p.rest) = subst (λ (ts : List Token). AllByRecursion (IsCut text) (ts ++ p.token ∷ p.rest)) e all in
        let c = cuts.0 in
        let l : AreTokensFrom (length text) 0 ((t ∷ front) ++ p.token ∷ p.rest) =
        subst (λ (ts : List Token). AreTokensFrom (length text) 0 (ts ++ p.token ∷ p.rest)) e (subst (λ (ts : List Token). AreTokensFrom (length text) 0 ts) p.tokens lie) in
        let more = behind_others (length text) (0 + length t.bytes) front p.token p.rest l.1 in
        let within : c.border < length text = omega (arith, c.from, l.0, p.begun, place.0) in
        let w = cut-is_token text c.border utf8 c.place within in
        let size : length t.bytes ≡ length (cut text c.border).bytes = ap (λ (k : Token). length k.bytes) c.is in
        omega (arith, more, size, w.some)
