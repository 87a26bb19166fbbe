-- Which row of the table of tokens applies.
use Rattle.std.proofs.Common.{◌≡◌, ℕ, ◌+◌, ◌-◌, ◌<◌, ◌≤◌, Bool, true, false, inl, inr, List, [], ◌∷◌, ◌++◌, length, take, drop, get_or, refl, sym, ◌∙◌, ap, subst, arith, codes}
use Rattle.std.specs.Prelude.{◌==◌, ◌&&◌, slice_range}
use Rattle.std.specs.Str.{IsUtf8}
use lib.Utf8.{encode}
use Rattle.std.proofs.lemmas.Bool.{and_parts, eqb-true, cases_lt}
use Rattle.std.proofs.lemmas.List.{drop-drop}
use Rattle.std.proofs.lemmas.Str.{IsCharBoundary-end, IsCharBoundary-before_ascii, IsCharBoundary-past_char}
use Rattle.nx_base.specs.Text.{IsPlace}
use Rattle.nx_base.specs.Tokens.{Cut, cut_as, begins_with, bytes_up_to, closed, doctype, instruction, tag, tags, markup, order_mark, first_token, cut}
use Rattle.nx_base.specs.declared.token.Token.{Token}
use Rattle.nx_base.specs.declared.token.TokenKind.TheVariants as kinds
use Rattle.nx_scan.specs.Ending.{EndsAt}
use Rattle.nx_scan.specs.declared.scan.End.{End}
use Rattle.nx_scan.proofs.Marks.{begins_with-split}

-- the token of another cut that is the same
same_cut : (text : List ℕ) (at : ℕ) (a b : Cut) (found : End) → b ≡ a → EndsAt text at a found → EndsAt text at b found
same_cut text at a b found same e = subst (λ (c : Cut). EndsAt text at c found) (sym same) e

-- a mark whose second byte doesn't stand there
never_both : (b : Bool) → (b && false) ≡ false
never_both true = refl
never_both false = refl

second_apart : (m b : ℕ) (mark rest : List ℕ) → begins_with (b ∷ []) (drop 1 rest) ≡ false → begins_with (m ∷ b ∷ mark) rest ≡ false
unfolding begins_with
second_apart m b mark [] e = refl
second_apart m b mark (x ∷ rest) e =
    ap (λ t. x == m && t) (begins_with-split b mark rest ∙ ap (λ t. t && begins_with mark (drop 1 rest)) e) ∙ never_both (x == m)

module _ (text : List ℕ) (at : ℕ) (found : End) where
  pub markup-comment : begins_with (codes "<!--") (drop at text) ≡ true →
      EndsAt text at (closed kinds.Comment (codes "-->") 4 (drop at text)) found → EndsAt text at (markup (drop at text)) found
  unfolding markup
  markup-comment a e = rw a e

  pub markup-cdata : begins_with (codes "<!--") (drop at text) ≡ false → begins_with (codes "<![CDATA[") (drop at text) ≡ true →
      EndsAt text at (closed kinds.Cdata (codes "]]>") 9 (drop at text)) found → EndsAt text at (markup (drop at text)) found
  unfolding markup
  markup-cdata a b e = rw (a, b) e

  pub markup-doctype : begins_with (codes "<!--") (drop at text) ≡ false → begins_with (codes "<![CDATA[") (drop at text) ≡ false →
      begins_with (codes "<!DOCTYPE") (drop at text) ≡ true → EndsAt text at (doctype (drop at text)) found → EndsAt text at (markup (drop at text)) found
  unfolding markup
  markup-doctype a b d e = rw (a, b, d) e

  pub markup-instruction : begins_with (codes "<!--") (drop at text) ≡ false → begins_with (codes "<![CDATA[") (drop at text) ≡ false →
      begins_with (codes "<!DOCTYPE") (drop at text) ≡ false → begins_with (codes "<?") (drop at text) ≡ true →
      EndsAt text at (instruction (drop at text)) found → EndsAt text at (markup (drop at text)) found
  unfolding markup
  markup-instruction a b d f e = rw (a, b, d, f) e

  pub markup-tag : begins_with (codes "<!--") (drop at text) ≡ false → begins_with (codes "<![CDATA[") (drop at text) ≡ false →
      begins_with (codes "<!DOCTYPE") (drop at text) ≡ false → begins_with (codes "<?") (drop at text) ≡ false →
      EndsAt text at (tag tags (drop at text)) found → EndsAt text at (markup (drop at text)) found
  unfolding markup
  markup-tag a b d f e = rw (a, b, d, f) e

  pub markup-plain : begins_with (33 ∷ []) (drop (at + 1) text) ≡ false → begins_with (63 ∷ []) (drop (at + 1) text) ≡ false →
      EndsAt text at (tag tags (drop at text)) found → EndsAt text at (markup (drop at text)) found
  markup-plain a b e =
      let rest = drop at text in
      let none : begins_with (33 ∷ []) (drop 1 rest) ≡ false = ap (begins_with (33 ∷ [])) (drop-drop 1 at text) ∙ a in
      let nor : begins_with (63 ∷ []) (drop 1 rest) ≡ false = ap (begins_with (63 ∷ [])) (drop-drop 1 at text) ∙ b in
      markup-tag (second_apart 60 33 (codes "--") rest none) (second_apart 60 33 (codes "[CDATA[") rest none)
      (second_apart 60 33 (codes "DOCTYPE") rest none) (second_apart 60 63 [] rest nor) e

  pub token-markup : (at == 0 && begins_with order_mark (drop at text)) ≡ false → begins_with (codes "<") (drop at text) ≡ true →
      EndsAt text at (markup (drop at text)) found → EndsAt text at (first_token (at == 0) (drop at text)) found
  unfolding first_token
  token-markup a b e = rw (a, b) e

-- what stands behind a mark
pub behind_mark : (mark rest : List ℕ) → begins_with mark rest ≡ true → rest ≡ mark ++ drop (length mark) rest
unfolding begins_with
behind_mark [] rest h = refl
behind_mark (m ∷ mark) [] h = cc
behind_mark (m ∷ mark) (b ∷ rest) h =
    let parts = and_parts (b == m) (begins_with mark rest) h in
    let same : b ≡ m = eqb-true b m parts.0 in
    let others : rest ≡ mark ++ drop (length mark) rest = behind_mark mark rest parts.1 in
    ap (λ x. x ∷ rest) same ∙ ap (λ xs. m ∷ xs) others

-- the byte order mark is one character
pub order_mark_is : encode 0xFEFF ≡ order_mark
unfolding encode
order_mark_is = refl

token-bom : (text : List ℕ) (at : ℕ) → (at == 0 && begins_with order_mark (drop at text)) ≡ true → first_token (at == 0) (drop at text) ≡ cut_as kinds.Bom 3
unfolding first_token
token-bom text at h = rw h refl

pub token-order_mark : (text : List ℕ) (at : ℕ) → IsUtf8 text → (at == 0 && begins_with order_mark (drop at text)) ≡ true →
    EndsAt text at (first_token (at == 0) (drop at text)) (record { kind = kinds.Bom; place = 3 })
token-order_mark text at utf8 h =
    let parts = and_parts (at == 0) (begins_with order_mark (drop at text)) h in
    let start : at ≡ 0 = eqb-true at 0 parts.0 in
    let begins : begins_with order_mark text ≡ true = ap (λ n. begins_with order_mark (drop n text)) (sym start) ∙ parts.1 in
    let split : text ≡ encode 0xFEFF ++ drop 3 text = behind_mark order_mark text begins ∙ ap (λ m. m ++ drop 3 text) (sym order_mark_is) in
    let border : IsPlace text 3 = IsCharBoundary-past_char text (drop 3 text) 0 0xFEFF (omega arith) utf8 split in
    same_cut text at (cut_as kinds.Bom 3) (first_token (at == 0) (drop at text)) (record { kind = kinds.Bom; place = 3 }) (token-bom text at h)
    (record { kind = refl; place = (omega arith); border = border })

-- character data
pub token-text : (text : List ℕ) (at place : ℕ) → (at == 0 && begins_with order_mark (drop at text)) ≡ false → begins_with (codes "<") (drop at text) ≡ false →
    place ≡ at + bytes_up_to 60 (drop at text) → place ≤ length text → (place < length text → get_or text place 0 ≡ 60) →
    EndsAt text at (first_token (at == 0) (drop at text)) (record { kind = kinds.Text; place = place })
unfolding first_token
token-text text at place a b is within stands =
    rw (a, b)
    (record {
      kind = refl;
      place = is;
      border = elim (cases_lt place (length text)) [
        | inl before ↦ IsCharBoundary-before_ascii text place before (omega (arith, stands before))
        | inr past ↦ subst (λ n. IsPlace text n) (let e : length text ≡ place = omega arith in e) (IsCharBoundary-end text)
      ];
    })

-- the token with these bytes is the one that is cut
pub is-cut : (text bytes : List ℕ) (at : ℕ) (found : End) → EndsAt text at (first_token (at == 0) (drop at text)) found → bytes ≡ slice_range text at found.place →
    ◌≡◌ {A = Token} (record { kind = found.kind; from = at; bytes = bytes }) (cut text at)
unfolding cut
is-cut text bytes at found e same =
    let len : found.place - at ≡ (first_token (at == 0) (drop at text)).len = (let there = e.place in omega arith) in
    let taken : bytes ≡ take (first_token (at == 0) (drop at text)).len (drop at text) = same ∙ ap (λ n. take n (drop at text)) len in
    ap (λ k. record { kind = k; from = at; bytes = bytes }) e.kind
    ∙ ap (λ bs. record { kind = (first_token (at == 0) (drop at text)).kind; from = at; bytes = bs }) taken
