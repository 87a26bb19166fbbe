-- A token depends on its own bytes and the next character alone.
use Rattle.std.proofs.Common.{◌≡◌, ℕ, ◌-◌, ◌<◌, ◌≤◌, Bool, true, false, inl, inr, List, ◌++◌, length, take, drop, refl, sym, ◌∙◌, ap, subst, arith, length-take, append_assoc, codes}
use Rattle.std.specs.Prelude.{◌==◌, ◌&&◌, min}
use Rattle.std.specs.Str.{IsUtf8, IsCharBoundary}
use lib.Utf8.{encode}
use Rattle.std.proofs.lemmas.Bool.{cases_Bool, true≢false}
use Rattle.std.proofs.lemmas.List.{take-append-drop, take_at, length-take-le}
use Rattle.std.proofs.lemmas.Str.{IsUtf8-append, IsUtf8-take, IsUtf8-drop, encode_same}
use Rattle.nx_base.specs.Text.{IsPlace, edited}
use Rattle.nx_base.specs.Tokens.{Cut, cut_as, begins_with, bytes_up_to, markup, order_mark, first_token, cut, end_of}
use Rattle.nx_base.specs.declared.token.Token.{Token}
use Rattle.nx_base.specs.declared.token.TokenKind.TheVariants as kinds
use Rattle.nx_scan.proofs.Every.{cut-fits, cut-length}
use Rattle.nx_scan.proofs.Rows.{behind_mark, order_mark_is}
use Rattle.nx_scan.proofs.SameTags.{first-character, same-first, border-behind}
use Rattle.nx_scan.proofs.Stable.{begins-same, byte-same, drop-same, less-same, up_to-same}
use Rattle.nx_scan.proofs.SameMarkup.{markup-same}

-- a byte order mark, alike
mark_begins : (more : List ℕ) → begins_with order_mark (encode 0xFEFF ++ more) ≡ true
unfolding begins_with encode
mark_begins more = refl

order_mark-first : (c : ℕ) (more rest text other : List ℕ) → text ≡ encode c ++ more → other ≡ encode c ++ rest →
    begins_with order_mark other ≡ true → begins_with order_mark text ≡ true
order_mark-first c more rest text other spelled other_spelled h =
    let marked : other ≡ encode 0xFEFF ++ drop 3 other = behind_mark order_mark other h ∙ ap (λ xs. xs ++ drop 3 other) (sym order_mark_is) in
    let both = encode_same c 0xFEFF rest (drop 3 other) (sym other_spelled ∙ marked) in
    ap (begins_with order_mark) (spelled ∙ ap (λ x. encode x ++ more) both.0) ∙ mark_begins more

order_mark-here : (c : ℕ) (more text other : List ℕ) (m : ℕ) → text ≡ encode c ++ more → IsUtf8 text → IsUtf8 other → IsCharBoundary text m → take m other ≡ take m text → 0 < m →
    begins_with order_mark other ≡ true → begins_with order_mark text ≡ true
order_mark-here c more text other m spelled utf8 other_utf8 border same some h =
    let begun = same-first c more other m (subst (λ xs. IsUtf8 xs) spelled utf8) other_utf8 some (subst (λ xs. IsCharBoundary xs m) spelled border)
    (same ∙ ap (take m) spelled) in
    order_mark-first c more begun.rest text other spelled begun.spelled h

pub order_mark-same : (at_start : Bool) (text other : List ℕ) (m : ℕ) → IsUtf8 text → IsUtf8 other → IsCharBoundary text m → take m other ≡ take m text → 0 < m →
    (at_start && begins_with order_mark text) ≡ false → (at_start && begins_with order_mark other) ≡ false
order_mark-same false text other m utf8 other_utf8 border same some h = refl
order_mark-same true text other m utf8 other_utf8 border same some h =
    let fits = border.0 in
    let first = first-character text utf8 (omega arith) in
    elim (cases_Bool (begins_with order_mark other)) [
      | inl is ↦
          absurd (true≢false (sym (order_mark-here first.0 first.1 text other m first.2 utf8 other_utf8 border same some is) ∙ h))
      | inr is ↦ is
    ]

-- the rows of a token
pub row-order_mark : (at_start : Bool) (text : List ℕ) → (at_start && begins_with order_mark text) ≡ true → first_token at_start text ≡ cut_as kinds.Bom 3
unfolding first_token
row-order_mark at_start text a = rw a refl

pub row-markup : (at_start : Bool) (text : List ℕ) → (at_start && begins_with order_mark text) ≡ false → begins_with (codes "<") text ≡ true → first_token at_start text ≡ markup text
unfolding first_token
row-markup at_start text a b = rw (a, b) refl

pub row-text : (at_start : Bool) (text : List ℕ) → (at_start && begins_with order_mark text) ≡ false → begins_with (codes "<") text ≡ false →
    first_token at_start text ≡ cut_as kinds.Text (bytes_up_to 60 text)
unfolding first_token
row-text at_start text a b = rw (a, b) refl

pub first_token-same : (at_start : Bool) (text other : List ℕ) (m : ℕ) → IsUtf8 text → IsUtf8 other → IsCharBoundary text m → take m other ≡ take m text →
    0 < (first_token at_start text).len → (first_token at_start text).len < m → first_token at_start other ≡ first_token at_start text
first_token-same at_start text other m utf8 other_utf8 border same some lt =
    elim (cases_Bool (at_start && begins_with order_mark text)) [
      | inl a ↦
          (let row = row-order_mark at_start text a in
          let len : (first_token at_start text).len ≡ 3 = ap (λ (c : Cut). c.len) row in
          row-order_mark at_start other (ap (λ b. at_start && b) (begins-same order_mark text other m (omega arith) same) ∙ a) ∙ sym row)
      | inr a ↦
          (let other_a = order_mark-same at_start text other m utf8 other_utf8 border same (omega arith) a in
          elim (cases_Bool (begins_with (codes "<") text)) [
            | inl b ↦
                (let row = row-markup at_start text a b in
                let len : (first_token at_start text).len ≡ (markup text).len = ap (λ (c : Cut). c.len) row in
                row-markup at_start other other_a (begins-same (codes "<") text other m (omega arith) same ∙ b)
                ∙ markup-same text other m utf8 other_utf8 border same (omega arith) b (omega arith) (omega arith) ∙ sym row)
            | inr b ↦
                (let row = row-text at_start text a b in
                let len : (first_token at_start text).len ≡ bytes_up_to 60 text = ap (λ (c : Cut). c.len) row in
                row-text at_start other other_a (begins-same (codes "<") text other m (omega arith) same ∙ b)
                ∙ ap (cut_as kinds.Text) (up_to-same 60 text other m same border.0 (omega arith)) ∙ sym row)
          ])
    ]

-- a place is a place of a text that is the same further
pub place-same : (text other : List ℕ) (at known : ℕ) → IsPlace text at → at < known → known ≤ length text → take known other ≡ take known text → IsPlace other at
place-same text other at known place lt fits same =
    let long : min known (length other) ≡ known = sym (length-take known other) ∙ ap length same ∙ length-take-le known text fits in (
      omega arith,
      λ within high. (let read = byte-same at known text other lt same in
          let far = place.1 (omega arith) (omega arith) in omega arith),
    )

pub token-alike : (at : ℕ) (a b : Cut) (xs ys : List ℕ) → a ≡ b → take b.len xs ≡ take b.len ys →
    ◌≡◌ {A = Token} (record { kind = a.kind; from = at; bytes = take a.len xs }) (record { kind = b.kind; from = at; bytes = take b.len ys })
token-alike at a b xs ys same bytes =
    ap (λ (t : Cut). record { kind = t.kind; from = at; bytes = take t.len xs }) same
    ∙ ap (λ bs. record { kind = b.kind; from = at; bytes = bs }) bytes

pub cut-same : (text other : List ℕ) (at known : ℕ) → IsUtf8 text → IsUtf8 other → IsPlace text at → at < length text → end_of (cut text at) < known →
    IsPlace text known → take known other ≡ take known text → cut other at ≡ cut text at
unfolding cut
cut-same text other at known utf8 other_utf8 place within before border same =
    let fits = cut-fits text at utf8 place within in
    let len = cut-length text at utf8 place within in
    let found = first_token (at == 0) (drop at text) in
    let some = fits.some in
    let inside = border.0 in
    let other_place = place-same text other at known place (omega arith) border.0 same in
    let split : text ≡ take at text ++ drop at text = sym (take-append-drop at text) in
    let front : length (take at text) ≡ at = length-take-le at text (omega arith) in
    let border_behind : IsCharBoundary (drop at text) (known - at) =
    subst (λ n. IsCharBoundary (drop at text) (known - n)) front
    (border-behind (take at text) (drop at text) known (omega arith) (subst (λ xs. IsCharBoundary xs known) split border)) in
    let same_behind = drop-same at known text other (omega arith) same in
    let tokens : first_token (at == 0) (drop at other) ≡ found =
    first_token-same (at == 0) (drop at text) (drop at other) (known - at) (IsUtf8-drop text at utf8 place) (IsUtf8-drop other at other_utf8 other_place)
    border_behind same_behind some (omega arith) in
    let bytes : take found.len (drop at other) ≡ take found.len (drop at text) =
    less-same found.len (known - at) (drop at text) (drop at other) (omega arith) same_behind in
    token-alike at (first_token (at == 0) (drop at other)) found (drop at other) (drop at text) tokens bytes

-- an edit behind a token and the next character
pub edit-leaves : (text added : List ℕ) (from to at : ℕ) → IsUtf8 text → IsUtf8 added → IsPlace text from → IsPlace text to → from ≤ to →
    IsPlace text at → at < length text → end_of (cut text at) < from → cut (edited text from to added) at ≡ cut text at
edit-leaves text added from to at utf8 added_utf8 start end ordered place within before =
    cut-same text (edited text from to added) at from utf8
    (IsUtf8-append (take from text ++ added) (drop to text)
    (IsUtf8-append (take from text) added (IsUtf8-take text from utf8 start) added_utf8) (IsUtf8-drop text to utf8 end))
    place within before start kept
  where
    kept : take from (edited text from to added) ≡ take from text
    kept =
        ap (take from) (append_assoc (take from text) added (drop to text))
        ∙ take_at (take from text) (added ++ drop to text) from (length-take-le from text start.0)
