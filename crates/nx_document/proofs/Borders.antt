-- The tokens of a text: a byte order mark is the first or none, and each is UTF-8 and of its kind.
use Rattle.std.proofs.Common.{◌≡◌, ℕ, zero, suc, ◌+◌, ◌-◌, ◌<◌, ◌≤◌, Bool, true, false, cond, List, [], ◌∷◌, length, refl, sym, subst, arith}
use Rattle.std.specs.Prelude.{nat_le}
use Rattle.std.specs.List.{AllByRecursion}
use Rattle.std.specs.Str.{IsUtf8, IsCharBoundary}
use Rattle.std.proofs.lemmas.Bool.{leb-false}
use Rattle.std.proofs.lemmas.Str.{IsCharBoundary-start, IsUtf8-between}
use Rattle.nx_base.specs.Tokens.{cut, end_of, tokens_within, tokens_of, IsOfKind}
use Rattle.nx_base.specs.declared.token.Token.{Token}
use Rattle.nx_base.specs.declared.token.TokenKind.{TokenKind}
use Rattle.nx_base.specs.declared.token.TokenKind.TheVariants as kinds
use Rattle.nx_scan.proofs.Ends.{cut-at_ends}
use Rattle.nx_scan.proofs.Every.{cut-is_token}
use Rattle.nx_scan.proofs.OwnBytes.{cut-own}
use Rattle.nx_document.proofs.Faultless.{NoMark}
use Rattle.nx_document.proofs.Prologs.{MarkFirst, marked, no_mark}

-- tokens from a border on
abbrev pub IsText : Token → Type 0
IsText token = IsUtf8 token.bytes × IsOfKind token

module _ (text : List ℕ) (utf8 : IsUtf8 text) where
  cut_text : (at : ℕ) → IsCharBoundary text at → at < length text → IsText (cut text at)
  cut_text at place within =
      let fits = cut-is_token text at utf8 place within in
      let end = end_of (cut text at) in
      let some : at ≤ end = omega (arith, fits.from, fits.some) in
      (subst (λ (bs : List ℕ). IsUtf8 bs) (sym fits.bytes) (IsUtf8-between text at end utf8 some place fits.border), cut-own text at utf8 place within)

  next_place : (at : ℕ) → IsCharBoundary text at → at < length text → IsCharBoundary text (at + length (cut text at).bytes)
  next_place at place within =
      let fits = cut-is_token text at utf8 place within in
      subst (λ k. IsCharBoundary text (k + length (cut text at).bytes)) fits.from fits.border

  no_mark_behind : (n at : ℕ) → IsCharBoundary text at → 0 < at → NoMark (tokens_within n text at)
  unfolding tokens_within
  no_mark_behind zero at place some = tt
  no_mark_behind (suc n) at place some =
      by_end (nat_le (length text) at) (leb-false (length text) at) (λ p q. no_mark_behind n (at + length (cut text at).bytes) p q)
    where
      by_end : (t : Bool) → (t ≡ false → at < length text) → (IsCharBoundary text (at + length (cut text at).bytes) → 0 < at + length (cut text at).bytes → NoMark (tokens_within n text (at + length (cut text at).bytes))) →
          NoMark (cond t [] (cut text at ∷ tokens_within n text (at + length (cut text at).bytes)))
      by_end true within more = tt
      by_end false within more = (
        (λ kind. let zero_at = (cut-at_ends text at utf8 place (within refl)).0 kind in absurd (omega (arith, zero_at, some))),
        more (next_place at place (within refl)) (omega (arith, some)),
      )

  all_text : (n at : ℕ) → IsCharBoundary text at → AllByRecursion IsText (tokens_within n text at)
  unfolding tokens_within
  all_text zero at place = tt
  all_text (suc n) at place = by_end (nat_le (length text) at) (leb-false (length text) at) (λ p. all_text n (at + length (cut text at).bytes) p)
    where
      by_end : (t : Bool) → (t ≡ false → at < length text) → (IsCharBoundary text (at + length (cut text at).bytes) → AllByRecursion IsText (tokens_within n text (at + length (cut text at).bytes))) →
          AllByRecursion IsText (cond t [] (cut text at ∷ tokens_within n text (at + length (cut text at).bytes)))
      by_end true within more = tt
      by_end false within more = (cut_text at place (within refl), more (next_place at place (within refl)))

  first_mark : (n : ℕ) → MarkFirst (tokens_within n text 0)
  unfolding tokens_within
  first_mark zero = no_mark tt
  first_mark (suc n) = by_end (nat_le (length text) 0) (leb-false (length text) 0)
    where
      rest : 0 < length text → NoMark (tokens_within n text (0 + length (cut text 0).bytes))
      rest within =
          let start = IsCharBoundary-start text utf8 in
          no_mark_behind n (0 + length (cut text 0).bytes) (next_place 0 start within) (let fits = cut-is_token text 0 utf8 start within in omega (arith, fits.some))

      by_kind : (kind : TokenKind) → (cut text 0).kind ≡ kind → NoMark (tokens_within n text (0 + length (cut text 0).bytes)) → MarkFirst (cut text 0 ∷ tokens_within n text (0 + length (cut text 0).bytes))
      by_kind kinds.Bom e r = marked e r
      by_kind kinds.Decl e r = no_mark ((λ f. cc), r)
      by_kind kinds.Doctype e r = no_mark ((λ f. cc), r)
      by_kind kinds.Comment e r = no_mark ((λ f. cc), r)
      by_kind kinds.Pi e r = no_mark ((λ f. cc), r)
      by_kind kinds.Text e r = no_mark ((λ f. cc), r)
      by_kind kinds.Cdata e r = no_mark ((λ f. cc), r)
      by_kind kinds.Bad e r = no_mark ((λ f. cc), r)
      by_kind kinds.Unclosed e r = no_mark ((λ f. cc), r)
      by_kind kinds.Start e r = no_mark ((λ f. cc), r)
      by_kind kinds.Empty e r = no_mark ((λ f. cc), r)
      by_kind kinds.End e r = no_mark ((λ f. cc), r)

      by_end : (t : Bool) → (t ≡ false → 0 < length text) → MarkFirst (cond t [] (cut text 0 ∷ tokens_within n text (0 + length (cut text 0).bytes)))
      by_end true within = no_mark tt
      by_end false within = by_kind (cut text 0).kind refl (rest (within refl))

  pub tokens_mark_first : MarkFirst (tokens_of text)
  tokens_mark_first = first_mark (length text - 0)

  pub tokens_are_text : AllByRecursion IsText (tokens_of text)
  tokens_are_text = all_text (length text - 0) 0 (IsCharBoundary-start text utf8)
