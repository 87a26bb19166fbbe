-- Document type declarations, piece by piece.
use Rattle.std.proofs.Common.{◌≡◌, ℕ, zero, suc, ◌+◌, ◌-◌, ◌<◌, ◌≤◌, Bool, true, false, List, [], ◌∷◌, length, drop, get_or, refl, sym, ◌∙◌, ap, arith, length-drop, codes}
use Rattle.std.specs.Prelude.{◌==◌, ◌&&◌, ◌||◌, not, Option, Some, None}
use Rattle.std.specs.Option.{option_map}
use Rattle.std.proofs.lemmas.List.{drop_more, drop_all, drop-drop}
use Rattle.nx_base.specs.Tokens.{begins_with, bytes_before, piece, in_subset, doctype_bytes}

-- places from one place on, as places from another
moved_by : (k m at : ℕ) (found : Option ℕ) → option_map (λ n. at + n) (option_map (λ n. k + n + m) found) ≡ option_map (λ n. at + k + n + m) found
moved_by k m at None = refl
moved_by k m at (Some n) = ap Some (omega arith)

pub piece-quote : (subset : Bool) (b : ℕ) (bs : List ℕ) → (b == 34 || b == 39) ≡ true →
    piece subset (b ∷ bs) ≡ option_map (λ n. 1 + n + 1) (bytes_before (b ∷ []) bs)
unfolding piece
piece-quote subset b bs h = rw h refl

pub piece-comment : (subset : Bool) (b : ℕ) (bs : List ℕ) → (b == 34 || b == 39) ≡ false → (subset && begins_with (codes "<!--") (b ∷ bs)) ≡ true →
    piece subset (b ∷ bs) ≡ option_map (λ n. 4 + n + 3) (bytes_before (codes "-->") (drop 4 (b ∷ bs)))
unfolding piece
piece-comment subset b bs h k = rw (h, k) refl

pub piece-instruction : (subset : Bool) (b : ℕ) (bs : List ℕ) → (b == 34 || b == 39) ≡ false → (subset && begins_with (codes "<!--") (b ∷ bs)) ≡ false →
    (subset && begins_with (codes "<?") (b ∷ bs)) ≡ true →
    piece subset (b ∷ bs) ≡ option_map (λ n. 2 + n + 2) (bytes_before (codes "?>") (drop 2 (b ∷ bs)))
unfolding piece
piece-instruction subset b bs h k l = rw (h, k, l) refl

pub piece-byte : (subset : Bool) (b : ℕ) (bs : List ℕ) → (b == 34 || b == 39) ≡ false → (subset && begins_with (codes "<!--") (b ∷ bs)) ≡ false →
    (subset && begins_with (codes "<?") (b ∷ bs)) ≡ false → piece subset (b ∷ bs) ≡ Some 1
unfolding piece
piece-byte subset b bs h k l = rw (h, k, l) refl

-- bytes of a piece that are still to be passed
pub passed : (subset : Bool) (k : ℕ) (rest : List ℕ) → k ≤ length rest → doctype_bytes subset k rest ≡ option_map (λ n. k + n) (doctype_bytes subset 0 (drop k rest))
unfolding doctype_bytes
passed subset zero rest h = nothing (doctype_bytes subset 0 rest)
  where
    nothing : (found : Option ℕ) → found ≡ option_map (λ n. 0 + n) found
    nothing None = refl
    nothing (Some n) = ap Some (omega arith)
passed subset (suc k) [] h = absurd (omega arith)
passed subset (suc k) (b ∷ bs) h =
    ap (option_map (λ n. n + 1)) (passed subset k bs (omega arith)) ∙ one (doctype_bytes subset 0 (drop k bs))
  where
    one : (found : Option ℕ) → option_map (λ n. n + 1) (option_map (λ n. k + n) found) ≡ option_map (λ n. suc k + n) found
    one None = refl
    one (Some n) = ap Some (omega arith)

-- a step over a piece
pub doctype-piece : (subset : Bool) (b : ℕ) (bs : List ℕ) (n : ℕ) → (b == 62 && not subset) ≡ false → piece subset (b ∷ bs) ≡ Some n →
    doctype_bytes subset 0 (b ∷ bs) ≡ option_map (λ m. m + 1) (doctype_bytes (in_subset subset b) (n - 1) bs)
unfolding doctype_bytes
doctype-piece subset b bs n h e = rw (h, e) refl

pub doctype-open : (subset : Bool) (b : ℕ) (bs : List ℕ) → (b == 62 && not subset) ≡ false → piece subset (b ∷ bs) ≡ None → doctype_bytes subset 0 (b ∷ bs) ≡ None
unfolding doctype_bytes
doctype-open subset b bs h e = rw (h, e) refl

-- places behind a piece
behind_piece : (at end n : ℕ) (found : Option ℕ) → end ≡ at + n → 0 < n →
    option_map (λ k. at + k) (option_map (λ m. m + 1) (option_map (λ m. n - 1 + m) found)) ≡ option_map (λ k. end + k) found
behind_piece at end n None ends some = refl
behind_piece at end n (Some m) ends some = ap Some (omega arith)

module _ (text : List ℕ) (at byte : ℕ) (subset : Bool) (within : at < length text) (is : get_or text at 0 ≡ byte) where
  split : drop at text ≡ byte ∷ drop (at + 1) text
  split = drop_more text at 0 within ∙ ap (λ b. b ∷ drop (at + 1) text) is

  pub quote-end : (byte == 34 || byte == 39) ≡ true →
      option_map (λ n. at + 1 + n + 1) (bytes_before (byte ∷ []) (drop (at + 1) text)) ≡ option_map (λ n. at + n) (piece subset (drop at text))
  quote-end h =
      sym (ap (λ rest. option_map (λ n. at + n) (piece subset rest)) split
      ∙ ap (option_map (λ n. at + n)) (piece-quote subset byte (drop (at + 1) text) h)
      ∙ moved_by 1 1 at (bytes_before (byte ∷ []) (drop (at + 1) text)))

  pub comment-end : (byte == 34 || byte == 39) ≡ false → (subset && begins_with (codes "<!--") (drop at text)) ≡ true →
      option_map (λ n. at + 4 + n + 3) (bytes_before (codes "-->") (drop (at + 4) text)) ≡ option_map (λ n. at + n) (piece subset (drop at text))
  comment-end h k =
      sym (ap (λ rest. option_map (λ n. at + n) (piece subset rest)) split
      ∙ ap (option_map (λ n. at + n))
      (piece-comment subset byte (drop (at + 1) text) h (ap (λ rest. subset && begins_with (codes "<!--") rest) (sym split) ∙ k))
      ∙ ap (λ rest. option_map (λ n. at + n) (option_map (λ n. 4 + n + 3) (bytes_before (codes "-->") rest)))
      (ap (drop 4) (sym split) ∙ drop-drop 4 at text)
      ∙ moved_by 4 3 at (bytes_before (codes "-->") (drop (at + 4) text)))

  pub instruction-end : (byte == 34 || byte == 39) ≡ false → (subset && begins_with (codes "<!--") (drop at text)) ≡ false →
      (subset && begins_with (codes "<?") (drop at text)) ≡ true →
      option_map (λ n. at + 2 + n + 2) (bytes_before (codes "?>") (drop (at + 2) text)) ≡ option_map (λ n. at + n) (piece subset (drop at text))
  instruction-end h k l =
      sym (ap (λ rest. option_map (λ n. at + n) (piece subset rest)) split
      ∙ ap (option_map (λ n. at + n))
      (piece-instruction subset byte (drop (at + 1) text) h (ap (λ rest. subset && begins_with (codes "<!--") rest) (sym split) ∙ k)
      (ap (λ rest. subset && begins_with (codes "<?") rest) (sym split) ∙ l))
      ∙ ap (λ rest. option_map (λ n. at + n) (option_map (λ n. 2 + n + 2) (bytes_before (codes "?>") rest)))
      (ap (drop 2) (sym split) ∙ drop-drop 2 at text)
      ∙ moved_by 2 2 at (bytes_before (codes "?>") (drop (at + 2) text)))

  pub byte-end : (byte == 34 || byte == 39) ≡ false → (subset && begins_with (codes "<!--") (drop at text)) ≡ false →
      (subset && begins_with (codes "<?") (drop at text)) ≡ false → Some (at + 1) ≡ option_map (λ n. at + n) (piece subset (drop at text))
  byte-end h k l =
      sym (ap (λ rest. option_map (λ n. at + n) (piece subset rest)) split
      ∙ ap (option_map (λ n. at + n))
      (piece-byte subset byte (drop (at + 1) text) h (ap (λ rest. subset && begins_with (codes "<!--") rest) (sym split) ∙ k)
      (ap (λ rest. subset && begins_with (codes "<?") rest) (sym split) ∙ l)))

  -- the declaration ends here
  pub declaration-close : (byte == 62 && not subset) ≡ true → option_map (λ n. at + n) (doctype_bytes subset 0 (drop at text)) ≡ Some (at + 1)
  unfolding doctype_bytes
  declaration-close h = ap (λ rest. option_map (λ n. at + n) (doctype_bytes subset 0 rest)) split ∙ rw h refl

  -- or goes on behind a piece
  pub declaration-piece : (byte == 62 && not subset) ≡ false → (end : ℕ) → at < end → end ≤ length text →
      Some end ≡ option_map (λ n. at + n) (piece subset (drop at text)) →
      option_map (λ n. at + n) (doctype_bytes subset 0 (drop at text)) ≡ option_map (λ n. end + n) (doctype_bytes (in_subset subset byte) 0 (drop end text))
  declaration-piece h end some fits e =
      on (piece subset (byte ∷ drop (at + 1) text)) refl (e ∙ ap (λ rest. option_map (λ n. at + n) (piece subset rest)) split)
    where
      on : (found : Option ℕ) → piece subset (byte ∷ drop (at + 1) text) ≡ found → Some end ≡ option_map (λ n. at + n) (piece subset (byte ∷ drop (at + 1) text)) →
          option_map (λ n. at + n) (doctype_bytes subset 0 (drop at text)) ≡ option_map (λ n. end + n) (doctype_bytes (in_subset subset byte) 0 (drop end text))
      on None is_none f = let bad : Some end ≡ None = f ∙ ap (option_map (λ n. at + n)) is_none in cc
      on (Some n) is_some f =
          let same : Some end ≡ Some (at + n) = f ∙ ap (option_map (λ n. at + n)) is_some in
          let ends : end ≡ at + n = cc in
          let some_n : 0 < n = omega arith in
          ap (λ rest. option_map (λ n. at + n) (doctype_bytes subset 0 rest)) split
          ∙ ap (option_map (λ n. at + n)) (doctype-piece subset byte (drop (at + 1) text) n h is_some)
          ∙ ap (λ found. option_map (λ n. at + n) (option_map (λ m. m + 1) found))
          (passed (in_subset subset byte) (n - 1) (drop (at + 1) text) (omega (arith, length-drop (at + 1) text)))
          ∙ ap (λ rest. option_map (λ n. at + n) (option_map (λ m. m + 1) (option_map (λ m. n - 1 + m) (doctype_bytes (in_subset subset byte) 0 rest))))
          (drop-drop (n - 1) (at + 1) text ∙ ap (λ k. drop k text) (let e : at + 1 + (n - 1) ≡ end = omega arith in e))
          ∙ behind_piece at end n (doctype_bytes (in_subset subset byte) 0 (drop end text)) ends some_n

  -- or has a piece with no end
  pub declaration-open : (byte == 62 && not subset) ≡ false → None ≡ option_map (λ n. at + n) (piece subset (drop at text)) →
      option_map (λ n. at + n) (doctype_bytes subset 0 (drop at text)) ≡ None
  declaration-open h e =
      on (piece subset (byte ∷ drop (at + 1) text)) refl (e ∙ ap (λ rest. option_map (λ n. at + n) (piece subset rest)) split)
    where
      on : (found : Option ℕ) → piece subset (byte ∷ drop (at + 1) text) ≡ found → None ≡ option_map (λ n. at + n) (piece subset (byte ∷ drop (at + 1) text)) →
          option_map (λ n. at + n) (doctype_bytes subset 0 (drop at text)) ≡ None
      on None is_none f =
          ap (λ rest. option_map (λ n. at + n) (doctype_bytes subset 0 rest)) split
          ∙ ap (option_map (λ n. at + n)) (doctype-open subset byte (drop (at + 1) text) h is_none)
      on (Some n) is_some f = let bad : None ≡ Some (at + n) = f ∙ ap (option_map (λ n. at + n)) is_some in cc

-- or the text ends
pub declaration-end : (text : List ℕ) (at : ℕ) (subset : Bool) → length text ≤ at → option_map (λ n. at + n) (doctype_bytes subset 0 (drop at text)) ≡ None
unfolding doctype_bytes
declaration-end text at subset past = ap (λ rest. option_map (λ n. at + n) (doctype_bytes subset 0 rest)) (drop_all at text past)
