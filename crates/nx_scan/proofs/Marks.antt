-- Marks in a text, found byte by byte.
use Rattle.std.proofs.Common.{◌≡◌, ℕ, zero, suc, ◌+◌, ◌-◌, ◌<◌, ◌≤◌, Bool, true, false, List, [], ◌∷◌, length, drop, get_or, refl, sym, ◌∙◌, ap, arith, length-drop}
use Rattle.std.specs.Prelude.{◌==◌, ◌&&◌, Option, Some, None, slice_get, nat_eq}
use Rattle.std.specs.Option.{option_map, option_eq}
use Rattle.std.proofs.Math.Bool.{and-true}
use Rattle.std.proofs.lemmas.Bool.{and_parts, eqb-true}
use Rattle.std.proofs.lemmas.List.{drop_more, drop_all, drop-drop, get_or-drop}
use Rattle.nx_base.specs.Tokens.{begins_with, bytes_before}

-- the byte at a place, as a mark of its own
pub byte_is_here : (text : List ℕ) (at byte : ℕ) → option_eq nat_eq (slice_get text at) (Some byte) ≡ begins_with (byte ∷ []) (drop at text)
unfolding begins_with
byte_is_here [] zero byte = refl
byte_is_here [] (suc at) byte = refl
byte_is_here (x ∷ text) zero byte = sym (and-true (x == byte))
byte_is_here (x ∷ text) (suc at) byte = byte_is_here text at byte

-- a byte that was read, or none
pub byte_read : (text : List ℕ) (at byte : ℕ) → Some byte ≡ slice_get text at → (at < length text) × (get_or text at 0 ≡ byte)
byte_read [] at byte e = cc
byte_read (x ∷ text) zero byte e = (omega arith, (let same : x ≡ byte = cc in same))
byte_read (x ∷ text) (suc at) byte e = let read = byte_read text at byte e in (omega (arith, read.0), read.1)

pub no_byte : (text : List ℕ) (at : ℕ) → None ≡ slice_get text at → length text ≤ at
no_byte [] at e = omega arith
no_byte (x ∷ text) zero e = cc
no_byte (x ∷ text) (suc at) e = omega (arith, no_byte text at e)

-- a mark is its first byte and then the others
pub begins_with-split : (m : ℕ) (mark rest : List ℕ) → begins_with (m ∷ mark) rest ≡ (begins_with (m ∷ []) rest && begins_with mark (drop 1 rest))
unfolding begins_with
begins_with-split m mark [] = refl
begins_with-split m mark (b ∷ rest) = ap (λ t. t && begins_with mark rest) (sym (and-true (b == m)))

-- a mark is no longer than what begins with it
pub begins_with-fits : (mark rest : List ℕ) → begins_with mark rest ≡ true → length mark ≤ length rest
unfolding begins_with
begins_with-fits [] rest h = omega arith
begins_with-fits (m ∷ mark) [] h = cc
begins_with-fits (m ∷ mark) (b ∷ rest) h =
    omega (arith, begins_with-fits mark rest (and_parts (b == m) (begins_with mark rest) h).1)

pub begins_with-short : (mark text : List ℕ) (at : ℕ) → length text - at < length mark → begins_with mark (drop at text) ≡ false
begins_with-short mark text at h =
    let both : (t : Bool) → begins_with mark (drop at text) ≡ t → t ≡ false =
    elim [ true ↦ λ e. absurd (omega (arith, begins_with-fits mark (drop at text) e, length-drop at text)) | false ↦ λ e. refl ] in
    both (begins_with mark (drop at text)) refl

-- one byte on
pub begins_with-more : (mark text : List ℕ) (i at : ℕ) → i < length mark →
    begins_with (drop i mark) (drop at text)
    ≡ (begins_with (get_or mark i 0 ∷ []) (drop at text) && begins_with (drop (i + 1) mark) (drop (at + 1) text))
begins_with-more mark text i at within =
    rw (drop_more mark i 0 within)
    (begins_with-split (get_or mark i 0) (drop (i + 1) mark) (drop at text)
    ∙ ap (λ rest. begins_with (get_or mark i 0 ∷ []) (drop at text) && begins_with (drop (i + 1) mark) rest) (drop-drop 1 at text))

-- a mark of which the first i bytes stand there
module _ (mark text : List ℕ) (at i : ℕ)
    (so_far : begins_with mark (drop at text) ≡ begins_with (drop i mark) (drop (at + i) text)) where
  pub stands-more : i < length mark → begins_with (get_or mark i 0 ∷ []) (drop (at + i) text) ≡ true →
      begins_with mark (drop at text) ≡ begins_with (drop (i + 1) mark) (drop (at + (i + 1)) text)
  stands-more within here =
      so_far ∙ begins_with-more mark text i (at + i) within
      ∙ ap (λ t. t && begins_with (drop (i + 1) mark) (drop (at + i + 1) text)) here
      ∙ ap (λ n. begins_with (drop (i + 1) mark) (drop n text)) (omega arith)

  pub stands-not : i < length mark → begins_with (get_or mark i 0 ∷ []) (drop (at + i) text) ≡ false →
      false ≡ begins_with mark (drop at text)
  stands-not within here =
      sym (so_far ∙ begins_with-more mark text i (at + i) within
      ∙ ap (λ t. t && begins_with (drop (i + 1) mark) (drop (at + i + 1) text)) here)

  pub stands-whole : length mark ≤ i → true ≡ begins_with mark (drop at text)
  unfolding begins_with
  stands-whole whole = sym (so_far ∙ ap (λ m. begins_with m (drop (at + i) text)) (drop_all i mark whole))

-- what stands at a place with the byte
head_is : (byte : ℕ) (rest : List ℕ) → begins_with (byte ∷ []) rest ≡ true → (0 < length rest) × (get_or rest 0 0 ≡ byte)
unfolding begins_with
head_is byte [] h = cc
head_is byte (b ∷ rest) h = (omega arith, eqb-true b byte (and_parts (b == byte) true h).0)

-- the mark or the byte stands here
pub here-within : (mark text : List ℕ) (at : ℕ) → 0 < length mark → begins_with mark (drop at text) ≡ true → at < length text
here-within mark text at some h = omega (arith, begins_with-fits mark (drop at text) h, length-drop at text)

pub byte-here : (byte : ℕ) (text : List ℕ) (at : ℕ) → begins_with (byte ∷ []) (drop at text) ≡ true → get_or text at 0 ≡ byte
byte-here byte text at h =
    sym (ap (λ n. get_or text n 0) (let e : at + 0 ≡ at = omega arith in e)) ∙ sym (get_or-drop at text 0 0)
    ∙ (head_is byte (drop at text) h).1

-- each byte of the mark stands there
pub mark_reads : (mark rest : List ℕ) (k : ℕ) → begins_with mark rest ≡ true → k < length mark → get_or rest k 0 ≡ get_or mark k 0
unfolding begins_with
mark_reads [] rest k h within = absurd (omega arith)
mark_reads (m ∷ mark) [] k h within = cc
mark_reads (m ∷ mark) (b ∷ rest) zero h within = eqb-true b m (and_parts (b == m) (begins_with mark rest) h).0
mark_reads (m ∷ mark) (b ∷ rest) (suc k) h within =
    mark_reads mark rest k (and_parts (b == m) (begins_with mark rest) h).1 (omega arith)

pub mark-reads : (mark text : List ℕ) (at k : ℕ) → begins_with mark (drop at text) ≡ true → k < length mark → get_or text (at + k) 0 ≡ get_or mark k 0
mark-reads mark text at k h within = sym (get_or-drop at text k 0) ∙ mark_reads mark (drop at text) k h within

pub mark-last : (mark text : List ℕ) (at : ℕ) → begins_with mark (drop at text) ≡ true → 0 < length mark →
    get_or text (at + length mark - 1) 0 ≡ get_or mark (length mark - 1) 0
mark-last mark text at h some =
    ap (λ n. get_or text n 0) (let e : at + length mark - 1 ≡ at + (length mark - 1) = omega arith in e)
    ∙ mark-reads mark text at (length mark - 1) h (omega arith)

-- how far it is to a mark
before-first : (mark rest : List ℕ) → 0 < length rest → begins_with mark rest ≡ true → bytes_before mark rest ≡ Some 0
unfolding bytes_before
before-first mark [] some e = absurd (omega arith)
before-first mark (b ∷ rest) some e = rw e refl

before-next : (mark rest : List ℕ) → 0 < length rest → begins_with mark rest ≡ false → bytes_before mark rest ≡ option_map (λ n. n + 1) (bytes_before mark (drop 1 rest))
unfolding bytes_before
before-next mark [] some e = absurd (omega arith)
before-next mark (b ∷ rest) some e = rw e refl

-- places from one place on, as places from another
shifted : (from at : ℕ) (found : Option ℕ) → option_map (λ n. from + n) (option_map (λ n. n + 1) found) ≡ option_map (λ n. from + 1 + n) found
shifted from at None = refl
shifted from at (Some n) = ap Some (omega arith)

module _ (mark text : List ℕ) (at : ℕ) where
  pub before-here : at < length text → begins_with mark (drop at text) ≡ true → option_map (λ n. at + n) (bytes_before mark (drop at text)) ≡ Some at
  before-here within h =
      ap (option_map (λ n. at + n)) (before-first mark (drop at text) (omega (arith, length-drop at text)) h)
      ∙ ap Some (omega arith)

  pub before-more : at < length text → begins_with mark (drop at text) ≡ false →
      option_map (λ n. at + n) (bytes_before mark (drop at text)) ≡ option_map (λ n. at + 1 + n) (bytes_before mark (drop (at + 1) text))
  before-more within h =
      ap (option_map (λ n. at + n))
      (before-next mark (drop at text) (omega (arith, length-drop at text)) h
      ∙ ap (λ rest. option_map (λ n. n + 1) (bytes_before mark rest)) (drop-drop 1 at text))
      ∙ shifted at at (bytes_before mark (drop (at + 1) text))

  pub before-end : length text ≤ at → option_map (λ n. at + n) (bytes_before mark (drop at text)) ≡ None
  unfolding bytes_before
  before-end past = ap (λ rest. option_map (λ n. at + n) (bytes_before mark rest)) (drop_all at text past)
