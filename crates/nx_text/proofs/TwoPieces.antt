-- A cursor over one of two pieces of a text.
use Rattle.std.proofs.Common.{◌≡◌, ◌∙◌, ℕ, ◌+◌, ◌-◌, ◌<◌, ◌≤◌, ◌⊎◌, Bool, true, false, List, [], ◌∷◌, ◌++◌, length, take, drop, Option}
use Rattle.std.proofs.Common.{Some, None, IsNone, IsTrue, Result, Ok, Err, refl, sym, ap, subst, arith, length-append, take_at, drop_at}
use Rattle.std.proofs.Common.{inl, inr}
use Rattle.std.specs.Str.{IsUtf8, IsCharBoundary}
use Rattle.std.proofs.lemmas.Str.{IsUtf8-append, IsCharBoundary-start, IsCharBoundary-end, IsCharBoundary-at_seam}
use Rattle.std.specs.Option.{unwrap_or}
use Rattle.unicode_segmentation.specs.Cursor.{IsChunkOf, AsksFor, KeepsPlace, cursor_awaits}
use Rattle.unicode_segmentation.specs.declared.grapheme.cursor.GraphemeCursor.{GraphemeCursor}
use Rattle.unicode_segmentation.specs.declared.grapheme.cursor.GraphemeIncomplete.{GraphemeIncomplete}
use Rattle.unicode_segmentation.specs.declared.grapheme.cursor.GraphemeIncomplete.TheVariants.{PreContext, PrevChunk, NextChunk}
use Rattle.unicode_segmentation.specs.declared.grapheme.cursor.GraphemeIncomplete.TheVariants.{InvalidOffset}

module _ (front back : List ℕ) (uf : IsUtf8 front) (ub : IsUtf8 back) where
  pub whole_utf8 : IsUtf8 (front ++ back)
  whole_utf8 = IsUtf8-append front back uf ub

  seam : IsCharBoundary (front ++ back) (length front)
  seam = IsCharBoundary-at_seam (front ++ back) front back refl ub

  pub front_chunk : IsChunkOf (front ++ back) front 0
  front_chunk = record {
    start_boundary = IsCharBoundary-start (front ++ back) whole_utf8;
    end_boundary = (let e : length front ≡ 0 + length front = omega arith in subst (IsCharBoundary (front ++ back)) e seam);
    bytes = (let w : 0 + length front - 0 ≡ length front = omega arith in sym (ap (λ n. take n (front ++ back)) w ∙ take_at front back (length front) refl));
  }

  pub back_chunk : IsChunkOf (front ++ back) back (length front)
  back_chunk = record {
    start_boundary = seam;
    end_boundary = subst (IsCharBoundary (front ++ back)) (length-append front back) (IsCharBoundary-end (front ++ back));
    bytes = (
        let w : length front + length back - length front ≡ length back = omega arith in
        sym (ap (λ s. take (length front + length back - length front) s) (drop_at front back (length front) refl)
        ∙ ap (λ n. take n back) w ∙ Rattle.std.proofs.Common.take_all (length back) back (omega arith)));
  }

take_none : (o : Option ℕ) (d : ℕ) → IsNone o → unwrap_or o d ≡ d
take_none None d h = refl
take_none (Some n) d h = cc

-- what a fresh cursor over a piece that has its offset may want: the text in front of the piece
module _ (old new : GraphemeCursor) (chunk : List ℕ) (start : ℕ) (r : Result Bool GraphemeIncomplete)
    (pre : (n : ℕ) → r ≡ Err (PreContext n) → AsksFor old new start n)
    (invalid : r ≡ Err InvalidOffset → (old.offset < start) ⊎ (start + length chunk ≤ old.offset))
    (no_chunk : (r ≡ Err PrevChunk → ⊥) × (r ≡ Err NextChunk → ⊥))
    (place : KeepsPlace old new) (fresh : IsNone (cursor_awaits old)) (low : start ≤ old.offset) (high : old.offset < start + length chunk) where
  pub asks_front : (n : ℕ) → r ≡ Err (PreContext n) → n ≡ start
  asks_front n e = (pre n e).in_place place.offset ∙ take_none (cursor_awaits old) start fresh

  pub only_context : (e : GraphemeIncomplete) → r ≡ Err e → ((n : ℕ) → e ≡ PreContext n → ⊥) → ⊥
  only_context (PreContext n) is no_context = no_context n refl
  only_context PrevChunk is no_context = no_chunk.0 is
  only_context NextChunk is no_context = no_chunk.1 is
  only_context InvalidOffset is no_context = elim (invalid is) [ inl h ↦ omega arith | inr h ↦ omega arith ]

-- the text in front of a chunk at the start leaves nothing to ask for
pub decided_there : (P Q : Type 0) → P ⊎ ((0 < 0) × Q) → P
decided_there P Q (inl p) = p
decided_there P Q (inr q) = (let lt = q.0 in absurd (omega arith))
