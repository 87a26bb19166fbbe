-- White space alone has no fault of characters.
use Rattle.std.proofs.Common.{◌≡◌, ℕ, zero, suc, ◌+◌, ◌-◌, ◌<◌, true, ◌⊎◌, inl, inr, None, List, [], ◌∷◌, take, refl, sym, subst, arith}
use Rattle.std.specs.List.{AllByRecursion, list_all}
use Rattle.std.proofs.lemmas.Bool.{and_parts}
use Rattle.std.proofs.lemmas.Bool.Decides.{nat_tests}
use Rattle.nx_base.specs.Characters.{is_space, is_char}
use Rattle.nx_events.specs.CharacterFaults.{piece_flaw, text_flaw, tag_flaw, character_flaw}
use Rattle.nx_events.specs.Strings.{Piece, cut_by, text_piece_len}
use Rattle.nx_events.specs.Utf8.{front_char}
use Rattle.nx_events.specs.declared.reading.Reading.TheVariants.{Text}
use Rattle.nx_events.proofs.Pieces.{piece_positive}
use Rattle.nx_document.specs.Constraints.{IsLegal}

space_cases : (b : ℕ) → is_space b ≡ true → (b ≡ 9) ⊎ ((b ≡ 10) ⊎ ((b ≡ 13) ⊎ (b ≡ 32)))
unfolding is_space
space_cases b h = grind (arith, nat_tests)

-- a piece that begins with white space
tab : (more : List ℕ) → text_flaw (9 ∷ more) ≡ None
unfolding text_flaw tag_flaw character_flaw front_char is_char
tab more = refl

feed : (more : List ℕ) → text_flaw (10 ∷ more) ≡ None
unfolding text_flaw tag_flaw character_flaw front_char is_char
feed more = refl

return : (more : List ℕ) → text_flaw (13 ∷ more) ≡ None
unfolding text_flaw tag_flaw character_flaw front_char is_char
return more = refl

blank : (more : List ℕ) → text_flaw (32 ∷ more) ≡ None
unfolding text_flaw tag_flaw character_flaw front_char is_char
blank more = refl

space_first : (b : ℕ) (more : List ℕ) → is_space b ≡ true → text_flaw (b ∷ more) ≡ None
space_first b more h =
    let P : ℕ → Type 0 = λ c. text_flaw (c ∷ more) ≡ None in
    elim (space_cases b h) [
      | inl e ↦ subst P (sym e) (tab more)
      | inr (inl e) ↦ subst P (sym e) (feed more)
      | inr (inr (inl e)) ↦ subst P (sym e) (return more)
      | inr (inr (inr e)) ↦ subst P (sym e) (blank more)
    ]

front_piece : (n b : ℕ) (bytes : List ℕ) → 0 < n → is_space b ≡ true → text_flaw (take n (b ∷ bytes)) ≡ None
front_piece zero b bytes h s = absurd (omega (arith, h))
front_piece (suc n) b bytes h s = space_first b (take n bytes) s

spaces_legal : (n at : ℕ) (bytes : List ℕ) → list_all is_space bytes ≡ true →
    AllByRecursion (λ (piece : Piece). piece_flaw Text piece.bytes ≡ None) (cut_by text_piece_len n at bytes)
unfolding cut_by
spaces_legal n at [] h = tt
spaces_legal (suc n) at (b ∷ bytes) h = spaces_legal n (at + 1) bytes (and_parts (is_space b) (list_all is_space bytes) h).1
spaces_legal zero at (b ∷ bytes) h = (
  front_piece (text_piece_len (b ∷ bytes)) b bytes (piece_positive Text (b ∷ bytes) (omega arith)) (and_parts (is_space b) (list_all is_space bytes) h).0,
  spaces_legal (text_piece_len (b ∷ bytes) - 1) (at + 1) bytes (and_parts (is_space b) (list_all is_space bytes) h).1,
)

pub blank_legal : (bytes : List ℕ) → list_all is_space bytes ≡ true → IsLegal Text bytes
blank_legal bytes h = spaces_legal 0 0 bytes h
