-- A Bad token goes on to the next `<`, through the next `>`, or to the end.
use Rattle.std.proofs.Common.{◌≡◌, ℕ, ◌+◌, ◌<◌, ◌≤◌, true, false, inl, inr, List, [], ◌∷◌, length, drop, get_or, refl, sym, ◌∙◌, ap, subst, arith, codes}
use Rattle.std.specs.Prelude.{◌==◌, if◌then◌else◌}
use Rattle.std.specs.Str.{IsUtf8}
use Rattle.std.proofs.Math.Bool.{and-true}
use Rattle.std.proofs.lemmas.Bool.{cases_Bool, eq-eqb}
use Rattle.std.proofs.lemmas.List.{drop_more, drop_all}
use Rattle.std.proofs.lemmas.Str.{IsCharBoundary-end, IsCharBoundary-before_ascii, IsCharBoundary-after_ascii}
use Rattle.nx_base.specs.Text.{IsPlace}
use Rattle.nx_base.specs.Tokens.{cut_as, begins_with, bytes_up_to, bad_rest}
use Rattle.nx_base.specs.declared.token.TokenKind.TheVariants as kinds
use Rattle.nx_scan.specs.Ending.{EndsAt}
use Rattle.nx_scan.specs.declared.scan.End.{End}
use Rattle.nx_scan.proofs.Marks.{byte-here, here-within}

-- how far a Bad token goes on
pub bad_rest-cons : (b : ℕ) (bs : List ℕ) → bad_rest (b ∷ bs) ≡ (if b == 60 then 0 else (if b == 62 then 1 else bad_rest bs + 1))
unfolding bad_rest bytes_up_to
bad_rest-cons b bs =
    elim (cases_Bool (b == 60)) [
      | inl e ↦ rw e (omega arith)
      | inr e ↦ elim (cases_Bool (b == 62)) [ inl f ↦ rw (e, f) (omega arith) | inr f ↦ rw (e, f) (omega arith) ]
    ]

pub bad_rest-less : (b : ℕ) (bs : List ℕ) → (b == 60) ≡ true → bad_rest (b ∷ bs) ≡ 0
bad_rest-less b bs e = rw (bad_rest-cons b bs, e) refl

pub bad_rest-greater : (b : ℕ) (bs : List ℕ) → (b == 60) ≡ false → (b == 62) ≡ true → bad_rest (b ∷ bs) ≡ 1
bad_rest-greater b bs e f = rw (bad_rest-cons b bs, e, f) refl

pub bad_rest-further : (b : ℕ) (bs : List ℕ) → (b == 60) ≡ false → (b == 62) ≡ false → bad_rest (b ∷ bs) ≡ bad_rest bs + 1
bad_rest-further b bs e f = rw (bad_rest-cons b bs, e, f) refl

pub bad_rest-nil : bad_rest [] ≡ 0
unfolding bad_rest bytes_up_to
bad_rest-nil = refl

-- byte by byte
apart : (byte : ℕ) (text : List ℕ) (at : ℕ) → at < length text → begins_with (byte ∷ []) (drop at text) ≡ false → (get_or text at 0 == byte) ≡ false
unfolding begins_with
apart byte text at within h =
    sym (and-true (get_or text at 0 == byte)) ∙ ap (begins_with (byte ∷ [])) (sym (drop_more text at 0 within)) ∙ h

-- the text from `from` on was passed up to `place`
module _ (text : List ℕ) (from place : ℕ) (utf8 : IsUtf8 text)
    (so_far : from + bad_rest (drop from text) ≡ place + bad_rest (drop place text)) where
  bad-ends : (found : End) → (end : ℕ) → found.kind ≡ kinds.Bad → found.place ≡ end → end ≡ place + bad_rest (drop place text) → IsPlace text end →
      EndsAt text from (cut_as kinds.Bad (bad_rest (drop from text))) found
  bad-ends found end kind is there border =
      record { kind = kind; place = is ∙ there ∙ sym so_far; border = subst (λ n. IsPlace text n) (sym is) border }

  pub bad-less : begins_with (codes "<") (drop place text) ≡ true → (found : End) → found.kind ≡ kinds.Bad → found.place ≡ place →
      EndsAt text from (cut_as kinds.Bad (bad_rest (drop from text))) found
  bad-less h found kind is =
      let within : place < length text = here-within (codes "<") text place (omega arith) h in
      let byte : get_or text place 0 ≡ 60 = byte-here 60 text place h in
      let none : bad_rest (drop place text) ≡ 0 =
      ap bad_rest (drop_more text place 0 within) ∙ bad_rest-less (get_or text place 0) (drop (place + 1) text) (eq-eqb (get_or text place 0) 60 byte) in
      bad-ends found place kind is (omega arith) (IsCharBoundary-before_ascii text place within (omega (arith, byte)))

  pub bad-greater : begins_with (codes "<") (drop place text) ≡ false → begins_with (codes ">") (drop place text) ≡ true →
      (found : End) → found.kind ≡ kinds.Bad → found.place ≡ place + 1 → EndsAt text from (cut_as kinds.Bad (bad_rest (drop from text))) found
  bad-greater g h found kind is =
      let within : place < length text = here-within (codes ">") text place (omega arith) h in
      let byte : get_or text place 0 ≡ 62 = byte-here 62 text place h in
      let one : bad_rest (drop place text) ≡ 1 =
      ap bad_rest (drop_more text place 0 within)
      ∙ bad_rest-greater (get_or text place 0) (drop (place + 1) text) (apart 60 text place within g) (eq-eqb (get_or text place 0) 62 byte) in
      bad-ends found (place + 1) kind is (omega arith) (IsCharBoundary-after_ascii text place utf8 within (omega (arith, byte)))

  pub bad-further : place < length text → begins_with (codes "<") (drop place text) ≡ false → begins_with (codes ">") (drop place text) ≡ false →
      from + bad_rest (drop from text) ≡ place + 1 + bad_rest (drop (place + 1) text)
  bad-further within g h =
      let more : bad_rest (drop place text) ≡ bad_rest (drop (place + 1) text) + 1 =
      ap bad_rest (drop_more text place 0 within)
      ∙ bad_rest-further (get_or text place 0) (drop (place + 1) text) (apart 60 text place within g) (apart 62 text place within h) in
      omega arith

  pub bad-whole : length text ≤ place → place ≤ length text → (found : End) → found.kind ≡ kinds.Bad → found.place ≡ place →
      EndsAt text from (cut_as kinds.Bad (bad_rest (drop from text))) found
  bad-whole past within found kind is =
      let none : bad_rest (drop place text) ≡ 0 = ap bad_rest (drop_all place text past) ∙ bad_rest-nil in
      let end : length text ≡ place = omega arith in
      bad-ends found place kind is (omega arith) (subst (λ n. IsPlace text n) end (IsCharBoundary-end text))
