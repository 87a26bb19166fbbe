-- A document type declaration ends where the standard's words say.
use Rattle.std.proofs.Common.{◌≡◌, ◌↔◌, ℕ, zero, suc, ◌+◌, ◌-◌, ◌<◌, ◌≤◌, Bool, true, false, inl, inr, List, [], ◌∷◌, ◌++◌, length, take, drop, refl, sym, ◌∙◌, ap, subst, arith, codes, length-append, length-drop}
use Rattle.std.specs.Prelude.{◌==◌, ◌&&◌, ◌||◌, not, Option, Some, None}
use Rattle.std.specs.Option.{option_map}
use Rattle.std.proofs.Math.Seq.{drop-append_seam}
use Rattle.std.proofs.lemmas.Bool.{cases_Bool, and_parts, or_cases, true≢false, not-true, eqb-true, eq-eqb, and_from}
use Rattle.std.proofs.lemmas.List.{drop-drop, take-append-drop, take-take, length-take-le}
use Rattle.nx_base.specs.Tokens.{begins_with, bytes_before, piece, in_subset, doctype_bytes}
use Rattle.nx_scan.specs.Doctype.{BeginsWith, IsThrough, IsQuote, IsBracket, IsOther, ReadsDoctype, by_end, by_quoted, by_comment, by_instruction, by_opening, by_closing, by_other}
use Rattle.nx_scan.proofs.Doctypes.{passed, piece-quote, piece-comment, piece-instruction, piece-byte, doctype-piece}
use Rattle.nx_scan.proofs.Fitting.{before-stands, doctype-ends}
use Rattle.nx_scan.proofs.Marks.{begins_with-fits}
use Rattle.nx_scan.proofs.Rows.{behind_mark}
use Rattle.nx_scan.proofs.Stable.{before-here, before-next, before-none, option-next, option-some, doctype-passes, doctype-end, doctype-found, doctype-same}

-- tests of a byte
apart : (b k : ℕ) → (b ≡ k → ⊥) → (b == k) ≡ false
apart b k h = elim (cases_Bool (b == k)) [ inl e ↦ absurd (h (eqb-true b k e)) | inr e ↦ e ]

quote-test : (b : ℕ) → IsQuote b → (b == 34 || b == 39) ≡ true
quote-test b h = elim h [ inl e ↦ rw e refl | inr e ↦ rw e refl ]

quote-from : (b : ℕ) → (b == 34 || b == 39) ≡ true → IsQuote b
quote-from b h = elim (or_cases (b == 34) (b == 39) h) [ inl e ↦ inl (eqb-true b 34 e) | inr e ↦ inr (eqb-true b 39 e) ]

quote-not : (b : ℕ) → (IsQuote b → ⊥) → (b == 34 || b == 39) ≡ false
quote-not b h = elim (cases_Bool (b == 34 || b == 39)) [ inl e ↦ absurd (h (quote-from b e)) | inr e ↦ e ]

quote-subset : (subset : Bool) (b : ℕ) → IsQuote b → in_subset subset b ≡ subset
quote-subset subset b h = elim h [ inl e ↦ rw e refl | inr e ↦ rw e refl ]

quote-goes_on : (subset : Bool) (b : ℕ) → IsQuote b → (b == 62 && not subset) ≡ false
quote-goes_on subset b h = elim h [ inl e ↦ rw e refl | inr e ↦ rw e refl ]

other-subset : (subset : Bool) (b : ℕ) → (IsBracket b → ⊥) → in_subset subset b ≡ subset
other-subset subset b h = rw (apart b 91 (λ e. h (inl e)), apart b 93 (λ e. h (inr e))) refl

other-goes_on : (subset : Bool) (b : ℕ) → (subset ≡ false → b ≡ 62 → ⊥) → (b == 62 && not subset) ≡ false
other-goes_on subset b h =
    elim (cases_Bool (b == 62 && not subset)) [
      | inl e ↦ (let parts = and_parts (b == 62) (not subset) e in absurd (h (not-true subset parts.1) (eqb-true b 62 parts.0)))
      | inr e ↦ e
    ]

inside-not : (subset test : Bool) → (subset ≡ true → test ≡ false) → (subset && test) ≡ false
inside-not true test h = h refl
inside-not false test h = refl

inside-from : (subset test : Bool) → (subset && test) ≡ false → subset ≡ true → test ≡ false
inside-from true test h e = h
inside-from false test h e = absurd (true≢false (sym e))

-- a mark stands where the bytes begin with it
begins-append : (mark more : List ℕ) → begins_with mark (mark ++ more) ≡ true
unfolding begins_with
begins-append [] more = refl
begins-append (m ∷ mark) more = and_from (m == m) (begins_with mark (mark ++ more)) (eq-eqb m m refl) (begins-append mark more)

begins-from : (mark bytes : List ℕ) → BeginsWith mark bytes → begins_with mark bytes ≡ true
begins-from mark bytes stands = ap (begins_with mark) stands.1 ∙ begins-append mark stands.0

begins-not_from : (mark bytes : List ℕ) → (BeginsWith mark bytes → ⊥) → begins_with mark bytes ≡ false
begins-not_from mark bytes h =
    elim (cases_Bool (begins_with mark bytes)) [ inl e ↦ absurd (h (drop (length mark) bytes, behind_mark mark bytes e)) | inr e ↦ e ]

stands-not_from : (mark bytes : List ℕ) → begins_with mark bytes ≡ false → BeginsWith mark bytes → ⊥
stands-not_from mark bytes e stands = true≢false (sym (begins-from mark bytes stands) ∙ e)

-- the first mark is one before which none stands
before-clear : (mark bytes : List ℕ) (n : ℕ) → bytes_before mark bytes ≡ Some n → (k : ℕ) → k < n → begins_with mark (drop k bytes) ≡ false
before-clear mark [] n e k lt = let bad : None ≡ Some n = sym (before-none mark) ∙ e in cc
before-clear mark (b ∷ bs) n e k lt =
    elim (cases_Bool (begins_with mark (b ∷ bs))) [
      | inl h ↦ (let here : Some 0 ≡ Some n = sym (before-here mark b bs h) ∙ e in let same : 0 ≡ n = cc in absurd (omega arith))
      | inr h ↦
          (let found = option-next (bytes_before mark bs) n (sym (before-next mark b bs h) ∙ e) in
          let len = found.2 in
          at_place k found.0 h (before-clear mark bs found.0 found.1) (omega arith))
    ]
  where
    at_place : (k m : ℕ) → begins_with mark (b ∷ bs) ≡ false → ((k : ℕ) → k < m → begins_with mark (drop k bs) ≡ false) → k < m + 1 →
        begins_with mark (drop k (b ∷ bs)) ≡ false
    at_place zero m h further lt = h
    at_place (suc k) m h further lt = further k (omega arith)

before-is : (mark bytes : List ℕ) (n : ℕ) → 0 < length mark → begins_with mark (drop n bytes) ≡ true →
    ((k : ℕ) → k < n → begins_with mark (drop k bytes) ≡ false) → bytes_before mark bytes ≡ Some n
before-is mark [] n some stands clear = absurd (omega (arith, begins_with-fits mark (drop n []) stands, length-drop {A = ℕ} n []))
before-is mark (b ∷ bs) zero some stands clear = before-here mark b bs stands
before-is mark (b ∷ bs) (suc n) some stands clear =
    before-next mark b bs (clear 0 (omega arith))
    ∙ ap (option_map (λ k. k + 1)) (before-is mark bs n some stands (λ k lt. clear (suc k) (omega arith))) ∙ ap Some (omega arith)

-- a content through its mark
through : (mark bytes : List ℕ) (n : ℕ) → bytes_before mark bytes ≡ Some n → n + length mark ≤ length bytes →
    IsThrough mark (take n bytes) (drop (n + length mark) bytes) bytes
through mark bytes n e fits =
    record {
      parts = sym (take-append-drop n bytes)
          ∙ ap (λ xs. take n bytes ++ xs)
          (behind_mark mark (drop n bytes) (before-stands mark bytes n e) ∙ ap (λ xs. mark ++ xs) (drop-drop (length mark) n bytes));
      first = λ k lt. stands-not_from mark (drop k bytes) (before-clear mark bytes n e k (omega (arith, length-take-le n bytes (omega arith))));
    }

through-rest : (mark content rest bytes : List ℕ) → IsThrough mark content rest bytes → drop (length content + length mark) bytes ≡ rest
through-rest mark content rest bytes t =
    sym (drop-drop (length mark) (length content) bytes)
    ∙ ap (λ xs. drop (length mark) (drop (length content) xs)) t.parts
    ∙ ap (drop (length mark)) (drop-append_seam content (mark ++ rest)) ∙ drop-append_seam mark rest

through-length : (mark content rest bytes : List ℕ) → IsThrough mark content rest bytes → length bytes ≡ length content + length mark + length rest
through-length mark content rest bytes t =
    ap length t.parts ∙ length-append content (mark ++ rest) ∙ ap (λ n. length content + n) (length-append mark rest) ∙ omega arith

through-first : (mark content rest bytes : List ℕ) → 0 < length mark → IsThrough mark content rest bytes → bytes_before mark bytes ≡ Some (length content)
through-first mark content rest bytes some t =
    before-is mark bytes (length content) some
    (begins-from mark (drop (length content) bytes) (rest, ap (drop (length content)) t.parts ∙ drop-append_seam content (mark ++ rest)))
    (λ k lt. begins-not_from mark (drop k bytes) (t.first k lt))

-- from the words: a step over a piece
step : (subset : Bool) (b : ℕ) (bs rest : List ℕ) (p : ℕ) → (b == 62 && not subset) ≡ false → piece subset (b ∷ bs) ≡ Some p → 0 < p →
    drop (p - 1) bs ≡ rest → length bs ≡ p - 1 + length rest → (behind : Bool) → in_subset subset b ≡ behind →
    doctype_bytes behind 0 rest ≡ Some (length rest) → doctype_bytes subset 0 (b ∷ bs) ≡ Some (length (b ∷ bs))
step subset b bs rest p goes_on is some rests len behind flag e =
    doctype-piece subset b bs p goes_on is
    ∙ ap (λ s. option_map (λ m. m + 1) (doctype_bytes s (p - 1) bs)) flag
    ∙ ap (option_map (λ m. m + 1)) (passed behind (p - 1) bs (omega arith))
    ∙ ap (λ xs. option_map (λ m. m + 1) (option_map (λ m. p - 1 + m) (doctype_bytes behind 0 xs))) rests
    ∙ ap (λ found. option_map (λ m. m + 1) (option_map (λ m. p - 1 + m) found)) e
    ∙ ap Some (omega arith)

step-quoted : (subset : Bool) (quote : ℕ) (content rest behind : List ℕ) → IsQuote quote → IsThrough (quote ∷ []) content rest behind →
    doctype_bytes subset 0 rest ≡ Some (length rest) → doctype_bytes subset 0 (quote ∷ behind) ≡ Some (length (quote ∷ behind))
step-quoted subset quote content rest behind q t e =
    let n = length content in
    let same : 1 + n + 1 - 1 ≡ n + 1 = omega arith in
    step subset quote behind rest (1 + n + 1) (quote-goes_on subset quote q)
    (piece-quote subset quote behind (quote-test quote q) ∙ ap (option_map (λ n. 1 + n + 1)) (through-first (quote ∷ []) content rest behind (omega arith) t))
    (omega arith) (ap (λ k. drop k behind) same ∙ through-rest (quote ∷ []) content rest behind t)
    (through-length (quote ∷ []) content rest behind t ∙ omega arith) subset (quote-subset subset quote q) e

comment-begins : (behind : List ℕ) → begins_with (codes "<!--") (codes "<!--" ++ behind) ≡ true
unfolding begins_with
comment-begins behind = refl

step-comment : (content rest behind : List ℕ) → IsThrough (codes "-->") content rest behind →
    doctype_bytes true 0 rest ≡ Some (length rest) → doctype_bytes true 0 (codes "<!--" ++ behind) ≡ Some (length (codes "<!--" ++ behind))
step-comment content rest behind t e =
    let n = length content in
    let bs : List ℕ = codes "!--" ++ behind in
    let same : 4 + n + 3 - 1 ≡ 3 + (n + 3) = omega arith in
    let len = through-length (codes "-->") content rest behind t in
    step true 60 bs rest (4 + n + 3) refl
    (piece-comment true 60 bs refl (comment-begins behind) ∙ ap (option_map (λ n. 4 + n + 3)) (through-first (codes "-->") content rest behind (omega arith) t))
    (omega arith) (ap (λ k. drop k bs) same ∙ sym (drop-drop (n + 3) 3 bs) ∙ through-rest (codes "-->") content rest behind t)
    (length-append (codes "!--") behind ∙ omega arith) true refl e

instruction-begins : (behind : List ℕ) → begins_with (codes "<?") (codes "<?" ++ behind) ≡ true
unfolding begins_with
instruction-begins behind = refl

instruction-no_comment : (behind : List ℕ) → begins_with (codes "<!--") (codes "<?" ++ behind) ≡ false
unfolding begins_with
instruction-no_comment behind = refl

step-instruction : (content rest behind : List ℕ) → IsThrough (codes "?>") content rest behind →
    doctype_bytes true 0 rest ≡ Some (length rest) → doctype_bytes true 0 (codes "<?" ++ behind) ≡ Some (length (codes "<?" ++ behind))
step-instruction content rest behind t e =
    let n = length content in
    let bs : List ℕ = codes "?" ++ behind in
    let same : 2 + n + 2 - 1 ≡ 1 + (n + 2) = omega arith in
    let len = through-length (codes "?>") content rest behind t in
    step true 60 bs rest (2 + n + 2) refl
    (piece-instruction true 60 bs refl (instruction-no_comment behind) (instruction-begins behind) ∙ ap (option_map (λ n. 2 + n + 2)) (through-first (codes "?>") content rest behind (omega arith) t))
    (omega arith) (ap (λ k. drop k bs) same ∙ sym (drop-drop (n + 2) 1 bs) ∙ through-rest (codes "?>") content rest behind t)
    (length-append (codes "?") behind ∙ omega arith) true refl e

step-byte : (subset : Bool) (b : ℕ) (rest : List ℕ) → (b == 62 && not subset) ≡ false → (b == 34 || b == 39) ≡ false →
    (subset && begins_with (codes "<!--") (b ∷ rest)) ≡ false → (subset && begins_with (codes "<?") (b ∷ rest)) ≡ false →
    (behind : Bool) → in_subset subset b ≡ behind → doctype_bytes behind 0 rest ≡ Some (length rest) →
    doctype_bytes subset 0 (b ∷ rest) ≡ Some (length (b ∷ rest))
step-byte subset b rest goes_on h k l behind flag e =
    step subset b rest rest 1 goes_on (piece-byte subset b rest h k l) (omega arith) refl (omega arith) behind flag e

bracket-not : (subset : Bool) (b : ℕ) (mark rest : List ℕ) → (b == 60) ≡ false → (subset && begins_with (60 ∷ mark) (b ∷ rest)) ≡ false
unfolding begins_with
bracket-not subset b mark rest h = inside-not subset (begins_with (60 ∷ mark) (b ∷ rest)) (λ s. rw h refl)

step-bracket : (subset : Bool) (b : ℕ) (rest : List ℕ) → IsBracket b → (behind : Bool) → in_subset subset b ≡ behind →
    doctype_bytes behind 0 rest ≡ Some (length rest) → doctype_bytes subset 0 (b ∷ rest) ≡ Some (length (b ∷ rest))
step-bracket subset b rest is behind flag e =
    let less : (b == 60) ≡ false = elim is [ inl h ↦ rw h refl | inr h ↦ rw h refl ] in
    let goes_on : (b == 62 && not subset) ≡ false = elim is [ inl h ↦ rw h refl | inr h ↦ rw h refl ] in
    let no_quote : (b == 34 || b == 39) ≡ false = elim is [ inl h ↦ rw h refl | inr h ↦ rw h refl ] in
    step-byte subset b rest goes_on no_quote (bracket-not subset b (codes "!--") rest less) (bracket-not subset b (codes "?") rest less) behind flag e

step-other : (subset : Bool) (b : ℕ) (rest : List ℕ) → IsOther subset b (b ∷ rest) → doctype_bytes subset 0 rest ≡ Some (length rest) →
    doctype_bytes subset 0 (b ∷ rest) ≡ Some (length (b ∷ rest))
step-other subset b rest o e =
    step-byte subset b rest (other-goes_on subset b o.outside) (quote-not b o.quote)
    (inside-not subset (begins_with (codes "<!--") (b ∷ rest)) (λ s. begins-not_from (codes "<!--") (b ∷ rest) (o.comment s)))
    (inside-not subset (begins_with (codes "<?") (b ∷ rest)) (λ s. begins-not_from (codes "<?") (b ∷ rest) (o.instruction s)))
    subset (other-subset subset b o.bracket) e

abbrev IsWhole : Bool → List ℕ → Type 0
IsWhole subset all = doctype_bytes subset 0 all ≡ Some (length all)

whole : {subset : Bool} {all : List ℕ} → ReadsDoctype subset all → IsWhole subset all
whole (by_end is) = subst (IsWhole false) (sym is) (doctype-end false 62 [] refl)
whole (by_quoted {subset} quote content rest behind q is t r) = subst (IsWhole subset) (sym is) (step-quoted subset quote content rest behind q t (whole r))
whole (by_comment content rest behind is t r) = subst (IsWhole true) (sym is) (step-comment content rest behind t (whole r))
whole (by_instruction content rest behind is t r) = subst (IsWhole true) (sym is) (step-instruction content rest behind t (whole r))
whole (by_opening {subset} rest is r) = subst (IsWhole subset) (sym is) (step-bracket subset 91 rest (inl refl) true refl (whole r))
whole (by_closing {subset} rest is r) = subst (IsWhole subset) (sym is) (step-bracket subset 93 rest (inr refl) false refl (whole r))
whole (by_other {subset} byte rest is o r) =
    subst (IsWhole subset) (sym is) (step-other subset byte rest (subst (IsOther subset byte) is o) (whole r))

-- to the words
close-reads : (subset : Bool) (b : ℕ) (bs : List ℕ) → (b == 62 && not subset) ≡ true → IsWhole subset (b ∷ bs) → ReadsDoctype subset (b ∷ bs)
close-reads true b bs h e = absurd (true≢false (sym (and_parts (b == 62) false h).1))
close-reads false b [] h e = by_end (ap (λ x. x ∷ []) (eqb-true b 62 (and_parts (b == 62) true h).0))
close-reads false b (c ∷ bs) h e =
    let same : Some 1 ≡ Some (length (b ∷ (c ∷ bs))) = sym (doctype-end false b (c ∷ bs) h) ∙ e in
    let ends : 1 ≡ length (b ∷ (c ∷ bs)) = cc in
    absurd (omega arith)

module _ (subset : Bool) (b : ℕ) (bs : List ℕ) (p : ℕ) (goes_on : (b == 62 && not subset) ≡ false) (is : piece subset (b ∷ bs) ≡ Some p)
    (fits : p - 1 ≤ length bs) (some : 0 < p) (further : ReadsDoctype (in_subset subset b) (drop (p - 1) bs)) where
  -- the rest is what is behind the piece
  rest-is : (behind : Bool) (rest : List ℕ) → in_subset subset b ≡ behind → drop (p - 1) bs ≡ rest → ReadsDoctype behind rest
  rest-is behind rest flag rests = subst (ReadsDoctype behind) rests (subst (λ s. ReadsDoctype s (drop (p - 1) bs)) flag further)

  quoted-reads : (b == 34 || b == 39) ≡ true → ReadsDoctype subset (b ∷ bs)
  quoted-reads h =
      let q = quote-from b h in
      let found = option-some 1 1 (bytes_before (b ∷ []) bs) p (sym (piece-quote subset b bs h) ∙ is) in
      let n = found.0 in
      let len = found.2 in
      by_quoted b (take n bs) (drop (n + 1) bs) bs q refl (through (b ∷ []) bs n found.1 (omega arith))
      (rest-is subset (drop (n + 1) bs) (quote-subset subset b q) (ap (λ k. drop k bs) (let e : p - 1 ≡ n + 1 = omega arith in e)))

  other-reads : (b == 34 || b == 39) ≡ false → (subset && begins_with (codes "<!--") (b ∷ bs)) ≡ false →
      (subset && begins_with (codes "<?") (b ∷ bs)) ≡ false → (IsBracket b → ⊥) → p ≡ 1 → ReadsDoctype subset (b ∷ bs)
  other-reads h k l no_bracket one =
      by_other b bs refl
      (record {
        quote = λ q. true≢false (sym (quote-test b q) ∙ h);
        bracket = no_bracket;
        outside = λ s f. true≢false (sym (ap (λ x. x == 62 && not subset) f ∙ ap (λ x. not x) s) ∙ goes_on);
        comment = λ s. stands-not_from (codes "<!--") (b ∷ bs) (inside-from subset (begins_with (codes "<!--") (b ∷ bs)) k s);
        instruction = λ s. stands-not_from (codes "<?") (b ∷ bs) (inside-from subset (begins_with (codes "<?") (b ∷ bs)) l s);
      })
      (rest-is subset bs (other-subset subset b no_bracket) (ap (λ k. drop k bs) (let e : p - 1 ≡ 0 = omega arith in e)))

  byte-reads : (b == 34 || b == 39) ≡ false → (subset && begins_with (codes "<!--") (b ∷ bs)) ≡ false →
      (subset && begins_with (codes "<?") (b ∷ bs)) ≡ false → ReadsDoctype subset (b ∷ bs)
  byte-reads h k l =
      let same : Some 1 ≡ Some p = sym (piece-byte subset b bs h k l) ∙ is in
      let one : p ≡ 1 = cc in
      let rests : drop (p - 1) bs ≡ bs = ap (λ k. drop k bs) (let e : p - 1 ≡ 0 = omega arith in e) in
      elim (cases_Bool (b == 91)) [
        | inl e ↦ by_opening bs (ap (λ x. x ∷ bs) (eqb-true b 91 e)) (rest-is true bs (rw e refl) rests)
        | inr e ↦ elim (cases_Bool (b == 93)) [
          | inl f ↦ by_closing bs (ap (λ x. x ∷ bs) (eqb-true b 93 f)) (rest-is false bs (rw (e, f) refl) rests)
          | inr f ↦
              other-reads h k l
              (λ bracket. elim bracket [
                | inl g ↦ true≢false (sym (ap (λ x. x == 91) g) ∙ e)
                | inr g ↦ true≢false (sym (ap (λ x. x == 93) g) ∙ f)
              ]) one
        ]
      ]

  comment-reads : (b == 34 || b == 39) ≡ false → (subset && begins_with (codes "<!--") (b ∷ bs)) ≡ true → ReadsDoctype subset (b ∷ bs)
  comment-reads h k =
      let parts = and_parts subset (begins_with (codes "<!--") (b ∷ bs)) k in
      let behind : List ℕ = drop 3 bs in
      let opened : b ∷ bs ≡ codes "<!--" ++ behind = behind_mark (codes "<!--") (b ∷ bs) parts.1 in
      let less : b ≡ 60 = cc in
      let found = option-some 4 3 (bytes_before (codes "-->") behind) p (sym (piece-comment subset b bs h k) ∙ is) in
      let n = found.0 in
      let len = found.2 in
      let flag : in_subset subset b ≡ true = ap (λ x. in_subset subset x) less ∙ parts.0 in
      let rests : drop (p - 1) bs ≡ drop (n + 3) behind =
      ap (λ k. drop k bs) (let e : p - 1 ≡ 3 + (n + 3) = omega arith in e) ∙ sym (drop-drop (n + 3) 3 bs) in
      subst (λ s. ReadsDoctype s (b ∷ bs)) (sym parts.0)
      (by_comment (take n behind) (drop (n + 3) behind) behind opened
      (through (codes "-->") behind n found.1 (omega (arith, length-drop 3 bs))) (rest-is true (drop (n + 3) behind) flag rests))

  instruction-reads : (b == 34 || b == 39) ≡ false → (subset && begins_with (codes "<!--") (b ∷ bs)) ≡ false →
      (subset && begins_with (codes "<?") (b ∷ bs)) ≡ true → ReadsDoctype subset (b ∷ bs)
  instruction-reads h k l =
      let parts = and_parts subset (begins_with (codes "<?") (b ∷ bs)) l in
      let behind : List ℕ = drop 1 bs in
      let opened : b ∷ bs ≡ codes "<?" ++ behind = behind_mark (codes "<?") (b ∷ bs) parts.1 in
      let less : b ≡ 60 = cc in
      let found = option-some 2 2 (bytes_before (codes "?>") behind) p (sym (piece-instruction subset b bs h k l) ∙ is) in
      let n = found.0 in
      let len = found.2 in
      let flag : in_subset subset b ≡ true = ap (λ x. in_subset subset x) less ∙ parts.0 in
      let rests : drop (p - 1) bs ≡ drop (n + 2) behind =
      ap (λ k. drop k bs) (let e : p - 1 ≡ 1 + (n + 2) = omega arith in e) ∙ sym (drop-drop (n + 2) 1 bs) in
      subst (λ s. ReadsDoctype s (b ∷ bs)) (sym parts.0)
      (by_instruction (take n behind) (drop (n + 2) behind) behind opened
      (through (codes "?>") behind n found.1 (omega (arith, length-drop 1 bs))) (rest-is true (drop (n + 2) behind) flag rests))

  piece-reads : ReadsDoctype subset (b ∷ bs)
  piece-reads =
      elim (cases_Bool (b == 34 || b == 39)) [
        | inl h ↦ quoted-reads h
        | inr h ↦ elim (cases_Bool (subset && begins_with (codes "<!--") (b ∷ bs))) [
          | inl k ↦ comment-reads h k
          | inr k ↦ elim (cases_Bool (subset && begins_with (codes "<?") (b ∷ bs))) [ inl l ↦ instruction-reads h k l | inr l ↦ byte-reads h k l ]
        ]
      ]

piece-some : (subset : Bool) (b : ℕ) (bs : List ℕ) (p : ℕ) → piece subset (b ∷ bs) ≡ Some p → 0 < p
piece-some subset b bs p is =
    elim (cases_Bool (b == 34 || b == 39)) [
      | inl h ↦ (let len = (option-some 1 1 (bytes_before (b ∷ []) bs) p (sym (piece-quote subset b bs h) ∙ is)).2 in omega arith)
      | inr h ↦ elim (cases_Bool (subset && begins_with (codes "<!--") (b ∷ bs))) [
        | inl k ↦ (let len = (option-some 4 3 (bytes_before (codes "-->") (drop 4 (b ∷ bs))) p (sym (piece-comment subset b bs h k) ∙ is)).2 in omega arith)
        | inr k ↦ elim (cases_Bool (subset && begins_with (codes "<?") (b ∷ bs))) [
          | inl l ↦ (let len = (option-some 2 2 (bytes_before (codes "?>") (drop 2 (b ∷ bs))) p (sym (piece-instruction subset b bs h k l) ∙ is)).2 in omega arith)
          | inr l ↦ (let same : Some 1 ≡ Some p = sym (piece-byte subset b bs h k l) ∙ is in let one : 1 ≡ p = cc in omega arith)
        ]
      ]
    ]

-- behind a piece the rest is whole
rest-whole : (subset : Bool) (k : ℕ) (bs : List ℕ) → doctype_bytes subset k bs ≡ Some (length bs) → (k < length bs) × IsWhole subset (drop k bs)
rest-whole subset k bs e =
    let within = doctype-passes subset k bs (length bs) e in
    let found = moved (doctype_bytes subset 0 (drop k bs)) (length bs) (sym (passed subset k bs (omega arith)) ∙ e) in
    let len = found.1 in
    (within, found.0 ∙ ap Some (omega (arith, length-drop k bs)))
  where
    moved : (found : Option ℕ) (n : ℕ) → option_map (λ n. k + n) found ≡ Some n → (found ≡ Some (n - k)) × (k ≤ n)
    moved None n h = let bad : None ≡ Some n = h in cc
    moved (Some m) n h = let both : Some (k + m) ≡ Some n = h in let same : k + m ≡ n = cc in (ap Some (omega arith), omega arith)

reads : (fuel : ℕ) (subset : Bool) (all : List ℕ) → length all ≤ fuel → IsWhole subset all → ReadsDoctype subset all
reads fuel subset [] le e = absurd (let a = (doctype-ends subset 0 [] 0 e).some in omega arith)
reads zero subset (b ∷ bs) le e = absurd (omega arith)
reads (suc fuel) subset (b ∷ bs) le e =
    elim (cases_Bool (b == 62 && not subset)) [
      | inl h ↦ close-reads subset b bs h e
      | inr h ↦
          (let found = doctype-found subset b bs (length (b ∷ bs)) h e in
          let p = found.0 in
          let next = option-next (doctype_bytes (in_subset subset b) (p - 1) bs) (length (b ∷ bs)) (sym (doctype-piece subset b bs p h found.1) ∙ e) in
          let len = next.2 in
          let rest = rest-whole (in_subset subset b) (p - 1) bs (next.1 ∙ ap Some (omega arith)) in
          let within = rest.0 in
          let further = reads fuel (in_subset subset b) (drop (p - 1) bs) (omega (arith, length-drop (p - 1) bs)) rest.1 in
          piece-reads subset b bs p h found.1 (omega arith) (piece-some subset b bs p found.1) further)
    ]

-- the first bytes of more
pub doctype-ends_exactly : (bs : List ℕ) (n : ℕ) → (doctype_bytes false 0 bs ≡ Some n) ↔ ((n ≤ length bs) × ReadsDoctype false (take n bs))
doctype-ends_exactly bs n = (
  λ e.
      (let within = (doctype-ends false 0 bs n e).within in (
        within,
        reads (length (take n bs)) false (take n bs) (omega arith)
            (doctype-same bs false 0 (take n bs) n n e (omega arith) (take-take n n bs (omega arith)) ∙ ap Some (sym (length-take-le n bs within))),
      )),
  λ r. doctype-same (take n bs) false 0 bs n n (whole r.1 ∙ ap Some (length-take-le n bs r.0)) (omega arith) (sym (take-take n n bs (omega arith))),
)
