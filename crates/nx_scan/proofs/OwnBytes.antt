-- A token is of its kind: it is the token with which its own bytes begin.
use Rattle.std.proofs.Common.{◌≡◌, ℕ, zero, suc, ◌+◌, ◌<◌, Bool, true, false, inl, inr, List, [], ◌∷◌, ◌++◌, length, take, drop, get_or, refl, sym, ◌∙◌, ap, subst, arith, codes}
use Rattle.std.specs.Prelude.{◌==◌, ◌&&◌}
use Rattle.std.specs.Str.{IsUtf8, IsCharBoundary}
use lib.Utf8.{encode, encodes, scalar, scalars}
use Rattle.std.proofs.Math.Seq.{take-nil}
use Rattle.std.proofs.lemmas.Bool.{cases_Bool, cases_lt, and_parts, and_from, true≢false}
use Rattle.std.proofs.lemmas.List.{take_all, drop-take, length-take-le, take-take}
use Rattle.std.proofs.lemmas.Str.{IsUtf8-take, IsUtf8-drop, IsCharBoundary-after_ascii}
use Rattle.nx_base.specs.Text.{IsPlace}
use Rattle.nx_base.specs.Tokens.{Cut, cut_as, begins_with, bytes_up_to, bad_rest, tags, tag, markup, order_mark, first_token, cut, IsOfKind}
use Rattle.nx_base.specs.declared.token.TokenKind.TheVariants as kinds
use Rattle.nx_scan.specs.Tag.{left_of, later}
use Rattle.nx_scan.specs.declared.tag.TagState.{TagState}
use Rattle.nx_scan.specs.declared.tag.TagState.TheVariants as seen
use Rattle.nx_scan.proofs.BadEnds.{bad_rest-less, bad_rest-greater, bad_rest-further, bad_rest-nil}
use Rattle.nx_scan.proofs.Every.{cut-fits}
use Rattle.nx_scan.proofs.Fitting.{FitsIn, bad_rest-border}
use Rattle.nx_scan.proofs.Marks.{byte-here, here-within}
use Rattle.nx_scan.proofs.SameTags.{same-first}
use Rattle.nx_scan.proofs.Stable.{begins-same}
use Rattle.nx_scan.proofs.TagEnds.{IsOpen, tag-end, begin-tag}
use Rattle.nx_scan.proofs.Themselves.{row-order_mark, row-markup, row-text}
use Rattle.nx_scan.proofs.SameMarkup.{row-tag, same-comment, same-cdata, same-doctype, same-instruction, instruction-long}
use Rattle.nx_scan.proofs.Walking.{Status, is_open, is_whole, is_lost, status, Walk, on, off, walk, tag-never, tag-border}

-- what a Bad token goes on with
bad_rest-own_by : (b : ℕ) (bs : List ℕ) → bad_rest (take (bad_rest bs) bs) ≡ bad_rest bs → bad_rest (take (bad_rest (b ∷ bs)) (b ∷ bs)) ≡ bad_rest (b ∷ bs)
bad_rest-own_by b bs own =
    elim (cases_Bool (b == 60)) [
      | inl e ↦ rw (bad_rest-less b bs e) bad_rest-nil
      | inr e ↦ elim (cases_Bool (b == 62)) [
        | inl f ↦ rw (bad_rest-greater b bs e f) (bad_rest-greater b [] e f)
        | inr f ↦
            (let next : bad_rest (b ∷ bs) ≡ suc (bad_rest bs) = omega (arith, bad_rest-further b bs e f) in
            ap (λ n. bad_rest (take n (b ∷ bs))) next ∙ bad_rest-further b (take (bad_rest bs) bs) e f
            ∙ ap (λ n. n + 1) own ∙ sym (bad_rest-further b bs e f))
      ]
    ]

bad_rest-own : (bs : List ℕ) → bad_rest (take (bad_rest bs) bs) ≡ bad_rest bs
bad_rest-own [] = ap bad_rest (take-nil (bad_rest []))
bad_rest-own (b ∷ bs) = bad_rest-own_by b bs (bad_rest-own bs)

-- character data
up_to-own : (byte : ℕ) (bs : List ℕ) → bytes_up_to byte (take (bytes_up_to byte bs) bs) ≡ bytes_up_to byte bs
unfolding bytes_up_to
up_to-own byte [] = refl
up_to-own byte (b ∷ bs) =
    elim (cases_Bool (b == byte)) [
      | inl e ↦ rw e refl
      | inr e ↦
          (let next : bytes_up_to byte (b ∷ bs) ≡ suc (bytes_up_to byte bs) = rw e (omega arith) in
          ap (λ n. bytes_up_to byte (take n (b ∷ bs))) next ∙ rw e (ap (λ n. n + 1) (up_to-own byte bs)))
    ]

-- a mark of the first bytes is a mark of all
begins-longer : (mark : List ℕ) (n : ℕ) (bs : List ℕ) → begins_with mark (take n bs) ≡ true → begins_with mark bs ≡ true
unfolding begins_with
begins-longer [] n bs h = refl
begins-longer (m ∷ mark) zero bs h = cc
begins-longer (m ∷ mark) (suc n) [] h = h
begins-longer (m ∷ mark) (suc n) (b ∷ bs) h =
    let parts = and_parts (b == m) (begins_with mark (take n bs)) h in
    and_from (b == m) (begins_with mark bs) parts.0 (begins-longer mark n bs parts.1)

begins-not : (mark : List ℕ) (n : ℕ) (bs : List ℕ) → begins_with mark bs ≡ false → begins_with mark (take n bs) ≡ false
begins-not mark n bs h =
    elim (cases_Bool (begins_with mark (take n bs))) [ inl e ↦ absurd (true≢false (sym (begins-longer mark n bs e) ∙ h)) | inr e ↦ e ]

-- the first bytes behind some
take-behind : (xs ys : List ℕ) (n : ℕ) → take (length xs + n) (xs ++ ys) ≡ xs ++ take n ys
take-behind [] ys n = ap (λ k. take k ys) (let e : 0 + n ≡ n = omega arith in e)
take-behind (x ∷ xs) ys n =
    ap (λ k. take k (x ∷ (xs ++ ys))) (let e : suc (length xs) + n ≡ suc (length xs + n) = omega arith in e) ∙ ap (λ zs. x ∷ zs) (take-behind xs ys n)

-- a tag, or what stands in its place
abbrev own : TagState → List ℕ → Type 0
own read bs = tag (left_of read) (take (tag (left_of read) bs).len bs) ≡ tag (left_of read) bs

lost-own : (bs : List ℕ) → own seen.Lost bs
lost-own bs =
    let len : (tag (left_of seen.Lost) bs).len ≡ bad_rest bs = ap (λ (t : Cut). t.len) (tag-never bs) in
    ap (λ n. tag (left_of seen.Lost) (take n bs)) len ∙ tag-never (take (bad_rest bs) bs)
    ∙ ap (cut_as kinds.Bad) (bad_rest-own bs) ∙ sym (tag-never bs)

own-by : (bs : List ℕ) (read : TagState) → (IsOpen read → own read bs) → Status read → own read bs
own-by bs read further (is_open o) = further o
own-by bs read further (is_whole kind w) = w.cut (take (tag (left_of read) bs).len bs) ∙ sym (w.cut bs)
own-by bs seen.Lost further is_lost = lost-own bs

module _ (c : ℕ) (cs : List ℕ) (u : scalars (c ∷ cs) ≡ true) where
  text_utf8 : IsUtf8 (encode c ++ encodes cs)
  text_utf8 = (c ∷ cs, (u, refl))

  off-own : (read : TagState) → IsOpen read →
      ((more : List ℕ) → IsUtf8 (encode c ++ more) → tag (left_of read) (encode c ++ more) ≡ cut_as kinds.Bad (bad_rest (encode c ++ more))) →
      own read (encode c ++ encodes cs)
  off-own read o is =
      let n = bad_rest (encode c ++ encodes cs) in
      let here = is (encodes cs) text_utf8 in
      let len : (tag (left_of read) (encode c ++ encodes cs)).len ≡ n = ap (λ (t : Cut). t.len) here in
      let border : IsCharBoundary (encode c ++ encodes cs) n = bad_rest-border (encode c ++ encodes cs) text_utf8 in
      ap (λ k. tag (left_of read) (take k (encode c ++ encodes cs))) len
      ∙ elim (cases_lt 0 n) [
        | inl some ↦
            (let other_utf8 : IsUtf8 (take n (encode c ++ encodes cs)) = IsUtf8-take (encode c ++ encodes cs) n text_utf8 border in
            let first = same-first c (encodes cs) (take n (encode c ++ encodes cs)) n text_utf8 other_utf8 some border
            (take-take n n (encode c ++ encodes cs) (omega arith)) in
            ap (tag (left_of read)) first.spelled
            ∙ is first.rest (subst (λ xs. IsUtf8 xs) first.spelled other_utf8)
            ∙ ap (λ xs. cut_as kinds.Bad (bad_rest xs)) (sym first.spelled)
            ∙ ap (cut_as kinds.Bad) (bad_rest-own (encode c ++ encodes cs)) ∙ sym here)
        | inr none ↦
            (let zeros : n ≡ 0 = omega arith in
            ap (λ k. tag (left_of read) (take k (encode c ++ encodes cs))) zeros ∙ tag-end (left_of read) o.part
            ∙ ap (cut_as kinds.Bad) (bad_rest-nil ∙ sym zeros) ∙ sym here)
      ]

  walked-own : (read : TagState) → IsOpen read → ((behind : TagState) → own behind (encodes cs)) → Walk read c → own read (encode c ++ encodes cs)
  walked-own read o further (off is) = off-own read o is
  walked-own read o further (on behind is) =
      let n = (tag (left_of behind) (encodes cs)).len in
      let cs_utf8 : IsUtf8 (encodes cs) = (cs, ((and_parts (scalar c) (scalars cs) u).1, refl)) in
      let first_utf8 : IsUtf8 (encode c ++ take n (encodes cs)) =
      (let rest = IsUtf8-take (encodes cs) n cs_utf8 (tag-border cs behind (and_parts (scalar c) (scalars cs) u).1) in
      (c ∷ rest.0, (and_from (scalar c) (scalars rest.0) (and_parts (scalar c) (scalars cs) u).0 rest.1.0, ap (λ xs. encode c ++ xs) rest.1.1))) in
      let here : tag (left_of read) (encode c ++ encodes cs) ≡ later (length (encode c)) (tag (left_of behind) (encodes cs)) = is (encodes cs) text_utf8 in
      let len : (tag (left_of read) (encode c ++ encodes cs)).len ≡ length (encode c) + n = ap (λ (t : Cut). t.len) here in
      ap (λ k. tag (left_of read) (take k (encode c ++ encodes cs))) len
      ∙ ap (tag (left_of read)) (take-behind (encode c) (encodes cs) n)
      ∙ is (take n (encodes cs)) first_utf8 ∙ ap (later (length (encode c))) (further behind) ∙ sym here

tag-own : (cs : List ℕ) (read : TagState) → scalars cs ≡ true → own read (encodes cs)
tag-own [] read u =
    own-by [] read (λ o. ap (tag (left_of read)) (take-nil (tag (left_of read) []).len)) (status read)
tag-own (c ∷ cs) read u =
    own-by (encode c ++ encodes cs) read
    (λ o. walked-own c cs u read o (λ behind. tag-own cs behind (and_parts (scalar c) (scalars cs) u).1) (walk read c o))
    (status read)

tags-own : (bs : List ℕ) → IsUtf8 bs → begins_with (codes "<") bs ≡ true → FitsIn bs (tag tags bs).len → tag tags (take (tag tags bs).len bs) ≡ tag tags bs
tags-own bs utf8 less fits =
    let n = (tag tags bs).len in
    let some = fits.some in
    let other_utf8 : IsUtf8 (take n bs) = IsUtf8-take bs n utf8 fits.border in
    let other_less : begins_with (codes "<") (take n bs) ≡ true =
    begins-same (codes "<") bs (take n bs) n (omega arith) (take-take n n bs (omega arith)) ∙ less in
    let within : 0 < length bs = here-within (codes "<") bs 0 (omega arith) less in
    let byte : get_or bs 0 0 ≡ 60 = byte-here 60 bs 0 less in
    let here : tag tags bs ≡ later 1 (tag (left_of seen.Open) (drop 1 bs)) = begin-tag bs 0 utf8 within byte in
    let there : tag tags (take n bs) ≡ later 1 (tag (left_of seen.Open) (drop 1 (take n bs))) =
    begin-tag (take n bs) 0 other_utf8 (here-within (codes "<") (take n bs) 0 (omega arith) other_less) (byte-here 60 (take n bs) 0 other_less) in
    let behind_utf8 : IsUtf8 (drop 1 bs) = IsUtf8-drop bs 1 utf8 (IsCharBoundary-after_ascii bs 0 utf8 within (omega (arith, byte))) in
    let len : n ≡ 1 + (tag (left_of seen.Open) (drop 1 bs)).len = ap (λ (t : Cut). t.len) here in
    let left : drop 1 (take n bs) ≡ take (tag (left_of seen.Open) (drop 1 bs)).len (drop 1 bs) =
    ap (λ k. drop 1 (take k bs)) len ∙ drop-take 1 (tag (left_of seen.Open) (drop 1 bs)).len bs in
    there
    ∙ ap (λ xs. later 1 (tag (left_of seen.Open) xs)) left
    ∙ ap (later 1) (subst (λ xs. own seen.Open xs) behind_utf8.1.1 (tag-own behind_utf8.0 seen.Open behind_utf8.1.0))
    ∙ sym here

-- a token that begins with `<`, in front of something
module _ (bs : List ℕ) (utf8 : IsUtf8 bs) (less : begins_with (codes "<") bs ≡ true) (fits : FitsIn bs (markup bs).len)
    (lt : (markup bs).len < length bs) where
  own_utf8 : IsUtf8 (take (markup bs).len bs)
  own_utf8 = IsUtf8-take bs (markup bs).len utf8 fits.border

  own_same : take (markup bs).len (take (markup bs).len bs) ≡ take (markup bs).len bs
  own_same = take-take (markup bs).len (markup bs).len bs (omega arith)

  tag-markup-own : begins_with (codes "<!--") bs ≡ false → begins_with (codes "<![CDATA[") bs ≡ false → begins_with (codes "<!DOCTYPE") bs ≡ false →
      begins_with (codes "<?") bs ≡ false → markup (take (markup bs).len bs) ≡ markup bs
  tag-markup-own a b d e =
      let row = row-tag bs a b d e in
      let n = (markup bs).len in
      let len : n ≡ (tag tags bs).len = ap (λ (t : Cut). t.len) row in
      row-tag (take n bs) (begins-not (codes "<!--") n bs a) (begins-not (codes "<![CDATA[") n bs b) (begins-not (codes "<!DOCTYPE") n bs d)
      (begins-not (codes "<?") n bs e)
      ∙ ap (λ k. tag tags (take k bs)) len
      ∙ tags-own bs utf8 less (subst (λ k. FitsIn bs k) len fits) ∙ sym row

  instruction-markup-own : begins_with (codes "<!--") bs ≡ false → begins_with (codes "<![CDATA[") bs ≡ false → begins_with (codes "<!DOCTYPE") bs ≡ false →
      begins_with (codes "<?") bs ≡ true → markup (take (markup bs).len bs) ≡ markup bs
  instruction-markup-own a b d e =
      let n = (markup bs).len in
      let some = fits.some in
      elim (cases_lt 1 n) [
        | inl two ↦ same-instruction bs (take n bs) n utf8 own_utf8 fits.border own_same some less a b d e two lt (omega arith)
        | inr one ↦ absurd (let long = instruction-long bs a b d e lt in omega arith)
      ]

  markup-own : markup (take (markup bs).len bs) ≡ markup bs
  markup-own =
      let n = (markup bs).len in
      elim (cases_Bool (begins_with (codes "<!--") bs)) [
        | inl a ↦ same-comment bs (take n bs) n utf8 own_utf8 fits.border own_same fits.some less a lt (omega arith)
        | inr a ↦ elim (cases_Bool (begins_with (codes "<![CDATA[") bs)) [
          | inl b ↦ same-cdata bs (take n bs) n utf8 own_utf8 fits.border own_same fits.some less a b lt (omega arith)
          | inr b ↦ elim (cases_Bool (begins_with (codes "<!DOCTYPE") bs)) [
            | inl d ↦ same-doctype bs (take n bs) n utf8 own_utf8 fits.border own_same fits.some less a b d lt (omega arith)
            | inr d ↦ elim (cases_Bool (begins_with (codes "<?") bs)) [
              | inl e ↦ instruction-markup-own a b d e
              | inr e ↦ tag-markup-own a b d e
            ]
          ]
        ]
      ]

-- every token
module _ (at_start : Bool) (bs : List ℕ) (utf8 : IsUtf8 bs) (fits : FitsIn bs (first_token at_start bs).len)
    (lt : (first_token at_start bs).len < length bs) where
  order_mark-own : (at_start && begins_with order_mark bs) ≡ true → first_token at_start (take (first_token at_start bs).len bs) ≡ first_token at_start bs
  order_mark-own a =
      let row = row-order_mark at_start bs a in
      let n = (first_token at_start bs).len in
      let len : n ≡ 3 = ap (λ (t : Cut). t.len) row in
      row-order_mark at_start (take n bs)
      (ap (λ t. at_start && t) (begins-same order_mark bs (take n bs) n (omega arith) (take-take n n bs (omega arith))) ∙ a) ∙ sym row

  not_marked : (at_start && begins_with order_mark bs) ≡ false → (at_start && begins_with order_mark (take (first_token at_start bs).len bs)) ≡ false
  not_marked a = elim (cases_Bool (at_start && begins_with order_mark (take (first_token at_start bs).len bs))) [
    | inl e ↦
        (let parts = and_parts at_start (begins_with order_mark (take (first_token at_start bs).len bs)) e in
        absurd (true≢false
        (sym (and_from at_start (begins_with order_mark bs) parts.0 (begins-longer order_mark (first_token at_start bs).len bs parts.1)) ∙ a)))
    | inr e ↦ e
  ]

  markup-first-own : (at_start && begins_with order_mark bs) ≡ false → begins_with (codes "<") bs ≡ true →
      first_token at_start (take (first_token at_start bs).len bs) ≡ first_token at_start bs
  markup-first-own a b =
      let row = row-markup at_start bs a b in
      let n = (first_token at_start bs).len in
      let len : n ≡ (markup bs).len = ap (λ (t : Cut). t.len) row in
      let some = fits.some in
      row-markup at_start (take n bs) (not_marked a) (begins-same (codes "<") bs (take n bs) n (omega arith) (take-take n n bs (omega arith)) ∙ b)
      ∙ ap (λ k. markup (take k bs)) len
      ∙ markup-own bs utf8 b (subst (λ k. FitsIn bs k) len fits) (omega arith) ∙ sym row

  text-first-own : (at_start && begins_with order_mark bs) ≡ false → begins_with (codes "<") bs ≡ false →
      first_token at_start (take (first_token at_start bs).len bs) ≡ first_token at_start bs
  text-first-own a b =
      let row = row-text at_start bs a b in
      let n = (first_token at_start bs).len in
      let len : n ≡ bytes_up_to 60 bs = ap (λ (t : Cut). t.len) row in
      row-text at_start (take n bs) (not_marked a) (begins-not (codes "<") n bs b)
      ∙ ap (λ k. cut_as kinds.Text (bytes_up_to 60 (take k bs))) len
      ∙ ap (cut_as kinds.Text) (up_to-own 60 bs) ∙ sym row

  first_token-own : first_token at_start (take (first_token at_start bs).len bs) ≡ first_token at_start bs
  first_token-own =
      elim (cases_Bool (at_start && begins_with order_mark bs)) [
        | inl a ↦ order_mark-own a
        | inr a ↦ elim (cases_Bool (begins_with (codes "<") bs)) [ inl b ↦ markup-first-own a b | inr b ↦ text-first-own a b ]
      ]

pub cut-own : (text : List ℕ) (at : ℕ) → IsUtf8 text → IsPlace text at → at < length text → IsOfKind (cut text at)
unfolding cut
cut-own text at utf8 place within =
    let found = first_token (at == 0) (drop at text) in
    let fits = cut-fits text at utf8 place within in
    let rest_utf8 : IsUtf8 (drop at text) = IsUtf8-drop text at utf8 place in
    let len : length (take found.len (drop at text)) ≡ found.len = length-take-le found.len (drop at text) fits.border.0 in
    let same : first_token (at == 0) (take found.len (drop at text)) ≡ found =
    elim (cases_lt found.len (length (drop at text))) [
      | inl lt ↦ first_token-own (at == 0) (drop at text) rest_utf8 fits lt
      | inr whole ↦ ap (first_token (at == 0)) (take_all found.len (drop at text) whole)
    ] in
    same ∙ ap (cut_as found.kind) (sym len)
