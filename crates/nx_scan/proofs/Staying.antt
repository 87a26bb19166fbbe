-- A token that has an end of its own stays where markup is put behind it.
use Rattle.std.proofs.Common.{◌≡◌, ℕ, zero, suc, ◌+◌, ◌-◌, ◌<◌, ◌≤◌, Bool, true, false, ◌⊎◌, inl, inr, List, [], ◌∷◌, ◌++◌, length, take, drop, get_or, refl, sym, ◌∙◌, ap, subst, arith, codes, length-take, length-drop}
use Rattle.std.specs.Prelude.{◌==◌, ◌&&◌, min, Option, Some, None}
use Rattle.std.specs.Char.{len_utf8}
use Rattle.std.specs.Str.{IsUtf8, IsCharBoundary}
use lib.Utf8.{encode, encodes, scalar, scalars}
use Rattle.std.proofs.lemmas.Bool.{cases_Bool, cases_lt, and_parts, true≢false}
use Rattle.std.proofs.lemmas.List.{drop-drop, take-append-drop, length-take-le}
use Rattle.std.proofs.lemmas.Str.{IsUtf8-drop, IsCharBoundary-after_ascii, length-encode, len_utf8_bounds}
use Rattle.nx_base.specs.Text.{IsPlace}
use Rattle.nx_base.specs.Tokens.{Cut, cut_as, begins_with, bytes_before, bytes_up_to, closed, unclosed, doctype_bytes, doctype, begins_declaration, instruction, bad_rest, tags, tag, markup, order_mark, first_token, cut, end_of}
use Rattle.nx_base.specs.declared.token.TokenKind.{TokenKind}
use Rattle.nx_base.specs.declared.token.TokenKind.TheVariants as kinds
use Rattle.nx_scan.specs.Markup.{IsEnded}
use Rattle.nx_scan.specs.Tag.{left_of, later}
use Rattle.nx_scan.specs.declared.tag.TagState.{TagState}
use Rattle.nx_scan.specs.declared.tag.TagState.TheVariants as seen
use Rattle.nx_scan.proofs.Endings.{closed_by, not_closed, doctype_of, no_doctype}
use Rattle.nx_scan.proofs.Every.{cut-fits, cut-length}
use Rattle.nx_scan.proofs.Fitting.{FitsIn, before-stands}
use Rattle.nx_scan.proofs.Marks.{byte-here, here-within, mark-last, begins_with-fits, begins_with-split}
use Rattle.nx_scan.proofs.SameMarkup.{row-comment, row-cdata, row-doctype, row-instruction, row-declaration, row-other, row-tag, comment-no_cdata, comment-no_doctype, cdata-no_doctype, comment-no_instruction, cdata-no_instruction, doctype-no_instruction, declaration-here, exclamation-lost, behind-less, less-split}
use Rattle.nx_scan.proofs.SameTags.{same-first, border-behind}
use Rattle.nx_scan.proofs.Stable.{begins-same, drop-same, less-same, byte-same, before-same, doctype-same}
use Rattle.nx_scan.proofs.TagEnds.{IsOpen, tag-end, begin-tag}
use Rattle.nx_scan.proofs.Themselves.{row-order_mark, row-markup, row-text, order_mark-same, place-same, token-alike}
use Rattle.nx_scan.proofs.Walking.{Status, is_open, is_whole, is_lost, status, Walk, on, off, walk, tag-never, tag-border}

-- what isn't Unclosed has its mark
closed-found : (kind : TokenKind) (mark rest : List ℕ) (skip : ℕ) → IsEnded (closed kind mark skip rest).kind →
    (n : ℕ) × (bytes_before mark (drop skip rest) ≡ Some n) × ((closed kind mark skip rest).len ≡ skip + n + length mark)
closed-found kind mark rest skip ended = on (bytes_before mark (drop skip rest)) refl
  where
    on : (found : Option ℕ) → bytes_before mark (drop skip rest) ≡ found →
        (n : ℕ) × (bytes_before mark (drop skip rest) ≡ Some n) × ((closed kind mark skip rest).len ≡ skip + n + length mark)
    on None e = absurd (subst (λ (c : Cut). IsEnded c.kind) (not_closed kind mark rest skip e) ended)
    on (Some n) e = (n, e, ap (λ (c : Cut). c.len) (closed_by kind mark rest skip n e))

closed-stays : (kind : TokenKind) (mark text other : List ℕ) (skip m : ℕ) → 0 < length mark → take m other ≡ take m text →
    IsEnded (closed kind mark skip text).kind → (closed kind mark skip text).len ≤ m → closed kind mark skip other ≡ closed kind mark skip text
closed-stays kind mark text other skip m some e ended le =
    let found = closed-found kind mark text skip ended in
    let len = found.2 in
    let there : bytes_before mark (drop skip other) ≡ Some found.0 =
    before-same mark (drop skip text) (drop skip other) found.0 (m - skip) some (drop-same skip m text other (omega arith) e) found.1 (omega arith) in
    closed_by kind mark other skip found.0 there ∙ sym (closed_by kind mark text skip found.0 found.1)

closed-skip : (kind : TokenKind) (mark text : List ℕ) (skip : ℕ) → IsEnded (closed kind mark skip text).kind → skip ≤ (closed kind mark skip text).len
closed-skip kind mark text skip ended = let len = (closed-found kind mark text skip ended).2 in omega arith

closed-stop : (kind : TokenKind) (mark text : List ℕ) (skip : ℕ) → 0 < length mark → get_or mark (length mark - 1) 0 ≡ 62 →
    IsEnded (closed kind mark skip text).kind →
    (0 < (closed kind mark skip text).len) × ((closed kind mark skip text).len ≤ length text) × (get_or text ((closed kind mark skip text).len - 1) 0 ≡ 62)
closed-stop kind mark text skip some last ended =
    let found = closed-found kind mark text skip ended in
    let len = found.2 in
    let stands : begins_with mark (drop (skip + found.0) text) ≡ true =
    ap (begins_with mark) (sym (drop-drop found.0 skip text)) ∙ before-stands mark (drop skip text) found.0 found.1 in
    let fits = begins_with-fits mark (drop (skip + found.0) text) stands in (
      omega arith,
      omega (arith, length-drop (skip + found.0) text),
      ap (λ n. get_or text (n - 1) 0) len ∙ mark-last mark text (skip + found.0) stands some ∙ last,
    )

-- a document type declaration
doctype-found : (rest : List ℕ) → IsEnded (doctype rest).kind → (n : ℕ) × (doctype_bytes false 0 (drop 9 rest) ≡ Some n) × ((doctype rest).len ≡ 9 + n)
doctype-found rest ended = on (doctype_bytes false 0 (drop 9 rest)) refl
  where
    on : (found : Option ℕ) → doctype_bytes false 0 (drop 9 rest) ≡ found → (n : ℕ) × (doctype_bytes false 0 (drop 9 rest) ≡ Some n) × ((doctype rest).len ≡ 9 + n)
    on None e = absurd (subst (λ (c : Cut). IsEnded c.kind) (no_doctype rest e) ended)
    on (Some n) e = (n, e, ap (λ (c : Cut). c.len) (doctype_of rest n e))

doctype-stays : (text other : List ℕ) (m : ℕ) → take m other ≡ take m text → IsEnded (doctype text).kind → (doctype text).len ≤ m → doctype other ≡ doctype text
doctype-stays text other m e ended le =
    let found = doctype-found text ended in
    let len = found.2 in
    doctype_of other found.0 (doctype-same (drop 9 text) false 0 (drop 9 other) found.0 (m - 9) found.1 (omega arith) (drop-same 9 m text other (omega arith) e))
    ∙ sym (doctype_of text found.0 found.1)

-- a processing instruction or a declaration
instruction-stays : (text other : List ℕ) (m : ℕ) → take m other ≡ take m text → IsEnded (instruction text).kind → (instruction text).len ≤ m →
    instruction other ≡ instruction text
instruction-stays text other m same ended le =
    elim (cases_Bool (begins_declaration text)) [
      | inl h ↦ by_row kinds.Decl 6 (row-declaration text h) (λ e. row-declaration other (e ∙ h))
      | inr h ↦ by_row kinds.Pi 2 (row-other text h) (λ e. row-other other (e ∙ h))
    ]
  where
    by_row : (kind : TokenKind) (skip : ℕ) → instruction text ≡ closed kind (codes "?>") skip text →
        (begins_declaration other ≡ begins_declaration text → instruction other ≡ closed kind (codes "?>") skip other) → instruction other ≡ instruction text
    by_row kind skip row other_row =
        let ended_here = subst (λ (c : Cut). IsEnded c.kind) row ended in
        let len : (instruction text).len ≡ (closed kind (codes "?>") skip text).len = ap (λ (c : Cut). c.len) row in
        let stop = closed-stop kind (codes "?>") text skip (omega arith) refl ended_here in
        let far = stop.0 in
        let within = stop.1 in
        other_row (declaration-here text other ((closed kind (codes "?>") skip text).len - 1) m same (omega arith) (omega arith) stop.2)
        ∙ closed-stays kind (codes "?>") text other skip m (omega arith) same ended_here (omega arith) ∙ sym row

instruction-long : (text : List ℕ) → IsEnded (instruction text).kind → 1 < (instruction text).len
instruction-long text ended =
    elim (cases_Bool (begins_declaration text)) [
      | inl h ↦ by_row kinds.Decl 6 (omega arith) (row-declaration text h)
      | inr h ↦ by_row kinds.Pi 2 (omega arith) (row-other text h)
    ]
  where
    by_row : (kind : TokenKind) (skip : ℕ) → 1 < skip → instruction text ≡ closed kind (codes "?>") skip text → 1 < (instruction text).len
    by_row kind skip long row =
        let len : (instruction text).len ≡ (closed kind (codes "?>") skip text).len = ap (λ (c : Cut). c.len) row in
        let far = closed-skip kind (codes "?>") text skip (subst (λ (c : Cut). IsEnded c.kind) row ended) in
        omega arith

-- character data in front of `<`
up_to-here : (other : List ℕ) → begins_with (codes "<") other ≡ true → bytes_up_to 60 other ≡ 0
unfolding bytes_up_to begins_with
up_to-here [] less = cc
up_to-here (b ∷ bs) less = rw (and_parts (b == 60) true less).0 refl

up_to-less : (b : ℕ) (bs : List ℕ) → (b == 60) ≡ true → bytes_up_to 60 (b ∷ bs) ≡ 0
unfolding bytes_up_to
up_to-less b bs h = rw h refl

up_to-further : (b : ℕ) (bs : List ℕ) → (b == 60) ≡ false → bytes_up_to 60 (b ∷ bs) ≡ bytes_up_to 60 bs + 1
unfolding bytes_up_to
up_to-further b bs h = rw h refl

up_to-stays : (text other : List ℕ) (m : ℕ) → m ≡ bytes_up_to 60 text → m ≤ length text → take m other ≡ take m text →
    begins_with (codes "<") (drop m other) ≡ true → bytes_up_to 60 other ≡ m
up_to-stays text other zero is le same less = up_to-here other less
up_to-stays [] other (suc m) is le same less = absurd (omega arith)
up_to-stays (b ∷ bs) [] (suc m) is le same less = let bad : [] ≡ b ∷ take m bs = same in cc
up_to-stays (b ∷ bs) (d ∷ rest) (suc m) is le same less =
    let both : d ∷ take m rest ≡ b ∷ take m bs = same in
    let first : d ≡ b = cc in
    let others : take m rest ≡ take m bs = cc in
    elim (cases_Bool (b == 60)) [
      | inl h ↦ absurd (let none = up_to-less b bs h in omega arith)
      | inr h ↦
          (let next = up_to-further b bs h in
          let here : (d == 60) ≡ false = ap (λ x. x == 60) first ∙ h in
          let there = up_to-stays bs rest m (omega arith) (omega arith) others less in
          let further = up_to-further d rest here in
          omega arith)
    ]

-- a tag that is whole
tag-some : (cs : List ℕ) (read : TagState) → scalars cs ≡ true → IsOpen read → IsEnded (tag (left_of read) (encodes cs)).kind → 0 < (tag (left_of read) (encodes cs)).len
tag-some [] read u o ended = absurd (subst (λ (c : Cut). IsEnded c.kind) (tag-end (left_of read) o.part) ended)
tag-some (c ∷ cs) read u o ended = by (walk read c o)
  where
    utf8 : IsUtf8 (encode c ++ encodes cs)
    utf8 = (c ∷ cs, (u, refl))

    by : Walk read c → 0 < (tag (left_of read) (encode c ++ encodes cs)).len
    by (on behind is) =
        let len : (tag (left_of read) (encode c ++ encodes cs)).len ≡ length (encode c) + (tag (left_of behind) (encodes cs)).len =
        ap (λ (t : Cut). t.len) (is (encodes cs) utf8) in
        let some = (len_utf8_bounds c).0 in
        let bytes = length-encode c in
        omega arith
    by (off is) = absurd (subst (λ (c : Cut). IsEnded c.kind) (is (encodes cs) utf8) ended)

module _ (c : ℕ) (cs : List ℕ) (other : List ℕ) (m : ℕ) (u : scalars (c ∷ cs) ≡ true) (other_utf8 : IsUtf8 other)
    (border : IsCharBoundary (encodes (c ∷ cs)) m) (same : take m other ≡ take m (encodes (c ∷ cs))) where
  walked-stays : (read : TagState) → (tag (left_of read) (encodes (c ∷ cs))).len ≤ m → IsEnded (tag (left_of read) (encodes (c ∷ cs))).kind →
      ((behind : TagState) (rest : List ℕ) (k : ℕ) → IsUtf8 rest → IsCharBoundary (encodes cs) k → take k rest ≡ take k (encodes cs) →
      (tag (left_of behind) (encodes cs)).len ≤ k → IsEnded (tag (left_of behind) (encodes cs)).kind → tag (left_of behind) rest ≡ tag (left_of behind) (encodes cs)) →
      Walk read c → tag (left_of read) other ≡ tag (left_of read) (encodes (c ∷ cs))
  walked-stays read le ended further (on behind is) =
      let utf8 : IsUtf8 (encode c ++ encodes cs) = (c ∷ cs, (u, refl)) in
      let here : tag (left_of read) (encode c ++ encodes cs) ≡ later (length (encode c)) (tag (left_of behind) (encodes cs)) = is (encodes cs) utf8 in
      let len : (tag (left_of read) (encode c ++ encodes cs)).len ≡ length (encode c) + (tag (left_of behind) (encodes cs)).len = ap (λ (t : Cut). t.len) here in
      let some = (len_utf8_bounds c).0 in
      let bytes = length-encode c in
      let first = same-first c (encodes cs) other m utf8 other_utf8 (omega arith) border same in
      let in_first = first.within in
      ap (tag (left_of read)) first.spelled
      ∙ is first.rest (subst (λ xs. IsUtf8 xs) first.spelled other_utf8)
      ∙ ap (later (length (encode c)))
      (further behind first.rest (m - length (encode c)) first.utf8 (border-behind (encode c) (encodes cs) m first.within border) first.same (omega arith)
      (subst (λ (t : Cut). IsEnded t.kind) here ended))
      ∙ sym here
  walked-stays read le ended further (off is) =
      let utf8 : IsUtf8 (encode c ++ encodes cs) = (c ∷ cs, (u, refl)) in
      absurd (subst (λ (t : Cut). IsEnded t.kind) (is (encodes cs) utf8) ended)

tag-stays_by : (cs : List ℕ) (read : TagState) (other : List ℕ) → IsEnded (tag (left_of read) (encodes cs)).kind →
    (IsOpen read → tag (left_of read) other ≡ tag (left_of read) (encodes cs)) → Status read → tag (left_of read) other ≡ tag (left_of read) (encodes cs)
tag-stays_by cs read other ended further (is_open o) = further o
tag-stays_by cs read other ended further (is_whole kind w) = w.cut other ∙ sym (w.cut (encodes cs))
tag-stays_by cs seen.Lost other ended further is_lost = absurd (subst (λ (c : Cut). IsEnded c.kind) (tag-never (encodes cs)) ended)

tag-stays : (cs : List ℕ) (read : TagState) (other : List ℕ) (m : ℕ) → scalars cs ≡ true → IsUtf8 other → IsCharBoundary (encodes cs) m →
    take m other ≡ take m (encodes cs) → (tag (left_of read) (encodes cs)).len ≤ m → IsEnded (tag (left_of read) (encodes cs)).kind →
    tag (left_of read) other ≡ tag (left_of read) (encodes cs)
tag-stays [] read other m u other_utf8 border same le ended =
    tag-stays_by [] read other ended (λ o. absurd (subst (λ (c : Cut). IsEnded c.kind) (tag-end (left_of read) o.part) ended)) (status read)
tag-stays (c ∷ cs) read other m u other_utf8 border same le ended =
    tag-stays_by (c ∷ cs) read other ended
    (λ o. walked-stays c cs other m u other_utf8 border same read le ended
    (λ behind rest k rest_utf8 rest_border rest_same rest_le rest_ended.
    tag-stays cs behind rest k (and_parts (scalar c) (scalars cs) u).1 rest_utf8 rest_border rest_same rest_le rest_ended)
    (walk read c o))
    (status read)

-- markup
open-open : IsOpen seen.Open
unfolding left_of
open-open = record { part = record { end = refl; start = refl; empty = refl }; possible = refl }

module _ (text other : List ℕ) (m : ℕ) (utf8 : IsUtf8 text) (other_utf8 : IsUtf8 other) (border : IsCharBoundary text m)
    (same : take m other ≡ take m text) (less : begins_with (codes "<") text ≡ true) (long : 0 < m) (le : (markup text).len ≤ m) (ended : IsEnded (markup text).kind) where
  other_less : begins_with (codes "<") other ≡ true
  other_less = begins-same (codes "<") text other m (omega arith) same ∙ less

  closed-row : (kind : TokenKind) (mark begun : List ℕ) (skip : ℕ) → length begun ≤ skip → 0 < length mark → markup text ≡ closed kind mark skip text → begins_with begun text ≡ true →
      (begins_with begun other ≡ true → markup other ≡ closed kind mark skip other) → markup other ≡ markup text
  closed-row kind mark begun skip short some row there other_row =
      let len : (markup text).len ≡ (closed kind mark skip text).len = ap (λ (c : Cut). c.len) row in
      let ended_here = subst (λ (c : Cut). IsEnded c.kind) row ended in
      let far = closed-skip kind mark text skip ended_here in
      other_row (begins-same begun text other m (omega arith) same ∙ there)
      ∙ closed-stays kind mark text other skip m some same ended_here (omega arith) ∙ sym row

  doctype-row : begins_with (codes "<!--") text ≡ false → begins_with (codes "<![CDATA[") text ≡ false → begins_with (codes "<!DOCTYPE") text ≡ true → markup other ≡ markup text
  doctype-row a b d =
      let row = row-doctype text a b d in
      let len : (markup text).len ≡ (doctype text).len = ap (λ (c : Cut). c.len) row in
      let ended_here = subst (λ (c : Cut). IsEnded c.kind) row ended in
      let far = (doctype-found text ended_here).2 in
      let there : begins_with (codes "<!DOCTYPE") other ≡ true = begins-same (codes "<!DOCTYPE") text other m (omega arith) same ∙ d in
      row-doctype other (comment-no_doctype other there) (cdata-no_doctype other there) there
      ∙ doctype-stays text other m same ended_here (omega arith) ∙ sym row

  instruction-row : begins_with (codes "<!--") text ≡ false → begins_with (codes "<![CDATA[") text ≡ false → begins_with (codes "<!DOCTYPE") text ≡ false →
      begins_with (codes "<?") text ≡ true → markup other ≡ markup text
  instruction-row a b d e =
      let row = row-instruction text a b d e in
      let len : (markup text).len ≡ (instruction text).len = ap (λ (c : Cut). c.len) row in
      let ended_here = subst (λ (c : Cut). IsEnded c.kind) row ended in
      let far = instruction-long text ended_here in
      let there : begins_with (codes "<?") other ≡ true = begins-same (codes "<?") text other m (omega arith) same ∙ e in
      row-instruction other (comment-no_instruction other there) (cdata-no_instruction other there) (doctype-no_instruction other there) there
      ∙ instruction-stays text other m same ended_here (omega arith) ∙ sym row

  begun : tag tags text ≡ later 1 (tag (left_of seen.Open) (drop 1 text))
  begun = begin-tag text 0 utf8 (here-within (codes "<") text 0 (omega arith) less) (byte-here 60 text 0 less)

  other_begun : tag tags other ≡ later 1 (tag (left_of seen.Open) (drop 1 other))
  other_begun = begin-tag other 0 other_utf8 (here-within (codes "<") other 0 (omega arith) other_less) (byte-here 60 other 0 other_less)

  utf8_behind : IsUtf8 (drop 1 text)
  utf8_behind =
      IsUtf8-drop text 1 utf8
      (IsCharBoundary-after_ascii text 0 utf8 (here-within (codes "<") text 0 (omega arith) less) (omega (arith, byte-here 60 text 0 less)))

  other_utf8_behind : IsUtf8 (drop 1 other)
  other_utf8_behind =
      IsUtf8-drop other 1 other_utf8
      (IsCharBoundary-after_ascii other 0 other_utf8 (here-within (codes "<") other 0 (omega arith) other_less) (omega (arith, byte-here 60 other 0 other_less)))

  border_behind : IsCharBoundary (drop 1 text) (m - 1)
  border_behind = border-behind (60 ∷ []) (drop 1 text) m (omega arith) (subst (λ xs. IsCharBoundary xs m) (less-split text less) border)

  same_behind : take (m - 1) (drop 1 other) ≡ take (m - 1) (drop 1 text)
  same_behind = drop-same 1 m text other (omega arith) same

  tag-row : begins_with (codes "<!--") text ≡ false → begins_with (codes "<![CDATA[") text ≡ false → begins_with (codes "<!DOCTYPE") text ≡ false →
      begins_with (codes "<?") text ≡ false → markup other ≡ markup text
  tag-row a b d e =
      let row = row-tag text a b d e in
      let here : markup text ≡ later 1 (tag (left_of seen.Open) (drop 1 text)) = row ∙ begun in
      let len : (markup text).len ≡ 1 + (tag (left_of seen.Open) (drop 1 text)).len = ap (λ (c : Cut). c.len) here in
      let ended_here : IsEnded (tag (left_of seen.Open) (drop 1 text)).kind = subst (λ (c : Cut). IsEnded c.kind) here ended in
      let spelled : encodes utf8_behind.0 ≡ drop 1 text = utf8_behind.1.1 in
      let some : 0 < (tag (left_of seen.Open) (drop 1 text)).len =
      subst (λ xs. 0 < (tag (left_of seen.Open) xs).len) spelled
      (tag-some utf8_behind.0 seen.Open utf8_behind.1.0 open-open (subst (λ xs. IsEnded (tag (left_of seen.Open) xs).kind) (sym spelled) ended_here)) in
      let no_mark : begins_with (codes "!") (drop 1 other) ≡ false =
      begins-same (codes "!") (drop 1 text) (drop 1 other) (m - 1) (omega arith) same_behind ∙ not_lost ended_here in
      let further : tag (left_of seen.Open) (drop 1 other) ≡ tag (left_of seen.Open) (encodes utf8_behind.0) =
      tag-stays utf8_behind.0 seen.Open (drop 1 other) (m - 1) utf8_behind.1.0 other_utf8_behind
      (subst (λ xs. IsCharBoundary xs (m - 1)) (sym spelled) border_behind) (same_behind ∙ ap (take (m - 1)) (sym spelled))
      (subst (λ xs. (tag (left_of seen.Open) xs).len ≤ m - 1) (sym spelled) (omega arith))
      (subst (λ xs. IsEnded (tag (left_of seen.Open) xs).kind) (sym spelled) ended_here) in
      row-tag other (not_marked (codes "--") no_mark) (not_marked (codes "[CDATA[") no_mark) (not_marked (codes "DOCTYPE") no_mark)
      (begins-same (codes "<?") text other m (omega arith) same ∙ e)
      ∙ other_begun ∙ ap (later 1) (further ∙ ap (tag (left_of seen.Open)) spelled) ∙ sym here
    where
      not_lost : IsEnded (tag (left_of seen.Open) (drop 1 text)).kind → begins_with (codes "!") (drop 1 text) ≡ false
      not_lost k = elim (cases_Bool (begins_with (codes "!") (drop 1 text))) [
        | inl is ↦ absurd (subst (λ (c : Cut). IsEnded c.kind) (exclamation-lost (drop 1 text) utf8_behind is) k)
        | inr is ↦ is
      ]

      not_marked : (tail : List ℕ) → begins_with (codes "!") (drop 1 other) ≡ false → begins_with (60 ∷ 33 ∷ tail) other ≡ false
      not_marked tail h =
          behind-less (33 ∷ tail) other other_less ∙ begins_with-split 33 tail (drop 1 other) ∙ ap (λ b. b && begins_with tail (drop 1 (drop 1 other))) h

  markup-stays : markup other ≡ markup text
  markup-stays =
      elim (cases_Bool (begins_with (codes "<!--") text)) [
        | inl a ↦ closed-row kinds.Comment (codes "-->") (codes "<!--") 4 (omega arith) (omega arith) (row-comment text a) a (row-comment other)
        | inr a ↦ elim (cases_Bool (begins_with (codes "<![CDATA[") text)) [
          | inl b ↦ closed-row kinds.Cdata (codes "]]>") (codes "<![CDATA[") 9 (omega arith) (omega arith) (row-cdata text a b) b (λ h. row-cdata other (comment-no_cdata other h) h)
          | inr b ↦ elim (cases_Bool (begins_with (codes "<!DOCTYPE") text)) [
            | inl d ↦ doctype-row a b d
            | inr d ↦ elim (cases_Bool (begins_with (codes "<?") text)) [ inl e ↦ instruction-row a b d e | inr e ↦ tag-row a b d e ]
          ]
        ]
      ]

-- every token
first_token-stays : (at_start : Bool) (text other : List ℕ) (m : ℕ) → IsUtf8 text → IsUtf8 other → IsCharBoundary text m → take m other ≡ take m text →
    m ≡ (first_token at_start text).len → 0 < m → IsEnded (first_token at_start text).kind → begins_with (codes "<") (drop m other) ≡ true →
    first_token at_start other ≡ first_token at_start text
first_token-stays at_start text other m utf8 other_utf8 border same is some ended less =
    elim (cases_Bool (at_start && begins_with order_mark text)) [
      | inl a ↦
          (let row = row-order_mark at_start text a in
          let len : (first_token at_start text).len ≡ 3 = ap (λ (c : Cut). c.len) row in
          row-order_mark at_start other (ap (λ b. at_start && b) (begins-same order_mark text other m (omega arith) same) ∙ a) ∙ sym row)
      | inr a ↦
          (let other_a = order_mark-same at_start text other m utf8 other_utf8 border same some a in
          elim (cases_Bool (begins_with (codes "<") text)) [
            | inl b ↦
                (let row = row-markup at_start text a b in
                let len : (first_token at_start text).len ≡ (markup text).len = ap (λ (c : Cut). c.len) row in
                row-markup at_start other other_a (begins-same (codes "<") text other m (omega arith) same ∙ b)
                ∙ markup-stays text other m utf8 other_utf8 border same b some (omega arith) (subst (λ (c : Cut). IsEnded c.kind) row ended) ∙ sym row)
            | inr b ↦
                (let row = row-text at_start text a b in
                let len : (first_token at_start text).len ≡ bytes_up_to 60 text = ap (λ (c : Cut). c.len) row in
                let here : m ≡ bytes_up_to 60 text = omega arith in
                row-text at_start other other_a (begins-same (codes "<") text other m (omega arith) same ∙ b)
                ∙ ap (cut_as kinds.Text) (up_to-stays text other m here border.0 same less ∙ here) ∙ sym row)
          ])
    ]

pub cut-stays : (text other : List ℕ) (at : ℕ) → IsUtf8 text → IsUtf8 other → IsPlace text at → at < length text → IsEnded (cut text at).kind →
    take (end_of (cut text at)) other ≡ take (end_of (cut text at)) text → begins_with (codes "<") (drop (end_of (cut text at)) other) ≡ true →
    cut other at ≡ cut text at
unfolding cut
cut-stays text other at utf8 other_utf8 place within ended same less =
    let found = first_token (at == 0) (drop at text) in
    let fits = cut-fits text at utf8 place within in
    let len = cut-length text at utf8 place within in
    let some = fits.some in
    let inside = fits.border.0 in
    let rest = length-drop at text in
    let end : end_of (cut text at) ≡ at + found.len = omega arith in
    let known : take (at + found.len) other ≡ take (at + found.len) text = subst (λ n. take n other ≡ take n text) end same in
    let same_behind : take (at + found.len - at) (drop at other) ≡ take (at + found.len - at) (drop at text) = drop-same at (at + found.len) text other (omega arith) known in
    let bytes : take found.len (drop at other) ≡ take found.len (drop at text) =
    subst (λ n. take n (drop at other) ≡ take n (drop at text)) (let e : at + found.len - at ≡ found.len = omega arith in e) same_behind in
    let other_place : IsPlace other at = place-same text other at (at + found.len) place (omega arith) (omega arith) known in
    let less_behind : begins_with (codes "<") (drop found.len (drop at other)) ≡ true =
    ap (begins_with (codes "<")) (drop-drop found.len at other ∙ ap (λ n. drop n other) (sym end)) ∙ less in
    let tokens : first_token (at == 0) (drop at other) ≡ found =
    first_token-stays (at == 0) (drop at text) (drop at other) found.len (IsUtf8-drop text at utf8 place) (IsUtf8-drop other at other_utf8 other_place)
    fits.border bytes refl some ended less_behind in
    token-alike at (first_token (at == 0) (drop at other)) found (drop at other) (drop at text) tokens bytes
