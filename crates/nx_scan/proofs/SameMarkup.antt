-- A token of markup depends on its own bytes and the next character alone.
use Rattle.std.proofs.Common.{◌≡◌, ℕ, suc, ◌+◌, ◌-◌, ◌<◌, ◌≤◌, true, false, inl, inr, List, [], ◌∷◌, ◌++◌, length, take, drop, get_or, refl, sym, ◌∙◌, ap, subst, arith, codes}
use Rattle.std.specs.Prelude.{◌==◌, ◌&&◌, not}
use Rattle.std.specs.Str.{IsUtf8, IsCharBoundary, chars}
use lib.Utf8.{encode, encodes}
use Rattle.std.proofs.lemmas.Bool.{cases_Bool, cases_lt, and_from}
use Rattle.std.proofs.lemmas.Str.{IsUtf8-drop, IsCharBoundary-after_ascii, chars_past_char, encode_ascii}
use Rattle.nx_base.specs.Characters.{is_space, is_name_start}
use Rattle.nx_base.specs.Tokens.{Cut, cut_as, begins_with, closed, doctype, begins_declaration, instruction, bad_rest, tags, tag, markup}
use Rattle.nx_base.specs.declared.token.TokenKind.{TokenKind}
use Rattle.nx_base.specs.declared.token.TokenKind.TheVariants as kinds
use Rattle.nx_scan.specs.Tag.{left_of, left_after, later}
use Rattle.nx_scan.specs.declared.tag.TagState.TheVariants as seen
use Rattle.nx_scan.proofs.Marks.{begins_with-split, mark_reads, byte-here, here-within}
use Rattle.nx_scan.proofs.Rows.{behind_mark}
use Rattle.nx_scan.proofs.SameTags.{border-behind, tag-same}
use Rattle.nx_scan.proofs.Stable.{begins-same, begins-stop, has_none, not-read, byte-same, drop-same, less-same, bad_rest-stop, closed-same, closed-skip, closed-stop, doctypes-same, doctype-skip}
use Rattle.nx_scan.proofs.TagEnds.{begin-tag, tag-lost, lost_left, open-part}

-- `<` and then something
pub less-split : (text : List ℕ) → begins_with (codes "<") text ≡ true → text ≡ 60 ∷ drop 1 text
less-split text h = behind_mark (codes "<") text h

-- `!` begins no tag
exclamation_reads : left_of seen.Lost ≡ left_after (left_of seen.Open) 33
unfolding left_of left_after is_name_start
exclamation_reads = refl

pub exclamation-lost : (text : List ℕ) → IsUtf8 text → begins_with (codes "!") text ≡ true → tag (left_of seen.Open) text ≡ cut_as kinds.Bad (bad_rest text)
exclamation-lost text utf8 h =
    let split : text ≡ encode 33 ++ drop 1 text =
    behind_mark (codes "!") text h ∙ ap (λ xs. xs ++ drop 1 text) (sym (encode_ascii 33 (omega arith))) in
    let characters : chars text ≡ 33 ∷ chars (drop 1 text) = chars_past_char text (drop 1 text) 33 utf8 split in
    tag-lost (left_of seen.Open) 33 text (chars (drop 1 text)) open-part (sym exclamation_reads ∙ lost_left) characters

-- a mark that begins with `!`
none-mark : (byte : ℕ) (tail : List ℕ) → not (byte == 33) ≡ true → has_none byte tail ≡ true → has_none byte (33 ∷ tail) ≡ true
none-mark byte tail a b = and_from (not (byte == 33)) (has_none byte tail) a b

-- a mark behind `<`
pub behind-less : (mark text : List ℕ) → begins_with (codes "<") text ≡ true → begins_with (60 ∷ mark) text ≡ begins_with mark (drop 1 text)
behind-less mark text less = begins_with-split 60 mark text ∙ ap (λ b. b && begins_with mark (drop 1 text)) less

-- marks that exclude one another
pub comment-no_cdata : (text : List ℕ) → begins_with (codes "<![CDATA[") text ≡ true → begins_with (codes "<!--") text ≡ false
unfolding begins_with
comment-no_cdata text h = ap (begins_with (codes "<!--")) (behind_mark (codes "<![CDATA[") text h)

pub comment-no_doctype : (text : List ℕ) → begins_with (codes "<!DOCTYPE") text ≡ true → begins_with (codes "<!--") text ≡ false
unfolding begins_with
comment-no_doctype text h = ap (begins_with (codes "<!--")) (behind_mark (codes "<!DOCTYPE") text h)

pub cdata-no_doctype : (text : List ℕ) → begins_with (codes "<!DOCTYPE") text ≡ true → begins_with (codes "<![CDATA[") text ≡ false
unfolding begins_with
cdata-no_doctype text h = ap (begins_with (codes "<![CDATA[")) (behind_mark (codes "<!DOCTYPE") text h)

pub comment-no_instruction : (text : List ℕ) → begins_with (codes "<?") text ≡ true → begins_with (codes "<!--") text ≡ false
unfolding begins_with
comment-no_instruction text h = ap (begins_with (codes "<!--")) (behind_mark (codes "<?") text h)

pub cdata-no_instruction : (text : List ℕ) → begins_with (codes "<?") text ≡ true → begins_with (codes "<![CDATA[") text ≡ false
unfolding begins_with
cdata-no_instruction text h = ap (begins_with (codes "<![CDATA[")) (behind_mark (codes "<?") text h)

pub doctype-no_instruction : (text : List ℕ) → begins_with (codes "<?") text ≡ true → begins_with (codes "<!DOCTYPE") text ≡ false
unfolding begins_with
doctype-no_instruction text h = ap (begins_with (codes "<!DOCTYPE")) (behind_mark (codes "<?") text h)

-- the rows of markup
pub row-comment : (text : List ℕ) → begins_with (codes "<!--") text ≡ true → markup text ≡ closed kinds.Comment (codes "-->") 4 text
unfolding markup
row-comment text a = rw a refl

pub row-cdata : (text : List ℕ) → begins_with (codes "<!--") text ≡ false → begins_with (codes "<![CDATA[") text ≡ true → markup text ≡ closed kinds.Cdata (codes "]]>") 9 text
unfolding markup
row-cdata text a b = rw (a, b) refl

pub row-doctype : (text : List ℕ) → begins_with (codes "<!--") text ≡ false → begins_with (codes "<![CDATA[") text ≡ false → begins_with (codes "<!DOCTYPE") text ≡ true →
    markup text ≡ doctype text
unfolding markup
row-doctype text a b d = rw (a, b, d) refl

pub row-instruction : (text : List ℕ) → begins_with (codes "<!--") text ≡ false → begins_with (codes "<![CDATA[") text ≡ false → begins_with (codes "<!DOCTYPE") text ≡ false →
    begins_with (codes "<?") text ≡ true → markup text ≡ instruction text
unfolding markup
row-instruction text a b d e = rw (a, b, d, e) refl

pub row-tag : (text : List ℕ) → begins_with (codes "<!--") text ≡ false → begins_with (codes "<![CDATA[") text ≡ false → begins_with (codes "<!DOCTYPE") text ≡ false →
    begins_with (codes "<?") text ≡ false → markup text ≡ tag tags text
unfolding markup
row-tag text a b d e = rw (a, b, d, e) refl

-- the rows of an instruction
pub row-declaration : (text : List ℕ) → begins_declaration text ≡ true → instruction text ≡ closed kinds.Decl (codes "?>") 6 text
unfolding instruction
row-declaration text a = rw a refl

pub row-other : (text : List ℕ) → begins_declaration text ≡ false → instruction text ≡ closed kinds.Pi (codes "?>") 2 text
unfolding instruction
row-other text a = rw a refl

-- a declaration begins in front of a `>`
pub declaration-here : (text other : List ℕ) (n m : ℕ) → take m other ≡ take m text → n < length text → n < m → get_or text n 0 ≡ 62 →
    begins_declaration other ≡ begins_declaration text
unfolding begins_declaration
declaration-here text other n m same lt in_same is =
    let xml : begins_with (codes "<?xml") other ≡ begins_with (codes "<?xml") text =
    begins-stop 62 (codes "<?xml") text other n refl (less-same (suc n) m text other (omega arith) same) lt is in
    elim (cases_Bool (begins_with (codes "<?xml") text)) [
      | inl h ↦
          elim (cases_lt n 5) [
            | inl early ↦ absurd (not-read 62 (codes "<?xml") n refl early (sym (mark_reads (codes "<?xml") text n h early) ∙ is))
            | inr late ↦
                (let space : is_space (get_or other 5 0) ≡ is_space (get_or text 5 0) = ap is_space (byte-same 5 m text other (omega arith) same) in
                ap (λ b. b && is_space (get_or other 5 0)) xml ∙ ap (λ b. begins_with (codes "<?xml") text && b) space)
          ]
      | inr h ↦ rw (xml, h) refl
    ]

-- an instruction has more than one byte
pub instruction-long : (text : List ℕ) → begins_with (codes "<!--") text ≡ false → begins_with (codes "<![CDATA[") text ≡ false →
    begins_with (codes "<!DOCTYPE") text ≡ false → begins_with (codes "<?") text ≡ true → (markup text).len < length text → 1 < (markup text).len
instruction-long text a b d e lt =
    let row = row-instruction text a b d e in
    let len : (markup text).len ≡ (instruction text).len = ap (λ (c : Cut). c.len) row in
    elim (cases_Bool (begins_declaration text)) [
      | inl h ↦
          (let same : (instruction text).len ≡ (closed kinds.Decl (codes "?>") 6 text).len = ap (λ (c : Cut). c.len) (row-declaration text h) in
          let skip = closed-skip kinds.Decl (codes "?>") text 6 (omega arith) in
          omega arith)
      | inr h ↦
          (let same : (instruction text).len ≡ (closed kinds.Pi (codes "?>") 2 text).len = ap (λ (c : Cut). c.len) (row-other text h) in
          let skip = closed-skip kinds.Pi (codes "?>") text 2 (omega arith) in
          omega arith)
    ]

-- two texts that are the same up to a place behind the token
module _ (text other : List ℕ) (m : ℕ) (utf8 : IsUtf8 text) (other_utf8 : IsUtf8 other) (border : IsCharBoundary text m)
    (same : take m other ≡ take m text) (some : 0 < m) where
  within : m ≤ length text
  within = border.0

  mark-same : (mark : List ℕ) → length mark ≤ m → begins_with mark other ≡ begins_with mark text
  mark-same mark le = begins-same mark text other m le same

  -- behind `<`
  module _ (less : begins_with (codes "<") text ≡ true) where
    other_less : begins_with (codes "<") other ≡ true
    other_less = mark-same (codes "<") (omega arith) ∙ less

    same_behind : take (m - 1) (drop 1 other) ≡ take (m - 1) (drop 1 text)
    same_behind = drop-same 1 m text other (omega arith) same

    begun : tag tags text ≡ later 1 (tag (left_of seen.Open) (drop 1 text))
    begun = begin-tag text 0 utf8 (here-within (codes "<") text 0 (omega arith) less) (byte-here 60 text 0 less)

    other_begun : tag tags other ≡ later 1 (tag (left_of seen.Open) (drop 1 other))
    other_begun = begin-tag other 0 other_utf8 (here-within (codes "<") other 0 (omega arith) other_less) (byte-here 60 other 0 other_less)

    utf8_behind : IsUtf8 (drop 1 text)
    utf8_behind =
        IsUtf8-drop text 1 utf8
        (IsCharBoundary-after_ascii text 0 utf8 (here-within (codes "<") text 0 (omega arith) less) (omega (arith, byte-here 60 text 0 less)))

    other_utf8_behind : IsUtf8 (drop 1 other)
    other_utf8_behind =
        IsUtf8-drop other 1 other_utf8
        (IsCharBoundary-after_ascii other 0 other_utf8 (here-within (codes "<") other 0 (omega arith) other_less) (omega (arith, byte-here 60 other 0 other_less)))

    border_behind : IsCharBoundary (drop 1 text) (m - 1)
    border_behind = border-behind (60 ∷ []) (drop 1 text) m (omega arith) (subst (λ xs. IsCharBoundary xs m) (less-split text less) border)

    tags-same : (tag tags text).len < m → tag tags other ≡ tag tags text
    tags-same lt =
        let len : (tag tags text).len ≡ 1 + (tag (left_of seen.Open) (drop 1 text)).len = ap (λ (t : Cut). t.len) begun in
        let spelled : encodes utf8_behind.0 ≡ drop 1 text = utf8_behind.1.1 in
        let further : tag (left_of seen.Open) (drop 1 other) ≡ tag (left_of seen.Open) (encodes utf8_behind.0) =
        tag-same utf8_behind.0 seen.Open (drop 1 other) (m - 1) utf8_behind.1.0 other_utf8_behind
        (subst (λ xs. IsCharBoundary xs (m - 1)) (sym spelled) border_behind) (same_behind ∙ ap (take (m - 1)) (sym spelled))
        (subst (λ xs. (tag (left_of seen.Open) xs).len < m - 1) (sym spelled) (omega arith)) in
        other_begun ∙ ap (later 1) (further ∙ ap (tag (left_of seen.Open)) spelled) ∙ sym begun

    -- where a tag stands or should, no mark with `!` comes behind the place
    no-mark : (tail : List ℕ) → has_none 60 tail ≡ true → has_none 62 tail ≡ true → (tag tags text).len < m →
        begins_with (33 ∷ tail) (drop 1 text) ≡ false → begins_with (33 ∷ tail) (drop 1 other) ≡ false
    no-mark tail none_less none_greater lt not_here =
        let t = drop 1 text in
        let o = drop 1 other in
        let len : (tag tags text).len ≡ 1 + (tag (left_of seen.Open) t).len = ap (λ (c : Cut). c.len) begun in
        elim (cases_Bool (begins_with (codes "!") t)) [
          | inl is ↦
              (let lost : (tag (left_of seen.Open) t).len ≡ bad_rest t = ap (λ (c : Cut). c.len) (exclamation-lost t utf8_behind is) in
              let fits : m - 1 ≤ length t = border_behind.0 in
              elim (bad_rest-stop t (omega arith)) [
                | inl stop ↦
                    begins-stop 62 (33 ∷ tail) t o (bad_rest t - 1) (none-mark 62 tail refl none_greater)
                    (less-same (suc (bad_rest t - 1)) (m - 1) t o (let far = stop.0 in omega arith) same_behind) (omega arith) stop.1
                    ∙ not_here
                | inr stop ↦
                    begins-stop 60 (33 ∷ tail) t o (bad_rest t) (none-mark 60 tail refl none_less)
                    (less-same (suc (bad_rest t)) (m - 1) t o (omega arith) same_behind) (omega arith) stop
                    ∙ not_here
              ])
          | inr not_is ↦
              begins_with-split 33 tail o
              ∙ ap (λ b. b && begins_with tail (drop 1 o)) (begins-same (codes "!") t o (m - 1) (omega arith) same_behind ∙ not_is)
        ]

    pub same-comment : begins_with (codes "<!--") text ≡ true → (markup text).len < length text → (markup text).len ≤ m → markup other ≡ markup text
    same-comment a lt le =
        let row = row-comment text a in
        let len : (markup text).len ≡ (closed kinds.Comment (codes "-->") 4 text).len = ap (λ (c : Cut). c.len) row in
        let skip = closed-skip kinds.Comment (codes "-->") text 4 (omega arith) in
        row-comment other (mark-same (codes "<!--") (omega arith) ∙ a)
        ∙ closed-same kinds.Comment (codes "-->") text other 4 m (omega arith) same (omega arith) (omega arith) ∙ sym row

    pub same-cdata : begins_with (codes "<!--") text ≡ false → begins_with (codes "<![CDATA[") text ≡ true → (markup text).len < length text → (markup text).len ≤ m → markup other ≡ markup text
    same-cdata a b lt le =
        let row = row-cdata text a b in
        let len : (markup text).len ≡ (closed kinds.Cdata (codes "]]>") 9 text).len = ap (λ (c : Cut). c.len) row in
        let skip = closed-skip kinds.Cdata (codes "]]>") text 9 (omega arith) in
        let there : begins_with (codes "<![CDATA[") other ≡ true = mark-same (codes "<![CDATA[") (omega arith) ∙ b in
        row-cdata other (comment-no_cdata other there) there
        ∙ closed-same kinds.Cdata (codes "]]>") text other 9 m (omega arith) same (omega arith) (omega arith) ∙ sym row

    pub same-doctype : begins_with (codes "<!--") text ≡ false → begins_with (codes "<![CDATA[") text ≡ false → begins_with (codes "<!DOCTYPE") text ≡ true →
        (markup text).len < length text → (markup text).len ≤ m → markup other ≡ markup text
    same-doctype a b d lt le =
        let row = row-doctype text a b d in
        let len : (markup text).len ≡ (doctype text).len = ap (λ (c : Cut). c.len) row in
        let skip = doctype-skip text (omega arith) in
        let there : begins_with (codes "<!DOCTYPE") other ≡ true = mark-same (codes "<!DOCTYPE") (omega arith) ∙ d in
        row-doctype other (comment-no_doctype other there) (cdata-no_doctype other there) there ∙ doctypes-same text other m same (omega arith) (omega arith) ∙ sym row

    same-closed : (kind : TokenKind) (skip : ℕ) → (closed kind (codes "?>") skip text).len < length text → (closed kind (codes "?>") skip text).len ≤ m → closed kind (codes "?>") skip other ≡ closed kind (codes "?>") skip text
    same-closed kind skip lt le = closed-same kind (codes "?>") text other skip m (omega arith) same lt le

    instruction-same : (instruction text).len < length text → (instruction text).len ≤ m → instruction other ≡ instruction text
    instruction-same lt le =
        elim (cases_Bool (begins_declaration text)) [
          | inl h ↦
              (let row = row-declaration text h in
              let len : (instruction text).len ≡ (closed kinds.Decl (codes "?>") 6 text).len = ap (λ (c : Cut). c.len) row in
              let stop = closed-stop kinds.Decl (codes "?>") text 6 (omega arith) refl (omega arith) in
              let far = stop.0 in
              row-declaration other
              (declaration-here text other ((closed kinds.Decl (codes "?>") 6 text).len - 1) m same (omega arith) (omega arith) stop.1 ∙ h)
              ∙ same-closed kinds.Decl 6 (omega arith) (omega arith) ∙ sym row)
          | inr h ↦
              (let row = row-other text h in
              let len : (instruction text).len ≡ (closed kinds.Pi (codes "?>") 2 text).len = ap (λ (c : Cut). c.len) row in
              let stop = closed-stop kinds.Pi (codes "?>") text 2 (omega arith) refl (omega arith) in
              let far = stop.0 in
              row-other other
              (declaration-here text other ((closed kinds.Pi (codes "?>") 2 text).len - 1) m same (omega arith) (omega arith) stop.1 ∙ h)
              ∙ same-closed kinds.Pi 2 (omega arith) (omega arith) ∙ sym row)
        ]

    pub same-instruction : begins_with (codes "<!--") text ≡ false → begins_with (codes "<![CDATA[") text ≡ false → begins_with (codes "<!DOCTYPE") text ≡ false →
        begins_with (codes "<?") text ≡ true → 1 < m → (markup text).len < length text → (markup text).len ≤ m → markup other ≡ markup text
    same-instruction a b d e two lt le =
        let row = row-instruction text a b d e in
        let len : (markup text).len ≡ (instruction text).len = ap (λ (c : Cut). c.len) row in
        let there : begins_with (codes "<?") other ≡ true = mark-same (codes "<?") (omega arith) ∙ e in
        row-instruction other (comment-no_instruction other there) (cdata-no_instruction other there) (doctype-no_instruction other there) there
        ∙ instruction-same (omega arith) (omega arith) ∙ sym row

    same-tag : begins_with (codes "<!--") text ≡ false → begins_with (codes "<![CDATA[") text ≡ false → begins_with (codes "<!DOCTYPE") text ≡ false →
        begins_with (codes "<?") text ≡ false → 1 < m → (markup text).len < m → markup other ≡ markup text
    same-tag a b d e two lt =
        let row = row-tag text a b d e in
        let len : (markup text).len ≡ (tag tags text).len = ap (λ (c : Cut). c.len) row in
        row-tag other
        (behind-less (codes "!--") other other_less ∙ no-mark (codes "--") refl refl (omega arith) (sym (behind-less (codes "!--") text less) ∙ a))
        (behind-less (codes "![CDATA[") other other_less
        ∙ no-mark (codes "[CDATA[") refl refl (omega arith) (sym (behind-less (codes "![CDATA[") text less) ∙ b))
        (behind-less (codes "!DOCTYPE") other other_less
        ∙ no-mark (codes "DOCTYPE") refl refl (omega arith) (sym (behind-less (codes "!DOCTYPE") text less) ∙ d))
        (mark-same (codes "<?") (omega arith) ∙ e)
        ∙ tags-same (omega arith) ∙ sym row

    pub markup-same : 1 < m → (markup text).len < m → markup other ≡ markup text
    markup-same two lt =
        elim (cases_Bool (begins_with (codes "<!--") text)) [
          | inl a ↦ same-comment a (omega arith) (omega arith)
          | inr a ↦ elim (cases_Bool (begins_with (codes "<![CDATA[") text)) [
            | inl b ↦ same-cdata a b (omega arith) (omega arith)
            | inr b ↦ elim (cases_Bool (begins_with (codes "<!DOCTYPE") text)) [
              | inl d ↦ same-doctype a b d (omega arith) (omega arith)
              | inr d ↦ elim (cases_Bool (begins_with (codes "<?") text)) [ inl e ↦ same-instruction a b d e two (omega arith) (omega arith) | inr e ↦ same-tag a b d e two lt ]
            ]
          ]
        ]
