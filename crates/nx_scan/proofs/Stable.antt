-- Two texts that are the same up to a place: marks and pieces are found in both.
use Rattle.std.proofs.Common.{◌≡◌, ℕ, zero, suc, ◌+◌, ◌-◌, ◌<◌, ◌≤◌, Bool, true, false, ◌⊎◌, inl, inr, List, [], ◌∷◌, length, take, drop, get_or, refl, sym, ◌∙◌, ap, arith, codes}
use Rattle.std.specs.Prelude.{◌==◌, ◌&&◌, ◌||◌, not, min, Option, Some, None}
use Rattle.std.specs.Option.{option_map}
use Rattle.std.proofs.lemmas.Bool.{cases_Bool, cases_lt, and_parts, true≢false, not-true, eq-eqb}
use Rattle.std.proofs.lemmas.List.{drop-take, get_or-take, take-take, drop-drop}
use Rattle.nx_base.specs.Tokens.{Cut, begins_with, bytes_before, bytes_up_to, closed, piece, in_subset, doctype_bytes, doctype, bad_rest}
use Rattle.nx_base.specs.declared.token.TokenKind.{TokenKind}
use Rattle.nx_scan.proofs.Doctypes.{piece-quote, piece-comment, piece-instruction, piece-byte, doctype-piece, doctype-open}
use Rattle.nx_scan.proofs.BadEnds.{bad_rest-less, bad_rest-greater, bad_rest-further}
use Rattle.nx_scan.proofs.Endings.{closed_by, not_closed, doctype_of, no_doctype}
use Rattle.nx_scan.proofs.Fitting.{before-stands, doctype-ends, up_to-stands}
use Rattle.nx_scan.proofs.Marks.{mark-last}

-- the first byte, and the same behind it
same-cons : (m b : ℕ) (bs other : List ℕ) → take (suc m) other ≡ take (suc m) (b ∷ bs) →
    (rest : List ℕ) × (other ≡ b ∷ rest) × (take m rest ≡ take m bs)
same-cons m b bs [] e = let bad : [] ≡ b ∷ take m bs = e in cc
same-cons m b bs (d ∷ rest) e =
    let both : d ∷ take m rest ≡ b ∷ take m bs = e in
    let first : d ≡ b = cc in
    let others : take m rest ≡ take m bs = cc in
    (rest, ap (λ x. x ∷ rest) first, others)

-- the same further on, up to less, and at a byte
pub drop-same : (k m : ℕ) (text other : List ℕ) → k ≤ m → take m other ≡ take m text → take (m - k) (drop k other) ≡ take (m - k) (drop k text)
drop-same k m text other le e =
    let whole : k + (m - k) ≡ m = omega arith in
    sym (drop-take k (m - k) other) ∙ ap (λ n. drop k (take n other)) whole ∙ ap (drop k) e
    ∙ ap (λ n. drop k (take n text)) (sym whole) ∙ drop-take k (m - k) text

pub less-same : (n m : ℕ) (text other : List ℕ) → n ≤ m → take m other ≡ take m text → take n other ≡ take n text
less-same n m text other le e = sym (take-take n m other le) ∙ ap (take n) e ∙ take-take n m text le

pub byte-same : (k m : ℕ) (text other : List ℕ) → k < m → take m other ≡ take m text → get_or other k 0 ≡ get_or text k 0
byte-same k m text other lt e = sym (get_or-take m other k 0 lt) ∙ ap (λ xs. get_or xs k 0) e ∙ get_or-take m text k 0 lt

-- a mark of no more bytes
begins-take : (mark rest : List ℕ) (m : ℕ) → length mark ≤ m → begins_with mark rest ≡ begins_with mark (take m rest)
unfolding begins_with
begins-take [] rest m le = refl
begins-take (x ∷ mark) rest zero le = absurd (omega arith)
begins-take (x ∷ mark) [] (suc m) le = refl
begins-take (x ∷ mark) (b ∷ rest) (suc m) le = ap (λ t. b == x && t) (begins-take mark rest m (omega arith))

pub begins-same : (mark text other : List ℕ) (m : ℕ) → length mark ≤ m → take m other ≡ take m text → begins_with mark other ≡ begins_with mark text
begins-same mark text other m le e = begins-take mark other m le ∙ ap (begins_with mark) e ∙ sym (begins-take mark text m le)

-- a mark without a byte that stands in the part that is the same
abbrev pub has_none : ℕ → List ℕ → Bool
has_none byte [] = true
has_none byte (x ∷ mark) = not (byte == x) && has_none byte mark

pub begins-stop : (byte : ℕ) (mark text other : List ℕ) (n : ℕ) → has_none byte mark ≡ true → take (suc n) other ≡ take (suc n) text → n < length text →
    get_or text n 0 ≡ byte → begins_with mark other ≡ begins_with mark text
unfolding begins_with
begins-stop byte [] text other n none e lt is = refl
begins-stop byte (x ∷ mark) [] other n none e lt is = absurd (omega arith)
begins-stop byte (x ∷ mark) (b ∷ bs) other zero none e lt is =
    let split = same-cons zero b bs other e in
    let apart : (byte == x) ≡ false = not-true (byte == x) (and_parts (not (byte == x)) (has_none byte mark) none).0 in
    let first : (b == x) ≡ false = ap (λ y. y == x) is ∙ apart in
    ap (begins_with (x ∷ mark)) split.1 ∙ rw first refl
begins-stop byte (x ∷ mark) (b ∷ bs) other (suc n) none e lt is =
    let split = same-cons (suc n) b bs other e in
    ap (begins_with (x ∷ mark)) split.1
    ∙ ap (λ t. b == x && t) (begins-stop byte mark bs split.0 n (and_parts (not (byte == x)) (has_none byte mark) none).1 split.2 (omega arith) is)

pub not-read : (byte : ℕ) (mark : List ℕ) (k : ℕ) → has_none byte mark ≡ true → k < length mark → get_or mark k 0 ≡ byte → ⊥
not-read byte [] k none lt is = omega arith
not-read byte (x ∷ mark) zero none lt is =
    true≢false (sym (eq-eqb byte x (sym is)) ∙ not-true (byte == x) (and_parts (not (byte == x)) (has_none byte mark) none).0)
not-read byte (x ∷ mark) (suc k) none lt is = not-read byte mark k (and_parts (not (byte == x)) (has_none byte mark) none).1 (omega arith) is

-- how far it is to a byte
up_to-cons : (byte b : ℕ) (xs ys : List ℕ) → ((b == byte) ≡ false → bytes_up_to byte xs ≡ bytes_up_to byte ys) → bytes_up_to byte (b ∷ xs) ≡ bytes_up_to byte (b ∷ ys)
unfolding bytes_up_to
up_to-cons byte b xs ys h = elim (cases_Bool (b == byte)) [ inl e ↦ rw e refl | inr e ↦ rw e (ap (λ n. n + 1) (h e)) ]

up_to-further : (byte b : ℕ) (bs : List ℕ) → (b == byte) ≡ false → bytes_up_to byte (b ∷ bs) ≡ bytes_up_to byte bs + 1
unfolding bytes_up_to
up_to-further byte b bs e = rw e refl

pub up_to-same : (byte : ℕ) (text other : List ℕ) (m : ℕ) → take m other ≡ take m text → m ≤ length text → bytes_up_to byte text < m →
    bytes_up_to byte other ≡ bytes_up_to byte text
up_to-same byte [] other m e le lt = absurd (omega arith)
up_to-same byte (b ∷ bs) other zero e le lt = absurd (omega arith)
up_to-same byte (b ∷ bs) other (suc m) e le lt =
    let split = same-cons m b bs other e in
    ap (bytes_up_to byte) split.1
    ∙ up_to-cons byte b split.0 bs (λ h. up_to-same byte bs split.0 m split.2 (omega arith) (omega (arith, up_to-further byte b bs h)))

-- how far a Bad token goes on
bad_rest-next : (b : ℕ) (xs ys : List ℕ) → (bad_rest xs < bad_rest (b ∷ xs) → bad_rest ys ≡ bad_rest xs) → bad_rest (b ∷ ys) ≡ bad_rest (b ∷ xs)
bad_rest-next b xs ys h =
    elim (cases_Bool (b == 60)) [
      | inl e ↦ bad_rest-less b ys e ∙ sym (bad_rest-less b xs e)
      | inr e ↦ elim (cases_Bool (b == 62)) [
        | inl f ↦ bad_rest-greater b ys e f ∙ sym (bad_rest-greater b xs e f)
        | inr f ↦
            (let here = bad_rest-further b xs e f in
            bad_rest-further b ys e f ∙ ap (λ n. n + 1) (h (omega (arith, here))) ∙ sym here)
      ]
    ]

pub bad_rest-same : (text other : List ℕ) (m : ℕ) → take m other ≡ take m text → m ≤ length text → bad_rest text < m → bad_rest other ≡ bad_rest text
bad_rest-same [] other m e le lt = absurd (omega arith)
bad_rest-same (b ∷ bs) other zero e le lt = absurd (omega arith)
bad_rest-same (b ∷ bs) other (suc m) e le lt =
    let split = same-cons m b bs other e in
    ap bad_rest split.1 ∙ bad_rest-next b bs split.0 (λ h. bad_rest-same bs split.0 m split.2 (omega arith) (omega arith))

-- and where it ends
pub bad_rest-stop : (left : List ℕ) → bad_rest left < length left →
    ((0 < bad_rest left) × (get_or left (bad_rest left - 1) 0 ≡ 62)) ⊎ (get_or left (bad_rest left) 0 ≡ 60)
unfolding bad_rest
bad_rest-stop left lt =
    let less = up_to-stands 60 left in
    let greater = up_to-stands 62 left in
    elim (cases_lt (bytes_up_to 62 left) (bytes_up_to 60 left)) [
      | inl before ↦
          (let is : min (bytes_up_to 60 left) (bytes_up_to 62 left + 1) ≡ bytes_up_to 62 left + 1 = omega arith in
          let place : min (bytes_up_to 60 left) (bytes_up_to 62 left + 1) - 1 ≡ bytes_up_to 62 left = omega arith in
          inl (omega arith, ap (λ n. get_or left n 0) place ∙ greater.1 (omega (arith, less.0))))
      | inr before ↦
          (let is : min (bytes_up_to 60 left) (bytes_up_to 62 left + 1) ≡ bytes_up_to 60 left = omega arith in
          inr (ap (λ n. get_or left n 0) is ∙ less.1 (omega arith)))
    ]

-- how far it is to a mark
pub option-some : (k l : ℕ) (found : Option ℕ) (p : ℕ) → option_map (λ n. k + n + l) found ≡ Some p → (n : ℕ) × (found ≡ Some n) × (k + n + l ≡ p)
option-some k l None p e = let bad : None ≡ Some p = e in cc
option-some k l (Some n) p e = let both : Some (k + n + l) ≡ Some p = e in let same : k + n + l ≡ p = cc in (n, refl, same)

pub option-next : (found : Option ℕ) (p : ℕ) → option_map (λ n. n + 1) found ≡ Some p → (n : ℕ) × (found ≡ Some n) × (n + 1 ≡ p)
option-next None p e = let bad : None ≡ Some p = e in cc
option-next (Some n) p e = let both : Some (n + 1) ≡ Some p = e in let same : n + 1 ≡ p = cc in (n, refl, same)

pub before-here : (mark : List ℕ) (b : ℕ) (bs : List ℕ) → begins_with mark (b ∷ bs) ≡ true → bytes_before mark (b ∷ bs) ≡ Some 0
unfolding bytes_before
before-here mark b bs h = rw h refl

pub before-next : (mark : List ℕ) (b : ℕ) (bs : List ℕ) → begins_with mark (b ∷ bs) ≡ false → bytes_before mark (b ∷ bs) ≡ option_map (λ n. n + 1) (bytes_before mark bs)
unfolding bytes_before
before-next mark b bs h = rw h refl

pub before-none : (mark : List ℕ) → bytes_before mark [] ≡ None
unfolding bytes_before
before-none mark = refl

pub before-same : (mark text other : List ℕ) (n m : ℕ) → 0 < length mark → take m other ≡ take m text → bytes_before mark text ≡ Some n → n + length mark ≤ m →
    bytes_before mark other ≡ Some n
before-same mark [] other n m some e f le = let bad : None ≡ Some n = sym (before-none mark) ∙ f in cc
before-same mark (b ∷ bs) other n zero some e f le = absurd (omega arith)
before-same mark (b ∷ bs) other n (suc m) some e f le =
    let split = same-cons m b bs other e in
    let window : begins_with mark other ≡ begins_with mark (b ∷ bs) = begins-same mark (b ∷ bs) other (suc m) (omega arith) e in
    let window_here : begins_with mark (b ∷ split.0) ≡ begins_with mark (b ∷ bs) = ap (begins_with mark) (sym split.1) ∙ window in
    ap (bytes_before mark) split.1
    ∙ elim (cases_Bool (begins_with mark (b ∷ bs))) [
      | inl h ↦ before-here mark b split.0 (window_here ∙ h) ∙ sym (before-here mark b bs h) ∙ f
      | inr h ↦
          (let found = option-next (bytes_before mark bs) n (sym (before-next mark b bs h) ∙ f) in
          let earlier = found.2 in
          before-next mark b split.0 (window_here ∙ h)
          ∙ ap (option_map (λ k. k + 1)) (before-same mark bs split.0 found.0 m some split.2 found.1 (omega arith))
          ∙ ap Some found.2)
    ]

-- a token that a mark ends
closed-found : (kind : TokenKind) (mark rest : List ℕ) (skip : ℕ) → (closed kind mark skip rest).len < length rest →
    (n : ℕ) × (bytes_before mark (drop skip rest) ≡ Some n) × ((closed kind mark skip rest).len ≡ skip + n + length mark)
closed-found kind mark rest skip lt = on (bytes_before mark (drop skip rest)) refl lt
  where
    on : (found : Option ℕ) → bytes_before mark (drop skip rest) ≡ found → (closed kind mark skip rest).len < length rest →
        (n : ℕ) × (bytes_before mark (drop skip rest) ≡ Some n) × ((closed kind mark skip rest).len ≡ skip + n + length mark)
    on None e h = let len = ap (λ (c : Cut). c.len) (not_closed kind mark rest skip e) in absurd (omega arith)
    on (Some n) e h = (n, e, ap (λ (c : Cut). c.len) (closed_by kind mark rest skip n e))

pub closed-same : (kind : TokenKind) (mark text other : List ℕ) (skip m : ℕ) → 0 < length mark → take m other ≡ take m text →
    (closed kind mark skip text).len < length text → (closed kind mark skip text).len ≤ m → closed kind mark skip other ≡ closed kind mark skip text
closed-same kind mark text other skip m some e lt le =
    let found = closed-found kind mark text skip lt in
    let len = found.2 in
    let there : bytes_before mark (drop skip other) ≡ Some found.0 =
    before-same mark (drop skip text) (drop skip other) found.0 (m - skip) some (drop-same skip m text other (omega arith) e) found.1 (omega arith) in
    closed_by kind mark other skip found.0 there ∙ sym (closed_by kind mark text skip found.0 found.1)

-- the mark stands at its end
pub closed-skip : (kind : TokenKind) (mark text : List ℕ) (skip : ℕ) → (closed kind mark skip text).len < length text → skip ≤ (closed kind mark skip text).len
closed-skip kind mark text skip lt = let len = (closed-found kind mark text skip lt).2 in omega arith

pub closed-stop : (kind : TokenKind) (mark text : List ℕ) (skip : ℕ) → 0 < length mark → get_or mark (length mark - 1) 0 ≡ 62 →
    (closed kind mark skip text).len < length text →
    (0 < (closed kind mark skip text).len) × (get_or text ((closed kind mark skip text).len - 1) 0 ≡ 62)
closed-stop kind mark text skip some last lt =
    let found = closed-found kind mark text skip lt in
    let len = found.2 in
    let stands : begins_with mark (drop (skip + found.0) text) ≡ true =
    ap (begins_with mark) (sym (drop-drop found.0 skip text)) ∙ before-stands mark (drop skip text) found.0 found.1 in
    (omega arith, ap (λ n. get_or text (n - 1) 0) len ∙ mark-last mark text (skip + found.0) stands some ∙ last)

-- marks that don't hold `>`
has_comment : has_none 62 (codes "<!--") ≡ true
has_comment = refl

has_instruction : has_none 62 (codes "<?") ≡ true
has_instruction = refl

-- a piece of a document type declaration, in front of a `>`
piece-same : (subset : Bool) (b : ℕ) (bs rest : List ℕ) (p n m : ℕ) → take m rest ≡ take m bs → n < length (b ∷ bs) → get_or (b ∷ bs) n 0 ≡ 62 → n ≤ m → p ≤ suc m →
    piece subset (b ∷ bs) ≡ Some p → piece subset (b ∷ rest) ≡ Some p
piece-same subset b bs rest p n m e lt close le fits f =
    let same : take (suc m) (b ∷ rest) ≡ take (suc m) (b ∷ bs) = ap (λ xs. b ∷ xs) e in
    let upto : take (suc n) (b ∷ rest) ≡ take (suc n) (b ∷ bs) = less-same (suc n) (suc m) (b ∷ bs) (b ∷ rest) (omega arith) same in
    let comment : begins_with (codes "<!--") (b ∷ rest) ≡ begins_with (codes "<!--") (b ∷ bs) =
    begins-stop 62 (codes "<!--") (b ∷ bs) (b ∷ rest) n has_comment upto lt close in
    let instruction : begins_with (codes "<?") (b ∷ rest) ≡ begins_with (codes "<?") (b ∷ bs) =
    begins-stop 62 (codes "<?") (b ∷ bs) (b ∷ rest) n has_instruction upto lt close in
    elim (cases_Bool (b == 34 || b == 39)) [
      | inl q ↦
          (let found = option-some 1 1 (bytes_before (b ∷ []) bs) p (sym (piece-quote subset b bs q) ∙ f) in
          let len = found.2 in
          piece-quote subset b rest q
          ∙ ap (option_map (λ n. 1 + n + 1)) (before-same (b ∷ []) bs rest found.0 m (omega arith) e found.1 (omega arith))
          ∙ ap Some found.2)
      | inr q ↦ elim (cases_Bool (subset && begins_with (codes "<!--") (b ∷ bs))) [
        | inl c ↦
            (let found = option-some 4 3 (bytes_before (codes "-->") (drop 4 (b ∷ bs))) p (sym (piece-comment subset b bs q c) ∙ f) in
            let len = found.2 in
            piece-comment subset b rest q (ap (λ t. subset && t) comment ∙ c)
            ∙ ap (option_map (λ n. 4 + n + 3))
            (before-same (codes "-->") (drop 4 (b ∷ bs)) (drop 4 (b ∷ rest)) found.0 (suc m - 4) (omega arith)
            (drop-same 4 (suc m) (b ∷ bs) (b ∷ rest) (omega arith) same) found.1 (omega arith))
            ∙ ap Some found.2)
        | inr c ↦ elim (cases_Bool (subset && begins_with (codes "<?") (b ∷ bs))) [
          | inl d ↦
              (let found = option-some 2 2 (bytes_before (codes "?>") (drop 2 (b ∷ bs))) p (sym (piece-instruction subset b bs q c d) ∙ f) in
              let len = found.2 in
              piece-instruction subset b rest q (ap (λ t. subset && t) comment ∙ c) (ap (λ t. subset && t) instruction ∙ d)
              ∙ ap (option_map (λ n. 2 + n + 2))
              (before-same (codes "?>") (drop 2 (b ∷ bs)) (drop 2 (b ∷ rest)) found.0 (suc m - 2) (omega arith)
              (drop-same 2 (suc m) (b ∷ bs) (b ∷ rest) (omega arith) same) found.1 (omega arith))
              ∙ ap Some found.2)
          | inr d ↦
              piece-byte subset b rest q (ap (λ t. subset && t) comment ∙ c) (ap (λ t. subset && t) instruction ∙ d)
              ∙ sym (piece-byte subset b bs q c d) ∙ f
        ]
      ]
    ]

-- a piece that is being passed is passed whole
pub doctype-passes : (subset : Bool) (passed : ℕ) (rest : List ℕ) (n : ℕ) → doctype_bytes subset passed rest ≡ Some n → passed < n
unfolding doctype_bytes
doctype-passes subset zero rest n e = (doctype-ends subset zero rest n e).some
doctype-passes subset (suc passed) [] n e = let bad : None ≡ Some n = e in absurd (cc)
doctype-passes subset (suc passed) (b ∷ bs) n e =
    let found = option-next (doctype_bytes subset passed bs) n e in
    let len = found.2 in
    omega (arith, doctype-passes subset passed bs found.0 found.1)

pub doctype-end : (subset : Bool) (b : ℕ) (bs : List ℕ) → (b == 62 && not subset) ≡ true → doctype_bytes subset 0 (b ∷ bs) ≡ Some 1
unfolding doctype_bytes
doctype-end subset b bs h = rw h refl

pub doctype-found : (subset : Bool) (b : ℕ) (bs : List ℕ) (n : ℕ) → (b == 62 && not subset) ≡ false → doctype_bytes subset 0 (b ∷ bs) ≡ Some n →
    (p : ℕ) × (piece subset (b ∷ bs) ≡ Some p)
doctype-found subset b bs n h e = on (piece subset (b ∷ bs)) refl
  where
    on : (found : Option ℕ) → piece subset (b ∷ bs) ≡ found → (p : ℕ) × (piece subset (b ∷ bs) ≡ Some p)
    on None f = let bad : None ≡ Some n = sym (doctype-open subset b bs h f) ∙ e in absurd (cc)
    on (Some p) f = (p, f)

doctype-passed : (subset : Bool) (passed b : ℕ) (bs : List ℕ) → doctype_bytes subset (suc passed) (b ∷ bs) ≡ option_map (λ n. n + 1) (doctype_bytes subset passed bs)
unfolding doctype_bytes
doctype-passed subset passed b bs = refl

pub doctype-same : (text : List ℕ) (subset : Bool) (passed : ℕ) (other : List ℕ) (n m : ℕ) → doctype_bytes subset passed text ≡ Some n → n ≤ m → take m other ≡ take m text →
    doctype_bytes subset passed other ≡ Some n
doctype-same [] subset passed other n m f le e = let end = doctype-ends subset passed [] n f in let a = end.some in let b = end.within in absurd (omega arith)
doctype-same (b ∷ bs) subset passed other n zero f le e = let a = (doctype-ends subset passed (b ∷ bs) n f).some in absurd (omega arith)
doctype-same (b ∷ bs) subset (suc passed) other n (suc m) f le e =
    let split = same-cons m b bs other e in
    let found = option-next (doctype_bytes subset passed bs) n (sym (doctype-passed subset passed b bs) ∙ f) in
    let len = found.2 in
    ap (doctype_bytes subset (suc passed)) split.1 ∙ doctype-passed subset passed b split.0
    ∙ ap (option_map (λ k. k + 1)) (doctype-same bs subset passed split.0 found.0 m found.1 (omega arith) split.2)
    ∙ ap Some found.2
doctype-same (b ∷ bs) subset zero other n (suc m) f le e =
    let split = same-cons m b bs other e in
    elim (cases_Bool (b == 62 && not subset)) [
      | inl h ↦ ap (doctype_bytes subset 0) split.1 ∙ doctype-end subset b split.0 h ∙ sym (doctype-end subset b bs h) ∙ f
      | inr h ↦
          (let end = doctype-ends subset 0 (b ∷ bs) n f in
          let some = end.some in
          let within = end.within in
          let found = doctype-found subset b bs n h f in
          let further = option-next (doctype_bytes (in_subset subset b) (found.0 - 1) bs) n (sym (doctype-piece subset b bs found.0 h found.1) ∙ f) in
          let len = further.2 in
          let passes = doctype-passes (in_subset subset b) (found.0 - 1) bs further.0 further.1 in
          let there : piece subset (b ∷ split.0) ≡ Some found.0 =
          piece-same subset b bs split.0 found.0 (n - 1) m split.2 (omega arith) end.close (omega arith) (omega arith) found.1 in
          ap (doctype_bytes subset 0) split.1 ∙ doctype-piece subset b split.0 found.0 h there
          ∙ ap (option_map (λ k. k + 1)) (doctype-same bs (in_subset subset b) (found.0 - 1) split.0 further.0 m further.1 (omega arith) split.2)
          ∙ ap Some further.2)
    ]

pub doctypes-same : (text other : List ℕ) (m : ℕ) → take m other ≡ take m text → (doctype text).len < length text → (doctype text).len ≤ m → doctype other ≡ doctype text
doctypes-same text other m e lt le = on (doctype_bytes false 0 (drop 9 text)) refl
  where
    on : (found : Option ℕ) → doctype_bytes false 0 (drop 9 text) ≡ found → doctype other ≡ doctype text
    on None f = let len = ap (λ (c : Cut). c.len) (no_doctype text f) in absurd (omega arith)
    on (Some n) f =
        let len = ap (λ (c : Cut). c.len) (doctype_of text n f) in
        doctype_of other n (doctype-same (drop 9 text) false 0 (drop 9 other) n (m - 9) f (omega arith) (drop-same 9 m text other (omega arith) e))
        ∙ sym (doctype_of text n f)

pub doctype-skip : (text : List ℕ) → (doctype text).len < length text → 9 ≤ (doctype text).len
doctype-skip text lt = on (doctype_bytes false 0 (drop 9 text)) refl
  where
    on : (found : Option ℕ) → doctype_bytes false 0 (drop 9 text) ≡ found → 9 ≤ (doctype text).len
    on None f = let len = ap (λ (c : Cut). c.len) (no_doctype text f) in absurd (omega arith)
    on (Some n) f = let len = ap (λ (c : Cut). c.len) (doctype_of text n f) in omega arith
