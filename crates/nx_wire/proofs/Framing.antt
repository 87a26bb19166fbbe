-- Messages among bytes.
use Rattle.std.proofs.Common.{◌≡◌, ℕ, suc, ◌+◌, ◌-◌, ◌^◌, ◌<◌, ◌≤◌, ◌⊎◌, ◌↔◌, min, Bool, true, false, IsTrue, List, [], ◌∷◌, ◌++◌, length, take, drop, map, All, Option, Some, None, IfNone, refl, sym, ap, subst, ◌∙◌, arith, inl, inr, append_assoc}
use Rattle.std.proofs.lemmas.List.{length-map, length-take, length-take-le, length-drop, length-append, take-append-drop, take-append-le}
use Rattle.std.proofs.Math.Seq.{take-append_seam}
use Rattle.std.specs.Str.Parse.{IsNumeral, digits_value}
use Rattle.httparse.specs.Grammar.{Field, LineEnd, ReadsSection, HasNoSection, print_section}
use Rattle.httparse.specs.Spans.{IsSectionOf, IsHeaderWithin, SectionOverflows, header_bytes, name_and_value}
use Rattle.httparse.specs.declared.spans.HeaderSpan.{HeaderSpan}
use Rattle.httparse.proofs.GrammarLemmas.{section_unique, ReadsSection-append}
use Rattle.nx_wire.specs.Frames.{IsLengthName, FirstLength, IsLength, HasLength, IsFrame, HasNoFrame, NeverHasFrame, IsHead, TellsLength, FramesAreOne}

-- ---- the length that fields tell is one

some_same : {X : Type 0} (x y : X) → Some x ≡ Some y → x ≡ y
some_same x y e = cc

first_one : (fields : List (List ℕ × List ℕ)) (a b : Option (List ℕ)) → FirstLength fields a → FirstLength fields b → a ≡ b
first_one [] a b p q = p ∙ sym q
first_one (field ∷ rest) a b (inl p) (inl q) = p.1 ∙ sym q.1
first_one (field ∷ rest) a b (inl p) (inr q) = absurd (q.0 p.0)
first_one (field ∷ rest) a b (inr p) (inl q) = absurd (p.0 q.0)
first_one (field ∷ rest) a b (inr p) (inr q) = first_one rest a b p.1 q.1

length_one : (fields : List (List ℕ × List ℕ)) (a b : ℕ) → HasLength fields a → HasLength fields b → a ≡ b
length_one fields a b p q =
    p.length_is.value_is ∙ ap (digits_value 10) (some_same p.value q.value (first_one fields (Some p.value) (Some q.value) p.first q.first)) ∙ sym q.length_is.value_is

-- a value that is no length is none of a length's field
pub none_told : (fields : List (List ℕ × List ℕ)) (value : List ℕ) (found : Option ℕ) → FirstLength fields (Some value)
    → IfNone found ((len : ℕ) → ¬ (IsLength value len)) → IfNone found ((len : ℕ) → ¬ (HasLength fields len))
none_told fields value None first none =
    λ len h. none len (subst (λ v. IsLength v len) (some_same h.value value (first_one fields (Some h.value) (Some value) h.first first)) h.length_is)
none_told fields value (Some n) first none = tt

pub none_first : (fields : List (List ℕ × List ℕ)) (len : ℕ) → FirstLength fields None → ¬ (HasLength fields len)
none_first fields len none h =
    let e = first_one fields (Some h.value) None h.first none in
    absurd cc

no_by : (P : Type 0) → (IsTrue false ↔ P) → ¬ P
no_by P h p = let t = h.1 p in absurd cc

-- the fields behind one that tells no length
pub behind_other : (text name : List ℕ) (field : HeaderSpan) (all behind : List HeaderSpan) → all ≡ field ∷ behind → name ≡ (header_bytes text field).0
    → (IsTrue false ↔ IsLengthName name) → (found : Option (List ℕ)) → FirstLength (map (header_bytes text) behind) found
    → FirstLength (map (header_bytes text) all) found
behind_other text name field all behind e is other found h =
    subst (λ fs. FirstLength (map (header_bytes text) fs) found) (sym e) (inr (subst (λ n. ¬ (IsLengthName n)) is (no_by (IsLengthName name) other), h))

pub all_behind : (text : List ℕ) (field : HeaderSpan) (all behind : List HeaderSpan) → all ≡ field ∷ behind → All (IsHeaderWithin (length text)) all
    → All (IsHeaderWithin (length text)) behind
all_behind text field all behind e h =
    let whole : All (IsHeaderWithin (length text)) (field ∷ behind) = subst (All (IsHeaderWithin (length text))) e h in
    λ k d lt. whole (suc k) d (omega (arith, lt))

-- ---- heads

-- a head that was read
pub head_read : (text : List ℕ) (headers : List HeaderSpan) (at count : ℕ) → length headers ≤ 16 → IsSectionOf text 0 headers (at, count)
    → IsHead text at (map (header_bytes text) (take count headers))
head_read text headers at count room s =
    let same : length (map (header_bytes text) (take count headers)) ≡ length (map name_and_value s.0) = ap length s.2.fields_are in
    let mine = length-map (take count headers) (header_bytes text) in
    let theirs = length-map s.0 name_and_value in
    let some = length-take count headers in
    record {
      fields = s.0;
      last = s.1;
      reads = s.2.reads;
      at_is = omega (arith, s.2.len_is);
      parts_are = s.2.fields_are;
      few = omega (arith, same, mine, theirs, some, room);
    }

-- the message that begins a text behind which more may come has the head that was read
same_head : (text more : List ℕ) (at : ℕ) (parts : List (List ℕ × List ℕ)) (body rest : List ℕ) → IsHead text at parts → (f : IsFrame (text ++ more) body rest)
    → (parts ≡ map name_and_value f.fields) × (at ≡ length (print_section f.fields f.last)) × (drop at text ++ more ≡ body ++ rest)
same_head text more at parts body rest h f =
    let longer = ReadsSection-append text h.fields h.last (drop at text) more h.reads in
    let same = section_unique (text ++ more) h.fields f.fields h.last f.last (drop at text ++ more) (body ++ rest) longer f.reads in
    (h.parts_are ∙ ap (map name_and_value) same.0, h.at_is ∙ ap (λ fs. length (print_section fs h.last)) same.0 ∙ ap (λ l. length (print_section f.fields l)) same.1, same.2)

-- a head that is too long, or tells no length, or one that is too great
pub too_long : (text : List ℕ) (at : ℕ) (parts : List (List ℕ × List ℕ)) → IsHead text at parts → 4096 < at → NeverHasFrame text
too_long text at parts h long more body rest f =
    let same = same_head text more at parts body rest h f in
    omega (arith, same.1, long, f.short)

pub no_length : (text : List ℕ) (at : ℕ) (parts : List (List ℕ × List ℕ)) → IsHead text at parts → ((len : ℕ) → ¬ (HasLength parts len)) → NeverHasFrame text
no_length text at parts h none more body rest f =
    let same = same_head text more at parts body rest h f in
    none (length body) (subst (λ ps. HasLength ps (length body)) (sym same.0) f.length_told)

len_is : (text more : List ℕ) (at len : ℕ) (body rest : List ℕ) → TellsLength text at len → IsFrame (text ++ more) body rest → len ≡ length body
len_is text more at len body rest t f =
    let same = same_head text more at t.parts body rest t.head f in
    length_one t.parts len (length body) t.told (subst (λ ps. HasLength ps (length body)) (sym same.0) f.length_told)

pub too_great : (text : List ℕ) (at len : ℕ) → TellsLength text at len → 2 ^ 30 < len → NeverHasFrame text
too_great text at len t great more body rest f =
    let same = len_is text more at len body rest t f in
    omega (arith, same, great, f.small)

append-nil_is : (xs : List ℕ) → xs ++ [] ≡ xs
append-nil_is [] = refl
append-nil_is (x ∷ xs) = ap (λ ys. x ∷ ys) (append-nil_is xs)

-- content that isn't whole yet
pub not_yet : (text : List ℕ) (at len : ℕ) → TellsLength text at len → at ≤ length text → length text - at < len → HasNoFrame text
not_yet text at len t within more body rest f =
    let g : IsFrame (text ++ []) body rest = subst (λ xs. IsFrame xs body rest) (sym (append-nil_is text)) f in
    let same = len_is text [] at len body rest t g in
    let left = (same_head text [] at t.parts body rest t.head g).2 in
    let lengths : length (drop at text ++ []) ≡ length (body ++ rest) = ap length left in
    let mine = length-append (drop at text) [] in
    let theirs = length-append body rest in
    let dropped = length-drop at text in
    omega (arith, same, more, lengths, mine, theirs, dropped)

-- content that is
pub whole : (text : List ℕ) (at len : ℕ) → TellsLength text at len → at ≤ length text → len ≤ 2 ^ 30 → len ≤ length text - at
    → (at + len ≤ length text) × IsFrame text (take len (drop at text)) (drop len (drop at text))
whole text at len t within small fits =
    let dropped = length-drop at text in
    let enough : len ≤ length (drop at text) = omega (arith, dropped, fits) in
    let taken = length-take-le len (drop at text) enough in
    let joined : take len (drop at text) ++ drop len (drop at text) ≡ drop at text = take-append-drop len (drop at text) in (
      omega (arith, within, fits),
      record {
        fields = t.head.fields;
        last = t.head.last;
        reads = subst (ReadsSection text t.head.fields t.head.last) (sym joined) t.head.reads;
        length_told = subst (λ ps. HasLength ps (length (take len (drop at text)))) t.head.parts_are (subst (HasLength t.parts) (sym taken) t.told);
        few = t.head.few;
        short = subst (λ n. n ≤ 4096) t.head.at_is t.short;
        small = subst (λ n. n ≤ 2 ^ 30) (sym taken) small;
      },
    )

-- ---- bytes without a whole head

pub no_head : (text : List ℕ) → HasNoSection text → HasNoFrame text
no_head text none body rest f = none f.fields f.last (body ++ rest) f.reads

-- what begins a text behind which more comes begins that text, if it is long enough
begins : (text more front rest : List ℕ) → text ++ more ≡ front ++ rest → length front ≤ length text → text ≡ front ++ drop (length front) text
begins text more front rest e long =
    let taken : take (length front) text ≡ front =
    sym (take-append-le (length front) text more long) ∙ ap (take (length front)) e ∙ take-append_seam front rest in
    sym (take-append-drop (length front) text) ∙ ap (λ xs. xs ++ drop (length front) text) taken

pub head_never : (text : List ℕ) → HasNoSection text → 4096 < length text → NeverHasFrame text
head_never text none long more body rest f =
    let front = print_section f.fields f.last in
    let short : length front ≤ length text = omega (arith, f.short, long) in
    none f.fields f.last (drop (length front) text) (f.reads.0, begins text more front (body ++ rest) f.reads.1 short)

pub too_many : (text : List ℕ) (room : ℕ) → SectionOverflows room text → 16 ≤ room → NeverHasFrame text
too_many text room over enough more body rest f =
    let many = over more f.fields f.last (body ++ rest) f.reads in
    omega (arith, many, enough, f.few)

-- ---- the law

cut_same : (xs ys us vs : List ℕ) → length xs ≡ length us → xs ++ ys ≡ us ++ vs → (xs ≡ us) × (ys ≡ vs)
cut_same [] ys [] vs n e = (refl, e)
cut_same [] ys (u ∷ us) vs n e = absurd (omega (arith, n))
cut_same (x ∷ xs) ys [] vs n e = absurd (omega (arith, n))
cut_same (x ∷ xs) ys (u ∷ us) vs n e =
    let first : x ≡ u = cc in
    let rest : xs ++ ys ≡ us ++ vs = cc in
    let left : length xs ≡ length us = omega (arith, n) in
    let same = cut_same xs ys us vs left rest in
    (ap (λ z. z ∷ xs) first ∙ ap (λ zs. u ∷ zs) same.0, same.1)

pub frames_are_one : FramesAreOne
frames_are_one text body other rest left f g =
    let same = section_unique text f.fields g.fields f.last g.last (body ++ rest) (other ++ left) f.reads g.reads in
    let lens = length_one (map name_and_value f.fields) (length body) (length other) f.length_told
    (subst (λ fs. HasLength (map name_and_value fs) (length other)) (sym same.0) g.length_told) in
    cut_same body rest other left lens same.2
