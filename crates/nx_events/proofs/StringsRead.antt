-- What is read of a text is what its parts say.
use Rattle.std.proofs.Common.{◌≡◌, ◌≢◌, ℕ, zero, suc, ◌+◌, ◌<◌, ◌≤◌, IsUtf8, append_assoc, true, false, inl, inr, Option, Some, None, List, [], ◌∷◌, ◌++◌, length, take, drop, refl, ap, subst, sym, ◌∙◌, arith, codes}
use Rattle.std.specs.Prelude.{◌&&◌, ◌==◌, nat_eq, nat_lt, slice_index}
use Rattle.std.specs.List.{starts_with}
use lib.Utf8.{encode, encodes, scalar, scalars}
use Rattle.std.proofs.lemmas.Bool.{cases_Bool, cases_eq, and_parts, and_from}
use Rattle.std.proofs.lemmas.Bool.Decides.{Decides-eqb}
use Rattle.std.proofs.lemmas.Slice.Eq.{starts_is}
use Rattle.std.proofs.lemmas.List.{take_at, drop_at, length-append}
use Rattle.std.proofs.lemmas.Str.{encode_ascii, IsUtf8-append, IsUtf8-drop, IsUtf8-encode, IsCharBoundary-from_take}
use Rattle.nx_base.specs.declared.fault.Fault.{Fault}
use Rattle.nx_base.specs.declared.fault.Kind.{Kind}
use Rattle.nx_base.specs.declared.fault.Kind.TheVariants.{BadReference, BadText}
use Rattle.nx_events.specs.References.{reference_body_len, reference_len, character_named}
use Rattle.nx_events.specs.Faults.{bare_faults}
use Rattle.nx_events.specs.Strings.{string_of, cut_by}
use Rattle.nx_events.specs.StringsRead.{reads_references, character_in, flaw_of, IsOrdinary, IsPart, return_and_feed, return, character, reference, unknown, ampersand, brackets, IsReadInParts, finished, goes_on}
use Rattle.nx_events.specs.ReferenceForm.{HasShape}
use Rattle.nx_events.specs.declared.reading.Reading.{Reading}
use Rattle.nx_events.specs.declared.reading.Reading.TheVariants.{Plain, Text, Value}
use Rattle.nx_events.proofs.Pieces.{string_nil}
use Rattle.nx_events.proofs.Texts.{ascii_one}
use Rattle.nx_events.proofs.ReferenceForms.{shape_cases, reference_measured, reference_found, no_reference}
use Rattle.nx_events.proofs.ReferenceValues.{denotes_shape, denotes_named, named_denotes}
use Rattle.nx_events.proofs.StringParts.{all_faults, part_goes_on, encode_some}

-- a part is UTF-8, and so is what follows it
module _ (reading : Reading) (rest : List ℕ) where
  reference_text : (body : List ℕ) → IsUtf8 body → IsUtf8 (38 ∷ (body ++ 59 ∷ []))
  reference_text body u = IsUtf8-append (38 ∷ []) (body ++ 59 ∷ []) (ascii_one 38 (omega arith)) (IsUtf8-append body (59 ∷ []) u (ascii_one 59 (omega arith)))

  part_text : (front string : List ℕ) (flaw : Option Kind) → IsPart reading rest front string flaw → IsUtf8 front
  part_text front string flaw (return_and_feed e s f) = subst (λ xs. IsUtf8 xs) (sym e) (IsUtf8-append (13 ∷ []) (10 ∷ []) (ascii_one 13 (omega arith)) (ascii_one 10 (omega arith)))
  part_text front string flaw (return e n s f) = subst (λ xs. IsUtf8 xs) (sym e) (ascii_one 13 (omega arith))
  part_text front string flaw (character c ok e o s f) = subst (λ xs. IsUtf8 xs) (sym e) (IsUtf8-encode c (and_parts (scalar c) true ok).0)
  part_text front string flaw (reference r body c d e s f) = subst (λ xs. IsUtf8 xs) (sym e) (reference_text body (denotes_shape body c d).utf8)
  part_text front string flaw (unknown r body h n e s f) = subst (λ xs. IsUtf8 xs) (sym e) (reference_text body h.utf8)
  part_text front string flaw (ampersand r n e s f) = subst (λ xs. IsUtf8 xs) (sym e) (ascii_one 38 (omega arith))
  part_text front string flaw (brackets r e s f) =
      subst (λ xs. IsUtf8 xs) (sym e) (IsUtf8-append (93 ∷ []) (93 ∷ 62 ∷ []) (ascii_one 93 (omega arith)) (IsUtf8-append (93 ∷ []) (62 ∷ []) (ascii_one 93 (omega arith)) (ascii_one 62 (omega arith))))

rest_text : (front rest : List ℕ) → IsUtf8 (front ++ rest) → IsUtf8 front → IsUtf8 rest
rest_text front rest u v =
    let bs = front ++ rest in
    let cut : IsUtf8 (take (length front) bs) = subst (λ xs. IsUtf8 xs) (sym (take_at front rest (length front) refl)) v in
    let within : length front ≤ length bs = (let k = length-append front rest in omega arith) in
    subst (λ xs. IsUtf8 xs) (drop_at front rest (length front) refl) (IsUtf8-drop bs (length front) u (IsCharBoundary-from_take bs (length front) u within cut))

-- what the parts give is what is read
no_faults : (reading : Reading) (at : ℕ) → all_faults reading at [] ≡ []
unfolding cut_by
no_faults reading at = refl

pub reads_sound : (reading : Reading) (at : ℕ) (bytes string : List ℕ) (faults : List Fault) → IsReadInParts reading at bytes string faults → IsUtf8 bytes →
    (string ≡ string_of reading bytes) × (faults ≡ all_faults reading at bytes)
reads_sound reading at bytes string faults (finished _ _ _ _ e s f) u =
    (s ∙ sym (ap (string_of reading) e ∙ string_nil reading), f ∙ sym (ap (all_faults reading at) e ∙ no_faults reading at))
reads_sound reading at bytes string faults (goes_on _ _ _ _ front rest first others flaw later part more e s f) u =
    let rest_utf8 = rest_text front rest (subst (λ xs. IsUtf8 xs) e u) (part_text reading rest front first flaw part) in
    let on = part_goes_on reading rest front first flaw rest_utf8 part in
    let behind = reads_sound reading (at + length front) rest others later more rest_utf8 in (
      s ∙ ap (λ xs. first ++ xs) behind.0 ∙ sym (ap (string_of reading) e ∙ on.strings),
      f ∙ ap (λ xs. bare_faults flaw (record { from = at; to = at + length front }) ++ xs) behind.1 ∙ sym (ap (all_faults reading at) e ∙ on.faults at),
    )

-- some part stands at the front of each text
record SomePart (reading : Reading) (bytes : List ℕ) : Type 0 where
  front : List ℕ
  rest : List ℕ
  string : List ℕ
  flaw : Option Kind
  part : IsPart reading rest front string flaw
  is : bytes ≡ front ++ rest
  some : 0 < length front
  utf8 : IsUtf8 rest

module _ (reading : Reading) (bytes : List ℕ) (u : IsUtf8 bytes) where
  from_part : (front rest string : List ℕ) (flaw : Option Kind) → IsPart reading rest front string flaw → bytes ≡ front ++ rest → 0 < length front → SomePart reading bytes
  from_part front rest string flaw part e lt =
      record { front = front; rest = rest; string = string; flaw = flaw; part = part; is = e; some = lt; utf8 = rest_text front rest (subst (λ xs. IsUtf8 xs) e u) (part_text reading rest front string flaw part) }

  return_part : (rest : List ℕ) → bytes ≡ 13 ∷ rest → SomePart reading bytes
  return_part [] e = from_part (13 ∷ []) [] (character_in reading 10) None (return refl (λ t. absurd (let bad : [] ≡ 10 ∷ t.0 = t.1 in cc)) refl refl) e (omega arith)
  return_part (b ∷ rest) e =
      elim (cases_eq b 10) [
        | inl k ↦ from_part (13 ∷ 10 ∷ []) rest (character_in reading 10) None (return_and_feed refl refl refl) (e ∙ ap (λ x. 13 ∷ x ∷ rest) k) (omega arith)
        | inr k ↦ from_part (13 ∷ []) (b ∷ rest) (character_in reading 10) None (return refl (λ t. (let bad : b ∷ rest ≡ 10 ∷ t.0 = t.1 in k cc)) refl refl) e (omega arith)
      ]

  reference_part : (rest : List ℕ) → IsUtf8 rest → reads_references reading ≡ true → bytes ≡ 38 ∷ rest → SomePart reading bytes
  reference_part rest v r e =
      elim (cases_Bool (nat_lt 0 (reference_body_len rest) && slice_index rest (reference_body_len rest) == 59)) [
        | inl h ↦ (let t = reference_found rest v h in
            let whole : bytes ≡ (38 ∷ (t.body ++ 59 ∷ [])) ++ t.rest = e ∙ ap (λ xs. 38 ∷ xs) (t.is ∙ sym (append_assoc t.body (59 ∷ []) t.rest)) in
            by_name t.body t.rest t.shape whole (character_named t.body) refl)
        | inr h ↦ from_part (38 ∷ []) rest [] (Some BadReference) (ampersand r (λ body shape t. nothing_there body t.0 shape (no_reference rest h) (t.1 ∙ append_assoc body (59 ∷ []) t.0)) refl refl refl) e (omega arith)
      ]
    where
      nothing_there : (body more : List ℕ) → HasShape body → reference_len rest ≡ 0 → rest ≡ body ++ 59 ∷ more → ⊥
      nothing_there body more shape k e = let m = reference_measured body more shape in let n = ap reference_len e in absurd (omega arith)

      by_name : (body more : List ℕ) → HasShape body → bytes ≡ (38 ∷ (body ++ 59 ∷ [])) ++ more → (found : Option ℕ) → character_named body ≡ found → SomePart reading bytes
      by_name body more shape e (Some c) k = from_part (38 ∷ (body ++ 59 ∷ [])) more (encode c) None (reference r body c (named_denotes body c (shape_cases body shape) k) refl refl refl) e (omega arith)
      by_name body more shape e None k =
          from_part (38 ∷ (body ++ 59 ∷ [])) more [] (Some BadReference) (unknown r body shape (λ c d. (let bad : None ≡ Some c = sym k ∙ denotes_named body c d in cc)) refl refl refl) e (omega arith)

  character_part : (c : ℕ) (rest : List ℕ) → scalar c ≡ true → IsOrdinary reading c rest → bytes ≡ encode c ++ rest → SomePart reading bytes
  character_part c rest ok o e =
      from_part (encode c) rest (character_in reading c) (flaw_of c) (character c (and_from (scalar c) true ok refl) refl o refl refl) e (encode_some c)

ordinary_part : (reading : Reading) (bytes : List ℕ) → IsUtf8 bytes → (c : ℕ) (rest : List ℕ) → IsUtf8 rest → scalar c ≡ true → c ≢ 13 → bytes ≡ encode c ++ rest → SomePart reading bytes
ordinary_part Plain bytes u c rest v ok n e =
    character_part Plain bytes u c rest ok (record { no_return = n; no_ampersand = λ r. absurd (let bad : false ≡ true = r in cc); no_brackets = λ r. absurd (let bad : Plain ≡ Text = r in cc) }) e
ordinary_part Text bytes u c rest v ok n e =
    elim (cases_eq c 38) [
      | inl k ↦ reference_part Text bytes u rest v refl (e ∙ ap (λ x. encode x ++ rest) k ∙ ap (λ xs. xs ++ rest) (encode_ascii 38 (omega arith)))
      | inr k ↦ elim (cases_Bool (starts_with nat_eq bytes (codes "]]>"))) [
        | inl h ↦ from_part Text bytes u (codes "]]>") (drop 3 bytes) (codes "]]>") (Some BadText) (brackets refl refl refl refl) ((starts_is Decides-eqb bytes (codes "]]>") (starts_with nat_eq bytes (codes "]]>")) refl).0 h) (omega arith)
        | inr h ↦ character_part Text bytes u c rest ok (record {
          no_return = n;
          no_ampersand = λ r. k;
          no_brackets = λ r t. absurd (let bad : true ≡ false = sym ((starts_is Decides-eqb bytes (codes "]]>") (starts_with nat_eq bytes (codes "]]>")) refl).1 t.0 (e ∙ t.1)) ∙ h in cc);
        }) e
      ]
    ]
ordinary_part Value bytes u c rest v ok n e =
    elim (cases_eq c 38) [
      | inl k ↦ reference_part Value bytes u rest v refl (e ∙ ap (λ x. encode x ++ rest) k ∙ ap (λ xs. xs ++ rest) (encode_ascii 38 (omega arith)))
      | inr k ↦ character_part Value bytes u c rest ok (record { no_return = n; no_ampersand = λ r. k; no_brackets = λ r. absurd (let bad : Value ≡ Text = r in cc) }) e
    ]

some_part : (reading : Reading) (bytes : List ℕ) → IsUtf8 bytes → 0 < length bytes → SomePart reading bytes
some_part reading bytes u lt = on u.0 u.1.0 u.1.1
  where
    on : (cs : List ℕ) → scalars cs ≡ true → encodes cs ≡ bytes → SomePart reading bytes
    on [] s e = absurd (let k = ap length e in omega arith)
    on (c ∷ cs) s e =
        let parts = and_parts (scalar c) (scalars cs) s in
        elim (cases_eq c 13) [
          | inl k ↦ return_part reading bytes u (encodes cs) (sym e ∙ ap (λ x. encode x ++ encodes cs) k ∙ ap (λ xs. xs ++ encodes cs) (encode_ascii 13 (omega arith)))
          | inr k ↦ ordinary_part reading bytes u c (encodes cs) (cs, (parts.1, refl)) parts.0 k (sym e)
        ]

pub record SomeReading (reading : Reading) (at : ℕ) (bytes : List ℕ) : Type 0 where
  pub string : List ℕ
  pub faults : List Fault
  pub reads : IsReadInParts reading at bytes string faults

pub some_reading : (n : ℕ) (reading : Reading) (at : ℕ) (bytes : List ℕ) → length bytes ≤ n → IsUtf8 bytes → SomeReading reading at bytes
some_reading n reading at [] le u = record { string = []; faults = []; reads = finished at [] [] [] refl refl refl }
some_reading zero reading at (b ∷ bs) le u = absurd (omega arith)
some_reading (suc n) reading at (b ∷ bs) le u =
    let p = some_part reading (b ∷ bs) u (omega arith) in
    let size : length (b ∷ bs) ≡ length p.front + length p.rest = ap length p.is ∙ length-append p.front p.rest in
    let lt = p.some in
    let fits : length p.rest ≤ n = omega arith in
    let r = some_reading n reading (at + length p.front) p.rest fits p.utf8 in
    record {
      string = p.string ++ r.string;
      faults = bare_faults p.flaw (record { from = at; to = at + length p.front }) ++ r.faults;
      reads = goes_on at (b ∷ bs) (p.string ++ r.string) _ p.front p.rest p.string r.string p.flaw r.faults p.part r.reads p.is refl refl;
    }
