-- One part of a text, and the piece that is read for it.
use Rattle.std.proofs.Common.{◌≡◌, ◌≢◌, ℕ, suc, ◌+◌, ◌-◌, ◌<◌, IsUtf8, append_assoc, Bool, true, false, cond, inl, inr, Option, Some, None, List, [], ◌∷◌, ◌++◌, length, take, drop, refl, ap, subst, sym, ◌∙◌, arith, append-nil, codes}
use Rattle.std.specs.Prelude.{◌&&◌, ◌==◌, nat_eq, nat_lt, slice_index, is_some}
use Rattle.std.specs.List.{starts_with, flat_map}
use Rattle.std.specs.Str.{continuation_len}
use lib.Utf8.{encode, scalar}
use Rattle.std.proofs.lemmas.Bool.{cases_Bool, and_parts, and_left, and_right, eqb-true, ne_eqb}
use Rattle.std.proofs.lemmas.Bool.Decides.{Decides-eqb}
use Rattle.std.proofs.lemmas.Slice.Eq.{starts_is}
use Rattle.std.proofs.lemmas.List.{take_at, drop_at, length-append}
use Rattle.std.proofs.lemmas.Str.{encode_ascii, encode_same, len_utf8_bounds, length-encode}
use Rattle.nx_base.specs.Characters.{is_char, is_space}
use Rattle.nx_base.specs.declared.fault.Fault.{Fault}
use Rattle.nx_base.specs.declared.fault.Kind.{Kind}
use Rattle.nx_base.specs.declared.fault.Kind.TheVariants.{BadChar, BadReference, BadText}
use Rattle.nx_events.specs.Utf8.{front_char}
use Rattle.nx_events.specs.References.{reference_body_len, reference_len, numbered, character_named, referenced, spelled}
use Rattle.nx_events.specs.Faults.{bare_faults}
use Rattle.nx_events.specs.Strings.{line_piece_len, text_piece_len, piece_len, pieces, line_string_of, text_string_of, value_string_of, piece_string, string_of}
use Rattle.nx_events.specs.CharacterFaults.{character_flaw, tag_flaw, text_flaw, piece_flaw, piece_faults}
use Rattle.nx_events.specs.StringsRead.{Begins, reads_references, character_in, flaw_of, IsOrdinary, IsPart, return_and_feed, return, character, reference, unknown, ampersand, brackets}
use Rattle.nx_events.specs.declared.reading.Reading.{Reading}
use Rattle.nx_events.specs.declared.reading.Reading.TheVariants.{Plain, Text, Value}
use Rattle.nx_events.proofs.Pieces.{cut_first, string_step}
use Rattle.nx_events.proofs.Texts.{lead_len, space_small}
use Rattle.nx_events.specs.ReferenceForm.{HasShape}
use Rattle.nx_events.proofs.FrontChars.{front_is, head_is}
use Rattle.nx_events.proofs.ReferenceForms.{shape_cases, reference_measured, reference_found, no_reference}
use Rattle.nx_events.proofs.ReferenceValues.{denotes_named, named_denotes, denotes_shape}

-- what is wrong in a text, by place
abbrev pub all_faults : Reading → ℕ → List ℕ → List Fault
all_faults reading at bytes = flat_map (piece_faults reading) (pieces reading at bytes)

-- the front of a text is read as one piece
pub record IsFrontPiece (reading : Reading) (rest front string : List ℕ) (flaw : Option Kind) : Type 0 where
  pub size : piece_len reading (front ++ rest) ≡ length front
  pub some : 0 < length front
  pub string_is : string ≡ piece_string reading front
  pub flaw_is : flaw ≡ piece_flaw reading front

-- so what is read goes on behind it
pub record GoesOn (reading : Reading) (rest front string : List ℕ) (flaw : Option Kind) : Type 0 where
  pub strings : string_of reading (front ++ rest) ≡ string ++ string_of reading rest
  pub faults : (at : ℕ) → all_faults reading at (front ++ rest) ≡ bare_faults flaw (record { from = at; to = at + length front }) ++ all_faults reading (at + length front) rest

pub piece_goes_on : (reading : Reading) (rest front string : List ℕ) (flaw : Option Kind) → IsFrontPiece reading rest front string flaw → GoesOn reading rest front string flaw
piece_goes_on reading rest front string flaw p =
    let xs = front ++ rest in
    let piece : front ≡ take (piece_len reading xs) xs = sym (ap (λ n. take n xs) p.size ∙ take_at front rest (length front) refl) in
    let left : drop (length front) xs ≡ rest = drop_at front rest (length front) refl in
    record {
      strings = string_step reading xs front piece p.some ∙ ap (λ ys. piece_string reading front ++ string_of reading ys) left ∙ ap (λ ys. ys ++ string_of reading rest) (sym p.string_is);
      faults = λ at. ap (flat_map (piece_faults reading)) (cut_first (piece_len reading) at xs front piece p.some)
          ∙ ap (λ ys. bare_faults (piece_flaw reading front) (record { from = at; to = at + length front }) ++ all_faults reading (at + length front) ys) left
          ∙ ap (λ flaw. bare_faults flaw (record { from = at; to = at + length front }) ++ all_faults reading (at + length front) rest) (sym p.flaw_is);
    }

-- line ends
pub return_and_feed_piece : (reading : Reading) (rest : List ℕ) → IsFrontPiece reading rest (13 ∷ 10 ∷ []) (character_in reading 10) None
unfolding line_piece_len text_piece_len line_string_of text_string_of value_string_of character_flaw tag_flaw text_flaw front_char is_char is_space encode
return_and_feed_piece Plain rest = record { size = refl; some = omega arith; string_is = refl; flaw_is = refl }
return_and_feed_piece Text rest = record { size = refl; some = omega arith; string_is = refl; flaw_is = refl }
return_and_feed_piece Value rest = record { size = refl; some = omega arith; string_is = refl; flaw_is = refl }

no_feed : (rest : List ℕ) → (Begins (10 ∷ []) rest → ⊥) → (slice_index rest 0 == 10) ≡ false
no_feed [] h = refl
no_feed (b ∷ rest) h = ne_eqb b 10 (λ e. h (rest, ap (λ x. x ∷ rest) e))

pub return_piece : (reading : Reading) (rest : List ℕ) → (Begins (10 ∷ []) rest → ⊥) → IsFrontPiece reading rest (13 ∷ []) (character_in reading 10) None
unfolding line_piece_len text_piece_len line_string_of text_string_of value_string_of character_flaw tag_flaw text_flaw front_char is_char is_space encode
return_piece Plain rest h = record { size = ap (λ (t : Bool). cond t 2 1) (no_feed rest h); some = omega arith; string_is = refl; flaw_is = refl }
return_piece Text rest h = record { size = ap (λ (t : Bool). cond t 2 1) (no_feed rest h); some = omega arith; string_is = refl; flaw_is = refl }
return_piece Value rest h = record { size = ap (λ (t : Bool). cond t 2 1) (no_feed rest h); some = omega arith; string_is = refl; flaw_is = refl }

-- a character
same_small : (d b : ℕ) → d < 128 → (b == d) ≡ true → b < 128
same_small d b h e = let k = eqb-true b d e in omega arith

head_other : (c d : ℕ) (rest : List ℕ) → d < 128 → c ≢ d → (slice_index (encode c ++ rest) 0 == d) ≡ false
head_other c d rest h n = head_is (λ b. b == d) c rest (λ b e. same_small d b h e) ∙ ne_eqb c d n

own_head : (c : ℕ) → slice_index (encode c ++ []) 0 ≡ slice_index (encode c) 0
own_head c = ap (λ xs. slice_index xs 0) (append-nil (encode c))

line_len : (b : ℕ) (bs : List ℕ) → (b == 13) ≡ false → line_piece_len (b ∷ bs) ≡ suc (continuation_len b)
unfolding line_piece_len
line_len b bs h = ap (λ (t : Bool). cond (t && slice_index bs 0 == 10) 2 (suc (continuation_len b))) h

text_len : (b : ℕ) (bs : List ℕ) → (b == 38) ≡ false → starts_with nat_eq (b ∷ bs) (codes "]]>") ≡ false → text_piece_len (b ∷ bs) ≡ line_piece_len (b ∷ bs)
unfolding text_piece_len
text_len b bs h k =
    ap (λ (t : Bool). cond t (suc (reference_len bs)) (cond (starts_with nat_eq (b ∷ bs) (codes "]]>")) 3 (line_piece_len (b ∷ bs)))) h
    ∙ ap (λ (t : Bool). cond t 3 (line_piece_len (b ∷ bs))) k

pub encode_some : (c : ℕ) → 0 < length (encode c)
encode_some c = let some = length-encode c in let few = (len_utf8_bounds c).0 in omega arith

module _ (c : ℕ) (rest : List ℕ) (ok : scalar c ≡ true) (no_return : c ≢ 13) where
  line_size : line_piece_len (encode c ++ rest) ≡ length (encode c)
  line_size = by_bytes (encode c ++ rest) refl
    where
      by_bytes : (xs : List ℕ) → encode c ++ rest ≡ xs → line_piece_len xs ≡ length (encode c)
      by_bytes [] e = absurd (let k = ap length e in let more = length-append (encode c) rest in let some = encode_some c in omega arith)
      by_bytes (b ∷ bs) e =
          line_len b bs (ap (λ xs. slice_index xs 0 == 13) (sym e) ∙ head_other c 13 rest (omega arith) no_return) ∙ sym (lead_len c b bs rest e)

  text_size : c ≢ 38 → starts_with nat_eq (encode c ++ rest) (codes "]]>") ≡ false → text_piece_len (encode c ++ rest) ≡ length (encode c)
  text_size n m = by_bytes (encode c ++ rest) refl
    where
      by_bytes : (xs : List ℕ) → encode c ++ rest ≡ xs → text_piece_len xs ≡ length (encode c)
      by_bytes [] e = absurd (let k = ap length e in let more = length-append (encode c) rest in let some = encode_some c in omega arith)
      by_bytes (b ∷ bs) e =
          text_len b bs (ap (λ xs. slice_index xs 0 == 38) (sym e) ∙ head_other c 38 rest (omega arith) n) (ap (λ xs. starts_with nat_eq xs (codes "]]>")) (sym e) ∙ m)
          ∙ ap line_piece_len (sym e) ∙ line_size

  line_string : line_string_of (encode c) ≡ encode c
  unfolding line_string_of
  line_string = ap (λ (t : Bool). cond t (10 ∷ []) (encode c)) (ap (λ b. b == 13) (sym (own_head c)) ∙ head_other c 13 [] (omega arith) no_return)

  text_string : c ≢ 38 → text_string_of (encode c) ≡ encode c
  unfolding text_string_of
  text_string n = ap (λ (t : Bool). cond t (spelled (referenced (encode c))) (line_string_of (encode c))) (ap (λ b. b == 38) (sym (own_head c)) ∙ head_other c 38 [] (omega arith) n) ∙ line_string

  value_string : c ≢ 38 → value_string_of (encode c) ≡ character_in Value c
  unfolding value_string_of
  value_string n =
      ap (λ (t : Bool). cond t (32 ∷ []) (text_string_of (encode c))) (ap is_space (sym (own_head c)) ∙ head_is is_space c [] space_small)
      ∙ ap (λ xs. cond (is_space c) (32 ∷ []) xs) (text_string n)

  line_flaw : character_flaw (encode c) ≡ flaw_of c
  unfolding character_flaw
  line_flaw = ap (λ d. cond (is_char d) None (Some BadChar)) (ap front_char (sym (append-nil (encode c))) ∙ front_is c [] ok)

  value_flaw : c ≢ 38 → tag_flaw (encode c) ≡ flaw_of c
  unfolding tag_flaw
  value_flaw n = ap (λ (t : Bool). cond t (cond (is_some (referenced (encode c))) None (Some BadReference)) (character_flaw (encode c))) (ap (λ b. b == 38) (sym (own_head c)) ∙ head_other c 38 [] (omega arith) n) ∙ line_flaw

  short : ((slice_index (encode c) 0 == 93) && (length (encode c) == 3)) ≡ false
  short =
      elim (cases_Bool (c == 93)) [
        | inl e ↦ and_right (slice_index (encode c) 0 == 93) (length (encode c) == 3) (ap (λ xs. length xs == 3) (ap encode (eqb-true c 93 e) ∙ encode_ascii 93 (omega arith)))
        | inr e ↦ and_left (slice_index (encode c) 0 == 93) (length (encode c) == 3) (ap (λ b. b == 93) (sym (own_head c)) ∙ head_is (λ b. b == 93) c [] (λ b k. same_small 93 b (omega arith) k) ∙ e)
      ]

  text_flaw_is : c ≢ 38 → text_flaw (encode c) ≡ flaw_of c
  unfolding text_flaw
  text_flaw_is n = ap (λ (t : Bool). cond t (Some BadText) (tag_flaw (encode c))) short ∙ value_flaw n

-- no `]]>` in character data
no_mark : (mark xs : List ℕ) → (Begins mark xs → ⊥) → starts_with nat_eq xs mark ≡ false
no_mark mark xs h =
    elim (cases_Bool (starts_with nat_eq xs mark)) [
      | inl e ↦ absurd (h (drop (length mark) xs, (starts_is Decides-eqb xs mark (starts_with nat_eq xs mark) refl).0 e))
      | inr e ↦ e
    ]

-- a value may have one, which is passed as one piece
value_brackets : (more : List ℕ) → GoesOn Value (93 ∷ 62 ∷ more) (93 ∷ []) (93 ∷ []) None
unfolding line_piece_len text_piece_len line_string_of text_string_of value_string_of character_flaw tag_flaw front_char is_char is_space
value_brackets more =
    let whole = piece_goes_on Value more (93 ∷ 93 ∷ 62 ∷ []) (93 ∷ 93 ∷ 62 ∷ []) None (record { size = refl; some = omega arith; string_is = refl; flaw_is = refl }) in
    let second = piece_goes_on Value (62 ∷ more) (93 ∷ []) (93 ∷ []) None (record { size = refl; some = omega arith; string_is = refl; flaw_is = refl }) in
    let third = piece_goes_on Value more (62 ∷ []) (62 ∷ []) None (record { size = refl; some = omega arith; string_is = refl; flaw_is = refl }) in
    record {
      strings = whole.strings ∙ ap (λ xs. 93 ∷ xs) (sym (second.strings ∙ ap (λ xs. 93 ∷ xs) third.strings));
      faults = λ at. (let e : at + 3 ≡ at + 1 + 1 + 1 = omega arith in whole.faults at ∙ ap (λ k. all_faults Value k more) e ∙ sym (second.faults (at + 1) ∙ third.faults (at + 1 + 1)));
    }

character_goes_on : (reading : Reading) (c : ℕ) (rest : List ℕ) → scalar c ≡ true → IsOrdinary reading c rest → GoesOn reading rest (encode c) (character_in reading c) (flaw_of c)
unfolding encode is_space is_char
character_goes_on Plain c rest ok o =
    piece_goes_on Plain rest (encode c) (encode c) (flaw_of c) (record {
      size = line_size c rest ok o.no_return;
      some = encode_some c;
      string_is = sym (line_string c rest ok o.no_return);
      flaw_is = sym (line_flaw c rest ok o.no_return);
    })
character_goes_on Text c rest ok o =
    piece_goes_on Text rest (encode c) (encode c) (flaw_of c) (record {
      size = text_size c rest ok o.no_return (o.no_ampersand refl) (no_mark (codes "]]>") (encode c ++ rest) (o.no_brackets refl));
      some = encode_some c;
      string_is = sym (text_string c rest ok o.no_return (o.no_ampersand refl));
      flaw_is = sym (text_flaw_is c rest ok o.no_return (o.no_ampersand refl));
    })
character_goes_on Value c rest ok o =
    elim (cases_Bool (starts_with nat_eq (encode c ++ rest) (codes "]]>"))) [
      | inl e ↦ (let whole : encode c ++ rest ≡ 93 ∷ (93 ∷ 62 ∷ drop 3 (encode c ++ rest)) = (starts_is Decides-eqb (encode c ++ rest) (codes "]]>") (starts_with nat_eq (encode c ++ rest) (codes "]]>")) refl).0 e in
          let ascii : encode 93 ≡ 93 ∷ [] = encode_ascii 93 (omega arith) in
          let same = encode_same c 93 rest (93 ∷ 62 ∷ drop 3 (encode c ++ rest)) (whole ∙ ap (λ xs. xs ++ (93 ∷ 62 ∷ drop 3 (encode c ++ rest))) (sym ascii)) in
          at_bracket c rest (drop 3 (encode c ++ rest)) same.0 same.1)
      | inr e ↦ piece_goes_on Value rest (encode c) (character_in Value c) (flaw_of c) (record {
        size = text_size c rest ok o.no_return (o.no_ampersand refl) e;
        some = encode_some c;
        string_is = sym (value_string c rest ok o.no_return (o.no_ampersand refl));
        flaw_is = sym (value_flaw c rest ok o.no_return (o.no_ampersand refl));
      })
    ]
  where
    bracket : (more : List ℕ) → GoesOn Value (93 ∷ 62 ∷ more) (encode 93) (character_in Value 93) (flaw_of 93)
    bracket more = value_brackets more

    at_bracket : (c : ℕ) (rest more : List ℕ) → c ≡ 93 → rest ≡ 93 ∷ 62 ∷ more → GoesOn Value rest (encode c) (character_in Value c) (flaw_of c)
    at_bracket c rest more e f =
        subst (λ xs. GoesOn Value xs (encode c) (character_in Value c) (flaw_of c)) (sym f)
        (subst (λ d. GoesOn Value (93 ∷ 62 ∷ more) (encode d) (character_in Value d) (flaw_of d)) (sym e) (bracket more))

-- references
referenced_is : (body : List ℕ) → referenced (38 ∷ (body ++ 59 ∷ [])) ≡ character_named body
unfolding referenced
referenced_is body =
    let size : suc (length (body ++ 59 ∷ [])) - 2 ≡ length body = (let k = length-append body (59 ∷ []) in omega arith) in
    ap (λ n. character_named (take n (body ++ 59 ∷ []))) size ∙ ap character_named (take_at body (59 ∷ []) (length body) refl)

reference_size : (body rest : List ℕ) → HasShape body → text_piece_len ((38 ∷ (body ++ 59 ∷ [])) ++ rest) ≡ length (38 ∷ (body ++ 59 ∷ []))
unfolding text_piece_len
reference_size body rest h =
    let more : length (body ++ 59 ∷ []) ≡ suc (length body) = (let k = length-append body (59 ∷ []) in omega arith) in
    ap (λ xs. suc (reference_len xs)) (append_assoc body (59 ∷ []) rest) ∙ ap suc (reference_measured body rest h ∙ sym more)

spelled_some : (c : ℕ) → encode c ≡ spelled (Some c)
unfolding spelled
spelled_some c = refl

spelled_none : [] ≡ spelled None
unfolding spelled
spelled_none = refl

reference_goes_on : (reading : Reading) (rest body string : List ℕ) (found : Option ℕ) (flaw : Option Kind) → reads_references reading ≡ true → HasShape body → character_named body ≡ found →
    string ≡ spelled found → flaw ≡ cond (is_some found) None (Some BadReference) → GoesOn reading rest (38 ∷ (body ++ 59 ∷ [])) string flaw
unfolding text_string_of value_string_of tag_flaw text_flaw is_space
reference_goes_on Plain rest body string found flaw r h e s f = absurd (let bad : false ≡ true = r in cc)
reference_goes_on Text rest body string found flaw r h e s f =
    piece_goes_on Text rest (38 ∷ (body ++ 59 ∷ [])) string flaw (record {
      size = reference_size body rest h;
      some = omega arith;
      string_is = s ∙ ap spelled (sym (referenced_is body ∙ e));
      flaw_is = f ∙ ap (λ o. cond (is_some o) None (Some BadReference)) (sym (referenced_is body ∙ e));
    })
reference_goes_on Value rest body string found flaw r h e s f =
    piece_goes_on Value rest (38 ∷ (body ++ 59 ∷ [])) string flaw (record {
      size = reference_size body rest h;
      some = omega arith;
      string_is = s ∙ ap spelled (sym (referenced_is body ∙ e));
      flaw_is = f ∙ ap (λ o. cond (is_some o) None (Some BadReference)) (sym (referenced_is body ∙ e));
    })

ampersand_goes_on : (reading : Reading) (rest : List ℕ) → reads_references reading ≡ true → reference_len rest ≡ 0 → GoesOn reading rest (38 ∷ []) [] (Some BadReference)
unfolding text_piece_len text_string_of value_string_of tag_flaw text_flaw is_space referenced character_named numbered spelled
ampersand_goes_on Plain rest r e = absurd (let bad : false ≡ true = r in cc)
ampersand_goes_on Text rest r e = piece_goes_on Text rest (38 ∷ []) [] (Some BadReference) (record { size = ap suc e; some = omega arith; string_is = refl; flaw_is = refl })
ampersand_goes_on Value rest r e = piece_goes_on Value rest (38 ∷ []) [] (Some BadReference) (record { size = ap suc e; some = omega arith; string_is = refl; flaw_is = refl })

no_shape : (rest : List ℕ) → IsUtf8 rest → ((body : List ℕ) → HasShape body → Begins (body ++ 59 ∷ []) rest → ⊥) → reference_len rest ≡ 0
no_shape rest u h =
    elim (cases_Bool (nat_lt 0 (reference_body_len rest) && slice_index rest (reference_body_len rest) == 59)) [
      | inl e ↦ (let t = reference_found rest u e in absurd (h t.body t.shape (t.rest, t.is ∙ sym (append_assoc t.body (59 ∷ []) t.rest))))
      | inr e ↦ no_reference rest e
    ]

-- `]]>` in character data
text_brackets : (rest : List ℕ) → GoesOn Text rest (93 ∷ 93 ∷ 62 ∷ []) (93 ∷ 93 ∷ 62 ∷ []) (Some BadText)
unfolding text_piece_len text_string_of line_string_of text_flaw
text_brackets rest = piece_goes_on Text rest (93 ∷ 93 ∷ 62 ∷ []) (93 ∷ 93 ∷ 62 ∷ []) (Some BadText) (record { size = refl; some = omega arith; string_is = refl; flaw_is = refl })

no_name : (found : Option ℕ) → ((c : ℕ) → found ≡ Some c → ⊥) → found ≡ None
no_name None h = refl
no_name (Some c) h = absurd (h c refl)

moved_to : (reading : Reading) (rest front xs string ys : List ℕ) (flaw other : Option Kind) → front ≡ xs → string ≡ ys → flaw ≡ other →
    GoesOn reading rest xs ys other → GoesOn reading rest front string flaw
moved_to reading rest front xs string ys flaw other e f g h =
    subst (λ x. GoesOn reading rest x string flaw) (sym e) (subst (λ x. GoesOn reading rest xs x flaw) (sym f) (subst (λ x. GoesOn reading rest xs ys x) (sym g) h))

-- whatever part stands at the front, it is read, and the rest behind it
pub part_goes_on : (reading : Reading) (rest front string : List ℕ) (flaw : Option Kind) → IsUtf8 rest → IsPart reading rest front string flaw → GoesOn reading rest front string flaw
part_goes_on reading rest front string flaw u (return_and_feed e s f) =
    moved_to reading rest front _ string _ flaw _ e s f (piece_goes_on reading rest (13 ∷ 10 ∷ []) (character_in reading 10) None (return_and_feed_piece reading rest))
part_goes_on reading rest front string flaw u (return e n s f) =
    moved_to reading rest front _ string _ flaw _ e s f (piece_goes_on reading rest (13 ∷ []) (character_in reading 10) None (return_piece reading rest n))
part_goes_on reading rest front string flaw u (character c ok e o s f) =
    moved_to reading rest front _ string _ flaw _ e s f (character_goes_on reading c rest (and_parts (scalar c) true ok).0 o)
part_goes_on reading rest front string flaw u (reference r body c d e s f) =
    moved_to reading rest front _ string _ flaw _ e s f (reference_goes_on reading rest body (encode c) (Some c) None r (denotes_shape body c d) (denotes_named body c d) (spelled_some c) refl)
part_goes_on reading rest front string flaw u (unknown r body h n e s f) =
    moved_to reading rest front _ string _ flaw _ e s f
    (reference_goes_on reading rest body [] None (Some BadReference) r h (no_name (character_named body) (λ c k. n c (named_denotes body c (shape_cases body h) k))) spelled_none refl)
part_goes_on reading rest front string flaw u (ampersand r n e s f) =
    moved_to reading rest front _ string _ flaw _ e s f (ampersand_goes_on reading rest r (no_shape rest u n))
part_goes_on reading rest front string flaw u (brackets r e s f) =
    subst (λ x. GoesOn x rest front string flaw) (sym r) (moved_to Text rest front _ string _ flaw _ e s f (text_brackets rest))
