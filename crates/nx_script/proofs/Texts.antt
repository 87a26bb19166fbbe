-- Texts between quotes, as their pieces are read.
use Rattle.std.proofs.Common.{◌≡◌, ◌≢◌, ℕ, zero, suc, ◌+◌, ◌-◌, ◌<◌, ◌≤◌, true, false, cond, eqb, ltb, List, [], ◌∷◌, ◌++◌, length, get_or, take, drop, option_map, Option, Some, None, Err, refl, sym, ap, subst, ◌∙◌, arith, inl, inr, append_assoc, codes}
use lib.Utf8.{scalar}
use Rattle.std.specs.Prelude.{encode_utf8}
use Rattle.std.specs.Char.{digit_value}
use Rattle.std.specs.List.{AllByRecursion, flat_map, prefix_len}
use Rattle.std.specs.Str.Parse.{AllDigits, IsNumeral, digits_value}
use Rattle.std.proofs.lemmas.List.{append-nil, take_all, length-append, get_or_at, take_at, drop_at, drop-drop, take-append-drop}
use Rattle.std.proofs.lemmas.List.Folds.{length-prefix_len}
use Rattle.std.proofs.lemmas.Option.{some_pair_parts, same_Some, cond_some}
use Rattle.std.specs.Str.{IsUtf8}
use Rattle.std.proofs.lemmas.Str.{IsUtf8-take, IsUtf8-drop, IsUtf8-append, IsUtf8-encode, IsUtf8-from_ascii, IsCharBoundary-before_ascii, IsCharBoundary-after_ascii}
use Rattle.std.proofs.lemmas.Str.Ascii.{IsAscii-nil, IsAscii-cons}
use Rattle.std.proofs.lemmas.Bool.{eqb-true, eqb-false, ne_eqb, lt-ltb, ltb-true, le-ltb, ltb-false}
use Rattle.nx_script.specs.declared.read.ScriptFault.{ScriptFault}
use Rattle.nx_script.specs.declared.read.ScriptFault.TheVariants.{BadCommand, NoMemory}
use Rattle.nx_script.specs.Grammar.{Piece, Itself, Newline, Tab, Return, Backslash, Quote, Code, IsCode, IsPiece, spelled, meant, IsText, IsGap}
use Rattle.nx_script.specs.Reading.{Finds, ◌>>=◌, onto, escaped_by, is_hex_digit, closed_at, code_at, braced_at, scalar_at, escape_at, piece_at, pieces_within, pieces_at, after_gap, after_quote, text_at}
use Rattle.nx_script.proofs.Blanks.{chosen, found_step, Pass, prefix_len_is, front_passes, after_gap_is, after_gap_takes}

-- ---- the code of a character

code_test : (digits : List ℕ) → AllDigits 16 digits → Pass is_hex_digit digits
code_test [] h = tt
code_test (c ∷ digits) h = (lt-ltb (digit_value c) 16 h.0, code_test digits h.1)

test_code : (digits : List ℕ) → Pass is_hex_digit digits → AllDigits 16 digits
test_code [] h = tt
test_code (c ∷ digits) h = (ltb-true (digit_value c) 16 h.0, test_code digits h.1)

pub hex_digits_at_front : (bytes : List ℕ) → AllDigits 16 (take (prefix_len is_hex_digit bytes) bytes)
hex_digits_at_front bytes = test_code (take (prefix_len is_hex_digit bytes) bytes) (front_passes is_hex_digit bytes)

closed_at_takes : (code found : ℕ) (bytes rest : List ℕ) → closed_at code bytes ≡ Some (found, rest) → (bytes ≡ 125 ∷ rest) × (code ≡ found)
unfolding closed_at
closed_at_takes code found [] rest e = absurd cc
closed_at_takes code found (byte ∷ bytes) rest e =
    let parts = cond_some (eqb byte 125) (code, bytes) (found, rest) e in
    let pair = some_pair_parts code found bytes rest (ap (λ (x : ℕ × List ℕ). Some x) parts.1) in
    (ap (λ b. b ∷ bytes) (eqb-true byte 125 parts.0) ∙ ap (λ r. 125 ∷ r) pair.1, pair.0)

closed_at_is : (code : ℕ) (rest : List ℕ) → closed_at code (125 ∷ rest) ≡ Some (code, rest)
unfolding closed_at
closed_at_is code rest = refl

-- digits that spell a code, behind which a brace is closed
record IsBraced (bytes rest : List ℕ) (code : ℕ) : Type 0 where
  digits : List ℕ
  bytes_are : bytes ≡ 123 ∷ (digits ++ 125 ∷ rest)
  numeral : IsNumeral 16 digits
  short : length digits ≤ 6
  code_is : code ≡ digits_value 16 digits

code_at_takes : (bytes rest : List ℕ) (code : ℕ) → code_at bytes ≡ Some (code, rest) → IsBraced (123 ∷ bytes) rest code
unfolding code_at
code_at_takes bytes rest code e =
    let n = prefix_len is_hex_digit bytes in
    let digits = take n bytes in
    let read = closed_at (digits_value 16 digits) (drop n bytes) in
    elim (chosen (eqb n 0) None (cond (ltb 6 n) None read) (Some (code, rest)) e) [
      | inl (none, h) ↦ absurd cc
      | inr (some, h) ↦ elim (chosen (ltb 6 n) None read (Some (code, rest)) h) [
        | inl (many, k) ↦ absurd cc
        | inr (few, k) ↦
            let closed = closed_at_takes (digits_value 16 digits) code (drop n bytes) rest k in
            let any = eqb-false n 0 some in
            let short = ltb-false 6 n few in
            let len = length-prefix_len is_hex_digit bytes in
            record {
              digits = digits;
              bytes_are = ap (λ l. 123 ∷ l) (sym (take-append-drop n bytes) ∙ ap (λ l. digits ++ l) closed.0);
              numeral = (omega arith, hex_digits_at_front bytes);
              short = omega arith;
              code_is = sym closed.1;
            }
      ]
    ]

code_at_is : (digits rest : List ℕ) → IsNumeral 16 digits → length digits ≤ 6 → code_at (digits ++ 125 ∷ rest) ≡ Some (digits_value 16 digits, rest)
unfolding code_at
code_at_is digits rest (some, all) short =
    let count = prefix_len_is is_hex_digit digits (125 ∷ rest) (code_test digits all) refl in
    let any : eqb (length digits) 0 ≡ false = ne_eqb (length digits) 0 (omega arith) in
    let few : ltb 6 (length digits) ≡ false = le-ltb 6 (length digits) short in
    rw (count, any, few, take_at digits (125 ∷ rest) (length digits) refl, drop_at digits (125 ∷ rest) (length digits) refl) (closed_at_is (digits_value 16 digits) rest)

braced_at_takes : (bytes rest : List ℕ) (code : ℕ) → braced_at bytes ≡ Some (code, rest) → IsBraced bytes rest code
unfolding braced_at
braced_at_takes [] rest code e = absurd cc
braced_at_takes (byte ∷ bytes) rest code e = elim (chosen (eqb byte 123) (code_at bytes) None (Some (code, rest)) e) [
  | inl (test, h) ↦
      let same : byte ∷ bytes ≡ 123 ∷ bytes = ap (λ b. b ∷ bytes) (eqb-true byte 123 test) in
      subst (λ l. IsBraced l rest code) (sym same) (code_at_takes bytes rest code h)
  | inr (test, h) ↦ absurd cc
]

braced_at_is : (digits rest : List ℕ) → IsNumeral 16 digits → length digits ≤ 6 → braced_at (123 ∷ (digits ++ 125 ∷ rest)) ≡ Some (digits_value 16 digits, rest)
unfolding braced_at
braced_at_is digits rest numeral short = code_at_is digits rest numeral short

-- the same of a character's code, and the character's bytes
record IsScalarAt (bytes rest text : List ℕ) : Type 0 where
  digits : List ℕ
  bytes_are : bytes ≡ 123 ∷ (digits ++ 125 ∷ rest)
  code : IsCode digits
  text_is : text ≡ encode_utf8 (digits_value 16 digits)

scalar_at_takes : (bytes rest text : List ℕ) → scalar_at bytes ≡ Some (text, rest) → IsScalarAt bytes rest text
unfolding scalar_at
scalar_at_takes bytes rest text e =
    let step = found_step (braced_at bytes) (λ x. cond (scalar x.0) (Some (encode_utf8 x.0, x.1)) None) (text, rest) e in
    let found = braced_at_takes bytes step.0.1 step.0.0 step.1 in
    let parts = cond_some (scalar step.0.0) (encode_utf8 step.0.0, step.0.1) (text, rest) step.2 in
    let pair = some_pair_parts (encode_utf8 step.0.0) text step.0.1 rest (ap (λ (x : List ℕ × List ℕ). Some x) parts.1) in
    record {
      digits = found.digits;
      bytes_are = found.bytes_are ∙ ap (λ r. 123 ∷ (found.digits ++ 125 ∷ r)) pair.1;
      code = (found.numeral, found.short, ap scalar (sym found.code_is) ∙ parts.0);
      text_is = sym pair.0 ∙ ap encode_utf8 found.code_is;
    }

scalar_at_is : (digits rest : List ℕ) → IsCode digits → scalar_at (123 ∷ (digits ++ 125 ∷ rest)) ≡ Some (encode_utf8 (digits_value 16 digits), rest)
unfolding scalar_at
scalar_at_is digits rest (numeral, short, is) = rw (braced_at_is digits rest numeral short, is) refl

scalar_shorter : (bytes rest text : List ℕ) → scalar_at bytes ≡ Some (text, rest) → length rest ≤ length bytes
scalar_shorter bytes rest text e =
    let found = scalar_at_takes bytes rest text e in
    omega (arith, ap length found.bytes_are, length-append found.digits (125 ∷ rest))

-- ---- one piece

mapped : (found : Option ℕ) (bytes rest text : List ℕ) → option_map {U = List ℕ × List ℕ} (λ b. (b ∷ [], bytes)) found ≡ Some (text, rest) → (byte : ℕ) × (found ≡ Some byte) × (byte ∷ [] ≡ text) × (bytes ≡ rest)
mapped None bytes rest text e = absurd cc
mapped (Some b) bytes rest text e = let parts = some_pair_parts (b ∷ []) text bytes rest e in (b, refl, parts.0, parts.1)

escape_shorter : (bytes rest text : List ℕ) → escape_at bytes ≡ Some (text, rest) → length rest < length bytes
unfolding escape_at
escape_shorter [] rest text e = absurd cc
escape_shorter (letter ∷ bytes) rest text e =
    elim (chosen (eqb letter 117) (scalar_at bytes) (option_map (λ b. (b ∷ [], bytes)) (escaped_by letter)) (Some (text, rest)) e) [
      | inl (test, h) ↦ let less = scalar_shorter bytes rest text h in omega arith
      | inr (test, h) ↦ let same = (mapped (escaped_by letter) bytes rest text h).3 in omega (arith, ap length same)
    ]

-- what is left is shorter
piece_shorter : (bytes rest text : List ℕ) → piece_at bytes ≡ Some (text, rest) → length rest < length bytes
unfolding piece_at
piece_shorter [] rest text e = absurd cc
piece_shorter (first ∷ bytes) rest text e =
    elim (chosen (eqb first 92) (escape_at bytes) (Some (first ∷ [], bytes)) (Some (text, rest)) e) [
      | inl (test, h) ↦ let less = escape_shorter bytes rest text h in omega arith
      | inr (test, h) ↦ let same = (some_pair_parts (first ∷ []) text bytes rest h).1 in omega (arith, ap length same)
    ]

-- bytes, and how a piece that stands for them is written
pub record StandsFor (text : List ℕ) (written : List ℕ) : Type 0 where
  pub piece : Piece
  pub sound : IsPiece piece
  pub written_is : written ≡ spelled piece
  pub meant_is : meant piece ≡ text

stands_for : (p : Piece) (letter code meaning byte : ℕ) → IsPiece p → spelled p ≡ 92 ∷ code ∷ [] → meant p ≡ meaning ∷ [] → eqb letter code ≡ true → Some meaning ≡ Some byte → StandsFor (byte ∷ []) (92 ∷ letter ∷ [])
stands_for p letter code meaning byte sound s m test same =
    record {
      piece = p;
      sound = sound;
      written_is = ap (λ l. 92 ∷ l ∷ []) (eqb-true letter code test) ∙ sym s;
      meant_is = m ∙ ap (λ b. b ∷ []) (same_Some meaning byte same);
    }

escape_takes : (letter byte : ℕ) → escaped_by letter ≡ Some byte → StandsFor (byte ∷ []) (92 ∷ letter ∷ [])
unfolding escaped_by
escape_takes letter byte e =
    elim (chosen (eqb letter 110) (Some 10) _ (Some byte) e) [
      | inl (test, same) ↦ stands_for Newline letter 110 10 byte tt refl refl test same
      | inr (other, e2) ↦ elim (chosen (eqb letter 116) (Some 9) _ (Some byte) e2) [
        | inl (test, same) ↦ stands_for Tab letter 116 9 byte tt refl refl test same
        | inr (other, e3) ↦ elim (chosen (eqb letter 114) (Some 13) _ (Some byte) e3) [
          | inl (test, same) ↦ stands_for Return letter 114 13 byte tt refl refl test same
          | inr (other, e4) ↦ elim (chosen (eqb letter 92) (Some 92) _ (Some byte) e4) [
            | inl (test, same) ↦ stands_for Backslash letter 92 92 byte tt refl refl test same
            | inr (other, e5) ↦ elim (chosen (eqb letter 34) (Some 34) None (Some byte) e5) [
              | inl (test, same) ↦ stands_for Quote letter 34 34 byte tt refl refl test same
              | inr (other, none) ↦ absurd cc
            ]
          ]
        ]
      ]
    ]

escape_at_takes : (bytes rest text : List ℕ) → escape_at bytes ≡ Some (text, rest) → (written : List ℕ) × (92 ∷ bytes ≡ written ++ rest) × StandsFor text written
unfolding escape_at
escape_at_takes [] rest text e = absurd cc
escape_at_takes (letter ∷ bytes) rest text e =
    elim (chosen (eqb letter 117) (scalar_at bytes) (option_map (λ b. (b ∷ [], bytes)) (escaped_by letter)) (Some (text, rest)) e) [
      | inl (test, h) ↦
          let found = scalar_at_takes bytes rest text h in
          let written = 92 ∷ 117 ∷ 123 ∷ (found.digits ++ 125 ∷ []) in
          let behind : 123 ∷ (found.digits ++ 125 ∷ rest) ≡ (123 ∷ (found.digits ++ 125 ∷ [])) ++ rest = ap (λ l. 123 ∷ l) (sym (append_assoc found.digits (125 ∷ []) rest)) in (
            written,
            ap (λ l. 92 ∷ l ∷ bytes) (eqb-true letter 117 test) ∙ ap (λ l. 92 ∷ 117 ∷ l) (found.bytes_are ∙ behind),
            record {
              piece = Code found.digits;
              sound = found.code;
              written_is = refl;
              meant_is = sym found.text_is;
            },
          )
      | inr (test, h) ↦
          let parts = mapped (escaped_by letter) bytes rest text h in
          (92 ∷ letter ∷ [], ap (λ r. 92 ∷ letter ∷ r) parts.3, subst (λ t. StandsFor t (92 ∷ letter ∷ [])) parts.2 (escape_takes letter parts.0 parts.1))
    ]

pub piece_takes : (first : ℕ) (bytes rest text : List ℕ) → first ≢ 34 → piece_at (first ∷ bytes) ≡ Some (text, rest) → (written : List ℕ) × (first ∷ bytes ≡ written ++ rest) × StandsFor text written
unfolding piece_at
piece_takes first bytes rest text no_quote e =
    elim (chosen (eqb first 92) (escape_at bytes) (Some (first ∷ [], bytes)) (Some (text, rest)) e) [
      | inl (test, h) ↦ let found = escape_at_takes bytes rest text h in (found.0, ap (λ f. f ∷ bytes) (eqb-true first 92 test) ∙ found.1, found.2)
      | inr (test, h) ↦
          let parts = some_pair_parts (first ∷ []) text bytes rest h in
          (first ∷ [], ap (λ r. first ∷ r) parts.1, record { piece = Itself first; sound = (no_quote, eqb-false first 92 test); written_is = refl; meant_is = parts.0 })
    ]

-- ---- the pieces up to a quote

bind_same : {A B : Type 0} (found : Option A) (f g : A → Option B) → ((x : A) → found ≡ Some x → f x ≡ g x) → (found >>= f) ≡ (found >>= g)
bind_same None f g h = refl
bind_same (Some x) f g h = h x refl

-- any number that is large enough gives the same
within_same : (m n : ℕ) (bytes : List ℕ) → length bytes ≤ m → length bytes ≤ n → pieces_within m bytes ≡ pieces_within n bytes
unfolding pieces_within
within_same zero zero [] h k = refl
within_same zero (suc n) [] h k = refl
within_same (suc m) zero [] h k = refl
within_same (suc m) (suc n) [] h k = refl
within_same zero n (b ∷ bytes) h k = absurd (omega arith)
within_same (suc m) zero (b ∷ bytes) h k = absurd (omega arith)
within_same (suc m) (suc n) (b ∷ bytes) h k =
    ap (λ r. cond (eqb b 34) (Some ([], bytes)) r)
    (bind_same (piece_at (b ∷ bytes)) (λ p. onto p.0 (pieces_within m p.1)) (λ p. onto p.0 (pieces_within n p.1))
    (λ p e. let less = piece_shorter (b ∷ bytes) p.1 p.0 e in ap (onto p.0) (within_same m n p.1 (omega arith) (omega arith))))

pub pieces_at_nil : pieces_at [] ≡ None
unfolding pieces_at pieces_within
pieces_at_nil = refl

pub pieces_at_quote : (rest : List ℕ) → pieces_at (34 ∷ rest) ≡ Some ([], rest)
unfolding pieces_at pieces_within
pieces_at_quote rest = refl

pub pieces_at_piece : (first : ℕ) (after left meaning : List ℕ) → first ≢ 34 → piece_at (first ∷ after) ≡ Some (meaning, left) → pieces_at (first ∷ after) ≡ onto meaning (pieces_at left)
unfolding pieces_at pieces_within
pieces_at_piece first after left meaning no_quote e =
    let less = piece_shorter (first ∷ after) left meaning e in
    rw (ne_eqb first 34 no_quote, e) (ap (onto meaning) (within_same (length after) (length left) left (omega arith) (omega arith)))

pub pieces_at_none : (first : ℕ) (after : List ℕ) → first ≢ 34 → piece_at (first ∷ after) ≡ None → pieces_at (first ∷ after) ≡ None
unfolding pieces_at pieces_within
pieces_at_none first after no_quote e = rw (ne_eqb first 34 no_quote, e) refl

pub onto_nil : (found : Option (List ℕ × List ℕ)) → onto [] found ≡ found
onto_nil None = refl
onto_nil (Some x) = refl

pub onto_more : (front meaning : List ℕ) (found : Option (List ℕ × List ℕ)) → onto front (onto meaning found) ≡ onto (front ++ meaning) found
onto_more front meaning None = refl
onto_more front meaning (Some x) = ap (λ (t : List ℕ). Some (t, x.1)) (sym (append_assoc front meaning x.0))

-- what a piece adds to the text so far
pub added : (text next left : List ℕ) (found : Option (List ℕ × List ℕ)) → onto text found ≡ Some (next, left) → (meaning : List ℕ) × (found ≡ Some (meaning, left)) × (next ≡ text ++ meaning)
added text next left None e = absurd cc
added text next left (Some (meaning, rest)) e =
    let parts = some_pair_parts (text ++ meaning) next rest left e in
    (meaning, ap (λ (r : List ℕ). Some (meaning, r)) parts.1, sym parts.0)

pub none_added : (text : List ℕ) (found : Option (List ℕ × List ℕ)) → onto text found ≡ None → found ≡ None
none_added text None e = refl
none_added text (Some x) e = absurd cc

-- ---- the loop over pieces: the text so far, and what is left

pub ends_at_quote : (text rest : List ℕ) (total : Option (List ℕ × List ℕ)) → 1 ≤ length rest → get_or rest 0 0 ≡ 34 → onto text (pieces_at rest) ≡ total → total ≡ Some (text, take (length rest - 1) (drop 1 rest))
ends_at_quote text [] total some quote h = absurd (omega arith)
ends_at_quote text (first ∷ after) total some quote h =
    let all : take (length (first ∷ after) - 1) after ≡ after = take_all (length (first ∷ after) - 1) after (omega arith) in
    let read : pieces_at (first ∷ after) ≡ Some ([], after) = ap (λ b. pieces_at (b ∷ after)) quote ∙ pieces_at_quote after in
    let found : onto text (pieces_at (first ∷ after)) ≡ Some (text, after) = ap (onto text) read ∙ ap (λ (t : List ℕ). Some (t, after)) (append-nil text) in
    rw all (sym h ∙ found)

pub goes_on : (text rest next left : List ℕ) (total : Option (List ℕ × List ℕ)) → 1 ≤ length rest → get_or rest 0 0 ≢ 34 → onto text (piece_at rest) ≡ Some (next, left) → onto text (pieces_at rest) ≡ total → onto next (pieces_at left) ≡ total
goes_on text [] next left total some no_quote e h = absurd (omega arith)
goes_on text (first ∷ after) next left total some no_quote e h =
    let (meaning, found, is) = added text next left (piece_at (first ∷ after)) e in
    ap (λ t. onto t (pieces_at left)) is ∙ sym (onto_more text meaning (pieces_at left)) ∙ ap (onto text) (sym (pieces_at_piece first after left meaning no_quote found)) ∙ h

pub gives_up : (fault : ScriptFault) (text rest : List ℕ) (total : Option (List ℕ × List ℕ)) → 1 ≤ length rest → get_or rest 0 0 ≢ 34 → Finds {A = List ℕ × List ℕ} (λ x. x) (Err fault) (onto text (piece_at rest)) → onto text (pieces_at rest) ≡ total → Finds {A = List ℕ × List ℕ} (λ x. x) (Err fault) total
gives_up NoMemory text rest total some no_quote e h = tt
gives_up BadCommand text [] total some no_quote e h = absurd (omega arith)
gives_up BadCommand text (first ∷ after) total some no_quote e h = sym h ∙ ap (onto text) (pieces_at_none first after no_quote (none_added text (piece_at (first ∷ after)) e))

pub ends_open : (text rest : List ℕ) (total : Option (List ℕ × List ℕ)) → length rest < 1 → onto text (pieces_at rest) ≡ total → total ≡ None
ends_open text [] total none h = sym h ∙ ap (onto text) pieces_at_nil
ends_open text (first ∷ after) total none h = absurd (omega arith)

-- ---- what is read is a text, and a text is read

-- the bytes are pieces, a quote and the rest, and the pieces mean the text
pub record ArePieces (bytes text rest : List ℕ) : Type 0 where
  pub pieces : List Piece
  pub sound : AllByRecursion IsPiece pieces
  pub bytes_are : bytes ≡ flat_map spelled pieces ++ 34 ∷ rest
  pub text_is : text ≡ flat_map meant pieces

-- one piece more in front
more_pieces : (first : ℕ) (bytes left text rest meaning : List ℕ) → first ≢ 34 → piece_at (first ∷ bytes) ≡ Some (meaning, left) → (found : Option (List ℕ × List ℕ)) → onto meaning found ≡ Some (text, rest)
    → ((more after : List ℕ) → found ≡ Some (more, after) → ArePieces left more after) → ArePieces (first ∷ bytes) text rest
more_pieces first bytes left text rest meaning no_quote e None h all = absurd cc
more_pieces first bytes left text rest meaning no_quote e (Some (more, after)) h all =
    let front = piece_takes first bytes left meaning no_quote e in
    let stands = front.2 in
    let same = some_pair_parts (meaning ++ more) text after rest h in
    let found = all more after refl in
    let p = stands.piece in
    let ps = found.pieces in
    record {
      pieces = p ∷ ps;
      sound = (stands.sound, found.sound);
      bytes_are = front.1 ∙ ap (λ w. w ++ left) stands.written_is ∙ ap (λ l. spelled p ++ l) (found.bytes_are ∙ ap (λ r. flat_map spelled ps ++ 34 ∷ r) same.1)
          ∙ sym (append_assoc (spelled p) (flat_map spelled ps) (34 ∷ rest));
      text_is = sym same.0 ∙ ap (λ m. meaning ++ m) found.text_is ∙ ap (λ f. f ++ flat_map meant ps) (sym stands.meant_is);
    }

pieces_within_take : (most : ℕ) (bytes text rest : List ℕ) → pieces_within most bytes ≡ Some (text, rest)
    → ArePieces bytes text rest
unfolding pieces_within
pieces_within_take zero bytes text rest e = absurd cc
pieces_within_take (suc most) [] text rest e = absurd cc
pieces_within_take (suc most) (first ∷ bytes) text rest e =
    elim (chosen (eqb first 34) (Some ([], bytes)) (piece_at (first ∷ bytes) >>= λ p. onto p.0 (pieces_within most p.1)) (Some (text, rest)) e) [
      | inl (quote, h) ↦
          let parts = some_pair_parts [] text bytes rest h in
          record { pieces = []; sound = tt; bytes_are = ap (λ b. b ∷ bytes) (eqb-true first 34 quote) ∙ ap (λ r. 34 ∷ r) parts.1; text_is = sym parts.0 }
      | inr (other, h) ↦
          let step = found_step (piece_at (first ∷ bytes)) (λ p. onto p.0 (pieces_within most p.1)) (text, rest) h in
          more_pieces first bytes step.0.1 text rest step.0.0 (eqb-false first 34 other) step.1 (pieces_within most step.0.1) step.2 (pieces_within_take most step.0.1)
    ]

pieces_at_takes : (bytes text rest : List ℕ) → pieces_at bytes ≡ Some (text, rest) → ArePieces bytes text rest
unfolding pieces_at
pieces_at_takes bytes text rest e = pieces_within_take (length bytes) bytes text rest e

itself_first : (byte : ℕ) (rest : List ℕ) → byte ≢ 92 → piece_at (byte ∷ rest) ≡ Some (byte ∷ [], rest)
unfolding piece_at
itself_first byte rest other = rw (ne_eqb byte 92 other) refl

escape_first : (letter byte : ℕ) (rest : List ℕ) → letter ≢ 117 → escaped_by letter ≡ Some byte → piece_at (92 ∷ letter ∷ rest) ≡ Some (byte ∷ [], rest)
unfolding piece_at escape_at
escape_first letter byte rest other e = rw (ne_eqb letter 117 other, e) refl

code_first : (digits rest : List ℕ) → IsCode digits → piece_at (92 ∷ 117 ∷ 123 ∷ (digits ++ 125 ∷ rest)) ≡ Some (encode_utf8 (digits_value 16 digits), rest)
unfolding piece_at escape_at
code_first digits rest h = scalar_at_is digits rest h

-- an escape, and the pieces behind it
escape_then : (letter byte : ℕ) (rest : List ℕ) (found : Option (List ℕ × List ℕ)) → letter ≢ 117 → escaped_by letter ≡ Some byte → pieces_at rest ≡ found → pieces_at (92 ∷ letter ∷ rest) ≡ onto (byte ∷ []) found
escape_then letter byte rest found other e more = pieces_at_piece 92 (letter ∷ rest) rest (byte ∷ []) (λ h. absurd (omega arith)) (escape_first letter byte rest other e) ∙ ap (onto (byte ∷ [])) more

-- how a code is written, in front of other bytes
code_spelled : (digits more rest : List ℕ) → (spelled (Code digits) ++ more) ++ rest ≡ 92 ∷ 117 ∷ 123 ∷ (digits ++ 125 ∷ (more ++ rest))
code_spelled digits more rest =
    ap (λ l. 92 ∷ 117 ∷ 123 ∷ l) (append_assoc (digits ++ 125 ∷ []) more rest ∙ append_assoc digits (125 ∷ []) (more ++ rest))

pieces_at_are : (pieces : List Piece) (rest : List ℕ) → AllByRecursion IsPiece pieces → pieces_at (flat_map spelled pieces ++ 34 ∷ rest) ≡ Some (flat_map meant pieces, rest)
unfolding escaped_by
pieces_at_are [] rest h = pieces_at_quote rest
pieces_at_are (Itself byte ∷ ps) rest ((no_quote, other), more) =
    let tail = flat_map spelled ps ++ 34 ∷ rest in
    pieces_at_piece byte tail tail (byte ∷ []) no_quote (itself_first byte tail other) ∙ ap (onto (byte ∷ [])) (pieces_at_are ps rest more)
pieces_at_are (Newline ∷ ps) rest (h, more) = escape_then 110 10 (flat_map spelled ps ++ 34 ∷ rest) _ (λ h. absurd (omega arith)) refl (pieces_at_are ps rest more)
pieces_at_are (Tab ∷ ps) rest (h, more) = escape_then 116 9 (flat_map spelled ps ++ 34 ∷ rest) _ (λ h. absurd (omega arith)) refl (pieces_at_are ps rest more)
pieces_at_are (Return ∷ ps) rest (h, more) = escape_then 114 13 (flat_map spelled ps ++ 34 ∷ rest) _ (λ h. absurd (omega arith)) refl (pieces_at_are ps rest more)
pieces_at_are (Backslash ∷ ps) rest (h, more) = escape_then 92 92 (flat_map spelled ps ++ 34 ∷ rest) _ (λ h. absurd (omega arith)) refl (pieces_at_are ps rest more)
pieces_at_are (Quote ∷ ps) rest (h, more) = escape_then 34 34 (flat_map spelled ps ++ 34 ∷ rest) _ (λ h. absurd (omega arith)) refl (pieces_at_are ps rest more)
pieces_at_are (Code digits ∷ ps) rest (h, more) =
    let tail = flat_map spelled ps ++ 34 ∷ rest in
    let front : flat_map spelled (Code digits ∷ ps) ++ 34 ∷ rest ≡ 92 ∷ 117 ∷ 123 ∷ (digits ++ 125 ∷ tail) = code_spelled digits (flat_map spelled ps) (34 ∷ rest) in
    ap pieces_at front ∙ pieces_at_piece 92 (117 ∷ 123 ∷ (digits ++ 125 ∷ tail)) tail (encode_utf8 (digits_value 16 digits)) (λ h. absurd (omega arith)) (code_first digits tail h)
    ∙ ap (onto (encode_utf8 (digits_value 16 digits))) (pieces_at_are ps rest more)

-- ---- with the gap and the quotes

after_quote_takes : (bytes rest : List ℕ) → after_quote bytes ≡ Some rest → bytes ≡ 34 ∷ rest
unfolding after_quote
after_quote_takes [] rest e = absurd cc
after_quote_takes (byte ∷ bytes) rest e =
    let parts = cond_some (eqb byte 34) bytes rest e in
    ap (λ b. b ∷ bytes) (eqb-true byte 34 parts.0) ∙ ap (λ r. 34 ∷ r) parts.1

after_quote_is : (rest : List ℕ) → after_quote (34 ∷ rest) ≡ Some rest
unfolding after_quote
after_quote_is rest = refl

-- where a word between quotes begins
pub quoted_word : (inside rest : List ℕ) → codes "\"" ++ inside ++ codes "\"" ++ rest ≡ 34 ∷ (inside ++ 34 ∷ rest)
quoted_word inside rest = ap (λ r. 34 ∷ r) (append_assoc inside (34 ∷ []) rest)

pub text_at_takes : (bytes text rest : List ℕ) → text_at bytes ≡ Some (text, rest) → (gap word : List ℕ) × (bytes ≡ gap ++ word ++ rest) × IsGap gap × IsText word text
unfolding text_at
text_at_takes bytes text rest e =
    let first = found_step (after_gap bytes) (λ gone. after_quote gone >>= λ inside. pieces_at inside) (text, rest) e in
    let second = found_step (after_quote first.0) (λ inside. pieces_at inside) (text, rest) first.2 in
    let gap = after_gap_takes bytes first.0 first.1 in
    let found = pieces_at_takes second.0 text rest second.2 in
    let inside = flat_map spelled found.pieces in
    let word = codes "\"" ++ inside ++ codes "\"" in
    let behind : first.0 ≡ word ++ rest = after_quote_takes first.0 second.0 second.1 ∙ ap (λ r. 34 ∷ r) found.bytes_are ∙ sym (quoted_word inside rest) in
    (gap.0, word, gap.1 ∙ ap (λ r. gap.0 ++ r) behind ∙ sym (append_assoc gap.0 word rest), gap.2, (found.pieces, found.sound, refl, found.text_is))

pub text_at_is : (gap word rest text : List ℕ) → IsGap gap → IsText word text → text_at (gap ++ word ++ rest) ≡ Some (text, rest)
unfolding text_at
text_at_is gap word rest text g (pieces, sound, is, means) =
    let inside = flat_map spelled pieces in
    let front : gap ++ word ++ rest ≡ gap ++ (34 ∷ (inside ++ 34 ∷ rest)) = append_assoc gap word rest ∙ ap (λ w. gap ++ (w ++ rest)) is ∙ ap (λ r. gap ++ r) (quoted_word inside rest) in
    rw (front, after_gap_is gap (34 ∷ (inside ++ 34 ∷ rest)) g refl, after_quote_is (inside ++ 34 ∷ rest), pieces_at_are pieces rest sound, means) refl

-- ---- texts are UTF-8

-- a text may be cut in front of an ASCII byte, and behind it
pub utf8_before : (front back : List ℕ) (byte : ℕ) → byte < 128 → IsUtf8 (front ++ byte ∷ back) → IsUtf8 front
utf8_before front back byte ascii h =
    let at = get_or_at front byte back 0 (length front) refl in
    let whole = front ++ byte ∷ back in
    let long = length-append front (byte ∷ back) in
    subst IsUtf8 (take_at front (byte ∷ back) (length front) refl)
    (IsUtf8-take whole (length front) h (IsCharBoundary-before_ascii whole (length front) (omega (arith, long)) (omega (arith, at))))

pub utf8_behind : (front back : List ℕ) (byte : ℕ) → byte < 128 → IsUtf8 (front ++ byte ∷ back) → IsUtf8 back
utf8_behind front back byte ascii h =
    let at = get_or_at front byte back 0 (length front) refl in
    let whole = front ++ byte ∷ back in
    let long = length-append front (byte ∷ back) in
    let rest : drop (length front + 1) whole ≡ back = sym (drop-drop 1 (length front) whole) ∙ ap (drop 1) (drop_at front (byte ∷ back) (length front) refl) in
    subst IsUtf8 rest
    (IsUtf8-drop whole (length front + 1) h (IsCharBoundary-after_ascii whole (length front) h (omega (arith, long)) (omega (arith, at))))

-- an escape between two texts becomes one ASCII byte
escape_utf8 : (front back rest : List ℕ) (letter byte : ℕ) → letter < 128 → byte < 128 → (IsUtf8 rest → IsUtf8 back) → IsUtf8 (front ++ 92 ∷ letter ∷ rest) → IsUtf8 (front ++ byte ∷ back)
escape_utf8 front back rest letter byte low ascii more h =
    let behind = utf8_behind [] rest letter low (utf8_behind front (letter ∷ rest) 92 (omega arith) h) in
    let one = IsUtf8-from_ascii (byte ∷ []) (IsAscii-cons byte [] ascii IsAscii-nil) in
    IsUtf8-append front (byte ∷ back) (utf8_before front (letter ∷ rest) 92 (omega arith) h) (IsUtf8-append (byte ∷ []) back one (more behind))

-- and so does the code of a character become the character
code_utf8 : (front back digits rest : List ℕ) → IsCode digits → (IsUtf8 rest → IsUtf8 back) → IsUtf8 (front ++ (92 ∷ 117 ∷ 123 ∷ (digits ++ 125 ∷ rest))) → IsUtf8 (front ++ (encode_utf8 (digits_value 16 digits) ++ back))
code_utf8 front back digits rest h more whole =
    let before = front ++ (92 ∷ 117 ∷ 123 ∷ digits) in
    let cut : front ++ (92 ∷ 117 ∷ 123 ∷ (digits ++ 125 ∷ rest)) ≡ before ++ 125 ∷ rest = sym (append_assoc front (92 ∷ 117 ∷ 123 ∷ digits) (125 ∷ rest)) in
    let behind = utf8_behind before rest 125 (omega arith) (subst IsUtf8 cut whole) in
    IsUtf8-append front (encode_utf8 (digits_value 16 digits) ++ back) (utf8_before front (117 ∷ 123 ∷ (digits ++ 125 ∷ rest)) 92 (omega arith) whole)
    (IsUtf8-append (encode_utf8 (digits_value 16 digits)) back (IsUtf8-encode (digits_value 16 digits) h.2) (more behind))

-- where a text stands in front of pieces and a quote, it stands in front of what they mean
pieces_utf8 : (pieces : List Piece) (front rest : List ℕ) → AllByRecursion IsPiece pieces → IsUtf8 (front ++ (flat_map spelled pieces ++ 34 ∷ rest)) → IsUtf8 (front ++ flat_map meant pieces)
pieces_utf8 [] front rest sound h = rw append-nil (utf8_before front rest 34 (omega arith) h)
pieces_utf8 (Itself byte ∷ ps) front rest (p, sound) h =
    let regroup : (tail : List ℕ) → front ++ byte ∷ tail ≡ front ++ byte ∷ [] ++ tail = λ tail. sym (append_assoc front (byte ∷ []) tail) in
    subst IsUtf8 (sym (regroup (flat_map meant ps))) (pieces_utf8 ps (front ++ byte ∷ []) rest sound (subst IsUtf8 (regroup (flat_map spelled ps ++ 34 ∷ rest)) h))
pieces_utf8 (Newline ∷ ps) front rest (p, sound) h = escape_utf8 front (flat_map meant ps) _ 110 10 (omega arith) (omega arith) (pieces_utf8 ps [] rest sound) h
pieces_utf8 (Tab ∷ ps) front rest (p, sound) h = escape_utf8 front (flat_map meant ps) _ 116 9 (omega arith) (omega arith) (pieces_utf8 ps [] rest sound) h
pieces_utf8 (Return ∷ ps) front rest (p, sound) h = escape_utf8 front (flat_map meant ps) _ 114 13 (omega arith) (omega arith) (pieces_utf8 ps [] rest sound) h
pieces_utf8 (Backslash ∷ ps) front rest (p, sound) h = escape_utf8 front (flat_map meant ps) _ 92 92 (omega arith) (omega arith) (pieces_utf8 ps [] rest sound) h
pieces_utf8 (Quote ∷ ps) front rest (p, sound) h = escape_utf8 front (flat_map meant ps) _ 34 34 (omega arith) (omega arith) (pieces_utf8 ps [] rest sound) h
pieces_utf8 (Code digits ∷ ps) front rest (h, sound) whole =
    let cut = ap (λ l. front ++ l) (code_spelled digits (flat_map spelled ps) (34 ∷ rest)) in
    code_utf8 front (flat_map meant ps) digits (flat_map spelled ps ++ 34 ∷ rest) h (pieces_utf8 ps [] rest sound) (subst IsUtf8 cut whole)

-- a word that stands in a text behind anything spells a text
pub word_utf8 : (front word rest text : List ℕ) → IsText word text → IsUtf8 (front ++ word ++ rest) → IsUtf8 text
word_utf8 front word rest text (pieces, sound, is, means) h =
    let inside = flat_map spelled pieces in
    let parts : front ++ word ++ rest ≡ front ++ (34 ∷ (inside ++ 34 ∷ rest)) = append_assoc front word rest ∙ ap (λ w. front ++ (w ++ rest)) is ∙ ap (λ r. front ++ r) (quoted_word inside rest) in
    subst IsUtf8 (sym means) (pieces_utf8 pieces [] rest sound (utf8_behind front (inside ++ 34 ∷ rest) 34 (omega arith) (subst IsUtf8 parts h)))
