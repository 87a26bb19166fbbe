-- Legal values, and what else stands in tags, as characters and references in a row.
use Rattle.std.proofs.Common.{◌≡◌, ◌≢◌, ℕ, ◌+◌, ◌<◌, append_assoc, Bool, true, false, cond, inl, inr, Option, Some, None, List, [], ◌∷◌, ◌++◌, length, refl, ap, sym, subst, ◌∙◌, arith}
use Rattle.std.specs.Str.{IsUtf8}
use lib.Utf8.{encode, scalar}
use Rattle.std.proofs.lemmas.Bool.{cases_eq, and_from}
use Rattle.std.proofs.lemmas.Bool.Decides.{nat_tests}
use Rattle.std.proofs.lemmas.Str.{IsUtf8-nil, IsUtf8-append, IsUtf8-encode, encode_ascii}
use Rattle.nx_base.specs.Characters.{is_char}
use Rattle.nx_base.specs.declared.fault.Fault.{Fault}
use Rattle.nx_base.specs.declared.fault.Kind.{Kind}
use Rattle.nx_base.specs.declared.fault.Kind.TheVariants.{BadChar, BadReference}
use Rattle.nx_base.specs.declared.fault.Span.{Span}
use Rattle.nx_events.specs.Faults.{bare_faults}
use Rattle.nx_events.specs.ReferenceForm.{Denotes}
use Rattle.nx_events.specs.Strings.{cut_by, pieces}
use Rattle.nx_events.specs.StringsRead.{character_in, flaw_of, IsPart, return_and_feed, return, character, reference, unknown, ampersand, brackets, IsReadInParts, finished, goes_on}
use Rattle.nx_events.specs.declared.reading.Reading.TheVariants.{Text, Value}
use Rattle.nx_events.proofs.ReferenceValues.{denotes_shape}
use Rattle.nx_events.proofs.StringParts.{all_faults, part_goes_on}
use Rattle.nx_events.proofs.StringsRead.{reads_sound, some_reading}
use Rattle.nx_events.proofs.Texts.{behind}
use Rattle.nx_document.specs.Constraints.{IsLegal}
use Rattle.nx_document.proofs.Characters.{pieces_legal, pieces_faultless}
use Rattle.nx_document.proofs.OfChars.{char_scalar}

-- a character that XML allows, and that begins no reference
pub record IsFine (c : ℕ) : Type 0 where
  pub allowed : is_char c ≡ true
  pub no_ampersand : c ≢ 38

-- such characters, and references that stand for a character, in any order
pub data IsClean : List ℕ → Type 0 where
  empty : (xs : List ℕ) → xs ≡ [] → IsClean xs
  one_char : (xs : List ℕ) (c : ℕ) (rest : List ℕ) → IsFine c → IsClean rest → xs ≡ encode c ++ rest → IsClean xs
  one_reference : (xs body : List ℕ) (c : ℕ) (rest : List ℕ) → Denotes body c → IsClean rest → xs ≡ (38 ∷ (body ++ 59 ∷ [])) ++ rest → IsClean xs

pub clean_append : (xs ys : List ℕ) → IsClean xs → IsClean ys → IsClean (xs ++ ys)
clean_append xs ys (empty _ e) k = subst (λ zs. IsClean (zs ++ ys)) (sym e) k
clean_append xs ys (one_char _ c rest f more e) k = one_char (xs ++ ys) c (rest ++ ys) f (clean_append rest ys more k) (ap (λ zs. zs ++ ys) e ∙ append_assoc (encode c) rest ys)
clean_append xs ys (one_reference _ body c rest d more e) k =
    one_reference (xs ++ ys) body c (rest ++ ys) d (clean_append rest ys more k) (ap (λ zs. zs ++ ys) e ∙ append_assoc (38 ∷ (body ++ 59 ∷ [])) rest ys)

ascii : (b : ℕ) → b < 128 → IsUtf8 (b ∷ [])
ascii b small = subst (λ (xs : List ℕ). IsUtf8 xs) (encode_ascii b small) (IsUtf8-encode b (low b small))
  where
    low : (b : ℕ) → b < 128 → scalar b ≡ true
    low b h = grind (arith, nat_tests)

clean_text : (xs : List ℕ) → IsClean xs → IsUtf8 xs
clean_text xs (empty _ e) = subst (λ (ys : List ℕ). IsUtf8 ys) (sym e) IsUtf8-nil
clean_text xs (one_char _ c rest f more e) =
    subst (λ (ys : List ℕ). IsUtf8 ys) (sym e) (IsUtf8-append (encode c) rest (IsUtf8-encode c (char_scalar c f.allowed)) (clean_text rest more))
clean_text xs (one_reference _ body c rest d more e) =
    subst (λ (ys : List ℕ). IsUtf8 ys) (sym e)
    (IsUtf8-append (38 ∷ (body ++ 59 ∷ [])) rest (IsUtf8-append (38 ∷ []) (body ++ 59 ∷ []) (ascii 38 (omega arith)) (IsUtf8-append body (59 ∷ []) (denotes_shape body c d).utf8 (ascii 59 (omega arith)))) (clean_text rest more))

-- nothing is wrong in it
no_flaw : (c : ℕ) → is_char c ≡ true → flaw_of c ≡ None
no_flaw c h = ap (λ (t : Bool). cond t None (Some BadChar)) h

flaw_char : (c : ℕ) → flaw_of c ≡ None → is_char c ≡ true
flaw_char c e = by_test (is_char c) e
  where
    by_test : (t : Bool) → cond t None (Some BadChar) ≡ None → t ≡ true
    by_test true e = refl
    by_test false e = let bad : Some BadChar ≡ None = e in absurd (cc)

char_part : (c : ℕ) (rest : List ℕ) → IsFine c → c ≢ 13 → IsPart Value rest (encode c) (character_in Value c) (flaw_of c)
char_part c rest f n =
    character c (and_from (scalar c) true (char_scalar c f.allowed) refl) refl (record { no_return = n; no_ampersand = λ r. f.no_ampersand; no_brackets = λ r. absurd (let bad : Value ≡ Text = r in cc) }) refl refl

behind_char : (at c : ℕ) (rest : List ℕ) → IsFine c → c ≢ 13 → IsUtf8 rest → all_faults Value at (encode c ++ rest) ≡ all_faults Value (at + length (encode c)) rest
behind_char at c rest f n u =
    (part_goes_on Value rest (encode c) (character_in Value c) (flaw_of c) u (char_part c rest f n)).faults at
    ∙ ap (λ (flaw : Option Kind). bare_faults flaw (record { from = at; to = at + length (encode c) }) ++ all_faults Value (at + length (encode c)) rest) (no_flaw c f.allowed)

line_feed : IsFine 10
unfolding is_char
line_feed = record { allowed = refl; no_ampersand = λ e. cc }

pub carriage_return : IsFine 13
unfolding is_char
carriage_return = record { allowed = refl; no_ampersand = λ e. cc }

behind_return : (at : ℕ) (rest : List ℕ) → IsUtf8 rest → ((place : ℕ) → all_faults Value place rest ≡ []) → all_faults Value at (13 ∷ rest) ≡ []
behind_return at [] u h =
    (part_goes_on Value [] (13 ∷ []) (character_in Value 10) None u (return refl (λ t. (let bad : [] ≡ 10 ∷ t.0 = t.1 in absurd (cc))) refl refl)).faults at ∙ h (at + 1)
behind_return at (b ∷ rest) u h =
    elim (cases_eq b 10) [
      | inl e ↦ subst (λ x. all_faults Value at (13 ∷ x ∷ rest) ≡ []) (sym e)
          (with_feed (subst (λ x. IsUtf8 (x ∷ rest)) e u) (λ place. subst (λ x. all_faults Value place (x ∷ rest) ≡ []) e (h place)))
      | inr n ↦ (part_goes_on Value (b ∷ rest) (13 ∷ []) (character_in Value 10) None u (return refl (λ t. (let bad : b ∷ rest ≡ 10 ∷ t.0 = t.1 in n cc)) refl refl)).faults at ∙ h (at + 1)
    ]
  where
    with_feed : IsUtf8 (10 ∷ rest) → ((place : ℕ) → all_faults Value place (10 ∷ rest) ≡ []) → all_faults Value at (13 ∷ 10 ∷ rest) ≡ []
    with_feed v k =
        let w : IsUtf8 rest = behind (10 ∷ rest) 0 v (omega arith) (omega arith) in
        let one : encode 10 ≡ 10 ∷ [] = encode_ascii 10 (omega arith) in
        let after : all_faults Value (at + 1) (10 ∷ rest) ≡ all_faults Value (at + 1 + 1) rest =
        ap (λ xs. all_faults Value (at + 1) (xs ++ rest)) (sym one) ∙ behind_char (at + 1) 10 rest line_feed (λ e. cc) w ∙ ap (λ xs. all_faults Value (at + 1 + length xs) rest) one in
        let place : at + 2 ≡ at + 1 + 1 = omega arith in
        (part_goes_on Value rest (13 ∷ 10 ∷ []) (character_in Value 10) None w (return_and_feed refl refl refl)).faults at
        ∙ ap (λ n. all_faults Value n rest) place ∙ sym after ∙ k (at + 1)

nothing_wrong : (at : ℕ) → all_faults Value at [] ≡ []
unfolding cut_by
nothing_wrong at = refl

clean_faultless : (xs : List ℕ) → IsClean xs → (at : ℕ) → all_faults Value at xs ≡ []
clean_faultless xs (empty _ e) at = ap (all_faults Value at) e ∙ nothing_wrong at
clean_faultless xs (one_char _ c rest f more e) at =
    elim (cases_eq c 13) [
      | inl k ↦ ap (all_faults Value at) (e ∙ ap (λ d. encode d ++ rest) k ∙ ap (λ ys. ys ++ rest) (encode_ascii 13 (omega arith)))
          ∙ behind_return at rest (clean_text rest more) (λ place. clean_faultless rest more place)
      | inr n ↦ ap (all_faults Value at) e ∙ behind_char at c rest f n (clean_text rest more) ∙ clean_faultless rest more (at + length (encode c))
    ]
clean_faultless xs (one_reference _ body c rest d more e) at =
    ap (all_faults Value at) e
    ∙ (part_goes_on Value rest (38 ∷ (body ++ 59 ∷ [])) (encode c) None (clean_text rest more) (reference refl body c d refl refl refl)).faults at
    ∙ clean_faultless rest more (at + length (38 ∷ (body ++ 59 ∷ [])))

pub clean_legal : (xs : List ℕ) → IsClean xs → IsLegal Value xs
clean_legal xs c = pieces_legal Value (pieces Value 0 xs) (clean_faultless xs c 0)

-- and where nothing is wrong, it is so
fine_return : (front rest : List ℕ) → front ≡ 13 ∷ [] → IsClean rest → IsClean (front ++ rest)
fine_return front rest e k = one_char (front ++ rest) 13 rest carriage_return k (ap (λ ys. ys ++ rest) (e ∙ sym (encode_ascii 13 (omega arith))))

part_clean : (rest front string : List ℕ) (flaw : Option Kind) → IsPart Value rest front string flaw → flaw ≡ None → IsClean rest → IsClean (front ++ rest)
part_clean rest front string flaw (return_and_feed e s f) n k =
    let feed : IsClean (10 ∷ rest) = one_char (10 ∷ rest) 10 rest line_feed k (ap (λ ys. ys ++ rest) (sym (encode_ascii 10 (omega arith)))) in
    subst (λ ys. IsClean (ys ++ rest)) (sym e) (fine_return (13 ∷ []) (10 ∷ rest) refl feed)
part_clean rest front string flaw (return e m s f) n k = fine_return front rest e k
part_clean rest front string flaw (character c ok e o s f) n k =
    one_char (front ++ rest) c rest (record { allowed = flaw_char c (sym f ∙ n); no_ampersand = o.no_ampersand refl }) k (ap (λ ys. ys ++ rest) e)
part_clean rest front string flaw (reference r body c d e s f) n k = one_reference (front ++ rest) body c rest d k (ap (λ ys. ys ++ rest) e)
part_clean rest front string flaw (unknown r body h m e s f) n k = let bad : Some BadReference ≡ None = sym f ∙ n in absurd (cc)
part_clean rest front string flaw (ampersand r m e s f) n k = let bad : Some BadReference ≡ None = sym f ∙ n in absurd (cc)
part_clean rest front string flaw (brackets r e s f) n k = let bad : Value ≡ Text = r in absurd (cc)

nothing_first : (flaw : Option Kind) (span : Span) (later : List Fault) → bare_faults flaw span ++ later ≡ [] → (flaw ≡ None) × (later ≡ [])
nothing_first None span later e = (refl, e)
nothing_first (Some kind) span later e = let bad : record { span = span; kind = kind; detail = [] } ∷ later ≡ [] = e in absurd (cc)

reads_clean : (at : ℕ) (xs string : List ℕ) (faults : List Fault) → IsReadInParts Value at xs string faults → faults ≡ [] → IsClean xs
reads_clean at xs string faults (finished _ _ _ _ e s f) n = empty xs e
reads_clean at xs string faults (goes_on _ _ _ _ front rest first others flaw later part more e s f) n =
    let t = nothing_first flaw (record { from = at; to = at + length front }) later (sym f ∙ n) in
    subst (λ ys. IsClean ys) (sym e) (part_clean rest front first flaw part t.0 (reads_clean (at + length front) rest others later more t.1))

pub legal_clean : (xs : List ℕ) → IsUtf8 xs → IsLegal Value xs → IsClean xs
legal_clean xs u h =
    let r = some_reading (length xs) Value 0 xs (omega arith) u in
    reads_clean 0 xs r.string r.faults r.reads ((reads_sound Value 0 xs r.string r.faults r.reads u).1 ∙ pieces_faultless Value (pieces Value 0 xs) h)
