-- No control character is in a report, but the line feed at its end.
use Rattle.std.proofs.Common.{◌≡◌, ◌∙◌, ◌⊎◌, inl, inr, ℕ, zero, suc, ◌+◌, ◌<◌, ◌≤◌, ◌/◌, ◌%◌, Bool, true, false, cond, not, List, [], ◌∷◌, ◌++◌, length, take, map}
use Rattle.std.proofs.Common.{refl, sym, ap, arith, append_assoc, eqb-true, ◌-◌}
use Rattle.std.specs.Prelude.{◌==◌, ◌&&◌, ◌||◌, if◌then◌else◌, codes, Option, None, Some}
use Rattle.std.specs.Fmt.{digits, digits_onto, digit_glyph, decimal}
use Rattle.std.specs.List.{list_all, flat_map}
use Rattle.std.specs.Str.{bytes_eq}
use Rattle.std.proofs.lemmas.Bool.{cases_lt, lt-ltb, le-ltb, cases_Bool}
use Rattle.std.proofs.lemmas.List.Folds.{list_all-append}
use Rattle.nx_base.specs.PrintedNames.{name_text}
use Rattle.nx_base.specs.declared.cause.Cause.{Cause}
use Rattle.nx_base.specs.declared.cause.Cause.TheVariants as causes
use Rattle.nx_base.specs.declared.fault.Kind.{Kind}
use Rattle.nx_base.specs.declared.fault.Kind.TheVariants as kinds
use Rattle.nx_base.specs.declared.offer.Offer.{Offer}
use Rattle.nx_base.specs.declared.offer.Offer.TheVariants as offers
use Rattle.nx_position.specs.declared.position.Position.{Position}
use Rattle.nx_report.specs.declared.severity.Severity.{Severity}
use Rattle.nx_report.specs.declared.severity.Severity.TheVariants as severities
use Rattle.nx_report.specs.declared.trouble.Trouble.{Trouble}
use Rattle.nx_report.specs.declared.trouble.Trouble.TheVariants as troubles
use Rattle.nx_report.specs.Printed.{is_control, escape, printed, printed_text, quoted}
use Rattle.nx_report.specs.Names.{namespace_of, local_of, xml_namespace, short_name, quoted_name}
use Rattle.nx_report.specs.Words.{first_word, words, needed_words}
use Rattle.nx_report.specs.Lists.{separated, more_text, listed, introduced}
use Rattle.nx_report.specs.Expected.{of_namespace, offer_text, expected_text}
use Rattle.nx_report.specs.Kinds.{kind_name}
use Rattle.nx_report.specs.Sentences.{element_name, needs, lacking, wrong_value, sentence_of}
use Rattle.nx_report.specs.Causes.{cause_text, trouble_text, about_text}
use Rattle.nx_report.specs.Lines.{severity_word, place_text, head, errors_word, is_shown, IsOneLine, LinesAreOneLine}

abbrev Shown : List ℕ → Type 0
Shown text = list_all is_shown text ≡ true

both : (a b : List ℕ) → Shown a → Shown b → Shown (a ++ b)
both a b first second = list_all-append is_shown a b ∙ ap (λ (t : Bool). t && list_all is_shown b) first ∙ second

-- digits
shown_code : (c : ℕ) → 32 ≤ c → c < 127 → is_shown c ≡ true
shown_code c low high =
    ap (λ (t : Bool). not (t || (c == 0x7F))) (le-ltb c 0x20 low) ∙ ap not (other (c == 127) refl)
  where
    other : (b : Bool) → c == 127 ≡ b → b ≡ false
    other true is = absurd (let same = eqb-true c 127 is in omega (arith, same))
    other false is = refl

glyph_shown : (d : ℕ) → d < 16 → is_shown (digit_glyph false d) ≡ true
glyph_shown d less = by (cases_lt d 10)
  where
    by : (d < 10) ⊎ (10 ≤ d) → is_shown (digit_glyph false d) ≡ true
    by (inl small) =
        ap (λ (b : Bool). is_shown (if b then 48 + d else 87 + d)) (lt-ltb d 10 small) ∙ shown_code (48 + d) (omega arith) (omega arith)
    by (inr large) =
        ap (λ (b : Bool). is_shown (if b then 48 + d else 87 + d)) (le-ltb d 10 large) ∙ shown_code (87 + d) (omega arith) (omega arith)

onto_shown : (k base n : ℕ) (behind : List ℕ) → 0 < base → base ≤ 16 → Shown behind → Shown (digits_onto k base false n behind)
onto_shown zero base n behind some few is = is
onto_shown (suc k) base n behind some few is =
    let digit : Shown (digit_glyph false (n % base) ∷ behind) =
    ap (λ (t : Bool). t && list_all is_shown behind) (glyph_shown (n % base) (let less : n % base < base = omega arith in omega arith)) ∙ is in
    by (n / base == 0) digit (onto_shown k base (n / base) (digit_glyph false (n % base) ∷ behind) some few digit)
  where
    by : (b : Bool) → Shown (digit_glyph false (n % base) ∷ behind) → Shown (digits_onto k base false (n / base) (digit_glyph false (n % base) ∷ behind))
        → Shown (if b then digit_glyph false (n % base) ∷ behind else digits_onto k base false (n / base) (digit_glyph false (n % base) ∷ behind))
    by true digit more = digit
    by false digit more = more

digits_shown : (base n : ℕ) → 0 < base → base ≤ 16 → Shown (digits base false n)
unfolding digits
digits_shown base n some few = onto_shown 64 base n [] some few refl

decimal_shown : (n : ℕ) → Shown (decimal n)
decimal_shown n = digits_shown 10 n (omega arith) (omega arith)

-- texts of documents
printed_shown : (text : List ℕ) → Shown (printed_text text)
printed_shown [] = refl
printed_shown (byte ∷ text) = both (printed byte) (printed_text text) (one (cases_Bool (is_control byte))) (printed_shown text)
  where
    one : (is_control byte ≡ true) ⊎ (is_control byte ≡ false) → Shown (printed byte)
    one (inl is) =
        ap (λ (b : Bool). list_all is_shown (if b then escape byte else byte ∷ [])) is
        ∙ both (codes "\\u{" ++ digits 16 false byte) (codes "}") (both (codes "\\u{") (digits 16 false byte) refl (digits_shown 16 byte (omega arith) (omega arith))) refl
    one (inr is) =
        ap (λ (b : Bool). list_all is_shown (if b then escape byte else byte ∷ [])) is ∙ ap (λ (b : Bool). not b && true) is

quoted_shown : (text : List ℕ) → Shown (quoted text)
quoted_shown text = both (codes "\"" ++ printed_text text) (codes "\"") (both (codes "\"") (printed_text text) refl (printed_shown text)) refl

short_shown : (own name : List ℕ) → Shown (short_name own name)
short_shown own name = by (bytes_eq (namespace_of name) xml_namespace) (bytes_eq (namespace_of name) own) (bytes_eq (namespace_of name) [])
  where
    by : (a b c : Bool) → Shown (cond a (codes "xml:" ++ printed_text (local_of name))
        (cond b (printed_text (local_of name)) (cond c (codes "{}" ++ printed_text name) (printed_text name))))
    by true b c = both (codes "xml:") (printed_text (local_of name)) refl (printed_shown (local_of name))
    by false true c = printed_shown (local_of name)
    by false false true = both (codes "{}") (printed_text name) refl (printed_shown name)
    by false false false = printed_shown name

name_shown : (own name : List ℕ) → Shown (quoted_name own name)
name_shown own name = both (codes "\"" ++ short_name own name) (codes "\"") (both (codes "\"") (short_name own name) refl (short_shown own name)) refl

-- lists
data AllShown : List (List ℕ) → Type 0 where
  none : AllShown []
  more : {item : List ℕ} {items : List (List ℕ)} → Shown item → AllShown items → AllShown (item ∷ items)

others_shown : (n : ℕ) {items : List (List ℕ)} → AllShown items → Shown (flat_map (λ other. codes ", " ++ other) (take n items))
others_shown zero all = refl
others_shown (suc n) none = refl
others_shown (suc n) (more {item} {items} first rest) =
    both (codes ", " ++ item) (flat_map (λ other. codes ", " ++ other) (take n items)) (both (codes ", ") item refl first) (others_shown n rest)

more_shown : (n : ℕ) → Shown (more_text n)
more_shown n = by (n == 0)
  where
    by : (b : Bool) → Shown (if b then [] else codes " and " ++ decimal n ++ codes " more")
    by true = refl
    by false = both (codes " and " ++ decimal n) (codes " more") (both (codes " and ") (decimal n) refl (decimal_shown n)) refl

introduced_shown : (words : List ℕ) {items : List (List ℕ)} → Shown words → AllShown items → Shown (introduced words items)
introduced_shown words start none = refl
introduced_shown words start (more {item} {items} first rest) =
    both words (listed (item ∷ items)) start
    (both (separated (take 8 (item ∷ items))) (more_text (length (item ∷ items) - 8))
    (both item (flat_map (λ other. codes ", " ++ other) (take 7 items)) first (others_shown 7 rest)) (more_shown (length (item ∷ items) - 8)))

each : {T : Type 0} (f : T → List ℕ) (xs : List T) → ((x : T) → Shown (f x)) → AllShown (map f xs)
each f [] all = none
each f (x ∷ xs) all = more (all x) (each f xs all)

namespace_shown : (ns : List ℕ) → Shown (of_namespace ns)
namespace_shown [] = refl
namespace_shown (byte ∷ bytes) = both (codes " of namespace ") (quoted (byte ∷ bytes)) refl (quoted_shown (byte ∷ bytes))

offer_shown : (own thing : List ℕ) (offer : Offer) → Shown thing → Shown (offer_text own thing offer)
offer_shown own thing (offers.Name name) is = name_shown own (name_text name)
offer_shown own thing (offers.AnyIn ns) is = both (codes "any " ++ thing) (of_namespace ns) (both (codes "any ") thing refl is) (namespace_shown ns)
offer_shown own thing offers.AnyElse is = both (codes "any other ") thing refl is
offer_shown own thing (offers.Value literal) is = quoted_shown literal
offer_shown own thing (offers.End written) is =
    both (codes "\"</" ++ printed_text written) (codes ">\"") (both (codes "\"</") (printed_text written) refl (printed_shown written)) refl

expected_shown : (words own thing : List ℕ) (expected : List Offer) → Shown words → Shown thing → Shown (expected_text words own thing expected)
expected_shown words own thing expected start is = introduced_shown words start (each (offer_text own thing) expected (λ offer. offer_shown own thing offer is))

-- sentences
needs_shown : (detail : List ℕ) → Shown (needs detail)
needs_shown detail =
    introduced_shown (codes ": needs ") refl
    (each (quoted_name (namespace_of (first_word detail))) (needed_words detail) (name_shown (namespace_of (first_word detail))))

lacking_shown : (names : List (List ℕ)) → Shown (lacking names)
lacking_shown [] = refl
lacking_shown (name ∷ []) = both (codes "attribute ") (quoted_name [] name) refl (name_shown [] name)
lacking_shown (name ∷ other ∷ names) = introduced_shown (codes "attributes ") refl (each (quoted_name []) (name ∷ other ∷ names) (name_shown []))

value_shown : (name : List ℕ) → Shown (wrong_value name)
value_shown [] = refl
value_shown (byte ∷ bytes) =
    both (codes "attribute " ++ quoted_name [] (byte ∷ bytes)) (codes " may not have this value")
    (both (codes "attribute ") (quoted_name [] (byte ∷ bytes)) refl (name_shown [] (byte ∷ bytes))) refl

about : (opening detail closing : List ℕ) → Shown opening → Shown closing → Shown (opening ++ quoted detail ++ closing)
about opening detail closing start end = both (opening ++ quoted detail) closing (both opening (quoted detail) start (quoted_shown detail)) end

named : (opening own name closing : List ℕ) → Shown opening → Shown closing → Shown (opening ++ quoted_name own name ++ closing)
named opening own name closing start end = both (opening ++ quoted_name own name) closing (both opening (quoted_name own name) start (name_shown own name)) end

sentence_shown : (kind : Kind) (detail : List ℕ) (expected : List Offer) → Shown (sentence_of kind detail expected)
sentence_shown kinds.BadMarkup detail expected = refl
sentence_shown kinds.BadChar detail expected = refl
sentence_shown kinds.BadReference detail expected = refl
sentence_shown kinds.BadText detail expected = refl
sentence_shown kinds.BadComment detail expected = refl
sentence_shown kinds.BadPi detail expected = refl
sentence_shown kinds.BadDecl detail expected = refl
sentence_shown kinds.Unclosed detail expected = refl
sentence_shown kinds.Misplaced detail expected = refl
sentence_shown kinds.TextOutside detail expected = refl
sentence_shown kinds.MissingEnd detail expected = about (codes "element ") detail _ refl refl
sentence_shown kinds.ExtraEnd detail expected = about (codes "no element ") detail _ refl refl
sentence_shown kinds.UnclosedElement detail expected = about (codes "element ") detail _ refl refl
sentence_shown kinds.SecondRoot detail expected = about (codes "element ") detail _ refl refl
sentence_shown kinds.NoRoot detail expected = refl
sentence_shown kinds.BadName detail expected = both (quoted detail) _ (quoted_shown detail) refl
sentence_shown kinds.UndeclaredPrefix detail expected =
    both (codes "prefix " ++ quoted detail ++ codes " isn't declared; it needs an attribute \"xmlns:" ++ printed_text detail) (codes "\"")
    (both (codes "prefix " ++ quoted detail ++ codes " isn't declared; it needs an attribute \"xmlns:") (printed_text detail)
    (about (codes "prefix ") detail (codes " isn't declared; it needs an attribute \"xmlns:") refl refl) (printed_shown detail)) refl
sentence_shown kinds.DuplicateAttribute detail expected = about (codes "attribute ") detail _ refl refl
sentence_shown kinds.BadBinding detail expected = both (quoted detail) _ (quoted_shown detail) refl
sentence_shown kinds.Unknown detail expected = both (codes "the schema knows no element ") (quoted_name [] detail) refl (name_shown [] detail)
sentence_shown kinds.NotAllowed detail expected =
    both (codes "element " ++ element_name detail ++ codes " may not stand here") (expected_text (codes "; here may stand ") (namespace_of detail) (codes "element") expected)
    (named (codes "element ") (namespace_of detail) detail (codes " may not stand here") refl refl)
    (expected_shown (codes "; here may stand ") (namespace_of detail) (codes "element") expected refl refl)
sentence_shown kinds.NotYet detail expected =
    both (codes "element " ++ element_name (first_word detail) ++ codes " may not stand here yet") (needs detail)
    (named (codes "element ") (namespace_of (first_word detail)) (first_word detail) (codes " may not stand here yet") refl refl) (needs_shown detail)
sentence_shown kinds.UnknownAttribute detail expected =
    both (codes "attribute " ++ quoted_name [] detail ++ codes " may not stand here") (expected_text (codes "; here may stand ") [] (codes "attribute") expected)
    (named (codes "attribute ") [] detail (codes " may not stand here") refl refl) (expected_shown (codes "; here may stand ") [] (codes "attribute") expected refl refl)
sentence_shown kinds.BadValue detail expected =
    both (wrong_value detail) (expected_text (codes "; it may be ") [] (codes "value") expected) (value_shown detail)
    (expected_shown (codes "; it may be ") [] (codes "value") expected refl refl)
sentence_shown kinds.MissingAttributes detail expected = both (codes "this tag lacks ") (lacking (words detail)) refl (lacking_shown (words detail))
sentence_shown kinds.TextNotAllowed detail expected = refl
sentence_shown kinds.Incomplete detail expected =
    both (codes "element " ++ element_name (first_word detail) ++ codes " isn't complete") (needs detail)
    (named (codes "element ") (namespace_of (first_word detail)) (first_word detail) (codes " isn't complete") refl refl) (needs_shown detail)

kind_shown : (kind : Kind) → Shown (kind_name kind)
kind_shown kinds.BadMarkup = refl
kind_shown kinds.BadChar = refl
kind_shown kinds.BadReference = refl
kind_shown kinds.BadText = refl
kind_shown kinds.BadComment = refl
kind_shown kinds.BadPi = refl
kind_shown kinds.BadDecl = refl
kind_shown kinds.Unclosed = refl
kind_shown kinds.Misplaced = refl
kind_shown kinds.TextOutside = refl
kind_shown kinds.MissingEnd = refl
kind_shown kinds.ExtraEnd = refl
kind_shown kinds.UnclosedElement = refl
kind_shown kinds.SecondRoot = refl
kind_shown kinds.NoRoot = refl
kind_shown kinds.BadName = refl
kind_shown kinds.UndeclaredPrefix = refl
kind_shown kinds.DuplicateAttribute = refl
kind_shown kinds.BadBinding = refl
kind_shown kinds.Unknown = refl
kind_shown kinds.NotAllowed = refl
kind_shown kinds.NotYet = refl
kind_shown kinds.UnknownAttribute = refl
kind_shown kinds.BadValue = refl
kind_shown kinds.MissingAttributes = refl
kind_shown kinds.TextNotAllowed = refl
kind_shown kinds.Incomplete = refl

cause_shown : (cause : Cause) → Shown (cause_text cause)
cause_shown causes.BadEscape = refl
cause_shown causes.BadLiteral = refl
cause_shown causes.BadCharacter = refl
cause_shown causes.Syntax = refl
cause_shown causes.TooDeep = refl
cause_shown causes.UndeclaredPrefix = refl
cause_shown causes.Twice = refl
cause_shown causes.BadMarkup = refl
cause_shown causes.BadForm = refl
cause_shown causes.NotGrammar = refl
cause_shown causes.IncludeLoop = refl
cause_shown causes.NoDefinition = refl
cause_shown causes.NoStart = refl
cause_shown causes.CombineClash = refl
cause_shown causes.RefLoop = refl
cause_shown causes.BadExcept = refl
cause_shown causes.XmlnsName = refl
cause_shown causes.TooLarge = refl
cause_shown causes.UnknownType = refl
cause_shown causes.UnknownParam = refl
cause_shown causes.BadParam = refl
cause_shown causes.BadValue = refl
cause_shown causes.TooManyExcepts = refl
cause_shown causes.UnsupportedExcept = refl
cause_shown causes.Path = refl
cause_shown causes.Mixture = refl
cause_shown causes.AttributeOverlap = refl
cause_shown causes.WildcardOnce = refl
cause_shown causes.InterleaveOverlap = refl
cause_shown causes.TextTwice = refl
cause_shown causes.NothingValid = refl

trouble_shown : (trouble : Trouble) → Shown (trouble_text trouble)
trouble_shown troubles.Absent = refl
trouble_shown (troubles.NotUtf8 at) =
    both (codes "this isn't UTF-8 from byte " ++ decimal at) (codes " on") (both (codes "this isn't UTF-8 from byte ") (decimal at) refl (decimal_shown at)) refl
trouble_shown troubles.BadUri = refl
trouble_shown troubles.Failed = refl
trouble_shown troubles.NoMemory = refl
trouble_shown troubles.BadRules = refl
trouble_shown troubles.RulesLoop = refl
trouble_shown troubles.NoSchema = refl
trouble_shown (troubles.Schema cause) = cause_shown cause

about_shown : (told : List ℕ) → Shown (about_text told)
about_shown [] = refl
about_shown (byte ∷ bytes) = both (codes ": ") (quoted (byte ∷ bytes)) refl (quoted_shown (byte ∷ bytes))

-- lines
place_shown : (place : Option Position) → Shown (place_text place)
place_shown None = refl
place_shown (Some place) =
    both (codes ":" ++ decimal (place.line + 1) ++ codes ":") (decimal (place.column + 1))
    (both (codes ":" ++ decimal (place.line + 1)) (codes ":") (both (codes ":") (decimal (place.line + 1)) refl (decimal_shown (place.line + 1))) refl)
    (decimal_shown (place.column + 1))

severity_shown : (severity : Severity) → Shown (severity_word severity)
severity_shown severities.Error = refl
severity_shown severities.Warning = refl
severity_shown severities.Note = refl

head_shown : (name : List ℕ) (place : Option Position) (severity : Severity) → Shown (head name place severity)
head_shown name place severity =
    both (printed_text name ++ place_text place ++ codes ": " ++ severity_word severity) (codes ": ")
    (both (printed_text name ++ place_text place ++ codes ": ") (severity_word severity)
    (both (printed_text name ++ place_text place) (codes ": ") (both (printed_text name) (place_text place) (printed_shown name) (place_shown place)) refl)
    (severity_shown severity)) refl

errors_shown : (count : ℕ) → Shown (errors_word count)
errors_shown count = by (count == 1)
  where
    by : (b : Bool) → Shown (if b then codes " error" else codes " errors")
    by true = refl
    by false = refl

one_line : (front : List ℕ) → Shown front → IsOneLine (front ++ codes "\n")
one_line front is = record { front = front; whole = refl; shown = is }

pub lines_are : LinesAreOneLine
lines_are = record {
  faults = λ name place fault expected.
      let start = head name (Some place) severities.Error ++ sentence_of fault.kind fault.detail expected ++ codes " [" ++ kind_name fault.kind in
      record {
        front = start ++ codes "]";
        whole = sym (append_assoc start (codes "]") (codes "\n"));
        shown = both start (codes "]")
            (both (head name (Some place) severities.Error ++ sentence_of fault.kind fault.detail expected ++ codes " [") (kind_name fault.kind)
            (both (head name (Some place) severities.Error ++ sentence_of fault.kind fault.detail expected) (codes " [")
            (both (head name (Some place) severities.Error) (sentence_of fault.kind fault.detail expected) (head_shown name (Some place) severities.Error)
            (sentence_shown fault.kind fault.detail expected)) refl) (kind_shown fault.kind)) refl;
      };
  summaries = λ name count.
      one_line (printed_text name ++ codes ": " ++ decimal count ++ errors_word count)
      (both (printed_text name ++ codes ": " ++ decimal count) (errors_word count)
      (both (printed_text name ++ codes ": ") (decimal count) (both (printed_text name) (codes ": ") (printed_shown name) refl) (decimal_shown count)) (errors_shown count));
  troubles = λ name place trouble told.
      one_line (head name place severities.Error ++ trouble_text trouble ++ about_text told)
      (both (head name place severities.Error ++ trouble_text trouble) (about_text told)
      (both (head name place severities.Error) (trouble_text trouble) (head_shown name place severities.Error) (trouble_shown trouble)) (about_shown told));
  messages = λ name place severity told.
      one_line (head name place severity ++ printed_text told)
      (both (head name place severity) (printed_text told) (head_shown name place severity) (printed_shown told));
}
