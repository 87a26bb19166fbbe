-- What is printed is text.
use Rattle.std.proofs.Common.{◌≡◌, ℕ, zero, suc, ◌+◌, ◌/◌, ◌%◌, ◌<◌, ◌≤◌, true, false, ◌||◌, eqb, ltb, List, [], ◌∷◌, ◌++◌, length, get_or, take, codes, Option, Some, None, refl, sym, ap, subst, ◌∙◌, arith, inl, inr}
use lib.Utf8.{scalar, scalars, encode, encodes}
use Rattle.std.specs.Fmt.{digits, digits_onto, digit_glyph, decimal}
use Rattle.std.specs.List.{AllByRecursion, flat_map, list_all}
use Rattle.std.specs.Str.{IsUtf8, IsAscii, chars}
use Rattle.std.proofs.lemmas.Bool.{cases_lt, cases_Bool, lt-ltb, le-ltb, ltb-true, ne_eqb, and_parts, or_from}
use Rattle.std.proofs.lemmas.List.{append-nil, flat_map_more, take_more}
use Rattle.std.proofs.lemmas.List.Concat.{flat_map-append}
use Rattle.std.proofs.lemmas.Str.{IsUtf8-append, IsUtf8-encode, IsUtf8-from_ascii, IsUtf8-nil, encode_ascii, chars_from_encodes}
use Rattle.std.proofs.lemmas.Str.Ascii.{IsAscii-nil, IsAscii-cons}
use Rattle.nx_base.specs.declared.cause.Cause.{Cause}
use Rattle.nx_base.specs.declared.cause.Cause.TheVariants as causes
use Rattle.nx_base.specs.declared.fault.Fault.{Fault}
use Rattle.nx_base.specs.declared.fault.Span.{Span}
use Rattle.nx_base.specs.declared.fault.Kind.{Kind}
use Rattle.nx_base.specs.declared.fault.Kind.TheVariants as kinds
use Rattle.nx_script.specs.Causes.{cause_name}
use Rattle.nx_script.specs.Escapes.{is_escaped, escape, printed, printed_text, printed_character}
use Rattle.nx_base.specs.PrintedNames.{braced, name_text}
use Rattle.nx_base.specs.declared.locate_fault.LocateFault.{LocateFault}
use Rattle.nx_base.specs.declared.locate_fault.LocateFault.TheVariants as rules
use Rattle.nx_base.specs.declared.offer.Offer.{Offer}
use Rattle.nx_base.specs.declared.offer.Offer.TheVariants as offer
use Rattle.nx_base.specs.declared.offer.Offers.{Offers}
use Rattle.nx_base.specs.declared.offer.Offers.TheVariants as offered
use Rattle.nx_script.specs.FaultLines.{place_text, detail_text, fault_line, fault_lines, errors_text, view_text}
use Rattle.nx_script.specs.OfferLines.{offer_text, offer_line, offers_text}
use Rattle.nx_script.specs.Kinds.{kind_name}
use Rattle.nx_script.specs.Printing.{frontier_text, taken_text, located_text, caret_text, position_text, rules_text, refusal_text, refused_text, reply_text}
use Rattle.nx_script.specs.Replies.{RulesFaultIsText, RefusalIsText, FaultsAreText, LocatedIsText, OfferIsText, OffersAreText, ReplyIsText}
use Rattle.nx_script.specs.declared.reply.Reply.{Reply}
use Rattle.nx_script.specs.declared.reply.Reply.TheVariants.{Silent, Printed, Errors, Frontier, Taken, Located, Offered, Caret, Stay, Position, Shown, Refused}
use Rattle.nx_script.specs.declared.reply.Refusal.{Refusal}
use Rattle.nx_script.specs.declared.reply.Refusal.TheVariants.{BadCommand, BadPosition, BadUri, Absent, NotUtf8, Unreadable, BadRules, NoView, Failed, NoMemory}

-- ---- bytes below 128

abbrev AllLow : List ℕ → Type 0
AllLow bytes = AllByRecursion (λ b. b < 128) bytes

low_ascii : (bytes : List ℕ) → AllLow bytes → IsAscii bytes
low_ascii [] h = IsAscii-nil
low_ascii (b ∷ bytes) h = IsAscii-cons b bytes h.0 (low_ascii bytes h.1)

low_text : (bytes : List ℕ) → AllLow bytes → IsUtf8 bytes
low_text bytes h = IsUtf8-from_ascii bytes (low_ascii bytes h)

low_test : (bytes : List ℕ) → list_all (λ b. ltb b 128) bytes ≡ true → AllLow bytes
low_test [] e = tt
low_test (b ∷ bytes) e = let parts = and_parts (ltb b 128) (list_all (λ c. ltb c 128) bytes) e in (ltb-true b 128 parts.0, low_test bytes parts.1)

-- words of the program's own
pub word_text : (bytes : List ℕ) → list_all (λ b. ltb b 128) bytes ≡ true → IsUtf8 bytes
word_text bytes e = low_text bytes (low_test bytes e)

glyph_low : (d : ℕ) → d < 16 → digit_glyph false d < 128
glyph_low d h = elim (cases_lt d 10) [ inl lt ↦ rw (lt-ltb d 10 lt) (omega arith) | inr ge ↦ rw (le-ltb d 10 ge) (omega arith) ]

digits_low : (k base n : ℕ) (acc : List ℕ) → 0 < base → base ≤ 16 → AllLow acc → AllLow (digits_onto k base false n acc)
digits_low zero base n acc some few h = h
digits_low (suc k) base n acc some few h =
    let glyph = glyph_low (n % base) (omega arith) in
    elim (cases_Bool (eqb (n / base) 0)) [
      | inl last ↦ rw last (glyph, h)
      | inr more ↦ rw more (digits_low k base (n / base) (digit_glyph false (n % base) ∷ acc) some few (glyph, h))
    ]

number_text : (base n : ℕ) → 0 < base → base ≤ 16 → IsUtf8 (digits base false n)
unfolding digits
number_text base n some few = low_text (digits_onto 64 base false n []) (digits_low 64 base n [] some few tt)

pub decimal_text : (n : ℕ) → IsUtf8 (decimal n)
decimal_text n = number_text 10 n (omega arith) (omega arith)

-- ---- characters

-- a byte of a character that isn't ASCII prints as it is
not_escaped : (b : ℕ) → 128 ≤ b → is_escaped b ≡ false
not_escaped b h =
    or_from (ltb b 0x20 || eqb b 0x7F) (eqb b 92) (or_from (ltb b 0x20) (eqb b 0x7F) (le-ltb b 0x20 (omega arith)) (ne_eqb b 0x7F (λ e. absurd (omega arith)))) (ne_eqb b 92 (λ e. absurd (omega arith)))

abbrev AllHigh : List ℕ → Type 0
AllHigh bytes = AllByRecursion (λ b. 128 ≤ b) bytes

high_printed : (bytes : List ℕ) → AllHigh bytes → printed_text bytes ≡ bytes
high_printed [] h = refl
high_printed (b ∷ bytes) h = rw (not_escaped b h.0, high_printed bytes h.1) refl

high_bytes : (c : ℕ) → 128 ≤ c → AllHigh (encode c)
unfolding encode
high_bytes c h =
    elim (cases_lt c 2048) [
      | inl two ↦ rw (le-ltb c 128 h, lt-ltb c 2048 two) (omega arith, (omega arith, tt))
      | inr more ↦ elim (cases_lt c 65536) [
        | inl three ↦ rw (le-ltb c 128 h, le-ltb c 2048 more, lt-ltb c 65536 three) (omega arith, (omega arith, (omega arith, tt)))
        | inr four ↦ rw (le-ltb c 128 h, le-ltb c 2048 more, le-ltb c 65536 four) (omega arith, (omega arith, (omega arith, (omega arith, tt))))
      ]
    ]

character_printed : (c : ℕ) → printed_text (encode c) ≡ printed_character c
character_printed c = elim (cases_lt c 128) [
  | inl low ↦ rw (encode_ascii c low) (append-nil (printed c))
  | inr high ↦ rw (not_escaped c high) (high_printed (encode c) (high_bytes c high))
]

characters_printed : (cs : List ℕ) → printed_text (encodes cs) ≡ flat_map printed_character cs
characters_printed [] = refl
characters_printed (c ∷ cs) = flat_map-append printed (encode c) (encodes cs) ∙ (λ k. character_printed c k ++ characters_printed cs k)

pub by_character : (text : List ℕ) → IsUtf8 text → printed_text text ≡ flat_map printed_character (chars text)
by_character text (cs, (s, e)) =
    ap printed_text (sym e) ∙ characters_printed cs ∙ ap (flat_map printed_character) (chars_from_encodes cs text (cs, (s, e)) e)

escape_text : (c : ℕ) → IsUtf8 (escape c)
escape_text c =
    IsUtf8-append (codes "\\u{" ++ digits 16 false c) (codes "}") (IsUtf8-append (codes "\\u{") (digits 16 false c) (word_text (codes "\\u{") refl) (number_text 16 c (omega arith) (omega arith))) (word_text (codes "}") refl)

character_text : (c : ℕ) → scalar c ≡ true → IsUtf8 (printed_character c)
character_text c s = elim (cases_Bool (is_escaped c)) [ inl low ↦ rw low (escape_text c) | inr other ↦ rw other (IsUtf8-encode c s) ]

characters_text : (cs : List ℕ) → scalars cs ≡ true → IsUtf8 (flat_map printed_character cs)
characters_text [] s = IsUtf8-nil
characters_text (c ∷ cs) s =
    let parts = and_parts (scalar c) (scalars cs) s in
    IsUtf8-append (printed_character c) (flat_map printed_character cs) (character_text c parts.0) (characters_text cs parts.1)

printed_is_text : (text : List ℕ) → IsUtf8 text → IsUtf8 (printed_text text)
printed_is_text text (cs, (s, e)) = subst IsUtf8 (sym (characters_printed cs) ∙ ap printed_text e) (characters_text cs s)

-- ---- lines

kind_text : (kind : Kind) → IsUtf8 (kind_name kind)
kind_text kinds.BadMarkup = word_text (codes "BadMarkup") refl
kind_text kinds.BadChar = word_text (codes "BadChar") refl
kind_text kinds.BadReference = word_text (codes "BadReference") refl
kind_text kinds.BadText = word_text (codes "BadText") refl
kind_text kinds.BadComment = word_text (codes "BadComment") refl
kind_text kinds.BadPi = word_text (codes "BadPi") refl
kind_text kinds.BadDecl = word_text (codes "BadDecl") refl
kind_text kinds.Unclosed = word_text (codes "Unclosed") refl
kind_text kinds.Misplaced = word_text (codes "Misplaced") refl
kind_text kinds.TextOutside = word_text (codes "TextOutside") refl
kind_text kinds.MissingEnd = word_text (codes "MissingEnd") refl
kind_text kinds.ExtraEnd = word_text (codes "ExtraEnd") refl
kind_text kinds.UnclosedElement = word_text (codes "UnclosedElement") refl
kind_text kinds.SecondRoot = word_text (codes "SecondRoot") refl
kind_text kinds.NoRoot = word_text (codes "NoRoot") refl
kind_text kinds.BadName = word_text (codes "BadName") refl
kind_text kinds.UndeclaredPrefix = word_text (codes "UndeclaredPrefix") refl
kind_text kinds.DuplicateAttribute = word_text (codes "DuplicateAttribute") refl
kind_text kinds.BadBinding = word_text (codes "BadBinding") refl
kind_text kinds.Unknown = word_text (codes "Unknown") refl
kind_text kinds.NotAllowed = word_text (codes "NotAllowed") refl
kind_text kinds.NotYet = word_text (codes "NotYet") refl
kind_text kinds.UnknownAttribute = word_text (codes "UnknownAttribute") refl
kind_text kinds.BadValue = word_text (codes "BadValue") refl
kind_text kinds.MissingAttributes = word_text (codes "MissingAttributes") refl
kind_text kinds.TextNotAllowed = word_text (codes "TextNotAllowed") refl
kind_text kinds.Incomplete = word_text (codes "Incomplete") refl

cause_text : (why : Cause) → IsUtf8 (cause_name why)
cause_text causes.BadEscape = word_text (codes "BadEscape") refl
cause_text causes.BadLiteral = word_text (codes "BadLiteral") refl
cause_text causes.BadCharacter = word_text (codes "BadCharacter") refl
cause_text causes.Syntax = word_text (codes "Syntax") refl
cause_text causes.TooDeep = word_text (codes "TooDeep") refl
cause_text causes.UndeclaredPrefix = word_text (codes "UndeclaredPrefix") refl
cause_text causes.Twice = word_text (codes "Twice") refl
cause_text causes.BadMarkup = word_text (codes "BadMarkup") refl
cause_text causes.BadForm = word_text (codes "BadForm") refl
cause_text causes.NotGrammar = word_text (codes "NotGrammar") refl
cause_text causes.IncludeLoop = word_text (codes "IncludeLoop") refl
cause_text causes.NoDefinition = word_text (codes "NoDefinition") refl
cause_text causes.NoStart = word_text (codes "NoStart") refl
cause_text causes.CombineClash = word_text (codes "CombineClash") refl
cause_text causes.RefLoop = word_text (codes "RefLoop") refl
cause_text causes.BadExcept = word_text (codes "BadExcept") refl
cause_text causes.XmlnsName = word_text (codes "XmlnsName") refl
cause_text causes.TooLarge = word_text (codes "TooLarge") refl
cause_text causes.UnknownType = word_text (codes "UnknownType") refl
cause_text causes.UnknownParam = word_text (codes "UnknownParam") refl
cause_text causes.BadParam = word_text (codes "BadParam") refl
cause_text causes.BadValue = word_text (codes "BadValue") refl
cause_text causes.TooManyExcepts = word_text (codes "TooManyExcepts") refl
cause_text causes.UnsupportedExcept = word_text (codes "UnsupportedExcept") refl
cause_text causes.Path = word_text (codes "Path") refl
cause_text causes.Mixture = word_text (codes "Mixture") refl
cause_text causes.AttributeOverlap = word_text (codes "AttributeOverlap") refl
cause_text causes.WildcardOnce = word_text (codes "WildcardOnce") refl
cause_text causes.InterleaveOverlap = word_text (codes "InterleaveOverlap") refl
cause_text causes.TextTwice = word_text (codes "TextTwice") refl
cause_text causes.NothingValid = word_text (codes "NothingValid") refl

detail_is_text : (detail : List ℕ) → IsUtf8 detail → IsUtf8 (detail_text detail)
detail_is_text [] h = IsUtf8-nil
detail_is_text (b ∷ bytes) h = IsUtf8-append (codes " ") (printed_text (b ∷ bytes)) (word_text (codes " ") refl) (printed_is_text (b ∷ bytes) h)

place_is_text : (span : Span) → IsUtf8 (place_text span)
place_is_text span =
    let from = decimal span.from in
    let to = decimal span.to in
    IsUtf8-append (from ++ codes "-" ++ to) (codes " ")
    (IsUtf8-append (from ++ codes "-") to (IsUtf8-append from (codes "-") (decimal_text span.from) (word_text (codes "-") refl)) (decimal_text span.to)) (word_text (codes " ") refl)

line_is_text : (fault : Fault) → IsUtf8 fault.detail → IsUtf8 (fault_line fault)
line_is_text fault h =
    let place = place_text fault.span in
    let kind = kind_name fault.kind in
    let detail = detail_text fault.detail in
    IsUtf8-append (place ++ kind ++ detail) (codes "\n")
    (IsUtf8-append (place ++ kind) detail (IsUtf8-append place kind (place_is_text fault.span) (kind_text fault.kind)) (detail_is_text fault.detail h)) (word_text (codes "\n") refl)

lines_are_text : (faults : List Fault) → AllByRecursion (λ (fault : Fault). IsUtf8 fault.detail) faults → IsUtf8 (flat_map fault_line faults)
lines_are_text [] h = IsUtf8-nil
lines_are_text (fault ∷ faults) h = IsUtf8-append (fault_line fault) (flat_map fault_line faults) (line_is_text fault h.0) (lines_are_text faults h.1)

errors_are_text : (faults : List Fault) → AllByRecursion (λ (fault : Fault). IsUtf8 fault.detail) faults → IsUtf8 (errors_text faults)
errors_are_text faults h =
    let count = decimal (length faults) in
    IsUtf8-append (codes "errors: " ++ count ++ codes "\n") (flat_map fault_line faults)
    (IsUtf8-append (codes "errors: " ++ count) (codes "\n") (IsUtf8-append (codes "errors: ") count (word_text (codes "errors: ") refl) (decimal_text (length faults))) (word_text (codes "\n") refl))
    (lines_are_text faults h)

view_is_text : (index : ℕ) (faults : List Fault) → FaultsAreText faults → IsUtf8 (view_text index faults)
view_is_text index faults h =
    let front = codes "view " ++ decimal index ++ codes ": " in
    let count = decimal (length faults) in
    IsUtf8-append (front ++ count ++ codes "\n") (fault_lines faults)
    (IsUtf8-append (front ++ count) (codes "\n")
    (IsUtf8-append front count
    (IsUtf8-append (codes "view " ++ decimal index) (codes ": ") (IsUtf8-append (codes "view ") (decimal index) (word_text (codes "view ") refl) (decimal_text index)) (word_text (codes ": ") refl))
    (decimal_text (length faults)))
    (word_text (codes "\n") refl))
    (lines_are_text faults h)

-- ---- offers

braced_is_text : (ns : List ℕ) → IsUtf8 ns → IsUtf8 (braced ns)
braced_is_text [] h = IsUtf8-nil
braced_is_text (b ∷ bytes) h =
    IsUtf8-append (codes "{") ((b ∷ bytes) ++ codes "}") (word_text (codes "{") refl) (IsUtf8-append (b ∷ bytes) (codes "}") h (word_text (codes "}") refl))

-- a word of the program's own, and a text as it prints
about_is_text : (word told : List ℕ) → IsUtf8 word → IsUtf8 told → IsUtf8 (word ++ printed_text told)
about_is_text word told w h = IsUtf8-append word (printed_text told) w (printed_is_text told h)

offer_is_text : (this : Offer) → OfferIsText this → IsUtf8 (offer_text this)
offer_is_text (offer.Name name) h =
    about_is_text (codes "name ") (name_text name) (word_text (codes "name ") refl) (IsUtf8-append (braced name.ns) name.local (braced_is_text name.ns h.0) h.1)
offer_is_text (offer.AnyIn ns) h = about_is_text (codes "any-in ") ns (word_text (codes "any-in ") refl) h
offer_is_text offer.AnyElse h = word_text (codes "any-else") refl
offer_is_text (offer.Value literal) h = about_is_text (codes "value ") literal (word_text (codes "value ") refl) h
offer_is_text (offer.End written) h = about_is_text (codes "end ") written (word_text (codes "end ") refl) h

offer_lines_are_text : (offers : List Offer) → AllByRecursion OfferIsText offers → IsUtf8 (flat_map offer_line offers)
offer_lines_are_text [] h = IsUtf8-nil
offer_lines_are_text (this ∷ offers) h =
    IsUtf8-append (offer_line this) (flat_map offer_line offers)
    (IsUtf8-append (offer_text this) (codes "\n") (offer_is_text this h.0) (word_text (codes "\n") refl))
    (offer_lines_are_text offers h.1)

offers_are_text : (offers : Offers) → OffersAreText offers → IsUtf8 (offers_text offers)
offers_are_text offered.Nowhere h = word_text (codes "offers: none\n") refl
offers_are_text (offered.List offers) h =
    let count = decimal (length offers) in
    IsUtf8-append (codes "offers: " ++ count ++ codes "\n") (flat_map offer_line offers)
    (IsUtf8-append (codes "offers: " ++ count) (codes "\n") (IsUtf8-append (codes "offers: ") count (word_text (codes "offers: ") refl) (decimal_text (length offers))) (word_text (codes "\n") refl))
    (offer_lines_are_text offers h)

-- ---- refusals

rules_are_text : (why : LocateFault) → RulesFaultIsText why → IsUtf8 (rules_text why)
rules_are_text (rules.RulesAbsent uri) h = IsUtf8-append (codes "BadRules Absent ") uri (word_text (codes "BadRules Absent ") refl) h
rules_are_text (rules.RulesNotUtf8 uri at) h = IsUtf8-append (codes "BadRules NotUtf8 ") uri (word_text (codes "BadRules NotUtf8 ") refl) h
rules_are_text (rules.BadRules uri) h = IsUtf8-append (codes "BadRules Malformed ") uri (word_text (codes "BadRules Malformed ") refl) h
rules_are_text (rules.RulesLoop uri) h = IsUtf8-append (codes "BadRules Loop ") uri (word_text (codes "BadRules Loop ") refl) h
rules_are_text (rules.BadUri text) h = absurd h
rules_are_text rules.Failed h = absurd h
rules_are_text rules.NoMemory h = absurd h

refusal_is_text : (refusal : Refusal) → RefusalIsText refusal → IsUtf8 (refusal_text refusal)
refusal_is_text BadCommand h = word_text (codes "BadCommand") refl
refusal_is_text (BadPosition at len) h =
    IsUtf8-append (codes "BadPosition " ++ decimal at ++ codes " ") (decimal len)
    (IsUtf8-append (codes "BadPosition " ++ decimal at) (codes " ") (IsUtf8-append (codes "BadPosition ") (decimal at) (word_text (codes "BadPosition ") refl) (decimal_text at)) (word_text (codes " ") refl))
    (decimal_text len)
refusal_is_text BadUri h = word_text (codes "BadUri") refl
refusal_is_text (Absent uri) h = IsUtf8-append (codes "Absent ") uri (word_text (codes "Absent ") refl) h
refusal_is_text (NotUtf8 uri at) h =
    IsUtf8-append (codes "NotUtf8 " ++ uri ++ codes " ") (decimal at)
    (IsUtf8-append (codes "NotUtf8 " ++ uri) (codes " ") (IsUtf8-append (codes "NotUtf8 ") uri (word_text (codes "NotUtf8 ") refl) h) (word_text (codes " ") refl))
    (decimal_text at)
refusal_is_text (Unreadable why) h = IsUtf8-append (codes "Unreadable ") (cause_name why) (word_text (codes "Unreadable ") refl) (cause_text why)
refusal_is_text (BadRules why) h = rules_are_text why h
refusal_is_text (NoView index) h = IsUtf8-append (codes "NoView ") (decimal index) (word_text (codes "NoView ") refl) (decimal_text index)
refusal_is_text Failed h = word_text (codes "Failed") refl
refusal_is_text NoMemory h = word_text (codes "NoMemory") refl

refused_is_text : (line : ℕ) (refusal : Refusal) → RefusalIsText refusal → IsUtf8 (refused_text line refusal)
refused_is_text line refusal h =
    let front = codes "line " ++ decimal line ++ codes " refused: " in
    IsUtf8-append (front ++ refusal_text refusal) (codes "\n")
    (IsUtf8-append front (refusal_text refusal)
    (IsUtf8-append (codes "line " ++ decimal line) (codes " refused: ") (IsUtf8-append (codes "line ") (decimal line) (word_text (codes "line ") refl) (decimal_text line)) (word_text (codes " refused: ") refl))
    (refusal_is_text refusal h))
    (word_text (codes "\n") refl)

frontier_is_text : (at len : ℕ) → IsUtf8 (frontier_text at len)
frontier_is_text at len =
    let front = codes "frontier " ++ decimal at ++ codes " of " in
    IsUtf8-append (front ++ decimal len) (codes "\n")
    (IsUtf8-append front (decimal len)
    (IsUtf8-append (codes "frontier " ++ decimal at) (codes " of ") (IsUtf8-append (codes "frontier ") (decimal at) (word_text (codes "frontier ") refl) (decimal_text at)) (word_text (codes " of ") refl))
    (decimal_text len))
    (word_text (codes "\n") refl)

taken_is_text : (taken : ℕ) → IsUtf8 (taken_text taken)
taken_is_text taken =
    IsUtf8-append (codes "taken " ++ decimal taken) (codes "\n")
    (IsUtf8-append (codes "taken ") (decimal taken) (word_text (codes "taken ") refl) (decimal_text taken)) (word_text (codes "\n") refl)

located_is_text : (uri : Option (List ℕ)) → LocatedIsText uri → IsUtf8 (located_text uri)
located_is_text (Some uri) h =
    IsUtf8-append (codes "schema " ++ uri) (codes "\n") (IsUtf8-append (codes "schema ") uri (word_text (codes "schema ") refl) h) (word_text (codes "\n") refl)
located_is_text None h = word_text (codes "schema none\n") refl

caret_is_text : (at : ℕ) → IsUtf8 (caret_text at)
caret_is_text at =
    IsUtf8-append (codes "caret " ++ decimal at) (codes "\n")
    (IsUtf8-append (codes "caret ") (decimal at) (word_text (codes "caret ") refl) (decimal_text at)) (word_text (codes "\n") refl)

position_is_text : (line column : ℕ) → IsUtf8 (position_text line column)
position_is_text line column =
    let front = codes "line " ++ decimal line ++ codes " column " in
    IsUtf8-append (front ++ decimal column) (codes "\n")
    (IsUtf8-append front (decimal column)
    (IsUtf8-append (codes "line " ++ decimal line) (codes " column ") (IsUtf8-append (codes "line ") (decimal line) (word_text (codes "line ") refl) (decimal_text line)) (word_text (codes " column ") refl))
    (decimal_text column))
    (word_text (codes "\n") refl)

pub reply_is_text : (line : ℕ) (answer : Reply) → ReplyIsText answer → IsUtf8 (reply_text line answer)
reply_is_text line Silent h = IsUtf8-nil
reply_is_text line (Printed text) h = IsUtf8-append text (codes "\n") h (word_text (codes "\n") refl)
reply_is_text line (Errors faults) h = errors_are_text faults h
reply_is_text line (Frontier at len) h = frontier_is_text at len
reply_is_text line (Taken taken) h = taken_is_text taken
reply_is_text line (Located uri) h = located_is_text uri h
reply_is_text line (Offered offers) h = offers_are_text offers h
reply_is_text line (Caret at) h = caret_is_text at
reply_is_text line Stay h = word_text (codes "stay\n") refl
reply_is_text line (Position row column) h = position_is_text row column
reply_is_text line (Shown index faults) h = view_is_text index faults h
reply_is_text line (Refused refusal) h = refused_is_text line refusal h

-- ---- loops that print

-- one more of what is printed item by item
pub print_more : {X : Type 0} (f : X → List ℕ) (before now next : List ℕ) (items : List X) (i : ℕ) (item : X) → now ≡ before ++ flat_map f (take i items) → i < length items → get_or items i item ≡ item
    → next ≡ now ++ f item → next ≡ before ++ flat_map f (take (i + 1) items)
print_more f before now next items i item is lt here more =
    more ∙ ap (λ t. t ++ f item) is ∙ flat_map_more f before (take i items) item
    ∙ ap (λ l. before ++ flat_map f l) (ap (λ x. take i items ++ x ∷ []) (sym here) ∙ sym (take_more items i item lt))
