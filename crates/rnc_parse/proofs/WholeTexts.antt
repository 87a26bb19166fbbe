-- Laws of whole texts: what they say, and why they say nothing.
use Rattle.std.proofs.Common.{◌≡◌, ◌≢◌, ℕ, ◌≤◌, ◌⊎◌, inl, inr, List, [], ◌∷◌, ◌++◌, Option, Some, None, Result, Ok, Err, refl, sym, ap, subst, ◌∙◌, arith, append_assoc}
use Rattle.std.proofs.lemmas.Bool.{cases_lt}
use Rattle.std.proofs.lemmas.List.{map-append}
use Rattle.nx_base.specs.declared.cause.Cause.{Cause}
use Rattle.nx_base.specs.declared.cause.Cause.TheVariants as cause
use Rattle.rnc_lex.specs.declared.fault.LexFault.{LexFault}
use Rattle.rnc_lex.specs.declared.fault.LexFault.TheVariants as lex
use Rattle.rnc_lex.specs.declared.token.Lexeme.{Lexeme}
use Rattle.rnc_lex.specs.declared.token.RncToken.{RncToken}
use Rattle.rnc_lex.specs.Tokens.{Lexes}
use Rattle.rnc_lex.specs.Laws.{Tells}
use Rattle.rnc_lex.proofs.Lexed.{texts_have_one_answer, texts_have_an_answer}
use Rattle.rnc_parse.specs.declared.declaration.Declaration.{Declaration}
use Rattle.rnc_parse.specs.Scopes.{scope_of, AreInOrder, IsDeclaredTwice, Use, prefix_of}
use Rattle.rnc_parse.specs.Written.{WrittenSurface}
use Rattle.rnc_parse.specs.Files.{lexemes, open_behind, Says, IsNoFile, IsSomeFile, NeedsPrefix, DeclaresTwice, IsShallow, IsTooDeepAt}
use Rattle.rnc_parse.specs.Reads.{Reads, Refuses}
use Rattle.rnc_parse.specs.Reading.{Reading, read, no_reading, no_prefix}
use Rattle.rnc_parse.specs.ReadingFiles.{declarations_at, body_at}
use Rattle.rnc_parse.specs.AnsweringParts.{every_prefix}
use Rattle.rnc_parse.specs.Laws.{TextsAreReadAsOne, WhatIsReadIsNotRefused, TextsAreRefusedForOneCause, TextsAreReadOrRefused}
use Rattle.rnc_parse.proofs.Saying.{says, no_declarations, no_body, needs, is_twice, none_missed, declarations_miss_none}
use Rattle.rnc_parse.proofs.Unambiguous.{says_one_thing, says_no_refusal}
use Rattle.rnc_parse.proofs.TooDeep.{Deep, deep_end, deep_more, deep_here}
use Rattle.rnc_parse.proofs.AgreeingFiles.{file_declarations}
use Rattle.rnc_parse.proofs.InOrder.{in_order_or_not}

-- ---- one reading

-- a text is one list of tokens
same_tokens : (text : List ℕ) (one other : List RncToken) → Lexes text (Ok one) → Lexes text (Ok other) → one ≡ other
same_tokens text one other a b = let same : Ok one ≡ Ok other = texts_have_one_answer text (Ok one) (Ok other) (λ e. absurd cc) (λ e. absurd cc) a b in cc

-- a text is read as one surface at most
pub read_as_one : TextsAreReadAsOne
read_as_one text one other a b =
    says_one_thing (lexemes a.tokens) one other a.says
    (subst (λ (ts : List RncToken). Says (lexemes ts) other) (sym (same_tokens text a.tokens b.tokens a.lexed b.lexed)) b.says)

-- ---- no refusal of what is read

-- a text that is tokens has no fault
no_fault : (text : List ℕ) (tokens : List RncToken) (why : LexFault) → why ≢ lex.NoMemory → Lexes text (Ok tokens) → Lexes text (Err why) →
    ⊥
no_fault text tokens why told a b =
    let same : Ok tokens ≡ Err why = texts_have_one_answer text (Ok tokens) (Err why) (λ e. absurd cc) (λ e. told (let is : why ≡ lex.NoMemory = cc in is)) a b in
    absurd cc

-- no bracket is too deep where all tokens are shallow
too_deep : (tokens : List RncToken) (at : ℕ) → IsShallow (lexemes tokens) → IsTooDeepAt tokens at → ⊥
too_deep tokens at shallow d =
    let all : tokens ≡ (d.front ++ d.token ∷ []) ++ d.rest = d.tokens_are ∙ sym (append_assoc d.front (d.token ∷ []) d.rest) in
    let few = shallow (lexemes (d.front ++ d.token ∷ [])) (lexemes d.rest) (ap lexemes all ∙ map-append (λ (t : RncToken). t.lexeme) (d.front ++ d.token ∷ []) d.rest) in
    absurd (omega (arith, few, d.deep))

-- a text that is read is refused for no cause
pub read_not_refused : WhatIsReadIsNotRefused
read_not_refused text surface cause.BadEscape a r = no_fault text a.tokens (lex.BadEscape r.0) (λ e. absurd cc) a.lexed r.1
read_not_refused text surface cause.BadLiteral a r = no_fault text a.tokens (lex.BadLiteral r.0) (λ e. absurd cc) a.lexed r.1
read_not_refused text surface cause.BadCharacter a r = no_fault text a.tokens (lex.BadCharacter r.0) (λ e. absurd cc) a.lexed r.1
read_not_refused text surface cause.TooDeep a r =
    too_deep r.1.tokens r.0 (subst (λ (ts : List RncToken). IsShallow (lexemes ts)) (same_tokens text a.tokens r.1.tokens a.lexed r.1.lexed) a.shallow) r.1.deep
read_not_refused text surface cause.Syntax a r =
    (says_no_refusal (lexemes a.tokens) surface a.says).0 (subst (λ (ts : List RncToken). IsNoFile (lexemes ts)) (same_tokens text r.tokens a.tokens r.lexed a.lexed) r.no_file)
read_not_refused text surface cause.UndeclaredPrefix a r =
    (says_no_refusal (lexemes a.tokens) surface a.says).1 r.1.used (subst (λ (ts : List RncToken). NeedsPrefix (lexemes ts) r.1.used) (same_tokens text r.1.tokens a.tokens r.1.lexed a.lexed) r.1.needed)
read_not_refused text surface cause.Twice a r =
    (says_no_refusal (lexemes a.tokens) surface a.says).2 r.0 (subst (λ (ts : List RncToken). DeclaresTwice (lexemes ts) r.0) (same_tokens text r.1.tokens a.tokens r.1.lexed a.lexed) r.1.twice)
read_not_refused text surface _ a r = elim r [ ]

-- ---- each text is read or refused

-- what tokens say, or why they say nothing
data Told (tokens : List Lexeme) : Type 0 where
  said : {surface : WrittenSurface} → Says tokens surface → Told tokens
  no_file : IsNoFile tokens → Told tokens
  twice : {prefix : List ℕ} → DeclaresTwice tokens prefix → Told tokens
  needed : {used : Use} → NeedsPrefix tokens used → Told tokens

-- where the declarations are in order
ordered_told : (tokens body : List Lexeme) (declarations : List Declaration) (x y : Reading WrittenSurface) → IsShallow tokens →
    declarations_at tokens ≡ read declarations body → AreInOrder declarations → body_at (scope_of declarations) 200 body ≡ x →
    body_at every_prefix 200 body ≡ y → Told tokens
ordered_told tokens body ds (read surface rest) y shallow e order f g =
    said (says (scope_of ds) tokens body rest surface (record { declarations = ds; are = e; in_order = order; scope_is = refl }) f)
ordered_told tokens body ds no_reading y shallow e order f g = no_file (no_body (scope_of ds) tokens body ds shallow e f)
ordered_told tokens body ds (no_prefix used) (read surface rest) shallow e order f g = needed (needs (scope_of ds) tokens body rest surface used shallow (record { declarations = ds; are = e; in_order = order; scope_is = refl }) f g)
ordered_told tokens body ds (no_prefix used) no_reading shallow e order f g = no_file (no_body every_prefix tokens body ds shallow e g)
ordered_told tokens body ds (no_prefix used) (no_prefix other) shallow e order f g = elim (none_missed body other g) [ ]

-- where they aren't
clashing_told : (tokens body : List Lexeme) (declarations : List Declaration) (prefix : List ℕ) (x : Reading WrittenSurface) →
    IsShallow tokens → declarations_at tokens ≡ read declarations body → IsDeclaredTwice declarations prefix →
    body_at every_prefix 200 body ≡ x → Told tokens
clashing_told tokens body ds prefix (read surface rest) shallow e t f = twice (is_twice tokens body rest ds surface prefix e t f)
clashing_told tokens body ds prefix no_reading shallow e t f = no_file (no_body every_prefix tokens body ds shallow e f)
clashing_told tokens body ds prefix (no_prefix used) shallow e t f = elim (none_missed body used f) [ ]

-- behind declarations, or where there are none
declared_told : (tokens : List Lexeme) (x : Reading (List Declaration)) → IsShallow tokens → declarations_at tokens ≡ x → Told tokens
declared_told tokens (read ds body) shallow e = elim (in_order_or_not ds) [
  | inl order ↦ ordered_told tokens body ds (body_at (scope_of ds) 200 body) (body_at every_prefix 200 body) shallow e order refl refl
  | inr t ↦ clashing_told tokens body ds t.0 (body_at every_prefix 200 body) shallow e t.1 refl
]
declared_told tokens no_reading shallow e = no_file (no_declarations tokens e)
declared_told tokens (no_prefix used) shallow e = elim (declarations_miss_none tokens used e) [ ]

abbrev IsReadOrRefused : List ℕ → Type 0
IsReadOrRefused text = ((surface : WrittenSurface) × Reads text surface) ⊎ ((why : Cause) × Refuses text why)

-- a text whose tokens are shallow
shallow_text : (text : List ℕ) (tokens : List RncToken) → Lexes text (Ok tokens) → IsShallow (lexemes tokens) → Told (lexemes tokens) →
    IsReadOrRefused text
shallow_text text tokens l shallow (said {surface = s} a) = inl (s, record { tokens = tokens; lexed = l; shallow = shallow; says = a })
shallow_text text tokens l shallow (no_file a) = inr (cause.Syntax, record { tokens = tokens; lexed = l; shallow = shallow; no_file = a })
shallow_text text tokens l shallow (twice {prefix = p} a) =
    inr (cause.Twice, (p, record { tokens = tokens; lexed = l; shallow = shallow; twice = a }))
shallow_text text tokens l shallow (needed {used = u} a) = inr (cause.UndeclaredPrefix, (prefix_of u, record { tokens = tokens; lexed = l; shallow = shallow; used = u; prefix_is = refl; needed = a }))

-- a bracket is too deep, or none is
deep_or_not : (before : ℕ) (tokens : List RncToken) → before ≤ 200 → (answer : Option ℕ) × Deep before tokens answer
deep_or_not before [] few = (None, deep_end before [] refl few)
deep_or_not before (token ∷ tokens) few = elim (cases_lt 200 (open_behind before (token.lexeme ∷ []))) [
  | inl many ↦ (Some token.at, deep_here before (open_behind before (token.lexeme ∷ [])) token tokens (token ∷ tokens) refl few refl many)
  | inr fits ↦
      let later = deep_or_not (open_behind before (token.lexeme ∷ [])) tokens fits in
      (later.0, deep_more before (open_behind before (token.lexeme ∷ [])) token tokens (token ∷ tokens) later.0 refl few refl later.1)
]

-- a text that is tokens
text_of_tokens : (text : List ℕ) (tokens : List RncToken) (answer : Option ℕ) → Lexes text (Ok tokens) → Deep 0 tokens answer →
    IsReadOrRefused text
text_of_tokens text tokens None l d =
    shallow_text text tokens l d (declared_told (lexemes tokens) (declarations_at (lexemes tokens)) d refl)
text_of_tokens text tokens (Some at) l d = inr (cause.TooDeep, (at, record { tokens = tokens; lexed = l; deep = record { front = d.front; token = d.token; rest = d.rest; tokens_are = d.tokens_are; at_is = d.at_is; shallow = d.shallow; deep = d.deep } }))

-- a text, by what its letters are
text_answered : (text : List ℕ) (answer : Result (List RncToken) LexFault) → Tells answer → Lexes text answer → IsReadOrRefused text
text_answered text (Ok tokens) told l = let d = deep_or_not 0 tokens (omega arith) in text_of_tokens text tokens d.0 l d.1
text_answered text (Err (lex.BadEscape at)) told l = inr (cause.BadEscape, (at, l))
text_answered text (Err (lex.BadLiteral at)) told l = inr (cause.BadLiteral, (at, l))
text_answered text (Err (lex.BadCharacter at)) told l = inr (cause.BadCharacter, (at, l))
text_answered text (Err lex.NoMemory) told l = absurd (told refl)

-- each text is read, or refused for some cause
pub read_or_refused : TextsAreReadOrRefused
read_or_refused text = let a = texts_have_an_answer text in text_answered text a.0 a.1 a.2

-- ---- one cause

-- the cause that a fault of letters is
cause_of : LexFault → Cause
cause_of (lex.BadEscape at) = cause.BadEscape
cause_of (lex.BadLiteral at) = cause.BadLiteral
cause_of (lex.BadCharacter at) = cause.BadCharacter
cause_of lex.NoMemory = cause.TooLarge

-- two faults of one text have one cause
same_fault : (text : List ℕ) (one other : LexFault) → one ≢ lex.NoMemory → other ≢ lex.NoMemory → Lexes text (Err one) →
    Lexes text (Err other) → cause_of one ≡ cause_of other
same_fault text one other m n a b =
    let same : Err one ≡ Err other = texts_have_one_answer text (Err one) (Err other) (λ e. m (let is : one ≡ lex.NoMemory = cc in is)) (λ e. n (let is : other ≡ lex.NoMemory = cc in is)) a b in
    let faults : one ≡ other = cc in
    ap cause_of faults

-- a text whose letters are no tokens
faulty_once : (text : List ℕ) (one : LexFault) → one ≢ lex.NoMemory → Lexes text (Err one) → (other : Cause) → Refuses text other →
    cause_of one ≡ other
unfolding cause_of
faulty_once text one told l cause.BadEscape r = same_fault text one (lex.BadEscape r.0) told (λ e. absurd cc) l r.1
faulty_once text one told l cause.BadLiteral r = same_fault text one (lex.BadLiteral r.0) told (λ e. absurd cc) l r.1
faulty_once text one told l cause.BadCharacter r = same_fault text one (lex.BadCharacter r.0) told (λ e. absurd cc) l r.1
faulty_once text one told l cause.TooDeep r = elim (no_fault text r.1.tokens one told r.1.lexed l) [ ]
faulty_once text one told l cause.Syntax r = elim (no_fault text r.tokens one told r.lexed l) [ ]
faulty_once text one told l cause.Twice r = elim (no_fault text r.1.tokens one told r.1.lexed l) [ ]
faulty_once text one told l cause.UndeclaredPrefix r = elim (no_fault text r.1.tokens one told r.1.lexed l) [ ]
faulty_once text one told l _ r = elim r [ ]

-- tokens that say nothing, where no bracket is too deep
data SaysNothing (tokens : List Lexeme) : Cause → Type 0 where
  in_no_reading : IsNoFile tokens → SaysNothing tokens cause.Syntax
  declares_again : {prefix : List ℕ} → DeclaresTwice tokens prefix → SaysNothing tokens cause.Twice
  leaves_out : {used : Use} → NeedsPrefix tokens used → SaysNothing tokens cause.UndeclaredPrefix

-- tokens aren't both in some reading and in none
some_reading : {tokens : List Lexeme} {declarations : List Declaration} → IsSomeFile tokens declarations → IsNoFile tokens → ⊥
some_reading {declarations = ds} f none = none f.scope ds f.surface f.file

-- declarations that clash aren't those of tokens that need a prefix
order_needed : {tokens : List Lexeme} {prefix : List ℕ} {used : Use} → DeclaresTwice tokens prefix → NeedsPrefix tokens used → ⊥
order_needed {prefix = p} t n =
    let is = file_declarations t.some_file.file in
    let are = file_declarations n.some_file.file in
    let same : t.declarations ≡ n.declarations = cc in
    n.in_order p (subst (λ (ds : List Declaration). IsDeclaredTwice ds p) same t.twice)

-- tokens say nothing for one cause at most
nothing_once : {tokens : List Lexeme} {one other : Cause} → SaysNothing tokens one → SaysNothing tokens other → one ≡ other
nothing_once (in_no_reading a) (in_no_reading b) = refl
nothing_once (declares_again a) (declares_again b) = refl
nothing_once (leaves_out a) (leaves_out b) = refl
nothing_once (in_no_reading a) (declares_again b) = elim (some_reading b.some_file a) [ ]
nothing_once (in_no_reading a) (leaves_out b) = elim (some_reading b.some_file a) [ ]
nothing_once (declares_again a) (in_no_reading b) = elim (some_reading a.some_file b) [ ]
nothing_once (declares_again a) (leaves_out b) = elim (order_needed a b) [ ]
nothing_once (leaves_out a) (in_no_reading b) = elim (some_reading a.some_file b) [ ]
nothing_once (leaves_out a) (declares_again b) = elim (order_needed b a) [ ]

-- what is shallow in one list of the text's tokens is so in another
moved_shallow : (text : List ℕ) (one other : List RncToken) → Lexes text (Ok one) → Lexes text (Ok other) → IsShallow (lexemes one) →
    IsShallow (lexemes other)
moved_shallow text one other a b s = subst (λ (ts : List RncToken). IsShallow (lexemes ts)) (same_tokens text one other a b) s

-- and so is why they say nothing
moved_nothing : (text : List ℕ) (one other : List RncToken) (why : Cause) → Lexes text (Ok one) → Lexes text (Ok other) →
    SaysNothing (lexemes one) why → SaysNothing (lexemes other) why
moved_nothing text one other why a b s = subst (λ (ts : List RncToken). SaysNothing (lexemes ts) why) (same_tokens text one other a b) s

-- a text whose tokens are shallow and say nothing
shallow_once : (text : List ℕ) (tokens : List RncToken) (one : Cause) → Lexes text (Ok tokens) → IsShallow (lexemes tokens) →
    SaysNothing (lexemes tokens) one → (other : Cause) → Refuses text other → one ≡ other
shallow_once text tokens one l s n cause.BadEscape r = elim (no_fault text tokens (lex.BadEscape r.0) (λ e. absurd cc) l r.1) [ ]
shallow_once text tokens one l s n cause.BadLiteral r = elim (no_fault text tokens (lex.BadLiteral r.0) (λ e. absurd cc) l r.1) [ ]
shallow_once text tokens one l s n cause.BadCharacter r = elim (no_fault text tokens (lex.BadCharacter r.0) (λ e. absurd cc) l r.1) [ ]
shallow_once text tokens one l s n cause.TooDeep r =
    elim (too_deep r.1.tokens r.0 (moved_shallow text tokens r.1.tokens l r.1.lexed s) r.1.deep) [ ]
shallow_once text tokens one l s n cause.Syntax r =
    nothing_once (moved_nothing text tokens r.tokens one l r.lexed n) (in_no_reading r.no_file)
shallow_once text tokens one l s n cause.Twice r =
    nothing_once (moved_nothing text tokens r.1.tokens one l r.1.lexed n) (declares_again r.1.twice)
shallow_once text tokens one l s n cause.UndeclaredPrefix r =
    nothing_once (moved_nothing text tokens r.1.tokens one l r.1.lexed n) (leaves_out r.1.needed)
shallow_once text tokens one l s n _ r = elim r [ ]

-- a text with a bracket too deep
deep_once : (text : List ℕ) (tokens : List RncToken) (at : ℕ) → Lexes text (Ok tokens) → IsTooDeepAt tokens at → (other : Cause) →
    Refuses text other → cause.TooDeep ≡ other
deep_once text tokens at l d cause.BadEscape r = elim (no_fault text tokens (lex.BadEscape r.0) (λ e. absurd cc) l r.1) [ ]
deep_once text tokens at l d cause.BadLiteral r = elim (no_fault text tokens (lex.BadLiteral r.0) (λ e. absurd cc) l r.1) [ ]
deep_once text tokens at l d cause.BadCharacter r = elim (no_fault text tokens (lex.BadCharacter r.0) (λ e. absurd cc) l r.1) [ ]
deep_once text tokens at l d cause.TooDeep r = refl
deep_once text tokens at l d cause.Syntax r = elim (too_deep tokens at (moved_shallow text r.tokens tokens r.lexed l r.shallow) d) [ ]
deep_once text tokens at l d cause.Twice r = elim (too_deep tokens at (moved_shallow text r.1.tokens tokens r.1.lexed l r.1.shallow) d) [ ]
deep_once text tokens at l d cause.UndeclaredPrefix r =
    elim (too_deep tokens at (moved_shallow text r.1.tokens tokens r.1.lexed l r.1.shallow) d) [ ]
deep_once text tokens at l d _ r = elim r [ ]

-- a text is refused for one cause at most
pub refused_once : TextsAreRefusedForOneCause
unfolding cause_of
refused_once text cause.BadEscape other r s = faulty_once text (lex.BadEscape r.0) (λ e. absurd cc) r.1 other s
refused_once text cause.BadLiteral other r s = faulty_once text (lex.BadLiteral r.0) (λ e. absurd cc) r.1 other s
refused_once text cause.BadCharacter other r s = faulty_once text (lex.BadCharacter r.0) (λ e. absurd cc) r.1 other s
refused_once text cause.TooDeep other r s = deep_once text r.1.tokens r.0 r.1.lexed r.1.deep other s
refused_once text cause.Syntax other r s = shallow_once text r.tokens cause.Syntax r.lexed r.shallow (in_no_reading r.no_file) other s
refused_once text cause.Twice other r s = shallow_once text r.1.tokens cause.Twice r.1.lexed r.1.shallow (declares_again r.1.twice) other s
refused_once text cause.UndeclaredPrefix other r s =
    shallow_once text r.1.tokens cause.UndeclaredPrefix r.1.lexed r.1.shallow (leaves_out r.1.needed) other s
refused_once text _ other r s = elim r [ ]
