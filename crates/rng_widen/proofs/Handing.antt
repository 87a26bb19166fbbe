-- What is handed on in place of the bytes of a file, and of files.
use Rattle.std.proofs.Common.{◌≡◌, ◌≢◌, ℕ, Bool, true, false, List, [], length, Option, Some, None, is_some, Result, Ok, Err, IfOk, Vec, Global, refl, sym, ap, ◌∙◌, IsUtf8, subst, arith}
use Rattle.std.specs.Prelude.{◌==◌, ◌∷◌, ◌≤◌, IsCharBoundary}
use Rattle.std.specs.Option.{option_map}
use Rattle.std.specs.Str.{is_utf8}
use Rattle.std.proofs.lemmas.Bool.Decides.{nat_tests}
use Rattle.std.proofs.lemmas.Str.{is_utf8-from_IsUtf8, IsUtf8-from_is_utf8, IsCharBoundary-from_drop}
use Rattle.nx_base.specs.declared.memory.NoMemory.{NoMemory}
use Rattle.nx_base.specs.Tokens.{tokens_of}
use Rattle.nx_base.specs.declared.token.Token.{Token}
use Rattle.nx_events.specs.Items.{items_of}
use Rattle.nx_host.specs.Files.{FileMap, Holds, HasFile}
use Rattle.nx_host.specs.declared.files.FileFault.{FileFault}
use Rattle.rnc_lex.specs.declared.fault.LexFault.{LexFault}
use Rattle.rnc_lex.specs.declared.fault.LexFault.TheVariants as lex
use Rattle.rnc_lex.specs.declared.token.RncToken.{RncToken}
use Rattle.rnc_lex.specs.Laws.{Tells}
use Rattle.rnc_lex.specs.Tokens.{Lexes}
use Rattle.rnc_lex.proofs.Lexed.{texts_have_one_answer}
use Rattle.rnc_lex.specs.Reading.{lexed}
use Rattle.rngx_read.specs.Files.{is_markup}
use Rattle.rng_widen.specs.declared.widening.Widening.{Widening}
use Rattle.rng_widen.specs.CompactWidenings.{widenings_of}
use Rattle.rng_widen.specs.MarkupWidenings.{widenings_in}
use Rattle.rng_widen.specs.Laws.{TokensTell, FilesTellTheirs}
use Rattle.rng_widen.proofs.Lexing.{lexed_tells, lexed_lexes}
use Rattle.rng_widen.specs.Handed.{of_tokens, wants_memory, in_compact, in_markup, in_text, text_widenings, handed, handed_as, wider_map, wider_files}

-- ---- a text

-- tokens that a text is are its answer
pub compact_found : (text : List ℕ) (tokens : List RncToken) → Lexes text (Ok tokens) → widenings_of (length text) tokens ≡ in_compact text
unfolding in_compact
compact_found text tokens h =
    ap (of_tokens (length text)) (texts_have_one_answer text (Ok tokens) (lexed text) (λ e. absurd cc) (lexed_tells text) h (lexed_lexes text))

pub compact_none : (text : List ℕ) (fault : LexFault) → fault ≢ lex.NoMemory → Lexes text (Err fault) → in_compact text ≡ []
unfolding in_compact
compact_none text fault tells h =
    let some : Tells (Err fault) = λ e. tells (cc) in
    sym (ap (of_tokens (length text)) (texts_have_one_answer text (Err fault) (lexed text) some (lexed_tells text) h (lexed_lexes text)))

-- as what is answered
pub compact_answered : (text : List ℕ) (tokens slice : List RncToken) (len : ℕ) (result : Result (Vec Widening Global) NoMemory) →
    Lexes text (Ok tokens) → len ≡ length text → slice ≡ tokens → IfOk result (λ (all : Vec Widening Global). all.items ≡ widenings_of len slice) →
    IfOk result (λ (all : Vec Widening Global). all.items ≡ in_compact text)
compact_answered text tokens slice len (Ok all) h l s found =
    found ∙ ap (λ n. widenings_of n slice) l ∙ ap (widenings_of (length text)) s ∙ compact_found text tokens h
compact_answered text tokens slice len (Err fault) h l s found = tt

pub fault_answered : (text : List ℕ) (fault : LexFault) (none : List Widening) → false ≡ wants_memory fault → none ≡ [] → Lexes text (Err fault) →
    none ≡ in_compact text
fault_answered text fault none wants is h = is ∙ sym (compact_none text fault (other fault wants) h)
  where
    other : (it : LexFault) → false ≡ wants_memory it → it ≢ lex.NoMemory
    other lex.NoMemory w e = absurd cc
    other (lex.BadEscape at) w e = absurd cc
    other (lex.BadLiteral at) w e = absurd cc
    other (lex.BadCharacter at) w e = absurd cc

pub markup_found : (text : List ℕ) (tokens : List Token) (len : ℕ) → tokens ≡ tokens_of text → len ≡ length text →
    widenings_in (items_of tokens len) ≡ in_markup text
unfolding in_markup
markup_found text tokens len cut long = rw (cut, long) refl

pub text_found : (bytes text : List ℕ) (found : List Widening) → text ≡ bytes → IsUtf8 bytes → found ≡ in_text (is_markup text) text →
    found ≡ text_widenings bytes
unfolding text_widenings
text_found bytes text found same utf8 h =
    let test : is_utf8 bytes ≡ true = is_utf8-from_IsUtf8 bytes utf8 in
    rw test (h ∙ ap (λ (t : List ℕ). in_text (is_markup t) t) same)

pub text_answered : (bytes text : List ℕ) (result : Result (Vec Widening Global) NoMemory) → text ≡ bytes → IsUtf8 bytes →
    IfOk result (λ (all : Vec Widening Global). all.items ≡ in_text (is_markup text) text) → IfOk result (λ (all : Vec Widening Global). all.items ≡ text_widenings bytes)
text_answered bytes text (Ok all) same utf8 h = text_found bytes text all.items same utf8 h
text_answered bytes text (Err fault) same utf8 h = tt

pub none_found : (bytes : List ℕ) → ¬ (IsUtf8 bytes) → text_widenings bytes ≡ []
unfolding text_widenings
none_found bytes not_utf8 = by_test (is_utf8 bytes) refl
  where
    by_test : (b : Bool) → is_utf8 bytes ≡ b → text_widenings bytes ≡ []
    by_test true e = absurd (not_utf8 (IsUtf8-from_is_utf8 bytes e))
    by_test false e = rw e refl

-- ---- files

-- no text begins with the byte 128
no_text : (key : List ℕ) → IsUtf8 (128 ∷ key) → ⊥
no_text key h =
    let at : IsCharBoundary (65 ∷ 128 ∷ key) 1 = IsCharBoundary-from_drop (65 ∷ 128 ∷ key) 1 (omega arith) h in
    let lead : 192 ≤ 128 = at.1 (omega arith) (omega arith) in
    omega (arith, lead)

-- what stands in the map under a text
map_at : (strict : Bool) (files : FileMap) (uri : List ℕ) → IsUtf8 uri → wider_map strict files uri ≡ handed_as strict (files uri)
unfolding wider_map
map_at strict files [] h = refl
map_at strict files (byte ∷ key) h = by_test (byte == 128) refl
  where
    by_test : (b : Bool) → (byte == 128) ≡ b → wider_map strict files (byte ∷ key) ≡ handed_as strict (files (byte ∷ key))
    by_test true e =
        let is : byte ≡ 128 = grind (arith, nat_tests, e) in
        let P : ℕ → Type 0 = λ n. IsUtf8 (n ∷ key) in
        absurd (no_text key (subst P is h))
    by_test false e = rw e refl

-- strictly, what is found is handed on as it is
pub holds_strictly : (strict : Bool) (told : Option FileMap) (uri : List ℕ) (found : Option (List ℕ)) → strict ≡ true → IsUtf8 uri →
    Holds told uri found → Holds (wider_files strict told) uri found
unfolding wider_files
holds_strictly strict None uri found is utf8 h = tt
holds_strictly strict (Some files) uri found is utf8 h = h ∙ ap (λ (b : Bool). handed_as b (files uri)) (sym is) ∙ sym (map_at strict files uri utf8)

-- and else with types put to wider ones
pub holds_some : (strict : Bool) (told : Option FileMap) (uri bytes whole : List ℕ) → strict ≡ false → IsUtf8 uri →
    whole ≡ handed bytes → Holds told uri (Some bytes) → Holds (wider_files strict told) uri (Some whole)
unfolding wider_files
holds_some strict None uri bytes whole wide utf8 is h = tt
holds_some strict (Some files) uri bytes whole wide utf8 is h =
    ap Some is ∙ ap (option_map handed) h ∙ ap (λ (b : Bool). handed_as b (files uri)) (sym wide) ∙ sym (map_at strict files uri utf8)

pub holds_none : (strict : Bool) (told : Option FileMap) (uri : List ℕ) → strict ≡ false → IsUtf8 uri → Holds told uri None →
    Holds (wider_files strict told) uri None
unfolding wider_files
holds_none strict None uri wide utf8 h = tt
holds_none strict (Some files) uri wide utf8 h =
    ap (option_map handed) h ∙ ap (λ (b : Bool). handed_as b (files uri)) (sym wide) ∙ sym (map_at strict files uri utf8)

some_handed : (strict : Bool) (found : Option (List ℕ)) → is_some found ≡ is_some (handed_as strict found)
some_handed true found = refl
some_handed false None = refl
some_handed false (Some bytes) = refl

pub has_some : (strict : Bool) (told : Option FileMap) (uri : List ℕ) (found : Bool) → IsUtf8 uri → HasFile told uri found →
    HasFile (wider_files strict told) uri found
unfolding wider_files
has_some strict None uri found utf8 h = tt
has_some strict (Some files) uri found utf8 h = h ∙ some_handed strict (files uri) ∙ ap is_some (sym (map_at strict files uri utf8))

pub has_answered : (strict : Bool) (told : Option FileMap) (uri : List ℕ) (result : Result Bool FileFault) → IsUtf8 uri →
    IfOk result (HasFile told uri) → IfOk result (HasFile (wider_files strict told) uri)
has_answered strict told uri (Ok found) utf8 h = has_some strict told uri found utf8 h
has_answered strict told uri (Err fault) utf8 h = tt

-- files that are handed on tell what they hold themselves
pub files_tell_theirs : FilesTellTheirs
unfolding wider_files wider_map
files_tell_theirs strict None = refl
files_tell_theirs strict (Some files) = refl

-- ---- laws

pub tokens_tell : TokensTell
tokens_tell text tokens h = sym (compact_found text tokens h)
