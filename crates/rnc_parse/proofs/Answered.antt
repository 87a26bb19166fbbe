-- From what the parts of reading answer to what reading does.
use Rattle.std.proofs.Common.{◌≡◌, ℕ, Bool, true, if◌then◌else◌, List, [], length, Option, Some, None, Result, Ok, Err, IfOk, sym, ap, subst, ◌∙◌}
use Rattle.nx_base.specs.declared.memory.NoMemory.{NoMemory}
use Rattle.rnc_lex.specs.declared.token.Lexeme.{Lexeme}
use Rattle.rnc_lex.specs.declared.token.RncToken.{RncToken}
use Rattle.rnc_lex.specs.Tokens.{Lexes}
use Rattle.rnc_parse.specs.declared.declaration.Declaration.{Declaration}
use Rattle.rnc_parse.specs.declared.read.ReadFault.{ReadFault}
use Rattle.rnc_parse.specs.declared.read.ReadFault.TheVariants as fault
use Rattle.rnc_parse.specs.declared.scope.LookUps.{LookUps}
use Rattle.rnc_parse.specs.declared.scope.Clash.{Clash}
use Rattle.rnc_parse.specs.declared.scope.Clash.TheVariants as clash
use Rattle.rnc_parse.specs.declared.stop.Stop.{Stop}
use Rattle.rnc_parse.specs.declared.stop.Stop.TheVariants as stop
use Rattle.rnc_parse.specs.declared.surface.Surface.{Surface}
use Rattle.rnc_parse.specs.declared.surface.Namespace.{Namespace}
use Rattle.rnc_parse.specs.declared.surface.Namespace.TheVariants.{Inherited, Uri}
use Rattle.std.specs.Str.{bytes_eq}
use Rattle.std.specs.Prelude.{codes}
use Rattle.rnc_parse.specs.Scopes.{Scope, IsDeclaredTwice, Use, of_names, of_types, prefix_of, xml_uri, xsd_uri, or_else}
use Rattle.rnc_parse.specs.Written.{WrittenSurface}
use Rattle.rnc_parse.specs.Views.{surface_of}
use Rattle.rnc_parse.specs.Files.{lexemes, IsNoFile, IsShallow}
use Rattle.rnc_parse.specs.Reading.{read, no_prefix, Finds}
use Rattle.rnc_parse.specs.ReadingFiles.{declarations_at, body_at}
use Rattle.rnc_parse.specs.Looking.{scope_in, held, namespace_of}
use Rattle.rnc_parse.specs.LookingUp.{LooksUp}
use Rattle.rnc_parse.specs.AnsweringParts.{Answers, AnswersTokens, every_prefix, IsBehindDeclarations, IsBodyOrNot, Leaves, WantsMemory, RefusesAt, RefusesPrefix, RefusesBody, RefusesClash, RefusesDeclarations, RefusesTwice}
use Rattle.rnc_parse.specs.Answering.{AnswersText}
use Rattle.rnc_parse.proofs.Saying.{no_declarations, no_body, needs, is_twice, none_missed, declarations_miss_none}

-- ---- look-ups under which every prefix stands for something

unfoldable scope_with : LookUps → Bool → Option Namespace → Scope
scope_with look_ups any unprefixed = record {
  namespace = λ prefix. if any then Some Inherited else (if bytes_eq prefix (codes "xml") then Some (Uri xml_uri) else held look_ups.namespaces prefix);
  unprefixed = namespace_of unprefixed;
  library = λ prefix. if any then Some [] else or_else (held look_ups.libraries prefix) (if bytes_eq prefix (codes "xsd") then Some xsd_uri else None);
}

any_scope : (look_ups : LookUps) → look_ups.any ≡ true → look_ups.unprefixed ≡ None → scope_in look_ups ≡ every_prefix
unfolding scope_with
any_scope l e f = ap (λ (b : Bool). scope_with l b l.unprefixed) e ∙ ap (λ (u : Option Namespace). scope_with l true u) f

body_any : (look_ups : LookUps) (body : List Lexeme) → look_ups.any ≡ true → look_ups.unprefixed ≡ None →
    body_at every_prefix 200 body ≡ body_at (scope_in look_ups) 200 body
body_any l body e f = ap (λ (s : Scope). body_at s 200 body) (sym (any_scope l e f))

pub body_found : (look_ups : LookUps) (body rest : List Lexeme) (surface : WrittenSurface) → look_ups.any ≡ true →
    look_ups.unprefixed ≡ None → body_at (scope_in look_ups) 200 body ≡ read surface rest → IsBodyOrNot body None
body_found l body rest surface e f h = (surface, rest, body_any l body e f ∙ h)

pub body_left : (look_ups : LookUps) (body end : List Lexeme) (stopped : Stop) (left : ℕ) (answer : Result (Option ℕ) NoMemory) →
    look_ups.any ≡ true → look_ups.unprefixed ≡ None → Finds surface_of end (Err stopped) (body_at (scope_in look_ups) 200 body) →
    Leaves stopped left answer → IfOk answer (IsBodyOrNot body)
body_left l body end stop.NoMemory left (Ok answer) e f h a = elim a [ ]
body_left l body end stop.NoMemory left (Err x) e f h a = tt
body_left l body end stop.Syntax left (Ok answer) e f h a = rw a (body_any l body e f ∙ h)
body_left l body end stop.Syntax left (Err x) e f h a = tt
body_left l body end (stop.NamePrefix prefix) left (Ok answer) e f h a =
    elim (none_missed body (of_names prefix) (body_any l body e f ∙ h)) [ ]
body_left l body end (stop.NamePrefix prefix) left (Err x) e f h a = tt
body_left l body end (stop.TypePrefix prefix) left (Ok answer) e f h a =
    elim (none_missed body (of_types prefix) (body_any l body e f ∙ h)) [ ]
body_left l body end (stop.TypePrefix prefix) left (Err x) e f h a = tt

-- ---- refusals

wants_memory : (tokens : List RncToken) (end : ℕ) (answer : Result Surface ReadFault) → WantsMemory answer → Answers tokens end answer
wants_memory tokens end answer e = rw e tt

refused_at : (tokens : List RncToken) (end : ℕ) (answer : Result Surface ReadFault) → RefusesAt tokens end answer →
    IsNoFile (lexemes tokens) → Answers tokens end answer
refused_at tokens end answer r none = rw r.1 (none, r.2)

refused : (tokens : List RncToken) (end : ℕ) (d : Scope) (body : List Lexeme) (used : Use) (answer : Result Surface ReadFault) →
    IsShallow (lexemes tokens) → IsBehindDeclarations (lexemes tokens) d body → body_at d 200 body ≡ no_prefix used →
    RefusesPrefix tokens end (prefix_of used) body answer → Answers tokens end answer
refused tokens end d body used (Ok surface) shallow b e r = elim r [ ]
refused tokens end d body used (Err (fault.Lex lex)) shallow b e r = elim r [ ]
refused tokens end d body used (Err (fault.TooDeep at)) shallow b e r = elim r [ ]
refused tokens end d body used (Err (fault.Syntax at)) shallow b e r =
    (no_body every_prefix (lexemes tokens) body b.declarations shallow b.are r.0, r.1)
refused tokens end d body used (Err (fault.UndeclaredPrefix named)) shallow b e r =
    (used, sym r.0, needs d (lexemes tokens) body r.2 r.1 used shallow b e r.3)
refused tokens end d body used (Err (fault.Twice named)) shallow b e r = elim r [ ]
refused tokens end d body used (Err fault.NoMemory) shallow b e r = tt

pub body_stopped : (tokens : List RncToken) (end : ℕ) (d : Scope) (body rest : List Lexeme) (stopped : Stop) (answer : Result Surface ReadFault) →
    IsShallow (lexemes tokens) → IsBehindDeclarations (lexemes tokens) d body → Finds surface_of rest (Err stopped) (body_at d 200 body) →
    RefusesBody tokens end stopped body answer → Answers tokens end answer
body_stopped tokens end d body rest stop.NoMemory answer shallow b h r = wants_memory tokens end answer r
body_stopped tokens end d body rest stop.Syntax answer shallow b h r =
    refused_at tokens end answer r (no_body d (lexemes tokens) body b.declarations shallow b.are h)
body_stopped tokens end d body rest (stop.NamePrefix prefix) answer shallow b h r =
    refused tokens end d body (of_names prefix) answer shallow b h r
body_stopped tokens end d body rest (stop.TypePrefix prefix) answer shallow b h r =
    refused tokens end d body (of_types prefix) answer shallow b h r

refused_twice : (tokens : List RncToken) (end : ℕ) (declarations : List Declaration) (body : List Lexeme) (prefix : List ℕ) (answer : Result Surface ReadFault) →
    IsShallow (lexemes tokens) → declarations_at (lexemes tokens) ≡ read declarations body → IsDeclaredTwice declarations prefix →
    RefusesTwice tokens end prefix body answer → Answers tokens end answer
refused_twice tokens end ds body prefix (Ok surface) shallow e t r = elim r [ ]
refused_twice tokens end ds body prefix (Err (fault.Lex lex)) shallow e t r = elim r [ ]
refused_twice tokens end ds body prefix (Err (fault.TooDeep at)) shallow e t r = elim r [ ]
refused_twice tokens end ds body prefix (Err (fault.Syntax at)) shallow e t r =
    (no_body every_prefix (lexemes tokens) body ds shallow e r.0, r.1)
refused_twice tokens end ds body prefix (Err (fault.UndeclaredPrefix named)) shallow e t r = elim r [ ]
refused_twice tokens end ds body prefix (Err (fault.Twice named)) shallow e t r =
    is_twice (lexemes tokens) body r.2 ds r.1 named e (subst (λ (p : List ℕ). IsDeclaredTwice ds p) (sym r.0) t) r.3
refused_twice tokens end ds body prefix (Err fault.NoMemory) shallow e t r = tt

pub declarations_clash : (tokens : List RncToken) (end : ℕ) (declarations : List Declaration) (body : List Lexeme) (clashing : Clash) (answer : Result Surface ReadFault) →
    IsShallow (lexemes tokens) → declarations_at (lexemes tokens) ≡ read declarations body → LooksUp declarations (Err clashing) →
    RefusesClash tokens end clashing body answer → Answers tokens end answer
declarations_clash tokens end ds body clash.NoMemory answer shallow e l r = wants_memory tokens end answer r
declarations_clash tokens end ds body (clash.Twice prefix) answer shallow e l r =
    refused_twice tokens end ds body prefix answer shallow e l r

pub declarations_stopped : (tokens : List RncToken) (end : ℕ) (rest : List Lexeme) (stopped : Stop) (answer : Result Surface ReadFault) →
    Finds (λ (ds : List Declaration). ds) rest (Err stopped) (declarations_at (lexemes tokens)) →
    RefusesDeclarations tokens end stopped answer → Answers tokens end answer
declarations_stopped tokens end rest stop.NoMemory answer h r = wants_memory tokens end answer r
declarations_stopped tokens end rest stop.Syntax answer h r = refused_at tokens end answer r (no_declarations (lexemes tokens) h)
declarations_stopped tokens end rest (stop.NamePrefix prefix) answer h r =
    elim (declarations_miss_none (lexemes tokens) (of_names prefix) h) [ ]
declarations_stopped tokens end rest (stop.TypePrefix prefix) answer h r =
    elim (declarations_miss_none (lexemes tokens) (of_types prefix) h) [ ]

pub behind_them : (tokens body : List Lexeme) (declarations : List Declaration) (look_ups : LookUps) →
    declarations_at tokens ≡ read declarations body → LooksUp declarations (Ok look_ups) →
    IsBehindDeclarations tokens (scope_in look_ups) body
behind_them tokens body ds l e h = record { declarations = ds; are = e; in_order = h.1; scope_is = h.0 }

-- ---- texts

pub text_answered : (text : List ℕ) (tokens : List RncToken) (answer : Result Surface ReadFault) → Lexes text (Ok tokens) →
    AnswersTokens tokens (length text) answer → AnswersText text answer
text_answered text tokens (Ok surface) l a = record { tokens = tokens; lexed = l; shallow = a.0; says = a.1 }
text_answered text tokens (Err (fault.Lex lex)) l a = elim a.1 [ ]
text_answered text tokens (Err (fault.TooDeep at)) l a = record { tokens = tokens; lexed = l; deep = a }
text_answered text tokens (Err (fault.Syntax at)) l a = (record { tokens = tokens; lexed = l; shallow = a.0; no_file = a.1.0 }, a.1.1)
text_answered text tokens (Err (fault.UndeclaredPrefix prefix)) l a =
    record { tokens = tokens; lexed = l; shallow = a.0; used = a.1.0; prefix_is = a.1.1; needed = a.1.2 }
text_answered text tokens (Err (fault.Twice prefix)) l a = record { tokens = tokens; lexed = l; shallow = a.0; twice = a.1 }
text_answered text tokens (Err fault.NoMemory) l a = tt

-- what is said of shallow tokens is said of tokens
pub tokens_answered : (tokens : List RncToken) (end : ℕ) (answer : Result Surface ReadFault) → IsShallow (lexemes tokens) →
    Answers tokens end answer → AnswersTokens tokens end answer
tokens_answered tokens end (Ok surface) s a = (s, a)
tokens_answered tokens end (Err (fault.Lex lex)) s a = (s, a)
tokens_answered tokens end (Err (fault.TooDeep at)) s a = elim a [ ]
tokens_answered tokens end (Err (fault.Syntax at)) s a = (s, a)
tokens_answered tokens end (Err (fault.UndeclaredPrefix prefix)) s a = (s, a)
tokens_answered tokens end (Err (fault.Twice prefix)) s a = (s, a)
tokens_answered tokens end (Err fault.NoMemory) s a = tt

pub others_clash : (tokens : List RncToken) (end : ℕ) (declarations others : List Declaration) (body : List Lexeme) (clashing : Clash) (answer : Result Surface ReadFault) →
    others ≡ declarations → IsShallow (lexemes tokens) → declarations_at (lexemes tokens) ≡ read declarations body →
    LooksUp others (Err clashing) → RefusesClash tokens end clashing body answer → Answers tokens end answer
others_clash tokens end ds others body clashing answer same shallow e l r =
    declarations_clash tokens end ds body clashing answer shallow e (subst (λ (d : List Declaration). LooksUp d (Err clashing)) same l) r
