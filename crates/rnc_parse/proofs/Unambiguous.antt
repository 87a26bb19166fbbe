-- The grammar is unambiguous.
use Rattle.std.proofs.Common.{◌≡◌, ℕ, ◌+◌, ◌-◌, ◌≤◌, List, [], ◌∷◌, length, refl, sym, ap, subst, ◌∙◌, arith, length-append}
use Rattle.rnc_lex.specs.declared.token.Lexeme.{Lexeme}
use Rattle.rnc_lex.specs.declared.token.Lexeme.TheVariants.{Symbol as mark}
use Rattle.rnc_lex.specs.declared.token.Symbol.TheVariants.{LeftBrace, RightBrace, LeftParenthesis, RightParenthesis, LeftBracket, RightBracket}
use Rattle.rnc_parse.specs.declared.declaration.Declaration.{Declaration}
use Rattle.rnc_parse.specs.Scopes.{Scope, scope_of, IsDeclaredTwice, IsUndeclared}
use Rattle.rnc_parse.specs.Written.{WrittenSurface}
use Rattle.rnc_parse.specs.Files.{open_behind, IsBody, IsFile}
use Rattle.rnc_parse.specs.Reading.{Reading, read, no_reading, no_prefix}
use Rattle.rnc_parse.specs.ReadingFiles.{body_at}
use Rattle.rnc_parse.specs.Laws.{FilesSayOneThing, TokensSayOneThing, WhatIsSaidIsNotRefused}
use Rattle.rnc_parse.proofs.Sounding.{Sounds, stops}
use Rattle.rnc_parse.proofs.SoundFiles.{sound_body}
use Rattle.rnc_parse.proofs.Agreeing.{Agrees, found, missing}
use Rattle.rnc_parse.proofs.AgreeingClasses.{Counts}
use Rattle.rnc_parse.proofs.AgreeingFiles.{body_agrees, file_declarations}

-- no more brackets are open than there are tokens
open_bound : (before : ℕ) (front : List Lexeme) → open_behind before front ≤ before + length front
open_bound before [] = omega arith
open_bound before (mark LeftBrace ∷ front) = omega (arith, open_bound (before + 1) front)
open_bound before (mark LeftParenthesis ∷ front) = omega (arith, open_bound (before + 1) front)
open_bound before (mark LeftBracket ∷ front) = omega (arith, open_bound (before + 1) front)
open_bound before (mark RightBrace ∷ front) = omega (arith, open_bound (before - 1) front)
open_bound before (mark RightParenthesis ∷ front) = omega (arith, open_bound (before - 1) front)
open_bound before (mark RightBracket ∷ front) = omega (arith, open_bound (before - 1) front)
open_bound before (_ ∷ front) = omega (arith, open_bound before front)

all_counts : (tokens : List Lexeme) → Counts 0 (length tokens) tokens
all_counts tokens = record {
  most = length tokens;
  fits = record { few = λ front rest e. omega (arith, open_bound 0 front, ap length e, length-append front rest) };
  sum = omega arith;
}

-- what agrees twice with the same look-ups is the same
one_thing : {d : Scope} {one other : WrittenSurface} {P : WrittenSurface → List Lexeme → Type 0} (x : Reading WrittenSurface) →
    Agrees d d one [] x → Agrees d d other [] x → Sounds d P x → one ≡ other
one_thing (read v r) (found a) (found b) p = sym (a refl) ∙ b refl
one_thing (no_prefix u) (missing m) b (stops h) = elim (m h) [ ]
one_thing no_reading a b p = elim a [ ]

-- tokens are one file at most, whatever prefixes stand for
pub files_one_thing : FilesSayOneThing
files_one_thing scope tokens some others one other a b =
    let is = file_declarations a in
    let are = file_declarations b in
    let same : some ≡ others = cc in
    let bodies : b.body ≡ a.body = cc in
    let said : IsBody scope a.body other = subst (λ (t : List Lexeme). IsBody scope t other) bodies b.said in (
      same,
      one_thing (body_at scope (length a.body) a.body)
          (body_agrees scope scope (length a.body) (all_counts a.body) a.said)
          (body_agrees scope scope (length a.body) (all_counts a.body) said)
          (sound_body (length a.body) a.body),
    )

-- tokens say one thing at most
pub says_one_thing : TokensSayOneThing
says_one_thing tokens one other a b =
    let is = file_declarations a.file in
    let are = file_declarations b.file in
    let same : b.declarations ≡ a.declarations = cc in
    let said : IsFile (scope_of a.declarations) tokens b.declarations other =
    subst (λ (ds : List Declaration). IsFile (scope_of ds) tokens b.declarations other) same b.file in
    (files_one_thing (scope_of a.declarations) tokens a.declarations b.declarations one other a.file said).1

-- tokens that say something are refused for no cause
pub says_no_refusal : WhatIsSaidIsNotRefused
says_no_refusal tokens surface a =
    let is = file_declarations a.file in (
      λ none. none (scope_of a.declarations) a.declarations surface a.file,
      λ used n.
          let are = file_declarations n.some_file.file in
          let same : n.declarations ≡ a.declarations = cc in
          n.needed (scope_of a.declarations) a.declarations surface (subst (λ (ds : List Declaration). IsUndeclared (scope_of ds) used) same n.undeclared) a.file,
      λ prefix t.
          let are = file_declarations t.some_file.file in
          let same : t.declarations ≡ a.declarations = cc in
          a.in_order prefix (subst (λ (ds : List Declaration). IsDeclaredTwice ds prefix) same t.twice),
    )
