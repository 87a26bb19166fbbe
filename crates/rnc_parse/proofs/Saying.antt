-- From what reading finds to what it answers.
use Rattle.std.proofs.Common.{◌≡◌, ℕ, List, [], refl, sym, subst}
use Rattle.rnc_lex.specs.declared.token.Lexeme.{Lexeme}
use Rattle.rnc_parse.specs.declared.declaration.Declaration.{Declaration}
use Rattle.rnc_parse.specs.Scopes.{Scope, IsDeclaredTwice, Use, of_names, of_types, IsUndeclared}
use Rattle.rnc_parse.specs.Written.{WrittenSurface}
use Rattle.rnc_parse.specs.Files.{AreDeclarations, no_declaration, next_declaration, IsBody, IsFile, Says, IsNoFile, NeedsPrefix, DeclaresTwice, IsShallow}
use Rattle.rnc_parse.specs.Reading.{Reading, read, no_reading, no_prefix}
use Rattle.rnc_parse.specs.ReadingFiles.{declarations_at, body_at}
use Rattle.rnc_parse.specs.AnsweringParts.{every_prefix, IsBehindDeclarations}
use Rattle.rnc_parse.proofs.Passing.{Passes, nothing, ◌then◌, passes_declaration}
use Rattle.rnc_parse.proofs.Sounding.{Sounds, stops}
use Rattle.rnc_parse.proofs.SoundFiles.{sound_declarations, IsWhole, whole, sound_body}
use Rattle.rnc_parse.proofs.Shortening.{found_in}
use Rattle.rnc_parse.proofs.Agreeing.{Agrees, missing}
use Rattle.rnc_parse.proofs.AgreeingClasses.{Counts, counts_behind}
use Rattle.rnc_parse.proofs.AgreeingFiles.{body_agrees, file_declarations}

passes_declarations : {tokens rest : List Lexeme} {declarations : List Declaration} →
    AreDeclarations tokens declarations rest → Passes tokens rest
passes_declarations no_declaration = nothing
passes_declarations (next_declaration one later) = passes_declaration one then passes_declarations later

shallow_counts : (tokens : List Lexeme) → IsShallow tokens → Counts 0 200 tokens
shallow_counts tokens shallow = record { most = 200; fits = record { few = shallow }; sum = refl }

declarations_are : (tokens body : List Lexeme) (declarations : List Declaration) → declarations_at tokens ≡ read declarations body →
    AreDeclarations tokens declarations body
declarations_are tokens body declarations e =
    (found_in {scope = every_prefix} (declarations_at tokens) declarations body (sound_declarations tokens) e).are

whole_body : {scope : Scope} {tokens rest : List Lexeme} {surface : WrittenSurface} →
    IsWhole scope tokens surface rest → IsBody scope tokens surface
whole_body (whole b) = b

body_is : (scope : Scope) (body rest : List Lexeme) (surface : WrittenSurface) → body_at scope 200 body ≡ read surface rest →
    IsBody scope body surface
body_is scope body rest surface e = whole_body (found_in (body_at scope 200 body) surface rest (sound_body 200 body) e)

-- a body that is found is said
pub says : (scope : Scope) (tokens body rest : List Lexeme) (surface : WrittenSurface) → IsBehindDeclarations tokens scope body →
    body_at scope 200 body ≡ read surface rest → Says tokens surface
says scope tokens body rest surface b e = record {
  declarations = b.declarations;
  file = record { body = body; declared = declarations_are tokens body b.declarations b.are; said = subst (λ (s : Scope). IsBody s body surface) b.scope_is (body_is scope body rest surface e) };
  in_order = b.in_order;
}

pub no_declarations : (tokens : List Lexeme) → declarations_at tokens ≡ no_reading → IsNoFile tokens
no_declarations tokens e scope declarations surface file = let is = file_declarations file in absurd cc

-- the body of any file of the tokens is this one
same_body : {scope : Scope} {tokens body : List Lexeme} {declarations others : List Declaration} {surface : WrittenSurface} →
    declarations_at tokens ≡ read declarations body → IsFile scope tokens others surface → IsBody scope body surface
same_body {scope = s} {body = b} {surface = x} e file =
    let is = file_declarations file in
    let same : file.body ≡ b = cc in
    subst (λ t. IsBody s t x) same file.said

body_counts : (tokens body : List Lexeme) (declarations : List Declaration) → IsShallow tokens →
    declarations_at tokens ≡ read declarations body → Counts 0 200 body
body_counts tokens body declarations shallow e =
    counts_behind (shallow_counts tokens shallow) (passes_declarations (declarations_are tokens body declarations e))

never : {d s : Scope} {surface : WrittenSurface} (x : Reading WrittenSurface) → Agrees d s surface [] x → x ≡ no_reading → ⊥
never (read v r) a e = absurd cc
never (no_prefix u) a e = absurd cc
never no_reading a e = elim a [ ]

-- a body that isn't found under some look-ups is in no reading
pub no_body : (d : Scope) (tokens body : List Lexeme) (declarations : List Declaration) → IsShallow tokens →
    declarations_at tokens ≡ read declarations body → body_at d 200 body ≡ no_reading → IsNoFile tokens
no_body d tokens body declarations shallow e none scope others surface file =
    never (body_at d 200 body) (body_agrees d scope 200 (body_counts tokens body declarations shallow e) (same_body e file)) none

missed : {d s : Scope} {surface : WrittenSurface} (x : Reading WrittenSurface) (used : Use) →
    Agrees d s surface [] x → x ≡ no_prefix used → IsUndeclared s used → ⊥
missed (read v r) used a e = absurd cc
missed {s = s} (no_prefix u) used (missing m) e = λ h. let same : u ≡ used = cc in m (subst (IsUndeclared s) (sym same) h)
missed no_reading used a e = elim a [ ]

pub undeclared_in : {scope : Scope} {A : Type 0} {P : A → List Lexeme → Type 0} (x : Reading A) (used : Use) →
    Sounds scope P x → x ≡ no_prefix used → IsUndeclared scope used
undeclared_in {scope = s} (no_prefix u) used (stops h) e = let same : u ≡ used = cc in subst (IsUndeclared s) same h
undeclared_in (read v r) used p e = absurd cc
undeclared_in no_reading used p e = absurd cc

-- a prefix that the body needs
pub needs : (d : Scope) (tokens body rest : List Lexeme) (surface : WrittenSurface) (used : Use) → IsShallow tokens →
    IsBehindDeclarations tokens d body → body_at d 200 body ≡ no_prefix used → body_at every_prefix 200 body ≡ read surface rest →
    NeedsPrefix tokens used
needs d tokens body rest surface used shallow b stops_at e = record {
  declarations = b.declarations;
  some_file = record { scope = every_prefix; surface = surface; file = record { body = body; declared = declarations_are tokens body b.declarations b.are; said = body_is every_prefix body rest surface e } };
  in_order = b.in_order;
  undeclared =
      subst (λ (s : Scope). IsUndeclared s used) b.scope_is (undeclared_in (body_at d 200 body) used (sound_body 200 body) stops_at);
  needed = λ scope others said u file. missed (body_at d 200 body) used (body_agrees d scope 200 (body_counts tokens body b.declarations shallow b.are) (same_body b.are file)) stops_at u;
}

pub is_twice : (tokens body rest : List Lexeme) (declarations : List Declaration) (surface : WrittenSurface) (prefix : List ℕ) →
    declarations_at tokens ≡ read declarations body → IsDeclaredTwice declarations prefix →
    body_at every_prefix 200 body ≡ read surface rest → DeclaresTwice tokens prefix
is_twice tokens body rest declarations surface prefix e twice is = record {
  declarations = declarations;
  some_file = record { scope = every_prefix; surface = surface; file = record { body = body; declared = declarations_are tokens body declarations e; said = body_is every_prefix body rest surface is } };
  twice = twice;
}

-- under look-ups that declare every prefix no prefix is missed
pub none_missed : (body : List Lexeme) (used : Use) → body_at every_prefix 200 body ≡ no_prefix used → ⊥
none_missed body used e = declared used (undeclared_in (body_at every_prefix 200 body) used (sound_body 200 body) e)
  where
    declared : (u : Use) → IsUndeclared every_prefix u → ⊥
    declared (of_names prefix) h = absurd cc
    declared (of_types prefix) h = absurd cc

-- declarations miss no prefix
pub declarations_miss_none : (tokens : List Lexeme) (used : Use) → declarations_at tokens ≡ no_prefix used → ⊥
declarations_miss_none tokens used e =
    declared used (undeclared_in {scope = every_prefix} (declarations_at tokens) used (sound_declarations tokens) e)
  where
    declared : (u : Use) → IsUndeclared every_prefix u → ⊥
    declared (of_names prefix) h = absurd cc
    declared (of_types prefix) h = absurd cc
