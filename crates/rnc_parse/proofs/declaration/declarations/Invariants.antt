use Rattle.std.proofs.Common.{◌≡◌, ◌++◌, ◌∷◌, [], length}
use Rattle.rnc_parse.specs.Reading.{first, loop_at}
use Rattle.rnc_parse.specs.ReadingFiles.{is_declaration, declaration_at, declarations_at}
use Rattle.rnc_parse.proofs.declaration.declarations.Given as goal

abbrev pub invariant-declarations : goal.invariant-declarations
invariant-declarations l = loop_at (λ more. is_declaration (first more)) declaration_at (λ before next. before ++ next ∷ []) l.declarations l.cursor ≡ declarations_at l.fn.cursor

abbrev pub decreases-declarations : goal.decreases-declarations
decreases-declarations l = length l.cursor
