use Rattle.std.proofs.Common.{List, Err, subst}
use Rattle.rnc_lex.specs.declared.token.Lexeme.{Lexeme}
use Rattle.rnc_parse.specs.declared.declaration.Declaration.{Declaration}
use Rattle.rnc_parse.specs.Reading.{Finds}
use Rattle.rnc_parse.specs.ReadingFiles.{declarations_at}
use Rattle.rnc_parse.proofs.Answered.{declarations_stopped}
use Rattle.rnc_parse.proofs.read.said.Goals as goal

pub returns-in-Err : goal.returns-in-Err
returns-in-Err c = declarations_stopped c.args.tokens.now c.args.end c.declarations.new.cursor c.in-Err.stop c.no_declarations.result (subst (λ (t : List Lexeme). Finds (λ (ds : List Declaration). ds) c.declarations.new.cursor (Err c.in-Err.stop) (declarations_at t)) c.new-cursor.ensures c.in-Err.ensures) c.no_declarations.ensures
