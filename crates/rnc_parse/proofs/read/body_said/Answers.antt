use Rattle.std.proofs.Common.{List, Err, sym, ap, subst, ◌∙◌}
use Rattle.rnc_lex.specs.declared.token.Lexeme.{Lexeme}
use Rattle.rnc_parse.specs.Files.{lexemes}
use Rattle.rnc_parse.specs.Looking.{scope_in}
use Rattle.rnc_parse.specs.Reading.{Finds}
use Rattle.rnc_parse.specs.ReadingFiles.{body_at}
use Rattle.rnc_parse.specs.Views.{surface_of}
use Rattle.rnc_parse.proofs.Saying.{says}
use Rattle.rnc_parse.proofs.Answered.{body_stopped}
use Rattle.rnc_parse.proofs.read.body_said.Goals as goal

pub returns-in-Ok : goal.returns-in-Ok
returns-in-Ok c = says (scope_in c.args.look_ups) (lexemes c.args.tokens.now) c.args.cursor c.body.new.cursor (surface_of c.in-Ok.surface) c.requires.declared (ap (λ (t : List Lexeme). body_at (scope_in c.args.look_ups) 200 t) (sym c.ahead-ahead.ensures) ∙ c.in-Ok.ensures)

pub returns : goal.returns
returns c = body_stopped c.args.tokens.now c.args.end (scope_in c.args.look_ups) c.args.cursor c.body.new.cursor c.in-Err.stop c.no_body.result c.requires.shallow c.requires.declared (subst (λ (t : List Lexeme). Finds surface_of c.body.new.cursor (Err c.in-Err.stop) (body_at (scope_in c.args.look_ups) 200 t)) c.ahead-ahead.ensures c.in-Err.ensures) c.no_body.ensures
