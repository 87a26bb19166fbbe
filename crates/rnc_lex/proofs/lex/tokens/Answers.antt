use Rattle.rnc_lex.proofs.Lexed.{lexes_found}
use Rattle.rnc_lex.proofs.Places.{utf8_found, rise_found}
use Rattle.rnc_lex.proofs.lex.tokens.Goals as goal

pub returns-clause-lexes : goal.returns-clause-lexes
returns-clause-lexes c = lexes_found c.args.text.now c.lexed.result c.lexed.ensures

pub returns-clause-utf8 : goal.returns-clause-utf8
returns-clause-utf8 c = utf8_found c.args.text.now c.lexed.result (lexes_found c.args.text.now c.lexed.result c.lexed.ensures)

pub returns-clause-rise : goal.returns-clause-rise
returns-clause-rise c = rise_found c.args.text.now c.lexed.result c.utf8.text (lexes_found c.args.text.now c.lexed.result c.lexed.ensures)
