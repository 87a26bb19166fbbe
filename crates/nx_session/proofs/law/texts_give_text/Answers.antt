use Rattle.nx_session.proofs.Reading.{texts_give_text}
use Rattle.nx_session.proofs.law.texts_give_text.Goals as goal

pub returns : goal.returns
returns c = texts_give_text
