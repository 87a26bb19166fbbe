use Rattle.nx_session.proofs.Views.{moved_views}
use Rattle.nx_session.proofs.session.Session.make.Goals as goal

pub returns-clause-views_text : goal.returns-clause-views_text
returns-clause-views_text g c = moved_views _ _ _ c.show.ensures.views
