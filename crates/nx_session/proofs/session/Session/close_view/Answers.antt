use Rattle.nx_session.proofs.Views.{closed_views}
use Rattle.nx_session.proofs.session.Session.close_view.Goals as goal

pub returns-clause-views_text : goal.returns-clause-views_text
returns-clause-views_text g c = closed_views c.args.index _ _ c.close_at.ensures
