use Rattle.nx_host.proofs.PathUris.{paths_lead_back}
use Rattle.nx_host.proofs.path_uri.path_uris_lead_back.Goals as goal

pub returns : goal.returns
returns c = paths_lead_back
