use Rattle.nx_scan.proofs.NameTags.{start_is_token, end_is_token}
use Rattle.nx_scan.proofs.border.names_make_tags.Goals as goal

pub returns : goal.returns
returns c at_start name more name_utf8 spelled utf8 =
    (start_is_token at_start name more name_utf8 spelled utf8, end_is_token at_start name more name_utf8 spelled utf8)
