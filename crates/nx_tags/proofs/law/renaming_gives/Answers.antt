use Rattle.nx_tags.proofs.Renaming.{renaming_gives}
use Rattle.nx_tags.proofs.law.renaming_gives.Goals as goal

pub returns : goal.returns
returns c text name at changes utf8 is renames = renaming_gives text name at changes utf8 is renames
