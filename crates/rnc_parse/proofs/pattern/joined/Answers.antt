use Rattle.rnc_parse.proofs.PatternViews.{pattern_of-Choice, pattern_of-Group, pattern_of-Interleave}
use Rattle.rnc_parse.proofs.pattern.joined.Goals as goal

pub returns-in-Group : goal.returns-in-Group
returns-in-Group c = rw c.in-Group.is (pattern_of-Group c.args.particles)

pub returns-in-Choice : goal.returns-in-Choice
returns-in-Choice c = rw c.in-Choice.is (pattern_of-Choice c.args.particles)

pub returns-in-Interleave : goal.returns-in-Interleave
returns-in-Interleave c = rw c.in-Interleave.is (pattern_of-Interleave c.args.particles)
