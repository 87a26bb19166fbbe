-- What is left in each frame stands for the frame's moves: the invariant of recovery along items, at its start.
use Rattle.std.proofs.Common.{Some, None, refl}
use Rattle.rng_core.specs.Patterns.{Language}
use Rattle.rng_kept.specs.Standing.{first_residual}
use Rattle.rng_kept.specs.Live.{IsFrame}
use Rattle.rng_residual.proofs.Standing.{frames_stand}
use Rattle.nx_recover.specs.Frames.{document_frame}
use Rattle.nx_recovery.specs.Levels.{StandsHere, frame_here}

-- the document's frame
pub document_stands : {g : Language} → IsFrame g g.start → StandsHere g None 0 (Some (document_frame g)) (Some (first_residual g.start))
document_stands {g = g} live = frame_here (record { stands = frames_stand g g.start live; opened = refl; of_tag = refl })
