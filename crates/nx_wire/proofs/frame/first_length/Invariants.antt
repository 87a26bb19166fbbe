-- What the fields that are left tell is what all of them tell.
use Rattle.std.proofs.Common.{ℕ, List, All, Option, length, map}
use Rattle.httparse.specs.Spans.{IsHeaderWithin, header_bytes}
use Rattle.nx_wire.specs.Frames.{FirstLength}
use Rattle.nx_wire.proofs.frame.first_length.Given as goal

abbrev pub invariant-loop-field : goal.invariant-loop-field
invariant-loop-field l =
    All (IsHeaderWithin (length l.bytes)) l.rest
    × ((found : Option (List ℕ)) → FirstLength (map (header_bytes l.bytes) l.rest) found → FirstLength (map (header_bytes l.bytes) l.fields) found)

abbrev pub decreases-loop-field : goal.decreases-loop-field
decreases-loop-field l = length l.rest
