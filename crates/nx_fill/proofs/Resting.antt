-- What is left in front of a place tells all that completes the document.
use Rattle.std.proofs.Common.{◌∙◌, ap}
use Rattle.rng_kept.specs.Moves.{attributes_of}
use Rattle.nx_recover.specs.Table.{Form}
use Rattle.nx_complete.proofs.Answered.{same_form}
use Rattle.nx_fill.specs.Laws.{RestsComplete}
use Rattle.nx_fill.proofs.Standing.{taken_is_rest, rest_is_taken, standing_before}

pub rests_complete : RestsComplete
rests_complete g live text utf8 at p k free =
    let w = standing_before g live text utf8 at p k free in
    record {
      residual = w.residual;
      is = ap (λ (l : Form). l.here) (same_form g live text utf8 at p) ∙ w.is;
      stands = record { names = attributes_of w.frame.moves; complete = taken_is_rest w; all = λ s r. let t = rest_is_taken w s r in (t.takes, t.distinct) };
    }
