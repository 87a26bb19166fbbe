use Rattle.std.proofs.Common.{Option, subst, sym}
use Rattle.std.specs.Prelude.{IfSome}
use Rattle.rng_core.specs.Patterns.{Language}
use Rattle.rng_kept.specs.Live.{IsLive}
use Rattle.nx_marks.proofs.Meant.{reach_by}
use Rattle.nx_recover.specs.Machine.{means_by}
use Rattle.deriv_pool.specs.Later.{meaning_of}
use Rattle.nx_session.specs.Reading.{meant}
use Rattle.nx_session.proofs.Reading.{marks_right, schema_followed}
use Rattle.nx_session.proofs.session.Session.reads_right.Goals as goal

pub returns-clause-right : goal.returns-clause-right
returns-clause-right c =
    let matcher = c.self.inside.machine.matcher in
    let kept = c.self.inside.marks.kept in
    rw (← c.self.view_is) (record {
      utf8 = c.len-len.ensures.utf8;
      right = marks_right matcher c.self.inside.text (meant matcher kept) (c.meanings_are_right.ensures c.self.inside.machine c.self.inside.text kept c.self.invariant.well.read);
      frontier = sym (reach_by (means_by meaning_of matcher) kept.front);
    })

pub returns-clause-held : goal.returns-clause-held
returns-clause-held c =
    let P : Option Language → Type 0 = λ o. IfSome o IsLive in
    rw (← c.self.view_is) (record {
      place = c.self.invariant.place;
      live = subst P (schema_followed c.self.inside.machine.matcher) c.self.invariant.well.live;
      sound = c.self.invariant.well.sound;
    })
