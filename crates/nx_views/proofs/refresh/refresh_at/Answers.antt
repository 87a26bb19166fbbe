use Rattle.std.proofs.Common.{rules, sym, ◌∙◌, refl, inl, inr}
use Rattle.nx_views.proofs.Refreshing.{gone_why, remove-set, still}
use Rattle.std.proofs.lemmas.Result.{err_from_is_err_and}
use Rattle.nx_views.proofs.refresh.refresh_at.Goals as goal

pub returns-then-lives : goal.returns-then-lives
returns-then-lives g c =
    let lives = sym c.is_live-lives.ensures ∙ c.if-lives.true in
    record {
      was = c.index_mut-view.result.now;
      is = c.show-shown.new.view;
      read = search rules;
      written = refl;
      keeps = record {
        after = c.show-shown.ensures.after;
        lives = lives;
        shows = c.in_ok-shown.ensures.shown lives;
      };
    }

pub returns : goal.returns
returns g c =
    let dead = sym c.is_live-lives.ensures ∙ c.if-lives.false in
    record {
      was = c.index_mut-view.result.now;
      read = search rules;
      written = c.remove.ensures.items ∙ remove-set c.args.views.now.items c.args.i c.show-shown.new.view;
      why = gone_why c.args.faults.now
          ((goal.View-dyn g (c.index_mut-view.result.now.vtable, c.index_mut-view.result.now.value)).state c.index_mut-view.result.now.value)
          ((goal.View-dyn g (c.show-shown.new.view.vtable, c.show-shown.new.view.value)).state c.show-shown.new.view.value) c.show-shown.ensures.after dead;
    }

pub returns-in_err-shown : goal.returns-in_err-shown
returns-in_err-shown g c =
    let p = err_from_is_err_and c.from_residual.result c.from_residual.ensures.1 in
    let lives = sym c.is_live-lives.ensures ∙ c.if-lives.true in
    rw p.1 (inl (record {
      was = c.index_mut-view.result.now;
      is = c.show-shown.new.view;
      read = search rules;
      written = refl;
      keeps = record {
        after = c.show-shown.ensures.after;
        same_live = still
            ((goal.View-dyn g (c.index_mut-view.result.now.vtable, c.index_mut-view.result.now.value)).state c.index_mut-view.result.now.value)
            ((goal.View-dyn g (c.show-shown.new.view.vtable, c.show-shown.new.view.value)).state c.show-shown.new.view.value) c.show-shown.ensures.after.dead lives;
        shows = inr c.show-shown.ensures.front;
      };
    }))

pub returns-in_err-shown-2 : goal.returns-in_err-shown-2
returns-in_err-shown-2 g c =
    let p = err_from_is_err_and c.from_residual-in_err-shown-2.result c.from_residual-in_err-shown-2.ensures.1 in
    let dead = sym c.is_live-lives.ensures ∙ c.if-lives.false in
    rw p.1 (inr (record {
      was = c.index_mut-view.result.now;
      read = search rules;
      written = c.remove.ensures.items ∙ remove-set c.args.views.now.items c.args.i c.show-shown.new.view;
      why = gone_why c.args.faults.now
          ((goal.View-dyn g (c.index_mut-view.result.now.vtable, c.index_mut-view.result.now.value)).state c.index_mut-view.result.now.value)
          ((goal.View-dyn g (c.show-shown.new.view.vtable, c.show-shown.new.view.value)).state c.show-shown.new.view.value) c.show-shown.ensures.after dead;
    }))
