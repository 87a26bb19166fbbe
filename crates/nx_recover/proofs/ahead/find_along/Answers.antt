use Rattle.nx_recover.specs.Later.{states_later}
use Rattle.nx_recover.specs.States.{view_of}
use Rattle.nx_recover.proofs.Stepping.{kept_states}
use Rattle.nx_recover.proofs.ahead.find_along.Goals as goal

pub returns-in_err-take_items-clause-states : goal.returns-in_err-take_items-clause-states
returns-in_err-take_items-clause-states g c = states_later g.met.M.Matcher.laws c.take_items.ensures.later (view_of c.args.state.now.levels) c.requires.states

pub returns-in_err-make_room-clause-states : goal.returns-in_err-make_room-clause-states
returns-in_err-make_room-clause-states g c =
    kept_states g.met.M.Matcher.laws c.take_items.ensures.later (view_of c.args.state.now.levels) (view_of c.make_room.new.levels) c.requires.states c.make_room.ensures.view
