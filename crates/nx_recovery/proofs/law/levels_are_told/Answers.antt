use Rattle.nx_recovery.proofs.Levels.{levels_are_told, states_tell_levels, levels_are_one, ends_are_of_elements}
use Rattle.nx_recovery.proofs.law.levels_are_told.Goals as goal

pub returns-clause-told : goal.returns-clause-told
returns-clause-told c = levels_are_told

pub returns-clause-states : goal.returns-clause-states
returns-clause-states c = states_tell_levels

pub returns-clause-one : goal.returns-clause-one
returns-clause-one c = levels_are_one

pub returns-clause-ends : goal.returns-clause-ends
returns-clause-ends c = ends_are_of_elements
