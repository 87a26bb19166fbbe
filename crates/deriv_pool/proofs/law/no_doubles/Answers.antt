use Rattle.deriv_pool.proofs.law.no_doubles.Goals as goal

pub returns : goal.returns
returns c = record { patterns = c.no_doubles.ensures.patterns; outers = c.no_doubles.ensures.outers; states = c.no_doubles.ensures.states }
