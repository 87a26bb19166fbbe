use Rattle.deriv_nodes.proofs.Single.{one_place}
use Rattle.deriv_nodes.proofs.table.keep.Goals as goal

pub returns-in_err-place-clause-once : goal.returns-in_err-place-clause-once
returns-in_err-place-clause-once g c = λ i j x one other.
    one_place g.T.PartialEq.eq c.insert_full.new.self.keys i j x x c.insert_full.ensures.unique one other
    (g.met.T.Eq.laws.refl x) (g.met.T.Eq.laws.refl x)

pub returns-clause-once : goal.returns-clause-once
returns-clause-once g c = λ i j x one other.
    one_place g.T.PartialEq.eq c.insert_full.new.self.keys i j x x c.insert_full.ensures.unique one other
    (g.met.T.Eq.laws.refl x) (g.met.T.Eq.laws.refl x)
