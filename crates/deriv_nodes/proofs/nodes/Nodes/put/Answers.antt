use Rattle.std.proofs.Common.{◌≡◌, sym, subst, Some, slice_get}
use Rattle.deriv_nodes.specs.declared.shape.Shape.{Shape}
use Rattle.deriv_nodes.specs.Shapes.{shape_itself, shapes_decided}
use Rattle.deriv_nodes.specs.Reading.{patterns_of}
use Rattle.deriv_nodes.proofs.IfOk.{if_ok}
use Rattle.deriv_nodes.proofs.Kept.{kept_later}
use Rattle.deriv_nodes.proofs.Single.{one_place}
use Rattle.deriv_nodes.proofs.Reading.{fits, ordered_kept, put_later, put_at}
use Rattle.deriv_nodes.proofs.nodes.Nodes.put.Goals as goal

pub invariant_of-self : goal.invariant_of-self
invariant_of-self c =
    let inside = c.self.inside in
    record {
      table = record {
        ordered = ordered_kept inside.leaves.keys inside.shapes.keys c.keep.new.set.keys c.args.shape c.self.invariant.table.ordered
            (fits inside.leaves.keys inside.shapes.keys c.args.self.now c.args.shape c.self.view_is c.requires) c.keep.ensures.kept;
        single = λ i j s one other. one_place _ c.keep.new.set.keys i j s s c.keep.ensures.single one other (shape_itself s) (shape_itself s);
        single_leaves = c.self.invariant.table.single_leaves;
        leaves_in_order = c.self.invariant.table.leaves_in_order;
      };
      kept = kept_later _ c.args.self.now (patterns_of inside.leaves.keys c.keep.new.set.keys) inside.kept.entries.items c.self.view_is
          (put_later inside.leaves.keys inside.shapes.keys c.keep.new.set.keys c.args.self.now c.args.shape c.self.view_is c.keep.ensures.kept)
          c.self.invariant.kept;
    }

pub returns-clause-later : goal.returns-clause-later
returns-clause-later c =
    let inside = c.self.inside in
    put_later inside.leaves.keys inside.shapes.keys c.keep.new.set.keys c.args.self.now c.args.shape c.self.view_is c.keep.ensures.kept

pub returns-clause-made : goal.returns-clause-made
returns-clause-made c =
    let inside = c.self.inside in
    if_ok c.keep.result c.keep.ensures.there (λ r there.
    let Q : Shape → Type 0 = λ s. slice_get c.keep.new.set.keys r ≡ Some s in
    put_at inside.leaves.keys inside.shapes.keys c.keep.new.set.keys c.args.self.now c.args.shape r c.self.view_is c.self.invariant.table.ordered
    c.requires c.keep.ensures.kept (subst Q (sym ((shapes_decided c.args.shape there.0).0 there.2)) there.1))
