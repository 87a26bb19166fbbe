use Rattle.std.proofs.Common.{sym, subst}
use Rattle.rng_core.specs.Meaning.{pattern_of}
use Rattle.deriv_nodes.specs.declared.leaf.Leaf.{Leaf}
use Rattle.deriv_nodes.specs.declared.shape.Shape.TheVariants as shape
use Rattle.deriv_nodes.specs.Reading.{IsData, patterns_of}
use Rattle.deriv_nodes.proofs.IfOk.{if_ok}
use Rattle.deriv_nodes.proofs.Kept.{kept_later}
use Rattle.deriv_nodes.proofs.Reading.{put_later}
use Rattle.deriv_nodes.proofs.Growing.{table_kept, table_put, leaf_before, leaf_given, leaf_later, data_at}
use Rattle.deriv_nodes.proofs.nodes.Nodes.put_data.Goals as goal

pub invariant_of-self : goal.invariant_of-self
invariant_of-self c =
    let inside = c.self.inside in
    let leaf : Leaf = record { pattern = c.args.leaf } in
    let leaves = c.keep.new.set.keys in
    record {
      table = table_kept inside.leaves.keys leaves inside.shapes.keys leaf c.self.invariant.table c.keep.ensures.kept c.keep.ensures.single
          c.requires.order;
      kept = kept_later _ c.args.self.now (patterns_of leaves inside.shapes.keys) inside.kept.entries.items c.self.view_is
          (leaf_later inside.leaves.keys leaves inside.shapes.keys leaf c.args.self.now c.self.view_is c.self.invariant.table.ordered
          c.keep.ensures.kept) c.self.invariant.kept;
    }

pub returns-in_err-leaf-clause-later : goal.returns-in_err-leaf-clause-later
returns-in_err-leaf-clause-later c =
    let inside = c.self.inside in
    leaf_later inside.leaves.keys c.keep.new.set.keys inside.shapes.keys (record { pattern = c.args.leaf }) c.args.self.now
    c.self.view_is c.self.invariant.table.ordered c.keep.ensures.kept

pub invariant_of-self-2 : goal.invariant_of-self-2
invariant_of-self-2 c =
    let inside = c.self.inside in
    let leaf : Leaf = record { pattern = c.args.leaf } in
    let leaves = c.keep.new.set.keys in
    let table = table_kept inside.leaves.keys leaves inside.shapes.keys leaf c.self.invariant.table c.keep.ensures.kept
    c.keep.ensures.single c.requires.order in
    let is = leaf_given leaves leaf c.in_ok-leaf.leaf c.in_ok-leaf.ensures.there in
    let before = leaf_before inside.leaves.keys leaves inside.shapes.keys leaf c.args.self.now c.self.view_is
    c.self.invariant.table.ordered c.keep.ensures.kept in
    record {
      table = table_put leaves inside.shapes.keys c.keep-2.new.set.keys (shape.Data c.in_ok-leaf.leaf) table (subst IsData (sym is) c.requires.data)
          c.keep-2.ensures.kept c.keep-2.ensures.single;
      kept = kept_later _ c.args.self.now (patterns_of leaves c.keep-2.new.set.keys) inside.kept.entries.items c.self.view_is
          (put_later leaves inside.shapes.keys c.keep-2.new.set.keys c.args.self.now (shape.Data c.in_ok-leaf.leaf) before c.keep-2.ensures.kept)
          c.self.invariant.kept;
    }

pub returns-clause-later : goal.returns-clause-later
returns-clause-later c =
    let inside = c.self.inside in
    let leaf : Leaf = record { pattern = c.args.leaf } in
    let leaves = c.keep.new.set.keys in
    let before = leaf_before inside.leaves.keys leaves inside.shapes.keys leaf c.args.self.now c.self.view_is c.self.invariant.table.ordered
    c.keep.ensures.kept in
    put_later leaves inside.shapes.keys c.keep-2.new.set.keys c.args.self.now (shape.Data c.in_ok-leaf.leaf) before c.keep-2.ensures.kept

pub returns-clause-made : goal.returns-clause-made
returns-clause-made c =
    let inside = c.self.inside in
    let leaf : Leaf = record { pattern = c.args.leaf } in
    let leaves = c.keep.new.set.keys in
    let table = table_kept inside.leaves.keys leaves inside.shapes.keys leaf c.self.invariant.table c.keep.ensures.kept
    c.keep.ensures.single c.requires.order in
    let is = leaf_given leaves leaf c.in_ok-leaf.leaf c.in_ok-leaf.ensures.there in
    let after = table_put leaves inside.shapes.keys c.keep-2.new.set.keys (shape.Data c.in_ok-leaf.leaf) table
    (subst IsData (sym is) c.requires.data) c.keep-2.ensures.kept c.keep-2.ensures.single in
    if_ok c.keep-2.result c.keep-2.ensures.there (λ r there.
    data_at leaves inside.shapes.keys c.keep-2.new.set.keys c.in_ok-leaf.leaf r (pattern_of c.args.leaf) after.ordered is c.requires.data
    c.keep-2.ensures.kept there)
