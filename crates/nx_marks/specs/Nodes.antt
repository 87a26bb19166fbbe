-- The marks at a node.
use Rattle.std.specs.Prelude.{List, ◌∷◌, ◌++◌}
use Rattle.nx_marks.specs.declared.mark.Mark.{Mark}
use Rattle.nx_marks.specs.declared.tree.Node.{Node}

-- its own, between those in front of it and those behind
abbrev pub marks_at : {S : Type 0} → Node S → List (Mark S)
marks_at n = n.left ++ n.mark ∷ n.right
