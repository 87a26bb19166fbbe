use Rattle.deriv_pattern.proofs.attributes.+behind_attribute.Goals as goal

pub returns-in-Group : goal.returns-in-Group
returns-in-Group t c =
    let left = rw c.deref-in-Group.ensures at c.behind_attribute-left-in-Group.ensures in
    let second = rw c.deref-in-Group-2.ensures at c.behind_attribute-second-in-Group.ensures in
    let front = rw c.deref-in-Group-3.ensures at (c.before-in-Group.ensures _ left) in
    let back = rw c.deref-in-Group-4.ensures at (c.behind.ensures _ second) in
    rw c.in-Group.is (c.either-in-Group.ensures _ _ front back)

pub returns-in-Interleave : goal.returns-in-Interleave
returns-in-Interleave t c =
    let left = rw c.deref-in-Interleave.ensures at c.behind_attribute-left-in-Interleave.ensures in
    let second = rw c.deref-in-Interleave-2.ensures at c.behind_attribute-second-in-Interleave.ensures in
    let whole = rw c.deref-in-Interleave-3.ensures at (c.one_of_interleave.ensures _ _ left second) in
    rw c.in-Interleave.is (rw c.deref-in-Interleave-4.ensures at whole)
