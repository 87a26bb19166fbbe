use Rattle.std.proofs.Common.{rules, ◌+◌}
use Rattle.nx_scan.proofs.Pieces.{name-no_mark, slash-no_mark}
use Rattle.nx_scan.proofs.Rows.{markup-plain}
use Rattle.nx_scan.proofs.TagParts.{end-named, start-named}
use Rattle.nx_scan.proofs.scan.markup_end_in.Goals as goal

pub returns-in-Some : goal.returns-in-Some
returns-in-Some c =
    let text = c.args.text.now in let behind = c.args.behind.now in
    let none = slash-no_mark text behind (c.args.at + 1) c.requires.behind (search rules) (search rules) in
    markup-plain text c.args.at c.new.result none.0 none.1
    (end-named text behind c.args.at c.in-Some.close c.requires.utf8 c.requires.within c.requires.open c.requires.behind (search rules)
    (search rules) c.in-Some.ensures c.new.result c.new.ensures.kind (search rules))

pub returns-in-Some-closed_name : goal.returns-in-Some-closed_name
returns-in-Some-closed_name c =
    let text = c.args.text.now in let behind = c.args.behind.now in let named = c.in-Some-closed_name.ensures in
    let none = name-no_mark text behind (c.args.at + 1) c.requires.behind (search rules) named.first in
    markup-plain text c.args.at c.new-in-Some-closed_name.result none.0 none.1
    (start-named text behind c.args.at c.in-Some-closed_name.close c.requires.utf8 c.requires.within c.requires.open c.requires.behind named
    c.new-in-Some-closed_name.result c.new-in-Some-closed_name.ensures.kind (search rules))
