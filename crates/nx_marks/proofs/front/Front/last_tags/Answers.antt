use Rattle.nx_marks.proofs.Topping.{top-tags, tree-tags}
use Rattle.nx_marks.proofs.front.Front.last_tags.Goals as goal

pub returns-in-Some : goal.returns-in-Some
returns-in-Some g c = top-tags c.self.inside.below c.args.self.now c.self.inside.top c.in-Some.top c.get.result.now c.self.view_is c.in-Some.is c.get.ensures

pub returns : goal.returns
returns g c = tree-tags c.self.inside.below c.args.self.now c.self.inside.top c.count-count.result c.get-2.result.0 c.get-2.result.1.now c.self.view_is c.in_default.is c.count-count.ensures c.if-count-eq0.false c.get-2.ensures
