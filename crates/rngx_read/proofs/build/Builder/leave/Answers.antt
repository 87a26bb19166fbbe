use Rattle.std.proofs.Common.{arith}
use Rattle.rngx_read.proofs.BuiltViews.{left_is}
use Rattle.rngx_read.proofs.build.Builder.leave.Goals as goal

pub returns : goal.returns
returns c =
    left_is c.args.self.now c.in-Some.outer c.replace-tag.new.dest c.replace-tag.result c.pop.new.self.items c.push.new.self.items (omega arith)
    c.in-Some.ensures.items c.replace-tag.ensures.after c.replace-tag.ensures.value c.in_ok-push.ensures.items
