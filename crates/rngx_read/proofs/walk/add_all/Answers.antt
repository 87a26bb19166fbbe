use Rattle.std.proofs.Common.{sym, ◌∙◌, ap, subst}
use Rattle.rngx_read.specs.Walking.{walked_of, behind_all, IsSteady}
use Rattle.rngx_read.proofs.Walking.{steady_one, item_gone, none_gone}
use Rattle.rngx_read.proofs.walk.add_all.Goals as goal

pub items-preserved : goal.items-preserved
items-preserved c = record {
  left =
      ap (behind_all c.in-Some.behind.now) c.in_ok-add.ensures
      ∙ sym (item_gone c.in-Some.item.now c.in-Some.behind.now c.items.rest.now (walked_of c.items.walk) c.in-Some.ensures.cases.0)
      ∙ c.items.invariant.left;
  steady = subst IsSteady (sym c.in_ok-add.ensures) (steady_one c.in-Some.item.now (walked_of c.items.walk) c.items.invariant.steady);
}

pub returns : goal.returns
returns c = sym (none_gone c.items.rest.now (walked_of c.items.walk) c.in_default.ensures.cases) ∙ c.items.invariant.left
