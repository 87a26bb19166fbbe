use Rattle.std.proofs.Common.{◌≡◌, ◌∙◌, ◌-◌, ℕ, Some, sym, ap, subst, arith, length, map, get_or, Bool, List}
use Rattle.std.specs.Prelude.{slice_get}
use Rattle.std.proofs.lemmas.List.{length-map}
use Rattle.rng_core.specs.declared.grammar.Def.{Def}
use Rattle.rng_core.specs.Meaning.{definition_of}
use Rattle.rng_cost.specs.Rounds.{Falls}
use Rattle.rng_cost.proofs.Passing.{falls_down, def_at}
use Rattle.rng_cost.proofs.rounds.settle_all.Goals as goal

pub loop-left-preserved : goal.loop-left-preserved
loop-left-preserved c =
    let defs : List Def = c.as_slice-defs.result.now in
    let k : ℕ = c.loop-left.left - 1 in
    let def : Def = get_or defs k c.index-defs-left.result in
    let at : slice_get (map definition_of defs) k ≡ Some (definition_of def) =
    def_at defs k c.index-defs-left.result (omega arith) c.index-defs-left.is ∙ ap (λ (d : Def). Some (definition_of d)) c.index-defs-left.is in
    let many : length c.args.costs.now.items ≡ length (map definition_of defs) = c.requires ∙ ap length (sym c.as_slice-defs.ensures)
    ∙ sym (length-map defs definition_of) in
    record {
      inside = omega arith;
      falls =
          subst (λ (b : Bool). Falls (map definition_of defs) k c.args.costs.now.items c.settle-one.new.costs.items b) (sym c.either-fell.ensures)
          (falls_down (map definition_of defs) k c.loop-left.left c.args.costs.now.items c.loop-left.costs.items c.settle-one.new.costs.items
          (definition_of def) c.loop-left.fell c.settle-one.result (omega arith) at many c.loop-left.invariant.falls c.settle-one.ensures);
    }
