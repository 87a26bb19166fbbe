use Rattle.std.proofs.Common.{List, take, length, sym, ◌∙◌, subst, arith}
use Rattle.std.proofs.lemmas.Result.{err_from_is_err_and}
use Rattle.rng_simplify.specs.declared.node.Clause.{Clause}
use Rattle.rng_simplify.specs.Findings.{IsGathered}
use Rattle.rng_simplify.proofs.Gathering.{gathers_failed, number_within, up_to_it, around_it}
use Rattle.rng_simplify.proofs.resolve.gathered.Goals as goal

pub gather-requires : goal.gather-requires
gather-requires c = λ number kept. number_within c.clause-item.result.name number c.loop-clause.invariant.so_far kept

pub returns-in_err-gather : goal.returns-in_err-gather
returns-in_err-gather c =
    let p = err_from_is_err_and c.from_residual.result c.from_residual.ensures.1 in
    rw (p.1, p.2) (gathers_failed (length c.args.combined.now.items) c.gather.new.names c.args.combined.now.items c.loop-clause.combined.items c.gather.new.combined.items (take c.loop-clause.clause-index c.args.clauses.now) c.clause-item.result _ c.args.clauses.now c.in_err-gather.field-0.0 (around_it c.args.clauses.now c.loop-clause.clause-index c.clause-item.result (omega arith) c.clause-item.is) (c.in_err-gather.ensures (length c.args.combined.now.items) (take c.loop-clause.clause-index c.args.clauses.now) c.loop-clause.invariant.so_far))

pub loop-clause-preserved : goal.loop-clause-preserved
loop-clause-preserved c =
    let h = c.in_ok-gather.ensures (length c.args.combined.now.items) (take c.loop-clause.clause-index c.args.clauses.now) c.loop-clause.invariant.so_far in
    record {
      so_far = subst (λ (cs : List Clause). IsGathered (length c.args.combined.now.items) cs c.gather.new.names c.gather.new.combined.items) (sym (up_to_it c.args.clauses.now c.loop-clause.clause-index c.clause-item.result (omega arith) c.clause-item.is)) h.0;
      kept = λ number lt. h.1 number lt ∙ c.loop-clause.invariant.kept number lt;
    }
