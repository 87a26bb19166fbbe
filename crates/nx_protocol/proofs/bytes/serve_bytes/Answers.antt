use Rattle.std.proofs.Common.{sym, subst}
use Rattle.nx_protocol.proofs.Going.{one_more, stopped}
use Rattle.nx_protocol.specs.Runs.{ServesBytes, ServesNext, Stops}
use Rattle.nx_protocol.specs.Serving.{state}
use Rattle.nx_protocol.proofs.bytes.serve_bytes.Goals as goal

pub loop-alloc-preserved : goal.loop-alloc-preserved
loop-alloc-preserved g c =
    let old = state c.args.talk.now (g.D.Documents.held c.args.documents.now) in
    let now = state c.loop-alloc.talk (g.D.Documents.held c.loop-alloc.documents) in
    let next = state c.serve_next.new.talk (g.D.Documents.held c.serve_next.new.documents) in
    one_more old c.args.bytes.now c.args.out.now.items c.loop-alloc.used now c.loop-alloc.out.items c.in-Ok.len next c.serve_next.new.out.items
    c.loop-alloc.invariant
    (subst (λ rest. ServesNext now rest c.in-Ok.len next c.loop-alloc.out.items c.serve_next.new.out.items) c.split_at.ensures.back c.in-Ok.ensures.served)

pub returns-in-Err-clause-serves : goal.returns-in-Err-clause-serves
returns-in-Err-clause-serves g c =
    let old = state c.args.talk.now (g.D.Documents.held c.args.documents.now) in
    let now = state c.loop-alloc.talk (g.D.Documents.held c.loop-alloc.documents) in
    let next = state c.serve_next.new.talk (g.D.Documents.held c.serve_next.new.documents) in
    let bytes = c.args.bytes.now in let used = c.loop-alloc.used in
    subst (λ out. ServesBytes old bytes used c.in-Err.stop next c.args.out.now.items out) (sym c.in-Err.ensures.silent)
    (stopped old bytes c.args.out.now.items used now c.loop-alloc.out.items c.in-Err.stop next c.loop-alloc.invariant
    (subst (λ rest. Stops now next rest c.in-Err.stop) c.split_at.ensures.back c.in-Err.ensures.stops))
