use Rattle.std.proofs.Common.{[], ◌∷◌}
use Rattle.std.proofs.lemmas.Result.{err_from_is_err_and}
use Rattle.nx_script.proofs.Writing.{part_after}
use Rattle.nx_script.proofs.write.write_text.Goals as goal

pub returns-in_err-write-2-clause-written : goal.returns-in_err-write-2-clause-written
returns-in_err-write-2-clause-written g c =
    let told = g.O.Out.told in
    let fault = err_from_is_err_and c.from_residual-in_err-write-2.result c.from_residual-in_err-write-2.ensures.1 in
    rw fault.1 (part_after c.in_err-write-2.field-0.0 (told c.args.out.now) (told c.write.new.self) (told c.write-2.new.self) c.args.text.now (10 ∷ []) c.in_ok-write.ensures.written c.in_err-write-2.ensures.written)
