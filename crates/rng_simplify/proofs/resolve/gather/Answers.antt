use Rattle.std.proofs.Common.{◌≡◌, sym, ◌∙◌, refl, ℕ, length, set, subst, arith}
use Rattle.std.proofs.lemmas.Option.{slice_get_read}
use Rattle.rng_simplify.specs.NameTables.{KeepsOne}
use Rattle.rng_simplify.specs.Findings.{GathersOne}
use Rattle.rng_simplify.proofs.Gathering.{gathers_added, gathers_begun}
use Rattle.rng_simplify.proofs.resolve.gather.Goals as goal

pub returns-in-Some : goal.returns-in-Some
returns-in-Some c = λ first before h.
    let kept = sym c.get.ensures ∙ sym c.copied.ensures ∙ c.in-Some.is in
    let P : ℕ → Type 0 = λ n. GathersOne first before c.args.clause.now c.args.combined.now.items c.args.names.now (set c.args.combined.now.items n c.add.new.self) c.add.result in
    subst P (sym c.number.view_is) (gathers_added c.in-Some.number c.args.clause.now c.index_mut.result.now c.add.new.self h kept (slice_get_read c.args.combined.now.items (length c.args.combined.now.items) c.in-Some.number c.index_mut.result.now refl (c.requires c.in-Some.number kept) (rw c.number.view_is at c.index_mut.ensures.value)) c.add.result c.add.ensures)

pub returns-in_ok-push-in-None : goal.returns-in_ok-push-in-None
returns-in_ok-push-in-None c = λ first before h.
    let number : c.len.result ≡ length c.args.combined.now.items = omega arith in
    let keeps : KeepsOne c.args.names.now c.args.clause.now.name (length c.args.combined.now.items) c.add-in-None.new.self = subst (λ n. KeepsOne c.args.names.now c.args.clause.now.name n c.add-in-None.new.self) number c.in_ok-add-in-None.ensures in
    gathers_begun c.add-in-None.new.self c.push.new.self.items c.args.clause.now c.in_ok-alone-in-None.alone h (sym c.get.ensures ∙ sym c.copied.ensures ∙ c.in-None.is) keeps c.in_ok-alone-in-None.ensures.0 c.in_ok-alone-in-None.ensures.1 c.in_ok-push-in-None.ensures.items
