use Rattle.std.proofs.Common.{◌≡◌, ap, sym, ◌∙◌, is_some, ◌++◌, vec_len, arith}
use Rattle.std.proofs.lemmas.Bool.{eqb-true}
use Rattle.std.specs.List.{list_all}
use Rattle.std.specs.Prelude.{not}
use Rattle.rnc_parse.specs.declared.surface.Defined.{Defined}
use Rattle.rng_simplify.specs.NameTables.{kept_for}
use Rattle.rng_simplify.specs.MadeCells.{is_defined}
use Rattle.rng_simplify.proofs.Entries.{all_same, filter_same}
use Rattle.rng_simplify.proofs.Replacing.{none_replaced}
use Rattle.rng_simplify.proofs.replace.replaced.Goals as goal

pub returns-then-is_empty : goal.returns-then-is_empty
returns-then-is_empty c =
    let none = eqb-true (vec_len c.args.new) 0 (sym c.is_empty.ensures ∙ c.if-is_empty.true) in
    none_replaced c.args.old.items c.args.new.items (omega (arith, none, c.args.new.ok.0))

pub returns : goal.returns
returns c =
    let old_is : (name : Defined) → is_some (kept_for c.in_ok-names.names name) ≡ is_defined c.args.old.items name = λ name. c.in_ok-names.ensures name ∙ ap (λ xs. is_defined xs name) c.as_slice.ensures.value in
    let new_is : (name : Defined) → is_some (kept_for c.in_ok-anew.anew name) ≡ is_defined c.args.new.items name = λ name. c.in_ok-anew.ensures name ∙ ap (λ xs. is_defined xs name) c.as_slice-3.ensures.value in (
      sym (all_same _ _ (λ clause. old_is clause.name) c.args.new.items) ∙ ap (list_all (λ clause. is_some (kept_for c.in_ok-names.names clause.name))) (sym c.as_slice-2.ensures.value) ∙ sym c.are_of.ensures ∙ c.if-not-are_of.false,
      c.in_ok-append.ensures.items ∙ ap (λ xs. xs ++ c.args.new.items) (c.without-kept.ensures ∙ filter_same _ _ (λ clause. ap not (new_is clause.name)) c.args.old.items),
    )
