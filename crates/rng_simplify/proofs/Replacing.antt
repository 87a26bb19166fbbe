-- Definitions that are replaced, as clauses in one piece.
use Rattle.std.proofs.Common.{◌≡◌, refl, sym, ap, ◌∙◌, ℕ, Bool, true, false, cond, List, [], ◌∷◌, ◌++◌, length, arith}
use Rattle.std.proofs.lemmas.List.{append-nil}
use Rattle.std.specs.Prelude.{not, ◌||◌, ◌&&◌, filter, if◌then◌else◌}
use Rattle.rnc_parse.specs.declared.surface.Defined.{Defined}
use Rattle.rng_simplify.specs.declared.node.Clause.{Clause}
use Rattle.rng_simplify.specs.Cells.{Cell}
use Rattle.rng_simplify.specs.Composed.{Composed, Clauses, end_of_clauses, clause_then, then_clauses, same_defined, defines, but_for, names_of}
use Rattle.rng_simplify.specs.ComposedFiles.{DefinesEach}
use Rattle.rng_simplify.specs.CellMeanings.{Denotes, DenoteAll, none_denoted, next_denoted}
use Rattle.rng_simplify.specs.MadeCells.{is_defined, defines_all, with_new}

or_if : (b r s : Bool) → r ≡ s → (b || r) ≡ (if b then true else s)
or_if true r s same = refl
or_if false r s same = same

and_first : (b c : Bool) → (b && c) ≡ true → b ≡ true
and_first true c h = refl
and_first false c h = h

and_second : (b c : Bool) → (b && c) ≡ true → c ≡ true
and_second true c h = h
and_second false true h = refl
and_second false false h = h

pub then_again_clauses : (a b c : Clauses) → then_clauses (then_clauses a b) c ≡ then_clauses a (then_clauses b c)
then_again_clauses end_of_clauses b c = refl
then_again_clauses (clause_then name combine p more) b c = ap (clause_then name combine p) (then_again_clauses more b c)

module _ {cells : List Cell} {number : ℕ → ℕ} where
  pub both_denoted : {xs ys : List Clause} {a b : Clauses} → DenoteAll cells number xs a → DenoteAll cells number ys b → DenoteAll cells number (xs ++ ys) (then_clauses a b)
  both_denoted none_denoted second = second
  both_denoted (next_denoted body rest) second = next_denoted body (both_denoted rest second)

  pub defined_alike : (name : Defined) {xs : List Clause} {a : Clauses} → DenoteAll cells number xs a → is_defined xs name ≡ defines name a
  defined_alike name none_denoted = refl
  defined_alike name (next_denoted {clause = clause} {more = more} {rest = rest} body denotes) = or_if (same_defined name clause.name) _ _ (defined_alike name denotes)

  -- each of the new names is defined
  pub each_defined : {old new : List Clause} {a b : Clauses} → DenoteAll cells number old a → DenoteAll cells number new b → defines_all old new ≡ true → DefinesEach a (names_of b)
  each_defined olds none_denoted all = tt
  each_defined olds (next_denoted {clause = clause} body denotes) all =
      (sym (defined_alike clause.name olds) ∙ and_first _ _ all, each_defined olds denotes (and_second _ _ all))

  picked : (x y : Bool) (clause : Clause) {xs : List Clause} {p : Composed} {a : Clauses} → x ≡ y → Denotes cells number clause.body p → DenoteAll cells number xs a → DenoteAll cells number (cond (not x) (clause ∷ xs) xs) (if y then a else clause_then clause.name clause.combine p a)
  picked true true clause same body rest = rest
  picked false false clause same body rest = next_denoted body rest
  picked true false clause same body rest = let never : ⊥ = cc in absurd never
  picked false true clause same body rest = let never : ⊥ = cc in absurd never

  -- those of other names are kept
  kept_alike : {old new : List Clause} {a b : Clauses} → DenoteAll cells number new b → DenoteAll cells number old a → DenoteAll cells number (filter (λ (c : Clause). not (is_defined new c.name)) old) (but_for b a)
  kept_alike news none_denoted = none_denoted
  kept_alike news (next_denoted {clause = clause} body denotes) = picked _ _ clause (defined_alike clause.name news) body (kept_alike news denotes)

  pub replaced_alike : {old new : List Clause} {a b : Clauses} → DenoteAll cells number old a → DenoteAll cells number new b → DenoteAll cells number (with_new old new) (then_clauses (but_for b a) b)
  replaced_alike olds news = both_denoted (kept_alike news olds) news

-- where nothing is new, nothing is replaced
all_kept : (old : List Clause) → old ≡ filter (λ (c : Clause). not (is_defined [] c.name)) old
all_kept [] = refl
all_kept (clause ∷ old) = ap (λ cs. clause ∷ cs) (all_kept old)

pub none_replaced : (old new : List Clause) → length new ≡ 0 → (defines_all old new ≡ true) × (old ≡ with_new old new)
none_replaced old [] none = (refl, all_kept old ∙ sym (append-nil (filter (λ (c : Clause). not (is_defined [] c.name)) old)))
none_replaced old (clause ∷ new) none = absurd (omega (arith, none))
