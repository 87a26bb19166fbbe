-- States that mean the same go on alike.
use Rattle.std.specs.Prelude.{◌≡◌, ℕ, ◌+◌, ◌-◌, ◌≤◌, List, [], ◌∷◌}
use Rattle.std.proofs.Common.{arith, refl, sym, ap, ◌∙◌, subst}
use Rattle.nx_base.specs.Rules.{Rules, LaterLaws}
use Rattle.nx_base.specs.Sameness.{GoesOnAlike, SameStatesGoOn}
use Rattle.nx_base.specs.Shifting.{placed_span, placed_fault, placed}
use Rattle.nx_base.specs.declared.fault.Fault.{Fault}
use Rattle.nx_base.specs.declared.fault.Span.{Span}

farther : (a b n : ℕ) → a + b + n ≡ a + (b + n)
farther a b n = omega arith

placed_span_twice : (a b : ℕ) (span : Span) → placed_span (a + b) span ≡ placed_span a (placed_span b span)
placed_span_twice a b span = let from = farther a b span.from in let to = farther a b span.to in cc

placed_fault_twice : (a b : ℕ) (fault : Fault) → placed_fault (a + b) fault ≡ placed_fault a (placed_fault b fault)
placed_fault_twice a b fault = ap (λ (span : Span). record { span = span; kind = fault.kind; detail = fault.detail }) (placed_span_twice a b fault.span)

-- faults are farther on by the sum
pub placed_twice : (a b : ℕ) (faults : List Fault) → placed (a + b) faults ≡ placed a (placed b faults)
placed_twice a b [] = refl
placed_twice a b (fault ∷ faults) = let one = placed_fault_twice a b fault in let more = placed_twice a b faults in cc

at_distance : (distance from back : ℕ) → back ≤ from → distance + from - back ≡ distance + (from - back)
at_distance distance from back within = omega arith

shifted : (distance from back : ℕ) (faults : List Fault) → back ≤ from →
    placed (distance + from - back) faults ≡ placed distance (placed (from - back) faults)
shifted distance from back faults within =
    ap (λ n. placed n faults) (at_distance distance from back within) ∙ placed_twice distance (from - back) faults

-- one meaning, by one record of rules
alone : {M : Type 0} (rules : Rules M) (m : M) → GoesOnAlike rules rules m m
alone rules m = record {
  back = refl;
  depth = refl;
  may_mark = refl;
  after = λ lexeme. refl;
  faults = λ lexeme from distance within. shifted distance from (rules.back m) (rules.gives m lexeme) within;
  ends = λ len distance within. shifted distance len (rules.back m) (rules.ends m) within;
}

alike_by : {M : Type 0} (rules later_rules : Rules M) (a b : M) → later_rules ≡ rules → b ≡ a → GoesOnAlike rules later_rules a b
alike_by rules later_rules a b same_rules same_meaning =
    subst (λ r. GoesOnAlike rules r a b) (sym same_rules) (subst (λ m. GoesOnAlike rules rules a m) (sym same_meaning) (alone rules a))

pub same_states_go_on : {S T M : Type 0} (later : S → S → Type 0) (is_state : S → T → Type 0) (means : S → T → M) (rules : S → Rules M) →
    LaterLaws later is_state means rules → SameStatesGoOn later is_state means rules
same_states_go_on {M = M} later is_state means rules laws = record {
  itself = λ s t a b is_later a_is b_is same. laws.meaning s t b is_later b_is ∙ same ∙ sym (laws.meaning s t a is_later a_is);
  firsts = λ s t a b is_later a_is first_a first_b. first_b ∙ ap (λ (r : Rules M). r.first) (laws.rule s t is_later) ∙ sym first_a ∙ sym (laws.meaning s t a is_later a_is);
  symmetric = λ s a b same. sym same;
  transitive = λ s a b c ab bc. ab ∙ bc;
  lasting = λ s t a b is_later a_is b_is same. laws.meaning s t a is_later a_is ∙ same ∙ sym (laws.meaning s t b is_later b_is);
  lasting_apart = λ s t a b is_later a_is b_is same. sym (laws.meaning s t a is_later a_is) ∙ same ∙ laws.meaning s t b is_later b_is;
  alike = λ s t a b is_later a_is same. alike_by (rules s) (rules t) (means s a) (means t b) (laws.rule s t is_later) (sym same ∙ laws.meaning s t a is_later a_is);
}
