use Rattle.std.proofs.Common.{◌≡◌, sym, subst, ap, ◌∙◌, [], ◌∷◌, ◌++◌, List, ℕ, Some, None}
use Rattle.nx_locate.specs.declared.rule.Target.{Target}
use Rattle.nx_locate.specs.Leading.{nothing, Refers, Leads, by_uri, by_type, type_met, type_unknown, leads_of_type}
use Rattle.nx_locate.proofs.Among.{met_by, not_met_by}
use Rattle.nx_locate.proofs.Giving.{answers_with, lead_texts}
use Rattle.nx_locate.proofs.leading.schema_of.Goals as goal

pub returns-in-Uri : goal.returns-in-Uri
returns-in-Uri c =
    let rules = c.args.rules.now in
    let lead = c.loop-turn.lead in
    answers_with (Refers lead.base.now c.in-Uri.text) (Leads rules [] c.args.base.now c.args.target.now) c.refers.result
    (λ outcome h. c.loop-turn.invariant.leads outcome
    (subst (λ (t : Target). Leads rules c.loop-turn.met lead.base.now t outcome) (sym c.in-Uri.is) (by_uri h))) c.refers.ensures

pub returns-then-is_met : goal.returns-then-is_met
returns-then-is_met c = (
  tt,
  c.loop-turn.invariant.leads nothing (subst (λ (t : Target). Leads c.args.rules.now c.loop-turn.met c.loop-turn.lead.base.now t nothing)
      (sym c.in-TypeId.is) (type_met (met_by c.in-TypeId.id c.as_slice-in-loop-turn.result.now c.loop-turn.met c.as_slice.result.now
      c.as_slice-in-loop-turn.ensures c.as_slice.ensures c.if-is_met.ensures))),
)

pub returns-in-None : goal.returns-in-None
returns-in-None c = (
  tt,
  c.loop-turn.invariant.leads nothing (subst (λ (t : Target). Leads c.args.rules.now c.loop-turn.met c.loop-turn.lead.base.now t nothing)
      (sym c.in-TypeId.is) (type_unknown (not_met_by c.in-TypeId.id c.as_slice-in-loop-turn.result.now c.loop-turn.met c.as_slice.result.now
      c.as_slice-in-loop-turn.ensures c.as_slice.ensures c.if-is_met.ensures)
      (subst (λ i. leads_of_type i c.args.rules.now ≡ None) c.as_slice-in-loop-turn-2.ensures c.in-None.ensures))),
)

pub loop-turn-preserved : goal.loop-turn-preserved
loop-turn-preserved c =
    let rules = c.args.rules.now in
    let id : List ℕ = c.in-TypeId.id in
    let next = c.in-Some.next in
    let not_met = not_met_by id c.as_slice-in-loop-turn.result.now c.loop-turn.met c.as_slice.result.now
    c.as_slice-in-loop-turn.ensures c.as_slice.ensures c.if-is_met.ensures in
    let leads : leads_of_type id rules ≡ Some (next.base.now, next.target.now) =
    subst (λ i. leads_of_type i rules ≡ Some (next.base.now, next.target.now)) c.as_slice-in-loop-turn-2.ensures c.in-Some.ensures in
    let pushed : c.push.new.self ≡ c.loop-turn.met ++ id ∷ [] =
    c.in_ok-push.ensures.ok ∙ ap (λ i. c.loop-turn.met ++ i ∷ []) c.in_ok-copy.ensures in
    let texts = lead_texts id rules next.base.now next.target.now c.requires.rules leads in
    record {
      leads = λ outcome h. c.loop-turn.invariant.leads outcome
          (subst (λ (t : Target). Leads rules c.loop-turn.met c.loop-turn.lead.base.now t outcome) (sym c.in-TypeId.is)
          (by_type not_met leads (subst (λ ms. Leads rules ms next.base.now next.target.now outcome) pushed h)));
      base = texts.0;
      target = texts.1;
    }
