use Rattle.std.proofs.Common.{sym, subst}
use Rattle.nx_locate.specs.RulesRead.{AreTextRules}
use Rattle.nx_locate.proofs.RuleTexts.{rules_text}
use Rattle.nx_locate.proofs.TreeRules.{has_rules, has_fault, has_other_root}
use Rattle.nx_locate.proofs.rules_file.rules_among.Goals as goal

pub returns-then-has_fault-clause-found : goal.returns-then-has_fault-clause-found
returns-then-has_fault-clause-found c text is_text are =
    has_fault c.well_formed_is_document.ensures text c.args.items.now is_text are (sym c.if-has_fault.ensures)

pub returns-then-not-begins_rules-clause-found : goal.returns-then-not-begins_rules-clause-found
returns-then-not-begins_rules-clause-found c text is_text are =
    has_other_root c.well_formed_is_document.ensures text c.args.items.now is_text are (sym c.if-has_fault.ensures) (sym c.if-not-begins_rules.ensures)

pub returns-clause-found : goal.returns-clause-found
returns-clause-found c text is_text are =
    has_rules c.well_formed_is_document.ensures text c.args.items.now is_text are c.in_ok-rules_of.field-0.items
    (sym c.if-has_fault.ensures) (sym c.if-not-begins_rules.ensures) c.in_ok-rules_of.ensures

pub returns-clause-texts : goal.returns-clause-texts
returns-clause-texts c texts = subst AreTextRules (sym c.in_ok-rules_of.ensures) (rules_text 0 c.args.items.now texts)
