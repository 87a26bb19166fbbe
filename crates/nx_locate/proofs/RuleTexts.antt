-- What rules hold is UTF-8, where the items that they are read from are.
use Rattle.std.proofs.Common.{ℕ, ◌+◌, Bool, true, false, cond, eqb, List, [], ◌∷◌, ◌++◌, Option, Some, None, option_map, codes}
use Rattle.std.specs.List.{AllByRecursion}
use Rattle.std.specs.Str.{bytes_eq}
use Rattle.nx_base.specs.Names.{same_name}
use Rattle.nx_base.specs.declared.name.Name.{Name}
use Rattle.nx_events.specs.Texts.{ItemsAreText}
use Rattle.nx_events.specs.declared.item.Event.TheVariants.{Enter, EnterLost, Att, TagEnd, Chars, Leave}
use Rattle.nx_events.specs.declared.item.Item.{Item}
use Rattle.nx_events.specs.declared.item.Item.TheVariants as items
use Rattle.nx_locate.specs.declared.rule.Rule.{Rule}
use Rattle.nx_locate.specs.declared.rule.Target.{Target}
use Rattle.nx_locate.specs.declared.rule.Target.TheVariants as target
use Rattle.nx_locate.specs.Rules.{Values, first_of, target_of, rule_by, include_rule, uri_rule, element_rule, namespace_rule, default_rule, transform_rule, type_rule, listed, rules_namespace}
use Rattle.nx_locate.specs.RulesRead.{entered, value_among, rule_at, rule_entered, depth_behind, rules_from, IsTextIfGiven, IsTextTarget, IsTextRule, AreTextRules}

abbrev IsTextTargetIfGiven : Option Target → Type 0
IsTextTargetIfGiven None = Unit {0}
IsTextTargetIfGiven (Some leads) = IsTextTarget leads

abbrev IsTextRuleIfGiven : Option Rule → Type 0
IsTextRuleIfGiven None = Unit {0}
IsTextRuleIfGiven (Some rule) = IsTextRule rule

pub either : {A : Type 0} (P : A → Type 0) (b : Bool) (x y : A) → P x → P y → P (cond b x y)
either P true x y px py = px
either P false x y px py = py

pub value_text : (local : List ℕ) (all : List Item) → ItemsAreText all → IsTextIfGiven (value_among local all)
unfolding value_among
value_text local [] h = tt
value_text local (items.Event (Att name value) span ∷ more) h =
    either IsTextIfGiven (same_name name (record { ns = []; local = local })) (Some value) (value_among local more) h.0.1
    (value_text local more h.1)
value_text local (items.Event (Enter name) span ∷ more) h = tt
value_text local (items.Event EnterLost span ∷ more) h = tt
value_text local (items.Event TagEnd span ∷ more) h = tt
value_text local (items.Event (Chars string) span ∷ more) h = tt
value_text local (items.Event Leave span ∷ more) h = tt
value_text local (items.Fault fault ∷ more) h = tt

module _ (value : Values) (texts : (name : List ℕ) → IsTextIfGiven (value name)) where
  target_text : IsTextTargetIfGiven (target_of value)
  unfolding target_of
  target_text = by (value (codes "uri")) (value (codes "typeId")) (texts (codes "uri")) (texts (codes "typeId"))
    where
      by : (uri id : Option (List ℕ)) → IsTextIfGiven uri → IsTextIfGiven id → IsTextTargetIfGiven (first_of (option_map target.Uri uri) (option_map target.TypeId id))
      by (Some uri) id hu hi = hu
      by None (Some id) hu hi = hi
      by None None hu hi = tt

include_text : (rules : Option (List ℕ)) → IsTextIfGiven rules → IsTextRuleIfGiven (include_rule rules)
include_text None h = tt
include_text (Some text) h = h

uri_text : (resource pattern : Option (List ℕ)) (leads : Option Target) → IsTextIfGiven resource → IsTextIfGiven pattern →
    IsTextTargetIfGiven leads → IsTextRuleIfGiven (uri_rule resource pattern leads)
uri_text None None leads hr hp hl = tt
uri_text None (Some pattern) None hr hp hl = tt
uri_text None (Some pattern) (Some leads) hr hp hl = (hr, hp, hl)
uri_text (Some resource) pattern None hr hp hl = tt
uri_text (Some resource) pattern (Some leads) hr hp hl = (hr, hp, hl)

element_text : (prefix local : Option (List ℕ)) (leads : Option Target) → IsTextTargetIfGiven leads →
    IsTextRuleIfGiven (element_rule prefix local leads)
element_text None None leads hl = tt
element_text None (Some local) None hl = tt
element_text None (Some local) (Some leads) hl = hl
element_text (Some prefix) local None hl = tt
element_text (Some prefix) local (Some leads) hl = hl

namespace_text : (ns : Option (List ℕ)) (leads : Option Target) → IsTextTargetIfGiven leads → IsTextRuleIfGiven (namespace_rule ns leads)
namespace_text None leads hl = tt
namespace_text (Some ns) None hl = tt
namespace_text (Some ns) (Some leads) hl = hl

default_text : (leads : Option Target) → IsTextTargetIfGiven leads → IsTextRuleIfGiven (default_rule leads)
default_text None hl = tt
default_text (Some leads) hl = hl

transform_text : (from to : Option (List ℕ)) → IsTextIfGiven from → IsTextIfGiven to → IsTextRuleIfGiven (transform_rule from to)
transform_text None to hf ht = tt
transform_text (Some from) None hf ht = tt
transform_text (Some from) (Some to) hf ht = (hf, ht)

type_text : (id : Option (List ℕ)) (leads : Option Target) → IsTextTargetIfGiven leads → IsTextRuleIfGiven (type_rule id leads)
type_text None leads hl = tt
type_text (Some id) None hl = tt
type_text (Some id) (Some leads) hl = hl

rule_text : (local : List ℕ) (value : Values) → ((name : List ℕ) → IsTextIfGiven (value name)) → IsTextRuleIfGiven (rule_by local value)
unfolding rule_by
rule_text local value texts =
    let leads = target_text value texts in
    either IsTextRuleIfGiven (bytes_eq local (codes "include")) _ _ (include_text (value (codes "rules")) (texts (codes "rules")))
    (either IsTextRuleIfGiven (bytes_eq local (codes "uri")) _ _
    (uri_text (value (codes "resource")) (value (codes "pattern")) (target_of value) (texts (codes "resource")) (texts (codes "pattern")) leads)
    (either IsTextRuleIfGiven (bytes_eq local (codes "documentElement")) _ _
    (element_text (value (codes "prefix")) (value (codes "localName")) (target_of value) leads)
    (either IsTextRuleIfGiven (bytes_eq local (codes "namespace")) _ _ (namespace_text (value (codes "ns")) (target_of value) leads)
    (either IsTextRuleIfGiven (bytes_eq local (codes "default")) _ _ (default_text (target_of value) leads)
    (either IsTextRuleIfGiven (bytes_eq local (codes "transformURI")) _ _
    (transform_text (value (codes "fromPattern")) (value (codes "toPattern")) (texts (codes "fromPattern")) (texts (codes "toPattern")))
    (either IsTextRuleIfGiven (bytes_eq local (codes "typeId")) _ _ (type_text (value (codes "id")) (target_of value) leads) tt))))))

listed_text : (rule : Option Rule) → IsTextRuleIfGiven rule → AreTextRules (listed rule)
listed_text None h = tt
listed_text (Some rule) h = (h, tt)

entered_text : (name : Option Name) (behind : List Item) → ItemsAreText behind → AreTextRules (rule_entered name behind)
entered_text None behind h = tt
entered_text (Some name) behind h =
    either AreTextRules (bytes_eq name.ns rules_namespace) (listed (rule_by name.local (λ local. value_among local behind))) []
    (listed_text (rule_by name.local (λ local. value_among local behind))
    (rule_text name.local (λ local. value_among local behind) (λ local. value_text local behind h))) tt

pub all_append : {A : Type 0} (P : A → Type 0) (xs ys : List A) → AllByRecursion P xs → AllByRecursion P ys → AllByRecursion P (xs ++ ys)
all_append P [] ys hx hy = hy
all_append P (x ∷ xs) ys hx hy = (hx.0, all_append P xs ys hx.1 hy)

-- the rules of items that are text
pub rules_text : (depth : ℕ) (all : List Item) → ItemsAreText all → AreTextRules (rules_from depth all)
unfolding rules_from
rules_text depth [] h = tt
rules_text depth (item ∷ behind) h =
    all_append IsTextRule (rule_at depth item behind) (rules_from (depth_behind depth item) behind)
    (either AreTextRules (eqb depth 1) (rule_entered (entered item) behind) [] (entered_text (entered item) behind h.1) tt)
    (rules_text (depth_behind depth item) behind h.1)
