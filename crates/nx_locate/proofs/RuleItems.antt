-- Rules among the items of a text.
use Rattle.std.proofs.Common.{◌≡◌, refl, sym, ap, ◌∙◌, ℕ, ◌+◌, ◌≤◌, true, false, List, [], ◌∷◌, ◌++◌, length, Some, None, arith, append_assoc, append-nil}
use Rattle.nx_base.specs.Names.{same_name}
use Rattle.nx_base.specs.declared.name.Name.{Name}
use Rattle.nx_events.specs.declared.item.Event.TheVariants.{Enter, EnterLost, Att, TagEnd, Chars, Leave}
use Rattle.nx_events.specs.declared.item.Item.{Item}
use Rattle.nx_events.specs.declared.item.Item.TheVariants as items
use Rattle.nx_locate.specs.declared.rule.Rule.{Rule}
use Rattle.nx_locate.specs.RulesRead.{attribute_in, value_or, value_among, rule_at, depth_behind, rules_from}

none_left : {A : Type 0} (xs : List A) → length xs ≡ 0 → xs ≡ []
none_left [] h = refl
none_left (x ∷ xs) h = absurd (omega (arith, h))

-- ---- the values of a tag

module _ (local : List ℕ) (tag rest : List Item) (inv : value_among local tag ≡ value_among local rest) where
  here_is : (item : Item) (behind : List Item) → rest ≡ item ∷ behind →
      value_among local tag ≡ value_or local (attribute_in item) (value_among local behind)
  unfolding value_among
  here_is item behind is = inv ∙ ap (value_among local) is

  pub value_here : (item : Item) (behind : List Item) (name : Name) (value : List ℕ) → rest ≡ item ∷ behind →
      attribute_in item ≡ Some (name, value) → same_name name (record { ns = []; local = local }) ≡ true →
      Some value ≡ value_among local tag
  value_here item behind name value is at same = sym (here_is item behind is ∙ rw (at, same) refl)

  pub value_stops : (item : Item) (behind : List Item) → rest ≡ item ∷ behind → attribute_in item ≡ None → None ≡ value_among local tag
  value_stops item behind is at = sym (here_is item behind is ∙ rw at refl)

  pub value_further : (item : Item) (behind : List Item) (name : Name) (value : List ℕ) → rest ≡ item ∷ behind →
      attribute_in item ≡ Some (name, value) → same_name name (record { ns = []; local = local }) ≡ false →
      value_among local tag ≡ value_among local behind
  value_further item behind name value is at other = here_is item behind is ∙ rw (at, other) refl

  pub value_ends : length rest ≡ 0 → None ≡ value_among local tag
  unfolding value_among
  value_ends none = sym (inv ∙ ap (value_among local) (none_left rest none))

-- ---- all rules

pub depth_grows : (depth : ℕ) (item : Item) → depth_behind depth item ≤ depth + 1
depth_grows depth (items.Event (Enter name) span) = omega arith
depth_grows depth (items.Event EnterLost span) = omega arith
depth_grows depth (items.Event (Att name value) span) = omega arith
depth_grows depth (items.Event TagEnd span) = omega arith
depth_grows depth (items.Event (Chars string) span) = omega arith
depth_grows depth (items.Event Leave span) = omega arith
depth_grows depth (items.Fault fault) = omega arith

pub rules_further : (depth next : ℕ) (old new all : List Rule) (rest behind : List Item) (item : Item) →
    old ++ rules_from depth rest ≡ all → rest ≡ item ∷ behind → new ≡ old ++ rule_at depth item behind →
    next ≡ depth_behind depth item → new ++ rules_from next behind ≡ all
unfolding rules_from
rules_further depth next old new all rest behind item inv is pushed deep =
    rw (pushed, deep) (append_assoc old (rule_at depth item behind) (rules_from (depth_behind depth item) behind)
    ∙ ap (λ rs. old ++ rs) (sym (ap (rules_from depth) is)) ∙ inv)

pub rules_end : (depth : ℕ) (rules all : List Rule) (rest : List Item) → rules ++ rules_from depth rest ≡ all → length rest ≡ 0 →
    rules ≡ all
unfolding rules_from
rules_end depth rules all rest inv none =
    sym (append-nil rules) ∙ ap (λ rs. rules ++ rs) (sym (ap (rules_from depth) (none_left rest none))) ∙ inv
