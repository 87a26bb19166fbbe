-- That what locating rules give is one thing at most.
use Rattle.std.proofs.Common.{◌≡◌, ◌≢◌, ℕ, ◌⊎◌, Bool, true, List, [], ◌∷◌, ◌++◌, length, Option, Some, None, Result, Ok, Err, IsUtf8, refl, sym, ap, ◌∙◌, subst, inl, inr, arith}
use Rattle.std.specs.Prelude.{Contains, is_some}
use Rattle.std.specs.List.{AllByRecursion}
use Rattle.std.proofs.lemmas.Bool.{cases_lt}
use Rattle.std.proofs.lemmas.List.{append_cancel_left}
use Rattle.std.proofs.lemmas.Option.{same_Some}
use Rattle.nx_base.specs.declared.fault.Span.{Span}
use Rattle.nx_base.specs.declared.locate_fault.LocateFault.{LocateFault}
use Rattle.nx_base.specs.declared.locate_fault.LocateFault.TheVariants.{RulesAbsent, RulesNotUtf8, BadRules, RulesLoop, BadUri, Failed, NoMemory}
use Rattle.nx_base.specs.declared.name.Name.{Name}
use Rattle.nx_events.specs.Items.{items_of_text}
use Rattle.nx_events.specs.declared.item.Event.TheVariants.{Enter}
use Rattle.nx_events.specs.declared.item.Item.{Item}
use Rattle.nx_events.specs.declared.item.Item.TheVariants as items
use Rattle.nx_host.specs.Files.{FileMap}
use Rattle.nx_host.specs.Uri.{Joins, IsBadUri, JoinsIsDecided}
use Rattle.nx_locate.specs.declared.document_element.DocumentElement.{DocumentElement}
use Rattle.nx_locate.specs.declared.rule.PlacedRule.{PlacedRule}
use Rattle.nx_locate.specs.declared.rule.Rule.{Rule}
use Rattle.nx_locate.specs.declared.rule.Rule.TheVariants.{Include, Uri, DocumentElement as OnElement, Namespace, Default, Transform, TypeId}
use Rattle.nx_locate.specs.declared.rule.Target.{Target}
use Rattle.nx_locate.specs.DocumentElements.{EntersNone, element_at, FirstElement}
use Rattle.nx_locate.specs.Leading.{Outcome, schema, nothing, bad, Question, IsElsewhere, FitsNot, Refers, Leads, by_uri, by_type, type_unknown, type_met}
use Rattle.nx_locate.specs.Leading.{GivesIf, applies, passed_over, UriGives, no_resource, by_resource, by_pattern, by_neither}
use Rattle.nx_locate.specs.Leading.{TransformGives, not_fitting, other_number, not_made, not_there, is_there, RuleGives, Gives, AllGive}
use Rattle.nx_locate.specs.Locates.{RulesGive, Locates, LocatesBy, outcome_of}
use Rattle.nx_locate.specs.Patterns.{Matches, match_end, match_byte, match_star, Fits, fit_end, fit_byte, fit_star, PatternFits, fits_name, fits_whole, fits_in_folder, folder_of, stars, made_text}
use Rattle.nx_locate.specs.Rules.{HasRules}
use Rattle.nx_locate.specs.RulesFiles.{Says, AllRules, of_file, Replaced, no_rules, own_rule, included, Chain, the_first, a_further, IsReached, IsAbsent, IsNoText, IsBad, IsLoop, HasBadInclude}
use Rattle.nx_locate.specs.Unambiguous.{RulesGiveOneOutcome, LocatedIsTheAnswer}
use Rattle.nx_locate.proofs.TreeRules.{rules_read, rules_or_none}

-- ---- the runs of a pattern

-- two lists split at one length are split alike
split_alike : (one other rest left : List ℕ) → one ++ rest ≡ other ++ left → length one ≡ length other → (one ≡ other) × (rest ≡ left)
split_alike [] [] rest left e n = (refl, e)
split_alike [] (y ∷ other) rest left e n = absurd (omega (arith, n))
split_alike (x ∷ one) [] rest left e n = absurd (omega (arith, n))
split_alike (x ∷ one) (y ∷ other) rest left e n =
    let first : x ≡ y = cc in
    let behind : one ++ rest ≡ other ++ left = cc in
    let size : length one ≡ length other = omega (arith, n) in
    let same = split_alike one other rest left behind size in
    let fronts = same.0 in
    (cc, same.1)

fits_match : {pattern text : List ℕ} {runs : List (List ℕ)} → Fits pattern text runs → Matches pattern text runs
fits_match fit_end = match_end
fits_match (fit_byte other f) = match_byte other (fits_match f)
fits_match (fit_star is_run split f shortest) = match_star is_run split (fits_match f)

fits_alike : {pattern text form bytes : List ℕ} {one other : List (List ℕ)} → Fits pattern text one → Fits form bytes other → pattern ≡ form →
    text ≡ bytes → one ≡ other
fits_alike fit_end fit_end e d = refl
fits_alike fit_end (fit_byte b g) e d = absurd cc
fits_alike fit_end (fit_star j t g least) e d = absurd cc
fits_alike (fit_byte a f) fit_end e d = absurd cc
fits_alike (fit_byte {pattern = pattern} {text = text} a f) (fit_byte {pattern = form} {text = bytes} b g) e d =
    let patterns : pattern ≡ form = cc in
    let texts : text ≡ bytes = cc in
    fits_alike f g patterns texts
fits_alike (fit_byte {b = b} a f) (fit_star j t g least) e d = let star : b ≡ 42 = cc in absurd (a star)
fits_alike (fit_star i s f shortest) fit_end e d = absurd cc
fits_alike (fit_star i s f shortest) (fit_byte {b = b} a g) e d = let star : b ≡ 42 = cc in absurd (a star)
fits_alike (fit_star {pattern = pattern} {rest = rest} {run = run} {runs = runs} i s f shortest) (fit_star {pattern = form} {rest = left} {run = way} {runs = others} j t g least) e d =
    let patterns : pattern ≡ form = cc in
    elim (cases_lt (length run) (length way)) [
      | inl less ↦ absurd (least run rest (sym d ∙ s) less (runs, subst (λ p. Matches p rest runs) patterns (fits_match f)))
      | inr more ↦ elim (cases_lt (length way) (length run)) [
        | inl less ↦ absurd (shortest way left (d ∙ t) less (others, subst (λ p. Matches p left others) (sym patterns) (fits_match g)))
        | inr most ↦
            let size : length run ≡ length way = omega (arith, more, most) in
            let same = split_alike run way rest left (sym s ∙ d ∙ t) size in
            let first : run ≡ way = same.0 in
            let behind : runs ≡ others = fits_alike f g patterns same.1 in
            ap (λ (r : List ℕ). r ∷ runs) first ∙ ap (λ (rs : List (List ℕ)). way ∷ rs) behind
      ]
    ]

fits_one : {pattern text : List ℕ} {one other : List (List ℕ)} → Fits pattern text one → Fits pattern text other → one ≡ other
fits_one f g = fits_alike f g refl refl

pattern_one : {base document pattern : List ℕ} {one other : List (List ℕ)} → PatternFits base document pattern one →
    PatternFits base document pattern other → one ≡ other
pattern_one (fits_name a f) (fits_name b g) = fits_one f g
pattern_one (fits_name a f) (fits_whole b c g) = absurd cc
pattern_one (fits_name a f) (fits_in_folder b c d g) = absurd cc
pattern_one (fits_whole a h f) (fits_name b g) = absurd cc
pattern_one (fits_whole a h f) (fits_whole b c g) = fits_one f g
pattern_one (fits_whole a h f) (fits_in_folder b c d g) = absurd cc
pattern_one (fits_in_folder a h i f) (fits_name b g) = absurd cc
pattern_one (fits_in_folder a h i f) (fits_whole b c g) = absurd cc
pattern_one {base = base} {pattern = pattern} {other = other} (fits_in_folder {rest = rest} a h i f) (fits_in_folder {rest = left} b c d g) =
    let same : left ≡ rest = append_cancel_left (folder_of base) left rest (sym d ∙ i) in
    fits_one f (subst (λ r. Fits pattern r other) same g)

-- ---- the document element

none_begins : (before after : List Item) (name : Name) (span : Span) → AllByRecursion EntersNone (before ++ items.Event (Enter name) span ∷ after) → ⊥
none_begins [] after name span h = h.0
none_begins (item ∷ before) after name span h = none_begins before after name span h.1

first_alike : (before front after behind : List Item) (name other : Name) (span place : Span) →
    before ++ items.Event (Enter name) span ∷ after ≡ front ++ items.Event (Enter other) place ∷ behind →
    AllByRecursion EntersNone before → AllByRecursion EntersNone front → (name ≡ other) × (span ≡ place)
first_alike [] [] after behind name other span place e h k = (cc, cc)
first_alike [] (item ∷ front) after behind name other span place e h k =
    let same : item ≡ items.Event (Enter name) span = cc in
    absurd (subst EntersNone same k.0)
first_alike (item ∷ before) [] after behind name other span place e h k =
    let same : item ≡ items.Event (Enter other) place = cc in
    absurd (subst EntersNone same h.0)
first_alike (x ∷ before) (y ∷ front) after behind name other span place e h k =
    let others : before ++ items.Event (Enter name) span ∷ after ≡ front ++ items.Event (Enter other) place ∷ behind = cc in
    first_alike before front after behind name other span place others h.1 k.1

element_one : (text : List ℕ) (all : List Item) (one other : Option DocumentElement) → FirstElement text all one → FirstElement text all other →
    one ≡ other
element_one text all None None h k = refl
element_one text all None (Some other) h k =
    absurd (none_begins k.before k.after k.name k.span (subst (λ (l : List Item). AllByRecursion EntersNone l) k.items_are h))
element_one text all (Some one) None h k =
    absurd (none_begins h.before h.after h.name h.span (subst (λ (l : List Item). AllByRecursion EntersNone l) h.items_are k))
element_one text all (Some one) (Some other) h k =
    let same = first_alike h.before k.before h.after k.after h.name k.name h.span k.span (sym h.items_are ∙ k.items_are) h.none_before k.none_before in
    let names : h.name ≡ k.name = same.0 in
    let spans : h.span ≡ k.span = same.1 in
    let alike : element_at text h.name h.span.from ≡ element_at text k.name k.span.from =
    ap (λ (n : Name). element_at text n h.span.from) names ∙ ap (λ (s : Span). element_at text k.name s.from) spans in
    ap Some (h.element_is ∙ alike ∙ sym k.element_is)

module _ (decided : JoinsIsDecided) where
  -- ---- where a target leads

  refers_one : (base text : List ℕ) (one other : Outcome) → Refers base text one → Refers base text other → one ≡ other
  refers_one base text (schema uri) (schema place) h k = ap schema (decided.1 base text uri place h k)
  refers_one base text (schema uri) nothing h k = absurd k
  refers_one base text (schema uri) (bad wrong) h k = absurd (decided.0 base text uri h k.1)
  refers_one base text nothing other h k = absurd h
  refers_one base text (bad wrong) (schema uri) h k = absurd (decided.0 base text uri k h.1)
  refers_one base text (bad wrong) nothing h k = absurd k
  refers_one base text (bad wrong) (bad word) h k = ap bad (h.0 ∙ sym k.0)

  leads_one : {rules : List PlacedRule} {met : List (List ℕ)} {base : List ℕ} {leads : Target} {one other : Outcome} →
      Leads rules met base leads one → Leads rules met base leads other → one ≡ other
  leads_one {one = one} {other = other} (by_uri {base = base} {text = text} h) (by_uri k) = refers_one base text one other h k
  leads_one {rules = rules} {other = outcome} (by_type {met = met} {id = id} {other = other} {leads = leads} a e h) (by_type {other = place} {leads = goes} b d k) =
      let same : (place, goes) ≡ (other, leads) = same_Some (place, goes) (other, leads) (sym d ∙ e) in
      let P : List ℕ × Target → Type 0 = λ x. Leads rules (met ++ id ∷ []) x.0 x.1 outcome in
      leads_one h (subst P same k)
  leads_one (by_type a e h) (type_unknown b d) = absurd cc
  leads_one (by_type a e h) (type_met b) = absurd (a b)
  leads_one (type_unknown a e) (by_type b d k) = absurd cc
  leads_one (type_unknown a e) (type_unknown b d) = refl
  leads_one (type_unknown a e) (type_met b) = refl
  leads_one (type_met a) (by_type b d k) = absurd (b a)
  leads_one (type_met a) (type_unknown b d) = refl
  leads_one (type_met a) (type_met b) = refl

  -- ---- what a rule gives

  if_one : {rules : List PlacedRule} {base : List ℕ} {leads : Target} {here : Bool} {one other : Outcome} →
      GivesIf rules base leads here one → GivesIf rules base leads here other → one ≡ other
  if_one (applies h) (applies k) = leads_one h k
  if_one passed_over passed_over = refl

  -- a `resource` that is there is another URI than the document's
  record IsOther (base document text : List ℕ) : Type 0 where
    uri : List ℕ
    joined : Joins base text uri
    other : uri ≢ document

  is_other : (base document text : List ℕ) (resource : Option (List ℕ)) → resource ≡ Some text → IsElsewhere base document resource →
      IsOther base document text
  is_other base document text resource e h =
      let there : IsElsewhere base document (Some text) = subst (λ (r : Option (List ℕ)). IsElsewhere base document r) e h in
      record { uri = there.0; joined = there.1; other = there.2 }

  not_elsewhere : (base document text : List ℕ) (resource : Option (List ℕ)) → resource ≡ Some text → IsElsewhere base document resource →
      Joins base text document → ⊥
  not_elsewhere base document text resource e h joined =
      let o = is_other base document text resource e h in
      o.other (decided.1 base text o.uri document o.joined joined)

  not_bad : (base document text : List ℕ) (resource : Option (List ℕ)) → resource ≡ Some text → IsElsewhere base document resource →
      IsBadUri base text → ⊥
  not_bad base document text resource e h wrong =
      let o = is_other base document text resource e h in
      decided.0 base text o.uri o.joined wrong

  bad_joins : (base document text word : List ℕ) (resource : Option (List ℕ)) → resource ≡ Some text → resource ≡ Some word → IsBadUri base text →
      Joins base word document → ⊥
  bad_joins base document text word resource e d wrong joined =
      let same : word ≡ text = same_Some word text (sym d ∙ e) in
      decided.0 base text document (subst (λ w. Joins base w document) same joined) wrong

  fits_anyway : (base document text : List ℕ) (pattern : Option (List ℕ)) (runs : List (List ℕ)) → pattern ≡ Some text → FitsNot base document pattern →
      PatternFits base document text runs → ⊥
  fits_anyway base document text pattern runs e none fits =
      let never : FitsNot base document (Some text) = subst (λ (p : Option (List ℕ)). FitsNot base document p) e none in
      never runs fits

  uri_one : {rules : List PlacedRule} {document base : List ℕ} {resource pattern : Option (List ℕ)} {leads : Target} {one other : Outcome} →
      UriGives rules document base resource pattern leads one → UriGives rules document base resource pattern leads other → one ≡ other
  uri_one (no_resource {text = text} e h) (no_resource {text = word} d k) = ap bad (same_Some text word (sym e ∙ d))
  uri_one {document = document} {base = base} {resource = resource} (no_resource {text = text} e h) (by_resource {text = word} d j l) =
      absurd (bad_joins base document text word resource e d h j)
  uri_one {document = document} {base = base} {resource = resource} (no_resource {text = text} e h) (by_pattern away p f l) =
      absurd (not_bad base document text resource e away h)
  uri_one {document = document} {base = base} {resource = resource} (no_resource {text = text} e h) (by_neither away none) =
      absurd (not_bad base document text resource e away h)
  uri_one {document = document} {base = base} {resource = resource} (by_resource {text = word} d j l) (no_resource {text = text} e h) =
      absurd (bad_joins base document text word resource e d h j)
  uri_one (by_resource d j l) (by_resource e i k) = leads_one l k
  uri_one {document = document} {base = base} {resource = resource} (by_resource {text = text} e j l) (by_pattern away p f k) =
      absurd (not_elsewhere base document text resource e away j)
  uri_one {document = document} {base = base} {resource = resource} (by_resource {text = text} e j l) (by_neither away none) =
      absurd (not_elsewhere base document text resource e away j)
  uri_one {document = document} {base = base} {resource = resource} (by_pattern away p f k) (no_resource {text = text} e h) =
      absurd (not_bad base document text resource e away h)
  uri_one {document = document} {base = base} {resource = resource} (by_pattern away p f k) (by_resource {text = text} e j l) =
      absurd (not_elsewhere base document text resource e away j)
  uri_one (by_pattern away p f l) (by_pattern aside q g k) = leads_one l k
  uri_one {document = document} {base = base} {pattern = pattern} (by_pattern {text = text} {runs = runs} away p f l) (by_neither aside none) =
      absurd (fits_anyway base document text pattern runs p none f)
  uri_one {document = document} {base = base} {resource = resource} (by_neither away none) (no_resource {text = text} e h) =
      absurd (not_bad base document text resource e away h)
  uri_one {document = document} {base = base} {resource = resource} (by_neither away none) (by_resource {text = text} e j l) =
      absurd (not_elsewhere base document text resource e away j)
  uri_one {document = document} {base = base} {pattern = pattern} (by_neither away none) (by_pattern {text = text} {runs = runs} aside p f l) =
      absurd (fits_anyway base document text pattern runs p none f)
  uri_one (by_neither away none) (by_neither aside never) = refl

  module _ (files : FileMap) where
    -- a URI that is made of the document's, and is there, is what the rule gives
    made_one : {document base from to uri : List ℕ} {runs : List (List ℕ)} {other : Outcome} → PatternFits base document from runs → stars to ≡ length runs →
        Joins base (made_text base document to runs) uri → is_some (files uri) ≡ true → TransformGives files document base from to other →
        schema uri ≡ other
    made_one {runs = runs} f n j y (not_fitting none) = absurd (none runs f)
    made_one {to = to} f n j y (other_number g ne) =
        let same = pattern_one f g in
        absurd (ne (n ∙ ap length same))
    made_one {document = document} {base = base} {to = to} {uri = uri} f n j y (not_made {runs = others} g m wrong) =
        let same = pattern_one f g in
        absurd (decided.0 base (made_text base document to others) uri (subst (λ rs. Joins base (made_text base document to rs) uri) same j) wrong)
    made_one {document = document} {base = base} {to = to} {uri = uri} f n j y (not_there {runs = others} {uri = place} g m i absent) =
        let same = pattern_one f g in
        let there : uri ≡ place = decided.1 base (made_text base document to others) uri place (subst (λ rs. Joins base (made_text base document to rs) uri) same j) i in
        absurd cc
    made_one {document = document} {base = base} {to = to} {uri = uri} f n j y (is_there {runs = others} {uri = place} g m i found) =
        let same = pattern_one f g in
        ap schema (decided.1 base (made_text base document to others) uri place (subst (λ rs. Joins base (made_text base document to rs) uri) same j) i)

    none_one : {document base from to : List ℕ} {other : Outcome} → TransformGives files document base from to nothing →
        TransformGives files document base from to other → nothing ≡ other
    none_one h (not_fitting none) = refl
    none_one h (other_number g ne) = refl
    none_one h (not_made g m wrong) = refl
    none_one h (not_there g m i absent) = refl
    none_one h (is_there g m i found) = sym (made_one g m i found h)

    transform_one : {document base from to : List ℕ} {one other : Outcome} → TransformGives files document base from to one →
        TransformGives files document base from to other → one ≡ other
    transform_one (not_fitting none) k = none_one (not_fitting none) k
    transform_one (other_number g ne) k = none_one (other_number g ne) k
    transform_one (not_made g m wrong) k = none_one (not_made g m wrong) k
    transform_one (not_there g m i absent) k = none_one (not_there g m i absent) k
    transform_one (is_there g m i found) k = made_one g m i found k

    rule_one : (asked : Question) (base : List ℕ) (rule : Rule) (one other : Outcome) → RuleGives files asked base rule one →
        RuleGives files asked base rule other → one ≡ other
    rule_one asked base (Include text) one other h k = h ∙ sym k
    rule_one asked base (Uri resource pattern leads) one other h k = uri_one h k
    rule_one asked base (OnElement prefix local leads) one other h k = if_one h k
    rule_one asked base (Namespace ns leads) one other h k = if_one h k
    rule_one asked base (Default leads) one other h k = if_one h k
    rule_one asked base (Transform from to) one other h k = transform_one h k
    rule_one asked base (TypeId id leads) one other h k = h ∙ sym k

    -- ---- what all rules give

    abbrev GivesNone : Question → List PlacedRule → Type 0
    GivesNone asked rules = AllByRecursion (λ (one : PlacedRule). Gives files asked one nothing) rules

    gives_some : (asked : Question) (before after : List PlacedRule) (rule : PlacedRule) (outcome : Outcome) → GivesNone asked (before ++ rule ∷ after) →
        Gives files asked rule outcome → nothing ≡ outcome
    gives_some asked [] after rule outcome h k = rule_one asked rule.base rule.rule nothing outcome h.0 k
    gives_some asked (x ∷ before) after rule outcome h k = gives_some asked before after rule outcome h.1 k

    first_one : (asked : Question) (before front after behind : List PlacedRule) (rule other : PlacedRule) (one last : Outcome) →
        before ++ rule ∷ after ≡ front ++ other ∷ behind → GivesNone asked before → GivesNone asked front → Gives files asked rule one →
        Gives files asked other last → nothing ≢ one → nothing ≢ last → one ≡ last
    first_one asked [] [] after behind rule other one last e h k g i n m =
        let same : other ≡ rule = cc in
        rule_one asked rule.base rule.rule one last g (subst (λ (r : PlacedRule). Gives files asked r last) same i)
    first_one asked [] (y ∷ front) after behind rule other one last e h k g i n m =
        let same : y ≡ rule = cc in
        absurd (n (rule_one asked rule.base rule.rule nothing one (subst (λ (r : PlacedRule). Gives files asked r nothing) same k.0) g))
    first_one asked (x ∷ before) [] after behind rule other one last e h k g i n m =
        let same : x ≡ other = cc in
        absurd (m (rule_one asked other.base other.rule nothing last (subst (λ (r : PlacedRule). Gives files asked r nothing) same h.0) i))
    first_one asked (x ∷ before) (y ∷ front) after behind rule other one last e h k g i n m =
        let others : before ++ rule ∷ after ≡ front ++ other ∷ behind = cc in
        first_one asked before front after behind rule other one last others h.1 k.1 g i n m

    not_schema : (uri : List ℕ) → nothing ≢ schema uri
    not_schema uri e = cc

    not_wrong : (text : List ℕ) → nothing ≢ bad text
    not_wrong text e = cc

    all_one : (asked : Question) (one other : Outcome) → AllGive files asked one → AllGive files asked other → one ≡ other
    all_one asked (schema uri) (schema place) h k =
        first_one asked h.before k.before h.after k.after h.rule k.rule (schema uri) (schema place) (sym h.rules_are ∙ k.rules_are) h.nothing_before k.nothing_before h.gives k.gives (not_schema uri) (not_schema place)
    all_one asked (schema uri) (bad word) h k =
        first_one asked h.before k.before h.after k.after h.rule k.rule (schema uri) (bad word) (sym h.rules_are ∙ k.rules_are) h.nothing_before k.nothing_before h.gives k.gives (not_schema uri) (not_wrong word)
    all_one asked (bad text) (schema place) h k =
        first_one asked h.before k.before h.after k.after h.rule k.rule (bad text) (schema place) (sym h.rules_are ∙ k.rules_are) h.nothing_before k.nothing_before h.gives k.gives (not_wrong text) (not_schema place)
    all_one asked (bad text) (bad word) h k =
        first_one asked h.before k.before h.after k.after h.rule k.rule (bad text) (bad word) (sym h.rules_are ∙ k.rules_are) h.nothing_before k.nothing_before h.gives k.gives (not_wrong text) (not_wrong word)
    all_one asked nothing nothing h k = refl
    all_one asked nothing (schema place) h k = gives_some asked k.before k.after k.rule (schema place) (subst (λ (rs : List PlacedRule). GivesNone asked rs) k.rules_are h) k.gives
    all_one asked nothing (bad word) h k = gives_some asked k.before k.after k.rule (bad word) (subst (λ (rs : List PlacedRule). GivesNone asked rs) k.rules_are h) k.gives
    all_one asked (schema uri) nothing h k = sym (gives_some asked h.before h.after h.rule (schema uri) (subst (λ (rs : List PlacedRule). GivesNone asked rs) h.rules_are k) h.gives)
    all_one asked (bad text) nothing h k = sym (gives_some asked h.before h.after h.rule (bad text) (subst (λ (rs : List PlacedRule). GivesNone asked rs) h.rules_are k) h.gives)

    -- ---- the list of all rules

    says_one : {uri : List ℕ} {one other : List Rule} → Says files uri one → Says files uri other → one ≡ other
    says_one {one = one} {other = other} h k =
        let same : k.bytes ≡ h.bytes = same_Some k.bytes h.bytes (sym k.there ∙ h.there) in
        rules_read h.bytes one h.has ∙ sym (rules_read h.bytes other (subst (λ t. HasRules t other) same k.has))

    mutual
      rules_one : {chain : List (List ℕ)} {uri : List ℕ} {one other : List PlacedRule} → AllRules files chain uri one → AllRules files chain uri other →
          one ≡ other
      rules_one {chain = chain} {uri = uri} {other = other} (of_file rules h r) (of_file others k s) =
          replaced_one r (subst (λ (rs : List Rule). Replaced files (uri ∷ chain) uri rs other) (says_one k h) s)

      replaced_one : {chain : List (List ℕ)} {base : List ℕ} {rules : List Rule} {one other : List PlacedRule} → Replaced files chain base rules one →
          Replaced files chain base rules other → one ≡ other
      replaced_one no_rules no_rules = refl
      replaced_one (own_rule {base = base} {rule = rule} none r) (own_rule free s) =
          ap (λ (all : List PlacedRule). (record { base = base; rule = rule }) ∷ all) (replaced_one r s)
      replaced_one (own_rule none r) (included uri j fresh a s e) = absurd cc
      replaced_one (included uri j fresh a s e) (own_rule none r) = absurd cc
      replaced_one {chain = chain} (included {base = base} {text = text} {inner = inner} {rest = rest} uri j fresh a r e) (included {inner = within} {rest = left} place i new b s d) =
          let same : place ≡ uri = decided.1 base text place uri i j in
          let first : inner ≡ within = rules_one a (subst (λ u. AllRules files chain u within) same b) in
          let others : rest ≡ left = replaced_one r s in
          e ∙ ap (λ (l : List PlacedRule). l ++ rest) first ∙ ap (λ (l : List PlacedRule). within ++ l) others ∙ sym d

    -- ---- files that are reached

    -- an include leads to a file that isn't in the chain, and whose rules are listed
    record IsFollowed (chain : List (List ℕ)) (base text : List ℕ) : Type 0 where
      uri : List ℕ
      joined : Joins base text uri
      fresh : Contains chain uri → ⊥
      inner : List PlacedRule
      all : AllRules files chain uri inner

    followed_in : {chain : List (List ℕ)} {base text : List ℕ} {all : List PlacedRule} (front behind : List Rule) →
        Replaced files chain base (front ++ Include text ∷ behind) all → IsFollowed chain base text
    followed_in [] behind (own_rule none r) = absurd cc
    followed_in [] behind (included {inner = inner} uri j fresh a r e) = record { uri = uri; joined = j; fresh = fresh; inner = inner; all = a }
    followed_in (x ∷ front) behind (own_rule none r) = followed_in front behind r
    followed_in (x ∷ front) behind (included uri j fresh a r e) = followed_in front behind r

    followed : {outer : List (List ℕ)} {uri text : List ℕ} {inner : List PlacedRule} (front behind : List Rule) → AllRules files outer uri inner →
        Says files uri (front ++ Include text ∷ behind) → IsFollowed (uri ∷ outer) uri text
    followed {outer = outer} {uri = uri} {inner = inner} front behind (of_file rules h r) k =
        followed_in front behind (subst (λ (rs : List Rule). Replaced files (uri ∷ outer) uri rs inner) (says_one h k) r)

    -- the rules of the last file of a chain are listed
    abbrev IsListed : List (List ℕ) → Type 0
    IsListed [] = Unit {0}
    IsListed (uri ∷ outer) = (inner : List PlacedRule) × AllRules files outer uri inner

    module _ (start : List ℕ) (all : List PlacedRule) (are : AllRules files [] start all) where
      listed_along : {uris : List (List ℕ)} → Chain files start uris → IsListed uris
      listed_along the_first = (all, are)
      listed_along (a_further {uri = uri} {other = other} {text = text} {outer = outer} front behind c h j fresh) =
          let there = listed_along c in
          let f = followed front behind there.1 h in
          let same : f.uri ≡ other = decided.1 uri text f.uri other f.joined j in
          (f.inner, subst (λ u. AllRules files (uri ∷ outer) u f.inner) same f.all)

      said : {outer : List (List ℕ)} {uri : List ℕ} {inner : List PlacedRule} → AllRules files outer uri inner → (rules : List Rule) × Says files uri rules
      said (of_file rules h r) = (rules, h)

      reached_says : {uri : List ℕ} → IsReached files start uri → (rules : List Rule) × Says files uri rules
      reached_says h = said (listed_along h.chain).1

      none_absent : (uri : List ℕ) → IsAbsent files start uri → ⊥
      none_absent uri h =
          let s = reached_says h.0 in
          let there = s.1.there in
          let none = h.1 in
          absurd cc

      all_texts : (uri : List ℕ) (at : ℕ) → IsNoText files start uri at → ⊥
      all_texts uri at h =
          let s = reached_says h.reached in
          let same : s.1.bytes ≡ h.bytes = same_Some s.1.bytes h.bytes (sym s.1.there ∙ h.there) in
          h.no_text (subst IsUtf8 same s.1.is_text)

      none_bad : (uri : List ℕ) → IsBad files start uri → ⊥
      none_bad uri h =
          let s = reached_says h.reached in
          let same : s.1.bytes ≡ h.bytes = same_Some s.1.bytes h.bytes (sym s.1.there ∙ h.there) in
          rules_or_none h.bytes s.0 (subst (λ t. HasRules t s.0) same s.1.has) h.has_no_rules

      no_loop : (uri : List ℕ) → IsLoop files start uri → ⊥
      no_loop uri h =
          let f = followed h.includes.front h.includes.behind (listed_along h.includes.chain).1 h.includes.says in
          let same : uri ≡ f.uri = decided.1 h.from h.text uri f.uri h.joined f.joined in
          f.fresh (subst (λ u. Contains (h.from ∷ h.outer) u) same h.leads_back)

      no_bad_include : (text : List ℕ) → HasBadInclude files start text → ⊥
      no_bad_include text h =
          let f = followed h.includes.front h.includes.behind (listed_along h.includes.chain).1 h.includes.says in
          decided.0 h.from text f.uri f.joined h.bad

    -- ---- all together

    gives_one : (rules document text : List ℕ) (one other : Outcome) → RulesGive files rules document text one → RulesGive files rules document text other →
        one ≡ other
    gives_one rules document text one other h k =
        let all : k.all ≡ h.all = rules_one k.are_all h.are_all in
        let element : k.element ≡ h.element = element_one text (items_of_text text) k.element h.element k.has_element h.has_element in
        let P : List PlacedRule → Type 0 = λ a. AllGive files (record { document = document; element = k.element; rules = a }) other in
        let Q : Option DocumentElement → Type 0 = λ e. AllGive files (record { document = document; element = e; rules = h.all }) other in
        all_one (record { document = document; element = h.element; rules = h.all }) one other h.give (subst Q element (subst P all k.give))

    same_found : (found other : Option (List ℕ)) → outcome_of found ≡ outcome_of other → other ≡ found
    same_found None None e = refl
    same_found None (Some uri) e = absurd cc
    same_found (Some uri) None e = absurd cc
    same_found (Some uri) (Some place) e = cc

    not_found : (found : Option (List ℕ)) (text : List ℕ) → outcome_of found ≡ bad text → ⊥
    not_found None text e = cc
    not_found (Some uri) text e = cc

    by_rules : (rules document text : List ℕ) (before after earlier later : ℕ) (found : Option (List ℕ)) (answer : Result (Option (List ℕ)) LocateFault) →
        LocatesBy (Some files) rules document text before after (Ok found) → LocatesBy (Some files) rules document text earlier later answer →
        (answer ≡ Ok found) ⊎ (answer ≡ Err Failed) ⊎ (answer ≡ Err NoMemory)
    by_rules rules document text before after earlier later found (Ok other) h k =
        inl (ap Ok (same_found found other (gives_one rules document text (outcome_of found) (outcome_of other) (h.1 files refl) (k.1 files refl))))
    by_rules rules document text before after earlier later found (Err (RulesAbsent uri)) h k =
        let g = h.1 files refl in absurd (none_absent rules g.all g.are_all uri (k.1 files refl))
    by_rules rules document text before after earlier later found (Err (RulesNotUtf8 uri at)) h k =
        let g = h.1 files refl in absurd (all_texts rules g.all g.are_all uri at (k.1 files refl))
    by_rules rules document text before after earlier later found (Err (BadRules uri)) h k =
        let g = h.1 files refl in absurd (none_bad rules g.all g.are_all uri (k.1 files refl))
    by_rules rules document text before after earlier later found (Err (RulesLoop uri)) h k =
        let g = h.1 files refl in absurd (no_loop rules g.all g.are_all uri (k.1 files refl))
    by_rules rules document text before after earlier later found (Err (BadUri wrong)) h k =
        let g = h.1 files refl in
        elim (k.1 files refl) [
          | inl include ↦ absurd (no_bad_include rules g.all g.are_all wrong include)
          | inr met ↦ absurd (not_found found wrong (gives_one rules document text (outcome_of found) (bad wrong) g met))
        ]
    by_rules rules document text before after earlier later found (Err Failed) h k = inr (inl refl)
    by_rules rules document text before after earlier later found (Err NoMemory) h k = inr (inr refl)

    answer_one : (rules : Option (List ℕ)) (document text : List ℕ) (before after earlier later : ℕ) (found : Option (List ℕ))
        (answer : Result (Option (List ℕ)) LocateFault) → Locates (Some files) rules document text before after (Ok found) →
        Locates (Some files) rules document text earlier later answer → (answer ≡ Ok found) ⊎ (answer ≡ Err Failed) ⊎ (answer ≡ Err NoMemory)
    answer_one (Some rules) document text before after earlier later found answer h k = by_rules rules document text before after earlier later found answer h k
    answer_one None document text before after earlier later None (Ok None) h k = inl refl
    answer_one None document text before after earlier later (Some uri) answer h k = absurd h
    answer_one None document text before after earlier later None (Ok (Some uri)) h k = absurd k
    answer_one None document text before after earlier later None (Err fault) h k = absurd k

pub rules_give_one_outcome : JoinsIsDecided → RulesGiveOneOutcome
rules_give_one_outcome decided files = gives_one decided files

pub located_is_the_answer : JoinsIsDecided → LocatedIsTheAnswer
located_is_the_answer decided files = answer_one decided files
