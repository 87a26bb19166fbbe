-- What rules give, one by one and all.
use Rattle.std.proofs.Common.{◌≡◌, refl, sym, ap, ◌∙◌, subst, ℕ, Bool, true, false, cond, List, [], ◌∷◌, ◌++◌, length, Option, Some, None, option_map, is_some, Result, Ok, Err, arith, append_assoc, append-nil, IsUtf8}
use Rattle.std.specs.List.{AllByRecursion}
use Rattle.std.specs.Str.{bytes_eq}
use Rattle.nx_base.specs.declared.locate_fault.LocateFault.{LocateFault}
use Rattle.nx_base.specs.declared.locate_fault.LocateFault.TheVariants.{RulesAbsent, RulesNotUtf8, BadRules, RulesLoop, BadUri, Failed, NoMemory}
use Rattle.nx_host.specs.Files.{FileMap}
use Rattle.nx_locate.specs.declared.rule.PlacedRule.{PlacedRule}
use Rattle.nx_locate.specs.declared.rule.Rule.{Rule}
use Rattle.nx_locate.specs.declared.rule.Rule.TheVariants.{Include, Uri, DocumentElement as OnElement, Namespace, Default, Transform, TypeId}
use Rattle.nx_locate.specs.declared.rule.Target.{Target}
use Rattle.nx_locate.specs.Answering.{Answers, GivesTo, AreTextPlaced, IsTextPlaced, MakesUri, ThereAnswers, IsMade, ResourceAnswers, PatternAnswers}
use Rattle.nx_locate.specs.Making.{HasPatternRuns}
use Rattle.nx_locate.specs.Leading.{Outcome, schema, nothing, bad, Question, Gives, FirstGives, AllGive, Leads, leads_of_type, leads_if_type, Refers, TransformGives, not_there, is_there, UriGives, no_resource, by_resource, by_pattern, by_neither, IsElsewhere}
use Rattle.nx_locate.specs.Locates.{IfTold, outcome_of}
use Rattle.nx_locate.specs.Rules.{first_of}
use Rattle.nx_locate.specs.RulesRead.{IsTextTarget, IsTextRule}

-- ---- answers

-- what stands for one outcome stands for another that follows from it
pub answers_with : (P Q : Outcome → Type 0) (result : Result (Option (List ℕ)) LocateFault) → ((outcome : Outcome) → P outcome → Q outcome) →
    Answers P result → Answers Q result
answers_with P Q (Ok found) f h = (h.0, f (outcome_of found) h.1)
answers_with P Q (Err (BadUri text)) f h = (h.0, f (bad text) h.1)
answers_with P Q (Err NoMemory) f h = tt
answers_with P Q (Err (RulesAbsent uri)) f h = absurd h
answers_with P Q (Err (RulesNotUtf8 uri at)) f h = absurd h
answers_with P Q (Err (BadRules uri)) f h = absurd h
answers_with P Q (Err (RulesLoop uri)) f h = absurd h
answers_with P Q (Err Failed) f h = absurd h

-- an answer without a look at files serves with them
pub answers_to : (told : Option FileMap) (P : Outcome → Type 0) (Q : FileMap → Outcome → Type 0) (count : ℕ)
    (result : Result (Option (List ℕ)) LocateFault) → ((files : FileMap) (outcome : Outcome) → P outcome → Q files outcome) →
    Answers P result → GivesTo told Q count count result
answers_to told P Q count (Ok found) f h = (h.0, λ files is. f files (outcome_of found) h.1, refl)
answers_to told P Q count (Err (BadUri text)) f h = (h.0, λ files is. f files (bad text) h.1, refl)
answers_to told P Q count (Err NoMemory) f h = refl
answers_to told P Q count (Err (RulesAbsent uri)) f h = absurd h
answers_to told P Q count (Err (RulesNotUtf8 uri at)) f h = absurd h
answers_to told P Q count (Err (BadRules uri)) f h = absurd h
answers_to told P Q count (Err (RulesLoop uri)) f h = absurd h
answers_to told P Q count (Err Failed) f h = absurd h

-- a URI that was made of a reference
pub refers_to : (base text : List ℕ) (result : Result (List ℕ) LocateFault) (fault : LocateFault) → IsUtf8 text → MakesUri base text (Err fault) →
    Answers (Refers base text) (Err fault)
refers_to base text result (BadUri wrong) is_text h = (subst (λ t. IsUtf8 t) (sym h.0) is_text, h)
refers_to base text result NoMemory is_text h = tt
refers_to base text result (RulesAbsent uri) is_text h = absurd h
refers_to base text result (RulesNotUtf8 uri at) is_text h = absurd h
refers_to base text result (BadRules uri) is_text h = absurd h
refers_to base text result (RulesLoop uri) is_text h = absurd h
refers_to base text result Failed is_text h = absurd h

-- ---- types

module _ (id : List ℕ) (rules rest : List PlacedRule) (inv : leads_of_type id rules ≡ leads_of_type id rest) where
  pub lead_here : (placed : PlacedRule) (more : List PlacedRule) (leads : Target) → rest ≡ placed ∷ more →
      leads_if_type id placed.rule ≡ Some leads → leads_of_type id rules ≡ Some (placed.base, leads)
  unfolding leads_of_type
  lead_here placed more leads is here = inv ∙ ap (leads_of_type id) is ∙ rw here refl

  pub lead_further : (placed : PlacedRule) (more : List PlacedRule) → rest ≡ placed ∷ more → leads_if_type id placed.rule ≡ None →
      leads_of_type id rules ≡ leads_of_type id more
  unfolding leads_of_type
  lead_further placed more is here = inv ∙ ap (leads_of_type id) is ∙ rw here refl

  pub no_lead : length rest ≡ 0 → leads_of_type id rules ≡ None
  unfolding leads_of_type
  no_lead none = by rest none inv
    where
      by : (xs : List PlacedRule) → length xs ≡ 0 → leads_of_type id rules ≡ leads_of_type id xs → leads_of_type id rules ≡ None
      by [] e h = h
      by (x ∷ xs) e h = absurd (omega (arith, e))

rule_leads_text : (id : List ℕ) (rule : Rule) (leads : Target) → IsTextRule rule → leads_if_type id rule ≡ Some leads → IsTextTarget leads
unfolding leads_if_type
rule_leads_text id (TypeId other found) leads text h = by (bytes_eq other id) h
  where
    by : (b : Bool) → cond b (Some found) None ≡ Some leads → IsTextTarget leads
    by true e = let same : found ≡ leads = cc in subst IsTextTarget same text
    by false e = let never : ⊥ = cc in absurd never
rule_leads_text id (Include other) leads text h = let never : ⊥ = cc in absurd never
rule_leads_text id (Uri resource pattern other) leads text h = let never : ⊥ = cc in absurd never
rule_leads_text id (OnElement prefix local other) leads text h = let never : ⊥ = cc in absurd never
rule_leads_text id (Namespace ns other) leads text h = let never : ⊥ = cc in absurd never
rule_leads_text id (Default other) leads text h = let never : ⊥ = cc in absurd never
rule_leads_text id (Transform from to) leads text h = let never : ⊥ = cc in absurd never

-- where a type leads is text
pub lead_texts : (id : List ℕ) (rules : List PlacedRule) (base : List ℕ) (leads : Target) → AreTextPlaced rules →
    leads_of_type id rules ≡ Some (base, leads) → IsUtf8 base × IsTextTarget leads
unfolding leads_of_type
lead_texts id [] base leads texts h = let never : ⊥ = cc in absurd never
lead_texts id (placed ∷ more) base leads texts h =
    by (leads_if_type id placed.rule) refl h (λ rest. lead_texts id more base leads texts.1 rest)
  where
    by : (here : Option Target) → leads_if_type id placed.rule ≡ here →
        first_of (option_map (λ (found : Target). (placed.base, found)) here) (leads_of_type id more) ≡ Some (base, leads) →
        (leads_of_type id more ≡ Some (base, leads) → IsUtf8 base × IsTextTarget leads) → IsUtf8 base × IsTextTarget leads
    by None is e rest = rest e
    by (Some found) is e rest =
        let both : (placed.base, found) ≡ (base, leads) = cc in
        let first : placed.base ≡ base = ap (λ (p : List ℕ × Target). p.0) both in
        let second : found ≡ leads = ap (λ (p : List ℕ × Target). p.1) both in
        (subst (λ b. IsUtf8 b) first texts.0.0, subst IsTextTarget second (rule_leads_text id placed.rule found texts.0.1 is))

-- ---- transformed URIs

pub made_there : (told : Option FileMap) (document base from to uri : List ℕ) (before after : ℕ)
    (result : Result (Option (List ℕ)) LocateFault) → IsMade document base from to uri → IsUtf8 uri →
    ThereAnswers told uri before after result → GivesTo told (λ files. TransformGives files document base from to) before after result
made_there told document base from to uri before after (Ok None) made is_text h =
    (tt, λ files is. not_there made.fits made.as_many made.joined (h.0 files is), h.1)
made_there told document base from to uri before after (Ok (Some found)) made is_text h = (
  subst (λ u. IsUtf8 u) (sym h.0) is_text,
  λ files is. subst (λ u. TransformGives files document base from to (schema u)) (sym h.0)
      (is_there made.fits made.as_many made.joined (h.1 files is)),
  h.2,
)
made_there told document base from to uri before after (Err Failed) made is_text h = h
made_there told document base from to uri before after (Err NoMemory) made is_text h = h
made_there told document base from to uri before after (Err (BadUri text)) made is_text h = absurd h
made_there told document base from to uri before after (Err (RulesAbsent other)) made is_text h = absurd h
made_there told document base from to uri before after (Err (RulesNotUtf8 other at)) made is_text h = absurd h
made_there told document base from to uri before after (Err (BadRules other)) made is_text h = absurd h
made_there told document base from to uri before after (Err (RulesLoop other)) made is_text h = absurd h

-- ---- all rules

-- the rules before these gave nothing, as far as files tell
pub record GaveNothing (told : Option FileMap) (asked : Question) (rest : List PlacedRule) : Type 0 where
  pub before : List PlacedRule
  pub rules_are : asked.rules ≡ before ++ rest
  pub nothing_before : IfTold told (λ files. AllByRecursion (λ (one : PlacedRule). Gives files asked one nothing) before)

pub gave_none : (told : Option FileMap) (asked : Question) → GaveNothing told asked asked.rules
gave_none told asked = record { before = []; rules_are = refl; nothing_before = λ files is. tt }

all_and_one : {A : Type 0} (P : A → Type 0) (xs : List A) (x : A) → AllByRecursion P xs → P x → AllByRecursion P (xs ++ x ∷ [])
all_and_one P [] x h p = (p, tt)
all_and_one P (y ∷ ys) x h p = (h.0, all_and_one P ys x h.1 p)

pub gave_more : (told : Option FileMap) (asked : Question) (rest more : List PlacedRule) (placed : PlacedRule) → GaveNothing told asked rest →
    rest ≡ placed ∷ more → IfTold told (λ files. Gives files asked placed nothing) → GaveNothing told asked more
gave_more told asked rest more placed gave is gives = record {
  before = gave.before ++ placed ∷ [];
  rules_are = gave.rules_are ∙ ap (λ rs. gave.before ++ rs) is ∙ sym (append_assoc gave.before (placed ∷ []) more);
  nothing_before =
      λ files told_is. all_and_one (λ (one : PlacedRule). Gives files asked one nothing) gave.before placed (gave.nothing_before files told_is)
      (gives files told_is);
}

first_gives : (told : Option FileMap) (asked : Question) (rest more : List PlacedRule) (placed : PlacedRule) (outcome : Outcome) →
    GaveNothing told asked rest → rest ≡ placed ∷ more → IfTold told (λ files. Gives files asked placed outcome) →
    IfTold told (λ files. FirstGives files asked outcome)
first_gives told asked rest more placed outcome gave is gives files told_is = record {
  before = gave.before;
  rule = placed;
  after = more;
  rules_are = gave.rules_are ∙ ap (λ rs. gave.before ++ rs) is;
  nothing_before = gave.nothing_before files told_is;
  gives = gives files told_is;
}

pub gave_schema : (told : Option FileMap) (asked : Question) (rest more : List PlacedRule) (placed : PlacedRule) (before after : ℕ)
    (uri : List ℕ) → GaveNothing told asked rest → rest ≡ placed ∷ more →
    GivesTo told (λ files. Gives files asked placed) before after (Ok (Some uri)) → GivesTo told (λ files. AllGive files asked) before after (Ok (Some uri))
gave_schema told asked rest more placed before after uri gave is h =
    (h.0, first_gives told asked rest more placed (schema uri) gave is h.1, h.2)

pub gave_fault : (told : Option FileMap) (asked : Question) (rest more : List PlacedRule) (placed : PlacedRule) (before after : ℕ)
    (fault : LocateFault) → GaveNothing told asked rest → rest ≡ placed ∷ more →
    GivesTo told (λ files. Gives files asked placed) before after (Err fault) → GivesTo told (λ files. AllGive files asked) before after (Err fault)
gave_fault told asked rest more placed before after (BadUri text) gave is h =
    (h.0, first_gives told asked rest more placed (bad text) gave is h.1, h.2)
gave_fault told asked rest more placed before after Failed gave is h = h
gave_fault told asked rest more placed before after NoMemory gave is h = h
gave_fault told asked rest more placed before after (RulesAbsent uri) gave is h = absurd h
gave_fault told asked rest more placed before after (RulesNotUtf8 uri at) gave is h = absurd h
gave_fault told asked rest more placed before after (BadRules uri) gave is h = absurd h
gave_fault told asked rest more placed before after (RulesLoop uri) gave is h = absurd h

pub gave_all : (told : Option FileMap) (asked : Question) (rest : List PlacedRule) → GaveNothing told asked rest → length rest ≡ 0 →
    IfTold told (λ files. AllGive files asked nothing)
gave_all told asked rest gave none files is = by rest none gave.rules_are
  where
    by : (xs : List PlacedRule) → length xs ≡ 0 → asked.rules ≡ gave.before ++ xs → AllGive files asked nothing
    by [] e h =
        subst (AllByRecursion (λ (one : PlacedRule). Gives files asked one nothing)) (sym (h ∙ append-nil gave.before))
        (gave.nothing_before files is)
    by (x ∷ xs) e h = absurd (omega (arith, e))

-- answers are alike for files that tell the same and count the same
pub gives_alike : (told other : Option FileMap) (gives : FileMap → Outcome → Type 0) (before earlier after : ℕ)
    (result : Result (Option (List ℕ)) LocateFault) → told ≡ other → before ≡ earlier → GivesTo told gives before after result →
    GivesTo other gives earlier after result
gives_alike told other gives before earlier after result same count h =
    subst (λ b. GivesTo other gives b after result) count (subst (λ t. GivesTo t gives before after result) same h)

-- ---- parts of a rule on the URI

-- the refusal of a `resource`
pub resource_refused : (rules : List PlacedRule) (document base : List ℕ) (resource pattern : Option (List ℕ)) (leads : Target)
    (fault : LocateFault) → ResourceAnswers base document resource (Err fault) → Answers (UriGives rules document base resource pattern leads) (Err fault)
resource_refused rules document base resource pattern leads (BadUri text) h = (h.1, no_resource h.0 h.2)
resource_refused rules document base resource pattern leads NoMemory h = tt
resource_refused rules document base resource pattern leads (RulesAbsent uri) h = absurd h
resource_refused rules document base resource pattern leads (RulesNotUtf8 uri at) h = absurd h
resource_refused rules document base resource pattern leads (BadRules uri) h = absurd h
resource_refused rules document base resource pattern leads (RulesLoop uri) h = absurd h
resource_refused rules document base resource pattern leads Failed h = absurd h

pub by_resource_true : (rules : List PlacedRule) (document base : List ℕ) (resource pattern : Option (List ℕ)) (leads : Target) (b : Bool)
    (result : Result (Option (List ℕ)) LocateFault) → b ≡ true → ResourceAnswers base document resource (Ok b) →
    Answers (Leads rules [] base leads) result → Answers (UriGives rules document base resource pattern leads) result
by_resource_true rules document base resource pattern leads true result e h answers =
    answers_with (Leads rules [] base leads) (UriGives rules document base resource pattern leads) result
    (λ outcome l. by_resource h.1 h.2 l) answers
by_resource_true rules document base resource pattern leads false result e h answers = let never : ⊥ = cc in absurd never

elsewhere : (base document : List ℕ) (resource : Option (List ℕ)) (b : Bool) → b ≡ false → ResourceAnswers base document resource (Ok b) →
    IsElsewhere base document resource
elsewhere base document resource false e h = h
elsewhere base document resource true e h = let never : ⊥ = cc in absurd never

pub by_pattern_true : (rules : List PlacedRule) (document base : List ℕ) (resource pattern : Option (List ℕ)) (leads : Target) (b d : Bool)
    (result : Result (Option (List ℕ)) LocateFault) → b ≡ false → ResourceAnswers base document resource (Ok b) → d ≡ true →
    PatternAnswers base document pattern (Ok d) → Answers (Leads rules [] base leads) result →
    Answers (UriGives rules document base resource pattern leads) result
by_pattern_true rules document base resource pattern leads b true result e h f k answers =
    answers_with (Leads rules [] base leads) (UriGives rules document base resource pattern leads) result
    (λ outcome l. by_pattern (elsewhere base document resource b e h) k.2 k.3 l) answers
by_pattern_true rules document base resource pattern leads b false result e h f k answers = let never : ⊥ = cc in absurd never

pub by_neither_true : (rules : List PlacedRule) (document base : List ℕ) (resource pattern : Option (List ℕ)) (leads : Target) (b d : Bool) →
    b ≡ false → ResourceAnswers base document resource (Ok b) → d ≡ false → PatternAnswers base document pattern (Ok d) →
    UriGives rules document base resource pattern leads nothing
by_neither_true rules document base resource pattern leads b false e h f k = by_neither (elsewhere base document resource b e h) k
by_neither_true rules document base resource pattern leads b true e h f k = let never : ⊥ = cc in absurd never

-- whether there are runs
pub pattern_told : (base document pattern : List ℕ) (found : Option (List (List ℕ))) → HasPatternRuns base document pattern found →
    PatternAnswers base document (Some pattern) (Ok (is_some found))
pattern_told base document pattern None h = h
pattern_told base document pattern (Some runs) h = (pattern, runs, refl, h)

-- ---- the rule that is next

all_there : {A : Type 0} (P : A → Type 0) (xs ys : List A) (x : A) → AllByRecursion P (xs ++ x ∷ ys) → P x
all_there P [] ys x h = h.0
all_there P (z ∷ xs) ys x h = all_there P xs ys x h.1

pub placed_text : (told : Option FileMap) (asked : Question) (rest more : List PlacedRule) (placed : PlacedRule) →
    AreTextPlaced asked.rules → GaveNothing told asked rest → rest ≡ placed ∷ more → IsTextPlaced placed
placed_text told asked rest more placed texts gave is =
    all_there IsTextPlaced gave.before more placed
    (subst AreTextPlaced (gave.rules_are ∙ ap (λ rs. gave.before ++ rs) is) texts)

pub gave_nothing : (told other : Option FileMap) (gives : FileMap → Outcome → Type 0) (before after : ℕ) (found : Option (List ℕ)) →
    is_some found ≡ false → told ≡ other → GivesTo told gives before after (Ok found) →
    IfTold other (λ files. gives files nothing) × (after ≡ before)
gave_nothing told other gives before after None none same h = (subst (λ t. IfTold t (λ files. gives files nothing)) same h.1, h.2)
gave_nothing told other gives before after (Some uri) none same h = let never : ⊥ = cc in absurd never
